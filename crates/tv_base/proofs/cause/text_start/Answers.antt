use Rattle.std.proofs.Common.{◌≡◌, ◌^◌, ◌<◌, ◌==◌, false, if◌then◌else◌, ℕ, List, ◌++◌, ◌-◌, ap, ◌∙◌, arith, append-nil}
use Rattle.std.proofs.lemmas.Result.{IfOk-weaker}
use Rattle.std.proofs.lemmas.Bool.{ne_eqb}
use Rattle.std.specs.Fmt.{take_chars, padded, styled_text, format_spec, char_count, fill_text}
use Rattle.tv_base.proofs.cause.text_start.Goals as goal

-- a text that is cut and not filled up
cut : (most : ℕ) (text : List ℕ) → padded (format_spec 32 0 0 0 most) text ≡ take_chars most text
unfolding padded
cut most text =
    let none : 0 - char_count (take_chars most text) - 0 ≡ 0 = omega arith in
    ap (λ n. take_chars most text ++ fill_text (format_spec 32 0 0 0 most) n) none ∙ append-nil (take_chars most text)

-- no precision that is set is the greatest number
is_cut : (most : ℕ) (text : List ℕ) → most < 2 ^ 8 → styled_text (format_spec 32 0 0 0 most) text ≡ take_chars most text
is_cut most text small =
    let set : (most == 2 ^ 64 - 1) ≡ false = ne_eqb most (2 ^ 64 - 1) (λ h. omega arith) in
    ap (λ b. if b then text else padded (format_spec 32 0 0 0 most) text) set ∙ cut most text

pub returns : goal.returns
returns c =
    let h = c.format.ensures.ok in
    IfOk-weaker c.format.result _ _ (λ s is. is ∙ ap (λ spec. styled_text spec c.args.text.now) c.laid_out.ensures ∙ is_cut c.args.most c.args.text.now c.ranges.most.fits) h
