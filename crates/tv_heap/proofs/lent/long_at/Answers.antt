use Rattle.std.proofs.Common.{◌≡◌, ◌-◌, length, drop, ◌∙◌, arith}
use Rattle.std.proofs.lemmas.List.{take_all, length-drop}
use Rattle.std.proofs.lemmas.Option.{same_Some, none-some}
use Rattle.std.proofs.Math.Seq.{drop-append_seam}
use Rattle.tv_base.specs.Number.{vnum}
use Rattle.tv_base.proofs.Numbers.{vnum_encodes}
use Rattle.tv_heap.proofs.lent.long_at.Goals as goal

pub returns-in-Some-clause-number : goal.returns-in-Some-clause-number
returns-in-Some-clause-number c = λ n rest h e.
    let bytes = c.args.bytes.now in
    let len = c.in-Some.len in
    let same = same_Some _ _ (c.in-Some.ensures.only n (vnum n) rest e (vnum_encodes n h)) in
    let is_len : len ≡ length (vnum n) = λ i. (same i).1 in
    let behind = (λ i. drop (is_len i) (e i)) ∙ drop-append_seam (vnum n) rest in
    ((λ i. (same i).0), take_all (length bytes - len) (drop len bytes) (omega (arith, length-drop len bytes)) ∙ behind)

pub returns-in-None-clause-number : goal.returns-in-None-clause-number
returns-in-None-clause-number c = λ n rest h e. absurd (none-some _ (c.in-None.ensures.only n (vnum n) rest e (vnum_encodes n h)))
