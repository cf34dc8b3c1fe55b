use Rattle.std.proofs.Common.{◌≡◌, Bool, true, false, refl, ap, subst}
use Rattle.std.specs.Prelude.{string_bytes}
use Rattle.std.specs.Str.{IsUtf8}
use Rattle.std.proofs.lemmas.Str.{IsUtf8-string_bytes, is_utf8-from_IsUtf8, IsUtf8-from_is_utf8}
use Rattle.tv_base.proofs.take.text_of.Goals as goal

is_false : (b : Bool) → (b ≡ true → ⊥) → b ≡ false
is_false true h = absurd (h refl)
is_false false h = refl

impossible : false ≡ true → ⊥
impossible e = absurd cc

pub returns-in-Ok-clause-ok : goal.returns-in-Ok-clause-ok
returns-in-Ok-clause-ok c =
    let e : string_bytes c.in-Ok.text ≡ c.args.bytes.items = ap (λ v. v.items) c.in-Ok.ensures.ok in
    (is_utf8-from_IsUtf8 _ (subst IsUtf8 e (IsUtf8-string_bytes c.in-Ok.text)), e)

pub returns-clause-err : goal.returns-clause-err
returns-clause-err c = (is_false _ (λ e. impossible (c.in-Err.ensures.succeeds (IsUtf8-from_is_utf8 _ e))), refl)
