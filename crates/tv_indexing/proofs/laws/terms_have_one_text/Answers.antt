use Rattle.std.proofs.Common.{◌≡◌, ℕ, List, Option, Some, None, refl, sym, ◌∙◌}
use Rattle.tv_indexing.specs.TermText.{IsTextOf}
use Rattle.tv_indexing.proofs.laws.terms_have_one_text.Goals as goal

one_text : (bytes : List ℕ) (one other : Option (List ℕ)) → IsTextOf bytes one → IsTextOf bytes other → one ≡ other
one_text bytes None None x y = refl
one_text bytes (Some text) other x y = let t = x.of_term refl in x.of_value t.0 t.1 t.2 ∙ sym (y.of_value t.0 t.1 t.2)
one_text bytes None (Some text) x y = let t = y.of_term refl in x.of_value t.0 t.1 t.2 ∙ sym (y.of_value t.0 t.1 t.2)

pub returns : goal.returns
returns c = λ bytes one other x y. one_text bytes one other x y
