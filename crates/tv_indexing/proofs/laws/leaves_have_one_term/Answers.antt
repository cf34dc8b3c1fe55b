use Rattle.std.proofs.Common.{◌≡◌, ℕ, Bool, true, false, List, Option, Some, None, refl, sym, ◌∙◌}
use Rattle.tv_indexing.specs.LeafTerms.{HasTerm}
use Rattle.tv_term.specs.Key.{TermValue}
use Rattle.tv_indexing.proofs.laws.leaves_have_one_term.Goals as goal

one_term : (field : ℕ) (value : Option TermValue) (held also : List ℕ) (one other : Bool) → HasTerm field value held one → HasTerm field value also other → (one ≡ other) × (one ≡ true → held ≡ also)
one_term field (Some value) held also true true x y = (refl, λ told. x.1.bytes_are ∙ sym y.1.bytes_are)
one_term field (Some value) held also true false x y = absurd y
one_term field (Some value) held also false other x y = absurd x
one_term field None held also true other x y = absurd x
one_term field None held also false true x y = absurd y
one_term field None held also false false x y = (refl, λ told. absurd (cc))

pub returns : goal.returns
returns c = λ field value held also one other x y. one_term field value held also one other x y
