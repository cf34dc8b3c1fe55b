-- The terms of the wanted fields, one pair after the other.
use Rattle.std.proofs.Common.{◌≡◌, ℕ, Bool, true, false, if◌then◌else◌, List, [], ◌∷◌, Option, Some, None, Ok, refl, sym}
use Rattle.std.specs.Borrow.{Bor}
use Rattle.std.specs.List.{filter}
use Rattle.tv_field.specs.Entry.{Entry}
use Rattle.tv_format.specs.Tree.{Document, Tree}
use Rattle.tv_indexing.proofs.Following.{nothing_before}
use Rattle.tv_indexing.specs.DocumentTerms.{document_terms, followed_by, is_among, is_wanted, pair_terms, wanted_pair_terms, wanted_terms}
use Rattle.tv_value.specs.declared.field.Field.{Field}

pub one_pair : (schema : List Entry) (wanted : Option (Bor (List Field))) (pair : ℕ × Tree) (pairs : Document) → wanted_terms schema wanted (pair ∷ pairs) ≡ followed_by (wanted_pair_terms schema wanted pair) (wanted_terms schema wanted pairs)
one_pair schema None pair pairs = refl
one_pair schema (Some fields) pair pairs = by (is_wanted (Some fields) pair.0)
  where
    left : Document
    left = filter (λ one. is_among fields.now one.0) pairs

    by : (b : Bool) → document_terms schema (if b then pair ∷ left else left) ≡ followed_by (if b then pair_terms schema pair else Ok []) (document_terms schema left)
    by true = refl
    by false = sym (nothing_before (document_terms schema left))

pub no_pairs : (schema : List Entry) (wanted : Option (Bor (List Field))) → wanted_terms schema wanted [] ≡ Ok []
no_pairs schema None = refl
no_pairs schema (Some fields) = refl
