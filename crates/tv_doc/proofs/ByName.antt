-- Names that are put into a map with their values.
use Rattle.std.proofs.Common.{◌≡◌, ℕ, List, [], ◌∷◌, map, String, Global, Vec, string_bytes, string_cmp, Ordering, Less, Equal, Greater, refl, ◌∙◌}
use Rattle.std.specs.Borrow.{Bor}
use Rattle.std.specs.BTreeMap.{insert_entry}
use Rattle.std.specs.Cmp.Lexicographic.{slice_cmp}
use Rattle.std.specs.Ordering.{match_ordering, nat_cmp}
use Rattle.tv_value.specs.Owned.{owned_tree}
use Rattle.tv_format.specs.Tree.{Tree}
use Rattle.tv_value.specs.declared.field.Field.{Field}
use Rattle.tv_value.specs.declared.owned_value.OwnedValue.{OwnedValue}
use Rattle.tv_json.specs.Named.{named_trees}

abbrev pub named_pair : String Global × Vec OwnedValue Global → List ℕ × List Tree
named_pair e = (string_bytes e.0, map owned_tree e.1.items)

map-match_ordering : {A B : Type 0} (f : A → B) (o : Ordering) (a b c : List A) → map f (match_ordering o a b c) ≡ match_ordering o (map f a) (map f b) (map f c)
map-match_ordering f Less a b c = refl
map-match_ordering f Equal a b c = refl
map-match_ordering f Greater a b c = refl

pub lent-insert_entry : {V : Type 0} (tree : V → Tree) (es : List (Bor (List ℕ) × Bor (List (Field × V)))) (k : Bor (List ℕ)) (v : Bor (List (Field × V)))
    → map (named_trees tree) (insert_entry (λ x y. slice_cmp nat_cmp x.now y.now) es k v) ≡ insert_entry (slice_cmp nat_cmp) (map (named_trees tree) es) k.now (map (λ p. tree p.1) v.now)
lent-insert_entry tree [] k v = refl
lent-insert_entry tree (e ∷ es) k v = map-match_ordering (named_trees tree) (slice_cmp nat_cmp k.now e.0.now) _ _ _ ∙ rw (lent-insert_entry tree es k v)

pub owned-insert_entry : (es : List (String Global × Vec OwnedValue Global)) (k : String Global) (v : Vec OwnedValue Global)
    → map named_pair (insert_entry string_cmp es k v) ≡ insert_entry (slice_cmp nat_cmp) (map named_pair es) (string_bytes k) (map owned_tree v.items)
owned-insert_entry [] k v = refl
owned-insert_entry (e ∷ es) k v = map-match_ordering named_pair (string_cmp k e.0) _ _ _ ∙ rw (owned-insert_entry es k v)
