-- The values made of a JSON value's items and members so far, before the rest.
use Rattle.std.proofs.Common.{◌≡◌, ℕ, List, [], ◌∷◌, ◌++◌, length, map, String, Global, string_bytes, refl, ap, ◌∙◌, sym, arith}
use Rattle.serde_json.specs.Data as json
use Rattle.serde_json.specs.Data.{Data, Items, Members}
use Rattle.tv_value.specs.JsonTree.{whole_tree, whole_elements, whole_entries}
use Rattle.tv_value.specs.Owned.{owned_tree, owned_entries}
use Rattle.tv_format.specs.Tree.{elements, Elements, no_elements, element, entries, Entries, no_entries, entry}
use Rattle.tv_value.specs.declared.owned_value.OwnedValue.{OwnedValue}

abbrev pub Member : Type 0
Member = String Global × OwnedValue

abbrev pub elements_before : List OwnedValue → Elements → Elements
elements_before [] rest = rest
elements_before (v ∷ vs) rest = element (owned_tree v) (elements_before vs rest)

abbrev pub entries_before : List Member → Entries → Entries
entries_before [] rest = rest
entries_before (m ∷ ms) rest = entry (string_bytes m.0) (owned_tree m.1) (entries_before ms rest)

pub elements_alone : (vs : List OwnedValue) → elements_before vs no_elements ≡ elements (map owned_tree vs)
elements_alone [] = refl
elements_alone (v ∷ vs) = ap (element (owned_tree v)) (elements_alone vs)

pub entries_alone : (ms : List Member) → entries_before ms no_entries ≡ entries (owned_entries ms)
entries_alone [] = refl
entries_alone (m ∷ ms) = ap (entry (string_bytes m.0) (owned_tree m.1)) (entries_alone ms)

elements_push : (vs : List OwnedValue) (v : OwnedValue) (rest : Elements) → elements_before vs (element (owned_tree v) rest) ≡ elements_before (vs ++ v ∷ []) rest
elements_push [] v rest = refl
elements_push (w ∷ vs) v rest = ap (element (owned_tree w)) (elements_push vs v rest)

entries_push : (ms : List Member) (m : Member) (rest : Entries) → entries_before ms (entry (string_bytes m.0) (owned_tree m.1) rest) ≡ entries_before (ms ++ m ∷ []) rest
entries_push [] m rest = refl
entries_push (n ∷ ms) m rest = ap (entry (string_bytes n.0) (owned_tree n.1)) (entries_push ms m rest)

-- one more goes to the end of those made
pub item_made : (vs : List OwnedValue) (v : OwnedValue) (d : Data) (ds : Items) → owned_tree v ≡ whole_tree d
    → elements_before vs (whole_elements (json.item d ds)) ≡ elements_before (vs ++ v ∷ []) (whole_elements ds)
item_made vs v d ds e = ap (λ t. elements_before vs (element t (whole_elements ds))) (sym e) ∙ elements_push vs v (whole_elements ds)

pub member_made : (ms : List Member) (m : Member) (k : List ℕ) (d : Data) (rest : Members) → string_bytes m.0 ≡ k → owned_tree m.1 ≡ whole_tree d
    → entries_before ms (whole_entries (json.member k d rest)) ≡ entries_before (ms ++ m ∷ []) (whole_entries rest)
member_made ms m k d rest named e =
    ap (λ (l : List ℕ). entries_before ms (entry l (whole_tree d) (whole_entries rest))) (sym named) ∙ ap (λ t. entries_before ms (entry (string_bytes m.0) t (whole_entries rest))) (sym e) ∙ entries_push ms m (whole_entries rest)

pub none_left : {A : Type 0} (xs : List A) → length xs ≡ 0 → xs ≡ []
none_left [] e = refl
none_left (x ∷ xs) e = absurd (omega arith)
