-- Two reads of the same bytes agree.
use Rattle.std.proofs.Common.{◌≡◌, ℕ, List, ◌++◌, string_bytes, refl, sym, ap, subst, ◌∙◌}
use Rattle.std.specs.List.{AllZip}
use Rattle.std.proofs.lemmas.List.{append_cancel_left}
use Rattle.tv_format.specs.Tree.{Tree, array, object, elements, element_count, entries, entry_count}
use Rattle.tv_format.proofs.Lists.{elements-length, entries-length}
use Rattle.tv_format.proofs.Trees.{agree_elements, agree_entries, one_tree, one_pair}
use Rattle.tv_reader.specs.Legacy.{Legacy}
use Rattle.tv_reader.proofs.UniqueLegacy.{one_legacy}
use Rattle.tv_typed.specs.Determined.{AgreeIn, EntriesAgree, FieldsAgree, ListsAgree, ObjectsAgree, ValuesAgree}
use Rattle.tv_typed.specs.ExcludingLists.{one_entry}
use Rattle.tv_typed.specs.Lists.{ArrayOf, IsEntry, ObjectOf}
use Rattle.tv_typed.proofs.ItemSteps.{entries_of, trees_of}

agree : {X : Type 0} (is : Tree → X → Type 0) (x y : X) (t u : Tree) (a b rest other : List ℕ) → a ≡ b → t ≡ u → a ++ rest ≡ b ++ other → is t x → is u y → AgreeIn is x y rest other
agree is x y t u a b rest other same one joined p q = record { tree = u; of_first = subst (λ z. is z x) one p; of_second = q; same_rest = append_cancel_left b rest other (ap (λ (l : List ℕ). l ++ rest) (sym same) ∙ joined) }

pub values_agree : {X : Type 0} (is : Tree → X → Type 0) → ValuesAgree is
values_agree is v bytes rest other x y p q =
    let joined = sym p.joined ∙ q.joined in
    let one = one_tree Legacy v one_legacy p.prefix q.prefix rest other p.encoded.0 q.encoded.0 p.encoded.1 q.encoded.1 joined in
    agree is x y p.encoded.0 q.encoded.0 p.prefix q.prefix rest other one.0 one.1 joined p.encoded.2 q.encoded.2

pub entries_agree : {X : Type 0} (is : Tree → X → Type 0) → EntriesAgree is
entries_agree is v bytes rest other x y p q =
    let joined = sym p.joined ∙ q.joined in
    let s = p.encoded in
    let r = q.encoded in
    let one = one_entry v p.prefix q.prefix rest other (string_bytes x.0, s.second.0) (string_bytes y.0, r.second.0)
    (record { prefix = s.prefix; rest = s.rest; joined = s.joined; first = s.first; second = s.second.1 })
    (record { prefix = r.prefix; rest = r.rest; joined = r.joined; first = r.first; second = r.second.1 }) joined in
    (ap (λ i. i.0) one.1, agree is x.1 y.1 s.second.0 r.second.0 p.prefix q.prefix rest other one.0 (ap (λ i. i.1) one.1) joined s.second.2 r.second.2)

pub fields_agree : {X : Type 0} (is : Tree → X → Type 0) → FieldsAgree is
fields_agree is v bytes rest other x y p q =
    let joined = sym p.joined ∙ q.joined in
    let s = p.encoded in
    let r = q.encoded in
    let one = one_pair Legacy v one_legacy p.prefix q.prefix rest other (x.0.id, s.second.0) (y.0.id, r.second.0)
    (record { prefix = s.prefix; rest = s.rest; joined = s.joined; first = s.first; second = s.second.1 })
    (record { prefix = r.prefix; rest = r.rest; joined = r.joined; first = r.first; second = r.second.1 }) joined in
    (ap (λ i. i.0) one.1, agree is x.1 y.1 s.second.0 r.second.0 p.prefix q.prefix rest other one.0 (ap (λ i. i.1) one.1) joined s.second.2 r.second.2)

-- ---- lists

pub lists_agree : {X : Type 0} (is : Tree → X → Type 0) → ListsAgree is
lists_agree is v count bytes rest other x y p q =
    let joined = sym p.joined ∙ q.joined in
    let s = p.encoded in
    let r = q.encoded in
    let t = trees_of is v p.prefix s.0 s.3 in
    let u = trees_of is v q.prefix r.0 r.3 in
    let many : element_count (elements t.0) ≡ element_count (elements u.0) = elements-length t.0 ∙ t.2 ∙ s.2 ∙ sym r.2 ∙ sym u.2 ∙ sym (elements-length u.0) in
    let one = (agree_elements Legacy v one_legacy (elements t.0) (elements u.0) many).agree p.prefix q.prefix rest other t.3 u.3 joined in
    agree (λ t list. ArrayOf is t list.items) x y (array (elements t.0)) (array (elements u.0)) p.prefix q.prefix rest other one.0 (ap array one.1) joined
    (record { trees = t.0; whole = refl; each = subst (AllZip is t.0) (sym s.1) t.1 })
    (record { trees = u.0; whole = refl; each = subst (AllZip is u.0) (sym r.1) u.1 })

pub objects_agree : {X : Type 0} (is : Tree → X → Type 0) → ObjectsAgree is
objects_agree is v count bytes rest other x y p q =
    let joined = sym p.joined ∙ q.joined in
    let s = p.encoded in
    let r = q.encoded in
    let t = entries_of is v p.prefix s.0 s.3 in
    let u = entries_of is v q.prefix r.0 r.3 in
    let many : entry_count (entries t.0) ≡ entry_count (entries u.0) = entries-length t.0 ∙ t.2 ∙ s.2 ∙ sym r.2 ∙ sym u.2 ∙ sym (entries-length u.0) in
    let one = (agree_entries Legacy v one_legacy (entries t.0) (entries u.0) many).agree p.prefix q.prefix rest other t.3 u.3 joined in
    agree (λ t list. ObjectOf is t list.items) x y (object (entries t.0)) (object (entries u.0)) p.prefix q.prefix rest other one.0 (ap object one.1) joined
    (record { trees = t.0; whole = refl; each = subst (AllZip (IsEntry is) t.0) (sym s.1) t.1 })
    (record { trees = u.0; whole = refl; each = subst (AllZip (IsEntry is) u.0) (sym r.1) u.1 })
