-- The calls for the parts of a value make what the value itself makes.
use Rattle.std.proofs.Common.{◌≡◌, ℕ, suc, ◌+◌, ◌<◌, nat_eq, List, [], ◌∷◌, ◌++◌, length, refl, ◌∙◌, ap, length-append, arith}
use Rattle.std.proofs.lemmas.Bool.{cond-false, ne_eqb, lt-ltb, le-ltb}
use Rattle.tv_format.specs.Tree.{Tree, leaf, text, array, object, Elements, no_elements, element, Entries, no_entries, entry, elements, entries, element_count, entry_count}
use Rattle.tv_builder.specs.declared.kinds.Awaits.TheVariants as awaits
use Rattle.tv_builder.specs.declared.kinds.ListKind.{ListKind}
use Rattle.tv_builder.specs.declared.kinds.ListKind.TheVariants.{Array, Object}
use Rattle.tv_builder.specs.Called.{parts_called, elements_called, entries_called}
use Rattle.tv_builder.specs.Kinds.{total}
use Rattle.tv_builder.specs.State.{OpenList, State, complete, in_lists, in_bytes, awaited, with_value, with_list, and_value, list_tree}
use Rattle.tv_builder.proofs.Giving.{value_waits, value_closes}
use Rattle.tv_builder.proofs.Putting.{flat_entries, flat_length, flat_tree, flat_push}

-- ---- children that came before others

abbrev with_elements : List Tree → Elements → Elements
with_elements [] ts = ts
with_elements (u ∷ us) ts = element u (with_elements us ts)

last_element : (us : List Tree) (t : Tree) → elements (us ++ t ∷ []) ≡ with_elements us (element t no_elements)
last_element [] t = refl
last_element (u ∷ us) t = ap (λ z. element u z) (last_element us t)

next_element : (us : List Tree) (t : Tree) (ts : Elements) → with_elements (us ++ t ∷ []) ts ≡ with_elements us (element t ts)
next_element [] t ts = refl
next_element (u ∷ us) t ts = ap (λ z. element u z) (next_element us t ts)

abbrev with_entries : List (List ℕ × Tree) → Entries → Entries
with_entries [] es = es
with_entries (d ∷ ds) es = entry d.0 d.1 (with_entries ds es)

last_entry : (ds : List (List ℕ × Tree)) (k : List ℕ) (t : Tree) → entries (ds ++ (k, t) ∷ []) ≡ with_entries ds (entry k t no_entries)
last_entry [] k t = refl
last_entry (d ∷ ds) k t = ap (λ z. entry d.0 d.1 z) (last_entry ds k t)

next_entry : (ds : List (List ℕ × Tree)) (k : List ℕ) (t : Tree) (es : Entries) → with_entries (ds ++ (k, t) ∷ []) es ≡ with_entries ds (entry k t es)
next_entry [] k t es = refl
next_entry (d ∷ ds) k t es = ap (λ z. entry d.0 d.1 z) (next_entry ds k t es)

-- ---- a list with these children

abbrev list_of : ListKind → ℕ → List Tree → OpenList
list_of kind n done = record { kind = kind; announced = n; children = done }

opens : (kind : ListKind) (n : ℕ) (ls : List OpenList) → 0 < n → with_list ls kind n ≡ in_lists (list_of kind n [] ∷ ls)
opens kind n ls some = cond-false (nat_eq n 0) _ _ (ne_eqb n 0 (λ e. omega (arith, e, some)))

mutual
  parts_are : (t : Tree) (ls : List OpenList) → parts_called (in_lists ls) t ≡ with_value ls t
  parts_are (leaf l) ls = refl
  parts_are (array no_elements) ls = refl
  parts_are (array (element t ts)) ls =
      let n = suc (element_count ts) in
      ap (λ s. elements_called s (element t ts)) (opens Array n ls (omega arith)) ∙ elements_come (element t ts) [] ls n (omega arith) (omega arith)
  parts_are (object no_entries) ls = refl
  parts_are (object (entry k t es)) ls =
      let n = suc (entry_count es) in
      ap (λ s. entries_called s (entry k t es)) (opens Object n ls (omega arith)) ∙ entries_come (entry k t es) [] ls n (omega arith) (omega arith)

  elements_come : (ts : Elements) (done : List Tree) (ls : List OpenList) (n : ℕ) → 0 < element_count ts → length done + element_count ts ≡ n
      → elements_called (in_lists (list_of Array n done ∷ ls)) ts ≡ with_value ls (array (with_elements done ts))
  elements_come no_elements done ls n some all = absurd (omega (arith, some))
  elements_come (element t no_elements) done ls n some all =
      parts_are t (list_of Array n done ∷ ls) ∙ value_closes (list_of Array n done) ls t (le-ltb (suc (length done)) n (omega (arith, all))) ∙ ap (λ z. with_value ls (array z)) (last_element done t)
  elements_come (element t (element u us)) done ls n some all =
      ap (λ s. elements_called s (element u us)) (parts_are t (list_of Array n done ∷ ls) ∙ value_waits (list_of Array n done) ls t (lt-ltb (suc (length done)) n (omega (arith, all)))) ∙
      elements_come (element u us) (done ++ t ∷ []) ls n (omega arith) (omega (arith, all, length-append done (t ∷ []))) ∙
      ap (λ z. with_value ls (array z)) (next_element done t (element u us))

  entries_come : (es : Entries) (done : List (List ℕ × Tree)) (ls : List OpenList) (n : ℕ) → 0 < entry_count es → length done + entry_count es ≡ n
      → entries_called (in_lists (list_of Object n (flat_entries done) ∷ ls)) es ≡ with_value ls (object (with_entries done es))
  entries_come no_entries done ls n some all = absurd (omega (arith, some))
  entries_come (entry k t no_entries) done ls n some all =
      let keyed = list_of Object n (flat_entries done ++ leaf (text k) ∷ []) in
      let counted = length-append (flat_entries done) (leaf (text k) ∷ []) in
      parts_are t (keyed ∷ ls) ∙ value_closes keyed ls t (le-ltb (suc (length keyed.children)) (total Object n) (omega (arith, all, counted, flat_length done))) ∙
      ap (λ z. with_value ls (list_tree Object z)) (flat_push done k t) ∙ ap (λ z. with_value ls z) (flat_tree (done ++ (k, t) ∷ [])) ∙ ap (λ z. with_value ls (object z)) (last_entry done k t)
  entries_come (entry k t (entry l u es)) done ls n some all =
      let keyed = list_of Object n (flat_entries done ++ leaf (text k) ∷ []) in
      let counted = length-append (flat_entries done) (leaf (text k) ∷ []) in
      ap (λ s. entries_called s (entry l u es)) (parts_are t (keyed ∷ ls) ∙ value_waits keyed ls t (lt-ltb (suc (length keyed.children)) (total Object n) (omega (arith, all, counted, flat_length done))) ∙
      ap (λ z. in_lists (list_of Object n z ∷ ls)) (flat_push done k t)) ∙
      entries_come (entry l u es) (done ++ (k, t) ∷ []) ls n (omega arith) (omega (arith, all, length-append done ((k, t) ∷ []))) ∙
      ap (λ z. with_value ls (object z)) (next_entry done k t (entry l u es))

-- where a value is awaited
pub parts_make_value : (s : State) (t : Tree) → awaited s ≡ awaits.Value → parts_called s t ≡ and_value s t
parts_make_value (in_lists ls) t await = parts_are t ls
parts_make_value (complete u) t await = absurd (cc)
parts_make_value (in_bytes ls kind n bs) t await = absurd (cc)
