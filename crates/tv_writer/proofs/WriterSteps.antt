-- What is said of a list by its children.
use Rattle.std.proofs.Common.{◌≡◌, ℕ, suc, ◌<◌, ◌^◌, List, [], ◌∷◌, ◌++◌, map, length, refl, sym, ap, subst, ◌∙◌, append-nil}
use Rattle.tv_format.specs.Short.{short, short_elements, short_entries, short_key, IsValue, AreElements, AreEntries}
use Rattle.tv_format.specs.Tree.{Tree, leaf, array, object, Elements, no_elements, element, Entries, no_entries, entry, elements, entries, element_count, entry_count, element_list, entry_list}
use Rattle.tv_format.specs.Version.{Version}
use Rattle.tv_value.specs.Children.{Child, IsListOf, without_key, with_key}
use Rattle.tv_writer.specs.Children.{AreKeys, AreValues, HasHead, IsSingle, child_count, short_children, short_head}

-- ---- what is written

pub short_items : (v : Version) (ts : List Tree) → short_elements v (elements ts) ≡ short_children v (map without_key ts)
short_items v [] = refl
short_items v (t ∷ ts) = ap (λ z. short v t ++ z) (short_items v ts)

pub short_members : (v : Version) (es : List (List ℕ × Tree)) → short_entries v (entries es) ≡ short_children v (map with_key es)
short_members v [] = refl
short_members v (e ∷ es) = ap (λ z. short_key v e.0 ++ (short v e.1 ++ z)) (short_members v es)

elements_short : (v : Version) (ts : Elements) → short_elements v ts ≡ short_children v (map without_key (element_list ts))
elements_short v no_elements = refl
elements_short v (element t ts) = ap (λ z. short v t ++ z) (elements_short v ts)

entries_short : (v : Version) (es : Entries) → short_entries v es ≡ short_children v (map with_key (entry_list es))
entries_short v no_entries = refl
entries_short v (entry k t es) = ap (λ z. short_key v k ++ (short v t ++ z)) (entries_short v es)

-- a list is its head, and its children after it
pub list_short : (v : Version) (cs : List Child) (t : Tree) → IsListOf cs t → short v t ≡ short_head v t ++ short_children v cs
list_short v cs (leaf l) is = absurd is
list_short v cs (array ts) is = ap (λ z. short_head v (array ts) ++ z) (elements_short v ts ∙ ap (short_children v) (sym is))
list_short v cs (object es) is = ap (λ z. short_head v (object es) ++ z) (entries_short v es ∙ ap (short_children v) (sym is))

-- and another value is its head alone
pub single_short : (v : Version) (t : Tree) → IsSingle t → short v t ≡ short_head v t
single_short v (leaf l) is = refl
single_short v (array ts) is = absurd is
single_short v (object es) is = absurd is

-- whatever it is, its head comes first
pub head_first : (v : Version) (t : Tree) → (rest : List ℕ) × (short v t ≡ short_head v t ++ rest)
head_first v (leaf l) = ([], sym (append-nil (short v (leaf l))))
head_first v (array ts) = (short_elements v ts, refl)
head_first v (object es) = (short_entries v es, refl)

-- ---- what has an encoding

elements_valid : (ts : Elements) → (AreElements ts → AreKeys (map without_key (element_list ts)) × AreValues (map without_key (element_list ts))) × (AreValues (map without_key (element_list ts)) → AreElements ts)
elements_valid no_elements = (λ h. (tt, tt), λ h. tt)
elements_valid (element t ts) = let r = elements_valid ts in (λ h. let k = r.0 h.1 in ((tt, k.0), (h.0, k.1)), λ h. (h.0, r.1 h.1))

entries_valid : (es : Entries) → (AreEntries es → AreKeys (map with_key (entry_list es)) × AreValues (map with_key (entry_list es))) × (AreKeys (map with_key (entry_list es)) → AreValues (map with_key (entry_list es)) → AreEntries es)
entries_valid no_entries = (λ h. (tt, tt), λ k h. tt)
entries_valid (entry k t es) = let r = entries_valid es in (λ h. let v = r.0 h.2 in ((h.0, v.0), (h.1, v.1)), λ ks h. (ks.0, h.0, r.1 ks.1 h.1))

elements_counted : (ts : Elements) → element_count ts ≡ length (map without_key (element_list ts))
elements_counted no_elements = refl
elements_counted (element t ts) = ap suc (elements_counted ts)

entries_counted : (es : Entries) → entry_count es ≡ length (map with_key (entry_list es))
entries_counted no_entries = refl
entries_counted (entry k t es) = ap suc (entries_counted es)

pub list_counted : (cs : List Child) (t : Tree) → IsListOf cs t → child_count t ≡ length cs
list_counted cs (leaf l) is = absurd is
list_counted cs (array ts) is = elements_counted ts ∙ ap length (sym is)
list_counted cs (object es) is = entries_counted es ∙ ap length (sym is)

pub list_fits : (cs : List Child) (t : Tree) → IsListOf cs t → IsValue t → length cs < 2 ^ 63
list_fits cs (leaf l) is h = absurd is
list_fits cs (array ts) is h = subst (λ n. n < 2 ^ 63) (list_counted cs (array ts) is) h.0
list_fits cs (object es) is h = subst (λ n. n < 2 ^ 63) (list_counted cs (object es) is) h.0

pub list_parts : (cs : List Child) (t : Tree) → IsListOf cs t → IsValue t → AreKeys cs × AreValues cs
list_parts cs (leaf l) is h = absurd is
list_parts cs (array ts) is h = subst (λ z. AreKeys z × AreValues z) (sym is) ((elements_valid ts).0 h.1)
list_parts cs (object es) is h = subst (λ z. AreKeys z × AreValues z) (sym is) ((entries_valid es).0 h.1)

pub list_valid : (cs : List Child) (t : Tree) → IsListOf cs t → AreKeys cs → AreValues cs → length cs < 2 ^ 63 → IsValue t
list_valid cs (leaf l) is k v h = absurd is
list_valid cs (array ts) is k v h = (subst (λ n. n < 2 ^ 63) (sym (list_counted cs (array ts) is)) h, (elements_valid ts).1 (subst AreValues is v))
list_valid cs (object es) is k v h = (subst (λ n. n < 2 ^ 63) (sym (list_counted cs (object es) is)) h, (entries_valid es).1 (subst AreKeys is k) (subst AreValues is v))

-- ---- what has one but for its children

keyless : (ts : List Tree) → AreKeys (map without_key ts)
keyless [] = tt
keyless (t ∷ ts) = (tt, keyless ts)

pub head_parts : (cs : List Child) (t : Tree) → IsListOf cs t → HasHead t → AreKeys cs × (length cs < 2 ^ 63)
head_parts cs (leaf l) is h = absurd is
head_parts cs (array ts) is h = (subst AreKeys (sym is) (keyless (element_list ts)), subst (λ n. n < 2 ^ 63) (list_counted cs (array ts) is) h)
head_parts cs (object es) is h = (subst AreKeys (sym is) h.1, subst (λ n. n < 2 ^ 63) (list_counted cs (object es) is) h.0)

pub has_head : (cs : List Child) (t : Tree) → IsListOf cs t → AreKeys cs → length cs < 2 ^ 63 → HasHead t
has_head cs (leaf l) is k h = absurd is
has_head cs (array ts) is k h = subst (λ n. n < 2 ^ 63) (sym (list_counted cs (array ts) is)) h
has_head cs (object es) is k h = (subst (λ n. n < 2 ^ 63) (sym (list_counted cs (object es) is)) h, subst AreKeys is k)

pub value_has_head : (t : Tree) → IsValue t → HasHead t
value_has_head (leaf l) h = h
value_has_head (array ts) h = h.0
value_has_head (object es) h = (h.0, ((entries_valid es).0 h.1).0)

pub list_value : (cs : List Child) (t : Tree) → IsListOf cs t → HasHead t → AreValues cs → IsValue t
list_value cs t is h values = let p = head_parts cs t is h in list_valid cs t is p.0 values p.1

pub single_value : (t : Tree) → IsSingle t → HasHead t → IsValue t
single_value (leaf l) is h = h
single_value (array ts) is h = absurd is
single_value (object es) is h = absurd is
