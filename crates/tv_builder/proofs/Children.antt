-- The finished children of a list: their parts and their bytes.
use Rattle.std.proofs.Common.{◌≡◌, ℕ, ◌+◌, ◌*◌, ◌%◌, ◌^◌, ◌<◌, ◌≤◌, List, [], ◌∷◌, ◌++◌, length, map, refl, sym, ap, subst, length-append, arith}
use Rattle.std.proofs.lemmas.List.{map-append}
use Rattle.tv_base.specs.Number.{vnum}
use Rattle.tv_base.specs.Parts.{short_sized}
use Rattle.tv_format.specs.Tree.{Tree, leaf, text, array, object, elements, entries}
use Rattle.tv_heap.specs.Reads.{Stands, ShortText, ReadsTree, ReadsElements, ReadsEntries}
use Rattle.tv_heap.specs.TypeCode.{type_code}
use Rattle.tv_heap.proofs.Grown.{grown_elements, grown_entries}
use Rattle.tv_heap.proofs.Writes.{at_end, longer, sized_some}
use Rattle.tv_builder.specs.declared.kinds.ListKind.{ListKind}
use Rattle.tv_builder.specs.declared.kinds.ListKind.TheVariants.{Array, Object}
use Rattle.tv_builder.specs.Kinds.{list_type, total}
use Rattle.tv_builder.specs.Parts.{value, key, array_head, object_head, entry_parts, Rule, full_array, full_object}
use Rattle.tv_builder.specs.Shows.{Placed}
use Rattle.tv_builder.specs.State.{key_text, pairs_of, list_tree, IsKeyLeaf, StartsWithKey, StartsWithValue, AreChildren, IsValueNext, IsKeyNext, key_parts, value_parts, list_head, children_parts}

-- ---- parts

mutual
  entries_value : (ts : List Tree) (t : Tree) → length ts % 2 ≡ 1 → StartsWithKey ts → StartsWithKey (ts ++ t ∷ []) × (key_parts (ts ++ t ∷ []) ≡ key_parts ts ++ value t ∷ [])
  entries_value [] t odd h = absurd (omega (arith, odd))
  entries_value (k ∷ ts) t odd h = let r = values_value ts t (omega (arith, odd)) h.1 in ((h.0, r.0), ap (λ z. key (key_text k) ∷ z) r.1)

  values_value : (ts : List Tree) (t : Tree) → length ts % 2 ≡ 0 → StartsWithValue ts → StartsWithValue (ts ++ t ∷ []) × (value_parts (ts ++ t ∷ []) ≡ value_parts ts ++ value t ∷ [])
  values_value [] t even h = (tt, refl)
  values_value (u ∷ ts) t even h = let r = entries_value ts t (omega (arith, even)) h in (r.0, ap (λ z. value u ∷ z) r.1)

mutual
  entries_key : (ts : List Tree) (k : Tree) → length ts % 2 ≡ 0 → IsKeyLeaf k → StartsWithKey ts → StartsWithKey (ts ++ k ∷ []) × (key_parts (ts ++ k ∷ []) ≡ key_parts ts ++ key (key_text k) ∷ [])
  entries_key [] k even is h = ((is, tt), refl)
  entries_key (l ∷ ts) k even is h = let r = values_key ts k (omega (arith, even)) is h.1 in ((h.0, r.0), ap (λ z. key (key_text l) ∷ z) r.1)

  values_key : (ts : List Tree) (k : Tree) → length ts % 2 ≡ 1 → IsKeyLeaf k → StartsWithValue ts → StartsWithValue (ts ++ k ∷ []) × (value_parts (ts ++ k ∷ []) ≡ value_parts ts ++ key (key_text k) ∷ [])
  values_key [] k odd is h = absurd (omega (arith, odd))
  values_key (u ∷ ts) k odd is h = let r = entries_key ts k (omega (arith, odd)) is h in (r.0, ap (λ z. value u ∷ z) r.1)

-- one value more
pub child_value : (kind : ListKind) (ts : List Tree) (t : Tree) → IsValueNext kind (length ts) → AreChildren kind ts
    → AreChildren kind (ts ++ t ∷ []) × (children_parts kind (ts ++ t ∷ []) ≡ children_parts kind ts ++ value t ∷ [])
child_value Array ts t next h = (tt, map-append value ts (t ∷ []))
child_value Object ts t next h = entries_value ts t next h

-- one key more
pub child_key : (kind : ListKind) (ts : List Tree) (k : Tree) → IsKeyNext kind (length ts) → IsKeyLeaf k → AreChildren kind ts
    → AreChildren kind (ts ++ k ∷ []) × (children_parts kind (ts ++ k ∷ []) ≡ children_parts kind ts ++ key (key_text k) ∷ [])
child_key Array ts k next is h = absurd next
child_key Object ts k next is h = entries_key ts k next is h

-- after a key its value is awaited
pub key_lacks : (kind : ListKind) (n m : ℕ) → IsKeyNext kind m → m < total kind n → (m + 1 < total kind n) × IsValueNext kind (m + 1)
key_lacks Array n m next h = absurd next
key_lacks Object n m next h = (omega (arith, next, h), omega (arith, next))

pairs_parts : (ts : List Tree) → length ts % 2 ≡ 0 → key_parts ts ≡ entry_parts (pairs_of ts)
pairs_parts [] even = refl
pairs_parts (k ∷ []) even = absurd (omega (arith, even))
pairs_parts (k ∷ t ∷ ts) even = ap (λ z. key (key_text k) ∷ value t ∷ z) (pairs_parts ts (omega (arith, even)))

pairs_half : (ts : List Tree) → length ts % 2 ≡ 0 → 2 * length (pairs_of ts) ≡ length ts
pairs_half [] even = refl
pairs_half (k ∷ []) even = absurd (omega (arith, even))
pairs_half (k ∷ t ∷ ts) even = omega (arith, pairs_half ts (omega (arith, even)))

-- a list that lacks nothing is a value
pub full_list : (kind : ListKind) (n : ℕ) (ts : List Tree) → length ts ≡ total kind n → Rule (list_head kind n ∷ children_parts kind ts) (value (list_tree kind ts) ∷ [])
full_list Array n ts e = subst (λ m. Rule (array_head m ∷ map value ts) (value (array (elements ts)) ∷ [])) e (full_array ts)
full_list Object n ts e =
    let even : length ts % 2 ≡ 0 = omega (arith, e) in
    let half : length (pairs_of ts) ≡ n = omega (arith, e, pairs_half ts even) in
    subst (λ z. Rule (object_head n ∷ z) (value (object (entries (pairs_of ts))) ∷ [])) (sym (pairs_parts ts even))
    (subst (λ m. Rule (object_head m ∷ entry_parts (pairs_of ts)) (value (object (entries (pairs_of ts))) ∷ [])) half (full_object (pairs_of ts)))

-- ---- bytes

key_reads : (heap : List ℕ) (code at : ℕ) (k : Tree) → IsKeyLeaf k → ReadsTree heap code at k → (code ≡ 1) × Stands heap at (λ w. ShortText (key_text k) w)
key_reads heap code at (leaf (text content)) h r = r
key_reads heap code at _ h r = absurd h

-- the children of an object, read as values, are its entries
entries_read : (heap : List ℕ) (parent : ℕ) (own : List ℕ) (ts : List Tree) → length ts % 2 ≡ 0 → StartsWithKey ts → ReadsElements heap parent own (elements ts) → ReadsEntries heap parent own (entries (pairs_of ts))
entries_read heap parent own [] even are h = h
entries_read heap parent own (k ∷ []) even are h = absurd (omega (arith, even))
entries_read heap parent own (k ∷ t ∷ ts) even are h = record {
  code = h.code;
  at = h.at;
  rest = h.rest;
  joined = h.joined;
  fits = h.fits;
  below = h.below;
  reads = key_reads heap h.code h.at k are.0 h.reads;
  others = record {
    code = h.others.code;
    at = h.others.at;
    rest = h.others.rest;
    joined = h.others.joined;
    fits = h.others.fits;
    below = h.others.below;
    reads = h.others.reads;
    others = entries_read heap parent h.others.rest ts (omega (arith, even)) are.1 h.others.others;
  };
}

-- the bytes of a list take one at least for each child
pub elements_bytes : (heap : List ℕ) (parent : ℕ) (own : List ℕ) (ts : List Tree) → ReadsElements heap parent own (elements ts) → length ts ≤ length own
elements_bytes heap parent own [] h = omega arith
elements_bytes heap parent own (t ∷ ts) h =
    omega (arith, elements_bytes heap parent h.rest ts h.others, ap length h.joined, length-append (vnum h.at) h.rest)

list_reads : (kind : ListKind) (n : ℕ) (heap new own : List ℕ) (ts : List Tree) → length ts ≡ total kind n → AreChildren kind ts → ReadsElements heap (length heap) own (elements ts)
    → new ≡ heap ++ short_sized own → length own < 2 ^ 32 → ReadsTree new (type_code (list_type kind)) (length heap) (list_tree kind ts)
list_reads Array n heap new own ts full are h e small = (
  refl,
  record {
    list = own;
    stands = at_end heap new _ _ e (record { is = refl; fits = small });
    children = grown_elements heap new _ (length heap) (length heap) _ _ e (omega arith) h;
  },
)
list_reads Object n heap new own ts full are h e small = (
  refl,
  record {
    list = own;
    stands = at_end heap new _ _ e (record { is = refl; fits = small });
    children = grown_entries heap new _ (length heap) (length heap) _ _ e (omega arith) (entries_read heap (length heap) own ts (omega (arith, full)) are h);
  },
)

own_small : (heap new own : List ℕ) → new ≡ heap ++ short_sized own → length new ≤ 4294967295 → length own < 2 ^ 32
own_small heap new own e fits = omega (arith, longer heap new _ e, length-append (vnum (length own)) own, fits)

pub list_placed : (kind : ListKind) (n : ℕ) (heap new own : List ℕ) (ts : List Tree) → length ts ≡ total kind n → AreChildren kind ts → ReadsElements heap (length heap) own (elements ts)
    → new ≡ heap ++ short_sized own → length new ≤ 4294967295 → Placed new (record { value_type = list_type kind; address = length heap }) (list_tree kind ts)
list_placed kind n heap new own ts full are h e fits =
    let small = own_small heap new own e fits in
    record {
      reads = list_reads kind n heap new own ts full are h e small;
      below = λ x y. omega (arith, longer heap new _ e, sized_some own small);
      fits = omega (arith, longer heap new _ e, fits);
    }
