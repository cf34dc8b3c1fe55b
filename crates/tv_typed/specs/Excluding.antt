-- Where a value is refused, no prefix of its bytes encodes a tree of which one is read.
use Rattle.std.specs.Prelude.{◌≡◌, ℕ, List, ◌∷◌, ◌++◌}
use Rattle.std.proofs.Common.{refl, sym, ap, subst, ◌∙◌, append_assoc, inl, inr}
use Rattle.tv_reader.specs.Legacy.{Legacy, ErrorInLegacy}
use Rattle.tv_reader.proofs.UniqueLegacy.{one_legacy, legacy_excludes}
use Rattle.tv_format.specs.InputError.{Refusal}
use Rattle.tv_format.specs.Leaves.{type_of}
use Rattle.tv_format.specs.Encoding.{Encodes, EncodesElements, EncodesEntries, NoLegacy}
use Rattle.tv_format.specs.Tree.{Leaf, tokenized, Tree, leaf, array, object, Elements, no_elements, element}
use Rattle.tv_format.specs.Tree.{Entries, no_entries, entry}
use Rattle.tv_format.specs.Version.{Version}
use Rattle.tv_format.proofs.ExcludingTrees.{value_excludes}
use Rattle.tv_reader.specs.Trees.{NoValue}
use Rattle.tv_reader.specs.ValueType.{of_leaf, type_prefix}
use Rattle.tv_reader.specs.declared.error.DeserializeError.{DeserializeError}
use Rattle.tv_reader.specs.declared.value_type.ValueType.{ValueType}
use Rattle.tv_reader.specs.declared.value_type.ValueType.TheVariants as types
use Rattle.tv_reader.proofs.AgreeKinds.{same_coded}
use Rattle.tv_reader.proofs.BehindKinds.{code_value}
use Rattle.tv_typed.specs.Values.{CodeRefused, in_code, IsLeafOf, LeafRefused, other_type, in_body}
use Rattle.tv_typed.specs.Values.{TreeRefused, NextRefused, RefusalsExclude}

-- ---- trees

-- what is encoded without legacy objects is encoded
mutual
  pub with_legacy : (v : Version) (t : Tree) (b : List ℕ) → Encodes NoLegacy v b t → Encodes Legacy v b t
  with_legacy v (leaf l) b p = p
  with_legacy v (array ts) b p =
      let s = p.encoded in
      record {
        body = p.body;
        joined = p.joined;
        encoded = record {
          prefix = s.prefix;
          rest = s.rest;
          joined = s.joined;
          first = s.first;
          second = elements_with_legacy v ts s.rest s.second;
        };
      }
  with_legacy v (object es) b (inl p) =
      let s = p.encoded in
      inl (record {
        body = p.body;
        joined = p.joined;
        encoded = record {
          prefix = s.prefix;
          rest = s.rest;
          joined = s.joined;
          first = s.first;
          second = entries_with_legacy v es s.rest s.second;
        };
      })
  with_legacy v (object es) b (inr p) = absurd p.encoded

  elements_with_legacy : (v : Version) (ts : Elements) (b : List ℕ) → EncodesElements NoLegacy v b ts
      → EncodesElements Legacy v b ts
  elements_with_legacy version no_elements b p = p
  elements_with_legacy version (element t ts) b p =
      record {
        prefix = p.prefix;
        rest = p.rest;
        joined = p.joined;
        first = with_legacy version t p.prefix p.first;
        second = elements_with_legacy version ts p.rest p.second;
      }

  entries_with_legacy : (v : Version) (es : Entries) (b : List ℕ) → EncodesEntries NoLegacy v b es
      → EncodesEntries Legacy v b es
  entries_with_legacy version no_entries b p = p
  entries_with_legacy version (entry k t es) b p =
      let s = p.second in
      record {
        prefix = p.prefix;
        rest = p.rest;
        joined = p.joined;
        first = p.first;
        second = record {
          prefix = s.prefix;
          rest = s.rest;
          joined = s.joined;
          first = with_legacy version t s.prefix s.first;
          second = entries_with_legacy version es s.rest s.second;
        };
      }

-- malformed bytes, whatever stands after a prefix of them
pub malformed : (v : Version) (prefix rest : List ℕ) (r : Refusal) (t : Tree) → NoValue v (prefix ++ rest) r
    → Encodes NoLegacy v prefix t → ⊥
malformed version prefix rest refusal tree f p =
    value_excludes Legacy ErrorInLegacy version one_legacy legacy_excludes f tree prefix rest
    (with_legacy version tree prefix p) refl

-- the same after the code of a type
pub malformed_behind : (v : Version) (kind : ValueType) (prefix rest : List ℕ) (r : Refusal) (t : Tree)
    → NoValue v (type_prefix kind ++ (prefix ++ rest)) r → Encodes NoLegacy v (type_prefix kind ++ prefix) t
    → ⊥
malformed_behind version kind prefix rest refusal tree f p =
    malformed version (type_prefix kind ++ prefix) rest refusal tree
    (subst (λ w. NoValue version w refusal) (sym (append_assoc (type_prefix kind) prefix rest)) f) p

pub tree_excludes : {X : Type 0} (is : Tree → X → Type 0) → RefusalsExclude is TreeRefused
tree_excludes is v kind prefix rest e t x r p same = malformed_behind v kind prefix rest r.refusal t r.error p

-- ---- leaves

-- the type of a leaf
abbrev pub type_of_leaf : Leaf → ValueType
type_of_leaf the_leaf = of_leaf (type_of the_leaf)

-- its code stands first
leaf_coded : (v : Version) (whole : List ℕ) (l : Leaf) → Encodes NoLegacy v whole (leaf l) → (body : List ℕ)
    × (whole ≡ type_prefix (type_of_leaf l) ++ body)
leaf_coded version whole (tokenized t ts) p =
    (p.encoded.body, p.joined ∙ ap (λ (l : List ℕ). 7 ∷ l) p.encoded.joined)
leaf_coded version whole _ p = (p.body, p.joined)

leaf_excluded : (expected : ValueType) (l : Leaf) → type_of_leaf l ≡ expected
    → (v : Version) (kind : ValueType) (prefix rest : List ℕ) (e : DeserializeError)
    → LeafRefused expected v kind (prefix ++ rest) e
    → Encodes NoLegacy v (type_prefix kind ++ prefix) (leaf l) → ⊥
leaf_excluded expected the_leaf is version kind prefix rest error (other_type other) p =
    let q = leaf_coded version (type_prefix kind ++ prefix) the_leaf p in
    other ((same_coded kind (type_of_leaf the_leaf) prefix q.0 q.1).0 ∙ is)
leaf_excluded expected the_leaf is version kind prefix rest error (in_body {cause} same f) p =
    malformed_behind version kind prefix rest _ (leaf the_leaf) f p

pub leaf_excludes : {X : Type 0} (expected : ValueType) (make : X → Leaf)
    → ((x : X) → type_of_leaf (make x) ≡ expected) → RefusalsExclude (IsLeafOf make) (LeafRefused expected)
leaf_excludes expected make typed v kind prefix rest e t x refused p same =
    leaf_excluded expected (make x) (typed x) v kind prefix rest e refused
    (subst (λ z. Encodes NoLegacy v (type_prefix kind ++ prefix) z) same p)

-- ---- the next value

code_excluded : (v : Version) (prefix rest : List ℕ) (e : DeserializeError) (t : Tree)
    → CodeRefused (prefix ++ rest) e → Encodes NoLegacy v prefix t → ⊥
code_excluded version prefix rest error tree (in_code {cause} f) p =
    malformed version prefix rest _ tree (code_value version (prefix ++ rest) cause f) p

-- each value begins with the code of its type
tree_coded : (v : Version) (whole : List ℕ) (t : Tree) → Encodes NoLegacy v whole t → (kind : ValueType)
    × (body : List ℕ) × (whole ≡ type_prefix kind ++ body)
tree_coded version whole (leaf l) p = let q = leaf_coded version whole l p in (type_of_leaf l, q.0, q.1)
tree_coded version whole (array ts) p = (types.Array, p.body, p.joined)
tree_coded version whole (object es) (inl p) = (types.Object, p.body, p.joined)
tree_coded version whole (object es) (inr p) = (types.JSONObject, p.body, p.joined)

pub next_excludes : {X : Type 0} (is : Tree → X → Type 0)
    (refused : Version → ValueType → List ℕ → DeserializeError → Type 0) → RefusalsExclude is refused
    → (v : Version) (whole prefix rest : List ℕ) (e : DeserializeError) (t : Tree) (x : X)
    → NextRefused refused v whole e → whole ≡ prefix ++ rest → Encodes NoLegacy v prefix t → is t x → ⊥
next_excludes is refused excludes v whole prefix rest e t x (inl f) joined p same =
    code_excluded v prefix rest e t (subst (λ w. CodeRefused w e) joined f) p
next_excludes is refused excludes v whole prefix rest e t x (inr f) joined p same =
    let q = tree_coded v prefix t p in
    let kind = f.0 in
    let h = f.1 in
    let cut : type_prefix q.0 ++ (q.1 ++ rest) ≡ type_prefix kind ++ h.rest =
    sym (append_assoc (type_prefix q.0) q.1 rest) ∙ ap (λ l. l ++ rest) (sym q.2) ∙ sym joined ∙ h.joined
    ∙ ap (λ l. l ++ h.rest) h.first in
    let both = same_coded q.0 kind (q.1 ++ rest) h.rest cut in
    excludes v kind q.1 rest e t x (subst (λ w. refused v kind w e) (sym both.1) h.second)
    (subst (λ w. Encodes NoLegacy v w t) (q.2 ∙ ap (λ k. type_prefix k ++ q.1) both.0) p) same
