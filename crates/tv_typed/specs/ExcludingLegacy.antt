-- Where an object is refused, a legacy one among them, no prefix of its bytes encodes without
-- legacy objects one of which something is read.
use Rattle.std.specs.Prelude.{◌≡◌, List, ℕ, ◌∷◌, ◌++◌, String}
use Rattle.std.specs.declared.alloc.Global.{Global}
use Rattle.std.proofs.Common.{subst, inl, inr}
use Rattle.tv_format.specs.Leaves.{type_of, store_code}
use Rattle.tv_format.specs.LeavesLaws.{leaf_coded}
use Rattle.tv_format.specs.Encoding.{Encodes, NoLegacy}
use Rattle.tv_format.specs.Tree.{Tree, leaf, array, object}
use Rattle.tv_format.specs.Version.{Version}
use Rattle.tv_reader.specs.ValueType.{type_prefix}
use Rattle.tv_reader.specs.declared.error.DeserializeError.{DeserializeError}
use Rattle.tv_reader.specs.declared.value_type.ValueType.{ValueType}
use Rattle.tv_typed.specs.ExcludingLists.{object_excludes}
use Rattle.tv_typed.specs.Lists.{ObjectOf, ObjectRefused}
use Rattle.tv_typed.specs.Values.{RefusalsExclude}
use Rattle.tv_typed.specs.LegacyObjects.{MembersRefused, in_other, in_legacy_object}

-- after the code of a legacy object nothing else is encoded
no_other : (v : Version) (a : List ℕ) (t : Tree) → Encodes NoLegacy v (8 ∷ a) t → ⊥
no_other version a (leaf l) p = let e = p.joined in let same : store_code (type_of l) ≡ 8 =
    cc in (leaf_coded (type_of l)).no_legacy same
no_other version a (array ts) p = let e = p.joined in absurd cc
no_other version a (object es) (inl p) = let e = p.joined in absurd cc
no_other version a (object es) (inr p) = p.encoded

pub members_exclude : (refused : Version → ValueType → List ℕ → DeserializeError → Type 0) (v : Version)
    (kind : ValueType) (prefix rest : List ℕ) (e : DeserializeError) (t : Tree)
    → (refused v kind (prefix ++ rest) e → ⊥)
    → MembersRefused refused v kind (prefix ++ rest) e → Encodes NoLegacy v (type_prefix kind ++ prefix) t → ⊥
members_exclude refused version kind prefix rest error tree none (in_other other f) p = none f
members_exclude refused version kind prefix rest error tree none (in_legacy_object same f) p =
    no_other version prefix tree (subst (λ k. Encodes NoLegacy version (type_prefix k ++ prefix) tree) same p)

-- what is read of the entries of such an object
pub entries_exclude : {X C : Type 0} (is : Tree → X → Type 0)
    (refused : Version → ValueType → List ℕ → DeserializeError → Type 0) → RefusalsExclude is refused
    → (Read : Tree → C → Type 0)
    → ((t : Tree) (c : C) → Read t c → (pairs : List (String Global × X)) × ObjectOf is t pairs)
    → RefusalsExclude Read (MembersRefused (ObjectRefused is refused))
entries_exclude is refused excludes Read parts v kind prefix rest e t c f encoded read =
    let p = parts t c read in
    members_exclude (ObjectRefused is refused) v kind prefix rest e t
    (λ g. object_excludes is refused excludes v kind prefix rest e t p.0 g encoded p.1) f encoded
