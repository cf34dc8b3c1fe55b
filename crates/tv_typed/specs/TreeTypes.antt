-- Types whose values are made of trees that were read whole, and that refuse some trees.
use Rattle.std.specs.Prelude.{◌≡◌, ℕ, List, ◌++◌}
use Rattle.std.proofs.Common.{sym, ap, subst, ◌∙◌, append_assoc, inl, inr}
use Rattle.tv_base.specs.ErrorInPart.{InThen}
use Rattle.tv_format.specs.Encoding.{Encodes}
use Rattle.tv_format.specs.Tree.{Tree}
use Rattle.tv_format.specs.Version.{Version}
use Rattle.tv_format.proofs.Trees.{one_tree}
use Rattle.tv_reader.specs.Legacy.{Legacy}
use Rattle.tv_reader.proofs.UniqueLegacy.{one_legacy}
use Rattle.tv_reader.specs.ValueType.{type_prefix}
use Rattle.tv_reader.specs.declared.error.DeserializeError.{DeserializeError}
use Rattle.tv_reader.specs.declared.value_type.ValueType.{ValueType}
use Rattle.tv_typed.specs.Excluding.{tree_excludes, with_legacy}
use Rattle.tv_typed.specs.Values.{TreeRefused, RefusalsExclude}

-- no tree is read, or the tree that was read after the code of a type is refused
abbrev pub TreeTypeRefused :
    (ValueType → Tree → DeserializeError → Type 0) → Version → ValueType → List ℕ → DeserializeError → Type 0
TreeTypeRefused Refuses version kind =
    InThen (TreeRefused version kind) (λ bytes tree. Encodes Legacy version (type_prefix kind ++ bytes) tree)
    (λ tree _. Refuses kind tree)

-- where no value is of a tree that is refused, refusals exclude values
pub tree_type_excludes : {X : Type 0} (is : Tree → X → Type 0)
    (Refuses : ValueType → Tree → DeserializeError → Type 0)
    → ((kind : ValueType) (tree : Tree) (error : DeserializeError) (value : X)
    → Refuses kind tree error → is tree value → ⊥)
    → RefusalsExclude is (TreeTypeRefused Refuses)
tree_type_excludes is Refuses none version kind prefix rest error tree value refused encoded same =
    elim refused as (λ _. ⊥) [
      | inl f ↦ tree_excludes is version kind prefix rest error tree value f encoded same
      | inr f ↦
          let code = type_prefix kind in
          let h = f.1 in
          let joined : (code ++ h.prefix) ++ h.rest ≡ (code ++ prefix) ++ rest =
          append_assoc code h.prefix h.rest ∙ ap (λ l. code ++ l) (sym h.joined)
          ∙ sym (append_assoc code prefix rest) in
          let one = one_tree Legacy version one_legacy (code ++ h.prefix)
          (code ++ prefix) h.rest rest f.0 tree h.first
          (with_legacy version tree (code ++ prefix) encoded) joined in
          none kind tree error value (subst (λ z. Refuses kind z error) one.1 h.second) same
    ]
