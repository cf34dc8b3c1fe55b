-- Which values are numbers, or lists of such to any depth.
use Rattle.std.specs.Prelude.{◌≡◌, ℕ, List, [], ◌∷◌, Vec, String}
use Rattle.std.specs.declared.alloc.Global.{Global}
use Rattle.embedding.specs.declared.figures.Figures.{Figures, out-Figures}
use Rattle.embedding.specs.declared.figures.Figures.TheOpen.{Figures-F}
use Rattle.tantivy_schema.specs.CodeTypes.DeserializeError.{DeserializeError}
use Rattle.tantivy_schema.specs.CodeTypes.DeserializeError.TheVariants as errors
use Rattle.tantivy_schema.specs.CodeTypes.ValueType.{ValueType}
use Rattle.tantivy_schema.specs.Tree.{unsigned, Tree, leaf, array, object, Elements, no_elements, element}
use Rattle.tantivy_schema.specs.TreeTypes.{TreeTypeRefused, tree_type_excludes}
use Rattle.tantivy_schema.specs.Values.{RefusalsExclude}
use Rattle.tantivy_schema.specs.Version.{Version}

abbrev mutual
  pub IsFigures : Tree → Figures → Type 0
  IsFigures (leaf l) x = (n : ℕ) × (l ≡ unsigned n) × (out-Figures x ≡ Figures-F.One n)
  IsFigures (array ts) x = (xs : Vec Figures Global) × (out-Figures x ≡ Figures-F.Many xs)
      × AreFigures ts xs.items
  IsFigures (object es) x = ⊥

  pub AreFigures : Elements → List Figures → Type 0
  AreFigures no_elements xs = xs ≡ []
  AreFigures (element t ts) [] = ⊥
  AreFigures (element t ts) (x ∷ xs) = IsFigures t x × AreFigures ts xs

-- nothing is made of the tree, or of all these trees
abbrev pub NoFigures : Tree → Type 0
NoFigures t = (x : Figures) → IsFigures t x → ⊥

abbrev pub NoneAreFigures : Elements → Type 0
NoneAreFigures ts = (xs : List Figures) → AreFigures ts xs → ⊥

-- a value of which nothing is made is refused with a text
pub record IsNoFigures (kind : ValueType) (t : Tree) (e : DeserializeError) : Type 0 where
  pub none : NoFigures t
  pub message : String Global
  pub told : e ≡ errors.Custom message

-- no value is read, or the value that was read is refused so
abbrev pub FiguresRefused : Version → ValueType → List ℕ → DeserializeError → Type 0
FiguresRefused = TreeTypeRefused IsNoFigures

pub figures_exclude : RefusalsExclude IsFigures FiguresRefused
figures_exclude = tree_type_excludes IsFigures IsNoFigures (λ kind t e x refused is. refused.none x is)
