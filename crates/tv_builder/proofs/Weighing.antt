-- What is written of a state is within its weight.
use Rattle.std.proofs.Common.{◌≡◌, ◌+◌, ◌*◌, ◌≤◌, List, [], ◌∷◌, length, refl, arith}
use Rattle.std.specs.Coded.{le_prop}
use Rattle.std.proofs.Math.Logic.{∥∥₁_elim}
use Rattle.tv_base.specs.Parts.{short_sized}
use Rattle.tv_format.specs.Tree.{Tree, leaf, text, elements}
use Rattle.tv_heap.specs.Weight.{tree_weight, elements_weight}
use Rattle.tv_builder.specs.declared.building.Building.{Building}
use Rattle.tv_builder.specs.declared.kinds.ListKind.{ListKind}
use Rattle.tv_builder.specs.declared.kinds.ListKind.TheVariants.{Array, Object}
use Rattle.tv_builder.specs.Shows.{HoldsSomeState}
use Rattle.tv_builder.specs.State.{OpenList, State, complete, in_lists, in_bytes, key_text, IsKeyLeaf, StartsWithKey, StartsWithValue, AreChildren, AreLists, IsState, trees_weight, lists_written, written}
use Rattle.tv_builder.specs.Weight.{keys_weight, values_weight, children_weight, lists_weight, state_weight}

key_weighs : (k : Tree) → IsKeyLeaf k → tree_weight k ≡ length (short_sized (key_text k))
key_weighs (leaf (text content)) h = refl
key_weighs _ h = absurd h

mutual
  keys_weigh : (ts : List Tree) → StartsWithKey ts → keys_weight ts ≡ 6 * length ts + trees_weight ts
  keys_weigh [] h = refl
  keys_weigh (k ∷ ts) h = omega (arith, key_weighs k h.0, values_weigh ts h.1)

  values_weigh : (ts : List Tree) → StartsWithValue ts → values_weight ts ≡ 6 * length ts + trees_weight ts
  values_weigh [] h = refl
  values_weigh (t ∷ ts) h = omega (arith, keys_weigh ts h)

elements_weigh : (ts : List Tree) → elements_weight (elements ts) ≡ 6 * length ts + trees_weight ts
elements_weigh [] = refl
elements_weigh (t ∷ ts) = omega (arith, elements_weigh ts)

children_weigh : (kind : ListKind) (ts : List Tree) → AreChildren kind ts → children_weight kind ts ≡ 6 * length ts + trees_weight ts
children_weigh Array ts h = elements_weigh ts
children_weigh Object ts h = keys_weigh ts h

lists_weigh : (ls : List OpenList) → AreLists ls → lists_written ls ≤ lists_weight ls
lists_weigh [] h = omega arith
lists_weigh (l ∷ ls) h = omega (arith, children_weigh l.kind l.children h.0.children, lists_weigh ls h.1)

state_weighs : (s : State) → IsState s → written s ≤ state_weight s
state_weighs (complete t) h = omega arith
state_weighs (in_lists ls) h = lists_weigh ls h.0
state_weighs (in_bytes ls kind n bs) h = omega (arith, lists_weigh ls h.0)

pub written_weighs : (b : Building) (h : HoldsSomeState b) → written h.0 ≤ state_weight h.0
written_weighs b h = ∥∥₁_elim h.1 le_prop (λ s. state_weighs h.0 s.is)
