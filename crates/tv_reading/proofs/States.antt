-- The state that a builder holds is one.
use Rattle.std.proofs.Common.{◌≡◌, ℕ, ◌%◌, nat_eq, List, [], ◌∷◌, length, refl, sym, ◌∙◌, inl, inr}
use Rattle.std.proofs.lemmas.Bool.{cond-true, cond-false}
use Rattle.std.proofs.lemmas.Bool.Decides.{eqb_tells}
use Rattle.tv_builder.specs.declared.kinds.Awaits.TheVariants as awaits
use Rattle.std.specs.Coded.{le_prop}
use Rattle.std.proofs.Math.Logic.{∥∥₁_elim}
use Rattle.std.proofs.Math.Nat.{ℕ_set}
use Rattle.tv_builder.specs.declared.kinds.BytesKind.{BytesKind}
use Rattle.tv_builder.specs.declared.kinds.BytesKind.TheVariants as kinds
use Rattle.tv_builder.specs.declared.kinds.ListKind.{ListKind}
use Rattle.tv_builder.specs.declared.kinds.ListKind.TheVariants.{Array, Object}
use Rattle.tv_builder.specs.State.{OpenList, State, complete, in_lists, in_bytes, next_at, IsKeyLeaf, StartsWithKey, StartsWithValue, AreChildren, IsList, AreLists, IsValueNext, IsKeyNext, AllAwait, OthersAwait, HeadNext, IsState}
use Rattle.tv_builder.specs.declared.pair_builder.PairBuilder.{PairBuilder}
use Rattle.tv_builder.specs.Builder.{state_of}
use Rattle.tv_format.specs.Tree.{Tree, leaf, text}

key_prop : (t : Tree) → IsProp (IsKeyLeaf t)
key_prop (leaf (text content)) x y = refl
key_prop _ x y = absurd x

mutual
  entries_prop : (ts : List Tree) → IsProp (StartsWithKey ts)
  entries_prop [] x y = refl
  entries_prop (t ∷ ts) x y = λ i. (key_prop t x.0 y.0 i, values_prop ts x.1 y.1 i)

  values_prop : (ts : List Tree) → IsProp (StartsWithValue ts)
  values_prop [] x y = refl
  values_prop (t ∷ ts) x y = entries_prop ts x y

children_prop : (kind : ListKind) (ts : List Tree) → IsProp (AreChildren kind ts)
children_prop Array ts x y = refl
children_prop Object ts x y = entries_prop ts x y

list_prop : (l : OpenList) → IsProp (IsList l)
list_prop l x y = λ i. record { lacks = le_prop x.lacks y.lacks i; children = children_prop l.kind l.children x.children y.children i }

lists_prop : (ls : List OpenList) → IsProp (AreLists ls)
lists_prop [] x y = refl
lists_prop (l ∷ ls) x y = λ i. (list_prop l x.0 y.0 i, lists_prop ls x.1 y.1 i)

value_next_prop : (kind : ListKind) (n : ℕ) → IsProp (IsValueNext kind n)
value_next_prop Array n x y = refl
value_next_prop Object n x y = ℕ_set _ _ x y

key_next_prop : (kind : ListKind) (n : ℕ) → IsProp (IsKeyNext kind n)
key_next_prop Array n x y = absurd x
key_next_prop Object n x y = ℕ_set _ _ x y

all_prop : (ls : List OpenList) → IsProp (AllAwait ls)
all_prop [] x y = refl
all_prop (l ∷ ls) x y = λ i. (value_next_prop l.kind (length l.children) x.0 y.0 i, all_prop ls x.1 y.1 i)

others_prop : (ls : List OpenList) → IsProp (OthersAwait ls)
others_prop [] x y = refl
others_prop (l ∷ ls) x y = all_prop ls x y

head_prop : (kind : BytesKind) (ls : List OpenList) → IsProp (HeadNext kind ls)
head_prop kinds.Key [] x y = absurd x
head_prop kinds.Key (l ∷ ls) x y = key_next_prop l.kind (length l.children) x y
head_prop _ ls x y = all_prop ls x y

state_prop : (s : State) → IsProp (IsState s)
state_prop (complete t) x y = refl
state_prop (in_lists ls) x y = λ i. (lists_prop ls x.0 y.0 i, others_prop ls x.1 y.1 i)
state_prop (in_bytes ls kind n bs) x y = λ i. (lists_prop ls x.0 y.0 i, others_prop ls x.1 y.1 i, head_prop kind ls x.2 y.2 i, le_prop x.3 y.3 i)

pub is_state : (b : PairBuilder) → IsState (state_of b)
is_state b = ∥∥₁_elim b.state.1 (state_prop (state_of b)) (λ p. p.shows.is)

-- after an open list no bytes are awaited
pub no_bytes_next : (kind : ListKind) (k missing : ℕ) → next_at kind k ≡ awaits.Bytes missing → ⊥
no_bytes_next Array k missing e = cc
no_bytes_next Object k missing e = elim (eqb_tells (k % 2) 0) [
  | inl p ↦ let g : awaits.Key ≡ awaits.Bytes missing = sym (cond-true (nat_eq (k % 2) 0) awaits.Key awaits.Value p.0) ∙ e in cc
  | inr p ↦ let g : awaits.Value ≡ awaits.Bytes missing = sym (cond-false (nat_eq (k % 2) 0) awaits.Key awaits.Value p.0) ∙ e in cc
]

-- nor a finish
pub no_finish_next : (kind : ListKind) (k : ℕ) → next_at kind k ≡ awaits.Finish → ⊥
no_finish_next Array k e = cc
no_finish_next Object k e = elim (eqb_tells (k % 2) 0) [
  | inl p ↦ let g : awaits.Key ≡ awaits.Finish = sym (cond-true (nat_eq (k % 2) 0) awaits.Key awaits.Value p.0) ∙ e in cc
  | inr p ↦ let g : awaits.Value ≡ awaits.Finish = sym (cond-false (nat_eq (k % 2) 0) awaits.Key awaits.Value p.0) ∙ e in cc
]
