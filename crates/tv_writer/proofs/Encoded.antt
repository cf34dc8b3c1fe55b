-- How far the children of a value are known to have encodings.
use Rattle.std.proofs.Common.{ℕ, ◌+◌, ◌<◌, ◌^◌, Bool, true, false, List, length, Result, Ok, Err}
use Rattle.std.specs.Bool.{MatchBool}
use Rattle.std.specs.Prelude.{IfOk}
use Rattle.tv_format.specs.Short.{IsValue}
use Rattle.tv_format.specs.Size.{size}
use Rattle.tv_format.specs.Tree.{Tree}
use Rattle.tv_value.specs.Children.{Child, children_size}
use Rattle.tv_writer.specs.Children.{AreKeys, AreValues, HasHead}

-- this many children have encodings, and the list has one where the others have and are few enough
pub record ChildrenEncoded (count : ℕ) (rest : List Child) (tree : Tree) : Type 0 where
  pub fits : count < 2 ^ 63
  pub smaller : children_size rest < size tree
  pub whole : AreKeys rest → AreValues rest → count + length rest < 2 ^ 63 → IsValue tree
  pub others : IsValue tree → AreKeys rest × AreValues rest × (count + length rest < 2 ^ 63)

-- this many children have keys with encodings, and the list has a head where the others have and are few enough
pub record KeysEncoded (count : ℕ) (rest : List Child) (tree : Tree) : Type 0 where
  pub fits : count < 2 ^ 63
  pub whole : AreKeys rest → count + length rest < 2 ^ 63 → HasHead tree
  pub others : HasHead tree → AreKeys rest × (count + length rest < 2 ^ 63)

-- what decides one fact decides another that holds just where it does
pub decided : {E A B : Type 0} (result : Result Bool E) → (A → B) → (B → A) → IfOk result (λ is. MatchBool is A (¬ A)) → IfOk result (λ is. MatchBool is B (¬ B))
decided (Ok true) to from h = to h
decided (Ok false) to from h = λ b. h (from b)
decided (Err e) to from h = h
