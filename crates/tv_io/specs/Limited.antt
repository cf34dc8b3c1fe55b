-- What is taken of a source of which at most this many bytes may be taken.
use Rattle.std.specs.Prelude.{◌≡◌, ℕ, ◌+◌, ◌<◌, List, ◌++◌, length, take}
use Rattle.std.proofs.lemmas.List.Elements.{All-take}
use Rattle.tv_base.specs.Source.{AllBytes}

-- These bytes were taken off the start of those that were left, and as many fewer may be taken.
pub record TakesWithin (old new : List ℕ) (limit now : ℕ) : Type 0 where
  pub prefix : List ℕ
  pub joined : old ≡ prefix ++ new
  pub counted : limit ≡ length prefix + now

pub first_bytes : (limit : ℕ) (left : List ℕ) → AllBytes left → AllBytes (take limit left)
first_bytes limit left bytes = All-take (λ b. b < 256) limit left bytes
