-- What has an encoding has it for one reason.
use Rattle.std.specs.Prelude.{ℕ, ◌<◌, ◌^◌, List, [], ◌∷◌, length}
use Rattle.std.specs.List.{AllByRecursion}
use Rattle.std.proofs.Props.{props}
use Rattle.tv_format.specs.Short.{IsText, IsToken, AreTokens}
use Rattle.tv_format.specs.Tree.{Token}

pub IsText-prop : (content : List ℕ) → IsProp (IsText content)
IsText-prop content = hlevel props

each-prop : (tokens : List Token) → IsProp (AllByRecursion IsToken tokens)
each-prop [] = hlevel props
each-prop (t ∷ ts) =
    let first : IsProp (IsToken t) = hlevel props in
    λ p q. λ i. (first p.0 q.0 i, each-prop ts p.1 q.1 i)

pub AreTokens-prop : (tokens : List Token) → IsProp (AreTokens tokens)
AreTokens-prop tokens p q =
    let count : IsProp (length tokens < 2 ^ 63) = hlevel props in
    λ i. record { count = count p.count q.count i; each = each-prop tokens p.each q.each i }
