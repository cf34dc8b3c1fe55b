use Rattle.tv_value.specs.InPlace.{BeginsTokens}
use Rattle.tv_value.proofs.in_place.behind_tokens.Given as goal

-- what is left stands after the tokens so far
abbrev pub invariant-loop-i : goal.invariant-loop-i
invariant-loop-i l = BeginsTokens l._i l.fn.bytes l.rest
