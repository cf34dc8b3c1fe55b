-- The kinds of what is wrong with the syntax of a text.
use Rattle.std.proofs.Common.{◌≡◌, ℕ, List, [], ◌∷◌, drop, length, Bool, true, false, if◌then◌else◌, Option, Some, None, Result, Ok, Err, ap, nat_lt}
use Rattle.serde_json.specs.Read.{max_depth}
use Rattle.tv_json.specs.Faults.{IsFaultOf, GoesWrong, taken}
use Rattle.tv_json.specs.ListKinds.{innermost}
use Rattle.tv_json.specs.Syntax.{may_end, step_at, expected}
use Rattle.tv_json.specs.declared.json_expected.JsonExpected.{JsonExpected}
use Rattle.tv_json.specs.declared.json_fault.JsonFault.{JsonFault}
use Rattle.tv_json.specs.declared.json_fault.JsonFaultKind.{JsonFaultKind}
use Rattle.tv_json.specs.declared.json_fault.JsonFaultKind.TheVariants as kind
use Rattle.tv_json.specs.declared.json_place.Step.{Step}
use Rattle.tv_json.specs.declared.json_place.Step.TheVariants as does
use Rattle.tv_json.specs.declared.json_scan.Scan.{Scan}

-- a kind that is told of the syntax
abbrev pub of_syntax : JsonFaultKind → Bool
of_syntax (kind.EndsEarly expected) = true
of_syntax (kind.Unexpected expected) = true
of_syntax kind.TooDeep = true
of_syntax kind.NumberTooLarge = false
of_syntax kind.NoObject = false

ends_of_syntax : (complete : Bool) (expected : JsonExpected) (k : JsonFaultKind) → (if complete then None else Some (kind.EndsEarly expected)) ≡ Some k → of_syntax k ≡ true
ends_of_syntax true expected k e = absurd (cc)
ends_of_syntax false expected k e = let same : k ≡ kind.EndsEarly expected = cc in ap of_syntax same

deep_of_syntax : (room : Bool) (s : Scan) (k : JsonFaultKind) → (if room then Ok s else Err kind.TooDeep) ≡ Err k → of_syntax k ≡ true
deep_of_syntax true s k e = absurd (cc)
deep_of_syntax false s k e = let same : k ≡ kind.TooDeep = cc in ap of_syntax same

taken_of_syntax : (s : Scan) (step : Option Step) (k : JsonFaultKind) → taken s step ≡ Err k → of_syntax k ≡ true
taken_of_syntax s None k e = let same : k ≡ kind.Unexpected (expected s.place (innermost s.lists)) = cc in ap of_syntax same
taken_of_syntax s (Some (does.To p)) k e = absurd (cc)
taken_of_syntax s (Some (does.Begin list)) k e = deep_of_syntax (nat_lt (length s.lists) max_depth) _ k e
taken_of_syntax s (Some does.End) k e = absurd (cc)

wrong_of_syntax : (s : Scan) (left : List ℕ) (k : JsonFaultKind) → GoesWrong s left k → of_syntax k ≡ true
wrong_of_syntax s [] k e = ends_of_syntax (may_end s.place (innermost s.lists)) (expected s.place (innermost s.lists)) k e
wrong_of_syntax s (x ∷ xs) k e = taken_of_syntax s (step_at s.place (innermost s.lists) x) k e

pub IsFaultOf-of_syntax : (text : List ℕ) (fault : JsonFault) → IsFaultOf text fault → of_syntax fault.kind ≡ true
IsFaultOf-of_syntax text fault h = wrong_of_syntax h.at (drop fault.offset text) fault.kind h.wrong
