-- Where a text goes wrong as JSON: by the table of the syntax all bytes before that place can come, and the
-- next one can't, or the text ends too early.
use Rattle.std.specs.Prelude.{◌≡◌, ◌≤◌, ℕ, List, [], ◌∷◌, length, take, drop, nat_lt, if◌then◌else◌, Option}
use Rattle.std.specs.Prelude.{Some, None, Result, Ok, Err}
use Rattle.serde_json.specs.Read.{max_depth}
use Rattle.tv_json.specs.ListKinds.{innermost}
use Rattle.tv_json.specs.Syntax.{step_at, first_place, expected, may_end}
use Rattle.tv_json.specs.declared.json_fault.JsonFault.{JsonFault}
use Rattle.tv_json.specs.declared.json_fault.JsonFaultKind.{JsonFaultKind}
use Rattle.tv_json.specs.declared.json_fault.JsonFaultKind.TheVariants.{EndsEarly, Unexpected, TooDeep}
use Rattle.tv_json.specs.declared.json_place.Place.TheVariants as place
use Rattle.tv_json.specs.declared.json_place.Step.{Step}
use Rattle.tv_json.specs.declared.json_place.Step.TheVariants as does
use Rattle.tv_json.specs.declared.json_scan.Scan.{Scan}

abbrev pub start : Scan
start = record { place = place.Value; lists = [] }

abbrev pub taken : Scan → Option Step → Result Scan JsonFaultKind
taken s None = Err (Unexpected (expected s.place (innermost s.lists)))
taken s (Some (does.To p)) = Ok (record { place = p; lists = s.lists })
taken s (Some (does.Begin kind)) =
    if nat_lt (length s.lists) max_depth then Ok (record { place = first_place kind; lists = kind ∷ s.lists })
    else Err TooDeep
taken s (Some does.End) = Ok (record { place = place.AfterValue; lists = drop 1 s.lists })

-- what follows from a byte, or why it can't come
abbrev pub next : Scan → ℕ → Result Scan JsonFaultKind
next s x = taken s (step_at s.place (innermost s.lists) x)

-- why the text can't end there, if it can't
abbrev pub end_fault : Scan → Option JsonFaultKind
end_fault s = if may_end s.place (innermost s.lists) then None
    else Some (EndsEarly (expected s.place (innermost s.lists)))

-- all bytes of the text can come, and lead from one state to the other
pub data Leads : Scan → List ℕ → Scan → Type 0 where
  no_bytes : {s : Scan} → Leads s [] s
  byte : {s t u : Scan} (x : ℕ) {xs : List ℕ} → next s x ≡ Ok t → Leads t xs u → Leads s (x ∷ xs) u

-- why the text goes wrong there, where these bytes are left of it
abbrev pub GoesWrong : Scan → List ℕ → JsonFaultKind → Type 0
GoesWrong s [] kind = end_fault s ≡ Some kind
GoesWrong s (x ∷ xs) kind = next s x ≡ Err kind

-- The text is JSON by its syntax.
pub record IsSyntax (text : List ℕ) : Type 0 where
  pub end : Scan
  pub passed : Leads start text end
  pub complete : end_fault end ≡ None

-- The text goes wrong there, and not before.
pub record IsFaultOf (text : List ℕ) (fault : JsonFault) : Type 0 where
  pub within : fault.offset ≤ length text
  pub at : Scan
  pub passed : Leads start (take fault.offset text) at
  pub wrong : GoesWrong at (drop fault.offset text) fault.kind
