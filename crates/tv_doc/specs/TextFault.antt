-- Where and why a text is no JSON object.
--
-- The words of the public contracts:
-- `IsFault`: `place`: the text goes wrong at the offset by the syntax of JSON, for this reason, and not
-- before (`IsFaultOf` of `tv_json`); or it is JSON by its syntax, with the first number there that is too
-- large for a float; or it is JSON. `object`: that there is no object is said exactly where the text is JSON.
-- `TellsFault`: the text is no object, and this is where and why (`IsFault`); where nothing is told, it is an
-- object.
use Rattle.std.specs.Prelude.{◌≡◌, ◌↔◌, ℕ, List, Option, Some, None, IsSome}
use Rattle.serde_json.specs.Read.{read}
use Rattle.tv_doc.specs.JsonObject.{IsNoObject}
use Rattle.tv_doc.specs.StrictJson.{IsObject}
use Rattle.tv_json.specs.Faults.{IsSyntax, IsFaultOf}
use Rattle.tv_json.specs.LargeNumber.{IsFirstLargeNumber}
use Rattle.tv_json.specs.declared.json_fault.JsonFault.{JsonFault}
use Rattle.tv_json.specs.declared.json_fault.JsonFaultKind.{JsonFaultKind}
use Rattle.tv_json.specs.declared.json_fault.JsonFaultKind.TheVariants as kind

-- The text is JSON by its syntax, and the first number that is too large for a float begins there.
abbrev pub IsNumberPlace : List ℕ → ℕ → Type 0
IsNumberPlace text offset = IsSyntax text × IsFirstLargeNumber text offset

abbrev pub IsPlace : List ℕ → JsonFault → JsonFaultKind → Type 0
IsPlace text fault (kind.EndsEarly expected) = IsFaultOf text fault
IsPlace text fault (kind.Unexpected expected) = IsFaultOf text fault
IsPlace text fault kind.TooDeep = IsFaultOf text fault
IsPlace text fault kind.NumberTooLarge = IsNumberPlace text fault.offset
IsPlace text fault kind.NoObject = fault.offset ≡ 0

pub record IsFault (text : List ℕ) (fault : JsonFault) : Type 0 where
  pub place : IsPlace text fault fault.kind
  pub object : (fault.kind ≡ kind.NoObject) ↔ IsSome (read text)

-- where and why the text is no object, if it is none
abbrev pub TellsFault : List ℕ → Option JsonFault → Type 0
TellsFault text None = IsObject text
TellsFault text (Some fault) = IsNoObject text × IsFault text fault
