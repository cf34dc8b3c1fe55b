-- What is left in a place.
use Rattle.std.specs.Prelude.{Result, Ok, Err}

-- what a call gave back, where the document is left in a place
abbrev pub in_place : {D E : Type 0} → Result (Unit {0}) E → D → Result D E
in_place (Ok x) document = Ok document
in_place (Err e) document = Err e
