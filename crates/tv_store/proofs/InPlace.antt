-- A document that is read in place of another.
use Rattle.std.proofs.Common.{Result, Ok, Err}
use Rattle.std.specs.Prelude.{IsErrOf}
use Rattle.tv_store.specs.Documents.{in_place}

pub placed_error : {D E : Type 0} (result : Result (Unit {0}) E) (document : D) (e : E) → IsErrOf result e → IsErrOf (in_place result document) e
placed_error (Ok x) document e is = absurd (cc)
placed_error (Err f) document e is = cc

pub error_placed : {D E : Type 0} (result : Result (Unit {0}) E) (document : D) (e : E) → IsErrOf (in_place result document) e → IsErrOf result e
error_placed (Ok x) document e is = absurd (cc)
error_placed (Err f) document e is = cc
