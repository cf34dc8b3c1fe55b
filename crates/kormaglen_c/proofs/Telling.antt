-- What an answer tells of a field that was found.
use Rattle.std.proofs.Common.{Result, Ok, Err, refl, sym, subst}
use Rattle.std.specs.Prelude.{IfErr, IfOk}
use Rattle.kormaglen_c.specs.Answers.{AnswersFound, TellsField}
use Rattle.tv_blocks.specs.declared.block_error.BlockError.{BlockError}
use Rattle.tv_blocks.specs.declared.field_path.FoundField.{FoundField}
use Rattle.tv_blocks.specs.declared.status.Answer.{Answer}

pub tells_found : (P : FoundField → Type 0) (R : BlockError → Type 0) (answered : Result FoundField BlockError) (found : FoundField) (answer : Answer)
    → IfOk answered P → IfErr answered R → TellsField answered found answer → AnswersFound P R found answer
tells_found P R (Ok field) found answer ok err told = (Ok 0, (subst P (sym told.0) ok, refl), told.1)
tells_found P R (Err e) found answer ok err told = (Err e, (err, told.0), told.1)
