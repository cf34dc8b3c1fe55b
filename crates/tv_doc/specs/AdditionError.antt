-- The error for an addition that a document refuses.
use Rattle.tv_builder.specs.declared.errors.AddError.{AddError}
use Rattle.tv_builder.specs.declared.errors.AddError.TheVariants as add_error
use Rattle.tv_doc.specs.declared.errors.DocParsingError.{DocParsingError}
use Rattle.tv_doc.specs.declared.errors.DocParsingError.TheVariants.{Add, Memory}

abbrev pub addition_error : AddError → DocParsingError
addition_error add_error.Memory = Memory
addition_error add_error.HeapFull = Add add_error.HeapFull
