use Rattle.std.proofs.Common.{sym, ◌∙◌}
use Rattle.tv_reading.specs.ChosenFields.{EncodesChosen}
use Rattle.tv_reading.specs.Documents.{NoDocument}
use Rattle.tv_reader.specs.Version.{version_of}
use Rattle.tv_reader.specs.declared.error.DeserializeError.TheVariants.{HeapFull}
use Rattle.tv_store.proofs.InPlace.{placed_error}
use Rattle.tv_store.proofs.Promises.{finds_put}
use Rattle.tv_store.proofs.fields.take_fields_in_place.Goals as goal

pub returns-clause-finds : goal.returns-clause-finds
returns-clause-finds g c =
    let v = version_of c.args.version in
    finds_put c.put_read.result c.put_read.new.document.values (EncodesChosen v c.args.fields.now) (NoDocument v) c.put_read.ensures.put c.take_chosen_into-read.ensures.finds

pub returns-clause-no_room : goal.returns-clause-no_room
returns-clause-no_room g c = λ told is.
    c.take_chosen_into-read.ensures.no_room told (sym c.put_read.ensures.put ∙ placed_error c.put_read.result c.put_read.new.document.values HeapFull is)
