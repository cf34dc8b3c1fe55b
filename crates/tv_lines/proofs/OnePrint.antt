-- Documents are printed as one text.
use Rattle.std.proofs.Common.{◌≡◌, ◌∷◌, ◌++◌, ℕ, List, [], refl}
use Rattle.tv_doc.specs.Named.{IsJsonText, field_names}
use Rattle.tv_field.specs.Entry.{Entry}
use Rattle.tv_format.specs.Tree.{Document}
use Rattle.tv_lines.specs.Printing.{ArePrinted, laid_out}
use Rattle.tv_lines.specs.Printing.ArePrinted.{next_printed, none_printed}
use Rattle.tv_lines.specs.declared.export.JsonLayout.{JsonLayout}

abbrev pub OneText : Type 0
OneText = (names : List (List ℕ)) (document : Document) (text other : List ℕ) → IsJsonText names document text → IsJsonText names document other → text ≡ other

pub printed_one : OneText → (schema : List Entry) (layout : JsonLayout) (documents : List Document) (content other : List ℕ) → ArePrinted schema layout documents content → ArePrinted schema layout documents other → content ≡ other
printed_one text schema layout [] content other none_printed none_printed = refl
printed_one text schema layout (d ∷ ds) content other (next_printed {json = json} {rest = rest} is more) (next_printed {json = twin} {rest = behind} be others) =
    let same = text (field_names schema) d json twin is be in
    let left = printed_one text schema layout ds rest behind more others in
    λ i. laid_out layout (same i) ++ 10 ∷ left i
