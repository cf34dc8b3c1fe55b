-- The texts of refusals, for private clauses.
use Rattle.std.specs.Prelude.{◌≡◌, ◌<◌, ◌⊎◌, List, ◌∷◌, ◌++◌, ℕ}
use lib.Chars.{codes}
use Rattle.hex.specs.Hex.{encode_lower}
use Rattle.tv_doc.specs.Named.{IsJsonText, field_names}
use Rattle.tv_field.specs.Entry.{Entry}
use Rattle.tv_heap.specs.Room.{document_room}
use Rattle.tv_format.specs.Tree.{Document}

-- memory was refused, or the pairs have no room
abbrev pub IsRefusalText : Document → List ℕ → Type 0
IsRefusalText document text = (text ≡ codes "error Memory")
    ⊎ ((4294967295 < document_room document) × (text ≡ codes "error HeapFull"))

-- these bytes in hexadecimal, a space, and the text of JSON of the document
abbrev pub IsTexts : List Entry → List ℕ → Document → List ℕ → Type 0
IsTexts schema bytes document text = (json : List ℕ) × IsJsonText (field_names schema) document json
    × (text ≡ encode_lower bytes ++ 32 ∷ json)
