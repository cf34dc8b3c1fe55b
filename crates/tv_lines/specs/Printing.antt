-- Documents as JSON.
use Rattle.std.specs.Prelude.{◌≡◌, ℕ, Bool, true, false, List, [], ◌∷◌, ◌++◌, if◌then◌else◌}
use Rattle.std.specs.List.{list_any}
use Rattle.json.specs.Layout.{pretty}
use Rattle.json.specs.Lex.{tokens}
use Rattle.json.specs.Token.{Token, bad}
use Rattle.tv_doc.specs.Named.{IsJsonText, field_names}
use Rattle.tv_field.specs.Entry.{Entry}
use Rattle.tv_format.specs.Tree.{Document}
use Rattle.tv_lines.specs.declared.export.JsonLayout.{JsonLayout}
use Rattle.tv_lines.specs.declared.export.JsonLayout.TheVariants.{Compact, Pretty}

-- the token stands for what is no JSON
abbrev pub is_bad : Token → Bool
is_bad bad = true
is_bad token = false

-- The same text of JSON in a layout: pretty, its tokens stand on a line for each item and member. What is no
-- JSON stays as it is.
abbrev pub laid_out : JsonLayout → List ℕ → List ℕ
laid_out Compact json = json
laid_out Pretty json = if list_any is_bad (tokens json) then json else pretty (tokens json)

-- the text of JSON of each document, by the names of the fields, and a line feed after each
pub data ArePrinted (schema : List Entry) (layout : JsonLayout) : List Document → List ℕ → Type 0 where
  none_printed : ArePrinted schema layout [] []
  next_printed : {document : Document} {documents : List Document} {json rest : List ℕ}
      → IsJsonText (field_names schema) document json
      → ArePrinted schema layout documents rest → ArePrinted schema layout (document ∷ documents)
      (laid_out layout json ++ 10 ∷ rest)

-- the document is appended, and a line feed
abbrev pub AppendsJson : List Entry → JsonLayout → Document → List ℕ → List ℕ → Type 0
AppendsJson entries layout document old new = (json : List ℕ) × IsJsonText (field_names entries) document json
    × (new ≡ old ++ (laid_out layout json ++ 10 ∷ []))
