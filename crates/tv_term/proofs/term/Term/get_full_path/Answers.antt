use Rattle.std.proofs.Common.{◌≡◌, ℕ, List, ◌++◌, Option, Some, Result, Ok, Err}
use Rattle.std.specs.Prelude.{slice_get, IfOk, string_bytes}
use Rattle.std.specs.Option.{option_copied}
use Rattle.tv_field.specs.Entry.{Entry}
use Rattle.tv_term.specs.Reading.{ReadsText, json_path, dotted, IsFullPath}
use Rattle.tv_term.proofs.term.Term.get_full_path.Goals as goal

same_entry : (schema : List Entry) (i j : ℕ) (one other : Entry) → slice_get schema i ≡ Some one → i ≡ j → slice_get schema j ≡ Some other → one ≡ other
same_entry schema i j one other found same again = cc

-- what is put together of the name and the path is the full path
full_path : {T E : Type 0} (bytes_of : T → List ℕ) (r : Result T E) (schema : List Entry) (i j : ℕ) (one : Entry) (name bytes value : List ℕ) (path : Option (List ℕ))
    → slice_get schema i ≡ Some one → i ≡ j → name ≡ one.name → ReadsText (json_path bytes) path → bytes ≡ value
    → IfOk r (λ text. bytes_of text ≡ name ++ dotted path)
    → IfOk r (λ text. (entry : Entry) → slice_get schema j ≡ Some entry → IsFullPath entry.name value (bytes_of text))
full_path bytes_of (Ok text) schema i j one name bytes value path found same named read value_is text_is =
    λ entry again. (path, rw value_is at read, rw (named, same_entry schema i j one entry found same again) at text_is)
full_path bytes_of (Err error) schema i j one name bytes value path found same named read value_is text_is = tt

pub returns : goal.returns
returns c =
    full_path string_bytes c.dotted.result c.args.schema.now _ _ c.get_field_entry.result.now c.name-name.result.now _ _ (option_copied c.json_path.result)
    c.get_field_entry.ensures c.field.ensures c.name-name.ensures.name c.json_path.ensures c.value.ensures c.dotted.ensures
