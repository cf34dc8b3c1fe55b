-- What a table of fields keeps.
use Rattle.std.specs.Prelude.{ℕ, ◌<◌, ◌≤◌, ◌^◌, List, length, ◌≡◌, String}
use Rattle.std.specs.List.{AllByRecursion}
use Rattle.std.specs.HashMap.{HashMap, get_by_text}
use Rattle.std.specs.declared.alloc.Global.{Global}
use Rattle.std.specs.declared.hash.FoldHasher.{FoldHasher}
use Rattle.std.specs.declared.hash.BuildHasherDefault.{BuildHasherDefault}
use Rattle.tv_field.specs.Entry.{Entry}
use Rattle.tv_schema.specs.Schema.{IsSchema, field_named}

-- the entries are a schema, the map has the number of each name, and no name is longer than this
pub record IsTable (entries : List Entry) (numbers : HashMap (String Global) ℕ
    (BuildHasherDefault FoldHasher)) (longest : ℕ) : Type 0 where
  pub schema : IsSchema entries
  pub numbered : (name : List ℕ) → get_by_text numbers name ≡ field_named entries name
  pub names : AllByRecursion (λ entry. length entry.name ≤ longest) entries
  pub small : longest < 2 ^ 63
