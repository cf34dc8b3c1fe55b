-- Documents by the names of their fields.
--
-- The word of the public contracts:
-- `CopiesByName`: copies of a document's values under the names of their fields. `named`: for each name of a
-- field that has a value, they are the copies of its values in order. `within`: where the call returns no
-- error, each value of a field that has a name nests within this depth.
-- `deep`: the error is `TooDeep` exactly where one of them does not.
use Rattle.std.specs.Prelude.{◌≡◌, ℕ, List, [], ◌∷◌, ◌++◌, ◌↔◌, map, Option, Some, None, Result, IfOk, OnOk}
use Rattle.std.specs.Prelude.{IsErrOf, OnSome, slice_get, string_bytes}
use Rattle.std.specs.BTreeMap.{insert_entry}
use Rattle.std.specs.Cmp.Lexicographic.{slice_cmp}
use Rattle.std.specs.List.{AllByRecursion}
use Rattle.std.specs.Ordering.{nat_cmp}
use Rattle.serde_json.specs.Data.{object}
use Rattle.serde_json.specs.Written.{compact_text}
use Rattle.tv_value.specs.Nesting.{NestsWithin}
use Rattle.tv_value.specs.Owned.{owned_tree}
use Rattle.tv_value.specs.declared.copy.CopyError.{CopyError}
use Rattle.tv_value.specs.declared.copy.CopyError.TheVariants.{TooDeep}
use Rattle.tv_format.specs.Tree.{Tree, Document}
use Rattle.tv_field.specs.Entry.{Entry}
use Rattle.tv_json.specs.Named.{named_json}
use Rattle.tv_doc.specs.Grouped.{IsGrouped}
use Rattle.tv_doc.specs.declared.named.NamedFieldDocument.{NamedFieldDocument}

-- names with their values, in byte order of the names
abbrev pub Named : Type 0
Named = List (List ℕ × List Tree)

-- the names of a schema's fields, in the order of their numbers
abbrev pub field_names : List Entry → List (List ℕ)
field_names schema = map (λ entry. entry.name) schema

-- the values of a field go under its name, those of a field without a name are left out
abbrev pub put_under : Option (List ℕ) → List Tree → Named → Named
put_under None trees named = named
put_under (Some name) trees named = insert_entry (slice_cmp nat_cmp) named name trees

abbrev pub by_name : List (List ℕ) → List (ℕ × List Tree) → Named → Named
by_name names [] named = named
by_name names (g ∷ gs) named = by_name names gs (put_under (slice_get names g.0) g.1 named)

-- for each name of a field that has a value, the list of its values in order
abbrev pub IsNamed : List (List ℕ) → Document → Named → Type 0
IsNamed names document named = (groups : List (ℕ × List Tree)) × IsGrouped document groups
    × (named ≡ by_name names groups [])

-- the text of the object of these names and the arrays of their values, without spaces
abbrev pub IsJsonText : List (List ℕ) → Document → List ℕ → Type 0
IsJsonText names document text = (named : Named) × IsNamed names document named
    × (text ≡ compact_text (object (named_json named)))

-- that text was added to another
abbrev pub AddsJsonText : List (List ℕ) → Document → List ℕ → List ℕ → Type 0
AddsJsonText names document before after = (text : List ℕ) × IsJsonText names document text
    × (after ≡ before ++ text)

abbrev pub named_of : NamedFieldDocument → Named
named_of n = map (λ e. (string_bytes e.0, map owned_tree e.1.items)) n.0.entries

-- each value of a field that has a name nests within a number
abbrev pub NamedNestWithin : List (List ℕ) → ℕ → Document → Type 0
NamedNestWithin names n document = AllByRecursion
    (λ pair. OnSome (slice_get names pair.0) (NestsWithin n pair.1)) document

-- copies of the values under the names of their fields, where each of them nests within this depth
pub record CopiesByName (names : List (List ℕ)) (document : Document) (depth : ℕ)
    (result : Result NamedFieldDocument CopyError) : Type 0 where
  pub named : IfOk result (λ made. IsNamed names document (named_of made))
  pub within : OnOk result (NamedNestWithin names depth document)
  pub deep : IsErrOf result TooDeep ↔ (¬ NamedNestWithin names depth document)
