-- The terms of a JSON value by the bytes of the keys above it, for private clauses: each key stands after a
-- byte 1, the outermost too.
use Rattle.std.specs.Prelude.{◌≡◌, ◌+◌, ℕ, suc, List, [], ◌∷◌, ◌++◌, Bool, Option, Some, None, Ok, Err, drop}
use Rattle.std.specs.Prelude.{take, map, if◌then◌else◌}
use Rattle.std.specs.List.{flat_map}
use Rattle.tv_base.specs.JsonPath.{expanded}
use Rattle.tv_format.specs.Size.{size}
use Rattle.tv_format.specs.Tree.{Tree, leaf, array, object, Elements, no_elements, element, Entries}
use Rattle.tv_format.specs.Tree.{no_entries, entry}
use Rattle.tv_heap.specs.Value.{HeldList, held_children}
use Rattle.tv_indexing.specs.DocumentTerms.{Terms, followed_by, has_zero, json_leaf_terms}
use Rattle.tv_indexing.specs.Visits.{TakesAll}
use Rattle.tv_indexing.specs.declared.json.OpenList.{OpenList}
use Rattle.tv_indexing.specs.declared.document.TermValuesError.TheVariants.{NulInPath}
use Rattle.tv_value.specs.Children.{Child, children_size}
use Rattle.tv_value.specs.declared.field.Field.{Field}

abbrev pub separated : Bool → List ℕ → List ℕ
separated expand_dots key = 1 ∷ map (expanded expand_dots) key

abbrev pub separated_keys : Bool → List (List ℕ) → List ℕ
separated_keys expand_dots keys = flat_map (separated expand_dots) keys

-- ---- those of a value below a path

abbrev mutual
  pub terms_at : Field → Bool → List ℕ → Tree → Terms
  terms_at field expand_dots path (leaf l) = json_leaf_terms field (drop 1 path) l
  terms_at field expand_dots path (array ts) = elements_at field expand_dots path ts
  terms_at field expand_dots path (object es) = entries_at field expand_dots path es

  pub elements_at : Field → Bool → List ℕ → Elements → Terms
  elements_at field expand_dots path no_elements = Ok []
  elements_at field expand_dots path (element t ts) =
      followed_by (terms_at field expand_dots path t) (elements_at field expand_dots path ts)

  pub entries_at : Field → Bool → List ℕ → Entries → Terms
  entries_at field expand_dots path no_entries = Ok []
  entries_at field expand_dots path (entry k t es) =
      followed_by (if has_zero k then Err (NulInPath field) else terms_at field expand_dots
      (path ++ separated expand_dots k) t) (entries_at field expand_dots path es)

-- ---- those of children

abbrev pub child_terms : Field → Bool → List ℕ → Option (List ℕ) → Tree → Terms
child_terms field expand_dots path None tree = terms_at field expand_dots path tree
child_terms field expand_dots path (Some key) tree =
    if has_zero key then Err (NulInPath field) else terms_at field expand_dots
    (path ++ separated expand_dots key) tree

abbrev pub children_terms : Field → Bool → List ℕ → List Child → Terms
children_terms field expand_dots path [] = Ok []
children_terms field expand_dots path (child ∷ children) =
    followed_by (child_terms field expand_dots path child.0 child.1)
    (children_terms field expand_dots path children)

-- ---- lists of which children are left

-- those of open lists, the innermost first, where this is the path to the innermost
abbrev pub open_terms : Field → Bool → List ℕ → List OpenList → Terms
open_terms field expand_dots path [] = Ok []
open_terms field expand_dots path (list ∷ lists) =
    followed_by (children_terms field expand_dots path (held_children list.children))
    (open_terms field expand_dots (take list.path_len path) lists)

-- how many values are left in them, and how many they are
abbrev pub open_size : List OpenList → ℕ
open_size [] = 0
open_size (list ∷ lists) = suc (children_size (held_children list.children)) + open_size lists

-- ---- what a step does

-- of a child that stands below this path, and what is in it below that one: its term was taken, if it has
-- one, or it is a list with these children
abbrev pub IsBegun : {V : Type 0} → (V → V → List (List ℕ) → Type 0) → V → V → Field → Bool → List ℕ → List ℕ
    → Option (List ℕ) → Tree → Option HeldList → Type 0
IsBegun HasTaken old new field expand_dots path below key tree None =
    TakesAll HasTaken old new (child_terms field expand_dots path key tree)
IsBegun HasTaken old new field expand_dots path below key tree (Some list) =
    (new ≡ old) × (child_terms field expand_dots path key tree
    ≡ children_terms field expand_dots below (held_children list))
    × (size tree ≡ suc (children_size (held_children list)))

-- the list begins with what it was
abbrev pub ExtendsPath : List (List ℕ) → List (List ℕ) → Type 0
ExtendsPath old new = (more : List (List ℕ)) × (new ≡ old ++ more)
