-- The calls for the parts of a value, one after the other: a list opens, and then come its children.
use Rattle.tv_format.specs.Tree.{Tree, leaf, array, object, Elements, no_elements, element, Entries}
use Rattle.tv_format.specs.Tree.{no_entries, entry, element_count, entry_count}
use Rattle.tv_builder.specs.declared.kinds.ListKind.TheVariants.{Array, Object}
use Rattle.tv_builder.specs.State.{State, and_value, and_list, and_key}

abbrev mutual
  -- what they make of a state
  pub parts_called : State → Tree → State
  parts_called state (leaf l) = and_value state (leaf l)
  parts_called state (array ts) = elements_called (and_list state Array (element_count ts)) ts
  parts_called state (object es) = entries_called (and_list state Object (entry_count es)) es

  pub elements_called : State → Elements → State
  elements_called state no_elements = state
  elements_called state (element t ts) = elements_called (parts_called state t) ts

  pub entries_called : State → Entries → State
  entries_called state no_entries = state
  entries_called state (entry k t es) = entries_called (parts_called (and_key state k) t) es
