-- A map as an object.
use Rattle.std.specs.Prelude.{ℕ, List, map, String}
use Rattle.std.specs.BTreeMap.{BTreeMap}
use Rattle.std.specs.declared.alloc.Global.{Global}
use Rattle.tv_value.specs.Owned.{owned_entries, owned_tree}
use Rattle.tv_format.specs.Tree.{Tree, object, entries}
use Rattle.tv_value.specs.declared.owned_value.OwnedValue.{OwnedValue}
use Rattle.tv_doc.specs.declared.map_value.MapValue.{MapValue}
use Rattle.tv_doc.specs.declared.map_value.MapValue.TheVariants as values
use Rattle.tv_doc.specs.declared.map_value.MapArrayIter.{MapArrayIter}
use Rattle.tv_doc.specs.declared.map_value.MapObjectIter.{MapObjectIter}
use Rattle.tv_doc.specs.declared.map_value.MapObjectIter.TheVariants as members

-- the object of the map's entries, in the order of the keys
abbrev pub map_tree : BTreeMap (String Global) OwnedValue → Tree
map_tree m = object (entries (owned_entries m.entries))

abbrev pub map_value_tree : MapValue → Tree
map_value_tree (values.Map m) = map_tree m.now
map_value_tree (values.Owned v) = owned_tree v.now

-- what is left of an array, and of a map or an object
abbrev pub items_left : MapArrayIter → List Tree
items_left s = map owned_tree s.items.items.now

abbrev pub members_left : MapObjectIter → List (List ℕ × Tree)
members_left (members.Map it) = owned_entries it
members_left (members.Owned it) = owned_entries it.members.now
