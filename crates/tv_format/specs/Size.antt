-- How many leaves and lists a value has: each child has fewer than its parent.
use Rattle.std.specs.Prelude.{ℕ, suc, ◌+◌}
use Rattle.tv_format.specs.Tree.{Tree, leaf, array, object, Elements, no_elements, element, Entries}
use Rattle.tv_format.specs.Tree.{no_entries, entry}

abbrev mutual
  pub size : Tree → ℕ
  size (leaf l) = 1
  size (array ts) = suc (elements_size ts)
  size (object es) = suc (entries_size es)

  pub elements_size : Elements → ℕ
  elements_size no_elements = 0
  elements_size (element t ts) = suc (size t + elements_size ts)

  pub entries_size : Entries → ℕ
  entries_size no_entries = 0
  entries_size (entry k t es) = suc (size t + entries_size es)
