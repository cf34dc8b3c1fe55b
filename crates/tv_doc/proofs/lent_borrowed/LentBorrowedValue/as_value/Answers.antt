use Rattle.std.proofs.Common.{ap, sym, ◌∙◌, map}
use Rattle.tv_format.specs.Tree.{array, object, elements, entries}
use Rattle.tv_doc.proofs.LentBorrowed.{json_tree_of, json_entries, lent_array, lent_object}
use Rattle.tv_doc.proofs.lent_borrowed.LentBorrowedValue.as_value.Goals as goal

pub returns-in-Array : goal.returns-in-Array
returns-in-Array c =
    ap (λ vs. array (elements (map json_tree_of vs))) (c.iter.ensures.rest ∙ c.deref.ensures.value) ∙ lent_array c.in-Array.items ∙ ap json_tree_of (sym c.in-Array.is)

pub returns-in-Object : goal.returns-in-Object
returns-in-Object c =
    ap (λ ms. object (entries (json_entries ms))) (c.iter-in-Object.ensures.rest ∙ c.deref-in-Object.ensures.value) ∙ lent_object c.in-Object.members ∙ ap json_tree_of (sym c.in-Object.is)
