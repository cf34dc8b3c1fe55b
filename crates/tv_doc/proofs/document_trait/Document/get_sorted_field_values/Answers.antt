use Rattle.tv_doc.proofs.Grouping.{if_ok, groups_seen}
use Rattle.tv_doc.proofs.document_trait.Document.get_sorted_field_values.Goals as goal

pub returns : goal.returns
returns g c = if_ok (λ groups is. groups_seen g.Self.Value.Value.tree _ groups.items c.in_ok-gathered.ensures is) c.grouped.result c.grouped.ensures
