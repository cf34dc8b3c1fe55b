use Rattle.tv_base.proofs.OneCount.{same-child_counts, same-document_counts, same-greatest}
use Rattle.tv_base.proofs.laws.facets_have_one_count.Goals as goal

pub returns-clause-facets : goal.returns-clause-facets
returns-clause-facets c = same-child_counts

pub returns-clause-documents : goal.returns-clause-documents
returns-clause-documents c = same-document_counts

pub returns-clause-greatest : goal.returns-clause-greatest
returns-clause-greatest c = same-greatest
