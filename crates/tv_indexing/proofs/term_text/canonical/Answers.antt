use Rattle.tv_indexing.proofs.TermTexts.{canonical_text}
use Rattle.tv_indexing.proofs.term_text.canonical.Goals as goal

pub returns : goal.returns
returns c = canonical_text c.from_bits.result c.to_canonical.result c.args.number c.from_bits.ensures c.to_canonical.ensures
