use Rattle.tv_doc.proofs.laws.heaps_are_written_in_order.Goals as goal

pub returns : goal.returns
returns c = λ d. d.values.bytes
