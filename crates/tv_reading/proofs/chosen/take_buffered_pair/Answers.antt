use Rattle.std.proofs.Common.{sym, ◌∙◌}
use Rattle.tv_reader.specs.Version.{version_of}
use Rattle.tv_reading.proofs.ChosenPairs.{pair_buffered}
use Rattle.tv_reading.proofs.chosen.take_buffered_pair.Goals as goal

pub returns : goal.returns
returns g c = record {
  finds = pair_buffered (version_of c.args.version) c.args.fields.now c.args.document.now c.take_buffered_pairs.new.document c.in-Some.field c.take_buffered_pairs.result c.take_buffered_pairs.ensures.most c.in-Some.ensures (sym c.is_among.ensures ∙ c.if-not-is_among.false) c.take_buffered_pairs.ensures.finds;
}
