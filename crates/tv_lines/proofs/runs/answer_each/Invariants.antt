use Rattle.std.proofs.Common.{◌≡◌, ◌++◌}
use Rattle.tv_lines.specs.Reader.{unread, most_left}
use Rattle.tv_base.specs.Stop.{Taken}
use Rattle.tv_lines.proofs.Progress.{Answered}
use Rattle.tv_lines.proofs.runs.answer_each.Given as goal

abbrev pub invariant-lines : goal.invariant-lines
invariant-lines g l =
    let source = g.S.ByteSource in
    let sink = g.K.ByteSink in
    record {
      so_far : source.is_known l.initial.source → sink.is_known l.initial.sink
          → Answered l.schema (unread l.initial.reader ++ source.left l.initial.source) (unread l.reader ++ source.left l.source) (sink.held l.initial.sink) (sink.held l.sink);
      source_is_known : source.is_known l.initial.source → source.is_known l.source;
      sink_is_known : sink.is_known l.initial.sink → sink.is_known l.sink;
      source_failures : source.failures l.source ≡ source.failures l.initial.source;
      sink_failures : sink.failures l.sink ≡ sink.failures l.initial.sink;
      taken : source.is_known l.initial.source → Taken (source.left l.initial.source) (source.left l.source) l.initial.reader.count l.reader.count;
    }

abbrev pub decreases-lines : goal.decreases-lines
decreases-lines g l = most_left l.reader
