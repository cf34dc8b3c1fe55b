use Rattle.std.proofs.Common.{◌≡◌, false}
use Rattle.tv_reader.specs.Version.{version_of}
use Rattle.tv_lines.proofs.Prints.{PrintedSoFar}
use Rattle.tv_lines.proofs.export.export_block.Given as goal

abbrev pub invariant-loop-documents : goal.invariant-loop-documents
invariant-loop-documents g l =
    let source = g.S.ByteSource in
    let sink = g.K.ByteSink in
    record {
      not_failed : l.reader.failed ≡ false;
      version : l.reader.version ≡ l.fn.version;
      counted : l.reader.documents ≡ l.documents;
      source_is_known : source.is_known l.initial.source → source.is_known l.source;
      sink_is_known : sink.is_known l.initial.sink → sink.is_known l.sink;
      source_failures : source.failures l.source ≡ source.failures l.initial.source;
      sink_failures : sink.failures l.sink ≡ sink.failures l.initial.sink;
      so_far : source.is_known l.initial.source → sink.is_known l.initial.sink
          → PrintedSoFar l.schema l.layout (version_of l.fn.version) l.projection (source.left l.initial.source) (source.left l.source) (sink.held l.initial.sink) (sink.held l.sink) l.documents l.reader.start;
    }
