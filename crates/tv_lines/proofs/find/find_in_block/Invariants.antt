use Rattle.std.proofs.Common.{◌≡◌, ◌≤◌, ◌+◌, false}
use Rattle.tv_lines.proofs.Finds.{FoundSoFar}
use Rattle.tv_query.specs.Grammar.{QueryTree, steps_of}
use Rattle.tv_reader.specs.Version.{version_of}
use Rattle.tv_lines.proofs.find.find_in_block.Given as goal

abbrev pub invariant-loop-number : goal.invariant-loop-number
invariant-loop-number g l =
    let source = g.S.ByteSource in
    let sink = g.K.ByteSink in
    let report = g.T.Report in
    record {
      not_failed : l.reader.failed ≡ false;
      version : l.reader.version ≡ l.fn.version;
      query : l.buffers.matcher.query.now ≡ l.query;
      counted : l.reader.documents ≡ l.number;
      documents : l.found.documents ≡ l.number;
      few : l.found.found + l.found.faulty ≤ l.found.documents;
      source_is_known : source.is_known l.initial.source → source.is_known l.source;
      sink_is_known : sink.is_known l.initial.sink → sink.is_known l.sink;
      report_is_known : report.is_known l.initial.report → report.is_known l.report;
      source_failures : source.failures l.source ≡ source.failures l.initial.source;
      sink_failures : sink.failures l.sink ≡ sink.failures l.initial.sink;
      so_far : source.is_known l.initial.source → sink.is_known l.initial.sink → (tree : QueryTree) → l.query.steps.items ≡ steps_of tree
          → FoundSoFar l.schema (version_of l.fn.version) l.projection tree (source.left l.initial.source) (source.left l.source) (sink.held l.initial.sink) (sink.held l.sink)
          (report.is_known l.initial.report) (report.told l.initial.report) (report.told l.report) l.number l.reader.start l.found;
    }
