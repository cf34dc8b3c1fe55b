use Rattle.std.proofs.Common.{◌≡◌, ◌+◌, ◌≤◌}
use Rattle.tv_lines.specs.Importing.{left_to}
use Rattle.tv_lines.proofs.WholeImports.{ImportedSoFar}
use Rattle.tv_lines.proofs.imports.import_lines.Given as goal

abbrev pub invariant-loop-lines : goal.invariant-loop-lines
invariant-loop-lines g l =
    let source = g.S.ByteSource in
    let sink = g.K.ByteSink in
    let report = g.T.Report in
    record {
      rules : l.importer.rules ≡ l.initial.importer.rules;
      counted : l.imported.stored + l.imported.refused ≡ l.lines;
      within : l.imported.unsearchable ≤ l.imported.stored;
      source_is_known : source.is_known l.initial.source → source.is_known l.source;
      sink_is_known : sink.is_known l.initial.sink → sink.is_known l.sink;
      report_is_known : report.is_known l.initial.report → report.is_known l.report;
      source_failures : source.failures l.source ≡ source.failures l.initial.source;
      sink_failures : sink.failures l.sink ≡ sink.failures l.initial.sink;
      so_far : source.is_known l.initial.source → sink.is_known l.initial.sink
          → ImportedSoFar l.schema l.initial.importer.rules (left_to l.initial.importer (source.left l.initial.source)) (left_to l.importer (source.left l.source)) (sink.held l.initial.sink) (sink.held l.sink) (report.is_known l.initial.report) (report.told l.initial.report) (report.told l.report) l.lines l.imported;
    }
