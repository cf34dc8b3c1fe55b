use Rattle.std.proofs.Common.{◌≡◌, false}
use Rattle.tv_format.specs.WriteVersion.{written_version}
use Rattle.tv_reader.specs.Version.{version_of}
use Rattle.tv_store.proofs.BlockMigration.{MigratedSoFar}
use Rattle.tv_store.proofs.block_migration.migrate_block.Given as goal

abbrev pub invariant-loop-document : goal.invariant-loop-document
invariant-loop-document g l =
    let source = g.S.ByteSource in
    let sink = g.K.ByteSink in
    record {
      not_failed : l.reader.failed ≡ false;
      version : l.reader.version ≡ l.fn.from;
      counted : l.reader.documents ≡ l.document;
      source_is_known : source.is_known l.initial.source → source.is_known l.source;
      sink_is_known : sink.is_known l.initial.sink → sink.is_known l.sink;
      source_failures : source.failures l.source ≡ source.failures l.initial.source;
      sink_failures : sink.failures l.sink ≡ sink.failures l.initial.sink;
      so_far : source.is_known l.initial.source → MigratedSoFar (version_of l.fn.from) (written_version l.fn.to) (source.left l.initial.source) (source.left l.source) l.document l.reader.start sink l.initial.sink l.sink;
    }
