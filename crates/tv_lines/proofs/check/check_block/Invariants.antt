use Rattle.std.proofs.Common.{◌≡◌, false}
use Rattle.tv_reader.specs.Version.{version_of}
use Rattle.tv_store.proofs.BlocksSoFar.{ReadSoFar}
use Rattle.tv_store.specs.Projections.{limits_of}
use Rattle.tv_store.specs.declared.projection.Projection.TheVariants.{All}
use Rattle.tv_lines.proofs.check.check_block.Given as goal

abbrev pub invariant-loop-documents : goal.invariant-loop-documents
invariant-loop-documents g l =
    let source = g.S.ByteSource in
    record {
      projection : l.projection ≡ All l.fn.limits;
      not_failed : l.reader.failed ≡ false;
      version : l.reader.version ≡ l.fn.version;
      counted : l.reader.documents ≡ l.documents;
      stays_known : source.is_known l.initial.source → source.is_known l.source;
      failures : source.failures l.source ≡ source.failures l.initial.source;
      so_far : source.is_known l.initial.source → ReadSoFar (version_of l.fn.version) (limits_of l.projection) (source.left l.initial.source) (source.left l.source) l.documents l.reader.start;
    }
