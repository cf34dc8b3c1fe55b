use Rattle.std.proofs.Common.{List, ℕ, ◌++◌, ◌^◌, ◌<◌, length, sym, subst, ap, ◌∙◌, arith}
use Rattle.tv_blocks.specs.Blocks.{IsRefusedBlock}
use Rattle.tv_format.specs.WriteVersion.{written_version}
use Rattle.tv_reader.specs.Version.{version_of}
use Rattle.tv_store.specs.BlockMigration.{EncodesBlock}
use Rattle.tv_blocks.proofs.Blocks.{migration_breaks}
use Rattle.tv_blocks.proofs.migration.migrated_bytes.Goals as goal

pub returns-in-Ok-clause-ok : goal.returns-in-Ok-clause-ok
returns-in-Ok-clause-ok c =
    let m = c.in-Ok.ensures.all tt in
    record {
      documents = m.migrated.documents;
      encoded = subst (λ (l : List ℕ). EncodesBlock (version_of c.args.from) l m.migrated.documents) c.new-source.ensures m.migrated.encoded;
      written = c.into_vec.ensures ∙ m.held tt ∙ ap (λ (l : List ℕ). l ++ m.text) c.new-sink.ensures.bytes ∙ m.migrated.written;
    }

pub returns-in-Err-clause-err : goal.returns-in-Err-clause-err
returns-in-Err-clause-err c =
    let m = c.in-Err.ensures.before tt in
    let block = c.args.block.now in
    let small : length block < 2 ^ 63 = omega arith in
    subst (IsRefusedBlock (version_of c.args.from) block) (sym c.unmigrated.ensures)
    (migration_breaks (version_of c.args.from) (written_version c.args.to) block m.before m.behind _ m.next m.migrated.documents c.in-Err.failed (sym c.new-source.ensures ∙ m.joined) small m.migrated.encoded m.unmigrated)
