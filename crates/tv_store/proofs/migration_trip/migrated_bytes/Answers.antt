use Rattle.std.proofs.Common.{◌∙◌, ap, length, refl, sym, subst, arith, rules}
use Rattle.tv_reader.specs.Version.{version_of}
use Rattle.tv_format.specs.Short.{IsDocument}
use Rattle.tv_store.proofs.Migrations.{transcribed, all_migrated, only_memory}
use Rattle.tv_store.proofs.migration_trip.migrated_bytes.Goals as goal

pub returns-in-Ok-clause-valid : goal.returns-in-Ok-clause-valid
returns-in-Ok-clause-valid c = λ d rest begins.
    let m = (transcribed c.in-Ok.ensures refl tt tt).2 in
    let joined = sym m.read.joined ∙ c.new-source.ensures ∙ begins.joined in
    let one = c.documents_have_one_reading.ensures (version_of c.args.from) m.read.prefix begins.prefix _ rest m.document d m.read.encoded begins.encoded joined in
    subst IsDocument one.1 m.valid

pub returns-in-Ok-clause-written : goal.returns-in-Ok-clause-written
returns-in-Ok-clause-written c = λ d room.
    let left = c.new-source.ensures in
    let begins = room.1.0 in
    let a = all_migrated c.in-Ok.ensures refl (tt, omega (arith, ap length left)) tt d begins.prefix room.0 (left ∙ begins.joined) begins.encoded room.1.1 in
    search (rules, a.1)

pub memory_error-requires : goal.memory_error-requires
memory_error-requires c =
    let left = c.new-source.ensures in
    let begins = c.requires.1.1.0 in
    only_memory c.in-Err.ensures c.in-Err.error refl (tt, omega (arith, ap length left)) c.requires.0 begins.prefix c.requires.1.0 (left ∙ begins.joined) begins.encoded c.requires.1.1.1 refl c.migrate.new.sink.memory
