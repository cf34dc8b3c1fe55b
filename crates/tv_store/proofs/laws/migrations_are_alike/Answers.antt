use Rattle.tv_store.proofs.MigratedAlike.{migrated_alike}
use Rattle.tv_store.proofs.laws.migrations_are_alike.Goals as goal

pub returns : goal.returns
returns g c = λ from to begun ended other old new also result twin known told decided too first second.
    migrated_alike from to g.S.ByteSource g.K.ByteSink begun ended other old new also known told result twin decided too first second
