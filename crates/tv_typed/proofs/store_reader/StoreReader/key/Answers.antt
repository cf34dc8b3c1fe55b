use Rattle.std.proofs.Common.{refl}
use Rattle.tv_typed.proofs.ListSteps.{key_reads}
use Rattle.tv_typed.proofs.store_reader.StoreReader.key.Goals as goal

pub returns : goal.returns
returns g c =
    let t = c.take_key-answer.ensures in
    key_reads c.args.self.now _ c.take_key-answer.result c.in_ok-go_on.ensures.ok t.finds refl refl refl refl c.is_err-self.ensures.value
