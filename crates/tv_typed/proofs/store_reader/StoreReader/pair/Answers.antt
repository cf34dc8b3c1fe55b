use Rattle.std.proofs.lemmas.Result.{err_from_is_err_and}
use Rattle.tv_reader.specs.Version.{version_of}
use Rattle.tv_typed.proofs.DocumentSteps.{pair_found, pair_field_fails, pair_value_fails}
use Rattle.tv_typed.proofs.DeserializeSteps.{reads_calm}
use Rattle.tv_typed.proofs.DepthSteps.{deep_behind}
use Rattle.tv_typed.specs.Depths.{AtValue}
use Rattle.tv_reader.proofs.DepthSteps.{err_of}
use Rattle.std.proofs.Common.{refl}
use Rattle.tv_typed.proofs.store_reader.StoreReader.pair.Goals as goal

pub returns-in_err-field : goal.returns-in_err-field
returns-in_err-field g c =
    let p = err_from_is_err_and c.from_residual.result c.from_residual.ensures.1 in
    let V = g.V.ValueDeserialize in
    let r = c.in_err-field.ensures.reads in
    rw (p.1, p.2) (record { deserializes = pair_field_fails V.is V.refused (version_of c.args.self.now.version) r; marks_failure = r.marks_failure; deep = λ o t is. absurd (reads_calm _ refl r (err_of _ _ is)); within = λ o t is. absurd cc })

pub returns-in_err-value : goal.returns-in_err-value
returns-in_err-value g c =
    let p = err_from_is_err_and c.from_residual-in_err-value.result c.from_residual-in_err-value.ensures.1 in
    let V = g.V.ValueDeserialize in
    let first = c.in_ok-field.ensures.reads in
    let r = c.in_err-value.ensures in
    let deep = deep_behind _ (λ v l. AtValue V.deep v l) first (λ o t is. r.deep o t (err_of _ _ is)) in
    rw (p.1, p.2) (record { deserializes = pair_value_fails V.is V.refused first r.deserializes; marks_failure = r.marks_failure; deep = λ o t is. let x = deep o t is in (c.in_ok-field.field, _, x.0, x.1); within = λ o t is. absurd cc })

pub returns : goal.returns
returns g c =
    let V = g.V.ValueDeserialize in
    let first = c.in_ok-field.ensures.reads in
    let r = c.in_ok-value.ensures in
    let within = deep_behind _ (λ v l. AtValue V.within v l) first (λ o t is. r.within o t is) in
    record { deserializes = pair_found V.is V.refused c.from_field_id.result c.from_field_id.ensures first r.deserializes; marks_failure = r.marks_failure; deep = λ o t is. absurd cc; within = λ o t is. let x = within o t refl in (c.in_ok-field.field, _, x.0, x.1) }
