use Rattle.std.proofs.lemmas.Result.{err_from_is_err_and}
use Rattle.tv_reader.proofs.AgreeField.{field_agrees}
use Rattle.tv_reader.proofs.Finding.{finds_any, finds_as, finds_read, finds_read_fails}
use Rattle.tv_reader.specs.Version.{version_of}
use Rattle.tv_reading.specs.Skip.{Before, ErrorBefore}
use Rattle.tv_reading.specs.declared.items.ItemKind.TheVariants as kinds
use Rattle.tv_reading.proofs.items.skip_before.Goals as goal

pub returns-in_err-take_field-in-Pair : goal.returns-in_err-take_field-in-Pair
returns-in_err-take_field-in-Pair g c =
    let p = err_from_is_err_and c.from_residual.result c.from_residual.ensures.1 in
    let v = version_of c.args.version in
    record { finds = rw (p.1, p.2, c.in-Pair.is) (finds_any (λ e n may. may.0) (finds_read_fails (λ b _. Before v kinds.Pair b) (ErrorBefore v kinds.Pair) g.met.S.ByteSource.are_bytes field_agrees (λ w r f. f) c.in_err-take_field-in-Pair.ensures.takes)) }

pub returns-in_ok-take_field-in-Pair : goal.returns-in_ok-take_field-in-Pair
returns-in_ok-take_field-in-Pair g c =
    let v = version_of c.args.version in
    record { finds = rw c.in-Pair.is (finds_as tt (λ b _. Before v kinds.Pair b) (ErrorBefore v kinds.Pair) (λ a t. (_, t)) (finds_read g.met.S.ByteSource.are_bytes field_agrees c.in_ok-take_field-in-Pair.ensures.takes)) }
