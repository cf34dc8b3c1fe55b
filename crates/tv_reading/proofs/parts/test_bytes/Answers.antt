use Rattle.std.proofs.Common.{ℕ, List, subst}
use Rattle.std.specs.Prelude.{IsTrue, IsUtf8, ◌↔◌}
use Rattle.std.proofs.lemmas.Result.{err_from_is_err_and}
use Rattle.tv_base.specs.ErrorInPart.{ErrorInBytes}
use Rattle.tv_base.proofs.AgreeWidths.{more_agrees}
use Rattle.tv_format.specs.InputError.{Corrupt, corrupt}
use Rattle.tv_reader.proofs.Finding.{finds_as, finds_part, finds_part_fails, raised_roomy}
use Rattle.tv_reading.specs.Skip.{Tested}
use Rattle.tv_reading.proofs.Passing.{finds_first, bytes_ended, tested_from}
use Rattle.tv_reading.proofs.parts.test_bytes.Goals as goal

pub returns-in_err-take_pieces : goal.returns-in_err-take_pieces
returns-in_err-take_pieces g c =
    let p = err_from_is_err_and c.from_residual.result c.from_residual.ensures.1 in
    let n = c.args.len in
    let h = finds_part_fails (Tested n) (Corrupt (ErrorInBytes n)) raised_roomy g.met.S.ByteSource.are_bytes (more_agrees _ n) (λ w c f. corrupt f) c.in_err-take_pieces.ensures.takes in
    record { finds = rw (p.1, p.2) (finds_first (bytes_ended n) (λ a r. r) c.in_default.ensures.finds h) }

pub returns : goal.returns
returns g c =
    let n = c.args.len in
    let h = finds_as c.is_utf8.result (Tested n) (Corrupt (ErrorInBytes n)) (λ a t. tested_from n a _ _ _ c.clear.ensures.items t (subst (λ (l : List ℕ). IsTrue c.is_utf8.result ↔ IsUtf8 l) c.as_slice.ensures.value c.is_utf8.ensures)) (finds_part g.met.S.ByteSource.are_bytes (more_agrees _ n) c.in_ok-take_pieces.ensures.takes) in
    record { finds = finds_first (bytes_ended n) (λ a r. r) c.in_default.ensures.finds h }
