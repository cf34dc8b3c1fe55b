use Rattle.std.proofs.Common.{◌≡◌, ℕ, length, ◌∙◌, subst}
use Rattle.std.proofs.lemmas.List.{length-take-le}
use Rattle.std.proofs.lemmas.Result.{err_from_is_err_and}
use Rattle.tv_base.specs.ErrorInPart.{ErrorInBytes}
use Rattle.tv_base.proofs.AgreeWidths.{bytes_agree}
use Rattle.tv_base.proofs.TakeSteps.{lean}
use Rattle.tv_format.specs.InputError.{Corrupt, corrupt, corrupted}
use Rattle.tv_reader.proofs.Finding.{finds_as, finds_part, finds_part_fails, raised_roomy}
use Rattle.tv_reading.proofs.parts.skip_piece.Goals as goal

pub returns-in_err-take : goal.returns-in_err-take
returns-in_err-take g c =
    let p = err_from_is_err_and c.from_residual.result c.from_residual.ensures.1 in
    let n = c.args.len in
    record { finds = rw (p.1, p.2) (finds_part_fails (λ b _. length b ≡ n) (Corrupt (ErrorInBytes n)) raised_roomy g.met.S.ByteSource.are_bytes (bytes_agree _) (λ w d f. subst (λ (m : ℕ). Corrupt (ErrorInBytes m) w (corrupted d)) (length-take-le _ _ c.requires) (corrupt f)) (lean c.in_err-take.ensures.takes)) }

pub returns : goal.returns
returns g c =
    let n = c.args.len in
    record { finds = finds_as (tt {0}) (λ b _. length b ≡ n) (Corrupt (ErrorInBytes n)) (λ a t. t.0 ∙ length-take-le _ _ c.requires) (finds_part g.met.S.ByteSource.are_bytes (bytes_agree _) c.in_ok-take.ensures.takes) }
