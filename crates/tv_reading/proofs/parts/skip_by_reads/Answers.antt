use Rattle.std.proofs.Common.{arith, ℕ, List, ◌≡◌, ◌+◌, length}
use Rattle.std.proofs.lemmas.Result.{err_from_is_err_and}
use Rattle.tv_base.specs.ErrorInPart.{ErrorInBytes}
use Rattle.tv_base.specs.declared.cause.Cause.TheVariants.{UnexpectedEnd}
use Rattle.tv_format.specs.InputError.{Corrupt, corrupted}
use Rattle.tv_reader.specs.Error.{store_stop}
use Rattle.tv_reader.proofs.Finding.{finds_as, finds_fails, finds_nothing}
use Rattle.tv_reading.proofs.Passing.{finds_after, bytes_ended, more_bytes, piece_passed}
use Rattle.tv_reading.proofs.parts.skip_by_reads.Goals as goal
use Rattle.tv_reader.specs.Finds.{Nothing}

pub loop-missing-init : goal.loop-missing-init
loop-missing-init g c =
    record { finds = finds_nothing store_stop (corrupted UnexpectedEnd) _ _ _ c.args.source.now c.args.count.now (tt {0}) (λ (b : List ℕ) _. length b + c.args.len ≡ c.args.len) Nothing (omega arith) }

pub returns-in_err-skip_piece : goal.returns-in_err-skip_piece
returns-in_err-skip_piece g c =
    let p = err_from_is_err_and c.from_residual.result c.from_residual.ensures.1 in
    let n = c.args.len in
    let most = c.min-most.result in
    let h = finds_fails (λ (b : List ℕ) _. ⊥) (Corrupt (ErrorInBytes most)) (λ w r f. f) c.in_err-skip_piece.ensures.finds in
    record { finds = rw (p.1, p.2) (finds_after (λ b _. length b ≡ n) (Corrupt (ErrorInBytes n)) (bytes_ended most) (λ a b y r s. absurd s) (λ a w r s f. more_bytes n a w r _ most s (omega arith) f) c.loop-missing.invariant.finds h) }

pub loop-missing-preserved : goal.loop-missing-preserved
loop-missing-preserved g c = record { finds = piece_passed c.args.len _ c.min-most.result (omega arith) c.loop-missing.invariant.finds c.in_ok-skip_piece.ensures.finds }

pub returns : goal.returns
returns g c = record { finds = finds_as (tt {0}) _ _ (λ a s. omega (arith, s)) c.loop-missing.invariant.finds }
