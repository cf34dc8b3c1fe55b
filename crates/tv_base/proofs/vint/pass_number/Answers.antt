use Rattle.tv_base.proofs.Lending.{number_passed}
use Rattle.tv_base.proofs.vint.pass_number.Goals as goal

pub returns-then-pass-clause-bytes : goal.returns-then-pass-clause-bytes
returns-then-pass-clause-bytes g c = λ told.
    number_passed _ _ c.buffered.result.now c.in_ok-number.number c.in_ok-number.len (g.met.S.ByteSource.are_bytes _ told) (c.buffered.ensures told) c.in_ok-number.ensures.within c.in_ok-number.ensures.found (c.if-pass.ensures.bytes told)
