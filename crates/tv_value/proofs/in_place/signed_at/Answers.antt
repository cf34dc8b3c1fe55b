use Rattle.std.specs.Int.{w64}
use Rattle.std.proofs.lemmas.Int.{to_z-of_z}
use Rattle.tv_value.proofs.Found.{signed_found, same_signed}
use Rattle.tv_value.proofs.in_place.signed_at.Goals as goal

pub returns : goal.returns
returns c =
    let h = signed_found c.args.bytes.now c.in_ok-bits.rest.now c.in_ok-bits.bits c.cast_signed.result c.in_ok-bits.ensures c.cast_signed.ensures in
    same_signed c.args.bytes.now c.in_ok-bits.rest.now c.cast_signed.result _ h (to_z-of_z w64 c.cast_signed.result h.encoded.fits)
