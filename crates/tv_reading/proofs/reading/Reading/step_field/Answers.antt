use Rattle.std.proofs.Common.{Ok, inl, arith, [], ◌∷◌, refl}
use Rattle.std.proofs.lemmas.Result.{err_from_is_err_and}
use Rattle.tv_base.proofs.Numbers.{length-fixed}
use Rattle.tv_builder.specs.Parts.{field}
use Rattle.tv_reader.specs.Legacy.{Legacy}
use Rattle.tv_reader.proofs.AgreeField.{field_agrees}
use Rattle.tv_reader.proofs.Finding.{finds_read, finds_read_fails}
use Rattle.tv_format.specs.Encoding.{NoLegacy}
use Rattle.tv_reading.specs.Prefix.{IsMalformedNext}
use Rattle.tv_reading.specs.Steps.{Stepped}
use Rattle.tv_reading.proofs.WithErrors.{field_at_error}
use Rattle.tv_reading.proofs.Stepping.{field_put, one_part}
use Rattle.tv_reading.proofs.Wholes.{part_put, part_fails, still_seen}
use Rattle.tv_reading.proofs.reading.Reading.step_field.Goals as goal

pub returns-in_err-field : goal.returns-in_err-field
returns-in_err-field g c = λ v seen.
    let p = err_from_is_err_and c.from_residual.result c.from_residual.ensures.1 in
    let old = c.args.self.now in
    let h = c.in_err-field.ensures in
    let fails = finds_read_fails {Z = Unit {0}} (λ b _. Stepped v seen old old b) (IsMalformedNext v old) g.met.S.ByteSource.are_bytes field_agrees (λ w e f. field_at_error v old w e c.requires.sound c.requires.none c.requires.lacks f) h.takes in
    rw (p.1, p.2) (part_fails g.S.ByteSource v seen seen old (λ e n may. may.0) (λ w e f. f) fails (λ known. still_seen old _ seen) (λ known. inl (omega (arith, h.at_most))))

pub returns : goal.returns
returns g c = λ v seen.
    let old = c.args.self.now in
    let f = c.in_ok-field.field in
    let h = c.in_ok-field.ensures in
    part_put g.S.ByteSource v seen seen old _ (field f ∷ []) (Ok tt)
    (λ a h. record { some = omega (arith, length-fixed h); in_pieces = inl (omega (arith, length-fixed h)); encoded = one_part Legacy v a (field f) h; plain = λ _. one_part NoLegacy v a (field f) h })
    (finds_read g.met.S.ByteSource.are_bytes field_agrees h.takes) (field_put old _ f c.requires.sound c.requires.none c.requires.lacks refl refl refl refl) tt (λ known. still_seen old _ seen) (λ known. inl (omega (arith, h.at_most)))
