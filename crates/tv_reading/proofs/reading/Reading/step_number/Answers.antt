use Rattle.std.proofs.Common.{Ok, refl, inl, arith, [], ◌∷◌}
use Rattle.std.proofs.lemmas.Result.{err_from_is_err_and}
use Rattle.tv_builder.specs.Parts.{number}
use Rattle.tv_reader.specs.Legacy.{Legacy}
use Rattle.tv_format.specs.Encoding.{NoLegacy}
use Rattle.tv_reading.proofs.WithErrors.{number_at_error}
use Rattle.tv_reading.proofs.Stepping.{number_put, some_number, one_part}
use Rattle.tv_reading.proofs.Wholes.{part_put, part_fails, still_seen}
use Rattle.tv_reading.proofs.reading.Reading.step_number.Goals as goal

pub returns-in_err-announced : goal.returns-in_err-announced
returns-in_err-announced g c = λ v seen.
    let p = err_from_is_err_and c.from_residual.result c.from_residual.ensures.1 in
    let old = c.args.self.now in
    let h = c.in_err-announced.ensures in
    rw (p.1, p.2) (part_fails g.S.ByteSource v seen seen old (λ e n may. may.0) (λ w e f. number_at_error v old w e c.requires.none f) h.finds (λ known. still_seen old _ seen) (λ known. inl (omega (arith, h.at_most))))

pub returns : goal.returns
returns g c = λ v seen.
    let old = c.args.self.now in
    let n = c.in_ok-announced.announced in
    let h = c.in_ok-announced.ensures in
    part_put g.S.ByteSource v seen seen old _ (number n ∷ []) (Ok tt)
    (λ a h. record { some = some_number h; in_pieces = inl (omega (arith, h.at_most_ten)); encoded = one_part Legacy v a (number n) h; plain = λ _. one_part NoLegacy v a (number n) h })
    h.finds (number_put old _ n c.requires.sound c.requires.none refl refl refl refl) tt (λ known. still_seen old _ seen) (λ known. inl (omega (arith, h.at_most)))
