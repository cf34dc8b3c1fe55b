use Rattle.std.proofs.Common.{[], ◌∷◌, inl, arith}
use Rattle.std.proofs.lemmas.Result.{err_from_is_err_and}
use Rattle.tv_builder.specs.Parts.{bytes_head}
use Rattle.tv_builder.specs.declared.kinds.BytesKind.TheVariants.{Key}
use Rattle.tv_reader.specs.Version.{version_of}
use Rattle.tv_reading.proofs.WithErrors.{key_at_error}
use Rattle.tv_reading.proofs.Stepping.{key_part}
use Rattle.tv_reading.proofs.Wholes.{part_put, part_fails, still_seen}
use Rattle.tv_reading.proofs.reading.Reading.step_key.Goals as goal

pub returns-in_err-len : goal.returns-in_err-len
returns-in_err-len g c = λ seen.
    let p = err_from_is_err_and c.from_residual.result c.from_residual.ensures.1 in
    let v = version_of c.args.version in
    let old = c.args.self.now in
    let h = c.in_err-len.ensures in
    rw (p.1, p.2) (part_fails g.S.ByteSource v seen seen old (λ e n may. may.0) (λ w e f. key_at_error v old w e c.requires f) h.finds (λ known. still_seen old _ seen) (λ known. inl (omega (arith, h.at_most))))

pub returns : goal.returns
returns g c = λ seen.
    let v = version_of c.args.version in
    let old = c.args.self.now in
    let n = c.in_ok-len.len in
    let h = c.in_ok-len.ensures in
    let put = c.put_bytes_head.ensures in
    part_put g.S.ByteSource v seen seen old c.put_bytes_head.new.self (bytes_head Key n ∷ []) c.put_bytes_head.result (λ a h. key_part v seen old n a h) h.finds put.puts put.after_error (λ known. still_seen old _ seen) (λ known. inl (omega (arith, h.at_most)))
