use Rattle.std.proofs.Common.{◌++◌, arith, ap, ◌∙◌, inl}
use Rattle.std.proofs.lemmas.Result.{err_from_is_err_and}
use Rattle.tv_base.proofs.AgreeWidths.{more_agrees}
use Rattle.tv_reader.specs.Error.{StoreMayStop}
use Rattle.tv_reader.proofs.Finding.{finds_as, finds_part, finds_part_fails, raised_roomy}
use Rattle.tv_reading.specs.Prefix.{IsMalformedNext}
use Rattle.tv_reading.specs.Steps.{Stepped}
use Rattle.tv_reading.proofs.Wholes.{Piece, some_missing, piece_ends, part_fails, bytes_put, still_seen}
use Rattle.tv_reading.proofs.reading.Reading.step_bytes.Goals as goal

pub returns-in_err-take_pieces : goal.returns-in_err-take_pieces
returns-in_err-take_pieces g c = λ v seen.
    let p = err_from_is_err_and c.from_residual.result c.from_residual.ensures.1 in
    let old = c.args.self.now in
    let h = c.in_err-take_pieces.ensures in
    let fails = finds_part_fails {Z = Unit {0}} (λ b _. Stepped v seen old old b) (IsMalformedNext v old) raised_roomy g.met.S.ByteSource.are_bytes (more_agrees c.clear.new.self.items c.from.result)
    (λ w e f. piece_ends v old c.from.result c.args.missing w e c.requires.awaiting (omega (arith, c.from.ensures, c.min-len.ensures)) f) h.takes in
    rw (p.1, p.2) (part_fails g.S.ByteSource v seen seen old (λ e n may. may) (λ w e f. f) fails (λ known. still_seen old _ seen) (λ known. inl (omega (arith, h.at_most, c.from.ensures, c.min-len.ensures))))

pub returns : goal.returns
returns g c = λ v seen.
    let old = c.args.self.now in
    let n = c.from.result in
    let bytes = c.as_slice.result.now in
    let h = c.in_ok-take_pieces in
    let put = c.put_bytes.ensures in
    let some = some_missing old c.args.missing c.requires.awaiting in
    let part = finds_part g.met.S.ByteSource.are_bytes (more_agrees c.clear.new.self.items n) h.ensures.takes in
    let piece = finds_as {May = StoreMayStop} h.field-0 (λ a _. Piece n bytes a) (λ w r. ⊥) (λ a s. (s.0, s.1, c.as_slice.ensures.value ∙ s.2 ∙ ap (λ z. z ++ s.0) c.clear.ensures.items)) part in
    bytes_put g.S.ByteSource v seen old c.put_bytes.new.self n c.args.missing bytes c.put_bytes.result c.requires.awaiting (omega (arith, some, c.from.ensures, c.min-len.ensures)) (omega (arith, c.from.ensures, c.min-len.ensures))
    (omega (arith, c.from.ensures, c.min-len.ensures)) piece put.puts put.after_error (omega (arith, h.ensures.at_most, c.from.ensures, c.min-len.ensures))
