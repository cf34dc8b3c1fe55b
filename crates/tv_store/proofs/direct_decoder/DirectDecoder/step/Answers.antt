use Rattle.std.proofs.Common.{arith}
use Rattle.tv_reader.specs.Version.{version_of}
use Rattle.tv_reading.proofs.Paying.{paid_now, paid_left, paid_next}
use Rattle.tv_store.proofs.direct_decoder.DirectDecoder.step.Goals as goal

pub returns-then-is_done-clause-paid : goal.returns-then-is_done-clause-paid
returns-then-is_done-clause-paid g c = λ told not_failed bytes p none.
    let d = c.args.self.now in
    paid_now (version_of d.version) d.reading bytes _ (d.sound not_failed) p (omega arith)

pub returns-in-Err-clause-paid : goal.returns-in-Err-clause-paid
returns-in-Err-clause-paid g c = λ told not_failed bytes p none.
    let d = c.args.self.now in
    let h = c.in-Err.ensures in
    paid_left (version_of d.version) d.reading c.advance-read.new.self bytes _ (d.sound not_failed) p (omega arith) h.after_error

pub returns-then-is_done-2-clause-paid : goal.returns-then-is_done-2-clause-paid
returns-then-is_done-2-clause-paid g c = λ told not_failed bytes p none.
    let d = c.args.self.now in
    let h = c.in_default.ensures in
    paid_next c.in_default.field-0 (version_of d.version) c.advance-read.new.legacy_seen d.reading c.advance-read.new.self bytes h.sound p none h.finds told

pub returns-else-is_done-2-clause-paid : goal.returns-else-is_done-2-clause-paid
returns-else-is_done-2-clause-paid g c = λ told not_failed bytes p none.
    let d = c.args.self.now in
    let h = c.in_default.ensures in
    paid_next c.in_default.field-0 (version_of d.version) c.advance-read.new.legacy_seen d.reading c.advance-read.new.self bytes h.sound p none h.finds told
