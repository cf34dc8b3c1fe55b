use Rattle.std.proofs.Common.{[], ◌∷◌, length, Ok, sym, subst}
use Rattle.tv_builder.specs.Parts.{some_bytes}
use Rattle.tv_builder.specs.State.{and_bytes}
use Rattle.tv_builder.specs.Builder.{state_of, HasAllBytes}
use Rattle.tv_reading.proofs.Building.{called}
use Rattle.tv_reading.proofs.Calls.{call_opens, call_lead, call_puts, call_left}
use Rattle.tv_reading.proofs.OpenBytes.{takes_bytes, bytes_trades, bytes_stand, bytes_await_more, bytes_all, end_no_text, at_end, bytes_from_end, bytes_refused}
use Rattle.tv_reading.proofs.Putting.{with_builder, stays}
use Rattle.tv_reading.proofs.States.{is_state}
use Rattle.tv_reading.proofs.reading.Reading.put_bytes.Goals as goal

pub returns-in-Err-clause-puts : goal.returns-in-Err-clause-puts
returns-in-Err-clause-puts c =
    let r = c.args.self.now in
    let w = c.requires.awaiting in
    let refused = bytes_refused r (with_builder r c.chunk.new.self) c.chunk.new.self _ _ (λ s. and_bytes s c.args.bytes.now) c.args.bytes.now (some_bytes c.args.bytes.now ∷ []) c.in-Err.error w.sound.not_failed
    (takes_bytes (state_of r.builder) c.args.missing (length c.args.bytes.now) (is_state r.builder) w.next c.requires.at_most) c.in-Err.ensures.builds c.in-Err.ensures.no_heap_full in
    rw (c.store_error.ensures) refused

pub returns-then-bytes-missing : goal.returns-then-bytes-missing
returns-then-bytes-missing c =
    let r = c.args.self.now in
    let s = state_of r.builder in
    let b = c.chunk.new.self in
    let w = c.requires.awaiting in
    let bytes = c.args.bytes.now in
    let takes = takes_bytes s c.args.missing (length bytes) (is_state r.builder) w.next c.requires.at_most in
    let mid = with_builder r b in
    let g = called r.builder b _ _ (λ s. and_bytes s bytes) (Ok c.in_default.field-0) w.sound.not_failed takes c.in_default.ensures.builds in
    let opened = call_opens r b _ _ _ (λ s. and_bytes s bytes) [] c.in_default.field-0 w takes c.in_default.ensures.builds (bytes_stand s bytes c.args.missing (is_state r.builder) w.next takes c.if-bytes-missing.true) in
    let more = stays mid opened (bytes_await_more s (state_of b) bytes takes g.state) in
    record {
      puts = call_puts r b _ _ _ (λ s. and_bytes s bytes) (some_bytes bytes ∷ []) c.in_default.field-0 mid (Ok tt) w takes c.in_default.ensures.builds (bytes_trades s bytes takes) more;
      after_error = tt;
    }

pub put_end-requires : goal.put_end-requires
put_end-requires c =
    let r = c.args.self.now in
    let s = state_of r.builder in
    let b = c.chunk.new.self in
    let w = c.requires.awaiting in
    let bytes = c.args.bytes.now in
    let takes = takes_bytes s c.args.missing (length bytes) (is_state r.builder) w.next c.requires.at_most in
    let g = called r.builder b _ _ (λ s. and_bytes s bytes) (Ok c.in_default.field-0) w.sound.not_failed takes c.in_default.ensures.builds in
    at_end r b (and_bytes s bytes) w.sound w.field g (bytes_all s bytes c.args.missing (is_state r.builder) w.next takes c.if-bytes-missing.false)

pub returns-clause-puts : goal.returns-clause-puts
returns-clause-puts c =
    let r = c.args.self.now in
    let s = state_of r.builder in
    let b = c.chunk.new.self in
    let w = c.requires.awaiting in
    let bytes = c.args.bytes.now in
    let takes = takes_bytes s c.args.missing (length bytes) (is_state r.builder) w.next c.requires.at_most in
    let g = called r.builder b _ _ (λ s. and_bytes s bytes) (Ok c.in_default.field-0) w.sound.not_failed takes c.in_default.ensures.builds in
    let all = subst HasAllBytes (sym g.state) (bytes_all s bytes c.args.missing (is_state r.builder) w.next takes c.if-bytes-missing.false) in
    bytes_from_end r (with_builder r b) c.put_end.new.self bytes (some_bytes bytes ∷ []) c.put_end.result
    (call_lead r b _ _ _ (λ s. and_bytes s bytes) (some_bytes bytes ∷ []) c.in_default.field-0 w takes c.in_default.ensures.builds (bytes_trades s bytes takes))
    (λ none. end_no_text s (state_of b) bytes takes all g.state none) c.put_end.ensures.puts

pub returns-clause-after_error : goal.returns-clause-after_error
returns-clause-after_error c =
    let r = c.args.self.now in
    let w = c.requires.awaiting in
    let takes = takes_bytes (state_of r.builder) c.args.missing (length c.args.bytes.now) (is_state r.builder) w.next c.requires.at_most in
    call_left r c.chunk.new.self _ _ _ (λ s. and_bytes s c.args.bytes.now) [] c.in_default.field-0 c.put_end.new.self c.put_end.result w takes c.in_default.ensures.builds c.put_end.ensures.after_error
