use Rattle.std.proofs.Common.{◌≡◌, [], ◌∷◌, Ok, arith, sym, subst}
use Rattle.tv_builder.specs.Parts.{bytes_head}
use Rattle.tv_builder.specs.State.{and_head}
use Rattle.tv_builder.specs.Builder.{state_of, HasContent}
use Rattle.tv_reading.proofs.Building.{called}
use Rattle.tv_reading.proofs.Calls.{call_opens, call_lead, call_puts, call_left, call_refused, and_head_is}
use Rattle.tv_reading.proofs.OpenBytes.{head_trades, head_stands, head_awaits_more, head_all, head_content, at_end, puts_from_end}
use Rattle.tv_reading.proofs.Putting.{with_builder, stays}
use Rattle.tv_reading.proofs.States.{is_state}
use Rattle.tv_reading.proofs.reading.Reading.put_bytes_head.Goals as goal

pub returns-in-Err-clause-puts : goal.returns-in-Err-clause-puts
returns-in-Err-clause-puts c =
    let r = c.args.self.now in
    let s = state_of r.builder in
    let e = c.requires.next in
    let refused = call_refused r c.begin_bytes.new.self _ _ _ (λ s. and_head s c.args.kind c.args.announced) (bytes_head c.args.kind c.args.announced ∷ []) c.in-Err.error (with_builder r c.begin_bytes.new.self) c.requires e c.in-Err.ensures
    (and_head_is s c.args.kind c.args.announced (is_state r.builder) e) (head_trades s c.args.kind c.args.announced e) in
    rw (c.store_error.ensures) refused

pub returns-then-announced-gt0 : goal.returns-then-announced-gt0
returns-then-announced-gt0 c =
    let r = c.args.self.now in
    let s = state_of r.builder in
    let b = c.begin_bytes.new.self in
    let e = c.requires.next in
    let mid = with_builder r b in
    let g = called r.builder b _ _ (λ s. and_head s c.args.kind c.args.announced) (Ok c.in_default.field-0) c.requires.sound.not_failed e c.in_default.ensures in
    let opened = call_opens r b _ _ _ (λ s. and_head s c.args.kind c.args.announced) [] c.in_default.field-0 c.requires e c.in_default.ensures (head_stands s c.args.kind c.args.announced e c.if-announced-gt0.true) in
    let more = stays mid opened (head_awaits_more s (state_of b) c.args.kind c.args.announced g.state e) in
    record {
      puts = call_puts r b _ _ _ (λ s. and_head s c.args.kind c.args.announced) (bytes_head c.args.kind c.args.announced ∷ []) c.in_default.field-0 mid (Ok tt) c.requires e c.in_default.ensures (head_trades s c.args.kind c.args.announced e) more;
      after_error = tt;
    }

pub put_end-requires : goal.put_end-requires
put_end-requires c =
    let r = c.args.self.now in
    let b = c.begin_bytes.new.self in
    let e = c.requires.next in
    let g = called r.builder b _ _ (λ s. and_head s c.args.kind c.args.announced) (Ok c.in_default.field-0) c.requires.sound.not_failed e c.in_default.ensures in
    let none : c.args.announced ≡ 0 = omega (arith, c.if-announced-gt0.false) in
    at_end r b (and_head (state_of r.builder) c.args.kind c.args.announced) c.requires.sound c.requires.field g (head_all (state_of r.builder) c.args.kind c.args.announced e none)

pub returns-clause-puts : goal.returns-clause-puts
returns-clause-puts c =
    let r = c.args.self.now in
    let s = state_of r.builder in
    let b = c.begin_bytes.new.self in
    let e = c.requires.next in
    let g = called r.builder b _ _ (λ s. and_head s c.args.kind c.args.announced) (Ok c.in_default.field-0) c.requires.sound.not_failed e c.in_default.ensures in
    let content = subst HasContent (sym g.state) (head_content s c.args.kind c.args.announced e) in
    puts_from_end r (with_builder r b) c.put_end.new.self (bytes_head c.args.kind c.args.announced ∷ []) c.put_end.result
    (call_lead r b _ _ _ (λ s. and_head s c.args.kind c.args.announced) (bytes_head c.args.kind c.args.announced ∷ []) c.in_default.field-0 c.requires e c.in_default.ensures (head_trades s c.args.kind c.args.announced e)) content c.put_end.ensures.puts

pub returns-clause-after_error : goal.returns-clause-after_error
returns-clause-after_error c =
    let r = c.args.self.now in
    call_left r c.begin_bytes.new.self _ _ _ (λ s. and_head s c.args.kind c.args.announced) [] c.in_default.field-0 c.put_end.new.self c.put_end.result c.requires c.requires.next c.in_default.ensures c.put_end.ensures.after_error
