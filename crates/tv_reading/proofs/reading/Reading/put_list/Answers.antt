use Rattle.std.proofs.Common.{[], ◌∷◌}
use Rattle.tv_builder.specs.State.{and_list, list_head}
use Rattle.tv_builder.specs.Builder.{state_of}
use Rattle.tv_builder.proofs.CallsTrade.{lists_trade}
use Rattle.tv_reading.proofs.Calls.{call_opens, call_puts, call_left, call_refused, and_list_is}
use Rattle.tv_reading.proofs.Putting.{with_builder, and_list_stands}
use Rattle.tv_reading.proofs.States.{is_state}
use Rattle.tv_reading.proofs.reading.Reading.put_list.Goals as goal

pub close_pair-requires : goal.close_pair-requires
close_pair-requires c =
    let r = c.args.self.now in
    call_opens r c.open_list.new.self _ _ _ (λ s. and_list s c.args.kind c.args.announced) [] tt c.requires c.requires.next c.in-Ok.ensures (and_list_stands (state_of r.builder) c.args.kind c.args.announced c.requires.next)

pub returns-in-Ok-clause-puts : goal.returns-in-Ok-clause-puts
returns-in-Ok-clause-puts c =
    let r = c.args.self.now in
    call_puts r c.open_list.new.self _ _ _ (λ s. and_list s c.args.kind c.args.announced) (list_head c.args.kind c.args.announced ∷ []) tt _ c.close_pair.result c.requires c.requires.next c.in-Ok.ensures (lists_trade (state_of r.builder) c.args.kind c.args.announced (is_state r.builder) c.requires.next) c.close_pair.ensures.puts

pub returns-in-Ok-clause-after_error : goal.returns-in-Ok-clause-after_error
returns-in-Ok-clause-after_error c =
    let r = c.args.self.now in
    call_left r c.open_list.new.self _ _ _ (λ s. and_list s c.args.kind c.args.announced) (list_head c.args.kind c.args.announced ∷ []) tt _ c.close_pair.result c.requires c.requires.next c.in-Ok.ensures c.close_pair.ensures.after_error

pub returns-in-Err-clause-puts : goal.returns-in-Err-clause-puts
returns-in-Err-clause-puts c =
    let r = c.args.self.now in
    let refused = call_refused r c.open_list.new.self _ _ _ (λ s. and_list s c.args.kind c.args.announced) (list_head c.args.kind c.args.announced ∷ []) c.in-Err.error (with_builder r c.open_list.new.self) c.requires c.requires.next c.in-Err.ensures (and_list_is (state_of r.builder) c.args.kind c.args.announced (is_state r.builder) c.requires.next) (lists_trade (state_of r.builder) c.args.kind c.args.announced (is_state r.builder) c.requires.next) in
    rw (c.store_error.ensures) refused
