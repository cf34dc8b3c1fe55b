use Rattle.tv_reading.proofs.OpenBytes.{end_opens, end_left, end_refused, puts_end}
use Rattle.tv_reading.proofs.Putting.{with_builder}
use Rattle.tv_reading.proofs.reading.Reading.put_end.Goals as goal

pub close_pair-requires : goal.close_pair-requires
close_pair-requires c = (end_opens c.args.self.now c.end_bytes.new.self _ c.requires c.in-Ok.ensures).open_is

pub returns-in-Ok-clause-puts : goal.returns-in-Ok-clause-puts
returns-in-Ok-clause-puts c =
    let r = c.args.self.now in
    puts_end r (with_builder r c.end_bytes.new.self) _ c.close_pair.result (end_opens r c.end_bytes.new.self _ c.requires c.in-Ok.ensures).leads c.close_pair.ensures.puts

pub returns-in-Ok-clause-after_error : goal.returns-in-Ok-clause-after_error
returns-in-Ok-clause-after_error c =
    let r = c.args.self.now in
    end_left r c.end_bytes.new.self c.close_pair.new.self c.close_pair.result (end_opens r c.end_bytes.new.self _ c.requires c.in-Ok.ensures) c.close_pair.ensures.after_error

pub returns-in-Err-clause-puts : goal.returns-in-Err-clause-puts
returns-in-Err-clause-puts c =
    let r = c.args.self.now in
    let refused = end_refused r (with_builder r c.end_bytes.new.self) c.end_bytes.new.self c.in-Err.error c.requires c.in-Err.ensures in
    rw (c.store_error.ensures) refused
