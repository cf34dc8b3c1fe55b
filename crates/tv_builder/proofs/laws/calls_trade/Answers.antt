use Rattle.tv_builder.proofs.CallsTrade.{values_trade, lists_trade, keys_trade, heads_trade, bytes_trade, ends_trade}
use Rattle.tv_builder.proofs.laws.calls_trade.Goals as goal

pub returns-clause-values : goal.returns-clause-values
returns-clause-values c = values_trade

pub returns-clause-lists : goal.returns-clause-lists
returns-clause-lists c = lists_trade

pub returns-clause-keys : goal.returns-clause-keys
returns-clause-keys c = keys_trade

pub returns-clause-heads : goal.returns-clause-heads
returns-clause-heads c = heads_trade

pub returns-clause-bytes : goal.returns-clause-bytes
returns-clause-bytes c = bytes_trade

pub returns-clause-ends : goal.returns-clause-ends
returns-clause-ends c = ends_trade
