use Rattle.std.specs.List.{flat_map}
use Rattle.tv_base.proofs.Written.{Written}
use Rattle.tv_format.specs.Short.{short_token}
use Rattle.tv_value.specs.PreTokenized.{tokens_left}
use Rattle.tv_writer.proofs.leaf_writer.write_tokens.Given as goal

abbrev pub invariant-loop-token : goal.invariant-loop-token
invariant-loop-token g l =
    let sink = g.K.ByteSink in
    Written sink.is_known sink.held sink.failures l.initial.sink l.sink (flat_map short_token (tokens_left l.initial.token-iterator)) (flat_map short_token (tokens_left l.token-iterator))
