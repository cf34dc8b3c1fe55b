use Rattle.std.proofs.Common.{◌≡◌, false}
use Rattle.tv_base.specs.Stop.{Taken}
use Rattle.tv_store.specs.Decoder.{IsPaidFor, IsStepped}
use Rattle.tv_store.proofs.laws.stepped_decoders_are_paid_for.Given as goal

-- the steps so far were made, and what was taken pays for what the decoder holds
abbrev pub invariant-loop : goal.invariant-loop
invariant-loop g l =
    let source = g.S.ByteSource in
    record {
      stepped : IsStepped source l.fn.version l.counter l.initial.source l.source l.decoder;
      known : source.is_known l.initial.source → source.is_known l.source;
      taken : source.is_known l.initial.source → Taken (source.left l.initial.source) (source.left l.source) 0 l.decoder.count;
      paid : source.is_known l.initial.source → l.decoder.legacy_seen ≡ false → IsPaidFor l.decoder;
    }
