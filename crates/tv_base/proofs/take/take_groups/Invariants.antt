use Rattle.tv_base.specs.Take.{told}
use Rattle.std.proofs.Common.{◌≡◌, ◌+◌, ◌-◌, ◌^◌, ◌<◌}
use Rattle.tv_base.specs.Reading.{groups_at}
use Rattle.tv_base.proofs.TakeSteps.{SoFar}
use Rattle.tv_base.proofs.TakenGroups.{with_low}
use Rattle.tv_base.proofs.take.take_groups.Given as goal

abbrev pub invariant-loop : goal.invariant-loop
invariant-loop g l =
    let source = g.S.ByteSource in
    record {
      small : l.value < l.weight;
      counted : l.count ≡ l.initial.count + l.counter;
      weight : l.weight ≡ 128 ^ l.counter;
      so_far : SoFar (told source.is_known) (λ p. source.left p.source) (λ p. p.count) (λ p. source.failures p.source) (record { source = l.initial.source; count = l.initial.count }) (record { source = l.source; count = l.count }) (groups_at 9) (λ bytes. with_low l.value l.weight (groups_at (9 - l.counter) bytes));
    }
