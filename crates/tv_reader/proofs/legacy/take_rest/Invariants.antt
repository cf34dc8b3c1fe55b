use Rattle.std.proofs.Common.{◌≡◌, ◌≤◌, ◌^◌, ◌-◌, length}
use Rattle.tv_base.specs.Take.{told}
use Rattle.tv_base.proofs.TakeSteps.{SoFar}
use Rattle.tv_reader.specs.Legacy.{behind}
use Rattle.tv_reader.specs.LegacyReading.{rest_at}
use Rattle.tv_reader.specs.LegacyScan.{place_of}
use Rattle.tv_reader.proofs.LegacySteps.{IsDepth, rest_from}
use Rattle.tv_reader.proofs.legacy.take_rest.Given as goal

abbrev pub invariant-loop-scan : goal.invariant-loop-scan
invariant-loop-scan g l =
    let source = g.S.ByteSource in
    record {
      depth : IsDepth l.scan.depth l.slice.items;
      place : place_of l.scan.position ≡ behind l.slice.items;
      bound : l.scan.depth ≤ length l.slice.items;
      so_far : SoFar (told source.is_known) (λ p. source.left p.source) (λ p. p.count) (λ p. source.failures p.source) (record { source = l.initial.source; count = l.initial.count }) (record { source = l.source; count = l.count }) (rest_at l.initial.slice.items) (rest_from l.slice.items);
    }

abbrev pub decreases-loop-scan : goal.decreases-loop-scan
decreases-loop-scan g l = 2 ^ 64 - l.count
