use Rattle.std.proofs.Common.{ℕ, ◌≡◌, ◌≤◌, ◌++◌, ◌<◌, List, take}
use Rattle.std.specs.List.{slice_range, flat_map}
use Rattle.std.specs.Str.{IsCharBoundary}
use Rattle.std.specs.Fmt.{HasWritten, IsPlainFormatter}
use Rattle.tv_base.specs.Facet.{printed_or_slash}
use Rattle.tv_base.proofs.facet.Facet.format_encoded.Given as goal

abbrev pub invariant-loop-place : goal.invariant-loop-place
invariant-loop-place g l = record {
  in_range : l.start ≤ l.place;
  boundary : 0 < l.start → IsCharBoundary l.encoded l.start;
  built : IsPlainFormatter l.initial.f → (prefix : List ℕ) × HasWritten g.W.Write.write_str_gives l.initial.f prefix l.f
      × (prefix ++ slice_range l.encoded l.start l.place ≡ flat_map printed_or_slash (take l.place l.encoded));
}
