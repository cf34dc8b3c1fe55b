use Rattle.std.proofs.Common.{ℕ, ◌≡◌, ◌≤◌, ◌++◌, ◌<◌, List, take}
use Rattle.std.specs.List.{slice_range, flat_map}
use Rattle.std.specs.Str.{IsCharBoundary}
use Rattle.std.specs.Fmt.{HasWritten, IsPlainFormatter}
use Rattle.tv_term.specs.Printed.{dot_or_byte}
use Rattle.tv_term.proofs.term_debug.print_path.Given as goal

abbrev pub invariant-loop-place : goal.invariant-loop-place
invariant-loop-place g l = record {
  in_range : l.start ≤ l.place;
  boundary : 0 < l.start → IsCharBoundary l.path l.start;
  built : IsPlainFormatter l.initial.f → (prefix : List ℕ) × HasWritten g.W.Write.write_str_gives l.initial.f prefix l.f
      × (prefix ++ slice_range l.path l.start l.place ≡ flat_map dot_or_byte (take l.place l.path));
}
