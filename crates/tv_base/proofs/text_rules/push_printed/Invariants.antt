use Rattle.std.proofs.Common.{ℕ, ◌≡◌, ◌≤◌, ◌++◌, ◌∷◌, ◌<◌, List, take}
use Rattle.std.specs.List.{slice_range, flat_map}
use Rattle.std.specs.Str.{IsCharBoundary}
use Rattle.std.specs.String.{string_bytes}
use Rattle.tv_base.specs.Facet.{printed_or_slash}
use Rattle.tv_base.proofs.text_rules.push_printed.Given as goal

-- what was written, and the part of the encoded text that is still to be
abbrev pub invariant-loop-place : goal.invariant-loop-place
invariant-loop-place l = record {
  in_range : l.start ≤ l.place;
  boundary : 0 < l.start → IsCharBoundary l.encoded l.start;
  built : (prefix : List ℕ) × (string_bytes l.out ≡ string_bytes l.fn.out ++ prefix) × (prefix ++ slice_range l.encoded l.start l.place ≡ 47 ∷ flat_map printed_or_slash (take l.place l.encoded));
}
