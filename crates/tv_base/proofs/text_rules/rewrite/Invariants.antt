use Rattle.std.proofs.Common.{◌≡◌, ◌≤◌, ◌+◌, ◌-◌, ◌++◌, ◌<◌, length}
use Rattle.std.specs.List.{slice_range}
use Rattle.std.specs.Str.{IsCharBoundary}
use Rattle.std.specs.String.{string_bytes, string_capacity, string_len}
use Rattle.tv_base.specs.Escapes.{is_unescaped, rewritten_below}
use Rattle.tv_base.specs.Rewriting.{stands_for}
use Rattle.tv_base.proofs.text_rules.rewrite.Given as goal

abbrev pub invariant-loop-place : goal.invariant-loop-place
invariant-loop-place l = record {
  in_range : l.start ≤ l.place;
  room : string_len l.out + (length l.text - l.start) ≤ string_capacity l.out;
  boundary : 0 < l.start → IsCharBoundary l.text l.start;
  unescaped : l.is_unescaped ≡ is_unescaped l.text l.place;
  built : string_bytes l.out ++ slice_range l.text l.start l.place ≡ string_bytes l.fn.out ++ rewritten_below (stands_for l.rule) l.text l.place;
}
