use Rattle.std.proofs.Common.{◌≡◌, ◌≤◌, ◌++◌, ◌<◌, map, drop}
use Rattle.std.specs.List.{slice_range}
use Rattle.std.specs.Str.{IsCharBoundary}
use Rattle.std.specs.String.{string_bytes}
use Rattle.tv_base.specs.JsonPath.{split}
use Rattle.tv_base.proofs.JsonPaths.{onto, split_from}
use Rattle.tv_base.proofs.json_path.split_json_path.Given as goal

abbrev pub invariant-loop-place : goal.invariant-loop-place
invariant-loop-place l = record {
  in_range : l.start ≤ l.place;
  boundary : 0 < l.start → IsCharBoundary l.path l.start;
  told : map string_bytes l.segments.items ++ onto (string_bytes l.segment ++ slice_range l.path l.start l.place) (split_from l.is_unescaped (drop l.place l.path)) ≡ split l.path;
}
