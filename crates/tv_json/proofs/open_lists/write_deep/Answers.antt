use Rattle.std.proofs.Common.{◌∙◌}
use Rattle.tv_json.specs.Open.{list_left}
use Rattle.tv_json.proofs.OpenLists.{next_written, next_smaller}
use Rattle.tv_json.proofs.open_lists.write_deep.Goals as goal

pub loop-list-smaller : goal.loop-list-smaller
loop-list-smaller g c =
    next_smaller (list_left {K = g.row.N-Key.Denot} g.N.Nested.tree g.N.Nested.array_rest g.N.Nested.object_rest) _ _ _ _ c.write_next.new.lists.items _ c.in-Some.ensures.items c.in_ok-write_next.ensures.ok

pub loop-list-preserved : goal.loop-list-preserved
loop-list-preserved g c = record {
  tokens = next_written (list_left {K = g.row.N-Key.Denot} g.N.Nested.tree g.N.Nested.array_rest g.N.Nested.object_rest) _ _ _ _ _ c.write_next.new.lists.items _ c.in-Some.ensures.items c.in_ok-write_next.ensures.ok c.loop-list.invariant.tokens;
  before = c.write_next.ensures.before ∙ c.loop-list.invariant.before;
}
