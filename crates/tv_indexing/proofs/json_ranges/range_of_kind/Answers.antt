use Rattle.std.proofs.Common.{subst}
use Rattle.tv_base.specs.JsonPath.{joined_path}
use Rattle.tv_indexing.specs.JsonRanges.{IsTypedAt, type_of_kind}
use Rattle.tv_indexing.proofs.JsonRangeSteps.{between_at}
use Rattle.tv_term.specs.Range.{HasTerms}
use Rattle.tv_indexing.proofs.json_ranges.range_of_kind.Goals as goal

pub returns-clause-made : goal.returns-clause-made
returns-clause-made c =
    let id = c.args.at.field.id in
    let path = joined_path c.args.at.expand_dots c.args.path.now in
    let s = c.in_ok-start.ensures.made in
    let e = c.in_ok-end.ensures.made in
    let all = subst (λ t. HasTerms (IsTypedAt id path t) c.in_ok-all.all) c.to_type.ensures c.in_ok-all.ensures.made in
    (s.0, e.0, s.1, e.1, between_at c.in_ok-all.all c.in_ok-between.field-0 id path (type_of_kind c.args.kind) s.0 e.0 c.in_ok-start.start c.in_ok-end.end all s.2 e.2 c.in_ok-between.ensures)
