use Rattle.std.proofs.Common.{◌≡◌, true, false, refl, sym, subst, ◌∙◌}
use Rattle.tv_field.specs.Entry.{value_type}
use Rattle.tv_indexing.specs.TextRange.{are_backwards, backwards, bounding, second}
use Rattle.tv_term.specs.Range.{HasTerms, IsOfType}
use Rattle.tv_indexing.proofs.RangeSteps.{backwards_same}
use Rattle.tv_term.proofs.ValueRanges.{values_between}
use Rattle.tv_indexing.proofs.text_range.plain_range.Goals as goal

pub returns-in-Err : goal.returns-in-Err
returns-in-Err c = λ some. let s = c.in_ok-first.ensures in second s.0 s.1 (c.in-Err.ensures some)

pub returns-then-run_backwards : goal.returns-then-run_backwards
returns-then-run_backwards c = λ some.
    let s = c.in_ok-first.ensures in
    let e = c.in-Ok.ensures in
    let test : are_backwards (bounding s.0) (bounding e.0) ≡ true = sym (backwards_same c.args.field.id s.0 e.0 c.in_ok-first.first c.in-Ok.last s.2 e.2) ∙ sym c.run_backwards.ensures ∙ c.if-run_backwards.true in
    backwards s.0 e.0 (record { starts = s.1; ends = e.1 }) test refl

pub returns-in_ok-between-in-Ok-range_of_type : goal.returns-in_ok-between-in-Ok-range_of_type
returns-in_ok-between-in-Ok-range_of_type c =
    let id = c.args.field.id in
    let s = c.in_ok-first.ensures in
    let e = c.in-Ok.ensures in
    let test : are_backwards (bounding s.0) (bounding e.0) ≡ false = sym (backwards_same id s.0 e.0 c.in_ok-first.first c.in-Ok.last s.2 e.2) ∙ sym c.run_backwards.ensures ∙ c.if-run_backwards.false in
    let all = subst (λ t. HasTerms (IsOfType id t) c.in-Ok-range_of_type.all) c.value_type.ensures c.in-Ok-range_of_type.ensures.made in
    (s.0, e.0, record { starts = s.1; ends = e.1 }, test, values_between c.in-Ok-range_of_type.all c.in_ok-between-in-Ok-range_of_type.field-0 id (value_type c.args.field_type.now) s.0 e.0 c.in_ok-first.first c.in-Ok.last all s.2 e.2 c.in_ok-between-in-Ok-range_of_type.ensures)
