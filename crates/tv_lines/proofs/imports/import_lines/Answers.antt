use Rattle.std.proofs.Common.{refl, ◌∙◌, arith}
use Rattle.tv_lines.proofs.WholeImports.{counts_one, counts_within, imported_all, imported_more, imported_none, stops_begun, stops_counting, stops_untold}
use Rattle.tv_lines.proofs.imports.import_lines.Goals as goal

pub loop-lines-init : goal.loop-lines-init
loop-lines-init g c = record {
  rules = refl;
  counted = omega arith;
  within = omega arith;
  source_is_known = λ k. k;
  sink_is_known = λ k. k;
  report_is_known = λ k. k;
  source_failures = refl;
  sink_failures = refl;
  so_far = λ s k. imported_none _ _ _ _ _ _ _ refl refl refl;
}

pub loop-lines-preserved : goal.loop-lines-preserved
loop-lines-preserved g c =
    let i = c.loop-lines.invariant in
    let step = c.in-Ok-Some.ensures in
    let ok = rw (c.in-Ok-Some.field-0-is, i.rules) at step.imports in
    record {
      rules = step.rules ∙ i.rules;
      counted = omega (arith, counts_one c.in-Ok-Some.outcome c.loop-lines.imported c.counted-imported.result c.counted-imported.ensures, i.counted);
      within = counts_within c.in-Ok-Some.outcome c.loop-lines.imported c.counted-imported.result c.counted-imported.ensures i.within;
      source_is_known = λ k. step.source.is_known (i.source_is_known k);
      sink_is_known = λ k. step.sink.is_known (i.sink_is_known k);
      report_is_known = λ k. c.in-Ok.ensures.is_known (i.report_is_known k);
      source_failures = step.source.failures ∙ i.source_failures;
      sink_failures = step.sink.failures ∙ i.sink_failures;
      so_far = λ s k.
          imported_more (i.so_far s k) c.in-Ok-Some.outcome _ c.counted-imported.result (ok (i.source_is_known s) (i.sink_is_known k))
          c.counted-imported.ensures refl refl (λ told. c.in-Ok.ensures.told (i.report_is_known told));
    }

pub returns-in-Ok-None-clause-imports : goal.returns-in-Ok-None-clause-imports
returns-in-Ok-None-clause-imports g c =
    let i = c.loop-lines.invariant in
    let ok = rw c.in-Ok-None.field-0-is at c.in-Ok-None.ensures.imports in
    λ s k.
    imported_all (i.so_far s k) (ok (i.source_is_known s) (i.sink_is_known k))

pub returns-in-Err-clause-imports : goal.returns-in-Err-clause-imports
returns-in-Err-clause-imports g c =
    let i = c.loop-lines.invariant in
    let err = rw i.rules at c.in-Err.ensures.imports in
    λ s k.
    stops_begun (i.so_far s k) c.in-Err.error (err (i.source_is_known s) (i.sink_is_known k))

pub returns-in-Err-tell-clause-imports : goal.returns-in-Err-tell-clause-imports
returns-in-Err-tell-clause-imports g c =
    let i = c.loop-lines.invariant in
    let ok = rw (c.in-Ok-Some.field-0-is, i.rules) at c.in-Ok-Some.ensures.imports in
    λ s k.
    stops_untold (i.so_far s k) c.in-Ok-Some.outcome c.in-Err-tell.error (ok (i.source_is_known s) (i.sink_is_known k))
    (λ told. c.in-Err-tell.ensures.untold (i.report_is_known told))

pub returns-clause-imports : goal.returns-clause-imports
returns-clause-imports g c = λ s k. stops_counting (c.loop-lines.invariant.so_far s k) (omega (arith, c.loop-lines.auto.lines-end, c.loop-lines-test.false))

pub returns-in-Ok-None-clause-all : goal.returns-in-Ok-None-clause-all
returns-in-Ok-None-clause-all g c =
    let i = c.loop-lines.invariant in
    let ok = rw c.in-Ok-None.field-0-is at c.in-Ok-None.ensures.imports in
    λ s k. (ok (i.source_is_known s) (i.sink_is_known k)).1.1
