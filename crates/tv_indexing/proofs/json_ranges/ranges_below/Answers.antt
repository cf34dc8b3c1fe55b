use Rattle.std.proofs.Common.{rules, ◌≡◌, ◌≢◌, [], ◌++◌, false, ap, subst, ◌∙◌}
use Rattle.tv_indexing.specs.DocumentTerms.{has_zero}
use Rattle.tv_indexing.specs.JsonBounds.{RunBackwards}
use Rattle.tv_indexing.proofs.JsonRangeSteps.{five_appended}
use Rattle.tv_indexing.proofs.json_ranges.ranges_below.Goals as goal

pub returns-clause-answers : goal.returns-clause-answers
returns-clause-answers c =
    let some : c.args.path.now ≢ [] = search (rules, c.if-is_empty.false, c.is_empty.ensures) in
    let plain : has_zero c.args.path.now ≡ false = search (rules, c.if-contains.false, c.contains.ensures.value, c.as_bytes.ensures.value) in
    let forwards = subst (RunBackwards _ _) c.if-run_backwards.false c.run_backwards.ensures in
    let d = c.in_ok-push_kind.ensures.made in
    let s = c.in_ok-push_kind-2.ensures.made in
    let t = c.in_ok-push_kind-3.ensures.made in
    let x = c.in_ok-push_kind-4.ensures.made in
    let u = c.in_ok-push_kind-5.ensures.made in (
      some,
      plain,
      (
        forwards,
        record {
          dates = d.0;
          signed = s.0;
          truths = t.0;
          texts = x.0;
          unsigned = u.0;
          are_dates = d.1;
          are_signed = s.1;
          are_truths = t.1;
          are_texts = x.1;
          are_unsigned = u.1;
          all = five_appended d.0 s.0 t.0 x.0 u.0 _ _ _ _ _ (d.2 ∙ ap (λ l. l ++ d.0) c.new-ranges.ensures.items) s.2 t.2 x.2 u.2;
        },
      ),
    )
