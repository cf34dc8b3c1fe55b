use Rattle.std.proofs.Common.{rules, ◌≡◌, ◌∙◌, ◌<◌, ◌≤◌, ◌++◌, ◌∷◌, [], get_or, length, ap, arith, subst, sym, append_assoc}
use Rattle.std.specs.String.{string_bytes}
use Rattle.std.proofs.lemmas.Grind.{common_steps}
use Rattle.std.proofs.lemmas.Str.{IsCharBoundary-after_ascii}
use Rattle.tv_base.specs.Escapes.{is_unescaped, rewritten_below}
use Rattle.tv_base.specs.Rewriting.{stands_for}
use Rattle.tv_base.proofs.Rewriting.{is_unescaped-more, rewritten_below-more, stands_for-short, step-kept, step-written}
use Rattle.tv_base.proofs.text_rules.rewrite.Goals as goal
use Rattle.tv_base.proofs.text_rules.rewrite.Goals.{in-Some+in_ok-push_str+in_ok-push_str-2, in_default}

pub loop-place-preserved : goal.loop-place-preserved
loop-place-preserved c =
    let text = c.args.text.now in
    let place = c.loop-place.place in
    let rule = stands_for c.args.rule in
    let within : place < length text = omega arith in
    let more = is_unescaped-more text place within in
    let old = string_bytes c.args.out.now in
    let below = ap (λ l. old ++ l) (rewritten_below-more rule text place) ∙ sym (append_assoc old (rewritten_below rule text place) (rule (is_unescaped text place) (get_or text place 0))) in
    elim c.match-other.branch [
      | in-Some+in_ok-push_str+in_ok-push_str-2 w ↦
          let same : rule (is_unescaped text place) (get_or text place 0) ≡ w.in-Some.other.now = rw (← c.loop-place.invariant.unescaped) (search rules) in
          let short : length w.in-Some.other.now ≤ 1 = subst (λ l. length l ≤ 1) same (stands_for-short c.args.rule (is_unescaped text place) (get_or text place 0)) in
          record {
            in_range = omega arith;
            room = rw (w.start-is, w.out-is)
                (omega (arith, short, w.range.ensures.len, w.in_ok-push_str.ensures.len, w.in_ok-push_str.ensures.capacity, w.in_ok-push_str-2.ensures.len, w.in_ok-push_str-2.ensures.capacity));
            boundary = λ _. rw w.start-is (IsCharBoundary-after_ascii text place c.utf8.text within (search rules));
            unescaped = grind (arith, common_steps, more);
            built = rw (w.start-is, w.out-is)
                (step-written (string_bytes c.loop-place.out) text _ _ w.in-Some.other.now _ c.loop-place.start place c.loop-place.invariant.built
                (below ∙ ap (λ l. (old ++ rewritten_below rule text place) ++ l) same)
                (search rules));
          }
      | in_default w ↦ record {
        in_range = omega arith;
        room = rw (w.start-is, w.out-is) c.loop-place.invariant.room;
        boundary = rw w.start-is c.loop-place.invariant.boundary;
        unescaped = grind (arith, common_steps, more);
        built = rw (w.start-is, w.out-is)
            (step-kept (string_bytes c.loop-place.out) text _ _ c.loop-place.start place c.loop-place.invariant.in_range within c.loop-place.invariant.built
            (below ∙ ap (λ l. (old ++ rewritten_below rule text place) ++ l)
            (let same : rule (is_unescaped text place) (get_or text place 0) ≡ get_or text place 0 ∷ [] = rw (← c.loop-place.invariant.unescaped) (search rules) in same)));
      }
    ]
