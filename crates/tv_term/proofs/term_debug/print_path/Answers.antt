use Rattle.std.proofs.Common.{rules, refl, ◌≡◌, ◌∙◌, ◌<◌, ◌++◌, ◌∷◌, [], get_or, length, take, sym, ap, append_assoc, arith}
use Rattle.std.specs.List.{slice_range, flat_map}
use Rattle.std.proofs.lemmas.List.{take_all}
use Rattle.std.proofs.lemmas.Grind.{put_two, put_three}
use Rattle.std.proofs.lemmas.Str.{IsCharBoundary-after_ascii}
use Rattle.tv_base.proofs.Rewriting.{step-kept, step-written, slice_range-all}
use Rattle.tv_term.specs.Printed.{dot_or_byte}
use Rattle.tv_term.proofs.Prints.{dotted-more}
use Rattle.tv_term.proofs.term_debug.print_path.Goals as goal
use Rattle.tv_term.proofs.term_debug.print_path.Goals.{then-bytes-place-eq1+in_ok-write_str+in_ok-write_str-2, else-bytes-place-eq1}

pub loop-place-preserved : goal.loop-place-preserved
loop-place-preserved g c =
    let path = c.args.path.now in
    let l = c.loop-place in
    let within : l.place < length path = omega arith in
    let below = dotted-more path l.place within in
    let so_far = flat_map dot_or_byte (take l.place path) in
    elim c.if-bytes-place-eq1.branch [
      | then-bytes-place-eq1+in_ok-write_str+in_ok-write_str-2 w ↦
          let kept : w.range.result.now ≡ slice_range path l.start l.place = search rules in
          let same : dot_or_byte (get_or path l.place 0) ≡ 46 ∷ [] = search rules in
          record {
            in_range = rw w.start-is (omega arith);
            boundary = λ _. rw w.start-is (IsCharBoundary-after_ascii path l.place c.utf8.path within (search rules));
            built = λ p.
                let before = l.invariant.built p in
                let first = w.in_ok-write_str.ensures.writes before.1.plain refl in
                let second = w.in_ok-write_str-2.ensures.writes first.plain refl in (
                  (before.0 ++ slice_range path l.start l.place) ++ 46 ∷ [],
                  rw w.f-is (put_three _ _ _ _ _ before.0 w.range.result.now (46 ∷ []) _ before.1 first second
                      (ap (λ z. before.0 ++ (z ++ 46 ∷ [])) kept ∙ sym (append_assoc before.0 (slice_range path l.start l.place) (46 ∷ [])))),
                  rw w.start-is (step-written before.0 path so_far _ (46 ∷ []) _ l.start l.place before.2 (below ∙ ap (λ z. so_far ++ z) same) (λ i. (before.0 ++ slice_range path l.start l.place) ++ 46 ∷ [])),
                );
          }
      | else-bytes-place-eq1 w ↦
          let same : dot_or_byte (get_or path l.place 0) ≡ get_or path l.place 0 ∷ [] = search rules in
          record {
            in_range = rw w.start-is (omega arith);
            boundary = rw w.start-is l.invariant.boundary;
            built = λ p.
                let before = l.invariant.built p in
                (before.0, rw w.f-is before.1, rw w.start-is (step-kept before.0 path so_far _ l.start l.place l.invariant.in_range within before.2 (below ∙ ap (λ z. so_far ++ z) same)));
          }
    ]

pub returns : goal.returns
returns g c = λ plain ok.
    let path = c.args.path.now in
    let l = c.loop-place in
    let before = l.invariant.built plain in
    let last = c.write_str-2.ensures.writes before.1.plain ok in
    let rest : c.range_from.result.now ≡ slice_range path l.start l.place = c.range_from.ensures.value ∙ sym (slice_range-all path l.start l.place (omega arith)) in
    let all : take l.place path ≡ path = take_all l.place path (omega arith) in
    put_two _ _ _ _ before.0 c.range_from.result.now _ before.1 last
    (ap (λ z. before.0 ++ z) rest ∙ before.2 ∙ ap (flat_map dot_or_byte) all)
