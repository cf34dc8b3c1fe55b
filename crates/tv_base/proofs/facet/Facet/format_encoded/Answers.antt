use Rattle.std.proofs.Common.{rules, refl, ◌≡◌, ◌∙◌, ◌<◌, ◌++◌, ◌∷◌, [], get_or, length, take, sym, ap, append_assoc, arith}
use Rattle.std.specs.List.{slice_range, flat_map}
use Rattle.std.proofs.lemmas.List.{take_all}
use Rattle.std.proofs.lemmas.Grind.{put_three}
use Rattle.std.proofs.lemmas.Str.{IsCharBoundary-after_ascii}
use Rattle.tv_base.specs.Facet.{printed_or_slash}
use Rattle.tv_base.proofs.Rewriting.{step-kept, step-written, slice_range-all}
use Rattle.tv_base.proofs.Printing.{printed-is, printed-more}
use Rattle.tv_base.proofs.facet.Facet.format_encoded.Goals as goal
use Rattle.tv_base.proofs.facet.Facet.format_encoded.Goals.{in-Some+in_ok-write_str-2+in_ok-write_str-3, in_default}

pub loop-place-preserved : goal.loop-place-preserved
loop-place-preserved g c =
    let encoded = c.args.encoded.now in
    let l = c.loop-place in
    let within : l.place < length encoded = omega arith in
    let below = printed-more encoded l.place within in
    let so_far = flat_map printed_or_slash (take l.place encoded) in
    elim c.match-printed_text.branch [
      | in-Some+in_ok-write_str-2+in_ok-write_str-3 w ↦
          let other = w.in-Some.other.now in
          let kept : w.range.result.now ≡ slice_range encoded l.start l.place = search rules in
          let same : printed_or_slash (get_or encoded l.place 0) ≡ other = search rules in
          record {
            in_range = omega arith;
            boundary = λ _. rw w.start-is (IsCharBoundary-after_ascii encoded l.place c.utf8.encoded within (search rules));
            built = λ p.
                let before = l.invariant.built p in
                let first = w.in_ok-write_str-2.ensures.writes before.1.plain refl in
                let second = w.in_ok-write_str-3.ensures.writes first.plain refl in (
                  (before.0 ++ slice_range encoded l.start l.place) ++ other,
                  rw w.f-is (put_three _ _ _ _ _ before.0 w.range.result.now other _ before.1 first second
                      (ap (λ z. before.0 ++ (z ++ other)) kept ∙ sym (append_assoc before.0 (slice_range encoded l.start l.place) other))),
                  rw w.start-is (step-written before.0 encoded so_far _ other _ l.start l.place before.2 (below ∙ ap (λ z. so_far ++ z) same) (λ i. (before.0 ++ slice_range encoded l.start l.place) ++ other)),
                );
          }
      | in_default w ↦
          let same : printed_or_slash (get_or encoded l.place 0) ≡ get_or encoded l.place 0 ∷ [] = search rules in
          record {
            in_range = omega arith;
            boundary = rw w.start-is l.invariant.boundary;
            built = λ p.
                let before = l.invariant.built p in
                (before.0, rw w.f-is before.1, rw w.start-is (step-kept before.0 encoded so_far _ l.start l.place l.invariant.in_range within before.2 (below ∙ ap (λ z. so_far ++ z) same)));
          }
    ]

pub returns : goal.returns
returns g c = λ plain ok.
    let encoded = c.args.encoded.now in
    let l = c.loop-place in
    let slash = c.in_ok-write_str.ensures.writes plain refl in
    let before = l.invariant.built slash.plain in
    let last = c.write_str-2.ensures.writes before.1.plain ok in
    let rest : c.range_from.result.now ≡ slice_range encoded l.start l.place = c.range_from.ensures.value ∙ sym (slice_range-all encoded l.start l.place (omega arith)) in
    let all : take l.place encoded ≡ encoded = take_all l.place encoded (omega arith) in
    put_three _ _ _ _ _ (47 ∷ []) before.0 c.range_from.result.now _ slash before.1 last
    (ap (λ z. 47 ∷ z) (ap (λ z. before.0 ++ z) rest ∙ before.2 ∙ ap (flat_map printed_or_slash) all) ∙ sym (printed-is encoded))
