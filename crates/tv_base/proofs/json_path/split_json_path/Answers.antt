use Rattle.std.proofs.Common.{rules, ◌≡◌, ◌∙◌, ◌<◌, ◌++◌, ◌∷◌, [], ◌&&◌, true, false, refl, get_or, length, map, ap, arith, sym, eqb}
use Rattle.std.specs.String.{string_bytes}
use Rattle.std.specs.List.{slice_range}
use Rattle.std.proofs.lemmas.List.{map-append}
use Rattle.std.proofs.lemmas.Str.{IsCharBoundary-after_ascii}
use Rattle.tv_base.specs.JsonPath.{split}
use Rattle.tv_base.proofs.JsonPaths.{split-from, split_from, split_from-not_nil, onto-nothing, and_false, segment-kept, segment-escape, segment-dot}
use Rattle.tv_base.proofs.json_path.split_json_path.Goals as goal
use Rattle.tv_base.proofs.json_path.split_json_path.Goals.{in-92+in_ok-push_str-in-92, in-46+in_ok-push_str-in-46+in_ok-push-in-46, in_default-2, in_default-3, in_default}

pub loop-place-init : goal.loop-place-init
loop-place-init c =
    let text = c.args.path.now in
    let none : c.new-segments.result.items ≡ [] = search rules in
    let empty : string_bytes c.new-segment.result ≡ [] = search rules in
    record {
      in_range = omega arith;
      boundary = λ h. absurd (omega arith);
      told = rw (none, empty) (onto-nothing (split_from true text) (split_from-not_nil true text) ∙ sym (split-from text));
    }

pub loop-place-preserved : goal.loop-place-preserved
loop-place-preserved c =
    let text = c.args.path.now in
    let place = c.loop-place.place in
    let within : place < length text = omega arith in
    let all = split text in
    let done = map string_bytes c.loop-place.segments.items in
    let prefix = string_bytes c.loop-place.segment in
    let kept = λ (dot : (c.loop-place.is_unescaped && eqb (get_or text place 0) 46) ≡ false) (back : (eqb (get_or text place 0) 92 && c.loop-place.is_unescaped) ≡ false).
    segment-kept done all text prefix c.loop-place.start place c.loop-place.is_unescaped c.loop-place.invariant.in_range within dot back c.loop-place.invariant.told in
    elim c.match-bytes-place.branch [
      | in-92+in_ok-push_str-in-92 w ↦
          let unescaped : c.loop-place.is_unescaped ≡ true = search rules in
          let told = rw unescaped at c.loop-place.invariant.told in
          let written : string_bytes w.push_str.new.self ≡ prefix ++ slice_range text c.loop-place.start place = search rules in
          record {
            in_range = omega arith;
            boundary = λ _. rw w.start-is (IsCharBoundary-after_ascii text place c.utf8.path within (search rules));
            told = rw (w.start-is, w.segments-is, w.segment-is, w.is_unescaped-is) (segment-escape done all text prefix _ c.loop-place.start place within (search rules) written told);
          }
      | in-46+in_ok-push_str-in-46+in_ok-push-in-46 w ↦
          let unescaped : c.loop-place.is_unescaped ≡ true = search rules in
          let told = rw unescaped at c.loop-place.invariant.told in
          let written : string_bytes w.push_str-in-46.new.self ≡ prefix ++ slice_range text c.loop-place.start place = search rules in
          let more : map string_bytes w.push.new.self.items ≡ done ++ string_bytes w.push_str-in-46.new.self ∷ [] = ap (map string_bytes) (search rules) ∙ map-append string_bytes c.loop-place.segments.items (w.push_str-in-46.new.self ∷ []) in
          let empty : string_bytes w.new-segment-in-46.result ≡ [] = search rules in
          record {
            in_range = omega arith;
            boundary = λ _. rw w.start-is (IsCharBoundary-after_ascii text place c.utf8.path within (search rules));
            told = rw (w.start-is, w.segments-is, w.segment-is, w.is_unescaped-is, more, empty, unescaped) (segment-dot done all text prefix _ c.loop-place.start place within (search rules) written told);
          }
      | in_default-2 w ↦
          let escaped : c.loop-place.is_unescaped ≡ false = search rules in
          record {
            in_range = omega arith;
            boundary = rw w.start-is c.loop-place.invariant.boundary;
            told = rw (w.start-is, w.segments-is, w.segment-is, w.is_unescaped-is) (kept (rw escaped refl) (ap (λ u. eqb (get_or text place 0) 92 && u) escaped ∙ and_false (eqb (get_or text place 0) 92)));
          }
      | in_default-3 w ↦
          let escaped : c.loop-place.is_unescaped ≡ false = search rules in
          record {
            in_range = omega arith;
            boundary = rw w.start-is c.loop-place.invariant.boundary;
            told = rw (w.start-is, w.segments-is, w.segment-is, w.is_unescaped-is) (kept (rw escaped refl) (ap (λ u. eqb (get_or text place 0) 92 && u) escaped ∙ and_false (eqb (get_or text place 0) 92)));
          }
      | in_default w ↦
          record {
            in_range = omega arith;
            boundary = rw w.start-is c.loop-place.invariant.boundary;
            told = rw (w.start-is, w.segments-is, w.segment-is, w.is_unescaped-is) (kept (search rules) (search rules));
          }
    ]
