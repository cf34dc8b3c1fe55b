use Rattle.std.proofs.Common.{rules, refl, cond, Result, Ok, Err, OnOk, OnErr, is_ok, ◌≡◌, ◌∙◌, ◌<◌, ◌++◌, ◌∷◌, [], List, ℕ, get_or, length, take, sym, ap, append_assoc, append-nil, arith}
use Rattle.std.specs.List.{slice_range, flat_map}
use Rattle.std.specs.String.{string_bytes}
use Rattle.std.proofs.lemmas.List.{take_all}
use Rattle.std.proofs.lemmas.Str.{IsCharBoundary-after_ascii}
use Rattle.tv_base.specs.Facet.{printed, printed_or_slash}
use Rattle.tv_base.proofs.Rewriting.{step-kept, step-written, slice_range-all}
use Rattle.tv_base.proofs.Printing.{printed-is, printed-more, printed-prefix}
use Rattle.tv_base.proofs.text_rules.push_printed.Goals as goal
use Rattle.tv_base.proofs.text_rules.push_printed.Goals.{in-Some+in_ok-push_str-2+in_ok-push_str-3, in_default}

-- after a call that appends, and one that was refused
err_always : {T E P : Type 0} (r : Result T E) → P → OnErr r P
err_always (Ok x) p = tt
err_always (Err e) p = p

ok_from : {T E : Type 0} (r : Result T E) (old new more whole : List ℕ) → new ≡ cond (is_ok r) (old ++ more) old → old ++ more ≡ whole → OnOk r (new ≡ whole)
ok_from (Ok x) old new more whole e h = e ∙ h
ok_from (Err x) old new more whole e h = tt

err_from : {T E P : Type 0} (r : Result T E) (old new more : List ℕ) → new ≡ cond (is_ok r) (old ++ more) old → (new ≡ old → P) → OnErr r P
err_from (Ok x) old new more e h = tt
err_from (Err x) old new more e h = h e

pub loop-place-preserved : goal.loop-place-preserved
loop-place-preserved c =
    let encoded = c.args.encoded.now in
    let l = c.loop-place in
    let within : l.place < length encoded = omega arith in
    let below = ap (λ z. 47 ∷ z) (printed-more encoded l.place within) in
    let so_far = 47 ∷ flat_map printed_or_slash (take l.place encoded) in
    let before = l.invariant.built in
    elim c.match-printed_text.branch [
      | in-Some+in_ok-push_str-2+in_ok-push_str-3 w ↦
          let other = w.in-Some.other.now in
          let same : printed_or_slash (get_or encoded l.place 0) ≡ other = search rules in
          let part = slice_range encoded l.start l.place in
          let first : string_bytes w.push_str-in-Some.new.self ≡ string_bytes l.out ++ part = search rules in
          let second : string_bytes w.push_str-in-Some-2.new.self ≡ string_bytes w.push_str-in-Some.new.self ++ other = search rules in
          record {
            in_range = omega arith;
            boundary = λ _. rw w.start-is (IsCharBoundary-after_ascii encoded l.place c.utf8.encoded within (search rules));
            built = (
              (before.0 ++ part) ++ other,
              rw w.out-is (second ∙ ap (λ z. z ++ other) (first ∙ ap (λ z. z ++ part) before.1 ∙ append_assoc (string_bytes c.args.out.now) before.0 part) ∙ append_assoc (string_bytes c.args.out.now) (before.0 ++ part) other),
              rw w.start-is (step-written before.0 encoded so_far _ other _ l.start l.place before.2 (below ∙ ap (λ z. so_far ++ z) same) refl),
            );
          }
      | in_default w ↦
          let same : printed_or_slash (get_or encoded l.place 0) ≡ get_or encoded l.place 0 ∷ [] = search rules in
          record {
            in_range = omega arith;
            boundary = rw w.start-is l.invariant.boundary;
            built = (
              before.0,
              rw w.out-is before.1,
              rw w.start-is (step-kept before.0 encoded so_far _ l.start l.place l.invariant.in_range within before.2 (below ∙ ap (λ z. so_far ++ z) same)),
            );
          }
    ]

pub returns-in_err-push_str-clause-err : goal.returns-in_err-push_str-clause-err
returns-in_err-push_str-clause-err c =
    let kept : string_bytes c.push_str.new.self ≡ string_bytes c.args.out.now = search rules in
    err_always c.from_residual.result ([], (printed c.args.encoded.now, refl), kept ∙ sym (append-nil (string_bytes c.args.out.now)))

pub returns-in_err-push_str-2-clause-err : goal.returns-in_err-push_str-2-clause-err
returns-in_err-push_str-2-clause-err c =
    let encoded = c.args.encoded.now in
    let l = c.loop-place in
    let before = l.invariant.built in
    let kept : string_bytes c.push_str-in-Some.new.self ≡ string_bytes l.out = search rules in
    err_always c.from_residual-in_err-push_str-2.result (before.0, printed-prefix encoded before.0 (slice_range encoded l.start l.place) l.place before.2, kept ∙ before.1)

pub returns-in_err-push_str-3-clause-err : goal.returns-in_err-push_str-3-clause-err
returns-in_err-push_str-3-clause-err c =
    let encoded = c.args.encoded.now in
    let l = c.loop-place in
    let before = l.invariant.built in
    let part = slice_range encoded l.start l.place in
    let first : string_bytes c.push_str-in-Some.new.self ≡ string_bytes l.out ++ part = search rules in
    let kept : string_bytes c.push_str-in-Some-2.new.self ≡ string_bytes c.push_str-in-Some.new.self = search rules in
    err_always c.from_residual-in_err-push_str-3.result (
      before.0 ++ part,
      printed-prefix encoded (before.0 ++ part) [] l.place (append-nil (before.0 ++ part) ∙ before.2),
      kept ∙ first ∙ ap (λ z. z ++ part) before.1 ∙ append_assoc (string_bytes c.args.out.now) before.0 part,
    )

pub returns-clause-ok : goal.returns-clause-ok
returns-clause-ok c =
    let encoded = c.args.encoded.now in
    let l = c.loop-place in
    let before = l.invariant.built in
    let old = string_bytes c.args.out.now in
    let rest : c.range_from.result.now ≡ slice_range encoded l.start l.place = c.range_from.ensures.value ∙ sym (slice_range-all encoded l.start l.place (omega arith)) in
    let all : take l.place encoded ≡ encoded = take_all l.place encoded (omega arith) in
    ok_from c.push_str-2.result (string_bytes l.out) (string_bytes c.push_str-2.new.self) c.range_from.result.now (old ++ printed encoded) c.push_str-2.ensures.bytes
    (ap (λ z. z ++ c.range_from.result.now) before.1 ∙ append_assoc old before.0 c.range_from.result.now
    ∙ ap (λ z. old ++ z) (ap (λ z. before.0 ++ z) rest ∙ before.2 ∙ ap (λ z. 47 ∷ flat_map printed_or_slash z) all ∙ sym (printed-is encoded)))

pub returns-clause-err : goal.returns-clause-err
returns-clause-err c =
    let encoded = c.args.encoded.now in
    let l = c.loop-place in
    let before = l.invariant.built in
    err_from c.push_str-2.result (string_bytes l.out) (string_bytes c.push_str-2.new.self) c.range_from.result.now c.push_str-2.ensures.bytes
    (λ kept. (before.0, printed-prefix encoded before.0 (slice_range encoded l.start l.place) l.place before.2, kept ∙ before.1))
