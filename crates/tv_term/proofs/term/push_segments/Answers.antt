use Rattle.std.proofs.Common.{rules, ◌≡◌, ◌∙◌, ◌++◌, ◌∷◌, [], length, refl, sym, ap, append_assoc, arith, string_bytes, get_or}
use Rattle.tv_term.proofs.Segments.{nothing, joined, joined-more, joined-all, joined-behind}
use Rattle.tv_term.proofs.term.push_segments.Goals as goal

pub loop-segment-preserved : goal.loop-segment-preserved
loop-segment-preserved c =
    let separated : string_bytes c.push.new.self ≡ string_bytes c.loop-segment.joined ++ 1 ∷ [] = search rules in
    let others = c.in-Some.others.now in
    let i = c.loop-segment.segment-index in
    let segment = (get_or others i nothing).now in
    let first = string_bytes c.push_str.new.self in
    c.in_ok-push_str-2.ensures.bytes
    ∙ ap (λ l. l ++ segment) (separated ∙ ap (λ l. l ++ 1 ∷ []) c.loop-segment.invariant)
    ∙ append_assoc (joined first others i) (1 ∷ []) segment
    ∙ sym (joined-more first others i (omega arith))

pub returns : goal.returns
returns c =
    let others = c.in-Some.others.now in
    let old = string_bytes c.args.joined.now in
    let first = c.in-Some.first.now.now in
    let all : c.loop-segment.segment-index ≡ length others = omega arith in
    c.loop-segment.invariant ∙ ap (λ text. joined text others c.loop-segment.segment-index) c.in_ok-push_str.ensures.bytes ∙ joined-behind old first others c.loop-segment.segment-index
    ∙ ap (λ l. old ++ l) (joined-all c.args.segments.now c.in-Some.first.now others first c.loop-segment.segment-index (search rules) refl all)
