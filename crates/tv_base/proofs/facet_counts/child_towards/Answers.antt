use Rattle.std.proofs.Common.{◌≡◌, ◌≢◌, ◌+◌, ◌<◌, ◌∙◌, length, take, drop, get_or, sym, ap, subst, arith}
use Rattle.tv_base.proofs.Steps.{false_true}
use Rattle.tv_base.specs.ChildPlaces.{front}
use Rattle.tv_base.proofs.FacetCounts.{no-child_outside, no-child_empty, front-within, child-found}
use Rattle.tv_base.proofs.facet_counts.child_towards.Goals as goal

pub returns-then-not-encoded_is_prefix_of : goal.returns-then-not-encoded_is_prefix_of
returns-then-not-encoded_is_prefix_of c =
    no-child_outside c.args.ancestor.now c.args.facet.now (λ d. false_true (sym c.if-not-encoded_is_prefix_of.true ∙ c.encoded_is_prefix_of.ensures.1 d))

pub split_at-requires : goal.split_at-requires
split_at-requires c =
    omega (arith, front-within c.args.ancestor.now c.args.facet.now (c.encoded_is_prefix_of.ensures.0 c.if-not-encoded_is_prefix_of.false), c.step_start-start.ensures)

pub returns-then-end-eq0 : goal.returns-then-end-eq0
returns-then-end-eq0 c =
    let rest_is : c.split_at.result.1.now ≡ drop (length (front c.args.ancestor.now)) c.args.facet.now = c.split_at.ensures.back ∙ ap (λ n. drop n c.args.facet.now) c.step_start-start.ensures in
    let n = c.step_len.result in
    no-child_empty c.args.ancestor.now c.args.facet.now n (c.encoded_is_prefix_of.ensures.0 c.if-not-encoded_is_prefix_of.false) (ap (λ start. start + n) (sym c.step_start-start.ensures) ∙ c.if-end-eq0.true)
    (subst (λ l. n < length l → get_or l n 0 ≡ 0) rest_is c.step_len.ensures.ended)

pub returns : goal.returns
returns c =
    let rest_is : c.split_at.result.1.now ≡ drop (length (front c.args.ancestor.now)) c.args.facet.now = c.split_at.ensures.back ∙ ap (λ n. drop n c.args.facet.now) c.step_start-start.ensures in
    let n = c.step_len.result in
    let some : length (front c.args.ancestor.now) + n ≢ 0 = λ e. c.if-end-eq0.false (ap (λ start. start + n) c.step_start-start.ensures ∙ e) in
    child-found c.args.ancestor.now c.args.facet.now c.split_at-2.result.0.now c.split_at.result.1.now n (c.encoded_is_prefix_of.ensures.0 c.if-not-encoded_is_prefix_of.false) rest_is c.step_len.ensures.within c.step_len.ensures.step
    c.step_len.ensures.ended (c.split_at-2.ensures.front ∙ ap (λ start. take (start + n) c.args.facet.now) c.step_start-start.ensures) some
