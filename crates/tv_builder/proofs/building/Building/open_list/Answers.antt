use Rattle.std.proofs.Common.{◌≡◌, ◌≤◌, [], ◌++◌, drop, length, refl, sym, ◌∙◌, ap, subst, arith}
use Rattle.std.proofs.lemmas.List.{drop_all, take_all}
use Rattle.tv_base.specs.Parts.{short_sized}
use Rattle.tv_builder.specs.Fits.{ListFits}
use Rattle.tv_builder.specs.State.{list_tree}
use Rattle.tv_builder.proofs.Calls.{does_value, value_not, refused_as}
use Rattle.tv_builder.proofs.Opening.{empty_taken, empty_put, empty_put_not, opens_list}
use Rattle.tv_builder.proofs.Sound.{can_give, on_value}
use Rattle.tv_builder.proofs.building.Building.open_list.Goals as goal

pub returns-in_err-place : goal.returns-in_err-place
returns-in_err-place c =
    let b = c.args.self.now in
    let kind = c.args.kind in
    let none : drop c.len-first.result b.places.items ≡ [] = drop_all c.len-first.result b.places.items (omega (arith, c.len-first.ensures.len)) in
    let await = sym c.in-Value.ensures in
    let e = c.in_err-place in
    refused_as _ _ _ _ _ _ _ e.field-0.0 c.from_residual.ensures.1
    (value_not b (record b { heap = c.put_list.new.heap; places = c.put_list.new.places }) (list_tree kind []) _ (ListFits b.heap.items c.args.announced) _ e.field-0.0 await
    (λ x z. subst (λ own. length (b.heap.items ++ short_sized own) ≤ 4294967295) none (e.ensures.err.memory x)) (empty_taken b kind c.args.announced c.if-announced-eq0.true await)
    (empty_put_not b.heap.items c.put_list.new.heap.items _ kind e.field-0.0 none e.ensures.err))

pub give-requires : goal.give-requires
give-requires c =
    let b = c.args.self.now in
    let kept : c.put_list.new.places.items ≡ b.places.items = c.in_ok-place.ensures.places ∙ take_all c.len-first.result b.places.items (omega (arith, c.len-first.ensures.len)) in
    can_give b _ c.requires (on_value b (sym c.in-Value.ensures)) c.in_ok-place.ensures.ok.fits refl refl kept refl

pub returns-then-announced-eq0 : goal.returns-then-announced-eq0
returns-then-announced-eq0 c =
    let b = c.args.self.now in
    let kind = c.args.kind in
    let none : drop c.len-first.result b.places.items ≡ [] = drop_all c.len-first.result b.places.items (omega (arith, c.len-first.ensures.len)) in
    let kept : c.put_list.new.places.items ≡ b.places.items = c.in_ok-place.ensures.places ∙ take_all c.len-first.result b.places.items (omega (arith, c.len-first.ensures.len)) in
    let w = c.in_ok-place.ensures.ok in
    let holds : ListFits b.heap.items c.args.announced = λ z. subst (λ own. length (b.heap.items ++ short_sized own) ≤ 4294967295) none (omega (arith, w.fits, ap length w.heap)) in
    let await = sym c.in-Value.ensures in
    does_value b _ c.give.new.self c.in_ok-place.place (list_tree kind []) _ (ListFits b.heap.items c.args.announced) _ c.give.result await holds (empty_taken b kind c.args.announced c.if-announced-eq0.true await)
    (empty_put b.heap.items c.put_list.new.heap.items _ kind c.in_ok-place.place none w) refl kept refl c.give.ensures.ok c.give.ensures.err

pub returns : goal.returns
returns c =
    let b = c.args.self.now in
    let first : c.len-first.result ≡ length b.places.items = omega (arith, c.len-first.ensures.len) in
    opens_list b _ c.args.kind c.args.announced _ (omega (arith, c.if-announced-eq0.false)) (ap (λ n. record { kind = c.args.kind; announced = c.args.announced; finished = 0; first = n }) first) (sym c.in-Value.ensures)
    refl refl refl c.in_ok-push.ensures.items refl refl
