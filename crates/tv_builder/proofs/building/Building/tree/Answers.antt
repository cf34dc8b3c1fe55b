use Rattle.std.proofs.Common.{refl, sym, subst}
use Rattle.tv_builder.specs.Whole.{Put, PutNot}
use Rattle.tv_builder.proofs.Calls.{does_value, value_not, refused_as, value_taken}
use Rattle.tv_builder.proofs.Sound.{can_give, on_value}
use Rattle.tv_builder.proofs.building.Building.tree.Goals as goal

pub give-requires : goal.give-requires
give-requires g c = let b = c.args.self.now in can_give b _ c.requires (on_value b (sym c.in-Value.ensures)) c.in_ok-place.ensures.puts.0.fits refl refl c.in_ok-place.ensures.puts.1 refl

pub returns-in_err-place : goal.returns-in_err-place
returns-in_err-place g c =
    let b = c.args.self.now in
    let t = g.V.Value.tree c.args.value.now in
    let await = sym c.in-Value.ensures in
    let e = c.in_err-place in
    let not = subst (λ z. PutNot 4294967295 b.heap.items z c.put_tree.new.heap.items e.field-0.0) c.lend.ensures e.ensures.puts in
    refused_as _ _ _ _ _ _ _ e.field-0.0 c.from_residual.ensures.1 (value_not b (record b { heap = c.put_tree.new.heap; places = c.put_tree.new.places }) t _ _ _ e.field-0.0 await (λ x. tt) (value_taken b t await) not)

pub returns : goal.returns
returns g c =
    let b = c.args.self.now in
    let t = g.V.Value.tree c.args.value.now in
    let await = sym c.in-Value.ensures in
    let x = c.in_ok-place in
    let wrote = subst (λ z. Put 4294967295 b.heap.items z c.put_tree.new.heap.items x.place) c.lend.ensures x.ensures.puts.0 in
    does_value b _ c.give.new.self x.place t _ _ _ c.give.result await tt (value_taken b t await) wrote refl x.ensures.puts.1 refl c.give.ensures.ok c.give.ensures.err
