use Rattle.std.proofs.Common.{length, refl, sym, ap, arith}
use Rattle.tv_value.specs.Lent.{leaf_of}
use Rattle.tv_format.specs.Tree.{leaf}
use Rattle.tv_builder.proofs.Calls.{does_value, value_not, refused_as, value_taken}
use Rattle.tv_builder.proofs.Sound.{can_give, on_value}
use Rattle.tv_builder.proofs.building.Building.leaf.Goals as goal

pub give-requires : goal.give-requires
give-requires c = let b = c.args.self.now in can_give b _ c.requires (on_value b (sym c.in-Value.ensures)) c.in_ok-place.ensures.ok.fits refl refl refl refl

pub returns-in_err-place : goal.returns-in_err-place
returns-in_err-place c =
    let b = c.args.self.now in
    let t = leaf (leaf_of c.args.value.now) in
    let await = sym c.in-Value.ensures in
    let e = c.in_err-place in
    refused_as _ _ _ _ _ _ _ e.field-0.0 c.from_residual.ensures.1 (value_not b (record b { heap = c.put_leaf.new.heap }) t _ _ _ e.field-0.0 await e.ensures.memory (value_taken b t await) e.ensures.err)

pub returns : goal.returns
returns c =
    let b = c.args.self.now in
    let t = leaf (leaf_of c.args.value.now) in
    let put = c.in_ok-place.ensures.ok in
    let await = sym c.in-Value.ensures in
    does_value b _ c.give.new.self c.in_ok-place.place t _ _ _ c.give.result await (omega (arith, put.fits, ap length put.heap)) (value_taken b t await) put refl refl refl c.give.ensures.ok c.give.ensures.err
