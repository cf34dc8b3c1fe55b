use Rattle.std.proofs.Common.{length, refl, sym, ap, arith}
use Rattle.tv_format.specs.Tree.{leaf, text}
use Rattle.tv_builder.proofs.Calls.{does_value, value_not, refused_as, key_taken}
use Rattle.tv_builder.proofs.Sound.{can_give, on_key}
use Rattle.tv_builder.proofs.building.Building.key.Goals as goal

pub give-requires : goal.give-requires
give-requires c = let b = c.args.self.now in can_give b _ c.requires (on_key b (sym c.in-Key.ensures)) c.in_ok-place.ensures.ok.fits refl refl refl refl

pub returns-in_err-place : goal.returns-in_err-place
returns-in_err-place c =
    let b = c.args.self.now in
    let k = c.args.content.now in
    let await = sym c.in-Key.ensures in
    let e = c.in_err-place in
    refused_as _ _ _ _ _ _ _ e.field-0.0 c.from_residual.ensures.1 (value_not b (record b { heap = c.put_leaf.new.heap }) (leaf (text k)) _ _ _ e.field-0.0 await e.ensures.memory (key_taken b k await) e.ensures.err)

pub returns : goal.returns
returns c =
    let b = c.args.self.now in
    let k = c.args.content.now in
    let put = c.in_ok-place.ensures.ok in
    let await = sym c.in-Key.ensures in
    does_value b _ c.give.new.self c.in_ok-place.place (leaf (text k)) _ _ _ c.give.result await (omega (arith, put.fits, ap length put.heap)) (key_taken b k await) put refl refl refl c.give.ensures.ok c.give.ensures.err
