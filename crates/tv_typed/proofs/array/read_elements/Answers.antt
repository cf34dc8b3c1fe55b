use Rattle.std.proofs.Common.{refl, ◌∙◌, ◌++◌, ◌∷◌, [], ap}
use Rattle.std.proofs.lemmas.Result.{err_from_is_err_and}
use Rattle.tv_typed.specs.Values.{EncodesAs, NextRefused}
use Rattle.tv_reader.specs.Version.{version_of}
use Rattle.tv_reader.proofs.DepthSteps.{err_of}
use Rattle.tv_typed.proofs.DepthSteps.{among_fails, each_more}
use Rattle.tv_typed.specs.Depths.{AtValue}
use Rattle.tv_typed.proofs.ItemSteps.{into_none, into_more, into_fail, into_short}
use Rattle.tv_typed.proofs.ListSteps.{at_version, next_ended}
use Rattle.tv_typed.specs.Lists.{IsListOf}
use Rattle.tv_typed.proofs.array.read_elements.Goals as goal

pub loop-init : goal.loop-init
loop-init g c = (into_none _ _ _ c.args.reader.now _ IsListOf (EncodesAs g.T.ValueDeserialize.is (version_of c.args.reader.now.version)) c.requires c.new-items.ensures.items, λ told. refl)

pub returns-in_err-item : goal.returns-in_err-item
returns-in_err-item g c =
    let p = err_from_is_err_and c.from_residual.result c.from_residual.ensures.1 in
    let T = g.T.ValueDeserialize in
    let old = c.args.reader.now.version in
    let r = c.in_err-item.ensures in
    let so_far = c.loop.invariant.0 in
    rw (p.1, p.2) (record {
      deserializes = into_fail IsListOf (EncodesAs T.is (version_of old)) (NextRefused T.refused (version_of old)) _ (λ f nothing. next_ended T.refused (version_of old) f nothing) c.loop-test.true so_far (at_version (EncodesAs T.is) (NextRefused T.refused) old so_far.same_version r.deserializes);
      deep = among_fails IsListOf (EncodesAs T.is (version_of old)) _ (λ v l. AtValue T.deep v l) c.loop-test.true so_far (λ o t is. r.deep o t (err_of _ _ is));
      within = λ o t is. absurd cc;
    })

pub returns-in_err-push : goal.returns-in_err-push
returns-in_err-push g c =
    let p = err_from_is_err_and c.from_residual-in_err-push.result c.from_residual-in_err-push.ensures.1 in
    let T = g.T.ValueDeserialize in
    let old = c.args.reader.now.version in
    let so_far = c.loop.invariant.0 in
    rw (p.1, p.2) (record {
      deserializes = into_short IsListOf (EncodesAs T.is (version_of old)) _ _ so_far (at_version (EncodesAs T.is) (NextRefused T.refused) old so_far.same_version c.in_ok-item.ensures.deserializes);
      deep = λ o t is. absurd cc;
      within = λ o t is. absurd cc;
    })

pub loop-preserved : goal.loop-preserved
loop-preserved g c =
    let T = g.T.ValueDeserialize in
    let old = c.args.reader.now.version in
    let Item = EncodesAs T.is (version_of old) in (
      into_more IsListOf Item c.push.new.self (λ xs made. c.in_ok-push.ensures.items ∙ ap (λ l. l ++ c.in_ok-item.item ∷ []) made) c.loop.invariant.0
          (at_version (EncodesAs T.is) (NextRefused T.refused) old c.loop.invariant.0.same_version c.in_ok-item.ensures.deserializes),
      each_more c.read.new.self IsListOf Item (AtValue T.within) c.requires c.loop.invariant.0 c.loop.invariant.1 c.in_ok-item.ensures.within refl,
    )
