use Rattle.std.proofs.Common.{refl}
use Rattle.std.proofs.lemmas.Result.{err_from_is_err_and}
use Rattle.tv_typed.specs.Lists.{EncodesEntry, EntryRefused}
use Rattle.tv_reader.specs.Version.{version_of}
use Rattle.tv_reader.proofs.DepthSteps.{err_of}
use Rattle.tv_typed.proofs.DepthSteps.{among_fails, each_more}
use Rattle.tv_typed.specs.Depths.{AtEntry}
use Rattle.tv_typed.proofs.ItemSteps.{into_none, into_more, into_fail, into_short}
use Rattle.tv_typed.proofs.ListSteps.{at_version, entry_ended}
use Rattle.tv_typed.proofs.object.read_entries.Goals as goal

pub loop-init : goal.loop-init
loop-init g c = (into_none _ _ _ c.args.reader.now _ g.C.Entries.made (EncodesEntry g.T.ValueDeserialize.is (version_of c.args.reader.now.version)) c.requires c.empty-entries.ensures, λ told. refl)

pub returns-in_err-key : goal.returns-in_err-key
returns-in_err-key g c =
    let p = err_from_is_err_and c.from_residual.result c.from_residual.ensures.1 in
    let T = g.T.ValueDeserialize in
    let old = c.args.reader.now.version in
    let r = c.in_err-key.ensures in
    let so_far = c.loop.invariant.0 in
    rw (p.1, p.2) (record {
      deserializes = into_fail g.C.Entries.made (EncodesEntry T.is (version_of old)) (EntryRefused T.refused (version_of old)) _ (λ f nothing. entry_ended T.refused old f nothing) c.loop-test.true so_far (at_version (EncodesEntry T.is) (EntryRefused T.refused) old so_far.same_version r.deserializes);
      deep = among_fails g.C.Entries.made (EncodesEntry T.is (version_of old)) _ (λ v l. AtEntry T.deep v l) c.loop-test.true so_far (λ o t is. r.deep o t (err_of _ _ is));
      within = λ o t is. absurd cc;
    })

pub returns-in_err-put : goal.returns-in_err-put
returns-in_err-put g c =
    let p = err_from_is_err_and c.from_residual-in_err-put.result c.from_residual-in_err-put.ensures.1 in
    let T = g.T.ValueDeserialize in
    let old = c.args.reader.now.version in
    let so_far = c.loop.invariant.0 in
    rw (p.1, p.2) (record {
      deserializes = into_short g.C.Entries.made (EncodesEntry T.is (version_of old)) _ _ so_far (at_version (EncodesEntry T.is) (EntryRefused T.refused) old so_far.same_version c.in_ok-key.ensures.deserializes);
      deep = λ o t is. absurd cc;
      within = λ o t is. absurd cc;
    })

pub loop-preserved : goal.loop-preserved
loop-preserved g c =
    let T = g.T.ValueDeserialize in
    let old = c.args.reader.now.version in
    let Item = EncodesEntry T.is (version_of old) in (
      into_more g.C.Entries.made Item c.put.new.self c.in_ok-put.ensures c.loop.invariant.0
          (at_version (EncodesEntry T.is) (EntryRefused T.refused) old c.loop.invariant.0.same_version c.in_ok-key.ensures.deserializes),
      each_more c.entry.new.self g.C.Entries.made Item (AtEntry T.within) c.requires c.loop.invariant.0 c.loop.invariant.1 c.in_ok-key.ensures.within refl,
    )
