use Rattle.std.proofs.Common.{◌≡◌, rules, true, false, sym, ◌∙◌, subst, arith, append-nil}
use Rattle.std.proofs.lemmas.Result.{err_from_is_err_and}
use Rattle.tv_builder.specs.Prefix.{Encoded}
use Rattle.tv_reader.specs.Legacy.{Legacy}
use Rattle.tv_reader.specs.Version.{version_of}
use Rattle.tv_reader.specs.declared.error.DeserializeError.TheVariants.{HeapFull}
use Rattle.tv_reading.specs.Prefix.{parts_read}
use Rattle.tv_reader.proofs.Lending.{none_buffered}
use Rattle.tv_reader.proofs.DepthSteps.{err_of}
use Rattle.tv_reading.proofs.WholeDocuments.{Goes, step_more, step_fails, step_takes, pairs_more, all_finished, no_room, too_many}
use Rattle.tv_reading.proofs.document.take_rest.Goals as goal

pub loop-init : goal.loop-init
loop-init g c =
    let v = version_of c.args.version in
    let r = c.args.begun in (
      c.requires,
      none_buffered (Goes v r) r (λ bytes p. subst (λ z. Encoded Legacy v z (parts_read r)) (sym (append-nil bytes)) p),
      λ told. omega arith,
    )

pub returns-then-is_done-clause-finds : goal.returns-then-is_done-clause-finds
returns-then-is_done-clause-finds g c =
    all_finished (version_of c.args.version) c.args.begun c.loop.reading c.into_pairs.result c.loop.invariant.0 (c.is_done.ensures.0 c.if-is_done.true) c.into_pairs.ensures.document c.loop.invariant.1

pub returns-in_err-advance-clause-finds : goal.returns-in_err-advance-clause-finds
returns-in_err-advance-clause-finds g c =
    let p = err_from_is_err_and c.from_residual.result c.from_residual.ensures.1 in
    let v = version_of c.args.version in
    rw (p.1, p.2) (step_fails v c.args.begun c.loop.reading _ c.advance.new.legacy_seen c.advance.new.self c.loop.invariant.0 (λ d. let t : true ≡ false = sym (c.is_done.ensures.1 d) ∙ c.if-is_done.false in cc) c.loop.invariant.1 c.in_err-advance.ensures.finds)

pub returns-in_err-advance-clause-no_room : goal.returns-in_err-advance-clause-no_room
returns-in_err-advance-clause-no_room g c =
    let p = err_from_is_err_and c.from_residual.result c.from_residual.ensures.1 in
    rw (p.1, p.2) (λ told full. no_room (version_of c.args.version) c.args.begun c.loop.reading c.loop.invariant.1 told (c.in_err-advance.ensures.no_room (c.loop.invariant.1.stays_known told) (err_of _ HeapFull full)))

pub loop-preserved : goal.loop-preserved
loop-preserved g c =
    let v = version_of c.args.version in
    let l = c.loop in
    let step = c.in_ok-advance.ensures in
    let pairs = c.with_buffered_pairs-reading.ensures in
    let more = step_more v c.args.begun l.reading c.in_ok-advance.field-0 c.advance.new.legacy_seen c.advance.new.self l.invariant.1 step.finds in (
      pairs.sound,
      pairs_more v c.args.begun c.advance.new.self c.with_buffered_pairs-reading.result more pairs.finds,
      λ told. omega (arith, l.invariant.2 told, step_takes v c.args.begun l.reading c.in_ok-advance.field-0 c.advance.new.legacy_seen c.advance.new.self step.finds (l.invariant.1.stays_known told), pairs.finds.count_grows),
    )

pub returns-clause-finds : goal.returns-clause-finds
returns-clause-finds g c =
    let v = version_of c.args.version in
    too_many v c.args.begun c.loop.reading c.loop.counter c.loop.invariant.0 (λ d. let t : true ≡ false = sym (c.is_done-2.ensures.1 d) ∙ c.if-is_done-2.false in cc) (search rules) (search rules) c.loop.invariant.2 c.loop.invariant.1

pub returns-then-is_done-2-clause-finds : goal.returns-then-is_done-2-clause-finds
returns-then-is_done-2-clause-finds g c =
    all_finished (version_of c.args.version) c.args.begun c.loop.reading c.into_pairs-then-is_done-2.result c.loop.invariant.0 (c.is_done-2.ensures.0 c.if-is_done-2.true) c.into_pairs-then-is_done-2.ensures.document c.loop.invariant.1
