use Rattle.std.proofs.Common.{Err, arith, rules, ap, refl, subst, sym, ◌∙◌}
use Rattle.std.proofs.lemmas.Result.{err_from_is_err_and}
use Rattle.tv_reading.specs.Prefix.{IsMalformedNext, NoRoomBehind}
use Rattle.tv_reading.specs.Steps.{Advances}
use Rattle.tv_reader.specs.Legacy.{Legacy}
use Rattle.tv_reader.specs.Version.{version_of}
use Rattle.tv_reader.specs.declared.error.DeserializeError.TheVariants.{HeapFull}
use Rattle.tv_reader.proofs.Finding.{finds_as}
use Rattle.tv_reading.proofs.WholeDocuments.{no_room}
use Rattle.tv_store.proofs.RoundTrips.{err_is}
use Rattle.std.specs.Result.{is_ok}
use Rattle.tv_base.specs.Parts.{Begins}
use Rattle.tv_store.specs.Limits.{TakenWithin}
use Rattle.tv_store.proofs.TestedParts.{fresh, no_part, none_came, part_breaks, part_came, part_ends, passed_none}
use Rattle.tv_store.proofs.WithinLimits.{begins, goes_on, takes_one, too_many, fails}
use Rattle.tv_store.proofs.limits.take_within.Goals as goal

pub returns-in_err-step-clause-finds : goal.returns-in_err-step-clause-finds
returns-in_err-step-clause-finds g c =
    let p = err_from_is_err_and c.from_residual.result c.from_residual.ensures.1 in
    let v = version_of c.args.decoder.now.version in
    let l = c.loop in
    rw (p.1, p.2) (fails v (version_of l.decoder.version) (ap version_of l.invariant.version) c.args.decoder.now.reading l.decoder.reading _ c.step.new.self.legacy_seen c.step.new.self.reading (λ b x. Advances Legacy v c.args.decoder.now.reading c.step.new.self.reading b)
    (l.decoder.sound l.invariant.not_failed) l.invariant.more l.invariant.finds (c.in_err-step.ensures.steps.finds l.invariant.not_failed l.invariant.more))

pub returns-in_err-step-clause-no_room : goal.returns-in_err-step-clause-no_room
returns-in_err-step-clause-no_room g c = λ told is.
    let p = err_from_is_err_and c.from_residual.result c.from_residual.ensures.1 in
    let l = c.loop in
    let full = c.in_err-step.ensures.steps.no_room (l.invariant.finds.stays_known told) HeapFull (ap (λ z. Err z) (err_is c.from_residual.result _ HeapFull (p.1 ∙ ap (λ z. Err z) p.2) is)) refl in
    no_room (version_of c.args.decoder.now.version) c.args.decoder.now.reading l.decoder.reading l.invariant.finds told
    (subst (λ w. NoRoomBehind w l.decoder.reading (g.S.ByteSource.left l.source)) (ap version_of l.invariant.version) full)

pub returns-in_err-step-clause-parts : goal.returns-in_err-step-clause-parts
returns-in_err-step-clause-parts g c = λ told.
    let p = err_from_is_err_and c.from_residual.result c.from_residual.ensures.1 in
    let left = g.S.ByteSource.left in
    let l = c.loop in
    let h = c.in_err-step.ensures in
    let known = l.invariant.finds.stays_known told in
    subst (λ whole. Begins (TakenWithin (version_of c.args.decoder.now.version) c.args.limits whole) (left c.args.source.now) (left c.step.new.source)) (ap is_ok (sym p.1))
    (part_breaks (version_of c.args.decoder.now.version) c.args.limits l.decoder.reading (l.decoder.sound l.invariant.not_failed) l.invariant.passes (l.invariant.came told) ((h.steps.finds l.invariant.not_failed l.invariant.more).taken known) (h.at_most known))

pub returns-then-is_some-clause-parts : goal.returns-then-is_some-clause-parts
returns-then-is_some-clause-parts g c = λ told.
    let l = c.loop in
    part_ends (version_of c.args.decoder.now.version) c.args.limits l.decoder.reading (l.decoder.sound l.invariant.not_failed) l.invariant.passes (l.invariant.came told) (version_of l.decoder.version) (ap version_of l.invariant.version) c.step.new.self.legacy_seen c.step.new.self.reading
    ((c.in_ok-step.ensures.steps.finds l.invariant.not_failed l.invariant.more).found (l.invariant.finds.stays_known told))

pub returns-in-Done-clause-parts : goal.returns-in-Done-clause-parts
returns-in-Done-clause-parts g c = λ told.
    let l = c.loop in
    part_ends (version_of c.args.decoder.now.version) c.args.limits l.decoder.reading (l.decoder.sound l.invariant.not_failed) l.invariant.passes (l.invariant.came told) (version_of l.decoder.version) (ap version_of l.invariant.version) c.step.new.self.legacy_seen c.step.new.self.reading
    ((c.in_ok-step.ensures.steps.finds l.invariant.not_failed l.invariant.more).found (l.invariant.finds.stays_known told))

pub returns-then-is_some-clause-finds : goal.returns-then-is_some-clause-finds
returns-then-is_some-clause-finds g c =
    let v = version_of c.args.decoder.now.version in
    let l = c.loop in
    finds_as _ (λ b x. Advances Legacy v c.args.decoder.now.reading c.step.new.self.reading b) (IsMalformedNext v c.args.decoder.now.reading) (λ a s. s)
    (goes_on v (version_of l.decoder.version) (ap version_of l.invariant.version) c.args.decoder.now.reading l.decoder.reading c.in_ok-step.step c.step.new.self.legacy_seen c.step.new.self.reading l.invariant.finds (c.in_ok-step.ensures.steps.finds l.invariant.not_failed l.invariant.more))

pub returns-in-Done-clause-finds : goal.returns-in-Done-clause-finds
returns-in-Done-clause-finds g c =
    let v = version_of c.args.decoder.now.version in
    let l = c.loop in
    finds_as _ (λ b x. Advances Legacy v c.args.decoder.now.reading c.step.new.self.reading b) (IsMalformedNext v c.args.decoder.now.reading) (λ a s. s)
    (goes_on v (version_of l.decoder.version) (ap version_of l.invariant.version) c.args.decoder.now.reading l.decoder.reading c.in_ok-step.step c.step.new.self.legacy_seen c.step.new.self.reading l.invariant.finds (c.in_ok-step.ensures.steps.finds l.invariant.not_failed l.invariant.more))

pub loop-init : goal.loop-init
loop-init g c =
    let v = version_of c.args.decoder.now.version in
    let r = c.args.decoder.now.reading in
    record {
      not_failed = c.requires.not_failed;
      more = c.requires.more;
      version = refl;
      finds = begins v r _ _;
      passes = fresh c.args.limits r (c.args.decoder.now.sound c.requires.not_failed) c.requires.nothing;
      came = λ told. none_came v c.args.limits r _ c.requires.nothing;
      counted = λ told. omega arith;
    }

pub loop-preserved : goal.loop-preserved
loop-preserved g c =
    let v = version_of c.args.decoder.now.version in
    let l = c.loop in
    let did = c.in_ok-step.ensures.steps.finds l.invariant.not_failed l.invariant.more in
    record {
      not_failed = search rules;
      more = search rules;
      version = c.in_ok-step.ensures.steps.version ∙ l.invariant.version;
      finds = goes_on v (version_of l.decoder.version) (ap version_of l.invariant.version) c.args.decoder.now.reading l.decoder.reading c.in_ok-step.step c.step.new.self.legacy_seen c.step.new.self.reading l.invariant.finds did;
      passes = passed_none c.args.limits c.step.new.self.reading c.passed_limit-passed.result c.passed_limit-passed.ensures (sym c.is_some.ensures ∙ c.if-is_some.false);
      came = λ told. part_came v c.args.limits l.decoder.reading (l.decoder.sound l.invariant.not_failed) l.invariant.passes (l.invariant.came told) (version_of l.decoder.version) (ap version_of l.invariant.version) c.step.new.self.legacy_seen c.step.new.self.reading (did.found (l.invariant.finds.stays_known told));
      counted = λ told. omega (arith, l.invariant.counted told, takes_one v (version_of l.decoder.version) (ap version_of l.invariant.version) c.args.decoder.now.reading l.decoder.reading c.in_ok-step.step c.step.new.self.legacy_seen c.step.new.self.reading did (l.invariant.finds.stays_known told));
    }

pub returns-clause-finds : goal.returns-clause-finds
returns-clause-finds g c =
    let v = version_of c.args.decoder.now.version in
    let l = c.loop in
    too_many v (version_of l.decoder.version) (ap version_of l.invariant.version) c.args.decoder.now.reading l.decoder.reading l.counter (λ b x. Advances Legacy v c.args.decoder.now.reading l.decoder.reading b) (l.decoder.sound l.invariant.not_failed) l.invariant.more (omega arith) (omega arith) l.invariant.counted l.invariant.finds

pub returns-clause-parts : goal.returns-clause-parts
returns-clause-parts g c = λ told.
    let l = c.loop in
    no_part (version_of c.args.decoder.now.version) c.args.limits l.decoder.reading (l.decoder.sound l.invariant.not_failed) l.invariant.passes (l.invariant.came told)
