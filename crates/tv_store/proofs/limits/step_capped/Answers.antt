use Rattle.std.proofs.Common.{◌≡◌, ◌+◌, ◌-◌, ◌^◌, ap, sym, subst, ◌∙◌}
use Rattle.std.specs.Prelude.{◌↔◌, IsTrue, IsSome}
use Rattle.tv_reading.specs.Prefix.{IsDone, IsMalformedNext}
use Rattle.tv_reading.specs.Steps.{Stepped}
use Rattle.tv_reader.specs.Version.{version_of}
use Rattle.tv_store.proofs.StepsPaid.{recounted_few, recounted_paid}
use Rattle.tv_store.proofs.WithinLimits.{part_read, part_refused, part_early, stepped_as}
use Rattle.tv_store.specs.declared.limits.LimitedReadError.TheVariants as limited
use Rattle.tv_store.specs.declared.limits.ReadLimit.TheVariants as limit
use Rattle.tv_store.proofs.limits.step_capped.Goals as goal

pub returns-in-Ok-clause-finds : goal.returns-in-Ok-clause-finds
returns-in-Ok-clause-finds g c =
    let d = c.args.decoder.now in
    let at = c.recount.new.self in
    let then = c.step-stepped.new.self in
    let new = c.recount-2.new.self in
    let v = version_of d.version in
    let begun : at.count ≡ c.first_count-first.result + d.count = c.recount.ensures.count ∙ ap (λ n. c.first_count-first.result + n) c.bytes_read-taken.ensures in
    let ended : new.count ≡ then.count - c.first_count-first.result = c.recount-2.ensures.count ∙ ap (λ n. n - c.first_count-first.result) c.bytes_read-count.ensures in
    let more = subst (λ r. ¬ IsDone r) (sym c.recount.ensures.reading) c.requires.more in
    let h = c.in-Ok.ensures.steps.finds (c.recount.ensures.failed ∙ c.requires.not_failed) more in
    part_read c.first_count-first.result begun ended c.in-Ok.step _ (λ b x. Stepped v new.legacy_seen d.reading new.reading b) _ (IsMalformedNext v d.reading)
    (λ b. stepped_as _ _ _ _ _ _ _ _ b (ap version_of c.recount.ensures.version) (sym c.recount-2.ensures.seen) c.recount.ensures.reading (sym c.recount-2.ensures.reading)) h

pub returns-in-Err-clause-finds : goal.returns-in-Err-clause-finds
returns-in-Err-clause-finds g c =
    let d = c.args.decoder.now in
    let at = c.recount.new.self in
    let then = c.step-stepped.new.self in
    let new = c.recount-2.new.self in
    let v = version_of d.version in
    let begun : at.count ≡ c.first_count-first.result + d.count = c.recount.ensures.count ∙ ap (λ n. c.first_count-first.result + n) c.bytes_read-taken.ensures in
    let ended : new.count ≡ then.count - c.first_count-first.result = c.recount-2.ensures.count ∙ ap (λ n. n - c.first_count-first.result) c.bytes_read-count.ensures in
    let more = subst (λ r. ¬ IsDone r) (sym c.recount.ensures.reading) c.requires.more in
    let h = c.in-Err.ensures.steps.finds (c.recount.ensures.failed ∙ c.requires.not_failed) more in
    let same = subst (λ n. IsTrue c.is_all.result ↔ (IsSome c.args.most × (n ≡ 2 ^ 64 - 1))) c.bytes_read-count.ensures c.is_all.ensures in
    part_refused c.first_count-first.result begun ended c.in-Err.error c.is_all.result c.refused.result c.args.most _ (λ b x. Stepped v new.legacy_seen d.reading new.reading b) _ (IsMalformedNext v d.reading)
    c.refused.ensures c.first_count-first.ensures.count same
    (λ b f p. subst (λ r. IsMalformedNext v r b f) c.recount.ensures.reading (subst (λ z. IsMalformedNext (version_of z) at.reading b f) c.recount.ensures.version p)) h

pub returns-in-Err-clause-ends : goal.returns-in-Err-clause-ends
returns-in-Err-clause-ends g c = λ known is.
    let d = c.args.decoder.now in
    let at = c.recount.new.self in
    let v = version_of d.version in
    let more = subst (λ r. ¬ IsDone r) (sym c.recount.ensures.reading) c.requires.more in
    let h = c.in-Err.ensures.steps.finds (c.recount.ensures.failed ∙ c.requires.not_failed) more in
    let said : c.refused.result ≡ limited.Limit limit.Bytes = cc in
    part_early c.in-Err.error c.is_all.result c.refused.result _ _ (IsMalformedNext v d.reading) c.refused.ensures said
    (λ b f p. subst (λ r. IsMalformedNext v r b f) c.recount.ensures.reading (subst (λ z. IsMalformedNext (version_of z) at.reading b f) c.recount.ensures.version p)) h known

pub returns-in-Ok-clause-at_most : goal.returns-in-Ok-clause-at_most
returns-in-Ok-clause-at_most g c = λ known.
    let begun = c.recount.ensures.count ∙ ap (λ n. c.first_count-first.result + n) c.bytes_read-taken.ensures in
    let ended = c.recount-2.ensures.count ∙ ap (λ n. n - c.first_count-first.result) c.bytes_read-count.ensures in
    recounted_few c.args.decoder.now c.recount.new.self c.step-stepped.new.self c.recount-2.new.self c.first_count-first.result c.recount.ensures.reading begun c.recount-2.ensures.reading ended c.recount-2.ensures.seen _ (c.in-Ok.ensures.at_most known)

pub returns-in-Ok-clause-paid : goal.returns-in-Ok-clause-paid
returns-in-Ok-clause-paid g c = λ known.
    let begun = c.recount.ensures.count ∙ ap (λ n. c.first_count-first.result + n) c.bytes_read-taken.ensures in
    let ended = c.recount-2.ensures.count ∙ ap (λ n. n - c.first_count-first.result) c.bytes_read-count.ensures in
    let more = subst (λ r. ¬ IsDone r) (sym c.recount.ensures.reading) c.requires.more in
    let h = c.in-Ok.ensures.steps.finds (c.recount.ensures.failed ∙ c.requires.not_failed) more in
    recounted_paid c.args.decoder.now c.recount.new.self c.step-stepped.new.self c.recount-2.new.self c.first_count-first.result c.recount.ensures.reading begun c.recount-2.ensures.reading ended c.recount-2.ensures.seen c.recount.ensures.version c.recount.ensures.failed h.count_grows (c.in-Ok.ensures.paid known)

pub returns-in-Err-clause-at_most : goal.returns-in-Err-clause-at_most
returns-in-Err-clause-at_most g c = λ known.
    let begun = c.recount.ensures.count ∙ ap (λ n. c.first_count-first.result + n) c.bytes_read-taken.ensures in
    let ended = c.recount-2.ensures.count ∙ ap (λ n. n - c.first_count-first.result) c.bytes_read-count.ensures in
    recounted_few c.args.decoder.now c.recount.new.self c.step-stepped.new.self c.recount-2.new.self c.first_count-first.result c.recount.ensures.reading begun c.recount-2.ensures.reading ended c.recount-2.ensures.seen _ (c.in-Err.ensures.at_most known)

pub returns-in-Err-clause-paid : goal.returns-in-Err-clause-paid
returns-in-Err-clause-paid g c = λ known.
    let begun = c.recount.ensures.count ∙ ap (λ n. c.first_count-first.result + n) c.bytes_read-taken.ensures in
    let ended = c.recount-2.ensures.count ∙ ap (λ n. n - c.first_count-first.result) c.bytes_read-count.ensures in
    let more = subst (λ r. ¬ IsDone r) (sym c.recount.ensures.reading) c.requires.more in
    let h = c.in-Err.ensures.steps.finds (c.recount.ensures.failed ∙ c.requires.not_failed) more in
    recounted_paid c.args.decoder.now c.recount.new.self c.step-stepped.new.self c.recount-2.new.self c.first_count-first.result c.recount.ensures.reading begun c.recount-2.ensures.reading ended c.recount-2.ensures.seen c.recount.ensures.version c.recount.ensures.failed h.count_grows (c.in-Err.ensures.paid known)
