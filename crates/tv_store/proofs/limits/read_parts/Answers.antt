use Rattle.std.proofs.lemmas.List.{length-take}
use Rattle.std.proofs.Common.{◌≡◌, length, ◌+◌, ◌-◌, ◌^◌, ◌<◌, Ok, Err, ◌∙◌, ap, subst, refl, arith}
use Rattle.std.specs.Prelude.{◌↔◌, IsTrue, IsSome}
use Rattle.tv_base.specs.Stop.{Taken}
use Rattle.tv_builder.specs.Builder.{heap_so_far}
use Rattle.tv_doc.specs.Document.{heap_of}
use Rattle.tv_reader.specs.Error.{store_stop}
use Rattle.tv_reader.specs.Version.{version_of}
use Rattle.tv_reader.specs.declared.error.DeserializeError.{DeserializeError}
use Rattle.tv_store.proofs.TestedParts.{of_version, taken_part, told_part}
use Rattle.tv_store.specs.Limits.{ReadsByLimits, ends_part, has_come}
use Rattle.tv_store.specs.declared.limits.LimitedReadError.TheVariants as limited
use Rattle.tv_store.proofs.WithinLimits.{ended, passed, told_of, told_counts, tested, less_past, tested_fits, tested_errors, tested_counts, counted_from}
use Rattle.tv_store.proofs.limits.read_parts.Goals as goal

pub returns-in-None-clause-comes : goal.returns-in-None-clause-comes
returns-in-None-clause-comes g c = λ told.
    let left = g.S.ByteSource.left in
    let begun = c.counting_from-decoder in
    let decoder = c.take_within-taken.new.decoder in
    let h = c.in-Ok.ensures in
    let taken = subst (λ n. Taken (left c.args.source.now) (left c.take_within-taken.new.source) n decoder.count) (begun.ensures.count ∙ c.first_count-first.ensures.count) (h.finds.taken told) in
    let below : decoder.count < 2 ^ 64 = omega (arith, c.bytes_read-last.ensures, c.bytes_read-last.type_inv) in
    tested (version_of c.args.version) c.args.limits _ _ c.into_doc.result c.tested.result c.tested.ensures
    (subst (λ z. ReadsByLimits (version_of z) c.args.limits (left c.args.source.now) (left c.take_within-taken.new.source) (Ok c.into_doc.result)) begun.ensures.version
    (ended (version_of begun.result.version) c.args.limits begun.result.reading decoder.reading c.into_doc.result _ _ decoder.count begun.ensures.parts (decoder.sound h.not_failed) (h.done c.in-None.is) c.into_doc.ensures.document (h.finds.found told) taken below))

pub returns-in-Some-clause-comes : goal.returns-in-Some-clause-comes
returns-in-Some-clause-comes g c = λ told.
    let left = g.S.ByteSource.left in
    let begun = c.counting_from-decoder in
    let decoder = c.take_within-taken.new.decoder in
    let h = c.in-Ok.ensures in
    let check = rw c.in-Some.is at h.checked in
    let taken = subst (λ n. Taken (left c.args.source.now) (left c.take_within-taken.new.source) n decoder.count) (begun.ensures.count ∙ c.first_count-first.ensures.count) (h.finds.taken told) in
    let below : decoder.count < 2 ^ 64 = omega (arith, c.bytes_read-last.ensures, c.bytes_read-last.type_inv) in
    subst (λ z. ReadsByLimits (version_of z) c.args.limits (left c.args.source.now) (left c.take_within-taken.new.source) (Err (limited.Limit c.in-Some.limit))) begun.ensures.version
    (passed (version_of begun.result.version) c.args.limits begun.result.reading decoder.reading _ _ _ decoder.count begun.ensures.parts (decoder.sound h.not_failed) check (h.finds.found told) taken below)

pub returns-in-Err-clause-comes : goal.returns-in-Err-clause-comes
returns-in-Err-clause-comes g c = λ told.
    let left = g.S.ByteSource.left in
    let begun = c.counting_from-decoder in
    let decoder = c.take_within-taken.new.decoder in
    let h = c.in-Err.ensures in
    let taken = subst (λ n. Taken (left c.args.source.now) (left c.take_within-taken.new.source) n decoder.count) (begun.ensures.count ∙ c.first_count-first.ensures.count) (h.finds.taken told) in
    let below : decoder.count < 2 ^ 64 = omega (arith, c.bytes_read-last.ensures, c.bytes_read-last.type_inv) in
    subst (λ z. ReadsByLimits (version_of z) c.args.limits (left c.args.source.now) (left c.take_within-taken.new.source) (Err c.refused.result)) begun.ensures.version
    (told_of (version_of begun.result.version) c.args.limits begun.result.reading c.in-Err.error _ _ decoder.count _ c.refused.result c.refused.ensures begun.ensures.parts (h.finds.found told) taken below (subst (λ n. IsTrue c.is_all.result ↔ (IsSome c.args.limits.bytes × (n ≡ 2 ^ 64 - 1))) c.bytes_read-last.ensures c.is_all.ensures) (λ m e. subst (λ z. z + m ≡ 2 ^ 64 - 1) c.first_count-first.ensures.count (c.first_count-first.ensures.sum m e)) (λ is. h.no_room told (ap (λ (z : DeserializeError). Err z) is)))

pub returns-in-Err-clause-failures : goal.returns-in-Err-clause-failures
returns-in-Err-clause-failures g c = told_counts c.in-Err.error _ c.refused.result (store_stop c.in-Err.error) _ _ refl c.refused.ensures (c.in-Err.ensures.finds.counts)

pub returns-in-None-clause-fits : goal.returns-in-None-clause-fits
returns-in-None-clause-fits g c =
    let d = c.into_doc.result in
    let b = c.take_within-taken.new.decoder.reading.builder in
    let check = rw c.in-None.is at c.in-Ok.ensures.checked in
    tested_fits c.args.limits d c.tested.result c.tested.ensures (less_past c.args.limits.heap_bytes (length (heap_of d)) (length (heap_so_far b)) (omega (arith, ap length c.into_doc.ensures.heap, length-take b.kept (heap_so_far b))) check.1)

pub returns-in-None-clause-errors : goal.returns-in-None-clause-errors
returns-in-None-clause-errors g c = tested_errors c.args.limits c.into_doc.result c.tested.result c.tested.ensures

pub returns-in-None-clause-failures : goal.returns-in-None-clause-failures
returns-in-None-clause-failures g c = tested_counts c.args.limits.depth c.into_doc.result c.tested.result _ _ c.tested.ensures c.in-Ok.ensures.finds.counts

pub returns-in-None-clause-counted : goal.returns-in-None-clause-counted
returns-in-None-clause-counted g c = λ told. counted_from _ _ _ _ _ c.counting_from-decoder.ensures.count c.bytes_read-last.ensures c.in-Ok.ensures.finds.count_grows (c.in-Ok.ensures.finds.taken told)

pub returns-in-Some-clause-counted : goal.returns-in-Some-clause-counted
returns-in-Some-clause-counted g c = λ told. counted_from _ _ _ _ _ c.counting_from-decoder.ensures.count c.bytes_read-last.ensures c.in-Ok.ensures.finds.count_grows (c.in-Ok.ensures.finds.taken told)

pub returns-in-Err-clause-counted : goal.returns-in-Err-clause-counted
returns-in-Err-clause-counted g c = λ told. counted_from _ _ _ _ _ c.counting_from-decoder.ensures.count c.bytes_read-last.ensures c.in-Err.ensures.finds.count_grows (c.in-Err.ensures.finds.taken told)

pub returns-in-None-clause-parts : goal.returns-in-None-clause-parts
returns-in-None-clause-parts g c = λ told. taken_part (has_come c.tested.result) (of_version c.args.version c.counting_from-decoder.ensures.version (c.in-Ok.ensures.parts told))

pub returns-in-Some-clause-parts : goal.returns-in-Some-clause-parts
returns-in-Some-clause-parts g c = λ told. taken_part (ends_part (limited.Limit c.in-Some.limit)) (of_version c.args.version c.counting_from-decoder.ensures.version (c.in-Ok.ensures.parts told))

pub returns-in-Err-clause-parts : goal.returns-in-Err-clause-parts
returns-in-Err-clause-parts g c = λ told. told_part c.in-Err.error _ c.refused.result c.refused.ensures (of_version c.args.version c.counting_from-decoder.ensures.version (c.in-Err.ensures.parts told))
