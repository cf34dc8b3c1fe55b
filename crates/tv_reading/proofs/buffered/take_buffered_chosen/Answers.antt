use Rattle.std.proofs.Common.{◌-◌, length, subst, refl, take, arith}
use Rattle.tv_builder.proofs.Documents.{document_length}
use Rattle.tv_format.specs.WriteVersion.{written_version}
use Rattle.tv_reader.specs.Version.{version_of}
use Rattle.tv_reading.specs.ChosenBuffered.{AddsBufferedChosen}
use Rattle.tv_reading.proofs.ChosenRuns.{no_pairs, none_kept, pairs_taken, stood_in}
use Rattle.tv_reader.proofs.Lending.{passed_over, not_passed, none_buffered}
use Rattle.tv_reading.proofs.buffered.take_buffered_chosen.Goals as goal

pub returns-in_default-clause-finds : goal.returns-in_default-clause-finds
returns-in_default-clause-finds g c =
    let v = version_of c.args.version in
    none_buffered (λ b n. AddsBufferedChosen v c.args.fields.now c.args.document.now c.args.document.now b n) 0 (no_pairs v c.args.fields.now c.args.document.now)

pub returns-then-len-eq0-clause-finds : goal.returns-then-len-eq0-clause-finds
returns-then-len-eq0-clause-finds g c =
    let v = version_of c.args.version in
    let fields = c.args.fields.now in
    let old = c.args.document.now in
    let new = c.add_chosen-taken.new.document in
    let lent = c.buffered-lent.result.now in
    let rest = c.add_chosen-taken.result.0.now in
    let n = c.add_chosen-taken.result.1 in
    let known = written_version c.in-Some.known in
    let pairs = pairs_taken known fields old new lent rest n (rw c.new-wanted.ensures at c.add_chosen-taken.ensures.added) in
    let here = subst (λ z. AddsBufferedChosen z fields old new (take (length lent - length rest) lent) n) c.in-Some.ensures pairs in
    none_buffered (λ b m. AddsBufferedChosen v fields old new b m) n (subst (λ z. AddsBufferedChosen v fields old new (take z lent) n) c.if-len-eq0.true here)

pub take_back-requires : goal.take_back-requires
take_back-requires g c = (
  c.args.document.now,
  stood_in (written_version c.in-Some.known) c.args.fields.now c.args.document.now c.add_chosen-taken.new.document _ _ (rw c.new-wanted.ensures at c.add_chosen-taken.ensures.added) (omega (arith, c.len-pairs.ensures, c.args.document.now.pairs.ok.0, document_length c.args.document.now)) (omega (arith, c.len-heap.ensures.len)),
)

pub returns-then-not-pass-clause-finds : goal.returns-then-not-pass-clause-finds
returns-then-not-pass-clause-finds g c =
    let v = version_of c.args.version in
    let fields = c.args.fields.now in
    let old = c.args.document.now in
    let new = c.take_back.new.self in
    let stood = stood_in (written_version c.in-Some.known) fields old c.add_chosen-taken.new.document _ _ (rw c.new-wanted.ensures at c.add_chosen-taken.ensures.added) (omega (arith, c.len-pairs.ensures, old.pairs.ok.0, document_length old)) (omega (arith, c.len-heap.ensures.len)) in
    let back = none_kept v fields old new (c.take_back.ensures old stood) in
    let pass = c.if-not-pass.ensures in
    not_passed (λ b m. AddsBufferedChosen v fields old new b m) 0 back pass.bytes pass.is_known pass.failures

pub returns-clause-finds : goal.returns-clause-finds
returns-clause-finds g c =
    let v = version_of c.args.version in
    let fields = c.args.fields.now in
    let old = c.args.document.now in
    let new = c.add_chosen-taken.new.document in
    let lent = c.buffered-lent.result.now in
    let rest = c.add_chosen-taken.result.0.now in
    let n = c.add_chosen-taken.result.1 in
    let known = written_version c.in-Some.known in
    let pairs = pairs_taken known fields old new lent rest n (rw c.new-wanted.ensures at c.add_chosen-taken.ensures.added) in
    let here = subst (λ z. AddsBufferedChosen z fields old new (take (length lent - length rest) lent) n) c.in-Some.ensures pairs in
    let pass = c.if-not-pass.ensures in
    passed_over (λ b m. AddsBufferedChosen v fields old new b m) n lent (length lent - length rest) c.buffered-lent.ensures (omega arith) (λ a same many. subst (λ z. AddsBufferedChosen v fields old new z n) same here) pass.bytes pass.is_known pass.failures refl
