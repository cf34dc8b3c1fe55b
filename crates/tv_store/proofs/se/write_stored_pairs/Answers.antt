use Rattle.std.proofs.Common.{◌≡◌, ◌∷◌, subst, rules}
use Rattle.std.proofs.lemmas.Result.{err_from_is_err_and}
use Rattle.tv_base.proofs.Written.{Written-start, Written-step, Written-fails}
use Rattle.tv_doc.specs.Document.{document_of}
use Rattle.tv_heap.specs.Value.{tree_of}
use Rattle.tv_doc.specs.FieldValues.{pairs_left}
use Rattle.tv_value.specs.Nesting.{AllNestWithin}
use Rattle.tv_store.proofs.Stores.{written_next}
use Rattle.tv_store.proofs.se.write_stored_pairs.Goals as goal

pub loop-field-init : goal.loop-field-init
loop-field-init g c =
    let all : pairs_left c.into_iter-field-iterator.result ≡ document_of c.args.document.now = search rules in
    rw all (record { can_next = tt; is_finite = tt; belongs = c.requires; written = Written-start _ _ _ _ _; within = λ h. h })

pub loop-field-preserved : goal.loop-field-preserved
loop-field-preserved g c =
    let l = c.loop-field in
    let cut : pairs_left l.field-iterator ≡ (c.in-Some.field.id, tree_of c.in-Some.value) ∷ pairs_left c.next.new.self = search rules in
    record {
      can_next = tt;
      is_finite = tt;
      belongs = search rules;
      written = Written-step _ _ (written_next _ _ _ _ _ cut) l.invariant.written c.in_ok-write_if_stored.ensures.writes;
      within = λ h. (subst (AllNestWithin 128) cut (l.invariant.within h)).1;
    }

pub returns-in_err-write_if_stored-clause-writes : goal.returns-in_err-write_if_stored-clause-writes
returns-in_err-write_if_stored-clause-writes g c =
    let p = err_from_is_err_and c.from_residual.result c.from_residual.ensures.1 in
    let l = c.loop-field in
    let cut : pairs_left l.field-iterator ≡ (c.in-Some.field.id, tree_of c.in-Some.value) ∷ pairs_left c.next.new.self = search rules in
    rw (p.1, p.2) (Written-fails _ _ (written_next _ _ _ _ _ cut) l.invariant.written c.in_err-write_if_stored.ensures.writes)

pub returns-in_err-write_if_stored-clause-only_io : goal.returns-in_err-write_if_stored-clause-only_io
returns-in_err-write_if_stored-clause-only_io g c =
    let p = err_from_is_err_and c.from_residual.result c.from_residual.ensures.1 in
    let l = c.loop-field in
    let cut : pairs_left l.field-iterator ≡ (c.in-Some.field.id, tree_of c.in-Some.value) ∷ pairs_left c.next.new.self = search rules in
    λ h. rw (p.1, p.2) (c.in_err-write_if_stored.ensures.only_io (subst (AllNestWithin 128) cut (l.invariant.within h)).0)
