use Rattle.std.proofs.Common.{◌≡◌, ℕ, [], ◌∷◌, Err, ap, subst, sym, ◌∙◌, rules}
use Rattle.std.proofs.lemmas.Result.{err_from_is_err_and}
use Rattle.tv_doc.specs.Document.{document_of}
use Rattle.tv_doc.specs.FieldValues.{pairs_left}
use Rattle.tv_format.specs.Tree.{Document, Tree}
use Rattle.tv_heap.specs.Value.{tree_of}
use Rattle.tv_indexing.proofs.Late.{found_late, late_more, late_none}
use Rattle.tv_indexing.proofs.Visiting.{Taken, taken_all, taken_more, taken_none, taken_refused, taken_some}
use Rattle.tv_indexing.proofs.Wanted.{no_pairs, one_pair}
use Rattle.tv_indexing.specs.DocumentTerms.{followed_by, wanted_pair_terms, wanted_terms}
use Rattle.tv_indexing.proofs.document.visit_terms.Goals as goal

pub loop-field-init : goal.loop-field-init
loop-field-init g c =
    let P = g.V.TermVisitor.has_taken in
    let wanted = c.args.fields in
    let whole = wanted_terms c.args.schema.now wanted (document_of c.args.document.now) in
    let all : pairs_left c.into_iter-field-iterator.result ≡ document_of c.args.document.now = search rules in
    record {
      can_next = tt;
      is_finite = tt;
      so_far = subst (λ (pairs : Document). Taken P c.args.visitor.now c.args.visitor.now whole (wanted_terms c.args.schema.now wanted pairs)) (sym all) (taken_none P c.args.visitor.now whole);
      late = late_none c.args.schema.now wanted (document_of c.args.document.now) (pairs_left c.into_iter-field-iterator.result) (sym all);
    }

pub loop-field-preserved : goal.loop-field-preserved
loop-field-preserved g c =
    let l = c.loop-field in
    let P = g.V.TermVisitor.has_taken in
    let schema = c.args.schema.now in
    let wanted = c.args.fields in
    let pair : ℕ × Tree = (c.in-Some.field.id, tree_of c.in-Some.value) in
    let left = pairs_left c.next.new.self in
    let cut : pairs_left l.field-iterator ≡ pair ∷ left = search rules in
    record {
      can_next = tt;
      is_finite = tt;
      so_far = taken_more P c.args.visitor.now l.visitor c.visit_wanted.new.visitor (wanted_terms schema wanted (document_of c.args.document.now)) (wanted_terms schema wanted (pairs_left l.field-iterator)) (wanted_pair_terms schema wanted pair) (wanted_terms schema wanted left)
          (ap (wanted_terms schema wanted) cut ∙ one_pair schema wanted pair left) c.in_ok-visit_wanted.ensures.made l.invariant.so_far;
      late = late_more schema wanted P l.visitor c.visit_wanted.new.visitor (document_of c.args.document.now) (pairs_left l.field-iterator) left pair cut c.in_ok-visit_wanted.ensures.made l.invariant.late;
    }

pub returns-clause-answers : goal.returns-clause-answers
returns-clause-answers g c =
    let l = c.loop-field in
    let schema = c.args.schema.now in
    let wanted = c.args.fields in
    let none : pairs_left l.field-iterator ≡ [] = search rules in
    taken_all g.V.TermVisitor.has_taken c.args.visitor.now l.visitor (wanted_terms schema wanted (document_of c.args.document.now)) (wanted_terms schema wanted (pairs_left l.field-iterator))
    (ap (wanted_terms schema wanted) none ∙ no_pairs schema wanted) l.invariant.so_far

pub returns-in_err-visit_wanted-clause-answers : goal.returns-in_err-visit_wanted-clause-answers
returns-in_err-visit_wanted-clause-answers g c =
    let l = c.loop-field in
    let schema = c.args.schema.now in
    let wanted = c.args.fields in
    let pair : ℕ × Tree = (c.in-Some.field.id, tree_of c.in-Some.value) in
    let rest = wanted_terms schema wanted (pairs_left c.next.new.self) in
    let cut : pairs_left l.field-iterator ≡ pair ∷ pairs_left c.next.new.self = search rules in
    let p = err_from_is_err_and c.from_residual.result c.from_residual.ensures.1 in
    rw (p.1, p.2) (
      λ some. taken_refused g.V.TermVisitor.has_taken c.args.visitor.now l.visitor (wanted_terms schema wanted (document_of c.args.document.now)) (wanted_terms schema wanted (pairs_left l.field-iterator)) rest _
          (ap (wanted_terms schema wanted) cut ∙ one_pair schema wanted pair (pairs_left c.next.new.self) ∙ ap (λ t. followed_by t rest) (c.in_err-visit_wanted.ensures.refused some)) l.invariant.so_far,
      λ is why h.
          let m = c.in_err-visit_wanted.ensures.memory (ap Err is) in
          found_late schema wanted (document_of c.args.document.now) (pairs_left l.field-iterator) (pairs_left c.next.new.self) pair why cut m.0 (m.1 why) l.invariant.late,
    )

pub returns-in_err-visit_wanted-clause-kept : goal.returns-in_err-visit_wanted-clause-kept
returns-in_err-visit_wanted-clause-kept g c =
    let l = c.loop-field in
    let schema = c.args.schema.now in
    let p = err_from_is_err_and c.from_residual.result c.from_residual.ensures.1 in
    rw p.1 (taken_some g.V.TermVisitor.has_taken c.args.visitor.now l.visitor c.visit_wanted.new.visitor (wanted_terms schema c.args.fields (document_of c.args.document.now)) (wanted_terms schema c.args.fields (pairs_left l.field-iterator))
    c.in_err-visit_wanted.ensures.kept l.invariant.so_far)
