use Rattle.std.proofs.Common.{◌↔◌, ◌∙◌, Bool, false, IsTrue, subst, sym}
use Rattle.std.proofs.lemmas.Bool.{false≢true}
use Rattle.tv_format.specs.Tree.{Document}
use Rattle.tv_doc.specs.Document.{document_of}
use Rattle.tv_doc.specs.SameTexts.{HasAll, SameTexts, field_texts}
use Rattle.tv_doc.proofs.FieldTexts.{same_texts, has_all, has_all_back, all_moved}
use Rattle.tv_doc.proofs.document.CompactDoc.same_as.Goals as goal
use Rattle.tv_doc.proofs.document.CompactDoc.same_as.Goals.{then-has_all, else-has_all}

both : (d e : Document) (b : Bool) → (IsTrue b ↔ HasAll (field_texts e) (field_texts d)) → HasAll (field_texts d) (field_texts e) → IsTrue b ↔ SameTexts d e
both d e b back there = (λ is. same_texts d e there (back.0 is), λ same. back.1 (has_all_back d e same))

neither : (d e : Document) → (HasAll (field_texts d) (field_texts e) → ⊥) → IsTrue false ↔ SameTexts d e
neither d e not_there = (λ is. absurd (false≢true is), λ same. absurd (not_there (has_all d e same)))

pub returns : goal.returns
returns c =
    let d = document_of c.args.self.now in
    let e = document_of c.args.other.now in
    let one = c.in_ok-texts.ensures in
    let other = c.in_ok-others.ensures in
    let there = all_moved c.has_all.result _ _ (field_texts d) (field_texts e) one other c.has_all.ensures in
    elim c.if-has_all.branch [
      | then-has_all w ↦
          let back = all_moved w.has_all-then-has_all.result _ _ (field_texts e) (field_texts d) other one w.has_all-then-has_all.ensures in
          subst (λ b. IsTrue b ↔ SameTexts d e) (sym w.result-is) (both d e w.has_all-then-has_all.result back (there.0 w.if-has_all.true))
      | else-has_all w ↦ subst (λ b. IsTrue b ↔ SameTexts d e) (sym (w.result-is ∙ w.if-has_all.false)) (neither d e (λ has. false≢true (sym w.if-has_all.false ∙ there.1 has)))
    ]
