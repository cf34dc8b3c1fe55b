-- The bytes of a block decide what searching it says.
use Rattle.std.proofs.Common.{◌≡◌, ◌∙◌, ◌∷◌, ◌++◌, ◌-◌, ◌^◌, ◌<◌, ℕ, List, [], Result, Ok, Err, refl, sym, ap, subst, arith, length, length-append, append_assoc}
use Rattle.std.proofs.lemmas.List.{append_cancel_left}
use Rattle.std.specs.Prelude.{count_by}
use Rattle.tv_doc.specs.Named.{field_names}
use Rattle.tv_field.specs.Entry.{Entry}
use Rattle.tv_format.proofs.Trees.{one_document}
use Rattle.tv_format.specs.Encoding.{EncodesDocument}
use Rattle.tv_format.specs.Tree.{Document}
use Rattle.tv_format.specs.Version.{Version}
use Rattle.tv_lines.proofs.OnePrint.{OneText}
use Rattle.tv_lines.proofs.OneStop.{Breaks, breaks_none, breaks_one}
use Rattle.tv_lines.specs.Alike.{AreSearchedAlike, IsDecided, IsSearchDecided}
use Rattle.tv_lines.specs.Finding.{FindsAll, FindsDocument, FindsEach, SearchesBlock, StopsFinding, is_faulty, is_found, named_terms}
use Rattle.tv_lines.specs.Finding.FindsEach.{none, one_more}
use Rattle.tv_lines.specs.Printing.{AppendsJson, laid_out}
use Rattle.tv_lines.specs.declared.errors.WorkError.TheVariants as work
use Rattle.tv_lines.specs.declared.export.JsonLayout.TheVariants.{Compact}
use Rattle.tv_lines.specs.declared.find.DocumentOutcome.{DocumentOutcome}
use Rattle.tv_lines.specs.declared.find.DocumentOutcome.TheVariants as outcome
use Rattle.tv_lines.specs.declared.find.FindError.{FindError}
use Rattle.tv_lines.specs.declared.find.FindError.TheVariants as finding
use Rattle.tv_lines.specs.declared.find.Found.{Found}
use Rattle.tv_lines.specs.declared.report.DocumentReport.{DocumentReport}
use Rattle.tv_query.specs.Grammar.{QueryTree}
use Rattle.tv_query.specs.Matching.{Matches}
use Rattle.tv_reader.proofs.UniqueLegacy.{one_legacy}
use Rattle.tv_reader.specs.Legacy.{Legacy}
use Rattle.tv_store.proofs.BlocksSoFar.{each-snoc}
use Rattle.tv_store.proofs.MigratedAlike.{one_block}
use Rattle.tv_store.specs.BlockMigration.{EncodesBlock}
use Rattle.tv_store.specs.Projections.{kept}
use Rattle.tv_store.specs.declared.block.RefusedDocument.{RefusedDocument}
use Rattle.tv_store.specs.declared.projection.Projection.{Projection}

module _ (text_one : OneText) (schema : List Entry) (v : Version) (p : Projection) (tree : QueryTree) where
  -- ---- one document

  appended_one : (d : Document) (old new other : List ℕ) → AppendsJson schema Compact d old new → AppendsJson schema Compact d old other → new ≡ other
  appended_one d old new other h k =
      let same = text_one (field_names schema) d h.0 k.0 h.1 k.1 in
      h.2 ∙ ap (λ (json : List ℕ). old ++ (laid_out Compact json ++ 10 ∷ [])) same ∙ sym k.2

  found_one : (d : Document) (old new other : List ℕ) (said also : DocumentOutcome) → FindsDocument schema tree d old new said → FindsDocument schema tree d old other also → (said ≡ also) × (new ≡ other)
  found_one d old new other outcome.Found outcome.Found h k = (refl, appended_one d old new other h.3 k.3)
  found_one d old new other outcome.Found outcome.NotFound h k =
      let mine : named_terms schema tree d ≡ Ok h.0 = h.1 in
      let yours : named_terms schema tree d ≡ Ok k.0 = k.1 in
      let same : h.0 ≡ k.0 = cc (mine, yours) in
      absurd (k.2 (subst (λ (terms : List (List ℕ)). Matches terms tree) same h.2))
  found_one d old new other outcome.NotFound outcome.Found h k =
      let mine : named_terms schema tree d ≡ Ok h.0 = h.1 in
      let yours : named_terms schema tree d ≡ Ok k.0 = k.1 in
      let same : k.0 ≡ h.0 = cc (mine, yours) in
      absurd (h.2 (subst (λ (terms : List (List ℕ)). Matches terms tree) same k.2))
  found_one d old new other outcome.NotFound outcome.NotFound h k = (refl, h.3 ∙ sym k.3)
  found_one d old new other (outcome.Faulty why) (outcome.Faulty reason) h k =
      let same : why ≡ reason = cc (h.0, k.0) in (ap outcome.Faulty same, h.1 ∙ sym k.1)
  found_one d old new other (outcome.Faulty why) outcome.Found h k =
      let mine = h.0 in let yours : named_terms schema tree d ≡ Ok k.0 = k.1 in absurd (cc (mine, yours))
  found_one d old new other (outcome.Faulty why) outcome.NotFound h k =
      let mine = h.0 in let yours : named_terms schema tree d ≡ Ok k.0 = k.1 in absurd (cc (mine, yours))
  found_one d old new other outcome.Found (outcome.Faulty why) h k =
      let mine : named_terms schema tree d ≡ Ok h.0 = h.1 in let yours = k.0 in absurd (cc (mine, yours))
  found_one d old new other outcome.NotFound (outcome.Faulty why) h k =
      let mine : named_terms schema tree d ≡ Ok h.0 = h.1 in let yours = k.0 in absurd (cc (mine, yours))

  -- ---- documents

  module _ (block : List ℕ) (few : length block < 2 ^ 64 - 1) (old : List ℕ) where
    -- what was gone over is documents
    record Gone (before : List ℕ) (reports : List DocumentReport) : Type 0 where
      documents : List Document
      encoded : EncodesBlock v before documents
      counted : length reports ≡ length documents

    gone : (before new : List ℕ) (reports : List DocumentReport) → FindsEach schema v p tree block old before new reports → Gone before reports
    gone _ _ _ none = record { documents = []; encoded = refl; counted = refl }
    gone _ _ _ (one_more {before = before} {middle = middle} {reports = reports} bytes d report each within numbered begins found) =
        let first = gone before middle reports each in
        record {
          documents = first.documents ++ d ∷ [];
          encoded = each-snoc (EncodesDocument Legacy v) before bytes first.documents d first.encoded within.encoded;
          counted = omega (arith, length-append reports (report ∷ []), first.counted, length-append first.documents (d ∷ []));
        }

    record AreGoneAlike (before second new other : List ℕ) (reports others : List DocumentReport) : Type 0 where
      bytes : before ≡ second
      text : new ≡ other
      told : reports ≡ others

    -- as many documents of the same bytes are gone over alike
    finds_one : (before second new other rest behind : List ℕ) (reports others : List DocumentReport) → FindsEach schema v p tree block old before new reports → FindsEach schema v p tree block old second other others → length reports ≡ length others
        → before ++ rest ≡ second ++ behind → AreGoneAlike before second new other reports others
    finds_one _ _ _ _ rest behind _ _ none none same joined = record { bytes = refl; text = refl; told = refl }
    finds_one _ _ _ _ rest behind _ _ none (one_more {reports = others} bytes d report each within numbered begins found) same joined = absurd (omega (arith, same, length-append others (report ∷ [])))
    finds_one _ _ _ _ rest behind _ _ (one_more {reports = reports} bytes d report each within numbered begins found) none same joined = absurd (omega (arith, same, length-append reports (report ∷ [])))
    finds_one _ _ _ _ rest behind _ _ (one_more {before = before} {middle = middle} {new = new} {reports = reports} bytes d report each within numbered begins found) (one_more {before = second} {middle = center} {new = other} {reports = others} more e also every limited counted starts searched) same joined =
        let fewer : length reports ≡ length others = omega (arith, same, length-append reports (report ∷ []), length-append others (also ∷ [])) in
        let both : before ++ (bytes ++ rest) ≡ second ++ (more ++ behind) = sym (append_assoc before bytes rest) ∙ joined ∙ append_assoc second more behind in
        let one = finds_one before second middle center (bytes ++ rest) (more ++ behind) reports others each every fewer both in
        let tails : bytes ++ rest ≡ more ++ behind = append_cancel_left second (bytes ++ rest) (more ++ behind) (ap (λ (l : List ℕ). l ++ (bytes ++ rest)) (sym one.bytes) ∙ both) in
        let encoding = one_document Legacy v one_legacy bytes more rest behind d e within.encoded limited.encoded tails in
        let mine : FindsDocument schema tree (kept p e) center new report.outcome = subst (λ (l : List ℕ). FindsDocument schema tree (kept p e) l new report.outcome) one.text (subst (λ (z : Document). FindsDocument schema tree (kept p z) middle new report.outcome) encoding.1 found) in
        let said = found_one (kept p e) center new other report.outcome also.outcome mine searched in
        let number : report.document ≡ also.document = numbered ∙ fewer ∙ sym counted in
        let start : report.start ≡ also.start = begins few ∙ ap length one.bytes ∙ sym (starts few) in
        record { bytes = (λ i. one.bytes i ++ encoding.0 i); text = said.1; told = (λ i. one.told i ++ record { document = number i; start = start i; outcome = said.0 i } ∷ []) }

    -- ---- a block

    stop_breaks : {E : Type 0} (left new : List ℕ) (IsTold : Type 0) (begun ended : List DocumentReport) (e : RefusedDocument) → StopsFinding {E = E} schema v p tree block left old new IsTold begun ended (finding.Work (work.Read e)) → Breaks v p block left e
    stop_breaks left new IsTold begun ended e h =
        let g = gone h.before h.middle h.reports h.each in
        record { before = h.before; behind = h.after; joined = h.joined; documents = g.documents; encoded = g.encoded; counted = h.next.1 ∙ g.counted; refused = h.next.2 }

    module _ {E : Type 0} (left other new second : List ℕ) (IsTold : Type 0) (begun ended finished : List DocumentReport) where
      all_alike : (one also : Found) → FindsAll schema v p tree block old new IsTold begun ended one → FindsAll schema v p tree block old second IsTold begun finished also → AreSearchedAlike {E = E} left other new second IsTold ended finished (Ok one) (Ok also)
      all_alike one also h k =
          let mine = gone block new h.reports h.each in
          let yours = gone block second k.reports k.each in
          let documents = one_block v block mine.documents yours.documents mine.encoded yours.encoded in
          let many : length h.reports ≡ length k.reports = mine.counted ∙ ap length documents ∙ sym yours.counted in
          let same = finds_one block block new second [] [] h.reports k.reports h.each k.each many refl in
          let number : one.documents ≡ also.documents = h.documents ∙ many ∙ sym k.documents in
          let found : one.found ≡ also.found = h.matching ∙ ap (count_by (λ report. is_found report.outcome)) same.told ∙ sym k.matching in
          let faulty : one.faulty ≡ also.faulty = h.faulty ∙ ap (count_by (λ report. is_faulty report.outcome)) same.told ∙ sym k.faulty in
          record {
            same = (λ i. Ok (record { documents = number i; found = found i; faulty = faulty i }));
            appended = same.text;
            told = λ is. h.told is ∙ ap (λ (reports : List DocumentReport). begun ++ reports) same.told ∙ sym (k.told is);
            rest = λ is. absurd (cc (is));
          }

      stops_alike : (e f : RefusedDocument) → IsDecided e.error → IsDecided f.error → StopsFinding {E = E} schema v p tree block left old new IsTold begun ended (finding.Work (work.Read e)) → StopsFinding {E = E} schema v p tree block other old second IsTold begun finished (finding.Work (work.Read f))
          → AreSearchedAlike {E = E} left other new second IsTold ended finished (Err (finding.Work (work.Read e))) (Err (finding.Work (work.Read f)))
      stops_alike e f decided too h k =
          let mine = stop_breaks left new IsTold begun ended e h in
          let yours = stop_breaks other second IsTold begun finished f k in
          let one = breaks_one v p block few left other e f decided too mine yours in
          let many : length h.reports ≡ length k.reports = sym h.next.1 ∙ ap (λ (z : RefusedDocument). z.document) one.error ∙ k.next.1 in
          let same = finds_one h.before k.before h.middle k.middle h.after k.after h.reports k.reports h.each k.each many (sym h.joined ∙ k.joined) in
          record {
            same = ap (λ (z : RefusedDocument). Err (finding.Work (work.Read z))) one.error;
            appended = h.next.0 ∙ same.text ∙ sym k.next.0;
            told = λ is. h.told is ∙ ap (λ (reports : List DocumentReport). begun ++ reports) same.told ∙ sym (k.told is);
            rest = λ is. one.rest;
          }

      pub searches_alike : (result twin : Result Found (FindError E)) → IsSearchDecided result → IsSearchDecided twin → SearchesBlock schema v p tree block left old new IsTold begun ended result → SearchesBlock schema v p tree block other old second IsTold begun finished twin → AreSearchedAlike {E = E} left other new second IsTold ended finished result twin
      searches_alike (Ok one) (Ok also) decided too h k = all_alike one also h k
      searches_alike (Ok one) (Err (finding.Work (work.Read f))) decided too h k =
          let mine = gone block new h.reports h.each in
          absurd (breaks_none v p block few mine.documents other f too mine.encoded (stop_breaks other second IsTold begun finished f k))
      searches_alike (Err (finding.Work (work.Read e))) (Ok also) decided too h k =
          let yours = gone block second k.reports k.each in
          absurd (breaks_none v p block few yours.documents left e decided yours.encoded (stop_breaks left new IsTold begun ended e h))
      searches_alike (Err (finding.Work (work.Read e))) (Err (finding.Work (work.Read f))) decided too h k = stops_alike e f decided too h k
      searches_alike (Ok one) (Err f) decided too h k = absurd too
      searches_alike (Err (finding.Work (work.Read e))) (Err f) decided too h k = absurd too
      searches_alike (Err e) twin decided too h k = absurd decided
