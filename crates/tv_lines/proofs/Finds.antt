-- What was found so far.
use Rattle.std.proofs.Common.{◌≡◌, ℕ, ◌+◌, ◌^◌, ◌<◌, ◌≤◌, List, [], ◌∷◌, ◌++◌, Bool, false, true, Ok, length, refl, sym, subst, ap, ◌∙◌, append_assoc, append-nil, arith, length-append}
use Rattle.std.specs.Prelude.{cond, count_by}
use Rattle.std.specs.List.{filter}
use Rattle.std.proofs.lemmas.List.Sums.{sum_by_push}
use Rattle.tv_lines.specs.Finding.{CountsFound, FindsDocument, FindsAll, FindsEach, LeavesDocument, LeavesUnsearched, StopsFinding, is_faulty, is_found, named_terms, none, one_more}
use Rattle.tv_lines.specs.Exporting.{AppendsBegun}
use Rattle.tv_lines.specs.WorkErrors.{IsOfPrinting}
use Rattle.tv_lines.specs.declared.export.JsonLayout.TheVariants.{Compact}
use Rattle.tv_lines.specs.declared.find.DocumentOutcome.{DocumentOutcome}
use Rattle.tv_lines.specs.declared.find.DocumentOutcome.TheVariants as outcome
use Rattle.tv_lines.specs.declared.find.FindError.TheVariants as finding
use Rattle.tv_lines.specs.declared.find.Found.{Found}
use Rattle.tv_lines.specs.declared.report.DocumentReport.{DocumentReport}
use Rattle.tv_lines.specs.declared.errors.WorkError.{WorkError}
use Rattle.tv_lines.specs.declared.errors.WorkError.TheVariants as errors
use Rattle.tv_field.specs.Entry.{Entry}
use Rattle.tv_format.specs.Tree.{Document}
use Rattle.tv_format.specs.Version.{Version}
use Rattle.tv_indexing.specs.DocumentTerms.{document_terms, fields_terms, is_among}
use Rattle.tv_query.specs.Fields.{names_field}
use Rattle.tv_query.specs.Grammar.{QueryTree, steps_of}
use Rattle.tv_query.specs.Matching.{Matches}
use Rattle.tv_query.specs.declared.query.Step.{Step}
use Rattle.tv_store.specs.Documents.{BeginsWithDocument}
use Rattle.tv_store.specs.Projections.{ReadsOne, kept, limits_of}
use Rattle.tv_store.specs.declared.projection.Projection.{Projection}
use Rattle.tv_store.proofs.BlocksSoFar.{ReadSoFar, read_more, read_none, whole_before}
use Rattle.tv_value.specs.declared.field.Field.{Field}

-- ---- the terms of the named fields

-- tests with the same answers choose the same pairs
chosen_alike : {X : Type 0} (p q : X → Bool) (xs : List X) → ((x : X) → p x ≡ q x) → filter p xs ≡ filter q xs
chosen_alike p q [] same = refl
chosen_alike p q (x ∷ xs) same = ap (λ b. cond b (x ∷ filter p xs) (filter p xs)) (same x) ∙ ap (λ l. cond (q x) (x ∷ l) l) (chosen_alike p q xs same)

pub terms_named : (schema : List Entry) (tree : QueryTree) (steps : List Step) (fields : List Field) (d : Document) → steps ≡ steps_of tree → ((number : ℕ) → is_among fields number ≡ names_field steps number) → fields_terms schema fields d ≡ named_terms schema tree d
terms_named schema tree steps fields d is named =
    ap (document_terms schema) (chosen_alike (λ pair. is_among fields pair.0) (λ pair. names_field (steps_of tree) pair.0) d (λ pair. named pair.0 ∙ ap (λ (l : List Step). names_field l pair.0) is))

-- ---- a document whose line wasn't written to the end

pub leaves_written : (schema : List Entry) (tree : QueryTree) (d : Document) (old new : List ℕ) (e : WorkError) (terms : List (List ℕ)) → IsOfPrinting e → named_terms schema tree d ≡ Ok terms → Matches terms tree → AppendsBegun schema Compact d old new → LeavesDocument schema tree d old new e
leaves_written schema tree d old new (errors.Write kind) terms is made matches begun = (terms, made, matches, begun)
leaves_written schema tree d old new errors.Memory terms is made matches begun = begun
leaves_written schema tree d old new (errors.Read e) terms is made matches begun = absurd is
leaves_written schema tree d old new errors.TooMany terms is made matches begun = absurd is

pub not_true : false ≡ true → ⊥
not_true e = absurd (cc)

-- ---- so far

-- what is left of a document is left of the one that comes next
leaves_next : (schema : List Entry) (v : Version) (projection : Projection) (tree : QueryTree) (bytes left rest : List ℕ) (number start : ℕ) (old new : List ℕ) (d : Document) (e : WorkError) → BeginsWithDocument v bytes rest d → LeavesDocument schema tree (kept projection d) old new e
    → LeavesUnsearched schema v projection tree bytes left number start old new e
leaves_next schema v projection tree bytes left rest number start old new d (errors.Write kind) begins leaves = (d, rest, begins, leaves)
leaves_next schema v projection tree bytes left rest number start old new d errors.Memory begins leaves = (d, rest, begins, leaves)
leaves_next schema v projection tree bytes left rest number start old new d (errors.Read e) begins leaves = absurd leaves
leaves_next schema v projection tree bytes left rest number start old new d errors.TooMany begins leaves = absurd leaves

-- the documents before the rest, of this number, what became of each, and how many there are of each kind
pub record FoundSoFar (schema : List Entry) (v : Version) (projection : Projection) (tree : QueryTree) (block rest old now : List ℕ) (IsTold : Type 0) (begun ended : List DocumentReport) (number start : ℕ) (found : Found) : Type 0 where
  pub read : ReadSoFar v (limits_of projection) block rest number start
  pub reports : List DocumentReport
  pub each : FindsEach schema v projection tree block old read.before now reports
  pub told : IsTold → ended ≡ begun ++ reports
  pub counted : number ≡ length reports
  pub documents : found.documents ≡ number
  pub matching : found.found ≡ count_by (λ report. is_found report.outcome) reports
  pub faulty : found.faulty ≡ count_by (λ report. is_faulty report.outcome) reports

pub found_none : (schema : List Entry) (v : Version) (projection : Projection) (tree : QueryTree) (block old : List ℕ) (IsTold : Type 0) (begun : List DocumentReport) (start : ℕ) → start ≡ 0
    → FoundSoFar schema v projection tree block block old old IsTold begun begun 0 start (record { documents = 0; found = 0; faulty = 0 })
found_none schema v projection tree block old IsTold begun start is = record {
  read = read_none v (limits_of projection) block start is;
  reports = [];
  each = none;
  told = λ known. sym (append-nil begun);
  counted = refl;
  documents = refl;
  matching = refl;
  faulty = refl;
}

counts_found : (reports : List DocumentReport) (report : DocumentReport) (said : DocumentOutcome) (old new : Found) → CountsFound old said new → report.outcome ≡ said
    → old.found ≡ count_by (λ r. is_found r.outcome) reports → new.found ≡ count_by (λ r. is_found r.outcome) (reports ++ report ∷ [])
counts_found reports report said old new counts same is = by said same counts (sum_by_push (λ (r : DocumentReport). cond (is_found r.outcome) 1 0) reports report)
  where
    by : (o : DocumentOutcome) → report.outcome ≡ o → CountsFound old o new → count_by (λ r. is_found r.outcome) (reports ++ report ∷ []) ≡ count_by (λ r. is_found r.outcome) reports + cond (is_found report.outcome) 1 0
        → new.found ≡ count_by (λ r. is_found r.outcome) (reports ++ report ∷ [])
    by outcome.Found at c sum = omega (arith, c.1, is, sum ∙ ap (λ (o : DocumentOutcome). count_by (λ r. is_found r.outcome) reports + cond (is_found o) 1 0) at)
    by outcome.NotFound at c sum = omega (arith, c.1, is, sum ∙ ap (λ (o : DocumentOutcome). count_by (λ r. is_found r.outcome) reports + cond (is_found o) 1 0) at)
    by (outcome.Faulty why) at c sum = omega (arith, c.1, is, sum ∙ ap (λ (o : DocumentOutcome). count_by (λ r. is_found r.outcome) reports + cond (is_found o) 1 0) at)

counts_faulty : (reports : List DocumentReport) (report : DocumentReport) (said : DocumentOutcome) (old new : Found) → CountsFound old said new → report.outcome ≡ said
    → old.faulty ≡ count_by (λ r. is_faulty r.outcome) reports → new.faulty ≡ count_by (λ r. is_faulty r.outcome) (reports ++ report ∷ [])
counts_faulty reports report said old new counts same is = by said same counts (sum_by_push (λ (r : DocumentReport). cond (is_faulty r.outcome) 1 0) reports report)
  where
    by : (o : DocumentOutcome) → report.outcome ≡ o → CountsFound old o new → count_by (λ r. is_faulty r.outcome) (reports ++ report ∷ []) ≡ count_by (λ r. is_faulty r.outcome) reports + cond (is_faulty report.outcome) 1 0
        → new.faulty ≡ count_by (λ r. is_faulty r.outcome) (reports ++ report ∷ [])
    by outcome.Found at c sum = omega (arith, c.2, is, sum ∙ ap (λ (o : DocumentOutcome). count_by (λ r. is_faulty r.outcome) reports + cond (is_faulty o) 1 0) at)
    by outcome.NotFound at c sum = omega (arith, c.2, is, sum ∙ ap (λ (o : DocumentOutcome). count_by (λ r. is_faulty r.outcome) reports + cond (is_faulty o) 1 0) at)
    by (outcome.Faulty why) at c sum = omega (arith, c.2, is, sum ∙ ap (λ (o : DocumentOutcome). count_by (λ r. is_faulty r.outcome) reports + cond (is_faulty o) 1 0) at)

-- each document is of one kind at most
pub few_more : (said : DocumentOutcome) (old new : Found) → CountsFound old said new → old.found + old.faulty ≤ old.documents → new.found + new.faulty ≤ new.documents
few_more outcome.Found old new c few = omega (arith, c.0, c.1, c.2, few)
few_more outcome.NotFound old new c few = omega (arith, c.0, c.1, c.2, few)
few_more (outcome.Faulty why) old new c few = omega (arith, c.0, c.1, c.2, few)

pub one_counted : (said : DocumentOutcome) (old new : Found) → CountsFound old said new → new.documents ≡ old.documents + 1
one_counted outcome.Found old new c = c.0
one_counted outcome.NotFound old new c = c.0
one_counted (outcome.Faulty why) old new c = c.0

module _ {schema : List Entry} {v : Version} {projection : Projection} {tree : QueryTree} {block rest old now : List ℕ} {IsTold : Type 0} {begun told : List DocumentReport} {number start : ℕ} {found : Found} (m : FoundSoFar schema v projection tree block rest old now IsTold begun told number start found) where
  -- it was gone over, and told
  pub found_next : {left after : List ℕ} {next : ℕ} {ended : List DocumentReport} {shown : Document} (said : DocumentOutcome) (report : DocumentReport) (count : Found) → ReadsOne v projection (λ d. shown ≡ kept projection d) rest left (Ok true) → length left < length rest
      → (start + length rest < 2 ^ 64 → next + length left ≡ start + length rest) → FindsDocument schema tree shown now after said → report.document ≡ number → report.start ≡ start → report.outcome ≡ said → CountsFound found said count
      → (IsTold → ended ≡ told ++ report ∷ []) → FoundSoFar schema v projection tree block left old after IsTold begun ended (number + 1) next count
  found_next {left} {after} {next} {ended} {shown} said report count one fewer placed finds numbered placed_at is counts tells =
      record {
        read = read_more m.read one.0 one.1 fewer placed;
        reports = m.reports ++ report ∷ [];
        each = one_more one.1.prefix one.0 report m.each one.1.encoded (numbered ∙ m.counted) (λ few. placed_at ∙ m.read.begins few)
            (subst (λ (d : Document). FindsDocument schema tree d now after report.outcome) one.2 (subst (FindsDocument schema tree shown now after) (sym is) finds));
        told = λ known. tells known ∙ ap (λ (l : List DocumentReport). l ++ report ∷ []) (m.told known) ∙ append_assoc begun m.reports (report ∷ []);
        counted = omega (arith, m.counted, length-append m.reports (report ∷ []));
        documents = one_counted said found count counts ∙ ap (λ (n : ℕ). n + 1) m.documents;
        matching = counts_found m.reports report said found count counts is m.matching;
        faulty = counts_faulty m.reports report said found count counts is m.faulty;
      }

  pub found_all : rest ≡ [] → FindsAll schema v projection tree block old now IsTold begun told found
  found_all ended = record {
    reports = m.reports;
    each = subst (λ (l : List ℕ). FindsEach schema v projection tree block old l now m.reports) (sym (whole_before m.read ended)) m.each;
    told = m.told;
    documents = m.documents ∙ m.counted;
    matching = m.matching;
    faulty = m.faulty;
  }

  pub found_stops : {E : Type 0} {left after : List ℕ} (e : WorkError) → LeavesUnsearched schema v projection tree rest left (length m.reports) (length m.read.before) now after e → StopsFinding {E = E} schema v projection tree block left old after IsTold begun told (finding.Work e)
  found_stops e next = record { before = m.read.before; after = rest; joined = m.read.joined; middle = now; reports = m.reports; each = m.each; told = m.told; next = next }

  -- it was read, and not gone over to the end
  pub found_left : {E : Type 0} {left : List ℕ} (after : List ℕ) {shown : Document} (e : WorkError) → ReadsOne v projection (λ d. shown ≡ kept projection d) rest left (Ok true) → LeavesDocument schema tree shown now after e
      → StopsFinding {E = E} schema v projection tree block left old after IsTold begun told (finding.Work e)
  found_left {E} {left} after e one leaves =
      found_stops e
      (leaves_next schema v projection tree rest left left (length m.reports) (length m.read.before) now after one.0 e (record { prefix = one.1.prefix; joined = one.1.joined; encoded = one.1.encoded.encoded })
      (subst (λ (d : Document). LeavesDocument schema tree d now after e) one.2 leaves))

  -- it was gone over, and not told
  pub found_untold : {E : Type 0} {left : List ℕ} (after : List ℕ) {ended : List DocumentReport} {shown : Document} (said : DocumentOutcome) (e : E) → ReadsOne v projection (λ d. shown ≡ kept projection d) rest left (Ok true) → FindsDocument schema tree shown now after said
      → (IsTold → ended ≡ told) → StopsFinding {E = E} schema v projection tree block left old after IsTold begun ended (finding.Report e)
  found_untold {E} {left} after said e one finds untold = record {
    before = m.read.before;
    after = rest;
    joined = m.read.joined;
    middle = now;
    reports = m.reports;
    each = m.each;
    told = λ known. untold known ∙ m.told known;
    next = (one.0, left, said, record { prefix = one.1.prefix; joined = one.1.joined; encoded = one.1.encoded.encoded }, subst (λ (d : Document). FindsDocument schema tree d now after said) one.2 finds);
  }
