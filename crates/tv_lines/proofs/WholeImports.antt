-- What was imported of an input so far.
use Rattle.std.proofs.Common.{◌≡◌, ◌≢◌, ℕ, ◌+◌, ◌-◌, ◌^◌, ◌≤◌, Bool, true, false, List, [], ◌∷◌, ◌++◌, Some, None, length, refl, sym, subst, ap, ◌∙◌, arith, append_assoc, append-nil, length-append}
use Rattle.std.specs.Prelude.{cond, count_by}
use Rattle.std.proofs.lemmas.List.Sums.{sum_by_push}
use Rattle.tv_lines.specs.Importing.{Imports, IsOutcome, LeavesBegun}
use Rattle.tv_lines.specs.WholeImports.{CountsOutcome, FirstLines, ImportsAll, ImportsEach, Outcomes, StopsImport, is_refused, is_stored, is_unsearchable, numbered}
use Rattle.tv_lines.specs.WholeImports.FirstLines.{none_first, one_first}
use Rattle.tv_lines.specs.WholeImports.Outcomes.{next_outcome, no_outcomes}
use Rattle.tv_lines.specs.declared.errors.Halt.{Halt}
use Rattle.tv_lines.specs.declared.import.ImportRules.{ImportRules}
use Rattle.tv_lines.specs.declared.import.LineOutcome.{LineOutcome}
use Rattle.tv_lines.specs.declared.import.LineOutcome.TheVariants.{Refused, Stored}
use Rattle.tv_lines.specs.declared.imports.ImportLinesError.TheVariants as errors
use Rattle.tv_lines.specs.declared.imports.Imported.{Imported}
use Rattle.tv_lines.specs.declared.report.LineReport.{LineReport}
use Rattle.tv_field.specs.Entry.{Entry}
use Rattle.tv_lines.specs.Lines.{FirstLine, Lines}
use Rattle.tv_lines.specs.Lines.Lines.{no_lines, next_line}

-- ---- one line more

pub first-snoc : {input rest line behind : List ℕ} {lines : List (List ℕ)} → FirstLines input lines rest → rest ≢ [] → FirstLine rest line behind → FirstLines input (lines ++ line ∷ []) behind
first-snoc none_first some first = one_first some first none_first
first-snoc (one_first s f more) some first = one_first s f (first-snoc more some first)

-- where nothing is left, these are the lines
pub all_lines : {input rest : List ℕ} {lines : List (List ℕ)} → FirstLines input lines rest → rest ≡ [] → Lines input lines
all_lines none_first none = subst (λ (l : List ℕ). Lines l []) (sym none) no_lines
all_lines (one_first s f more) none = next_line s f (all_lines more none)

pub outcomes-snoc : (schema : List Entry) (rules : ImportRules) (lines : List (List ℕ)) (line block text : List ℕ) (outcomes : List LineOutcome) (said : LineOutcome) → Outcomes schema rules lines block outcomes → IsOutcome schema rules line text said
    → Outcomes schema rules (lines ++ line ∷ []) (block ++ text) (outcomes ++ said ∷ [])
outcomes-snoc schema rules [] line [] text (_ ∷ _) said h one = elim h [ ]
outcomes-snoc schema rules [] line (_ ∷ _) text outcomes said h one = elim h [ ]
outcomes-snoc schema rules [] line [] text [] said no_outcomes one =
    subst (λ (l : List ℕ). Outcomes schema rules (line ∷ []) l (said ∷ [])) (append-nil text) (next_outcome text one no_outcomes)
outcomes-snoc schema rules (first ∷ lines) line block text outcomes said (next_outcome {block = others} {said = told} {outcomes = rest} some is more) one =
    subst (λ (l : List ℕ). Outcomes schema rules ((first ∷ lines) ++ line ∷ []) l ((told ∷ rest) ++ said ∷ [])) (sym (append_assoc some others text))
    (next_outcome some is (outcomes-snoc schema rules lines line others text rest said more one))

-- as many outcomes as lines
as_many : (schema : List Entry) (rules : ImportRules) (lines : List (List ℕ)) (block : List ℕ) (outcomes : List LineOutcome) → Outcomes schema rules lines block outcomes → length lines ≡ length outcomes
as_many schema rules [] [] [] h = refl
as_many schema rules [] [] (_ ∷ _) h = elim h [ ]
as_many schema rules [] (_ ∷ _) outcomes h = elim h [ ]
as_many schema rules (line ∷ lines) block outcomes (next_outcome {block = others} {outcomes = rest} text is more) = omega (arith, as_many schema rules lines others rest more)

numbered-snoc : (first : ℕ) (outcomes : List LineOutcome) (said : LineOutcome) (line : LineReport) → line.line ≡ first + length outcomes → line.outcome ≡ said → numbered first (outcomes ++ said ∷ []) ≡ numbered first outcomes ++ line ∷ []
numbered-snoc first [] said line is same =
    let at : first ≡ line.line = omega (arith, is) in
    ap (λ (n : ℕ). (record { line = n; outcome = said }) ∷ []) at ∙ ap (λ (o : LineOutcome). (record { line = line.line; outcome = o }) ∷ []) (sym same)
numbered-snoc first (x ∷ xs) said line is same =
    ap (λ (l : List LineReport). (record { line = first; outcome = x }) ∷ l) (numbered-snoc (first + 1) xs said line (omega (arith, is)) same)

-- ---- so far

-- The first lines of the input were imported, and as many of each kind as are counted.
pub record ImportedSoFar (schema : List Entry) (rules : ImportRules) (input rest old new : List ℕ) (IsTold : Type 0) (begun ended : List LineReport) (number : ℕ) (said : Imported) : Type 0 where
  pub lines : List (List ℕ)
  pub first : FirstLines input lines rest
  pub imported : ImportsEach schema rules lines old new IsTold begun ended
  pub counted : number ≡ length imported.outcomes
  pub stored : said.stored ≡ count_by is_stored imported.outcomes
  pub unsearchable : said.unsearchable ≡ count_by is_unsearchable imported.outcomes
  pub refused : said.refused ≡ count_by is_refused imported.outcomes

pub imported_none : (schema : List Entry) (rules : ImportRules) (input old : List ℕ) (IsTold : Type 0) (begun : List LineReport) (said : Imported) → said.stored ≡ 0 → said.unsearchable ≡ 0 → said.refused ≡ 0
    → ImportedSoFar schema rules input input old old IsTold begun begun 0 said
imported_none schema rules input old IsTold begun said no_stored no_unsearchable no_refused = record {
  lines = [];
  first = none_first;
  imported = record { outcomes = []; block = []; each = no_outcomes; held = sym (append-nil old); told = λ known. sym (append-nil begun) };
  counted = refl;
  stored = no_stored;
  unsearchable = no_unsearchable;
  refused = no_refused;
}

-- one outcome more, which is counted or not
counted_more : (p : LineOutcome → Bool) (outcomes : List LineOutcome) (said : LineOutcome) → p said ≡ true → count_by p (outcomes ++ said ∷ []) ≡ count_by p outcomes + 1
counted_more p outcomes said is = sum_by_push (λ x. cond (p x) 1 0) outcomes said ∙ ap (λ (b : Bool). count_by p outcomes + cond b 1 0) is

counted_as_many : (p : LineOutcome → Bool) (outcomes : List LineOutcome) (said : LineOutcome) → p said ≡ false → count_by p (outcomes ++ said ∷ []) ≡ count_by p outcomes
counted_as_many p outcomes said is = sum_by_push (λ x. cond (p x) 1 0) outcomes said ∙ ap (λ (b : Bool). count_by p outcomes + cond b 1 0) is ∙ omega arith

counts_stored : (outcomes : List LineOutcome) (said : LineOutcome) (old new : Imported) → CountsOutcome old said new → old.stored ≡ count_by is_stored outcomes → new.stored ≡ count_by is_stored (outcomes ++ said ∷ [])
counts_stored outcomes (Stored size None) old new counts is = omega (arith, counts.0, is, counted_more is_stored outcomes (Stored size None) refl)
counts_stored outcomes (Stored size (Some why)) old new counts is = omega (arith, counts.0, is, counted_more is_stored outcomes (Stored size (Some why)) refl)
counts_stored outcomes (Refused e) old new counts is = omega (arith, counts.0, is, counted_as_many is_stored outcomes (Refused e) refl)

counts_unsearchable : (outcomes : List LineOutcome) (said : LineOutcome) (old new : Imported) → CountsOutcome old said new → old.unsearchable ≡ count_by is_unsearchable outcomes
    → new.unsearchable ≡ count_by is_unsearchable (outcomes ++ said ∷ [])
counts_unsearchable outcomes (Stored size None) old new counts is = omega (arith, counts.1, is, counted_as_many is_unsearchable outcomes (Stored size None) refl)
counts_unsearchable outcomes (Stored size (Some why)) old new counts is = omega (arith, counts.1, is, counted_more is_unsearchable outcomes (Stored size (Some why)) refl)
counts_unsearchable outcomes (Refused e) old new counts is = omega (arith, counts.1, is, counted_as_many is_unsearchable outcomes (Refused e) refl)

counts_refused : (outcomes : List LineOutcome) (said : LineOutcome) (old new : Imported) → CountsOutcome old said new → old.refused ≡ count_by is_refused outcomes → new.refused ≡ count_by is_refused (outcomes ++ said ∷ [])
counts_refused outcomes (Stored size None) old new counts is = omega (arith, counts.2, is, counted_as_many is_refused outcomes (Stored size None) refl)
counts_refused outcomes (Stored size (Some why)) old new counts is = omega (arith, counts.2, is, counted_as_many is_refused outcomes (Stored size (Some why)) refl)
counts_refused outcomes (Refused e) old new counts is = omega (arith, counts.2, is, counted_more is_refused outcomes (Refused e) refl)

-- there is one line more
pub counts_one : (said : LineOutcome) (old new : Imported) → CountsOutcome old said new → new.stored + new.refused ≡ (old.stored + old.refused) + 1
counts_one (Stored size None) old new counts = omega (arith, counts.0, counts.2)
counts_one (Stored size (Some why)) old new counts = omega (arith, counts.0, counts.2)
counts_one (Refused e) old new counts = omega (arith, counts.0, counts.2)

-- no more can't be searched than are stored
pub counts_within : (said : LineOutcome) (old new : Imported) → CountsOutcome old said new → old.unsearchable ≤ old.stored → new.unsearchable ≤ new.stored
counts_within (Stored size None) old new counts within = omega (arith, counts.0, counts.1, within)
counts_within (Stored size (Some why)) old new counts within = omega (arith, counts.0, counts.1, within)
counts_within (Refused e) old new counts within = omega (arith, counts.0, counts.1, within)

module _ {schema : List Entry} {rules : ImportRules} {input rest old now : List ℕ} {IsTold : Type 0} {begun told : List LineReport} {number : ℕ} {said : Imported} (m : ImportedSoFar schema rules input rest old now IsTold begun told number said) where
  -- the next line was taken, and told
  pub imported_more : {behind new : List ℕ} {ended : List LineReport} (outcome : LineOutcome) (line : LineReport) (count : Imported) → Imports schema rules rest behind now new (Some outcome)
      → CountsOutcome said outcome count → line.line ≡ number + 1 → line.outcome ≡ outcome → (IsTold → ended ≡ told ++ line ∷ [])
      → ImportedSoFar schema rules input behind old new IsTold begun ended (number + 1) count
  imported_more {ended = ended} outcome line count t counts at same tells =
      let i = m.imported in
      record {
        lines = m.lines ++ t.1.1 ∷ [];
        first = first-snoc m.first t.1.0 t.1.2;
        imported = record {
          outcomes = i.outcomes ++ outcome ∷ [];
          block = i.block ++ t.0;
          each = outcomes-snoc schema rules m.lines t.1.1 i.block t.0 i.outcomes outcome i.each t.1.3;
          held = t.2 ∙ ap (λ (l : List ℕ). l ++ t.0) i.held ∙ append_assoc old i.block t.0;
          told = λ known. tells known ∙ ap (λ (l : List LineReport). l ++ line ∷ []) (i.told known) ∙ append_assoc begun (numbered 1 i.outcomes) (line ∷ [])
              ∙ ap (λ (l : List LineReport). begun ++ l) (sym (numbered-snoc 1 i.outcomes outcome line (omega (arith, at, m.counted)) same));
        };
        counted = omega (arith, m.counted, length-append i.outcomes (outcome ∷ []));
        stored = counts_stored i.outcomes outcome said count counts m.stored;
        unsearchable = counts_unsearchable i.outcomes outcome said count counts m.unsearchable;
        refused = counts_refused i.outcomes outcome said count counts m.refused;
      }

  -- there was no line any more
  pub imported_all : {behind new : List ℕ} → Imports schema rules rest behind now new None → ImportsAll schema rules input old new IsTold begun told said
  imported_all t =
      let i = m.imported in
      record {
        lines = m.lines;
        all = all_lines m.first t.1.0;
        imported = record {
          outcomes = i.outcomes;
          block = i.block;
          each = i.each;
          held = t.2 ∙ ap (λ (l : List ℕ). now ++ l) t.1.2 ∙ append-nil now ∙ i.held;
          told = i.told;
        };
        stored = m.stored;
        unsearchable = m.unsearchable;
        refused = m.refused;
      }

  -- the next line wasn't taken, or its document not stored whole
  pub stops_begun : {E : Type 0} {new : List ℕ} (e : Halt) → LeavesBegun schema rules rest now new
      → StopsImport {E = E} schema rules input old new IsTold begun told (errors.Import e)
  stops_begun e leaves =
      record { lines = m.lines; rest = rest; first = m.first; middle = now; imported = m.imported; next = leaves }

  -- it wasn't told
  pub stops_untold : {E : Type 0} {behind new : List ℕ} {ended : List LineReport} (outcome : LineOutcome) (e : E) → Imports schema rules rest behind now new (Some outcome) → (IsTold → ended ≡ told)
      → StopsImport {E = E} schema rules input old new IsTold begun ended (errors.Report e)
  stops_untold {behind = behind} outcome e t same =
      let i = m.imported in
      record {
        lines = m.lines;
        rest = rest;
        first = m.first;
        middle = now;
        imported = record { outcomes = i.outcomes; block = i.block; each = i.each; held = i.held; told = λ known. same known ∙ i.told known };
        next = (behind, t.0, outcome, t.1, t.2);
      }

  pub stops_counting : {E : Type 0} → number ≡ 2 ^ 64 - 1 → StopsImport {E = E} schema rules input old now IsTold begun told errors.TooMany
  stops_counting {E} most = record {
    lines = m.lines;
    rest = rest;
    first = m.first;
    middle = now;
    imported = m.imported;
    next = (refl, omega (arith, most, m.counted, as_many schema rules m.lines m.imported.block m.imported.outcomes m.imported.each));
  }
