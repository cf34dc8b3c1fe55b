-- What becomes of lines.
use Rattle.std.proofs.Common.{◌≡◌, ℕ, List, [], ◌∷◌, ◌++◌, Some, None, map, append-nil, sym, subst, ap, ◌∙◌}
use Rattle.std.proofs.lemmas.List.{map-append}
use Rattle.tv_blocks.proofs.LineDocuments.{lenient_of}
use Rattle.tv_blocks.specs.Imports.{ImportsLines, IsLenientOutcome, lenient, line_answer}
use Rattle.tv_blocks.specs.declared.import.LineAnswer.{LineAnswer}
use Rattle.tv_field.specs.Entry.{Entry}
use Rattle.tv_lines.proofs.WholeImports.{all_lines, first-snoc, outcomes-snoc}
use Rattle.tv_lines.specs.Importing.{Imports, IsOutcome}
use Rattle.tv_lines.specs.WholeImports.{FirstLines, Outcomes}
use Rattle.tv_lines.specs.WholeImports.FirstLines.{none_first}
use Rattle.tv_lines.specs.WholeImports.Outcomes.{no_outcomes}
use Rattle.tv_lines.specs.declared.import.LineOutcome.{LineOutcome}
use Rattle.tv_lines.specs.declared.import.LineOutcome.TheVariants.{Refused, Stored}
use Rattle.tv_lines.specs.declared.line_document.LineError.TheVariants as errors

lenient_outcome : (schema : List Entry) (line text : List ℕ) (said : LineOutcome) → IsOutcome schema lenient line text said → IsLenientOutcome said
lenient_outcome schema line text (Stored size fault) h = tt
lenient_outcome schema line text (Refused (errors.Unsearchable name why)) h = absurd h.0.2
lenient_outcome schema line text (Refused errors.NotUtf8) h = lenient_of schema line errors.NotUtf8 h.0
lenient_outcome schema line text (Refused (errors.NoObject start fault)) h = lenient_of schema line (errors.NoObject start fault) h.0
lenient_outcome schema line text (Refused (errors.Float name json)) h = lenient_of schema line (errors.Float name json) h.0
lenient_outcome schema line text (Refused (errors.Refused e)) h = lenient_of schema line (errors.Refused e) h.0

-- what is said of a line has numbers
pub is_lenient : (schema : List Entry) (input rest old new : List ℕ) (said : LineOutcome) → Imports schema lenient input rest old new (Some said) → IsLenientOutcome said
is_lenient schema input rest old new said h = lenient_outcome schema h.1.1 h.0 said h.1.3

-- So far these lines, before the rest of the input, have been imported.
pub record ImportedSoFar (schema : List Entry) (input rest block : List ℕ) (answers : List LineAnswer) : Type 0 where
  pub lines : List (List ℕ)
  pub first : FirstLines input lines rest
  pub outcomes : List LineOutcome
  pub each : Outcomes schema lenient lines block outcomes
  pub answered : answers ≡ map (line_answer schema) outcomes

pub imported_none : (schema : List Entry) (input rest block : List ℕ) (answers : List LineAnswer) → rest ≡ input → block ≡ [] → answers ≡ [] → ImportedSoFar schema input rest block answers
imported_none schema input rest block answers is no_block none = record {
  lines = [];
  first = subst (FirstLines input []) (sym is) none_first;
  outcomes = [];
  each = subst (λ (b : List ℕ). Outcomes schema lenient [] b []) (sym no_block) no_outcomes;
  answered = none;
}

pub imported_more : {schema : List Entry} {input rest behind block now : List ℕ} {answers more : List LineAnswer} (said : LineOutcome) → ImportedSoFar schema input rest block answers
    → Imports schema lenient rest behind block now (Some said) → more ≡ answers ++ line_answer schema said ∷ [] → ImportedSoFar schema input behind now more
imported_more {schema} {block = block} said m t more = record {
  lines = m.lines ++ t.1.1 ∷ [];
  first = first-snoc m.first t.1.0 t.1.2;
  outcomes = m.outcomes ++ said ∷ [];
  each = subst (λ (b : List ℕ). Outcomes schema lenient (m.lines ++ t.1.1 ∷ []) b (m.outcomes ++ said ∷ [])) (sym t.2)
      (outcomes-snoc schema lenient m.lines t.1.1 block t.0 m.outcomes said m.each t.1.3);
  answered = more ∙ ap (λ (l : List LineAnswer). l ++ line_answer schema said ∷ []) m.answered ∙ sym (map-append (line_answer schema) m.outcomes (said ∷ []));
}

pub imported_all : {schema : List Entry} {input rest behind block now : List ℕ} {answers : List LineAnswer} → ImportedSoFar schema input rest block answers
    → Imports schema lenient rest behind block now None → ImportsLines schema input now answers
imported_all {schema} {block = block} m t = record {
  lines = m.lines;
  all = all_lines m.first t.1.0;
  outcomes = m.outcomes;
  each = rw (t.2, t.1.2, append-nil) m.each;
  answered = m.answered;
}
