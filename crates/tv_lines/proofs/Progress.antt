-- What was answered so far, and what a run that breaks off leaves.
use Rattle.std.proofs.Common.{◌≡◌, ℕ, Option, Some, None, Result, Ok, Err, List, [], ◌∷◌, ◌++◌, refl, sym, ap, ◌∙◌, subst, append_assoc, inl, inr}
use lib.Chars.{codes}
use Rattle.std.specs.Prelude.{OnErr}
use Rattle.std.proofs.lemmas.List.{append-nil}
use Rattle.tv_base.specs.Sink.{IsPrefix}
use Rattle.tv_lines.specs.Answers.{Answer, AreAnswers, ReadsSchema, SchemaRefusal}
use Rattle.tv_lines.specs.Answers.Answer.{no_memory}
use Rattle.tv_lines.specs.Answers.AreAnswers.{no_answers, next_answer}
use Rattle.tv_lines.specs.Answers.SchemaRefusal.{no_memory as no_schema_memory}
use Rattle.tv_lines.specs.Lines.{FirstLine, IsUnbroken}
use Rattle.tv_lines.specs.Lines.FirstLine.{unended}
use Rattle.tv_lines.specs.Lines.Lines.{no_lines, next_line}
use Rattle.tv_lines.specs.Reader.{TakesLine}
use Rattle.tv_lines.specs.Run.{AnswersOf, BrokenText, PrefixOf, IsEnded, WritesText}
use Rattle.tv_lines.proofs.LineSteps.{some_lines, some_line}
use Rattle.tv_field.specs.Entry.{Entry}

-- ---- any input has answers

some_answers : (schema : List Entry) (lines : List (List ℕ)) → (text : List ℕ) × AreAnswers schema lines text
some_answers schema [] = ([], no_answers)
some_answers schema (line ∷ lines) =
    let rest = some_answers schema lines in
    (codes "error Memory" ++ 10 ∷ rest.0, next_answer (no_memory refl) rest.1)

any_answers : (schema : List Entry) (input : List ℕ) → (text : List ℕ) × AnswersOf schema input text
any_answers schema input =
    let lines = some_lines input in
    let answers = some_answers schema lines.0 in
    (answers.0, (lines.0, lines.1, answers.1))

-- ---- answering

-- what was written for the lines up to here, and that the answers of the others complete it
pub record Answered (schema : List Entry) (input pending before held : List ℕ) : Type 0 where
  pub done : List ℕ
  pub holds : held ≡ before ++ done
  pub follows : (text : List ℕ) → AnswersOf schema pending text → AnswersOf schema input (done ++ text)

-- the answers after this one
behind_answer : {schema : List Entry} {pending line rest answer : List ℕ} (count : ℕ) → TakesLine pending line rest (Some count) → Answer schema line answer
    → (text : List ℕ) → AnswersOf schema rest text → AnswersOf schema pending (answer ++ 10 ∷ text)
behind_answer count takes answer text more = (_ ∷ more.0, next_line takes.0 takes.1 more.1, next_answer answer more.2)

with_feed : (done answer text : List ℕ) → (done ++ (answer ++ 10 ∷ [])) ++ text ≡ done ++ (answer ++ 10 ∷ text)
with_feed done answer text = append_assoc done (answer ++ 10 ∷ []) text ∙ ap (λ (l : List ℕ). done ++ l) (append_assoc answer (10 ∷ []) text)

pub Answered-step : {schema : List Entry} {input pending before held line rest text held' : List ℕ} (count : ℕ) → Answered schema input pending before held → TakesLine pending line rest (Some count)
    → IsEnded (Answer schema line) text → held' ≡ held ++ text → Answered schema input rest before held'
Answered-step {schema = schema} {input = input} {before = before} {text = text} count h takes ends e = record {
  done = h.done ++ text;
  holds = e ∙ ap (λ (l : List ℕ). l ++ text) h.holds ∙ append_assoc before h.done text;
  follows = λ more answers.
      subst (λ (l : List ℕ). AnswersOf schema input l)
      (sym (ap (λ (l : List ℕ). (h.done ++ l) ++ more) ends.2 ∙ with_feed h.done ends.0 more))
      (h.follows (ends.0 ++ 10 ∷ more) (behind_answer count takes ends.1 more answers));
}

no_more : {schema : List Entry} {pending : List ℕ} → pending ≡ [] → AnswersOf schema pending []
no_more {schema = schema} e = subst (λ (l : List ℕ). AnswersOf schema l []) (sym e) ([], no_lines, no_answers)

pub Answered-ends : {schema : List Entry} {input pending before held line rest : List ℕ} → Answered schema input pending before held → TakesLine pending line rest None
    → WritesText (AnswersOf schema input) before held
Answered-ends {schema = schema} {input = input} h takes =
    (h.done, subst (λ (l : List ℕ). AnswersOf schema input l) (append-nil h.done) (h.follows [] (no_more takes.0)), h.holds)

pub Answered-breaks : {schema : List Entry} {input pending before held : List ℕ} → Answered schema input pending before held
    → WritesText (PrefixOf (AnswersOf schema input)) before held
Answered-breaks {schema = schema} {pending = pending} h =
    let others = any_answers schema pending in
    (h.done, (h.done ++ others.0, h.follows others.0 others.1, (others.0, refl)), h.holds)

pub Answered-cut : {schema : List Entry} {input pending before held line rest text held' : List ℕ} (count : ℕ) → Answered schema input pending before held → TakesLine pending line rest (Some count)
    → IsEnded (Answer schema line) text → WritesText (λ prefix. IsPrefix prefix text) held held' → WritesText (PrefixOf (AnswersOf schema input)) before held'
Answered-cut {schema = schema} {input = input} {before = before} {rest = rest} {text = text} count h takes ends part =
    let others = any_answers schema rest in
    let prefix = part.0 in
    let cut : text ≡ prefix ++ part.1.0 = part.1.1 in
    let whole : h.done ++ (ends.0 ++ 10 ∷ others.0) ≡ (h.done ++ prefix) ++ (part.1.0 ++ others.0) =
    sym (with_feed h.done ends.0 others.0) ∙ ap (λ (l : List ℕ). (h.done ++ l) ++ others.0) (sym ends.2 ∙ cut)
    ∙ append_assoc h.done (prefix ++ part.1.0) others.0 ∙ ap (λ (l : List ℕ). h.done ++ l) (append_assoc prefix part.1.0 others.0)
    ∙ sym (append_assoc h.done prefix (part.1.0 ++ others.0)) in (
      h.done ++ prefix,
      (h.done ++ (ends.0 ++ 10 ∷ others.0), h.follows (ends.0 ++ 10 ∷ others.0) (behind_answer count takes ends.1 others.0 others.1), (part.1.0 ++ others.0, whole)),
      part.2 ∙ ap (λ (l : List ℕ). l ++ prefix) h.holds ∙ append_assoc before h.done prefix,
    )

-- ---- a whole run

-- the first line, whether there is one or not
pub first_of : (input line rest : List ℕ) (count : Option ℕ) → TakesLine input line rest count → FirstLine input line rest
first_of input line rest (Some count) takes = takes.1
first_of input line rest None takes = unended (subst IsUnbroken (sym takes.1) tt) (takes.0 ∙ sym takes.1) takes.2

pub broken_lines : {input line rest : List ℕ} {schema : List Entry} (before held : List ℕ) → FirstLine input line rest → ReadsSchema line schema
    → WritesText (PrefixOf (AnswersOf schema rest)) before held → WritesText (BrokenText input) before held
broken_lines {line = line} {rest = rest} {schema = schema} before held first reads leaves =
    (leaves.0, (leaves.1.0, inl (record { line = line; rest = rest; schema = schema; first = first; reads = reads; answers = leaves.1.1 }), leaves.1.2), leaves.2)

pub broken_refusal : {input line rest text : List ℕ} (before held : List ℕ) → FirstLine input line rest → IsEnded (SchemaRefusal line) text
    → WritesText (λ prefix. IsPrefix prefix text) before held → WritesText (BrokenText input) before held
broken_refusal {line = line} {rest = rest} {text = text} before held first refused part =
    (part.0, (text, inr (record { line = line; rest = rest; first = first; refused = refused }), part.1), part.2)

any_refusal : (line : List ℕ) → IsEnded (SchemaRefusal line) (codes "error Memory" ++ 10 ∷ [])
any_refusal line = (codes "error Memory", no_schema_memory refl, refl)

-- nothing was written
pub broken_early : (input held : List ℕ) → WritesText (BrokenText input) held held
broken_early input held =
    let first = some_line input in
    ([], (codes "error Memory" ++ 10 ∷ [], inr (record { line = first.line; rest = first.rest; first = first.first; refused = any_refusal first.line }), (codes "error Memory" ++ 10 ∷ [], refl)), sym (append-nil held))

pub on_err : {A E P : Type 0} (result : Result A E) → P → OnErr result P
on_err (Ok x) p = tt
on_err (Err e) p = p
