-- A line has one outcome, and so have all lines of an input.
use Rattle.std.proofs.Common.{◌≡◌, ◌≢◌, ◌+◌, ℕ, Bool, true, false, List, [], ◌∷◌, ◌++◌, length, cond, Option, Some, None, Result, Ok, Err, refl, sym, subst, ap, ◌∙◌}
use Rattle.std.specs.Prelude.{count_by}
use Rattle.std.proofs.lemmas.List.Recursion.{is_count_by}
use Rattle.tv_doc.specs.Alike.{AreStrictlyAlike, SayStrictlySame}
use Rattle.tv_doc.specs.Document.{document_of}
use Rattle.tv_doc.specs.declared.document.CompactDoc.{CompactDoc}
use Rattle.tv_doc.specs.declared.errors.DocParsingError.TheVariants as parsing
use Rattle.tv_doc.specs.declared.errors.StrictParsingError.{StrictParsingError}
use Rattle.tv_doc.specs.declared.errors.StrictParsingError.TheVariants.{Parsing, UnknownKey, RepeatedKey}
use Rattle.tv_doc.proofs.OneDocument.{texts_alike}
use Rattle.tv_doc.proofs.OneStrictDocument.{strictly_alike}
use Rattle.tv_field.specs.Entry.{Entry}
use Rattle.tv_field.specs.declared.value_parsing_error.ValueParsingError.TheVariants as value
use Rattle.tv_format.specs.Short.{short_document}
use Rattle.tv_format.specs.Tree.{Document}
use Rattle.tv_format.specs.WriteVersion.{written_version}
use Rattle.tv_indexing.specs.TermFault.{document_fault}
use Rattle.tv_indexing.specs.declared.document.TermValuesError.{TermValuesError}
use Rattle.tv_lines.specs.Alike.{AreCountedAlike, SaySame, SaySameError, SaySameErrors}
use Rattle.tv_lines.specs.Importing.{IsLineError, IsOutcome, IsStoredLine, RefusesFault, SaysFault}
use Rattle.tv_lines.specs.LineDocuments.{IsParsed, IsToldWhole, MakesLineDocument, MakesNone, ParsesBy}
use Rattle.tv_lines.specs.Terms.{faulty_name}
use Rattle.tv_lines.specs.WholeImports.{Outcomes, is_refused, is_stored, is_unsearchable}
use Rattle.tv_lines.specs.WholeImports.Outcomes.{no_outcomes, next_outcome}
use Rattle.tv_lines.specs.declared.import.FaultRule.{FaultRule}
use Rattle.tv_lines.specs.declared.import.FaultRule.TheVariants.{Ignore, Tell, Refuse}
use Rattle.tv_lines.specs.declared.import.ImportRules.{ImportRules}
use Rattle.tv_lines.specs.declared.import.LineOutcome.{LineOutcome}
use Rattle.tv_lines.specs.declared.import.LineOutcome.TheVariants as outcome
use Rattle.tv_lines.specs.declared.line_document.LineError.{LineError}
use Rattle.tv_lines.specs.declared.line_document.LineError.TheVariants.{Float, NoObject, NotUtf8, Refused, Unsearchable}
use Rattle.tv_store.specs.Stored.{stored}

-- ---- the document of a line

by_alike : (schema : List Entry) (strict : Bool) (line : List ℕ) (r s : Result CompactDoc StrictParsingError) → ParsesBy schema strict line r → ParsesBy schema strict line s → AreStrictlyAlike r s
by_alike schema true line r s mine yours = strictly_alike schema line r s mine yours
by_alike schema false line (Ok a) (Ok b) mine yours = texts_alike schema line (Ok a) (Ok b) mine yours
by_alike schema false line (Ok a) (Err (Parsing f)) mine yours = ap Parsing (texts_alike schema line (Ok a) (Err f) mine yours)
by_alike schema false line (Err (Parsing e)) (Ok b) mine yours = ap Parsing (texts_alike schema line (Err e) (Ok b) mine yours)
by_alike schema false line (Err (Parsing e)) (Err (Parsing f)) mine yours =
    λ some more. texts_alike schema line (Err e) (Err f) mine yours (λ is. some (ap Parsing is)) (λ is. more (ap Parsing is))
by_alike schema false line (Err (UnknownKey k)) s mine yours = absurd mine
by_alike schema false line (Err (RepeatedKey k)) s mine yours = absurd mine
by_alike schema false line r (Err (UnknownKey k)) mine yours = absurd yours
by_alike schema false line r (Err (RepeatedKey k)) mine yours = absurd yours

one_line_document : (schema : List Entry) (strict : Bool) (line : List ℕ) (a b : CompactDoc) → MakesLineDocument schema strict line a → MakesLineDocument schema strict line b → document_of a ≡ document_of b
one_line_document schema strict line a b mine yours = by_alike schema strict line (Ok a) (Ok b) mine.1 yours.1

not_memory : (e : StrictParsingError) → IsToldWhole e → e ≢ Parsing parsing.Memory
not_memory e whole is = subst IsToldWhole is whole

not_both : (schema : List Entry) (strict : Bool) (line : List ℕ) (made : CompactDoc) (e : LineError) → MakesLineDocument schema strict line made → MakesNone schema strict line e → ⊥
not_both schema strict line made NotUtf8 makes none = none makes.0
not_both schema strict line made (NoObject start fault) makes none =
    let no = by_alike schema strict line (Ok made) (Err (Parsing (parsing.InvalidJson start))) makes.1 none.1 in absurd (cc (no))
not_both schema strict line made (Float name json) makes none =
    let no = by_alike schema strict line (Ok made) (Err (Parsing (parsing.ValueError name value.FloatNumber))) makes.1 none.1 in absurd (cc (no))
not_both schema strict line made (Refused error) makes none = not_memory error none.2 (by_alike schema strict line (Ok made) (Err error) makes.1 none.1)
not_both schema strict line made (Unsearchable name why) makes none = none

-- ---- why a line makes none

module _ (schema : List Entry) (strict : Bool) (line : List ℕ) where
  object_and_refused : (e f : StrictParsingError) → (e ≡ Parsing parsing.Memory → ⊥) → IsToldWhole f → ParsesBy schema strict line (Err e) → ParsesBy schema strict line (Err f) → SayStrictlySame e f
  object_and_refused e f some whole mine yours = by_alike schema strict line (Err e) (Err f) mine yours some (not_memory f whole)

  no_object_refused : (start : _) (f : StrictParsingError) → IsToldWhole f → SayStrictlySame (Parsing (parsing.InvalidJson start)) f → ⊥
  no_object_refused start (Parsing (parsing.InvalidJson other)) whole same = whole
  no_object_refused start (Parsing (parsing.ValueError name e)) whole same = same
  no_object_refused start (Parsing (parsing.Add e)) whole same = same
  no_object_refused start (Parsing parsing.Memory) whole same = whole
  no_object_refused start (UnknownKey key) whole same = same
  no_object_refused start (RepeatedKey key) whole same = same

  float_refused : (name : _) (f : StrictParsingError) → IsToldWhole f → SayStrictlySame (Parsing (parsing.ValueError name value.FloatNumber)) f → ⊥
  float_refused name (Parsing (parsing.InvalidJson other)) whole same = same
  float_refused name (Parsing (parsing.ValueError other value.FloatNumber)) whole same = whole
  float_refused name (Parsing (parsing.ValueError other (value.OverflowError expected json))) whole same = absurd (cc (same.1))
  float_refused name (Parsing (parsing.ValueError other (value.TypeError expected json))) whole same = absurd (cc (same.1))
  float_refused name (Parsing (parsing.ValueError other (value.ParseError cause json))) whole same = absurd (cc (same.1))
  float_refused name (Parsing (parsing.ValueError other (value.InvalidBase64 text))) whole same = absurd (cc (same.1))
  float_refused name (Parsing (parsing.ValueError other value.Memory)) whole same = absurd (cc (same.1))
  float_refused name (Parsing (parsing.Add e)) whole same = same
  float_refused name (Parsing parsing.Memory) whole same = whole
  float_refused name (UnknownKey key) whole same = same
  float_refused name (RepeatedKey key) whole same = same

  errors_alike : (e f : LineError) → MakesNone schema strict line e → MakesNone schema strict line f → SaySameError e f
  errors_alike NotUtf8 NotUtf8 mine yours = tt
  errors_alike NotUtf8 (NoObject start fault) mine yours = absurd (mine yours.0)
  errors_alike NotUtf8 (Float name json) mine yours = absurd (mine yours.0)
  errors_alike NotUtf8 (Refused error) mine yours = absurd (mine yours.0)
  errors_alike NotUtf8 (Unsearchable name why) mine yours = absurd yours
  errors_alike (NoObject start fault) NotUtf8 mine yours = absurd (yours mine.0)
  errors_alike (NoObject start fault) (NoObject other also) mine yours =
      by_alike schema strict line (Err (Parsing (parsing.InvalidJson start))) (Err (Parsing (parsing.InvalidJson other))) mine.1 yours.1 (λ is. absurd (cc (is))) (λ is. absurd (cc (is)))
  errors_alike (NoObject start fault) (Float name json) mine yours =
      absurd (by_alike schema strict line (Err (Parsing (parsing.InvalidJson start))) (Err (Parsing (parsing.ValueError name value.FloatNumber))) mine.1 yours.1 (λ is. absurd (cc (is))) (λ is. absurd (cc (is))))
  errors_alike (NoObject start fault) (Refused error) mine yours =
      absurd (no_object_refused start error yours.2 (object_and_refused (Parsing (parsing.InvalidJson start)) error (λ is. absurd (cc (is))) yours.2 mine.1 yours.1))
  errors_alike (NoObject start fault) (Unsearchable name why) mine yours = absurd yours
  errors_alike (Float name json) NotUtf8 mine yours = absurd (yours mine.0)
  errors_alike (Float name json) (NoObject start fault) mine yours =
      absurd (by_alike schema strict line (Err (Parsing (parsing.ValueError name value.FloatNumber))) (Err (Parsing (parsing.InvalidJson start))) mine.1 yours.1 (λ is. absurd (cc (is))) (λ is. absurd (cc (is))))
  errors_alike (Float name json) (Float other also) mine yours =
      (by_alike schema strict line (Err (Parsing (parsing.ValueError name value.FloatNumber))) (Err (Parsing (parsing.ValueError other value.FloatNumber))) mine.1 yours.1 (λ is. absurd (cc (is))) (λ is. absurd (cc (is)))).0
  errors_alike (Float name json) (Refused error) mine yours =
      absurd (float_refused name error yours.2 (object_and_refused (Parsing (parsing.ValueError name value.FloatNumber)) error (λ is. absurd (cc (is))) yours.2 mine.1 yours.1))
  errors_alike (Float name json) (Unsearchable other why) mine yours = absurd yours
  errors_alike (Refused error) NotUtf8 mine yours = absurd (yours mine.0)
  errors_alike (Refused error) (NoObject start fault) mine yours =
      absurd (no_object_refused start error mine.2 (object_and_refused (Parsing (parsing.InvalidJson start)) error (λ is. absurd (cc (is))) mine.2 yours.1 mine.1))
  errors_alike (Refused error) (Float name json) mine yours =
      absurd (float_refused name error mine.2 (object_and_refused (Parsing (parsing.ValueError name value.FloatNumber)) error (λ is. absurd (cc (is))) mine.2 yours.1 mine.1))
  errors_alike (Refused error) (Refused other) mine yours =
      by_alike schema strict line (Err error) (Err other) mine.1 yours.1 (not_memory error mine.2) (not_memory other yours.2)
  errors_alike (Refused error) (Unsearchable name why) mine yours = absurd yours
  errors_alike (Unsearchable name why) f mine yours = absurd mine

pub parsed_alike : (schema : List Entry) (strict : Bool) (line : List ℕ) (made twin : CompactDoc) (error other : Option LineError) → IsParsed schema strict line made error → IsParsed schema strict line twin other
    → (document_of made ≡ document_of twin) × SaySameErrors error other
parsed_alike schema strict line made twin None None mine yours = (one_line_document schema strict line made twin mine.0 yours.0, tt)
parsed_alike schema strict line made twin None (Some f) mine yours = absurd (not_both schema strict line made f mine.0 yours.0)
parsed_alike schema strict line made twin (Some e) None mine yours = absurd (not_both schema strict line twin e yours.0 mine.0)
parsed_alike schema strict line made twin (Some e) (Some f) mine yours = (mine.1 ∙ sym yours.1, errors_alike schema strict line e f mine.0 yours.0)

-- ---- what becomes of a line

says_one : (rule : FaultRule) (fault other said also : Option TermValuesError) → fault ≡ other → SaysFault rule fault said → SaysFault rule other also → said ≡ also
says_one Ignore fault other said also same mine yours = mine ∙ sym yours
says_one Tell fault other said also same mine yours = mine ∙ same ∙ sym yours
says_one Refuse fault other said also same mine yours = mine.0 ∙ sym yours.0

not_stored : (rule : FaultRule) (fault other said : Option TermValuesError) (why : TermValuesError) → fault ≡ other → SaysFault rule fault said → RefusesFault rule other why → ⊥
not_stored Ignore fault other said why same mine yours = yours
not_stored Tell fault other said why same mine yours = yours
not_stored Refuse fault other said why same mine yours = absurd (cc (mine.1, same, yours))

why_one : (rule : FaultRule) (fault other : Option TermValuesError) (why also : TermValuesError) → fault ≡ other → RefusesFault rule fault why → RefusesFault rule other also → why ≡ also
why_one Ignore fault other why also same mine yours = absurd mine
why_one Tell fault other why also same mine yours = absurd mine
why_one Refuse fault other why also same mine yours = let both : Some why ≡ Some also = sym mine ∙ same ∙ yours in cc (both)

module _ (schema : List Entry) (rules : ImportRules) (line : List ℕ) where
  stored_or_refused : (text : List ℕ) (fault : Option TermValuesError) (e : LineError) → IsStoredLine schema rules line text fault → IsLineError schema rules line e → ⊥
  stored_or_refused text fault (Unsearchable name why) (made, makes, is, says) (other, also, refuses, named) =
      not_stored rules.faults (document_fault schema (document_of made)) (document_fault schema (document_of other)) fault why (ap (document_fault schema) (one_line_document schema rules.strict line made other makes also)) says refuses
  stored_or_refused text fault NotUtf8 (made, makes, is, says) none = not_both schema rules.strict line made NotUtf8 makes none
  stored_or_refused text fault (NoObject start place) (made, makes, is, says) none = not_both schema rules.strict line made (NoObject start place) makes none
  stored_or_refused text fault (Float name json) (made, makes, is, says) none = not_both schema rules.strict line made (Float name json) makes none
  stored_or_refused text fault (Refused error) (made, makes, is, says) none = not_both schema rules.strict line made (Refused error) makes none

  line_errors : (e f : LineError) → IsLineError schema rules line e → IsLineError schema rules line f → SaySameError e f
  line_errors (Unsearchable name why) (Unsearchable twin because) (made, makes, refuses, named) (other, also, says, called) =
      let same = why_one rules.faults (document_fault schema (document_of made)) (document_fault schema (document_of other)) why because (ap (document_fault schema) (one_line_document schema rules.strict line made other makes also)) refuses says in
      (named ∙ ap (faulty_name schema) same ∙ sym called, same)
  line_errors (Unsearchable name why) NotUtf8 (made, makes, refuses, named) yours = absurd (not_both schema rules.strict line made NotUtf8 makes yours)
  line_errors (Unsearchable name why) (NoObject start place) (made, makes, refuses, named) yours = absurd (not_both schema rules.strict line made (NoObject start place) makes yours)
  line_errors (Unsearchable name why) (Float twin json) (made, makes, refuses, named) yours = absurd (not_both schema rules.strict line made (Float twin json) makes yours)
  line_errors (Unsearchable name why) (Refused error) (made, makes, refuses, named) yours = absurd (not_both schema rules.strict line made (Refused error) makes yours)
  line_errors NotUtf8 (Unsearchable name why) mine (made, makes, refuses, named) = absurd (not_both schema rules.strict line made NotUtf8 makes mine)
  line_errors (NoObject start place) (Unsearchable name why) mine (made, makes, refuses, named) = absurd (not_both schema rules.strict line made (NoObject start place) makes mine)
  line_errors (Float twin json) (Unsearchable name why) mine (made, makes, refuses, named) = absurd (not_both schema rules.strict line made (Float twin json) makes mine)
  line_errors (Refused error) (Unsearchable name why) mine (made, makes, refuses, named) = absurd (not_both schema rules.strict line made (Refused error) makes mine)
  line_errors NotUtf8 NotUtf8 mine yours = tt
  line_errors NotUtf8 (NoObject start place) mine yours = errors_alike schema rules.strict line NotUtf8 (NoObject start place) mine yours
  line_errors NotUtf8 (Float name json) mine yours = errors_alike schema rules.strict line NotUtf8 (Float name json) mine yours
  line_errors NotUtf8 (Refused error) mine yours = errors_alike schema rules.strict line NotUtf8 (Refused error) mine yours
  line_errors (NoObject start place) NotUtf8 mine yours = errors_alike schema rules.strict line (NoObject start place) NotUtf8 mine yours
  line_errors (NoObject start place) (NoObject other also) mine yours = errors_alike schema rules.strict line (NoObject start place) (NoObject other also) mine yours
  line_errors (NoObject start place) (Float name json) mine yours = errors_alike schema rules.strict line (NoObject start place) (Float name json) mine yours
  line_errors (NoObject start place) (Refused error) mine yours = errors_alike schema rules.strict line (NoObject start place) (Refused error) mine yours
  line_errors (Float name json) NotUtf8 mine yours = errors_alike schema rules.strict line (Float name json) NotUtf8 mine yours
  line_errors (Float name json) (NoObject start place) mine yours = errors_alike schema rules.strict line (Float name json) (NoObject start place) mine yours
  line_errors (Float name json) (Float other also) mine yours = errors_alike schema rules.strict line (Float name json) (Float other also) mine yours
  line_errors (Float name json) (Refused error) mine yours = errors_alike schema rules.strict line (Float name json) (Refused error) mine yours
  line_errors (Refused error) NotUtf8 mine yours = errors_alike schema rules.strict line (Refused error) NotUtf8 mine yours
  line_errors (Refused error) (NoObject start place) mine yours = errors_alike schema rules.strict line (Refused error) (NoObject start place) mine yours
  line_errors (Refused error) (Float name json) mine yours = errors_alike schema rules.strict line (Refused error) (Float name json) mine yours
  line_errors (Refused error) (Refused other) mine yours = errors_alike schema rules.strict line (Refused error) (Refused other) mine yours

  pub outcome_one : (text other : List ℕ) (said also : LineOutcome) → IsOutcome schema rules line text said → IsOutcome schema rules line other also → (text ≡ other) × SaySame said also
  outcome_one text other (outcome.Stored size fault) (outcome.Stored count reason) ((made, makes, is, says), measured) ((twin, does, be, tells), counted) =
      let same = one_line_document schema rules.strict line made twin makes does in
      let bytes = is ∙ ap (λ (d : Document). short_document (written_version rules.version) (stored schema d)) same ∙ sym be in (
        bytes,
        (
          measured ∙ ap length bytes ∙ sym counted,
          says_one rules.faults (document_fault schema (document_of made)) (document_fault schema (document_of twin)) fault reason (ap (document_fault schema) same) says tells,
        ),
      )
  outcome_one text other (outcome.Stored size fault) (outcome.Refused error) mine yours = absurd (stored_or_refused text fault error mine.0 yours.0)
  outcome_one text other (outcome.Refused error) (outcome.Stored size fault) mine yours = absurd (stored_or_refused other fault error yours.0 mine.0)
  outcome_one text other (outcome.Refused error) (outcome.Refused reason) mine yours = (mine.1 ∙ sym yours.1, line_errors error reason mine.0 yours.0)

-- ---- all lines

-- how many are of a kind
counted : (LineOutcome → Bool) → List LineOutcome → ℕ
counted p [] = 0
counted p (x ∷ xs) = cond (p x) (1 + counted p xs) (counted p xs)

is_counted : (p : LineOutcome → Bool) (xs : List LineOutcome) → counted p xs ≡ count_by p xs
unfolding counted
is_counted p xs = is_count_by (counted p) p refl (λ x others. refl) xs

-- as many of two lists of outcomes are of each kind
record Alike (said also : List LineOutcome) : Type 0 where
  stored : counted is_stored said ≡ counted is_stored also
  unsearchable : counted is_unsearchable said ≡ counted is_unsearchable also
  refused : counted is_refused said ≡ counted is_refused also

kinds : (said also : LineOutcome) → SaySame said also → (is_stored said ≡ is_stored also) × (is_unsearchable said ≡ is_unsearchable also) × (is_refused said ≡ is_refused also)
kinds (outcome.Stored size fault) (outcome.Stored other also) same = (refl, ap (λ f. is_unsearchable (outcome.Stored size f)) same.1 ∙ unsized size other also, refl)
  where
    unsized : (size other : ℕ) (fault : Option TermValuesError) → is_unsearchable (outcome.Stored size fault) ≡ is_unsearchable (outcome.Stored other fault)
    unsized size other None = refl
    unsized size other (Some why) = refl
kinds (outcome.Refused error) (outcome.Refused other) same = (refl, refl, refl)
kinds (outcome.Stored size fault) (outcome.Refused error) same = absurd same
kinds (outcome.Refused error) (outcome.Stored size fault) same = absurd same

more_alike : (said also : LineOutcome) (more others : List LineOutcome) → SaySame said also → Alike more others → Alike (said ∷ more) (also ∷ others)
unfolding counted
more_alike said also more others same alike =
    let kind = kinds said also same in
    record {
      stored = λ i. cond (kind.0 i) (1 + alike.stored i) (alike.stored i);
      unsearchable = λ i. cond (kind.1 i) (1 + alike.unsearchable i) (alike.unsearchable i);
      refused = λ i. cond (kind.2 i) (1 + alike.refused i) (alike.refused i);
    }

all_alike : (schema : List Entry) (rules : ImportRules) (lines : List (List ℕ)) (block other : List ℕ) (said also : List LineOutcome) → Outcomes schema rules lines block said → Outcomes schema rules lines other also
    → (block ≡ other) × Alike said also
all_alike schema rules [] block other said also no_outcomes no_outcomes = (refl, record { stored = refl; unsearchable = refl; refused = refl })
all_alike schema rules (line ∷ lines) block other said also (next_outcome {block = behind} {said = one} {outcomes = more} text is each) (next_outcome {block = rest} {said = two} {outcomes = others} twin be all) =
    let first = outcome_one schema rules line text twin one two is be in
    let next = all_alike schema rules lines behind rest more others each all in
    ((λ i. first.0 i ++ next.0 i), more_alike one two more others first.1 next.1)

pub inputs_alike : (schema : List Entry) (rules : ImportRules) (lines : List (List ℕ)) (block other : List ℕ) (said also : List LineOutcome) → Outcomes schema rules lines block said → Outcomes schema rules lines other also
    → (block ≡ other) × AreCountedAlike said also
inputs_alike schema rules lines block other said also mine yours =
    let same = all_alike schema rules lines block other said also mine yours in
    let alike = same.1 in (
      same.0,
      record {
        stored = sym (is_counted is_stored said) ∙ alike.stored ∙ is_counted is_stored also;
        unsearchable = sym (is_counted is_unsearchable said) ∙ alike.unsearchable ∙ is_counted is_unsearchable also;
        refused = sym (is_counted is_refused said) ∙ alike.refused ∙ is_counted is_refused also;
      },
    )
