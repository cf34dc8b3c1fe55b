-- What a call promises that makes a term or a range of terms, or appends a value to a term.
--
-- `Makes` is the promise of a call that puts a term in the place of the one that a buffer has.
--   made       On success the buffer has the bytes that were asked for.
--   has_term   On success there is a term.
--   unchanged  After an error the buffer has the bytes that it had.
--   errors     It fails as one of the two kinds of calls below.
--
-- `Returns` is the promise of a call that returns what it makes.
--   made       On success it returns what was asked for.
--   errors     It fails as one of the two kinds of calls below.
--
-- Most calls fail as `OnlyMemory` says: their only error is `Memory`. A call that is given a path into JSON
-- objects fails as `NulOrMemory`
-- says.
--   has_no_nul  It succeeds only where the path has no U+0000.
--   nul         Its error is `NulInPath` exactly where the path has U+0000.
--   memory      Where the path has no U+0000, the only error is `Memory`.
--
-- `AppendsValue` is the promise of a call that appends a value to a term.
--   appended   On success the value stands after the bytes that were there.
--   has_term   On success there is a term.
--   unchanged  After an error the bytes are as they were.
use Rattle.std.specs.Prelude.{◌≡◌, ◌≢◌, ◌↔◌, ℕ, ℤ, Bool, List, [], Option, Some, Result, Err, IfOk, IfErr}
use Rattle.std.specs.Prelude.{OnOk, OnErr, option_map, String, string_bytes}
use Rattle.std.specs.Borrow.{Bor}
use Rattle.std.specs.declared.alloc.Global.{Global}
use Rattle.tv_base.specs.JsonPath.{joined_path}
use Rattle.std.specs.declared.ops.Bound.{Bound}
use Rattle.std.specs.declared.ops.Bound.TheVariants.{Included, Excluded, Unbounded}
use Rattle.tv_date.specs.DateTime.{truncated}
use Rattle.tv_date.specs.declared.date_time.DateTime.{DateTime}
use Rattle.tv_date.specs.declared.date_time.DateTimePrecision.TheVariants.{Seconds}
use Rattle.tv_term.specs.Key.{TermValue, Date, Json, HasNoZero, IsTerm, IsJsonTerm, AppendsCoded}
use Rattle.tv_term.specs.Range.{HasTerms, IsAtPath}
use Rattle.tv_term.specs.Segments.{HaveNoZero, joined_segments}
use Rattle.tv_term.specs.declared.range.TermRange.{TermRange}
use Rattle.tv_term.specs.declared.term.TermError.{TermError}
use Rattle.tv_term.specs.declared.term.TermError.TheVariants.{Memory, NulInPath}

-- ---- errors

abbrev pub OnlyMemory : {T : Type 0} → Result T TermError → Type 0
OnlyMemory result = IfErr result (λ error. error ≡ Memory)

pub record NulOrMemory {T : Type 0} (HasNoNul : Type 0) (result : Result T TermError) : Type 0 where
  pub has_no_nul : OnOk result HasNoNul
  pub nul : (result ≡ Err NulInPath) ↔ (¬ HasNoNul)
  pub memory : HasNoNul → OnlyMemory result

-- ---- terms in a buffer

pub record Makes (IsMade : List ℕ → Type 0) (MayFail : Result (Unit {0}) TermError → Type 0)
    (old new : List ℕ) (result : Result (Unit {0}) TermError) : Type 0 where
  pub made : OnOk result (IsMade new)
  pub has_term : OnOk result (new ≢ [])
  pub unchanged : OnErr result (new ≡ old)
  pub errors : MayFail result

-- The buffer then has the term of a field and a value.
abbrev pub MakesTerm : (old new : List ℕ) (field : ℕ) (value : TermValue)
    (result : Result (Unit {0}) TermError) → Type 0
MakesTerm old new field value result = Makes (λ bytes. IsTerm bytes field value) OnlyMemory old new result

-- The buffer then has the term of a field and a path into JSON objects, to which no value is appended yet.
abbrev pub MakesPathTerm : (old new : List ℕ) (field : ℕ) (expand_dots : Bool) (path : List ℕ)
    (result : Result (Unit {0}) TermError) → Type 0
MakesPathTerm old new field expand_dots path result =
    Makes (λ bytes. IsJsonTerm bytes field (joined_path expand_dots path))
    (NulOrMemory (HasNoZero path)) old new result

-- It has such a term of a path that is given by its segments.
abbrev pub MakesSegmentsTerm : (old new : List ℕ) (field : ℕ) (segments : List (Bor (List ℕ)))
    (result : Result (Unit {0}) TermError) → Type 0
MakesSegmentsTerm old new field segments result =
    Makes (λ bytes. IsJsonTerm bytes field (joined_segments segments))
    (NulOrMemory (HaveNoZero segments)) old new result

-- A date is indexed as this value: it is cut to the second, towards 1970.
abbrev pub indexed_date : ℤ → TermValue
indexed_date nanoseconds = Date (truncated Seconds nanoseconds)

abbrev pub date_value : DateTime → TermValue
date_value date = Date date.nanoseconds

-- the second of a bound of dates, which is within a range itself
abbrev pub second_within : Bound DateTime → Bound TermValue
second_within (Included date) = Included (indexed_date date.nanoseconds)
second_within (Excluded date) = Included (indexed_date date.nanoseconds)
second_within Unbounded = Unbounded

pub record AppendsValue {E : Type 0} (old new : List ℕ) (value : TermValue)
    (result : Result (Unit {0}) E) : Type 0 where
  pub appended : OnOk result (AppendsCoded old new value)
  pub has_term : OnOk result (new ≢ [])
  pub unchanged : OnErr result (new ≡ old)

-- ---- what is returned

pub record Returns {T : Type 0} (IsMade : T → Type 0) (MayFail : Result T TermError → Type 0)
    (result : Result T TermError) : Type 0 where
  pub made : IfOk result IsMade
  pub errors : MayFail result

-- The call returns just this.
abbrev pub GivesExactly : {T : Type 0} → T → Result T TermError → Type 0
GivesExactly wanted result = Returns (λ given. given ≡ wanted) OnlyMemory result

-- It returns the term of a field and a value.
abbrev pub GivesTerm : (field : ℕ) (value : TermValue) (result : Result (List ℕ) TermError) → Type 0
GivesTerm field value result = Returns (λ bytes. IsTerm bytes field value) OnlyMemory result

-- It returns the term of a field and a path into JSON objects, to which no value is appended yet.
abbrev pub GivesPathTerm : (field : ℕ) (expand_dots : Bool) (path : List ℕ)
    (result : Result (List ℕ) TermError) → Type 0
GivesPathTerm field expand_dots path result =
    Returns (λ bytes. IsJsonTerm bytes field (joined_path expand_dots path))
    (NulOrMemory (HasNoZero path)) result

-- It returns such a term of a path that is given by its segments.
abbrev pub GivesSegmentsTerm : (field : ℕ) (segments : List (Bor (List ℕ)))
    (result : Result (List ℕ) TermError) → Type 0
GivesSegmentsTerm field segments result = Returns (λ bytes. IsJsonTerm bytes field (joined_segments segments))
    (NulOrMemory (HaveNoZero segments)) result

-- It returns a range that has, of all terms, just those of such a field and value.
abbrev pub GivesRange : (IsOne : ℕ → TermValue → Type 0) (result : Result TermRange TermError) → Type 0
GivesRange IsOne result = Returns (HasTerms IsOne) OnlyMemory result

-- It returns such a range where the premise holds. Its only error is `Memory`, also where the premise does
-- not hold.
pub record GivesRangeIf (Premise : Type 0) (IsOne : ℕ → TermValue → Type 0)
    (result : Result TermRange TermError) : Type 0 where
  pub made : Premise → IfOk result (HasTerms IsOne)
  pub errors : OnlyMemory result

-- It returns the range of the terms whose values stand at a path into JSON objects.
abbrev pub GivesPathRange : (field : ℕ) (expand_dots : Bool) (path : List ℕ)
    (result : Result TermRange TermError) → Type 0
GivesPathRange field expand_dots path result =
    Returns (HasTerms (IsAtPath field (joined_path expand_dots path))) (NulOrMemory (HasNoZero path)) result

-- ---- what laws return that are given a path into JSON objects

-- The law returns the term of the value at the path.
abbrev pub GivesTermAtPath : (field : ℕ) (expand_dots : Bool) (path : List ℕ) (value : TermValue)
    (result : Result (List ℕ) TermError) → Type 0
GivesTermAtPath field expand_dots path value result =
    Returns (λ bytes. IsTerm bytes field (Json (joined_path expand_dots path) value))
    (NulOrMemory (HasNoZero path)) result

-- It returns just this.
abbrev pub GivesAtPath : {T : Type 0} → (path : List ℕ) → T → Result T TermError → Type 0
GivesAtPath path wanted result = Returns (λ given. given ≡ wanted) (NulOrMemory (HasNoZero path)) result

-- It returns this text.
abbrev pub GivesTextAtPath : (path text : List ℕ) (result : Result (Option (String Global)) TermError)
    → Type 0
GivesTextAtPath path text result = Returns (λ given. option_map string_bytes given ≡ Some text)
    (NulOrMemory (HasNoZero path)) result
