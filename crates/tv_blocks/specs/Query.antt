-- The terms of a text of a query, and the ranges that it bounds, as bytes.
use Rattle.std.specs.Prelude.{◌≡◌, ℕ, ◌-◌, ◌^◌, List, [], ◌++◌, length, Option, Some, None, Ok, Err, IsUtf8}
use Rattle.std.specs.Global.{Vec}
use Rattle.std.specs.Int.{to_le_bytes, w64}
use Rattle.std.specs.List.{flat_map}
use Rattle.tv_blocks.specs.QueryRefusals.{query_error}
use Rattle.tv_blocks.specs.declared.block_error.BlockError.{BlockError}
use Rattle.tv_blocks.specs.declared.block_error.BlockError.TheVariants as errors
use Rattle.tv_field.specs.Entry.{Entry}
use Rattle.tv_indexing.specs.JsonRanges.{AnswersRanges}
use Rattle.tv_indexing.specs.TextTerms.{AnswersText}
use Rattle.tv_indexing.specs.declared.text_terms_error.TextTermsError.{TextTermsError}
use Rattle.tv_term.specs.declared.range.TermRange.{TermRange}

-- ---- records

-- the length of the term in eight bytes, the lowest first, and the term
abbrev pub measured_term : List ℕ → List ℕ
measured_term term = to_le_bytes w64 (length term) ++ term

-- the length of a range's end, and 2^64 - 1 where the range has none
abbrev pub end_length : Option (Vec ℕ) → ℕ
end_length None = 2 ^ 64 - 1
end_length (Some end) = length end.items

abbrev pub end_bytes : Option (Vec ℕ) → List ℕ
end_bytes None = []
end_bytes (Some end) = end.items

-- the lengths of the range's start and of its end, both in eight bytes, the lowest first, and then both
abbrev pub range_record : TermRange → List ℕ
range_record range = to_le_bytes w64 (length range.start.items) ++ to_le_bytes w64 (end_length range.end)
    ++ range.start.items ++ end_bytes range.end

-- ---- what is written

-- path and text are UTF-8, and these are the records of the text's terms there
abbrev pub AreTextTerms : List Entry → List ℕ → List ℕ → List ℕ → Type 0
AreTextTerms schema path text content =
    IsUtf8 path × IsUtf8 text × (terms : List (List ℕ)) × AnswersText schema path text (Ok terms)
    × (content ≡ flat_map measured_term terms)

-- the same of the ranges that the text bounds
abbrev pub AreTextRanges : List Entry → List ℕ → List ℕ → List ℕ → Type 0
AreTextRanges schema path text content =
    IsUtf8 path × IsUtf8 text × (ranges : List TermRange) × AnswersRanges schema path text (Ok ranges)
    × (content ≡ flat_map range_record ranges)

-- ---- why nothing is

-- the path or the text is no UTF-8; or both are, and this is what is said of why the text is refused there
abbrev pub IsQueryRefusal : (TextTermsError → Type 0) → List ℕ → List ℕ → BlockError → Type 0
IsQueryRefusal Refuses path text errors.NotUtf8 = ¬ (IsUtf8 path × IsUtf8 text)
IsQueryRefusal Refuses path text error = IsUtf8 path × IsUtf8 text × (why : TextTermsError) × Refuses why
    × (error ≡ query_error why)

abbrev pub IsTermsRefusal : List Entry → List ℕ → List ℕ → BlockError → Type 0
IsTermsRefusal schema path text error = IsQueryRefusal (λ why. AnswersText schema path text (Err why)) path
    text error

abbrev pub IsRangesRefusal : List Entry → List ℕ → List ℕ → BlockError → Type 0
IsRangesRefusal schema path text error = IsQueryRefusal (λ why. AnswersRanges schema path text (Err why)) path
    text error
