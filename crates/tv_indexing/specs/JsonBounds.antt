-- Whether two texts of a query, as bounds at a path into JSON objects, run backwards.
use Rattle.std.specs.Prelude.{◌≡◌, ℕ, List, Bool, true, false, Option, Some, None}
use Rattle.std.specs.Cmp.Lexicographic.{slice_cmp}
use Rattle.std.specs.Ordering.{is_lt, nat_cmp, int_cmp, bool_cmp}
use Rattle.tv_date.specs.DateTime.{truncated}
use Rattle.tv_date.specs.Rfc3339.{rfc}
use Rattle.tv_date.specs.declared.date_time.DateTimePrecision.TheVariants.{Seconds}
use Rattle.tv_field.specs.JsonTable.{truth_in}
use Rattle.tv_format.specs.Tree.{Leaf, unsigned, signed, boolean, date}
use Rattle.tv_indexing.specs.TextTerms.{WritesNumber, date_written_in}

-- Whether the first of two values of one kind is above the second one. A number without a sign is 2^63 or
-- more, so it is above all with one; dates are compared by their seconds.
abbrev pub above : Option Leaf → Option Leaf → Option Bool
above (Some (signed first)) (Some (signed last)) = Some (is_lt (int_cmp last first))
above (Some (unsigned first)) (Some (unsigned last)) = Some (is_lt (nat_cmp last first))
above (Some (unsigned first)) (Some (signed last)) = Some true
above (Some (signed first)) (Some (unsigned last)) = Some false
above (Some (date first)) (Some (date last)) =
    Some (is_lt (int_cmp (truncated Seconds last) (truncated Seconds first)))
above (Some (boolean first)) (Some (boolean last)) = Some (is_lt (bool_cmp last first))
above first last = None

-- what is reported first
abbrev pub told_or : Option Bool → Bool → Bool
told_or (Some told) other = told
told_or None other = other

-- as numbers where both texts write one, as dates, as truth values, and else as texts
abbrev pub TextsRunBackwards : List ℕ → List ℕ → Bool → Type 0
TextsRunBackwards start end told =
    (first : Option Leaf) × (last : Option Leaf) × WritesNumber start first × WritesNumber end last
    × (told ≡ told_or (above first last) (told_or (above (date_written_in (rfc start))
    (date_written_in (rfc end))) (told_or (above (truth_in start) (truth_in end))
    (is_lt (slice_cmp nat_cmp end start)))))

-- where there are two
abbrev pub RunBackwards : Option (List ℕ) → Option (List ℕ) → Bool → Type 0
RunBackwards (Some start) (Some end) told = TextsRunBackwards start end told
RunBackwards start end told = told ≡ false
