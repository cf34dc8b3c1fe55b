-- The records of the terms and the ranges of a text.
use Rattle.std.proofs.Common.{◌≡◌, ℕ, ◌+◌, ◌<◌, List, [], ◌∷◌, ◌++◌, length, get_or, take, Result, Ok, Err, if◌then◌else◌, refl, sym, subst, ap, ◌∙◌, append_assoc}
use Rattle.std.proofs.lemmas.List.{flat_map_more, take_more}
use Rattle.std.specs.Int.{to_le_bytes, w64}
use Rattle.std.specs.List.{flat_map}
use Rattle.std.specs.Prelude.{IsUtf8, OnOk, ◌≢◌}
use Rattle.std.specs.Result.{is_ok}
use Rattle.tv_blocks.specs.Buffer.{FillsBuffer}
use Rattle.tv_blocks.specs.Query.{IsQueryRefusal, end_bytes, end_length, range_record}
use Rattle.tv_blocks.specs.QueryRefusals.{query_error}
use Rattle.tv_field.specs.declared.json_value.JsonRefusal.TheVariants as values
use Rattle.tv_indexing.specs.declared.text_terms_error.TextTermsError.{TextTermsError}
use Rattle.tv_indexing.specs.declared.text_terms_error.TextTermsError.TheVariants as texts
use Rattle.tv_term.specs.declared.range.TermRange.{TermRange}

-- a range's record is appended in four pieces
pub range_added : {E : Type 0} (result : Result (Unit {0}) E) (old one two three four head size start end : List ℕ) (range : TermRange) → one ≡ old ++ head → two ≡ one ++ size → three ≡ two ++ start
    → four ≡ (if is_ok result then three ++ end else three) → head ≡ to_le_bytes w64 (length start) → size ≡ to_le_bytes w64 (end_length range.end) → start ≡ range.start.items → end ≡ end_bytes range.end
    → OnOk result (four ≡ old ++ range_record range)
range_added (Ok x) old one two three four head size start end range first second third fourth is_head is_size is_start is_end =
    fourth ∙ ap (λ (l : List ℕ). l ++ end) (third ∙ ap (λ (l : List ℕ). l ++ start) (second ∙ ap (λ (l : List ℕ). l ++ size) first))
    ∙ append_assoc ((old ++ head) ++ size) start end ∙ append_assoc (old ++ head) size (start ++ end) ∙ append_assoc old head (size ++ (start ++ end))
    ∙ ap (λ (l : List ℕ). old ++ (l ++ (size ++ (start ++ end)))) (is_head ∙ ap (λ (l : List ℕ). to_le_bytes w64 (length l)) is_start)
    ∙ ap (λ (l : List ℕ). old ++ (to_le_bytes w64 (length range.start.items) ++ (l ++ (start ++ end)))) is_size
    ∙ ap (λ (l : List ℕ). old ++ (to_le_bytes w64 (length range.start.items) ++ (to_le_bytes w64 (end_length range.end) ++ (l ++ end)))) is_start
    ∙ ap (λ (l : List ℕ). old ++ (to_le_bytes w64 (length range.start.items) ++ (to_le_bytes w64 (end_length range.end) ++ (range.start.items ++ l)))) is_end
range_added (Err e) old one two three four head size start end range first second third fourth is_head is_size is_start is_end = tt

-- the records of what is left follow, one by one
pub record_of_first : {A : Type 0} (bytes_of : A → List ℕ) (old new whole : List ℕ) (first : A) (left next : List A) → left ≡ first ∷ next → old ++ flat_map bytes_of left ≡ whole
    → new ≡ old ++ bytes_of first → new ++ flat_map bytes_of next ≡ whole
record_of_first bytes_of old new whole first left next cut so_far added =
    ap (λ (l : List ℕ). l ++ flat_map bytes_of next) added ∙ append_assoc old (bytes_of first) (flat_map bytes_of next)
    ∙ ap (λ items. old ++ flat_map bytes_of items) (sym cut) ∙ so_far

-- one more item of a slice
pub record_of_next : {A : Type 0} (bytes_of : A → List ℕ) (old now new : List ℕ) (items : List A) (i : ℕ) (item : A) → i < length items → item ≡ get_or items i item
    → now ≡ old ++ flat_map bytes_of (take i items) → new ≡ now ++ bytes_of item → new ≡ old ++ flat_map bytes_of (take (i + 1) items)
record_of_next bytes_of old now new items i item below is so_far added =
    added ∙ ap (λ (l : List ℕ). l ++ bytes_of item) so_far ∙ flat_map_more bytes_of old (take i items) item
    ∙ ap (λ more. old ++ flat_map bytes_of more) (ap (λ e. take i items ++ e ∷ []) is ∙ sym (take_more items i item below))

-- ---- what is written

-- the records of what was found, which stands for itself where the list was empty
pub all_records : {A : Type 0} (bytes_of : A → List ℕ) (written new old : List ℕ) (found before made : List A) → written ≡ new → new ≡ old ++ flat_map bytes_of found → old ≡ []
    → found ≡ before ++ made → before ≡ [] → written ≡ flat_map bytes_of made
all_records bytes_of written new old found before made is appended none so_far empty =
    is ∙ appended ∙ ap (λ (l : List ℕ). l ++ flat_map bytes_of found) none ∙ ap (λ items. flat_map bytes_of items) (so_far ∙ ap (λ items. items ++ made) empty)

-- what holds of two texts holds of their bytes
pub of_bytes : (Answers : List ℕ → List ℕ → Type 0) (p path t text : List ℕ) → p ≡ path → t ≡ text → Answers p t → Answers path text
of_bytes Answers p path t text is_path is_text h = subst (λ (l : List ℕ). Answers l text) is_path (subst (λ (l : List ℕ). Answers p l) is_text h)

-- ---- why nothing is written

-- what is said of the error of `tv_indexing`
pub query_refused : (P : List ℕ → Type 0) (Refuses : TextTermsError → Type 0) (path text buffer : List ℕ) (why : TextTermsError) → IsUtf8 path → IsUtf8 text → (why ≢ texts.Memory → Refuses why) → FillsBuffer P (IsQueryRefusal Refuses path text) buffer buffer (Err (query_error why))
query_refused P Refuses path text buffer (texts.UnknownPath start) p t h = ((p, t, texts.UnknownPath start, h (λ e. cc), refl), refl)
query_refused P Refuses path text buffer (texts.NotIndexed field) p t h = ((p, t, texts.NotIndexed field, h (λ e. cc), refl), refl)
query_refused P Refuses path text buffer (texts.PathEnds field) p t h = ((p, t, texts.PathEnds field, h (λ e. cc), refl), refl)
query_refused P Refuses path text buffer (texts.NulInPath field) p t h = ((p, t, texts.NulInPath field, h (λ e. cc), refl), refl)
query_refused P Refuses path text buffer (texts.WrongText field type (values.Overflow expected) start) p t h = ((p, t, texts.WrongText field type (values.Overflow expected) start, h (λ e. cc), refl), refl)
query_refused P Refuses path text buffer (texts.WrongText field type (values.Mismatch expected) start) p t h = ((p, t, texts.WrongText field type (values.Mismatch expected) start, h (λ e. cc), refl), refl)
query_refused P Refuses path text buffer (texts.WrongText field type (values.Parse cause) start) p t h = ((p, t, texts.WrongText field type (values.Parse cause) start, h (λ e. cc), refl), refl)
query_refused P Refuses path text buffer (texts.WrongText field type values.InvalidBase64 start) p t h = ((p, t, texts.WrongText field type values.InvalidBase64 start, h (λ e. cc), refl), refl)
query_refused P Refuses path text buffer (texts.WrongText field type values.FloatNumber start) p t h = ((p, t, texts.WrongText field type values.FloatNumber start, h (λ e. cc), refl), refl)
query_refused P Refuses path text buffer (texts.WrongText field type values.Memory start) p t h = refl
query_refused P Refuses path text buffer (texts.WrongRange start) p t h = ((p, t, texts.WrongRange start, h (λ e. cc), refl), refl)
query_refused P Refuses path text buffer (texts.Backwards field) p t h = ((p, t, texts.Backwards field, h (λ e. cc), refl), refl)
query_refused P Refuses path text buffer (texts.NoRange field) p t h = refl
query_refused P Refuses path text buffer texts.Memory p t h = refl
