-- Terms that constructors made, and JSON terms with a value.
use Rattle.std.proofs.Common.{◌≡◌, ℕ, ◌<◌, ◌^◌, List, [], ◌∷◌, ◌++◌, Option, None, Some, Result, OnOk, IsUtf8, sym, ◌∙◌, ap, append_assoc}
use Rattle.tv_base.proofs.Steps.{nat_itself}
use Rattle.std.specs.Int.{to_be_bytes, w32, w64}
use Rattle.std.specs.Ordering.{nat_cmp, ordering_then}
use Rattle.std.specs.Cmp.Lexicographic.{slice_cmp}
use Rattle.std.proofs.lemmas.Cmp.{tied_itself, nat_list_cmp_total}
use Rattle.std.proofs.lemmas.Result.{on_ok_weaker}
use Rattle.std.specs.Prelude.{unwrap_or}
use Rattle.tv_options.specs.Types.{code}
use Rattle.tv_options.specs.declared.types.TypeTag.{TypeTag}
use Rattle.tv_options.specs.declared.types.TypeTag.TheVariants as tag
use Rattle.tv_term.specs.FastValue.{StandsAs}
use Rattle.tv_term.specs.Key.{TermValue, Json, Fits, HasNoZero, coded_value, payload, term, json_term, value_cmp, IsTerm, IsJsonTerm, AppendsCoded}
use Rattle.tv_term.proofs.Orders.{term-order, coded-order, number-order}
use Rattle.tv_term.specs.Reading.{json_parts, json_path, value_of, ReadsText}
use Rattle.tv_term.proofs.Written.{cut_behind_zero-path, json_path_read}

-- two terms compare as their fields and values
pub terms-order : (one other : List ℕ) (f g : ℕ) (a b : TermValue) → IsTerm one f a → IsTerm other g b → slice_cmp nat_cmp one other ≡ ordering_then (nat_cmp f g) (value_cmp a b)
terms-order one other f g a b p q =
    rw (p.bytes_are, q.bytes_are) (term-order f g a b p.field_fits q.field_fits p.value_fits q.value_fits)

-- two terms of one field compare as their values
pub values-order : (one other : List ℕ) (f : ℕ) (a b : TermValue) → IsTerm one f a → IsTerm other f b → slice_cmp nat_cmp one other ≡ value_cmp a b
values-order one other f a b p q = terms-order one other f f a b p q ∙ ap (λ o. ordering_then o (value_cmp a b)) (nat_itself f)

joined : (f : ℕ) (path : List ℕ) (value : TermValue) → json_term f path ++ coded_value value ≡ term f (Json path value)
joined f path value = ap (λ rest. to_be_bytes w32 f ++ code tag.Json ∷ rest) (append_assoc path (0 ∷ []) (coded_value value))

-- a value that is appended to a JSON term makes the term of the path and the value
pub completed : (old new : List ℕ) (f : ℕ) (path : List ℕ) (value : TermValue) → IsJsonTerm old f path → AppendsCoded old new value → IsTerm new f (Json path value)
completed old new f path value p q = record {
  bytes_are = q.bytes_are ∙ ap (λ bytes. bytes ++ coded_value value) p.bytes_are ∙ joined f path value;
  field_fits = p.field_fits;
  value_fits = (p.path_has_no_zero, q.value_fits);
}

-- two JSON terms of one path compare as the values there
pub json-values-order : (one other : List ℕ) (f : ℕ) (path : List ℕ) (a b : TermValue) → IsTerm one f (Json path a) → IsTerm other f (Json path b) → slice_cmp nat_cmp one other ≡ value_cmp a b
json-values-order one other f path a b p q =
    values-order one other f (Json path a) (Json path b) p q ∙ ap (λ o. ordering_then o (value_cmp a b)) (tied_itself nat_list_cmp_total path)

coded-is : (a : TermValue) (t : TypeTag) (n : ℕ) → StandsAs a t n → coded_value a ≡ code t ∷ to_be_bytes w64 n
coded-is a t n p = ap (λ k. code k ∷ payload a) p.type_is ∙ ap (λ bytes. code t ∷ bytes) p.payload_is

-- values of one type of eight bytes are ordered as their numbers
pub fast-order : (a b : TermValue) (t : TypeTag) (m n : ℕ) → Fits a → Fits b → StandsAs a t m → StandsAs b t n → m < 2 ^ 64 → n < 2 ^ 64 → value_cmp a b ≡ nat_cmp m n
fast-order a b t m n a_fits b_fits p q m_small n_small =
    sym (coded-order a b a_fits b_fits) ∙ ap (λ bytes. slice_cmp nat_cmp bytes (coded_value b)) (coded-is a t m p)
    ∙ ap (slice_cmp nat_cmp (code t ∷ to_be_bytes w64 m)) (coded-is b t n q)
    ∙ ap (λ o. ordering_then o (slice_cmp nat_cmp (to_be_bytes w64 m) (to_be_bytes w64 n))) (nat_itself (code t))
    ∙ number-order 8 m n m_small n_small

-- the path and the value of a JSON term
pub json_parts-term : (bytes : List ℕ) (f : ℕ) (path : List ℕ) (value : TermValue) → IsTerm bytes f (Json path value) → json_parts (value_of bytes) ≡ Some (path ++ 0 ∷ [], coded_value value)
json_parts-term bytes f path value p = ap (λ b. json_parts (value_of b)) p.bytes_are ∙ cut_behind_zero-path path (coded_value value) p.value_fits.0

pub json_path-term : (bytes : List ℕ) (f : ℕ) (path : List ℕ) (value : TermValue) → IsTerm bytes f (Json path value) → json_path (value_of bytes) ≡ Some path
json_path-term bytes f path value p = ap (λ b. json_path (value_of b)) p.bytes_are ∙ json_path_read path value p.value_fits.0

-- what is read of a text is the text
pub text-read : (bytes found : Option (List ℕ)) (text : List ℕ) → IsUtf8 text → bytes ≡ Some text → ReadsText bytes found → found ≡ Some text
text-read bytes None text utf8 e read = absurd (read text e utf8)
text-read bytes (Some found) text utf8 e read = sym read.0 ∙ e

pub same_value : (a b : List ℕ) → ◌≡◌ {A = Option (List ℕ)} (Some a) (Some b) → a ≡ b
same_value a b e = cc

-- the field, the code and the path with its zero make the term of the path
pub json_term_made : (made : List ℕ) (field : ℕ) (path payload : List ℕ) → field < 2 ^ 32 → IsUtf8 path → HasNoZero path → payload ≡ path ++ 0 ∷ []
    → made ≡ to_be_bytes w32 field ++ code tag.Json ∷ payload → IsJsonTerm made field path
json_term_made made field path payload fits utf8 no_zero payload_is made_is = record {
  bytes_are = made_is ∙ ap (λ bytes. to_be_bytes w32 field ++ code tag.Json ∷ bytes) payload_is;
  field_fits = fits;
  path_is_text = utf8;
  path_has_no_zero = no_zero;
}

-- the same of a term that is held
pub json_term_held : {E : Type 0} (r : Result (Unit {0}) E) (held : Option (List ℕ)) (field : ℕ) (path payload : List ℕ) → field < 2 ^ 32 → IsUtf8 path → HasNoZero path → payload ≡ path ++ 0 ∷ []
    → OnOk r (held ≡ Some (to_be_bytes w32 field ++ code tag.Json ∷ payload)) → OnOk r (IsJsonTerm (unwrap_or held []) field path)
json_term_held r held field path payload fits utf8 no_zero payload_is =
    on_ok_weaker r (λ held_is. json_term_made (unwrap_or held []) field path payload fits utf8 no_zero payload_is (ap (λ h. unwrap_or h []) held_is))
