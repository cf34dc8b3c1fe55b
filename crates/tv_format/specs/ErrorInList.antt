-- What is wrong with a number of elements or entries: some are encoded, and the next is malformed. `Legacy`
-- and `L` say what encodes a legacy object, and what is wrong with bytes that encode none.
use Rattle.std.specs.Prelude.{◌≡◌, ◌<◌, ℕ, List, ◌++◌}
use Rattle.tv_base.specs.declared.cause.Cause.{Cause}
use Rattle.tv_format.specs.InputError.{Refusal, ErrorInKey, ErrorInValue}
use Rattle.tv_format.specs.Encoding.{Key, EncodesElements, EncodesEntries}
use Rattle.tv_format.specs.Tree.{Elements, element_count, Entries, entry_count}
use Rattle.tv_format.specs.Version.{Version}

-- some elements are encoded, and the next is malformed
pub record ErrorInElements (Legacy : List ℕ → Entries → Type 0) (LegacyError : List ℕ → Cause → Type 0)
    (version : Version)
    (count : ℕ) (whole : List ℕ) (refusal : Refusal) : Type 0 where
  pub before : Elements
  pub prefix : List ℕ
  pub rest : List ℕ
  pub joined : whole ≡ prefix ++ rest
  pub encoded : EncodesElements Legacy version prefix before
  pub fewer : element_count before < count
  pub error : ErrorInValue Legacy LegacyError version rest refusal

-- some entries are encoded, and the next is malformed: its key, or its value after the key
pub data ErrorInEntries (Legacy : List ℕ → Entries → Type 0) (LegacyError : List ℕ → Cause → Type 0)
    (version : Version)
    (count : ℕ) (whole : List ℕ) (refusal : Refusal) : Type 0 where
  in_next_key : (es : Entries) (prefix rest : List ℕ) → whole ≡ prefix ++ rest
      → EncodesEntries Legacy version prefix es → entry_count es < count
      → ErrorInKey version rest refusal → ErrorInEntries Legacy LegacyError version count whole refusal
  in_next_value : (es : Entries) (k prefix key rest : List ℕ) → whole ≡ prefix ++ (key ++ rest)
      → EncodesEntries Legacy version prefix es → entry_count es < count
      → Key version key k → ErrorInValue Legacy LegacyError version rest refusal
      → ErrorInEntries Legacy LegacyError version count whole refusal
