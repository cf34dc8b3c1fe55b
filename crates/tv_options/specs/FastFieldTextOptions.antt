-- Whether texts have a fast field, and by which tokenizer.
use Rattle.std.specs.Prelude.{ℕ, List, Bool, true, ◌||◌, Option, None, Some}
use Rattle.tv_options.specs.declared.text_options.FastFieldTextOptions.{FastFieldTextOptions}
use Rattle.tv_options.specs.declared.text_options.FastFieldTextOptions.TheVariants.{IsEnabled}
use Rattle.tv_options.specs.declared.text_options.FastFieldTextOptions.TheVariants.{EnabledWithTokenizer}

abbrev pub is_fast_field : FastFieldTextOptions → Bool
is_fast_field (IsEnabled enabled) = enabled
is_fast_field (EnabledWithTokenizer tokenizer) = true

abbrev pub tokenizer_of : FastFieldTextOptions → Option (List ℕ)
tokenizer_of (IsEnabled enabled) = None
tokenizer_of (EnabledWithTokenizer tokenizer) = Some tokenizer

-- a fast field by the tokenizer of the name, or of whole texts
abbrev pub fast_by : Option (List ℕ) → FastFieldTextOptions
fast_by None = IsEnabled true
fast_by (Some name) = EnabledWithTokenizer name

-- the leftmost tokenizer, else whether either is enabled
abbrev pub join_fast : FastFieldTextOptions → FastFieldTextOptions → FastFieldTextOptions
join_fast (EnabledWithTokenizer tokenizer) right = EnabledWithTokenizer tokenizer
join_fast (IsEnabled left) (EnabledWithTokenizer tokenizer) = EnabledWithTokenizer tokenizer
join_fast (IsEnabled left) (IsEnabled right) = IsEnabled (left || right)
