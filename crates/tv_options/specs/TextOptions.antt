-- The options of a field of texts, as values.
use Rattle.std.specs.Prelude.{true, false, Some}
use Rattle.tv_options.specs.declared.own_part.Coercion.{Coercion}
use Rattle.tv_options.specs.declared.textual_options.TextualOptions.{TextualOptions}
use Rattle.tv_options.specs.TextFieldIndexing.{as_one_token, by_words}
use Rattle.tv_options.specs.TextualOptions.{none}

abbrev pub only_coerce : TextualOptions Coercion
only_coerce = none (record { coerce = true })

-- a text is one token
abbrev pub string_options : TextualOptions Coercion
string_options = record (none (record { coerce = false })) { indexing = Some as_one_token }

-- a text is indexed word by word
abbrev pub text_options : TextualOptions Coercion
text_options = record (none (record { coerce = false })) { indexing = Some by_words }
