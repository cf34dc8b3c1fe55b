-- The options of a field of JSON objects, as values.
use Rattle.std.specs.Prelude.{false}
use Rattle.tv_options.specs.declared.own_part.Coercion.{Coercion}
use Rattle.tv_options.specs.declared.own_part.DotExpansion.{DotExpansion}
use Rattle.tv_options.specs.declared.textual_options.TextualOptions.{TextualOptions}

-- stored, indexed and fast as the texts, with dots in keys as they stand
abbrev pub of_text : TextualOptions Coercion → TextualOptions DotExpansion
of_text text = record {
  indexing = text.indexing;
  stored = text.stored;
  fast = text.fast;
  part = record { expand_dots_enabled = false };
}
