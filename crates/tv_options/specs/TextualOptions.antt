-- What the options of a field of texts and those of a field of JSON objects share, as values.
use Rattle.std.specs.Prelude.{true, false, ◌||◌, None}
use Rattle.std.specs.Option.{option_or}
use Rattle.tv_options.specs.declared.text_options.FastFieldTextOptions.TheVariants.{IsEnabled}
use Rattle.tv_options.specs.declared.textual_options.TextualOptions.{TextualOptions}
use Rattle.tv_options.specs.FastFieldTextOptions.{join_fast}

-- nothing is indexed, and no flag is set
abbrev pub none : {Part : Type 0} → Part → TextualOptions Part
none part = record { indexing = None; stored = false; fast = IsEnabled false; part = part }

abbrev pub only_stored : {Part : Type 0} → Part → TextualOptions Part
only_stored part = record (none part) { stored = true }

abbrev pub only_fast : {Part : Type 0} → Part → TextualOptions Part
only_fast part = record (none part) { fast = IsEnabled true }

-- the leftmost indexing and tokenizer, what is set on the left or on the right, and their own parts joined so
abbrev pub join : {Part : Type 0} → (Part → Part → Part) → TextualOptions Part → TextualOptions Part
    → TextualOptions Part
join join_part left right = record {
  indexing = option_or left.indexing right.indexing;
  stored = left.stored || right.stored;
  fast = join_fast left.fast right.fast;
  part = join_part left.part right.part;
}
