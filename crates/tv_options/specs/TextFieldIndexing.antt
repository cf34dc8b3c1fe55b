-- How texts are indexed.
use Rattle.std.specs.Prelude.{true, codes}
use Rattle.tv_options.specs.declared.text_options.IndexRecordOption.TheVariants.{Basic, WithFreqsAndPositions}
use Rattle.tv_options.specs.declared.text_options.TextFieldIndexing.{TextFieldIndexing}

abbrev pub default_indexing : TextFieldIndexing
default_indexing = record { «record» = Basic; fieldnorms = true; tokenizer = codes "default" }

-- a text is one token
abbrev pub as_one_token : TextFieldIndexing
as_one_token = record default_indexing { tokenizer = codes "raw" }

-- a text is its words
abbrev pub by_words : TextFieldIndexing
by_words = record default_indexing { «record» = WithFreqsAndPositions }
