-- How much an index keeps of a term's occurrences.
use Rattle.std.specs.Prelude.{ℕ}
use Rattle.tv_options.specs.declared.text_options.IndexRecordOption.{IndexRecordOption}
use Rattle.tv_options.specs.declared.text_options.IndexRecordOption.TheVariants.{Basic, WithFreqs}
use Rattle.tv_options.specs.declared.text_options.IndexRecordOption.TheVariants.{WithFreqsAndPositions}

-- from the least to the most
abbrev pub rank : IndexRecordOption → ℕ
rank Basic = 0
rank WithFreqs = 1
rank WithFreqsAndPositions = 2
