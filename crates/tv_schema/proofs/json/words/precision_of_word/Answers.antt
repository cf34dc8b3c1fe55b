use Rattle.std.proofs.Common.{[], ◌∷◌, sym, ◌∙◌}
use Rattle.tv_date.specs.declared.date_time.DateTimePrecision.TheVariants.{Seconds, Milliseconds, Microseconds, Nanoseconds}
use Rattle.tv_schema.specs.SchemaJson.{precision_word}
use Rattle.tv_schema.specs.SchemaJsonOptions.{precision_of_word}
use Rattle.tv_schema.proofs.SchemaJsonWords.{by_word-other}
use Rattle.tv_schema.proofs.json.words.precision_of_word.Goals as goal

pub returns-in_default : goal.returns-in_default
unfolding precision_of_word
returns-in_default c =
    let word = c.args.word.now in
    let apart = c.in_default in
    sym (by_word-other precision_word Seconds (Milliseconds ∷ Microseconds ∷ Nanoseconds ∷ []) word apart.not-seconds
    ∙ by_word-other precision_word Milliseconds (Microseconds ∷ Nanoseconds ∷ []) word apart.not-milliseconds
    ∙ by_word-other precision_word Microseconds (Nanoseconds ∷ []) word apart.not-microseconds
    ∙ by_word-other precision_word Nanoseconds [] word apart.not-nanoseconds)
