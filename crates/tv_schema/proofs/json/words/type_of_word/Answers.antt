use Rattle.std.proofs.Common.{[], ◌∷◌, sym, ◌∙◌}
use Rattle.tv_options.specs.declared.types.TypeTag.TheVariants.{Str, U64, I64, Bool, Date, Facet, Bytes, Json, IpAddr}
use Rattle.tv_schema.specs.SchemaJson.{type_word}
use Rattle.tv_schema.specs.SchemaJsonOptions.{type_of_word}
use Rattle.tv_schema.proofs.SchemaJsonWords.{by_word-other}
use Rattle.tv_schema.proofs.json.words.type_of_word.Goals as goal

pub returns-in_default : goal.returns-in_default
unfolding type_of_word
returns-in_default c =
    let word = c.args.word.now in
    let apart = c.in_default in
    sym (by_word-other type_word Str (U64 ∷ I64 ∷ Bool ∷ Date ∷ Facet ∷ Bytes ∷ Json ∷ IpAddr ∷ []) word apart.not-text
    ∙ by_word-other type_word U64 (I64 ∷ Bool ∷ Date ∷ Facet ∷ Bytes ∷ Json ∷ IpAddr ∷ []) word apart.not-u64
    ∙ by_word-other type_word I64 (Bool ∷ Date ∷ Facet ∷ Bytes ∷ Json ∷ IpAddr ∷ []) word apart.not-i64
    ∙ by_word-other type_word Bool (Date ∷ Facet ∷ Bytes ∷ Json ∷ IpAddr ∷ []) word apart.not-bool
    ∙ by_word-other type_word Date (Facet ∷ Bytes ∷ Json ∷ IpAddr ∷ []) word apart.not-date
    ∙ by_word-other type_word Facet (Bytes ∷ Json ∷ IpAddr ∷ []) word apart.not-facet
    ∙ by_word-other type_word Bytes (Json ∷ IpAddr ∷ []) word apart.not-bytes
    ∙ by_word-other type_word Json (IpAddr ∷ []) word apart.not-json_object
    ∙ by_word-other type_word IpAddr [] word apart.not-ip_addr)
