use Rattle.std.proofs.Common.{[], ◌∷◌, ◌++◌, ◌∙◌}
use Rattle.tv_base.specs.JsonPath.{joined_path}
use Rattle.tv_indexing.specs.JsonRanges.{IsTypedAt}
use Rattle.tv_indexing.proofs.JsonRangeSteps.{typed_at}
use Rattle.tv_options.specs.Types.{code}
use Rattle.tv_term.specs.Key.{json_term}
use Rattle.tv_term.proofs.TermRanges.{terms-from}
use Rattle.tv_indexing.proofs.json_ranges.all_of_type.Goals as goal

pub returns-clause-made : goal.returns-clause-made
returns-clause-made c =
    let id = c.args.at.field.id in
    let path = joined_path c.args.at.expand_dots c.args.path.now in
    let t = c.args.value_type in
    let made = c.in_ok-least.ensures.made in
    terms-from c.in_ok-of_prefix.field-0 c.serialized_term.result.now (json_term id path ++ code t ∷ []) (IsTypedAt id path t)
    (c.serialized_term.ensures ∙ c.in_ok-append_type_and_bytes.ensures.appended ∙ (λ k. made.bytes_are k ++ code t ∷ [])) c.in_ok-of_prefix.ensures
    (λ f value small fits. typed_at id f path t value made.field_fits made.path_has_no_zero small fits)
