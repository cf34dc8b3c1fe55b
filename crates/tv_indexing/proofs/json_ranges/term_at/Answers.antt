use Rattle.std.proofs.Common.{ap, ◌∷◌, ◌++◌, ◌∙◌}
use Rattle.tv_base.specs.JsonPath.{joined_path}
use Rattle.tv_indexing.specs.LeafTerms.{leaf_value}
use Rattle.tv_indexing.proofs.JsonRangeSteps.{value_seen}
use Rattle.tv_options.specs.Types.{code}
use Rattle.tv_term.proofs.Terms.{completed}
use Rattle.tv_value.specs.Lent.{leaf_of}
use Rattle.tv_indexing.proofs.json_ranges.term_at.Goals as goal

pub returns-clause-made : goal.returns-clause-made
returns-clause-made c =
    let front = c.in_ok-term.term in
    let seen = value_seen (leaf_value (leaf_of c.args.leaf)) _ _ c.in-Some.ensures.parts c.in-Some.ensures.fits in
    let coded = ap (λ l. code c.in-Some.value_type ∷ l) c.as_slice.ensures ∙ seen.2 in
    let appended = c.in_ok-append_type_and_bytes.ensures.appended ∙ ap (λ l. front ++ l) coded in
    let whole = completed front c.append_type_and_bytes.new.self c.args.at.field.id (joined_path c.args.at.expand_dots c.args.path.now) seen.0 c.in_ok-term.ensures.made (record { bytes_are = appended; value_fits = seen.3 }) in
    (seen.0, seen.1, whole)
