use Rattle.std.proofs.Common.{◌++◌, ◌∷◌, ◌∙◌}
use Rattle.std.proofs.lemmas.Result.{IfOk-weaker}
use Rattle.std.specs.Int.{to_be_bytes, w32}
use Rattle.tv_options.specs.Types.{code}
use Rattle.tv_term.specs.Range.{HasPayloadPrefix, HasPrefixed, HasTerms}
use Rattle.tv_term.proofs.TermRanges.{terms-from, term-prefix}
use Rattle.tv_term.proofs.range.TermRange.of_payload.Goals as goal

pub returns : goal.returns
returns c =
    let id = c.args.field.id in
    let least = c.into_bytes.result.items in
    let begins = HasPayloadPrefix id c.args.value_type c.args.payload.now in
    IfOk-weaker c.from_prefix.result (HasPrefixed least) (HasTerms begins)
    (λ range has. terms-from range least (to_be_bytes w32 id ++ code c.args.value_type ∷ c.args.payload.now) begins (c.into_bytes.ensures ∙ c.in_ok-least.ensures.made) has
    (λ f value small fits. term-prefix id f c.args.value_type c.args.payload.now value c.in_ok-least.ensures.field small)) c.from_prefix.ensures
