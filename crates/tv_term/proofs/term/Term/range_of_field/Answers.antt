use Rattle.std.proofs.Common.{◌<◌, ◌^◌, ap, ◌∙◌, arith}
use Rattle.std.specs.Int.{to_be_bytes, w32}
use Rattle.std.proofs.lemmas.Result.{IfOk-weaker}
use Rattle.tv_term.specs.Range.{HasPrefixed, HasTerms, IsOfField}
use Rattle.tv_term.proofs.TermRanges.{terms-from, of_field}
use Rattle.tv_term.proofs.term.Term.range_of_field.Goals as goal

pub returns : goal.returns
returns c =
    let id = c.args.field.id in
    let small : id < 2 ^ 32 = omega (arith, c.field_id.ensures, c.field_id.type_inv) in
    IfOk-weaker c.of_prefix.result (HasPrefixed c.to_be_bytes.result) (HasTerms (IsOfField id))
    (λ range has. terms-from range c.to_be_bytes.result (to_be_bytes w32 id) (IsOfField id) (c.to_be_bytes.ensures ∙ ap (to_be_bytes w32) c.field_id.ensures) has
    (λ f value inside fits. of_field id f value small inside)) c.of_prefix.ensures
