use Rattle.std.proofs.Common.{◌<◌, ◌^◌, List, subst, sym, arith}
use Rattle.tv_builder.specs.Prefix.{Encoded}
use Rattle.tv_builder.specs.Parts.{Part}
use Rattle.tv_builder.specs.HeldPairs.{document_of}
use Rattle.tv_reader.specs.Legacy.{Legacy}
use Rattle.tv_reader.specs.Version.{version_of}
use Rattle.tv_reading.specs.PairValue.{FindsValue, FindsNoValue}
use Rattle.tv_reading.proofs.PairValues.{value_added, value_refused, value_too_large, reads_map}
use Rattle.tv_reading.proofs.document.take_pair_value.Goals as goal

pub returns-clause-finds : goal.returns-clause-finds
returns-clause-finds g c =
    let v = version_of c.args.version in
    let few = c.before_value-begun.ensures.at_most in
    let field : c.args.field < 2 ^ 32 = omega (arith, c.ranges.field.fits) in
    let d = document_of c.args.document in
    let f = c.args.field in
    let parts = c.before_value-begun.ensures.parts in
    reads_map (FindsValue v d f) (FindsNoValue v d) _
    (λ b new reads. value_added v d f b new few field (λ bytes p. reads bytes (subst (λ (z : List Part). Encoded Legacy v bytes z) (sym parts) p)))
    (λ w r refuses. value_refused v d f w r few field (λ bytes p. refuses bytes (subst (λ (z : List Part). Encoded Legacy v bytes z) (sym parts) p)))
    c.take_rest.ensures.finds

pub returns-clause-no_room : goal.returns-clause-no_room
returns-clause-no_room g c = λ told full.
    let v = version_of c.args.version in
    let few = c.before_value-begun.ensures.at_most in
    let field : c.args.field < 2 ^ 32 = omega (arith, c.ranges.field.fits) in
    let d = document_of c.args.document in
    let none = c.take_rest.ensures.no_room told full in
    value_too_large v d c.args.field _ few field (λ bytes p. none bytes (subst (λ (z : List Part). Encoded Legacy v bytes z) (sym c.before_value-begun.ensures.parts) p))
