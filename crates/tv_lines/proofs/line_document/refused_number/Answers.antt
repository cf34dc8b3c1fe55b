use Rattle.std.proofs.Common.{refl, subst}
use Rattle.tv_lines.proofs.RefusedValues.{float_found, float_stands}
use Rattle.tv_lines.specs.RefusedValues.{FindsRefused}
use Rattle.tv_doc.specs.JsonObject.{object_values}
use Rattle.tv_lines.proofs.line_document.refused_number.Goals as goal

pub unreachable-requires : goal.unreachable-requires
unreachable-requires c =
    float_stands c.args.schema.now c.args.text.now c.args.name c.requires
    (λ members is. subst (FindsRefused (object_values c.args.schema.now members)) c.in-None.is (c.in_ok-json.ensures members is))

pub returns : goal.returns
returns c =
    let found = float_found c.args.schema.now c.args.text.now c.args.name c.in-Some.json c.requires
    (λ members is. subst (FindsRefused (object_values c.args.schema.now members)) c.in-Some.is (c.in_ok-json.ensures members is)) in
    (c.in-Some.json, refl, found)
