use Rattle.std.proofs.Common.{sym, subst}
use Rattle.tv_json.specs.declared.json_fault.JsonFault.{JsonFault}
use Rattle.tv_json.specs.declared.json_fault.JsonFaultKind.TheVariants.{NumberTooLarge}
use Rattle.tv_doc.specs.TextFault.{IsFault}
use Rattle.tv_doc.proofs.TextFaults.{syntax_is_fault, number_is_fault}
use Rattle.tv_doc.proofs.json_object.fault_of.Goals as goal

pub returns-in-Some : goal.returns-in-Some
returns-in-Some c = syntax_is_fault c.args.text.now c.in-Some.fault c.requires c.in-Some.ensures

pub returns : goal.returns
returns c =
    let text = c.args.text.now in
    let found = number_is_fault c.texts_with_the_syntax_are_read.ensures text c.large_number.result c.requires c.in_default.ensures c.large_number.ensures in
    subst (λ n. let f : JsonFault = record { offset = n; kind = NumberTooLarge } in IsFault text f) (sym c.unwrap_or.ensures) found
