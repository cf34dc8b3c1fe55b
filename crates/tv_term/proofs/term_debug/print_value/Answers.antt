use Rattle.std.proofs.Common.{Some, sym, ap, ◌∙◌, subst}
use Rattle.std.specs.Fmt.{DisplaysOnOk, debug_str}
use Rattle.tv_base.specs.Facet.{debug_printed}
use Rattle.tv_term.specs.Printed.{printed_or_nothing, value_printed}
use Rattle.tv_term.proofs.Prints.{copied_prints, text_is}
use Rattle.tv_term.proofs.term_debug.print_value.Goals as goal

pub returns-in-Some-Str : goal.returns-in-Some-Str
returns-in-Some-Str g c =
    let bytes = c.args.value.serialized.now in
    let type_is = sym c.typ.ensures ∙ c.in-Some-Str.is ∙ ap Some c.in-Some-Str.field-0-is in
    let text = text_is _ _ c.as_str.ensures in
    let same = copied_prints debug_str c.as_str.result ∙ ap (printed_or_nothing debug_str) text ∙ sym (ap (λ t. value_printed t bytes) type_is) in
    subst (λ o. DisplaysOnOk g.W.Write.write_str_gives c.args.f.now c.print_found.result o c.print_found.new.f) same c.print_found.ensures

pub returns-in-Some-Facet : goal.returns-in-Some-Facet
returns-in-Some-Facet g c =
    let bytes = c.args.value.serialized.now in
    let type_is = sym c.typ.ensures ∙ c.in-Some-Facet.is ∙ ap Some c.in-Some-Facet.field-0-is in
    let text = text_is _ _ c.text.ensures in
    let same = ap (printed_or_nothing (λ t. Some (debug_printed t))) text ∙ sym (ap (λ t. value_printed t bytes) type_is) in
    subst (λ o. DisplaysOnOk g.W.Write.write_str_gives c.args.f.now c.print_facet.result o c.print_facet.new.f) same c.print_facet.ensures
