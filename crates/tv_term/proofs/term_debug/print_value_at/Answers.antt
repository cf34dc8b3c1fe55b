use Rattle.std.proofs.Common.{refl, sym, ap, ◌∙◌}
use Rattle.std.proofs.lemmas.Grind.{put_three}
use Rattle.std.specs.Option.{option_map}
use Rattle.tv_term.proofs.Prints.{then_prints}
use Rattle.tv_term.proofs.term_debug.print_value_at.Goals as goal

pub returns-in-Some : goal.returns-in-Some
returns-in-Some g c =
    let found = sym c.json_value.ensures ∙ ap (option_map (λ v. v.serialized.now)) c.in-Some.is in
    rw found (then_prints _ _ _ _ _ _ _ (λ plain.
    let first = c.in_ok-write_str.ensures.writes plain refl in
    let second = c.in_ok-print_path.ensures first.plain refl in
    let third = c.in_ok-write_str-2.ensures.writes second.plain refl in
    put_three _ _ _ _ _ _ _ _ _ first second third refl) c.print_typed.ensures)
