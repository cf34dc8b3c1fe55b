use Rattle.std.proofs.Common.{Ok, refl, sym}
use Rattle.tv_term.proofs.Prints.{prints_before, then_prints}
use Rattle.tv_term.proofs.term_debug.TermDebug.fmt.Goals as goal

pub returns : goal.returns
returns g c = record {
  writes = rw (sym c.field.ensures, sym c.field_id.ensures, sym c.value-value.ensures)
      (then_prints _ _ _ _ _ _ _ (λ plain. c.in_ok-write.ensures.writes plain refl)
      (then_prints _ _ _ _ _ _ _ (λ plain. c.in_ok-print_type.ensures plain refl)
      (prints_before _ _ _ _ (Ok c.in_ok-print_content.field-0) _ _ _ c.in_ok-print_content.ensures refl c.write_str.ensures.writes)));
}
