use Rattle.std.proofs.Common.{◌-◌, length, arith, ap, ◌∙◌, sym}
use Rattle.std.specs.Option.{option_copied}
use Rattle.tv_indexing.proofs.Places.{end_of-last}
use Rattle.tv_indexing.proofs.term_list.end_of.Goals as goal

pub returns-in-Some : goal.returns-in-Some
returns-in-Some c =
    end_of-last c.args.moved.bytes c.args.places.now c.args.moved.len (length c.args.places.now - 1) c.in-Some.last.now c.if-moved-places.true (omega (arith, c.if-moved-places.true)) (sym (ap option_copied c.in-Some.is) ∙ c.last.ensures.value)
