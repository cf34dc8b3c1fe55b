use Rattle.std.proofs.Common.{refl}
use Rattle.tv_indexing.specs.JsonRanges.{RangesInField, RangesOfText, ranges_in}
use Rattle.tv_indexing.specs.TakesMemory.{TakesMemoryIn}
use Rattle.tv_indexing.specs.TextRange.{bound_text, bounds_written, no_bounds_written}
use Rattle.tv_indexing.specs.declared.text_terms_error.TextTermsError.TheVariants.{Memory}
use Rattle.tv_indexing.proofs.Answering.{first-weaker}
use Rattle.tv_indexing.proofs.TakingMemory.{unwritten_takes, written_takes}
use Rattle.tv_indexing.proofs.indexed_field.IndexedField.ranges_of_text.Goals as goal

pub returns-in-Some : goal.returns-in-Some
returns-in-Some c =
    let at = c.args.self.now in
    let text = c.args.text.now in
    let takes = TakesMemoryIn at.type in
    first-weaker Memory takes takes (RangesInField at (bound_text c.in-Some.start) (bound_text c.in-Some.end)) (RangesOfText at text) (ranges_in c.ranges-in-Some.result) (λ answer h. bounds_written _ _ c.in-Some.ensures h)
    (λ told why h. written_takes (RangesInField at) text (bound_text c.in-Some.start) (bound_text c.in-Some.end) (takes why) why c.in-Some.ensures (told why) h) c.ranges-in-Some.ensures

pub returns-in-None : goal.returns-in-None
returns-in-None c = (
  λ some. no_bounds_written c.in-None.ensures _ (c.wrong_range.ensures some) refl,
  λ is why h. unwritten_takes (RangesInField c.args.self.now) c.args.text.now (TakesMemoryIn c.args.self.now.type) why (λ start. tt) c.in-None.ensures h,
)
