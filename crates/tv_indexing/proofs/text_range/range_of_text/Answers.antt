use Rattle.std.proofs.Common.{refl}
use Rattle.tv_indexing.specs.TakesMemory.{TakesMemory}
use Rattle.tv_indexing.specs.TextRange.{AnswersBounds, AnswersRange, bound_text, bounds_written, no_bounds_written}
use Rattle.tv_indexing.specs.declared.text_terms_error.TextTermsError.TheVariants.{Memory}
use Rattle.tv_indexing.proofs.Answering.{first-weaker}
use Rattle.tv_indexing.proofs.TakingMemory.{unwritten_takes, written_takes}
use Rattle.tv_indexing.proofs.text_range.range_of_text.Goals as goal

pub returns-in-Some : goal.returns-in-Some
returns-in-Some c =
    let schema = c.args.schema.now in
    let path = c.args.path.now in
    let text = c.args.text.now in
    let start = bound_text c.in-Some.start in
    let end = bound_text c.in-Some.end in
    let takes = TakesMemory schema in
    first-weaker Memory takes takes (AnswersBounds schema path start end) (AnswersRange schema path text) c.range_between_texts.result (λ answer h. bounds_written _ _ c.in-Some.ensures h)
    (λ told why h. written_takes (AnswersBounds schema path) text start end (takes why) why c.in-Some.ensures (told why) h) c.range_between_texts.ensures

pub returns-in-None : goal.returns-in-None
returns-in-None c = (
  λ some. no_bounds_written c.in-None.ensures _ (c.wrong_range.ensures some) refl,
  λ is why h. unwritten_takes (AnswersBounds c.args.schema.now c.args.path.now) c.args.text.now (TakesMemory c.args.schema.now) why (λ start. tt) c.in-None.ensures h,
)
