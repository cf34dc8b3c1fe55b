use Rattle.std.proofs.Common.{Err, ap}
use Rattle.tv_indexing.specs.JsonRanges.{AnswersBetween, RangesInField, ranges_in}
use Rattle.tv_indexing.specs.TakesMemory.{TakesMemory, TakesMemoryIn}
use Rattle.tv_indexing.specs.TextRange.{bound_text}
use Rattle.tv_indexing.specs.declared.text_terms_error.TextTermsError.TheVariants.{Memory}
use Rattle.tv_indexing.proofs.Answering.{first-weaker, in_found, path_refused}
use Rattle.tv_indexing.proofs.TakingMemory.{found_takes, in_schema, ranges_of_field, unnamed_takes}
use Rattle.tv_indexing.proofs.json_ranges.ranges_between_texts.Goals as goal

pub returns-in-Ok : goal.returns-in-Ok
returns-in-Ok c =
    let schema = c.args.schema.now in
    let path = c.args.path.now in
    let start = bound_text c.args.start in
    let end = bound_text c.args.end in
    let at = c.in-Ok.at in
    first-weaker Memory (TakesMemoryIn at.type) (TakesMemory schema) (RangesInField at start end) (AnswersBetween schema path start end) (ranges_in c.ranges-in-Ok.result)
    (λ answer h. in_found (λ e. e) (λ found. RangesInField found start end) schema path at answer c.in-Ok.ensures.field h)
    (λ told why h. found_takes (λ e. e) (λ found. RangesInField found start end) schema path at (TakesMemory schema) why c.in-Ok.ensures.field
    (λ names x. in_schema schema path at why names (λ field is. ranges_of_field at start end why field x is) (told why x)) h) c.ranges-in-Ok.ensures

pub returns-in-Err : goal.returns-in-Err
returns-in-Err c =
    let schema = c.args.schema.now in
    let start = bound_text c.args.start in
    let end = bound_text c.args.end in (
      λ some. path_refused (λ e. e) (λ at. RangesInField at start end) schema c.args.path.now c.in-Err.error (c.in-Err.ensures.field some),
      λ is why h. unnamed_takes (λ e. e) (λ at. RangesInField at start end) schema c.args.path.now (TakesMemory schema) why (λ start. tt) (c.in-Err.ensures.memory (ap Err is)) h,
    )
