use Rattle.std.proofs.Common.{Err, ap}
use Rattle.tv_indexing.specs.TakesMemory.{TakesMemory, TakesMemoryIn}
use Rattle.tv_indexing.specs.TextTerms.{AnswersText, AppendsAnswer, TermsInField}
use Rattle.tv_indexing.specs.declared.text_terms_error.TextTermsError.TheVariants.{Memory}
use Rattle.tv_indexing.proofs.Answering.{appends, first-weaker, in_found, path_refused}
use Rattle.tv_indexing.proofs.TakingMemory.{found_takes, in_schema, terms_of_field, unnamed_takes}
use Rattle.tv_indexing.proofs.text_terms.terms_of_text.Goals as goal

pub returns-in-Ok-clause-answers : goal.returns-in-Ok-clause-answers
returns-in-Ok-clause-answers c =
    let schema = c.args.schema.now in
    let path = c.args.path.now in
    let text = c.args.text.now in
    let old = c.args.terms.now in
    let new = c.terms.new.terms in
    let at = c.in-Ok.at in
    first-weaker Memory (TakesMemoryIn at.type) (TakesMemory schema) (AppendsAnswer (TermsInField at text) old new) (AppendsAnswer (AnswersText schema path text) old new) c.terms.result
    (appends (TermsInField at text) (AnswersText schema path text) old new
    (λ answer h. in_found (λ e. e) (λ found. TermsInField found text) schema path at answer c.in-Ok.ensures.field h))
    (λ told why h. found_takes (λ e. e) (λ found. TermsInField found text) schema path at (TakesMemory schema) why c.in-Ok.ensures.field
    (λ names x. in_schema schema path at why names (λ field is. terms_of_field at text why field x is) (told why x)) h) c.terms.ensures.answers

pub returns-in-Err-clause-answers : goal.returns-in-Err-clause-answers
returns-in-Err-clause-answers c =
    let schema = c.args.schema.now in
    let text = c.args.text.now in (
      λ some. path_refused (λ e. e) (λ at. TermsInField at text) schema c.args.path.now c.in-Err.error (c.in-Err.ensures.field some),
      λ is why h. unnamed_takes (λ e. e) (λ at. TermsInField at text) schema c.args.path.now (TakesMemory schema) why (λ start. tt) (c.in-Err.ensures.memory (ap Err is)) h,
    )
