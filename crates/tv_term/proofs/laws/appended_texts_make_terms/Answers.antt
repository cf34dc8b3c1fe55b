use Rattle.tv_term.specs.Key.{Text}
use Rattle.tv_term.proofs.Terms.{completed}
use Rattle.tv_term.proofs.Making.{without_nul}
use Rattle.tv_term.proofs.laws.appended_texts_make_terms.Goals as goal

pub returns : goal.returns
returns c = record {
  made =
      completed _ _ c.args.field.id _ (Text c.args.text.now) c.in_ok-term.ensures.made
      c.in_ok-append_type_and_str.ensures.appended;
  errors = without_nul _ c.in_ok-term.ensures.errors.has_no_nul tt;
}
