use Rattle.tv_term.specs.Key.{Text}
use Rattle.tv_term.proofs.Terms.{completed, json_path-term, text-read}
use Rattle.tv_term.proofs.Making.{without_nul}
use Rattle.tv_term.proofs.laws.json_paths_are_read_back.Goals as goal

pub returns : goal.returns
returns c = record {
  made =
      let made = completed _ _ c.args.field.id _ (Text c.args.text.now) c.in_ok-term.ensures.made
      c.in_ok-append_type_and_str.ensures.appended in
      text-read _ _ _ c.in_ok-term.ensures.made.path_is_text (json_path-term _ c.args.field.id _ (Text c.args.text.now) made) c.in_ok-get_json_path.ensures;
  errors = without_nul _ c.in_ok-term.ensures.errors.has_no_nul tt;
}
