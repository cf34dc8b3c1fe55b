use Rattle.std.proofs.Common.{rules, IsUtf8, subst}
use Rattle.std.proofs.lemmas.Str.{IsUtf8-string_bytes}
use Rattle.tv_term.specs.Key.{HasNoZero}
use Rattle.tv_term.proofs.Terms.{json_term_made}
use Rattle.tv_term.proofs.Written.{HasNoZero-joined_path}
use Rattle.tv_term.proofs.Making.{without_nul}
use Rattle.tv_term.proofs.term.Term.from_field_json_path.Goals as goal

pub returns : goal.returns
returns c = record {
  made =
      let no_zero : HasNoZero c.args.json_path.now = search (rules, c.has_nul.ensures, c.if-has_nul.false) in
      json_term_made _ c.args.field.id _ c.as_bytes.result.now c.in_ok-from_payload.ensures.field
      (subst IsUtf8 c.in_ok-joined.ensures (IsUtf8-string_bytes c.in_ok-joined.joined)) (HasNoZero-joined_path c.args.expand_dots c.args.json_path.now no_zero)
      (search (rules, c.as_bytes.ensures.value, c.in_ok-push.ensures.bytes, c.in_ok-joined.ensures, c.in_ok-push.ensures.ascii)) c.in_ok-from_payload.ensures.made;
  errors = without_nul _ (search (rules, c.has_nul.ensures, c.if-has_nul.false)) tt;
}
