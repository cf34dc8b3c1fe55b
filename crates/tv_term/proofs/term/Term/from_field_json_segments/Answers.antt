use Rattle.std.proofs.Common.{rules, ◌≡◌, IsUtf8, subst, string_bytes}
use Rattle.std.proofs.lemmas.Str.{IsUtf8-string_bytes}
use Rattle.tv_term.specs.Segments.{HaveNoZero, joined_segments}
use Rattle.tv_term.proofs.Segments.{joined-no-zero}
use Rattle.tv_term.proofs.Terms.{json_term_made}
use Rattle.tv_term.proofs.Making.{without_nul}
use Rattle.tv_term.proofs.term.Term.from_field_json_segments.Goals as goal

pub returns : goal.returns
returns c = record {
  made =
      let no_zero : HaveNoZero c.args.segments.now = search (rules, c.has_nul_among.ensures, c.if-has_nul_among.false) in
      let joined : string_bytes c.push_segments.new.joined ≡ joined_segments c.args.segments.now = search (rules, c.in_ok-push_segments.ensures, c.new-joined.ensures.bytes) in
      json_term_made _ c.args.field.id _ c.as_bytes.result.now c.in_ok-from_payload.ensures.field
      (subst IsUtf8 joined (IsUtf8-string_bytes c.push_segments.new.joined)) (joined-no-zero c.args.segments.now no_zero)
      (search (rules, c.as_bytes.ensures.value, c.in_ok-push.ensures.bytes, joined, c.in_ok-push.ensures.ascii)) c.in_ok-from_payload.ensures.made;
  errors = without_nul _ (search (rules, c.has_nul_among.ensures, c.if-has_nul_among.false)) tt;
}
