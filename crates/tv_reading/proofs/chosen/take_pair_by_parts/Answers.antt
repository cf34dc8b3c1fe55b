use Rattle.std.proofs.Common.{inl, sym, ◌∙◌}
use Rattle.std.proofs.lemmas.Result.{err_from_is_err_and}
use Rattle.tv_builder.specs.HeldPairs.{document_of}
use Rattle.tv_reader.specs.Version.{version_of}
use Rattle.tv_reader.proofs.AgreeField.{field_agrees}
use Rattle.tv_reader.proofs.Finding.{finds_any, finds_read, finds_read_fails}
use Rattle.tv_reading.specs.ChosenPair.{FindsPair, FindsNoPair}
use Rattle.tv_reading.proofs.ChosenPairs.{value_kept, value_has_none, value_passed, value_not_passed}
use Rattle.tv_reading.proofs.chosen.take_pair_by_parts.Goals as goal

pub returns-in_err-field-clause-finds : goal.returns-in_err-field-clause-finds
returns-in_err-field-clause-finds g c =
    let p = err_from_is_err_and c.from_residual.result c.from_residual.ensures.1 in
    let v = version_of c.args.version in
    let d = document_of c.args.document in
    rw (p.1, p.2) (finds_any (λ e n may. may.0.0) (finds_read_fails (FindsPair v c.args.fields.now d) (FindsNoPair v d) g.met.S.ByteSource.are_bytes field_agrees (λ w r h. λ stands. inl h) c.in_err-field.ensures.takes))

pub returns-then-is_among-clause-finds : goal.returns-then-is_among-clause-finds
returns-then-is_among-clause-finds g c =
    let v = version_of c.args.version in
    let d = document_of c.args.document in
    let field = finds_read g.met.S.ByteSource.are_bytes field_agrees c.in_ok-field.ensures.takes in
    value_kept v c.args.fields.now d c.in_ok-field.field c.take_pair_value.result (sym c.is_among.ensures ∙ c.if-is_among.true) field c.take_pair_value.ensures.finds

pub returns-then-is_among-clause-no_room : goal.returns-then-is_among-clause-no_room
returns-then-is_among-clause-no_room g c = λ told full stands.
    let field = finds_read g.met.S.ByteSource.are_bytes field_agrees c.in_ok-field.ensures.takes in
    value_has_none (version_of c.args.version) c.args.fields.now (document_of c.args.document) c.in_ok-field.field (sym c.is_among.ensures ∙ c.if-is_among.true) field told
    (c.take_pair_value.ensures.no_room (field.stays_known told) full stands)

pub returns-in_err-pass_value-clause-finds : goal.returns-in_err-pass_value-clause-finds
returns-in_err-pass_value-clause-finds g c =
    let p = err_from_is_err_and c.from_residual-in_err-pass_value.result c.from_residual-in_err-pass_value.ensures.1 in
    let field = finds_read g.met.S.ByteSource.are_bytes field_agrees c.in_ok-field.ensures.takes in
    rw (p.1, p.2) (value_not_passed (version_of c.args.version) c.args.fields.now (document_of c.args.document) c.in_ok-field.field field c.in_err-pass_value.ensures.finds)

pub returns-clause-finds : goal.returns-clause-finds
returns-clause-finds g c =
    let field = finds_read g.met.S.ByteSource.are_bytes field_agrees c.in_ok-field.ensures.takes in
    value_passed (version_of c.args.version) c.args.fields.now c.args.document c.in_ok-field.field (sym c.is_among.ensures ∙ c.if-is_among.false) field c.in_ok-pass_value.ensures.finds
