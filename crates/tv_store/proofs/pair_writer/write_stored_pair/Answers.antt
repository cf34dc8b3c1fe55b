use Rattle.std.proofs.Common.{◌++◌, sym, ap, subst, ◌∙◌}
use Rattle.std.proofs.lemmas.Result.{err_from_is_err_and}
use Rattle.tv_base.specs.Number.{four_bytes}
use Rattle.tv_heap.specs.Encoded.{SaysTokenized}
use Rattle.tv_heap.specs.Value.{tree_of}
use Rattle.tv_format.specs.Short.{short}
use Rattle.tv_format.specs.WriteVersion.{written_version}
use Rattle.tv_base.proofs.Written.{Writes_as}
use Rattle.tv_store.proofs.Nesting.{held_within}
use Rattle.tv_store.proofs.Stores.{writes_for, writes_all}
use Rattle.tv_store.proofs.WriterSteps.{plainly_written, says_no_tokens}
use Rattle.tv_store.proofs.pair_writer.write_stored_pair.Goals as goal

pub write_field_text-requires : goal.write_field_text-requires
write_field_text-requires g c = c.encoded.ensures.tokens.0 (subst SaysTokenized (sym c.in-Tokenized.is) tt)

pub returns-in_err-write_field_text-in-Tokenized-clause-writes : goal.returns-in_err-write_field_text-in-Tokenized-clause-writes
returns-in_err-write_field_text-in-Tokenized-clause-writes g c =
    let p = err_from_is_err_and c.from_residual.result c.from_residual.ensures.1 in
    rw (p.1, p.2) (writes_for {T = Unit {0}} (c.in_err-write_field_text-in-Tokenized.ensures (written_version c.args.version)))

pub returns-in_ok-write_field_text-in-Tokenized-clause-writes : goal.returns-in_ok-write_field_text-in-Tokenized-clause-writes
returns-in_ok-write_field_text-in-Tokenized-clause-writes g c = writes_all (c.in_ok-write_field_text-in-Tokenized.ensures (written_version c.args.version))

pub returns-in_err-write_pair-in_default-clause-writes : goal.returns-in_err-write_pair-in_default-clause-writes
returns-in_err-write_pair-in_default-clause-writes g c =
    let v = written_version c.args.version in
    let p = err_from_is_err_and c.from_residual-in_err-write_pair-in_default.result c.from_residual-in_err-write_pair-in_default.ensures.1 in
    let plain = plainly_written (tree_of c.args.value) (λ t. says_no_tokens c.encoded.result c.in_default.not-Tokenized (c.encoded.ensures.tokens.1 t)) in
    rw (p.1, p.2) (Writes_as c.in_err-write_pair-in_default.ensures.writes (ap (λ z. four_bytes c.args.field.id ++ z) (c.encoded.ensures.bytes v ∙ ap (short v) (sym plain))))

pub returns-in_err-write_pair-in_default-clause-only_io : goal.returns-in_err-write_pair-in_default-clause-only_io
returns-in_err-write_pair-in_default-clause-only_io g c =
    let p = err_from_is_err_and c.from_residual-in_err-write_pair-in_default.result c.from_residual-in_err-write_pair-in_default.ensures.1 in
    λ h. rw (p.1, p.2) (c.in_err-write_pair-in_default.ensures.only_io (held_within 128 c.args.value c.encoded.result c.encoded.ensures.bytes h))

pub returns-in_ok-write_pair-in_default-clause-writes : goal.returns-in_ok-write_pair-in_default-clause-writes
returns-in_ok-write_pair-in_default-clause-writes g c =
    let v = written_version c.args.version in
    let plain = plainly_written (tree_of c.args.value) (λ t. says_no_tokens c.encoded.result c.in_default.not-Tokenized (c.encoded.ensures.tokens.1 t)) in
    Writes_as c.in_ok-write_pair-in_default.ensures.writes (ap (λ z. four_bytes c.args.field.id ++ z) (c.encoded.ensures.bytes v ∙ ap (short v) (sym plain)))
