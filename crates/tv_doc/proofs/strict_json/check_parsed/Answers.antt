use Rattle.std.proofs.Common.{sym}
use Rattle.tv_doc.proofs.CheckedKeys.{key_before_value}
use Rattle.tv_doc.proofs.strict_json.check_parsed.Goals as goal

pub returns-then-is_object : goal.returns-then-is_object
returns-then-is_object c =
    rw (c.in-Err.is, c.and.ensures) (key_before_value c.args.schema.now c.args.text.now c.in-Err.error c.check_keys-then-is_object.result (sym c.if-is_object.ensures) c.check_keys-then-is_object.ensures)
