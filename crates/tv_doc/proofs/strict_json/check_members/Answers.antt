use Rattle.std.proofs.Common.{[], ◌∷◌, ◌++◌, subst, sym}
use Rattle.std.proofs.lemmas.Result.{err_from_is_err_and}
use Rattle.tv_doc.specs.StrictJson.{NameFieldsOnce, keys_of}
use Rattle.tv_doc.proofs.KeysRead.{none_so_far, one_more, key_stands, all_read}
use Rattle.tv_doc.proofs.StrictKeys.{no_keys, more_noted, more_once}
use Rattle.tv_doc.proofs.CheckedKeys.{refused_key}
use Rattle.tv_doc.proofs.strict_json.check_members.Goals as goal

pub keys-init : goal.keys-init
keys-init c = record { before = []; so_far = none_so_far 126 c.args.reader.now; noted = c.requires; accepted = no_keys c.args.schema.now }

pub keys-preserved : goal.keys-preserved
keys-preserved c =
    let schema = c.args.schema.now in
    let h = c.keys.invariant in
    let key = c.in-Some.key.now in
    let field = c.in_ok-note_key.ensures in
    record {
      before = h.before ++ key ∷ [];
      so_far = one_more 126 c.args.reader.now c.keys.reader c.next_key.new.reader h.before key c.skip_value.new.self c.skip_value.result h.so_far c.in-Some.ensures.next c.skip_value.ensures.value;
      noted = more_noted schema h.before key field.0 c.keys.noted c.note_key.new.noted h.noted field.1 field.2 field.3;
      accepted = more_once schema h.before key field.0 c.keys.noted c.note_key.new.noted h.noted h.accepted field.1 field.2;
    }

pub returns : goal.returns
returns c found rest e =
    let h = c.keys.invariant in
    let all = all_read 126 c.args.reader.now c.keys.reader h.before h.so_far c.in_default.ensures.ended found rest e in
    subst (NameFieldsOnce c.args.schema.now) (sym all) h.accepted

pub returns-in_err-note_key : goal.returns-in_err-note_key
returns-in_err-note_key c found rest e =
    let p = err_from_is_err_and c.from_residual.result c.from_residual.ensures.1 in
    let schema = c.args.schema.now in
    let h = c.keys.invariant in
    let key = c.in-Some.key.now in
    let stands = key_stands 126 c.args.reader.now c.keys.reader c.next_key.new.reader h.before key h.so_far c.in-Some.ensures.next found rest e in
    rw (p.1, p.2) (refused_key schema (keys_of found) h.before stands.0 key c.keys.noted c.note_key.new.noted c.in_err-note_key.field-0.0 stands.1 h.noted h.accepted c.in_err-note_key.ensures)
