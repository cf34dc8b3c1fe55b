use Rattle.std.proofs.Common.{◌-◌, ◌^◌, ◌<◌, List, [], ℕ, length, refl, sym, subst, arith}
use Rattle.tv_blocks.specs.Documents.{IsUnread}
use Rattle.tv_reader.specs.Version.{version_of}
use Rattle.tv_store.specs.Documents.{HasNoRoom, NoDocument}
use Rattle.tv_store.proofs.Promises.{refusal_is_true}
use Rattle.tv_store.proofs.BlockMigration.{no_more_left}
use Rattle.tv_blocks.proofs.Documents.{unread_first}
use Rattle.tv_blocks.proofs.document.read_first_document.Goals as goal

pub returns-in-Err-clause-err : goal.returns-in-Err-clause-err
returns-in-Err-clause-err c =
    let v = version_of c.args.version in
    let bytes = c.args.bytes.now in
    let rest = c.new-source.result.rest.now in
    let known : length rest < 2 ^ 64 - 1 = no_more_left bytes [] rest (sym c.new-source.ensures) (omega arith) in
    subst (IsUnread v bytes) (sym c.unread.ensures)
    (unread_first v bytes c.in-Err.error
    (λ r refusal. subst (λ (l : List ℕ). NoDocument v l r) c.new-source.ensures (refusal_is_true (tt, known) c.in-Err.ensures.reads c.in-Err.error r refl refusal))
    (λ full. subst (λ (l : List ℕ). HasNoRoom v l) c.new-source.ensures (c.in-Err.ensures.reads.no_room tt c.in-Err.error refl full)) c.in-Err.ensures.reads.errors)
