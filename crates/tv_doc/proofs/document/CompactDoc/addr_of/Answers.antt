use Rattle.std.proofs.Common.{◌≤◌, length, Some, sym, ◌∙◌, ap, subst, rules}
use Rattle.tv_builder.specs.HeldPairs.{ReadsAt}
use Rattle.tv_builder.proofs.Documents.{found, read_at, none_at, place_at, no_place}
use Rattle.tv_doc.proofs.document.CompactDoc.addr_of.Goals as goal

pub returns-clause-place : goal.returns-clause-place
returns-clause-place c =
    let d = c.args.self.now.values in
    let pair = c.in_ok-pair.pair.now in
    let is = found d c.args.i pair _ c.deref.ensures.value (sym c.in_ok-pair.ensures.lookup.0) c.in_ok-pair.ensures.lookup.1 in
    ap (λ code. Some (code, pair.place.address)) c.to_code.ensures ∙ sym (place_at d.pairs.items c.args.i pair is)

pub returns-clause-reads : goal.returns-clause-reads
returns-clause-reads c =
    let d = c.args.self.now.values in
    let pair = c.in_ok-pair.pair.now in
    let is = found d c.args.i pair _ c.deref.ensures.value (sym c.in_ok-pair.ensures.lookup.0) c.in_ok-pair.ensures.lookup.1 in
    subst (λ code. ReadsAt d c.args.i (Some (code, pair.place.address))) (sym c.to_code.ensures) (read_at d c.args.i pair is)

pub returns-in_err-pair-clause-place : goal.returns-in_err-pair-clause-place
returns-in_err-pair-clause-place c =
    let d = c.args.self.now.values in
    let none : length d.pairs.items ≤ c.args.i = search rules in
    c.from_residual.ensures ∙ sym (no_place d.pairs.items c.args.i none)

pub returns-in_err-pair-clause-reads : goal.returns-in_err-pair-clause-reads
returns-in_err-pair-clause-reads c =
    let d = c.args.self.now.values in
    let none : length d.pairs.items ≤ c.args.i = search rules in
    rw c.from_residual.ensures (none_at d c.args.i none)
