use Rattle.std.proofs.Common.{arith, sym, ◌∙◌}
use Rattle.std.proofs.lemmas.Option.{IfSome_then}
use Rattle.tv_format.specs.WriteVersion.{written_version}
use Rattle.tv_reading.proofs.ChosenRuns.{pair_added, pair_passed}
use Rattle.tv_reading.proofs.buffered.add_chosen_pair.Goals as goal

pub returns-then-not-has-clause-added : goal.returns-then-not-has-clause-added
returns-then-not-has-clause-added c =
    let e = c.in_ok-prefix.ensures.cases in
    IfSome_then c.behind_value.result c.behind_value.ensures (λ rest p.
    pair_passed (written_version c.args.version) c.args.wanted.now.fields.now c.args.document.now c.args.bytes.now c.in_ok-prefix.prefix.now c.in_ok-prefix.value.now rest.now c.from_le_bytes.result (λ i. omega (arith, c.type_inv.bytes i)) e.0 e.1 (omega (arith, e.2)) c.from_le_bytes.ensures
    (sym c.has.ensures ∙ c.if-not-has.true) p)

pub returns-clause-added : goal.returns-clause-added
returns-clause-added c =
    let e = c.in_ok-prefix.ensures.cases in
    pair_added (written_version c.args.version) c.args.wanted.now.fields.now c.args.document.now c.add_encoded-added.new.self c.args.bytes.now c.in_ok-prefix.prefix.now c.in_ok-prefix.value.now c.add_encoded-added.result.0.now c.from_le_bytes.result c.add_encoded-added.result.1 (λ i. omega (arith, c.type_inv.bytes i)) e.0 e.1
    (omega (arith, e.2)) c.from_le_bytes.ensures (sym c.has.ensures ∙ c.if-not-has.false) (omega (arith, c.add_encoded-added.ensures.most, c.if-added-eq0.false)) c.add_encoded-added.ensures.added
