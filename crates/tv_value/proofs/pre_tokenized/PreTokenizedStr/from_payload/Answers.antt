use Rattle.std.proofs.Common.{◌<◌, ◌-◌, ◌^◌, length, refl, arith, rules}
use Rattle.tv_base.specs.Number.{VNum}
use Rattle.tv_base.specs.Parts.{Text}
use Rattle.tv_base.proofs.Texts.{one_text}
use Rattle.tv_value.proofs.InPlace.{if_none, first_none, second_none, counted_none}
use Rattle.tv_value.proofs.Payloads.{all_encoded, begins_fewer, payload_found}
use Rattle.tv_value.proofs.pre_tokenized.PreTokenizedStr.from_payload.Goals as goal

pub returns-in_err-text-clause-none : goal.returns-in_err-text-clause-none
returns-in_err-text-clause-none c = if_none c.from_residual.result (λ s ts. first_none Text c.args.bytes.now c.in_err-text.ensures.none s)

pub returns-in_err-count-clause-none : goal.returns-in_err-count-clause-none
returns-in_err-count-clause-none c =
    if_none c.from_residual-in_err-count.result (λ s ts.
    second_none Text one_text c.in_ok-text.text.now c.args.bytes.now c.in_ok-text.behind_text.now c.in_ok-text.ensures.found
    (first_none VNum c.in_ok-text.behind_text.now c.in_err-count.ensures.none (length ts)) s)

pub returns-in_err-rest-clause-none : goal.returns-in_err-rest-clause-none
returns-in_err-rest-clause-none c =
    if_none c.from_residual-in_err-rest.result (λ s ts.
    second_none Text one_text c.in_ok-text.text.now c.args.bytes.now c.in_ok-text.behind_text.now c.in_ok-text.ensures.found
    (counted_none c.in_ok-text.behind_text.now c.in_ok-count.encoded.now c.in_ok-count.count c.in_ok-count.ensures.found c.in_err-rest.ensures.none ts) s)

pub invariant_of-tokens : goal.invariant_of-tokens
invariant_of-tokens c =
    let few : length c.args.bytes.now < 2 ^ 63 = omega arith in
    let fewer = begins_fewer c.in_ok-text.behind_text.now c.in_ok-count.encoded.now c.in_ok-count.ensures.found (begins_fewer c.args.bytes.now c.in_ok-text.behind_text.now c.in_ok-text.ensures.found few) in
    let tokens = c.in_ok-rest.ensures.found in
    record { held = (tokens.tokens, ∣ all_encoded c.in_ok-count.encoded.now c.in_ok-rest.rest.now c.in_ok-count.count fewer tokens ∣₁) }

pub returns-clause-found : goal.returns-clause-found
returns-clause-found c =
    let few : length c.args.bytes.now < 2 ^ 63 = omega arith in
    let found =
    payload_found c.args.bytes.now c.in_ok-text.behind_text.now c.in_ok-count.encoded.now c.in_ok-rest.rest.now c.in_ok-text.text.now c.in_ok-count.count
    (length c.args.bytes.now - length c.in_ok-rest.rest.now) c.in_ok-text.ensures.found c.in_ok-count.ensures.found c.in_ok-rest.ensures.found refl few in
    search (rules, found)
