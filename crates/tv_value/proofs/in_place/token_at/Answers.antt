use Rattle.tv_base.specs.Number.{VNum}
use Rattle.tv_base.specs.Parts.{Text}
use Rattle.tv_base.proofs.Numbers.{one_number}
use Rattle.tv_base.proofs.Texts.{one_text}
use Rattle.tv_value.proofs.InPlace.{if_none, first_none, second_none}
use Rattle.tv_format.proofs.Prefixes.{begins_then}
use Rattle.tv_value.proofs.in_place.token_at.Goals as goal

pub returns-in_err-offset_from-clause-none : goal.returns-in_err-offset_from-clause-none
returns-in_err-offset_from-clause-none c =
    if_none c.from_residual.result (λ t. first_none VNum c.args.bytes.now c.in_err-offset_from.ensures.none t.offset_from)

pub returns-in_err-offset_to-clause-none : goal.returns-in_err-offset_to-clause-none
returns-in_err-offset_to-clause-none c =
    if_none c.from_residual-in_err-offset_to.result (λ t.
    second_none VNum one_number c.in_ok-offset_from.offset_from c.args.bytes.now c.in_ok-offset_from.behind_from.now c.in_ok-offset_from.ensures.found
    (first_none VNum c.in_ok-offset_from.behind_from.now c.in_err-offset_to.ensures.none t.offset_to) t.offset_from)

pub returns-in_err-position-clause-none : goal.returns-in_err-position-clause-none
returns-in_err-position-clause-none c =
    if_none c.from_residual-in_err-position.result (λ t.
    second_none VNum one_number c.in_ok-offset_from.offset_from c.args.bytes.now c.in_ok-offset_from.behind_from.now c.in_ok-offset_from.ensures.found
    (second_none VNum one_number c.in_ok-offset_to.offset_to c.in_ok-offset_from.behind_from.now c.in_ok-offset_to.behind_to.now c.in_ok-offset_to.ensures.found
    (first_none VNum c.in_ok-offset_to.behind_to.now c.in_err-position.ensures.none t.position) t.offset_to) t.offset_from)

pub returns-in_err-text-clause-none : goal.returns-in_err-text-clause-none
returns-in_err-text-clause-none c =
    if_none c.from_residual-in_err-text.result (λ t.
    second_none VNum one_number c.in_ok-offset_from.offset_from c.args.bytes.now c.in_ok-offset_from.behind_from.now c.in_ok-offset_from.ensures.found
    (second_none VNum one_number c.in_ok-offset_to.offset_to c.in_ok-offset_from.behind_from.now c.in_ok-offset_to.behind_to.now c.in_ok-offset_to.ensures.found
    (second_none VNum one_number c.in_ok-position.position c.in_ok-offset_to.behind_to.now c.in_ok-position.behind_position.now c.in_ok-position.ensures.found
    (first_none Text c.in_ok-position.behind_position.now c.in_err-text.ensures.none t.text) t.position) t.offset_to) t.offset_from)

pub returns-in_err-position_length-clause-none : goal.returns-in_err-position_length-clause-none
returns-in_err-position_length-clause-none c =
    if_none c.from_residual-in_err-position_length.result (λ t.
    second_none VNum one_number c.in_ok-offset_from.offset_from c.args.bytes.now c.in_ok-offset_from.behind_from.now c.in_ok-offset_from.ensures.found
    (second_none VNum one_number c.in_ok-offset_to.offset_to c.in_ok-offset_from.behind_from.now c.in_ok-offset_to.behind_to.now c.in_ok-offset_to.ensures.found
    (second_none VNum one_number c.in_ok-position.position c.in_ok-offset_to.behind_to.now c.in_ok-position.behind_position.now c.in_ok-position.ensures.found
    (second_none Text one_text c.in_ok-text.text.now c.in_ok-position.behind_position.now c.in_ok-text.behind_text.now c.in_ok-text.ensures.found
    (c.in_err-position_length.ensures.none t.position_length) t.text) t.position) t.offset_to) t.offset_from)

pub returns-clause-found : goal.returns-clause-found
returns-clause-found c =
    begins_then c.args.bytes.now c.in_ok-offset_from.behind_from.now c.in_ok-position_length.rest.now c.in_ok-offset_from.ensures.found
    (begins_then c.in_ok-offset_from.behind_from.now c.in_ok-offset_to.behind_to.now c.in_ok-position_length.rest.now c.in_ok-offset_to.ensures.found
    (begins_then c.in_ok-offset_to.behind_to.now c.in_ok-position.behind_position.now c.in_ok-position_length.rest.now c.in_ok-position.ensures.found
    (begins_then c.in_ok-position.behind_position.now c.in_ok-text.behind_text.now c.in_ok-position_length.rest.now c.in_ok-text.ensures.found
    c.in_ok-position_length.ensures.found)))
