use Rattle.std.proofs.Common.{◌<◌, sym, subst, arith, rules}
use Rattle.tv_value.specs.TokenRef.{ref_of}
use Rattle.tv_value.proofs.TokenSteps.{Goes, goes_kept, goes_encoded, goes_on, goes_down, never_ends, ends}
use Rattle.tv_value.proofs.pre_tokenized.TokenIterIterator.next.Goals as goal

pub invariant_of-self : goal.invariant_of-self
invariant_of-self c =
    let s = c.args.self.now in
    let g = goes_kept s.kept.now c.in-Some.kept.now c.in-Some.token.now s.encoded.now s.count s.held c.in-Some.ensures.cases.0 in
    record { held = (g.others, g.left) }

pub returns-in-Some-clause-steps : goal.returns-in-Some-clause-steps
returns-in-Some-clause-steps c =
    let s = c.args.self.now in
    let g = goes_kept s.kept.now c.in-Some.kept.now c.in-Some.token.now s.encoded.now s.count s.held c.in-Some.ensures.cases.0 in
    let lent = subst (λ z. Goes c.in-Some.kept.now s.encoded.now s.count z s.held.0) (sym c.lent.ensures) g in
    let on = goes_on lent in
    search (rules, on)

pub returns-in-Some-clause-goes : goal.returns-in-Some-clause-goes
returns-in-Some-clause-goes c =
    let s = c.args.self.now in
    let g = goes_kept s.kept.now c.in-Some.kept.now c.in-Some.token.now s.encoded.now s.count s.held c.in-Some.ensures.cases.0 in
    let down = goes_down g in
    search (rules, down)

pub returns-then-count-eq0-clause-steps : goal.returns-then-count-eq0-clause-steps
returns-then-count-eq0-clause-steps c =
    let s = c.args.self.now in
    let none = ends s.kept.now s.encoded.now s.count s.held c.in_default.ensures.cases c.if-count-eq0.true in
    (none, none)

pub returns-in_err-token-clause-steps : goal.returns-in_err-token-clause-steps
returns-in_err-token-clause-steps c =
    let s = c.args.self.now in
    let some : 0 < s.count = omega (arith, c.if-count-eq0.false) in
    absurd (never_ends s.kept.now s.encoded.now s.count s.held c.in_default.ensures.cases some c.in_err-token.ensures.none)

pub invariant_of-self-2 : goal.invariant_of-self-2
invariant_of-self-2 c =
    let s = c.args.self.now in
    let some : 0 < s.count = omega (arith, c.if-count-eq0.false) in
    let g = goes_encoded s.kept.now s.encoded.now c.in_ok-token.encoded.now s.count (ref_of c.in_ok-token.token) s.held c.in_default.ensures.cases some c.in_ok-token.ensures.found in
    record { held = (g.others, g.left) }

pub returns-clause-steps : goal.returns-clause-steps
returns-clause-steps c =
    let s = c.args.self.now in
    let some : 0 < s.count = omega (arith, c.if-count-eq0.false) in
    let g = goes_encoded s.kept.now s.encoded.now c.in_ok-token.encoded.now s.count (ref_of c.in_ok-token.token) s.held c.in_default.ensures.cases some c.in_ok-token.ensures.found in
    let on = goes_on g in
    search (rules, on)

pub returns-clause-goes : goal.returns-clause-goes
returns-clause-goes c =
    let s = c.args.self.now in
    let some : 0 < s.count = omega (arith, c.if-count-eq0.false) in
    let g = goes_encoded s.kept.now s.encoded.now c.in_ok-token.encoded.now s.count (ref_of c.in_ok-token.token) s.held c.in_default.ensures.cases some c.in_ok-token.ensures.found in
    let down = goes_down g in
    search (rules, down)
