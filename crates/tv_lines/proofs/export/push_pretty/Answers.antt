use Rattle.std.proofs.Common.{◌∷◌, ◌++◌, append-nil, sym, ap, ◌∙◌}
use Rattle.json.specs.Reads.{token_of}
use Rattle.tv_lines.proofs.Layouts.{laid_out_all, laid_out_none, pushed, unpushed}
use Rattle.tv_lines.proofs.export.push_pretty.Goals as goal

pub returns-in-Bad-clause-appended : goal.returns-in-Bad-clause-appended
returns-in-Bad-clause-appended c =
    let i = c.loop-token.invariant in
    let seen = c.loop-token.pretty in
    let rest = c.next.new.self in
    pushed c.push_str.result c.push_str.ensures.bytes i.same
    (sym (laid_out_none c.args.json.now seen rest (i.split ∙ ap (λ l. seen ++ l) (c.in-Some.ensures.value ∙ ap (λ t. token_of t ∷ rest) c.in-Bad.is))))

pub returns-in-Bad-clause-unchanged : goal.returns-in-Bad-clause-unchanged
returns-in-Bad-clause-unchanged c = unpushed c.push_str.result _ c.push_str.ensures.bytes c.loop-token.invariant.same

pub returns-clause-appended : goal.returns-clause-appended
returns-clause-appended c =
    let i = c.loop-token.invariant in
    let seen = c.loop-token.pretty in
    let all = i.split ∙ ap (λ l. seen ++ l) c.in_default.ensures.value.0 ∙ append-nil seen in
    pushed c.push_str-2.result c.push_str-2.ensures.bytes i.same
    ((rw c.from_utf8_unchecked-lines.ensures.value at c.as_str.ensures.value) ∙ c.into_inner.ensures.layout ∙ sym (laid_out_all c.args.json.now seen all i.good))

pub returns-clause-unchanged : goal.returns-clause-unchanged
returns-clause-unchanged c = unpushed c.push_str-2.result _ c.push_str-2.ensures.bytes c.loop-token.invariant.same
