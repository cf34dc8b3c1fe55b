use Rattle.std.proofs.Common.{◌∷◌, [], ◌-◌, length, arith, subst}
use Rattle.tv_reader.specs.Version.{version_of}
use Rattle.tv_reading.specs.Skip.{Passed, BeginsItems}
use Rattle.tv_reading.proofs.Left.{none_passed}
use Rattle.tv_reader.proofs.Lending.{passed_over, not_passed, none_buffered}
use Rattle.tv_reading.proofs.Walking.{items_passed}
use Rattle.tv_reading.proofs.items.pass_buffered_items.Goals as goal

pub returns-in_default : goal.returns-in_default
returns-in_default g c =
    let v = version_of c.args.version in
    record { finds = none_buffered (λ b left. Passed v (c.args.items ∷ []) (left ∷ []) b) c.args.items (none_passed v (c.args.items ∷ [])) }

pub returns-then-not-pass : goal.returns-then-not-pass
returns-then-not-pass g c =
    let v = version_of c.args.version in
    let pass = c.if-not-pass.ensures in
    record { finds = not_passed (λ b left. Passed v (c.args.items ∷ []) (left ∷ []) b) c.args.items (none_passed v (c.args.items ∷ [])) pass.bytes pass.is_known pass.failures }

pub returns : goal.returns
returns g c =
    let v = version_of c.args.version in
    let lent = c.buffered-lent.result.now in
    let walked = c.behind_as_many-passed in
    let n = length lent - length walked.result.0.now in
    let pass = c.if-not-pass.ensures in
    let begins = subst (λ z. BeginsItems z c.args.items.kind walked.result.1 lent walked.result.0.now) c.in-Some.ensures walked.ensures.items in
    record { finds = passed_over (λ b left. Passed v (c.args.items ∷ []) (left ∷ []) b) _ lent n c.buffered-lent.ensures (omega arith) (λ a same many. items_passed v c.args.items.kind c.args.items.left walked.result.1 lent walked.result.0.now a walked.ensures.most begins same) pass.bytes pass.is_known pass.failures (omega arith) }
