use Rattle.std.proofs.Common.{sym, subst, append-nil}
use Rattle.tv_builder.specs.Prefix.{Encoded}
use Rattle.tv_reader.specs.Legacy.{Legacy}
use Rattle.tv_reader.proofs.Finding.{finds_as}
use Rattle.tv_reader.specs.Version.{version_of}
use Rattle.tv_reading.specs.Prefix.{parts_read}
use Rattle.tv_reading.specs.Steps.{Advances}
use Rattle.tv_reading.proofs.BufferedPairs.{reading_goes}
use Rattle.tv_reader.proofs.Lending.{none_buffered}
use Rattle.tv_reading.proofs.reading.Reading.with_buffered_pairs.Goals as goal
use Rattle.tv_reader.specs.Finds.{Nothing}

pub returns-in_default-clause-finds : goal.returns-in_default-clause-finds
returns-in_default-clause-finds g c =
    let v = version_of c.args.version in
    none_buffered (λ b r. Advances Legacy v c.args.self r b) c.args.self (λ bytes p. subst (λ z. Encoded Legacy v z (parts_read c.args.self)) (sym (append-nil bytes)) p)

pub returns-then-is_empty-clause-finds : goal.returns-then-is_empty-clause-finds
returns-then-is_empty-clause-finds g c =
    let v = version_of c.args.version in
    none_buffered (λ b r. Advances Legacy v c.args.self r b) c.args.self (λ bytes p. subst (λ z. Encoded Legacy v z (parts_read c.args.self)) (sym (append-nil bytes)) p)

pub returns-clause-finds : goal.returns-clause-finds
returns-clause-finds g c =
    let v = version_of c.args.version in
    let r = c.args.self in
    let new = c.between_pairs.result in
    finds_as new (λ b z. Advances Legacy v r z b) Nothing
    (λ a h. reading_goes v r new c.in-Some-None.announced _ c.into_pairs-document.result c.take_buffered_pairs-more.new.document a c.in-Some-None.is-0 c.in-Some-None.is-1 c.into_pairs-document.ensures.document h c.between_pairs.ensures.parts)
    c.take_buffered_pairs-more.ensures.finds
