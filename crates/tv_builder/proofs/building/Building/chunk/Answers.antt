use Rattle.std.proofs.Common.{◌-◌, ◌≤◌, length, refl, arith}
use Rattle.tv_builder.proofs.Giving.{prefix_same}
use Rattle.tv_builder.proofs.Opening.{no_chunk, few_left, chunk_comes}
use Rattle.tv_builder.proofs.building.Building.chunk.Goals as goal

pub returns-in_default-clause-does : goal.returns-in_default-clause-does
returns-in_default-clause-does c = let b = c.args.self.now in (no_chunk b (length c.args.bytes.now) c.requires c.in_default.is, prefix_same b.heap.items b.heap.items refl)

pub returns-then-bytes-open-clause-does : goal.returns-then-bytes-open-clause-does
returns-then-bytes-open-clause-does c =
    let b = c.args.self.now in
    (few_left b c.in-Some.open (length c.args.bytes.now) c.requires c.in-Some.is (omega (arith, c.if-bytes-open.true)), prefix_same b.heap.items b.heap.items refl)

pub returns-clause-does : goal.returns-clause-does
returns-clause-does c =
    let b = c.args.self.now in
    let o = c.in-Some.open in
    let small : length c.args.bytes.now ≤ o.missing = omega (arith, c.if-bytes-open.false) in
    chunk_comes b _ o c.args.bytes.now (o.missing - length c.args.bytes.now) c.in-Some.is small (omega (arith, small)) c.in_ok-extend_from_slice.ensures.0 refl refl refl refl refl
