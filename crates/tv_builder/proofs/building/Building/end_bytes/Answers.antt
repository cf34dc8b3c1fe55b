use Rattle.std.proofs.Common.{◌≡◌, true, false, refl, sym, ◌∙◌, arith}
use Rattle.tv_builder.proofs.Ending.{announced_small, has_all, none_open, some_missing, no_content, does_end, let_go_gives}
use Rattle.tv_builder.proofs.Giving.{prefix_same}
use Rattle.tv_builder.proofs.building.Building.end_bytes.Goals as goal

pub ends_well-requires : goal.ends_well-requires
ends_well-requires c = announced_small c.args.self.now c.in-Some.open c.requires c.in-Some.is (omega (arith, c.if-open-gt0.false))

pub give-requires : goal.give-requires
give-requires c = let_go_gives c.args.self.now c.in-Some.open c.requires c.in-Some.is

pub returns-in_default : goal.returns-in_default
returns-in_default c = let b = c.args.self.now in (none_open b c.requires c.in_default.is, prefix_same b.heap.items b.heap.items refl)

pub returns-then-open-gt0 : goal.returns-then-open-gt0
returns-then-open-gt0 c =
    let b = c.args.self.now in
    (some_missing b c.in-Some.open c.requires c.in-Some.is (omega (arith, c.if-open-gt0.true)), prefix_same b.heap.items b.heap.items refl)

pub returns-then-not-ends_well : goal.returns-then-not-ends_well
returns-then-not-ends_well c =
    let b = c.args.self.now in
    let o = c.in-Some.open in
    let none : o.missing ≡ 0 = omega (arith, c.if-open-gt0.false) in (
      has_all b o c.in-Some.is none,
      no_content b o c.requires c.in-Some.is none (λ is. let f : false ≡ true = sym c.if-not-ends_well.true ∙ c.ends_well.ensures.1 is in cc),
      prefix_same b.heap.items b.heap.items refl,
    )

pub returns : goal.returns
returns c =
    does_end c.args.self.now c.give.new.self c.in-Some.open _ c.give.result c.in-Some.is (omega (arith, c.if-open-gt0.false)) (c.ends_well.ensures.0 c.if-not-ends_well.false) c.value_type.ensures c.give.ensures.ok c.give.ensures.err
