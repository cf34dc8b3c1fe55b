use Rattle.std.proofs.Common.{◌≡◌, ℕ, ◌≤◌, List, [], ◌∷◌, length, drop, nat_cmp, Greater, Less, Equal, refl, sym, ap, subst, ◌∙◌, arith}
use Rattle.std.proofs.lemmas.List.{at_drop_all}
use Rattle.std.specs.Cmp.Lexicographic.{slice_cmp}
use Rattle.std.specs.List.{insert}
use Rattle.serde_json.specs.Data.{put}
use Rattle.tv_json.specs.BorrowedData.{data_of, members_data}
use Rattle.tv_json.specs.RisingMembers.{Rise}
use Rattle.tv_json.proofs.Places.{Entry, put_above, put_at, where_added}
use Rattle.tv_json.proofs.Rising.{IsBelow, below_here, passed_above, passed_same, put_here}
use Rattle.tv_json.proofs.members.put_among.Goals as goal

nothing_behind : (k : List ℕ) (ms : List Entry) (i : ℕ) → length ms ≤ i → IsBelow k (drop i ms)
nothing_behind k ms i all m more is = let none : ◌≡◌ {A = List Entry} [] (m ∷ more) = sym (at_drop_all (λ l. l) ms i all) ∙ is in absurd (cc)

pub halves-init : goal.halves-init
halves-init c = record {
  passed = refl;
  below = nothing_behind c.args.key.now c.args.members.now.items c.len-high.result (omega (arith, c.len-high.ensures));
  ordered = omega arith;
  within = omega (arith, c.len-high.ensures);
  same = refl;
}

pub index-requires : goal.index-requires
index-requires c = omega (arith, c.halves.invariant.within)

pub index_mut-requires : goal.index_mut-requires
index_mut-requires c = omega (arith, c.halves.invariant.within)

pub insert-requires : goal.insert-requires
insert-requires c = omega (arith, c.halves.invariant.within, c.halves.invariant.ordered)

pub halves-preserved-in-Less : goal.halves-preserved-in-Less
halves-preserved-in-Less c =
    let ms = c.halves.members.items in
    let m = c.index.result.now in
    let inv = c.halves.invariant in
    let below : slice_cmp nat_cmp c.args.key.now m.0.now ≡ Less = sym c.in-Less.ensures in
    record {
      passed = inv.passed;
      below = below_here c.args.key.now ms _ m (omega (arith, inv.within)) (sym c.index.ensures) below;
      ordered = omega (arith, inv.ordered);
      within = omega (arith, inv.within);
      same = inv.same;
    }

pub halves-preserved : goal.halves-preserved
halves-preserved c =
    let ms = c.halves.members.items in
    let m = c.index.result.now in
    let inv = c.halves.invariant in
    let above : slice_cmp nat_cmp c.args.key.now m.0.now ≡ Greater = sym c.in-Greater.ensures in
    let rises : Rise (members_data ms) = subst (λ l. Rise (members_data l)) (sym inv.same) c.requires in
    record {
      passed = put_above ms _ m (omega (arith, inv.within)) (sym c.index.ensures) c.args.key c.args.value (passed_above c.args.key c.args.value ms _ m rises (omega (arith, inv.within)) (sym c.index.ensures) above) above;
      below = inv.below;
      ordered = omega (arith, inv.ordered);
      within = inv.within;
      same = inv.same;
    }

pub returns-in-Equal : goal.returns-in-Equal
returns-in-Equal c =
    let ms = c.halves.members.items in
    let m = c.index.result.now in
    let inv = c.halves.invariant in
    let same : slice_cmp nat_cmp c.args.key.now m.0.now ≡ Equal = sym c.in-Equal.ensures in
    let rises : Rise (members_data ms) = subst (λ l. Rise (members_data l)) (sym inv.same) c.requires in
    put_at ms _ m (omega (arith, inv.within)) (sym c.index.ensures) c.args.key c.args.value (passed_same c.args.key c.args.value ms _ m rises (omega (arith, inv.within)) (sym c.index.ensures) same) same
    ∙ ap (λ l. put c.args.key.now (data_of c.args.value) (members_data l)) inv.same

pub returns : goal.returns
returns c =
    let ms = c.halves.members.items in
    let inv = c.halves.invariant in
    let here : c.halves.high ≡ c.halves.low = omega (arith, inv.ordered) in
    let is = put_here c.args.key c.args.value ms c.halves.low inv.passed (subst (λ n. IsBelow c.args.key.now (drop n ms)) here inv.below) in
    where_added (λ l. members_data l ≡ put c.args.key.now (data_of c.args.value) (members_data c.args.members.now.items)) c.insert.result c.ok.result ms
    (insert ms c.halves.low (c.args.key, c.args.value)) c.insert.new.self.items c.ok.ensures.value c.insert.ensures.items
    (is ∙ ap (λ l. put c.args.key.now (data_of c.args.value) (members_data l)) inv.same)
