use Rattle.std.proofs.Common.{◌≡◌, ◌∷◌, ◌++◌, ◌+◌, map, drop, sym, ap, ◌∙◌, arith}
use Rattle.std.proofs.lemmas.List.{drop_more}
use Rattle.tv_json.specs.Named.{named_json, named_trees}
use Rattle.tv_json.specs.Rising.{rest_of_object}
use Rattle.tv_json.proofs.WrittenParts.{list_written}
use Rattle.tv_json.proofs.named.write_lists.Goals as goal

pub loop-name-preserved : goal.loop-name-preserved
loop-name-preserved g c =
    let tree = g.V.Value.tree in
    let named = c.args.named.now in
    let at = c.loop-name.name-index in
    let first = c.loop-name-item.result in
    let cut : drop at named ≡ first ∷ drop (at + 1) named = drop_more named at first (omega (arith, c.loop-name-test.true)) ∙ ap (λ entry. entry ∷ drop (at + 1) named) (sym c.loop-name-item.is) in
    record {
      tokens = list_written c.loop-name.json.out.tokens c.write_list.new.json.out.tokens first.0.now (map (λ pair. tree pair.1) first.1.now) (map (named_trees tree) (drop at named)) (map (named_trees tree) (drop (at + 1) named))
          (c.args.json.now.out.tokens ++ rest_of_object (named_json (map (named_trees tree) named))) c.in_ok-write_list.ensures.ok (ap (map (named_trees tree)) cut) c.loop-name.invariant.tokens;
      before = c.write_list.ensures.before ∙ c.loop-name.invariant.before;
    }
