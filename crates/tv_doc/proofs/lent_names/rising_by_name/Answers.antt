use Rattle.std.proofs.Common.{◌≡◌, ◌∷◌, ◌++◌, [], map, Some, ap, sym, subst, ◌∙◌, rules}
use Rattle.std.proofs.lemmas.List.{map-append}
use Rattle.std.specs.Prelude.{slice_get}
use Rattle.tv_json.specs.Named.{named_trees}
use Rattle.tv_doc.proofs.RunNames.{AllBelow, InRuns, RisesTo, in_runs_start, in_runs_next, in_runs_done, rises_on}
use Rattle.tv_doc.proofs.lent_names.rising_by_name.Goals as goal

pub runs-init : goal.runs-init
runs-init g c =
    let tree = g.V.Value.tree in
    let names = g.S.FieldNames.names c.args.schema.now in
    let pairs = c.args.pairs.now in
    let none : [] ≡ map (named_trees tree) c.in_ok-named.named.items = ap (map (named_trees tree)) (sym c.in_ok-named.ensures.items) in
    record {
      in_runs = subst (InRuns tree names pairs pairs) none (in_runs_start tree names pairs);
      rises = λ n any. subst (AllBelow n) none tt;
    }

pub runs-preserved : goal.runs-preserved
runs-preserved g c =
    let tree = g.V.Value.tree in
    let names = g.S.FieldNames.names c.args.schema.now in
    let pairs = c.args.pairs.now in
    let named = map (named_trees tree) c.runs.named.items in
    let run = c.in-Some.run' in
    let others = c.in-Some.others.now in
    let field = c.in-Some.field.id in
    let name = c.in-Some-name_of.name in
    let trees = map (λ pair. tree pair.1) run.now in
    let inv = c.runs.invariant in
    let cut = c.in-Some.ensures in
    let is_named : slice_get names field ≡ Some name.now = search rules in
    let above : AllBelow name.now named = inv.rises name.now (c.is_above.ensures.0 c.if-not-is_above.false) in
    let added : named ++ (name.now, trees) ∷ [] ≡ map (named_trees tree) c.push.new.self.items =
    sym (ap (map (named_trees tree)) c.in_ok-push.ensures.items ∙ map-append (named_trees tree) c.runs.named.items ((name, run) ∷ [])) in
    record {
      in_runs = subst (InRuns tree names pairs others) added (in_runs_next tree names pairs c.runs.rest.now run.now others named field name.now cut.joined cut.some cut.one_field is_named above inv.in_runs);
      rises = subst (RisesTo (Some name)) added (rises_on name named trees above);
    }

pub returns : goal.returns
returns g c = in_runs_done g.V.Value.tree (g.S.FieldNames.names c.args.schema.now) c.args.pairs.now c.runs.rest.now (map (named_trees g.V.Value.tree) c.runs.named.items) c.in_default.ensures.none c.runs.invariant.in_runs
