use Rattle.std.proofs.Common.{length, map}
use Rattle.tv_json.specs.Named.{named_trees}
use Rattle.tv_doc.proofs.RunNames.{InRuns, RisesTo}
use Rattle.tv_doc.proofs.lent_names.rising_by_name.Given as goal

abbrev pub invariant-runs : goal.invariant-runs
invariant-runs g l =
    let named = map (named_trees g.V.Value.tree) l.named.items in
    record {
      in_runs : InRuns g.V.Value.tree (g.S.FieldNames.names l.fn.schema) l.fn.pairs l.rest named;
      rises : RisesTo l.last named;
    }

abbrev pub decreases-runs : goal.decreases-runs
decreases-runs g l = length l.rest
