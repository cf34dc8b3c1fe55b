use Rattle.std.proofs.Common.{◌≡◌, map, Some, None, ap, sym, ◌∙◌, rules}
use Rattle.std.specs.Prelude.{slice_get}
use Rattle.tv_json.specs.Named.{named_trees}
use Rattle.tv_doc.specs.Named.{put_under}
use Rattle.tv_doc.proofs.ByName.{lent-insert_entry}
use Rattle.tv_doc.proofs.lent_names.put_named.Goals as goal
use Rattle.tv_doc.proofs.lent_names.put_named.Goals.{in-Some+in_ok-insert, in_default}

pub returns : goal.returns
returns g c =
    let tree = g.V.Value.tree in
    let at = slice_get (g.S.FieldNames.names c.args.schema.now) c.args.field.id in
    let trees = map (λ pair. tree pair.1) c.args.pairs.now in
    let seen = map (named_trees tree) c.args.named.entries in
    elim c.match-name_of.branch [
      | in-Some+in_ok-insert w ↦
          let is_named : at ≡ Some w.in-Some.name.now = search rules in
          ap (λ m. map (named_trees tree) m.entries) w.named-is ∙ ap (map (named_trees tree)) w.in_ok-insert.ensures.entries
          ∙ lent-insert_entry tree c.args.named.entries w.in-Some.name c.args.pairs ∙ ap (λ o. put_under o trees seen) (sym is_named)
      | in_default w ↦
          let is_none : at ≡ None = search rules in
          ap (λ m. map (named_trees tree) m.entries) w.named-is ∙ ap (λ o. put_under o trees seen) (sym is_none)
    ]
