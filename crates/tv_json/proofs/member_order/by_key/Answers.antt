use Rattle.std.proofs.Common.{◌≡◌, ap, refl, sym, ◌∙◌, string_bytes, rules}
use Rattle.std.specs.Prelude.{Some, None}
use Rattle.serde_json.specs.Data.{no_members}
use Rattle.tv_format.specs.Tree.{entries}
use Rattle.tv_value.specs.JsonOf.{json_of, entries_json}
use Rattle.tv_json.specs.Rising.{listed_json, pair_entries}
use Rattle.tv_json.proofs.InOrder.{pairs-insert_entry}
use Rattle.tv_value.proofs.JsonParts.{member_put}
use Rattle.tv_json.proofs.member_order.by_key.Goals as goal

pub loop-key-preserved : goal.loop-key-preserved
loop-key-preserved g c =
    let tree = g.N.Nested.tree in
    let found = c.loop-key.found.entries in
    let name = c.in_ok-name.name in
    let value = c.in-Some.value in
    let cut = g.met.N.Nested.object_steps c.loop-key.key-iterator c.next.new.self (Some (c.in-Some.key, value)) c.in-Some.ensures.steps in
    let named : string_bytes name ≡ g.N.Key.AsStr.text c.in-Some.key = search rules in
    member_put (string_bytes name) (g.N.Key.AsStr.text c.in-Some.key) (json_of (tree value)) (tree value) (listed_json (pair_entries tree found)) (listed_json (pair_entries tree c.insert.new.self.entries))
    (entries_json (entries (g.N.Nested.object_rest c.args.members)) no_members) (g.N.Nested.object_rest c.loop-key.key-iterator) (g.N.Nested.object_rest c.next.new.self)
    (ap (λ ps. listed_json (pair_entries tree ps)) c.in_ok-insert.ensures.entries ∙ pairs-insert_entry tree found name value) named refl cut c.loop-key.invariant

pub returns : goal.returns
returns g c =
    let none = (g.met.N.Nested.object_steps c.loop-key.key-iterator c.next.new.self None c.in-None.ensures.steps).0 in
    ap (λ es. entries_json (entries es) (listed_json (pair_entries g.N.Nested.tree c.loop-key.found.entries))) (sym none) ∙ c.loop-key.invariant
