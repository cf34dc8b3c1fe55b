use Rattle.std.proofs.Common.{◌≡◌, ◌∷◌, map, Some, ap, sym, ◌∙◌, rules, string_bytes}
use Rattle.std.specs.BTreeMap.{insert_entry}
use Rattle.std.specs.Cmp.Lexicographic.{slice_cmp}
use Rattle.std.specs.Ordering.{nat_cmp}
use Rattle.std.specs.Vec.Iter.{into_iter_items}
use Rattle.std.specs.Prelude.{slice_get}
use Rattle.tv_value.specs.Owned.{owned_tree}
use Rattle.tv_doc.specs.Grouped.{group_seen}
use Rattle.tv_doc.specs.Named.{by_name, put_under}
use Rattle.tv_doc.proofs.ByName.{named_pair, owned-insert_entry}
use Rattle.tv_doc.proofs.named.owned_by_name.Goals as goal

pub loop-field-preserved-in-Some-name_of : goal.loop-field-preserved-in-Some-name_of
loop-field-preserved-in-Some-name_of g c =
    let tree = g.V.Value.tree in
    let names = g.S.FieldNames.names c.args.schema.now in
    let seen = map named_pair c.loop-field.named.entries in
    let name = c.in-Some-name_of.name in
    let values = c.in-Some.values in
    let key = c.in_ok-key-in-Some-name_of.key in
    let owned = c.in_ok-owned-in-Some-name_of.owned in
    let rest = map (group_seen tree) (into_iter_items c.next.new.self) in
    let cut : into_iter_items c.loop-field.field-iterator ≡ (c.in-Some.field, values) ∷ into_iter_items c.next.new.self = search rules in
    let is_named : slice_get names c.in-Some.field.id ≡ Some name.now = search rules in
    let copied : string_bytes key ≡ name.now = search rules in
    let same : map owned_tree owned.items ≡ map tree values.items = search rules in
    ap (by_name names rest) (ap (map named_pair) c.in_ok-insert-in-Some-name_of.ensures.entries ∙ owned-insert_entry c.loop-field.named.entries key owned
    ∙ (λ i. insert_entry (slice_cmp nat_cmp) seen (copied i) (same i)))
    ∙ ap (λ o. by_name names rest (put_under o (map tree values.items) seen)) (sym is_named)
    ∙ ap (λ gs. by_name names (map (group_seen tree) gs) seen) (sym cut) ∙ c.loop-field.invariant
