use Rattle.std.proofs.Common.{◌≡◌, ◌∷◌, ap, subst, ◌∙◌}
use Rattle.json.specs.Token.{begin_object}
use Rattle.serde_json.specs.Data.{object}
use Rattle.tv_value.specs.JsonOf.{json_of}
use Rattle.tv_json.specs.Rising.{KeysRise, entries_of, data_tokens, listed_json, pair_entries}
use Rattle.tv_json.proofs.InOrder.{object_in_order}
use Rattle.tv_json.proofs.OpenLists.{object_tokens}
use Rattle.tv_json.proofs.open_lists.ordered.Goals as goal

pub returns-then-is_in_order : goal.returns-then-is_in_order
returns-then-is_in_order g c =
    let tree = g.N.Nested.tree c.args.value.now in
    let es = g.N.Nested.object_rest c.args.members in
    let rises : KeysRise (entries_of tree) = subst (λ t. KeysRise (entries_of t)) c.as_nested.ensures (c.is_in_order.ensures c.if-is_in_order.true) in
    ap (λ ts. begin_object ∷ ts) (object_tokens es) ∙ ap data_tokens (object_in_order tree es c.requires rises)

pub returns : goal.returns
returns g c =
    let tree = g.N.Nested.tree in
    let pairs = c.in_ok-pairs.pairs in
    let kept : pairs.value ≡ c.in_ok-sorted.sorted.entries = c.in_ok-pairs.ensures.ok ∙ c.into_iter.ensures.into_iter_gives.0 in
    ap (λ ts. begin_object ∷ ts) (object_tokens (pair_entries tree pairs.value)) ∙ ap (λ ps. data_tokens (object (listed_json (pair_entries tree ps)))) kept
    ∙ ap (λ ms. data_tokens (object ms)) c.in_ok-sorted.ensures ∙ ap (λ t. data_tokens (json_of t)) c.requires
