use Rattle.serde_json.specs.View.{items_view}
use Rattle.std.proofs.Common.{drop}
use Rattle.tv_field.proofs.JsonTokens.{TokensSoFar}
use Rattle.tv_field.proofs.json_tokens.push_json_tokens.Given as goal

-- the tokens that are encoded, and then those of the other items
abbrev pub invariant-loop-item : goal.invariant-loop-item
invariant-loop-item l = TokensSoFar (items_view l.item-items) (items_view (drop l.item-index l.item-items)) l.fn.bytes.items l.bytes.items
