-- How the parts of what is read are traded.
use Rattle.std.proofs.Common.{◌≡◌, ℕ, List, [], ◌∷◌, ◌++◌, refl, sym, ◌∙◌, ap, append_assoc}
use Rattle.tv_builder.specs.Behind.{pairs_parts, document_parts, open_parts}
use Rattle.tv_builder.specs.Parts.{Part, number, pair, field, value, full_pair, Trades, same, by_rule}
use Rattle.tv_builder.specs.State.{State, complete, parts_of}
use Rattle.tv_builder.proofs.Trading.{trades_as, trades_from, trades_last}
use Rattle.tv_format.specs.Tree.{Tree, Document}

-- after other parts
pub trades_behind : {ps qs : List Part} (prefix : List Part) → Trades ps qs → Trades (prefix ++ ps) (prefix ++ qs)
trades_behind prefix same = same
trades_behind {qs = qs} prefix (by_rule before old new back rule is next) =
    by_rule (prefix ++ before) old new back rule (ap (λ z. prefix ++ z) is ∙ sym (append_assoc prefix before (old ++ back)))
    (trades_from _ (append_assoc prefix before (new ++ back)) (trades_behind prefix next))

-- of a value whose field was read
pub open_trades : (n : ℕ) (d : Document) (f : ℕ) (old new : State) (ps : List Part) → Trades (parts_of old ++ ps) (parts_of new) → Trades (open_parts n d f old ++ ps) (open_parts n d f new)
open_trades n d f old new ps h =
    let before : open_parts n d f old ++ ps ≡ document_parts n d ++ (field f ∷ (parts_of old ++ ps)) = append_assoc (document_parts n d) (field f ∷ parts_of old) ps in
    trades_from _ before (trades_behind (document_parts n d) (trades_behind (field f ∷ []) h))

pub pairs_push : (d : Document) (f : ℕ) (t : Tree) → pairs_parts (d ++ (f, t) ∷ []) ≡ pairs_parts d ++ pair f t ∷ []
pairs_push [] f t = refl
pairs_push (p ∷ d) f t = ap (λ (z : List Part). pair p.0 p.1 ∷ z) (pairs_push d f t)

-- a complete value becomes that of a pair
pub pair_trades : (n : ℕ) (d : Document) (f : ℕ) (t : Tree) → Trades (open_parts n d f (complete t)) (document_parts n (d ++ (f, t) ∷ []))
pair_trades n d f t =
    let after : document_parts n d ++ pair f t ∷ [] ≡ document_parts n (d ++ (f, t) ∷ []) = ap (λ (z : List Part). number n ∷ z) (sym (pairs_push d f t)) in
    trades_as _ after (trades_last (document_parts n d) (field f ∷ value t ∷ []) (pair f t ∷ []) (full_pair f t))
