-- What a call does to a state trades its parts.
use Rattle.std.proofs.Common.{◌≡◌, ℕ, nat_eq, List, [], ◌∷◌, ◌++◌, length, refl, sym, ◌∙◌, ap, append_assoc, inl, inr}
use Rattle.std.proofs.lemmas.Bool.{cond-true, cond-false}
use Rattle.std.proofs.lemmas.Bool.Decides.{eqb_tells}
use Rattle.std.proofs.lemmas.List.{append-nil}
use Rattle.tv_format.specs.Tree.{Tree, leaf, text}
use Rattle.tv_builder.specs.declared.kinds.Awaits.TheVariants as awaits
use Rattle.tv_builder.specs.declared.kinds.BytesKind.{BytesKind}
use Rattle.tv_builder.specs.declared.kinds.BytesKind.TheVariants as kinds
use Rattle.tv_builder.specs.declared.kinds.ListKind.{ListKind}
use Rattle.tv_builder.specs.declared.kinds.ListKind.TheVariants.{Array, Object}
use Rattle.tv_builder.specs.Parts.{value, key, bytes_head, some_bytes, bytes_part, IsContentOf, Rule, full_bytes, more_bytes, no_bytes, Trades, same}
use Rattle.tv_builder.specs.State.{OpenList, State, complete, in_lists, in_bytes, awaited, with_value, with_key, with_list, with_content, and_value, and_list, and_key, AreLists, OthersAwait, HeadNext, IsState, list_tree, list_head, list_parts, lists_parts, parts_of}
use Rattle.tv_builder.proofs.Children.{child_key, full_list}
use Rattle.tv_builder.proofs.Giving.{value_trades}
use Rattle.tv_builder.proofs.Calls.{head_next}
use Rattle.tv_builder.proofs.Sound.{all_await}
use Rattle.tv_builder.proofs.Trading.{trades_as, trades_from, trades_then, trades_last}

pub values_trade : (s : State) (t : Tree) → IsState s → awaited s ≡ awaits.Value → Trades (parts_of s ++ value t ∷ []) (parts_of (and_value s t))
values_trade (complete u) t is e = absurd (cc)
values_trade (in_bytes ls kind n bs) t is e = absurd (cc)
values_trade (in_lists ls) t is e = value_trades ls t is.0 (all_await ls e is.1)

no_parts : (kind : ListKind) (n : ℕ) → list_parts (record { kind = kind; announced = n; children = [] }) ≡ list_head kind n ∷ []
no_parts Array n = refl
no_parts Object n = refl

empty_rule : (kind : ListKind) → Rule (list_head kind 0 ∷ []) (value (list_tree kind []) ∷ [])
empty_rule Array = full_list Array 0 [] refl
empty_rule Object = full_list Object 0 [] refl

pub lists_trade : (s : State) (kind : ListKind) (n : ℕ) → IsState s → awaited s ≡ awaits.Value → Trades (parts_of s ++ list_head kind n ∷ []) (parts_of (and_list s kind n))
lists_trade (complete u) kind n is e = absurd (cc)
lists_trade (in_bytes ls k m bs) kind n is e = absurd (cc)
lists_trade (in_lists ls) kind n is e = elim (eqb_tells n 0) [
  | inl p ↦
      let after : parts_of (with_value ls (list_tree kind [])) ≡ parts_of (with_list ls kind n) = ap parts_of (sym (cond-true (nat_eq n 0) _ _ p.0)) in
      let head : lists_parts ls ++ list_head kind n ∷ [] ≡ lists_parts ls ++ list_head kind 0 ∷ [] = ap (λ m. lists_parts ls ++ list_head kind m ∷ []) p.1 in
      trades_from _ head (trades_then (trades_last (lists_parts ls) _ _ (empty_rule kind)) (trades_as _ after (value_trades ls (list_tree kind []) is.0 (all_await ls e is.1))))
  | inr p ↦
      let opened : OpenList = record { kind = kind; announced = n; children = [] } in
      let after : lists_parts ls ++ list_head kind n ∷ [] ≡ parts_of (with_list ls kind n) = ap (λ z. lists_parts ls ++ z) (sym (no_parts kind n)) ∙ ap parts_of (sym (cond-false (nat_eq n 0) (with_value ls (list_tree kind [])) (in_lists (opened ∷ ls)) p.0)) in
      trades_as _ after same
]

key_trades : (ls : List OpenList) (k : List ℕ) → AreLists ls → HeadNext kinds.Key ls → Trades (lists_parts ls ++ key k ∷ []) (parts_of (with_key ls k))
key_trades [] k is next = absurd next
key_trades (l ∷ ls) k is next =
    let child = child_key l.kind l.children (leaf (text k)) next tt is.0.children in
    trades_as _ (append_assoc (lists_parts ls) (list_parts l) (key k ∷ []) ∙ ap (λ z. lists_parts ls ++ (list_head l.kind l.announced ∷ z)) (sym child.1)) same

pub keys_trade : (s : State) (k : List ℕ) → IsState s → awaited s ≡ awaits.Key → Trades (parts_of s ++ key k ∷ []) (parts_of (and_key s k))
keys_trade (complete u) k is e = absurd (cc)
keys_trade (in_bytes ls kind n bs) k is e = absurd (cc)
keys_trade (in_lists ls) k is e = key_trades ls k is.0 (head_next kinds.Key ls e is.1)

pub heads_trade : (ls : List OpenList) (kind : BytesKind) (n : ℕ) → Trades (lists_parts ls ++ bytes_head kind n ∷ []) (lists_parts ls ++ (bytes_head kind n ∷ some_bytes [] ∷ []))
heads_trade ls kind n =
    trades_from _ (sym (append-nil (lists_parts ls ++ bytes_head kind n ∷ []))) (trades_as _ (append_assoc (lists_parts ls) (bytes_head kind n ∷ []) (some_bytes [] ∷ [])) (trades_last (lists_parts ls ++ bytes_head kind n ∷ []) [] (some_bytes [] ∷ []) no_bytes))

pub bytes_trade : (ls : List OpenList) (kind : BytesKind) (n : ℕ) (bs more : List ℕ) → Trades ((lists_parts ls ++ (bytes_head kind n ∷ some_bytes bs ∷ [])) ++ some_bytes more ∷ []) (lists_parts ls ++ (bytes_head kind n ∷ some_bytes (bs ++ more) ∷ []))
bytes_trade ls kind n bs more =
    let prefix = lists_parts ls ++ bytes_head kind n ∷ [] in
    let before : (lists_parts ls ++ (bytes_head kind n ∷ some_bytes bs ∷ [])) ++ some_bytes more ∷ [] ≡ prefix ++ (some_bytes bs ∷ some_bytes more ∷ []) =
    append_assoc (lists_parts ls) (bytes_head kind n ∷ some_bytes bs ∷ []) (some_bytes more ∷ []) ∙ sym (append_assoc (lists_parts ls) (bytes_head kind n ∷ []) (some_bytes bs ∷ some_bytes more ∷ [])) in
    trades_from _ before (trades_as _ (append_assoc (lists_parts ls) (bytes_head kind n ∷ []) (some_bytes (bs ++ more) ∷ [])) (trades_last prefix _ _ (more_bytes bs more)))

pub content_trades : (ls : List OpenList) (kind : BytesKind) (content : List ℕ) → AreLists ls → OthersAwait ls → HeadNext kind ls → Trades (lists_parts ls ++ bytes_part kind content ∷ []) (parts_of (with_content ls kind content))
content_trades ls kinds.Str content is others next = value_trades ls _ is next
content_trades ls kinds.Facet content is others next = value_trades ls _ is next
content_trades ls kinds.Bytes content is others next = value_trades ls _ is next
content_trades ls kinds.Key content is others next = key_trades ls content is next

pub ends_trade : (ls : List OpenList) (kind : BytesKind) (bs : List ℕ) → IsState (in_bytes ls kind (length bs) bs) → IsContentOf kind bs → Trades (lists_parts ls ++ (bytes_head kind (length bs) ∷ some_bytes bs ∷ [])) (parts_of (with_content ls kind bs))
ends_trade ls kind bs is content = trades_then (trades_last (lists_parts ls) _ _ (full_bytes kind bs content)) (content_trades ls kind bs is.0 is.1 is.2)
