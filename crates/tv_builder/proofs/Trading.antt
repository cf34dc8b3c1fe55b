-- How parts are traded for others.
use Rattle.std.proofs.Common.{◌≡◌, List, [], ◌++◌, sym, ap, subst}
use Rattle.std.proofs.lemmas.List.{append-nil}
use Rattle.tv_builder.specs.Parts.{Part, Rule, Trades, same, by_rule}

-- the same parts in other words
pub trades_as : {qs rs : List Part} (ps : List Part) → qs ≡ rs → Trades ps qs → Trades ps rs
trades_as ps e h = subst (λ z. Trades ps z) e h

pub trades_from : {os ps : List Part} (qs : List Part) → os ≡ ps → Trades ps qs → Trades os qs
trades_from qs e h = subst (λ z. Trades z qs) (sym e) h

pub trades_then : {ps qs rs : List Part} → Trades ps qs → Trades qs rs → Trades ps rs
trades_then same q = q
trades_then (by_rule prefix old new back rule is h) q = by_rule prefix old new back rule is (trades_then h q)

-- by one rule, after other parts
pub trades_last : (prefix old new : List Part) → Rule old new → Trades (prefix ++ old) (prefix ++ new)
trades_last prefix old new rule =
    by_rule prefix old new [] rule (ap (λ z. prefix ++ z) (sym (append-nil old))) (subst (λ z. Trades (prefix ++ z) (prefix ++ new)) (sym (append-nil new)) same)
