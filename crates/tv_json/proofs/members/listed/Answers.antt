use Rattle.std.proofs.Common.{◌≡◌, ◌++◌, ◌∷◌, [], List, rules, sym, ap, ◌∙◌}
use Rattle.std.proofs.lemmas.List.{append_assoc}
use Rattle.tv_json.proofs.Places.{Entry}
use Rattle.tv_json.proofs.members.listed.Goals as goal

pub loop-member-preserved : goal.loop-member-preserved
loop-member-preserved c =
    let list : List Entry = c.loop-member.list.items in
    let rest : List Entry = c.next.new.self in
    let m : Entry = c.in-Some.member in
    let first : c.loop-member.member-iterator ≡ m ∷ rest = search rules in
    let grown : c.push.new.self.items ≡ list ++ m ∷ [] = rw (← c.in_ok-ok.ensures.variant) at c.push.ensures.items in
    ap (λ (l : List Entry). l ++ rest) grown ∙ append_assoc list (m ∷ []) rest ∙ ap (λ (l : List Entry). list ++ l) (sym first) ∙ c.loop-member.invariant
