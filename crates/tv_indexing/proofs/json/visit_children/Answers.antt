use Rattle.std.proofs.Common.{◌≡◌, ℕ, List, ◌∷◌, option_map, rules, subst, sym}
use Rattle.std.specs.Prelude.{reverse}
use Rattle.tv_heap.specs.Value.{tree_of, held_children}
use Rattle.tv_indexing.proofs.Steps.{next_child, walk_down}
use Rattle.tv_indexing.proofs.Visiting.{Taken, taken_more}
use Rattle.tv_indexing.specs.DocumentTerms.{Terms}
use Rattle.tv_indexing.specs.JsonWalk.{child_terms, children_terms, open_terms}
use Rattle.tv_indexing.specs.declared.json.OpenList.{OpenList}
use Rattle.tv_indexing.proofs.json.visit_children.Goals as goal

pub children-preserved-in-None : goal.children-preserved-in-None
children-preserved-in-None g c =
    let P = g.V.TermVisitor.has_taken in
    let l = c.children in
    let field = c.args.at.field in
    let expand_dots = c.args.at.expand_dots in
    let key = option_map (λ k. k.now) c.in-Some.key in
    let tree = tree_of c.in-Some.value in
    let whole = children_terms field expand_dots c.args.buffer.now (held_children c.args.outermost) in
    let begun = rw c.in-None.is at c.in_ok-begin.ensures.begun in
    let cut : held_children l.list.children ≡ (key, tree) ∷ held_children c.next.new.self = search rules in
    let back : c.truncate-in-None.new.self ≡ l.buffer = search rules in
    let outer = reverse l.around.items in
    let rest : List OpenList = record { children = c.next.new.self; path_len = l.list.path_len } ∷ outer in
    subst (λ (path : List ℕ). Taken P c.args.visitor.now c.begin.new.visitor whole (open_terms field expand_dots path rest)) (sym back)
    (taken_more P c.args.visitor.now l.visitor c.begin.new.visitor whole (open_terms field expand_dots l.buffer (l.list ∷ outer)) (child_terms field expand_dots l.buffer key tree) (open_terms field expand_dots l.buffer rest)
    (next_child field expand_dots l.buffer l.list (held_children c.next.new.self) key tree outer cut) begun l.invariant)

pub children-preserved : goal.children-preserved
children-preserved g c =
    let P = g.V.TermVisitor.has_taken in
    let l = c.children in
    let field = c.args.at.field in
    let expand_dots = c.args.at.expand_dots in
    let key = option_map (λ k. k.now) c.in-Some.key in
    let tree = tree_of c.in-Some.value in
    let whole = children_terms field expand_dots c.args.buffer.now (held_children c.args.outermost) in
    let begun = rw c.in-Some-2.is at c.in_ok-begin.ensures.begun in
    let cut : held_children l.list.children ≡ (key, tree) ∷ held_children c.next.new.self = search rules in
    let deeper : List OpenList = record { children = c.in-Some-2.children; path_len = c.len-path_len.result } ∷ reverse c.leave_open.new.around.items in
    rw begun.0
    (subst (λ (left : Terms). Taken P c.args.visitor.now l.visitor whole left)
    (walk_down field expand_dots l.buffer c.begin.new.buffer l.list c.next.new.self c.in-Some-2.children key tree c.len-path_len.result l.around.items c.leave_open.new.around.items
    cut begun.1 c.len-path_len.ensures c.in_ok-begin.ensures.begins c.in_ok-leave_open-in-Some-2.ensures) l.invariant)
