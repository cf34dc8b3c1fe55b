use Rattle.std.proofs.Common.{◌≡◌, ◌+◌, ◌++◌, [], ◌∷◌, take, take_all, map, Some, sym, ap, ◌∙◌, subst, arith}
use Rattle.std.proofs.lemmas.Grind.{common_steps}
use Rattle.std.proofs.lemmas.List.{take_more}
use Rattle.std.proofs.lemmas.Option.{IfSome_then}
use Rattle.serde_json.proofs.Views.{view-Array, view-Object}
use Rattle.serde_json.specs.Data.{array, object, put}
use Rattle.serde_json.specs.View.{items_of, members_view}
use Rattle.tv_json.specs.BorrowedData.{data_of, items_data, members_data}
use Rattle.tv_json.proofs.Copies.{AllBelow, RisesTo, rises_on, put_last}
use Rattle.tv_json.proofs.Levels.{data_of-Array, data_of-Object}
use Rattle.tv_json.proofs.value.+copies.Goals as goal

pub BorrowedJson::to_value-returns-in-Array : goal.BorrowedJson::to_value-returns-in-Array
BorrowedJson::to_value-returns-in-Array t c =
    IfSome_then c.copied_items.result c.copied_items.ensures (λ made e. e ∙ ap (λ vs. array (items_data vs)) c.as_slice.ensures.value ∙ sym (data_of-Array c.in-Array.items) ∙ ap data_of (sym c.in-Array.is))

pub BorrowedJson::to_value-returns-in-Object : goal.BorrowedJson::to_value-returns-in-Object
BorrowedJson::to_value-returns-in-Object t c =
    IfSome_then c.copied_members.result c.copied_members.ensures (λ made e. e ∙ ap (λ ms. object (members_data ms)) c.as_slice-in-Object.ensures.value ∙ sym (data_of-Object c.in-Object.members) ∙ ap data_of (sym c.in-Object.is))

pub copied_items-loop-item-preserved : goal.copied_items-loop-item-preserved
copied_items-loop-item-preserved t c = grind (arith, common_steps)

pub copied_items-returns : goal.copied_items-returns
copied_items-returns t c =
    let l = c.loop-item in
    view-Array l.made ∙ ap (λ ds. array (items_of ds)) (l.invariant ∙ ap (map data_of) (take_all l.item-index c.args.items.now c.loop-item-test.false))

pub copied_members-loop-key-preserved : goal.copied_members-loop-key-preserved
copied_members-loop-key-preserved t c =
    let ms = c.args.members.now in
    let l = c.loop-key in
    let m = c.loop-key-item.result in
    let prefix = take l.key-index ms in
    let up : take (l.key-index + 1) ms ≡ prefix ++ m ∷ [] = take_more ms l.key-index m c.loop-key-test.true ∙ ap (λ e. prefix ++ e ∷ []) (sym c.loop-key-item.is) in
    let below : AllBelow m.0.now prefix = l.invariant.1 m.0.now (c.is_above.ensures.0 c.if-not-is_above.false) in
    let placed = c.in_ok-insert_copy.ensures ∙ ap (λ d. put m.0.now d (members_view l.made.entries)) c.in_ok-value.ensures ∙ ap (put m.0.now (data_of m.1)) l.invariant.0 in
    (placed ∙ put_last m prefix below ∙ ap members_data (sym up), subst (RisesTo (Some m.0)) (sym up) (rises_on prefix m below))

pub copied_members-returns : goal.copied_members-returns
copied_members-returns t c =
    let l = c.loop-key in
    view-Object l.made ∙ ap object (l.invariant.0 ∙ ap members_data (take_all l.key-index c.args.members.now c.loop-key-test.false))
