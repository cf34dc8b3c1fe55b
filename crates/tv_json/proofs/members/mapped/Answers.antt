use Rattle.std.proofs.Common.{◌≡◌, ◌++◌, ◌∷◌, [], List, rules, sym, ap, subst, ◌∙◌}
use Rattle.std.proofs.lemmas.List.{append_assoc}
use Rattle.std.specs.BTreeMap.{insert_entry}
use Rattle.std.specs.Vec.Iter.{into_iter_items}
use Rattle.serde_json.specs.Data.{put}
use Rattle.tv_json.specs.BorrowedData.{data_of, members_data}
use Rattle.tv_json.specs.RisingMembers.{Rise}
use Rattle.tv_json.proofs.Mapped.{key_cmp, members_data-insert_entry, put_next, when_ok}
use Rattle.tv_json.proofs.Places.{Entry}
use Rattle.tv_json.proofs.members.mapped.Goals as goal

pub loop-key-preserved : goal.loop-key-preserved
loop-key-preserved c =
    let m : Entry = (c.in-Some.key, c.in-Some.value) in
    let before = c.loop-key.invariant.0 in
    let rest = into_iter_items c.next.new.self in
    let cut : into_iter_items c.loop-key.key-iterator ≡ m ∷ rest = search rules in
    let whole : c.args.list.items ≡ before ++ m ∷ rest = c.loop-key.invariant.1 ∙ ap (λ (l : List Entry). before ++ l) cut in
    let inserted : c.insert.new.self.entries ≡ insert_entry key_cmp c.loop-key.map.entries m.0 m.1 = when_ok _ _ c.in_ok-ok.ensures.value c.insert.ensures.entries in
    let next = put_next before m rest (subst (λ (l : List Entry). Rise (members_data l)) whole c.requires) in (
      before ++ m ∷ [],
      whole ∙ sym (append_assoc before (m ∷ []) rest),
      ap members_data inserted ∙ members_data-insert_entry c.loop-key.map.entries m.0 m.1 ∙ ap (put m.0.now (data_of m.1)) c.loop-key.invariant.2 ∙ next,
    )
