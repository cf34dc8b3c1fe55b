use Rattle.std.proofs.Common.{◌≡◌, sym, ap, ◌∙◌}
use Rattle.std.specs.BTreeMap.{insert_entry}
use Rattle.serde_json.specs.Data.{put}
use Rattle.tv_json.specs.BorrowedData.{data_of, members_data}
use Rattle.tv_json.specs.Found.{found_data}
use Rattle.tv_json.proofs.Mapped.{key_cmp, members_data-insert_entry, when_ok}
use Rattle.tv_json.proofs.members.FoundMembers.put_mapped.Goals as goal

pub returns-in_ok-ok-in-Listed : goal.returns-in_ok-ok-in-Listed
returns-in_ok-ok-in-Listed c =
    let key = c.args.key in
    let value = c.args.value in
    let es = c.in_ok-map-in-Listed.map.entries in
    let whole : found_data c.args.self.now ≡ members_data c.in-Listed.list.items = ap found_data c.in-Listed.is in
    let mapped : members_data es ≡ members_data c.in-Listed.list.items = c.in_ok-map-in-Listed.ensures ∙ ap (λ l. members_data l.items) c.replace.ensures.value in
    let inserted : c.insert.new.self.entries ≡ insert_entry key_cmp es key value = when_ok _ _ c.in_ok-ok-in-Listed.ensures.value c.insert.ensures.entries in
    ap members_data inserted ∙ members_data-insert_entry es key value ∙ ap (put key.now (data_of value)) (mapped ∙ sym whole)

pub returns-in_ok-ok-in-Mapped : goal.returns-in_ok-ok-in-Mapped
returns-in_ok-ok-in-Mapped c =
    let key = c.args.key in
    let value = c.args.value in
    let es = c.in-Mapped.map.entries in
    let whole : found_data c.args.self.now ≡ members_data es = ap found_data c.in-Mapped.is in
    let inserted : c.insert-in-Mapped.new.self.entries ≡ insert_entry key_cmp es key value = when_ok _ _ c.in_ok-ok-in-Mapped.ensures.value c.insert-in-Mapped.ensures.entries in
    ap members_data inserted ∙ members_data-insert_entry es key value ∙ ap (put key.now (data_of value)) (sym whole)
