use Rattle.std.proofs.Common.{◌≡◌, ap, ◌∙◌, rules, string_bytes}
use Rattle.serde_json.specs.Data.{put}
use Rattle.serde_json.specs.View.{view as data_of, members_view}
use Rattle.serde_json.proofs.Views.{members_view-insert_entry}
use Rattle.tv_value.proofs.json_value.put_member.Goals as goal

pub returns : goal.returns
returns c =
    let named : string_bytes c.in_ok-name.name ≡ c.args.key.now = search rules in
    let old = c.args.members.now.entries in
    ap members_view c.in_ok-insert.ensures.entries ∙ members_view-insert_entry old c.in_ok-name.name c.args.value
    ∙ ap (λ k. put k (data_of c.args.value) (members_view old)) named
