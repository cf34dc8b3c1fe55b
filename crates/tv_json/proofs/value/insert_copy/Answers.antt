use Rattle.std.proofs.Common.{◌≡◌, string_bytes, ap, ◌∙◌, rules}
use Rattle.serde_json.proofs.Views.{members_view-insert_entry}
use Rattle.serde_json.specs.Data.{put}
use Rattle.serde_json.specs.View.{view, members_view}
use Rattle.tv_json.proofs.value.insert_copy.Goals as goal

pub returns : goal.returns
returns c =
    let before = members_view c.args.made.now.entries in
    let copied : string_bytes c.in_ok-name.name ≡ c.args.key.now = search rules in
    let inserted : members_view c.insert.new.self.entries ≡ put (string_bytes c.in_ok-name.name) (view c.args.value) before = search (rules, members_view-insert_entry) in
    inserted ∙ ap (λ k. put k (view c.args.value) before) copied
