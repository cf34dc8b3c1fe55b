use Rattle.std.proofs.Common.{◌-◌, ◌+◌, ◌*◌, ◌^◌, Ok}
use Rattle.tv_base.specs.Parts.{Begins}
use Rattle.tv_reader.specs.Finds.{FindsDeep}
use Rattle.tv_reader.specs.Trees.{EncodesItems, EncodesMembers}
use Rattle.tv_reader.specs.Version.{version_of}
use Rattle.tv_reader.proofs.DepthSteps.{ItemsWithin, MembersWithin}
use Rattle.tv_reader.proofs.trees.+trees.Given as goal

abbrev pub decreases-take_tree : goal.decreases-take_tree
decreases-take_tree g l = 4 * (2 ^ 64 - l.count.now)

abbrev pub decreases-take_member : goal.decreases-take_member
decreases-take_member g l = 4 * (2 ^ 64 - l.count.now) + 1

abbrev pub decreases-take_items : goal.decreases-take_items
decreases-take_items g l = 4 * (2 ^ 64 - l.count.now) + 2

abbrev pub decreases-take_members : goal.decreases-take_members
decreases-take_members g l = 4 * (2 ^ 64 - l.count.now) + 2

abbrev pub decreases-take_behind : goal.decreases-take_behind
decreases-take_behind g l = 4 * (2 ^ 64 - l.count.now) + 3

-- the values so far are encoded by what was taken, and within the depth
abbrev pub invariant-take_items-loop : goal.invariant-take_items-loop
invariant-take_items-loop g l =
    let source = g.S.ByteSource in
    record {
      finds : FindsDeep source l.initial.source l.initial.count l.source l.count (Ok l.items) (EncodesItems (version_of l.version) l.counter) (λ w r. ⊥);
      within : source.is_known l.initial.source → Begins (λ b. ItemsWithin (version_of l.version) l.levels b l.items) (source.left l.initial.source) (source.left l.source);
    }

-- the keys and values so far are
abbrev pub invariant-take_members-loop : goal.invariant-take_members-loop
invariant-take_members-loop g l =
    let source = g.S.ByteSource in
    record {
      finds : FindsDeep source l.initial.source l.initial.count l.source l.count (Ok l.members) (EncodesMembers (version_of l.version) l.counter) (λ w r. ⊥);
      within : source.is_known l.initial.source → Begins (λ b. MembersWithin (version_of l.version) l.levels b l.members) (source.left l.initial.source) (source.left l.source);
    }
