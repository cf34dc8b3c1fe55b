use Rattle.std.proofs.Common.{rules, refl, inl}
use Rattle.std.proofs.lemmas.Result.{err_from_is_err_and}
use Rattle.tv_reader.specs.Trees.{EncodesValue, NoValue, EncodesItems, NoItems, EncodesMembers, NoMembers}
use Rattle.tv_reader.specs.declared.error.DeserializeError.TheVariants as errors
use Rattle.tv_reader.specs.Version.{version_of}
use Rattle.tv_base.proofs.TakeSteps.{lean}
use Rattle.tv_reader.proofs.AgreeKinds.{kind_agrees}
use Rattle.tv_reader.proofs.BehindKinds.{code_value, is_leaf}
use Rattle.tv_reader.proofs.DepthSteps.{value_deepens, leaf_deepens, legacy_deepens, items_deepen, items_deepen_fails, array_deepens, array_deepens_fails, member_deepens, member_deepens_fails, members_deepen, members_deepen_fails, object_deepens, object_deepens_fails}
use Rattle.tv_reader.proofs.Finding.{finds_part_fails, finds_short_then, raised_roomy, roomy_deep}
use Rattle.tv_reader.proofs.TreeSteps.{value_then, leaf_found, leaf_fails, array_found, array_fails, array_count_fails, items_more, items_fail, object_found, object_fails, object_count_fails, member_found, member_key_fails, member_value_fails, members_more, members_fail}
use Rattle.tv_reader.proofs.trees.+trees.Goals as goal

pub take_tree-returns-in_err-kind-clause-finds : goal.take_tree-returns-in_err-kind-clause-finds
take_tree-returns-in_err-kind-clause-finds g t c =
    let p = err_from_is_err_and c.from_residual.result c.from_residual.ensures.1 in
    let v = version_of c.args.version in
    rw (p.1, p.2) (roomy_deep _ (finds_part_fails (EncodesValue v) (NoValue v) raised_roomy g.met.S.ByteSource.are_bytes kind_agrees (code_value v) (lean c.in_err-kind.ensures.takes)))

pub take_tree-returns-clause-finds : goal.take_tree-returns-clause-finds
take_tree-returns-clause-finds g t c = value_then (version_of c.args.version) g.met.S.ByteSource.are_bytes c.in_ok-kind.ensures.takes c.take_behind.ensures.finds

pub take_behind-returns-in_err-announced-in-Array-clause-finds : goal.take_behind-returns-in_err-announced-in-Array-clause-finds
take_behind-returns-in_err-announced-in-Array-clause-finds g t c =
    let p = err_from_is_err_and c.from_residual-in_err-announced-in-Array.result c.from_residual-in_err-announced-in-Array.ensures.1 in
    rw (p.1, p.2, c.in-Array.is) (roomy_deep _ (array_count_fails (version_of c.args.version) g.met.S.ByteSource.are_bytes c.in_err-announced-in-Array.ensures.takes))

pub take_behind-returns-in_err-items-in-Array-clause-finds :
    goal.take_behind-returns-in_err-items-in-Array-clause-finds
take_behind-returns-in_err-items-in-Array-clause-finds g t c =
    let p = err_from_is_err_and c.from_residual-in_err-items-in-Array.result c.from_residual-in_err-items-in-Array.ensures.1 in
    rw (p.1, p.2, c.in-Array.is) (array_fails (version_of c.args.version) g.met.S.ByteSource.are_bytes c.in_ok-announced-in-Array.ensures.takes c.in_err-items-in-Array.ensures.finds)

pub take_behind-returns-in_ok-items-in-Array-clause-finds : goal.take_behind-returns-in_ok-items-in-Array-clause-finds
take_behind-returns-in_ok-items-in-Array-clause-finds g t c =
    rw c.in-Array.is (array_found (version_of c.args.version) g.met.S.ByteSource.are_bytes c.in_ok-announced-in-Array.ensures.takes c.in_ok-items-in-Array.ensures.finds)

pub take_behind-returns-in_err-announced-in-Object-clause-finds :
    goal.take_behind-returns-in_err-announced-in-Object-clause-finds
take_behind-returns-in_err-announced-in-Object-clause-finds g t c =
    let p = err_from_is_err_and c.from_residual-in_err-announced-in-Object.result c.from_residual-in_err-announced-in-Object.ensures.1 in
    rw (p.1, p.2, c.in-Object.is) (roomy_deep _ (object_count_fails c.args.version g.met.S.ByteSource.are_bytes c.in_err-announced-in-Object.ensures.takes))

pub take_behind-returns-in_err-members-in-Object-clause-finds :
    goal.take_behind-returns-in_err-members-in-Object-clause-finds
take_behind-returns-in_err-members-in-Object-clause-finds g t c =
    let p = err_from_is_err_and c.from_residual-in_err-members-in-Object.result c.from_residual-in_err-members-in-Object.ensures.1 in
    rw (p.1, p.2, c.in-Object.is) (object_fails c.args.version g.met.S.ByteSource.are_bytes c.in_ok-announced-in-Object.ensures.takes c.in_err-members-in-Object.ensures.finds)

pub take_behind-returns-in_ok-members-in-Object-clause-finds :
    goal.take_behind-returns-in_ok-members-in-Object-clause-finds
take_behind-returns-in_ok-members-in-Object-clause-finds g t c =
    rw c.in-Object.is (object_found c.args.version g.met.S.ByteSource.are_bytes c.in_ok-announced-in-Object.ensures.takes c.in_ok-members-in-Object.ensures.finds)

pub take_behind-returns-in-JSONObject-clause-finds : goal.take_behind-returns-in-JSONObject-clause-finds
take_behind-returns-in-JSONObject-clause-finds g t c = rw c.in-JSONObject.is (roomy_deep _ (c.take_legacy_object.ensures.finds (version_of c.args.version)))

pub take_behind-returns-in_err-value-in_default : goal.take_behind-returns-in_err-value-in_default
take_behind-returns-in_err-value-in_default g t c =
    let p = err_from_is_err_and c.from_residual-in_err-value-in_default.result c.from_residual-in_err-value-in_default.ensures.1 in
    let is = is_leaf c.args.kind c.in_default.not-Array c.in_default.not-Object c.in_default.not-JSONObject in
    rw (p.1, p.2) (record {
      finds = roomy_deep _ (leaf_fails (version_of c.args.version) c.args.kind g.met.S.ByteSource.are_bytes is c.in_err-value-in_default.ensures.takes);
      within = search rules;
      deep = search rules;
    })

pub take_behind-returns-in_ok-value-in_default : goal.take_behind-returns-in_ok-value-in_default
take_behind-returns-in_ok-value-in_default g t c =
    let v = version_of c.args.version in
    let d = leaf_deepens _ v c.args.levels c.args.kind g.met.S.ByteSource.are_bytes c.in_ok-value-in_default.ensures.takes in
    record { finds = roomy_deep _ (leaf_found v c.args.kind g.met.S.ByteSource.are_bytes c.in_ok-value-in_default.ensures.takes); within = d.within; deep = d.deep }

pub take_items-returns-in_err-item-clause-finds : goal.take_items-returns-in_err-item-clause-finds
take_items-returns-in_err-item-clause-finds g t c =
    let p = err_from_is_err_and c.from_residual.result c.from_residual.ensures.1 in
    rw (p.1, p.2) (items_fail (version_of c.args.version) c.loop-test.true c.loop.invariant.finds c.in_err-item.ensures.finds)

pub take_items-returns-in_err-push-clause-finds : goal.take_items-returns-in_err-push-clause-finds
take_items-returns-in_err-push-clause-finds g t c =
    let p = err_from_is_err_and c.from_residual-in_err-push.result c.from_residual-in_err-push.ensures.1 in
    let v = version_of c.args.version in
    rw (p.1, p.2) (finds_short_then errors.Memory (EncodesItems v c.args.announced) (NoItems v c.args.announced) refl (inl (tt, λ is. cc)) c.loop.invariant.finds c.in_ok-item.ensures.finds)

pub take_items-loop-preserved : goal.take_items-loop-preserved
take_items-loop-preserved g t c =
    let v = version_of c.args.version in
    let kept = c.loop.invariant in
    record {
      finds = items_more v c.push.new.self c.in_ok-push.ensures.items kept.finds c.in_ok-item.ensures.finds;
      within = items_deepen g.S.ByteSource.is_known g.S.ByteSource.left c.loop.items c.in_ok-item.item v c.args.levels c.push.new.self c.in_ok-push.ensures.items kept.within kept.finds.stays_known c.in_ok-item.ensures.within;
    }

pub take_member-returns-in_err-key-clause-finds : goal.take_member-returns-in_err-key-clause-finds
take_member-returns-in_err-key-clause-finds g t c =
    let p = err_from_is_err_and c.from_residual.result c.from_residual.ensures.1 in
    rw (p.1, p.2) (member_key_fails c.args.version c.in_err-key.ensures.finds)

pub take_member-returns-in_err-value-clause-finds : goal.take_member-returns-in_err-value-clause-finds
take_member-returns-in_err-value-clause-finds g t c =
    let p = err_from_is_err_and c.from_residual-in_err-value.result c.from_residual-in_err-value.ensures.1 in
    rw (p.1, p.2) (member_value_fails c.args.version c.in_ok-key.ensures.finds c.in_err-value.ensures.finds)

pub take_member-returns-clause-finds : goal.take_member-returns-clause-finds
take_member-returns-clause-finds g t c = member_found c.args.version c.in_ok-key.ensures.finds c.in_ok-value.ensures.finds

pub take_members-returns-in_err-member-clause-finds : goal.take_members-returns-in_err-member-clause-finds
take_members-returns-in_err-member-clause-finds g t c =
    let p = err_from_is_err_and c.from_residual.result c.from_residual.ensures.1 in
    rw (p.1, p.2) (members_fail c.args.version c.loop-test.true c.loop.invariant.finds c.in_err-member.ensures.finds)

pub take_members-returns-in_err-push-clause-finds : goal.take_members-returns-in_err-push-clause-finds
take_members-returns-in_err-push-clause-finds g t c =
    let p = err_from_is_err_and c.from_residual-in_err-push.result c.from_residual-in_err-push.ensures.1 in
    let v = version_of c.args.version in
    rw (p.1, p.2) (finds_short_then errors.Memory (EncodesMembers v c.args.announced) (NoMembers v c.args.announced) refl (inl (tt, λ is. cc)) c.loop.invariant.finds c.in_ok-member.ensures.finds)

pub take_members-loop-preserved : goal.take_members-loop-preserved
take_members-loop-preserved g t c =
    let kept = c.loop.invariant in
    record {
      finds = members_more c.args.version c.push.new.self c.in_ok-push.ensures.items kept.finds c.in_ok-member.ensures.finds;
      within = members_deepen g.S.ByteSource.is_known g.S.ByteSource.left c.loop.members c.in_ok-member.member (version_of c.args.version) c.args.levels c.push.new.self c.in_ok-push.ensures.items kept.within kept.finds.stays_known c.in_ok-member.ensures.within;
    }

-- ---- how deep

pub take_tree-returns-clause-within : goal.take_tree-returns-clause-within
take_tree-returns-clause-within g t c =
    (value_deepens _ (version_of c.args.version) c.args.levels g.met.S.ByteSource.are_bytes c.in_ok-kind.ensures.takes (record { within = c.take_behind.ensures.within; deep = c.take_behind.ensures.deep })).within

pub take_tree-returns-clause-deep : goal.take_tree-returns-clause-deep
take_tree-returns-clause-deep g t c =
    (value_deepens _ (version_of c.args.version) c.args.levels g.met.S.ByteSource.are_bytes c.in_ok-kind.ensures.takes (record { within = c.take_behind.ensures.within; deep = c.take_behind.ensures.deep })).deep

pub take_behind-returns-in_err-items-in-Array-clause-deep : goal.take_behind-returns-in_err-items-in-Array-clause-deep
take_behind-returns-in_err-items-in-Array-clause-deep g t c =
    let p = err_from_is_err_and c.from_residual-in_err-items-in-Array.result c.from_residual-in_err-items-in-Array.ensures.1 in
    let d = array_deepens_fails _ (version_of c.args.version) c.args.levels c.in_ok-below-in-Array.below c.in_ok-below-in-Array.ensures.ok g.met.S.ByteSource.are_bytes c.in_ok-announced-in-Array.ensures.takes (record { within = c.in_err-items-in-Array.ensures.within; deep = c.in_err-items-in-Array.ensures.deep }) in
    rw (p.1, p.2, c.in-Array.is) d.deep

pub take_behind-returns-in_ok-items-in-Array-clause-within : goal.take_behind-returns-in_ok-items-in-Array-clause-within
take_behind-returns-in_ok-items-in-Array-clause-within g t c =
    let d = array_deepens (version_of c.args.version) c.args.levels c.in_ok-below-in-Array.below c.in_ok-below-in-Array.ensures.ok g.met.S.ByteSource.are_bytes c.in_ok-announced-in-Array.ensures.takes c.in_ok-items-in-Array.ensures.finds (record { within = c.in_ok-items-in-Array.ensures.within; deep = c.in_ok-items-in-Array.ensures.deep }) in
    rw c.in-Array.is d.within

pub take_behind-returns-in_err-members-in-Object-clause-deep : goal.take_behind-returns-in_err-members-in-Object-clause-deep
take_behind-returns-in_err-members-in-Object-clause-deep g t c =
    let p = err_from_is_err_and c.from_residual-in_err-members-in-Object.result c.from_residual-in_err-members-in-Object.ensures.1 in
    let d = object_deepens_fails _ (version_of c.args.version) c.args.levels c.in_ok-below-in-Object.below c.in_ok-below-in-Object.ensures.ok g.met.S.ByteSource.are_bytes c.in_ok-announced-in-Object.ensures.takes (record { within = c.in_err-members-in-Object.ensures.within; deep = c.in_err-members-in-Object.ensures.deep }) in
    rw (p.1, p.2, c.in-Object.is) d.deep

pub take_behind-returns-in_ok-members-in-Object-clause-within : goal.take_behind-returns-in_ok-members-in-Object-clause-within
take_behind-returns-in_ok-members-in-Object-clause-within g t c =
    let d = object_deepens (version_of c.args.version) c.args.levels c.in_ok-below-in-Object.below c.in_ok-below-in-Object.ensures.ok g.met.S.ByteSource.are_bytes c.in_ok-announced-in-Object.ensures.takes c.in_ok-members-in-Object.ensures.finds (record { within = c.in_ok-members-in-Object.ensures.within; deep = c.in_ok-members-in-Object.ensures.deep }) in
    rw c.in-Object.is d.within

pub take_behind-returns-in-JSONObject-clause-within : goal.take_behind-returns-in-JSONObject-clause-within
take_behind-returns-in-JSONObject-clause-within g t c =
    rw c.in-JSONObject.is (legacy_deepens c.take_legacy_object.result (version_of c.args.version) c.args.levels (c.take_legacy_object.ensures.finds (version_of c.args.version))).within

pub take_behind-returns-in-JSONObject-clause-deep : goal.take_behind-returns-in-JSONObject-clause-deep
take_behind-returns-in-JSONObject-clause-deep g t c =
    rw c.in-JSONObject.is (legacy_deepens c.take_legacy_object.result (version_of c.args.version) c.args.levels (c.take_legacy_object.ensures.finds (version_of c.args.version))).deep

pub take_items-returns-in_err-item-clause-deep : goal.take_items-returns-in_err-item-clause-deep
take_items-returns-in_err-item-clause-deep g t c =
    let p = err_from_is_err_and c.from_residual.result c.from_residual.ensures.1 in
    rw (p.1, p.2) (items_deepen_fails (version_of c.args.version) c.args.levels c.loop-test.true c.loop.invariant.finds c.loop.invariant.within (record { within = c.in_err-item.ensures.within; deep = c.in_err-item.ensures.deep })).deep

pub take_member-returns-in_err-value-clause-deep : goal.take_member-returns-in_err-value-clause-deep
take_member-returns-in_err-value-clause-deep g t c =
    let p = err_from_is_err_and c.from_residual-in_err-value.result c.from_residual-in_err-value.ensures.1 in
    rw (p.1, p.2) (member_deepens_fails (version_of c.args.version) c.args.levels c.in_ok-key.ensures.finds (record { within = c.in_err-value.ensures.within; deep = c.in_err-value.ensures.deep })).deep

pub take_member-returns-clause-within : goal.take_member-returns-clause-within
take_member-returns-clause-within g t c = (member_deepens (version_of c.args.version) c.args.levels c.in_ok-key.ensures.finds (record { within = c.in_ok-value.ensures.within; deep = c.in_ok-value.ensures.deep })).within

pub take_members-returns-in_err-member-clause-deep : goal.take_members-returns-in_err-member-clause-deep
take_members-returns-in_err-member-clause-deep g t c =
    let p = err_from_is_err_and c.from_residual.result c.from_residual.ensures.1 in
    rw (p.1, p.2) (members_deepen_fails (version_of c.args.version) c.args.levels c.loop-test.true c.loop.invariant.finds c.loop.invariant.within (record { within = c.in_err-member.ensures.within; deep = c.in_err-member.ensures.deep })).deep
