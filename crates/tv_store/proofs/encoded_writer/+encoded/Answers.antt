use Rattle.std.proofs.Common.{◌≡◌, ◌-◌, ◌∷◌, ◌++◌, refl, sym, ap, subst, rules}
use Rattle.std.proofs.lemmas.Result.{err_from_is_err_and}
use Rattle.tv_base.proofs.Written.{Writes_as, Writes_both, Writes_some, Written-step, Written-fails}
use Rattle.tv_heap.specs.Encoded.{encoded_bytes}
use Rattle.tv_heap.specs.Value.{tree_of}
use Rattle.tv_format.specs.Short.{short_elements, short_entries}
use Rattle.tv_format.specs.Tree.{elements, entries}
use Rattle.tv_format.specs.WriteVersion.{written_version}
use Rattle.tv_value.specs.Nesting.{ElementsNestWithin, EntriesNestWithin}
use Rattle.tv_store.proofs.Nesting.{held_within}
use Rattle.tv_store.proofs.NestedSteps.{items_are_values, members_are_values}
use Rattle.tv_store.proofs.Stores.{writes_for}
use Rattle.tv_store.proofs.WriterSteps.{others_fewer, entries_fewer, elements_next, entries_parts}
use Rattle.tv_writer.proofs.WriterSteps.{short_items, short_members}
use Rattle.tv_store.proofs.encoded_writer.+encoded.Goals as goal

pub write_encoded-returns-in_err-write_coded_count-in-Array-clause-writes : goal.write_encoded-returns-in_err-write_coded_count-in-Array-clause-writes
write_encoded-returns-in_err-write_coded_count-in-Array-clause-writes g t c =
    let v = written_version c.args.version in
    let p = err_from_is_err_and c.from_residual.result c.from_residual.ensures.1 in
    rw (p.1, p.2) (writes_for {T = Unit {0}} (Writes_some (short_elements v (elements c.in-Array.items.held.0)) c.in_err-write_coded_count-in-Array.ensures (ap (encoded_bytes v) c.in-Array.is)))

pub write_encoded-returns-in_ok-write_coded_count-in-Array-clause-writes : goal.write_encoded-returns-in_ok-write_coded_count-in-Array-clause-writes
write_encoded-returns-in_ok-write_coded_count-in-Array-clause-writes g t c =
    Writes_both c.in_ok-write_coded_count-in-Array.ensures c.write_encoded_items.ensures.writes (ap (encoded_bytes (written_version c.args.version)) c.in-Array.is)

pub write_encoded-returns-in_err-write_object_head-in-Object-clause-writes : goal.write_encoded-returns-in_err-write_object_head-in-Object-clause-writes
write_encoded-returns-in_err-write_object_head-in-Object-clause-writes g t c =
    let v = written_version c.args.version in
    let p = err_from_is_err_and c.from_residual-in_err-write_object_head-in-Object.result c.from_residual-in_err-write_object_head-in-Object.ensures.1 in
    rw (p.1, p.2) (writes_for {T = Unit {0}} (Writes_some (short_entries v (entries c.in-Object.members.held.0)) c.in_err-write_object_head-in-Object.ensures (ap (encoded_bytes v) c.in-Object.is)))

pub write_encoded-returns-in_ok-write_object_head-in-Object-clause-writes : goal.write_encoded-returns-in_ok-write_object_head-in-Object-clause-writes
write_encoded-returns-in_ok-write_object_head-in-Object-clause-writes g t c =
    Writes_both c.in_ok-write_object_head-in-Object.ensures c.write_encoded_members.ensures.writes (ap (encoded_bytes (written_version c.args.version)) c.in-Object.is)

pub write_encoded_items-loop-item-preserved : goal.write_encoded_items-loop-item-preserved
write_encoded_items-loop-item-preserved g t c =
    let l = c.loop-item in
    let v = written_version c.args.version in
    let cut : l.item-iterator.held.0 ≡ tree_of c.in-Some.item ∷ c.next.new.self.held.0 = search rules in
    record {
      can_next = tt;
      is_finite = tt;
      fewer = others_fewer v cut l.invariant.fewer;
      written = Written-step _ _ (elements_next v cut (c.encoded.ensures.bytes v)) l.invariant.written c.in_ok-write_encoded.ensures.writes;
      within = λ h. (subst (λ ts. ElementsNestWithin (c.args.levels - 1) (elements ts)) cut (l.invariant.within h)).1;
    }

pub write_encoded_items-returns-in_err-write_encoded-clause-writes : goal.write_encoded_items-returns-in_err-write_encoded-clause-writes
write_encoded_items-returns-in_err-write_encoded-clause-writes g t c =
    let p = err_from_is_err_and c.from_residual.result c.from_residual.ensures.1 in
    let l = c.loop-item in
    let v = written_version c.args.version in
    let cut : l.item-iterator.held.0 ≡ tree_of c.in-Some.item ∷ c.next.new.self.held.0 = search rules in
    rw (p.1, p.2) (Written-fails _ _ (elements_next v cut (c.encoded.ensures.bytes v)) l.invariant.written c.in_err-write_encoded.ensures.writes)

pub write_encoded_items-returns-in_err-write_encoded-clause-only_io : goal.write_encoded_items-returns-in_err-write_encoded-clause-only_io
write_encoded_items-returns-in_err-write_encoded-clause-only_io g t c =
    let p = err_from_is_err_and c.from_residual.result c.from_residual.ensures.1 in
    let l = c.loop-item in
    let cut : l.item-iterator.held.0 ≡ tree_of c.in-Some.item ∷ c.next.new.self.held.0 = search rules in
    λ h.
    let child = (subst (λ ts. ElementsNestWithin (c.args.levels - 1) (elements ts)) cut (l.invariant.within h)).0 in
    rw (p.1, p.2) (c.in_err-write_encoded.ensures.only_io (held_within (c.args.levels - 1) c.in-Some.item c.encoded.result c.encoded.ensures.bytes child))

pub write_encoded_members-returns-in_err-write_key-clause-writes : goal.write_encoded_members-returns-in_err-write_key-clause-writes
write_encoded_members-returns-in_err-write_key-clause-writes g t c =
    let p = err_from_is_err_and c.from_residual.result c.from_residual.ensures.1 in
    let l = c.loop-key in
    let v = written_version c.args.version in
    let cut : l.key-iterator.held.0 ≡ (c.in-Some.key.now, tree_of c.in-Some.item) ∷ c.next.new.self.held.0 = search rules in
    rw (p.1, p.2) (writes_for {T = Unit {0}} (Written-fails {U = Unit {0}} _ _ (entries_parts v cut refl) l.invariant.written c.in_err-write_key.ensures))

pub write_encoded_members-loop-key-preserved : goal.write_encoded_members-loop-key-preserved
write_encoded_members-loop-key-preserved g t c =
    let l = c.loop-key in
    let v = written_version c.args.version in
    let cut : l.key-iterator.held.0 ≡ (c.in-Some.key.now, tree_of c.in-Some.item) ∷ c.next.new.self.held.0 = search rules in
    let others = short_entries v (entries c.next.new.self.held.0) in
    let behind = Written-step _ _ (entries_parts v cut refl) l.invariant.written c.in_ok-write_key.ensures in
    record {
      can_next = tt;
      is_finite = tt;
      fewer = entries_fewer v cut l.invariant.fewer;
      written = Written-step _ _ (ap (λ z. z ++ others) (sym (c.encoded.ensures.bytes v))) behind c.in_ok-write_encoded.ensures.writes;
      within = λ h. (subst (λ es. EntriesNestWithin (c.args.levels - 1) (entries es)) cut (l.invariant.within h)).1;
    }

pub write_encoded_members-returns-in_err-write_encoded-clause-writes : goal.write_encoded_members-returns-in_err-write_encoded-clause-writes
write_encoded_members-returns-in_err-write_encoded-clause-writes g t c =
    let p = err_from_is_err_and c.from_residual-in_err-write_encoded.result c.from_residual-in_err-write_encoded.ensures.1 in
    let l = c.loop-key in
    let v = written_version c.args.version in
    let cut : l.key-iterator.held.0 ≡ (c.in-Some.key.now, tree_of c.in-Some.item) ∷ c.next.new.self.held.0 = search rules in
    let others = short_entries v (entries c.next.new.self.held.0) in
    let behind = Written-step _ _ (entries_parts v cut refl) l.invariant.written c.in_ok-write_key.ensures in
    rw (p.1, p.2) (Written-fails _ _ (ap (λ z. z ++ others) (sym (c.encoded.ensures.bytes v))) behind c.in_err-write_encoded.ensures.writes)

pub write_encoded_members-returns-in_err-write_encoded-clause-only_io : goal.write_encoded_members-returns-in_err-write_encoded-clause-only_io
write_encoded_members-returns-in_err-write_encoded-clause-only_io g t c =
    let p = err_from_is_err_and c.from_residual-in_err-write_encoded.result c.from_residual-in_err-write_encoded.ensures.1 in
    let l = c.loop-key in
    let cut : l.key-iterator.held.0 ≡ (c.in-Some.key.now, tree_of c.in-Some.item) ∷ c.next.new.self.held.0 = search rules in
    λ h.
    let child = (subst (λ es. EntriesNestWithin (c.args.levels - 1) (entries es)) cut (l.invariant.within h)).0 in
    rw (p.1, p.2) (c.in_err-write_encoded.ensures.only_io (held_within (c.args.levels - 1) c.in-Some.item c.encoded.result c.encoded.ensures.bytes child))

-- past the levels

pub write_encoded_items-returns-then-levels-eq0-clause-writes : goal.write_encoded_items-returns-then-levels-eq0-clause-writes
write_encoded_items-returns-then-levels-eq0-clause-writes g t c =
    Writes_as c.write_children_deep.ensures.writes (sym (short_items (written_version c.args.version) c.args.items.held.0))

pub write_encoded_items-write_children_deep-requires : goal.write_encoded_items-write_children_deep-requires
write_encoded_items-write_children_deep-requires g t c = items_are_values c.args.items

pub write_encoded_members-returns-then-levels-eq0-clause-writes : goal.write_encoded_members-returns-then-levels-eq0-clause-writes
write_encoded_members-returns-then-levels-eq0-clause-writes g t c =
    Writes_as c.write_children_deep.ensures.writes (sym (short_members (written_version c.args.version) c.args.members.held.0))

pub write_encoded_members-write_children_deep-requires : goal.write_encoded_members-write_children_deep-requires
write_encoded_members-write_children_deep-requires g t c = members_are_values c.args.members
