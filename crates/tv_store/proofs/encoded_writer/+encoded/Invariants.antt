use Rattle.std.proofs.Common.{suc, ◌*◌, ◌-◌, ◌≤◌, length}
use Rattle.tv_base.proofs.Written.{Written}
use Rattle.tv_heap.specs.Encoded.{encoded_bytes}
use Rattle.tv_format.specs.Short.{short_elements, short_entries}
use Rattle.tv_format.specs.Tree.{array, object, elements, entries}
use Rattle.tv_format.specs.WriteVersion.{written_version}
use Rattle.tv_value.specs.Nesting.{NestsWithin, ElementsNestWithin, EntriesNestWithin}
use Rattle.tv_store.proofs.encoded_writer.+encoded.Given as goal

-- twice the bytes that are to be written, and one more for the children of a list
abbrev pub decreases-write_encoded : goal.decreases-write_encoded
decreases-write_encoded g l = 2 * length (encoded_bytes (written_version l.version) l.encoded)

abbrev pub decreases-write_encoded_items : goal.decreases-write_encoded_items
decreases-write_encoded_items g l = suc (2 * length (short_elements (written_version l.version) (elements l.items.held.0)))

abbrev pub decreases-write_encoded_members : goal.decreases-write_encoded_members
decreases-write_encoded_members g l = suc (2 * length (short_entries (written_version l.version) (entries l.members.held.0)))

-- the values that are left are still to be written
abbrev pub invariant-write_encoded_items-loop-item : goal.invariant-write_encoded_items-loop-item
invariant-write_encoded_items-loop-item g l =
    let all = short_elements (written_version l.version) (elements l.fn.items.held.0) in
    let rest = short_elements (written_version l.version) (elements l.item-iterator.held.0) in
    record {
      can_next : (goal.iterator-write_encoded_items-loop-item g).can_next l.item-iterator;
      is_finite : (goal.iterator-write_encoded_items-loop-item g).is_finite l.item-iterator;
      fewer : length rest ≤ length all;
      written : Written g.K.ByteSink.is_known g.K.ByteSink.held g.K.ByteSink.failures l.fn.sink l.sink all rest;
      within : NestsWithin l.levels (array (elements l.fn.items.held.0)) → ElementsNestWithin (l.levels - 1) (elements l.item-iterator.held.0);
    }

-- the keys and values that are left are
abbrev pub invariant-write_encoded_members-loop-key : goal.invariant-write_encoded_members-loop-key
invariant-write_encoded_members-loop-key g l =
    let all = short_entries (written_version l.version) (entries l.fn.members.held.0) in
    let rest = short_entries (written_version l.version) (entries l.key-iterator.held.0) in
    record {
      can_next : (goal.iterator-write_encoded_members-loop-key g).can_next l.key-iterator;
      is_finite : (goal.iterator-write_encoded_members-loop-key g).is_finite l.key-iterator;
      fewer : length rest ≤ length all;
      written : Written g.K.ByteSink.is_known g.K.ByteSink.held g.K.ByteSink.failures l.fn.sink l.sink all rest;
      within : NestsWithin l.levels (object (entries l.fn.members.held.0)) → EntriesNestWithin (l.levels - 1) (entries l.key-iterator.held.0);
    }
