use Rattle.std.proofs.Common.{◌++◌, ◌∙◌, ap, arith, rules}
use Rattle.tv_doc.specs.Document.{document_of}
use Rattle.tv_store.specs.Stored.{stored}
use Rattle.tv_store.proofs.RoundTrips.{kept_of, kept_belongs, kept_room, each_read}
use Rattle.tv_store.proofs.round_trip.additions_are_stored_and_read_back.Goals as goal

pub stored_bytes-requires : goal.stored_bytes-requires
stored_bytes-requires c =
    let start = c.new-added.result in
    let values = c.args.values.now in
    let added = c.add_all.new.document in
    kept_belongs c.args.schema.now values added c.requires
    (kept_of values start added (record { document = c.new-added.ensures.document; heap = c.new-added.ensures.heap }) c.add_all.ensures)

pub returns-in_err-back-clause-no_room : goal.returns-in_err-back-clause-no_room
returns-in_err-back-clause-no_room c = λ e.
    let start = c.new-added.result in
    let values = c.args.values.now in
    let added = c.add_all.new.document in
    let kept = kept_of values start added (record { document = c.new-added.ensures.document; heap = c.new-added.ensures.heap }) c.add_all.ensures in
    let d = stored c.args.schema.now (document_of added) in
    let copied = c.in_ok-bytes.ensures.items ∙ c.as_slice.ensures.value ∙ c.in_ok-written.ensures.bytes in
    let same = c.as_slice-2.ensures.value ∙ c.in_ok-extend_from_slice.ensures.items ∙ ap (λ l. l ++ c.args.rest.now) copied in
    let full = c.read_back.ensures.no_room d c.args.rest.now (c.stored_pairs_are_valid.ensures c.args.schema.now (document_of added) (c.documents_are_valid.ensures added)) same (search (rules, e)) in
    omega (arith, full, kept_room values added kept, c.stored_pairs_need_no_more_room.ensures c.args.schema.now (document_of added))

pub returns-clause-trip : goal.returns-clause-trip
returns-clause-trip c =
    let start = c.new-added.result in
    let added = c.add_all.new.document in
    let d = stored c.args.schema.now (document_of added) in
    let copied = c.in_ok-bytes.ensures.items ∙ c.as_slice.ensures.value ∙ c.in_ok-written.ensures.bytes in
    let same = c.as_slice-2.ensures.value ∙ c.in_ok-extend_from_slice.ensures.items ∙ ap (λ l. l ++ c.args.rest.now) copied in
    let found = c.in_ok-back.ensures.found d c.args.rest.now (c.stored_pairs_are_valid.ensures c.args.schema.now (document_of added) (c.documents_are_valid.ensures added)) same in
    record {
      added = kept_of c.args.values.now start added (record { document = c.new-added.ensures.document; heap = c.new-added.ensures.heap }) c.add_all.ensures;
      places = each_read added;
      written = c.in_ok-written.ensures.bytes;
      back = found.0;
      rest = found.1;
    }
