use Rattle.std.proofs.Common.{length, refl, sym, ap, ◌∙◌, arith}
use Rattle.tv_heap.specs.Room.{document_room}
use Rattle.tv_reader.specs.Legacy.{Legacy}
use Rattle.tv_format.specs.Encoding.{Derives}
use Rattle.tv_format.specs.Short.{short_document}
use Rattle.tv_reader.specs.Version.{version_of}
use Rattle.tv_reader.proofs.Depths.{same_rest}
use Rattle.tv_store.proofs.Promises.{never_long}
use Rattle.tv_store.proofs.RoundTrips.{only_short, above, full_answers_none, err_is}
use Rattle.tv_store.proofs.round_trip.read_back.Goals as goal

pub reading_error-requires : goal.reading_error-requires
reading_error-requires c =
    let v = version_of c.args.version in
    let d = c.requires.begins.0 in
    let rest = c.requires.begins.1.0 in
    let left = c.new-source.ensures in
    let encoded = c.short_documents_encode.ensures v c.requires.written d c.requires.begins.1.1.0 in
    let derives : Derives Legacy v _ d = record { prefix = short_document v d; rest = rest; joined = left ∙ c.requires.begins.1.1.1; encoded = encoded } in
    only_short c.in-Err.error _ _
    (λ r is. c.malformed_documents_derive_none.ensures v _ r d (c.in-Err.ensures.error tt c.in-Err.error r refl is) derives)
    (λ r is. never_long (tt, omega (arith, ap length left)) c.in-Err.ensures c.in-Err.error r refl is)
    c.in-Err.ensures.errors refl c.in-Err.ensures.failures

pub returns-in_ok-left-in-Ok-clause-found : goal.returns-in_ok-left-in-Ok-clause-found
returns-in_ok-left-in-Ok-clause-found c = λ d rest valid same.
    let v = version_of c.args.version in
    let begins = c.in-Ok.ensures.found tt in
    let joined = sym begins.joined ∙ c.new-source.ensures ∙ same in
    let one = c.documents_have_one_reading.ensures v begins.prefix (short_document v d) _ rest _ d begins.encoded (c.short_documents_encode.ensures v c.requires.written d valid) joined in
    (one.1, c.in_ok-left-in-Ok.ensures.items ∙ c.rest.ensures ∙ same_rest begins.prefix (short_document v d) _ rest one.0 joined)

pub returns-in-Err-clause-no_room : goal.returns-in-Err-clause-no_room
returns-in-Err-clause-no_room c = λ d rest valid same e.
    let v = version_of c.args.version in
    let left = c.new-source.ensures in
    above (document_room d) 4294967295
    (λ small. full_answers_none c.in-Err.error (c.reading_error.ensures (err_is _ _ _ refl e))
    (c.in-Err.ensures.only (tt, omega (arith, ap length left)) d (short_document v d) rest (left ∙ same) (c.short_documents_encode.ensures v c.requires.written d valid) small))
