use Rattle.std.proofs.Common.{[], length, refl, sym, ap, ◌∙◌, arith}
use Rattle.std.proofs.lemmas.List.{append-nil}
use Rattle.tv_heap.specs.Room.{document_room}
use Rattle.tv_reader.specs.Legacy.{Legacy}
use Rattle.tv_format.specs.Short.{short_document}
use Rattle.tv_format.specs.Encoding.{Derives}
use Rattle.tv_format.specs.Version.{V2}
use Rattle.tv_lines.proofs.ReadingBack.{unwritten_is}
use Rattle.tv_store.proofs.Promises.{never_long}
use Rattle.tv_store.proofs.RoundTrips.{only_short, above, full_answers_none}
use Rattle.tv_lines.proofs.document_line.read_back.Goals as goal

pub unwritten-requires : goal.unwritten-requires
unwritten-requires c =
    let d = c.requires.0 in
    let left = c.new-source.ensures in
    let derives : Derives Legacy V2 _ d = record { prefix = short_document V2 d; rest = []; joined = left ∙ c.requires.1.1 ∙ sym (append-nil (short_document V2 d)); encoded = c.short_documents_encode.ensures V2 tt d c.requires.1.0 } in
    only_short c.in-Err.error _ _
    (λ r is. c.malformed_documents_derive_none.ensures V2 _ r d (c.in-Err.ensures.reads.error tt c.in-Err.error r refl is) derives)
    (λ r is. never_long (tt, omega (arith, ap length left)) c.in-Err.ensures.reads c.in-Err.error r refl is)
    c.in-Err.ensures.reads.errors refl c.in-Err.ensures.reads.failures

pub returns-in-Ok-clause-ok : goal.returns-in-Ok-clause-ok
returns-in-Ok-clause-ok c = λ d valid same.
    let begins = c.in-Ok.ensures.reads.found tt in
    let left = c.new-source.ensures in
    (c.documents_have_one_reading.ensures V2 begins.prefix (short_document V2 d) _ [] _ d begins.encoded (c.short_documents_encode.ensures V2 tt d valid)
    (sym begins.joined ∙ left ∙ same ∙ sym (append-nil (short_document V2 d)))).1

pub returns-in-Err-clause-err : goal.returns-in-Err-clause-err
returns-in-Err-clause-err c = λ d valid same.
    let left = c.new-source.ensures in
    let encoded = c.short_documents_encode.ensures V2 tt d valid in
    let joined = left ∙ same ∙ sym (append-nil (short_document V2 d)) in
    let derives : Derives Legacy V2 _ d = record { prefix = short_document V2 d; rest = []; joined = joined; encoded = encoded } in
    unwritten_is c.in-Err.error d _
    (only_short c.in-Err.error _ _
    (λ r is. c.malformed_documents_derive_none.ensures V2 _ r d (c.in-Err.ensures.reads.error tt c.in-Err.error r refl is) derives)
    (λ r is. never_long (tt, omega (arith, ap length left)) c.in-Err.ensures.reads c.in-Err.error r refl is)
    c.in-Err.ensures.reads.errors refl c.in-Err.ensures.reads.failures) c.unwritten.ensures.memory c.unwritten.ensures.no_room
    (λ f. above (document_room d) 4294967295
    (λ small. full_answers_none c.in-Err.error f (c.in-Err.ensures.reads.only (tt, omega (arith, ap length left)) d (short_document V2 d) [] joined encoded small)))
