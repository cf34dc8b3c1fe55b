-- The records of documents by a schema, term by term and document by document.
use Rattle.std.proofs.Common.{◌≡◌, ℕ, suc, ◌+◌, Bool, List, [], ◌∷◌, ◌++◌, length, map, take, Ok, Err, refl, sym, subst, ap, ◌∙◌, arith, append_assoc, append-nil, length-append}
use Rattle.std.proofs.Math.Seq.{take-append_seam}
use Rattle.std.proofs.lemmas.List.{length-map, map-append}
use Rattle.std.proofs.lemmas.List.Elements.{All-nil, All-push}
use Rattle.tv_blocks.specs.Refusals.{RefusesDocument}
use Rattle.tv_blocks.specs.SchemaTerms.{AppendsDocument, HasTermRecords, IsTermsBlockRefusal, SchemaTermsSoFar, document_records, last_term, records_from, shared_record, term_records}
use Rattle.tv_blocks.specs.declared.block_error.BlockError.{BlockError}
use Rattle.tv_blocks.specs.declared.block_error.BlockError.TheVariants as blocks
use Rattle.tv_blocks.specs.declared.block_error.DocumentRefusal.{DocumentRefusal}
use Rattle.tv_blocks.specs.declared.block_error.DocumentRefusal.TheVariants as documents
use Rattle.tv_blocks.specs.declared.schema_terms.TermRecords.{TermRecords}
use Rattle.tv_blocks.proofs.Stops.{IsUnreadAt, RefusesBy}
use Rattle.tv_field.specs.Entry.{Entry}
use Rattle.tv_format.specs.Encoding.{EncodesDocument}
use Rattle.tv_format.specs.Tree.{Document}
use Rattle.tv_format.specs.Version.{Version}
use Rattle.tv_indexing.specs.DocumentTerms.{Terms, document_terms}
use Rattle.tv_indexing.specs.Visits.{TakesTerms, TakesAll, TakesSome}
use Rattle.tv_reader.specs.Legacy.{Legacy}
use Rattle.tv_store.proofs.BlocksSoFar.{each-snoc, joined_more, start_at}
use Rattle.tv_store.specs.Documents.{BeginsWithDocument, HasNoRoom}

-- ---- terms of a document

last_term-snoc : (before : List ℕ) (terms : List (List ℕ)) (term : List ℕ) → last_term before (terms ++ term ∷ []) ≡ term
last_term-snoc before [] term = refl
last_term-snoc before (t ∷ terms) term = last_term-snoc t terms term

term_records-snoc : (number : ℕ) (before : List ℕ) (terms : List (List ℕ)) (term : List ℕ)
    → term_records number before (terms ++ term ∷ []) ≡ term_records number before terms ++ shared_record number (last_term before terms) term
term_records-snoc number before [] term = append-nil (shared_record number before term)
term_records-snoc number before (t ∷ terms) term =
    ap (λ (l : List ℕ). shared_record number before t ++ l) (term_records-snoc number t terms term)
    ∙ sym (append_assoc (shared_record number before t) (term_records number t terms) (shared_record number (last_term t terms) term))

-- what the records say of the terms that they have taken
abbrev pub HaveTaken : TermRecords → TermRecords → List (List ℕ) → Type 0
HaveTaken start now terms =
    (now.document ≡ start.document) × (now.last.items ≡ last_term start.last.items terms)
    × (now.content.items ≡ start.content.items ++ term_records start.document start.last.items terms)

pub takes_one : (old new : TermRecords) (term : List ℕ) → new.document ≡ old.document → new.last.items ≡ term
    → new.content.items ≡ old.content.items ++ shared_record old.document old.last.items term → TakesTerms HaveTaken old new (term ∷ [])
takes_one old new term document last content start terms before = (
  document ∙ before.0,
  last ∙ sym (last_term-snoc start.last.items terms term),
  content ∙ ap (λ (n : ℕ). old.content.items ++ shared_record n old.last.items term) before.0
      ∙ ap (λ (l : List ℕ). old.content.items ++ shared_record start.document l term) before.1
      ∙ ap (λ (l : List ℕ). l ++ shared_record start.document (last_term start.last.items terms) term) before.2
      ∙ append_assoc start.content.items (term_records start.document start.last.items terms) (shared_record start.document (last_term start.last.items terms) term)
      ∙ ap (λ (l : List ℕ). start.content.items ++ l) (sym (term_records-snoc start.document start.last.items terms term)),
)

pub takes_none : (old new : TermRecords) → new.document ≡ old.document → new.last.items ≡ old.last.items → new.content.items ≡ old.content.items → TakesTerms HaveTaken old new []
takes_none old new document last content start terms before =
    subst (HaveTaken start new) (sym (append-nil terms)) (document ∙ before.0, last ∙ before.1, content ∙ before.2)

-- after these, from the beginning
taken : (old new : TermRecords) (terms : List (List ℕ)) → TakesTerms HaveTaken old new terms → HaveTaken old new terms
taken old new terms takes = takes old [] (refl, refl, sym (append-nil old.content.items))

-- all terms of a document
pub all_taken : (schema : List Entry) (d : Document) (old new : TermRecords) → old.last.items ≡ [] → TakesAll HaveTaken old new (document_terms schema d)
    → HasTermRecords schema d × (new.document ≡ old.document) × (new.content.items ≡ old.content.items ++ document_records old.document (document_terms schema d))
all_taken schema d old new none takes = cases (document_terms schema d) takes where
  cases : (t : Terms) → TakesAll HaveTaken old new t → ((terms : List (List ℕ)) × (t ≡ Ok terms)) × (new.document ≡ old.document) × (new.content.items ≡ old.content.items ++ document_records old.document t)
  cases (Ok terms) all =
      let h = taken old new terms all in
      ((terms, refl), h.0, h.2 ∙ ap (λ (l : List ℕ). old.content.items ++ term_records old.document l terms) none)
  cases (Err e) all = absurd all

-- where some were taken, what was there before is still at the front
pub some_taken : (old new : TermRecords) → TakesSome HaveTaken old new → (new.document ≡ old.document) × (take (length old.content.items) new.content.items ≡ old.content.items)
some_taken old new takes =
    let h = taken old new takes.0 takes.1 in
    (h.0, ap (take (length old.content.items)) h.2 ∙ take-append_seam old.content.items (term_records old.document old.last.items takes.0))

-- ---- documents of a block

pub no_terms_yet : (with_faults : Bool) (schema : List Entry) (v : Version) (block content : List ℕ) → content ≡ [] → SchemaTermsSoFar with_faults schema v block block content 0
no_terms_yet with_faults schema v block content none =
    record { before = []; joined = refl; are = record { documents = []; encoded = refl; listed = none; have_terms = λ _. All-nil (HasTermRecords schema) }; counted = refl }

records-snoc : (first : ℕ) (documents : List Terms) (last : Terms) → records_from first (documents ++ last ∷ []) ≡ records_from first documents ++ document_records (first + length documents) last
records-snoc first [] last =
    let at : first ≡ first + 0 = omega arith in
    append-nil (document_records first last) ∙ ap (λ (n : ℕ). document_records n last) at
records-snoc first (terms ∷ others) last =
    let at : suc first + length others ≡ first + length (terms ∷ others) = omega arith in
    ap (λ (l : List ℕ). document_records first terms ++ l) (records-snoc (suc first) others last ∙ ap (λ (n : ℕ). records_from (suc first) others ++ document_records n last) at)
    ∙ sym (append_assoc (document_records first terms) (records_from (suc first) others) (document_records (first + length (terms ∷ others)) last))

pub more_terms : {with_faults : Bool} {schema : List Entry} {v : Version} {block rest now content more : List ℕ} {number : ℕ} (d : Document) → SchemaTermsSoFar with_faults schema v block rest content number
    → BeginsWithDocument v rest now d → AppendsDocument with_faults schema number d content more → SchemaTermsSoFar with_faults schema v block now more (number + 1)
more_terms {with_faults} {schema} {v} {block} {rest} {now} {content} {more} {number} d m b added =
    let documents = m.are.documents in
    let outcomes = map (document_terms schema) documents in
    let last = document_terms schema d in
    let many = length-map documents (document_terms schema) in
    let at : number ≡ 0 + length outcomes = omega (arith, m.counted, many) in
    record {
      before = m.before ++ b.prefix;
      joined = joined_more block m.before rest b.prefix now m.joined b.joined;
      are = record {
        documents = documents ++ d ∷ [];
        encoded = each-snoc (EncodesDocument Legacy v) m.before b.prefix documents d m.are.encoded b.encoded;
        listed = added.1 ∙ ap (λ (l : List ℕ). l ++ document_records number last) m.are.listed ∙ ap (λ (n : ℕ). records_from 0 outcomes ++ document_records n last) at
            ∙ sym (records-snoc 0 outcomes last) ∙ ap (records_from 0) (sym (map-append (document_terms schema) documents (d ∷ [])));
        have_terms = λ without. All-push (HasTermRecords schema) documents d (m.are.have_terms without) (added.0 without);
      };
      counted = let sum = length-append documents (d ∷ []) in omega (arith, sum, m.counted);
    }

-- ---- where they stop

as_document : (v : Version) (bytes : List ℕ) (refusal : DocumentRefusal) → RefusesBy (HasNoRoom v) v refusal bytes → RefusesDocument v bytes refusal
as_document v bytes (documents.Corrupted cause) h = h
as_document v bytes documents.KeyIsNoText h = h
as_document v bytes documents.HeapFull h = h

pub unread_terms : {with_faults : Bool} {schema : List Entry} {v : Version} {block rest content : List ℕ} {number : ℕ} (start : ℕ) (e : BlockError) → SchemaTermsSoFar with_faults schema v block rest content number → start + length rest ≡ length block
    → IsUnreadAt (HasNoRoom v) v rest start e → IsTermsBlockRefusal with_faults schema v block e
unread_terms {with_faults} {schema} {v} {block} {rest} {content} start (blocks.BadDocument place refusal) m at unread =
    record { before = m.before; behind = rest; joined = m.joined; measured = unread.0 ∙ start_at block m.before rest start m.joined at; good = (content, m.are); some = unread.1; refused = as_document v rest refusal unread.2 }
unread_terms {with_faults} {schema} {v} {block} {rest} {content} start blocks.Memory m at unread = tt
unread_terms {with_faults} {schema} {v} {block} {rest} {content} start e m at unread = absurd unread
