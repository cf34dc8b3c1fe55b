-- The terms of a block by a schema have one list of records, or the block is refused at one document.
use Rattle.std.proofs.Common.{◌≡◌, ◌≢◌, ◌∙◌, ◌∷◌, ◌++◌, ℕ, Bool, false, List, [], Ok, Err, refl, sym, ap, subst, arith, length, length-append, append-nil, append_assoc, get_or}
use Rattle.std.proofs.lemmas.List.{append_cancel_left}
use Rattle.std.proofs.Math.Seq.{get_or-append_seam}
use Rattle.std.specs.List.{All}
use Rattle.tv_blocks.proofs.BlockAnswers.{OneContent}
use Rattle.tv_blocks.proofs.DocumentAnswers.{has_room}
use Rattle.tv_blocks.proofs.OneBreak.{breaks_none, breaks_one, refused_begins}
use Rattle.tv_blocks.specs.Alike.{HasOneAnswer, IsDecided}
use Rattle.tv_blocks.specs.Refusals.{Breaks, BreaksAt, RefusesDocument}
use Rattle.tv_blocks.specs.SchemaTerms.{AreSchemaTerms, HasNoTerms, HasTermRecords, HaveRecords, IsSchemaTermsRefusal}
use Rattle.tv_blocks.specs.TermsRefusals.{terms_error}
use Rattle.tv_blocks.specs.declared.block_error.BlockError.{BlockError}
use Rattle.tv_blocks.specs.declared.block_error.BlockError.TheVariants as errors
use Rattle.tv_blocks.specs.declared.block_error.DocumentRefusal.{DocumentRefusal}
use Rattle.tv_blocks.specs.declared.block_error.DocumentRefusal.TheVariants as refusals
use Rattle.tv_blocks.specs.declared.terms_refusal.TermsRefusal.{TermsRefusal}
use Rattle.tv_field.specs.Entry.{Entry}
use Rattle.tv_format.proofs.Trees.{one_document}
use Rattle.tv_format.specs.Encoding.{EncodesDocument}
use Rattle.tv_format.specs.Tree.{Document}
use Rattle.tv_format.specs.Version.{Version}
use Rattle.tv_indexing.specs.DocumentTerms.{document_terms}
use Rattle.tv_reader.proofs.UniqueLegacy.{one_legacy}
use Rattle.tv_reader.specs.Legacy.{Legacy}
use Rattle.tv_store.specs.BlockMigration.{EncodesBlock}
use Rattle.tv_store.specs.Documents.{BeginsWithDocument}

-- ---- two lists of documents of the same bytes

-- Both are the same, or one is the other and more, and its next document is encoded where the other ends.
data Lined (v : Version) (ds es : List Document) (rest other : List ℕ) : Type 0 where
  both_end : ds ≡ es → rest ≡ other → Lined v ds es rest other
  second_longer : (d : Document) (more : List Document) (left : List ℕ) → es ≡ ds ++ d ∷ more → BeginsWithDocument v rest left d → Lined v ds es rest other
  first_longer : (d : Document) (more : List Document) (left : List ℕ) → ds ≡ es ++ d ∷ more → BeginsWithDocument v other left d → Lined v ds es rest other

after_same : {v : Version} {ds es : List Document} {rest other : List ℕ} (d e : Document) → d ≡ e → Lined v ds es rest other → Lined v (d ∷ ds) (e ∷ es) rest other
after_same d e same (both_end docs left) = both_end (λ i. same i ∷ docs i) left
after_same d e same (second_longer next more left is begins) = second_longer next more left (λ i. sym same i ∷ is i) begins
after_same d e same (first_longer next more left is begins) = first_longer next more left (λ i. same i ∷ is i) begins

lined : (v : Version) (ds es : List Document) (block rest second other : List ℕ) → EncodesBlock v block ds → EncodesBlock v second es → block ++ rest ≡ second ++ other → Lined v ds es rest other
lined v [] [] block rest second other none also joined = both_end refl (ap (λ (l : List ℕ). l ++ rest) (sym none) ∙ joined ∙ ap (λ (l : List ℕ). l ++ other) also)
lined v [] (e ∷ es) block rest second other none each joined =
    second_longer e es (each.rest ++ other) refl
    (record { prefix = each.prefix; joined = ap (λ (l : List ℕ). l ++ rest) (sym none) ∙ joined ∙ ap (λ (l : List ℕ). l ++ other) each.joined ∙ append_assoc each.prefix each.rest other; encoded = each.first })
lined v (d ∷ ds) [] block rest second other each none joined =
    first_longer d ds (each.rest ++ rest) refl
    (record { prefix = each.prefix; joined = ap (λ (l : List ℕ). l ++ other) (sym none) ∙ sym joined ∙ ap (λ (l : List ℕ). l ++ rest) each.joined ∙ append_assoc each.prefix each.rest rest; encoded = each.first })
lined v (d ∷ ds) (e ∷ es) block rest second other each also joined =
    let both : each.prefix ++ (each.rest ++ rest) ≡ also.prefix ++ (also.rest ++ other) =
    sym (append_assoc each.prefix each.rest rest) ∙ ap (λ (l : List ℕ). l ++ rest) (sym each.joined) ∙ joined ∙ ap (λ (l : List ℕ). l ++ other) also.joined ∙ append_assoc also.prefix also.rest other in
    let one = one_document Legacy v one_legacy each.prefix also.prefix (each.rest ++ rest) (also.rest ++ other) d e each.first also.first both in
    after_same d e one.1 (lined v ds es each.rest rest also.rest other each.second also.second (cancel each.prefix also.prefix (each.rest ++ rest) (also.rest ++ other) one.0 both))
  where
    cancel : (a b x y : List ℕ) → a ≡ b → a ++ x ≡ b ++ y → x ≡ y
    cancel a b x y same is = append_cancel_left a x y (is ∙ ap (λ (l : List ℕ). l ++ y) (sym same))

-- ---- a document that has no terms

module _ (with_faults : Bool) (schema : List Entry) (v : Version) where
  begins_same : (bytes left rest : List ℕ) (d e : Document) → BeginsWithDocument v bytes left d → BeginsWithDocument v bytes rest e → d ≡ e
  begins_same bytes left rest d e h k = (one_document Legacy v one_legacy h.prefix k.prefix left rest d e h.encoded k.encoded (sym h.joined ∙ k.joined)).1

  member : (ds more all : List Document) (d : Document) → all ≡ ds ++ d ∷ more → All (HasTermRecords schema) all → HasTermRecords schema d
  member ds more all d is has =
      subst (HasTermRecords schema) (get_or-append_seam ds d more d)
      (subst (λ (l : List Document). HasTermRecords schema (get_or l (length ds) d)) is (has (length ds) d (omega (arith, ap length is, length-append ds (d ∷ more)))))

  has_and_not : (start : ℕ) (d e : Document) (said : BlockError) → d ≡ e → HasTermRecords schema d → HasNoTerms schema start e said → ⊥
  has_and_not start d e said same has none =
      let is : document_terms schema e ≡ Ok has.0 = ap (document_terms schema) (sym same) ∙ has.1 in
      let isnt : document_terms schema e ≡ Err none.0 = none.1 in
      absurd (cc (is, isnt))

  -- where a document has no terms
  record Stops (block : List ℕ) (start : ℕ) (refusal : TermsRefusal) : Type 0 where
    exact : with_faults ≡ false
    before : List ℕ
    behind : List ℕ
    joined : block ≡ before ++ behind
    measured : start ≡ length before
    some : behind ≢ []
    documents : List Document
    encoded : EncodesBlock v before documents
    have_terms : All (HasTermRecords schema) documents
    rest : List ℕ
    document : Document
    begins : BeginsWithDocument v behind rest document
    none : HasNoTerms schema start document (errors.NoTerms start refusal)

  stops : (block : List ℕ) (start : ℕ) (refusal : TermsRefusal) → IsSchemaTermsRefusal with_faults schema v block (errors.NoTerms start refusal) → Stops block start refusal
  stops block start refusal h =
      let at = h.1 in
      let good : AreSchemaTerms with_faults schema v at.before at.good.0 = at.good.1 in
      record {
        exact = h.0;
        before = at.before;
        behind = at.behind;
        joined = at.joined;
        measured = at.measured;
        some = at.some;
        documents = good.documents;
        encoded = good.encoded;
        have_terms = good.have_terms h.0;
        rest = at.refused.0;
        document = at.refused.1;
        begins = at.refused.2;
        none = at.refused.3;
      }

  stops_one : (block : List ℕ) (start other : ℕ) (r s : TermsRefusal) → Stops block start r → Stops block other s → errors.NoTerms start r ≡ errors.NoTerms other s
  stops_one block start other r s h k = told (lined v h.documents k.documents h.before h.behind k.before k.behind h.encoded k.encoded joined)
    where
      joined : h.before ++ h.behind ≡ k.before ++ k.behind
      joined = sym h.joined ∙ k.joined

      told : Lined v h.documents k.documents h.behind k.behind → errors.NoTerms start r ≡ errors.NoTerms other s
      told (both_end docs left) =
          let starts : start ≡ other = omega (arith, ap length joined, ap length left, length-append h.before h.behind, length-append k.before k.behind, h.measured, k.measured) in
          let same = begins_same k.behind h.rest k.rest h.document k.document (subst (λ (l : List ℕ). BeginsWithDocument v l h.rest h.document) left h.begins) k.begins in
          let mine : document_terms schema k.document ≡ Err h.none.0 = ap (document_terms schema) (sym same) ∙ h.none.1 in
          let yours : document_terms schema k.document ≡ Err k.none.0 = k.none.1 in
          let why : h.none.0 ≡ k.none.0 = cc (mine, yours) in
          let said : terms_error start h.none.0 ≡ terms_error other k.none.0 = λ i. terms_error (starts i) (why i) in
          h.none.2 ∙ said ∙ sym k.none.2
      told (second_longer d more left is begins) =
          absurd (has_and_not start d h.document (errors.NoTerms start r) (begins_same h.behind left h.rest d h.document begins h.begins) (member h.documents more k.documents d is k.have_terms) h.none)
      told (first_longer d more left is begins) =
          absurd (has_and_not other d k.document (errors.NoTerms other s) (begins_same k.behind left k.rest d k.document begins k.begins) (member k.documents more h.documents d is h.have_terms) k.none)

  -- a document that can't be read, after others that have records
  abbrev CanNotRead : List ℕ → ℕ → DocumentRefusal → Type 0
  CanNotRead block start r = BreaksAt (HaveRecords with_faults schema v) (λ bytes. RefusesDocument v bytes r) block start

  breaks_of : (block : List ℕ) (start : ℕ) (r : DocumentRefusal) → CanNotRead block start r → Breaks v block start r
  breaks_of block start r h =
      record {
        before = h.before;
        behind = h.behind;
        joined = h.joined;
        measured = h.measured;
        some = h.some;
        documents = h.good.1.documents;
        encoded = h.good.1.encoded;
        refused = h.refused;
      }

  stops_and_breaks : (block : List ℕ) (start other : ℕ) (s : TermsRefusal) (r : DocumentRefusal) → r ≢ refusals.HeapFull → Stops block start s → CanNotRead block other r → ⊥
  stops_and_breaks block start other s r room h k = told (lined v h.documents k.good.1.documents h.before h.behind k.before k.behind h.encoded k.good.1.encoded (sym h.joined ∙ k.joined))
    where
      told : Lined v h.documents k.good.1.documents h.behind k.behind → ⊥
      told (both_end docs left) = refused_begins v k.behind h.rest h.document r room k.refused (subst (λ (l : List ℕ). BeginsWithDocument v l h.rest h.document) left h.begins)
      told (second_longer d more left is begins) =
          has_and_not start d h.document (errors.NoTerms start s) (begins_same h.behind left h.rest d h.document begins h.begins) (member h.documents more k.good.1.documents d is (k.good.1.have_terms h.exact)) h.none
      told (first_longer d more left is begins) = refused_begins v k.behind left d r room k.refused begins

  -- what no bytes encode any bytes begin with
  of_nothing : (d : Document) (left : List ℕ) → BeginsWithDocument v [] left d → (bytes : List ℕ) → BeginsWithDocument v bytes bytes d
  of_nothing d left h bytes = at_prefix h.prefix (sym h.joined) h.encoded
    where
      at_prefix : (prefix : List ℕ) → prefix ++ left ≡ [] → EncodesDocument Legacy v prefix d → BeginsWithDocument v bytes bytes d
      at_prefix [] is encoded = record { prefix = []; joined = refl; encoded = encoded }
      at_prefix (b ∷ more) is encoded = absurd (cc)

  stops_apart : (block content : List ℕ) (start : ℕ) (s : TermsRefusal) → AreSchemaTerms with_faults schema v block content → Stops block start s → ⊥
  stops_apart block content start s all h = told (lined v h.documents all.documents h.before h.behind block [] h.encoded all.encoded (sym h.joined ∙ sym (append-nil block)))
    where
      told : Lined v h.documents all.documents h.behind [] → ⊥
      told (both_end docs left) = h.some left
      told (second_longer d more left is begins) =
          has_and_not start d h.document (errors.NoTerms start s) (begins_same h.behind left h.rest d h.document begins h.begins) (member h.documents more all.documents d is (all.have_terms h.exact)) h.none
      told (first_longer d more left is begins) =
          has_and_not start d h.document (errors.NoTerms start s) (begins_same h.behind h.behind h.rest d h.document (of_nothing d left begins h.behind) h.begins) (member all.documents more h.documents d is h.have_terms) h.none

  -- ---- one answer

  data TermsFault (block : List ℕ) (error : BlockError) : Type 0 where
    unread : (start : ℕ) (r : DocumentRefusal) → r ≢ refusals.HeapFull → CanNotRead block start r → error ≡ errors.BadDocument start r → TermsFault block error
    termless : (start : ℕ) (s : TermsRefusal) → Stops block start s → error ≡ errors.NoTerms start s → TermsFault block error

  terms_fault : (block : List ℕ) (error : BlockError) → IsDecided error → IsSchemaTermsRefusal with_faults schema v block error → TermsFault block error
  terms_fault block (errors.BadDocument start r) decided h = unread start r (has_room start r decided) h refl
  terms_fault block (errors.NoTerms start s) decided h = termless start s (stops block start s h) refl
  terms_fault block error decided h = absurd h

  terms_fault_one : (block : List ℕ) (one other : BlockError) → TermsFault block one → TermsFault block other → one ≡ other
  terms_fault_one block one other (unread start r room h is) (unread also q too k so) =
      let same = breaks_one v block start also r q room too (breaks_of block start r h) (breaks_of block also q k) in
      let said : errors.BadDocument start r ≡ errors.BadDocument also q = λ i. errors.BadDocument (same.0 i) (same.1 i) in
      is ∙ said ∙ sym so
  terms_fault_one block one other (unread start r room h is) (termless also s k so) = absurd (stops_and_breaks block also start s r room k h)
  terms_fault_one block one other (termless start s h is) (unread also r room k so) = absurd (stops_and_breaks block start also s r room h k)
  terms_fault_one block one other (termless start s h is) (termless also t k so) = is ∙ stops_one block start also s t h k ∙ sym so

  terms_apart : (block content : List ℕ) (error : BlockError) → AreSchemaTerms with_faults schema v block content → TermsFault block error → ⊥
  terms_apart block content error all (unread start r room h is) = breaks_none v block all.documents start r room all.encoded (breaks_of block start r h)
  terms_apart block content error all (termless start s h is) = stops_apart block content start s all h

  pub terms_answer : (block : List ℕ) → OneContent (AreSchemaTerms with_faults schema v block) → HasOneAnswer (AreSchemaTerms with_faults schema v block) (IsSchemaTermsRefusal with_faults schema v block)
  terms_answer block one = record {
    answer = one;
    error = λ first other decided too h k. terms_fault_one block first other (terms_fault block first decided h) (terms_fault block other too k);
    apart = λ content error decided h k. terms_apart block content error h (terms_fault block error decided k);
  }
