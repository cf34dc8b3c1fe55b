-- The records of terms, value by value and document by document.
use Rattle.std.proofs.Common.{◌≡◌, ℕ, suc, ◌+◌, List, [], ◌∷◌, ◌++◌, length, Result, Ok, Err, if◌then◌else◌, sym, ap, ◌∙◌, arith, append_assoc, append-nil, length-append}
use Rattle.std.specs.Int.{to_le_bytes, w64}
use Rattle.std.specs.List.{flat_map}
use Rattle.std.specs.Prelude.{OnOk}
use Rattle.std.specs.Result.{is_ok}
use Rattle.tv_blocks.specs.Records.{record_of}
use Rattle.tv_blocks.specs.Terms.{TermsSoFar, document_records, records_from, term_record}
use Rattle.tv_store.proofs.BlocksSoFar.{each-snoc, joined_more}
use Rattle.tv_format.specs.Encoding.{EncodesDocument}
use Rattle.tv_format.specs.Tree.{Tree, Document}
use Rattle.tv_format.specs.Version.{Version}
use Rattle.tv_indexing.specs.LeafTerms.{tree_value}
use Rattle.tv_reader.specs.Legacy.{Legacy}
use Rattle.tv_store.specs.Documents.{BeginsWithDocument}

-- the records of these values
abbrev pub value_records : ℕ → ℕ → List Tree → List ℕ
value_records number field trees = flat_map (λ tree. term_record number field (tree_value tree)) trees

pub one_value : (number field : ℕ) (old new whole : List ℕ) (tree : Tree) (left next : List Tree) → left ≡ tree ∷ next → old ++ value_records number field left ≡ whole
    → new ≡ old ++ term_record number field (tree_value tree) → new ++ value_records number field next ≡ whole
one_value number field old new whole tree left next cut so_far added =
    ap (λ (l : List ℕ). l ++ value_records number field next) added ∙ append_assoc old (term_record number field (tree_value tree)) (value_records number field next)
    ∙ ap (λ (trees : List Tree). old ++ value_records number field trees) (sym cut) ∙ so_far

records-snoc : (first field : ℕ) (documents : List Document) (d : Document) → records_from first field (documents ++ d ∷ []) ≡ records_from first field documents ++ document_records (first + length documents) field d
records-snoc first field [] d =
    let at : first ≡ first + 0 = omega arith in
    append-nil (document_records first field d) ∙ ap (λ (n : ℕ). document_records n field d) at
records-snoc first field (e ∷ es) d =
    let at : suc first + length es ≡ first + length (e ∷ es) = omega arith in
    ap (λ (l : List ℕ). document_records first field e ++ l) (records-snoc (suc first) field es d ∙ ap (λ (n : ℕ). records_from (suc first) field es ++ document_records n field d) at)
    ∙ sym (append_assoc (document_records first field e) (records_from (suc first) field es) (document_records (first + length (e ∷ es)) field d))

pub terms_more : {v : Version} {field : ℕ} {block rest now content more : List ℕ} {number : ℕ} (d : Document) → TermsSoFar v field block rest content number
    → BeginsWithDocument v rest now d → more ≡ content ++ document_records number field d → TermsSoFar v field block now more (number + 1)
terms_more {v} {field} {block} {rest} {now} {content} {more} {number} d m b added = record {
  before = m.before ++ b.prefix;
  joined = joined_more block m.before rest b.prefix now m.joined b.joined;
  documents = m.documents ++ d ∷ [];
  counted = let sum = length-append m.documents (d ∷ []) in omega (arith, sum, m.counted);
  encoded = each-snoc (EncodesDocument Legacy v) m.before b.prefix m.documents d m.encoded b.encoded;
  listed = let at : number ≡ 0 + length m.documents = omega (arith, m.counted) in added ∙ ap (λ (l : List ℕ). l ++ document_records number field d) m.listed
      ∙ ap (λ (n : ℕ). records_from 0 field m.documents ++ document_records n field d) at ∙ sym (records-snoc 0 field m.documents d);
}

-- a record is appended piece by piece
pub record_added : {E : Type 0} (result : Result (Unit {0}) E) (document : ℕ) (old one two three head size bytes serialized : List ℕ) → one ≡ old ++ head → two ≡ one ++ size → three ≡ (if is_ok result then two ++ bytes else two)
    → head ≡ to_le_bytes w64 document → size ≡ to_le_bytes w64 (length bytes) → bytes ≡ serialized → OnOk result (three ≡ old ++ record_of document serialized)
record_added (Ok x) document old one two three head size bytes serialized first second third is_head is_size is_bytes =
    third ∙ ap (λ (l : List ℕ). l ++ bytes) (second ∙ ap (λ (l : List ℕ). l ++ size) first) ∙ append_assoc (old ++ head) size bytes ∙ append_assoc old head (size ++ bytes)
    ∙ ap (λ (l : List ℕ). old ++ (l ++ (size ++ bytes))) is_head ∙ ap (λ (l : List ℕ). old ++ (to_le_bytes w64 document ++ (l ++ bytes))) is_size
    ∙ ap (λ (l : List ℕ). old ++ (to_le_bytes w64 document ++ (to_le_bytes w64 (length l) ++ l))) is_bytes
record_added (Err e) document old one two three head size bytes serialized first second third is_head is_size is_bytes = tt
