-- The records of the values of a field.
use Rattle.std.proofs.Common.{◌≡◌, ℕ, suc, ◌+◌, Bool, true, false, ◌||◌, cond, List, [], ◌∷◌, ◌++◌, length, map, Result, Ok, Err, refl, sym, ap, ◌∙◌, arith, append_assoc, append-nil, length-append}
use Rattle.std.specs.List.{filter, flat_map}
use Rattle.std.specs.Prelude.{OnOk, nat_eq}
use Rattle.tv_base.specs.Parts.{Begins}
use Rattle.tv_blocks.proofs.Stops.{IsUnreadAt, RefusesBy}
use Rattle.tv_blocks.specs.FieldValues.{IsValuesBlockRefusal, RefusesBlockValues, ValuesSoFar, content_record, document_values, leaf_content, value_record, values_from}
use Rattle.tv_blocks.specs.declared.block_error.BlockError.{BlockError}
use Rattle.tv_blocks.specs.declared.block_error.BlockError.TheVariants as blocks
use Rattle.tv_blocks.specs.declared.block_error.DocumentRefusal.{DocumentRefusal}
use Rattle.tv_blocks.specs.declared.block_error.DocumentRefusal.TheVariants as documents
use Rattle.tv_blocks.specs.declared.field_values.ValueKind.{ValueKind}
use Rattle.tv_doc.specs.FieldValues.{values_of}
use Rattle.tv_format.specs.Encoding.{EncodesDocument}
use Rattle.tv_format.specs.Tree.{Document, Leaf, Tree, leaf}
use Rattle.tv_format.specs.Version.{Version}
use Rattle.tv_reader.specs.Legacy.{Legacy}
use Rattle.tv_reading.specs.ChosenFields.{HasNoRoomChosen, chosen, is_among}
use Rattle.tv_store.proofs.BlocksSoFar.{each-snoc, joined_more, start_at}
use Rattle.tv_store.specs.Reading.{EncodesChosenPairs}
use Rattle.tv_value.specs.declared.field.Field.{Field}

-- ---- values

-- the record of a leaf is that of the value that is the leaf
pub leaf_appended : {E : Type 0} (result : Result (Unit {0}) E) (old new : List ℕ) (document : ℕ) (tree : Tree) (l : Leaf) (kind : ValueKind) (bytes : List ℕ) → leaf l ≡ tree → (kind, bytes) ≡ leaf_content l
    → OnOk result (new ≡ old ++ content_record document (kind, bytes)) → OnOk result (new ≡ old ++ value_record document tree)
leaf_appended (Ok x) old new document tree l kind bytes is content added =
    added ∙ ap (λ c. old ++ content_record document c) content ∙ ap (λ t. old ++ value_record document t) is
leaf_appended (Err e) old new document tree l kind bytes is content added = tt

-- ---- the pairs of one field

eqb-sym : (a b : ℕ) → nat_eq a b ≡ nat_eq b a
eqb-sym a b = grind arith

-- what passes the one test passes the other
same_kept : (T A : ℕ × Tree → Bool) (p : ℕ × Tree) (d : Document) (b : Bool) → T p ≡ b → A p ≡ b → filter T (filter A d) ≡ filter T d → filter T (filter A (p ∷ d)) ≡ filter T (p ∷ d)
same_kept T A p d true t a below =
    ap (λ x. filter T (cond x (p ∷ filter A d) (filter A d))) a ∙ ap (λ x. cond x (p ∷ filter T (filter A d)) (filter T (filter A d))) t ∙ ap (λ l. p ∷ l) below ∙ sym (ap (λ x. cond x (p ∷ filter T d) (filter T d)) t)
same_kept T A p d false t a below =
    ap (λ x. filter T (cond x (p ∷ filter A d) (filter A d))) a ∙ below ∙ sym (ap (λ x. cond x (p ∷ filter T d) (filter T d)) t)

or-false : (b : Bool) → (b || false) ≡ b
or-false true = refl
or-false false = refl

kept : (f : Field) (d : Document) → filter (λ pair. nat_eq pair.0 f.id) (chosen (f ∷ []) d) ≡ filter (λ pair. nat_eq pair.0 f.id) d
kept f [] = refl
kept f (p ∷ d) = same_kept (λ pair. nat_eq pair.0 f.id) (λ pair. is_among (f ∷ []) pair.0) p d (nat_eq p.0 f.id) refl (or-false (nat_eq f.id p.0) ∙ eqb-sym f.id p.0) (kept f d)

-- the values of a field are those of the pairs that are chosen for it
pub chosen_values : (f : Field) (d : Document) → values_of f.id (chosen (f ∷ []) d) ≡ values_of f.id d
chosen_values f d = ap (map (λ pair. pair.1)) (kept f d)

-- ---- documents of a block

values-snoc : (first field : ℕ) (documents : List Document) (d : Document) → values_from first field (documents ++ d ∷ []) ≡ values_from first field documents ++ document_values (first + length documents) field d
values-snoc first field [] d =
    let at : first ≡ first + 0 = omega arith in
    append-nil (document_values first field d) ∙ ap (λ (n : ℕ). document_values n field d) at
values-snoc first field (e ∷ es) d =
    let at : suc first + length es ≡ first + length (e ∷ es) = omega arith in
    ap (λ (l : List ℕ). document_values first field e ++ l) (values-snoc (suc first) field es d ∙ ap (λ (n : ℕ). values_from (suc first) field es ++ document_values n field d) at)
    ∙ sym (append_assoc (document_values first field e) (values_from (suc first) field es) (document_values (first + length (e ∷ es)) field d))

pub more_values : {v : Version} {block rest now content more : List ℕ} {number : ℕ} (field : Field) (pairs : Document) → ValuesSoFar v field.id block rest content number
    → Begins (λ b. EncodesChosenPairs v (field ∷ []) b pairs) rest now → more ≡ content ++ document_values number field.id pairs → ValuesSoFar v field.id block now more (number + 1)
more_values {v} {block} {rest} {now} {content} {more} {number} field pairs m b added =
    let d = b.encoded.0 in
    let values : values_of field.id pairs ≡ values_of field.id d = ap (values_of field.id) b.encoded.2 ∙ chosen_values field d in
    let at : number ≡ 0 + length m.documents = omega (arith, m.counted) in
    record {
      before = m.before ++ b.prefix;
      joined = joined_more block m.before rest b.prefix now m.joined b.joined;
      documents = m.documents ++ d ∷ [];
      counted = let sum = length-append m.documents (d ∷ []) in omega (arith, sum, m.counted);
      encoded = each-snoc (EncodesDocument Legacy v) m.before b.prefix m.documents d m.encoded b.encoded.1;
      listed = added ∙ ap (λ (trees : List Tree). content ++ flat_map (value_record number) trees) values ∙ ap (λ (l : List ℕ). l ++ document_values number field.id d) m.listed
          ∙ ap (λ (n : ℕ). values_from 0 field.id m.documents ++ document_values n field.id d) at ∙ sym (values-snoc 0 field.id m.documents d);
    }

-- ---- where they stop

as_values : (v : Version) (field : Field) (bytes : List ℕ) (refusal : DocumentRefusal) → RefusesBy (HasNoRoomChosen v (field ∷ [])) v refusal bytes → RefusesBlockValues v field.id refusal bytes
as_values v field bytes (documents.Corrupted cause) h = h
as_values v field bytes documents.KeyIsNoText h = h
as_values v field bytes documents.HeapFull h = h

pub unread_values : {v : Version} {block rest content : List ℕ} {number : ℕ} (field : Field) (start : ℕ) (e : BlockError) → ValuesSoFar v field.id block rest content number → start + length rest ≡ length block
    → IsUnreadAt (HasNoRoomChosen v (field ∷ [])) v rest start e → IsValuesBlockRefusal v field.id block e
unread_values {v} {block} {rest} {content} field start (blocks.BadDocument place refusal) m at unread =
    record { before = m.before; behind = rest; joined = m.joined; measured = unread.0 ∙ start_at block m.before rest start m.joined at; good = (m.documents, m.encoded); some = unread.1; refused = as_values v field rest refusal unread.2 }
unread_values {v} {block} {rest} {content} field start blocks.Memory m at unread = tt
unread_values {v} {block} {rest} {content} field start e m at unread = absurd unread
