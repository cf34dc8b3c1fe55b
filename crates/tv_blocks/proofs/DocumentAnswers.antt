-- Bytes begin with one document, or are refused in one way, and a document is written in one way.
use Rattle.std.proofs.Common.{◌≡◌, ◌≢◌, ◌∙◌, ◌∷◌, ◌++◌, ◌<◌, ◌≤◌, ℕ, List, [], sym, ap, subst, arith, length, take, drop}
use Rattle.std.proofs.lemmas.List.{length-take-le, take-append-drop}
use Rattle.tv_blocks.proofs.OneBreak.{refused_begins, refused_one}
use Rattle.tv_blocks.specs.Alike.{HasOneAnswer, IsDecided}
use Rattle.tv_blocks.specs.Documents.{IsForeignRefusal, IsStoredDocument, IsUnread, ReadsFirst}
use Rattle.tv_blocks.specs.declared.block_error.BlockError.{BlockError}
use Rattle.tv_blocks.specs.declared.block_error.BlockError.TheVariants as errors
use Rattle.tv_blocks.specs.declared.block_error.DocumentRefusal.{DocumentRefusal}
use Rattle.tv_blocks.specs.declared.block_error.DocumentRefusal.TheVariants as refusals
use Rattle.tv_doc.specs.Belongs.{Belongs}
use Rattle.tv_field.specs.Entry.{Entry}
use Rattle.tv_format.proofs.Trees.{one_document}
use Rattle.tv_format.specs.Tree.{Document, Tree}
use Rattle.tv_format.specs.Version.{Version}
use Rattle.tv_reader.proofs.UniqueLegacy.{one_legacy}
use Rattle.tv_reader.specs.Legacy.{Legacy}

-- an error that is decided isn't that a document has no room
pub has_room : (start : ℕ) (refusal : DocumentRefusal) → IsDecided (errors.BadDocument start refusal) → refusal ≢ refusals.HeapFull
has_room start refusal decided same = subst (λ (r : DocumentRefusal). IsDecided (errors.BadDocument start r)) same decided

-- ---- a document that is read

first_one : (v : Version) (bytes : List ℕ) (one other : Document × ℕ) → ReadsFirst v bytes one.0 one.1 → ReadsFirst v bytes other.0 other.1 → one ≡ other
first_one v bytes one other h k =
    let joined = take-append-drop one.1 bytes ∙ sym (take-append-drop other.1 bytes) in
    let both = one_document Legacy v one_legacy (take one.1 bytes) (take other.1 bytes) (drop one.1 bytes) (drop other.1 bytes) one.0 other.0 h.encoded k.encoded joined in
    let taken : one.1 ≡ other.1 = sym (length-take-le one.1 bytes h.within) ∙ ap length both.0 ∙ length-take-le other.1 bytes k.within in
    λ i. (both.1 i, taken i)

unread_one : (v : Version) (bytes : List ℕ) (one other : BlockError) → IsDecided one → IsDecided other → IsUnread v bytes one → IsUnread v bytes other → one ≡ other
unread_one v bytes (errors.BadDocument start r) (errors.BadDocument other s) decided too h k =
    let starts : start ≡ other = h.1 ∙ sym k.1 in
    let refusals = refused_one v bytes r s (has_room start r decided) (has_room other s too) h.0 k.0 in
    λ i. errors.BadDocument (starts i) (refusals i)
unread_one v bytes errors.Memory other decided too h k = absurd decided
unread_one v bytes one errors.Memory decided too h k = absurd too
unread_one v bytes (errors.BadDocument start r) other decided too h k = absurd k
unread_one v bytes one other decided too h k = absurd h

unread_apart : (v : Version) (bytes : List ℕ) (d : Document) (taken : ℕ) (error : BlockError) → IsDecided error → ReadsFirst v bytes d taken → IsUnread v bytes error → ⊥
unread_apart v bytes d taken (errors.BadDocument start r) decided h k =
    refused_begins v bytes (drop taken bytes) d r (has_room start r decided) k.0 (record { prefix = take taken bytes; joined = sym (take-append-drop taken bytes); encoded = h.encoded })
unread_apart v bytes d taken errors.Memory decided h k = decided
unread_apart v bytes d taken error decided h k = k

pub first_answer : (v : Version) (bytes : List ℕ) → HasOneAnswer (λ (one : Document × ℕ). ReadsFirst v bytes one.0 one.1) (IsUnread v bytes)
first_answer v bytes = record {
  answer = first_one v bytes;
  error = unread_one v bytes;
  apart = λ one error decided h k. unread_apart v bytes one.0 one.1 error decided h k;
}

-- ---- a document that is written

belongs_first : (schema : List Entry) (before behind : Document) (f : ℕ) (x : Tree) → Belongs schema (before ++ (f, x) ∷ behind) → f < length schema
belongs_first schema [] behind f x h = h.0
belongs_first schema (p ∷ before) behind f x h = belongs_first schema before behind f x h.1

abbrev first_field : Document → ℕ
first_field [] = 0
first_field (pair ∷ pairs) = pair.0

abbrev without_first : Document → Document
without_first [] = []
without_first (pair ∷ pairs) = pairs

first_foreign : (schema : List Entry) (before also behind rest : Document) (f g : ℕ) (x y : Tree) → Belongs schema before → Belongs schema also → length schema ≤ f → length schema ≤ g → before ++ (f, x) ∷ behind ≡ also ++ (g, y) ∷ rest → f ≡ g
first_foreign schema [] [] behind rest f g x y h k out too joined = ap first_field joined
first_foreign schema [] (p ∷ also) behind rest f g x y h k out too joined =
    let same : f ≡ p.0 = ap first_field joined in absurd (omega (arith, same, k.0, out))
first_foreign schema (p ∷ before) [] behind rest f g x y h k out too joined =
    let same : p.0 ≡ g = ap first_field joined in absurd (omega (arith, same, h.0, too))
first_foreign schema (p ∷ before) (q ∷ also) behind rest f g x y h k out too joined =
    let more : before ++ (f, x) ∷ behind ≡ also ++ (g, y) ∷ rest = ap without_first joined in
    first_foreign schema before also behind rest f g x y h.1 k.1 out too more

foreign_one : (schema : List Entry) (d : Document) (one other : BlockError) → IsForeignRefusal schema d one → IsForeignRefusal schema d other → one ≡ other
foreign_one schema d (errors.ForeignField f) (errors.ForeignField g) h k =
    ap errors.ForeignField (first_foreign schema h.before k.before h.behind k.behind f g h.value k.value h.belongs k.belongs h.outside k.outside (sym h.joined ∙ k.joined))
foreign_one schema d (errors.ForeignField f) other h k = absurd k
foreign_one schema d one other h k = absurd h

foreign_apart : (schema : List Entry) (d : Document) (error : BlockError) → Belongs schema d → IsForeignRefusal schema d error → ⊥
foreign_apart schema d (errors.ForeignField f) h k =
    let inside = belongs_first schema k.before k.behind f k.value (subst (Belongs schema) k.joined h) in omega (arith, inside, k.outside)
foreign_apart schema d error h k = k

pub stored_answer : (schema : List Entry) (v : Version) (d : Document) → HasOneAnswer (IsStoredDocument schema v d) (IsForeignRefusal schema d)
stored_answer schema v d = record {
  answer = λ one other h k. h.written ∙ sym k.written;
  error = λ one other decided too h k. foreign_one schema d one other h k;
  apart = λ one error decided h k. foreign_apart schema d error h.belongs k;
}
