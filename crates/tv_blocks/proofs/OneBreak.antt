-- A block breaks at one document, for one reason.
use Rattle.std.proofs.Common.{◌≡◌, ◌≢◌, ◌∙◌, ◌∷◌, ◌++◌, ℕ, List, [], refl, sym, ap, subst, arith, length, length-append, append-nil}
use Rattle.tv_base.specs.Parts.{Begins}
use Rattle.tv_blocks.specs.Refusals.{Breaks, RefusesDocument}
use Rattle.tv_blocks.specs.declared.block_error.DocumentRefusal.{DocumentRefusal}
use Rattle.tv_blocks.specs.declared.block_error.DocumentRefusal.TheVariants as refusals
use Rattle.tv_format.specs.Encoding.{EncodesDocument}
use Rattle.tv_format.specs.InputError.{corrupted, no_text_key}
use Rattle.tv_format.specs.Tree.{Document}
use Rattle.tv_format.specs.Version.{Version}
use Rattle.tv_reader.specs.Legacy.{Legacy}
use Rattle.tv_store.proofs.Alike.{one_refusal}
use Rattle.tv_store.proofs.MigratedAlike.{Compared, compared}
use Rattle.tv_store.proofs.MigratedAlike.Compared.{same_documents, first_ends, second_ends}
use Rattle.tv_store.proofs.Promises.{excluded}
use Rattle.tv_store.specs.BlockMigration.{EncodesBlock}

-- a document that is refused begins none, unless it has no room
pub refused_begins : (v : Version) (bytes left : List ℕ) (d : Document) (r : DocumentRefusal) → r ≢ refusals.HeapFull → RefusesDocument v bytes r → Begins (λ b. EncodesDocument Legacy v b d) bytes left → ⊥
refused_begins v bytes left d (refusals.Corrupted cause) room refused begins = excluded v bytes begins.prefix left d (corrupted cause) begins.joined begins.encoded refused
refused_begins v bytes left d refusals.KeyIsNoText room refused begins = excluded v bytes begins.prefix left d (no_text_key refused.0) begins.joined begins.encoded refused.1
refused_begins v bytes left d refusals.HeapFull room refused begins = absurd (room refl)

-- and is refused in one way
pub refused_one : (v : Version) (bytes : List ℕ) (r s : DocumentRefusal) → r ≢ refusals.HeapFull → s ≢ refusals.HeapFull → RefusesDocument v bytes r → RefusesDocument v bytes s → r ≡ s
refused_one v bytes (refusals.Corrupted cause) (refusals.Corrupted other) room too h k =
    let same = one_refusal v bytes (corrupted cause) (corrupted other) h k in
    let causes : cause ≡ other = cc (same) in
    ap refusals.Corrupted causes
refused_one v bytes (refusals.Corrupted cause) refusals.KeyIsNoText room too h k = let same = one_refusal v bytes (corrupted cause) (no_text_key k.0) h k.1 in absurd (cc (same))
refused_one v bytes refusals.KeyIsNoText (refusals.Corrupted cause) room too h k = let same = one_refusal v bytes (corrupted cause) (no_text_key h.0) k h.1 in absurd (cc (same))
refused_one v bytes refusals.KeyIsNoText refusals.KeyIsNoText room too h k = refl
refused_one v bytes refusals.HeapFull s room too h k = absurd (room refl)
refused_one v bytes r refusals.HeapFull room too h k = absurd (too refl)

pub breaks_one : (version : Version) (block : List ℕ) (start other : ℕ) (refusal also : DocumentRefusal) → refusal ≢ refusals.HeapFull → also ≢ refusals.HeapFull → Breaks version block start refusal → Breaks version block other also → (start ≡ other) × (refusal ≡ also)
breaks_one v block start other refusal also room too h k = told (compared v h.documents k.documents h.before h.behind k.before k.behind h.encoded k.encoded joined)
  where
    joined : h.before ++ h.behind ≡ k.before ++ k.behind
    joined = sym h.joined ∙ k.joined

    told : Compared v h.documents k.documents h.behind k.behind → (start ≡ other) × (refusal ≡ also)
    told (same_documents docs left) = (
      omega (arith, ap length joined, ap length left, length-append h.before h.behind, length-append k.before k.behind, h.measured, k.measured),
      refused_one v k.behind refusal also room too (subst (λ (l : List ℕ). RefusesDocument v l refusal) left h.refused) k.refused,
    )
    told (first_ends d left begins) = absurd (refused_begins v h.behind left d refusal room h.refused begins)
    told (second_ends d left begins) = absurd (refused_begins v k.behind left d also too k.refused begins)

pub breaks_none : (version : Version) (block : List ℕ) (documents : List Document) (start : ℕ) (refusal : DocumentRefusal) → refusal ≢ refusals.HeapFull → EncodesBlock version block documents → ¬ Breaks version block start refusal
breaks_none v block ds start refusal room encoded h = told (compared v ds h.documents block [] h.before h.behind encoded h.encoded (append-nil block ∙ h.joined))
  where
    told : Compared v ds h.documents [] h.behind → ⊥
    told (same_documents docs left) = h.some (sym left)
    told (first_ends d left begins) = at_prefix begins.prefix (sym begins.joined) begins.encoded
      where
        at_prefix : (prefix : List ℕ) → prefix ++ left ≡ [] → EncodesDocument Legacy v prefix d → ⊥
        at_prefix [] is first = refused_begins v h.behind h.behind d refusal room h.refused (record { prefix = []; joined = refl; encoded = first })
        at_prefix (b ∷ bytes) is first = absurd (cc)
    told (second_ends d left begins) = refused_begins v h.behind left d refusal room h.refused begins
