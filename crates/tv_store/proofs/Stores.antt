-- The stored pairs of a document.
use Rattle.std.proofs.Common.{◌≡◌, ℕ, suc, ◌≤◌, Bool, true, false, cond, List, [], ◌∷◌, ◌++◌, length, map, Ok, Err, refl, sym, ap, ◌∙◌, arith}
use Rattle.std.specs.List.{filter, flat_map}
use Rattle.std.proofs.lemmas.List.{append-nil}
use Rattle.std.proofs.lemmas.List.Concat.{flat_map-cons}
use Rattle.tv_base.specs.Number.{four_bytes}
use Rattle.tv_base.specs.Source.{Failures}
use Rattle.tv_base.specs.Sink.{WritesBy}
use Rattle.tv_base.specs.Writing.{io_stop}
use Rattle.tv_base.specs.declared.cause.WriteError.{WriteError}
use Rattle.tv_field.specs.Entry.{Entry}
use Rattle.tv_format.specs.Tree.{Tree, Document}
use Rattle.tv_format.specs.Short.{short, short_pair}
use Rattle.tv_format.specs.Version.{Version}
use Rattle.tv_writer.specs.Error.{write_error, write_stop}
use Rattle.tv_store.specs.Stored.{stored, tree_written, is_stored_field, written_pairs}

abbrev written : ℕ × Tree → ℕ × Tree
written p = (p.0, tree_written p.1)

cons_case : (b : Bool) (p : ℕ × Tree) (ps : Document) → map written (cond b (p ∷ ps) ps) ≡ cond b (written p ∷ map written ps) (map written ps)
cons_case true p ps = refl
cons_case false p ps = refl

pub stored-cons : (schema : List Entry) (p : ℕ × Tree) (d : Document) → stored schema (p ∷ d) ≡ cond (is_stored_field schema p.0) ((p.0, tree_written p.1) ∷ stored schema d) (stored schema d)
stored-cons schema p d = cons_case (is_stored_field schema p.0) p (filter (λ q. is_stored_field schema q.0) d)

fewer_case : (b : Bool) (p : ℕ × Tree) (ps d : Document) → length ps ≤ length d → length (cond b (p ∷ ps) ps) ≤ suc (length d)
fewer_case true p ps d h = omega arith
fewer_case false p ps d h = omega arith

-- they are no more than the pairs
pub stored_fewer : (schema : List Entry) (d : Document) → length (stored schema d) ≤ length d
stored_fewer schema [] = omega arith
stored_fewer schema (p ∷ d) = rw (stored-cons schema p d) (fewer_case (is_stored_field schema p.0) (written p) (stored schema d) d (stored_fewer schema d))

no : false ≡ true → ⊥
no e = absurd cc

next_case : (v : Version) (b : Bool) (p : ℕ × Tree) (ps : Document) → flat_map (short_pair v) (cond b (p ∷ ps) ps) ≡ flat_map (short_pair v) (cond b (p ∷ []) []) ++ flat_map (short_pair v) ps
next_case v true p ps = flat_map-cons (short_pair v) p ps ∙ ap (λ (l : List ℕ). l ++ flat_map (short_pair v) ps) (sym (flat_map-cons (short_pair v) p [] ∙ append-nil (short_pair v p)))
next_case v false p ps = refl

-- the first pair that is left, and the others
pub written_next : (v : Version) (schema : List Entry) (p : ℕ × Tree) (rest d : Document) → d ≡ p ∷ rest → written_pairs v schema d ≡ written_pairs v schema (p ∷ []) ++ written_pairs v schema rest
written_next v schema p rest d cut =
    ap (written_pairs v schema) cut ∙ ap (flat_map (short_pair v)) (stored-cons schema p rest) ∙ next_case v (is_stored_field schema p.0) (written p) (stored schema rest)
    ∙ ap (λ (l : List ℕ). l ++ written_pairs v schema rest) (ap (flat_map (short_pair v)) (sym (stored-cons schema p [])))

-- the first of all pairs that are left, and the others
pub pair_next : (v : Version) (field : ℕ) (t : Tree) (bytes : List ℕ) (rest d : Document) → d ≡ (field, t) ∷ rest → bytes ≡ short v t → flat_map (short_pair v) d ≡ (four_bytes field ++ bytes) ++ flat_map (short_pair v) rest
pair_next v field t bytes rest d cut is = ap (flat_map (short_pair v)) cut ∙ flat_map-cons (short_pair v) (field, t) rest ∙ ap (λ z. (four_bytes field ++ z) ++ flat_map (short_pair v) rest) (sym is)

-- what the sink told, in the words of the store
pub writes_for : {S T U : Type 0} {is_known : S → Type 0} {held : S → List ℕ} {failures : S → Failures} {old new : S} {failed : WriteError} {text : List ℕ}
    → WritesBy {T = T} io_stop is_known held failures old new (Err failed) (Ok text) → WritesBy {T = U} write_stop is_known held failures old new (Err (write_error failed)) (Ok text)
writes_for w = record { appends = w.appends; stays_known = w.stays_known; counts = w.counts }

pub writes_all : {S T U : Type 0} {is_known : S → Type 0} {held : S → List ℕ} {failures : S → Failures} {old new : S} {x : T} {y : U} {text : List ℕ}
    → WritesBy io_stop is_known held failures old new (Ok x) (Ok text) → WritesBy write_stop is_known held failures old new (Ok y) (Ok text)
writes_all w = record { appends = w.appends; stays_known = w.stays_known; counts = w.counts }
