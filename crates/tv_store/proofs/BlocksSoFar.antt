-- What was read of a block so far.
use Rattle.std.proofs.Common.{true, Ok, Err, ◌≡◌, ℕ, ◌+◌, ◌-◌, ◌^◌, ◌<◌, ◌≤◌, false, List, [], ◌∷◌, ◌++◌, length, refl, sym, subst, ap, ◌∙◌, arith, append_assoc, append-nil, length-append}
use Rattle.tv_base.specs.Parts.{Begins, Each}
use Rattle.tv_base.specs.declared.source.ByteSource.{Ghosts}
use Rattle.tv_format.specs.Tree.{Document}
use Rattle.tv_format.specs.Version.{Version}
use Rattle.tv_reader.specs.Version.{version_of}
use Rattle.tv_store.specs.BlockSteps.{StepsBlock, refusal_of}
use Rattle.tv_store.specs.Projections.{EncodesBlockWithin, EncodesWithinLimits, IsReason, IsRefusedAt, ReadsOne, ReadsProjected, limits_of}
use Rattle.tv_store.specs.declared.block.BlockReader.{BlockReader}
use Rattle.tv_store.specs.declared.block.RefusedDocument.{RefusedDocument}
use Rattle.tv_store.specs.declared.limits.LimitedReadError.{LimitedReadError}
use Rattle.tv_store.specs.declared.limits.ReadLimits.{ReadLimits}
use Rattle.tv_store.specs.declared.projection.Projection.{Projection}
use Rattle.tv_store.proofs.Projections.{place_after, start_after}

-- ---- one more

pub each-snoc : {A : Type 0} (R : List ℕ → A → Type 0) (before bytes : List ℕ) (xs : List A) (x : A) → Each R before xs → R bytes x → Each R (before ++ bytes) (xs ++ x ∷ [])
each-snoc R before bytes [] x none r =
    record { prefix = bytes; rest = []; joined = ap (λ (l : List ℕ). l ++ bytes) none ∙ sym (append-nil bytes); first = r; second = refl }
each-snoc R before bytes (y ∷ ys) x t r = record {
  prefix = t.prefix;
  rest = t.rest ++ bytes;
  joined = ap (λ (l : List ℕ). l ++ bytes) t.joined ∙ append_assoc t.prefix t.rest bytes;
  first = t.first;
  second = each-snoc R t.rest bytes ys x t.second r;
}

pub joined_more : (block before rest bytes now : List ℕ) → block ≡ before ++ rest → rest ≡ bytes ++ now → block ≡ (before ++ bytes) ++ now
joined_more block before rest bytes now e f = e ∙ ap (λ (l : List ℕ). before ++ l) f ∙ sym (append_assoc before bytes now)

-- where the rest begins
pub start_at : (block before rest : List ℕ) (start : ℕ) → block ≡ before ++ rest → start + length rest ≡ length block → start ≡ length before
start_at block before rest start joined sum = omega (arith, sum, ap length joined, length-append before rest)

-- ---- the documents so far

-- the documents before the rest, of this number, and where the rest begins
pub record ReadSoFar (v : Version) (limits : ReadLimits) (block rest : List ℕ) (number start : ℕ) : Type 0 where
  pub before : List ℕ
  pub joined : block ≡ before ++ rest
  pub documents : List Document
  pub encoded : EncodesBlockWithin v limits before documents
  pub counted : number ≡ length documents
  pub few : number + length rest ≤ length block
  pub begins : length block < 2 ^ 64 - 1 → start ≡ length before

abbrev pub read_none : (v : Version) (limits : ReadLimits) (block : List ℕ) (start : ℕ) → start ≡ 0 → ReadSoFar v limits block block 0 start
read_none v limits block start is = record { before = []; joined = refl; documents = []; encoded = refl; counted = refl; few = omega arith; begins = λ few. is }

module _ {v : Version} {limits : ReadLimits} {block rest : List ℕ} {number start : ℕ} (m : ReadSoFar v limits block rest number start) where
  abbrev pub read_more : {now : List ℕ} {next : ℕ} (d : Document) (h : Begins (λ b. EncodesWithinLimits v limits b d) rest now) → length now < length rest → (start + length rest < 2 ^ 64 → next + length now ≡ start + length rest)
      → ReadSoFar v limits block now (number + 1) next
  read_more {now} {next} d h fewer placed = record {
    before = m.before ++ h.prefix;
    joined = joined_more block m.before rest h.prefix now m.joined h.joined;
    documents = m.documents ++ d ∷ [];
    encoded = each-snoc (EncodesWithinLimits v limits) m.before h.prefix m.documents d m.encoded h.encoded;
    counted = omega (arith, m.counted, length-append m.documents (d ∷ []));
    few = omega (arith, m.few, fewer);
    begins = λ few.
        let sum = ap length m.joined ∙ length-append m.before rest in
        let at = m.begins few in
        let next_at = placed (omega (arith, few, sum, at)) in
        omega (arith, sum, at, next_at, ap length h.joined, length-append h.prefix now, length-append m.before h.prefix);
  }

  -- where the rest begins
  pub begins_at : length m.before + length rest < 2 ^ 64 - 1 → start ≡ length m.before
  begins_at few = m.begins (omega (arith, few, ap length m.joined, length-append m.before rest))

  pub whole_before : rest ≡ [] → block ≡ m.before
  whole_before none = m.joined ∙ ap (λ (l : List ℕ). m.before ++ l) none ∙ append-nil m.before

-- ---- the next document

-- it was read
pub one_read : {S : Type 0} {source : Ghosts S} {source_old source_new : S} {old new : BlockReader} {v : Version} {projection : Projection} {IsKept : Document → Type 0} → version_of old.version ≡ v → source.is_known source_old
    → ReadsProjected projection IsKept source source_old source_new old new (Ok true) → ReadsOne v projection IsKept (source.left source_old) (source.left source_new) (Ok true)
one_read {source = source} {source_old = source_old} {source_new = source_new} {projection = projection} {IsKept = IsKept} same known reads =
    subst (λ (u : Version). ReadsOne u projection IsKept (source.left source_old) (source.left source_new) (Ok true)) same (reads.one known)

module _ {S : Type 0} {source : Ghosts S} {source_old source_new : S} {old new : BlockReader} {v : Version} {projection : Projection} {block : List ℕ} {number : ℕ} (m : ReadSoFar v (limits_of projection) block (source.left source_old) number old.start) (live : old.failed ≡ false) (known : source.is_known source_old) where
  pub read_next : {MayCome : RefusedDocument → Type 0} {again : RefusedDocument} {IsKept : Document → Type 0} → version_of old.version ≡ v → StepsBlock MayCome again source source_old source_new old new (Ok true) → ReadsProjected projection IsKept source source_old source_new old new (Ok true)
      → ReadSoFar v (limits_of projection) block (source.left source_new) (number + 1) new.start
  read_next same steps reads = let one = one_read same known reads in read_more m one.0 one.1 (steps.fewer known refl) (start_after steps live known)

  -- it is refused
  pub refused_at : {E : Type 0} {MayCome : E → Type 0} {again error : E} (why : LimitedReadError) (e : RefusedDocument) → e ≡ refusal_of new why → StepsBlock MayCome again source source_old source_new old new (Err error)
      → IsReason v projection (source.left source_old) (source.left source_new) why → IsRefusedAt v projection (source.left source_old) (source.left source_new) (length m.before) e
  refused_at why e is steps reason = record {
    reason = subst (λ (z : LimitedReadError). IsReason v projection (source.left source_old) (source.left source_new) z) (sym (ap (λ (z : RefusedDocument). z.error) is)) reason;
    begins = λ few. ap (λ (z : RefusedDocument). z.start) is ∙ steps.counted.start ∙ begins_at m few;
    placed = λ few.
        let at = begins_at m few in
        let room : old.start + length (source.left source_old) < 2 ^ 64 = omega (arith, few, at) in
        let place = place_after steps live known room in
        omega (arith, ap (λ (z : RefusedDocument). z.place) is, place, at);
  }

  pub refused_next : {MayCome : RefusedDocument → Type 0} {again e : RefusedDocument} {IsKept : Document → Type 0} → version_of old.version ≡ v → StepsBlock MayCome again source source_old source_new old new (Err e) → ReadsProjected projection IsKept source source_old source_new old new (Err e)
      → IsRefusedAt v projection (source.left source_old) (source.left source_new) (length m.before) e
  refused_next {e = e} {IsKept = IsKept} same steps reads = refused_at e.error e reads.placed steps (subst (λ (u : Version). ReadsOne u projection IsKept (source.left source_old) (source.left source_new) (Err e.error)) same (reads.one known))

-- how many come before it
pub refused_number : {S : Type 0} {source : Ghosts S} {source_old source_new : S} {old new : BlockReader} {projection : Projection} {MayCome : RefusedDocument → Type 0} {again : RefusedDocument} {IsKept : Document → Type 0} {e : RefusedDocument}
    → StepsBlock MayCome again source source_old source_new old new (Err e) → ReadsProjected projection IsKept source source_old source_new old new (Err e) → e.document ≡ old.documents
refused_number steps reads = ap (λ (z : RefusedDocument). z.document) reads.placed ∙ steps.counted.documents
