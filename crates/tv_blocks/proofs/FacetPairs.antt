-- Pairs of a document and a facet, out of their records.
use Rattle.std.proofs.Common.{◌≡◌, ℕ, zero, suc, ◌+◌, ◌^◌, ◌<◌, ◌≤◌, Bool, true, false, Result, Ok, Err, if◌then◌else◌, List, [], ◌∷◌, ◌++◌, length, take, drop, get_or, map, sym, subst, ap, ◌∙◌, arith, append_assoc, length-append}
use Rattle.std.proofs.lemmas.List.{flat_map_more, length-take-le, map_more, take-append-drop}
use Rattle.std.proofs.lemmas.Nat.{le_bytes_8, from_le_bytes-to_le_bytes_8}
use Rattle.std.proofs.Math.Seq.{drop-append_seam, take-append_seam}
use Rattle.std.specs.Int.{from_le_bytes, to_le_bytes, w64}
use Rattle.std.specs.List.{AllByRecursion, flat_map}
use Rattle.std.specs.Prelude.{IsUtf8, MatchResult}
use Rattle.std.specs.Result.{is_err, is_ok}
use Rattle.tv_blocks.specs.FacetCounts.{AreDocumentFacets, BeginsWithNoPair, IsDocumentFacet, PairsSoFar, facet_record}
use Rattle.tv_blocks.specs.Records.{record_of}
use Rattle.tv_base.specs.FacetCounting.{entry_of}
use Rattle.tv_base.specs.declared.facet_counts.FacetCount.{FacetCount}

-- ---- one record

-- bytes that are the first of others, or stand after these
pub small_first : (n : ℕ) (l : List ℕ) → ((i : ℕ) → get_or l i 0 < 256) → (i : ℕ) → get_or (take n l) i 0 < 256
small_first zero l small i = omega arith
small_first (suc n) [] small i = omega arith
small_first (suc n) (x ∷ l) small zero = small 0
small_first (suc n) (x ∷ l) small (suc i) = small_first n l (λ j. small (suc j)) i

pub small_behind : (n : ℕ) (l : List ℕ) → ((i : ℕ) → get_or l i 0 < 256) → (i : ℕ) → get_or (drop n l) i 0 < 256
small_behind zero l small i = small i
small_behind (suc n) [] small i = omega arith
small_behind (suc n) (x ∷ l) small i = small_behind n l (λ j. small (suc j)) i

-- what stands in a record, and after it
pub record_read : (bytes head behind size more facet rest : List ℕ) (document len : ℕ) → ((i : ℕ) → get_or bytes i 0 < 256) → 8 ≤ length bytes → 8 ≤ length behind
    → head ≡ take 8 bytes → behind ≡ drop 8 bytes → size ≡ take 8 behind → more ≡ drop 8 behind → document ≡ from_le_bytes w64 head → len ≡ from_le_bytes w64 size
    → len ≤ length more → facet ≡ take len more → rest ≡ drop len more → length facet ≡ len
    → bytes ≡ record_of document facet ++ rest
record_read bytes head behind size more facet rest document len small some_bytes some_behind is_head is_behind is_size is_more is_document is_len within is_facet is_rest facet_len =
    let head_len : length head ≡ 8 = ap length is_head ∙ length-take-le 8 bytes some_bytes in
    let size_len : length size ≡ 8 = ap length is_size ∙ length-take-le 8 behind some_behind in
    let small_head : (i : ℕ) → get_or head i 0 < 256 = subst (λ (l : List ℕ). (i : ℕ) → get_or l i 0 < 256) (sym is_head) (small_first 8 bytes small) in
    let small_size : (i : ℕ) → get_or size i 0 < 256 = subst (λ (l : List ℕ). (i : ℕ) → get_or l i 0 < 256) (sym (is_size ∙ ap (take 8) is_behind)) (small_first 8 (drop 8 bytes) (small_behind 8 bytes small)) in
    let first : to_le_bytes w64 document ≡ head = le_bytes_8 head document head_len small_head is_document in
    let second : to_le_bytes w64 (length facet) ≡ size = ap (to_le_bytes w64) facet_len ∙ le_bytes_8 size len size_len small_size is_len in
    let last : facet ++ rest ≡ more = ap (λ (l : List ℕ). l ++ rest) is_facet ∙ ap (λ (l : List ℕ). take len more ++ l) is_rest ∙ take-append-drop len more in
    let later : size ++ more ≡ behind = ap (λ (l : List ℕ). l ++ more) is_size ∙ ap (λ (l : List ℕ). take 8 behind ++ l) is_more ∙ take-append-drop 8 behind in
    let whole : head ++ behind ≡ bytes = ap (λ (l : List ℕ). l ++ behind) is_head ∙ ap (λ (l : List ℕ). take 8 bytes ++ l) is_behind ∙ take-append-drop 8 bytes in
    sym (append_assoc (to_le_bytes w64 document) (to_le_bytes w64 (length facet) ++ facet) rest
    ∙ ap (λ (l : List ℕ). to_le_bytes w64 document ++ l) (append_assoc (to_le_bytes w64 (length facet)) facet rest ∙ ap (λ (l : List ℕ). to_le_bytes w64 (length facet) ++ l) last ∙ ap (λ (l : List ℕ). l ++ more) second ∙ later)
    ∙ ap (λ (l : List ℕ). l ++ behind) first ∙ whole)

-- the parts of a record with which the bytes begin
pub record RecordParts (bytes : List ℕ) (facet rest : List ℕ) : Type 0 where
  pub behind : drop 8 bytes ≡ to_le_bytes w64 (length facet) ++ (facet ++ rest)
  pub size : take 8 (drop 8 bytes) ≡ to_le_bytes w64 (length facet)
  pub more : drop 8 (drop 8 bytes) ≡ facet ++ rest
  pub long : length bytes ≡ 8 + (8 + (length facet + length rest))

pub parts_of : (bytes facet rest : List ℕ) (document : ℕ) → bytes ≡ record_of document facet ++ rest → RecordParts bytes facet rest
parts_of bytes facet rest document is =
    let first = to_le_bytes w64 document in
    let second = to_le_bytes w64 (length facet) in
    let whole : bytes ≡ first ++ (second ++ (facet ++ rest)) = is ∙ append_assoc first (second ++ facet) rest ∙ ap (λ (l : List ℕ). first ++ l) (append_assoc second facet rest) in
    let later : drop 8 bytes ≡ second ++ (facet ++ rest) = ap (drop 8) whole ∙ drop-append_seam first (second ++ (facet ++ rest)) in
    record {
      behind = later;
      size = ap (take 8) later ∙ take-append_seam second (facet ++ rest);
      more = ap (drop 8) later ∙ drop-append_seam second (facet ++ rest);
      long = ap length whole ∙ length-append first (second ++ (facet ++ rest)) ∙ ap (λ n. 8 + n) (length-append second (facet ++ rest) ∙ ap (λ n. 8 + n) (length-append facet rest));
    }

-- ---- where no record stands

-- the length that is reported, which is that of the facet
pub told : (bytes facet rest : List ℕ) (document len : ℕ) (size : List ℕ) → bytes ≡ record_of document facet ++ rest → length bytes < 2 ^ 64 → size ≡ take 8 (drop 8 bytes) → len ≡ from_le_bytes w64 size → len ≡ length facet
told bytes facet rest document len size is few is_size is_len =
    let parts = parts_of bytes facet rest document is in
    let small : length facet < 2 ^ 64 = omega (arith, parts.long, few) in
    is_len ∙ ap (from_le_bytes w64) (is_size ∙ parts.size) ∙ from_le_bytes-to_le_bytes_8 (length facet) small

pub cut_short : (bytes behind size more : List ℕ) (len : ℕ) → length bytes < 2 ^ 64 → behind ≡ drop 8 bytes → size ≡ take 8 behind → more ≡ drop 8 behind → len ≡ from_le_bytes w64 size → length more < len → BeginsWithNoPair bytes
cut_short bytes behind size more len few is_behind is_size is_more is_len short = λ pair rest is_pair is.
    let parts = parts_of bytes pair.0 rest pair.1 is in
    let as_told : len ≡ length pair.0 = told bytes pair.0 rest pair.1 len size is few (is_size ∙ ap (take 8) is_behind) is_len in
    let left : length more ≡ length pair.0 + length rest = ap length (is_more ∙ ap (drop 8) is_behind ∙ parts.more) ∙ length-append pair.0 rest in
    omega (arith, as_told, left, short)

pub no_text : (bytes behind size more facet : List ℕ) (len : ℕ) → length bytes < 2 ^ 64 → behind ≡ drop 8 bytes → size ≡ take 8 behind → more ≡ drop 8 behind → len ≡ from_le_bytes w64 size → facet ≡ take len more → ¬ IsUtf8 facet
    → BeginsWithNoPair bytes
no_text bytes behind size more facet len few is_behind is_size is_more is_len is_facet none = λ pair rest is_pair is.
    let parts = parts_of bytes pair.0 rest pair.1 is in
    let as_told : len ≡ length pair.0 = told bytes pair.0 rest pair.1 len size is few (is_size ∙ ap (take 8) is_behind) is_len in
    let same : facet ≡ pair.0 = is_facet ∙ ap (take len) (is_more ∙ ap (drop 8) is_behind ∙ parts.more) ∙ ap (λ n. take n (pair.0 ++ rest)) as_told ∙ take-append_seam pair.0 rest in
    none (subst IsUtf8 (sym same) is_pair.0)

-- what is known of a text where it is tested whether it is one
pub is_good : {T E : Type 0} (A : T → Type 0) (B : E → Type 0) (G : Type 0) (r : Result T E) (b : Bool) → MatchResult r (λ s. A s × G) (λ e. (¬ G) × B e) → b ≡ is_err r → b ≡ false → G
is_good A B G (Ok x) b h told is = h.1
is_good A B G (Err e) b h told is = absurd cc

pub is_bad : {T E : Type 0} (A : T → Type 0) (B : E → Type 0) (G : Type 0) (r : Result T E) (b : Bool) → MatchResult r (λ s. A s × G) (λ e. (¬ G) × B e) → b ≡ is_err r → b ≡ true → ¬ G
is_bad A B G (Ok x) b h told is = absurd cc
is_bad A B G (Err e) b h told is = h.0

-- ---- many records

-- an item that was pushed stands at the end
pub is_pushed : {X E : Type 0} (r : Result (Unit {0}) E) (b : Bool) (old new : List X) (item : X) → new ≡ (if is_ok r then old ++ item ∷ [] else old) → b ≡ is_err r → b ≡ false → new ≡ old ++ item ∷ []
is_pushed (Ok x) b old new item is told not = is
is_pushed (Err e) b old new item is told not = absurd cc

all-snoc : {A : Type 0} (P : A → Type 0) (xs : List A) (x : A) → AllByRecursion P xs → P x → AllByRecursion P (xs ++ x ∷ [])
all-snoc P [] x h p = (p, tt)
all-snoc P (y ∷ ys) x h p = (h.0, all-snoc P ys x h.1 p)

pub one_more_pair : {bytes rest : List ℕ} {pairs more : List (List ℕ × ℕ)} (pair : List ℕ × ℕ) (now : List ℕ) → PairsSoFar bytes rest pairs → IsDocumentFacet pair → rest ≡ facet_record pair ++ now → more ≡ pairs ++ pair ∷ [] → PairsSoFar bytes now more
one_more_pair {bytes} {rest} {pairs} {more} pair now m good is added = record {
  before = m.before ++ facet_record pair;
  joined = m.joined ∙ ap (λ (l : List ℕ). m.before ++ l) is ∙ sym (append_assoc m.before (facet_record pair) now);
  are = subst (AreDocumentFacets (m.before ++ facet_record pair)) (sym added)
      (all-snoc IsDocumentFacet pairs pair m.are.0 good, ap (λ (l : List ℕ). l ++ facet_record pair) m.are.1 ∙ flat_map_more facet_record [] pairs pair);
}

-- ---- the records of counts

pub counts_more : (old now new : List ℕ) (counts : List FacetCount) (i : ℕ) (default : FacetCount) → i < length counts → now ≡ old ++ flat_map facet_record (map entry_of (take i counts))
    → new ≡ now ++ facet_record (entry_of (get_or counts i default)) → new ≡ old ++ flat_map facet_record (map entry_of (take (i + 1) counts))
counts_more old now new counts i default below so_far added =
    added ∙ ap (λ (l : List ℕ). l ++ facet_record (entry_of (get_or counts i default))) so_far ∙ flat_map_more facet_record old (map entry_of (take i counts)) (entry_of (get_or counts i default))
    ∙ ap (λ entries. old ++ flat_map facet_record entries) (sym (map_more entry_of counts i default below))
