-- Legacy objects: the reading agrees with the grammar.
use Rattle.std.proofs.Common.{◌≡◌, ◌≢◌, ℕ, List, [], ◌∷◌, ◌++◌, Some, Result, Ok, Err, refl, sym, ap, subst, ◌∙◌, inl, inr}
use Rattle.std.proofs.lemmas.List.{append-nil}
use Rattle.tv_base.specs.declared.cause.Cause.{Cause}
use Rattle.tv_base.specs.declared.cause.Cause.TheVariants.{UnexpectedEnd, LegacyJson, LegacyFloat}
use Rattle.tv_base.specs.ErrorInPart.{InThen}
use Rattle.tv_base.specs.Stop.{◌>>=◌}
use Rattle.tv_base.proofs.Agrees.{Agrees, InTurn, agrees_too, in_turn, nothing_read, nothing_stands, ok_is, err_is}
use Rattle.tv_value.specs.JsonTree.{whole_entries}
use Rattle.tv_format.specs.Tree.{Tree, object, Entries}
use Rattle.tv_reader.specs.Legacy.{Slice, Legacy, ErrorInLegacy, only_blanks, not_closed, no_brace, no_object, not_whole}
use Rattle.tv_reader.specs.LegacyReading.{slice_at, slice_tree, beside, legacy_at}
use Rattle.tv_reader.proofs.Slices.{ErrorInSlice, no_byte, never_closed, other_byte, slices_agree, slice_refused, never_closes, closes_never}
use Rattle.tv_reader.proofs.Rests.{decided}
use Rattle.tv_reader.proofs.LegacyObjects.{SliceAnswer, is_object, has_no_tree, is_none, slice_answer, reads_tree, reads_float, reads_none, object_entries}

-- the tree of a legacy object
pub record LegacyTree (whole : List ℕ) (t : Tree) : Type 0 where
  pub entries : Entries
  pub encoded : Legacy whole entries
  pub is : t ≡ object entries

-- ---- what is settled before anything is read

abbrev Settled : Result Tree Cause → List ℕ → Tree → Type 0
Settled answer bytes t = (bytes ≡ []) × (answer ≡ Ok t)

abbrev ErrorInSettled : Result Tree Cause → List ℕ → Cause → Type 0
ErrorInSettled answer bytes c = answer ≡ Err c

settled_agrees : (answer : Result Tree Cause) → answer ≢ Err UnexpectedEnd → Agrees UnexpectedEnd (λ bytes. beside bytes answer) (Settled answer) (ErrorInSettled answer)
settled_agrees (Ok t) other = agrees_too (λ bytes. refl) (λ bytes u small p. (p.0, ap (λ z. Ok z) (sym p.1))) (λ bytes u p. (p.0, sym (ok_is Cause t u p.1))) (λ bytes c small p. absurd p) (nothing_read UnexpectedEnd t)
settled_agrees (Err d) other = agrees_too (λ bytes. refl) (λ bytes u small p. absurd p) (λ bytes u p. absurd cc) (λ bytes c small p. ap (λ z. Err z) (sym p))
    (nothing_stands d (λ e. other (ap (λ z. Err z) e)))

no_end : (slice : List ℕ) (answer : Result Tree Cause) → SliceAnswer slice answer → answer ≢ Err UnexpectedEnd
no_end slice answer (is_object others u read tree is) e = let q = sym is ∙ e in absurd cc
no_end slice answer (has_no_tree others read tree is) e = let q = sym is ∙ e in absurd cc
no_end slice answer (is_none none is) e = let q = sym is ∙ e in absurd cc

-- ---- both ways

legacy_of : (whole slice : List ℕ) (t : Tree) → Slice whole slice → SliceAnswer slice (slice_tree slice) → slice_tree slice ≡ Ok t → LegacyTree whole t
legacy_of whole slice t cut (is_object ms u read tree is) e =
    let same : u ≡ t = ok_is Cause u t (sym is ∙ e) in
    let shape = object_entries ms u tree in
    record {
      entries = whole_entries ms;
      encoded = record { slice = slice; cut = cut; members = ms; reads = read; numbers = tree ∙ ap (λ z. Some z) shape };
      is = sym same ∙ shape;
    }
legacy_of whole slice t cut (has_no_tree ms read tree is) e = let q = sym is ∙ e in absurd cc
legacy_of whole slice t cut (is_none none is) e = let q = sym is ∙ e in absurd cc

legacy_to : (whole : List ℕ) (t : Tree) → InTurn Slice (λ slice. Settled (slice_tree slice)) whole t → LegacyTree whole t
legacy_to whole t p =
    let all : p.1.prefix ≡ whole = sym (p.1.joined ∙ ap (λ (l : List ℕ). p.1.prefix ++ l) p.1.second.0 ∙ append-nil p.1.prefix) in
    legacy_of whole p.0 t (subst (λ (l : List ℕ). Slice l p.0) all p.1.first) (slice_answer p.0) p.1.second.1

legacy_from : (whole : List ℕ) (t : Tree) → LegacyTree whole t → InTurn Slice (λ slice. Settled (slice_tree slice)) whole t
legacy_from whole t h =
    let s = h.encoded in (
      s.slice,
      record {
        prefix = whole;
        rest = [];
        joined = sym (append-nil whole);
        first = s.cut;
        second = (refl, reads_tree s.slice s.members t (slice_tree s.slice) s.reads (s.numbers ∙ ap (λ z. Some z) (sym h.is)) (slice_answer s.slice));
      },
    )

cut_error : (whole : List ℕ) (c : Cause) → ErrorInSlice whole c → ErrorInLegacy whole c
cut_error whole c (no_byte all) = only_blanks all
cut_error whole c (never_closed blanks rest joined all none) = not_closed blanks rest joined all (never_closes rest none)
cut_error whole c (other_byte blanks rest b joined all other brace) = no_brace blanks rest b joined all other brace

slice_error : (whole prefix rest slice : List ℕ) (c : Cause) → whole ≡ prefix ++ rest → Slice prefix slice → SliceAnswer slice (slice_tree slice) → slice_tree slice ≡ Err c → ErrorInLegacy whole c
slice_error whole prefix rest slice c joined cut (is_object ms t read tree is) e = let q = sym is ∙ e in absurd cc
slice_error whole prefix rest slice c joined cut (has_no_tree ms read tree is) e =
    subst (ErrorInLegacy whole) (err_is Tree LegacyFloat c (sym is ∙ e)) (not_whole prefix rest slice ms joined cut read tree)
slice_error whole prefix rest slice c joined cut (is_none none is) e =
    subst (ErrorInLegacy whole) (err_is Tree LegacyJson c (sym is ∙ e)) (no_object prefix rest slice joined cut none)

legacy_errors : (whole : List ℕ) (c : Cause) → InThen ErrorInSlice Slice (λ slice. ErrorInSettled (slice_tree slice)) whole c → ErrorInLegacy whole c
legacy_errors whole c p = elim p [
  | inl q ↦ cut_error whole c q
  | inr q ↦ slice_error whole q.1.prefix q.1.rest q.0 c q.1.joined q.1.first (slice_answer q.0) q.1.second
]

pub legacy_agrees : Agrees UnexpectedEnd legacy_at LegacyTree ErrorInLegacy
unfolding legacy_at
legacy_agrees = agrees_too (λ bytes. refl) (λ bytes t small p. legacy_to bytes t p) legacy_from (λ bytes c small p. legacy_errors bytes c p)
    (in_turn {b = λ slice bytes. beside bytes (slice_tree slice)} slices_agree (λ slice. settled_agrees (slice_tree slice) (no_end slice (slice_tree slice) (slice_answer slice))))

-- ---- what is read of malformed bytes

then_slice : (whole slice rest : List ℕ) (answer : Result Tree Cause) → slice_at whole ≡ Ok (slice, rest) → slice_tree slice ≡ answer → legacy_at whole ≡ beside rest answer
unfolding legacy_at
then_slice whole slice rest answer e is = ap (λ r. r >>= λ x. beside x.1 (slice_tree x.0)) e ∙ ap (beside rest) is

then_refused : (whole rest : List ℕ) (c : Cause) → slice_at whole ≡ Err (c, rest) → legacy_at whole ≡ Err (c, rest)
unfolding legacy_at
then_refused whole rest c e = ap (λ r. r >>= λ x. beside x.1 (slice_tree x.0)) e

refused_as : (whole : List ℕ) (c : Cause) → ErrorInSlice whole c → (rest : List ℕ) × (legacy_at whole ≡ Err (c, rest))
refused_as whole c f = let q = slice_refused whole c f in (q.0, then_refused whole q.0 c q.1)

cut_at : (whole prefix rest slice : List ℕ) → whole ≡ prefix ++ rest → Slice prefix slice → slice_at whole ≡ Ok (slice, rest)
cut_at whole prefix rest slice joined cut = ap slice_at joined ∙ slices_agree.complete prefix slice rest cut

pub legacy_refused : (whole : List ℕ) (c : Cause) → ErrorInLegacy whole c → (rest : List ℕ) × (legacy_at whole ≡ Err (c, rest))
legacy_refused whole c (only_blanks all) = refused_as whole UnexpectedEnd (no_byte all)
legacy_refused whole c (not_closed blanks rest joined all none) = refused_as whole UnexpectedEnd (never_closed blanks rest joined all (closes_never rest none (decided (123 ∷ []) rest)))
legacy_refused whole c (no_brace blanks rest b joined all other brace) = refused_as whole LegacyJson (other_byte blanks rest b joined all other brace)
legacy_refused whole c (no_object prefix rest slice joined cut none) =
    (rest, then_slice whole slice rest (Err LegacyJson) (cut_at whole prefix rest slice joined cut) (reads_none slice (slice_tree slice) none (slice_answer slice)))
legacy_refused whole c (not_whole prefix rest slice ms joined cut reads tree) =
    (rest, then_slice whole slice rest (Err LegacyFloat) (cut_at whole prefix rest slice joined cut) (reads_float slice ms (slice_tree slice) reads tree (slice_answer slice)))
