-- Ranges between texts of queries.
use Rattle.std.proofs.Common.{◌≡◌, ◌≢◌, ℕ, ◌<◌, ◌≤◌, List, ◌++◌, true, length, take, drop, Option, Some, None, codes, refl, sym, ap, subst, ◌∙◌, arith, length-append}
use Rattle.std.proofs.Math.Seq.{take-append_seam}
use Rattle.std.proofs.lemmas.List.{drop_at, take-append-drop}
use Rattle.std.specs.Borrow.{Bor}
use Rattle.std.specs.Ordering.{is_lt}
use Rattle.std.specs.Str.Pattern.{FindsText, LacksTextAt}
use Rattle.std.specs.declared.ops.Bound.{Bound}
use Rattle.std.specs.declared.ops.Bound.TheVariants.{Included, Excluded, Unbounded}
use Rattle.tv_indexing.specs.LeafTerms.{HasTerm}
use Rattle.tv_indexing.specs.TextRange.{ArePartedBounds, IsEndBound, IsStartBound, WritesBounds, are_backwards, bounding, bounds, bytes_run_backwards, no_bounds}
use Rattle.tv_term.specs.Key.{IsTerm, TermValue}
use Rattle.tv_term.specs.Range.{AreTermsOf}
use Rattle.tv_term.proofs.Terms.{values-order}

-- ---- bounds that run backwards

abbrev IsTermOf : ℕ → Option TermValue → Option (List ℕ) → Type 0
IsTermOf id (Some value) (Some bytes) = IsTerm bytes id value
IsTermOf id None None = Unit {0}
IsTermOf id value bytes = ⊥

term_of_bound : (id : ℕ) (value : Bound TermValue) (bytes : Bound (List ℕ)) → AreTermsOf id value bytes → IsTermOf id (bounding value) (bounding bytes)
term_of_bound id (Included value) (Included bytes) h = h
term_of_bound id (Excluded value) (Excluded bytes) h = h
term_of_bound id Unbounded Unbounded h = tt
term_of_bound id (Included value) (Excluded bytes) h = absurd h
term_of_bound id (Included value) Unbounded h = absurd h
term_of_bound id (Excluded value) (Included bytes) h = absurd h
term_of_bound id (Excluded value) Unbounded h = absurd h
term_of_bound id Unbounded (Included bytes) h = absurd h
term_of_bound id Unbounded (Excluded bytes) h = absurd h

same_test : (id : ℕ) (start end : Option TermValue) (first last : Option (List ℕ)) → IsTermOf id start first → IsTermOf id end last → bytes_run_backwards first last ≡ are_backwards start end
same_test id (Some start) (Some end) (Some first) (Some last) s e = ap is_lt (values-order last first id end start e s)
same_test id (Some start) None (Some first) None s e = refl
same_test id None (Some end) None (Some last) s e = refl
same_test id None None None None s e = refl
same_test id (Some start) end None last s e = absurd s
same_test id None end (Some first) last s e = absurd s
same_test id (Some start) (Some end) (Some first) None s e = absurd e
same_test id (Some start) None (Some first) (Some last) s e = absurd e
same_test id None (Some end) None None s e = absurd e
same_test id None None None (Some last) s e = absurd e

pub backwards_same : (id : ℕ) (lo hi : Bound TermValue) (first last : Bound (List ℕ)) → AreTermsOf id lo first → AreTermsOf id hi last → bytes_run_backwards (bounding first) (bounding last) ≡ are_backwards (bounding lo) (bounding hi)
backwards_same id lo hi first last s e = same_test id (bounding lo) (bounding hi) (bounding first) (bounding last) (term_of_bound id lo first s) (term_of_bound id hi last e)

-- ---- terms of texts

pub held_term : (id : ℕ) (value : Option TermValue) (held : List ℕ) → HasTerm id value held true → (v : TermValue) × (value ≡ Some v) × IsTerm held id v
held_term id (Some v) held h = (v, refl, h.1)
held_term id None held h = absurd h

-- ---- the bounds that a text writes

-- parted at the first ` TO `
abbrev pub IsParted : List ℕ → List ℕ → List ℕ → Type 0
IsParted text before behind = (text ≡ before ++ (codes " TO " ++ behind)) × ((i : ℕ) → i < length before → LacksTextAt (codes " TO ") text i)

at_its_place : (text before behind : List ℕ) → text ≡ before ++ (codes " TO " ++ behind) → drop (length before) text ≡ codes " TO " ++ behind
at_its_place text before behind is = ap (drop (length before)) is ∙ drop_at before (codes " TO " ++ behind) (length before) refl

pub no_earlier : (text before behind : List ℕ) → IsParted text before behind → (earlier later : List ℕ) → text ≡ earlier ++ (codes " TO " ++ later) → length before ≤ length earlier
no_earlier text before behind parted earlier later is =
    let no : ¬ (length earlier < length before) = λ less. parted.1 (length earlier) less later (at_its_place text earlier later is) in omega (arith, no)

pub as_split : (text : List ℕ) (r : Bor (List ℕ) × Bor (List ℕ)) (i j : ℕ) → FindsText (codes " TO ") text (Some (i, j)) → r.0.now ≡ take i text → r.1.now ≡ drop j text → length r.0.now ≡ i → IsParted text r.0.now r.1.now
as_split text r i j finds first second len = (
  sym (take-append-drop i text) ∙ ap (λ l. take i text ++ l) finds.1.split ∙ (λ k. sym first k ++ (codes " TO " ++ sym second k)),
  (λ m less. finds.0 m (omega (arith, less, len))),
)

pub not_parted : (text : List ℕ) → FindsText (codes " TO ") text None → text ≢ codes "*" → (start end : Bound (List ℕ)) → ¬ WritesBounds text start end
not_parted text lacks not_all start end (no_bounds all s e) = not_all all
not_parted text lacks not_all start end (bounds b) =
    lacks (length b.before) (omega (arith, ap length b.text_is, length-append b.before (codes " TO " ++ b.behind))) b.behind (at_its_place text b.before b.behind b.text_is)

-- two ways to part a text at its first ` TO ` are one
same_parts : (text before behind : List ℕ) (start end : Bound (List ℕ)) → IsParted text before behind → (b : ArePartedBounds text start end) → (b.before ≡ before) × (b.behind ≡ behind)
same_parts text before behind start end parted b =
    let low = b.is_first before behind parted.0 in
    let high = no_earlier text before behind parted b.before b.behind b.text_is in
    let len : length b.before ≡ length before = omega (arith, low, high) in
    let first = sym (take-append_seam b.before (codes " TO " ++ b.behind)) ∙ ap (take (length b.before)) (sym b.text_is) ∙ ap (λ n. take n text) len ∙ ap (take (length before)) parted.0 ∙ take-append_seam before (codes " TO " ++ behind) in
    let tails = sym (at_its_place text b.before b.behind b.text_is) ∙ ap (λ n. drop n text) len ∙ at_its_place text before behind parted.0 in
    (first, ap (drop 4) tails)

pub wrong_start : (text before behind : List ℕ) → IsParted text before behind → text ≢ codes "*" → ((start : Bound (List ℕ)) → ¬ IsStartBound before start) → (start end : Bound (List ℕ)) → ¬ WritesBounds text start end
wrong_start text before behind parted not_all none start end (no_bounds all s e) = not_all all
wrong_start text before behind parted not_all none start end (bounds b) = none start (subst (λ z. IsStartBound z start) (same_parts text before behind start end parted b).0 b.starts)

pub wrong_end : (text before behind : List ℕ) → IsParted text before behind → text ≢ codes "*" → ((end : Bound (List ℕ)) → ¬ IsEndBound behind end) → (start end : Bound (List ℕ)) → ¬ WritesBounds text start end
wrong_end text before behind parted not_all none start end (no_bounds all s e) = not_all all
wrong_end text before behind parted not_all none start end (bounds b) = none end (subst (λ z. IsEndBound z end) (same_parts text before behind start end parted b).1 b.ends)

pub both_ends : (text before behind : List ℕ) (start end : Bound (List ℕ)) → IsParted text before behind → IsStartBound before start → IsEndBound behind end → WritesBounds text start end
both_ends text before behind start end parted s e = bounds (record { before = before; behind = behind; text_is = parted.0; is_first = no_earlier text before behind parted; starts = s; ends = e })
