-- Segments that are joined.
use Rattle.std.proofs.Common.{◌≡◌, ◌≢◌, ℕ, suc, ◌+◌, ◌<◌, List, [], ◌∷◌, ◌++◌, Bor, map, take, get_or, length, refl, sym, ◌∙◌, ap, append_assoc, arith}
use Rattle.std.specs.List.{join_with_byte}
use Rattle.std.proofs.Math.Seq.{take-length}
use Rattle.std.proofs.lemmas.List.{map-append, take_more}
use Rattle.tv_term.specs.Key.{HasNoZero}
use Rattle.tv_term.specs.Segments.{HaveNoZero, joined_segments}
use Rattle.tv_term.proofs.Written.{HasNoZero-append}

-- no text, for places after the last
abbrev pub nothing : Bor (List ℕ)
nothing = record { ref_ptr = (0, 0); now = [] }

pub have-no-zero : (texts : List (Bor (List ℕ))) → ((k : ℕ) → k < length texts → HasNoZero (get_or texts k nothing).now) → HaveNoZero texts
have-no-zero [] h = tt
have-no-zero (text ∷ texts) h = (h 0 (omega arith), have-no-zero texts (λ k inside. h (suc k) (omega arith)))

-- the first segment and this many others
abbrev pub joined : List ℕ → List (Bor (List ℕ)) → ℕ → List ℕ
joined first others n = join_with_byte 1 (first ∷ map (λ (segment : Bor (List ℕ)). segment.now) (take n others))

join-one : (first : List ℕ) (l : List (List ℕ)) (last : List ℕ) → join_with_byte 1 (first ∷ (l ++ last ∷ [])) ≡ join_with_byte 1 (first ∷ l) ++ 1 ∷ last
join-one first [] last = refl
join-one first (x ∷ l) last = ap (λ t. first ++ 1 ∷ t) (join-one x l last) ∙ sym (append_assoc first (1 ∷ join_with_byte 1 (x ∷ l)) (1 ∷ last))

-- one more segment after the others
pub joined-more : (first : List ℕ) (others : List (Bor (List ℕ))) (i : ℕ) → i < length others → joined first others (i + 1) ≡ joined first others i ++ 1 ∷ (get_or others i nothing).now
joined-more first others i h =
    let now = λ (segment : Bor (List ℕ)). segment.now in
    ap (λ l. join_with_byte 1 (first ∷ l)) (ap (map now) (take_more others i nothing h) ∙ map-append now (take i others) (get_or others i nothing ∷ []))
    ∙ join-one first (map now (take i others)) ((get_or others i nothing).now)

one_not_zero : ◌≢◌ {A = ℕ} 1 0
one_not_zero e = absurd (omega arith)

-- what is joined has no zero where no segment has one
pub joined-no-zero : (segments : List (Bor (List ℕ))) → HaveNoZero segments → HasNoZero (joined_segments segments)
joined-no-zero [] h = tt
joined-no-zero (x ∷ []) h = h.0
joined-no-zero (x ∷ y ∷ segments) h =
    HasNoZero-append x.now (1 ∷ joined_segments (y ∷ segments)) h.0 (one_not_zero, joined-no-zero (y ∷ segments) h.1)

-- the first segment and all others
pub joined-all : (segments : List (Bor (List ℕ))) (first : Bor (List ℕ)) (others : List (Bor (List ℕ))) (text : List ℕ) (i : ℕ) → segments ≡ first ∷ others → text ≡ first.now → i ≡ length others
    → joined text others i ≡ joined_segments segments
joined-all segments first others text i is text_is all =
    let now = λ (segment : Bor (List ℕ)). segment.now in
    ap (joined text others) all ∙ ap (λ l. join_with_byte 1 (text ∷ map now l)) (take-length others) ∙ ap (λ t. join_with_byte 1 (t ∷ map now others)) text_is ∙ ap joined_segments (sym is)

join-behind : (old first : List ℕ) (l : List (List ℕ)) → join_with_byte 1 ((old ++ first) ∷ l) ≡ old ++ join_with_byte 1 (first ∷ l)
join-behind old first [] = refl
join-behind old first (x ∷ l) = append_assoc old first (1 ∷ join_with_byte 1 (x ∷ l))

-- the same after another text
pub joined-behind : (old first : List ℕ) (others : List (Bor (List ℕ))) (n : ℕ) → joined (old ++ first) others n ≡ old ++ joined first others n
joined-behind old first others n = join-behind old first (map (λ (segment : Bor (List ℕ)). segment.now) (take n others))
