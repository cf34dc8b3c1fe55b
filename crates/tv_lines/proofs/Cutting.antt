-- A piece up to its first line feed.
use Rattle.std.proofs.Common.{◌≡◌, ℕ, suc, zero, ◌+◌, ◌-◌, ◌<◌, ◌≤◌, true, false, Some, None, List, [], ◌∷◌, ◌++◌, length, take, drop, sym, ap, ◌∙◌, arith, append_assoc, append-nil, length-append, length-take, take_all}
use borrow.Author.Tests.{eq-eqb}
use Rattle.std.proofs.lemmas.List.{take-append-le, take-take, drop-take, drop-drop}
use Rattle.std.specs.List.{slice_range}
use Rattle.memchr.specs.Find.{Nowhere, Passes, is_byte}
use Rattle.tv_lines.specs.Lines.{IsUnbroken}
use Rattle.tv_lines.specs.Lines.{CutsPiece}
use Rattle.tv_lines.specs.Reader.{MovesLine}

unbroken_to : (bytes : List ℕ) (k : ℕ) → Nowhere (Passes (is_byte 10) bytes) 0 k → IsUnbroken (take k bytes)
unbroken_to [] zero none = tt
unbroken_to [] (suc k) none = tt
unbroken_to (b ∷ bs) zero none = tt
unbroken_to (b ∷ bs) (suc k) none = ((λ is. none 0 (omega arith) (omega arith) (eq-eqb b 10 is)), unbroken_to bs k (λ j low below passes. none (suc j) (omega arith) (omega arith) passes))

behind : (chunk : List ℕ) (from to len : ℕ) → len < to - from → slice_range chunk (from + (len + 1)) to ≡ drop (len + 1) (slice_range chunk from to)
behind chunk from to len within =
    let most : to - from ≡ (len + 1) + (to - (from + (len + 1))) = omega arith in
    sym (ap (λ n. drop (len + 1) (take n (drop from chunk))) most ∙ drop-take (len + 1) (to - (from + (len + 1))) (drop from chunk) ∙ ap (λ l. take (to - (from + (len + 1))) l) (drop-drop (len + 1) from chunk))

-- ---- a piece is cut

-- ---- of what was read

none_left : (chunk : List ℕ) (to : ℕ) → slice_range chunk to to ≡ []
none_left chunk to =
    let zero_long : to - to ≡ 0 = omega arith in
    ap (λ n. take n (drop to chunk)) zero_long

pub nothing_left : (chunk : List ℕ) (to : ℕ) → slice_range chunk to to ≡ []
nothing_left chunk to = none_left chunk to

pub moves_to_feed : (chunk before after : List ℕ) (from to len : ℕ) → length (slice_range chunk from to) ≤ to - from
    → CutsPiece (slice_range chunk from to) before after (Some len) → MovesLine (slice_range chunk from to) (slice_range chunk (from + (len + 1)) to) before after true
moves_to_feed chunk before after from to len short cuts =
    let unread = slice_range chunk from to in
    let below : len < to - from = omega (arith, cuts.0) in
    (take len unread, cuts.1, cuts.2 ∙ ap (λ l. take len unread ++ 10 ∷ l) (sym (behind chunk from to len below)), cuts.3)

pub moves_all : (chunk before after : List ℕ) (from to : ℕ) → CutsPiece (slice_range chunk from to) before after None
    → MovesLine (slice_range chunk from to) (slice_range chunk to to) before after false
moves_all chunk before after from to cuts =
    let unread = slice_range chunk from to in
    (unread, cuts.0, sym (append-nil unread) ∙ ap (λ l. unread ++ l) (sym (none_left chunk to)), cuts.1)

-- ---- of what is buffered

-- what was passed is a prefix of the piece
passed_of : (left new piece more prefix : List ℕ) (n : ℕ) → left ≡ piece ++ more → left ≡ prefix ++ new → length prefix ≡ n → n ≤ length piece → prefix ≡ take n piece
passed_of left new piece more prefix n starts passes long within =
    sym (take_all n prefix (omega (arith, long))) ∙ sym (take-append-le n prefix new (omega (arith, long))) ∙ ap (take n) (sym passes ∙ starts) ∙ take-append-le n piece more within

up_to_feed : (a d : List ℕ) (len : ℕ) → length a ≡ len → take (len + 1) (a ++ 10 ∷ d) ≡ a ++ 10 ∷ []
up_to_feed a d len long =
    let n : length (a ++ 10 ∷ []) ≡ len + 1 = omega (arith, length-append a (10 ∷ []), long) in
    ap (take (len + 1)) (sym (append_assoc a (10 ∷ []) d)) ∙ take-append-le (len + 1) (a ++ 10 ∷ []) d (omega (arith, n)) ∙ take_all (len + 1) (a ++ 10 ∷ []) (omega (arith, n))

pub passes_to_feed : (left new piece more prefix before after : List ℕ) (len : ℕ) → left ≡ piece ++ more → left ≡ prefix ++ new → length prefix ≡ len + 1
    → CutsPiece piece before after (Some len) → MovesLine left new before after true
passes_to_feed left new piece more prefix before after len starts passes long cuts =
    let a = take len piece in
    let short : length a ≡ len = omega (arith, length-take len piece, cuts.0) in
    let is : prefix ≡ a ++ 10 ∷ [] = passed_of left new piece more prefix (len + 1) starts passes long (omega (arith, cuts.0)) ∙ ap (take (len + 1)) cuts.2 ∙ up_to_feed a (drop (len + 1) piece) len short in
    (a, cuts.1, passes ∙ ap (λ (l : List ℕ). l ++ new) is ∙ append_assoc a (10 ∷ []) new, cuts.3)

pub passes_all : (left new piece more prefix before after : List ℕ) → left ≡ piece ++ more → left ≡ prefix ++ new → length prefix ≡ length piece
    → CutsPiece piece before after None → MovesLine left new before after false
passes_all left new piece more prefix before after starts passes long cuts =
    let is : prefix ≡ piece = passed_of left new piece more prefix (length piece) starts passes long (omega arith) ∙ take_all (length piece) piece (omega arith) in
    (piece, cuts.0, passes ∙ ap (λ (l : List ℕ). l ++ new) is, cuts.1)

-- ---- both together

-- what a read put into the start of a longer list
pub prefix_given : (n len : ℕ) (old new buf post rest : List ℕ) → n ≤ length buf → n ≤ len → old ≡ take n buf ++ new → old ≡ take n (take len ((buf ++ post) ++ rest)) ++ new
prefix_given n len old new buf post rest bound short gives =
    let same : take n (take len ((buf ++ post) ++ rest)) ≡ take n buf =
    take-take n len ((buf ++ post) ++ rest) short ∙ ap (take n) (append_assoc buf post rest) ∙ take-append-le n buf (post ++ rest) bound in
    gives ∙ ap (λ (l : List ℕ). l ++ new) (sym same)
