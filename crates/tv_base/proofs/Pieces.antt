-- A buffer that a source fills piece by piece.
use Rattle.std.proofs.Common.{◌≡◌, ℕ, ◌+◌, ◌<◌, ◌≤◌, true, false, ltb, List, [], ◌++◌, length, take, drop, Ok, Err, refl, sym, ap, ◌∙◌, append_assoc, arith, le_refl, drop_at, take_at, take_all, length-take-le, length-append, length-take}
use Rattle.std.proofs.lemmas.Bool.{le-ltb}
use Rattle.std.proofs.lemmas.List.{append-nil, append_cancel_right, take-take}
use Rattle.std.proofs.lemmas.Slice.{take-put_mid_below}
use borrow.Rule.Slice.PartMut.{put_mid, post_of}
use lib.Seq.{take-add, take-append-le}
use Rattle.tv_base.specs.declared.cause.Cause.TheVariants.{UnexpectedEnd}
use Rattle.tv_base.specs.Stop.{Taken}
use Rattle.tv_base.specs.Reading.{bytes_at}

-- the next piece stands after what was filled before
pub take-put_mid_more : (filled room n : ℕ) (buf piece : List ℕ) → filled ≤ length buf → n ≤ length piece → take (filled + n) (put_mid filled room buf piece) ≡ take filled buf ++ take n piece
take-put_mid_more filled room n buf piece within fits =
    let after = post_of filled room buf in
    take-add filled n (put_mid filled room buf piece)
    ∙ ap (λ l. l ++ take n (drop filled (put_mid filled room buf piece))) (take-put_mid_below filled room buf piece filled (le_refl _) within)
    ∙ ap (λ l. take filled buf ++ l) (ap (take n) (drop_at (take filled buf) (piece ++ after) filled (length-take-le filled buf within)) ∙ take-append-le n piece after fits)

pub fills_more : (filled room n : ℕ) (buf piece all mid rest : List ℕ) → filled ≤ length buf → n ≤ length piece → all ≡ take filled buf ++ mid → mid ≡ take n piece ++ rest → all ≡ take (filled + n) (put_mid filled room buf piece) ++ rest
fills_more filled room n buf piece all mid rest within fits before now =
    before ∙ ap (λ l. take filled buf ++ l) now ∙ sym (append_assoc (take filled buf) (take n piece) rest) ∙ ap (λ l. l ++ rest) (sym (take-put_mid_more filled room n buf piece within fits))

-- a full buffer is what reading gives
pub is_full : (filled n : ℕ) (buf all rest : List ℕ) → length buf ≤ filled → n ≡ length buf → all ≡ take filled buf ++ rest → bytes_at n all ≡ Ok (buf, rest)
unfolding bytes_at
is_full filled n buf all rest full len so_far =
    let whole : all ≡ buf ++ rest = so_far ∙ ap (λ l. l ++ rest) (take_all filled buf full) in
    let long : ltb (length (buf ++ rest)) n ≡ false = le-ltb _ _ (omega (arith, length-append buf rest)) in
    rw (whole, long, take_at buf rest n (sym len), drop_at buf rest n (sym len)) refl

-- a source that ends before the buffer is full has fewer bytes
pub ends_early : (filled n : ℕ) (buf all rest : List ℕ) → filled < n → filled ≤ length buf → all ≡ take filled buf ++ rest → rest ≡ [] → bytes_at n all ≡ Err (UnexpectedEnd, rest)
unfolding bytes_at
ends_early filled n buf all rest short within so_far end =
    let whole : all ≡ take filled buf = so_far ∙ ap (λ l. take filled buf ++ l) end ∙ append-nil (take filled buf) in
    let test : ltb (length all) n ≡ true = rw whole (search (arith, length-take)) in
    rw test (ap (λ (l : List ℕ). Err (UnexpectedEnd, l)) (sym end))

-- what stands before the rest is what was filled
filled_is : (filled : ℕ) (buf all taken rest : List ℕ) → all ≡ take filled buf ++ rest → all ≡ taken ++ rest → taken ≡ take filled buf
filled_is filled buf all taken rest so_far joined = append_cancel_right taken (take filled buf) rest (sym joined ∙ so_far)

-- a full buffer is what reading gives, whatever stands after it
pub is_full_taken : (filled n : ℕ) (buf all taken rest behind : List ℕ) → length buf ≤ filled → n ≡ length buf → all ≡ take filled buf ++ rest → all ≡ taken ++ rest → bytes_at n (taken ++ behind) ≡ Ok (buf, behind)
is_full_taken filled n buf all taken rest behind full len so_far joined = is_full filled n buf (taken ++ behind) behind full len (ap (λ (l : List ℕ). l ++ behind) (filled_is filled buf all taken rest so_far joined))

-- what was filled ends before the buffer is full
pub too_few : (filled n : ℕ) (buf all taken rest : List ℕ) → filled < n → filled ≤ length buf → all ≡ take filled buf ++ rest → all ≡ taken ++ rest → bytes_at n taken ≡ Err (UnexpectedEnd, [])
too_few filled n buf all taken rest short within so_far joined = ends_early filled n buf taken [] short within (filled_is filled buf all taken rest so_far joined ∙ sym (append-nil (take filled buf))) refl

-- no byte was read
pub none_read : (n : ℕ) (buf old new : List ℕ) → n ≡ 0 → old ≡ take n buf ++ new → old ≡ new
none_read n buf old new none e = e ∙ ap (λ (k : ℕ). take k buf ++ new) none

-- the same is left
pub given_still : (all prefix old new : List ℕ) → all ≡ prefix ++ old → old ≡ new → all ≡ prefix ++ new
given_still all prefix old new e same = e ∙ ap (λ (l : List ℕ). prefix ++ l) same

-- what was filled was taken
pub taken_so_far : (filled : ℕ) (buf rest : List ℕ) {all : List ℕ} {count now : ℕ} → filled ≤ length buf → now ≡ count + filled → all ≡ take filled buf ++ rest → Taken all rest count now
taken_so_far filled buf rest within counted e = record { prefix = take filled buf; joined = e; counted = omega (arith, counted, length-take filled buf) }

-- what stands after the bytes that were there, once the room after them was filled and cut
pub appended : (f n most len : ℕ) (old buf post rest zeros now : List ℕ) → f ≡ length old → now ≡ take (f + most) old ++ zeros → n ≤ length buf → f + n ≤ len
    → take (f + n) (take len ((take f now ++ (buf ++ post)) ++ rest)) ≡ old ++ take n buf
appended f n most len old buf post rest zeros now filled is fits within =
    let all : now ≡ old ++ zeros = is ∙ ap (λ (l : List ℕ). l ++ zeros) (take_all (f + most) old (omega (arith, filled))) in
    let before : take f now ≡ old = ap (take f) all ∙ take_at old zeros f (sym filled) in
    let whole : (take f now ++ (buf ++ post)) ++ rest ≡ old ++ (buf ++ (post ++ rest)) =
    ap (λ (l : List ℕ). (l ++ (buf ++ post)) ++ rest) before ∙ append_assoc old (buf ++ post) rest ∙ ap (λ (l : List ℕ). old ++ l) (append_assoc buf post rest) in
    take-take (f + n) len _ within ∙ ap (take (f + n)) whole ∙ take-add f n (old ++ (buf ++ (post ++ rest)))
    ∙ ap (λ l. l ++ take n (drop f (old ++ (buf ++ (post ++ rest))))) (take_at old (buf ++ (post ++ rest)) f (sym filled))
    ∙ ap (λ l. old ++ l) (ap (take n) (drop_at old (buf ++ (post ++ rest)) f (sym filled)) ∙ take-append-le n buf (post ++ rest) fits)
