-- This many items, as a loop reads them.
use Rattle.std.proofs.Common.{◌≡◌, ℕ, suc, ◌+◌, ◌-◌, ◌<◌, ◌≤◌, List, [], ◌∷◌, ◌++◌, Result, Ok, Err, refl, ap, ◌∙◌, arith}
use Rattle.std.proofs.lemmas.List.{append-nil}
use Rattle.tv_base.specs.Stop.{◌>>=◌}
use Rattle.tv_base.specs.Reading.{each_at}

-- the items that were read, and those that are still read
abbrev pub with_prefix : {F Y : Type 0} → List Y → Result (List Y × List ℕ) (F × List ℕ) → Result (List Y × List ℕ) (F × List ℕ)
with_prefix prefix read = read >>= λ x. Ok (prefix ++ x.0, x.1)

begins : {F Y : Type 0} (read : Result (List Y × List ℕ) (F × List ℕ)) → read ≡ with_prefix [] read
begins (Ok x) = refl
begins (Err c) = refl

-- before the first item
pub start : {F Y : Type 0} (item : List ℕ → Result (Y × List ℕ) (F × List ℕ)) (n : ℕ) (bytes : List ℕ) → each_at item n bytes ≡ with_prefix [] (each_at item (n - 0) bytes)
start item n bytes = let k : n ≡ n - 0 = omega arith in begins (each_at item n bytes) ∙ ap (λ (m : ℕ). with_prefix [] (each_at item m bytes)) k

regroup : {F Y : Type 0} (prefix : List Y) (y : Y) (read : Result (List Y × List ℕ) (F × List ℕ)) → with_prefix prefix (read >>= λ x. Ok (y ∷ x.0, x.1)) ≡ with_prefix (prefix ++ y ∷ []) read
regroup prefix y (Ok x) = ap (λ l. Ok (l, x.1)) (sym_append prefix y x.0)
  where
    sym_append : {Y : Type 0} (prefix : List Y) (y : Y) (rest : List Y) → prefix ++ (y ∷ rest) ≡ (prefix ++ y ∷ []) ++ rest
    sym_append [] y rest = refl
    sym_append (z ∷ prefix) y rest = ap (λ l. z ∷ l) (sym_append prefix y rest)
regroup prefix y (Err c) = refl

one_more : {F Y : Type 0} (item : List ℕ → Result (Y × List ℕ) (F × List ℕ)) (prefix : List Y) (n : ℕ) (read : Result (Y × List ℕ) (F × List ℕ))
    → with_prefix prefix (read >>= λ x. each_at item n x.1 >>= λ ys. Ok (x.0 ∷ ys.0, ys.1)) ≡ (read >>= λ x. with_prefix (prefix ++ x.0 ∷ []) (each_at item n x.1))
one_more item prefix n (Ok x) = regroup prefix x.0 (each_at item n x.1)
one_more item prefix n (Err c) = refl

-- one more item
pub next : {F Y : Type 0} (item : List ℕ → Result (Y × List ℕ) (F × List ℕ)) (prefix : List Y) (n i : ℕ) → i < n → (bytes : List ℕ)
    → with_prefix prefix (each_at item (n - i) bytes) ≡ (item bytes >>= λ x. with_prefix (prefix ++ x.0 ∷ []) (each_at item (n - (i + 1)) x.1))
unfolding each_at
next item prefix n i lt bytes =
    let k : n - i ≡ suc (n - (i + 1)) = omega arith in
    ap (λ (m : ℕ). with_prefix prefix (each_at item m bytes)) k ∙ one_more item prefix (n - (i + 1)) (item bytes)

-- no item is missing
pub none : {F Y : Type 0} (item : List ℕ → Result (Y × List ℕ) (F × List ℕ)) (prefix : List Y) (n i : ℕ) → n ≤ i → (bytes : List ℕ) → with_prefix prefix (each_at item (n - i) bytes) ≡ Ok (prefix, bytes)
unfolding each_at
none item prefix n i le bytes =
    let k : n - i ≡ 0 = omega arith in
    ap (λ (m : ℕ). with_prefix prefix (each_at item m bytes)) k ∙ ap (λ l. Ok (l, bytes)) (append-nil prefix)
