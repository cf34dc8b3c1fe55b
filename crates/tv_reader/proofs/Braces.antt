-- One byte more: where the next stands, and how many braces have opened and closed.
use Rattle.std.proofs.Common.{◌≡◌, ℕ, ◌+◌, List, [], ◌∷◌, ◌++◌, refl, ap, ◌∙◌}
use Rattle.std.specs.Prelude.{◌==◌, fold}
use Rattle.std.specs.List.{count_by}
use Rattle.std.proofs.lemmas.List.Sums.{fold-append, sum_by-append}
use Rattle.tv_reader.specs.Legacy.{BytePlace, outside, inside, escaped, next, behind, bare, opened, closed}
use Rattle.tv_reader.specs.LegacyScan.{brace_count}

bare-append : (place : BytePlace) (a b : List ℕ) → bare place (a ++ b) ≡ bare place a ++ bare (fold next place a) b
bare-append place [] b = refl
bare-append outside (c ∷ a) b = ap (λ (l : List ℕ). c ∷ l) (bare-append (next outside c) a b)
bare-append inside (c ∷ a) b = bare-append (next inside c) a b
bare-append escaped (c ∷ a) b = bare-append (next escaped c) a b

pub behind-push : (bytes : List ℕ) (b : ℕ) → behind (bytes ++ b ∷ []) ≡ next (behind bytes) b
behind-push bytes b = fold-append next outside bytes (b ∷ [])

-- braces of one kind
counted : (brace : ℕ) (bytes : List ℕ) (b : ℕ)
    → count_by (λ c. c == brace) (bare outside (bytes ++ b ∷ [])) ≡ count_by (λ c. c == brace) (bare outside bytes) + brace_count brace (behind bytes) b
counted brace bytes b = ap (count_by (λ c. c == brace)) (bare-append outside bytes (b ∷ [])) ∙ sum_by-append _ (bare outside bytes) (bare (behind bytes) (b ∷ []))

pub opened-push : (bytes : List ℕ) (b : ℕ) → opened (bytes ++ b ∷ []) ≡ opened bytes + brace_count 123 (behind bytes) b
opened-push bytes b = counted 123 bytes b

pub closed-push : (bytes : List ℕ) (b : ℕ) → closed (bytes ++ b ∷ []) ≡ closed bytes + brace_count 125 (behind bytes) b
closed-push bytes b = counted 125 bytes b
