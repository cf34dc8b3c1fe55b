-- Texts that are rewritten by what backslashes take, step by step.
use Rattle.std.proofs.Common.{◌≡◌, ℕ, suc, zero, ◌+◌, ◌-◌, ◌%◌, ◌≤◌, ◌<◌, Bool, true, false, not, ◌&&◌, ◌||◌, cond, List, [], ◌∷◌, ◌++◌, length, take, drop, get_or, reverse, refl, sym, ◌∙◌, ap, arith, eqb, append_assoc, drop-cons, add-one}
use Rattle.std.proofs.lemmas.List.{take_more, take_all, reverse-append, drop_all, append-nil, length-drop, get_or-drop}
use Rattle.std.proofs.lemmas.Grind.{common_steps}
use Rattle.std.specs.List.{slice_range}
use Rattle.tv_base.specs.Escapes.{leading_backslashes, run_before, is_unescaped, rewritten_below, rewritten}
use Rattle.tv_base.specs.JsonPath.{expanded}
use Rattle.tv_base.specs.Rewriting.{stands_for}
use Rattle.tv_base.specs.declared.text_rules.Rule.{Rule}
use Rattle.tv_base.specs.declared.text_rules.Rule.TheVariants as rules

-- the run before the next place
run_before-more : (text : List ℕ) (i : ℕ) → i < length text → run_before text (i + 1) ≡ cond (eqb (get_or text i 0) 92) (run_before text i + 1) 0
run_before-more text i h =
    ap (λ t. leading_backslashes (reverse t)) (take_more text i 0 h) ∙ ap leading_backslashes (reverse-append (take i text) (get_or text i 0 ∷ []))

-- one more turns even into odd and odd into even
even-more : (n : ℕ) → eqb ((n + 1) % 2) 0 ≡ not (eqb (n % 2) 0)
even-more n = grind (arith, common_steps)

is_unescaped_step : (b : Bool) (n m : ℕ) → m ≡ cond b (n + 1) 0 → eqb (m % 2) 0 ≡ not (b && eqb (n % 2) 0)
is_unescaped_step true n m e = rw e (even-more n)
is_unescaped_step false n m e = rw e refl

-- a byte is taken exactly if the byte before it is a backslash that isn't taken
pub is_unescaped-more : (text : List ℕ) (i : ℕ) → i < length text → is_unescaped text (i + 1) ≡ not (eqb (get_or text i 0) 92 && is_unescaped text i)
is_unescaped-more text i h =
    is_unescaped_step (eqb (get_or text i 0) 92) (run_before text i) (run_before text (i + 1)) (run_before-more text i h)

-- one more byte of the part from a place on
pub slice_range-more : (text : List ℕ) (start i : ℕ) → start ≤ i → i < length text → slice_range text start (i + 1) ≡ slice_range text start i ++ get_or text i 0 ∷ []
slice_range-more text start i h j =
    let n : (i + 1) - start ≡ (i - start) + 1 = omega arith in
    let k : start + (i - start) ≡ i = omega arith in
    let within : i - start < length (drop start text) = omega (arith, length-drop start text) in
    ap (λ m. take m (drop start text)) n ∙ take_more (drop start text) (i - start) 0 within
    ∙ ap (λ b. take (i - start) (drop start text) ++ b ∷ []) (get_or-drop start text (i - start) 0 ∙ ap (λ m. get_or text m 0) k)

pub slice_range-none : (text : List ℕ) (i : ℕ) → slice_range text i i ≡ []
slice_range-none text i = let n : i - i ≡ 0 = omega arith in ap (λ m. take m (drop i text)) n

-- the same text from left to right, with what the byte before said
abbrev pub rewritten_from : (Bool → ℕ → List ℕ) → Bool → List ℕ → List ℕ
rewritten_from rule unescaped [] = []
rewritten_from rule unescaped (b ∷ bs) = rule unescaped b ++ rewritten_from rule (not (eqb b 92 && unescaped)) bs

rewritten-split : (rule : Bool → ℕ → List ℕ) (text : List ℕ) (n i : ℕ) → i + n ≡ length text → rewritten rule text ≡ rewritten_below rule text i ++ rewritten_from rule (is_unescaped text i) (drop i text)
rewritten-split rule text zero i e =
    let end : i ≡ length text = omega arith in
    rw (drop_all i text (omega arith), append-nil (rewritten_below rule text i)) (ap (rewritten_below rule text) (sym end))
rewritten-split rule text (suc n) i e =
    let h : i < length text = omega arith in
    rewritten-split rule text n (suc i) (omega arith)
    ∙ append_assoc (rewritten_below rule text i) (rule (is_unescaped text i) (get_or text i 0)) (rewritten_from rule (is_unescaped text (suc i)) (drop (suc i) text))
    ∙ ap (λ l. rewritten_below rule text i ++ l)
    (ap (λ u. rule (is_unescaped text i) (get_or text i 0) ++ rewritten_from rule u (drop (suc i) text)) (rw add-one at (is_unescaped-more text i h))
    ∙ ap (rewritten_from rule (is_unescaped text i)) (sym (drop-cons text i 0 h)))

pub rewritten-from : (rule : Bool → ℕ → List ℕ) (text : List ℕ) → rewritten rule text ≡ rewritten_from rule true text
rewritten-from rule text = rewritten-split rule text (length text) 0 (omega arith)

-- the rest from a place on begins with what the rule gives for the byte there
pub rewritten_from-drop : (rule : Bool → ℕ → List ℕ) (unescaped : Bool) (text : List ℕ) (i : ℕ) → i < length text → rewritten_from rule unescaped (drop i text) ≡ rule unescaped (get_or text i 0) ++ rewritten_from rule (not (eqb (get_or text i 0) 92 && unescaped)) (drop (i + 1) text)
rewritten_from-drop rule unescaped text i h = rw add-one (ap (rewritten_from rule unescaped) (drop-cons text i 0 h))

pub rewritten_below-more : (rule : Bool → ℕ → List ℕ) (text : List ℕ) (i : ℕ) → rewritten_below rule text (i + 1) ≡ rewritten_below rule text i ++ rule (is_unescaped text i) (get_or text i 0)
rewritten_below-more rule text i = rw add-one refl

-- a byte that stands for itself waits with those before it
pub step-kept : (prefix text below more : List ℕ) (start i : ℕ) → start ≤ i → i < length text → prefix ++ slice_range text start i ≡ below → more ≡ below ++ get_or text i 0 ∷ [] → prefix ++ slice_range text start (i + 1) ≡ more
step-kept prefix text below more start i h j e next =
    ap (λ l. prefix ++ l) (slice_range-more text start i h j) ∙ sym (append_assoc prefix (slice_range text start i) (get_or text i 0 ∷ [])) ∙ ap (λ l. l ++ get_or text i 0 ∷ []) e ∙ sym next

-- what waited is written, and then what stands for the byte
pub step-written : (prefix text below more other written : List ℕ) (start i : ℕ) → prefix ++ slice_range text start i ≡ below → more ≡ below ++ other → written ≡ (prefix ++ slice_range text start i) ++ other → written ++ slice_range text (i + 1) (i + 1) ≡ more
step-written prefix text below more other written start i e next is =
    rw (slice_range-none text (i + 1), append-nil written) (is ∙ ap (λ l. l ++ other) e ∙ sym next)

pub slice_range-all : (text : List ℕ) (start i : ℕ) → length text ≤ i → slice_range text start i ≡ drop start text
slice_range-all text start i h = take_all (i - start) (drop start text) (omega (arith, length-drop start text))

cond-short : (b : Bool) (bytes others : List ℕ) → length bytes ≤ 1 → length others ≤ 1 → length (cond b bytes others) ≤ 1
cond-short true bytes others h k = h
cond-short false bytes others h k = k

one-short : (b : ℕ) → length (b ∷ []) ≤ 1
one-short b = omega arith

-- what stands for a byte is one byte or none
pub stands_for-short : (rule : Rule) (unescaped : Bool) (b : ℕ) → length (stands_for rule unescaped b) ≤ 1
stands_for-short rules.Facet unescaped b = cond-short (unescaped && eqb b 92) [] _ (omega arith) (cond-short (unescaped && eqb b 47) _ _ (one-short 0) (one-short b))
stands_for-short (rules.Path expand_dots) unescaped b = cond-short (unescaped && eqb b 92) [] _ (omega arith) (cond-short ((unescaped || expand_dots) && eqb b 46) _ _ (one-short 1) (one-short b))
stands_for-short (rules.Segment expand_dots) unescaped b = one-short (expanded expand_dots b)
