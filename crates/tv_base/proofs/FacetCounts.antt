-- Facets that are counted by the child that they are or lie below.
use Rattle.std.proofs.Common.{◌≡◌, ◌≢◌, ℕ, suc, zero, ◌+◌, ◌<◌, ◌≤◌, ◌⊎◌, inl, inr, Bool, true, false, cond, List, [], ◌∷◌, ◌++◌, Option, None, Some, Bor, map, take, drop, length, length-append, get_or, eqb, refl, sym, ◌∙◌, ap, subst, append_assoc, add-one, arith}
use Rattle.std.specs.Prelude.{◌&&◌, ◌^◌, bytes_eq, option_map, IfSome}
use Rattle.std.specs.List.{AllByRecursion, filter, onto_first, join_with_byte}
use Rattle.std.specs.List.Sorted.{IsStrictlySortedBy}
use Rattle.std.specs.Option.{option_to_list}
use Rattle.std.specs.Ordering.{nat_cmp, is_lt, is_gt, ordering_then, ordering_reverse}
use Rattle.std.specs.declared.cmp.Ordering.{Ordering}
use Rattle.std.specs.declared.cmp.Ordering.TheVariants.{Less, Equal, Greater}
use Rattle.std.specs.Cmp.Lexicographic.{slice_cmp}
use Rattle.std.proofs.lemmas.Bool.Decides.{nat_tests}
use Rattle.std.proofs.lemmas.Cmp.{ranked, by_ranked, tied_itself, upto, nat_list_cmp_total}
use Rattle.std.proofs.lemmas.List.{append_cancel_left, append-nil, map-append, take-append-drop, take_more}
use Rattle.std.proofs.Math.Seq.{take-append-add, drop-append_seam}
use Rattle.std.proofs.lemmas.List.Elements.{filter-append}
use Rattle.std.proofs.lemmas.List.Sums.{length-filter, count_by-le-length}
use Rattle.std.proofs.lemmas.List.Splits.{join_with_byte-slice_split}
use Rattle.std.proofs.lemmas.Map.Lookups.{exact_bytes}
use Rattle.std.proofs.lemmas.Slice.Eq.{bytes_eq-Decides}
use Rattle.std.proofs.lemmas.Bool.{false_from_ne_true, and_parts}
use Rattle.tv_base.specs.Facet.{path, steps, IsStep, Descends}
use Rattle.tv_base.proofs.Steps.{path-not_nil, path-append, Descends-rest, Descends-from_rest, Descends-itself, false_true, same_head, path-one}
use Rattle.tv_base.specs.FacetCounting.{begins_with, is_within, count_within, IsChild, IsChildCount, AreChildCounts, AreRising, entry_of}
use Rattle.tv_base.specs.ChildPlaces.{front, entries, HasNoChild, IsChildAbove, GoesOn, CountsOne}
use Rattle.tv_base.specs.declared.facet_counts.FacetCount.{FacetCount}

-- lists of which each element has a property
pub all-map : {X : Type 0} (P Q : X → Type 0) → ((x : X) → P x → Q x) → (l : List X) → AllByRecursion P l → AllByRecursion Q l
all-map P Q f [] h = tt
all-map P Q f (x ∷ l) h = (f x h.0, all-map P Q f l h.1)

all-both : {X : Type 0} (P Q R : X → Type 0) → ((x : X) → P x → Q x → R x) → (l : List X) → AllByRecursion P l → AllByRecursion Q l → AllByRecursion R l
all-both P Q R f [] h k = tt
all-both P Q R f (x ∷ l) h k = (f x h.0 k.0, all-both P Q R f l h.1 k.1)

pub all-append : {X : Type 0} (P : X → Type 0) (l m : List X) → AllByRecursion P l → AllByRecursion P m → AllByRecursion P (l ++ m)
all-append P [] m h k = k
all-append P (x ∷ l) m h k = (h.0, all-append P l m h.1 k)

all-parts : {X : Type 0} (P : X → Type 0) (l m : List X) → AllByRecursion P (l ++ m) → AllByRecursion P l × AllByRecursion P m
all-parts P [] m h = (tt, h)
all-parts P (x ∷ l) m h = let rest = all-parts P l m h.1 in ((h.0, rest.0), rest.1)

begins-more : (upper texts : List (List ℕ)) → begins_with upper texts ≡ true → (more : List (List ℕ)) × (texts ≡ upper ++ more)
begins-more [] texts h = (texts, refl)
begins-more (x ∷ upper) [] h = absurd (false_true h)
begins-more (x ∷ upper) (y ∷ texts) h =
    let both = and_parts (bytes_eq x y) (begins_with upper texts) h in
    let same : x ≡ y = (bytes_eq-Decides x y).0 both.0 in
    let rest = begins-more upper texts both.1 in
    (rest.0, let tails : texts ≡ upper ++ rest.0 = rest.1 in cc)

begins-append : (upper more : List (List ℕ)) → begins_with upper (upper ++ more) ≡ true
begins-append [] more = refl
begins-append (x ∷ upper) more = ap (λ b. b && begins_with upper (upper ++ more)) ((bytes_eq-Decides x x).1 refl) ∙ begins-append upper more

pub within-steps : (upper facet : List ℕ) → is_within upper facet ≡ true → (more : List (List ℕ)) × (steps facet ≡ steps upper ++ more)
within-steps upper facet h = begins-more (steps upper) (steps facet) h

pub within-from_steps : (upper facet : List ℕ) (more : List (List ℕ)) → steps facet ≡ steps upper ++ more → is_within upper facet ≡ true
within-from_steps upper facet more e = ap (begins_with (steps upper)) e ∙ begins-append (steps upper) more

-- facets with the same steps are equal
steps-same : (f g : List ℕ) → steps f ≡ steps g → f ≡ g
steps-same [] [] e = refl
steps-same [] (y ∷ g) e = absurd (path-not_nil (y ∷ g) (sym e))
steps-same (x ∷ f) [] e = absurd (path-not_nil (x ∷ f) e)
steps-same (x ∷ f) (y ∷ g) e = sym (join_with_byte-slice_split 0 (x ∷ f)) ∙ ap (join_with_byte 0) e ∙ join_with_byte-slice_split 0 (y ∷ g)

-- a facet is at or below one child at most
pub same-child : (ancestor c d facet : List ℕ) → IsChild ancestor c → IsChild ancestor d → is_within c facet ≡ true → is_within d facet ≡ true → c ≡ d
same-child ancestor c d facet (s, c_is) (t, d_is) c_above d_above =
    let m = within-steps c facet c_above in
    let n = within-steps d facet d_above in
    let first : steps facet ≡ steps ancestor ++ s ∷ m.0 = m.1 ∙ ap (λ l. l ++ m.0) c_is ∙ append_assoc (steps ancestor) (s ∷ []) m.0 in
    let second : steps facet ≡ steps ancestor ++ t ∷ n.0 = n.1 ∙ ap (λ l. l ++ n.0) d_is ∙ append_assoc (steps ancestor) (t ∷ []) n.0 in
    let behind : s ∷ m.0 ≡ t ∷ n.0 = append_cancel_left (steps ancestor) (s ∷ m.0) (t ∷ n.0) (sym first ∙ second) in
    let step : s ≡ t = cc in
    steps-same c d (c_is ∙ ap (λ x. steps ancestor ++ x ∷ []) step ∙ sym d_is)

-- the bytes of a child
all-onto_first : (b : ℕ) (parts : List (List ℕ)) → b ≢ 0 → AllByRecursion IsStep parts → AllByRecursion IsStep (onto_first b parts)
all-onto_first b [] h k = ((h, tt), tt)
all-onto_first b (part ∷ parts) h k = ((h, k.0), k.1)

not_zero : (b : ℕ) → (eqb b 0) ≡ false → b ≢ 0
not_zero b h e = grind (arith, nat_tests)

path-steps_case : (c : Bool) (b : ℕ) (parts : List (List ℕ)) → (eqb b 0) ≡ c → AllByRecursion IsStep parts → AllByRecursion IsStep (cond c ([] ∷ parts) (onto_first b parts))
path-steps_case true b parts e h = (tt, h)
path-steps_case false b parts e h = all-onto_first b parts (not_zero b e) h

path-steps : (text : List ℕ) → AllByRecursion IsStep (path text)
path-steps [] = (tt, tt)
path-steps (b ∷ text) = path-steps_case (eqb b 0) b (path text) refl (path-steps text)

path-same : (f g : List ℕ) → path f ≡ path g → f ≡ g
path-same f g e = sym (join_with_byte-slice_split 0 f) ∙ ap (join_with_byte 0) e ∙ join_with_byte-slice_split 0 g

no_steps : (l : List (List ℕ)) (x : List ℕ) → [] ≡ l ++ x ∷ [] → ⊥
no_steps [] x e = cc
no_steps (y ∷ l) x e = cc

pub child-not_root : (ancestor child : List ℕ) → IsChild ancestor child → child ≢ []
child-not_root ancestor child (s, e) root = no_steps (steps ancestor) s (sym (ap steps root) ∙ e)

-- a child is the front and a step
pub record ChildForm (ancestor child : List ℕ) : Type 0 where
  pub step : List ℕ
  pub is_step : IsStep step
  pub child_is : child ≡ front ancestor ++ step
  pub has_step : ancestor ≡ [] → step ≢ []

last-step : (parts : List (List ℕ)) (step : List ℕ) (text : List ℕ) → path text ≡ parts ++ step ∷ [] → IsStep step
last-step parts step text e = (all-parts IsStep parts (step ∷ []) (subst (AllByRecursion IsStep) e (path-steps text))).1.0

pub child-form : (ancestor child : List ℕ) → IsChild ancestor child → ChildForm ancestor child
child-form ancestor [] is_child = absurd (child-not_root ancestor [] is_child refl)
child-form [] (b ∷ bs) (s, e) =
    let step : IsStep s = last-step [] s (b ∷ bs) e in
    let child_is : b ∷ bs ≡ s = path-same (b ∷ bs) s (e ∙ sym (path-one s step)) in
    record { step = s; is_step = step; child_is = child_is; has_step = λ _ empty. (let same : b ∷ bs ≡ [] = child_is ∙ empty in cc) }
child-form (x ∷ xs) (b ∷ bs) (s, e) =
    let step : IsStep s = last-step (path (x ∷ xs)) s (b ∷ bs) e in
    let child_is : b ∷ bs ≡ (x ∷ xs) ++ 0 ∷ s =
    path-same (b ∷ bs) ((x ∷ xs) ++ 0 ∷ s) (e ∙ ap (λ l. path (x ∷ xs) ++ l) (sym (path-one s step)) ∙ sym (path-append (x ∷ xs) s)) in
    record { step = s; is_step = step; child_is = child_is ∙ sym (append_assoc (x ∷ xs) (0 ∷ []) s); has_step = λ none. absurd (let same : x ∷ xs ≡ [] = none in cc) }

pub child-from_form : (ancestor child : List ℕ) → ChildForm ancestor child → IsChild ancestor child
child-from_form [] child p =
    elim p.step as (λ s. child ≡ s → IsStep s → s ≢ [] → IsChild [] child) [
      | [] ↦ λ e h k. absurd (k refl)
      | b ∷ bs ↦ λ e h k. (b ∷ bs, ap steps e ∙ path-one (b ∷ bs) h)
    ] p.child_is p.is_step (p.has_step refl)
child-from_form (x ∷ xs) child p =
    (p.step, ap steps (p.child_is ∙ append_assoc (x ∷ xs) (0 ∷ []) p.step) ∙ path-append (x ∷ xs) p.step ∙ ap (λ l. path (x ∷ xs) ++ l) (path-one p.step p.is_step))

-- what may stand after a step
abbrev pub Ends : List ℕ → Type 0
Ends rest = (rest ≡ []) ⊎ ((more : List ℕ) × (rest ≡ 0 ∷ more))

-- what is at or below a facet
within-form_of : (upper facet : List ℕ) → upper ≢ [] → (more : List (List ℕ)) → steps facet ≡ steps upper ++ more → (rest : List ℕ) × Ends rest × (facet ≡ upper ++ rest)
within-form_of upper facet h [] e = ([], inl refl, steps-same facet upper (e ∙ append-nil (steps upper)) ∙ sym (append-nil upper))
within-form_of upper facet h (x ∷ more) e =
    let rest = Descends-rest upper facet h (x ∷ more, (λ n. cc), e) in (0 ∷ rest.0, inr (rest.0, refl), rest.1)

pub within-form : (upper facet : List ℕ) → upper ≢ [] → is_within upper facet ≡ true → (rest : List ℕ) × Ends rest × (facet ≡ upper ++ rest)
within-form upper facet h above = within-form_of upper facet h (within-steps upper facet above).0 (within-steps upper facet above).1

pub within-from_form : (upper facet rest : List ℕ) → upper ≢ [] → Ends rest → facet ≡ upper ++ rest → is_within upper facet ≡ true
within-from_form upper facet rest h (inl none) e =
    within-from_steps upper facet [] (ap steps (e ∙ ap (λ l. upper ++ l) none ∙ append-nil upper) ∙ sym (append-nil (steps upper)))
within-from_form upper facet rest h (inr (more, is)) e =
    let below = Descends-from_rest upper more h in
    within-from_steps upper facet below.0 (ap steps (e ∙ ap (λ l. upper ++ l) is) ∙ below.2)

front-order : (front one other : List ℕ) → slice_cmp nat_cmp (front ++ one) (front ++ other) ≡ slice_cmp nat_cmp one other
front-order [] one other = refl
front-order (x ∷ front) one other = same_head x (slice_cmp nat_cmp (front ++ one) (front ++ other)) ∙ front-order front one other

nil-least : (xs : List ℕ) → is_lt (slice_cmp nat_cmp xs []) ≡ false
nil-least [] = refl
nil-least (x ∷ xs) = refl

zero-least : (x : ℕ) (o : Ordering) → x ≢ 0 → is_lt (ordering_then (nat_cmp 0 x) o) ≡ false → ⊥
zero-least x o h k =
    by_ranked (0 < x) (0 ≡ x) (x < 0) (nat_cmp 0 x) (ranked 0 x (nat_cmp 0 x) refl)
    (λ e below. false_true (sym (rw e at k)))
    (λ e same. h (sym same))
    (λ e above. absurd (omega arith))

ends-above : (x : ℕ) (rest step : List ℕ) → x ≢ 0 → Ends rest → is_lt (slice_cmp nat_cmp rest (x ∷ step)) ≡ false → ⊥
ends-above x [] step h ends k = false_true (sym k)
ends-above x (y ∷ rest) step h (inl none) k = (let e : y ∷ rest ≡ [] = none in cc)
ends-above x (y ∷ rest) step h (inr (more, is)) k =
    let zero_first : y ≡ 0 = (let e : y ∷ rest ≡ 0 ∷ more = is in cc) in
    zero-least x (slice_cmp nat_cmp rest step) h (ap (λ z. is_lt (ordering_then (nat_cmp z x) (slice_cmp nat_cmp rest step))) (sym zero_first) ∙ k)

heads-order : (x y : ℕ) (o p : Ordering) → (is_lt o ≡ false → is_lt p ≡ false) → is_lt (ordering_then (nat_cmp y x) o) ≡ false → is_lt (ordering_then (nat_cmp y x) p) ≡ false
heads-order x y o p more h =
    by_ranked (y < x) (y ≡ x) (x < y) (nat_cmp y x) (ranked y x (nat_cmp y x) refl)
    (λ e below. absurd (false_true (sym (rw e at h))))
    (λ e same. rw e (more (rw e at h)))
    (λ e above. rw e refl)

steps-order : (s t f g : List ℕ) → IsStep s → Ends g → is_lt (slice_cmp nat_cmp (t ++ g) (s ++ f)) ≡ false → is_lt (slice_cmp nat_cmp t s) ≡ false
steps-order [] t f g h ends k = nil-least t
steps-order (x ∷ s) [] f g h ends k = absurd (ends-above x g (s ++ f) h.0 ends k)
steps-order (x ∷ s) (y ∷ t) f g h ends k =
    heads-order x y (slice_cmp nat_cmp (t ++ g) (s ++ f)) (slice_cmp nat_cmp t s) (steps-order s t f g h.1 ends) k

pub children-order : (ancestor c d f g : List ℕ) → IsChildAbove ancestor f c → IsChildAbove ancestor g d → is_lt (slice_cmp nat_cmp g f) ≡ false → is_lt (slice_cmp nat_cmp d c) ≡ false
children-order ancestor c d f g one other h =
    let p = child-form ancestor c one.is_child in
    let q = child-form ancestor d other.is_child in
    let v = within-form c f (child-not_root ancestor c one.is_child) one.is_above in
    let w = within-form d g (child-not_root ancestor d other.is_child) other.is_above in
    let f_is : f ≡ front ancestor ++ (p.step ++ v.0) = v.2 ∙ ap (λ l. l ++ v.0) p.child_is ∙ append_assoc (front ancestor) p.step v.0 in
    let g_is : g ≡ front ancestor ++ (q.step ++ w.0) = w.2 ∙ ap (λ l. l ++ w.0) q.child_is ∙ append_assoc (front ancestor) q.step w.0 in
    let whole : slice_cmp nat_cmp g f ≡ slice_cmp nat_cmp (q.step ++ w.0) (p.step ++ v.0) = (λ i. slice_cmp nat_cmp (g_is i) (f_is i)) ∙ front-order (front ancestor) (q.step ++ w.0) (p.step ++ v.0) in
    let part : slice_cmp nat_cmp d c ≡ slice_cmp nat_cmp q.step p.step = (λ i. slice_cmp nat_cmp (q.child_is i) (p.child_is i)) ∙ front-order (front ancestor) q.step p.step in
    ap is_lt part ∙ steps-order p.step q.step v.0 w.0 p.is_step w.1 (ap is_lt (sym whole) ∙ h)

-- how many there are with one more
length-cond : (b : Bool) (f : List ℕ) → length (cond b (f ∷ []) []) ≡ cond b 1 0
length-cond true f = refl
length-cond false f = refl

count-more : (upper : List ℕ) (facets : List (List ℕ)) (f : List ℕ) → count_within upper (facets ++ f ∷ []) ≡ count_within upper facets + cond (is_within upper f) 1 0
count-more upper facets f =
    ap length (filter-append (is_within upper) facets (f ∷ [])) ∙ length-append (filter (is_within upper) facets) (cond (is_within upper f) (f ∷ []) [])
    ∙ ap (λ n. count_within upper facets + n) (length-cond (is_within upper f) f)

count-yes : (upper : List ℕ) (facets : List (List ℕ)) (f : List ℕ) → is_within upper f ≡ true → count_within upper (facets ++ f ∷ []) ≡ count_within upper facets + 1
count-yes upper facets f h = count-more upper facets f ∙ ap (λ b. count_within upper facets + cond b 1 0) h

count-no : (upper : List ℕ) (facets : List (List ℕ)) (f : List ℕ) → is_within upper f ≡ false → count_within upper (facets ++ f ∷ []) ≡ count_within upper facets
count-no upper facets f h = count-more upper facets f ∙ ap (λ b. count_within upper facets + cond b 1 0) h ∙ omega arith

-- where there are some, one has what each has
pub record IsWithinHaving (upper : List ℕ) (P : List ℕ → Type 0) : Type 0 where
  pub facet : List ℕ
  pub above : is_within upper facet ≡ true
  pub has : P facet

some-within_case : (upper : List ℕ) (P : List ℕ → Type 0) (f : List ℕ) (facets : List (List ℕ)) (b : Bool) → is_within upper f ≡ b → P f → (0 < count_within upper facets → IsWithinHaving upper P)
    → 0 < length (cond b (f ∷ filter (is_within upper) facets) (filter (is_within upper) facets)) → IsWithinHaving upper P
some-within_case upper P f facets true e here others k = record { facet = f; above = e; has = here }
some-within_case upper P f facets false e here others k = others k

some-within : (upper : List ℕ) (P : List ℕ → Type 0) (facets : List (List ℕ)) → AllByRecursion P facets → 0 < count_within upper facets → IsWithinHaving upper P
some-within upper P [] h k = absurd (omega arith)
some-within upper P (f ∷ facets) h k = some-within_case upper P f facets (is_within upper f) refl h.0 (some-within upper P facets h.1) k

-- lists that rise
not_above : (o : Ordering) → is_lt (ordering_reverse o) ≡ false → (o ≡ Equal → ⊥) → o ≡ Less
not_above Less h k = refl
not_above Equal h k = absurd (k refl)
not_above Greater h k = absurd (false_true (sym h))

not_itself : (c d : List ℕ) → slice_cmp nat_cmp c d ≡ Less → c ≢ d
not_itself c d h e = (let same : Equal ≡ Less = sym (tied_itself nat_list_cmp_total d) ∙ ap (λ x. slice_cmp nat_cmp x d) (sym e) ∙ h in cc)

strictly-parts : (keys : List (List ℕ)) (last : List ℕ) → IsStrictlySortedBy (slice_cmp nat_cmp) (keys ++ last ∷ []) → AllByRecursion (λ k. slice_cmp nat_cmp k last ≡ Less) keys
unfolding IsStrictlySortedBy
strictly-parts [] last h = tt
strictly-parts (k ∷ keys) last h = ((all-parts (λ y. slice_cmp nat_cmp k y ≡ Less) keys (last ∷ []) h.0).1.0, strictly-parts keys last h.1)

strictly-more : (keys : List (List ℕ)) (last : List ℕ) → IsStrictlySortedBy (slice_cmp nat_cmp) keys → AllByRecursion (λ k. slice_cmp nat_cmp k last ≡ Less) keys → IsStrictlySortedBy (slice_cmp nat_cmp) (keys ++ last ∷ [])
unfolding IsStrictlySortedBy
strictly-more [] last h below = (tt, tt)
strictly-more (k ∷ keys) last h below = (all-append (λ y. slice_cmp nat_cmp k y ≡ Less) keys (last ∷ []) h.0 (below.0, tt), strictly-more keys last h.1 below.1)

-- the counts so far, with one facet more
all-keys : (P : List ℕ → Type 0) (counts : List (List ℕ × ℕ)) → AllByRecursion P (map (λ entry. entry.0) counts) → AllByRecursion (λ entry. P entry.0) counts
all-keys P [] h = tt
all-keys P (e ∷ counts) h = (h.0, all-keys P counts h.1)

keys-all : (P : List ℕ → Type 0) (counts : List (List ℕ × ℕ)) → AllByRecursion (λ entry. P entry.0) counts → AllByRecursion P (map (λ entry. entry.0) counts)
keys-all P [] h = tt
keys-all P (e ∷ counts) h = (h.0, keys-all P counts h.1)

kept : (ancestor : List ℕ) (facets : List (List ℕ)) (f child : List ℕ) (count : ℕ) → IsChildCount ancestor facets child count → is_within child f ≡ false → IsChildCount ancestor (facets ++ f ∷ []) child count
kept ancestor facets f child count p h = record { is_child = p.is_child; count_is = p.count_is ∙ sym (count-no child facets f h); has_facets = p.has_facets }

-- a facet that is no child and below none changes nothing
pub counts-none : (ancestor : List ℕ) (facets : List (List ℕ)) (counts : List (List ℕ × ℕ)) (f : List ℕ) → AreChildCounts ancestor facets counts → HasNoChild ancestor f → AreChildCounts ancestor (facets ++ f ∷ []) counts
counts-none ancestor facets counts f p h = record {
  each = all-map (λ e. IsChildCount ancestor facets e.0 e.1) (λ e. IsChildCount ancestor (facets ++ f ∷ []) e.0 e.1) (λ e q. kept ancestor facets f e.0 e.1 q (h e.0 q.is_child)) counts p.each;
  rising = p.rising;
  others = λ child is_child all. count-no child facets f (h child is_child) ∙ p.others child is_child all;
}

-- a facet is at or below no other child
apart : (ancestor f c child : List ℕ) → IsChildAbove ancestor f c → IsChild ancestor child → child ≢ c → is_within child f ≡ false
apart ancestor f c child p is_child h = false_from_ne_true (is_within child f) (λ above. h (same-child ancestor child c f is_child p.is_child above p.is_above))

one-entry : (ancestor : List ℕ) (facets : List (List ℕ)) (f c : List ℕ) (count : ℕ) → IsChildAbove ancestor f c → count_within c facets + 1 ≡ count → IsChildCount ancestor (facets ++ f ∷ []) c count
one-entry ancestor facets f c count p e = record { is_child = p.is_child; count_is = sym e ∙ sym (count-yes c facets f p.is_above); has_facets = omega arith }

behind : (ancestor : List ℕ) (facets : List (List ℕ)) (counts : List (List ℕ × ℕ)) (f c : List ℕ) (count : ℕ) → IsChildAbove ancestor f c
    → AllByRecursion (λ e. IsChildCount ancestor facets e.0 e.1) counts → AllByRecursion (λ e. slice_cmp nat_cmp e.0 c ≡ Less) counts → IsStrictlySortedBy (slice_cmp nat_cmp) (map (λ e. e.0) counts)
    → count_within c facets + 1 ≡ count
    → ((child : List ℕ) → IsChild ancestor child → AllByRecursion (λ e. e.0 ≢ child) counts → c ≢ child → count_within child facets ≡ 0)
    → AreChildCounts ancestor (facets ++ f ∷ []) (counts ++ (c, count) ∷ [])
behind ancestor facets counts f c count p each below rising count_is others = record {
  each = all-append (λ e. IsChildCount ancestor (facets ++ f ∷ []) e.0 e.1) counts ((c, count) ∷ [])
      (all-both (λ e. IsChildCount ancestor facets e.0 e.1) (λ e. slice_cmp nat_cmp e.0 c ≡ Less) (λ e. IsChildCount ancestor (facets ++ f ∷ []) e.0 e.1)
      (λ e q less. kept ancestor facets f e.0 e.1 q (apart ancestor f c e.0 p q.is_child (not_itself e.0 c less))) counts each below)
      (one-entry ancestor facets f c count p count_is, tt);
  rising = subst (IsStrictlySortedBy (slice_cmp nat_cmp)) (sym (map-append (λ (e : List ℕ × ℕ). e.0) counts ((c, count) ∷ [])))
      (strictly-more (map (λ e. e.0) counts) c rising (keys-all (λ k. slice_cmp nat_cmp k c ≡ Less) counts below));
  others = λ child is_child all.
      let parts = all-parts (λ e. e.0 ≢ child) counts ((c, count) ∷ []) all in
      count-no child facets f (apart ancestor f c child p is_child (λ e. parts.1.0 (sym e))) ∙ others child is_child parts.0 parts.1.0;
}

-- what stands before the last child
pub record BeforeLast (ancestor : List ℕ) (facets : List (List ℕ)) (counts : List (List ℕ × ℕ)) (last : List ℕ × ℕ) : Type 0 where
  pub each : AllByRecursion (λ e. IsChildCount ancestor facets e.0 e.1) counts
  pub last_is : IsChildCount ancestor facets last.0 last.1
  pub below : AllByRecursion (λ e. slice_cmp nat_cmp e.0 last.0 ≡ Less) counts
  pub rising : IsStrictlySortedBy (slice_cmp nat_cmp) (map (λ e. e.0) counts)

strictly-front : (keys : List (List ℕ)) (last : List ℕ) → IsStrictlySortedBy (slice_cmp nat_cmp) (keys ++ last ∷ []) → IsStrictlySortedBy (slice_cmp nat_cmp) keys
unfolding IsStrictlySortedBy
strictly-front [] last h = tt
strictly-front (k ∷ keys) last h = ((all-parts (λ y. slice_cmp nat_cmp k y ≡ Less) keys (last ∷ []) h.0).0, strictly-front keys last h.1)

before-last : (ancestor : List ℕ) (facets : List (List ℕ)) (counts : List (List ℕ × ℕ)) (last : List ℕ × ℕ) → AreChildCounts ancestor facets (counts ++ last ∷ []) → BeforeLast ancestor facets counts last
before-last ancestor facets counts last p =
    let parts = all-parts (λ e. IsChildCount ancestor facets e.0 e.1) counts (last ∷ []) p.each in
    let keys = subst (IsStrictlySortedBy (slice_cmp nat_cmp)) (map-append (λ (e : List ℕ × ℕ). e.0) counts (last ∷ [])) p.rising in
    record {
      each = parts.0;
      last_is = parts.1.0;
      below = all-keys (λ k. slice_cmp nat_cmp k last.0 ≡ Less) counts (strictly-parts (map (λ e. e.0) counts) last.0 keys);
      rising = strictly-front (map (λ e. e.0) counts) last.0 keys;
    }

-- one more facet at or below the last child
pub counts-again : (ancestor : List ℕ) (facets : List (List ℕ)) (counts : List (List ℕ × ℕ)) (c : List ℕ) (n : ℕ) (f : List ℕ) → AreChildCounts ancestor facets (counts ++ (c, n) ∷ []) → IsChildAbove ancestor f c
    → AreChildCounts ancestor (facets ++ f ∷ []) (counts ++ (c, n + 1) ∷ [])
counts-again ancestor facets counts c n f p above =
    let b = before-last ancestor facets counts (c, n) p in
    behind ancestor facets counts f c (n + 1) above b.each b.below b.rising (ap (λ k. k + 1) (sym b.last_is.count_is))
    (λ child is_child all other. p.others child is_child (all-append (λ e. e.0 ≢ child) counts ((c, n) ∷ []) all (other, tt)))

-- a facet at or below a child after all others
pub counts-new : (ancestor : List ℕ) (facets : List (List ℕ)) (counts : List (List ℕ × ℕ)) (c f : List ℕ) → AreChildCounts ancestor facets counts → IsChildAbove ancestor f c
    → AllByRecursion (λ e. slice_cmp nat_cmp e.0 c ≡ Less) counts → AreChildCounts ancestor (facets ++ f ∷ []) (counts ++ (c, 1) ∷ [])
counts-new ancestor facets counts c f p above below =
    let none : count_within c facets ≡ 0 = p.others c above.is_child (all-map (λ e. slice_cmp nat_cmp e.0 c ≡ Less) (λ e. e.0 ≢ c) (λ e less. not_itself e.0 c less) counts below) in
    behind ancestor facets counts f c 1 above p.each below p.rising (ap (λ k. k + 1) none) (λ child is_child all other. p.others child is_child all)

-- another child is after the last one, since the facet is after the facets so far
after-last : (ancestor : List ℕ) (facets : List (List ℕ)) (d c f : List ℕ) (n : ℕ) → IsChildCount ancestor facets d n → AllByRecursion (λ g. is_lt (slice_cmp nat_cmp f g) ≡ false) facets
    → IsChildAbove ancestor f c → d ≢ c → slice_cmp nat_cmp d c ≡ Less
after-last ancestor facets d c f n q behind_all above other =
    let some : 0 < count_within d facets = subst (λ k. 0 < k) q.count_is q.has_facets in
    let g = some-within d (λ g. is_lt (slice_cmp nat_cmp f g) ≡ false) facets behind_all some in
    let order : is_lt (slice_cmp nat_cmp c d) ≡ false = children-order ancestor d c g.facet f (record { is_child = q.is_child; is_above = g.above }) above g.has in
    not_above (slice_cmp nat_cmp d c) (ap is_lt (sym (nat_list_cmp_total.antisymm c d)) ∙ order) (λ e. other (exact_bytes d c e))

pub below-all : (ancestor : List ℕ) (facets : List (List ℕ)) (counts : List (List ℕ × ℕ)) (last : List ℕ × ℕ) (c f : List ℕ) → AreChildCounts ancestor facets (counts ++ last ∷ []) → AllByRecursion (λ g. is_lt (slice_cmp nat_cmp f g) ≡ false) facets
    → IsChildAbove ancestor f c → last.0 ≢ c → AllByRecursion (λ e. slice_cmp nat_cmp e.0 c ≡ Less) (counts ++ last ∷ [])
below-all ancestor facets counts last c f p behind_all above other =
    let b = before-last ancestor facets counts last p in
    let less : slice_cmp nat_cmp last.0 c ≡ Less = after-last ancestor facets last.0 c f last.1 b.last_is behind_all above other in
    all-append (λ e. slice_cmp nat_cmp e.0 c ≡ Less) counts (last ∷ [])
    (all-map (λ e. slice_cmp nat_cmp e.0 last.0 ≡ Less) (λ e. slice_cmp nat_cmp e.0 c ≡ Less) (λ e before. nat_list_cmp_total.trans e.0 last.0 c before less) counts b.below) (less, tt)

pair_same : (current : List ℕ × ℕ) (c : List ℕ) → current.0 ≡ c → current ≡ (c, current.1)
pair_same current c same i = (same i, current.1)

goes-on : (ancestor : List ℕ) (facets : List (List ℕ)) (done more : List (List ℕ × ℕ)) (current last : List ℕ × ℕ) (c f : List ℕ) → AreChildCounts ancestor facets (done ++ current ∷ []) → AllByRecursion (λ g. is_lt (slice_cmp nat_cmp f g) ≡ false) facets
    → IsChildAbove ancestor f c → GoesOn done current c more last → AreChildCounts ancestor (facets ++ f ∷ []) (more ++ last ∷ [])
goes-on ancestor facets done more current last c f p behind_all above (inl (same, more_is, last_is)) =
    let entry : current ≡ (c, current.1) = pair_same current c same in
    rw (more_is, last_is) (counts-again ancestor facets done c current.1 f (subst (λ e. AreChildCounts ancestor facets (done ++ e ∷ [])) entry p) above)
goes-on ancestor facets done more current last c f p behind_all above (inr (other, more_is, last_is)) =
    rw (more_is, last_is) (counts-new ancestor facets (done ++ current ∷ []) c f p above (below-all ancestor facets done current c f p behind_all above other))

-- one more facet that is a child or below one
pub counts-one : (ancestor : List ℕ) (facets : List (List ℕ)) (done more : List (List ℕ × ℕ)) (current : Option (List ℕ × ℕ)) (last : List ℕ × ℕ) (c f : List ℕ) → AreChildCounts ancestor facets (done ++ option_to_list current)
    → (current ≡ None → done ≡ []) → AllByRecursion (λ g. is_lt (slice_cmp nat_cmp f g) ≡ false) facets → IsChildAbove ancestor f c → CountsOne done current c more last
    → AreChildCounts ancestor (facets ++ f ∷ []) (more ++ last ∷ [])
counts-one ancestor facets done more None last c f p first behind_all above (more_is, last_is) =
    let none : done ≡ [] = first refl in
    let empty : AreChildCounts ancestor facets [] = subst (AreChildCounts ancestor facets) (ap (λ l. l ++ []) none) p in
    rw (more_is, none, last_is) (counts-new ancestor facets [] c f empty above tt)
counts-one ancestor facets done more (Some current) last c f p first behind_all above goes = goes-on ancestor facets done more current last c f p behind_all above goes

-- the child that is found in the bytes of a facet
front-of : (ancestor facet : List ℕ) → Descends ancestor facet → (rest : List ℕ) × (facet ≡ front ancestor ++ rest)
front-of [] facet d = (facet, refl)
front-of (x ∷ xs) facet d = let rest = Descends-rest (x ∷ xs) facet (λ e. cc) d in (rest.0, rest.1 ∙ sym (append_assoc (x ∷ xs) (0 ∷ []) rest.0))

pub front-within : (ancestor facet : List ℕ) → Descends ancestor facet → length (front ancestor) ≤ length facet
front-within ancestor facet d =
    let rest = front-of ancestor facet d in
    omega (arith, length-append (front ancestor) rest.0, ap length rest.1)

step-each : (text : List ℕ) (n : ℕ) → ((k : ℕ) → k < n → get_or text k 0 ≢ 0) → n ≤ length text → IsStep (take n text)
step-each text zero h inside = tt
step-each [] (suc n) h inside = absurd (omega arith)
step-each (b ∷ text) (suc n) h inside = (h 0 (omega arith), step-each text n (λ k below. h (suc k) (omega arith)) (omega arith))

ends-behind : (text : List ℕ) (n : ℕ) → n ≤ length text → (n < length text → get_or text n 0 ≡ 0) → Ends (drop n text)
ends-behind [] zero inside h = inl refl
ends-behind (b ∷ text) zero inside h = inr (text, ap (λ z. z ∷ text) (h (omega arith)))
ends-behind [] (suc n) inside h = absurd (omega arith)
ends-behind (b ∷ text) (suc n) inside h = ends-behind text n (omega arith) (λ below. h (omega arith))

take-not_nil : (text : List ℕ) (n : ℕ) → n ≤ length text → take n text ≡ [] → n ≡ 0
take-not_nil text zero inside e = refl
take-not_nil [] (suc n) inside e = absurd (omega arith)
take-not_nil (b ∷ text) (suc n) inside e = cc

pub child-found : (ancestor facet child rest : List ℕ) (n : ℕ) → Descends ancestor facet → rest ≡ drop (length (front ancestor)) facet → n ≤ length rest → ((k : ℕ) → k < n → get_or rest k 0 ≢ 0)
    → (n < length rest → get_or rest n 0 ≡ 0) → child ≡ take (length (front ancestor) + n) facet → length (front ancestor) + n ≢ 0 → IsChildAbove ancestor facet child
child-found ancestor facet child rest n d rest_is inside step ended child_is some =
    let whole = front-of ancestor facet d in
    let same : rest ≡ whole.0 = rest_is ∙ ap (drop (length (front ancestor))) whole.1 ∙ drop-append_seam (front ancestor) whole.0 in
    let facet_is : facet ≡ front ancestor ++ rest = whole.1 ∙ ap (λ l. front ancestor ++ l) (sym same) in
    let parts : child ≡ front ancestor ++ take n rest = child_is ∙ ap (take (length (front ancestor) + n)) facet_is ∙ take-append-add (front ancestor) rest n in
    let form : ChildForm ancestor child = record {
      step = take n rest;
      is_step = step-each rest n step inside;
      child_is = parts;
      has_step = λ none empty. some (omega (arith, take-not_nil rest n inside empty, ap (λ a. length (front a)) none));
    } in
    let is_child = child-from_form ancestor child form in
    let split : facet ≡ child ++ drop n rest = facet_is ∙ ap (λ l. front ancestor ++ l) (sym (take-append-drop n rest)) ∙ sym (append_assoc (front ancestor) (take n rest) (drop n rest)) ∙ ap (λ l. l ++ drop n rest) (sym parts) in
    record { is_child = is_child; is_above = within-from_form child facet (drop n rest) (child-not_root ancestor child is_child) (ends-behind rest n inside ended) split }

-- what isn't below the ancestor is at or below no child
child-descends : (ancestor facet child : List ℕ) → IsChild ancestor child → is_within child facet ≡ true → Descends ancestor facet
child-descends ancestor facet child (s, e) above =
    let more = within-steps child facet above in
    (s ∷ more.0, (λ none. cc), more.1 ∙ ap (λ l. l ++ more.0) e ∙ append_assoc (steps ancestor) (s ∷ []) more.0)

pub no-child_outside : (ancestor facet : List ℕ) → (Descends ancestor facet → ⊥) → HasNoChild ancestor facet
no-child_outside ancestor facet h child is_child = false_from_ne_true (is_within child facet) (λ above. h (child-descends ancestor facet child is_child above))

front-not_nil : (ancestor : List ℕ) → length (front ancestor) ≡ 0 → ancestor ≡ []
front-not_nil [] e = refl
front-not_nil (x ∷ xs) e = absurd (omega arith)

no-empty : (facet step rest : List ℕ) → facet ≢ [] → get_or facet 0 0 ≡ 0 → IsStep step → step ≢ [] → facet ≡ step ++ rest → ⊥
no-empty facet [] rest some first h k e = k refl
no-empty facet (b ∷ step) rest some first h k e = h.0 (sym (ap (λ l. get_or l 0 0) e) ∙ first)

length-some : (l : List ℕ) → l ≢ [] → 0 < length l
length-some [] h = absurd (h refl)
length-some (x ∷ l) h = omega arith

-- under the root neither is one whose first step is empty
pub no-child_empty : (ancestor facet : List ℕ) (n : ℕ) → Descends ancestor facet → length (front ancestor) + n ≡ 0 → (n < length (drop (length (front ancestor)) facet) → get_or (drop (length (front ancestor)) facet) n 0 ≡ 0)
    → HasNoChild ancestor facet
no-child_empty ancestor facet n d none ended child is_child =
    let start : length (front ancestor) ≡ 0 = omega arith in
    let length_none : n ≡ 0 = omega arith in
    let root = front-not_nil ancestor start in
    let below : Descends [] facet = subst (λ a. Descends a facet) root d in
    let child_of_root : IsChild [] child = subst (λ a. IsChild a child) root is_child in
    let not_root : facet ≢ [] = λ e. Descends-itself [] facet e below in
    let first : 0 < length facet → get_or facet 0 0 ≡ 0 = subst (λ k. k < length facet → get_or facet k 0 ≡ 0) length_none (subst (λ k. n < length (drop k facet) → get_or (drop k facet) n 0 ≡ 0) start ended) in
    false_from_ne_true (is_within child facet) (λ above.
    let form = child-form [] child child_of_root in
    let whole = within-form child facet (child-not_root [] child child_of_root) above in
    no-empty facet form.step whole.0 not_root (first (length-some facet not_root)) form.is_step (form.has_step refl) (whole.2 ∙ ap (λ l. l ++ whole.0) form.child_is))

-- no facet, for places after the last
abbrev pub nothing : Bor (List ℕ)
nothing = record { ref_ptr = (0, 0); now = [] }

-- facets that rise
gt_of_lt : (o : Ordering) → is_gt (ordering_reverse o) ≡ is_lt o
gt_of_lt Less = refl
gt_of_lt Equal = refl
gt_of_lt Greater = refl

turned : (x y : List ℕ) → is_gt (slice_cmp nat_cmp x y) ≡ is_lt (slice_cmp nat_cmp y x)
turned x y = ap is_gt (nat_list_cmp_total.antisymm x y) ∙ gt_of_lt (slice_cmp nat_cmp y x)

not_before : (x y z : List ℕ) → is_lt (slice_cmp nat_cmp y x) ≡ false → is_lt (slice_cmp nat_cmp z y) ≡ false → is_lt (slice_cmp nat_cmp z x) ≡ false
not_before x y z h k = sym (turned x z) ∙ upto nat_list_cmp_total x y z (turned x y ∙ h) (turned y z ∙ k)

abbrev pub so_far : List (Bor (List ℕ)) → ℕ → List (List ℕ)
so_far facets i = map (λ (facet : Bor (List ℕ)). facet.now) (take i facets)

pub so_far-more : (facets : List (Bor (List ℕ))) (i : ℕ) (d : Bor (List ℕ)) → i < length facets → so_far facets (i + 1) ≡ so_far facets i ++ (get_or facets i d).now ∷ []
so_far-more facets i d h =
    let now = λ (facet : Bor (List ℕ)). facet.now in
    ap (map now) (take_more facets i d h) ∙ map-append now (take i facets) (get_or facets i d ∷ [])

-- each facet is not before those so far
pub rising-behind : (facets : List (Bor (List ℕ))) (i : ℕ) (d : Bor (List ℕ)) → AreRising facets → i < length facets → AllByRecursion (λ g. is_lt (slice_cmp nat_cmp (get_or facets i d).now g) ≡ false) (so_far facets i)
rising-behind facets zero d h inside = tt
rising-behind facets (suc i) d h inside =
    let before : i < length facets = omega arith in
    let here = (get_or facets i d).now in
    let next = (get_or facets (suc i) d).now in
    let step : is_lt (slice_cmp nat_cmp next here) ≡ false = rw add-one at (h i d (omega arith) (omega arith)) in
    let more : so_far facets (suc i) ≡ so_far facets i ++ here ∷ [] = rw (← add-one) (so_far-more facets i d before) in
    subst (AllByRecursion (λ g. is_lt (slice_cmp nat_cmp next g) ≡ false)) (sym more)
    (all-append (λ g. is_lt (slice_cmp nat_cmp next g) ≡ false) (so_far facets i) (here ∷ [])
    (all-map (λ g. is_lt (slice_cmp nat_cmp here g) ≡ false) (λ g. is_lt (slice_cmp nat_cmp next g) ≡ false) (λ g below. not_before g here next below step) (so_far facets i) (rising-behind facets i d h before))
    (step, tt))

strictly_nil : IsStrictlySortedBy (slice_cmp nat_cmp) []
unfolding IsStrictlySortedBy
strictly_nil = tt

-- none so far
pub counts-start : (ancestor : List ℕ) → AreChildCounts ancestor [] []
counts-start ancestor = record { each = tt; rising = strictly_nil; others = λ child is_child all. refl }

-- a count is at most the number of facets
pub count-small : (ancestor : List ℕ) (facets : List (List ℕ)) (counts : List (List ℕ × ℕ)) (last : List ℕ × ℕ) → AreChildCounts ancestor facets (counts ++ last ∷ []) → last.1 ≤ length facets
count-small ancestor facets counts last p =
    let q = (before-last ancestor facets counts last p).last_is in
    omega (arith, q.count_is, length-filter (is_within last.0) facets, count_by-le-length (is_within last.0) facets)

pub current-small : (ancestor : List ℕ) (facets : List (List ℕ)) (done : List FacetCount) (current : Option FacetCount) → AreChildCounts ancestor facets (entries done current) → length facets + 1 < 2 ^ 64 → IfSome current (λ entry. entry.count + 1 < 2 ^ 64)
current-small ancestor facets done None p small = tt
current-small ancestor facets done (Some entry) p small = omega (arith, count-small ancestor facets (map entry_of done) (entry_of entry) p)

pub length-so_far : (facets : List (Bor (List ℕ))) (i : ℕ) → length (so_far facets i) ≤ i
length-so_far facets zero = omega arith
length-so_far [] (suc i) = omega arith
length-so_far (f ∷ facets) (suc i) = omega (arith, length-so_far facets i)

none-of : (current : Option FacetCount) → option_map entry_of current ≡ None → current ≡ None
none-of None e = refl
none-of (Some entry) e = cc

pub counts-more : (ancestor : List ℕ) (facets : List (List ℕ)) (done more : List FacetCount) (current : Option FacetCount) (last : FacetCount) (c f : List ℕ) → AreChildCounts ancestor facets (entries done current)
    → (current ≡ None → done ≡ []) → AllByRecursion (λ g. is_lt (slice_cmp nat_cmp f g) ≡ false) facets → IsChildAbove ancestor f c
    → CountsOne (map entry_of done) (option_map entry_of current) c (map entry_of more) (entry_of last) → AreChildCounts ancestor (facets ++ f ∷ []) (entries more (Some last))
counts-more ancestor facets done more current last c f p first behind_all above goes =
    counts-one ancestor facets (map entry_of done) (map entry_of more) (option_map entry_of current) (entry_of last) c f p (λ none. ap (map entry_of) (first (none-of current none))) behind_all above goes
