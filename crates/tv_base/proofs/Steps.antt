-- Steps of facets, and the order of their bytes.
use Rattle.std.proofs.Common.{◌≡◌, ◌≢◌, ◌↔◌, ℕ, ◌+◌, ◌<◌, Bor, map, take, get_or, length, Bool, true, false, cond, List, [], ◌∷◌, ◌++◌, refl, sym, ◌∙◌, ap, arith, eqb, append_assoc, IsTrue}
use borrow.Author.Tests.{ne_eqb}
use Rattle.std.specs.List.{AllByRecursion, onto_first, join_with_byte}
use Rattle.std.specs.Ordering.{nat_cmp, is_le, is_lt, ordering_then}
use Rattle.std.specs.declared.cmp.Ordering.{Ordering}
use Rattle.std.specs.declared.cmp.Ordering.TheVariants.{Equal, Greater}
use Rattle.std.specs.Cmp.Lexicographic.{slice_cmp}
use Rattle.std.proofs.lemmas.List.Splits.{join_with_byte-slice_split}
use Rattle.std.proofs.lemmas.List.{append_cancel_left, map-append, take_more}
use Rattle.std.proofs.lemmas.Cmp.{ranked, by_ranked}
use Rattle.std.proofs.lemmas.Bool.Decides.{nat_tests}
use Rattle.tv_base.specs.Facet.{path, steps, IsStep, Descends}

onto_first-not_nil : (x : ℕ) (parts : List (List ℕ)) → onto_first x parts ≢ []
onto_first-not_nil x [] e = cc
onto_first-not_nil x (part ∷ parts) e = cc

split_case-not_nil : (c : Bool) (x : ℕ) (parts : List (List ℕ)) → cond c ([] ∷ parts) (onto_first x parts) ≢ []
split_case-not_nil true x parts e = cc
split_case-not_nil false x parts e = onto_first-not_nil x parts e

pub path-not_nil : (bs : List ℕ) → path bs ≢ []
path-not_nil [] e = cc
path-not_nil (b ∷ bs) e = split_case-not_nil (eqb b 0) b (path bs) e

onto_first-append : (x : ℕ) (parts more : List (List ℕ)) → parts ≢ [] → onto_first x (parts ++ more) ≡ onto_first x parts ++ more
onto_first-append x [] more e = absurd (e refl)
onto_first-append x (part ∷ parts) more e = refl

split_case-append : (c : Bool) (x : ℕ) (parts more : List (List ℕ)) → parts ≢ [] → cond c ([] ∷ (parts ++ more)) (onto_first x (parts ++ more)) ≡ cond c ([] ∷ parts) (onto_first x parts) ++ more
split_case-append true x parts more e = refl
split_case-append false x parts more e = onto_first-append x parts more e

append-not_nil : (l m : List (List ℕ)) → l ≢ [] → l ++ m ≢ []
append-not_nil [] m h e = h refl
append-not_nil (x ∷ l) m h e = cc

pub false_true : false ≡ true → ⊥
false_true e = cc

-- the parts on both sides of a zero
pub path-append : (f rest : List ℕ) → path (f ++ 0 ∷ rest) ≡ path f ++ path rest
path-append [] rest = refl
path-append (b ∷ f) rest =
    ap (λ parts. cond (eqb b 0) ([] ∷ parts) (onto_first b parts)) (path-append f rest) ∙ split_case-append (eqb b 0) b (path f) (path rest) (path-not_nil f)

join-append : (l m : List (List ℕ)) → l ≢ [] → m ≢ [] → join_with_byte 0 (l ++ m) ≡ join_with_byte 0 l ++ 0 ∷ join_with_byte 0 m
join-append [] m h k = absurd (h refl)
join-append (x ∷ []) [] h k = absurd (k refl)
join-append (x ∷ []) (y ∷ m) h k = refl
join-append (x ∷ y ∷ l) m h k =
    ap (λ t. x ++ 0 ∷ t) (join-append (y ∷ l) m (λ e. cc) k) ∙ sym (append_assoc x (0 ∷ join_with_byte 0 (y ∷ l)) (0 ∷ join_with_byte 0 m))

-- more steps than those of f, which isn't the root, are more bytes after a zero
pub Descends-rest : (f g : List ℕ) → f ≢ [] → Descends f g → (rest : List ℕ) × (g ≡ f ++ 0 ∷ rest)
Descends-rest [] g h d = absurd (h refl)
Descends-rest (b ∷ f) [] h (more, some, e) = absurd (append-not_nil (path (b ∷ f)) more (path-not_nil (b ∷ f)) (sym e))
Descends-rest (b ∷ f) (c ∷ g) h (more, some, e) = (
  join_with_byte 0 more,
  sym (join_with_byte-slice_split 0 (c ∷ g)) ∙ ap (join_with_byte 0) e ∙ join-append (path (b ∷ f)) more (path-not_nil (b ∷ f)) some
      ∙ ap (λ l. l ++ 0 ∷ join_with_byte 0 more) (join_with_byte-slice_split 0 (b ∷ f)),
)

pub Descends-from_rest : (f rest : List ℕ) → f ≢ [] → Descends f (f ++ 0 ∷ rest)
Descends-from_rest [] rest h = absurd (h refl)
Descends-from_rest (b ∷ f) rest h = (path rest, path-not_nil rest, path-append (b ∷ f) rest)

-- from f and a zero to before f and a one
abbrev pub InRange : List ℕ → List ℕ → Type 0
InRange f g = IsTrue (is_le (slice_cmp nat_cmp (f ++ 0 ∷ []) g)) × IsTrue (is_lt (slice_cmp nat_cmp g (f ++ 1 ∷ [])))

pub nat_itself : (x : ℕ) → nat_cmp x x ≡ Equal
nat_itself x = grind (arith, nat_tests)

pub greater : (a b : ℕ) → b < a → nat_cmp a b ≡ Greater
greater a b h = grind (arith, nat_tests)

not_below_nil : (xs : List ℕ) → IsTrue (is_lt (slice_cmp nat_cmp xs [])) → ⊥
not_below_nil [] h = false_true h
not_below_nil (x ∷ xs) h = false_true h

pub same_head : (x : ℕ) (o : Ordering) → ordering_then (nat_cmp x x) o ≡ o
same_head x o = grind (arith, nat_tests)

at_zero : (rest : List ℕ) → is_le (slice_cmp nat_cmp [] rest) ≡ true
at_zero [] = refl
at_zero (x ∷ rest) = refl

pub InRange-from_rest : (f rest : List ℕ) → InRange f (f ++ 0 ∷ rest)
InRange-from_rest [] rest = (at_zero rest, refl)
InRange-from_rest (x ∷ f) rest =
    let more = InRange-from_rest f rest in
    (rw same_head more.0, rw same_head more.1)

-- the heads of a range are equal
heads : (x y : ℕ) (o p : Ordering) → IsTrue (is_le (ordering_then (nat_cmp x y) o)) → IsTrue (is_lt (ordering_then (nat_cmp y x) p)) → (x ≡ y) × IsTrue (is_le o) × IsTrue (is_lt p)
heads x y o p h k =
    by_ranked (x < y) (x ≡ y) (y < x) (nat_cmp x y) (ranked x y (nat_cmp x y) refl)
    (λ e below. absurd (false_true (rw (greater y x below) at k)))
    (λ e same. (same, rw e at h, rw (← same, nat_itself x) at k))
    (λ e above. absurd (false_true (rw e at h)))

-- the first byte after f is a zero
first_zero : (y : ℕ) (ys : List ℕ) → IsTrue (is_lt (ordering_then (nat_cmp y 1) (slice_cmp nat_cmp ys []))) → y ≡ 0
first_zero y ys k =
    by_ranked (y < 1) (y ≡ 1) (1 < y) (nat_cmp y 1) (ranked y 1 (nat_cmp y 1) refl)
    (λ e below. omega arith)
    (λ e same. absurd (not_below_nil ys (rw e at k)))
    (λ e above. absurd (false_true (rw e at k)))

pub InRange-rest : (f g : List ℕ) → InRange f g → (rest : List ℕ) × (g ≡ f ++ 0 ∷ rest)
InRange-rest [] [] (h, k) = absurd (false_true h)
InRange-rest [] (y ∷ ys) (h, k) = (ys, ap (λ z. z ∷ ys) (first_zero y ys k))
InRange-rest (x ∷ f) [] (h, k) = absurd (false_true h)
InRange-rest (x ∷ f) (y ∷ g) (h, k) =
    let parts = heads x y (slice_cmp nat_cmp (f ++ 0 ∷ []) g) (slice_cmp nat_cmp g (f ++ 1 ∷ [])) h k in
    let more = InRange-rest f g (parts.1, parts.2) in
    (more.0, cc)

pub Descends-in_range : (f g : List ℕ) → f ≢ [] → Descends f g ↔ InRange f g
Descends-in_range f g h = (
  (λ d. let rest = Descends-rest f g h d in rw rest.1 (InRange-from_rest f rest.0)),
  (λ r. let rest = InRange-rest f g r in rw rest.1 (Descends-from_rest f rest.0 h)),
)

no_more : (l more : List (List ℕ)) → more ≢ [] → l ≡ l ++ more → ⊥
no_more [] more some e = some (sym e)
no_more (x ∷ l) more some e = no_more l more some (let tails : l ≡ l ++ more = cc in tails)

-- no facet descends from itself
pub Descends-itself : (f g : List ℕ) → g ≡ f → Descends f g → ⊥
Descends-itself f g same d = no_more (steps f) d.0 d.1 (ap steps (sym same) ∙ d.2)

-- what goes on with a byte descends exactly if that is a zero or the prefix is the root
pub Descends-first : (f g : List ℕ) (first : ℕ) (others : List ℕ) → g ≡ f ++ first ∷ others → f ≢ [] → Descends f g → first ≡ 0
Descends-first f g first others e h d =
    let rest = Descends-rest f g h d in
    let tails : first ∷ others ≡ 0 ∷ rest.0 = append_cancel_left f (first ∷ others) (0 ∷ rest.0) (sym e ∙ rest.1) in cc

pub Descends-root : (b : ℕ) (bs g : List ℕ) → g ≡ b ∷ bs → Descends [] g
Descends-root b bs g e = (path (b ∷ bs), path-not_nil (b ∷ bs), ap steps e)

-- what doesn't begin with f doesn't descend from it
pub Descends-apart : (f g : List ℕ) → ((rest : List ℕ) → g ≢ f ++ rest) → Descends f g → ⊥
Descends-apart [] g h d = h g refl
Descends-apart (b ∷ f) g h d = let rest = Descends-rest (b ∷ f) g (λ e. cc) d in h (0 ∷ rest.0) rest.1

below_root : (g : List ℕ) → g ≢ [] → Descends [] g
below_root [] h = absurd (h refl)
below_root (b ∷ bs) h = Descends-root b bs (b ∷ bs) refl

pub Descends-from_root : (g : List ℕ) → Descends [] g ↔ (g ≢ [])
Descends-from_root g = ((λ d e. Descends-itself [] g e d), below_root g)

-- the first step and this many others
abbrev pub joined : List ℕ → List (Bor (List ℕ)) → ℕ → List ℕ
joined first others n = join_with_byte 0 (first ∷ map (λ (step : Bor (List ℕ)). step.now) (take n others))

-- one more step after the others
pub joined-more : (first : List ℕ) (others : List (Bor (List ℕ))) (i : ℕ) (d : Bor (List ℕ)) → i < length others → joined first others (i + 1) ≡ joined first others i ++ 0 ∷ (get_or others i d).now
joined-more first others i d h =
    let now = λ (step : Bor (List ℕ)). step.now in
    ap (λ l. join_with_byte 0 (first ∷ l)) (ap (map now) (take_more others i d h) ∙ map-append now (take i others) (get_or others i d ∷ []))
    ∙ join-append (first ∷ map now (take i others)) ((get_or others i d).now ∷ []) (λ e. cc) (λ e. cc)

pub path-one : (text : List ℕ) → IsStep text → path text ≡ text ∷ []
path-one [] h = refl
path-one (b ∷ text) h = ap (λ c. cond c ([] ∷ path text) (onto_first b (path text))) (ne_eqb b 0 h.0) ∙ ap (onto_first b) (path-one text h.1)

-- steps that are joined are split again
pub path-joined : (texts : List (List ℕ)) → AllByRecursion IsStep texts → texts ≢ [] → path (join_with_byte 0 texts) ≡ texts
path-joined [] h some = absurd (some refl)
path-joined (text ∷ []) h some = path-one text h.0
path-joined (text ∷ other ∷ texts) h some =
    path-append text (join_with_byte 0 (other ∷ texts)) ∙ (λ i. path-one text h.0 i ++ path-joined (other ∷ texts) h.1 (λ e. cc) i)
