-- Runs of pairs of one field, whose fields' names rise.
use Rattle.std.proofs.Common.{◌≡◌, ◌≢◌, ◌⊎◌, ◌↔◌, ℕ, zero, suc, ◌<◌, Bool, true, false, cond, List, [], ◌∷◌, ◌++◌, length, map, get_or, Option, Some, None, IfSome, Ordering, Less, Equal, Greater, Bor, refl, sym, ap, subst, ◌∙◌, append_assoc, arith, inl, inr}
use Rattle.tv_json.proofs.Copies.{turned, turned_back}
use Rattle.std.specs.Prelude.{nat_eq, nat_lt, slice_get}
use Rattle.std.specs.BTreeMap.{insert_entry}
use Rattle.std.specs.Cmp.Lexicographic.{slice_cmp}
use Rattle.std.specs.List.{AllByRecursion, Contains, filter}
use Rattle.std.specs.Ordering.{match_ordering, nat_cmp}
use Rattle.std.proofs.lemmas.Bool.{eqb-true}
use Rattle.std.proofs.lemmas.Bool.Decides.{Decides-eqb, nat_tests}
use Rattle.std.proofs.lemmas.Cmp.{nat_list_cmp_total}
use Rattle.std.proofs.lemmas.List.{append-nil, map-append}
use Rattle.std.proofs.lemmas.List.Elements.{filter-append}
use Rattle.tv_value.specs.declared.field.Field.{Field}
use Rattle.tv_format.specs.Tree.{Tree, Document}
use Rattle.tv_doc.specs.FieldValues.{pair_seen, values_of}
use Rattle.tv_doc.specs.Named.{Named, IsNamed, by_name, put_under}
use Rattle.tv_doc.proofs.Grouping.{Up, all_more, up_increasing, append_filled, nil_or, group_of, seen_filled}

-- ---- a name that is above all others

abbrev pub AllBelow : List ℕ → Named → Type 0
AllBelow n = AllByRecursion (λ e. slice_cmp nat_cmp n e.0 ≡ Greater)

abbrev NameBelow : List ℕ → Option (List ℕ) → Type 0
NameBelow n None = ⊥
NameBelow n (Some m) = slice_cmp nat_cmp m n ≡ Less

all_below_higher : (m n : List ℕ) (es : Named) → slice_cmp nat_cmp m n ≡ Less → AllBelow m es → AllBelow n es
all_below_higher m n [] low h = tt
all_below_higher m n (e ∷ es) low h = (turned e.0 n (nat_list_cmp_total.trans e.0 m n (turned_back m e.0 h.0) low), all_below_higher m n es low h.1)

append-match_ordering : (o : Ordering) (a b c z : Named) → match_ordering o a b c ++ z ≡ match_ordering o (a ++ z) (b ++ z) (c ++ z)
append-match_ordering Less a b c z = refl
append-match_ordering Equal a b c z = refl
append-match_ordering Greater a b c z = refl

all_below-match_ordering : (n : List ℕ) (o : Ordering) (a b c : Named) → AllBelow n a → AllBelow n b → AllBelow n c → AllBelow n (match_ordering o a b c)
all_below-match_ordering n Less a b c p q r = p
all_below-match_ordering n Equal a b c p q r = q
all_below-match_ordering n Greater a b c p q r = r

put_at_end : (n : List ℕ) (ts : List Tree) (es : Named) → AllBelow n es → insert_entry (slice_cmp nat_cmp) es n ts ≡ es ++ (n, ts) ∷ []
put_at_end n ts [] h = refl
put_at_end n ts (e ∷ es) h = rw h.0 (ap (λ l. e ∷ l) (put_at_end n ts es h.1))

put_before_end : (m n : List ℕ) (us ts : List Tree) (es : Named) → slice_cmp nat_cmp m n ≡ Less
    → insert_entry (slice_cmp nat_cmp) (es ++ (n, ts) ∷ []) m us ≡ insert_entry (slice_cmp nat_cmp) es m us ++ (n, ts) ∷ []
put_before_end m n us ts [] low = rw low refl
put_before_end m n us ts (e ∷ es) low = rw (put_before_end m n us ts es low) (sym (append-match_ordering (slice_cmp nat_cmp m e.0) _ _ _ ((n, ts) ∷ [])))

all_below_put : (m n : List ℕ) (us : List Tree) (es : Named) → slice_cmp nat_cmp m n ≡ Less → AllBelow n es → AllBelow n (insert_entry (slice_cmp nat_cmp) es m us)
all_below_put m n us [] low h = (turned m n low, tt)
all_below_put m n us (e ∷ es) low h = all_below-match_ordering n (slice_cmp nat_cmp m e.0) _ _ _ (turned m n low, h) h (h.0, all_below_put m n us es low h.1)

under_before_end : (o : Option (List ℕ)) (n : List ℕ) (us ts : List Tree) (es : Named) → NameBelow n o → put_under o us (es ++ (n, ts) ∷ []) ≡ put_under o us es ++ (n, ts) ∷ []
under_before_end None n us ts es low = absurd low
under_before_end (Some m) n us ts es low = put_before_end m n us ts es low

all_below_under : (o : Option (List ℕ)) (n : List ℕ) (us : List Tree) (es : Named) → NameBelow n o → AllBelow n es → AllBelow n (put_under o us es)
all_below_under None n us es low h = absurd low
all_below_under (Some m) n us es low h = all_below_put m n us es low h

-- ---- groups under their names, one of them with such a name

-- the names of these fields are below one
abbrev NamesBelow : List (List ℕ) → List ℕ → List ℕ → Type 0
NamesBelow names n = AllByRecursion (λ g. NameBelow n (slice_get names g))

abbrev insert_field : ℕ → List ℕ → List ℕ
insert_field f [] = f ∷ []
insert_field f (g ∷ gs) = cond (nat_lt f g) (f ∷ g ∷ gs) (g ∷ insert_field f gs)

by_name_before_end : (names : List (List ℕ)) (d : Document) (n : List ℕ) (ts : List Tree) (gs : List ℕ) (es : Named) → NamesBelow names n gs
    → by_name names (map (group_of d) gs) (es ++ (n, ts) ∷ []) ≡ by_name names (map (group_of d) gs) es ++ (n, ts) ∷ []
by_name_before_end names d n ts [] es low = refl
by_name_before_end names d n ts (g ∷ gs) es low =
    ap (by_name names (map (group_of d) gs)) (under_before_end (slice_get names g) n (values_of g d) ts es low.0)
    ∙ by_name_before_end names d n ts gs (put_under (slice_get names g) (values_of g d) es) low.1

inserted_under : (names : List (List ℕ)) (d : Document) (f : ℕ) (n : List ℕ) (gs : List ℕ) (es : Named) → slice_get names f ≡ Some n → NamesBelow names n gs → AllBelow n es
    → by_name names (map (group_of d) (insert_field f gs)) es ≡ by_name names (map (group_of d) gs) es ++ (n, values_of f d) ∷ []
inserted_under names d f n [] es is low h = rw is (put_at_end n (values_of f d) es h)
inserted_under names d f n (g ∷ gs) es is low h =
    by_test (nat_lt f g) (inserted_under names d f n gs (put_under (slice_get names g) (values_of g d) es) is low.1 (all_below_under (slice_get names g) n (values_of g d) es low.0 h))
  where
    there : put_under (slice_get names f) (values_of f d) es ≡ es ++ (n, values_of f d) ∷ []
    there = rw is (put_at_end n (values_of f d) es h)

    by_test : (b : Bool) → by_name names (map (group_of d) (g ∷ insert_field f gs)) es ≡ by_name names (map (group_of d) (g ∷ gs)) es ++ (n, values_of f d) ∷ []
        → by_name names (map (group_of d) (cond b (f ∷ g ∷ gs) (g ∷ insert_field f gs))) es ≡ by_name names (map (group_of d) (g ∷ gs)) es ++ (n, values_of f d) ∷ []
    by_test true behind = ap (by_name names (map (group_of d) (g ∷ gs))) there ∙ by_name_before_end names d n (values_of f d) (g ∷ gs) es low
    by_test false behind = behind

-- ---- fields that rise, with one more

all_inserted : (P : ℕ → Type 0) (f : ℕ) (gs : List ℕ) → P f → AllByRecursion P gs → AllByRecursion P (insert_field f gs)
all_inserted P f [] p h = (p, tt)
all_inserted P f (g ∷ gs) p h = by_test (nat_lt f g) (all_inserted P f gs p h.1)
  where
    by_test : (b : Bool) → AllByRecursion P (insert_field f gs) → AllByRecursion P (cond b (f ∷ g ∷ gs) (g ∷ insert_field f gs))
    by_test true others = (p, h)
    by_test false others = (h.0, others)

below_test : (f g : ℕ) → nat_lt f g ≡ true → f < g
below_test f g e = grind (arith, nat_tests)

above_test : (f g : ℕ) → nat_lt f g ≡ false → (g ≡ f → ⊥) → g < f
above_test f g e other = grind (arith, nat_tests)

up_inserted : (f : ℕ) (gs : List ℕ) → Up gs → AllByRecursion (λ g. g ≢ f) gs → Up (insert_field f gs)
up_inserted f [] u others = (tt, tt)
up_inserted f (g ∷ gs) u others = by_test (nat_lt f g) refl (up_inserted f gs u.1 others.1)
  where
    by_test : (b : Bool) → nat_lt f g ≡ b → Up (insert_field f gs) → Up (cond b (f ∷ g ∷ gs) (g ∷ insert_field f gs))
    by_test true e behind = let low = below_test f g e in ((low, all_more (λ h. g < h) (λ h. f < h) (λ h above. omega arith) gs u.0), u)
    by_test false e behind = (all_inserted (λ h. g < h) f gs (above_test f g e others.0) u.0, behind)

-- a field is one of these
abbrev Has : List ℕ → ℕ → Type 0
Has [] g = ⊥
Has (f ∷ fs) g = (f ≡ g) ⊎ Has fs g

has_inserted : (f : ℕ) (gs : List ℕ) (g : ℕ) → Has (insert_field f gs) g ↔ ((f ≡ g) ⊎ Has gs g)
has_inserted f [] g = (λ h. h, λ h. h)
has_inserted f (e ∷ es) g = by_test (nat_lt f e) (has_inserted f es g)
  where
    by_test : (b : Bool) → (Has (insert_field f es) g ↔ ((f ≡ g) ⊎ Has es g)) → Has (cond b (f ∷ e ∷ es) (e ∷ insert_field f es)) g ↔ ((f ≡ g) ⊎ Has (e ∷ es) g)
    by_test true others = (λ h. h, λ h. h)
    by_test false others = (to, back)
      where
        to : (e ≡ g) ⊎ Has (insert_field f es) g → (f ≡ g) ⊎ ((e ≡ g) ⊎ Has es g)
        to (inl same) = inr (inl same)
        to (inr h) = elim (others.0 h) [ inl same ↦ inl same | inr there ↦ inr (inr there) ]

        back : (f ≡ g) ⊎ ((e ≡ g) ⊎ Has es g) → (e ≡ g) ⊎ Has (insert_field f es) g
        back (inl same) = inr (others.1 (inl same))
        back (inr (inl same)) = inl same
        back (inr (inr there)) = inr (others.1 (inr there))

contains_has : (fs : List ℕ) (g k : ℕ) → k < length fs → get_or fs k g ≡ g → Has fs g
contains_has [] g k within is = absurd (omega (arith, within))
contains_has (f ∷ fs) g zero within is = inl is
contains_has (f ∷ fs) g (suc k) within is = inr (contains_has fs g k (omega (arith, within)) is)

has_contains : (fs : List ℕ) (g : ℕ) → Has fs g → Contains fs g
has_contains [] g h = absurd h
has_contains (f ∷ fs) g (inl same) = (0, omega arith, same)
has_contains (f ∷ fs) g (inr h) = let c = has_contains fs g h in (suc c.0, omega (arith, c.1), c.2)

-- ---- the values of a field, with a run more

values_append : {A : Type 0} (g : ℕ) (d run : List (ℕ × A)) → values_of g (d ++ run) ≡ values_of g d ++ values_of g run
values_append g d run = ap (map (λ p. p.1)) (filter-append (λ p. nat_eq p.0 g) d run) ∙ map-append (λ p. p.1) (filter (λ p. nat_eq p.0 g) d) (filter (λ p. nat_eq p.0 g) run)

-- each pair has this field
abbrev pub IsRun : {A : Type 0} → ℕ → List (ℕ × A) → Type 0
IsRun f = AllByRecursion (λ p. p.0 ≡ f)

run_values : {A : Type 0} (f : ℕ) (run : List (ℕ × A)) → IsRun f run → values_of f run ≡ map (λ p. p.1) run
run_values f [] same = refl
run_values f (p ∷ run) same = rw ((Decides-eqb p.0 f).1 same.0) (ap (λ l. p.1 ∷ l) (run_values f run same.1))

other_test : (f g h : ℕ) → nat_eq f g ≡ false → h ≡ f → nat_eq h g ≡ false
other_test f g h e same = ap (λ n. nat_eq n g) same ∙ e

run_others : {A : Type 0} (f g : ℕ) (run : List (ℕ × A)) → IsRun f run → nat_eq f g ≡ false → values_of g run ≡ []
run_others f g [] same other = refl
run_others f g (p ∷ run) same other = rw (other_test f g p.0 other same.0) (run_others f g run same.1 other)

values_others : {A : Type 0} (f g : ℕ) (d run : List (ℕ × A)) → IsRun f run → nat_eq f g ≡ false → values_of g (d ++ run) ≡ values_of g d
values_others f g d run same other = values_append g d run ∙ ap (λ l. values_of g d ++ l) (run_others f g run same other) ∙ append-nil (values_of g d)

behind_filled : {A : Type 0} (xs ys : List A) → ys ≢ [] → xs ++ ys ≢ []
behind_filled [] ys h e = h e
behind_filled (x ∷ xs) ys h e = cc

groups_others : (f : ℕ) (d run : Document) (gs : List ℕ) → IsRun f run → AllByRecursion (λ g. g ≢ f) gs → map (group_of (d ++ run)) gs ≡ map (group_of d) gs
groups_others f d run [] same others = refl
groups_others f d run (g ∷ gs) same others =
    let test : nat_eq f g ≡ false = unequal f g others.0 in
    let first = values_others f g d run same test in
    let rest = groups_others f d run gs same others.1 in
    λ i. (g, first i) ∷ rest i
  where
    unequal : (m n : ℕ) → (n ≡ m → ⊥) → nat_eq m n ≡ false
    unequal m n other = grind (arith, nat_tests)

-- ---- the runs so far

-- each run's field has a name, the names rise, and so the runs are the groups of their fields
pub record Runs (names : List (List ℕ)) (d : Document) (named : Named) : Type 0 where
  pub fields : List ℕ
  pub up : Up fields
  pub exact : (g : ℕ) → Has fields g ↔ (values_of g d ≢ [])
  pub under : named ≡ by_name names (map (group_of d) fields) []
  pub below : (n : List ℕ) → AllBelow n named → NamesBelow names n fields

pub no_runs : (names : List (List ℕ)) → Runs names [] []
no_runs names = record { fields = []; up = tt; exact = λ g. (λ h. absurd h, λ h. absurd (h refl)); under = refl; below = λ n h. tt }

not_itself : (names : List (List ℕ)) (f : ℕ) (n : List ℕ) (gs : List ℕ) → slice_get names f ≡ Some n → NamesBelow names n gs → AllByRecursion (λ g. g ≢ f) gs
not_itself names f n [] is low = tt
not_itself names f n (g ∷ gs) is low = (λ same. irreflexive (subst (NameBelow n) (ap (slice_get names) same ∙ is) low.0), not_itself names f n gs is low.1)
  where
    irreflexive : slice_cmp nat_cmp n n ≡ Less → ⊥
    irreflexive h = let turn = turned n n h in cc

absent : (f : ℕ) (gs : List ℕ) → AllByRecursion (λ g. g ≢ f) gs → Has gs f → ⊥
absent f [] others h = h
absent f (g ∷ gs) others (inl same) = others.0 same
absent f (g ∷ gs) others (inr h) = absent f gs others.1 h

below_front : (n : List ℕ) (es : Named) (e : List ℕ × List Tree) → AllBelow n (es ++ e ∷ []) → AllBelow n es × (slice_cmp nat_cmp n e.0 ≡ Greater)
below_front n [] e h = (tt, h.0)
below_front n (first ∷ es) e h = let rest = below_front n es e h.1 in ((h.0, rest.0), rest.1)

pub one_more : (names : List (List ℕ)) (d run : Document) (named : Named) (f : ℕ) (n : List ℕ) → slice_get names f ≡ Some n → IsRun f run → run ≢ [] → AllBelow n named → Runs names d named
    → Runs names (d ++ run) (named ++ (n, map (λ p. p.1) run) ∷ [])
one_more names d run named f n is same some above r =
    let low : NamesBelow names n r.fields = r.below n above in
    let others : AllByRecursion (λ g. g ≢ f) r.fields = not_itself names f n r.fields is low in
    let before : values_of f d ≡ [] = elim (nil_or (values_of f d)) [ inl none ↦ none | inr filled ↦ absurd (absent f r.fields others ((r.exact f).1 filled)) ] in
    let its_values : values_of f (d ++ run) ≡ map (λ p. p.1) run = values_append f d run ∙ ap (λ l. l ++ values_of f run) before ∙ run_values f run same in
    record {
      fields = insert_field f r.fields;
      up = up_inserted f r.fields r.up others;
      exact = λ g. (λ h. to g ((has_inserted f r.fields g).0 h), λ h. (has_inserted f r.fields g).1 (back g h));
      under =
          ap (λ l. l ++ (n, map (λ p. p.1) run) ∷ []) (r.under ∙ ap (λ l. by_name names l []) (sym (groups_others f d run r.fields same others)))
          ∙ ap (λ ts. by_name names (map (group_of (d ++ run)) r.fields) [] ++ (n, ts) ∷ []) (sym its_values)
          ∙ sym (inserted_under names (d ++ run) f n r.fields [] is low tt);
      below = λ m h. let parts = below_front m named (n, map (λ p. p.1) run) h in all_inserted (λ g. NameBelow m (slice_get names g)) f r.fields (rw is (turned_back m n parts.1)) (r.below m parts.0);
    }
  where
    to : (g : ℕ) → (f ≡ g) ⊎ Has r.fields g → values_of g (d ++ run) ≢ []
    to g (inl one) none = behind_filled (values_of f d) (values_of f run) (λ e. seen_filled (λ p. p.1) run some (sym (run_values f run same) ∙ e)) (sym (values_append f d run) ∙ ap (λ h. values_of h (d ++ run)) one ∙ none)
    to g (inr there) none = append_filled (values_of g d) (values_of g run) ((r.exact g).0 there) (sym (values_append g d run) ∙ none)

    back : (g : ℕ) → values_of g (d ++ run) ≢ [] → (f ≡ g) ⊎ Has r.fields g
    back g h = by_test (nat_eq f g) refl
      where
        by_test : (b : Bool) → nat_eq f g ≡ b → (f ≡ g) ⊎ Has r.fields g
        by_test true e = inl (eqb-true f g e)
        by_test false e = inr ((r.exact g).1 (λ none. h (values_others f g d run same e ∙ none)))

pub runs_named : (names : List (List ℕ)) (d : Document) (named : Named) → Runs names d named → IsNamed names d named
runs_named names d named r = (
  map (group_of d) r.fields,
  record {
    fields = r.fields;
    rising = up_increasing r.fields r.up;
    exact = λ g. (λ c. (r.exact g).0 (contains_has r.fields g c.0 c.1 c.2), λ h. has_contains r.fields g ((r.exact g).1 h));
    is = refl;
  },
  r.under,
)

-- ---- the loop

-- each name above the last one is above all
abbrev pub RisesTo : Option (Bor (List ℕ)) → Named → Type 0
RisesTo last named = (n : List ℕ) → IfSome last (λ l. slice_cmp nat_cmp l.now n ≡ Less) → AllBelow n named

pub rises_on : (n : Bor (List ℕ)) (named : Named) (ts : List Tree) → AllBelow n.now named → RisesTo (Some n) (named ++ (n.now, ts) ∷ [])
rises_on n named ts above m low = with_last named (all_below_higher n.now m named low above)
  where
    with_last : (es : Named) → AllBelow m es → AllBelow m (es ++ (n.now, ts) ∷ [])
    with_last [] h = (turned n.now m low, tt)
    with_last (e ∷ es) h = (h.0, with_last es h.1)

-- the pairs in front, of which these are the names, and those after
pub record InRuns {V : Type 0} (tree : V → Tree) (names : List (List ℕ)) (pairs rest : List (Field × V)) (named : Named) : Type 0 where
  pub front : List (Field × V)
  pub joined : pairs ≡ front ++ rest
  pub runs : Runs names (map (pair_seen tree) front) named

pub in_runs_start : {V : Type 0} (tree : V → Tree) (names : List (List ℕ)) (pairs : List (Field × V)) → InRuns tree names pairs pairs []
in_runs_start tree names pairs = record { front = []; joined = refl; runs = no_runs names }

run_seen : {V : Type 0} (tree : V → Tree) (f : ℕ) (run : List (Field × V)) → AllByRecursion (λ p. p.0.id ≡ f) run → IsRun f (map (pair_seen tree) run)
run_seen tree f [] same = tt
run_seen tree f (p ∷ run) same = (same.0, run_seen tree f run same.1)

values_seen : {V : Type 0} (tree : V → Tree) (run : List (Field × V)) → map (λ p. p.1) (map (pair_seen tree) run) ≡ map (λ p. tree p.1) run
values_seen tree [] = refl
values_seen tree (p ∷ run) = ap (λ l. tree p.1 ∷ l) (values_seen tree run)

pub in_runs_next : {V : Type 0} (tree : V → Tree) (names : List (List ℕ)) (pairs rest run others : List (Field × V)) (named : Named) (f : ℕ) (n : List ℕ)
    → run ++ others ≡ rest → run ≢ [] → AllByRecursion (λ p. p.0.id ≡ f) run → slice_get names f ≡ Some n → AllBelow n named → InRuns tree names pairs rest named
    → InRuns tree names pairs others (named ++ (n, map (λ p. tree p.1) run) ∷ [])
in_runs_next tree names pairs rest run others named f n cut some same is above r = record {
  front = r.front ++ run;
  joined = r.joined ∙ ap (λ l. r.front ++ l) (sym cut) ∙ sym (append_assoc r.front run others);
  runs =
      subst (λ ts. Runs names (map (pair_seen tree) (r.front ++ run)) (named ++ (n, ts) ∷ [])) (values_seen tree run)
      (subst (λ d. Runs names d (named ++ (n, map (λ p. p.1) (map (pair_seen tree) run)) ∷ [])) (sym (map-append (pair_seen tree) r.front run))
      (one_more names (map (pair_seen tree) r.front) (map (pair_seen tree) run) named f n is (run_seen tree f run same) (seen_filled (pair_seen tree) run some) above r.runs));
}

pub in_runs_done : {V : Type 0} (tree : V → Tree) (names : List (List ℕ)) (pairs rest : List (Field × V)) (named : Named) → rest ≡ [] → InRuns tree names pairs rest named → IsNamed names (map (pair_seen tree) pairs) named
in_runs_done tree names pairs rest named none r =
    let all : pairs ≡ r.front = r.joined ∙ ap (λ l. r.front ++ l) none ∙ append-nil r.front in
    subst (λ l. IsNamed names (map (pair_seen tree) l) named) (sym all) (runs_named names (map (pair_seen tree) r.front) named r.runs)
