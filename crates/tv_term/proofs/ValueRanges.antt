-- What is left of a range within two bounds, and the terms between two bounds of values.
use Rattle.std.proofs.Common.{◌≡◌, ℕ, ◌↔◌, true, false, List, [], ◌∷◌, ◌++◌, IsTrue, Option, Some, None, refl, subst, sym, ◌∙◌, ap}
use Rattle.std.specs.Global.{Vec}
use Rattle.std.specs.Ordering.{is_le, is_lt, nat_cmp}
use Rattle.std.specs.Range.Bound.{bound_map}
use Rattle.std.specs.Cmp.Lexicographic.{slice_cmp}
use Rattle.std.specs.declared.ops.Bound.{Bound}
use Rattle.std.specs.declared.ops.Bound.TheVariants.{Included, Excluded, Unbounded}
use Rattle.tv_options.specs.declared.types.TypeTag.{TypeTag}
use Rattle.tv_term.specs.Key.{TermValue, IsTerm}
use Rattle.tv_term.specs.Range.{AreTermsOf, HasTerms, IsBetween, IsFrom, IsFromBound, IsFromBytes, IsInRange, IsOfType, IsToBound, IsToBytes, LeavesBetween, LeavesFrom, LeavesTo}
use Rattle.tv_term.specs.Within.{ends_below, is_below}
use Rattle.tv_term.specs.declared.range.TermRange.{TermRange}
use Rattle.tv_term.proofs.ByteRanges.{before-test, next-test}
use Rattle.tv_term.proofs.Terms.{values-order}
use Rattle.tv_term.proofs.WithinRanges.{below_by, below_then, is_from, upto_of, upto_then}

-- ---- what isn't below some bytes

pub starts_later : (start least : List ℕ) (end : Option (Vec ℕ)) (bytes : List ℕ) → is_below start least ≡ true → IsInRange least end bytes ↔ (IsInRange start end bytes × IsFrom least bytes)
starts_later start least end bytes h = ((λ i. ((upto_then start least bytes (upto_of _ h) i.0, i.1), i.0)), (λ w. (w.1, w.0.1)))

pub starts_already : (start least : List ℕ) (end : Option (Vec ℕ)) (bytes : List ℕ) → is_below start least ≡ false → IsInRange start end bytes ↔ (IsInRange start end bytes × IsFrom least bytes)
starts_already start least end bytes h = ((λ i. (i, upto_then least start bytes (is_from least start h) i.0)), (λ w. w.0))

-- ---- what is below some bytes

pub ends_sooner : (start : List ℕ) (old : Option (Vec ℕ)) (end : Vec ℕ) (bytes : List ℕ) → ends_below old end.items ≡ false → IsInRange start (Some end) bytes ↔ (IsInRange start old bytes × IsTrue (is_lt (slice_cmp nat_cmp bytes end.items)))
ends_sooner start None end bytes h = ((λ i. ((i.0, tt), i.1)), (λ w. (w.0.0, w.1)))
ends_sooner start (Some old) end bytes h = ((λ i. ((i.0, below_then bytes end.items old.items i.1 (is_from end.items old.items h)), i.1)), (λ w. (w.0.0, w.1)))

pub ends_already : (start : List ℕ) (old : Option (Vec ℕ)) (end bytes : List ℕ) → ends_below old end ≡ true → IsInRange start old bytes ↔ (IsInRange start old bytes × IsTrue (is_lt (slice_cmp nat_cmp bytes end)))
ends_already start None end bytes h = cc
ends_already start (Some old) end bytes h = ((λ i. (i, below_by bytes old.items end _ refl (upto_of _ i.1) h)), (λ w. w.0))

-- ---- both

pub starts_behind : (all left : TermRange) (below next : List ℕ) → next ≡ below ++ 0 ∷ [] → LeavesFrom all (Included next) left → LeavesFrom all (Excluded below) left
starts_behind all left below next is leaves bytes =
    let same = ap (λ z. is_le (slice_cmp nat_cmp z bytes)) is ∙ next-test below bytes in
    let w = leaves bytes in ((λ i. let b = w.0 i in (b.0, sym same ∙ b.1)), (λ h. w.1 (h.0, same ∙ h.1)))

pub ends_behind : (all left : TermRange) (most next : List ℕ) → next ≡ most ++ 0 ∷ [] → LeavesTo all (Excluded next) left → LeavesTo all (Included most) left
ends_behind all left most next is leaves bytes =
    let same = ap (λ z. is_lt (slice_cmp nat_cmp bytes z)) is ∙ before-test bytes most in
    let w = leaves bytes in ((λ i. let b = w.0 i in (b.0, sym same ∙ b.1)), (λ h. w.1 (h.0, same ∙ h.1)))

-- ---- the terms between two bounds of values

from_bound : (id : ℕ) (lo : Bound TermValue) (start : Bound (List ℕ)) (bytes : List ℕ) (value : TermValue) → AreTermsOf id lo start → IsTerm bytes id value → IsFromBytes start bytes ↔ IsFromBound lo value
from_bound id (Included least) (Included start) bytes value s is = let order = ap is_le (values-order start bytes id least value s is) in ((λ h. sym order ∙ h), (λ h. order ∙ h))
from_bound id (Excluded under) (Excluded start) bytes value s is = let order = ap is_lt (values-order start bytes id under value s is) in ((λ h. sym order ∙ h), (λ h. order ∙ h))
from_bound id Unbounded Unbounded bytes value s is = ((λ h. tt), (λ h. tt))
from_bound id (Included least) (Excluded start) bytes value s is = absurd s
from_bound id (Included least) Unbounded bytes value s is = absurd s
from_bound id (Excluded under) (Included start) bytes value s is = absurd s
from_bound id (Excluded under) Unbounded bytes value s is = absurd s
from_bound id Unbounded (Included start) bytes value s is = absurd s
from_bound id Unbounded (Excluded start) bytes value s is = absurd s

to_bound : (id : ℕ) (hi : Bound TermValue) (end : Bound (List ℕ)) (bytes : List ℕ) (value : TermValue) → AreTermsOf id hi end → IsTerm bytes id value → IsToBytes end bytes ↔ IsToBound hi value
to_bound id (Included most) (Included end) bytes value e is = let order = ap is_le (values-order bytes end id value most is e) in ((λ h. sym order ∙ h), (λ h. order ∙ h))
to_bound id (Excluded above) (Excluded end) bytes value e is = let order = ap is_lt (values-order bytes end id value above is e) in ((λ h. sym order ∙ h), (λ h. order ∙ h))
to_bound id Unbounded Unbounded bytes value e is = ((λ h. tt), (λ h. tt))
to_bound id (Included most) (Excluded end) bytes value e is = absurd e
to_bound id (Included most) Unbounded bytes value e is = absurd e
to_bound id (Excluded above) (Included end) bytes value e is = absurd e
to_bound id (Excluded above) Unbounded bytes value e is = absurd e
to_bound id Unbounded (Included end) bytes value e is = absurd e
to_bound id Unbounded (Excluded end) bytes value e is = absurd e

pub values_between : (all left : TermRange) (id : ℕ) (t : TypeTag) (lo hi : Bound TermValue) (start end : Bound (List ℕ)) → HasTerms (IsOfType id t) all → AreTermsOf id lo start → AreTermsOf id hi end → LeavesBetween all start end left
    → HasTerms (IsBetween id t lo hi) left
values_between all left id t lo hi start end has s e leaves bytes f value are is =
    let w = leaves bytes in
    let inside = has bytes f value are is in (
      (λ i. let b = w.0 i in
          let of = inside.0 b.0 in
          let here = subst (λ n. IsTerm bytes n value) of.0 is in
          (of.0, of.1, (from_bound id lo start bytes value s here).0 b.1, (to_bound id hi end bytes value e here).0 b.2)),
      (λ q. let here = subst (λ n. IsTerm bytes n value) q.0 is in
          w.1 (inside.1 (q.0, q.1), (from_bound id lo start bytes value s here).1 q.2, (to_bound id hi end bytes value e here).1 q.3)),
    )

-- two maps of a bound, one after the other
twice_mapped : {A B C : Type 0} (f : A → B) (h : B → C) (b : Bound A) → bound_map (λ x. h (f x)) b ≡ bound_map h (bound_map f b)
twice_mapped f h (Included x) = refl
twice_mapped f h (Excluded x) = refl
twice_mapped f h Unbounded = refl

-- the values of a bound that is given by reference
pub bound-values : {A B C : Type 0} (f : A → B) (h : B → C) (given : Bound A) (is : Bound B) → bound_map f given ≡ is → bound_map (λ x. h (f x)) given ≡ bound_map h is
bound-values f h given is e = twice_mapped f h given ∙ ap (bound_map h) e
