-- Ranges of terms at paths into JSON objects.
use Rattle.std.proofs.Common.{◌≡◌, ℕ, ◌<◌, ◌^◌, ◌↔◌, List, [], ◌∷◌, ◌++◌, Option, Some, None, IfSome, refl, sym, ap, subst, ◌∙◌, append_assoc}
use Rattle.std.proofs.lemmas.List.{append_cancel_left}
use Rattle.std.specs.Int.{to_be_bytes, w32}
use Rattle.std.specs.Option.{option_map}
use Rattle.std.specs.Ordering.{is_le, is_lt}
use Rattle.std.specs.declared.ops.Bound.{Bound}
use Rattle.std.specs.declared.ops.Bound.TheVariants.{Included, Excluded, Unbounded}
use Rattle.tv_base.specs.Sink.{IsPrefix}
use Rattle.tv_indexing.specs.JsonRanges.{AreTermsAt, IsBetweenAt, IsTypedAt}
use Rattle.tv_indexing.specs.Payloads.{value_parts}
use Rattle.tv_options.specs.Types.{code, type_of_code}
use Rattle.tv_options.specs.declared.types.TypeTag.{TypeTag}
use Rattle.tv_options.specs.declared.types.TypeTag.TheVariants as tag
use Rattle.tv_term.specs.Key.{TermValue, Json, Fits, HasNoZero, IsTerm, coded_value, json_term, payload, tag_of, term}
use Rattle.tv_term.specs.Range.{HasTerms, IsFromBound, IsFromBytes, IsToBound, IsToBytes, LeavesBetween}
use Rattle.tv_term.specs.declared.range.TermRange.{TermRange}
use Rattle.tv_term.proofs.TermRanges.{of_path}
use Rattle.tv_term.proofs.Terms.{json-values-order}

-- ---- the value of a leaf's term, by the type and the bytes that are written of it

pub value_seen : (value : Option TermValue) (type : TypeTag) (bytes : List ℕ) → ◌≡◌ {A = Option (TypeTag × List ℕ)} (Some (type, bytes)) (option_map value_parts value) → IfSome value Fits
    → (v : TermValue) × (value ≡ Some v) × (code type ∷ bytes ≡ coded_value v) × Fits v
value_seen (Some v) type bytes is fits =
    let parts : ◌≡◌ {A = TypeTag × List ℕ} (type, bytes) (value_parts v) = cc in
    (v, refl, ap (λ (part : TypeTag × List ℕ). code part.0 ∷ part.1) parts, fits)
value_seen None type bytes is fits = absurd (cc)

-- ---- the terms at a path whose values are of a type

type_read_back : (t : TypeTag) → type_of_code (code t) ≡ Some t
type_read_back tag.Str = refl
type_read_back tag.U64 = refl
type_read_back tag.I64 = refl
type_read_back tag.Bool = refl
type_read_back tag.Date = refl
type_read_back tag.Facet = refl
type_read_back tag.Bytes = refl
type_read_back tag.Json = refl
type_read_back tag.IpAddr = refl

same_type : (t u : TypeTag) → code t ≡ code u → t ≡ u
same_type t u e = let both = sym (type_read_back t) ∙ ap type_of_code e ∙ type_read_back u in cc

behind_path : (id : ℕ) (path : List ℕ) (inner : TermValue) → term id (Json path inner) ≡ json_term id path ++ coded_value inner
behind_path id path inner =
    sym (append_assoc (to_be_bytes w32 id) (code tag.Json ∷ (path ++ 0 ∷ [])) (coded_value inner) ∙ ap (λ z. to_be_bytes w32 id ++ code tag.Json ∷ z) (append_assoc path (0 ∷ []) (coded_value inner)))

pub typed_at : (id f : ℕ) (path : List ℕ) (t : TypeTag) (value : TermValue) → id < 2 ^ 32 → HasNoZero path → f < 2 ^ 32 → Fits value
    → IsPrefix (json_term id path ++ code t ∷ []) (term f value) ↔ IsTypedAt id path t f value
typed_at id f path t value small h k fits = (
  (λ p. let whole = p.1 ∙ append_assoc (json_term id path) (code t ∷ []) p.0 in
      let at = (of_path id f path value small h k fits).0 (code t ∷ p.0, whole) in
      let here : term id (Json path at.1) ≡ json_term id path ++ (code t ∷ p.0) = ap (term id) (sym at.2) ∙ ap (λ n. term n value) (sym at.0) ∙ whole in
      let rest = append_cancel_left (json_term id path) (coded_value at.1) (code t ∷ p.0) (sym (behind_path id path at.1) ∙ here) in
      let first : code (tag_of at.1) ≡ code t = cc in
      (at.0, at.1, at.2, same_type (tag_of at.1) t first)),
  (λ q. (
    payload q.1,
    ap (λ n. term n value) q.0 ∙ ap (term id) q.2 ∙ behind_path id path q.1 ∙ ap (λ u. json_term id path ++ code u ∷ payload q.1) q.3 ∙ sym (append_assoc (json_term id path) (code t ∷ []) (payload q.1)),
  )),
)

-- ---- those between two bounds

from_bound : (id : ℕ) (path : List ℕ) (lo : Bound TermValue) (start : Bound (List ℕ)) (bytes : List ℕ) (inner : TermValue) → AreTermsAt id path lo start → IsTerm bytes id (Json path inner) → IsFromBytes start bytes ↔ IsFromBound lo inner
from_bound id path (Included least) (Included start) bytes inner s is = let order = ap is_le (json-values-order start bytes id path least inner s is) in ((λ h. sym order ∙ h), (λ h. order ∙ h))
from_bound id path (Excluded under) (Excluded start) bytes inner s is = let order = ap is_lt (json-values-order start bytes id path under inner s is) in ((λ h. sym order ∙ h), (λ h. order ∙ h))
from_bound id path Unbounded Unbounded bytes inner s is = ((λ h. tt), (λ h. tt))
from_bound id path (Included least) (Excluded start) bytes inner s is = absurd s
from_bound id path (Included least) Unbounded bytes inner s is = absurd s
from_bound id path (Excluded under) (Included start) bytes inner s is = absurd s
from_bound id path (Excluded under) Unbounded bytes inner s is = absurd s
from_bound id path Unbounded (Included start) bytes inner s is = absurd s
from_bound id path Unbounded (Excluded start) bytes inner s is = absurd s

to_bound : (id : ℕ) (path : List ℕ) (hi : Bound TermValue) (end : Bound (List ℕ)) (bytes : List ℕ) (inner : TermValue) → AreTermsAt id path hi end → IsTerm bytes id (Json path inner) → IsToBytes end bytes ↔ IsToBound hi inner
to_bound id path (Included most) (Included end) bytes inner e is = let order = ap is_le (json-values-order bytes end id path inner most is e) in ((λ h. sym order ∙ h), (λ h. order ∙ h))
to_bound id path (Excluded above) (Excluded end) bytes inner e is = let order = ap is_lt (json-values-order bytes end id path inner above is e) in ((λ h. sym order ∙ h), (λ h. order ∙ h))
to_bound id path Unbounded Unbounded bytes inner e is = ((λ h. tt), (λ h. tt))
to_bound id path (Included most) (Excluded end) bytes inner e is = absurd e
to_bound id path (Included most) Unbounded bytes inner e is = absurd e
to_bound id path (Excluded above) (Included end) bytes inner e is = absurd e
to_bound id path (Excluded above) Unbounded bytes inner e is = absurd e
to_bound id path Unbounded (Included end) bytes inner e is = absurd e
to_bound id path Unbounded (Excluded end) bytes inner e is = absurd e

pub between_at : (all left : TermRange) (id : ℕ) (path : List ℕ) (t : TypeTag) (lo hi : Bound TermValue) (start end : Bound (List ℕ)) → HasTerms (IsTypedAt id path t) all → AreTermsAt id path lo start → AreTermsAt id path hi end → LeavesBetween all start end left
    → HasTerms (IsBetweenAt id path t lo hi) left
between_at all left id path t lo hi start end has s e leaves bytes f value are is =
    let w = leaves bytes in
    let inside = has bytes f value are is in
    let here : (f ≡ id) → (inner : TermValue) → value ≡ Json path inner → IsTerm bytes id (Json path inner) = λ same inner at. subst (λ v. IsTerm bytes id v) at (subst (λ n. IsTerm bytes n value) same is) in (
      (λ i. let b = w.0 i in
          let of = inside.0 b.0 in
          let term_is = here of.0 of.1 of.2 in
          (of.0, of.1, of.2, of.3, (from_bound id path lo start bytes of.1 s term_is).0 b.1, (to_bound id path hi end bytes of.1 e term_is).0 b.2)),
      (λ q. let term_is = here q.0 q.1 q.2 in
          w.1 (inside.1 (q.0, q.1, q.2, q.3), (from_bound id path lo start bytes q.1 s term_is).1 q.4, (to_bound id path hi end bytes q.1 e term_is).1 q.5)),
    )

-- ---- lists that were appended one after the other

pub five_appended : {A : Type 0} (a b c d e l1 l2 l3 l4 l5 : List A) → l1 ≡ [] ++ a → l2 ≡ l1 ++ b → l3 ≡ l2 ++ c → l4 ≡ l3 ++ d → l5 ≡ l4 ++ e → l5 ≡ a ++ (b ++ (c ++ (d ++ e)))
five_appended a b c d e l1 l2 l3 l4 l5 h1 h2 h3 h4 h5 =
    h5 ∙ ap (λ l. l ++ e) (h4 ∙ ap (λ l. l ++ d) (h3 ∙ ap (λ l. l ++ c) (h2 ∙ ap (λ l. l ++ b) h1)))
    ∙ append_assoc ((a ++ b) ++ c) d e ∙ append_assoc (a ++ b) c (d ++ e) ∙ append_assoc a b (c ++ (d ++ e))
