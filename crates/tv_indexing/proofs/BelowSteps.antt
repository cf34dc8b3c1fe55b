-- The range of a value's term and of the terms below it.
use Rattle.std.proofs.Common.{◌≡◌, ◌≢◌, ◌⊎◌, ℕ, ◌+◌, ◌<◌, List, [], ◌∷◌, ◌++◌, length, Bool, true, false, ℤ, Option, Some, None, Result, Ok, Err, bytes_eq, if◌then◌else◌, inl, inr, refl, sym, ap, subst, ◌∙◌, append-nil, append_assoc, arith, length-append}
use Rattle.base64.specs.Engines.{standard}
use Rattle.base64.specs.GeneralPurpose.{decode_of}
use Rattle.base64.specs.declared.decode.DecodeError.{DecodeError}
use Rattle.std.proofs.lemmas.Cmp.{ranked, tied_itself, nat_cmp_total, nat_list_cmp_total}
use Rattle.std.specs.Cmp.Lexicographic.{slice_cmp}
use Rattle.std.specs.Int.{to_be_bytes, w32}
use Rattle.std.specs.Option.{option_map}
use Rattle.std.specs.Ordering.{is_le, is_lt, nat_cmp, ordering_then, MatchOrdering}
use Rattle.std.specs.Str.Parse.{true_text, false_text}
use Rattle.std.specs.declared.cmp.Ordering.{Ordering}
use Rattle.std.specs.declared.cmp.Ordering.TheVariants.{Less, Equal, Greater}
use Rattle.std.specs.declared.ops.Bound.{Bound}
use Rattle.std.specs.declared.ops.Bound.TheVariants.{Included, Excluded, Unbounded}
use Rattle.tv_base.specs.Facet.{Descends, parse}
use Rattle.tv_date.specs.Rfc3339.{rfc}
use Rattle.tv_date.specs.declared.rfc3339.DateError.{DateError}
use Rattle.tv_date.specs.declared.rfc3339.DateError.TheVariants as dates
use Rattle.tv_field.specs.JsonTable.{Chooses, IpText, TableRefusal, TextRow, base64_text, date_text, leaf_or}
use Rattle.tv_field.specs.declared.field_type.FieldType.{FieldType}
use Rattle.tv_field.specs.declared.field_type.FieldType.TheVariants as types
use Rattle.tv_format.specs.Tree.{Leaf, Tree, leaf, null, text, unsigned, signed, boolean, date, facet, bytes, ip_address, tokenized}
use Rattle.tv_indexing.specs.LeafTerms.{leaf_value}
use Rattle.tv_indexing.specs.TextRange.{EndsBelowTerm, IsBelowValue, IsOrIsBelow, WritesTerm}
use Rattle.tv_options.specs.Types.{code}
use Rattle.tv_options.specs.declared.facet_options.FacetOptions.{FacetOptions}
use Rattle.tv_options.specs.declared.types.TypeTag.TheVariants as tag
use Rattle.tv_term.specs.Key.{TermValue, Text, Unsigned, Signed, Truth, Date, Facet, Bytes, Address, Json, IsTerm, term}
use Rattle.tv_term.specs.Range.{HasPrefixed, HasTerms, IsBelowFacet, LeavesBetween}
use Rattle.tv_term.specs.declared.range.TermRange.{TermRange}
use Rattle.tv_term.proofs.Orders.{equal-keys}
use Rattle.tv_term.proofs.TermRanges.{of_facet, of_root}

-- ---- bytes that begin with others

-- they compare as what is behind
behind_same : (p a b : List ℕ) → slice_cmp nat_cmp (p ++ a) (p ++ b) ≡ slice_cmp nat_cmp a b
behind_same [] a b = refl
behind_same (x ∷ p) a b = ap (λ o. ordering_then o (slice_cmp nat_cmp (p ++ a) (p ++ b))) (tied_itself nat_cmp_total x) ∙ behind_same p a b

none_after : (rest : List ℕ) → is_le (slice_cmp nat_cmp rest []) ≡ true → rest ≡ []
none_after [] h = refl
none_after (x ∷ rest) h = absurd (cc)

-- those up to the others are the others
up_to_itself : (p rest : List ℕ) → is_le (slice_cmp nat_cmp (p ++ rest) p) ≡ true → rest ≡ []
up_to_itself p rest h =
    none_after rest (sym (ap is_le (ap (slice_cmp nat_cmp (p ++ rest)) (sym (append-nil p)) ∙ behind_same p rest [])) ∙ h)

-- those below the others with a byte 1 after them are the others, or go on with a byte 0
below_first : (x : ℕ) (rest : List ℕ) (o : Ordering) → MatchOrdering o (x < 1) (x ≡ 1) (1 < x) → is_lt (ordering_then o (slice_cmp nat_cmp rest [])) ≡ true → (more : List ℕ) × (x ∷ rest ≡ 0 ∷ more)
below_first x rest Less small h = (rest, ap (λ n. n ∷ rest) (omega (arith, small)))
below_first x [] Equal same h = absurd (cc)
below_first x (y ∷ rest) Equal same h = absurd (cc)
below_first x rest Greater above h = absurd (cc)

below_one : (rest : List ℕ) → is_lt (slice_cmp nat_cmp rest (1 ∷ [])) ≡ true → (rest ≡ []) ⊎ ((more : List ℕ) × (rest ≡ 0 ∷ more))
below_one [] h = inl refl
below_one (x ∷ rest) h = inr (below_first x rest (nat_cmp x 1) (ranked x 1 (nat_cmp x 1) refl) h)

one_test : (p rest : List ℕ) → is_lt (slice_cmp nat_cmp (p ++ rest) (p ++ 1 ∷ [])) ≡ is_lt (slice_cmp nat_cmp rest (1 ∷ []))
one_test p rest = ap is_lt (behind_same p rest (1 ∷ []))

longer : (p : List ℕ) (x : ℕ) (rest : List ℕ) → p ++ x ∷ rest ≢ p
longer p x rest e = absurd (omega (arith, ap length e, length-append p (x ∷ rest)))

none_left : (u : List ℕ) → length u ≡ 0 → u ≡ []
none_left [] e = refl
none_left (x ∷ u) e = absurd (omega arith)

-- ---- terms that begin with a term

module _ (all left : TermRange) (id : ℕ) (upper : TermValue) (start : List ℕ) (is_start : IsTerm start id upper) (has : HasPrefixed start all) where
  -- the term itself
  the_same : (held : List ℕ) (f : ℕ) (value : TermValue) → IsTerm held f value → held ≡ start → IsOrIsBelow id upper f value
  the_same held f value is same =
      let keys = equal-keys f id value upper is.field_fits is_start.field_fits is.value_fits is_start.value_fits (sym is.bytes_are ∙ same ∙ is_start.bytes_are) in
      (keys.0, inl keys.1)

  same_bytes : (held : List ℕ) (f : ℕ) (value : TermValue) → IsTerm held f value → f ≡ id → value ≡ upper → held ≡ start
  same_bytes held f value is of_field same = is.bytes_are ∙ ap (λ n. term n value) of_field ∙ ap (term id) same ∙ sym is_start.bytes_are

  -- no value is below this one
  pub itself_alone : ((value : TermValue) → ¬ IsBelowValue upper value) → LeavesBetween all Unbounded (Included start) left → HasTerms (IsOrIsBelow id upper) left
  itself_alone none leaves held f value are is =
      let w = leaves held in
      let inside = has held are in (
        (λ i. let b = w.0 i in
            let p = inside.0 b.0 in
            let short = up_to_itself start p.0 (subst (λ (l : List ℕ). is_le (slice_cmp nat_cmp l start) ≡ true) p.1 b.2) in
            the_same held f value is (p.1 ∙ ap (λ l. start ++ l) short ∙ append-nil start)),
        (λ q. elim q.1 [
          | inl same ↦
              let e = same_bytes held f value is q.0 same in
              w.1 (inside.1 ([], e ∙ sym (append-nil start)), tt, ap (λ l. is_le (slice_cmp nat_cmp l start)) e ∙ ap is_le (tied_itself nat_list_cmp_total start))
          | inr below ↦ absurd (none value below)
        ]),
      )

-- ---- facets

below_facet : (u : List ℕ) (value : TermValue) → IsBelowValue (Facet u) value → (lower : List ℕ) × (value ≡ Facet lower) × Descends u lower
below_facet u (Facet lower) h = (lower, refl, h)
below_facet u (Text t) h = absurd h
below_facet u (Unsigned n) h = absurd h
below_facet u (Signed z) h = absurd h
below_facet u (Truth b) h = absurd h
below_facet u (Date z) h = absurd h
below_facet u (Bytes bs) h = absurd h
below_facet u (Address n) h = absurd h
below_facet u (Json path v) h = absurd h

module _ (all left : TermRange) (id : ℕ) (u : List ℕ) (start : List ℕ) (is_start : IsTerm start id (Facet u)) (has : HasPrefixed start all) where
  is_below : (f : ℕ) (value : TermValue) → IsBelowFacet id u f value → IsOrIsBelow id (Facet u) f value
  is_below f value h = (h.0, inr (subst (IsBelowValue (Facet u)) (sym h.2) h.3))

  of_below : (f : ℕ) (value : TermValue) → f ≡ id → IsBelowValue (Facet u) value → IsBelowFacet id u f value
  of_below f value of_field h = let b = below_facet u value h in (of_field, b.0, b.1, b.2)

  root_part : (held : List ℕ) (f : ℕ) (value : TermValue) → IsTerm held f value → u ≡ [] → (rest : List ℕ) → held ≡ start ++ rest → IsOrIsBelow id (Facet u) f value
  root_part held f value is root [] e = the_same all left id (Facet u) start is_start has held f value is (e ∙ append-nil start)
  root_part held f value is root (x ∷ rest) e =
      let whole : term f value ≡ term id (Facet u) ++ x ∷ rest = sym is.bytes_are ∙ e ∙ ap (λ l. l ++ x ∷ rest) is_start.bytes_are in
      is_below f value ((of_root id f u value is_start.field_fits is.field_fits root).0 ((x ∷ rest, whole), λ same. longer (term id (Facet u)) x rest (sym whole ∙ same)))

  -- the root
  pub from_root : u ≡ [] → LeavesBetween all Unbounded Unbounded left → HasTerms (IsOrIsBelow id (Facet u)) left
  from_root root leaves held f value are is =
      let w = leaves held in
      let inside = has held are in (
        (λ i. let p = inside.0 (w.0 i).0 in root_part held f value is root p.0 p.1),
        (λ q. elim q.1 [
          | inl same ↦
              let e = same_bytes all left id (Facet u) start is_start has held f value is q.0 same in w.1 (inside.1 ([], e ∙ sym (append-nil start)), tt, tt)
          | inr below ↦
              let p = (of_root id f u value is_start.field_fits is.field_fits root).1 (of_below f value q.0 below) in
              w.1 (inside.1 (p.0.0, is.bytes_are ∙ p.0.1 ∙ ap (λ l. l ++ p.0.0) (sym is_start.bytes_are)), tt, tt)
        ]),
      )

  facet_part : (held : List ℕ) (f : ℕ) (value : TermValue) → IsTerm held f value → u ≢ [] → (rest : List ℕ) → held ≡ start ++ rest → (rest ≡ []) ⊎ ((more : List ℕ) × (rest ≡ 0 ∷ more))
      → IsOrIsBelow id (Facet u) f value
  facet_part held f value is some rest e (inl none) = the_same all left id (Facet u) start is_start has held f value is (e ∙ ap (λ l. start ++ l) none ∙ append-nil start)
  facet_part held f value is some rest e (inr go_on) =
      let more = go_on.0 in
      let whole : term f value ≡ (term id (Facet u) ++ 0 ∷ []) ++ more =
      sym is.bytes_are ∙ e ∙ ap (λ l. start ++ l) go_on.1 ∙ ap (λ l. l ++ 0 ∷ more) is_start.bytes_are ∙ sym (append_assoc (term id (Facet u)) (0 ∷ []) more) in
      is_below f value ((of_facet id f u value is_start.field_fits is.field_fits some).0 (more, whole))

  -- another one
  pub from_facet : u ≢ [] → LeavesBetween all Unbounded (Excluded (start ++ 1 ∷ [])) left → HasTerms (IsOrIsBelow id (Facet u)) left
  from_facet some leaves held f value are is =
      let w = leaves held in
      let inside = has held are in (
        (λ i. let b = w.0 i in
            let p = inside.0 b.0 in
            facet_part held f value is some p.0 p.1 (below_one p.0 (sym (one_test start p.0) ∙ subst (λ (l : List ℕ). is_lt (slice_cmp nat_cmp l (start ++ 1 ∷ [])) ≡ true) p.1 b.2))),
        (λ q. elim q.1 [
          | inl same ↦
              let e = same_bytes all left id (Facet u) start is_start has held f value is q.0 same ∙ sym (append-nil start) in
              w.1 (inside.1 ([], e), tt, ap (λ l. is_lt (slice_cmp nat_cmp l (start ++ 1 ∷ []))) e ∙ one_test start [])
          | inr below ↦
              let p = (of_facet id f u value is_start.field_fits is.field_fits some).1 (of_below f value q.0 below) in
              let e : held ≡ start ++ 0 ∷ p.0 = is.bytes_are ∙ p.1 ∙ append_assoc (term id (Facet u)) (0 ∷ []) p.0 ∙ ap (λ l. l ++ 0 ∷ p.0) (sym is_start.bytes_are) in
              w.1 (inside.1 (0 ∷ p.0, e), tt, ap (λ l. is_lt (slice_cmp nat_cmp l (start ++ 1 ∷ []))) e ∙ one_test start (0 ∷ p.0))
        ]),
      )

-- ---- the value that a text is

found_leaf : (found : Option Leaf) (r : TableRefusal) (l : Leaf) → ◌≡◌ {A = Result Tree TableRefusal} (Ok (leaf l)) (leaf_or found r) → found ≡ Some l
found_leaf (Some m) r l h = cc
found_leaf None r l h = absurd (cc)

facet_value : (found : Option (List ℕ)) (l : Leaf) (value : TermValue) → option_map facet found ≡ Some l → leaf_value l ≡ Some value → (u : List ℕ) × (value ≡ Facet u)
facet_value (Some u) l value is has =
    let same : l ≡ facet u = cc in
    let made : leaf_value (facet u) ≡ Some value = subst (λ (m : Leaf). leaf_value m ≡ Some value) same has in
    (u, cc)
facet_value None l value is has = absurd (cc)

leaf_is_facet : (l : Leaf) (u : List ℕ) → leaf_value l ≡ Some (Facet u) → l ≡ facet u
leaf_is_facet (facet t) u h = cc
leaf_is_facet null u h = absurd (cc)
leaf_is_facet (text t) u h = absurd (cc)
leaf_is_facet (unsigned n) u h = absurd (cc)
leaf_is_facet (signed z) u h = absurd (cc)
leaf_is_facet (boolean b) u h = absurd (cc)
leaf_is_facet (date z) u h = absurd (cc)
leaf_is_facet (bytes bs) u h = absurd (cc)
leaf_is_facet (ip_address n) u h = absurd (cc)
leaf_is_facet (tokenized t ts) u h = absurd (cc)

above_is_facet : (upper value : TermValue) → IsBelowValue upper value → (u : List ℕ) × (upper ≡ Facet u)
above_is_facet (Facet u) value h = (u, refl)
above_is_facet (Text t) value h = absurd h
above_is_facet (Unsigned n) value h = absurd h
above_is_facet (Signed z) value h = absurd h
above_is_facet (Truth b) value h = absurd h
above_is_facet (Date z) value h = absurd h
above_is_facet (Bytes bs) value h = absurd h
above_is_facet (Address n) value h = absurd h
above_is_facet (Json path v) value h = absurd h

chosen : {P : Type 0} (l : Leaf) (r : TableRefusal) (m : Leaf) → Chooses P l r (Ok (leaf m)) → l ≡ m
chosen l r m (inl h) = let e = h.1 in cc
chosen l r m (inr h) = let e = h.1 in absurd (cc)

truth_is_no_facet : (first second : Bool) (r : TableRefusal) (u : List ℕ) → ¬ (◌≡◌ {A = Result Tree TableRefusal} (Ok (leaf (facet u))) (leaf_or (if first then Some (boolean true) else if second then Some (boolean false) else None) r))
truth_is_no_facet true second r u e = absurd (cc)
truth_is_no_facet false true r u e = absurd (cc)
truth_is_no_facet false false r u e = absurd (cc)

date_is_no_facet : (s : List ℕ) (read : Result ℤ DateError) (u : List ℕ) → ¬ (◌≡◌ {A = Result Tree TableRefusal} (Ok (leaf (facet u))) (date_text s read))
date_is_no_facet s (Ok z) u e = absurd (cc)
date_is_no_facet s (Err dates.Shape) u e = absurd (cc)
date_is_no_facet s (Err dates.Field) u e = absurd (cc)
date_is_no_facet s (Err dates.OutOfRange) u e = absurd (cc)

bytes_are_no_facet : (s : List ℕ) (read : Result (List ℕ) DecodeError) (u : List ℕ) → ¬ (◌≡◌ {A = Result Tree TableRefusal} (Ok (leaf (facet u))) (base64_text s read))
bytes_are_no_facet s (Ok bs) u e = absurd (cc)
bytes_are_no_facet s (Err d) u e = absurd (cc)

ip_is_no_facet : (s u : List ℕ) → ¬ (IpText s (Ok (leaf (facet u))))
ip_is_no_facet s u (inl h) = let e = h.2 in absurd (cc)
ip_is_no_facet s u (inr h) = let e = h.1 in absurd (cc)

-- only a field of facets reads a text as a facet
no_facet : (type : FieldType) (s u : List ℕ) → ((options : FacetOptions) → type ≢ types.Facet options) → ¬ (TextRow type s (Ok (leaf (facet u))))
no_facet (types.Facet options) s u other row = other options refl
no_facet (types.Str options) s u other row = absurd (cc)
no_facet (types.U64 options) s u other row = let e = chosen _ _ (facet u) row in absurd (cc)
no_facet (types.I64 options) s u other row = let e = chosen _ _ (facet u) row in absurd (cc)
no_facet (types.Bool options) s u other row = truth_is_no_facet (bytes_eq s true_text) (bytes_eq s false_text) _ u row
no_facet (types.Date options) s u other row = date_is_no_facet s (rfc s) u row
no_facet (types.Bytes options) s u other row = bytes_are_no_facet s (decode_of standard s) u row
no_facet (types.JsonObject options) s u other row = absurd (cc)
no_facet (types.IpAddr options) s u other row = ip_is_no_facet s u row

none_below : (type : FieldType) (s : List ℕ) (l : Leaf) (upper : TermValue) → ((options : FacetOptions) → type ≢ types.Facet options) → WritesTerm type s l upper → (value : TermValue) → ¬ IsBelowValue upper value
none_below type s l upper other writes value below =
    let u = above_is_facet upper value below in
    let is = leaf_is_facet l u.0 (writes.has_term ∙ ap Some u.1) in
    no_facet type s u.0 other (subst (λ (m : Leaf). TextRow type s (Ok (leaf m))) is writes.is_value)

-- ---- all types

module _ (all left : TermRange) (id : ℕ) (s : List ℕ) (l : Leaf) (value : TermValue) (start : List ℕ) (end : Bound (List ℕ)) (is_start : IsTerm start id value) (has : HasPrefixed start all) (leaves : LeavesBetween all Unbounded end left) where
  plain_ends : (type : FieldType) → ((options : FacetOptions) → type ≢ types.Facet options) → WritesTerm type s l value → end ≡ Included start → HasTerms (IsOrIsBelow id value) left
  plain_ends type other writes ends = itself_alone all left id value start is_start has (none_below type s l value other writes) (subst (λ (e : Bound (List ℕ)). LeavesBetween all Unbounded e left) ends leaves)

  facet_ends : (u : List ℕ) → value ≡ Facet u → ((length start ≡ 5) × (end ≡ Unbounded)) ⊎ ((length start ≢ 5) × (end ≡ Excluded (start ++ 1 ∷ []))) → HasTerms (IsOrIsBelow id value) left
  facet_ends u is ends =
      let of_u : IsTerm start id (Facet u) = subst (IsTerm start id) is is_start in
      let len : length start ≡ length u + 5 = omega (arith, ap length of_u.bytes_are, length-append (to_be_bytes w32 id) (code tag.Facet ∷ u)) in
      subst (λ (v : TermValue). HasTerms (IsOrIsBelow id v) left) (sym is) (elim ends [
        | inl root ↦ from_root all left id u start of_u has (none_left u (omega (arith, len, root.0))) (subst (λ (e : Bound (List ℕ)). LeavesBetween all Unbounded e left) root.1 leaves)
        | inr other ↦ from_facet all left id u start of_u has (λ none. other.0 (len ∙ ap (λ v. length v + 5) none)) (subst (λ (e : Bound (List ℕ)). LeavesBetween all Unbounded e left) other.1 leaves)
      ])

  pub with_below : (type : FieldType) → WritesTerm type s l value → EndsBelowTerm type start end → HasTerms (IsOrIsBelow id value) left
  with_below (types.Facet options) writes ends =
      let v = facet_value (parse s) l value (found_leaf (option_map facet (parse s)) _ l writes.is_value) writes.has_term in facet_ends v.0 v.1 ends
  with_below (types.Str options) writes ends = plain_ends (types.Str options) (λ o e. cc) writes ends
  with_below (types.U64 options) writes ends = plain_ends (types.U64 options) (λ o e. cc) writes ends
  with_below (types.I64 options) writes ends = plain_ends (types.I64 options) (λ o e. cc) writes ends
  with_below (types.Bool options) writes ends = plain_ends (types.Bool options) (λ o e. cc) writes ends
  with_below (types.Date options) writes ends = plain_ends (types.Date options) (λ o e. cc) writes ends
  with_below (types.Bytes options) writes ends = plain_ends (types.Bytes options) (λ o e. cc) writes ends
  with_below (types.JsonObject options) writes ends = plain_ends (types.JsonObject options) (λ o e. cc) writes ends
  with_below (types.IpAddr options) writes ends = plain_ends (types.IpAddr options) (λ o e. cc) writes ends
