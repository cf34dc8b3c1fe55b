-- Which terms begin with which bytes.
use Rattle.std.proofs.Common.{◌≡◌, ◌≢◌, ℕ, ◌<◌, ◌^◌, ◌↔◌, List, [], ◌∷◌, ◌++◌, length, refl, subst, sym, ◌∙◌, ap, append_assoc, arith}
use Rattle.std.specs.Int.{to_be_bytes, from_be_bytes, w32}
use Rattle.std.proofs.lemmas.Nat.{from_be_bytes-to_be_bytes_4}
use Rattle.tv_base.specs.Sink.{IsPrefix}
use Rattle.tv_options.specs.Types.{code, type_of_code}
use Rattle.tv_options.specs.declared.types.TypeTag.{TypeTag}
use Rattle.tv_options.specs.declared.types.TypeTag.TheVariants as tag
use Rattle.tv_term.specs.Key.{TermValue, Text, Unsigned, Signed, Truth, Date, Facet, Bytes, Address, Json, Fits, HasNoZero, tag_of, payload, coded_value, term, json_term}
use Rattle.tv_base.specs.Facet.{Descends}
use Rattle.tv_base.proofs.Steps.{Descends-rest, Descends-from_rest, Descends-from_root}
use Rattle.tv_term.specs.Range.{HasPrefixed, HasLonger, HasTerms, IsIn, HasPayloadPrefix, IsOfField, IsOfType, HasTextPrefix, IsAtPath, IsBelowFacet}
use Rattle.tv_term.specs.declared.range.TermRange.{TermRange}
use Rattle.tv_term.proofs.Written.{type_of_code-code}

-- two lists are the same where they begin with as many elements and are the same in all
split : (a b x y : List ℕ) → length a ≡ length b → a ++ x ≡ b ++ y → (a ≡ b) × (x ≡ y)
split [] [] x y l e = (refl, e)
split [] (d ∷ b) x y l e = absurd (omega arith)
split (c ∷ a) [] x y l e = absurd (omega arith)
split (c ∷ a) (d ∷ b) x y l e =
    let first : c ≡ d = cc in
    let rest : a ++ x ≡ b ++ y = cc in
    let both = split a b x y (omega arith) rest in
    (ap (λ z. z ∷ a) first ∙ ap (λ z. d ∷ z) both.0, both.1)

same_field : (f g : ℕ) → f < 2 ^ 32 → g < 2 ^ 32 → to_be_bytes w32 f ≡ to_be_bytes w32 g → f ≡ g
same_field f g h k e = sym (from_be_bytes-to_be_bytes_4 f h) ∙ ap (from_be_bytes w32) e ∙ from_be_bytes-to_be_bytes_4 g k

-- what begins with a field's bytes is of that field
pub field-prefix : (id f : ℕ) (s x : List ℕ) → id < 2 ^ 32 → f < 2 ^ 32 → IsPrefix (to_be_bytes w32 id ++ s) (to_be_bytes w32 f ++ x) ↔ ((f ≡ id) × IsPrefix s x)
field-prefix id f s x h k = (
  (λ p. let both = split (to_be_bytes w32 f) (to_be_bytes w32 id) x (s ++ p.0) refl (p.1 ∙ append_assoc (to_be_bytes w32 id) s p.0) in
      (same_field f id k h both.0, (p.0, both.1))),
  (λ p. (p.1.0, ap (λ n. to_be_bytes w32 n ++ x) p.0 ∙ ap (λ z. to_be_bytes w32 id ++ z) p.1.1 ∙ sym (append_assoc (to_be_bytes w32 id) s p.1.0))),
)

same_type : (t u : TypeTag) → code t ≡ code u → t ≡ u
same_type t u e = let both = sym (type_of_code-code t) ∙ ap type_of_code e ∙ type_of_code-code u in cc

-- what begins with a type's code is of that type
code-prefix : (t u : TypeTag) (s x : List ℕ) → IsPrefix (code t ∷ s) (code u ∷ x) ↔ ((u ≡ t) × IsPrefix s x)
code-prefix t u s x = (
  (λ p. let e = p.1 in
      let first : code u ≡ code t = cc in
      let rest : x ≡ s ++ p.0 = cc in (same_type u t first, (p.0, rest))),
  (λ p. (p.1.0, ap (λ z. code z ∷ x) p.0 ∙ ap (λ z. code t ∷ z) p.1.1)),
)

-- a term of which some bytes are a prefix
pub term-prefix : (id f : ℕ) (t : TypeTag) (s : List ℕ) (value : TermValue) → id < 2 ^ 32 → f < 2 ^ 32
    → IsPrefix (to_be_bytes w32 id ++ code t ∷ s) (term f value) ↔ HasPayloadPrefix id t s f value
term-prefix id f t s value h k =
    let field = field-prefix id f (code t ∷ s) (coded_value value) h k in
    let kind = code-prefix t (tag_of value) s (payload value) in (
      (λ p. let a = field.0 p in let b = kind.0 a.1 in (a.0, b.0, b.1)),
      (λ p. field.1 (p.0, kind.1 (p.1, p.2))),
    )

-- of the terms those are in a range that begin with its bytes
pub terms-in : (range : TermRange) (start : List ℕ) (P : ℕ → TermValue → Type 0) → HasPrefixed start range
    → ((f : ℕ) (value : TermValue) → f < 2 ^ 32 → Fits value → IsPrefix start (term f value) ↔ P f value) → HasTerms P range
terms-in range start P has are bytes f value small is =
    let prefix : IsIn range bytes ↔ IsPrefix start bytes = has bytes small in
    let of = are f value is.field_fits is.value_fits in
    let forth : IsPrefix start bytes → IsPrefix start (term f value) = λ p. (p.0, sym is.bytes_are ∙ p.1) in
    let back : IsPrefix start (term f value) → IsPrefix start bytes = λ p. (p.0, is.bytes_are ∙ p.1) in
    ((λ inside. of.0 (forth (prefix.0 inside))), (λ p. prefix.1 (back (of.1 p))))

-- the same where the start is written in another way
pub terms-from : (range : TermRange) (given start : List ℕ) (P : ℕ → TermValue → Type 0) → given ≡ start → HasPrefixed given range
    → ((f : ℕ) (value : TermValue) → f < 2 ^ 32 → Fits value → IsPrefix start (term f value) ↔ P f value) → HasTerms P range
terms-from range given start P is has are = terms-in range start P (subst (λ bytes. HasPrefixed bytes range) is has) are

-- the same of other words for such terms
pub terms-as : (range : TermRange) (P Q : ℕ → TermValue → Type 0) → HasTerms P range → ((f : ℕ) (value : TermValue) → P f value ↔ Q f value) → HasTerms Q range
terms-as range P Q has same bytes f value small is =
    let inside = has bytes f value small is in
    let words = same f value in ((λ i. words.0 (inside.0 i)), (λ q. inside.1 (words.1 q)))

pub of_field : (id f : ℕ) (value : TermValue) → id < 2 ^ 32 → f < 2 ^ 32 → IsPrefix (to_be_bytes w32 id) (term f value) ↔ IsOfField id f value
of_field id f value h k =
    let field = field-prefix id f [] (coded_value value) h k in (
      (λ p. let both = field.0 (p.0, p.1 ∙ sym (append_assoc (to_be_bytes w32 id) [] p.0)) in both.0),
      (λ e. (coded_value value, ap (λ n. to_be_bytes w32 n ++ coded_value value) e)),
    )

pub of_type : (id f : ℕ) (t : TypeTag) (value : TermValue) → HasPayloadPrefix id t [] f value ↔ IsOfType id t f value
of_type id f t value = ((λ p. (p.0, p.1)), (λ p. (p.0, p.1, (payload value, refl))))

-- a text's payload is the text
is_text : (value : TermValue) (s : List ℕ) → tag_of value ≡ tag.Str → IsPrefix s (payload value) → (text : List ℕ) × (value ≡ Text text) × IsPrefix s text
is_text (Text bytes) s e p = (bytes, refl, p)
is_text (Unsigned n) s e p = cc
is_text (Signed z) s e p = cc
is_text (Truth b) s e p = cc
is_text (Date z) s e p = cc
is_text (Facet bytes) s e p = cc
is_text (Bytes bytes) s e p = cc
is_text (Address n) s e p = cc
is_text (Json path value) s e p = cc

pub of_text : (id f : ℕ) (s : List ℕ) (value : TermValue) → HasPayloadPrefix id tag.Str s f value ↔ HasTextPrefix id s f value
of_text id f s value = (
  (λ p. let text = is_text value s p.1 p.2 in (p.0, text.0, text.1, text.2)),
  (λ p. (p.0, ap tag_of p.2, (p.3.0, ap payload p.2 ∙ p.3.1))),
)

-- what stands before the first zero of both is the same
same_path : (p q x y : List ℕ) → HasNoZero p → HasNoZero q → p ++ 0 ∷ x ≡ q ++ 0 ∷ y → p ≡ q
same_path [] [] x y h k e = refl
same_path [] (d ∷ q) x y h k e = let zero_first : d ≡ 0 = cc in absurd (k.0 zero_first)
same_path (c ∷ p) [] x y h k e = let zero_first : c ≡ 0 = cc in absurd (h.0 zero_first)
same_path (c ∷ p) (d ∷ q) x y h k e =
    let first : c ≡ d = cc in
    let rest : p ++ 0 ∷ x ≡ q ++ 0 ∷ y = cc in
    ap (λ z. z ∷ p) first ∙ ap (λ z. d ∷ z) (same_path p q x y h.1 k.1 rest)

at_path : (path : List ℕ) (value : TermValue) → HasNoZero path → Fits value → tag_of value ≡ tag.Json → IsPrefix (path ++ 0 ∷ []) (payload value)
    → (inner : TermValue) × (value ≡ Json path inner)
at_path path (Json p v) h fits e prefix =
    let same = same_path p path (coded_value v) prefix.0 fits.0 h (prefix.1 ∙ append_assoc path (0 ∷ []) prefix.0) in (v, ap (λ z. Json z v) same)
at_path path (Text bytes) h fits e p = cc
at_path path (Unsigned n) h fits e p = cc
at_path path (Signed z) h fits e p = cc
at_path path (Truth b) h fits e p = cc
at_path path (Date z) h fits e p = cc
at_path path (Facet bytes) h fits e p = cc
at_path path (Bytes bytes) h fits e p = cc
at_path path (Address n) h fits e p = cc

-- the terms that begin with the term of a path
pub of_path : (id f : ℕ) (path : List ℕ) (value : TermValue) → id < 2 ^ 32 → HasNoZero path → f < 2 ^ 32 → Fits value
    → IsPrefix (json_term id path) (term f value) ↔ IsAtPath id path f value
of_path id f path value small h k fits =
    let begins = term-prefix id f tag.Json (path ++ 0 ∷ []) value small k in (
      (λ p. let b = begins.0 p in let at = at_path path value h fits b.1 b.2 in (b.0, at.0, at.1)),
      (λ p. begins.1 (p.0, ap tag_of p.2, (coded_value p.1, ap payload p.2 ∙ sym (append_assoc path (0 ∷ []) (coded_value p.1))))),
    )

-- a facet's payload is the facet
is_facet : (value : TermValue) (s : List ℕ) → tag_of value ≡ tag.Facet → IsPrefix s (payload value) → (facet : List ℕ) × (value ≡ Facet facet) × IsPrefix s facet
is_facet (Facet bytes) s e p = (bytes, refl, p)
is_facet (Text bytes) s e p = cc
is_facet (Unsigned n) s e p = cc
is_facet (Signed z) s e p = cc
is_facet (Truth b) s e p = cc
is_facet (Date z) s e p = cc
is_facet (Bytes bytes) s e p = cc
is_facet (Address n) s e p = cc
is_facet (Json path value) s e p = cc

-- the terms that begin with that of a facet which isn't the root, with a zero after it
pub of_facet : (id f : ℕ) (upper : List ℕ) (value : TermValue) → id < 2 ^ 32 → f < 2 ^ 32 → upper ≢ []
    → IsPrefix (term id (Facet upper) ++ 0 ∷ []) (term f value) ↔ IsBelowFacet id upper f value
of_facet id f upper value h k some =
    let begins = term-prefix id f tag.Facet (upper ++ 0 ∷ []) value h k in
    let start : term id (Facet upper) ++ 0 ∷ [] ≡ to_be_bytes w32 id ++ code tag.Facet ∷ (upper ++ 0 ∷ []) = append_assoc (to_be_bytes w32 id) (code tag.Facet ∷ upper) (0 ∷ []) in (
      (λ p. let b = begins.0 (p.0, p.1 ∙ ap (λ z. z ++ p.0) start) in
          let facet = is_facet value (upper ++ 0 ∷ []) b.1 b.2 in
          let below = facet.2 in
          let rest = below.1 ∙ append_assoc upper (0 ∷ []) below.0 in
          (b.0, facet.0, facet.1, subst (Descends upper) (sym rest) (Descends-from_rest upper below.0 some))),
      (λ p. let rest = Descends-rest upper p.1 some p.3 in
          let b = begins.1 (p.0, ap tag_of p.2, (rest.0, ap payload p.2 ∙ rest.1 ∙ sym (append_assoc upper (0 ∷ []) rest.0))) in
          (b.0, b.1 ∙ ap (λ z. z ++ b.0) (sym start))),
    )

-- the terms that begin with that of the root and are longer
pub of_root : (id f : ℕ) (upper : List ℕ) (value : TermValue) → id < 2 ^ 32 → f < 2 ^ 32 → upper ≡ []
    → (IsPrefix (term id (Facet upper)) (term f value) × (term f value ≢ term id (Facet upper))) ↔ IsBelowFacet id upper f value
of_root id f upper value h k root =
    let begins = term-prefix id f tag.Facet upper value h k in
    let from_root : (g : List ℕ) → Descends upper g ↔ (g ≢ []) = subst (λ u. (g : List ℕ) → Descends u g ↔ (g ≢ [])) (sym root) Descends-from_root in (
      (λ p. let b = begins.0 p.0 in
          let facet = is_facet value upper b.1 b.2 in
          (b.0, facet.0, facet.1, (from_root facet.0).1 (λ none. p.1 (ap (λ n. term n value) b.0 ∙ ap (term id) (facet.1 ∙ ap Facet (none ∙ sym root)))))),
      (λ p. let some = (from_root p.1).0 p.3 in
          let prefix : IsPrefix upper (payload value) = (p.1, ap payload p.2 ∙ ap (λ u. u ++ p.1) (sym root)) in (
            begins.1 (p.0, ap tag_of p.2, prefix),
            (λ same_bytes. let both = split (to_be_bytes w32 f) (to_be_bytes w32 id) (coded_value value) (coded_value (Facet upper)) refl same_bytes in
                let lists : code tag.Facet ∷ p.1 ≡ code tag.Facet ∷ upper = ap coded_value (sym p.2) ∙ both.1 in
                let tails : p.1 ≡ upper = cc in some (tails ∙ root)),
          )),
    )

-- the same in a range that has those longer than its bytes
pub longer-from : (range : TermRange) (given start : List ℕ) (P : ℕ → TermValue → Type 0) → given ≡ start → HasLonger given range
    → ((f : ℕ) (value : TermValue) → f < 2 ^ 32 → Fits value → (IsPrefix start (term f value) × (term f value ≢ start)) ↔ P f value) → HasTerms P range
longer-from range given start P is has are bytes f value small term_is =
    let longer = subst (λ z. HasLonger z range) is has in
    let inside : IsIn range bytes ↔ (IsPrefix start bytes × (bytes ≢ start)) = longer bytes small in
    let of = are f value term_is.field_fits term_is.value_fits in (
      (λ i. let p = inside.0 i in of.0 ((p.0.0, sym term_is.bytes_are ∙ p.0.1), (λ e. p.1 (term_is.bytes_are ∙ e)))),
      (λ q. let p = of.1 q in inside.1 ((p.0.0, term_is.bytes_are ∙ p.0.1), (λ e. p.1 (sym term_is.bytes_are ∙ e)))),
    )
