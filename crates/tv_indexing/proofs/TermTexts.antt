-- The texts of values, and the values that bytes are.
use Rattle.std.proofs.Common.{◌≡◌, ◌+◌, ◌<◌, ◌≤◌, ◌^◌, Bool, true, false, ℕ, zero, suc, List, [], ◌∷◌, ◌++◌, length, take, drop, get_or, Option, Some, None, refl, sym, ap, subst, ◌∙◌, arith}
use Rattle.std.specs.Prelude.{ℤ, ◌==◌, FitsSigned, IsSome, bytes_eq, if◌then◌else◌, position}
use Rattle.std.specs.Option.{option_and_then, option_map}
use Rattle.std.specs.Int.{w32, w64, w128, to_be_bytes, from_be_bytes}
use Rattle.std.specs.Str.{IsUtf8, is_utf8}
use Rattle.std.specs.Net.Addr.{IsCanonicalOf, IsIpv6OfBits, ipv6_segments}
use Rattle.std.specs.Net.Text.{ip_text, ipv4_text, ipv6_text}
use Rattle.std.specs.declared.net.ip_addr.IpAddr.{IpAddr}
use Rattle.std.specs.declared.net.ip_addr.IpAddr.TheVariants.{V4, V6}
use Rattle.std.specs.declared.net.ipv6_addr.Ipv6Addr.{Ipv6Addr}
use Rattle.std.proofs.lemmas.Bool.Decides.{Decides-eqb, nat_tests}
use Rattle.std.proofs.lemmas.Int.{ints}
use Rattle.std.proofs.lemmas.List.{take-append-drop}
use Rattle.std.proofs.lemmas.List.Quantifiers.{position-Some}
use Rattle.std.proofs.Math.Seq.{drop-cons}
use Rattle.std.proofs.lemmas.Nat.{be_bytes_4, be_bytes_8}
use Rattle.std.proofs.lemmas.Slice.Eq.{bytes_eq-Decides}
use Rattle.std.proofs.lemmas.Str.{IsUtf8-from_is_utf8, is_utf8-from_IsUtf8}
use Rattle.tv_format.specs.Tree.{Leaf, unsigned, signed, boolean, date, ip_address}
use Rattle.tv_indexing.specs.TermText.{coded_leaf, inner, leaf_at, truth_at, value_leaf}
use Rattle.tv_indexing.proofs.ByteNumbers.{AreBytes, eight-small, four-small, sixteen-small, sixteen_again}
use Rattle.tv_value.specs.JsonOf.{address_text, segments_text}
use Rattle.tv_options.specs.Types.{all_types, code, type_among, type_of_code}
use Rattle.tv_options.specs.declared.types.TypeTag.{TypeTag}
use Rattle.tv_options.specs.declared.types.TypeTag.TheVariants as tag
use Rattle.tv_term.proofs.Terms.{json_parts-term}
use Rattle.tv_term.proofs.Written.{eight_again, signed_read}
use Rattle.tv_term.specs.Key.{TermValue, Text, Unsigned, Signed, Truth, Date, Facet, Bytes, Address, Json, Fits, HasNoZero, IsTerm, coded_value, from_least, truth_number}
use Rattle.tv_term.specs.Printed.{text_if_utf8}
use Rattle.tv_term.specs.Reading.{cut_behind_zero, json_parts, payload_of, number_of_eight, number_of_sixteen, signed_at}
use Rattle.tv_value.specs.Lent.{leaf_of}
use Rattle.tv_value.specs.declared.leaf.ReferenceValueLeaf.{ReferenceValueLeaf}
use Rattle.tv_value.proofs.AddressBytes.{to_be_bytes-from_be_bytes_16}

is_false : (b : Bool) → (b ≡ true → ⊥) → b ≡ false
is_false true h = absurd (h refl)
is_false false h = refl

-- ---- what is printed

-- of an address, where one of version 4 is printed as that
canonical_segments : (a : Ipv6Addr) (c : IpAddr) → IsCanonicalOf a c → ip_text c ≡ segments_text (ipv6_segments a)
unfolding segments_text
canonical_segments a (V4 ip) h =
    let mapped = (bytes_eq-Decides (take 6 (ipv6_segments a)) (0 ∷ 0 ∷ 0 ∷ 0 ∷ 0 ∷ 0xffff ∷ [])).1 h.0 in rw mapped (ap ipv4_text h.1)
canonical_segments a (V6 ip) h =
    let test = bytes_eq-Decides (take 6 (ipv6_segments a)) (0 ∷ 0 ∷ 0 ∷ 0 ∷ 0 ∷ 0xffff ∷ []) in
    let not_mapped = is_false (bytes_eq (take 6 (ipv6_segments a)) (0 ∷ 0 ∷ 0 ∷ 0 ∷ 0 ∷ 0xffff ∷ [])) (λ e. h.0 (test.0 e)) in rw not_mapped (ap (λ v. ipv6_text (ipv6_segments v)) h.1)

pub canonical_text : (a : Ipv6Addr) (c : IpAddr) (number : ℕ) → IsIpv6OfBits a number → IsCanonicalOf a c → ip_text c ≡ address_text number
unfolding IsIpv6OfBits
canonical_text a c number is canonical = canonical_segments a c canonical ∙ ap segments_text is

-- bytes that are a text
pub one_text : (found bs : List ℕ) → found ≡ bs → IsUtf8 bs → Some found ≡ text_if_utf8 bs
one_text found bs same is = ap Some same ∙ sym (rw (is_utf8-from_IsUtf8 bs is) refl)

-- and such that are none
pub no_text : (bs : List ℕ) → ¬ IsUtf8 bs → None ≡ text_if_utf8 bs
no_text bs never = rw (is_false (is_utf8 bs) (λ e. never (IsUtf8-from_is_utf8 bs e))) refl

-- ---- a value is read as what it is

truth_again : (b : Bool) → option_and_then truth_at (number_of_eight (to_be_bytes w64 (truth_number b))) ≡ Some b
truth_again true = ap (option_and_then truth_at) (eight_again 1 (omega arith))
truth_again false = ap (option_and_then truth_at) (eight_again 0 (omega arith))

pub value_again : (value : TermValue) → Fits value → coded_leaf (coded_value value) ≡ value_leaf value
value_again (Text t) fits = refl
value_again (Unsigned n) fits = ap (option_map unsigned) (eight_again n fits)
value_again (Signed z) fits = ap (option_map signed) (signed_read z fits)
value_again (Truth b) fits = ap (option_map boolean) (truth_again b)
value_again (Date z) fits = ap (option_map date) (signed_read z fits)
value_again (Facet encoded) fits = refl
value_again (Bytes bs) fits = refl
value_again (Address n) fits = ap (λ m. Some (ip_address m)) (sixteen_again n fits)
value_again (Json path value) fits = refl

pub inner_fits : (value : TermValue) → Fits value → Fits (inner value)
inner_fits (Text t) fits = fits
inner_fits (Unsigned n) fits = fits
inner_fits (Signed z) fits = fits
inner_fits (Truth b) fits = fits
inner_fits (Date z) fits = fits
inner_fits (Facet encoded) fits = fits
inner_fits (Bytes bs) fits = fits
inner_fits (Address n) fits = fits
inner_fits (Json path value) fits = fits.1

pub same_bytes : (a b : List ℕ) → ◌≡◌ {A = Option (List ℕ)} (Some a) (Some b) → a ≡ b
same_bytes a b e = cc

-- ---- bytes that are read are those of a value

abbrev pub IsValue : List ℕ → Type 0
IsValue coded = (value : TermValue) × Fits value × (coded ≡ coded_value value)

there : {A B : Type 0} (f : A → B) (o : Option A) (x : B) → option_map f o ≡ Some x → (a : A) × (o ≡ Some a) × (f a ≡ x)
there f None x e = cc
there f (Some a) x e = (a, refl, cc)

then_there : {A B : Type 0} (f : A → Option B) (o : Option A) (x : B) → option_and_then f o ≡ Some x → (a : A) × (o ≡ Some a) × (f a ≡ Some x)
then_there f None x e = cc
then_there f (Some a) x e = (a, refl, e)

some_if : {A : Type 0} (test : Bool) (a x : A) → (if test then Some a else None) ≡ Some x → (test ≡ true) × (a ≡ x)
some_if true a x e = (refl, cc)
some_if false a x e = cc

signed_place : (n : ℕ) → n < 2 ^ 64 → FitsSigned w64 (signed_at n) × (from_least (signed_at n) ≡ n)
signed_place n small = (grind (arith, ints), grind (arith, ints))

of_eight : (rest : List ℕ) (n : ℕ) → AreBytes rest → number_of_eight rest ≡ Some n → (n < 2 ^ 64) × (rest ≡ to_be_bytes w64 n)
of_eight rest n small e =
    let is = some_if (length rest == 8) (from_be_bytes w64 rest) n e in
    let long = (Decides-eqb (length rest) 8).0 is.0 in
    (subst (λ m. m < 2 ^ 64) is.1 (eight-small rest long small), sym (be_bytes_8 rest n long small (sym is.1)))

of_sixteen : (rest : List ℕ) (n : ℕ) → AreBytes rest → number_of_sixteen rest ≡ Some n → (n < 2 ^ 128) × (rest ≡ to_be_bytes w128 n)
of_sixteen rest n small e =
    let is = some_if (length rest == 16) (from_be_bytes w128 rest) n e in
    let long = (Decides-eqb (length rest) 16).0 is.0 in
    (subst (λ m. m < 2 ^ 128) is.1 (sixteen-small rest long small), sym (to_be_bytes-from_be_bytes_16 rest long small) ∙ ap (to_be_bytes w128) is.1)

truth_cases : (zero_test one_test : Bool) (n : ℕ) (b : Bool) → (n == 0) ≡ zero_test → (n == 1) ≡ one_test → (if zero_test then Some false else if one_test then Some true else None) ≡ Some b → n ≡ truth_number b
truth_cases true one_test n true z o e = cc
truth_cases true one_test n false z o e = (Decides-eqb n 0).0 z
truth_cases false true n true z o e = (Decides-eqb n 1).0 o
truth_cases false true n false z o e = cc
truth_cases false false n b z o e = cc

truth_is : (n : ℕ) (b : Bool) → truth_at n ≡ Some b → n ≡ truth_number b
truth_is n b e = truth_cases (n == 0) (n == 1) n b refl refl e

signed_value : (rest : List ℕ) (z : ℤ) → AreBytes rest → option_map signed_at (number_of_eight rest) ≡ Some z → FitsSigned w64 z × (rest ≡ to_be_bytes w64 (from_least z))
signed_value rest z small e =
    let found = there signed_at (number_of_eight rest) z e in
    let number = of_eight rest found.0 small found.1 in
    let place = signed_place found.0 number.0 in
    (subst (FitsSigned w64) found.2 place.0, number.1 ∙ ap (to_be_bytes w64) (sym place.1 ∙ ap from_least found.2))

typed_value : (t : TypeTag) (rest : List ℕ) (l : Leaf) → AreBytes rest → leaf_at (Some t) (code t ∷ rest) ≡ Some l → IsValue (code t ∷ rest)
typed_value tag.Str rest l small e = (Text rest, tt, refl)
typed_value tag.U64 rest l small e =
    let found = there unsigned (number_of_eight rest) l e in
    let number = of_eight rest found.0 small found.1 in (Unsigned found.0, number.0, ap (λ p. 117 ∷ p) number.1)
typed_value tag.I64 rest l small e =
    let found = there signed (option_map signed_at (number_of_eight rest)) l e in
    let number = signed_value rest found.0 small found.1 in (Signed found.0, number.0, ap (λ p. 105 ∷ p) number.1)
typed_value tag.Bool rest l small e =
    let found = there boolean (option_and_then truth_at (number_of_eight rest)) l e in
    let one = then_there truth_at (number_of_eight rest) found.0 found.1 in
    let number = of_eight rest one.0 small one.1 in
    (Truth found.0, tt, ap (λ p. 111 ∷ p) (number.1 ∙ ap (to_be_bytes w64) (truth_is one.0 found.0 one.2)))
typed_value tag.Date rest l small e =
    let found = there date (option_map signed_at (number_of_eight rest)) l e in
    let number = signed_value rest found.0 small found.1 in (Date found.0, number.0, ap (λ p. 100 ∷ p) number.1)
typed_value tag.Facet rest l small e = (Facet rest, tt, refl)
typed_value tag.Bytes rest l small e = (Bytes rest, tt, refl)
typed_value tag.Json rest l small e = cc
typed_value tag.IpAddr rest l small e =
    let found = there ip_address (number_of_sixteen rest) l e in
    let number = of_sixteen rest found.0 small found.1 in (Address found.0, number.0, ap (λ p. 112 ∷ p) number.1)

first_code : (test : Bool) (u : TypeTag) (us : List TypeTag) (b : ℕ) (t : TypeTag) → (code u == b) ≡ test → (if test then Some u else type_among us b) ≡ Some t → (type_among us b ≡ Some t → b ≡ code t) → b ≡ code t
first_code true u us b t is e later =
    let same : u ≡ t = cc in sym ((Decides-eqb (code u) b).0 is) ∙ ap code same
first_code false u us b t is e later = later e

code_among : (ts : List TypeTag) (b : ℕ) (t : TypeTag) → type_among ts b ≡ Some t → b ≡ code t
code_among [] b t e = cc
code_among (u ∷ us) b t e = first_code (code u == b) u us b t refl e (λ later. code_among us b t later)

read_typed : (o : Option TypeTag) (b : ℕ) (rest : List ℕ) (l : Leaf) → type_of_code b ≡ o → AreBytes rest → leaf_at o (b ∷ rest) ≡ Some l → IsValue (b ∷ rest)
read_typed None b rest l is small e = cc
read_typed (Some t) b rest l is small e =
    let first = code_among all_types b t is in
    subst (λ c. IsValue (c ∷ rest)) (sym first) (typed_value t rest l small (subst (λ c. leaf_at (Some t) (c ∷ rest) ≡ Some l) first e))

read_value : (coded : List ℕ) (l : Leaf) → AreBytes coded → coded_leaf coded ≡ Some l → IsValue coded
read_value [] l small e = cc
read_value (b ∷ rest) l small e = read_typed (type_of_code b) b rest l refl (λ i. small (suc i)) e

pub lent_value : (coded : List ℕ) (found : Option ReferenceValueLeaf) → AreBytes coded → option_map leaf_of found ≡ coded_leaf coded → IsSome found → IsValue coded
lent_value coded None small e some = cc
lent_value coded (Some leaf) small e some = read_value coded (leaf_of leaf) small (sym e)

-- ---- where a value stands in a term

abbrev second_of : Option (List ℕ × List ℕ) → List ℕ
second_of None = []
second_of (Some parts) = parts.1

second_same : (a c b d : List ℕ) → ◌≡◌ {A = Option (List ℕ × List ℕ)} (Some (a, b)) (Some (c, d)) → b ≡ d
second_same a c b d e = ap second_of e

pub inner_json : (bs coded found path : List ℕ) (field : ℕ) (value : TermValue) → coded ≡ drop 4 bs → ◌≡◌ {A = Option (List ℕ × List ℕ)} (Some (path, found)) (json_parts coded) → IsTerm bs field value → found ≡ coded_value (inner value)
inner_json bs coded found path field (Text t) is parts has = let e : ◌≡◌ {A = Option (List ℕ × List ℕ)} (Some (path, found)) None = parts ∙ ap json_parts (is ∙ ap (drop 4) has.bytes_are) in cc
inner_json bs coded found path field (Unsigned n) is parts has = let e : ◌≡◌ {A = Option (List ℕ × List ℕ)} (Some (path, found)) None = parts ∙ ap json_parts (is ∙ ap (drop 4) has.bytes_are) in cc
inner_json bs coded found path field (Signed z) is parts has = let e : ◌≡◌ {A = Option (List ℕ × List ℕ)} (Some (path, found)) None = parts ∙ ap json_parts (is ∙ ap (drop 4) has.bytes_are) in cc
inner_json bs coded found path field (Truth b) is parts has = let e : ◌≡◌ {A = Option (List ℕ × List ℕ)} (Some (path, found)) None = parts ∙ ap json_parts (is ∙ ap (drop 4) has.bytes_are) in cc
inner_json bs coded found path field (Date z) is parts has = let e : ◌≡◌ {A = Option (List ℕ × List ℕ)} (Some (path, found)) None = parts ∙ ap json_parts (is ∙ ap (drop 4) has.bytes_are) in cc
inner_json bs coded found path field (Facet f) is parts has = let e : ◌≡◌ {A = Option (List ℕ × List ℕ)} (Some (path, found)) None = parts ∙ ap json_parts (is ∙ ap (drop 4) has.bytes_are) in cc
inner_json bs coded found path field (Bytes b) is parts has = let e : ◌≡◌ {A = Option (List ℕ × List ℕ)} (Some (path, found)) None = parts ∙ ap json_parts (is ∙ ap (drop 4) has.bytes_are) in cc
inner_json bs coded found path field (Address n) is parts has = let e : ◌≡◌ {A = Option (List ℕ × List ℕ)} (Some (path, found)) None = parts ∙ ap json_parts (is ∙ ap (drop 4) has.bytes_are) in cc
inner_json bs coded found path field (Json p value) is parts has = second_same path (p ++ 0 ∷ []) found (coded_value value) (parts ∙ ap json_parts is ∙ json_parts-term bs field p value has)

pub inner_plain : (bs coded : List ℕ) (field : ℕ) (value : TermValue) → coded ≡ drop 4 bs → ◌≡◌ {A = Option (List ℕ × List ℕ)} None (json_parts coded) → IsTerm bs field value → coded ≡ coded_value (inner value)
inner_plain bs coded field (Json p value) is parts has = let e = parts ∙ ap json_parts is ∙ json_parts-term bs field p value has in cc
inner_plain bs coded field (Text t) is parts has = is ∙ ap (drop 4) has.bytes_are
inner_plain bs coded field (Unsigned n) is parts has = is ∙ ap (drop 4) has.bytes_are
inner_plain bs coded field (Signed z) is parts has = is ∙ ap (drop 4) has.bytes_are
inner_plain bs coded field (Truth b) is parts has = is ∙ ap (drop 4) has.bytes_are
inner_plain bs coded field (Date z) is parts has = is ∙ ap (drop 4) has.bytes_are
inner_plain bs coded field (Facet f) is parts has = is ∙ ap (drop 4) has.bytes_are
inner_plain bs coded field (Bytes b) is parts has = is ∙ ap (drop 4) has.bytes_are
inner_plain bs coded field (Address n) is parts has = is ∙ ap (drop 4) has.bytes_are

abbrev pub IsSomeTerm : List ℕ → Type 0
IsSomeTerm bs = (field : ℕ) × (value : TermValue) × IsTerm bs field value

four_bytes : (a b c d : ℕ) (rest : List ℕ) → AreBytes (a ∷ b ∷ c ∷ d ∷ rest) → AreBytes (a ∷ b ∷ c ∷ d ∷ [])
four_bytes a b c d rest small zero = small 0
four_bytes a b c d rest small (suc zero) = small 1
four_bytes a b c d rest small (suc (suc zero)) = small 2
four_bytes a b c d rest small (suc (suc (suc zero))) = small 3
four_bytes a b c d rest small (suc (suc (suc (suc i)))) = omega arith

pub plain_term : (bs coded : List ℕ) (value : TermValue) → AreBytes bs → 4 ≤ length bs → coded ≡ drop 4 bs → Fits value → coded ≡ coded_value value → IsSomeTerm bs
plain_term (a ∷ b ∷ c ∷ d ∷ rest) coded value small long is fits same =
    let first = a ∷ b ∷ c ∷ d ∷ [] in
    let bytes_small = four_bytes a b c d rest small in
    let field = from_be_bytes w32 first in
    let is_field : to_be_bytes w32 field ≡ first = be_bytes_4 first field refl bytes_small refl in
    let whole : a ∷ b ∷ c ∷ d ∷ rest ≡ to_be_bytes w32 field ++ coded_value value = ap (λ r. a ∷ b ∷ c ∷ d ∷ r) (sym is ∙ same) ∙ sym (ap (λ f. f ++ coded_value value) is_field) in
    (field, value, record { bytes_are = whole; field_fits = four-small first refl bytes_small; value_fits = fits })
plain_term _ coded value small long is fits same = absurd (omega arith)

no_zero_before : (bs : List ℕ) (end : ℕ) → ((k : ℕ) → k < end → (get_or bs k 0 == 0) ≡ false) → HasNoZero (take end bs)
no_zero_before [] zero before = tt
no_zero_before [] (suc end) before = tt
no_zero_before (b ∷ bs) zero before = tt
no_zero_before (b ∷ bs) (suc end) before =
    let first : (b == 0) ≡ false = before 0 (omega arith) in
    (grind (arith, nat_tests), no_zero_before bs end (λ k below. before (suc k) (omega arith)))

json_bytes : (b : ℕ) (bs found path : List ℕ) (value : TermValue) → ◌≡◌ {A = Option (List ℕ × List ℕ)} (Some (path, found)) (json_parts (b ∷ bs)) → found ≡ coded_value value
    → (p : List ℕ) × HasNoZero p × (b ∷ bs ≡ coded_value (Json p value))
json_bytes b bs found path value parts same =
    let cut = then_there cut_behind_zero (payload_of tag.Json (b ∷ bs)) (path, found) (sym parts) in
    let rest = cut.0 in
    let first = some_if (b == 106) bs rest cut.1 in
    let code_is : b ≡ 106 = (Decides-eqb b 106).0 first.0 in
    let at = there (λ end. (take (end + 1) rest, drop (end + 1) rest)) (position (λ c. c == 0) rest) (path, found) cut.2 in
    let end = at.0 in
    let place = position-Some (λ c. c == 0) rest end 0 at.1 in
    let zero_there : get_or rest end 0 ≡ 0 = (Decides-eqb (get_or rest end 0) 0).0 place.1 in
    let next : suc end ≡ end + 1 = omega arith in
    let behind : drop (suc end) rest ≡ coded_value value = ap (λ n. drop n rest) next ∙ ap (λ (both : List ℕ × List ℕ). both.1) at.2 ∙ same in
    let from_end : drop end rest ≡ 0 ∷ coded_value value = drop-cons rest end 0 place.0 ∙ ap (λ c. c ∷ drop (suc end) rest) zero_there ∙ ap (λ r. 0 ∷ r) behind in
    let whole : rest ≡ take end rest ++ 0 ∷ coded_value value = sym (take-append-drop end rest) ∙ ap (λ r. take end rest ++ r) from_end in
    (take end rest, no_zero_before rest end place.2, ap (λ c. c ∷ bs) code_is ∙ ap (λ r. 106 ∷ r) (first.1 ∙ whole))

pub json_term_is : (bs coded found path : List ℕ) (value : TermValue) → AreBytes bs → 4 ≤ length bs → coded ≡ drop 4 bs → ◌≡◌ {A = Option (List ℕ × List ℕ)} (Some (path, found)) (json_parts coded) → Fits value → found ≡ coded_value value → IsSomeTerm bs
json_term_is bs [] found path value small long is parts fits same = cc
json_term_is bs (b ∷ rest) found path value small long is parts fits same =
    let whole = json_bytes b rest found path value parts same in plain_term bs (b ∷ rest) (Json whole.0 value) small long is (whole.1, fits) whole.2
