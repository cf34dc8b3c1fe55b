-- The turns of a reading, where it finds what it reads.
use Rattle.std.proofs.Common.{◌≡◌, ℕ, ◌-◌, ◌<◌, ◌≤◌, List, ◌∷◌, length, Bool, Option, Some, None, option_map, ap, ◌∙◌}
use Rattle.json.specs.Token.{Token}
use Rattle.json.specs.Json as json
use Rattle.json.specs.Json.{Parse, parse_map, after_end_array, read_key, items, members, value}
use Rattle.json.proofs.Grammar.{value_is, value-begin_array, value-begin_object, items_end, items_more, members_end, members_more}
use Rattle.serde_json.specs.Data.{Data, null, boolean, number, string, array, object, Items, no_items, item, Members, no_members, put}
use Rattle.serde_json.specs.Read.{number_of, of_json, of_items, of_members, converted}

rest_of : {A : Type 0} (b : A) (r s : List Token) (o : Option A) → option_map {U = A × List Token} (λ a. (a, s)) o ≡ Some (b, r) → (s ≡ r) × (o ≡ Some b)
rest_of b r s None e = absurd (cc)
rest_of {A} b r s (Some a) e =
    let both : ◌≡◌ {A = A × List Token} (a, s) (b, r) = cc in
    (ap (λ p. p.1) both, ap (λ p. Some p.0) both)

-- what a conversion made was made of what was read
pub read_of : {A B : Type 0} (f : A → Option B) (o : Option (A × List Token)) (b : B) (r : List Token) → converted f o ≡ Some (b, r) → (a : A) × (o ≡ Some (a, r)) × (f a ≡ Some b)
read_of f None b r e = absurd (cc)
read_of f (Some p) b r e = let both = rest_of b r p.1 (f p.0) e in (p.0, ap (λ s. Some (p.0, s)) both.0, both.1)

module _ (depth : ℕ) (ts r : List Token) where
  pub null-read : ts ≡ Token.null ∷ r → converted of_json (value depth ts) ≡ Some (null, r)
  null-read first = ap (converted of_json) (ap (value depth) first ∙ value_is depth (Token.null ∷ r))

  pub boolean-read : (b : Bool) → ts ≡ Token.boolean b ∷ r → converted of_json (value depth ts) ≡ Some (boolean b, r)
  boolean-read b first = ap (converted of_json) (ap (value depth) first ∙ value_is depth (Token.boolean b ∷ r))

  pub string-read : (s : List ℕ) → ts ≡ Token.string s ∷ r → converted of_json (value depth ts) ≡ Some (string s, r)
  string-read s first = ap (converted of_json) (ap (value depth) first ∙ value_is depth (Token.string s ∷ r))

  pub number-read : (s : List ℕ) (d : Data) → ts ≡ Token.number s ∷ r → option_map number (number_of s) ≡ Some d → converted of_json (value depth ts) ≡ Some (d, r)
  number-read s d first e = ap (converted of_json) (ap (value depth) first ∙ value_is depth (Token.number s ∷ r)) ∙ ap (option_map (λ n. (n, r))) e

pub array-read : (depth : ℕ) (ts r : List Token) (ds : Items) → 0 < depth → converted of_items (items (value (depth - 1)) (length ts) ts) ≡ Some (ds, r)
    → converted of_json (value depth (Token.begin_array ∷ ts)) ≡ Some (array ds, r)
array-read depth ts r ds some e =
    let js = read_of of_items (items (value (depth - 1)) (length ts) ts) ds r e in
    ap (converted of_json) (value-begin_array depth ts some ∙ ap (parse_map json.array) js.1) ∙ rw js.2

pub object-read : (depth : ℕ) (ts r : List Token) (ds : Members) → 0 < depth → converted (λ ms. of_members ms no_members) (members (value (depth - 1)) (length ts) ts) ≡ Some (ds, r)
    → converted of_json (value depth (Token.begin_object ∷ ts)) ≡ Some (object ds, r)
object-read depth ts r ds some e =
    let js = read_of (λ ms. of_members ms no_members) (members (value (depth - 1)) (length ts) ts) ds r e in
    ap (converted of_json) (value-begin_object depth ts some ∙ ap (parse_map json.object) js.1) ∙ rw js.2

module _ (p : Parse json.Json) (n : ℕ) where
  pub item-read : (ts s r : List Token) (d : Data) (ds : Items) → 0 < n → after_end_array ts ≡ None → converted of_json (p ts) ≡ Some (d, s) → converted of_items (items p (n - 1) s) ≡ Some (ds, r)
      → converted of_items (items p n ts) ≡ Some (item d ds, r)
  item-read ts s r d ds some going first more =
      let j = read_of of_json (p ts) d s first in
      let js = read_of of_items (items p (n - 1) s) ds r more in
      ap (converted of_items) (items_more p n ts s j.0 some going j.1 ∙ ap (parse_map (json.item j.0)) js.1) ∙ rw (j.2, js.2)

  pub no_items-read : (ts r : List Token) → length ts ≤ n → after_end_array ts ≡ Some r → converted of_items (items p n ts) ≡ Some (no_items, r)
  no_items-read ts r enough e = ap (converted of_items) (items_end p n ts r enough e)

  pub member-read : (old : Members) (k : List ℕ) (ts v s r : List Token) (d : Data) (ds : Members) → 0 < n → read_key ts ≡ Some (Some k, v) → converted of_json (p v) ≡ Some (d, s)
      → converted (λ ms. of_members ms (put k d old)) (members p (n - 1) s) ≡ Some (ds, r)
      → converted (λ ms. of_members ms old) (members p n ts) ≡ Some (ds, r)
  member-read old k ts v s r d ds some key first more =
      let j = read_of of_json (p v) d s first in
      let js = read_of (λ ms. of_members ms (put k d old)) (members p (n - 1) s) ds r more in
      ap (converted (λ ms. of_members ms old)) (members_more p n k ts v s j.0 some key j.1 ∙ ap (parse_map (json.member k j.0)) js.1) ∙ rw (j.2, js.2)

  pub no_members-read : (old : Members) (ts r : List Token) → length ts ≤ n → read_key ts ≡ Some (None, r) → converted (λ ms. of_members ms old) (members p n ts) ≡ Some (old, r)
  no_members-read old ts r enough e = ap (converted (λ ms. of_members ms old)) (members_end p n ts r enough e)
