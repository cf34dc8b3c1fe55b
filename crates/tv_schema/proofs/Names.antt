-- Fields by their names.
use Rattle.std.proofs.Common.{◌≡◌, ◌≢◌, ℕ, suc, zero, ◌+◌, ◌<◌, Bool, true, false, cond, List, [], ◌∷◌, length, get_or, Option, None, Some, refl, ◌∙◌, ap, arith, add-zero, zero-add}
use Rattle.tv_value.specs.SameLaws.{bytes_refl}
use Rattle.std.specs.Prelude.{slice_get, IfSome, IsSomeAnd, AllPairs}
use Rattle.std.specs.Str.{bytes_eq}
use Rattle.std.proofs.lemmas.Slice.Eq.{bytes_eq-Decides}
use Rattle.std.proofs.lemmas.Bool.{false_from_ne_true}
use Rattle.std.proofs.lemmas.Option.{get_or_from_slice_get, slice_get_within}
use Rattle.tv_field.specs.Entry.{Entry}
use Rattle.tv_schema.specs.Schema.{IsSchema, place_from, field_named}

pub apart_names : (one other : List ℕ) → one ≢ other → bytes_eq one other ≡ false
apart_names one other h = false_from_ne_true (bytes_eq one other) (λ t. h ((bytes_eq-Decides one other).0 t))

found_case : (b : Bool) (n m : ℕ) (rest : Option ℕ) → b ≡ false → rest ≡ Some m → cond b (Some n) rest ≡ Some m
found_case b n m rest other e = rw other e

pub place_from-found : (n : ℕ) (schema : List Entry) (number : ℕ) (d : Entry) → AllPairs (λ one other. one.name ≢ other.name) schema → number < length schema → place_from n schema (get_or schema number d).name ≡ Some (n + number)
place_from-found n [] number d apart h = absurd (omega arith)
place_from-found n (e ∷ es) zero d apart h = rw (bytes_refl e.name, add-zero) refl
place_from-found n (e ∷ es) (suc k) d apart h =
    let other : bytes_eq e.name (get_or es k d).name ≡ false = apart_names e.name (get_or es k d).name (apart 0 (suc k) d (omega arith) h) in
    let next : (n + 1) + k ≡ n + suc k = omega arith in
    found_case (bytes_eq e.name (get_or es k d).name) n (n + suc k) (place_from (n + 1) es (get_or es k d).name) other
    (place_from-found (n + 1) es k d (λ i j c l m. apart (suc i) (suc j) c (omega arith) (omega arith)) (omega arith) ∙ ap Some next)

named_case : (b : Bool) (n number : ℕ) (e : Entry) (es : List Entry) (name : List ℕ) → bytes_eq e.name name ≡ b → cond b (Some n) (place_from (n + 1) es name) ≡ Some number → ((m : ℕ) → place_from (n + 1) es name ≡ Some m → (k : ℕ) × (m ≡ (n + 1) + k) × IsSomeAnd (slice_get es k) (λ entry. entry.name ≡ name)) → (k : ℕ) × (number ≡ n + k) × IsSomeAnd (slice_get (e ∷ es) k) (λ entry. entry.name ≡ name)
named_case true n number e es name is found more = (0, (let same : n ≡ number = cc in omega arith), (bytes_eq-Decides e.name name).0 is)
named_case false n number e es name is found more =
    let next = more number found in
    let same = next.1 in
    (suc next.0, omega arith, next.2)

place_from-named : (n : ℕ) (schema : List Entry) (name : List ℕ) (number : ℕ) → place_from n schema name ≡ Some number → (k : ℕ) × (number ≡ n + k) × IsSomeAnd (slice_get schema k) (λ entry. entry.name ≡ name)
place_from-named n [] name number e = cc
place_from-named n (e ∷ es) name number found =
    named_case (bytes_eq e.name name) n number e es name refl found (λ m g. place_from-named (n + 1) es name m g)

pub field_named-named : (schema : List Entry) (name : List ℕ) (number : ℕ) → field_named schema name ≡ Some number → IsSomeAnd (slice_get schema number) (λ entry. entry.name ≡ name)
field_named-named schema name number e =
    let at = place_from-named 0 schema name number e in
    let same : number ≡ at.0 = omega (arith, at.1) in
    rw same at.2

pub field_named-found : (schema : List Entry) (number : ℕ) (entry : Entry) → IsSchema schema → slice_get schema number ≡ Some entry → field_named schema entry.name ≡ Some number
field_named-found schema number entry is at =
    rw (get_or_from_slice_get schema number entry entry at, zero-add) at
    (place_from-found 0 schema number entry is.distinct (slice_get_within schema number entry at))

place_case : (b : Bool) (n number : ℕ) (rest : Option ℕ) (most : ℕ) → n < most → cond b (Some n) rest ≡ Some number → (rest ≡ Some number → number < most) → number < most
place_case true n number rest most h e more = let same : n ≡ number = cc in omega arith
place_case false n number rest most h e more = more e

place_from-within : (n : ℕ) (schema : List Entry) (name : List ℕ) (number : ℕ) → place_from n schema name ≡ Some number → number < n + length schema
place_from-within n [] name number e = cc
place_from-within n (e ∷ es) name number found =
    place_case (bytes_eq e.name name) n number (place_from (n + 1) es name) (n + suc (length es)) (omega arith) found
    (λ more. let within = place_from-within (n + 1) es name number more in omega arith)

within_case : (number : Option ℕ) (most : ℕ) → ((n : ℕ) → number ≡ Some n → n < most) → IfSome number (λ n. n < most)
within_case None most h = tt
within_case (Some n) most h = h n refl

-- a name is of one of the entries
pub field_named-within : (schema : List Entry) (name : List ℕ) → IfSome (field_named schema name) (λ number. number < length schema)
field_named-within schema name =
    within_case (field_named schema name) (length schema) (λ n e. let within = place_from-within 0 schema name n e in omega arith)
