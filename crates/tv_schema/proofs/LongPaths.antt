-- Paths that are longer than any name.
use Rattle.std.proofs.Common.{◌≡◌, ℕ, suc, zero, ◌+◌, ◌*◌, ◌<◌, ◌≤◌, Bool, true, false, cond, List, [], ◌∷◌, length, take, Option, None, refl, ap, arith, eqb, inl, inr}
use Rattle.std.specs.List.{AllByRecursion}
use Rattle.std.proofs.lemmas.Bool.{cases_lt}
use Rattle.std.proofs.lemmas.List.{length-take-le}
use Rattle.tv_base.specs.Escapes.{kept_byte, without_escapes}
use Rattle.tv_base.proofs.Rewriting.{rewritten_from, rewritten-from}
use Rattle.tv_field.specs.Entry.{Entry}
use Rattle.tv_schema.specs.Path.{is_splitting_dot, field_of_prefix, parted_at, last_given}
use Rattle.tv_schema.specs.Schema.{place_from, field_named}
use Rattle.tv_schema.proofs.Finding.{none_parted}
use Rattle.tv_schema.proofs.Names.{apart_names}

-- ---- escapes are half of a text at most

half_case : (c u : Bool) (b : ℕ) (bs : List ℕ) → eqb b 92 ≡ c → ((v : Bool) → length bs ≤ 2 * length (rewritten_from kept_byte v bs) + cond v 1 0) → length (b ∷ bs) ≤ 2 * length (rewritten_from kept_byte u (b ∷ bs)) + cond u 1 0
half_case true true b bs is more = rw is (omega (arith, more false))
half_case true false b bs is more = rw is (omega (arith, more true))
half_case false true b bs is more = rw is (omega (arith, more true))
half_case false false b bs is more = rw is (omega (arith, more true))

half : (u : Bool) (text : List ℕ) → length text ≤ 2 * length (rewritten_from kept_byte u text) + cond u 1 0
half u [] = omega arith
half u (b ∷ bs) = half_case (eqb b 92) u b bs refl (λ v. half v bs)

half_stays : (text : List ℕ) → length text ≤ 2 * length (without_escapes text) + 1
half_stays text = rw (rewritten-from kept_byte text) (half true text)

-- ---- a prefix that is too long

too_long : (n : ℕ) (es : List Entry) (longest : ℕ) (name : List ℕ) → AllByRecursion (λ entry. length entry.name ≤ longest) es → longest < length name → place_from n es name ≡ None
too_long n [] longest name all long = refl
too_long n (e ∷ es) longest name all long =
    rw (apart_names e.name name (λ same. let lengths = ap length same in absurd (omega (arith, lengths, all.0, long)))) (too_long (n + 1) es longest name all.1 long)

pub no_prefix : (schema : List Entry) (longest : ℕ) (prefix : List ℕ) → AllByRecursion (λ entry. length entry.name ≤ longest) schema → 2 * longest + 1 < length prefix → field_of_prefix schema prefix ≡ None
no_prefix schema longest prefix all long =
    let plain : field_named schema prefix ≡ None = too_long 0 schema longest prefix all (omega arith) in
    let rewritten : field_named schema (without_escapes prefix) ≡ None = too_long 0 schema longest (without_escapes prefix) all (omega (arith, half_stays prefix, long)) in
    rw (plain, rewritten) refl

none_at : (schema : List Entry) (path : List ℕ) (most place : ℕ) → ((prefix : List ℕ) → most < length prefix → field_of_prefix schema prefix ≡ None) → most < place → place < length path → parted_at schema path place ≡ None
none_at schema path most place none above within =
    none_parted (is_splitting_dot path place) (field_of_prefix schema (take place path)) _ (λ _. none (take place path) (omega (arith, length-take-le place path (omega arith))))

-- ---- places at which nothing is given

above_case : {A : Type 0} (give : ℕ → Option A) (n m : ℕ) → n ≤ suc m → ((k : ℕ) → n ≤ k → k < suc m → give k ≡ None) → (n ≤ m → last_given give n ≡ last_given give m) → last_given give n ≡ last_given give (suc m)
above_case give n m within none more = elim (cases_lt n (suc m)) [
  | inl below ↦ rw (none m (omega (arith, below)) (omega arith)) (more (omega (arith, below)))
  | inr above ↦ (let same : n ≡ suc m = omega (arith, above, within) in ap (last_given give) same)
]

last_given-above : {A : Type 0} (give : ℕ → Option A) (n m : ℕ) → n ≤ m → ((k : ℕ) → n ≤ k → k < m → give k ≡ None) → last_given give n ≡ last_given give m
last_given-above give zero zero within none = refl
last_given-above give (suc n) zero within none = absurd (omega (arith, within))
last_given-above give n (suc m) within none = above_case give n m within none (λ below. last_given-above give n m below (λ k l h. none k l (omega (arith, h))))

pub parted_within : (schema : List Entry) (path : List ℕ) (most places : ℕ) → ((prefix : List ℕ) → most < length prefix → field_of_prefix schema prefix ≡ None) → places ≤ length path → (places < length path → most < places)
    → last_given (parted_at schema path) places ≡ last_given (parted_at schema path) (length path)
parted_within schema path most places none within above =
    last_given-above (parted_at schema path) places (length path) within (λ k l h. none_at schema path most k none (let more = above (omega (arith, l, h)) in omega (arith, l, more)) h)
