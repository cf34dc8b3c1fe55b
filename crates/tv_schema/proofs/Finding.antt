-- What a path finds.
use Rattle.std.proofs.Common.{◌≡◌, ℕ, suc, zero, ◌+◌, ◌<◌, Bool, true, false, cond, List, length, take, drop, Option, None, Some, refl, sym, ◌∙◌, ap, arith, IsTrue, inl, inr}
use Rattle.std.specs.Option.{option_map}
use Rattle.std.proofs.lemmas.Bool.{cases_lt}
use Rattle.tv_field.specs.Entry.{Entry}
use Rattle.tv_schema.specs.Path.{is_splitting_dot, field_of_prefix, parted_at, last_given, find}
use Rattle.tv_schema.specs.Schema.{field_named}

module _ {A : Type 0} (give : ℕ → Option A) where
  given_case : (place n : ℕ) (a : A) → place < suc n → give place ≡ Some a → ((later : ℕ) → place < later → later < suc n → give later ≡ None) → (place < n → last_given give n ≡ Some a) → last_given give (suc n) ≡ Some a
  given_case place n a h here later more =
      elim (cases_lt place n) [
        | inl below ↦ rw (later n below (omega arith)) (more below)
        | inr above ↦ (let same : place ≡ n = omega arith in rw (sym (ap give same) ∙ here) refl)
      ]

  pub last_given-is : (place n : ℕ) (a : A) → place < n → give place ≡ Some a → ((later : ℕ) → place < later → later < n → give later ≡ None) → last_given give n ≡ Some a
  last_given-is place zero a h here later = absurd (omega arith)
  last_given-is place (suc n) a h here later =
      given_case place n a h here later (λ below. last_given-is place n a below here (λ k l m. later k l (omega arith)))

  pub last_given-none : (n : ℕ) → ((place : ℕ) → place < n → give place ≡ None) → last_given give n ≡ None
  last_given-none zero h = refl
  last_given-none (suc n) h = rw (h n (omega arith)) (last_given-none n (λ k l. h k (omega arith)))

pub none_parted : (dot : Bool) (field : Option ℕ) (rest : List ℕ) → (IsTrue dot → field ≡ None) → cond dot (option_map {U = ℕ × List ℕ} (λ n. (n, rest)) field) None ≡ None
none_parted true field rest h = rw (h refl) refl
none_parted false field rest h = refl

pub find-last : (schema : List Entry) (path : List ℕ) (place field : ℕ) → field_named schema path ≡ None → place < length path → IsTrue (is_splitting_dot path place) → field_of_prefix schema (take place path) ≡ Some field → ((later : ℕ) → place < later → later < length path → IsTrue (is_splitting_dot path later) → field_of_prefix schema (take later path) ≡ None) → find schema path ≡ Some (field, drop (place + 1) path)
find-last schema path place field whole h dot prefix later =
    let here : parted_at schema path place ≡ Some (field, drop (place + 1) path) = rw (dot, prefix) refl in
    rw whole
    (last_given-is (parted_at schema path) place (length path) (field, drop (place + 1) path) h here
    (λ k l m. none_parted (is_splitting_dot path k) (field_of_prefix schema (take k path)) (drop (k + 1) path) (later k l m)))

pub find-none : (schema : List Entry) (path : List ℕ) → field_named schema path ≡ None → ((place : ℕ) → place < length path → IsTrue (is_splitting_dot path place) → field_of_prefix schema (take place path) ≡ None) → find schema path ≡ None
find-none schema path whole none =
    rw whole
    (last_given-none (parted_at schema path) (length path)
    (λ k l. none_parted (is_splitting_dot path k) (field_of_prefix schema (take k path)) (drop (k + 1) path) (none k l)))
