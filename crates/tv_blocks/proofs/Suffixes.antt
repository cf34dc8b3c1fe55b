-- What a path has left after the name of a field is a suffix of it.
use Rattle.std.proofs.Common.{◌≡◌, ℕ, zero, suc, ◌+◌, ◌-◌, ◌<◌, ◌≤◌, Bool, true, false, List, [], length, take, drop, Option, Some, None, if◌then◌else◌, refl, sym, ap, ◌∙◌, arith}
use Rattle.std.proofs.lemmas.List.{length-drop}
use Rattle.std.proofs.Math.Seq.{drop-length}
use Rattle.std.specs.Option.{option_or, option_map}
use Rattle.std.proofs.lemmas.Option.{same_Some}
use Rattle.tv_field.specs.Entry.{Entry}
use Rattle.tv_schema.specs.Path.{is_splitting_dot, field_of_prefix, parted_at, last_given, find}
use Rattle.tv_schema.specs.Schema.{field_named}

-- the text stands after this many bytes of the path
pub record IsSuffix (path text : List ℕ) : Type 0 where
  pub place : ℕ
  pub within : place ≤ length path
  pub is : text ≡ drop place path

-- its length says where
pub begins_at : (path text : List ℕ) → IsSuffix path text → drop (length path - length text) path ≡ text
begins_at path text s =
    let len : length text ≡ length path - s.place = ap length s.is ∙ length-drop s.place path in
    let at : length path - length text ≡ s.place = omega (arith, len, s.within) in
    ap (λ n. drop n path) at ∙ sym s.is

pub no_longer : (path text : List ℕ) → IsSuffix path text → length text ≤ length path
no_longer path text s =
    let len : length text ≡ length path - s.place = ap length s.is ∙ length-drop s.place path in
    omega (arith, len)

parted : (path : List ℕ) (place : ℕ) (dot : Bool) (field : Option ℕ) (x : ℕ × List ℕ) → place < length path
    → (if dot then option_map (λ f. (f, drop (place + 1) path)) field else None) ≡ Some x → IsSuffix path x.1
parted path place true (Some f) x within e = record { place = place + 1; within = omega (arith, within); is = ap (λ p. p.1) (sym (same_Some _ _ e)) }
parted path place true None x within e = absurd cc
parted path place false field x within e = absurd cc

last_case : (schema : List Entry) (path : List ℕ) (n : ℕ) (x : ℕ × List ℕ) (here others : Option (ℕ × List ℕ)) → n < length path → parted_at schema path n ≡ here
    → (others ≡ Some x → IsSuffix path x.1) → option_or here others ≡ Some x → IsSuffix path x.1
last_case schema path n x (Some y) others within is below e =
    parted path n (is_splitting_dot path n) (field_of_prefix schema (take n path)) x within (is ∙ e)
last_case schema path n x None others within is below e = below e

last_suffix : (schema : List Entry) (path : List ℕ) (n : ℕ) (x : ℕ × List ℕ) → n ≤ length path → last_given (parted_at schema path) n ≡ Some x → IsSuffix path x.1
last_suffix schema path zero x within e = absurd cc
last_suffix schema path (suc n) x within e =
    last_case schema path n x (parted_at schema path n) (last_given (parted_at schema path) n) (omega (arith, within)) refl (last_suffix schema path n x (omega (arith, within))) e

find_case : (path : List ℕ) (named : Option ℕ) (others : Option (ℕ × List ℕ)) (x : ℕ × List ℕ) → (others ≡ Some x → IsSuffix path x.1)
    → option_or (option_map (λ f. (f, [])) named) others ≡ Some x → IsSuffix path x.1
find_case path (Some f) others x below e = record { place = length path; within = omega arith; is = ap (λ p. p.1) (sym (same_Some _ _ e)) ∙ sym (drop-length path) }
find_case path None others x below e = below e

pub found_suffix : (schema : List Entry) (path : List ℕ) (x : ℕ × List ℕ) → find schema path ≡ Some x → IsSuffix path x.1
found_suffix schema path x e =
    find_case path (field_named schema path) (last_given (parted_at schema path) (length path)) x (last_suffix schema path (length path) x (omega arith)) e
