-- A leaf is its type and what it holds, and a code is that of one type.
use Rattle.std.specs.Prelude.{◌≡◌, ◌≢◌, ◌==◌, ◌||◌, ◌&&◌, ℕ, zero, suc, ◌<◌, ◌≤◌, Bool, true, false, Option}
use Rattle.std.specs.Prelude.{Some, None, is_some, refl}
use Rattle.std.proofs.Common.{ap, sym, ◌∙◌, arith, subst, inl, inr}
use Rattle.std.proofs.lemmas.Bool.{cases_lt, and_parts}
use Rattle.std.proofs.lemmas.Bool.Decides.{eqb_tells}
use Rattle.tv_format.specs.Content.{Content, no_content, form_of}
use Rattle.tv_format.specs.Leaves.{type_of, content, leaf_with, form, store_code, last_code, type_with}
use Rattle.tv_format.specs.Leaves.{heap_code}
use Rattle.tv_format.specs.Tree.{Leaf, null}
use Rattle.tv_format.specs.declared.leaf_type.LeafType.{LeafType}
use Rattle.tv_format.specs.declared.leaf_type.LeafType.TheVariants as types

pub with_parts : (l : Leaf) → leaf_with (type_of l) (content l) ≡ Some l
with_parts null = refl
with_parts _ = refl

pub one_leaf : (l m : Leaf) → type_of l ≡ type_of m → content l ≡ content m → l ≡ m
one_leaf l m e p = some_is l m (sym (with_parts l) ∙ (λ i. leaf_with (e i) (p i)) ∙ with_parts m)
  where
    some_is : (l m : Leaf) → Some l ≡ Some m → l ≡ m
    some_is l m e = cc

-- what a leaf holds is of the form of its type
pub form_of_content : (l : Leaf) → form_of (content l) ≡ form (type_of l)
form_of_content null = refl
form_of_content _ = refl

-- The leaf of a type that holds this.
pub record Made (leaf_type : LeafType) (body : Content) : Type 0 where
  pub made : Leaf
  pub is : leaf_with leaf_type body ≡ Some made
  pub typed : type_of made ≡ leaf_type
  pub holds : content made ≡ body

abbrev or_null : Option Leaf → Leaf
or_null (Some l) = l
or_null None = null

is_there : (o : Option Leaf) → is_some o ≡ true → o ≡ Some (or_null o)
is_there (Some l) e = refl
is_there None e = cc

is_made : (t : LeafType) (c : Content) → form_of c ≡ form t → is_some (leaf_with t c) ≡ true
is_made types.Null no_content e = refl
is_made _ no_content e = cc
is_made _ _ e = cc

is_typed : (t : LeafType) (c : Content) → is_some (leaf_with t c) ≡ true
    → type_of (or_null (leaf_with t c)) ≡ t
is_typed types.Null no_content e = refl
is_typed _ no_content e = cc
is_typed _ _ e = cc

is_held : (t : LeafType) (c : Content) → is_some (leaf_with t c) ≡ true
    → content (or_null (leaf_with t c)) ≡ c
is_held types.Null no_content e = refl
is_held _ no_content e = cc
is_held _ _ e = cc

-- any content of the form of a type makes a leaf of it
pub making : (t : LeafType) (c : Content) → form_of c ≡ form t → Made t c
making t c e =
    let there = is_made t c e in
    record {
      made = or_null (leaf_with t c);
      is = is_there (leaf_with t c) there;
      typed = is_typed t c there;
      holds = is_held t c there;
    }

coded : (t : LeafType) → type_with (store_code t) ≡ Some t
coded types.Null = refl
coded _ = refl

pub one_code : (s t : LeafType) → store_code s ≡ store_code t → s ≡ t
one_code s t e = some_is s t (sym (coded s) ∙ ap type_with e ∙ coded t)
  where
    some_is : (s t : LeafType) → Some s ≡ Some t → s ≡ t
    some_is s t e = cc

-- what a leaf's code is: at most the last one, and not that of floating-point numbers, legacy objects, arrays
-- or objects
pub record IsLeafCode (code : ℕ) : Type 0 where
  pub known : code ≤ last_code
  pub no_float : code ≢ 6
  pub no_legacy : code ≢ 8
  pub no_array : code ≢ 12
  pub no_object : code ≢ 13

pub leaf_coded : (t : LeafType) → IsLeafCode (store_code t)
leaf_coded types.Null = record {
  known = omega arith;
  no_float = λ e. omega arith;
  no_legacy = λ e. omega arith;
  no_array = λ e. omega arith;
  no_object = λ e. omega arith;
}
leaf_coded _ = record {
  known = omega arith;
  no_float = λ e. omega arith;
  no_legacy = λ e. omega arith;
  no_array = λ e. omega arith;
  no_object = λ e. omega arith;
}

abbrev or_text : Option LeafType → LeafType
or_text (Some t) = t
or_text None = types.Str

-- the code is that of a leaf's type, or one of the four others
abbrev is_known : ℕ → Bool
is_known code = (code == 6) || ((code == 8) ||
    ((code == 12) || ((code == 13) || (store_code (or_text (type_with code)) == code))))

abbrev all_known : ℕ → Bool
all_known zero = is_known zero
all_known (suc n) = is_known (suc n) && all_known n

up_to : (n code : ℕ) → all_known n ≡ true → code ≤ n → is_known code ≡ true
up_to zero code all small = let e : code ≡ 0 = omega arith in subst (λ m. is_known m ≡ true) (sym e) all
up_to (suc n) code all small =
    let tests = and_parts (is_known (suc n)) (all_known n) all in
    elim (cases_lt code (suc n)) [
      | inl less ↦ up_to n code tests.1 (omega (arith, less))
      | inr more ↦ let e : code ≡ suc n = omega (arith, more, small) in
          subst (λ m. is_known m ≡ true) (sym e) tests.0
    ]

differs : (m n : ℕ) → m ≢ n → (m == n) ≡ false
differs m n h = elim (eqb_tells m n) [ inl p ↦ absurd (h p.1) | inr p ↦ p.0 ]

or_else : (a b : Bool) → (a || b) ≡ true → a ≡ false → b ≡ true
or_else true b e f = cc
or_else false b e f = e

is_same : (m n : ℕ) → (m == n) ≡ true → m ≡ n
is_same m n e = elim (eqb_tells m n) [
  | inl p ↦ p.1
  | inr p ↦ absurd (let f : true ≡ false = sym e ∙ p.0 in
      cc)
]

-- every such code is one of a leaf
pub code_of_leaf : (code : ℕ) → IsLeafCode code → (t : LeafType) × (store_code t ≡ code)
code_of_leaf code c =
    let found = up_to last_code code refl c.known in
    let no_float = or_else (code == 6) _ found (differs code 6 c.no_float) in
    let no_legacy = or_else (code == 8) _ no_float (differs code 8 c.no_legacy) in
    let no_array = or_else (code == 12) _ no_legacy (differs code 12 c.no_array) in
    let same = or_else (code == 13) _ no_array (differs code 13 c.no_object) in
    (or_text (type_with code), is_same (store_code (or_text (type_with code))) code same)

-- a type byte of a heap is that of one type
same_code : (s t : LeafType) → heap_code s ≡ heap_code t → store_code s ≡ store_code t
same_code types.Null types.Null e = refl
same_code _ types.Null e = omega arith
same_code _ _ e = omega arith

pub one_heap_code : (s t : LeafType) → heap_code s ≡ heap_code t → s ≡ t
one_heap_code s t e = one_code s t (same_code s t e)

-- those of arrays and objects are above
pub small_heap_code : (t : LeafType) → heap_code t < 11
small_heap_code types.Null = omega arith
small_heap_code _ = omega arith
