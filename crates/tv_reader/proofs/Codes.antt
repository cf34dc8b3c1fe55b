-- The types of codes.
use Rattle.std.proofs.Common.{◌≡◌, ◌≢◌, ◌<◌, ℕ, false, eqb, List, [], ◌∷◌, None, refl, sym, ap, ◌∙◌, arith, inl, inr}
use Rattle.std.specs.Prelude.{option_map}
use Rattle.std.proofs.lemmas.Bool.Decides.{eqb_tells}
use Rattle.tv_format.specs.Leaves as leaf_codes
use Rattle.tv_format.specs.Leaves.{store_code, last_code, leaf_types, first_with}
use Rattle.tv_format.specs.LeavesLaws.{leaf_coded}
use Rattle.tv_format.specs.declared.leaf_type.LeafType.{LeafType}
use Rattle.tv_reader.specs.ValueType.{of_leaf, value_type_with}

pub differs : (m n : ℕ) → m ≢ n → eqb m n ≡ false
differs m n h = elim (eqb_tells m n) [ inl p ↦ absurd (h p.1) | inr p ↦ p.0 ]

pub above : (m n : ℕ) → n < m → eqb m n ≡ false
above m n h = differs m n (λ e. omega (arith, h, e))

none_among : (code : ℕ) (ts : List LeafType) → ((t : LeafType) → store_code t ≢ code) → first_with code ts ≡ None
none_among code [] none = refl
none_among code (t ∷ ts) none = rw (differs (store_code t) code (none t)) (none_among code ts none)

no_coded_leaf : (code : ℕ) → ((t : LeafType) → store_code t ≢ code) → leaf_codes.type_with code ≡ None
no_coded_leaf code none = none_among code leaf_types none

-- no type has a code above the largest
pub no_type : (code : ℕ) → last_code < code → value_type_with code ≡ None
no_type code h =
    rw (above code 8 (omega (arith, h)), above code 12 (omega (arith, h)), above code 13 (omega (arith, h)))
    (ap (option_map of_leaf) (no_coded_leaf code (λ t e. omega (arith, h, e, (leaf_coded t).known))))

other : (code : ℕ) → code ≢ 8 → code ≢ 12 → code ≢ 13 → value_type_with code ≡ option_map of_leaf (leaf_codes.type_with code)
other code a b c = rw (differs code 8 a, differs code 12 b, differs code 13 c) refl

pub none_found : (code : ℕ) → code ≢ 8 → code ≢ 12 → code ≢ 13 → ((t : LeafType) → store_code t ≢ code) → None ≡ value_type_with code
none_found code a b c none = sym (other code a b c ∙ ap (option_map of_leaf) (no_coded_leaf code none))
