-- The table of the fields that were noted so far.
use Rattle.std.proofs.Common.{◌≡◌, ◌≢◌, ◌==◌, ◌||◌, slice_get, ℕ, ◌+◌, ◌<◌, Bool, true, false, List, length, take, Some, refl, sym, ap, ◌∙◌, subst}
use Rattle.std.proofs.Math.ListN.{get_or, replicate, set}
use Rattle.std.proofs.lemmas.Bool.{eqb-true, eqb-false}
use Rattle.std.proofs.lemmas.List.{get_or-replicate, get_or-set_same, get_or-set_other, length-replicate, length-set}
use Rattle.std.proofs.lemmas.List.Folds.{list_any_more}
use Rattle.std.proofs.lemmas.Option.{slice_get-get_or, get_or_from_slice_get}
use Rattle.tv_reading.specs.ChosenFields.{is_among}
use Rattle.tv_reading.specs.Wanted.{IsTable}
use Rattle.tv_value.specs.declared.field.Field.{Field}

or-true : (b : Bool) → (b || true) ≡ true
or-true true = refl
or-true false = refl

or-false : (b : Bool) → (b || false) ≡ b
or-false true = refl
or-false false = refl

-- the field's own number
own : (table : List Bool) (k n : ℕ) (before : Bool) → k < length table → n ≡ k → slice_get (set table k true) n ≡ Some (before || true)
own table k n before within is = subst (λ (m : ℕ). slice_get (set table k true) m ≡ Some (before || true)) (sym is)
    (slice_get-get_or (set table k true) k false (subst (λ (m : ℕ). k < m) (sym (length-set table k true)) within) ∙ ap Some (get_or-set_same table k true false within ∙ sym (or-true before)))

other : (table : List Bool) (k n : ℕ) (before : Bool) → n ≢ k → n < length table → slice_get table n ≡ Some before → slice_get (set table k true) n ≡ Some (before || false)
other table k n before differs within has =
    slice_get-get_or (set table k true) n false (subst (λ (m : ℕ). n < m) (sym (length-set table k true)) within)
    ∙ ap Some (get_or-set_other table k n true false differs ∙ get_or_from_slice_get table n before false has ∙ sym (or-false before))

by_number : (table : List Bool) (k n : ℕ) (before is : Bool) → (k == n) ≡ is → k < length table → n < length table → slice_get table n ≡ Some before → slice_get (set table k true) n ≡ Some (before || is)
by_number table k n before true is within also has = own table k n before within (sym (eqb-true k n is))
by_number table k n before false is within also has = other table k n before (λ e. eqb-false k n is (sym e)) also has

pub noted : (fields : List Field) (i : ℕ) (d : Field) (table : List Bool) → i < length fields → (get_or fields i d).id < length table → IsTable (take i fields) table → IsTable (take (i + 1) fields) (set table (get_or fields i d).id true)
noted fields i d table within low before = λ n some.
    let also : n < length table = subst (λ (m : ℕ). n < m) (length-set table (get_or fields i d).id true) some in
    by_number table (get_or fields i d).id n (is_among (take i fields) n) ((get_or fields i d).id == n) refl low also (before n also)
    ∙ ap Some (sym (list_any_more (λ (f : Field). f.id == n) fields i d within))

-- a field whose number has no place
pub passed : (fields : List Field) (i : ℕ) (d : Field) (table : List Bool) → i < length fields → ¬ ((get_or fields i d).id < length table) → IsTable (take i fields) table → IsTable (take (i + 1) fields) table
passed fields i d table within high before = λ n some.
    before n some ∙ ap Some (sym (list_any_more (λ (f : Field). f.id == n) fields i d within ∙ last n some ((get_or fields i d).id == n) refl))
  where
    last : (n : ℕ) → n < length table → (is : Bool) → ((get_or fields i d).id == n) ≡ is → (is_among (take i fields) n || is) ≡ is_among (take i fields) n
    last n some true is = absurd (high (subst (λ (m : ℕ). m < length table) (sym (eqb-true (get_or fields i d).id n is)) some))
    last n some false is = or-false (is_among (take i fields) n)

pub none_noted : (number : ℕ) → number < 64 → slice_get (replicate 64 false) number ≡ Some false
none_noted number some = slice_get-get_or (replicate 64 false) number false (subst (λ (m : ℕ). number < m) (sym (length-replicate 64 false)) some) ∙ ap Some (get_or-replicate 64 number false false some)
