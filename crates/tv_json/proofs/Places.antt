-- Members that stand before others.
use Rattle.std.proofs.Common.{◌≡◌, ℕ, ◌+◌, ◌<◌, List, [], ◌∷◌, ◌++◌, length, take, drop, get_or, set, nat_cmp, Greater, Equal, Bor, cond, Option, Some, None, OnSome, Result, Ok, Err, is_ok, refl, sym, ap, ap₂, subst, ◌∙◌, arith}
use Rattle.std.proofs.lemmas.List.{at_drop_more, drop-set-lt, get_or-set_same, length-set, take-append-drop, take-set, take_more}
use Rattle.std.specs.Cmp.Lexicographic.{slice_cmp}
use Rattle.std.specs.FinMap.{nat_cmp-IsAntisymmetric, slice_cmp-IsAntisymmetric}
use Rattle.std.specs.Result.{result_ok}
use Rattle.serde_json.specs.Data.{Items, no_items, item, Members, member, put}
use Rattle.tv_json.specs.BorrowedData.{data_of, items_data, members_data}
use Rattle.tv_json.specs.declared.value.BorrowedJson.{BorrowedJson}

abbrev pub Entry : Type 0
Entry = Bor (List ℕ) × BorrowedJson

-- these members, and then the others
abbrev pub put_before : List Entry → Members → Members
put_before [] rest = rest
put_before (m ∷ ms) rest = member m.0.now (data_of m.1) (put_before ms rest)

pub put_before-append : (prefix back : List Entry) → members_data (prefix ++ back) ≡ put_before prefix (members_data back)
put_before-append [] back = refl
put_before-append (m ∷ prefix) back = ap (member m.0.now (data_of m.1)) (put_before-append prefix back)

put_before-last : (prefix : List Entry) (m : Entry) (rest : Members) → put_before (prefix ++ m ∷ []) rest ≡ put_before prefix (member m.0.now (data_of m.1) rest)
put_before-last [] m rest = refl
put_before-last (e ∷ prefix) m rest = ap (member e.0.now (data_of e.1)) (put_before-last prefix m rest)

split_at : (i : ℕ) (ms : List Entry) → members_data ms ≡ put_before (take i ms) (members_data (drop i ms))
split_at i ms = ap members_data (sym (take-append-drop i ms)) ∙ put_before-append (take i ms) (drop i ms)

module _ (ms : List Entry) (i : ℕ) (m : Entry) (within : i < length ms) (here : get_or ms i m ≡ m) where
  pub from_here : drop i ms ≡ m ∷ drop (i + 1) ms
  from_here = at_drop_more (λ l. l) ms i m within ∙ ap (λ e. e ∷ drop (i + 1) ms) here

  up_to_here : take (i + 1) ms ≡ take i ms ++ m ∷ []
  up_to_here = take_more ms i m within ∙ ap (λ e. take i ms ++ e ∷ []) here

  module _ (key : Bor (List ℕ)) (v : BorrowedJson) (passed : put key.now (data_of v) (members_data ms) ≡ put_before (take i ms) (put key.now (data_of v) (members_data (drop i ms)))) where
    abbrev later : Members
    later = members_data (drop (i + 1) ms)

    placed : put key.now (data_of v) (members_data ms) ≡ put_before (take i ms) (put key.now (data_of v) (member m.0.now (data_of m.1) later))
    placed = passed ∙ ap (λ l. put_before (take i ms) (put key.now (data_of v) (members_data l))) from_here

    pub put_above : slice_cmp nat_cmp key.now m.0.now ≡ Greater → put key.now (data_of v) (members_data ms) ≡ put_before (take (i + 1) ms) (put key.now (data_of v) later)
    put_above above =
        let behind : put key.now (data_of v) (member m.0.now (data_of m.1) later) ≡ member m.0.now (data_of m.1) (put key.now (data_of v) later) = rw above in
        placed ∙ ap (put_before (take i ms)) behind ∙ sym (put_before-last (take i ms) m (put key.now (data_of v) later)) ∙ ap (λ l. put_before l (put key.now (data_of v) later)) (sym up_to_here)

    pub put_at : slice_cmp nat_cmp key.now m.0.now ≡ Equal → members_data (set ms i (key, v)) ≡ put key.now (data_of v) (members_data ms)
    put_at same =
        let e : Entry = (key, v) in
        let l = set ms i e in
        let there : drop i l ≡ e ∷ drop (i + 1) ms =
        at_drop_more (λ x. x) l i e (omega (arith, length-set ms i e)) ∙ ap₂ (λ x y. x ∷ y) (get_or-set_same ms i e e within) (drop-set-lt (i + 1) ms i e (omega arith)) in
        let one_key : key.now ≡ m.0.now = slice_cmp-IsAntisymmetric nat_cmp-IsAntisymmetric key.now m.0.now same in
        let replaced : put key.now (data_of v) (member m.0.now (data_of m.1) later) ≡ member key.now (data_of v) later = rw same (ap (λ k. member k (data_of v) later) (sym one_key)) in
        split_at i l ∙ ap₂ (λ x y. put_before x (members_data y)) (take-set ms i e) there ∙ sym (placed ∙ ap (put_before (take i ms)) replaced)

-- what is said of the entries after an addition, where it was made
pub where_added : {T E : Type 0} (P : List Entry → Type 0) (r : Result T E) (o : Option T) (old added new : List Entry) → o ≡ result_ok r → new ≡ cond (is_ok r) added old → P added → OnSome o (P new)
where_added P r None old added new e is h = tt
where_added P (Ok x) (Some y) old added new e is h = subst P (sym is) h
where_added P (Err x) (Some y) old added new e is h = absurd (cc)

-- these items, and then the others
abbrev pub items_before : List BorrowedJson → Items → Items
items_before [] rest = rest
items_before (v ∷ vs) rest = item (data_of v) (items_before vs rest)

pub items_before-none : (vs : List BorrowedJson) → items_before vs no_items ≡ items_data vs
items_before-none [] = refl
items_before-none (v ∷ vs) = ap (item (data_of v)) (items_before-none vs)

pub items_before-last : (vs : List BorrowedJson) (v : BorrowedJson) (rest : Items) → items_before (vs ++ v ∷ []) rest ≡ items_before vs (item (data_of v) rest)
items_before-last [] v rest = refl
items_before-last (w ∷ vs) v rest = ap (item (data_of w)) (items_before-last vs v rest)
