-- Terms of a text of a query, appended one value after the other.
use Rattle.std.proofs.Common.{◌≡◌, ℕ, List, [], ◌∷◌, ◌++◌, Option, None, Some, IfSome, Result, Ok, Err, OnOk, OnErr, refl, sym, ap, subst, ◌∙◌, append_assoc, append-nil}
use Rattle.tv_date.specs.Rfc3339.{rfc}
use Rattle.tv_field.specs.JsonTable.{truth_in}
use Rattle.tv_format.specs.Tree.{Leaf, text}
use Rattle.tv_indexing.specs.DocumentTerms.{AreAppended, Terms, followed_by, json_leaf_terms}
use Rattle.tv_indexing.specs.JsonWalk.{ExtendsPath}
use Rattle.tv_indexing.specs.Visits.{TakesAll}
use Rattle.tv_indexing.specs.TextTerms.{WritesLeaves, WritesNumber, date_written_in, leaves_terms, listed}
use Rattle.tv_indexing.proofs.Visiting.{BeginsWith, all_appended as list_appended}
use Rattle.tv_indexing.proofs.Following.{extends_by, extends_on, nothing_before, regrouped}
use Rattle.std.specs.List.{AllByRecursion}
use Rattle.tv_indexing.specs.LeafTerms.{json_value}
use Rattle.tv_term.specs.Key.{Fits}
use Rattle.tv_value.specs.declared.field.Field.{Field}

pub appended : (old new : List (List ℕ)) (t : Terms) → AreAppended old new t → (made : List (List ℕ)) × (t ≡ Ok made) × (new ≡ old ++ made)
appended old new (Ok made) h = (made, refl, h)
appended old new (Err e) h = absurd h

leaves_then : (field : Field) (path : List ℕ) (ls ms : List Leaf) → leaves_terms field path (ls ++ ms) ≡ followed_by (leaves_terms field path ls) (leaves_terms field path ms)
leaves_then field path [] ms = sym (nothing_before (leaves_terms field path ms))
leaves_then field path (l ∷ ls) ms =
    ap (followed_by (json_leaf_terms field path l)) (leaves_then field path ls ms) ∙ sym (regrouped (json_leaf_terms field path l) (leaves_terms field path ls) (leaves_terms field path ms))

both_appended : (a b c : List (List ℕ)) (s t : Terms) → AreAppended a b s → AreAppended b c t → AreAppended a c (followed_by s t)
both_appended a b c (Ok s) (Ok t) h g = g ∙ ap (λ l. l ++ t) h ∙ append_assoc a s t
both_appended a b c (Err e) t h g = absurd h
both_appended a b c (Ok s) (Err e) h g = absurd g

-- the terms of some values, and then those of others
pub leaves_appended : (field : Field) (path : List ℕ) (ls ms : List Leaf) (a b c : List (List ℕ)) → AreAppended a b (leaves_terms field path ls) → AreAppended b c (leaves_terms field path ms) → AreAppended a c (leaves_terms field path (ls ++ ms))
leaves_appended field path ls ms a b c h g =
    subst (AreAppended a c) (sym (leaves_then field path ls ms)) (both_appended a b c (leaves_terms field path ls) (leaves_terms field path ms) h g)

-- ---- what a text writes in a JSON value

-- each of these fits
abbrev AllFit : List Leaf → Type 0
AllFit ls = AllByRecursion (λ l. IfSome (json_value l) Fits) ls

all_fit : (ls ms : List Leaf) → AllFit ls → AllFit ms → AllFit (ls ++ ms)
all_fit [] ms h g = g
all_fit (l ∷ ls) ms h g = (h.0, all_fit ls ms h.1 g)

listed_fits : (l : Option Leaf) → IfSome l (λ l. IfSome (json_value l) Fits) → AllFit (listed l)
listed_fits None h = tt
listed_fits (Some l) h = (h, tt)

pub leaves_fit : (s : List ℕ) (number truth date : Option Leaf) → IfSome number (λ l. IfSome (json_value l) Fits) → IfSome truth (λ l. IfSome (json_value l) Fits) → IfSome date (λ l. IfSome (json_value l) Fits) → AllFit (text s ∷ (listed number ++ (listed truth ++ listed date)))
leaves_fit s number truth date n t d = (tt, all_fit (listed number) (listed truth ++ listed date) (listed_fits number n) (all_fit (listed truth) (listed date) (listed_fits truth t) (listed_fits date d)))

pub all_written : {E : Type 0} (result : Result (Unit {0}) E) (field : Field) (path s : List ℕ) (number : Option Leaf) (a b c d e : List (List ℕ)) → WritesNumber s number → AllFit (text s ∷ (listed number ++ (listed (truth_in s) ++ listed (date_written_in (rfc s)))))
    → AreAppended a b (leaves_terms field path (text s ∷ [])) → AreAppended b c (leaves_terms field path (listed number)) → AreAppended c d (leaves_terms field path (listed (truth_in s))) → OnOk result (AreAppended d e (leaves_terms field path (listed (date_written_in (rfc s)))))
    → OnOk result ((ls : List Leaf) × WritesLeaves s ls × AllFit ls × AreAppended a e (leaves_terms field path ls))
all_written (Ok x) field path s number a b c d e writes fit itself numbers truths dates =
    let behind = listed (truth_in s) ++ listed (date_written_in (rfc s)) in (
      text s ∷ (listed number ++ behind),
      (number, writes, refl),
      fit,
      leaves_appended field path (text s ∷ []) (listed number ++ behind) a b e itself
          (leaves_appended field path (listed number) behind b c e numbers (leaves_appended field path (listed (truth_in s)) (listed (date_written_in (rfc s))) c d e truths dates)),
    )
all_written (Err error) field path s number a b c d e writes fit itself numbers truths dates = tt

pub all_kept : {E : Type 0} (result : Result (Unit {0}) E) (field : Field) (path s : List ℕ) (number : Option Leaf) (a b c d e : List (List ℕ)) → AreAppended a b (leaves_terms field path (text s ∷ [])) → AreAppended b c (leaves_terms field path (listed number))
    → AreAppended c d (leaves_terms field path (listed (truth_in s))) → OnErr result (e ≡ d) → OnErr result (ExtendsPath a e)
all_kept (Ok x) field path s number a b c d e itself numbers truths same = tt
all_kept (Err error) field path s number a b c d e itself numbers truths same =
    let first = extends_by a b (leaves_terms field path (text s ∷ [])) itself in
    let second = extends_by b c (leaves_terms field path (listed number)) numbers in
    let third = extends_by c d (leaves_terms field path (listed (truth_in s))) truths in
    subst (ExtendsPath a) (sym same) (extends_on a c d (extends_on a b c first second) third)

-- ---- at what a path names

pub ok_then : {E P Q : Type 0} (result : Result (Unit {0}) E) → (P → Q) → OnOk result P → OnOk result Q
ok_then (Ok x) f h = f h
ok_then (Err error) f h = tt

-- ---- what a list takes as a visitor

one_after_none : (t : Terms) → followed_by t (Ok []) ≡ t
one_after_none (Ok made) = ap Ok (append-nil made)
one_after_none (Err e) = refl

pub one_listed : (field : Field) (path : List ℕ) (l : Leaf) (old new : List (List ℕ)) → TakesAll BeginsWith old new (json_leaf_terms field path l) → AreAppended old new (leaves_terms field path (l ∷ []))
one_listed field path l old new h =
    subst (λ (t : Terms). AreAppended old new t) (sym (one_after_none (json_leaf_terms field path l))) (list_appended old new (json_leaf_terms field path l) h)

pub err_then : {E P Q : Type 0} (result : Result (Unit {0}) E) → (P → Q) → OnErr result P → OnErr result Q
err_then (Ok x) f h = tt
err_then (Err error) f h = f h
