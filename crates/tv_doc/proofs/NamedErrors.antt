-- Why values by name aren't converted back.
use Rattle.std.proofs.Common.{◌≡◌, ◌≢◌, ◌⊎◌, ℕ, ◌+◌, ◌≤◌, Bool, true, false, List, [], ◌∷◌, ◌++◌, Err, refl, sym, ap, subst, ◌∙◌, arith, inl, inr}
use Rattle.std.specs.Prelude.{nat_eq}
use Rattle.std.proofs.lemmas.Bool.Decides.{Decides-eqb}
use Rattle.std.proofs.lemmas.List.Sums.{sum_by-append}
use Rattle.tv_heap.specs.Room.{room, document_room}
use Rattle.tv_heap.proofs.ListRooms.{document_room-cons}
use Rattle.tv_format.specs.Tree.{Tree, Document}
use Rattle.tv_doc.specs.AdditionError.{addition_error}
use Rattle.tv_doc.specs.Additions.{IsEmpty}
use Rattle.tv_doc.specs.FieldValues.{values_of}
use Rattle.tv_doc.specs.NamedPairs.{StopsAtPair, MakesPairs, IsConversionError}
use Rattle.tv_builder.specs.declared.errors.AddError.{AddError}
use Rattle.tv_builder.specs.declared.errors.AddError.TheVariants.{HeapFull, Memory}
use Rattle.tv_doc.specs.declared.errors.DocParsingError.{DocParsingError}
use Rattle.tv_doc.specs.declared.document.CompactDoc.{CompactDoc}
use Rattle.tv_doc.proofs.Additions.{from_empty, within_room}
use Rattle.tv_doc.proofs.Pairs.{value_first, other_first}

-- a document without the first value of a field
record Without (f : ℕ) (t : Tree) (ts : List Tree) (d : Document) : Type 0 where
  rest : Document
  fills : document_room d ≡ room t + document_room rest
  own : values_of f rest ≡ ts
  others : (g : ℕ) → nat_eq f g ≡ false → values_of g rest ≡ values_of g d

same_behind : (g h : ℕ) (u : Tree) (d e : Document) → values_of h d ≡ values_of h e → values_of h ((g, u) ∷ d) ≡ values_of h ((g, u) ∷ e)
same_behind g h u d e same = by_test (nat_eq g h) refl
  where
    by_test : (b : Bool) → nat_eq g h ≡ b → values_of h ((g, u) ∷ d) ≡ values_of h ((g, u) ∷ e)
    by_test true test = value_first h g u _ d refl test ∙ ap (λ l. u ∷ l) same ∙ sym (value_first h g u _ e refl test)
    by_test false test = other_first h g u _ d refl test ∙ same ∙ sym (other_first h g u _ e refl test)

head_is : {A : Type 0} {x y : A} {xs ys : List A} → x ∷ xs ≡ y ∷ ys → x ≡ y
head_is e = cc

tail_is : {A : Type 0} {x y : A} {xs ys : List A} → x ∷ xs ≡ y ∷ ys → xs ≡ ys
tail_is e = cc

without : (f : ℕ) (t : Tree) (ts : List Tree) (d : Document) → values_of f d ≡ t ∷ ts → Without f t ts d
without f t ts [] e = absurd (cc)
without f t ts ((g, u) ∷ d) e = by_test (nat_eq g f) refl (without f t ts d)
  where
    by_test : (b : Bool) → nat_eq g f ≡ b → (values_of f d ≡ t ∷ ts → Without f t ts d) → Without f t ts ((g, u) ∷ d)
    by_test true test again =
        let both : u ∷ values_of f d ≡ t ∷ ts = sym (value_first f g u _ d refl test) ∙ e in
        let field : g ≡ f = (Decides-eqb g f).0 test in
        record {
          rest = d;
          fills = document_room-cons (g, u) d ∙ ap (λ x. room x + document_room d) (head_is both);
          own = tail_is both;
          others = λ h no. sym (other_first h g u _ d refl (ap (λ n. nat_eq n h) field ∙ no));
        }
    by_test false test again =
        let r = again (sym (other_first f g u _ d refl test) ∙ e) in
        record {
          rest = (g, u) ∷ r.rest;
          fills = omega (arith, document_room-cons (g, u) d, document_room-cons (g, u) r.rest, r.fills);
          own = other_first f g u _ r.rest refl test ∙ r.own;
          others = λ h no. same_behind g h u r.rest d (r.others h no);
        }

-- the one has of each field the other's values, or none
abbrev Parts : Document → Document → Type 0
Parts a d = (f : ℕ) → (values_of f a ≡ []) ⊎ (values_of f a ≡ values_of f d)

own_first : (f : ℕ) (t : Tree) (a : Document) → values_of f ((f, t) ∷ a) ≡ t ∷ values_of f a
own_first f t a = value_first f f t _ a refl ((Decides-eqb f f).1 refl)

not_none : {A : Type 0} {x : A} {xs : List A} → x ∷ xs ≢ []
not_none e = cc

parts_first : (f : ℕ) (t : Tree) (a d : Document) → Parts ((f, t) ∷ a) d → values_of f d ≡ t ∷ values_of f a
parts_first f t a d h = elim (h f) [ inl none ↦ absurd (not_none (sym (own_first f t a) ∙ none)) | inr same ↦ sym same ∙ own_first f t a ]

parts_rest : (f : ℕ) (t : Tree) (a d : Document) → Parts ((f, t) ∷ a) d → (w : Without f t (values_of f a) d) → Parts a w.rest
parts_rest f t a d h w g = by_test (nat_eq f g) refl
  where
    by_test : (b : Bool) → nat_eq f g ≡ b → (values_of g a ≡ []) ⊎ (values_of g a ≡ values_of g w.rest)
    by_test true test = let field : f ≡ g = (Decides-eqb f g).0 test in inr (subst (λ n. values_of n a ≡ values_of n w.rest) field (sym w.own))
    by_test false test =
        let first : values_of g ((f, t) ∷ a) ≡ values_of g a = other_first g f t _ a refl test in
        elim (h g) [ inl none ↦ inl (sym first ∙ none) | inr same ↦ inr (sym first ∙ same ∙ sym (w.others g test)) ]

room_within : (a d : Document) → Parts a d → document_room a ≤ document_room d
room_within [] d h = omega arith
room_within ((f, t) ∷ a) d h =
    let w = without f t (values_of f a) d (parts_first f t a d h) in
    omega (arith, document_room-cons (f, t) a, w.fills, room_within a w.rest (parts_rest f t a d h w))

middle_room : (p : ℕ × Tree) (before behind : Document) → document_room before + room p.1 ≤ document_room (before ++ p ∷ behind)
middle_room p before behind = omega (arith, sum_by-append (λ (pair : ℕ × Tree). room pair.1) before (p ∷ behind), document_room-cons p behind)

refusal_back : (pairs d : Document) (start : CompactDoc) (r : AddError) → Parts pairs d → IsEmpty start → StopsAtPair pairs start r → IsConversionError d (addition_error r)
refusal_back pairs d start HeapFull h none s =
    let mid = s.mid in
    let within = within_room mid in
    omega (arith, s.refused, within, ap document_room (from_empty s.before start mid none s.added), middle_room s.at s.before s.behind, ap document_room s.joined, room_within pairs d h)
refusal_back pairs d start Memory h none s = tt

pub convert_error : (pairs d : Document) (e : DocParsingError) → Parts pairs d → MakesPairs pairs (Err e) → IsConversionError d e
convert_error pairs d e h made = subst (IsConversionError d) (sym made.1) (refusal_back pairs d made.2.0 made.0 h made.2.1 made.2.2)
