-- A reading that agrees with a grammar: of bytes, what is read is encoded so, what is encoded so is read, and what is refused is malformed.
use Rattle.std.proofs.Common.{◌≡◌, ◌≢◌, ◌⊎◌, ℕ, Bool, true, false, cond, List, [], ◌∷◌, ◌++◌, Result, Ok, Err, refl, sym, ap, subst, ◌∙◌, append_assoc, inl, inr}
use Rattle.std.proofs.lemmas.List.{append_cancel_right, append-nil}
use Rattle.tv_base.specs.Source.{AllBytes}
use Rattle.tv_base.specs.Stop.{◌>>=◌, lifted}
use Rattle.tv_base.specs.Parts.{OneReading, Then}
use Rattle.tv_base.specs.ErrorInPart.{InThen}
use Rattle.tv_base.proofs.SmallBytes.{bytes_before, bytes_after}

-- Without the last of these bytes only their end is read.
abbrev pub IsEarly : {F Y : Type 0} → F → (List ℕ → Result (Y × List ℕ) (F × List ℕ)) → List ℕ → Type 0
IsEarly end reading prefix = (start : List ℕ) (byte : ℕ) → prefix ≡ start ++ byte ∷ [] → reading start ≡ Err (end, [])

-- An error that is read stands in the bytes before the rest, and no sooner.
pub record Shown {F Y : Type 0} (end : F) (reading : List ℕ → Result (Y × List ℕ) (F × List ℕ)) (bytes rest : List ℕ) (c : F) : Type 0 where
  pub prefix : List ℕ
  pub joined : bytes ≡ prefix ++ rest
  pub alone : reading prefix ≡ Err (c, [])
  pub all : c ≡ end → rest ≡ []
  pub early : c ≢ end → IsEarly end reading prefix

pub record Agrees {F Y : Type 0} (end : F) (reading : List ℕ → Result (Y × List ℕ) (F × List ℕ)) (Encodes : List ℕ → Y → Type 0) (HasError : List ℕ → F → Type 0) : Type 0 where
  pub sound : (bytes : List ℕ) (x : Y × List ℕ) → AllBytes bytes → reading bytes ≡ Ok x → (prefix : List ℕ) × Encodes prefix x.0 × (bytes ≡ prefix ++ x.1)
  pub complete : (prefix : List ℕ) (y : Y) (rest : List ℕ) → Encodes prefix y → reading (prefix ++ rest) ≡ Ok (y, rest)
  pub refused : (bytes : List ℕ) (c : F) (rest : List ℕ) → AllBytes bytes → reading bytes ≡ Err (c, rest) → HasError bytes c
  pub before : (prefix : List ℕ) (y : Y) → Encodes prefix y → IsEarly end reading prefix
  pub shown : (bytes : List ℕ) (c : F) (rest : List ℕ) → AllBytes bytes → reading bytes ≡ Err (c, rest) → Shown end reading bytes rest c

-- the first part encodes some x, and the second, given x, encodes y
abbrev pub InTurn : {X Y : Type 0} → (List ℕ → X → Type 0) → (X → List ℕ → Y → Type 0) → List ℕ → Y → Type 0
InTurn {X} First Second whole y = (x : X) × Then (λ b. First b x) (λ rest. Second x rest y) whole

abbrev okay : {F A : Type 0} → A → Result A F
okay x = Ok x

abbrev error : {F A : Type 0} → F → Result A F
error c = Err c

pub ok_is : (F : Type 0) {A : Type 0} (x y : A) → okay {F = F} x ≡ okay y → x ≡ y
ok_is F x y e = cc

pub err_is : {F : Type 0} (A : Type 0) (c d : F) → error {A = A} c ≡ error d → c ≡ d
err_is A c d e = cc

pub no_ok : {F A : Type 0} (c : F) (x : A) → error {A = A} c ≡ okay x → ⊥
no_ok c x e = absurd cc

-- ---- the last byte

-- bytes have a last one, or there are none
pub data Ends (bytes : List ℕ) : Type 0 where
  empty : bytes ≡ [] → Ends bytes
  ends_in : (start : List ℕ) (byte : ℕ) → bytes ≡ start ++ byte ∷ [] → Ends bytes

ends_more : (b : ℕ) (bytes : List ℕ) → Ends bytes → Ends (b ∷ bytes)
ends_more b bytes (empty e) = ends_in [] b (ap (λ (l : List ℕ). b ∷ l) e)
ends_more b bytes (ends_in start byte e) = ends_in (b ∷ start) byte (ap (λ (l : List ℕ). b ∷ l) e)

pub ends : (bytes : List ℕ) → Ends bytes
ends [] = empty refl
ends (b ∷ bytes) = ends_more b bytes (ends bytes)

pub no_last : (start : List ℕ) (byte : ℕ) → [] ≡ start ++ byte ∷ [] → ⊥
no_last [] byte e = cc
no_last (b ∷ start) byte e = cc

pub same_start : (a b : List ℕ) (x y : ℕ) → a ++ x ∷ [] ≡ b ++ y ∷ [] → a ≡ b
same_start [] [] x y e = refl
same_start (m ∷ a) (n ∷ b) x y e =
    let head : m ≡ n = cc in
    let rest : a ++ x ∷ [] ≡ b ++ y ∷ [] = cc in
    let tail = same_start a b x y rest in
    λ i. head i ∷ tail i
same_start [] (n ∷ b) x y e = let rest : [] ≡ b ++ y ∷ [] = cc in absurd (no_last b y rest)
same_start (m ∷ a) [] x y e = let rest : a ++ x ∷ [] ≡ [] = cc in absurd (no_last a x (sym rest))

-- ---- one after the other

sound_in_turn : {F X Y : Type 0} {end : F} {a : List ℕ → Result (X × List ℕ) (F × List ℕ)} {A : List ℕ → X → Type 0} {FA : List ℕ → F → Type 0} {b : X → List ℕ → Result (Y × List ℕ) (F × List ℕ)} {B : X → List ℕ → Y → Type 0} {FB : X → List ℕ → F → Type 0}
    → Agrees end a A FA → ((x : X) → Agrees end (b x) (B x) (FB x)) → (bytes : List ℕ) (y : Y × List ℕ) (r : Result (X × List ℕ) (F × List ℕ)) → AllBytes bytes → a bytes ≡ r → (r >>= λ x. b x.0 x.1) ≡ Ok y → (prefix : List ℕ) × InTurn A B prefix y.0 × (bytes ≡ prefix ++ y.1)
sound_in_turn first second bytes y (Ok x) small is e =
    let p = first.sound bytes x small is in
    let q = (second x.0).sound x.1 y (bytes_after bytes p.0 x.1 p.2 small) e in
    (p.0 ++ q.0, (x.0, record { prefix = p.0; rest = q.0; joined = refl; first = p.1; second = q.1 }), p.2 ∙ ap (λ (l : List ℕ). p.0 ++ l) q.2 ∙ sym (append_assoc p.0 q.0 y.1))
sound_in_turn first second bytes y (Err c) small is e = absurd cc

refused_in_turn : {F X Y : Type 0} {end : F} {a : List ℕ → Result (X × List ℕ) (F × List ℕ)} {A : List ℕ → X → Type 0} {FA : List ℕ → F → Type 0} {b : X → List ℕ → Result (Y × List ℕ) (F × List ℕ)} {B : X → List ℕ → Y → Type 0} {FB : X → List ℕ → F → Type 0}
    → Agrees end a A FA → ((x : X) → Agrees end (b x) (B x) (FB x)) → (bytes : List ℕ) (c : F) (rest : List ℕ) (r : Result (X × List ℕ) (F × List ℕ)) → AllBytes bytes → a bytes ≡ r → (r >>= λ x. b x.0 x.1) ≡ Err (c, rest) → InThen FA A FB bytes c
refused_in_turn first second bytes c rest (Ok x) small is e =
    let p = first.sound bytes x small is in
    inr (x.0, record { prefix = p.0; rest = x.1; joined = p.2; first = p.1; second = (second x.0).refused x.1 c rest (bytes_after bytes p.0 x.1 p.2 small) e })
refused_in_turn {Y = Y} {FA = FA} first second bytes c rest (Err d) small is e =
    let q = err_is (Y × List ℕ) d (c, rest) e in
    inl (subst (FA bytes) (ap (λ z. z.0) q) (first.refused bytes d.0 d.1 small is))

-- the first part reads the same before other bytes
reads_on : {F X Y : Type 0} {end : F} {a : List ℕ → Result (X × List ℕ) (F × List ℕ)} {A : List ℕ → X → Type 0} {FA : List ℕ → F → Type 0} (b : X → List ℕ → Result (Y × List ℕ) (F × List ℕ))
    → Agrees end a A FA → (p q : List ℕ) (x : X) → A p x → (a (p ++ q) >>= λ z. b z.0 z.1) ≡ b x q
reads_on b first p q x h = ap (λ r. r >>= λ z. b z.0 z.1) (first.complete p x q h)

ends_first : {F X Y : Type 0} (a : List ℕ → Result (X × List ℕ) (F × List ℕ)) (b : X → List ℕ → Result (Y × List ℕ) (F × List ℕ)) (start : List ℕ) (c : F) (rest : List ℕ) → a start ≡ Err (c, rest) → (a start >>= λ z. b z.0 z.1) ≡ Err (c, rest)
ends_first a b start c rest e = ap (λ r. r >>= λ z. b z.0 z.1) e

-- without its last byte the second part is at its end, or where it has none the first is
early_in_turn : {F X Y : Type 0} {end : F} {a : List ℕ → Result (X × List ℕ) (F × List ℕ)} {A : List ℕ → X → Type 0} {FA : List ℕ → F → Type 0} (b : X → List ℕ → Result (Y × List ℕ) (F × List ℕ))
    → Agrees end a A FA → (p q : List ℕ) (x : X) → A p x → IsEarly end (b x) q → (start : List ℕ) (byte : ℕ) → p ++ q ≡ start ++ byte ∷ [] → (a start >>= λ z. b z.0 z.1) ≡ Err (end, [])
early_in_turn {end = end} {a = a} b first p q x h early start byte e = elim (ends q) [
  | empty none ↦
      let whole : p ≡ start ++ byte ∷ [] = sym (append-nil p) ∙ ap (λ (l : List ℕ). p ++ l) (sym none) ∙ e in
      ends_first a b start end [] (first.before p x h start byte whole)
  | ends_in s y last ↦
      let cut : start ≡ p ++ s = same_start start (p ++ s) byte y (sym e ∙ ap (λ (l : List ℕ). p ++ l) last ∙ sym (append_assoc p s (y ∷ []))) in
      ap (λ (l : List ℕ). a l >>= λ z. b z.0 z.1) cut ∙ reads_on b first p s x h ∙ early s y last
]

shown_in_turn : {F X Y : Type 0} {end : F} {a : List ℕ → Result (X × List ℕ) (F × List ℕ)} {A : List ℕ → X → Type 0} {FA : List ℕ → F → Type 0} {b : X → List ℕ → Result (Y × List ℕ) (F × List ℕ)} {B : X → List ℕ → Y → Type 0} {FB : X → List ℕ → F → Type 0}
    → Agrees end a A FA → ((x : X) → Agrees end (b x) (B x) (FB x)) → (bytes : List ℕ) (c : F) (rest : List ℕ) (r : Result (X × List ℕ) (F × List ℕ)) → AllBytes bytes → a bytes ≡ r → (r >>= λ x. b x.0 x.1) ≡ Err (c, rest)
    → Shown end (λ bytes. a bytes >>= λ x. b x.0 x.1) bytes rest c
shown_in_turn {b = b} first second bytes c rest (Ok x) small is e =
    let p = first.sound bytes x small is in
    let s = (second x.0).shown x.1 c rest (bytes_after bytes p.0 x.1 p.2 small) e in
    record {
      prefix = p.0 ++ s.prefix;
      joined = p.2 ∙ ap (λ (l : List ℕ). p.0 ++ l) s.joined ∙ sym (append_assoc p.0 s.prefix rest);
      alone = reads_on b first p.0 s.prefix x.0 p.1 ∙ s.alone;
      all = s.all;
      early = λ other. early_in_turn b first p.0 s.prefix x.0 p.1 (s.early other);
    }
shown_in_turn {Y = Y} {end = end} {a = a} {b = b} first second bytes c rest (Err d) small is e =
    let q = err_is (Y × List ℕ) d (c, rest) e in
    let s = first.shown bytes c rest small (is ∙ ap (λ z. Err z) q) in
    record {
      prefix = s.prefix;
      joined = s.joined;
      alone = ends_first a b s.prefix c [] s.alone;
      all = s.all;
      early = λ other start byte last. ends_first a b start end [] (s.early other start byte last);
    }

pub in_turn : {F X Y : Type 0} {end : F} {a : List ℕ → Result (X × List ℕ) (F × List ℕ)} {A : List ℕ → X → Type 0} {FA : List ℕ → F → Type 0} {b : X → List ℕ → Result (Y × List ℕ) (F × List ℕ)} {B : X → List ℕ → Y → Type 0} {FB : X → List ℕ → F → Type 0}
    → Agrees end a A FA → ((x : X) → Agrees end (b x) (B x) (FB x)) → Agrees end (λ bytes. a bytes >>= λ x. b x.0 x.1) (InTurn A B) (InThen FA A FB)
in_turn {a = a} {b = b} first second = record {
  sound = λ bytes y small e. sound_in_turn first second bytes y (a bytes) small refl e;
  complete = λ prefix y rest h.
      let p = h.1 in
      ap (λ l. a l >>= λ x. b x.0 x.1) (ap (λ (l : List ℕ). l ++ rest) p.joined ∙ append_assoc p.prefix p.rest rest) ∙ ap (λ r. r >>= λ x. b x.0 x.1) (first.complete p.prefix h.0 (p.rest ++ rest) p.first) ∙ (second h.0).complete p.rest y rest p.second;
  refused = λ bytes c rest small e. refused_in_turn first second bytes c rest (a bytes) small refl e;
  before = λ prefix y h start byte e.
      let p = h.1 in
      early_in_turn b first p.prefix p.rest h.0 p.first ((second h.0).before p.rest y p.second) start byte (sym p.joined ∙ e);
  shown = λ bytes c rest small e. shown_in_turn first second bytes c rest (a bytes) small refl e;
}

-- ---- in other words

shown_too : {F Y : Type 0} {end : F} {a b : List ℕ → Result (Y × List ℕ) (F × List ℕ)} → ((bytes : List ℕ) → b bytes ≡ a bytes) → (bytes rest : List ℕ) (c : F) → Shown end a bytes rest c → Shown end b bytes rest c
shown_too same bytes rest c s = record { prefix = s.prefix; joined = s.joined; alone = same s.prefix ∙ s.alone; all = s.all; early = λ other start byte last. same start ∙ s.early other start byte last }

-- the same reading and the same grammar in other words
pub agrees_too : {F Y : Type 0} {end : F} {a b : List ℕ → Result (Y × List ℕ) (F × List ℕ)} {A B : List ℕ → Y → Type 0} {FA FB : List ℕ → F → Type 0}
    → ((bytes : List ℕ) → b bytes ≡ a bytes) → ((bytes : List ℕ) (y : Y) → AllBytes bytes → A bytes y → B bytes y) → ((bytes : List ℕ) (y : Y) → B bytes y → A bytes y) → ((bytes : List ℕ) (c : F) → AllBytes bytes → FA bytes c → FB bytes c)
    → Agrees end a A FA → Agrees end b B FB
agrees_too same to from failures h = record {
  sound = λ bytes y small e. let p = h.sound bytes y small (sym (same bytes) ∙ e) in (p.0, to p.0 y.0 (bytes_before bytes p.0 y.1 p.2 small) p.1, p.2);
  complete = λ prefix y rest encodes. same (prefix ++ rest) ∙ h.complete prefix y rest (from prefix y encodes);
  refused = λ bytes c rest small e. failures bytes c small (h.refused bytes c rest small (sym (same bytes) ∙ e));
  before = λ prefix y encodes start byte last. same start ∙ h.before prefix y (from prefix y encodes) start byte last;
  shown = λ bytes c rest small e. shown_too same bytes rest c (h.shown bytes c rest small (sym (same bytes) ∙ e));
}

-- ---- what is made of the value

abbrev pub make : {F X Y : Type 0} → (X → Y) → X × List ℕ → Result (Y × List ℕ) (F × List ℕ)
make f x = Ok (f x.0, x.1)

sound_map : {F X Y : Type 0} {end : F} (f : X → Y) {a : List ℕ → Result (X × List ℕ) (F × List ℕ)} {A : List ℕ → X → Type 0} {FA : List ℕ → F → Type 0}
    → Agrees end a A FA → (bytes : List ℕ) (y : Y × List ℕ) (r : Result (X × List ℕ) (F × List ℕ)) → AllBytes bytes → a bytes ≡ r → (r >>= make f) ≡ Ok y → (prefix : List ℕ) × ((x : X) × A prefix x × (y.0 ≡ f x)) × (bytes ≡ prefix ++ y.1)
sound_map {F = F} f h bytes y (Ok x) small is e =
    let p = h.sound bytes x small is in
    let q = ok_is (F × List ℕ) (f x.0, x.1) y e in
    (p.0, (x.0, p.1, sym (ap (λ z. z.0) q)), p.2 ∙ ap (λ (l : List ℕ). p.0 ++ l) (ap (λ z. z.1) q))
sound_map f h bytes y (Err c) small is e = absurd cc

made_error : {F X Y : Type 0} (f : X → Y) (r : Result (X × List ℕ) (F × List ℕ)) (c : F) (rest : List ℕ) → (r >>= make f) ≡ Err (c, rest) → r ≡ Err (c, rest)
made_error {Y = Y} f (Ok x) c rest e = absurd cc
made_error {Y = Y} f (Err d) c rest e = ap (λ z. Err z) (err_is (Y × List ℕ) d (c, rest) e)

made_shown : {F X Y : Type 0} {end : F} (f : X → Y) {a : List ℕ → Result (X × List ℕ) (F × List ℕ)} (bytes rest : List ℕ) (c : F) → Shown end a bytes rest c → Shown end (λ bytes. a bytes >>= make f) bytes rest c
made_shown f bytes rest c s = record { prefix = s.prefix; joined = s.joined; alone = ap (λ r. r >>= make f) s.alone; all = s.all; early = λ other start byte last. ap (λ r. r >>= make f) (s.early other start byte last) }

pub made : {F X Y : Type 0} {end : F} (f : X → Y) {a : List ℕ → Result (X × List ℕ) (F × List ℕ)} {A : List ℕ → X → Type 0} {FA : List ℕ → F → Type 0}
    → Agrees end a A FA → Agrees end (λ bytes. a bytes >>= make f) (λ bytes y. (x : X) × A bytes x × (y ≡ f x)) FA
made f {a = a} h = record {
  sound = λ bytes y small e. sound_map f h bytes y (a bytes) small refl e;
  complete = λ prefix y rest p. ap (λ r. r >>= make f) (h.complete prefix p.0 rest p.1) ∙ ap (λ z. Ok (z, rest)) (sym p.2);
  refused = λ bytes c rest small e. h.refused bytes c rest small (made_error f (a bytes) c rest e);
  before = λ prefix y p start byte last. ap (λ r. r >>= make f) (h.before prefix p.0 p.1 start byte last);
  shown = λ bytes c rest small e. made_shown f bytes rest c (h.shown bytes c rest small (made_error f (a bytes) c rest e));
}

-- a value that takes no byte
pub nothing_read : {F : Type 0} (end : F) {Y : Type 0} (y : Y) → Agrees end (λ bytes. Ok (y, bytes)) (λ bytes z. (bytes ≡ []) × (z ≡ y)) (λ bytes c. ⊥)
nothing_read {F} end y = record {
  sound = λ bytes x small e. let q = ok_is (F × List ℕ) (y, bytes) x e in ([], (refl, sym (ap (λ z. z.0) q)), ap (λ z. z.1) q);
  complete = λ prefix z rest p. ap (λ (l : List ℕ). Ok (y, l ++ rest)) p.0 ∙ ap (λ w. Ok (w, rest)) (sym p.1);
  refused = λ bytes c rest small e. absurd cc;
  before = λ prefix z p start byte last. absurd (no_last start byte (sym p.0 ∙ last));
  shown = λ bytes c rest small e. absurd cc;
}

-- a refusal that reads nothing
pub nothing_stands : {F Y : Type 0} {end : F} (d : F) → d ≢ end → Agrees {Y = Y} end (λ bytes. Err (d, bytes)) (λ bytes y. ⊥) (λ bytes c. c ≡ d)
nothing_stands {Y = Y} d other = record {
  sound = λ bytes x small e. absurd cc;
  complete = λ prefix y rest p. absurd p;
  refused = λ bytes c rest small e. sym (ap (λ z. z.0) (err_is (Y × List ℕ) (d, bytes) (c, rest) e));
  before = λ prefix y p. absurd p;
  shown = λ bytes c rest small e.
      let q = err_is (Y × List ℕ) (d, bytes) (c, rest) e in
      record {
        prefix = [];
        joined = ap (λ z. z.1) q;
        alone = ap (λ z. Err (z, [])) (ap (λ z. z.0) q);
        all = λ is. absurd (other (ap (λ z. z.0) q ∙ is));
        early = λ not start byte last. absurd (no_last start byte last);
      };
}

-- ---- choices

no : false ≡ true → ⊥
no e = absurd cc

-- one or the other, as a test says
pub chosen : {F Y : Type 0} {end : F} (test : Bool) {a b : List ℕ → Result (Y × List ℕ) (F × List ℕ)} {A B : List ℕ → Y → Type 0} {FA FB : List ℕ → F → Type 0}
    → Agrees end a A FA → Agrees end b B FB → Agrees end (λ bytes. cond test (a bytes) (b bytes)) (λ bytes y. ((test ≡ true) × A bytes y) ⊎ ((test ≡ false) × B bytes y)) (λ bytes c. ((test ≡ true) × FA bytes c) ⊎ ((test ≡ false) × FB bytes c))
chosen true one other = record {
  sound = λ bytes x small e. let p = one.sound bytes x small e in (p.0, inl (refl, p.1), p.2);
  complete = λ prefix y rest p. elim p [ inl q ↦ one.complete prefix y rest q.1 | inr q ↦ absurd (no (sym q.0)) ];
  refused = λ bytes c rest small e. inl (refl, one.refused bytes c rest small e);
  before = λ prefix y p start byte last. elim p [ inl q ↦ one.before prefix y q.1 start byte last | inr q ↦ absurd (no (sym q.0)) ];
  shown = one.shown;
}
chosen false one other = record {
  sound = λ bytes x small e. let p = other.sound bytes x small e in (p.0, inr (refl, p.1), p.2);
  complete = λ prefix y rest p. elim p [ inl q ↦ absurd (no q.0) | inr q ↦ other.complete prefix y rest q.1 ];
  refused = λ bytes c rest small e. inr (refl, other.refused bytes c rest small e);
  before = λ prefix y p start byte last. elim p [ inl q ↦ absurd (no q.0) | inr q ↦ other.before prefix y q.1 start byte last ];
  shown = other.shown;
}

-- ---- a reading of a lower layer, in the errors of the upper one

sound_raised : {F G Y : Type 0} {end : F} (to : F → G) {a : List ℕ → Result (Y × List ℕ) (F × List ℕ)} {A : List ℕ → Y → Type 0} {FA : List ℕ → F → Type 0}
    → Agrees end a A FA → (bytes : List ℕ) (x : Y × List ℕ) (r : Result (Y × List ℕ) (F × List ℕ)) → AllBytes bytes → a bytes ≡ r → lifted to r ≡ Ok x → (prefix : List ℕ) × A prefix x.0 × (bytes ≡ prefix ++ x.1)
sound_raised {F} {G} to h bytes x (Ok y) small is e = h.sound bytes x small (is ∙ ap (λ z. Ok z) (ok_is (G × List ℕ) y x e))
sound_raised to h bytes x (Err c) small is e = absurd cc

raised_error : {F G Y : Type 0} (to : F → G) (r : Result (Y × List ℕ) (F × List ℕ)) (g : G) (rest : List ℕ) → lifted to r ≡ Err (g, rest) → (c : F) × (r ≡ Err (c, rest)) × (g ≡ to c)
raised_error to (Ok y) g rest e = absurd cc
raised_error {Y = Y} to (Err d) g rest e =
    let q = err_is (Y × List ℕ) (to d.0, d.1) (g, rest) e in
    (d.0, ap (λ (l : List ℕ). Err (d.0, l)) (ap (λ z. z.1) q), sym (ap (λ z. z.0) q))

raised_shown : {F G Y : Type 0} {end : F} (to : F → G) → ((c : F) → to c ≡ to end → c ≡ end) → {a : List ℕ → Result (Y × List ℕ) (F × List ℕ)} (bytes rest : List ℕ) (c : F) (g : G) → g ≡ to c → Shown end a bytes rest c → Shown (to end) (λ bytes. lifted to (a bytes)) bytes rest g
raised_shown to apart bytes rest c g is s = record {
  prefix = s.prefix;
  joined = s.joined;
  alone = ap (lifted to) s.alone ∙ ap (λ z. Err (z, [])) (sym is);
  all = λ e. s.all (apart c (sym is ∙ e));
  early = λ other start byte last. ap (lifted to) (s.early (λ e. other (is ∙ ap to e)) start byte last);
}

pub raised : {F G Y : Type 0} {end : F} (to : F → G) → ((c : F) → to c ≡ to end → c ≡ end) → {a : List ℕ → Result (Y × List ℕ) (F × List ℕ)} {A : List ℕ → Y → Type 0} {FA : List ℕ → F → Type 0}
    → Agrees end a A FA → Agrees (to end) (λ bytes. lifted to (a bytes)) A (λ bytes g. (c : F) × FA bytes c × (g ≡ to c))
raised to apart {a = a} h = record {
  sound = λ bytes x small e. sound_raised to h bytes x (a bytes) small refl e;
  complete = λ prefix y rest p. ap (lifted to) (h.complete prefix y rest p);
  refused = λ bytes g rest small e. let q = raised_error to (a bytes) g rest e in (q.0, h.refused bytes q.0 rest small q.1, q.2);
  before = λ prefix y p start byte last. ap (lifted to) (h.before prefix y p start byte last);
  shown = λ bytes g rest small e. let q = raised_error to (a bytes) g rest e in raised_shown to apart bytes rest q.0 g q.2 (h.shown bytes q.0 rest small q.1);
}

-- ---- what follows of an agreement

-- no encoding begins another, and each encodes one value
pub one_encoding : {F Y : Type 0} {end : F} {reading : List ℕ → Result (Y × List ℕ) (F × List ℕ)} {Encodes : List ℕ → Y → Type 0} {HasError : List ℕ → F → Type 0}
    → Agrees end reading Encodes HasError → OneReading Encodes
one_encoding {F = F} {reading = reading} agrees a b x y m n first second same =
    let q = ok_is (F × List ℕ) (m, x) (n, y) (sym (agrees.complete a m x first) ∙ ap reading same ∙ agrees.complete b n y second) in
    let rest : x ≡ y = ap (λ z. z.1) q in
    (append_cancel_right a b y (ap (λ (l : List ℕ). a ++ l) (sym rest) ∙ same), ap (λ z. z.0) q)
