-- A text that the JSON library reads is passed whole.
use Rattle.std.proofs.Common.{◌≡◌, ℕ, zero, suc, ◌+◌, ◌<◌, ◌≤◌, List, [], ◌∷◌, length, Bool, true, false, refl, sym, ap, ◌∙◌, subst, arith, Option, Some, None, Ok, option_and_then, nat_lt, if◌then◌else◌, Err}
use Rattle.std.proofs.lemmas.Bool.{true≢false, false≢true, lt-ltb}
use Rattle.json.specs.Token as token
use Rattle.json.specs.Token.{Token}
use Rattle.json.specs.Json as json
use Rattle.json.specs.Json.{Json, Parse, parse_map, after_end_array, read_key, items, items_step, item, members, members_step, member, value}
use Rattle.json.specs.Word.{is_operator, is_space, word}
use Rattle.json.specs.Lex as lex
use Rattle.json.specs.Lex.{Class, class, Lexeme, lex_byte, operator_lexeme, begins_colon, may_begin, may_close, punctuate}
use Rattle.json.proofs.Grammar.{left, left-parse_map, closed_array, read_key_is}
use Rattle.serde_json.specs.Data.{Data}
use Rattle.serde_json.specs.Read.{max_depth, of_json, read}
use Rattle.tv_json.specs.Faults.{next, IsSyntax}
use Rattle.tv_json.specs.Syntax.{first_place}
use Rattle.tv_json.specs.declared.json_fault.JsonFaultKind.TheVariants.{TooDeep}
use Rattle.tv_json.specs.declared.json_place.ListKind.{ListKind}
use Rattle.tv_json.specs.declared.json_place.ListKind.TheVariants.{Array, Object}
use Rattle.tv_json.specs.declared.json_place.Place.{Place}
use Rattle.tv_json.specs.declared.json_place.Place.TheVariants as place
use Rattle.tv_json.specs.declared.json_place.StringRole.TheVariants as role
use Rattle.tv_json.specs.declared.json_scan.Scan.{Scan}
use Rattle.tv_json.proofs.Accepted.{Accepts, ends, more, at, is_syntax, by_space, by_operator, class-space, Says, class-says}
use Rattle.tv_json.proofs.AcceptedTokens.{and_then_some, value_place, WordToken, is_number, is_boolean, is_null, word_passes}
use Rattle.tv_json.proofs.AcceptedStrings.{passes}
use Rattle.tv_json.proofs.AcceptedTurns.{Turn, fault, value_string, key_string, word_token, opens_object, opens_array, closes_object, closes_array, comma, colon, turn}

-- ---- spaces

abbrev pub is_between : Place → Bool
is_between place.Value = true
is_between place.ValueOrEnd = true
is_between place.Key = true
is_between place.KeyOrEnd = true
is_between place.Colon = true
is_between place.AfterValue = true
is_between (place.InString r) = false
is_between (place.InEscape r part) = false
is_between (place.InNumber part) = false
is_between (place.InWord w n) = false

abbrev pub Stays : Place → List ListKind → ℕ → Type 0
Stays q lists x = next (at q lists) x ≡ Ok (at q lists)

pub stays : (q : Place) → is_between q ≡ true → (lists : List ListKind) (x : ℕ) → is_space x ≡ true → Stays q lists x
stays place.Value h lists = by_space (Stays place.Value lists) refl refl refl refl
stays place.ValueOrEnd h lists = by_space (Stays place.ValueOrEnd lists) refl refl refl refl
stays place.Key h lists = by_space (Stays place.Key lists) refl refl refl refl
stays place.KeyOrEnd h lists = by_space (Stays place.KeyOrEnd lists) refl refl refl refl
stays place.Colon h lists = by_space (Stays place.Colon lists) refl refl refl refl
stays place.AfterValue h lists = by_space (Stays place.AfterValue lists) refl refl refl refl
stays (place.InString r) h lists = absurd (false≢true h)
stays (place.InEscape r part) h lists = absurd (false≢true h)
stays (place.InNumber part) h lists = absurd (false≢true h)
stays (place.InWord w n) h lists = absurd (false≢true h)

data Spaces (q : Place) (lists : List ListKind) (xs : List ℕ) : Type 0 where
  nothing : lex.lex lex.between xs ≡ [] → (Accepts (at q lists) [] → Accepts (at q lists) xs) → Spaces q lists xs
  solid : (x : ℕ) (ys : List ℕ) → is_space x ≡ false → lex.lex lex.between xs ≡ lex.lex lex.between (x ∷ ys) →
      (Accepts (at q lists) (x ∷ ys) → Accepts (at q lists) xs) → Spaces q lists xs

one_space : (q : Place) (lists : List ListKind) (x : ℕ) (xs : List ℕ) → is_between q ≡ true → is_space x ≡ true → Spaces q lists xs → Spaces q lists (x ∷ xs)
unfolding lex.lex
one_space q lists x xs h e (nothing f back) =
    nothing (ap (λ c. lex_byte lex.between c x xs (λ m. lex.lex m xs)) (class-space x e) ∙ f) (λ a. more x (stays q h lists x e) (back a))
one_space q lists x xs h e (solid y ys g f back) =
    solid y ys g (ap (λ c. lex_byte lex.between c x xs (λ m. lex.lex m xs)) (class-space x e) ∙ f) (λ a. more x (stays q h lists x e) (back a))

space_or_not : (q : Place) (lists : List ListKind) (x : ℕ) (xs : List ℕ) → is_between q ≡ true → Spaces q lists xs → (b : Bool) → is_space x ≡ b → Spaces q lists (x ∷ xs)
space_or_not q lists x xs h rest true e = one_space q lists x xs h e rest
space_or_not q lists x xs h rest false e = solid x xs e refl (λ a. a)

spaces : (q : Place) (lists : List ListKind) → is_between q ≡ true → (xs : List ℕ) → Spaces q lists xs
unfolding lex.lex
spaces q lists h [] = nothing refl (λ a. a)
spaces q lists h (x ∷ xs) = space_or_not q lists x xs h (spaces q lists h xs) (is_space x) refl

-- what comes after spaces
data Front (q : Place) (lists : List ListKind) (p : lex.Place) (xs : List ℕ) (ts : List Token) : Type 0 where
  at_end : ts ≡ punctuate p [] → (Accepts (at q lists) [] → Accepts (at q lists) xs) → Front q lists p xs ts
  begins : (x : ℕ) (ys : List ℕ) → Turn p x ys ts → (Accepts (at q lists) (x ∷ ys) → Accepts (at q lists) xs) → Front q lists p xs ts

front_of : (q : Place) (lists : List ListKind) (p : lex.Place) (xs : List ℕ) → Spaces q lists xs → Front q lists p xs (punctuate p (lex.lex lex.between xs))
front_of q lists p xs (nothing e back) = at_end (ap (punctuate p) e) back
front_of q lists p xs (solid x ys s e back) =
    begins x ys (subst (Turn p x ys) (sym (ap (punctuate p) e)) (turn p x ys s)) back

front : (q : Place) (lists : List ListKind) (p : lex.Place) → is_between q ≡ true → (xs : List ℕ) → Front q lists p xs (punctuate p (lex.lex lex.between xs))
front q lists p h xs = front_of q lists p xs (spaces q lists h xs)

-- what is left after a value
pub record Left (lists : List ListKind) (s : Scan) (xs : List ℕ) (r : List Token) : Type 0 where
  pub zs : List ℕ
  pub tokens : r ≡ punctuate lex.after_value (lex.lex lex.between zs)
  pub back : Accepts (at place.AfterValue lists) zs → Accepts s xs

accepts_at : {s : Scan} {x c : ℕ} {xs : List ℕ} → x ≡ c → Accepts s (c ∷ xs) → Accepts s (x ∷ xs)
accepts_at {s} {xs = xs} e h = subst (λ y. Accepts s (y ∷ xs)) (sym e) h

-- ---- brackets, commas and colons

abbrev closing : ListKind → Token
closing Array = token.end_array
closing Object = token.end_object

-- a list has just begun, or has a value
abbrev place_of : Bool → lex.Place
place_of false = lex.fresh
place_of true = lex.after_value

abbrev list_place : ListKind → Bool → Place
list_place kind false = first_place kind
list_place kind true = place.AfterValue

is_closing : Token → Bool
is_closing token.begin_object = false
is_closing token.end_object = true
is_closing token.begin_array = false
is_closing token.end_array = true
is_closing (token.key s) = false
is_closing (token.string s) = false
is_closing (token.number s) = false
is_closing (token.boolean b) = false
is_closing token.null = false
is_closing token.bad = false

abbrev begins_closing : List Token → Bool
begins_closing [] = false
begins_closing (t ∷ ts) = is_closing t

word-closing : (t : Token) → WordToken t → is_closing t ≡ false
unfolding is_closing
word-closing t (is_number s) = refl
word-closing t (is_boolean b) = refl
word-closing t is_null = refl

no_close_turn : (x : ℕ) (ys : List ℕ) (ts : List Token) → Turn lex.after_comma x ys ts → begins_closing ts ≡ false
unfolding is_closing
no_close_turn x ys ts (fault e) = ap begins_closing e
no_close_turn x ys ts (value_string s a b c e) = ap begins_closing e
no_close_turn x ys ts (key_string s a b c d e) = ap begins_closing e
no_close_turn x ys ts (word_token c g m e) = ap begins_closing e ∙ word-closing (word (x ∷ ys)) (word_passes [] true (x ∷ ys) g).is_word
no_close_turn x ys ts (opens_object a b e) = ap begins_closing e
no_close_turn x ys ts (opens_array a b e) = ap begins_closing e
no_close_turn x ys ts (closes_object a b e) = absurd (false≢true b)
no_close_turn x ys ts (closes_array a b e) = absurd (false≢true b)
no_close_turn x ys ts (comma a b e) = absurd (cc)
no_close_turn x ys ts (colon a b e) = absurd (cc)

no_close : (ys : List ℕ) → begins_closing (punctuate lex.after_comma (lex.lex lex.between ys)) ≡ false
unfolding is_closing punctuate
no_close ys = elim (front place.Value [] lex.after_comma refl ys) as (λ f. begins_closing (punctuate lex.after_comma (lex.lex lex.between ys)) ≡ false) [
  | at_end e back ↦ ap begins_closing e
  | begins x zs t back ↦ no_close_turn x zs (punctuate lex.after_comma (lex.lex lex.between ys)) t
]

closing-is : (kind : ListKind) → is_closing (closing kind) ≡ true
unfolding is_closing
closing-is Array = refl
closing-is Object = refl

-- the rest of two lists of tokens that begin alike
rest_same : {t u : Token} {a b : List Token} → t ∷ a ≡ u ∷ b → a ≡ b
rest_same e = cc

close_turn :
    (kind : ListKind) (begun : Bool) (lists : List ListKind) (xs : List ℕ) (x : ℕ) (ys : List ℕ) (ts r : List Token) → Turn (place_of begun) x ys ts →
    ts ≡ closing kind ∷ r → (Accepts (at (list_place kind begun) (kind ∷ lists)) (x ∷ ys) → Accepts (at (list_place kind begun) (kind ∷ lists)) xs) →
    Left lists (at (list_place kind begun) (kind ∷ lists)) xs r
unfolding is_closing
close_turn kind begun lists xs x ys ts r (fault e) f back = absurd (false≢true (ap begins_closing (sym e ∙ f) ∙ closing-is kind))
close_turn kind begun lists xs x ys ts r (value_string s a b c e) f back = absurd (false≢true (ap begins_closing (sym e ∙ f) ∙ closing-is kind))
close_turn kind begun lists xs x ys ts r (key_string s a b c d e) f back = absurd (false≢true (ap begins_closing (sym e ∙ f) ∙ closing-is kind))
close_turn kind begun lists xs x ys ts r (word_token c g m e) f back =
    absurd (false≢true (sym (word-closing (word (x ∷ ys)) (word_passes [] true (x ∷ ys) g).is_word) ∙ ap begins_closing (sym e ∙ f) ∙ closing-is kind))
close_turn kind begun lists xs x ys ts r (opens_object a b e) f back = absurd (false≢true (ap begins_closing (sym e ∙ f) ∙ closing-is kind))
close_turn kind begun lists xs x ys ts r (opens_array a b e) f back = absurd (false≢true (ap begins_closing (sym e ∙ f) ∙ closing-is kind))
close_turn Array begun lists xs x ys ts r (closes_object a b e) f back = absurd (let no : ◌≡◌ {A = List Token} (token.end_object ∷ _) (token.end_array ∷ r) = sym e ∙ f in cc)
close_turn Object begun lists xs x ys ts r (closes_array a b e) f back = absurd (let no : ◌≡◌ {A = List Token} (token.end_array ∷ _) (token.end_object ∷ r) = sym e ∙ f in cc)
close_turn Object begun lists xs x ys ts r (closes_object a b e) f back = record {
  zs = ys;
  tokens = rest_same (sym f ∙ e);
  back = λ h. back (accepts_at a (more 125 (ends_object begun) h));
}
  where
    ends_object : (b : Bool) → next (at (list_place Object b) (Object ∷ lists)) 125 ≡ Ok (at place.AfterValue lists)
    ends_object true = refl
    ends_object false = refl
close_turn Array begun lists xs x ys ts r (closes_array a b e) f back = record {
  zs = ys;
  tokens = rest_same (sym f ∙ e);
  back = λ h. back (accepts_at a (more 93 (ends_array begun) h));
}
  where
    ends_array : (b : Bool) → next (at (list_place Array b) (Array ∷ lists)) 93 ≡ Ok (at place.AfterValue lists)
    ends_array true = refl
    ends_array false = refl
close_turn kind begun lists xs x ys ts r (comma a b e) f back = absurd (false≢true (sym (no_close ys) ∙ ap begins_closing (sym e ∙ f) ∙ closing-is kind))
close_turn kind true lists xs x ys ts r (colon a b e) f back = absurd (cc)
close_turn kind false lists xs x ys ts r (colon a b e) f back = absurd (cc)

between_list : (kind : ListKind) (begun : Bool) → is_between (list_place kind begun) ≡ true
between_list kind true = refl
between_list Array false = refl
between_list Object false = refl

close :
    (kind : ListKind) (begun : Bool) (lists : List ListKind) (xs : List ℕ) (r : List Token) →
    punctuate (place_of begun) (lex.lex lex.between xs) ≡ closing kind ∷ r → Left lists (at (list_place kind begun) (kind ∷ lists)) xs r
unfolding punctuate
close kind begun lists xs r f =
    elim (front (list_place kind begun) (kind ∷ lists) (place_of begun) (between_list kind begun) xs) [
      | at_end e back ↦ absurd (end_is_none begun e)
      | begins x ys t back ↦ close_turn kind begun lists xs x ys (punctuate (place_of begun) (lex.lex lex.between xs)) r t f back
    ]
  where
    end_is_none : (b : Bool) → punctuate (place_of begun) (lex.lex lex.between xs) ≡ punctuate (place_of b) [] → ⊥
    end_is_none true e = let no : ◌≡◌ {A = List Token} [] (closing kind ∷ r) = sym e ∙ f in cc
    end_is_none false e = let no : ◌≡◌ {A = List Token} [] (closing kind ∷ r) = sym e ∙ f in cc

-- a token with which a value or a key begins
is_opening : Token → Bool
is_opening token.begin_object = true
is_opening token.end_object = false
is_opening token.begin_array = true
is_opening token.end_array = false
is_opening (token.key s) = true
is_opening (token.string s) = true
is_opening (token.number s) = true
is_opening (token.boolean b) = true
is_opening token.null = true
is_opening token.bad = false

abbrev begins_opening : List Token → Bool
begins_opening [] = false
begins_opening (t ∷ ts) = is_opening t

abbrev after_comma_place : ListKind → Place
after_comma_place Array = place.Value
after_comma_place Object = place.Key

record AfterComma (kind : ListKind) (lists : List ListKind) (xs : List ℕ) : Type 0 where
  ys : List ℕ
  tokens : punctuate lex.after_value (lex.lex lex.between xs) ≡ punctuate lex.after_comma (lex.lex lex.between ys)
  back : Accepts (at (after_comma_place kind) (kind ∷ lists)) ys → Accepts (at place.AfterValue (kind ∷ lists)) xs

comma_leads : (kind : ListKind) (lists : List ListKind) → next (at place.AfterValue (kind ∷ lists)) 44 ≡ Ok (at (after_comma_place kind) (kind ∷ lists))
comma_leads Array lists = refl
comma_leads Object lists = refl

comma_of : (kind : ListKind) (lists : List ListKind) (xs : List ℕ) → begins_opening (punctuate lex.after_value (lex.lex lex.between xs)) ≡ true → AfterComma kind lists xs
unfolding is_opening punctuate
comma_of kind lists xs h =
    elim (front place.AfterValue (kind ∷ lists) lex.after_value refl xs) [
      | at_end e back ↦ absurd (false≢true (sym (ap begins_opening e) ∙ h))
      | begins x ys (fault e) back ↦ absurd (false≢true (sym (ap begins_opening e) ∙ h))
      | begins x ys (value_string s a b m e) back ↦ absurd (false≢true m)
      | begins x ys (key_string s a b m d e) back ↦ absurd (false≢true m)
      | begins x ys (word_token c g m e) back ↦ absurd (false≢true m)
      | begins x ys (opens_object a m e) back ↦ absurd (false≢true m)
      | begins x ys (opens_array a m e) back ↦ absurd (false≢true m)
      | begins x ys (closes_object a m e) back ↦ absurd (false≢true (sym (ap begins_opening e) ∙ h))
      | begins x ys (closes_array a m e) back ↦ absurd (false≢true (sym (ap begins_opening e) ∙ h))
      | begins x ys (comma a b e) back ↦ record { ys = ys; tokens = e; back = λ k. back (accepts_at a (more 44 (comma_leads kind lists) k)) }
      | begins x ys (colon a b e) back ↦ absurd (let no : ◌≡◌ {A = lex.Place} lex.after_value lex.after_key = b in cc)
    ]

record AfterColon (lists : List ListKind) (s : Scan) (xs : List ℕ) (r : List Token) : Type 0 where
  ys : List ℕ
  tokens : r ≡ punctuate lex.fresh (lex.lex lex.between ys)
  back : Accepts (at place.Value lists) ys → Accepts s xs

colon_class : (x : ℕ) (ys : List ℕ) → is_space x ≡ false → begins_colon (lex.lex lex.between (x ∷ ys)) ≡ true → x ≡ 58
unfolding lex.lex
colon_class x ys no_space h = go (class x) (class-says x) h
  where
    by_byte : (y : ℕ) → is_operator y ≡ true → begins_colon (operator_lexeme y ∷ lex.lex lex.between ys) ≡ true → y ≡ 58
    by_byte =
        by_operator (λ y. begins_colon (operator_lexeme y ∷ lex.lex lex.between ys) ≡ true → y ≡ 58) (λ e. absurd (false≢true e)) (λ e. absurd (false≢true e))
        (λ e. absurd (false≢true e)) (λ e. absurd (false≢true e)) (λ e. refl) (λ e. absurd (false≢true e))

    go : (c : Class) → Says c x → begins_colon (lex_byte lex.between c x ys (λ m. lex.lex m ys)) ≡ true → x ≡ 58
    go lex.quote e f = absurd (false≢true f)
    go lex.backslash e f = absurd (false≢true f)
    go lex.operator e f = by_byte x e f
    go lex.space e f = absurd (true≢false (sym e ∙ no_space))
    go lex.other e f = absurd (false≢true f)

after_colon_lex : (ys : List ℕ) → punctuate lex.after_key (lex.lex lex.between (58 ∷ ys)) ≡ punctuate lex.fresh (lex.lex lex.between ys)
unfolding lex.lex punctuate
after_colon_lex ys = refl

colon_of :
    (lists : List ListKind) (xs : List ℕ) → begins_colon (lex.lex lex.between xs) ≡ true →
    AfterColon lists (at place.Colon lists) xs (punctuate lex.after_key (lex.lex lex.between xs))
colon_of lists xs h =
    elim (spaces place.Colon lists refl xs) [
      | nothing e back ↦ absurd (false≢true (sym (ap begins_colon e) ∙ h))
      | solid x ys s e back ↦
          (let same = colon_class x ys s (sym (ap begins_colon e) ∙ h) in record {
            ys = ys;
            tokens = ap (punctuate lex.after_key) e ∙ ap (λ y. punctuate lex.after_key (lex.lex lex.between (y ∷ ys))) same ∙ after_colon_lex ys;
            back = λ k. back (accepts_at same (more 58 refl k));
          })
    ]

-- the first key of an object, or any other
abbrev pub key_place : Bool → Place
key_place true = place.KeyOrEnd
key_place false = place.Key

abbrev key_begins_at : Bool → lex.Place
key_begins_at true = lex.fresh
key_begins_at false = lex.after_comma

pub quote_begins_key : (first : Bool) (lists : List ListKind) → next (at (key_place first) lists) 34 ≡ Ok (at (place.InString role.Key) lists)
quote_begins_key true lists = refl
quote_begins_key false lists = refl

key_turn :
    (first : Bool) (lists : List ListKind) (xs : List ℕ) (x : ℕ) (ys : List ℕ) (ts : List Token) (k : List ℕ) (r : List Token) → Turn (key_begins_at first) x ys ts →
    ts ≡ token.key k ∷ r → (Accepts (at (key_place first) lists) (x ∷ ys) → Accepts (at (key_place first) lists) xs) → AfterColon lists (at (key_place first) lists) xs r
key_turn first lists xs x ys ts k r (fault e) f back = absurd (let no : ◌≡◌ {A = List Token} (token.bad ∷ []) (token.key k ∷ r) = sym e ∙ f in cc)
key_turn first lists xs x ys ts k r (value_string s a b c e) f back = absurd (let no : ◌≡◌ {A = List Token} (token.string s ∷ _) (token.key k ∷ r) = sym e ∙ f in cc)
key_turn first lists xs x ys ts k r (key_string s a b m g e) f back =
    let string = passes role.Key lists ys s b in
    let after = colon_of lists string.0 (sym (ap begins_colon string.1) ∙ g) in record {
      ys = after.ys;
      tokens = rest_same (sym f ∙ e) ∙ ap (punctuate lex.after_key) string.1 ∙ after.tokens;
      back = λ h. back (accepts_at a (more 34 (quote_begins_key first lists) (string.2 (after.back h))));
    }
key_turn first lists xs x ys ts k r (word_token c g m e) f back =
    absurd (no_word (word (x ∷ ys)) (word_passes [] true (x ∷ ys) g).is_word (sym e ∙ f))
  where
    no_word : (w : Token) → WordToken w → {l : List Token} → ◌≡◌ {A = List Token} (w ∷ l) (token.key k ∷ r) → ⊥
    no_word w (is_number s) n = cc
    no_word w (is_boolean v) n = cc
    no_word w is_null n = cc
key_turn first lists xs x ys ts k r (opens_object a m e) f back = absurd (let no : ◌≡◌ {A = List Token} (token.begin_object ∷ _) (token.key k ∷ r) = sym e ∙ f in cc)
key_turn first lists xs x ys ts k r (opens_array a m e) f back = absurd (let no : ◌≡◌ {A = List Token} (token.begin_array ∷ _) (token.key k ∷ r) = sym e ∙ f in cc)
key_turn first lists xs x ys ts k r (closes_object a m e) f back = absurd (let no : ◌≡◌ {A = List Token} (token.end_object ∷ _) (token.key k ∷ r) = sym e ∙ f in cc)
key_turn first lists xs x ys ts k r (closes_array a m e) f back = absurd (let no : ◌≡◌ {A = List Token} (token.end_array ∷ _) (token.key k ∷ r) = sym e ∙ f in cc)
key_turn true lists xs x ys ts k r (comma a b e) f back = absurd (let no : ◌≡◌ {A = lex.Place} lex.fresh lex.after_value = b in cc)
key_turn false lists xs x ys ts k r (comma a b e) f back = absurd (let no : ◌≡◌ {A = lex.Place} lex.after_comma lex.after_value = b in cc)
key_turn true lists xs x ys ts k r (colon a b e) f back = absurd (let no : ◌≡◌ {A = lex.Place} lex.fresh lex.after_key = b in cc)
key_turn false lists xs x ys ts k r (colon a b e) f back = absurd (let no : ◌≡◌ {A = lex.Place} lex.after_comma lex.after_key = b in cc)

between_keys : (first : Bool) → is_between (key_place first) ≡ true
between_keys true = refl
between_keys false = refl

no_key_at_end : (first : Bool) (k : List ℕ) (r : List Token) → punctuate (key_begins_at first) [] ≡ token.key k ∷ r → ⊥
unfolding punctuate
no_key_at_end true k r e = let no : ◌≡◌ {A = List Token} [] (token.key k ∷ r) = e in cc
no_key_at_end false k r e = let no : ◌≡◌ {A = List Token} (token.bad ∷ []) (token.key k ∷ r) = e in cc

key_of :
    (first : Bool) (lists : List ListKind) (xs : List ℕ) (k : List ℕ) (r : List Token) →
    punctuate (key_begins_at first) (lex.lex lex.between xs) ≡ token.key k ∷ r → AfterColon lists (at (key_place first) lists) xs r
key_of first lists xs k r f =
    elim (front (key_place first) lists (key_begins_at first) (between_keys first) xs) [
      | at_end e back ↦ absurd (no_key_at_end first k r (sym e ∙ f))
      | begins x ys t back ↦ key_turn first lists xs x ys (punctuate (key_begins_at first) (lex.lex lex.between xs)) k r t f back
    ]

-- ---- values

-- a value of this depth is passed wherever one comes
abbrev Values : ℕ → Type 0
Values depth =
    (lists : List ListKind) (first : Bool) (p : lex.Place) → may_begin p ≡ true → length lists + depth ≤ 127 → (xs : List ℕ) (r : List Token) →
    left (value depth (punctuate p (lex.lex lex.between xs))) ≡ Some r → Left lists (at (value_place first) lists) xs r

-- a list that has begun is passed, if it is a value of this depth
abbrev Lists : ℕ → ListKind → Token → Type 0
Lists depth kind opening =
    (lists : List ListKind) → length lists + depth ≤ 127 → (ys : List ℕ) (r : List Token) →
    left (value depth (opening ∷ punctuate lex.fresh (lex.lex lex.between ys))) ≡ Some r →
    (length lists < 127) × Left lists (at (first_place kind) (kind ∷ lists)) ys r

no_tokens : {P : Type 0} {r : List Token} → ◌≡◌ {A = Option (List Token)} None (Some r) → P
no_tokens e = absurd (cc)

same_tokens : {a b : List Token} → ◌≡◌ {A = Option (List Token)} (Some a) (Some b) → a ≡ b
same_tokens e = cc

-- a token that is no value
abbrev is_none : Token → Bool
is_none token.begin_object = false
is_none token.end_object = true
is_none token.begin_array = false
is_none token.end_array = true
is_none (token.key s) = true
is_none (token.string s) = false
is_none (token.number s) = false
is_none (token.boolean b) = false
is_none token.null = false
is_none token.bad = true

none_read : (depth : ℕ) (t : Token) (ts : List Token) → is_none t ≡ true → left (value depth (t ∷ ts)) ≡ None
unfolding value
none_read depth token.begin_object ts h = absurd (false≢true h)
none_read depth token.begin_array ts h = absurd (false≢true h)
none_read depth (token.string s) ts h = absurd (false≢true h)
none_read depth (token.number s) ts h = absurd (false≢true h)
none_read depth (token.boolean b) ts h = absurd (false≢true h)
none_read depth token.null ts h = absurd (false≢true h)
none_read zero token.end_object ts h = refl
none_read (suc d) token.end_object ts h = refl
none_read zero token.end_array ts h = refl
none_read (suc d) token.end_array ts h = refl
none_read zero (token.key s) ts h = refl
none_read (suc d) (token.key s) ts h = refl
none_read zero token.bad ts h = refl
none_read (suc d) token.bad ts h = refl

nothing_read : (depth : ℕ) → left (value depth []) ≡ None
unfolding value
nothing_read zero = refl
nothing_read (suc d) = refl

string_read : (depth : ℕ) (s : List ℕ) (ts : List Token) → left (value depth (token.string s ∷ ts)) ≡ Some ts
unfolding value
string_read zero s ts = refl
string_read (suc d) s ts = refl

word_read : (depth : ℕ) (t : Token) (ts : List Token) → WordToken t → left (value depth (t ∷ ts)) ≡ Some ts
unfolding value
word_read zero t ts (is_number s) = refl
word_read zero t ts (is_boolean b) = refl
word_read zero t ts is_null = refl
word_read (suc d) t ts (is_number s) = refl
word_read (suc d) t ts (is_boolean b) = refl
word_read (suc d) t ts is_null = refl

pub quote_begins : (first : Bool) (lists : List ListKind) → next (at (value_place first) lists) 34 ≡ Ok (at (place.InString role.Value) lists)
quote_begins true lists = refl
quote_begins false lists = refl

pub begin_leads :
    (kind : ListKind) (q : Place) (lists : List ListKind) → length lists < 127 →
    (if nat_lt (length lists) max_depth then Ok (at (first_place kind) (kind ∷ lists)) else Err TooDeep) ≡ Ok (at (first_place kind) (kind ∷ lists))
begin_leads kind q lists h = ap (λ b. if b then Ok (at (first_place kind) (kind ∷ lists)) else Err TooDeep) (lt-ltb (length lists) 127 h)

pub brace_begins : (first : Bool) (lists : List ListKind) → length lists < 127 → next (at (value_place first) lists) 123 ≡ Ok (at place.KeyOrEnd (Object ∷ lists))
brace_begins true lists h = begin_leads Object place.ValueOrEnd lists h
brace_begins false lists h = begin_leads Object place.Value lists h

pub bracket_begins : (first : Bool) (lists : List ListKind) → length lists < 127 → next (at (value_place first) lists) 91 ≡ Ok (at place.ValueOrEnd (Array ∷ lists))
bracket_begins true lists h = begin_leads Array place.ValueOrEnd lists h
bracket_begins false lists h = begin_leads Array place.Value lists h

in_word_byte : (x : ℕ) (ys : List ℕ) → class x ≡ lex.other → lex.lex lex.in_word (x ∷ ys) ≡ lex.lex lex.in_word ys
unfolding lex.lex
in_word_byte x ys c = ap (λ k. lex_byte lex.in_word k x ys (λ m. lex.lex m ys)) c

module _ (depth : ℕ) (arrays : Lists depth Array token.begin_array) (objects : Lists depth Object token.begin_object) where
  value_turn :
      (lists : List ListKind) (first : Bool) (p : lex.Place) → may_begin p ≡ true → length lists + depth ≤ 127 → (xs : List ℕ) (x : ℕ) (ys : List ℕ)
      (ts r : List Token) → Turn p x ys ts → left (value depth ts) ≡ Some r →
      (Accepts (at (value_place first) lists) (x ∷ ys) → Accepts (at (value_place first) lists) xs) → Left lists (at (value_place first) lists) xs r
  value_turn lists first p m le xs x ys ts r (fault e) f back = no_tokens (sym (ap (λ l. left (value depth l)) e ∙ none_read depth token.bad [] refl) ∙ f)
  value_turn lists first p m le xs x ys ts r (key_string s a b c d e) f back =
      no_tokens (sym (ap (λ l. left (value depth l)) e ∙ none_read depth (token.key s) _ refl) ∙ f)
  value_turn lists first p m le xs x ys ts r (closes_object a b e) f back =
      no_tokens (sym (ap (λ l. left (value depth l)) e ∙ none_read depth token.end_object _ refl) ∙ f)
  value_turn lists first p m le xs x ys ts r (closes_array a b e) f back =
      no_tokens (sym (ap (λ l. left (value depth l)) e ∙ none_read depth token.end_array _ refl) ∙ f)
  value_turn lists first p m le xs x ys ts r (comma a b e) f back = absurd (false≢true (sym (ap may_begin b) ∙ m))
  value_turn lists first p m le xs x ys ts r (colon a b e) f back = absurd (false≢true (sym (ap may_begin b) ∙ m))
  value_turn lists first p m le xs x ys ts r (value_string s a b c e) f back =
      let string = passes role.Value lists ys s b in record {
        zs = string.0;
        tokens = same_tokens (sym f ∙ ap (λ l. left (value depth l)) e ∙ string_read depth s _) ∙ ap (punctuate lex.after_value) string.1;
        back = λ h. back (accepts_at a (more 34 (quote_begins first lists) (string.2 h)));
      }
  value_turn lists first p m le xs x ys ts r (word_token c g n e) f back =
      let w = word_passes lists first (x ∷ ys) g in record {
        zs = w.rest;
        tokens = same_tokens (sym f ∙ ap (λ l. left (value depth l)) e ∙ word_read depth (word (x ∷ ys)) _ w.is_word)
            ∙ ap (punctuate lex.after_value) (sym (in_word_byte x ys c) ∙ w.passed.1);
        back = λ h. back (w.passed.0 h);
      }
  value_turn lists first p m le xs x ys ts r (opens_object a n e) f back =
      let inner = objects lists le ys r (sym (ap (λ l. left (value depth l)) e) ∙ f) in record {
        zs = inner.1.zs;
        tokens = inner.1.tokens;
        back = λ h. back (accepts_at a (more 123 (brace_begins first lists inner.0) (inner.1.back h)));
      }
  value_turn lists first p m le xs x ys ts r (opens_array a n e) f back =
      let inner = arrays lists le ys r (sym (ap (λ l. left (value depth l)) e) ∙ f) in record {
        zs = inner.1.zs;
        tokens = inner.1.tokens;
        back = λ h. back (accepts_at a (more 91 (bracket_begins first lists inner.0) (inner.1.back h)));
      }

  between_values : (first : Bool) → is_between (value_place first) ≡ true
  between_values true = refl
  between_values false = refl

  none_at_end : (p : lex.Place) → may_begin p ≡ true → left (value depth (punctuate p [])) ≡ None
  unfolding punctuate
  none_at_end lex.fresh m = nothing_read depth
  none_at_end lex.after_value m = absurd (false≢true m)
  none_at_end lex.after_comma m = none_read depth token.bad [] refl
  none_at_end lex.after_key m = absurd (false≢true m)

  values : Values depth
  values lists first p m le xs r f =
      elim (front (value_place first) lists p (between_values first) xs) [
        | at_end e back ↦ no_tokens (sym (ap (λ l. left (value depth l)) e ∙ none_at_end p m) ∙ f)
        | begins x ys t back ↦ value_turn lists first p m le xs x ys (punctuate p (lex.lex lex.between xs)) r t f back
      ]

-- ---- arrays and objects

data ItemTurn (p : Parse Json) (n : ℕ) (ts r : List Token) : Type 0 where
  array_ends : ts ≡ token.end_array ∷ r → ItemTurn p n ts r
  item_comes : (s : List Token) → left (p ts) ≡ Some s → left (items p n s) ≡ Some r → ItemTurn p n ts r

then_items :
    (p : Parse Json) (n : ℕ) (ts r : List Token) (o : Option (Json × List Token)) → p ts ≡ o →
    left (option_and_then (λ q. parse_map (item q.0) (items p n q.1)) o) ≡ Some r → ItemTurn p n ts r
then_items p n ts r None e f = no_tokens f
then_items p n ts r (Some q) e f = item_comes q.1 (ap left e) (sym (left-parse_map (item q.0) (items p n q.1)) ∙ f)

step_items :
    (p : Parse Json) (n : ℕ) (ts r : List Token) (o : Option (List Token)) → after_end_array ts ≡ o → left (items_step p (items p n) ts o) ≡ Some r → ItemTurn p n ts r
step_items p n ts r (Some s) e f = array_ends (closed_array ts r (e ∙ f))
step_items p n ts r None e f = then_items p n ts r (p ts) refl f

item_turn : (p : Parse Json) (n : ℕ) (ts r : List Token) → left (items p (suc n) ts) ≡ Some r → ItemTurn p n ts r
unfolding items
item_turn p n ts r f = step_items p n ts r (after_end_array ts) refl f

data MemberTurn (p : Parse Json) (n : ℕ) (ts r : List Token) : Type 0 where
  object_ends : ts ≡ token.end_object ∷ r → MemberTurn p n ts r
  member_comes : (k : List ℕ) (rest s : List Token) → ts ≡ token.key k ∷ rest → left (p rest) ≡ Some s → left (members p n s) ≡ Some r → MemberTurn p n ts r

then_members :
    (p : Parse Json) (n : ℕ) (ts r : List Token) (k : List ℕ) (rest : List Token) → ts ≡ token.key k ∷ rest → (o : Option (Json × List Token)) → p rest ≡ o →
    left (option_and_then (λ q. parse_map (member k q.0) (members p n q.1)) o) ≡ Some r → MemberTurn p n ts r
then_members p n ts r k rest h None e f = no_tokens f
then_members p n ts r k rest h (Some q) e f = member_comes k rest q.1 h (ap left e) (sym (left-parse_map (member k q.0) (members p n q.1)) ∙ f)

step_members :
    (p : Parse Json) (n : ℕ) (ts r : List Token) (o : Option (Option (List ℕ) × List Token)) → read_key ts ≡ o →
    left (option_and_then (λ q. members_step p (members p n) q.0 q.1) o) ≡ Some r → MemberTurn p n ts r
step_members p n ts r None e f = no_tokens f
step_members p n ts r (Some (None, s)) e f = object_ends (read_key_is ts None s e ∙ ap (λ l. token.end_object ∷ l) (same_tokens f))
step_members p n ts r (Some (Some k, s)) e f = then_members p n ts r k s (read_key_is ts (Some k) s e) (p s) refl f

member_turn : (p : Parse Json) (n : ℕ) (ts r : List Token) → left (members p (suc n) ts) ≡ Some r → MemberTurn p n ts r
unfolding members
member_turn p n ts r f = step_members p n ts r (read_key ts) refl f

-- what is read begins with a token that opens
opens_value : (depth : ℕ) (ts r : List Token) → left (value depth ts) ≡ Some r → begins_opening ts ≡ true
unfolding is_opening
opens_value depth [] r e = no_tokens (sym (nothing_read depth) ∙ e)
opens_value depth (token.begin_object ∷ ts) r e = refl
opens_value depth (token.end_object ∷ ts) r e = no_tokens (sym (none_read depth token.end_object ts refl) ∙ e)
opens_value depth (token.begin_array ∷ ts) r e = refl
opens_value depth (token.end_array ∷ ts) r e = no_tokens (sym (none_read depth token.end_array ts refl) ∙ e)
opens_value depth (token.key s ∷ ts) r e = refl
opens_value depth (token.string s ∷ ts) r e = refl
opens_value depth (token.number s ∷ ts) r e = refl
opens_value depth (token.boolean b ∷ ts) r e = refl
opens_value depth (token.null ∷ ts) r e = refl
opens_value depth (token.bad ∷ ts) r e = no_tokens (sym (none_read depth token.bad ts refl) ∙ e)

key_opens : (k : List ℕ) (ts : List Token) → begins_opening (token.key k ∷ ts) ≡ true
unfolding is_opening
key_opens k ts = refl

module _ (d : ℕ) (inner : Values d) where
  read_left : (zs : List ℕ) (s r : List Token) (f : List Token → Option (List Token)) → s ≡ punctuate lex.after_value (lex.lex lex.between zs) → f s ≡ Some r →
      f (punctuate lex.after_value (lex.lex lex.between zs)) ≡ Some r
  read_left zs s r f e g = sym (ap f e) ∙ g

  Items : ℕ → Type 0
  Items n =
      (lists : List ListKind) (begun : Bool) → length (Array ∷ lists) + d ≤ 127 → (xs : List ℕ) (r : List Token) →
      left (items (value d) n (punctuate (place_of begun) (lex.lex lex.between xs))) ≡ Some r → Left lists (at (list_place Array begun) (Array ∷ lists)) xs r

  item_after :
      (n : ℕ) → Items n → (lists : List ListKind) (begun : Bool) → length (Array ∷ lists) + d ≤ 127 → (xs : List ℕ) (r : List Token) →
      ItemTurn (value d) n (punctuate (place_of begun) (lex.lex lex.between xs)) r → Left lists (at (list_place Array begun) (Array ∷ lists)) xs r
  unfolding Items
  item_after n again lists begun le xs r (array_ends e) = close Array begun lists xs r e
  item_after n again lists false le xs r (item_comes s e f) =
      let v = inner (Array ∷ lists) true lex.fresh refl le xs s e in
      let rest = again lists true le v.zs r (read_left v.zs s r (λ l. left (items (value d) n l)) v.tokens f) in record {
        zs = rest.zs;
        tokens = rest.tokens;
        back = λ h. v.back (rest.back h);
      }
  item_after n again lists true le xs r (item_comes s e f) =
      let c = comma_of Array lists xs (opens_value d _ s e) in
      let v = inner (Array ∷ lists) false lex.after_comma refl le c.ys s (sym (ap (λ l. left (value d l)) c.tokens) ∙ e) in
      let rest = again lists true le v.zs r (read_left v.zs s r (λ l. left (items (value d) n l)) v.tokens f) in record {
        zs = rest.zs;
        tokens = rest.tokens;
        back = λ h. c.back (v.back (rest.back h));
      }

  all_items : (n : ℕ) → Items n
  unfolding Items items
  all_items zero lists begun le xs r f = no_tokens f
  all_items (suc n) lists begun le xs r f =
      item_after n (all_items n) lists begun le xs r (item_turn (value d) n (punctuate (place_of begun) (lex.lex lex.between xs)) r f)

  Entries : ℕ → Type 0
  Entries n =
      (lists : List ListKind) (begun : Bool) → length (Object ∷ lists) + d ≤ 127 → (xs : List ℕ) (r : List Token) →
      left (members (value d) n (punctuate (place_of begun) (lex.lex lex.between xs))) ≡ Some r → Left lists (at (list_place Object begun) (Object ∷ lists)) xs r

  -- a member, from its key on
  from_key :
      (n : ℕ) → Entries n → (lists : List ListKind) (first : Bool) → length (Object ∷ lists) + d ≤ 127 → (xs k : List ℕ) (rest s r : List Token) →
      punctuate (key_begins_at first) (lex.lex lex.between xs) ≡ token.key k ∷ rest → left (value d rest) ≡ Some s → left (members (value d) n s) ≡ Some r →
      Left lists (at (key_place first) (Object ∷ lists)) xs r
  unfolding Entries
  from_key n again lists first le xs k rest s r h e f =
      let key = key_of first (Object ∷ lists) xs k rest h in
      let v = inner (Object ∷ lists) false lex.fresh refl le key.ys s (sym (ap (λ l. left (value d l)) key.tokens) ∙ e) in
      let others = again lists true le v.zs r (read_left v.zs s r (λ l. left (members (value d) n l)) v.tokens f) in record {
        zs = others.zs;
        tokens = others.tokens;
        back = λ a. key.back (v.back (others.back a));
      }

  member_after :
      (n : ℕ) → Entries n → (lists : List ListKind) (begun : Bool) → length (Object ∷ lists) + d ≤ 127 → (xs : List ℕ) (r : List Token) →
      MemberTurn (value d) n (punctuate (place_of begun) (lex.lex lex.between xs)) r → Left lists (at (list_place Object begun) (Object ∷ lists)) xs r
  member_after n again lists begun le xs r (object_ends e) = close Object begun lists xs r e
  member_after n again lists false le xs r (member_comes k rest s h e f) = from_key n again lists true le xs k rest s r h e f
  member_after n again lists true le xs r (member_comes k rest s h e f) =
      let c = comma_of Object lists xs (ap begins_opening h ∙ key_opens k rest) in
      let others = from_key n again lists false le c.ys k rest s r (sym c.tokens ∙ h) e f in record {
        zs = others.zs;
        tokens = others.tokens;
        back = λ a. c.back (others.back a);
      }

  all_members : (n : ℕ) → Entries n
  unfolding Entries members
  all_members zero lists begun le xs r f = no_tokens f
  all_members (suc n) lists begun le xs r f =
      member_after n (all_members n) lists begun le xs r (member_turn (value d) n (punctuate (place_of begun) (lex.lex lex.between xs)) r f)

  arrays_of : Lists (suc d) Array token.begin_array
  unfolding Items value
  arrays_of lists le ys r f =
      let ts = punctuate lex.fresh (lex.lex lex.between ys) in
      let room : length (Array ∷ lists) + d ≤ 127 = omega arith in
      (omega arith, all_items (length ts) lists false room ys r (sym (left-parse_map json.array (items (value d) (length ts) ts)) ∙ f))

  objects_of : Lists (suc d) Object token.begin_object
  unfolding Entries value
  objects_of lists le ys r f =
      let ts = punctuate lex.fresh (lex.lex lex.between ys) in
      let room : length (Object ∷ lists) + d ≤ 127 = omega arith in
      (omega arith, all_members (length ts) lists false room ys r (sym (left-parse_map json.object (members (value d) (length ts) ts)) ∙ f))

no_arrays : Lists zero Array token.begin_array
unfolding value
no_arrays lists le ys r f = no_tokens f

no_objects : Lists zero Object token.begin_object
unfolding value
no_objects lists le ys r f = no_tokens f

all_values : (depth : ℕ) → Values depth
all_values zero = values zero no_arrays no_objects
all_values (suc d) = values (suc d) (arrays_of d (all_values d)) (objects_of d (all_values d))

-- ---- whole texts

abbrev is_some_token : List Token → Bool
is_some_token [] = false
is_some_token (t ∷ ts) = true

-- after a comma comes a token, or its lack is one
some_turn : (x : ℕ) (ys : List ℕ) (ts : List Token) → Turn lex.after_comma x ys ts → is_some_token ts ≡ true
some_turn x ys ts (fault e) = ap is_some_token e
some_turn x ys ts (value_string s a b c e) = ap is_some_token e
some_turn x ys ts (key_string s a b c d e) = ap is_some_token e
some_turn x ys ts (word_token c g m e) = ap is_some_token e
some_turn x ys ts (opens_object a b e) = ap is_some_token e
some_turn x ys ts (opens_array a b e) = ap is_some_token e
some_turn x ys ts (closes_object a b e) = ap is_some_token e
some_turn x ys ts (closes_array a b e) = ap is_some_token e
some_turn x ys ts (comma a b e) = absurd (cc)
some_turn x ys ts (colon a b e) = absurd (cc)

some_after_comma : (ys : List ℕ) → is_some_token (punctuate lex.after_comma (lex.lex lex.between ys)) ≡ true
unfolding punctuate
some_after_comma ys =
    elim (front place.Value [] lex.after_comma refl ys) [
      | at_end e back ↦ ap is_some_token e
      | begins x zs t back ↦ some_turn x zs (punctuate lex.after_comma (lex.lex lex.between ys)) t
    ]

end_turn : (x : ℕ) (ys : List ℕ) (ts : List Token) → Turn lex.after_value x ys ts → ts ≡ [] → ⊥
end_turn x ys ts (fault e) f = let no : ◌≡◌ {A = List Token} (token.bad ∷ []) [] = sym e ∙ f in cc
end_turn x ys ts (value_string s a b m e) f = false≢true m
end_turn x ys ts (key_string s a b m d e) f = false≢true m
end_turn x ys ts (word_token c g m e) f = false≢true m
end_turn x ys ts (opens_object a m e) f = false≢true m
end_turn x ys ts (opens_array a m e) f = false≢true m
end_turn x ys ts (closes_object a m e) f = let no : ◌≡◌ {A = List Token} (token.end_object ∷ _) [] = sym e ∙ f in cc
end_turn x ys ts (closes_array a m e) f = let no : ◌≡◌ {A = List Token} (token.end_array ∷ _) [] = sym e ∙ f in cc
end_turn x ys ts (comma a b e) f = true≢false (sym (some_after_comma ys) ∙ ap is_some_token (sym e ∙ f))
end_turn x ys ts (colon a b e) f = let no : ◌≡◌ {A = lex.Place} lex.after_value lex.after_key = b in cc

at_text_end : (zs : List ℕ) → punctuate lex.after_value (lex.lex lex.between zs) ≡ [] → Accepts (at place.AfterValue []) zs
at_text_end zs f =
    elim (front place.AfterValue [] lex.after_value refl zs) [
      | at_end e back ↦ back (ends refl)
      | begins x ys t back ↦ absurd (end_turn x ys (punctuate lex.after_value (lex.lex lex.between zs)) t f)
    ]

last_token : (j k : Json) (ts : List Token) → json.if_last j ts ≡ Some k → ts ≡ []
last_token j k [] e = refl
last_token j k (t ∷ ts) e = absurd (let no : ◌≡◌ {A = Option Json} None (Some k) = e in cc)

pub read_is_syntax : (text : List ℕ) (d : Data) → read text ≡ Some d → IsSyntax text
read_is_syntax text d e =
    let j = and_then_some of_json (option_and_then (λ p. json.if_last p.0 p.1) (value max_depth (lex.tokens text))) d e in
    let p = and_then_some (λ p. json.if_last p.0 p.1) (value max_depth (lex.tokens text)) j.0 j.1 in
    let v = all_values 127 [] false lex.fresh refl (omega arith) text p.0.1 (ap left p.1) in
    is_syntax text (v.back (at_text_end v.zs (sym v.tokens ∙ last_token p.0.0 j.0 p.0.1 p.2)))
