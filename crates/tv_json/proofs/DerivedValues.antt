-- A text that the grammar derives is read, if no number of it is too large for a float.
use Rattle.std.proofs.Common.{◌≡◌, ℕ, suc, ◌+◌, ◌≤◌, List, [], ◌∷◌, ◌++◌, length, take, drop, take_while, Bool, true, false, cond, refl, sym, ap, ap₂, ◌∙◌, subst, arith, Option, Some, None, option_map, option_and_then, append_assoc, append-nil, length-append}
use Rattle.json.specs.Token as token
use Rattle.json.specs.Token.{Token}
use Rattle.json.specs.Json as json
use Rattle.json.specs.Json.{Json, value}
use Rattle.json.specs.Tree.{json_tokens, items_tokens, members_tokens, depth, items_depth, members_depth}
use Rattle.json.specs.Word.{ends_word, word}
use Rattle.json.specs.Lex as lex
use Rattle.json.specs.Lex.{Lexeme, begins_colon, may_begin, if_allowed, place_token, punctuate}
use Rattle.json.proofs.Printed.Numbers.{lex-number, in_word-ended}
use Rattle.json.proofs.Printed.Trees.{value-json_tokens}
use Rattle.serde_json.specs.Data.{Num, Data, null, boolean, number, string, array, object, Items, item as data_item, no_items as no_data, Members, no_members, put}
use Rattle.serde_json.specs.Read.{number_of, of_json, of_items, of_members, read}
use Rattle.tv_json.specs.Faults.{start, Leads, IsSyntax}
use Rattle.tv_json.specs.Grammar.{no_more, another, one, IsSpace, IsStructural, IsNumber, IsString, IsValue, the_false, the_null, the_true, an_object, an_array, a_number, a_string, IsObject, IsMembers, IsMember, IsArray, IsElements, one_value, more_values, one_member, more_members, IsJsonText, json_text, member as the_member, object as the_object, array as the_array, empty_object, empty_array}
use Rattle.tv_json.specs.LargeNumber.{is_number_byte, value_comes, NoLargeNumber}
use Rattle.tv_json.specs.declared.json_place.ListKind.{ListKind}
use Rattle.tv_json.specs.declared.json_place.ListKind.TheVariants.{Array, Object}
use Rattle.tv_json.specs.declared.json_place.Place.TheVariants as place
use Rattle.tv_json.specs.declared.json_place.StringRole.TheVariants as role
use Rattle.tv_json.specs.declared.json_scan.Scan.{Scan}
use Rattle.tv_json.proofs.Accepted.{at}
use Rattle.tv_json.proofs.AcceptedTokens.{value_place, WordToken, is_number, is_boolean, is_null}
use Rattle.tv_json.proofs.AcceptedTurns.{punctuate-token, place-word}
use Rattle.tv_json.proofs.AcceptedValues.{key_place, quote_begins_key}
use Rattle.tv_json.proofs.Derived.{Leads-append, leave, space_delimits, structural_delimited, structural_passes, spaces_pass, string_passes, opens_array, opens_object, comma_to_value, comma_to_key, value_passes, member_passes}
use Rattle.tv_json.proofs.Derivations.{derived}
use Rattle.tv_json.proofs.DerivedTokens.{is_whole, number_taken, number_begun, spaces_between, structural_lexeme, ends_delimited, string_lexeme}

-- a state in a text, and what is left of it
record Standing (whole : List ℕ) (s : Scan) (left : List ℕ) : Type 0 where
  before : List ℕ
  split : whole ≡ before ++ left
  passed : Leads start before s

advance : {whole : List ℕ} {s t : Scan} {part left : List ℕ} → Standing whole s (part ++ left) → Leads s part t → Standing whole t left
advance {part = p} {left = l} h m = record { before = h.before ++ p; split = h.split ∙ sym (append_assoc h.before p l); passed = Leads-append h.passed m }

regroup : {whole : List ℕ} {s : Scan} {a b : List ℕ} → a ≡ b → Standing whole s a → Standing whole s b
regroup {whole} {s} e h = subst (Standing whole s) e h

take_before : (before left : List ℕ) → take (length before) (before ++ left) ≡ before
take_before [] left = refl
take_before (x ∷ xs) left = ap (λ l. x ∷ l) (take_before xs left)

drop_before : (before left : List ℕ) → drop (length before) (before ++ left) ≡ left
drop_before [] left = refl
drop_before (x ∷ xs) left = drop_before xs left

three : (a b c d : List ℕ) → (a ++ (b ++ c)) ++ d ≡ a ++ (b ++ (c ++ d))
three a b c d = append_assoc a (b ++ c) d ∙ ap (λ l. a ++ l) (append_assoc b c d)

comes : (first : Bool) → value_comes (value_place first) ≡ true
comes true = refl
comes false = refl

some_or_none : {A : Type 0} (o : Option A) → (o ≡ None → ⊥) → (a : A) × (o ≡ Some a)
some_or_none None h = absurd (h refl)
some_or_none (Some a) h = (a, refl)

-- a number that comes there isn't too large
number_fits :
    {whole : List ℕ} → NoLargeNumber whole → (lists : List ListKind) (first : Bool) {text : List ℕ} (rest : List ℕ) → IsNumber text → ends_word rest ≡ true →
    Standing whole (at (value_place first) lists) (text ++ rest) → (n : Num) × (number_of text ≡ Some n)
number_fits {whole} none lists first {text} rest h ended st =
    some_or_none (number_of text) (λ large.
    let k = length st.before in
    let left : drop k whole ≡ text ++ rest = ap (drop k) st.split ∙ drop_before st.before (text ++ rest) in
    let front : take k whole ≡ st.before = ap (take k) st.split ∙ take_before st.before (text ++ rest) in
    let sizes = ap length st.split in
    let sum = length-append st.before (text ++ rest) in
    let more = length-append text rest in
    let begun = number_begun h in
    none k (omega (arith, sizes, sum, more, begun)) (record {
      at = at (value_place first) lists;
      passed = subst (λ l. Leads start l (at (value_place first) lists)) (sym front) st.passed;
      comes = comes first;
      large = ap (λ l. number_of (take_while is_number_byte l)) left ∙ ap number_of (number_taken rest h ended) ∙ large;
    }))

-- ---- what is read

abbrev lexemes : List ℕ → List Lexeme
lexemes text = lex.lex lex.between text

abbrev tokens_after : List ℕ → List Token
tokens_after text = punctuate lex.after_value (lexemes text)

record ValueRead (levels : ℕ) (text rest : List ℕ) : Type 0 where
  json : Json
  data_of : Data
  made : of_json json ≡ Some data_of
  deep : depth json ≤ levels
  tokens : (p : lex.Place) → may_begin p ≡ true → punctuate p (lexemes (text ++ rest)) ≡ json_tokens json ++ tokens_after rest

-- with the closing bracket
record ValuesRead (levels : ℕ) (text rest : List ℕ) : Type 0 where
  items : json.Items
  data_of : Items
  made : of_items items ≡ Some data_of
  deep : items_depth items ≤ levels
  tokens : (p : lex.Place) → may_begin p ≡ true → punctuate p (lexemes text) ≡ items_tokens items ++ tokens_after rest

record MemberRead (levels : ℕ) (text rest : List ℕ) : Type 0 where
  key : List ℕ
  json : Json
  data_of : Data
  made : of_json json ≡ Some data_of
  deep : depth json ≤ levels
  tokens : (p : lex.Place) → may_begin p ≡ true → punctuate p (lexemes (text ++ rest)) ≡ token.key key ∷ (json_tokens json ++ tokens_after rest)

record MembersRead (levels : ℕ) (text rest : List ℕ) : Type 0 where
  members : json.Members
  made : (found : Members) → (all : Members) × (of_members members found ≡ Some all)
  deep : members_depth members ≤ levels
  tokens : (p : lex.Place) → may_begin p ≡ true → punctuate p (lexemes text) ≡ members_tokens members ++ tokens_after rest

-- ---- tokens

word_comes : (p : lex.Place) → may_begin p ≡ true → (w : Token) → WordToken w → (ls : List Lexeme) → punctuate p (lex.token w ∷ ls) ≡ w ∷ punctuate lex.after_value ls
word_comes p m w is ls =
    punctuate-token p w ls ∙ place-word p w is (begins_colon ls) (λ next. punctuate next ls) ∙ ap (λ b. if_allowed b w (λ next. punctuate next ls) lex.after_value) m

string_comes : (p : lex.Place) → may_begin p ≡ true → (s : List ℕ) (ls : List Lexeme) → begins_colon ls ≡ false
    → punctuate p (lex.token (token.string s) ∷ ls) ≡ token.string s ∷ punctuate lex.after_value ls
string_comes p m s ls n =
    punctuate-token p (token.string s) ls ∙ ap (λ b. place_token p (token.string s) b (λ next. punctuate next ls)) n
    ∙ ap (λ b. if_allowed b (token.string s) (λ next. punctuate next ls) lex.after_value) m

key_comes : (p : lex.Place) → may_begin p ≡ true → (s : List ℕ) (ls : List Lexeme) → punctuate p (lex.token (token.string s) ∷ lex.colon ∷ ls) ≡ token.key s ∷ punctuate lex.fresh ls
unfolding punctuate
key_comes p m s ls =
    punctuate-token p (token.string s) (lex.colon ∷ ls) ∙ ap (λ b. if_allowed b (token.key s) (λ next. punctuate next (lex.colon ∷ ls)) lex.after_key) m

array_comes : (p : lex.Place) → may_begin p ≡ true → (ls : List Lexeme) → punctuate p (lex.token token.begin_array ∷ ls) ≡ token.begin_array ∷ punctuate lex.fresh ls
array_comes p m ls = punctuate-token p token.begin_array ls ∙ ap (λ b. if_allowed b token.begin_array (λ next. punctuate next ls) lex.fresh) m

object_comes : (p : lex.Place) → may_begin p ≡ true → (ls : List Lexeme) → punctuate p (lex.token token.begin_object ∷ ls) ≡ token.begin_object ∷ punctuate lex.fresh ls
object_comes p m ls = punctuate-token p token.begin_object ls ∙ ap (λ b. if_allowed b token.begin_object (λ next. punctuate next ls) lex.fresh) m

array_closes : (text rest : List ℕ) → IsStructural 93 text → tokens_after (text ++ rest) ≡ token.end_array ∷ tokens_after rest
unfolding punctuate
array_closes text rest s = ap (punctuate lex.after_value) (structural_lexeme 93 refl text s rest)

object_closes : (text rest : List ℕ) → IsStructural 125 text → tokens_after (text ++ rest) ≡ token.end_object ∷ tokens_after rest
unfolding punctuate
object_closes text rest s = ap (punctuate lex.after_value) (structural_lexeme 125 refl text s rest)

array_closes_at_once : (text rest : List ℕ) → IsStructural 93 text → punctuate lex.fresh (lexemes (text ++ rest)) ≡ token.end_array ∷ tokens_after rest
unfolding punctuate
array_closes_at_once text rest s = ap (punctuate lex.fresh) (structural_lexeme 93 refl text s rest)

object_closes_at_once : (text rest : List ℕ) → IsStructural 125 text → punctuate lex.fresh (lexemes (text ++ rest)) ≡ token.end_object ∷ tokens_after rest
unfolding punctuate
object_closes_at_once text rest s = ap (punctuate lex.fresh) (structural_lexeme 125 refl text s rest)

comma_comes : (text rest : List ℕ) → IsStructural 44 text → tokens_after (text ++ rest) ≡ punctuate lex.after_comma (lexemes rest)
unfolding punctuate
comma_comes text rest s = ap (punctuate lex.after_value) (structural_lexeme 44 refl text s rest)

true_lexeme : (rest : List ℕ) → ends_word rest ≡ true → lexemes (116 ∷ 114 ∷ 117 ∷ 101 ∷ rest) ≡ lex.token (token.boolean true) ∷ lexemes rest
unfolding lex.lex word
true_lexeme rest e = ap₂ (λ b l. lex.token (cond b (token.boolean true) token.bad) ∷ l) e (in_word-ended rest e)

false_lexeme : (rest : List ℕ) → ends_word rest ≡ true → lexemes (102 ∷ 97 ∷ 108 ∷ 115 ∷ 101 ∷ rest) ≡ lex.token (token.boolean false) ∷ lexemes rest
unfolding lex.lex word
false_lexeme rest e = ap₂ (λ b l. lex.token (cond b (token.boolean false) token.bad) ∷ l) e (in_word-ended rest e)

null_lexeme : (rest : List ℕ) → ends_word rest ≡ true → lexemes (110 ∷ 117 ∷ 108 ∷ 108 ∷ rest) ≡ lex.token token.null ∷ lexemes rest
unfolding lex.lex word
null_lexeme rest e = ap₂ (λ b l. lex.token (cond b token.null token.bad) ∷ l) e (in_word-ended rest e)

-- ---- parts of lists

one_value_read : {levels : ℕ} {text end : List ℕ} (rest : List ℕ) → ValueRead levels text (end ++ rest) → IsStructural 93 end → ValuesRead levels (text ++ (end ++ rest)) rest
one_value_read {end = e} rest v close = record {
  items = json.item v.json json.no_items;
  data_of = data_item v.data_of no_data;
  made = ap (option_and_then (λ d. option_map (data_item d) (of_items json.no_items))) v.made;
  deep = omega (arith, v.deep);
  tokens = λ p m. v.tokens p m ∙ ap (λ l. json_tokens v.json ++ l) (array_closes e rest close) ∙ sym (append_assoc (json_tokens v.json) (token.end_array ∷ []) (tokens_after rest));
}

value_before : {levels : ℕ} {f s more : List ℕ} (rest : List ℕ) → ValueRead levels f (s ++ more) → IsStructural 44 s → ValuesRead levels more rest → ValuesRead levels (f ++ (s ++ more)) rest
value_before {s = s} {more} rest v comma vs = record {
  items = json.item v.json vs.items;
  data_of = data_item v.data_of vs.data_of;
  made = ap (option_and_then (λ d. option_map (data_item d) (of_items vs.items))) v.made ∙ ap (option_map (data_item v.data_of)) vs.made;
  deep = omega (arith, v.deep, vs.deep);
  tokens = λ p m. v.tokens p m ∙ ap (λ l. json_tokens v.json ++ l) (comma_comes s more comma ∙ vs.tokens lex.after_comma refl)
      ∙ sym (append_assoc (json_tokens v.json) (items_tokens vs.items) (tokens_after rest));
}

member_made : (key : List ℕ) (j : Json) (d : Data) (ms : json.Members) (found : Members) → of_json j ≡ Some d → ((f : Members) → (all : Members) × (of_members ms f ≡ Some all))
    → (all : Members) × (of_members (json.member key j ms) found ≡ Some all)
member_made key j d ms found e more =
    let all = more (put key d found) in (all.0, ap (option_and_then (λ x. of_members ms (put key x found))) e ∙ all.1)

one_member_read : {levels : ℕ} {text end : List ℕ} (rest : List ℕ) → MemberRead levels text (end ++ rest) → IsStructural 125 end → MembersRead levels (text ++ (end ++ rest)) rest
one_member_read {end = e} rest v close = record {
  members = json.member v.key v.json json.no_members;
  made = λ found. member_made v.key v.json v.data_of json.no_members found v.made (λ f. (f, refl));
  deep = omega (arith, v.deep);
  tokens = λ p m. v.tokens p m ∙ ap (λ l. token.key v.key ∷ l) (ap (λ l. json_tokens v.json ++ l) (object_closes e rest close) ∙ sym (append_assoc (json_tokens v.json) (token.end_object ∷ []) (tokens_after rest)));
}

member_before : {levels : ℕ} {f s more : List ℕ} (rest : List ℕ) → MemberRead levels f (s ++ more) → IsStructural 44 s → MembersRead levels more rest → MembersRead levels (f ++ (s ++ more)) rest
member_before {s = s} {more} rest v comma vs = record {
  members = json.member v.key v.json vs.members;
  made = λ found. member_made v.key v.json v.data_of vs.members found v.made vs.made;
  deep = omega (arith, v.deep, vs.deep);
  tokens = λ p m. v.tokens p m ∙ ap (λ l. token.key v.key ∷ l) (ap (λ l. json_tokens v.json ++ l) (comma_comes s more comma ∙ vs.tokens lex.after_comma refl)
      ∙ sym (append_assoc (json_tokens v.json) (members_tokens vs.members) (tokens_after rest)));
}

-- as texts that are one with others
values_at : {levels : ℕ} {a b rest : List ℕ} → a ≡ b → ValuesRead levels b rest → ValuesRead levels a rest
values_at {levels} {rest = r} e h = subst (λ t. ValuesRead levels t r) (sym e) h

members_at : {levels : ℕ} {a b rest : List ℕ} → a ≡ b → MembersRead levels b rest → MembersRead levels a rest
members_at {levels} {rest = r} e h = subst (λ t. MembersRead levels t r) (sym e) h

closes_no_colon : (text rest : List ℕ) → IsStructural 93 text → begins_colon (lexemes (text ++ rest)) ≡ false
closes_no_colon text rest s = ap begins_colon (structural_lexeme 93 refl text s rest)

object_closes_no_colon : (text rest : List ℕ) → IsStructural 125 text → begins_colon (lexemes (text ++ rest)) ≡ false
object_closes_no_colon text rest s = ap begins_colon (structural_lexeme 125 refl text s rest)

comma_no_colon : (text rest : List ℕ) → IsStructural 44 text → begins_colon (lexemes (text ++ rest)) ≡ false
comma_no_colon text rest s = ap begins_colon (structural_lexeme 44 refl text s rest)

string_read : {levels : ℕ} {text : List ℕ} (rest : List ℕ) → IsString text → begins_colon (lexemes rest) ≡ false → ValueRead levels text rest
string_read rest s no_colon =
    let t = string_lexeme rest s in
    record {
      json = json.string t.0;
      data_of = string t.0;
      made = refl;
      deep = omega arith;
      tokens = λ p m. ap (punctuate p) t.1 ∙ string_comes p m t.0 (lexemes rest) no_colon;
    }

number_read : {levels : ℕ} {text : List ℕ} (rest : List ℕ) → IsNumber text → ends_word rest ≡ true → (n : Num) × (number_of text ≡ Some n) → ValueRead levels text rest
number_read {text = t} rest h ended fits = record {
  json = json.number t;
  data_of = number fits.0;
  made = ap (option_map number) fits.1;
  deep = omega arith;
  tokens = λ p m. ap (punctuate p) (lex-number t rest (is_whole h) ended) ∙ word_comes p m (token.number t) (is_number t) (lexemes rest);
}

boolean_read : {levels : ℕ} {text : List ℕ} (rest : List ℕ) (b : Bool) → lexemes (text ++ rest) ≡ lex.token (token.boolean b) ∷ lexemes rest → ValueRead levels text rest
boolean_read rest b e = record {
  json = json.boolean b;
  data_of = boolean b;
  made = refl;
  deep = omega arith;
  tokens = λ p m. ap (punctuate p) e ∙ word_comes p m (token.boolean b) (is_boolean b) (lexemes rest);
}

null_read : {levels : ℕ} {text : List ℕ} (rest : List ℕ) → lexemes (text ++ rest) ≡ lex.token token.null ∷ lexemes rest → ValueRead levels text rest
null_read rest e = record {
  json = json.null;
  data_of = null;
  made = refl;
  deep = omega arith;
  tokens = λ p m. ap (punctuate p) e ∙ word_comes p m token.null is_null (lexemes rest);
}

empty_array_read : {levels : ℕ} {begin end : List ℕ} (rest : List ℕ) → IsStructural 91 begin → IsStructural 93 end → ValueRead (suc levels) (begin ++ end) rest
empty_array_read {begin = b} {end = e} rest o c = record {
  json = json.array json.no_items;
  data_of = array no_data;
  made = refl;
  deep = omega arith;
  tokens = λ p m. ap (λ l. punctuate p (lexemes l)) (append_assoc b e rest) ∙ ap (punctuate p) (structural_lexeme 91 refl b o (e ++ rest))
      ∙ array_comes p m (lexemes (e ++ rest)) ∙ ap (λ l. token.begin_array ∷ l) (array_closes_at_once e rest c);
}

array_read : {levels : ℕ} {begin : List ℕ} (inside end rest : List ℕ) → IsStructural 91 begin → ValuesRead levels (inside ++ (end ++ rest)) rest → ValueRead (suc levels) (begin ++ (inside ++ end)) rest
array_read {begin = b} i e rest o vs = record {
  json = json.array vs.items;
  data_of = array vs.data_of;
  made = ap (option_map array) vs.made;
  deep = omega (arith, vs.deep);
  tokens = λ p m. ap (λ l. punctuate p (lexemes l)) (three b i e rest) ∙ ap (punctuate p) (structural_lexeme 91 refl b o (i ++ (e ++ rest)))
      ∙ array_comes p m (lexemes (i ++ (e ++ rest))) ∙ ap (λ l. token.begin_array ∷ l) (vs.tokens lex.fresh refl);
}

empty_object_read : {levels : ℕ} {begin end : List ℕ} (rest : List ℕ) → IsStructural 123 begin → IsStructural 125 end → ValueRead (suc levels) (begin ++ end) rest
empty_object_read {begin = b} {end = e} rest o c = record {
  json = json.object json.no_members;
  data_of = object no_members;
  made = refl;
  deep = omega arith;
  tokens = λ p m. ap (λ l. punctuate p (lexemes l)) (append_assoc b e rest) ∙ ap (punctuate p) (structural_lexeme 123 refl b o (e ++ rest))
      ∙ object_comes p m (lexemes (e ++ rest)) ∙ ap (λ l. token.begin_object ∷ l) (object_closes_at_once e rest c);
}

object_read : {levels : ℕ} {begin : List ℕ} (inside end rest : List ℕ) → IsStructural 123 begin → MembersRead levels (inside ++ (end ++ rest)) rest → ValueRead (suc levels) (begin ++ (inside ++ end)) rest
object_read {begin = b} i e rest o ms =
    let all = ms.made no_members in
    record {
      json = json.object ms.members;
      data_of = object all.0;
      made = ap (option_map object) all.1;
      deep = omega (arith, ms.deep);
      tokens = λ p m. ap (λ l. punctuate p (lexemes l)) (three b i e rest) ∙ ap (punctuate p) (structural_lexeme 123 refl b o (i ++ (e ++ rest)))
          ∙ object_comes p m (lexemes (i ++ (e ++ rest))) ∙ ap (λ l. token.begin_object ∷ l) (ms.tokens lex.fresh refl);
    }

member_read : {levels : ℕ} {name separator text : List ℕ} (rest : List ℕ) → IsString name → IsStructural 58 separator → ValueRead levels text rest → MemberRead levels (name ++ (separator ++ text)) rest
member_read {name = n} {separator = s} {text = t} rest name colon v =
    let k = string_lexeme (s ++ (t ++ rest)) name in
    record {
      key = k.0;
      json = v.json;
      data_of = v.data_of;
      made = v.made;
      deep = v.deep;
      tokens = λ p m. ap (λ l. punctuate p (lexemes l)) (three n s t rest) ∙ ap (punctuate p) (k.1 ∙ ap (λ l. lex.token (token.string k.0) ∷ l) (structural_lexeme 58 refl s colon (t ++ rest)))
          ∙ key_comes p m k.0 (lexemes (t ++ rest)) ∙ ap (λ l. token.key k.0 ∷ l) (v.tokens lex.fresh refl);
    }

-- ---- values

module _ (whole : List ℕ) (none : NoLargeNumber whole) where
  mutual
    value_read : (levels : ℕ) (text : List ℕ) → IsValue levels text → (lists : List ListKind) (first : Bool) → length lists + levels ≤ 127 → (rest : List ℕ) → ends_word rest ≡ true →
        begins_colon (lexemes rest) ≡ false → Standing whole (at (value_place first) lists) (text ++ rest) → ValueRead levels text rest
    value_read levels text the_false lists first h rest ended no_colon st = boolean_read rest false (false_lexeme rest ended)
    value_read levels text the_null lists first h rest ended no_colon st = null_read rest (null_lexeme rest ended)
    value_read levels text the_true lists first h rest ended no_colon st = boolean_read rest true (true_lexeme rest ended)
    value_read levels text (an_object {levels = l} o) lists first h rest ended no_colon st = object_value l text o lists first h rest st
    value_read levels text (an_array {levels = l} a) lists first h rest ended no_colon st = array_value l text a lists first h rest st
    value_read levels text (a_number n) lists first h rest ended no_colon st = number_read rest n ended (number_fits none lists first rest n ended st)
    value_read levels text (a_string s) lists first h rest ended no_colon st = string_read rest s no_colon

    object_value : (levels : ℕ) (text : List ℕ) → IsObject levels text → (lists : List ListKind) (first : Bool) → length lists + suc levels ≤ 127 → (rest : List ℕ) →
        Standing whole (at (value_place first) lists) (text ++ rest) → ValueRead (suc levels) text rest
    object_value levels text (empty_object o c) lists first h rest st = empty_object_read rest o c
    object_value levels text (the_object {begin = b} {inside = i} {end = e} o m c) lists first h rest st =
        object_read i e rest o (members_read levels i m lists true (omega arith) e rest c (advance (regroup (three b i e rest) st) (opens_object first lists (omega arith) b o)))

    members_read : (levels : ℕ) (text : List ℕ) → IsMembers levels text → (lists : List ListKind) (first : Bool) → suc (length lists) + levels ≤ 127 → (end rest : List ℕ) →
        IsStructural 125 end → Standing whole (at (key_place first) (Object ∷ lists)) (text ++ (end ++ rest)) → MembersRead levels (text ++ (end ++ rest)) rest
    members_read levels text (one_member m) lists first h end rest close st =
        one_member_read rest (member_value levels text m lists first h (end ++ rest) (ends_delimited rest (structural_delimited 125 refl close)) (object_closes_no_colon end rest close) st) close
    members_read levels text (more_members {first = f} {separator = s} {others = o} m c ms) lists first h end rest close st =
        let e = three f s o (end ++ rest) in
        let here = regroup e st in
        let w = leave (Object ∷ lists) (member_passes levels f m lists first h) (structural_delimited 44 refl c) (comma_to_key lists s c) in
        members_at e (member_before rest
        (member_value levels f m lists first h (s ++ (o ++ (end ++ rest))) (ends_delimited (o ++ (end ++ rest)) (structural_delimited 44 refl c)) (comma_no_colon s (o ++ (end ++ rest)) c) here)
        c (members_read levels o ms lists false h end rest close (advance (advance here w.1) w.2)))

    member_value : (levels : ℕ) (text : List ℕ) → IsMember levels text → (lists : List ListKind) (first : Bool) → suc (length lists) + levels ≤ 127 → (rest : List ℕ) → ends_word rest ≡ true →
        begins_colon (lexemes rest) ≡ false → Standing whole (at (key_place first) (Object ∷ lists)) (text ++ rest) → MemberRead levels text rest
    member_value levels text (the_member {name = n} {separator = s} {text = t} name c v) lists first h rest ended no_colon st =
        let key = string_passes (Object ∷ lists) role.Key (at (key_place first) (Object ∷ lists)) (quote_begins_key first (Object ∷ lists)) name in
        let colon = structural_passes 58 place.Colon place.Value (Object ∷ lists) (Object ∷ lists) refl refl refl s c in
        member_read rest name c (value_read levels t v (Object ∷ lists) false h rest ended no_colon (advance (advance (regroup (three n s t rest) st) key) colon))

    array_value : (levels : ℕ) (text : List ℕ) → IsArray levels text → (lists : List ListKind) (first : Bool) → length lists + suc levels ≤ 127 → (rest : List ℕ) →
        Standing whole (at (value_place first) lists) (text ++ rest) → ValueRead (suc levels) text rest
    array_value levels text (empty_array o c) lists first h rest st = empty_array_read rest o c
    array_value levels text (the_array {begin = b} {inside = i} {end = e} o v c) lists first h rest st =
        array_read i e rest o (values_read levels i v lists true (omega arith) e rest c (advance (regroup (three b i e rest) st) (opens_array first lists (omega arith) b o)))

    values_read : (levels : ℕ) (text : List ℕ) → IsElements levels text → (lists : List ListKind) (first : Bool) → suc (length lists) + levels ≤ 127 → (end rest : List ℕ) →
        IsStructural 93 end → Standing whole (at (value_place first) (Array ∷ lists)) (text ++ (end ++ rest)) → ValuesRead levels (text ++ (end ++ rest)) rest
    values_read levels text (one_value v) lists first h end rest close st =
        one_value_read rest (value_read levels text v (Array ∷ lists) first h (end ++ rest) (ends_delimited rest (structural_delimited 93 refl close)) (closes_no_colon end rest close) st) close
    values_read levels text (more_values {first = f} {separator = s} {others = o} v c vs) lists first h end rest close st =
        let e = three f s o (end ++ rest) in
        let here = regroup e st in
        let w = leave (Array ∷ lists) (value_passes levels f v (Array ∷ lists) first h) (structural_delimited 44 refl c) (comma_to_value lists s c) in
        values_at e (value_before rest
        (value_read levels f v (Array ∷ lists) first h (s ++ (o ++ (end ++ rest))) (ends_delimited (o ++ (end ++ rest)) (structural_delimited 44 refl c)) (comma_no_colon s (o ++ (end ++ rest)) c) here)
        c (values_read levels o vs lists false h end rest close (advance (advance here w.1) w.2)))

-- ---- whole texts

space_ends : {text : List ℕ} → IsSpace text → lexemes text ≡ []
unfolding lex.lex
space_ends {text} s = ap lexemes (sym (append-nil text)) ∙ spaces_between [] s

space_ends_word : {text : List ℕ} → IsSpace text → ends_word text ≡ true
space_ends_word no_more = refl
space_ends_word (another (one x e) rest) = space_delimits x e

whole_read : {before text after : List ℕ} → NoLargeNumber (before ++ (text ++ after)) → IsSpace before → IsValue 127 text → IsSpace after → (d : Data) × (read (before ++ (text ++ after)) ≡ Some d)
unfolding punctuate
whole_read {before = b} {text = t} {after = a} none before v after =
    let r = value_read (b ++ (t ++ a)) none 127 t v [] false (omega arith) a (space_ends_word after) (ap begins_colon (space_ends after))
    (record { before = b; split = refl; passed = spaces_pass [] place.Value refl before }) in
    let tokens : lex.tokens (b ++ (t ++ a)) ≡ json_tokens r.json ++ [] =
    ap (punctuate lex.fresh) (spaces_between (t ++ a) before) ∙ r.tokens lex.fresh refl ∙ ap (λ l. json_tokens r.json ++ punctuate lex.after_value l) (space_ends after) in (
      r.data_of,
      ap (λ l. option_and_then of_json (option_and_then (λ p. json.if_last p.0 p.1) (value 127 l))) tokens
          ∙ ap (λ o. option_and_then of_json (option_and_then (λ p. json.if_last p.0 p.1) o)) (value-json_tokens r.json 127 [] r.deep) ∙ r.made,
    )

derived_read : (text : List ℕ) → IsJsonText 127 text → NoLargeNumber text → (d : Data) × (read text ≡ Some d)
derived_read text (json_text before v after) none = whole_read none before v after

pub syntax_is_read : (text : List ℕ) → IsSyntax text → NoLargeNumber text → (d : Data) × (read text ≡ Some d)
syntax_is_read text h none = derived_read text (derived text h) none
