-- Tokens that are encoded one after the other, and the view of their encoding.
use Rattle.std.proofs.Common.{◌≡◌, ℕ, suc, codes, ◌<◌, ◌^◌, List, [], ◌∷◌, ◌++◌, take, drop, length, Option, Some, None, option_map, option_and_then, Bool, true, false, Ok, refl, sym, ap, ◌∙◌, arith, append_assoc, append-nil}
use Rattle.tv_value.proofs.GatheredTokens.{each_more, short_more}
use Rattle.std.specs.List.{AllByRecursion, flat_map}
use Rattle.std.proofs.lemmas.List.{take-append-drop}
use Rattle.std.proofs.lemmas.Option.{same_Some}
use Rattle.serde_json.proofs.Views.{items_len-items_view}
use Rattle.serde_json.specs.Data as json
use Rattle.serde_json.specs.Data.{Data, Items}
use Rattle.serde_json.specs.Events.{items_len}
use Rattle.serde_json.specs.Find.{as_array, get}
use Rattle.serde_json.specs.View.{items_view}
use Rattle.serde_json.specs.declared.value.Value.{Value}
use Rattle.tv_base.specs.Number.{vnum}
use Rattle.tv_base.specs.Parts.{short_sized}
use Rattle.tv_format.specs.Short.{short_token, short_tokenized, IsText, IsToken, AreTokens}
use Rattle.tv_format.specs.Encoding.{Tokenized}
use Rattle.tv_format.specs.Tree.{Token, tokenized}
use Rattle.tv_format.proofs.Leaves.{agree_tokenized}
use Rattle.tv_format.proofs.ShortEncodings.{tokenized_of}
use Rattle.tv_field.specs.JsonTokens.{token_in, tokens_in, tokenized_in, text_at, AreTokensEncoded, IsTokenizedEncoded}

-- the tokens that are encoded so far, and then those of the other items
pub record TokensSoFar (all rest : Items) (old new : List ℕ) : Type 0 where
  pub done : List Token
  pub parted : tokens_in all ≡ option_map (λ ts. done ++ ts) (tokens_in rest)
  pub valid : AllByRecursion IsToken done
  pub grown : new ≡ old ++ flat_map short_token done

one_more_at : (done : List Token) (t : Token) (o : Option (List Token)) → option_map (λ ts. done ++ ts) (option_map (λ ts. t ∷ ts) o) ≡ option_map (λ ts. (done ++ t ∷ []) ++ ts) o
one_more_at done t None = refl
one_more_at done t (Some ts) = ap Some (sym (append_assoc done (t ∷ []) ts))

pub one_more_token : (all rest others : Items) (d : Data) (t : Token) (old mid new : List ℕ) → TokensSoFar all rest old mid → rest ≡ json.item d others → token_in d ≡ Some t → IsToken t → new ≡ mid ++ short_token t
    → TokensSoFar all others old new
one_more_token all rest others d t old mid new s first is valid grown = record {
  done = s.done ++ t ∷ [];
  parted = s.parted ∙ ap (λ xs. option_map (λ ts. s.done ++ ts) (tokens_in xs)) first
      ∙ ap (λ o. option_map (λ ts. s.done ++ ts) (option_and_then (λ x. option_map (λ ts. x ∷ ts) (tokens_in others)) o)) is ∙ one_more_at s.done t (tokens_in others);
  valid = each_more s.done t s.valid valid;
  grown = grown ∙ ap (λ bs. bs ++ short_token t) s.grown ∙ append_assoc old (flat_map short_token s.done) (short_token t) ∙ ap (λ bs. old ++ bs) (sym (short_more s.done t));
}

-- what a prefix of the shortest encoding encodes
pub encoded_once : (bytes content t : List ℕ) (tokens ts : List Token) (n : ℕ) → IsText content → AreTokens tokens → bytes ≡ short_tokenized content tokens → Tokenized (take n bytes) t ts
    → tokenized t ts ≡ tokenized content tokens
encoded_once bytes content t tokens ts n text valid is prefix =
    ((agree_tokenized t content ts tokens).agree (take n bytes) (short_tokenized content tokens) (drop n bytes) [] prefix (tokenized_of content tokens text valid)
    (take-append-drop n bytes ∙ is ∙ sym (append-nil (short_tokenized content tokens)))).1

count_at : (o : Option Token) (p : Option (List Token)) (n : ℕ) → ((us : List Token) → p ≡ Some us → length us ≡ n) → (ts : List Token)
    → option_and_then (λ t. option_map (λ us. t ∷ us) p) o ≡ Some ts → length ts ≡ suc n
count_at None p n h ts e = absurd (cc)
count_at (Some t) None n h ts e = absurd (cc)
count_at (Some t) (Some us) n h ts e = ap length (sym (same_Some (t ∷ us) ts e)) ∙ ap suc (h us refl)

tokens_count : (items : Items) (ts : List Token) → tokens_in items ≡ Some ts → length ts ≡ items_len items
tokens_count json.no_items ts e = ap length (sym (same_Some [] ts e))
tokens_count (json.item d ds) ts e = count_at (token_in d) (tokens_in ds) (items_len ds) (tokens_count ds) ts e

-- a text and its tokens, encoded one after the other
pub encoded_all : (E : Type 0) (d : Data) (content : List ℕ) (items : List Value) (mid new : List ℕ) → text_at (codes "text") d ≡ Some content
    → option_and_then as_array (get (codes "tokens") d) ≡ Some (items_view items) → IsText content → length items < 2 ^ 63 → mid ≡ short_sized content ++ vnum (length items)
    → AreTokensEncoded {E = E} (items_view items) mid new (Ok true) → IsTokenizedEncoded {E = E} d new (Ok true)
unfolding tokenized_in
encoded_all E d content items mid new named listed text few start (ts, is, valid, grown) =
    let count : length ts ≡ length items = tokens_count (items_view items) ts is ∙ items_len-items_view items in
    let few_tokens : length ts < 2 ^ 63 = omega arith in (
      content,
      ts,
      rw (named, listed, is),
      text,
      record { count = few_tokens; each = valid },
      grown ∙ ap (λ bs. bs ++ flat_map short_token ts) (start ∙ ap (λ n. short_sized content ++ vnum n) (sym count)) ∙ append_assoc (short_sized content) (vnum (length ts)) (flat_map short_token ts),
    )

pub not_tokenized : (d : Data) (content : List ℕ) (items : List Value) → text_at (codes "text") d ≡ Some content
    → option_and_then as_array (get (codes "tokens") d) ≡ Some (items_view items) → tokens_in (items_view items) ≡ None → tokenized_in d ≡ None
unfolding tokenized_in
not_tokenized d content items named listed none = rw (named, listed, none)

-- two outcomes of one value are the same one
pub one_encoding : (E : Type 0) (d : Data) (encoded other : List ℕ) (result twin : Bool) → IsTokenizedEncoded {E = E} d encoded (Ok result) → IsTokenizedEncoded {E = E} d other (Ok twin)
    → (result ≡ twin) × (encoded ≡ other)
one_encoding E d encoded other true true (content, tokens, is, text, each, whole) (second, others, twin_is, twin_text, twin_each, twin_whole) =
    let same : tokenized content tokens ≡ tokenized second others = same_Some (tokenized content tokens) (tokenized second others) (sym is ∙ twin_is) in
    let texts : content ≡ second = cc in
    let lists : tokens ≡ others = cc in
    (refl, whole ∙ (λ i. short_tokenized (texts i) (lists i)) ∙ sym twin_whole)
one_encoding E d encoded other true false (content, tokens, is, text, each, whole) (none, empty) = absurd (let no : Some (tokenized content tokens) ≡ None = sym is ∙ none in cc)
one_encoding E d encoded other false true (none, empty) (content, tokens, is, text, each, whole) = absurd (let no : Some (tokenized content tokens) ≡ None = sym is ∙ none in cc)
one_encoding E d encoded other false false (none, empty) (twin_none, twin_empty) = (refl, empty ∙ sym twin_empty)
