-- What is printed for a facet, and that it is read.
use Rattle.std.proofs.Common.{◌≡◌, ◌≢◌, ℕ, Bool, true, false, cond, List, [], ◌∷◌, ◌++◌, Some, None, refl, sym, ◌∙◌, ap, eqb, append_assoc, ◌+◌, ◌<◌, length, take, drop, get_or}
use Rattle.std.specs.List.{flat_map, onto_first}
use Rattle.std.proofs.lemmas.Bool.{eqb-true}
use Rattle.std.proofs.lemmas.Grind.{flat_map-append}
use Rattle.std.proofs.lemmas.List.{take_more, take-append-drop, flat_map_more}
use Rattle.tv_base.specs.Facet.{decoded_byte, decoded, parse, path, printed_byte, printed, printed_or_slash}
use Rattle.tv_base.specs.Sink.{IsPrefix}
use Rattle.tv_base.proofs.Rewriting.{rewritten_from, rewritten-from}

abbrev printed_step : List ℕ → List ℕ
printed_step step = 47 ∷ flat_map printed_byte step

tail_of : (xs ys : List ℕ) → 47 ∷ xs ≡ 47 ∷ ys → xs ≡ ys
tail_of xs ys e = cc

onto_first-printed : (b : ℕ) (parts : List (List ℕ)) (rest : List ℕ) → flat_map printed_step parts ≡ 47 ∷ rest → flat_map printed_step (onto_first b parts) ≡ 47 ∷ (printed_byte b ++ rest)
onto_first-printed b [] rest e = cc
onto_first-printed b (part ∷ parts) rest e =
    ap (λ l. 47 ∷ l) (append_assoc (printed_byte b) (flat_map printed_byte part) (flat_map printed_step parts)
    ∙ ap (λ l. printed_byte b ++ l) (tail_of (flat_map printed_byte part ++ flat_map printed_step parts) rest e))

printed_case : (c : Bool) (b : ℕ) (parts : List (List ℕ)) (rest : List ℕ) → flat_map printed_step parts ≡ 47 ∷ rest → flat_map printed_step (cond c ([] ∷ parts) (onto_first b parts)) ≡ 47 ∷ (cond c (47 ∷ []) (printed_byte b) ++ rest)
printed_case true b parts rest e = ap (λ l. 47 ∷ l) e
printed_case false b parts rest e = onto_first-printed b parts rest e

-- the slashes of the steps are those of the zeros and one before it
pub printed-is : (encoded : List ℕ) → printed encoded ≡ 47 ∷ flat_map printed_or_slash encoded
printed-is [] = refl
printed-is (b ∷ bs) = printed_case (eqb b 0) b (path bs) (flat_map printed_or_slash bs) (printed-is bs)

decoded_plain : (b : ℕ) (rest : List ℕ) → eqb b 47 ≡ false → eqb b 92 ≡ false → rewritten_from decoded_byte true (b ∷ rest) ≡ b ∷ rewritten_from decoded_byte true rest
decoded_plain b rest e f = rw (f, e) refl

decoded_case : (b : ℕ) (zero slash back : Bool) (rest : List ℕ) → eqb b 0 ≡ zero → eqb b 47 ≡ slash → eqb b 92 ≡ back → rewritten_from decoded_byte true (cond zero (47 ∷ []) (cond slash (92 ∷ 47 ∷ []) (cond back (92 ∷ 92 ∷ []) (b ∷ []))) ++ rest) ≡ b ∷ rewritten_from decoded_byte true rest
decoded_case b true slash back rest e f g = ap (λ x. x ∷ rewritten_from decoded_byte true rest) (sym (eqb-true b 0 e))
decoded_case b false true back rest e f g = ap (λ x. x ∷ rewritten_from decoded_byte true rest) (sym (eqb-true b 47 f))
decoded_case b false false true rest e f g = ap (λ x. x ∷ rewritten_from decoded_byte true rest) (sym (eqb-true b 92 g))
decoded_case b false false false rest e f g = decoded_plain b rest f g

decoded-printed : (encoded : List ℕ) → rewritten_from decoded_byte true (flat_map printed_or_slash encoded) ≡ encoded
decoded-printed [] = refl
decoded-printed (b ∷ bs) =
    decoded_case b (eqb b 0) (eqb b 47) (eqb b 92) (flat_map printed_or_slash bs) refl refl refl ∙ ap (λ l. b ∷ l) (decoded-printed bs)

pub parse-printed : (encoded : List ℕ) → parse (printed encoded) ≡ Some encoded
parse-printed encoded =
    ap parse (printed-is encoded)
    ∙ ap Some (rewritten-from decoded_byte (flat_map printed_or_slash encoded) ∙ decoded-printed encoded)

-- one more byte
pub printed-more : (encoded : List ℕ) (i : ℕ) → i < length encoded → flat_map printed_or_slash (take (i + 1) encoded) ≡ flat_map printed_or_slash (take i encoded) ++ printed_or_slash (get_or encoded i 0)
printed-more encoded i h = ap (flat_map printed_or_slash) (take_more encoded i 0 h) ∙ sym (flat_map_more printed_or_slash [] (take i encoded) (get_or encoded i 0))

parse_case : (c : Bool) (b : ℕ) (bs : List ℕ) → eqb b 47 ≡ c → ((rest : List ℕ) → b ∷ bs ≢ 47 ∷ rest) → cond c (Some (decoded bs)) None ≡ None
parse_case true b bs e h = absurd (h bs (ap (λ x. x ∷ bs) (eqb-true b 47 e)))
parse_case false b bs e h = refl

-- what doesn't begin with a slash is refused
pub parse-None : (bs : List ℕ) → ((rest : List ℕ) → bs ≢ 47 ∷ rest) → parse bs ≡ None
parse-None [] h = refl
parse-None (b ∷ bs) h = parse_case (eqb b 47) b bs refl h

-- what is printed of the bytes before a place begins the text
pub printed-prefix : (encoded prefix more : List ℕ) (i : ℕ) → prefix ++ more ≡ 47 ∷ flat_map printed_or_slash (take i encoded) → IsPrefix prefix (printed encoded)
printed-prefix encoded prefix more i e = (
  more ++ flat_map printed_or_slash (drop i encoded),
  printed-is encoded ∙ ap (λ l. 47 ∷ flat_map printed_or_slash l) (sym (take-append-drop i encoded)) ∙ ap (λ l. 47 ∷ l) (flat_map-append printed_or_slash (take i encoded) (drop i encoded))
      ∙ ap (λ l. l ++ flat_map printed_or_slash (drop i encoded)) (sym e) ∙ append_assoc prefix more (flat_map printed_or_slash (drop i encoded)),
)
