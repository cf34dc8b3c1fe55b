-- The tokens of an array or an object, part by part.
use Rattle.std.proofs.Common.{◌≡◌, ℕ, List, [], ◌∷◌, ◌++◌, append_assoc, sym, ap, ◌∙◌}
use Rattle.json.specs.Token as token
use Rattle.json.specs.Token.{Token}
use Rattle.serde_json.specs.Data as json
use Rattle.serde_json.specs.Data.{Members}
use Rattle.tv_format.specs.Tree.{Tree, array, elements, entries}
use Rattle.tv_value.specs.JsonOf.{json_of, elements_json}
use Rattle.tv_json.specs.Named.{list_json, named_json}
use Rattle.tv_json.specs.Rising.{data_tokens, rest_of_array, rest_of_object, listed_json}

-- ---- arrays

pub item_written : (before now : List Token) (t : Tree) (all rest : List Tree) (whole : List Token) → now ≡ before ++ data_tokens (json_of t) → all ≡ t ∷ rest
    → before ++ rest_of_array (elements_json (elements all)) ≡ whole → now ++ rest_of_array (elements_json (elements rest)) ≡ whole
item_written before now t all rest whole written first so_far =
    let left = rest_of_array (elements_json (elements rest)) in
    ap (λ z. z ++ left) written ∙ append_assoc before (data_tokens (json_of t)) left ∙ ap (λ ts. before ++ rest_of_array (elements_json (elements ts))) (sym first) ∙ so_far

pub array_written : (old begun now last : List Token) (all rest : List Tree) → begun ≡ old ++ token.begin_array ∷ [] → rest ≡ []
    → now ++ rest_of_array (elements_json (elements rest)) ≡ begun ++ rest_of_array (elements_json (elements all)) → last ≡ now ++ token.end_array ∷ []
    → last ≡ old ++ data_tokens (json_of (array (elements all)))
array_written old begun now last all rest begins none so_far ends =
    let whole = rest_of_array (elements_json (elements all)) in
    ends ∙ ap (λ ts. now ++ rest_of_array (elements_json (elements ts))) (sym none) ∙ so_far ∙ ap (λ z. z ++ whole) begins ∙ append_assoc old (token.begin_array ∷ []) whole

-- ---- members

member_tokens : (before named now : List Token) (k : List ℕ) (item rest : List Token) → named ≡ before ++ token.key k ∷ [] → now ≡ named ++ item
    → now ++ rest ≡ before ++ (token.key k ∷ (item ++ rest))
member_tokens before named now k item rest keyed written = ap (λ z. z ++ rest) written ∙ append_assoc named item rest ∙ ap (λ z. z ++ (item ++ rest)) keyed ∙ append_assoc before (token.key k ∷ []) (item ++ rest)

pub member_written : (before named now : List Token) (k : List ℕ) (t : Tree) (all rest : List (List ℕ × Tree)) (whole : List Token) → named ≡ before ++ token.key k ∷ []
    → now ≡ named ++ data_tokens (json_of t) → all ≡ (k, t) ∷ rest → before ++ rest_of_object (listed_json all) ≡ whole → now ++ rest_of_object (listed_json rest) ≡ whole
member_written before named now k t all rest whole keyed written first so_far =
    member_tokens before named now k (data_tokens (json_of t)) (rest_of_object (listed_json rest)) keyed written
    ∙ ap (λ es. before ++ rest_of_object (listed_json es)) (sym first) ∙ so_far

pub list_written : (before now : List Token) (k : List ℕ) (ts : List Tree) (all rest : List (List ℕ × List Tree)) (whole : List Token) → now ≡ before ++ token.key k ∷ data_tokens (list_json ts)
    → all ≡ (k, ts) ∷ rest → before ++ rest_of_object (named_json all) ≡ whole → now ++ rest_of_object (named_json rest) ≡ whole
list_written before now k ts all rest whole written first so_far =
    let left = rest_of_object (named_json rest) in
    ap (λ z. z ++ left) written ∙ append_assoc before (token.key k ∷ data_tokens (list_json ts)) left ∙ ap (λ ns. before ++ rest_of_object (named_json ns)) (sym first) ∙ so_far

pub object_written : (old begun now last : List Token) (left all : Members) → begun ≡ old ++ token.begin_object ∷ [] → left ≡ json.no_members → now ++ rest_of_object left ≡ begun ++ rest_of_object all
    → last ≡ now ++ token.end_object ∷ [] → last ≡ old ++ data_tokens (json.object all)
object_written old begun now last left all begins none so_far ends =
    let whole = rest_of_object all in
    ends ∙ ap (λ ms. now ++ rest_of_object ms) (sym none) ∙ so_far ∙ ap (λ z. z ++ whole) begins ∙ append_assoc old (token.begin_object ∷ []) whole
