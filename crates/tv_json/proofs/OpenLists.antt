-- Open lists, written part by part.
use Rattle.std.proofs.Common.{◌≡◌, ◌<◌, ℕ, Option, length, map, List, [], ◌∷◌, ◌++◌, append_assoc, append-nil, length-append, refl, sym, ap, ◌∙◌, arith}
use Rattle.json.specs.Token as token
use Rattle.json.specs.Token.{Token}
use Rattle.tv_format.specs.Tree.{Tree, elements}
use Rattle.tv_value.specs.JsonOf.{json_of, elements_json}
use Rattle.tv_json.specs.Open.{key_tokens, children_tokens, open_left, LeavesToWrite}
use Rattle.tv_json.specs.Rising.{data_tokens, rest_of_array, rest_of_object, listed_json}
use Rattle.tv_value.specs.Children.{Child, without_key, with_key}

-- ---- the children of a list

pub array_tokens : (ts : List Tree) → children_tokens token.end_array (map without_key ts) ≡ rest_of_array (elements_json (elements ts))
array_tokens [] = refl
array_tokens (t ∷ ts) = ap (λ z. data_tokens (json_of t) ++ z) (array_tokens ts)

pub object_tokens : (es : List (List ℕ × Tree)) → children_tokens token.end_object (map with_key es) ≡ rest_of_object (listed_json es)
object_tokens [] = refl
object_tokens (e ∷ es) = ap (λ z. token.key e.0 ∷ (data_tokens (json_of e.1) ++ z)) (object_tokens es)

-- ---- steps

module _ {R : Type 0} (left : R → List Token) where
  last_pushed : (lists : List R) (list : R) → open_left left (lists ++ list ∷ []) ≡ left list ++ open_left left lists
  last_pushed [] list = sym (append-nil (left list))
  last_pushed (l ∷ ls) list = ap (λ z. z ++ left l) (last_pushed ls list) ∙ append_assoc (left list) (open_left left ls) (left l)

  pub list_opened : (old new value : List Token) (bracket : Token) (lists more : List R) (list : R) → new ≡ old ++ bracket ∷ [] → more ≡ lists ++ list ∷ []
      → bracket ∷ left list ≡ value → LeavesToWrite old new (value ++ open_left left lists) (open_left left more)
  list_opened old new value bracket lists more list begins pushes whole =
      let above = open_left left lists in
      record {
        tokens = (λ i. begins i ++ (ap (open_left left) pushes ∙ last_pushed lists list) i) ∙ append_assoc old (bracket ∷ []) (left list ++ above) ∙ ap (λ z. old ++ (z ++ above)) whole;
        more = let sizes = ap length begins in let sum = length-append old (bracket ∷ []) in omega (arith, sizes, sum);
      }

  -- a child was taken, and begun
  pub child_begun : (old mid new after : List Token) (key : Option (List ℕ)) (t : Tree) (end : Token) (was rest : List Child) (lists kept : List R) (list : R)
      → was ≡ (key, t) ∷ rest → mid ≡ old ++ key_tokens key → left list ≡ children_tokens end rest → kept ≡ lists ++ list ∷ []
      → LeavesToWrite mid new (data_tokens (json_of t) ++ open_left left kept) after → LeavesToWrite old new (children_tokens end was ++ open_left left lists) after
  child_begun old mid new after key t end was rest lists kept list cut named is pushes begun =
      let above = open_left left lists in
      let child = data_tokens (json_of t) in
      let behind = children_tokens end rest in
      let open_now = ap (open_left left) pushes ∙ last_pushed lists list ∙ ap (λ z. z ++ above) is in
      record {
        tokens = begun.tokens ∙ (λ i. named i ++ (child ++ open_now i)) ∙ append_assoc old (key_tokens key) (child ++ (behind ++ above))
            ∙ ap (λ z. old ++ (key_tokens key ++ z)) (sym (append_assoc child behind above)) ∙ ap (λ z. old ++ z) (sym (append_assoc (key_tokens key) (child ++ behind) above))
            ∙ ap (λ cs. old ++ (children_tokens end cs ++ above)) (sym cut);
        more = let sizes = ap length named in let sum = length-append old (key_tokens key) in let more = begun.more in omega (arith, sizes, sum, more);
      }

  -- the innermost list was written on
  pub next_written : (old new whole : List Token) (lists outer now : List R) (list : R) → lists ≡ outer ++ list ∷ []
      → LeavesToWrite old new (left list ++ open_left left outer) (open_left left now) → old ++ open_left left lists ≡ whole → new ++ open_left left now ≡ whole
  next_written old new whole lists outer now list pops writes so_far = writes.tokens ∙ ap (λ z. old ++ z) (sym (ap (open_left left) pops ∙ last_pushed outer list)) ∙ so_far

  pub next_smaller : (old new : List Token) (lists outer now : List R) (list : R) → lists ≡ outer ++ list ∷ []
      → LeavesToWrite old new (left list ++ open_left left outer) (open_left left now) → length (open_left left now) < length (open_left left lists)
  next_smaller old new lists outer now list pops writes =
      let sizes = ap length (next_written old new (old ++ open_left left lists) lists outer now list pops writes refl) in
      let sum-new = length-append new (open_left left now) in
      let sum-old = length-append old (open_left left lists) in
      let more = writes.more in
      omega (arith, sizes, sum-new, sum-old, more)
