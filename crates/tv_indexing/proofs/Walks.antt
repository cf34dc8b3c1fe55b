-- The terms of a JSON value by the bytes of its keys are those by its keys; and what a step of the walk does.
use Rattle.std.proofs.Common.{◌≡◌, ℕ, Bool, false, List, [], ◌∷◌, ◌++◌, drop, map, Some, Err, if◌then◌else◌, refl, sym, ap, ◌∙◌, append-nil}
use Rattle.std.proofs.lemmas.Grind.{flat_map-append}
use Rattle.tv_base.specs.JsonPath.{expanded, joined}
use Rattle.tv_format.specs.Tree.{Tree, leaf, array, object, Elements, no_elements, element, Entries, no_entries, entry, element_list, entry_list}
use Rattle.tv_indexing.specs.DocumentTerms.{Terms, followed_by, has_zero, json_leaf_terms, json_terms, json_elements_terms, json_entries_terms}
use Rattle.tv_indexing.specs.JsonWalk.{separated, separated_keys, terms_at, elements_at, entries_at, child_terms, children_terms}
use Rattle.tv_indexing.specs.declared.document.TermValuesError.TheVariants.{NulInPath}
use Rattle.tv_value.specs.Children.{Child, IsListOf, with_key, without_key}
use Rattle.tv_value.specs.declared.field.Field.{Field}

-- ---- paths

-- a key whose dots stay
pub kept_whole : (key : List ℕ) → map (expanded false) key ≡ key
kept_whole [] = refl
kept_whole (b ∷ key) = ap (λ bs. b ∷ bs) (kept_whole key)

joined-separated : (expand_dots : Bool) (keys : List (List ℕ)) → joined expand_dots keys ≡ drop 1 (separated_keys expand_dots keys)
joined-separated expand_dots [] = refl
joined-separated expand_dots (k ∷ []) = sym (append-nil (map (expanded expand_dots) k))
joined-separated expand_dots (k ∷ l ∷ keys) = ap (λ path. map (expanded expand_dots) k ++ (1 ∷ path)) (joined-separated expand_dots (l ∷ keys))

separated_keys-snoc : (expand_dots : Bool) (keys : List (List ℕ)) (k : List ℕ) → separated_keys expand_dots (keys ++ k ∷ []) ≡ separated_keys expand_dots keys ++ separated expand_dots k
separated_keys-snoc expand_dots keys k =
    flat_map-append (separated expand_dots) keys (k ∷ []) ∙ ap (λ path. separated_keys expand_dots keys ++ path) (append-nil (separated expand_dots k))

mutual
  pub terms_at-keys : (field : Field) (expand_dots : Bool) (keys : List (List ℕ)) (t : Tree) → json_terms field expand_dots keys t ≡ terms_at field expand_dots (separated_keys expand_dots keys) t
  terms_at-keys field expand_dots keys (leaf l) = ap (λ path. json_leaf_terms field path l) (joined-separated expand_dots keys)
  terms_at-keys field expand_dots keys (array ts) = elements_at-keys field expand_dots keys ts
  terms_at-keys field expand_dots keys (object es) = entries_at-keys field expand_dots keys es

  elements_at-keys : (field : Field) (expand_dots : Bool) (keys : List (List ℕ)) (ts : Elements) → json_elements_terms field expand_dots keys ts ≡ elements_at field expand_dots (separated_keys expand_dots keys) ts
  elements_at-keys field expand_dots keys no_elements = refl
  elements_at-keys field expand_dots keys (element t ts) =
      ap (λ terms. followed_by terms (json_elements_terms field expand_dots keys ts)) (terms_at-keys field expand_dots keys t)
      ∙ ap (λ terms. followed_by (terms_at field expand_dots (separated_keys expand_dots keys) t) terms) (elements_at-keys field expand_dots keys ts)

  entries_at-keys : (field : Field) (expand_dots : Bool) (keys : List (List ℕ)) (es : Entries) → json_entries_terms field expand_dots keys es ≡ entries_at field expand_dots (separated_keys expand_dots keys) es
  entries_at-keys field expand_dots keys no_entries = refl
  entries_at-keys field expand_dots keys (entry k t es) =
      let below : json_terms field expand_dots (keys ++ k ∷ []) t ≡ terms_at field expand_dots (separated_keys expand_dots keys ++ separated expand_dots k) t =
      terms_at-keys field expand_dots (keys ++ k ∷ []) t ∙ ap (λ path. terms_at field expand_dots path t) (separated_keys-snoc expand_dots keys k) in
      let one : Terms = if has_zero k then Err (NulInPath field) else terms_at field expand_dots (separated_keys expand_dots keys ++ separated expand_dots k) t in
      ap (λ terms. followed_by (if has_zero k then Err (NulInPath field) else terms) (json_entries_terms field expand_dots keys es)) below
      ∙ ap (λ terms. followed_by one terms) (entries_at-keys field expand_dots keys es)

-- ---- the children of a list

elements-children : (field : Field) (expand_dots : Bool) (path : List ℕ) (ts : Elements) → elements_at field expand_dots path ts ≡ children_terms field expand_dots path (map without_key (element_list ts))
elements-children field expand_dots path no_elements = refl
elements-children field expand_dots path (element t ts) = ap (followed_by (terms_at field expand_dots path t)) (elements-children field expand_dots path ts)

entries-children : (field : Field) (expand_dots : Bool) (path : List ℕ) (es : Entries) → entries_at field expand_dots path es ≡ children_terms field expand_dots path (map with_key (entry_list es))
entries-children field expand_dots path no_entries = refl
entries-children field expand_dots path (entry k t es) = ap (followed_by (child_terms field expand_dots path (Some k) t)) (entries-children field expand_dots path es)

pub list_terms : (field : Field) (expand_dots : Bool) (path : List ℕ) (cs : List Child) (t : Tree) → IsListOf cs t → terms_at field expand_dots path t ≡ children_terms field expand_dots path cs
list_terms field expand_dots path cs (leaf l) is = absurd is
list_terms field expand_dots path cs (array ts) is = elements-children field expand_dots path ts ∙ ap (children_terms field expand_dots path) (sym is)
list_terms field expand_dots path cs (object es) is = entries-children field expand_dots path es ∙ ap (children_terms field expand_dots path) (sym is)

-- below no key
pub terms_at-top : (field : Field) (expand_dots : Bool) (path : List ℕ) (t : Tree) → path ≡ [] → json_terms field expand_dots [] t ≡ terms_at field expand_dots path t
terms_at-top field expand_dots path t none = terms_at-keys field expand_dots [] t ∙ ap (λ p. terms_at field expand_dots p t) (sym none)
