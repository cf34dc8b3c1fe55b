-- What each step of the walk through a JSON value leaves to be done.
use Rattle.std.proofs.Common.{◌≡◌, ℕ, Bool, List, [], ◌∷◌, ◌++◌, length, take, Option, sym, ap, ◌∙◌}
use Rattle.tv_heap.specs.Value.{HeldList, held_children}
use Rattle.std.specs.Prelude.{reverse}
use Rattle.tv_format.specs.Tree.{Tree}
use Rattle.tv_indexing.proofs.Following.{nothing_before, regrouped, reverse-snoc}
use Rattle.tv_indexing.specs.DocumentTerms.{followed_by}
use Rattle.tv_indexing.specs.JsonWalk.{child_terms, children_terms, open_terms}
use Rattle.tv_indexing.specs.declared.json.OpenList.{OpenList}
use Rattle.tv_value.specs.Children.{Child}
use Rattle.tv_value.specs.declared.field.Field.{Field}

-- ---- the walk

module _ (field : Field) (expand_dots : Bool) where
  -- a child is next
  pub next_child : (path : List ℕ) (list : OpenList) (more : List Child) (key : Option (List ℕ)) (t : Tree) (lists : List OpenList) → held_children list.children ≡ (key, t) ∷ more
      → open_terms field expand_dots path (list ∷ lists) ≡ followed_by (child_terms field expand_dots path key t) (followed_by (children_terms field expand_dots path more) (open_terms field expand_dots (take list.path_len path) lists))
  next_child path list more key t lists cut =
      let outer = open_terms field expand_dots (take list.path_len path) lists in
      ap (λ cs. followed_by (children_terms field expand_dots path cs) outer) cut ∙ regrouped (child_terms field expand_dots path key t) (children_terms field expand_dots path more) outer

  -- the next child is a list
  pub walk_down : (path below : List ℕ) (list : OpenList) (more inner : HeldList) (key : Option (List ℕ)) (t : Tree) (len : ℕ) (around deeper : List OpenList)
      → held_children list.children ≡ (key, t) ∷ held_children more → child_terms field expand_dots path key t ≡ children_terms field expand_dots below (held_children inner) → len ≡ length path → take (length path) below ≡ path
      → deeper ≡ around ++ (record { children = more; path_len = list.path_len }) ∷ [] → open_terms field expand_dots path (list ∷ reverse around) ≡ open_terms field expand_dots below (record { children = inner; path_len = len } ∷ reverse deeper)
  walk_down path below list more inner key t len around deeper cut is counted back pushed =
      let rest : OpenList = record { children = more; path_len = list.path_len } in
      let open_now : open_terms field expand_dots path (rest ∷ reverse around) ≡ open_terms field expand_dots (take len below) (reverse deeper) =
      sym (ap (λ p. open_terms field expand_dots p (reverse deeper)) (ap (λ n. take n below) counted ∙ back) ∙ ap (open_terms field expand_dots path) (ap reverse pushed ∙ reverse-snoc around rest)) in
      next_child path list (held_children more) key t (reverse around) cut
      ∙ ap (λ u. followed_by u (open_terms field expand_dots path (rest ∷ reverse around))) is
      ∙ ap (followed_by (children_terms field expand_dots below (held_children inner))) open_now
