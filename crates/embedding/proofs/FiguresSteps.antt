-- Lists of figures, one more at a time.
use Rattle.std.proofs.Common.{◌≡◌, ℕ, zero, suc, ◌+◌, ◌<◌, List, [], ◌∷◌, ◌++◌, length, map, take, get_or, Vec, refl, sym, ap, subst, ◌∙◌, arith, rules}
use Rattle.std.specs.declared.alloc.Global.{Global}
use Rattle.std.proofs.lemmas.List.{take_more, map_push}
use Rattle.tantivy_schema.specs.Tree.{Tree, array, elements}
use Rattle.tantivy_schema.specs.Owned.{owned_tree}
use Rattle.tantivy_schema.specs.CodeTypes.OwnedValue.{OwnedValue, Array, the_lemmas}
use Rattle.embedding.specs.declared.figures.Figures.{Figures, out-Figures, Many, the_lemmas as figures_lemmas}
use Rattle.embedding.specs.declared.figures.Figures.TheOpen.{Figures-F}
use Rattle.embedding.specs.Figures.{IsFigures, AreFigures, NoFigures, NoneAreFigures}

figures_more : (ts : List Tree) (t : Tree) (xs : List Figures) (x : Figures) → AreFigures (elements ts) xs → IsFigures t x → AreFigures (elements (ts ++ t ∷ [])) (xs ++ x ∷ [])
figures_more [] t [] x p q = (q, refl)
figures_more [] t (y ∷ xs) x p q = absurd cc
figures_more (u ∷ ts) t [] x p q = absurd p
figures_more (u ∷ ts) t (y ∷ xs) x p q = (p.0, figures_more ts t xs x p.1 q)

-- one more was made
pub one_more : (items : List OwnedValue) (i : ℕ) (item : OwnedValue) (xs : List Figures) (x : Figures) → i < length items → item ≡ get_or items i item
    → AreFigures (elements (map owned_tree (take i items))) xs → IsFigures (owned_tree item) x → AreFigures (elements (map owned_tree (take (i + 1) items))) (xs ++ x ∷ [])
one_more items i item xs x less is p q =
    let taken : take (i + 1) items ≡ take i items ++ item ∷ [] = take_more items i item less ∙ ap (λ z. take i items ++ z ∷ []) (sym is) in
    let all : map owned_tree (take (i + 1) items) ≡ map owned_tree (take i items) ++ owned_tree item ∷ [] = ap (map owned_tree) taken ∙ map_push owned_tree (take i items) item in
    subst (λ ts. AreFigures (elements ts) (xs ++ x ∷ [])) (sym all) (figures_more (map owned_tree (take i items)) (owned_tree item) xs x p q)

-- one of which nothing is made stands among them
pub none_at : (items : List OwnedValue) (i : ℕ) (item : OwnedValue) → i < length items → item ≡ get_or items i item → NoFigures (owned_tree item) → NoneAreFigures (elements (map owned_tree items))
none_at [] i item less is none xs p = absurd (omega (arith, less))
none_at (u ∷ us) i item less is none [] p = p
none_at (u ∷ us) zero item less is none (x ∷ xs) p = none x (subst (λ z. IsFigures (owned_tree z) x) (sym is) p.0)
none_at (u ∷ us) (suc i) item less is none (x ∷ xs) p = none_at us i item (omega (arith, less)) is none xs p.1

-- a list of them
pub list_of : (v : Vec OwnedValue Global) (value : OwnedValue) (xs : Vec Figures Global) → value ≡ Array v → AreFigures (elements (map owned_tree v.items)) xs.items → IsFigures (owned_tree value) (Many xs)
list_of v value xs is p =
    let tree : owned_tree (Array v) ≡ array (elements (map owned_tree v.items)) = search (rules, the_lemmas) in
    let opened : out-Figures (Many xs) ≡ Figures-F.Many xs = search (rules, figures_lemmas) in
    subst (λ t. IsFigures t (Many xs)) (sym (ap owned_tree is ∙ tree)) (xs, opened, p)
