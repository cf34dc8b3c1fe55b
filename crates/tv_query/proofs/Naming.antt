-- The fields that a query names, each once.
use Rattle.std.proofs.Common.{◌≡◌, ◌==◌, ◌||◌, Bool, true, false, List, [], ◌∷◌, ◌++◌, refl}
use Rattle.std.specs.List.{AllByRecursion}
use Rattle.std.proofs.lemmas.Map.Keys.{IsDistinct-cons, IsDistinct-head, IsDistinct-tail}
use Rattle.tv_indexing.specs.DocumentTerms.{is_among}
use Rattle.tv_query.specs.Fields.{AreDistinct}
use Rattle.tv_value.specs.declared.field.Field.{Field}

-- ---- one more field, none twice

neither : (a b : Bool) → (a || b) ≡ false → (a ≡ false) × (b ≡ false)
neither true b is = absurd (cc)
neither false b is = (refl, is)

others : (field : Field) (x : Field) (xs : List Field) → AllByRecursion (λ y. (x.id == y.id) ≡ false) xs → (x.id == field.id) ≡ false → AllByRecursion (λ y. (x.id == y.id) ≡ false) (xs ++ field ∷ [])
others field x [] all differs = (differs, tt)
others field x (y ∷ ys) all differs = (all.0, others field x ys all.1 differs)

pub once_more : (fields : List Field) (field : Field) → AreDistinct fields → is_among fields field.id ≡ false → AreDistinct (fields ++ field ∷ [])
once_more [] field distinct new = IsDistinct-cons (λ f g. f.id == g.id) field [] tt distinct
once_more (x ∷ xs) field distinct new =
    let parts = neither (x.id == field.id) (is_among xs field.id) new in
    IsDistinct-cons (λ f g. f.id == g.id) x (xs ++ field ∷ []) (others field x xs (IsDistinct-head (λ f g. f.id == g.id) x xs distinct) parts.0)
    (once_more xs field (IsDistinct-tail (λ f g. f.id == g.id) x xs distinct) parts.1)
