use Rattle.std.proofs.Common.{rules, ◌≡◌, ◌++◌, ◌∷◌, [], ℕ, List, ap, arith, length, refl, slice_index_or}
use Rattle.std.specs.Int.{to_be_bytes, w32}
use Rattle.tv_indexing.proofs.plain.number_term.Goals as goal

-- eight items are a list
eight_items : (ns : List ℕ) → length ns ≡ 8
    → slice_index_or ns 0 0 ∷ slice_index_or ns 1 0 ∷ slice_index_or ns 2 0 ∷ slice_index_or ns 3 0 ∷ slice_index_or ns 4 0 ∷ slice_index_or ns 5 0 ∷ slice_index_or ns 6 0 ∷ slice_index_or ns 7 0 ∷ [] ≡ ns
eight_items (a ∷ b ∷ c ∷ d ∷ e ∷ f ∷ g ∷ h ∷ []) l = refl
eight_items _ l = absurd (omega arith)

pub returns : goal.returns
returns c =
    let len : length c.args.number ≡ 8 = search rules in
    rw (c.to_be_bytes.ensures, c.field_id.ensures) (ap (λ ns. to_be_bytes w32 c.args.field.id ++ c.args.code ∷ ns) (eight_items c.args.number len))
