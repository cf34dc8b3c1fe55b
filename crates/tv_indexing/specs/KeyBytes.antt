-- The keys that stand in the bytes of a term, for private clauses.
use Rattle.std.specs.Prelude.{ℕ, List, [], ◌∷◌, drop}

-- the byte 1 in place of the first one
abbrev pub with_mark : List ℕ → List ℕ
with_mark [] = []
with_mark (b ∷ bs) = 1 ∷ bs

-- what stands after a field's number, where the code of the type stands for the byte 1 before the outermost
-- key
abbrev pub keys_held : List ℕ → List ℕ
keys_held bytes = with_mark (drop 4 bytes)
