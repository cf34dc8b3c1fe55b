-- Facets as the bytes of their encoded texts, and the texts that name them. 47 is the slash, 92 the
-- backslash.
use Rattle.std.specs.Prelude.{ℕ, ◌≡◌, ◌≢◌, ◌==◌, ◌&&◌, Bool, true, false, Result, Ok, Err, if◌then◌else◌}
use Rattle.std.specs.Prelude.{List, [], ◌∷◌, ◌++◌, Option, None, Some}
use lib.Chars.{codes}
use Rattle.std.specs.List.{AllByRecursion, flat_map, slice_split}
use Rattle.std.specs.String.{string_bytes}
use Rattle.tv_base.specs.Escapes.{rewritten}
use Rattle.tv_base.specs.declared.facet.FacetParseError.{FacetParseError}
use Rattle.tv_base.specs.declared.facet.FacetParseError.TheVariants as parse_error

-- an unescaped backslash goes, an unescaped slash separates
abbrev pub decoded_byte : Bool → ℕ → List ℕ
decoded_byte unescaped b =
    if unescaped && (b == 92) then [] else (if unescaped && (b == 47) then 0 ∷ [] else b ∷ [])

abbrev pub decoded : List ℕ → List ℕ
decoded = rewritten decoded_byte

-- the encoded facet of a text, which begins with a slash
abbrev pub parse : List ℕ → Option (List ℕ)
parse [] = None
parse (b ∷ text) = if b == 47 then Some (decoded text) else None

-- the texts between the zeros
abbrev pub path : List ℕ → List (List ℕ)
path encoded = slice_split (λ b. b == 0) encoded

-- a text that no separator divides
abbrev pub IsStep : List ℕ → Type 0
IsStep text = AllByRecursion (λ b. b ≢ 0) text

-- the steps down from the root
abbrev pub steps : List ℕ → List (List ℕ)
steps [] = []
steps (b ∷ bs) = path (b ∷ bs)

-- a backslash before a slash or a backslash of a step
abbrev pub printed_byte : ℕ → List ℕ
printed_byte b = if b == 47 then 92 ∷ 47 ∷ [] else (if b == 92 then 92 ∷ 92 ∷ [] else b ∷ [])

-- each text with a slash before it
abbrev pub printed : List ℕ → List ℕ
printed encoded = flat_map (λ step. 47 ∷ flat_map printed_byte step) (path encoded)

abbrev pub debug_printed : List ℕ → List ℕ
debug_printed encoded = codes "Facet(" ++ printed encoded ++ codes ")"

-- what stands for a byte of the encoded facet
abbrev pub printed_or_slash : ℕ → List ℕ
printed_or_slash b = if b == 0 then 47 ∷ [] else printed_byte b

-- the steps of f, and at least one more
abbrev pub Descends : List ℕ → List ℕ → Type 0
Descends f g = (more : List (List ℕ)) × (more ≢ []) × (steps g ≡ steps f ++ more)

-- why there is no facet of the text
abbrev pub IsParseError : List ℕ → FacetParseError → Type 0
IsParseError text parse_error.Memory = Unit {0}
IsParseError text (parse_error.FacetParseError copy) = (parse text ≡ None) × (string_bytes copy ≡ text)

-- whether the text names a facet, whose encoded text is then written in place of the old text; else that
-- stays, also after a refusal,
-- which comes only for a text that names a facet
abbrev pub WritesFacet : {E : Type 0} → List ℕ → List ℕ → List ℕ → Result Bool E → Type 0
WritesFacet text old new (Ok true) = parse text ≡ Some new
WritesFacet text old new (Ok false) = (parse text ≡ None) × (new ≡ old)
WritesFacet text old new (Err e) = (parse text ≢ None) × (new ≡ old)
