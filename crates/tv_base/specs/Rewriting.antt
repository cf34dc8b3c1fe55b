-- What stands for each byte of a text that is rewritten. 46 is the dot, 92 the backslash.
use Rattle.std.specs.Prelude.{ℕ, ◌==◌, ◌&&◌, ◌||◌, Bool, if◌then◌else◌, List, [], ◌∷◌}
use Rattle.tv_base.specs.Facet.{decoded_byte}
use Rattle.tv_base.specs.JsonPath.{expanded}
use Rattle.tv_base.specs.declared.text_rules.Rule.{Rule}
use Rattle.tv_base.specs.declared.text_rules.Rule.TheVariants as rules

-- an unescaped backslash goes; an unescaped dot separates, and where dots are expanded each dot
abbrev pub path_byte : Bool → Bool → ℕ → List ℕ
path_byte expand_dots unescaped b =
    if unescaped && (b == 92) then [] else (if (unescaped || expand_dots) && (b == 46) then 1 ∷ []
    else b ∷ [])

abbrev pub stands_for : Rule → Bool → ℕ → List ℕ
stands_for rules.Facet unescaped b = decoded_byte unescaped b
stands_for (rules.Path expand_dots) unescaped b = path_byte expand_dots unescaped b
stands_for (rules.Segment expand_dots) unescaped b = expanded expand_dots b ∷ []
