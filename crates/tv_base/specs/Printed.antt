-- A child and its count as they are printed.
use Rattle.std.specs.Prelude.{ℕ, if◌then◌else◌, List, ◌++◌, Option, Some, codes}
use Rattle.std.specs.Fmt.{◌++?◌, debug_list, decimal}
use Rattle.std.specs.Str.{is_utf8}
use Rattle.tv_base.specs.Facet.{printed, debug_printed}

-- the numbers of bytes that are no text
abbrev pub bytes_printed : List ℕ → Option (List ℕ)
bytes_printed bytes = debug_list (λ b. Some (decimal b)) bytes

-- the text that names the facet, and what `Debug` of the facet prints
abbrev pub child_printed : List ℕ → Option (List ℕ)
child_printed bytes = if is_utf8 bytes then Some (printed bytes) else bytes_printed bytes

abbrev pub child_debug_printed : List ℕ → Option (List ℕ)
child_debug_printed bytes = if is_utf8 bytes then Some (debug_printed bytes) else bytes_printed bytes

-- the child and its count
abbrev pub count_printed : List ℕ × ℕ → Option (List ℕ)
count_printed entry = child_printed entry.0 ++? Some (codes ": " ++ decimal entry.1)

abbrev pub count_debug_printed : List ℕ × ℕ → Option (List ℕ)
count_debug_printed entry =
    Some (codes "FacetCount { child: ") ++? child_debug_printed entry.0 ++? Some
    (codes ", count: " ++ decimal entry.1 ++ codes " }")
