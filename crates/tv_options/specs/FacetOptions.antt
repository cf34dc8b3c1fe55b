-- The options of a field of facets, as values.
use Rattle.std.specs.Prelude.{true, false, ◌||◌}
use Rattle.tv_options.specs.declared.facet_options.FacetOptions.{FacetOptions}

-- no flag is set
abbrev pub none : FacetOptions
none = record { stored = false }

abbrev pub only_stored : FacetOptions
only_stored = record none { stored = true }

-- what is set on the left or on the right
abbrev pub join : FacetOptions → FacetOptions → FacetOptions
join left right = record { stored = left.stored || right.stored }
