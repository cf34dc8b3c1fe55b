-- Options made of four flags and a part that is the type's own, as values.
use Rattle.std.specs.Prelude.{true, false, ◌||◌}
use Rattle.tv_options.specs.declared.flag_options.FlagOptions.{FlagOptions}

-- no flag is set
abbrev pub none : {Part : Type 0} → Part → FlagOptions Part
none part = record { indexed = false; fieldnorms = false; fast = false; stored = false; part = part }

abbrev pub only_stored : {Part : Type 0} → Part → FlagOptions Part
only_stored part = record (none part) { stored = true }

-- with field norms, the lengths of fields by which answers are weighed
abbrev pub only_indexed : {Part : Type 0} → Part → FlagOptions Part
only_indexed part = record (none part) { indexed = true; fieldnorms = true }

abbrev pub only_fast : {Part : Type 0} → Part → FlagOptions Part
only_fast part = record (none part) { fast = true }

-- what is set on the left or on the right, and their own parts joined so
abbrev pub join : {Part : Type 0} → (Part → Part → Part) → FlagOptions Part → FlagOptions Part
    → FlagOptions Part
join join_part left right = record {
  indexed = left.indexed || right.indexed;
  fieldnorms = left.fieldnorms || right.fieldnorms;
  fast = left.fast || right.fast;
  stored = left.stored || right.stored;
  part = join_part left.part right.part;
}
