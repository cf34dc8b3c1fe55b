-- The versions that are written, among all.
use Rattle.std.specs.Prelude.{ℕ}
use Rattle.tv_format.specs.Version.{Version, V2, V3}
use Rattle.tv_format.specs.declared.leaf_type.WriteVersion.{WriteVersion}
use Rattle.tv_format.specs.declared.leaf_type.WriteVersion.TheVariants as versions

abbrev pub written_version : WriteVersion → Version
written_version versions.V2 = V2
written_version versions.V3 = V3

-- their numbers
abbrev pub version_number : WriteVersion → ℕ
version_number versions.V2 = 2
version_number versions.V3 = 3
