-- The types of the values of fields, with their codes and names.
use Rattle.std.specs.Prelude.{ℕ, List, [], ◌∷◌, Option, None, Some, codes, if◌then◌else◌, ◌==◌}
use Rattle.tv_options.specs.declared.types.TypeTag.{TypeTag}
use Rattle.tv_options.specs.declared.types.TypeTag.TheVariants.{Str, U64, I64, Bool, Date, Facet, Bytes, Json}
use Rattle.tv_options.specs.declared.types.TypeTag.TheVariants.{IpAddr}

abbrev pub all_types : List TypeTag
all_types = Str ∷ U64 ∷ I64 ∷ Bool ∷ Date ∷ Facet ∷ Bytes ∷ Json ∷ IpAddr ∷ []

-- the letters s, u, i, o, d, h, b, j and p
abbrev pub code : TypeTag → ℕ
code Str = 115
code U64 = 117
code I64 = 105
code Bool = 111
code Date = 100
code Facet = 104
code Bytes = 98
code Json = 106
code IpAddr = 112

-- the first type of the list that has the code
abbrev pub type_among : List TypeTag → ℕ → Option TypeTag
type_among [] wanted = None
type_among (type_tag ∷ others) wanted = if code type_tag == wanted then Some type_tag
    else type_among others wanted

abbrev pub type_of_code : ℕ → Option TypeTag
type_of_code wanted = type_among all_types wanted

abbrev pub type_name : TypeTag → List ℕ
type_name Str = codes "Str"
type_name U64 = codes "U64"
type_name I64 = codes "I64"
type_name Bool = codes "Bool"
type_name Date = codes "Date"
type_name Facet = codes "Facet"
type_name Bytes = codes "Bytes"
type_name Json = codes "Json"
type_name IpAddr = codes "IpAddr"
