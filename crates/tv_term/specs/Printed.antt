-- A term as `Debug` prints it. 46 is the dot, and 1 stands between the segments of a path.
use Rattle.std.specs.Prelude.{ℕ, ◌==◌, if◌then◌else◌, Bool, List, [], ◌∷◌, ◌++◌, Option, None, Some, codes}
use Rattle.std.specs.Prelude.{slice_index}
use Rattle.std.specs.List.{flat_map}
use Rattle.std.specs.Fmt.{◌++?◌, debug_list, debug_str, decimal, signed_decimal}
use Rattle.std.specs.Int.{w128, to_be_bytes}
use Rattle.std.specs.Net.Addr.{segments_of}
use Rattle.std.specs.Net.Text.{ipv6_text}
use Rattle.std.specs.Option.{option_and_then, option_map}
use Rattle.std.specs.Str.{is_utf8}
use Rattle.tv_base.specs.Facet.{debug_printed}
use Rattle.tv_date.specs.Printed.{moment_text}
use Rattle.tv_options.specs.Types.{type_name}
use Rattle.tv_options.specs.declared.types.TypeTag.{TypeTag}
use Rattle.tv_options.specs.declared.types.TypeTag.TheVariants as tag
use Rattle.tv_term.specs.Reading.{address_of, field_of, is_true, json_parts, json_path, number_of, payload_of}
use Rattle.tv_term.specs.Reading.{signed_at, type_at, value_behind, value_of}

-- what is printed of what was found, and nothing of nothing
abbrev pub printed_or_nothing : {A : Type 0} → (A → Option (List ℕ)) → Option A → Option (List ℕ)
printed_or_nothing print None = Some []
printed_or_nothing print (Some found) = print found

-- the bytes, if they are a text
abbrev pub text_if_utf8 : List ℕ → Option (List ℕ)
text_if_utf8 bytes = if is_utf8 bytes then Some bytes else None

-- a truth value
abbrev pub truth_printed : Bool → Option (List ℕ)
truth_printed truth = Some (if truth then codes "true" else codes "false")

-- The value that the bytes of this type are, and nothing where they are none. How a text is printed that
-- isn't ASCII is not said.
abbrev pub value_printed : Option TypeTag → List ℕ → Option (List ℕ)
value_printed (Some tag.Str) bytes = printed_or_nothing debug_str
    (option_and_then text_if_utf8 (payload_of tag.Str bytes))
value_printed (Some tag.U64) bytes = printed_or_nothing (λ n. Some (decimal n)) (number_of tag.U64 bytes)
value_printed (Some tag.I64) bytes = printed_or_nothing (λ z. Some (signed_decimal z))
    (option_map signed_at (number_of tag.I64 bytes))
value_printed (Some tag.Bool) bytes = printed_or_nothing truth_printed
    (option_map is_true (number_of tag.Bool bytes))
value_printed (Some tag.Date) bytes = printed_or_nothing (λ z. Some (moment_text z))
    (option_map signed_at (number_of tag.Date bytes))
value_printed (Some tag.Facet) bytes = printed_or_nothing (λ text. Some (debug_printed text))
    (option_and_then text_if_utf8 (payload_of tag.Facet bytes))
value_printed (Some tag.Bytes) bytes = printed_or_nothing (debug_list (λ b. Some (decimal b)))
    (payload_of tag.Bytes bytes)
value_printed (Some tag.IpAddr) bytes =
    printed_or_nothing (λ segments. Some (ipv6_text segments))
    (option_map (λ n. segments_of (to_be_bytes w128 n)) (address_of bytes))
value_printed (Some tag.Json) bytes = Some []
value_printed None bytes = Some []

-- the name of the type, or the number of a code that no type has
abbrev pub type_printed : Option TypeTag → ℕ → List ℕ
type_printed None code = codes "type=" ++ decimal code
type_printed (Some found) code = codes "type=" ++ type_name found ++ codes ", "

-- the type, and the value
abbrev pub typed_printed : List ℕ → Option (List ℕ)
typed_printed bytes = Some (type_printed (type_at bytes) (slice_index bytes 0)) ++? value_printed
    (type_at bytes) bytes

-- a dot stands for what is between two segments
abbrev pub dot_or_byte : ℕ → List ℕ
dot_or_byte b = if b == 1 then 46 ∷ [] else b ∷ []

abbrev pub path_printed : List ℕ → List ℕ
path_printed path = flat_map dot_or_byte path

-- a value of a JSON field is a path and the value there, if the path is a text
abbrev pub content_printed : Option (List ℕ) → List ℕ → Option (List ℕ)
content_printed None bytes = value_printed (type_at bytes) bytes
content_printed (Some path) bytes = Some (codes "path=" ++ path_printed path
    ++ codes ", ") ++? printed_or_nothing typed_printed (value_behind (json_parts bytes))

-- the field, the type, and the value
abbrev pub term_printed : List ℕ → Option (List ℕ)
term_printed bytes =
    let value = value_of bytes in
    Some (codes "Term(field=" ++ decimal (field_of bytes) ++ codes ", ")
    ++? Some (type_printed (type_at value) (slice_index value 0))
    ++? content_printed (option_and_then text_if_utf8 (json_path value)) value
    ++? Some (codes ")")
