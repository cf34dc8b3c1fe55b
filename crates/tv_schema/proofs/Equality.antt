-- Types, entries and schemas are equal exactly where they are the same.
use Rattle.std.proofs.Common.{◌≡◌, ℕ, Bool, List, ap, ◌∙◌}
use Rattle.std.specs.Prelude.{Decides, nat_eq}
use Rattle.std.specs.Cmp.Lexicographic.{pointwise, pointwise_decides, bytes_decides}
use Rattle.std.specs.Ordering.{eq_of_both, on}
use Rattle.std.proofs.lemmas.Bool.Decides.{Decides-and, Decides-like}
use Rattle.tv_options.specs.declared.facet_options.FacetOptions.{FacetOptions}
use Rattle.tv_options.specs.declared.flag_options.FlagOptions.{FlagOptions}
use Rattle.tv_options.specs.declared.own_part.Coercion.{Coercion}
use Rattle.tv_options.specs.declared.own_part.DotExpansion.{DotExpansion}
use Rattle.tv_options.specs.declared.own_part.OfBytes.{OfBytes}
use Rattle.tv_options.specs.declared.own_part.OfIpAddrs.{OfIpAddrs}
use Rattle.tv_options.specs.declared.textual_options.TextualOptions.{TextualOptions}
use Rattle.tv_date.specs.declared.date_time.DateTimePrecision.{DateTimePrecision}
use Rattle.tv_field.specs.Entry.{Entry}
use Rattle.tv_field.specs.contracts.field_type.FieldTypePartialEq.TheImpl.{eq-value as type_eq}
use Rattle.tv_field.specs.declared.field_type.FieldType.{FieldType}
use Rattle.tv_field.specs.declared.field_type.FieldType.TheVariants as types

-- options of one type are equal exactly where they are the same
pub record OptionsDecide : Type 0 where
  pub texts : (a b : TextualOptions Coercion) → Decides (type_eq.it (types.Str a) (types.Str b)) (a ≡ b)
  pub numbers : (a b : FlagOptions Coercion) → Decides (type_eq.it (types.U64 a) (types.U64 b)) (a ≡ b)
  pub dates : (a b : FlagOptions DateTimePrecision) → Decides (type_eq.it (types.Date a) (types.Date b)) (a ≡ b)
  pub facets : (a b : FacetOptions) → Decides (type_eq.it (types.Facet a) (types.Facet b)) (a ≡ b)
  pub byte_strings : (a b : FlagOptions OfBytes) → Decides (type_eq.it (types.Bytes a) (types.Bytes b)) (a ≡ b)
  pub objects : (a b : TextualOptions DotExpansion) → Decides (type_eq.it (types.JsonObject a) (types.JsonObject b)) (a ≡ b)
  pub addresses : (a b : FlagOptions OfIpAddrs) → Decides (type_eq.it (types.IpAddr a) (types.IpAddr b)) (a ≡ b)

pub types_decide : OptionsDecide → (one other : FieldType) → Decides (type_eq.it one other) (one ≡ other)
types_decide o (types.Str a) (types.Str b) = Decides-like (type_eq.it (types.Str a) (types.Str b)) (λ e. ap types.Str e) (λ e. cc) (o.texts a b)
types_decide o (types.U64 a) (types.U64 b) = Decides-like (type_eq.it (types.U64 a) (types.U64 b)) (λ e. ap types.U64 e) (λ e. cc) (o.numbers a b)
types_decide o (types.I64 a) (types.I64 b) = Decides-like (type_eq.it (types.I64 a) (types.I64 b)) (λ e. ap types.I64 e) (λ e. cc) (o.numbers a b)
types_decide o (types.Bool a) (types.Bool b) = Decides-like (type_eq.it (types.Bool a) (types.Bool b)) (λ e. ap types.Bool e) (λ e. cc) (o.numbers a b)
types_decide o (types.Date a) (types.Date b) = Decides-like (type_eq.it (types.Date a) (types.Date b)) (λ e. ap types.Date e) (λ e. cc) (o.dates a b)
types_decide o (types.Facet a) (types.Facet b) = Decides-like (type_eq.it (types.Facet a) (types.Facet b)) (λ e. ap types.Facet e) (λ e. cc) (o.facets a b)
types_decide o (types.Bytes a) (types.Bytes b) = Decides-like (type_eq.it (types.Bytes a) (types.Bytes b)) (λ e. ap types.Bytes e) (λ e. cc) (o.byte_strings a b)
types_decide o (types.JsonObject a) (types.JsonObject b) = Decides-like (type_eq.it (types.JsonObject a) (types.JsonObject b)) (λ e. ap types.JsonObject e) (λ e. cc) (o.objects a b)
types_decide o (types.IpAddr a) (types.IpAddr b) = Decides-like (type_eq.it (types.IpAddr a) (types.IpAddr b)) (λ e. ap types.IpAddr e) (λ e. cc) (o.addresses a b)
types_decide o a b = (λ e. cc, λ e. cc)

abbrev entry_eq : Entry → Entry → Bool
entry_eq = eq_of_both (on (λ (entry : Entry). entry.name) (pointwise nat_eq)) (on (λ (entry : Entry). entry.field_type) type_eq.it)

whole_entry : (one other : Entry) → (one.name ≡ other.name) × (one.field_type ≡ other.field_type) → one ≡ other
whole_entry one other e =
    let made : List ℕ → FieldType → Entry = λ name field_type. record { name = name; field_type = field_type } in
    ap (λ name. made name one.field_type) e.0 ∙ ap (made other.name) e.1

pub entries_decide : OptionsDecide → (one other : Entry) → Decides (entry_eq one other) (one ≡ other)
entries_decide o one other =
    Decides-like (entry_eq one other) (whole_entry one other) (λ e. (ap (λ (entry : Entry). entry.name) e, ap (λ (entry : Entry). entry.field_type) e))
    (Decides-and (pointwise nat_eq one.name other.name) (type_eq.it one.field_type other.field_type) (bytes_decides one.name other.name) (types_decide o one.field_type other.field_type))

pub schemas_decide : OptionsDecide → (one other : List Entry) → Decides (pointwise entry_eq one other) (one ≡ other)
schemas_decide o = pointwise_decides (entries_decide o)
