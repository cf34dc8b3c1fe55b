use Rattle.std.proofs.Common.{ℕ, List, ap, refl, sym, ◌∙◌}
use Rattle.std.specs.Int.{to_be_bytes, w128}
use Rattle.std.specs.Net.Addr.{ipv6_bits}
use Rattle.tv_blocks.proofs.FieldValues.{leaf_appended}
use Rattle.tv_blocks.specs.declared.field_values.ValueKind.TheVariants as kinds
use Rattle.tv_format.specs.Tree.{bytes, facet, ip_address, leaf, text, unsigned}
use Rattle.tv_value.specs.Lent.{leaf_of}
use Rattle.tv_blocks.proofs.field_values.append_value.Goals as goal

pub returns-in-IpAddr : goal.returns-in-IpAddr
returns-in-IpAddr g c =
    let bits = ap (to_be_bytes w128) c.to_bits-bits.ensures in
    leaf_appended c.append_content-in-IpAddr.result c.args.values.now.items c.append_content-in-IpAddr.new.values.items c.args.document (g.V.Value.tree c.args.value) (ip_address (ipv6_bits c.in-IpAddr.address)) kinds.Address c.to_be_bytes.result
    (ap (λ l. leaf (leaf_of l)) (sym c.in-IpAddr.is) ∙ c.in-Leaf.ensures)
    (ap (λ (bytes : List ℕ). (kinds.Address, bytes)) (c.to_be_bytes.ensures ∙ bits))
    c.append_content-in-IpAddr.ensures

pub returns-in-U64 : goal.returns-in-U64
returns-in-U64 g c =
    leaf_appended c.append_content-in-U64.result c.args.values.now.items c.append_content-in-U64.new.values.items c.args.document (g.V.Value.tree c.args.value) (unsigned c.in-U64.number) kinds.Unsigned c.to_le_bytes.result
    (ap (λ l. leaf (leaf_of l)) (sym c.in-U64.is) ∙ c.in-Leaf.ensures)
    (ap (λ (bytes : List ℕ). (kinds.Unsigned, bytes)) c.to_le_bytes.ensures)
    c.append_content-in-U64.ensures

pub returns-in-Bytes : goal.returns-in-Bytes
returns-in-Bytes g c =
    leaf_appended c.append_content-in-Bytes.result c.args.values.now.items c.append_content-in-Bytes.new.values.items c.args.document (g.V.Value.tree c.args.value) (bytes c.in-Bytes.bytes.now) kinds.Bytes c.in-Bytes.bytes.now
    (ap (λ l. leaf (leaf_of l)) (sym c.in-Bytes.is) ∙ c.in-Leaf.ensures)
    (refl)
    c.append_content-in-Bytes.ensures

pub returns-in-Str : goal.returns-in-Str
returns-in-Str g c =
    leaf_appended c.append_content-in-Str.result c.args.values.now.items c.append_content-in-Str.new.values.items c.args.document (g.V.Value.tree c.args.value) (text c.in-Str.text.now) kinds.Text c.as_bytes.result.now
    (ap (λ l. leaf (leaf_of l)) (sym c.in-Str.is) ∙ c.in-Leaf.ensures)
    (ap (λ (bytes : List ℕ). (kinds.Text, bytes)) c.as_bytes.ensures.value)
    c.append_content-in-Str.ensures

pub returns-in-Facet : goal.returns-in-Facet
returns-in-Facet g c =
    leaf_appended c.append_content-in-Facet.result c.args.values.now.items c.append_content-in-Facet.new.values.items c.args.document (g.V.Value.tree c.args.value) (facet c.in-Facet.encoded.now) kinds.Facet c.as_bytes-in-Facet.result.now
    (ap (λ l. leaf (leaf_of l)) (sym c.in-Facet.is) ∙ c.in-Leaf.ensures)
    (ap (λ (bytes : List ℕ). (kinds.Facet, bytes)) c.as_bytes-in-Facet.ensures.value)
    c.append_content-in-Facet.ensures
