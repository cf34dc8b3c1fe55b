use Rattle.std.proofs.Common.{◌∙◌, refl, ap, sym}
use Rattle.tv_heap.specs.LeafBytes.{content_address}
use Rattle.tv_value.specs.LeafParts.{content_of}
use Rattle.tv_value.specs.Lent.{leaf_of}
use Rattle.tv_heap.proofs.TypeCodes.{leaf_code}
use Rattle.tv_heap.proofs.Writes.{wrote_as, wrote_parts}
use Rattle.tv_heap.specs.TypeCode.{type_code}
use Rattle.tv_heap.proofs.write.write_leaf.Goals as goal

pub returns-clause-ok : goal.returns-clause-ok
returns-clause-ok c =
    let held = content_of c.content-content.result in
    let bytes = c.in_ok-push_content.ensures in
    wrote_as (sym (ap type_code c.of_leaf.ensures ∙ leaf_code c.leaf_type.result)) (wrote_parts c.args.heap.now.items c.args.heap.now.items c.push_content.new.heap.items (leaf_of c.args.value.now) held c.leaf_type.result c.content_address-address.result refl c.content-content.ensures c.leaf_type.ensures bytes.ok bytes.encodes c.requires
    (c.content_address-address.ensures ∙ ap (λ n. content_address n held) c.len.ensures.len))
