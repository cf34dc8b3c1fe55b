use Rattle.std.proofs.Common.{◌∙◌, refl, ap, sym, arith, length}
use Rattle.tv_heap.specs.LeafBytes.{content_address, content_bytes}
use Rattle.tv_value.specs.LeafParts.{content_of}
use Rattle.tv_heap.proofs.TypeCodes.{leaf_code}
use Rattle.tv_heap.proofs.Writes.{wrote_as, wrote_parts}
use Rattle.tv_heap.specs.TypeCode.{type_code}
use Rattle.tv_heap.proofs.write.write_content.Goals as goal

pub returns-clause-ok : goal.returns-clause-ok
returns-clause-ok c =
    let held = content_of c.args.held in
    let bytes = c.in_ok-push_content.ensures in
    λ l typed holds. wrote_as (sym (ap type_code c.of_leaf.ensures ∙ leaf_code c.args.leaf_type)) (wrote_parts c.args.heap.now.items c.args.heap.now.items c.push_content.new.heap.items l held c.args.leaf_type c.content_address-address.result refl (sym holds) (sym typed) bytes.ok bytes.encodes
    (omega (arith, c.requires, ap (λ k. length (content_bytes k)) holds)) (c.content_address-address.ensures ∙ ap (λ n. content_address n held) c.len.ensures.len))
