use Rattle.std.proofs.Common.{◌≡◌, ◌∷◌, ◌++◌, ap, rules}
use Rattle.std.specs.List.{flat_map}
use Rattle.tv_doc.specs.Document.{document_of}
use Rattle.tv_doc.specs.FieldValues.{values_left, values_of}
use Rattle.tv_heap.specs.Value.{tree_of}
use Rattle.tv_blocks.specs.FieldValues.{value_record}
use Rattle.tv_blocks.proofs.Queries.{record_of_first}
use Rattle.tv_blocks.proofs.field_values.append_document.Goals as goal

pub loop-value-init : goal.loop-value-init
loop-value-init c =
    let all : values_left c.into_iter-value-iterator.result ≡ values_of c.args.field.id (document_of c.args.document.now) = search rules in
    record { can_next = tt; is_finite = tt; so_far = ap (λ trees. c.args.values.now.items ++ flat_map (value_record c.args.number) trees) all }

pub loop-value-preserved : goal.loop-value-preserved
loop-value-preserved c =
    let l = c.loop-value in
    let cut : values_left l.value-iterator ≡ tree_of c.in-Some.value ∷ values_left c.next.new.self = search rules in
    record {
      can_next = tt;
      is_finite = tt;
      so_far = record_of_first (value_record c.args.number) _ _ _ (tree_of c.in-Some.value) _ _ cut l.invariant.so_far c.in_ok-append_value.ensures;
    }
