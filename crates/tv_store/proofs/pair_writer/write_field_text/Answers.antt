use Rattle.std.proofs.Common.{◌++◌, sym, ap, ◌∙◌}
use Rattle.tv_base.specs.Number.{four_bytes}
use Rattle.tv_base.proofs.Written.{Writes_then, Writes_as}
use Rattle.tv_value.specs.Lent.{tree_of}
use Rattle.tv_format.specs.Short.{short}
use Rattle.tv_store.specs.Stored.{tree_written}
use Rattle.tv_store.proofs.pair_writer.write_field_text.Goals as goal

pub returns : goal.returns
returns g c = λ v.
    let tree = sym c.as_value.ensures ∙ ap (tree_of (λ s. s.held.0) (λ s. s.held.0)) c.in-Leaf.is in
    Writes_as (Writes_then _ _ c.in_ok-write_u32.ensures c.write_stored_leaf.ensures) (λ i. four_bytes (c.field_id.ensures i) ++ short v (tree_written (sym tree i)))
