use Rattle.std.proofs.Common.{◌∙◌}
use Rattle.tv_format.specs.WriteVersion.{written_version}
use Rattle.tv_value.proofs.Found.{leaf_begins}
use Rattle.tv_reading.proofs.Walking.{leaf_is_value}
use Rattle.tv_reading.proofs.encoded.behind_leaf.Goals as goal

pub returns : goal.returns
returns c =
    let read = c.in_ok-_content.ensures in
    λ version. leaf_is_value (written_version version) _ _ (leaf_begins version c.in_ok-leaf_type.leaf_type _ _ _ _ c.in_ok-leaf_type.ensures.some (read.form ∙ c.form.ensures) read.found)
