use Rattle.std.proofs.Common.{◌≡◌, Ok, refl, sym, ap, ◌∙◌}
use Rattle.tv_base.specs.Take.{read_stop}
use Rattle.tv_base.proofs.TakeSteps.{SoFar-start, SoFar-returns}
use Rattle.tv_format.specs.Tree.{Tree, leaf, null}
use Rattle.tv_reader.specs.Leaves.{leaf_at}
use Rattle.tv_reader.specs.Version.{version_of}
use Rattle.tv_value.specs.Lent.{tree_step}
use Rattle.tv_value.specs.Owned.{owned_tree}
use Rattle.tv_value.specs.declared.owned_value.OwnedValue.{fold-roll-OwnedValue}
use Rattle.tv_value.specs.declared.owned_value.OwnedValue.TheVariants as owned
use Rattle.tv_reader.proofs.value_type.take_leaf.Goals as goal

no_content : owned_tree owned.Null ≡ leaf null
no_content = ap owned_tree (sym owned.rolls-Null) ∙ fold-roll-OwnedValue Tree (λ x. tree_step x) _

pub returns-in-Null-clause-takes : goal.returns-in-Null-clause-takes
unfolding leaf_at
returns-in-Null-clause-takes g c =
    let read = leaf_at (version_of c.args.version) c.args.kind in
    SoFar-returns read_stop owned_tree owned.Null (λ w. ap (λ k. leaf_at (version_of c.args.version) k w) c.in-Null.is ∙ ap (λ t. Ok (t, w)) (sym no_content)) (SoFar-start _ _ _ _ _ read read (λ _. refl))
