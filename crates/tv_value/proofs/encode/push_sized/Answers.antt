use Rattle.std.proofs.Common.{◌++◌, length, ap, sym}
use Rattle.tv_base.proofs.Growing.{extends_ok, extends_within}
use Rattle.tv_base.proofs.Numbers.{vnum-small}
use Rattle.tv_value.proofs.encode.push_sized.Goals as goal

pub returns-then-len-lt128-clause-ok : goal.returns-then-len-lt128-clause-ok
returns-then-len-lt128-clause-ok c =
    extends_ok c.extend_from_head.result _ _ (ap (λ z. z ++ c.args.content.now) (sym (vnum-small (length c.args.content.now) c.if-len-lt128.true))) c.extend_from_head.ensures

pub returns-then-len-lt128-clause-grows : goal.returns-then-len-lt128-clause-grows
returns-then-len-lt128-clause-grows c =
    extends_within c.extend_from_head.result _ _ (ap (λ z. z ++ c.args.content.now) (sym (vnum-small (length c.args.content.now) c.if-len-lt128.true))) c.extend_from_head.ensures
