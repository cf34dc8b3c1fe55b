use Rattle.std.proofs.Common.{◌≡◌, true, arith, rules}
use Rattle.std.proofs.lemmas.Grind.{common_steps}
use Rattle.std.specs.Str.{bytes_eq}
use Rattle.tv_heap.proofs.same.+same.Goals as goal
use Rattle.tv_heap.proofs.same.+same.Goals.{same_members-in-Some-lighter+else-not-same_pair, same_members-in_default-lighter}

pub same_members-loop-key-preserved : goal.same_members-loop-key-preserved
same_members-loop-key-preserved t c =
    let keys : bytes_eq c.in-Some.key.now c.in-Some-next.other_key.now ≡ true = search rules in
    elim c.match-lighter.branch [
      | same_members-in-Some-lighter+else-not-same_pair w ↦ record { same = grind (arith, common_steps); heaviest = grind (arith, common_steps); smaller = grind (arith, common_steps) }
      | same_members-in_default-lighter w ↦ record { same = grind (arith, common_steps); heaviest = grind (arith, common_steps); smaller = grind (arith, common_steps) }
    ]
