use Rattle.std.proofs.Common.{◌≡◌, ◌∷◌, ap, rules}
use Rattle.std.specs.List.{flat_map}
use Rattle.std.proofs.lemmas.Result.{err_from_is_err_and}
use Rattle.tv_base.proofs.Written.{Written-step, Written-fails}
use Rattle.tv_value.specs.PreTokenized.{tokens_left}
use Rattle.tv_format.specs.Short.{short_token}
use Rattle.tv_value.specs.TokenRef.{ref_of}
use Rattle.tv_writer.proofs.leaf_writer.write_tokens.Goals as goal

pub loop-token-preserved : goal.loop-token-preserved
loop-token-preserved g c =
    let l = c.loop-token in
    let cut : tokens_left l.token-iterator ≡ ref_of c.in-Some.token ∷ tokens_left c.next.new.self = search rules in
    Written-step _ _ (ap (flat_map short_token) cut) l.invariant c.in_ok-write_token.ensures

pub returns-in_err-write_token : goal.returns-in_err-write_token
returns-in_err-write_token g c =
    let p = err_from_is_err_and c.from_residual.result c.from_residual.ensures.1 in
    let l = c.loop-token in
    let cut : tokens_left l.token-iterator ≡ ref_of c.in-Some.token ∷ tokens_left c.next.new.self = search rules in
    rw (p.1, p.2, ← c.into_iter-token-iterator.ensures.into_iter_gives) (Written-fails _ _ (ap (flat_map short_token) cut) l.invariant c.in_err-write_token.ensures)
