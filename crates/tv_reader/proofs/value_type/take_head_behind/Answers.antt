use Rattle.std.proofs.Common.{refl, ap}
use Rattle.tv_base.specs.Take.{read_stop}
use Rattle.tv_base.proofs.TakeSteps.{SoFar-start, SoFar-returns}
use Rattle.tv_reader.specs.HeadReading.{head_part, head_at}
use Rattle.tv_reader.specs.Version.{version_of}
use Rattle.tv_reader.proofs.value_type.take_head_behind.Goals as goal

pub returns-in-PreTokStr-clause-takes : goal.returns-in-PreTokStr-clause-takes
unfolding head_at
returns-in-PreTokStr-clause-takes g c =
    let read = head_at (version_of c.args.version) c.args.kind in
    SoFar-returns read_stop head_part _ (λ w. ap (λ k. head_at (version_of c.args.version) k w) c.in-PreTokStr.is) (SoFar-start _ _ _ _ _ read read (λ _. refl))

pub returns-in-JSONObject-clause-takes : goal.returns-in-JSONObject-clause-takes
unfolding head_at
returns-in-JSONObject-clause-takes g c =
    let read = head_at (version_of c.args.version) c.args.kind in
    SoFar-returns read_stop head_part _ (λ w. ap (λ k. head_at (version_of c.args.version) k w) c.in-JSONObject.is) (SoFar-start _ _ _ _ _ read read (λ _. refl))

pub returns-in-Null-clause-takes : goal.returns-in-Null-clause-takes
unfolding head_at
returns-in-Null-clause-takes g c =
    let read = head_at (version_of c.args.version) c.args.kind in
    SoFar-returns read_stop head_part _ (λ w. ap (λ k. head_at (version_of c.args.version) k w) c.in-Null.is) (SoFar-start _ _ _ _ _ read read (λ _. refl))
