use Rattle.std.proofs.Common.{rules, arith, ap, ◌∙◌, sym}
use Rattle.tv_base.proofs.TakeSteps.{failed_since}
use Rattle.tv_base.proofs.Pieces.{fills_more, is_full_taken, too_few, ends_early, none_read, given_still, taken_so_far}
use Rattle.tv_base.specs.Reading.{bytes_at}
use Rattle.tv_base.proofs.take.take_by_reads.Goals as goal

pub returns-then-room-eq0-clause-takes : goal.returns-then-room-eq0-clause-takes
returns-then-room-eq0-clause-takes g c =
    let l = c.loop-filled in
    let before = l.invariant in
    record {
      gives = λ told taken joined. (omega arith, too_few l.filled _ l.buf _ taken _ (omega arith) before.within (before.given told) joined);
      taken = λ told. taken_so_far _ _ _ before.within before.taken (before.given told);
      stays_known = before.stays_known;
      counts = before.counts;
      count_grows = omega (arith, before.taken);
      may_stop = (omega arith, λ is. cc);
    }

pub returns-in-Ok-eq0-clause-takes : goal.returns-in-Ok-eq0-clause-takes
returns-in-Ok-eq0-clause-takes g c =
    let l = c.loop-filled in
    let before = l.invariant in
    let read = λ (told : g.S.ByteSource.is_known c.args.source.now). c.in-Ok-eq0.ensures.bytes (before.stays_known told) in
    let same = λ (told : g.S.ByteSource.is_known c.args.source.now). none_read _ _ _ _ c.in-Ok-eq0.field-0-test (read told).0 in
    let given = λ (told : g.S.ByteSource.is_known c.args.source.now). given_still _ _ _ _ (before.given told) (same told) in
    record {
      gives = λ told taken joined. sym (ap (bytes_at _) joined) ∙ ends_early l.filled _ l.buf _ _ (omega arith) before.within (given told) (sym (same told) ∙ (read told).1 c.in-Ok-eq0.field-0-test (omega arith));
      taken = λ told. taken_so_far _ _ _ before.within before.taken (given told);
      stays_known = λ told. c.in-Ok-eq0.ensures.is_known (before.stays_known told);
      counts = c.in-Ok-eq0.ensures.failures ∙ before.counts;
      count_grows = omega (arith, before.taken);
      may_stop = (tt, λ is. cc);
    }

pub loop-filled-preserved : goal.loop-filled-preserved
loop-filled-preserved g c =
    let l = c.loop-filled in
    let before = l.invariant in
    record {
      within = search rules;
      same_length = search rules;
      given = λ told. fills_more l.filled _ c.in-Ok.more l.buf c.read.new.buf _ _ _ before.within c.in-Ok.ensures.bound (before.given told) (c.in-Ok.ensures.bytes (before.stays_known told)).0;
      stays_known = λ told. c.in-Ok.ensures.is_known (before.stays_known told);
      counts = c.in-Ok.ensures.failures ∙ before.counts;
      taken = omega arith;
    }

pub returns-clause-takes : goal.returns-clause-takes
returns-clause-takes g c =
    let l = c.loop-filled in
    let before = l.invariant in
    record {
      gives = λ told taken joined behind. is_full_taken l.filled _ l.buf _ taken _ behind c.loop-filled-test.false (omega arith) (before.given told) joined;
      taken = λ told. taken_so_far _ _ _ before.within before.taken (before.given told);
      stays_known = before.stays_known;
      counts = before.counts;
      count_grows = omega (arith, before.taken);
      may_stop = tt;
    }

pub returns-in-Err-clause-takes : goal.returns-in-Err-clause-takes
returns-in-Err-clause-takes g c =
    let l = c.loop-filled in
    let before = l.invariant in
    record {
      gives = λ told taken joined. tt;
      taken = λ told. taken_so_far _ _ _ before.within before.taken (given_still _ _ _ _ (before.given told) (sym (c.in-Err.ensures.bytes (before.stays_known told))));
      stays_known = λ told. c.in-Err.ensures.is_known (before.stays_known told);
      counts = failed_since before.counts c.in-Err.ensures.failures;
      count_grows = omega (arith, before.taken);
      may_stop = (tt, λ is. cc);
    }
