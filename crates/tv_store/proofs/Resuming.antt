-- Readers that may have failed before, and then return one error again and again.
use Rattle.std.proofs.Common.{◌≡◌, ℕ, Bool, true, false, List, Result, Ok, Err, ◌⊎◌, inl, inr}
use Rattle.std.specs.Prelude.{IfErr}
use Rattle.tv_base.specs.declared.source.ByteSource.{Ghosts}
use Rattle.tv_base.specs.ReadsAs.{Errors, Grammar, IsReadUnless, Reads}
use Rattle.tv_base.specs.Source.{Failures}
use Rattle.tv_base.specs.Stop.{CountsBy}
use Rattle.tv_store.specs.Reading.{resumed}

read_unless : {X Y E : Type 0} {P Q : E → Type 0} (view : X → Y) (result : Result X E) (y : Y) (rest left : List ℕ) → ((e : E) → P e → Q e) → IsReadUnless P view result y rest left → IsReadUnless Q view result y rest left
read_unless view (Ok x) y rest left to h = h
read_unless view (Err e) y rest left to h = to e h

may_come : {X E : Type 0} {P Q : E → Type 0} (result : Result X E) → ((e : E) → P e → Q e) → IfErr result P → IfErr result Q
may_come (Ok x) to h = tt
may_come (Err e) to h = to e h

counts_by : {X E : Type 0} (P Q : E → Failures → Failures → Type 0) (result : Result X E) (old new : Failures) → ((e : E) → P e old new → Q e old new) → CountsBy P result old new → CountsBy Q result old new
counts_by P Q (Ok x) old new to h = h
counts_by P Q (Err e) old new to h = to e h

module _ {R E Y S X : Type 0} {grammar : Grammar R Y} {source : Ghosts S} {view : X → Y} {old new : S} {result : Result X E} (kind : Errors R E) (again : E) where
  -- a reader that had not failed
  pub reads_on : (failed : Bool) → Reads kind grammar source old new view result → Reads (resumed failed again kind) grammar source old new view result
  reads_on failed r = record {
    found = r.found;
    only = λ known y prefix rest joined encoded room. read_unless view result y rest (source.left new) (λ e h. inl h) (r.only known y prefix rest joined encoded room);
    error = r.error;
    shows = r.shows;
    too_long = r.too_long;
    ends_early = r.ends_early;
    no_room = r.no_room;
    errors = may_come result (λ e h. inl h) r.errors;
    taken = r.taken;
    failures = counts_by kind.IsCounted (resumed failed again kind).IsCounted result (source.failures old) (source.failures new) (λ e h. inl h) r.failures;
    stays_known = r.stays_known;
  }

  -- what it had not failed for
  pub reads_live : {failed : Bool} → failed ≡ false → Reads (resumed failed again kind) grammar source old new view result → Reads kind grammar source old new view result
  reads_live {failed = failed} not_failed r = record {
    found = r.found;
    only = λ known y prefix rest joined encoded room. read_unless view result y rest (source.left new) (λ e h. one_of h) (r.only known y prefix rest joined encoded room);
    error = r.error;
    shows = r.shows;
    too_long = r.too_long;
    ends_early = r.ends_early;
    no_room = r.no_room;
    errors = may_come result (λ e h. one_of h) r.errors;
    taken = r.taken;
    failures = counts_by (resumed failed again kind).IsCounted kind.IsCounted result (source.failures old) (source.failures new) (λ e h. one_of h) r.failures;
    stays_known = r.stays_known;
  }
    where
      one_of : {P Q : Type 0} → P ⊎ ((failed ≡ true) × Q) → P
      one_of (inl p) = p
      one_of (inr q) = absurd (cc)
