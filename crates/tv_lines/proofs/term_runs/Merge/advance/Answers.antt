use Rattle.std.proofs.Common.{◌≡◌, ℕ, List, Some, Err, length, drop, subst, sym, arith}
use Rattle.std.proofs.lemmas.List.{take_at}
use Rattle.std.proofs.lemmas.Result.{err_from_is_err_and}
use Rattle.tv_lines.specs.TermRuns.{CountsMerge, IsLeastRead}
use Rattle.tv_lines.proofs.Merging.{all_taken, least_begins, rises_on}
use Rattle.tv_lines.specs.declared.term_runs.RunReader.{RunReader}
use Rattle.tv_lines.proofs.term_runs.Merge.advance.Goals as goal

pub returns-in_default-clause-merges : goal.returns-in_default-clause-merges
returns-in_default-clause-merges g c = λ runs h. (all_taken g.S.ByteSource c.args.self.now.readers.items runs h (rw c.as_slice.ensures.value at c.in_default.ensures), h)

pub returns-in_err-self-clause-failures : goal.returns-in_err-self-clause-failures
returns-in_err-self-clause-failures g c =
    let p = err_from_is_err_and c.from_residual-in_err-self.result c.from_residual-in_err-self.ensures.1 in
    let new = c.take_term.new.readers in
    let long : length new ≡ c.args.self.now.readers.len = omega arith in
    let all = take_at new (drop (length new) c.args.self.now.readers.items) c.args.self.now.readers.len long in
    let e = c.in_err-self.field-0.0 in
    let P : List (RunReader g.row.S.Denot) → Type 0 = λ old. CountsMerge {T = ℕ} g.S.ByteSource old new (Err e) in
    rw (all, p.1, p.2) (subst P c.as_mut_slice.ensures.value c.in_err-self.ensures.failures)

pub returns-clause-merges : goal.returns-clause-merges
returns-clause-merges g c = λ runs h.
    let source = g.S.ByteSource in
    let readers = c.args.self.now.readers.items in
    let new = c.take_term.new.readers in
    let long : length new ≡ c.args.self.now.readers.len = omega arith in
    let all = take_at new (drop (length new) readers) c.args.self.now.readers.len long in
    let term = c.put_term.new.term.items in
    let read : IsLeastRead readers (Some term) = subst (λ (t : List ℕ). IsLeastRead readers (Some t)) (sym c.in_ok-put_term.ensures) (rw c.as_slice.ensures.value at c.in-Some.ensures) in
    let least = least_begins source readers runs h term read in
    let takes = rw c.as_slice-2.ensures.value at (c.in_ok-self.ensures.takes runs (rw c.as_mut_slice.ensures.value h)) in
    (least, takes.0, rw all takes.1, rises_on term runs least.least)

pub returns-clause-failures : goal.returns-clause-failures
returns-clause-failures g c =
    let new = c.take_term.new.readers in
    let long : length new ≡ c.args.self.now.readers.len = omega arith in
    let all = take_at new (drop (length new) c.args.self.now.readers.items) c.args.self.now.readers.len long in
    rw all (rw c.as_mut_slice.ensures.value at c.in_ok-self.ensures.failures)
