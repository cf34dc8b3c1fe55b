use Rattle.std.proofs.Common.{length, ap, subst, sym, ◌∙◌, arith, vec_len}
use Rattle.tv_lines.specs.Lines.{IsUnbroken}
use Rattle.tv_lines.specs.Reader.{unread}
use Rattle.tv_lines.proofs.LineSteps.{all-read, cut-more, is_empty, line-ended, line-unended, more-read, no-line, not_empty, nothing, unbroken-append}
use Rattle.tv_lines.proofs.Taking.{taken_more}
use Rattle.tv_lines.proofs.line_reader.LineReader.take_line.Goals as goal

pub returns-in_err-take_ready-clause-taken : goal.returns-in_err-take_ready-clause-taken
returns-in_err-take_ready-clause-taken g c = λ s. taken_more _ _ _ _ _ _ (c.pieces.invariant.taken s) (c.in_err-take_ready.ensures.taken (c.pieces.invariant.stays_known s))

pub returns-then-branch-clause-taken : goal.returns-then-branch-clause-taken
returns-then-branch-clause-taken g c = λ s. taken_more _ _ _ _ _ _ (c.pieces.invariant.taken s) (c.in_ok-take_ready.ensures.taken (c.pieces.invariant.stays_known s))

pub returns-in_err-fill-clause-taken : goal.returns-in_err-fill-clause-taken
returns-in_err-fill-clause-taken g c = λ s.
    let known = c.pieces.invariant.stays_known s in
    taken_more _ _ _ _ _ _ (c.pieces.invariant.taken s) (taken_more _ _ _ _ _ _ (c.in_ok-take_ready.ensures.taken known) (c.in_err-fill.ensures.taken (c.in_ok-take_ready.ensures.is_known known)))

pub returns-then-is_empty-clause-taken : goal.returns-then-is_empty-clause-taken
returns-then-is_empty-clause-taken g c = λ s.
    let known = c.pieces.invariant.stays_known s in
    taken_more _ _ _ _ _ _ (c.pieces.invariant.taken s) (taken_more _ _ _ _ _ _ (c.in_ok-take_ready.ensures.taken known) (c.in_ok-fill.ensures.taken (c.in_ok-take_ready.ensures.is_known known)))

pub returns-else-is_empty-clause-taken : goal.returns-else-is_empty-clause-taken
returns-else-is_empty-clause-taken g c = λ s.
    let known = c.pieces.invariant.stays_known s in
    taken_more _ _ _ _ _ _ (c.pieces.invariant.taken s) (taken_more _ _ _ _ _ _ (c.in_ok-take_ready.ensures.taken known) (c.in_ok-fill.ensures.taken (c.in_ok-take_ready.ensures.is_known known)))

pub returns-then-branch-clause-takes : goal.returns-then-branch-clause-takes
returns-then-branch-clause-takes g c = λ s.
    let i = c.pieces.invariant in
    line-ended _ _ _ _ _ _ (i.unbroken s) (i.cut s) (rw c.if-branch.true at c.in_ok-take_ready.ensures.moves (i.stays_known s)) (omega (arith, c.len.ensures, c.take_ready.new.line.ok.0))

pub returns-then-is_empty-clause-takes : goal.returns-then-is_empty-clause-takes
returns-then-is_empty-clause-takes g c = λ s.
    let i = c.pieces.invariant in
    let known = i.stays_known s in
    let none = rw c.if-not-branch.true at c.in_ok-fill.ensures.fills (c.in_ok-take_ready.ensures.is_known known) in
    let all = all-read (unread c.take_ready.new.self) (g.S.ByteSource.left c.take_ready.new.source) (unread c.fill.new.self) (g.S.ByteSource.left c.fill.new.source) (c.in_ok-take_ready.ensures.none c.if-branch.false) none.0 none.2 none.1 in
    no-line _ _ _ (cut-more _ _ _ _ _ _ (i.cut s) (rw c.if-branch.false at c.in_ok-take_ready.ensures.moves known) all) (nothing _ _ none.2 none.1) (is_empty _ (vec_len c.take_ready.new.line) (omega (arith, c.take_ready.new.line.ok.0)) (sym c.if-is_empty.true ∙ c.is_empty.ensures))

pub returns-else-is_empty-clause-takes : goal.returns-else-is_empty-clause-takes
returns-else-is_empty-clause-takes g c = λ s.
    let i = c.pieces.invariant in
    let known = i.stays_known s in
    let moves = rw c.if-branch.false at c.in_ok-take_ready.ensures.moves in
    let none = rw c.if-not-branch.true at c.in_ok-fill.ensures.fills (c.in_ok-take_ready.ensures.is_known known) in
    let all = all-read (unread c.take_ready.new.self) (g.S.ByteSource.left c.take_ready.new.source) (unread c.fill.new.self) (g.S.ByteSource.left c.fill.new.source) (c.in_ok-take_ready.ensures.none c.if-branch.false) none.0 none.2 none.1 in
    line-unended _ _ _ _ (subst IsUnbroken (sym (moves known).3) (unbroken-append _ _ (i.unbroken s) (moves known).1)) (cut-more _ _ _ _ _ _ (i.cut s) (moves known) all)
    (nothing _ _ none.2 none.1) (not_empty _ (vec_len c.take_ready.new.line) (omega (arith, c.take_ready.new.line.ok.0)) (sym c.if-is_empty.false ∙ c.is_empty.ensures)) (omega (arith, c.len-else-is_empty.ensures, c.take_ready.new.line.ok.0))

pub pieces-smaller : goal.pieces-smaller
pieces-smaller g c = omega (arith, c.in_ok-fill.ensures.fewer, c.if-not-branch.false, c.in_ok-take_ready.ensures.grows)

pub pieces-preserved : goal.pieces-preserved
pieces-preserved g c =
    let i = c.pieces.invariant in
    let moves = rw c.if-branch.false at c.in_ok-take_ready.ensures.moves in
    let none = c.in_ok-take_ready.ensures.none c.if-branch.false in
    record {
      unbroken = λ s. subst IsUnbroken (sym (moves (i.stays_known s)).3) (unbroken-append _ _ (i.unbroken s) (moves (i.stays_known s)).1);
      cut = λ s.
          let known = i.stays_known s in
          cut-more _ _ _ _ _ _ (i.cut s) (moves known) (more-read (unread c.take_ready.new.self) (g.S.ByteSource.left c.take_ready.new.source) (unread c.fill.new.self) (g.S.ByteSource.left c.fill.new.source) none (rw c.if-not-branch.false at c.in_ok-fill.ensures.fills (c.in_ok-take_ready.ensures.is_known known)));
      stays_known = λ s. c.in_ok-fill.ensures.source.is_known (c.in_ok-take_ready.ensures.is_known (i.stays_known s));
      same_failures = c.in_ok-fill.ensures.source.failures ∙ c.in_ok-take_ready.ensures.failures ∙ i.same_failures;
      taken = λ s.
          let known = i.stays_known s in
          taken_more _ _ _ _ _ _ (i.taken s) (taken_more _ _ _ _ _ _ (c.in_ok-take_ready.ensures.taken known) (c.in_ok-fill.ensures.taken (c.in_ok-take_ready.ensures.is_known known)));
      fewer = omega (arith, i.fewer, c.in_ok-take_ready.ensures.most, c.in_ok-fill.ensures.most, ap length none);
    }
