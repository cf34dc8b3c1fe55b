-- That an input is cut into lines in one way, and a run has one reading.
use Rattle.std.proofs.Common.{◌≡◌, ◌≢◌, ℕ, List, [], ◌∷◌, ◌++◌, All, refl, sym, ◌∙◌, subst}
use Rattle.std.proofs.lemmas.List.Elements.{All-head, All-tail}
use Rattle.tv_lines.proofs.RunPairs.{one_pair, some_bytes}
use Rattle.tv_lines.specs.Lines.{FirstLine, IsUnbroken, Lines}
use Rattle.tv_lines.specs.Lines.FirstLine.{ended, unended}
use Rattle.tv_lines.specs.Lines.Lines.{next_line, no_lines}
use Rattle.tv_lines.specs.TermRuns.{FitsRun, Pair, run_bytes}

feed_breaks : (line rest : List ℕ) → IsUnbroken (line ++ 10 ∷ rest) → ⊥
feed_breaks [] rest unbroken = unbroken.0 refl
feed_breaks (byte ∷ line) rest unbroken = feed_breaks line rest unbroken.1

same_line : (line other rest behind : List ℕ) → IsUnbroken line → IsUnbroken other → line ++ 10 ∷ rest ≡ other ++ 10 ∷ behind → (line ≡ other) × (rest ≡ behind)
same_line [] [] rest behind some any e = (refl, cc)
same_line [] (byte ∷ other) rest behind some any e = absurd (any.0 (cc))
same_line (byte ∷ line) [] rest behind some any e = absurd (some.0 (cc))
same_line (byte ∷ line) (first ∷ other) rest behind some any e =
    let here : byte ≡ first = cc in
    let more = same_line line other rest behind some.1 any.1 (cc) in
    (cc (here, more.0), more.1)

pub one_first : {input line other rest behind : List ℕ} → FirstLine input line rest → FirstLine input other behind → (line ≡ other) × (rest ≡ behind)
one_first (ended some e) (ended any f) = same_line _ _ _ _ some any (sym e ∙ f)
one_first (ended some e) (unended any f none) = absurd (feed_breaks _ _ (subst IsUnbroken (sym f ∙ e) any))
one_first (unended some e none) (ended any f) = absurd (feed_breaks _ _ (subst IsUnbroken (sym e ∙ f) some))
one_first (unended some e none) (unended any f empty) = (sym e ∙ f, none ∙ sym empty)

pub one_cutting : {input : List ℕ} {lines others : List (List ℕ)} → Lines input lines → Lines input others → lines ≡ others
one_cutting no_lines no_lines = refl
one_cutting no_lines (next_line some first more) = absurd (some refl)
one_cutting (next_line some first more) no_lines = absurd (some refl)
one_cutting (next_line some first more) (next_line {lines = others} any begin rest) =
    let one = one_first first begin in
    let lines = one_cutting more (subst (λ (l : List ℕ). Lines l others) (sym one.1) rest) in
    cc (one.0, lines)

pub one_run : (pairs others : List Pair) → All FitsRun pairs → All FitsRun others → run_bytes pairs ≡ run_bytes others → pairs ≡ others
one_run [] [] fits fit e = refl
one_run [] (q ∷ qs) fits fit e = absurd (some_bytes q (run_bytes qs) e)
one_run (p ∷ ps) [] fits fit e = absurd (some_bytes p (run_bytes ps) (sym e))
one_run (p ∷ ps) (q ∷ qs) fits fit e =
    let one = one_pair p q (run_bytes ps) (run_bytes qs) (All-head FitsRun p ps fits) (All-head FitsRun q qs fit) e in
    let more = one_run ps qs (All-tail FitsRun p ps fits) (All-tail FitsRun q qs fit) one.1 in
    cc (one.0, more)
