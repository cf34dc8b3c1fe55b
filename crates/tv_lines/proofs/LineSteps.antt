-- How a line is taken in pieces, and that any input has lines and answers.
use Rattle.std.proofs.Common.{◌≡◌, ◌≢◌, ◌==◌, ℕ, Bool, true, false, List, [], ◌∷◌, ◌++◌, Some, None, ◌+◌, length, refl, sym, ap, ◌∙◌, subst, append_assoc, append-nil, arith, length-append}
use borrow.Author.Tests.{eqb-true, eqb-false}
use Rattle.std.proofs.Math.Dec.{eqb}
use Rattle.tv_lines.specs.Lines.{IsUnbroken, FirstLine, Lines}
use Rattle.tv_lines.specs.Lines.FirstLine.{ended, unended}
use Rattle.tv_lines.specs.Lines.Lines.{no_lines, next_line}
use Rattle.tv_lines.specs.Reader.{MovesLine, TakesLine}

feed_there : (line rest : List ℕ) {input : List ℕ} → input ≡ line ++ 10 ∷ rest → input ≢ []
feed_there [] rest is = λ e. cc
feed_there (b ∷ bs) rest is = λ e. cc

pub unbroken-append : (xs ys : List ℕ) → IsUnbroken xs → IsUnbroken ys → IsUnbroken (xs ++ ys)
unbroken-append [] ys g h = h
unbroken-append (x ∷ xs) ys g h = (g.0, unbroken-append xs ys g.1 h)

-- ---- taking a line

-- nothing of the line was moved, or more of it: what is left of the input
pub cut-more : (input line line' ready ready' left : List ℕ) → input ≡ line ++ ready → MovesLine ready ready' line line' false → ready' ≡ left → input ≡ line' ++ left
cut-more input line line' ready ready' left cut moves is =
    cut ∙ ap (λ (l : List ℕ). line ++ l) moves.2 ∙ sym (append_assoc line moves.0 ready') ∙ ap (λ (l : List ℕ). l ++ ready') (sym moves.3) ∙ ap (λ (l : List ℕ). line' ++ l) is

-- the line ends at a line feed
pub line-ended : (input line line' ready rest : List ℕ) (count : ℕ) → IsUnbroken line → input ≡ line ++ ready → MovesLine ready rest line line' true → count ≡ length line' + 1 → TakesLine input line' rest (Some count)
line-ended input line line' ready rest count unbroken cut moves long =
    let is : input ≡ line' ++ 10 ∷ rest = cut ∙ ap (λ (l : List ℕ). line ++ l) moves.2 ∙ sym (append_assoc line moves.0 (10 ∷ rest)) ∙ ap (λ (l : List ℕ). l ++ 10 ∷ rest) (sym moves.3) in (
      feed_there line' rest is,
      ended (subst IsUnbroken (sym moves.3) (unbroken-append line moves.0 unbroken moves.1)) is,
      omega (arith, long, ap length is, length-append line' (10 ∷ rest)),
    )

-- what was read is what was left, also where nothing was
pub more-read : (mid left read left' : List ℕ) → mid ≡ [] → left ≡ read ++ left' → mid ++ left ≡ read ++ left'
more-read mid left read left' none is = ap (λ (l : List ℕ). l ++ left) none ∙ is

pub all-read : (mid left read left' : List ℕ) → mid ≡ [] → left ≡ [] → read ≡ [] → left' ≡ [] → mid ++ left ≡ read ++ left'
all-read mid left read left' none gone unread nothing_left = ap (λ (l : List ℕ). l ++ left) none ∙ gone ∙ sym nothing_left ∙ ap (λ (l : List ℕ). l ++ left') (sym unread)

pub nothing : (read left : List ℕ) → read ≡ [] → left ≡ [] → read ++ left ≡ []
nothing read left unread gone = ap (λ (l : List ℕ). l ++ left) unread ∙ gone

pub is_empty : (l : List ℕ) (n : ℕ) → length l ≡ n → true ≡ (n == 0) → l ≡ []
is_empty [] n long test = refl
is_empty (b ∷ bs) n long test = let none : n ≡ 0 = eqb-true n 0 (sym test) in absurd (omega (arith, none, long))

pub not_empty : (l : List ℕ) (n : ℕ) → length l ≡ n → false ≡ (n == 0) → l ≢ []
not_empty [] n long test = absurd (eqb-false n 0 (sym test) (sym long))
not_empty (b ∷ bs) n long test = λ none. cc

-- the line ends with the input, if there is one
pub line-unended : (input line rest : List ℕ) (count : ℕ) → IsUnbroken line → input ≡ line ++ rest → rest ≡ [] → line ≢ [] → count ≡ length line → TakesLine input line rest (Some count)
line-unended input line rest count unbroken cut none some long =
    let is : input ≡ line = cut ∙ ap (λ (l : List ℕ). line ++ l) none ∙ append-nil line in
    ((λ e. some (sym is ∙ e)), unended unbroken is none, omega (arith, long, ap length is, ap length none))

pub no-line : (input line rest : List ℕ) → input ≡ line ++ rest → rest ≡ [] → line ≡ [] → TakesLine input line rest None
no-line input line rest cut none is = (cut ∙ ap (λ (l : List ℕ). line ++ l) none ∙ append-nil line ∙ is, is, none)

-- ---- any input has lines

begun : (b : ℕ) (bs line rest : List ℕ) → b ≢ 10 → FirstLine bs line rest → FirstLine (b ∷ bs) (b ∷ line) rest
begun b bs line rest ne (ended whole e) = ended (ne, whole) (ap (λ (l : List ℕ). b ∷ l) e)
begun b bs line rest ne (unended whole e none) = unended (ne, whole) (ap (λ (l : List ℕ). b ∷ l) e) none

filled : (b : ℕ) (bs : List ℕ) → b ∷ bs ≢ []
filled b bs = λ e. cc

longer : (b : ℕ) → b ≢ 10 → (bs : List ℕ) (lines : List (List ℕ)) → Lines bs lines → (longer_lines : List (List ℕ)) × Lines (b ∷ bs) longer_lines
longer b ne [] [] no_lines = ((b ∷ []) ∷ [], next_line (filled b []) (unended (ne, tt) refl refl) no_lines)
longer b ne (_ ∷ _) [] h = elim h [ ]
longer b ne bs (line ∷ lines) (next_line some first more) = ((b ∷ line) ∷ lines, next_line (filled b bs) (begun b bs line _ ne first) more)

lines_by : (b : ℕ) (bs : List ℕ) (feed : Bool) → eqb b 10 ≡ feed → (lines : List (List ℕ)) × Lines bs lines → (lines : List (List ℕ)) × Lines (b ∷ bs) lines
lines_by b bs true t rest = ([] ∷ rest.0, next_line (filled b bs) (ended tt (ap (λ (n : ℕ). n ∷ bs) (eqb-true b 10 t))) rest.1)
lines_by b bs false t rest = longer b (eqb-false b 10 t) bs rest.0 rest.1

pub some_lines : (input : List ℕ) → (lines : List (List ℕ)) × Lines input lines
some_lines [] = ([], no_lines)
some_lines (b ∷ bs) = lines_by b bs (eqb b 10) refl (some_lines bs)

pub record Begins (input : List ℕ) : Type 0 where
  pub line : List ℕ
  pub rest : List ℕ
  pub first : FirstLine input line rest

first_in : (input : List ℕ) (lines : List (List ℕ)) → Lines input lines → Begins input
first_in [] [] no_lines = record { line = []; rest = []; first = unended tt refl refl }
first_in (_ ∷ _) [] h = elim h [ ]
first_in input (line ∷ lines) (next_line some first more) = record { line = line; rest = _; first = first }

pub some_line : (input : List ℕ) → Begins input
some_line input = first_in input (some_lines input).0 (some_lines input).1
