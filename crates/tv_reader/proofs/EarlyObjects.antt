-- A strict prefix of a legacy object has the error that it ends too early.
use Rattle.std.proofs.Common.{◌≡◌, ◌≢◌, ℕ, List, [], ◌∷◌, ◌++◌, sym, ap, subst, ◌∙◌, append_assoc}
use Rattle.std.specs.List.{AllByRecursion}
use Rattle.tv_base.specs.declared.cause.Cause.TheVariants.{UnexpectedEnd}
use Rattle.tv_format.specs.Tree.{Entries}
use Rattle.tv_reader.specs.Legacy.{IsBlank, IsClosed, Legacy, ErrorInLegacy, only_blanks, not_closed}
use Rattle.tv_reader.proofs.EarlyParts.{Early}

-- a blank before it changes nothing
blank_first : (b : ℕ) (content : List ℕ) → IsBlank b → ErrorInLegacy content UnexpectedEnd → ErrorInLegacy (b ∷ content) UnexpectedEnd
blank_first b content blank (only_blanks all) = only_blanks (blank, all)
blank_first b content blank (not_closed blanks rest joined all never) = not_closed (b ∷ blanks) rest (ap (λ (l : List ℕ). b ∷ l) joined) (blank, all) never

some_last : (m rest : List ℕ) → rest ≢ [] → m ++ rest ≢ []
some_last [] rest some e = some e
some_last (n ∷ m) rest some e = absurd cc

cut_slice : (slice start rest : List ℕ) → IsClosed slice → slice ≡ start ++ rest → rest ≢ [] → ErrorInLegacy start UnexpectedEnd
cut_slice slice [] rest h joined some = only_blanks tt
cut_slice slice (d ∷ start) rest h joined some =
    let head : 123 ∷ h.more ≡ d ∷ (start ++ rest) = sym h.opens ∙ joined in
    let brace : d ≡ 123 = cc in
    not_closed [] start (ap (λ n. n ∷ start) brace) tt
    (λ s m cut is.
    let whole : slice ≡ s ++ (m ++ rest) = joined ∙ ap (λ (l : List ℕ). l ++ rest) (ap (λ n. n ∷ start) brace ∙ cut) ∙ append_assoc s m rest in
    h.first s (m ++ rest) whole (λ none. let none_opens : [] ≡ 123 ∷ is.more = sym none ∙ is.opens in absurd cc) (some_last m rest some) is.closes)

cut_blanks : (blanks slice start rest : List ℕ) → AllByRecursion IsBlank blanks → IsClosed slice → blanks ++ slice ≡ start ++ rest → rest ≢ [] → ErrorInLegacy start UnexpectedEnd
cut_blanks [] slice start rest all h joined some = cut_slice slice start rest h joined some
cut_blanks (b ∷ blanks) slice [] rest all h joined some = only_blanks tt
cut_blanks (b ∷ blanks) slice (d ∷ start) rest all h joined some =
    let same : b ≡ d = cc in
    let tail : blanks ++ slice ≡ start ++ rest = cc in
    blank_first d start (subst IsBlank same all.0) (cut_blanks blanks slice start rest all.1 h tail some)

pub early_legacy : (es : Entries) → Early (λ b. Legacy b es) (λ w. ErrorInLegacy w UnexpectedEnd)
early_legacy es = record {
  early = λ whole start rest p joined some. cut_blanks p.cut.blanks p.slice start rest p.cut.blank p.cut.is_closed (sym p.cut.joined ∙ joined) some;
}
