-- What is taken within a limit.
use Rattle.std.proofs.Common.{ℕ, ◌≡◌, ◌+◌, ◌-◌, ◌<◌, ◌≤◌, List, [], ◌∷◌, ◌++◌, length, take, Ok, Some, None, Option, true, sym, ap, ◌∙◌, arith, drop, length-append, length-take-le, append_assoc}
use Rattle.std.proofs.Math.Seq.{take-append-add}
use Rattle.std.proofs.lemmas.List.{take-append-drop, take-append-le}
use Rattle.std.proofs.lemmas.Grind.{common_steps}
use Rattle.std.specs.Option.{is_some}
use Rattle.std.specs.declared.io.ErrorKind.{ErrorKind}
use Rattle.tv_base.specs.Append.{Moves}
use Rattle.tv_base.specs.Sink.{IsPrefix}
use Rattle.tv_base.specs.Source.{GivesSome, GivesFirst}
use Rattle.tv_io.specs.Limited.{TakesWithin}

-- bytes that were taken stand before what may still be taken
pub behind_taken : (limit n : ℕ) (old new taken : List ℕ) → old ≡ taken ++ new → length taken ≡ n → n ≤ limit → take limit old ≡ taken ++ take (limit - n) new
behind_taken limit n old new taken joined counted few =
    let e : limit ≡ length taken + (limit - n) = omega (arith, counted) in
    ap (λ m. take m old) e ∙ ap (take (length taken + (limit - n))) joined ∙ take-append-add taken new (limit - n)

pub none_of_none : (limit : ℕ) (old : List ℕ) → old ≡ [] → take limit old ≡ []
none_of_none limit old e = grind (arith, common_steps, ap (take limit) e)

pub reads_within : (limit n : ℕ) (old new got after : List ℕ) → GivesSome {E = ErrorKind} old new (Ok n) got → n ≤ length got → n ≤ limit
    → (n ≡ 0 → 0 < length (got ++ after) → 0 < length got) → GivesSome {E = ErrorKind} (take limit old) (take (limit - n) new) (Ok n) (got ++ after)
reads_within limit n old new got after gave few within room = (
  behind_taken limit n old new (take n (got ++ after)) (gave.0 ∙ ap (λ xs. xs ++ new) (sym (take-append-le n got after few))) (length-take-le n (got ++ after) (omega (arith, length-append got after))) within,
  λ none some. none_of_none limit old (gave.1 none (room none some)),
)

pub moves_within : (limit most few n : ℕ) (old new before after : List ℕ) → Moves old new before after few n → n ≤ limit → (n ≡ 0 → 0 < most → 0 < few)
    → Moves (take limit old) (take (limit - n) new) before after most n
moves_within limit most few n old new before after m within room = record {
  moved = m.moved;
  joined = behind_taken limit n old new m.moved m.joined m.count within;
  behind = m.behind;
  count = m.count;
  end = λ none wanted. none_of_none limit old (m.end none (room none wanted));
}

pub byte_within : (limit : ℕ) (byte : Option ℕ) (old new : List ℕ) → GivesFirst {E = ErrorKind} old new (Ok byte) → is_some byte ≡ true → 0 < limit → TakesWithin old new limit (limit - 1)
byte_within limit (Some b) old new gave is some = record { prefix = b ∷ []; joined = gave; counted = omega arith }
byte_within limit None old new gave is some = absurd (cc)

pub lends_within : (limit n : ℕ) (left lent : List ℕ) → IsPrefix lent left → n ≤ limit → n ≤ length lent → IsPrefix (take n lent) (take limit left)
lends_within limit n left lent (rest, e) within few =
    let cut : lent ≡ take n lent ++ drop n lent = sym (take-append-drop n lent) in
    let whole : left ≡ take n lent ++ (drop n lent ++ rest) = e ∙ ap (λ xs. xs ++ rest) cut ∙ append_assoc (take n lent) (drop n lent) rest in
    (take (limit - n) (drop n lent ++ rest), behind_taken limit n left (drop n lent ++ rest) (take n lent) whole (length-take-le n lent few) within)
