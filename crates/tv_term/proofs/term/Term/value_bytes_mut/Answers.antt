use Rattle.std.proofs.Common.{◌≡◌, ℕ, ◌+◌, ◌≤◌, List, ◌++◌, length, take, drop, refl, ap, ◌∙◌, arith, length-append, length-drop}
use Rattle.std.specs.Prelude.{slice_range}
use Rattle.std.proofs.lemmas.List.{take-append-le}
use Rattle.std.proofs.lemmas.Grind.{common_steps}
use Rattle.std.proofs.Math.Seq.{take-append-add}
use Rattle.tv_term.specs.Lending.{overwritten}
use Rattle.tv_term.proofs.term.Term.value_bytes_mut.Goals as goal

-- the items of a vector whose items from a place on were written over
lent : (items written : List ℕ) (start len : ℕ) → start ≤ length items → len ≡ length items
    → take len (take start items ++ (written ++ drop (length written) (drop start items)) ++ drop (length (take start items ++ (written ++ drop (length written) (drop start items)))) items)
    ≡ take start items ++ overwritten (drop start items) written
lent items written start len inside len_is =
    let prefix = take start items in
    let rest = drop start items in
    let put = written ++ drop (length written) rest in
    let prefix_length : length prefix ≡ start = grind (arith, common_steps) in
    let rest_len : start + length rest ≡ len = omega (arith, length-drop start items) in
    let put_len : length rest ≤ length put = omega (arith, length-append written (drop (length written) rest), length-drop (length written) rest) in
    let whole : len ≤ length (prefix ++ put) = omega (arith, length-append prefix put) in
    let parts : len ≡ length prefix + length rest = omega arith in
    take-append-le len (prefix ++ put) _ whole ∙ ap (λ n. take n (prefix ++ put)) parts ∙ take-append-add prefix put (length rest)

tail : (items : List ℕ) (start len : ℕ) → len ≡ length items → slice_range items start len ≡ drop start items
tail items start len len_is = grind (arith, common_steps)

pub returns : goal.returns
returns c =
    rw (← c.self.view_is) (
      (refl, λ w. lent c.self.inside.bytes.items w (5 + c.args.start) c.self.inside.bytes.len (rw c.self.view_is c.requires) c.self.inside.bytes.ok.0),
      record { writes_back = tt; value = c.slice_mut.ensures.value ∙ tail c.self.inside.bytes.items (5 + c.args.start) c.self.inside.bytes.len c.self.inside.bytes.ok.0 },
    )
