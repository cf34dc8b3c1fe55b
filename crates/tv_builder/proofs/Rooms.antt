-- The room of a value is at most ten times the bytes that writing it adds to a heap.
use Rattle.std.proofs.Common.{◌≡◌, ℕ, ◌+◌, ◌-◌, ◌*◌, ◌/◌, ◌^◌, min, ◌<◌, ◌≤◌, Bool, true, false, Option, Some, None, SomeIff, ap, List, [], ◌∷◌, ◌++◌, length, length-append, arith, inl, inr}
use Rattle.std.specs.Prelude.{IsTrue, ◌↔◌}
use Rattle.std.specs.List.{flat_map, sum_by}
use Rattle.std.specs.Int.{w64, cast_unsigned}
use Rattle.std.proofs.Math.Nat.{min-le_left}
use Rattle.std.proofs.lemmas.Bool.{cases_lt}
use Rattle.std.proofs.lemmas.List.Sums.{sum_by-cons}
use Rattle.tv_base.specs.Number.{vnum}
use Rattle.tv_base.specs.Parts.{short_sized}
use Rattle.tv_base.proofs.Numbers.{groups_small, groups_large}
use Rattle.tv_format.specs.Content.{Content, no_content, truth_content, unsigned_content, signed_content, wide_content, text_content, bytes_content, tokens_content}
use Rattle.tv_format.specs.Leaves.{content}
use Rattle.tv_format.specs.Short.{short_token}
use Rattle.tv_format.specs.Tree.{Token, Tree, leaf, array, object, Elements, no_elements, element, Entries, no_entries, entry}
use Rattle.tv_heap.specs.LeafBytes.{content_bytes, leaf_bytes}
use Rattle.tv_heap.specs.Room.{content_room, token_room, room, elements_room, entries_room}
use Rattle.tv_heap.specs.declared.value_type.Place.{Place}
use Rattle.tv_heap.proofs.Writes.{length_eight, length_sixteen}
use Rattle.tv_builder.specs.Given.{place_bytes}
use Rattle.tv_builder.proofs.Within.{token_parts}
use Rattle.tv_builder.specs.Moves.{FitsRoom}
use Rattle.tv_builder.specs.Whole.{Put, PutWithin}
use Rattle.tv_builder.specs.TreeBytes.{tree_heap, tree_place, elements_heap, elements_places, entries_heap, entries_places}

-- the encoding of a number isn't empty, however large that is
vnum_some : (n : ℕ) → 1 ≤ length (vnum n)
unfolding vnum
vnum_some n = elim (cases_lt n 128) [ inl p ↦ rw (groups_small 9 n p) (omega arith) | inr p ↦ rw (groups_large 9 n p) (omega arith) ]

-- a token takes a byte at least for each of its five numbers
token_paid : (token : Token) → token_room token ≤ 10 * length (short_token token)
token_paid token =
    let sized = length-append (vnum (length token.text)) token.text in
    omega (arith, token_parts token, sized, vnum_some token.offset_from, vnum_some token.offset_to, vnum_some token.position, vnum_some (length token.text), vnum_some token.position_length)

tokens_paid : (tokens : List Token) → sum_by token_room tokens ≤ 10 * length (flat_map short_token tokens)
tokens_paid [] = omega arith
tokens_paid (t ∷ ts) = omega (arith, token_paid t, tokens_paid ts, sum_by-cons token_room t ts, length-append (short_token t) (flat_map short_token ts))

sized_paid : (bs : List ℕ) → 5 + length bs ≤ 10 * length (short_sized bs)
sized_paid bs = omega (arith, length-append (vnum (length bs)) bs, vnum_some (length bs))

content_paid : (c : Content) → content_room c ≤ 10 * length (content_bytes c)
content_paid no_content = omega arith
content_paid (truth_content b) = omega arith
content_paid (unsigned_content n) = omega (arith, length_eight n)
content_paid (signed_content z) = omega (arith, length_eight (cast_unsigned w64 z))
content_paid (wide_content n) = omega (arith, length_sixteen n)
content_paid (text_content t) = sized_paid t
content_paid (bytes_content bs) = sized_paid bs
content_paid (tokens_content t ts) =
    omega (
      arith,
      length-append (vnum (length t)) t,
      vnum_some (length t),
      vnum_some (length ts),
      tokens_paid ts,
      length-append (short_sized t) (vnum (length ts) ++ flat_map short_token ts),
      length-append (vnum (length ts)) (flat_map short_token ts),
    )

-- a child's place takes two bytes at least, of which its type is one
mutual
  pub tree_paid : (heap : List ℕ) (t : Tree) → 10 * length heap + room t ≤ 10 * length (tree_heap heap t)
  tree_paid heap (leaf l) = omega (arith, content_paid (content l), length-append heap (leaf_bytes l))
  tree_paid heap (array ts) =
      omega (arith, elements_paid heap ts, length-append (elements_heap heap ts) (short_sized (elements_places heap ts)), length-append (vnum (length (elements_places heap ts))) (elements_places heap ts), vnum_some (length (elements_places heap ts)))
  tree_paid heap (object es) =
      omega (arith, entries_paid heap es, length-append (entries_heap heap es) (short_sized (entries_places heap es)), length-append (vnum (length (entries_places heap es))) (entries_places heap es), vnum_some (length (entries_places heap es)))

  elements_paid : (heap : List ℕ) (ts : Elements) → 10 * length heap + elements_room ts ≤ 10 * length (elements_heap heap ts) + 10 * length (elements_places heap ts)
  elements_paid heap no_elements = omega arith
  elements_paid heap (element t ts) =
      omega (
        arith,
        tree_paid heap t,
        elements_paid (tree_heap heap t) ts,
        length-append (place_bytes (tree_place heap t)) (elements_places (tree_heap heap t) ts),
        vnum_some (tree_place heap t).address,
      )

  entries_paid : (heap : List ℕ) (es : Entries) → 10 * length heap + entries_room es ≤ 10 * length (entries_heap heap es) + 10 * length (entries_places heap es)
  entries_paid heap no_entries = omega arith
  entries_paid heap (entry k t es) =
      let mid = heap ++ short_sized k in
      let behind = entries_places (tree_heap mid t) es in
      omega (
        arith,
        length-append heap (short_sized k),
        length-append (vnum (length k)) k,
        vnum_some (length k),
        tree_paid mid t,
        entries_paid (tree_heap mid t) es,
        length-append (1 ∷ vnum (length heap)) (place_bytes (tree_place mid t) ++ behind),
        vnum_some (length heap),
        length-append (place_bytes (tree_place mid t)) behind,
        vnum_some (tree_place mid t).address,
      )

-- ---- a value that was written, and whose room is to be free

-- a tenth of what is free was written at most
pub paid_within : {most : ℕ} (old : List ℕ) (t : Tree) (new : List ℕ) (p : Place) → length old ≤ 4294967295 → most ≤ length old + min ((4294967295 - length old) / 10) 1048576 → Put most old t new p → PutWithin old t new p
paid_within {most} old t new p small is w =
    let tenth : 10 * most ≤ 4294967295 + 9 * length old = omega (arith, is, small, min-le_left ((4294967295 - length old) / 10) 1048576) in
    let paid = tree_paid old t in
    record {
      put = record { heap = w.heap; place = w.place; fits = omega (arith, tenth, paid, w.fits, ap length w.heap); placed = w.placed };
      within = omega (arith, tenth, paid, w.fits, ap length w.heap);
    }

-- ---- what was found doesn't fit

pub no_room : {most : ℕ} (b : Bool) (m : ℕ) → IsTrue b ↔ (m ≤ most) → b ≡ false → most < m
no_room {most} true m h e = absurd (let f : true ≡ false = e in cc)
no_room {most} false m h e = elim (cases_lt most m) [ inl p ↦ p | inr p ↦ absurd (let f : false ≡ true = h.1 (omega (arith, p)) in cc) ]

pub over : {most : ℕ} (found : Option ℕ) (len n : ℕ) (fits : Bool) → most ≤ 4294967295 → SomeIff found (n < 2 ^ 32) n → FitsRoom most found len fits → fits ≡ false → most < len + n
over (Some m) len n fits small is h e = omega (arith, is.1, no_room fits (len + m) h e)
over None len n fits small is h e = elim (cases_lt n (2 ^ 32)) [ inl p ↦ absurd (is p) | inr p ↦ omega (arith, p) ]
