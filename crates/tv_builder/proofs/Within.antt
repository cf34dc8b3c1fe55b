-- What is written takes no more than its weight, and that no more than its room, as long as the heap is below 2 ^ 32 bytes.
use Rattle.std.proofs.Common.{◌≡◌, ℕ, ◌+◌, ◌^◌, ◌<◌, ◌≤◌, List, [], ◌∷◌, ◌++◌, length, length-append, ap, arith, inl, inr}
use Rattle.std.specs.List.{flat_map, sum_by}
use Rattle.std.specs.Int.{w64, cast_unsigned}
use Rattle.std.proofs.lemmas.Bool.{cases_lt}
use Rattle.std.proofs.lemmas.List.Sums.{sum_by-cons}
use Rattle.tv_base.specs.Number.{vnum}
use Rattle.tv_base.specs.Parts.{short_sized}
use Rattle.tv_base.proofs.Numbers.{length_groups}
use Rattle.tv_format.specs.Content.{Content, no_content, truth_content, unsigned_content, signed_content, wide_content, text_content, bytes_content, tokens_content}
use Rattle.tv_format.specs.Leaves.{content}
use Rattle.tv_format.specs.Short.{short_token}
use Rattle.tv_format.specs.Tree.{Token, Tree, leaf, array, object, Elements, no_elements, element, Entries, no_entries, entry, elements, Document}
use Rattle.tv_heap.specs.LeafBytes.{content_bytes, leaf_bytes}
use Rattle.tv_heap.specs.Room.{content_room, token_room, room, elements_room, entries_room, document_room}
use Rattle.tv_heap.specs.Weight.{tree_weight, elements_weight, entries_weight, document_weight}
use Rattle.tv_heap.proofs.Writes.{vnum_five, length_eight, length_sixteen, address_small}
use Rattle.tv_builder.specs.Given.{place_bytes}
use Rattle.tv_builder.specs.State.{OpenList, State, complete, in_lists, in_bytes, IsState, finished_room, lists_room, state_room, trees_weight, lists_written, written}
use Rattle.tv_builder.specs.StateHeap.{lists_heap, state_heap, full_length}
use Rattle.tv_builder.specs.TreeBytes.{tree_heap, tree_place, elements_heap, elements_places, entries_heap, entries_places, document_heap}

-- ---- the weight

-- the address of what stands in a heap
place_five : (heap : List ℕ) (t : Tree) → length (tree_heap heap t) < 2 ^ 32 → length (vnum (tree_place heap t).address) ≤ 5
place_five heap (leaf l) h = vnum_five _ (address_small (length heap) (content l) (omega (arith, h, length-append heap (leaf_bytes l))))
place_five heap (array ts) h = vnum_five _ (omega (arith, h, length-append (elements_heap heap ts) (short_sized (elements_places heap ts))))
place_five heap (object es) h = vnum_five _ (omega (arith, h, length-append (entries_heap heap es) (short_sized (entries_places heap es))))

-- a list's own bytes
own_five : (heap own : List ℕ) (n : ℕ) → (n < 4294967296 → length heap + length own ≤ n) → 5 + n < 4294967296 → length (heap ++ short_sized own) ≤ 5 + n
own_five heap own n h small = omega (arith, h, length-append heap (short_sized own), length-append (vnum (length own)) own, vnum_five (length own))

mutual
  tree_least : (heap : List ℕ) (t : Tree) → length heap + tree_weight t < 4294967296 → length (tree_heap heap t) ≤ length heap + tree_weight t
  tree_least heap (leaf l) h = omega (arith, length-append heap (leaf_bytes l))
  tree_least heap (array ts) h = omega (arith, own_five (elements_heap heap ts) (elements_places heap ts) _ (elements_least heap ts))
  tree_least heap (object es) h = omega (arith, own_five (entries_heap heap es) (entries_places heap es) _ (entries_least heap es))

  elements_least : (heap : List ℕ) (ts : Elements) → length heap + elements_weight ts < 4294967296 → length (elements_heap heap ts) + length (elements_places heap ts) ≤ length heap + elements_weight ts
  elements_least heap no_elements h = omega arith
  elements_least heap (element t ts) h =
      omega (arith, tree_least heap t, place_five heap t, elements_least (tree_heap heap t) ts, length-append (place_bytes (tree_place heap t)) (elements_places (tree_heap heap t) ts))

  entries_least : (heap : List ℕ) (es : Entries) → length heap + entries_weight es < 4294967296 → length (entries_heap heap es) + length (entries_places heap es) ≤ length heap + entries_weight es
  entries_least heap no_entries h = omega arith
  entries_least heap (entry k t es) h =
      let mid = heap ++ short_sized k in
      let behind = entries_places (tree_heap mid t) es in
      omega (
        arith,
        length-append heap (short_sized k),
        vnum_five (length heap),
        tree_least mid t,
        place_five mid t,
        entries_least (tree_heap mid t) es,
        length-append (1 ∷ vnum (length heap)) (place_bytes (tree_place mid t) ++ behind),
        length-append (place_bytes (tree_place mid t)) behind,
      )

trees_least : (heap : List ℕ) (ts : List Tree) → length heap + trees_weight ts < 4294967296 → length (elements_heap heap (elements ts)) ≤ length heap + trees_weight ts
trees_least heap [] h = omega arith
trees_least heap (t ∷ ts) h = omega (arith, tree_least heap t, trees_least (tree_heap heap t) ts)

lists_least : (base : List ℕ) (ls : List OpenList) → length base + lists_written ls < 4294967296 → length (lists_heap base ls) ≤ length base + lists_written ls
lists_least base [] h = omega arith
lists_least base (l ∷ ls) h = omega (arith, trees_least (lists_heap base ls) l.children, lists_least base ls)

state_least : (base : List ℕ) (s : State) → length base + written s < 4294967296 → length (state_heap base s) ≤ length base + written s
state_least base (complete t) h = tree_least base t h
state_least base (in_lists ls) h = lists_least base ls h
state_least base (in_bytes ls kind n bs) h = omega (arith, lists_least base ls, length-append (lists_heap base ls) (vnum n ++ bs), length-append (vnum n) bs)

-- of what is below 2 ^ 32
below : (new most : ℕ) → (most < 4294967296 → new ≤ most) → new ≤ 4294967295 → new ≤ most
below new most f h = elim (cases_lt most 4294967296) [ inl p ↦ f p | inr p ↦ omega (arith, h, p) ]

pub state_within : (base : List ℕ) (s : State) → length (state_heap base s) ≤ 4294967295 → length (state_heap base s) ≤ length base + written s
state_within base s h = below _ _ (state_least base s) h

document_least : (heap : List ℕ) (d : Document) → length heap + document_weight d < 4294967296 → length (document_heap heap d) ≤ length heap + document_weight d
document_least heap [] h = omega arith
document_least heap (pair ∷ d) h = omega (arith, tree_least heap pair.1, document_least (tree_heap heap pair.1) d, sum_by-cons (λ (x : ℕ × Tree). tree_weight x.1) pair d)

pub document_within : (heap : List ℕ) (d : Document) → heap ≡ document_heap [] d → length heap ≤ 4294967295 → length heap ≤ document_weight d
document_within heap d e h = below (length heap) (document_weight d) (λ p. omega (arith, document_least [] d (omega (arith, p)), ap length e)) h

-- ---- the room

vnum_ten : (n : ℕ) → length (vnum n) ≤ 10
unfolding vnum
vnum_ten n = length_groups 10 n

pub token_parts : (token : Token) → length (short_token token) ≡ length (vnum token.offset_from) + length (vnum token.offset_to) + length (vnum token.position) + length (short_sized token.text) + length (vnum token.position_length)
token_parts token =
    omega (
      arith,
      length-append (vnum token.offset_from) (vnum token.offset_to ++ (vnum token.position ++ (short_sized token.text ++ vnum token.position_length))),
      length-append (vnum token.offset_to) (vnum token.position ++ (short_sized token.text ++ vnum token.position_length)),
      length-append (vnum token.position) (short_sized token.text ++ vnum token.position_length),
      length-append (short_sized token.text) (vnum token.position_length),
    )

token_fits : (token : Token) → length (short_token token) ≤ token_room token
token_fits token =
    let sized = length-append (vnum (length token.text)) token.text in
    omega (arith, token_parts token, sized, vnum_ten token.offset_from, vnum_ten token.offset_to, vnum_ten token.position, vnum_ten (length token.text), vnum_ten token.position_length)

tokens_fit : (tokens : List Token) → length (flat_map short_token tokens) ≤ sum_by token_room tokens
tokens_fit [] = omega arith
tokens_fit (t ∷ ts) = omega (arith, token_fits t, tokens_fit ts, sum_by-cons token_room t ts, length-append (short_token t) (flat_map short_token ts))

sized_fits : (bs : List ℕ) → 5 + length bs < 4294967296 → length (short_sized bs) ≤ 5 + length bs
sized_fits bs h = omega (arith, length-append (vnum (length bs)) bs, vnum_five (length bs))

content_fits : (c : Content) → content_room c < 4294967296 → length (content_bytes c) ≤ content_room c
content_fits no_content h = omega arith
content_fits (truth_content b) h = omega arith
content_fits (unsigned_content n) h = omega (arith, length_eight n)
content_fits (signed_content z) h = omega (arith, length_eight (cast_unsigned w64 z))
content_fits (wide_content n) h = omega (arith, length_sixteen n)
content_fits (text_content t) h = sized_fits t h
content_fits (bytes_content bs) h = sized_fits bs h
content_fits (tokens_content t ts) h =
    omega (arith, sized_fits t, vnum_ten (length ts), tokens_fit ts, length-append (short_sized t) (vnum (length ts) ++ flat_map short_token ts), length-append (vnum (length ts)) (flat_map short_token ts))

mutual
  tree_fits : (t : Tree) → room t < 4294967296 → tree_weight t ≤ room t
  tree_fits (leaf l) h = content_fits (content l) h
  tree_fits (array ts) h = omega (arith, elements_fit ts)
  tree_fits (object es) h = omega (arith, entries_fit es)

  elements_fit : (ts : Elements) → elements_room ts < 4294967296 → elements_weight ts ≤ elements_room ts
  elements_fit no_elements h = omega arith
  elements_fit (element t ts) h = omega (arith, tree_fits t, elements_fit ts)

  entries_fit : (es : Entries) → entries_room es < 4294967296 → entries_weight es ≤ entries_room es
  entries_fit no_entries h = omega arith
  entries_fit (entry k t es) h = omega (arith, sized_fits k, tree_fits t, entries_fit es)

trees_fit : (ts : List Tree) → finished_room ts < 4294967296 → trees_weight ts ≤ finished_room ts
trees_fit [] h = omega arith
trees_fit (t ∷ ts) h = omega (arith, tree_fits t, trees_fit ts)

lists_fit : (ls : List OpenList) → lists_room ls < 4294967296 → lists_written ls ≤ lists_room ls
lists_fit [] h = omega arith
lists_fit (l ∷ ls) h = omega (arith, trees_fit l.children, lists_fit ls)

tree_room : (heap : List ℕ) (t : Tree) → length heap + room t < 4294967296 → length (tree_heap heap t) ≤ length heap + room t
tree_room heap t h = let w = tree_fits t (omega arith) in omega (arith, w, tree_least heap t (omega (arith, w)))

lists_room_least : (base : List ℕ) (ls : List OpenList) → length base + lists_room ls < 4294967296 → length (lists_heap base ls) ≤ length base + lists_room ls
lists_room_least base ls h = let w = lists_fit ls (omega arith) in omega (arith, w, lists_least base ls (omega (arith, w)))

pub tree_within_room : (heap : List ℕ) (t : Tree) → length (tree_heap heap t) ≤ 4294967295 → length (tree_heap heap t) ≤ length heap + room t
tree_within_room heap t h = below _ _ (tree_room heap t) h

document_fits : (d : Document) → document_room d < 4294967296 → document_weight d ≤ document_room d
document_fits [] h = omega arith
document_fits (pair ∷ d) h =
    omega (arith, tree_fits pair.1, document_fits d, sum_by-cons (λ (x : ℕ × Tree). tree_weight x.1) pair d, sum_by-cons (λ (x : ℕ × Tree). room x.1) pair d)

-- what is within a document's weight is within its room
pub weight_room : (n : ℕ) (d : Document) → n ≤ document_weight d → n ≤ 4294967295 → n ≤ document_room d
weight_room n d h small = below n (document_room d) (λ p. omega (arith, h, document_fits d p)) small

state_fits : (base : List ℕ) (s : State) → IsState s → length base + state_room s < 4294967296 → full_length base s ≤ length base + state_room s
state_fits base (complete t) is h = omega (arith, tree_room base t h)
state_fits base (in_lists ls) is h = omega (arith, lists_room_least base ls h)
state_fits base (in_bytes ls kind n bs) is h =
    omega (arith, is.3, lists_room_least base ls (omega arith), vnum_five n (omega arith), length-append (lists_heap base ls) (vnum n ++ bs), length-append (vnum n) bs)

-- where the bytes of a state have no room, the state has none
pub state_over : (base : List ℕ) (s : State) → IsState s → 4294967295 < full_length base s → 4294967295 < length base + state_room s
state_over base s is h = elim (cases_lt (length base + state_room s) 4294967296) [ inl p ↦ omega (arith, h, state_fits base s is p) | inr p ↦ omega (arith, p) ]
