-- What is written of a document is paid for by the bytes that encode it.
use Rattle.std.proofs.Common.{◌≡◌, ℕ, ◌+◌, ◌*◌, ◌<◌, ◌≤◌, List, [], ◌∷◌, ◌++◌, length, map, ap, arith, length-append, inl, inr}
use Rattle.std.specs.Prelude.{ℤ}
use Rattle.std.specs.Int.{w64, cast_unsigned}
use Rattle.std.specs.List.{flat_map}
use Rattle.std.proofs.lemmas.List.Sums.{sum_by-cons}
use Rattle.tv_base.specs.Number.{vnum, VNum, Groups, last, more}
use Rattle.tv_base.specs.Parts.{Text, Each, short_sized}
use Rattle.tv_base.proofs.Numbers.{vnum_shortest, length-fixed}
use Rattle.tv_base.proofs.Shortest.{sized_shortest, text_shortest}
use Rattle.tv_format.specs.Content.{Content, no_content, truth_content, unsigned_content, signed_content, wide_content, text_content, bytes_content, tokens_content}
use Rattle.tv_format.specs.Leaves.{type_of, content, scale}
use Rattle.tv_format.specs.Short.{short_token, short_tokenized}
use Rattle.tv_format.specs.Encoding.{NoLegacy, TokenEncoding, Tokenized, ContentBody, LeafBody, Key, Encodes, EncodesElements, EncodesEntries}
use Rattle.tv_format.specs.Tree.{Token, Leaf, Tree, leaf, array, object, Elements, no_elements, element, Entries, no_entries, entry, elements, Document}
use Rattle.tv_format.specs.Version.{Version, V1, V2, V3, Scale, plain, thousands, Scaled}
use Rattle.tv_heap.specs.LeafBytes.{content_bytes, leaf_bytes}
use Rattle.tv_heap.specs.Weight.{tree_weight, elements_weight, entries_weight, document_weight}
use Rattle.tv_heap.proofs.Writes.{length_eight, length_sixteen}
use Rattle.tv_builder.specs.declared.kinds.BytesKind.{BytesKind}
use Rattle.tv_builder.specs.declared.kinds.BytesKind.TheVariants as kinds
use Rattle.tv_builder.specs.declared.kinds.ListKind.{ListKind}
use Rattle.tv_builder.specs.declared.kinds.ListKind.TheVariants as lists
use Rattle.tv_builder.specs.Behind.{pairs_parts, document_parts, open_parts}
use Rattle.tv_builder.specs.Prefix.{KeyHead, BytesHead, EncodesPart, Encoded}
use Rattle.tv_builder.specs.Parts.{value, field}
use Rattle.tv_builder.specs.State.{OpenList, State, complete, in_lists, in_bytes, key_parts, value_parts, children_parts, list_parts, lists_parts, parts_of, key_text, lists_of, children_of}
use Rattle.tv_builder.specs.Weight.{keys_weight, values_weight, children_weight, lists_weight, state_weight}
use Rattle.tv_builder.proofs.Grammar.{then_length, each_split, head_takes, frames_paid}
use Rattle.tv_builder.proofs.Within.{token_parts}

pub groups_take : {b : List ℕ} {n : ℕ} → Groups b n → 0 < length b
groups_take (last l) = omega arith
groups_take (more l h) = omega arith

number_takes : (b : List ℕ) (n : ℕ) → VNum b n → 0 < length b
number_takes b n h = groups_take h.groups

-- ---- leaves

pub scaled_length : (s : Scale) (b : List ℕ) (z : ℤ) → Scaled s b z → length b ≡ 8
scaled_length plain b z h = length-fixed h.encoded
scaled_length thousands b z h = length-fixed h.encoded

token_paid : (token : Token) (b : List ℕ) → TokenEncoding b token → length (short_token token) ≤ length b
token_paid token b h =
    let p = h.second in
    let q = p.second in
    let r = q.second in
    omega (
      arith,
      token_parts token,
      vnum_shortest token.offset_from h.prefix h.first,
      vnum_shortest token.offset_to p.prefix p.first,
      vnum_shortest token.position q.prefix q.first,
      text_shortest token.text r.prefix r.first,
      vnum_shortest token.position_length r.rest r.second,
      then_length h,
      then_length p,
      then_length q,
      then_length r,
    )

tokens_paid : (tokens : List Token) (b : List ℕ) → Each TokenEncoding b tokens → length (flat_map short_token tokens) ≤ length b
tokens_paid [] b h = omega arith
tokens_paid (t ∷ ts) b h = omega (arith, token_paid t h.prefix h.first, tokens_paid ts h.rest h.second, then_length h, length-append (short_token t) (flat_map short_token ts))

tokenized_paid : (t : List ℕ) (ts : List Token) (b : List ℕ) → Tokenized b t ts → length (short_tokenized t ts) ≤ length b
tokenized_paid t ts b h =
    let p = h.second in
    let body = flat_map short_token ts in
    omega (
      arith,
      text_shortest t h.prefix h.first,
      vnum_shortest (length ts) p.prefix p.first,
      tokens_paid ts p.rest p.second,
      then_length h,
      then_length p,
      length-append (short_sized t) (vnum (length ts) ++ body),
      length-append (vnum (length ts)) body,
    )

content_paid : (s : Scale) (c : Content) (b : List ℕ) → ContentBody s b c → length (content_bytes c) ≤ length b
content_paid s no_content b h = omega arith
content_paid s (truth_content t) b h = omega arith
content_paid s (unsigned_content n) b h = omega (arith, length_eight n, length-fixed h)
content_paid s (signed_content z) b h = omega (arith, length_eight (cast_unsigned w64 z), scaled_length s b z h)
content_paid s (wide_content n) b h = omega (arith, length_sixteen n, length-fixed h)
content_paid s (text_content t) b h = text_shortest t b h
content_paid s (bytes_content bs) b h = sized_shortest bs b h
content_paid s (tokens_content t ts) b h = omega (arith, tokenized_paid t ts h.body h.encoded, ap length h.joined)

leaf_paid : (v : Version) (l : Leaf) (b : List ℕ) → LeafBody v b l → length (leaf_bytes l) ≤ length b
leaf_paid v l b h = content_paid (scale v (type_of l)) (content l) b h

text_takes : (b content : List ℕ) → Text b content → 0 < length b
text_takes b content h = omega (arith, ap length h.sized.joined, length-append h.sized.size content, number_takes h.sized.size (length content) h.sized.number)

key_paid : (v : Version) (k b : List ℕ) → Key v b k → 6 + length (short_sized k) ≤ 7 * length b
key_paid V1 k b h = omega (arith, text_shortest k h.body h.encoded, ap length h.joined)
key_paid V2 k b h = omega (arith, text_shortest k h.body h.encoded, ap length h.joined)
key_paid V3 k b h = omega (arith, text_shortest k b h, text_takes b k h)

-- ---- values

module _ (v : Version) where
  mutual
    value_paid : (t : Tree) (b : List ℕ) → Encodes NoLegacy v b t → 6 + tree_weight t ≤ 7 * length b
    value_paid (leaf l) b h = omega (arith, leaf_paid v l h.body h.encoded, ap length h.joined)
    value_paid (array ts) b h =
        let p = h.encoded in
        omega (arith, number_takes p.prefix _ p.first, elements_paid ts p.rest p.second, ap length h.joined, then_length p)
    value_paid (object es) b h = elim h [
      | inl q ↦
          let p = q.encoded in
          omega (arith, number_takes p.prefix _ p.first, entries_paid es p.rest p.second, ap length q.joined, then_length p)
      | inr q ↦ absurd q.encoded
    ]

    elements_paid : (ts : Elements) (b : List ℕ) → EncodesElements NoLegacy v b ts → elements_weight ts ≤ 7 * length b
    elements_paid no_elements b h = omega arith
    elements_paid (element t ts) b h = omega (arith, value_paid t h.prefix h.first, elements_paid ts h.rest h.second, then_length h)

    entries_paid : (es : Entries) (b : List ℕ) → EncodesEntries NoLegacy v b es → entries_weight es ≤ 7 * length b
    entries_paid no_entries b h = omega arith
    entries_paid (entry k t es) b h =
        let p = h.second in
        omega (arith, key_paid v k h.prefix h.first, value_paid t p.prefix p.first, entries_paid es p.rest p.second, then_length h, then_length p)

  -- ---- a state

  array_paid : (ts : List Tree) (b : List ℕ) → Encoded NoLegacy v b (map value ts) → elements_weight (elements ts) ≤ 7 * length b
  array_paid [] b h = omega arith
  array_paid (t ∷ ts) b h = omega (arith, value_paid t h.prefix h.first, array_paid ts h.rest h.second, then_length h)

  mutual
    keys_paid : (ts : List Tree) (b : List ℕ) → Encoded NoLegacy v b (key_parts ts) → keys_weight ts ≤ 7 * length b
    keys_paid [] b h = omega arith
    keys_paid (t ∷ ts) b h = omega (arith, key_paid v (key_text t) h.prefix h.first, values_paid ts h.rest h.second, then_length h)

    values_paid : (ts : List Tree) (b : List ℕ) → Encoded NoLegacy v b (value_parts ts) → values_weight ts ≤ 7 * length b
    values_paid [] b h = omega arith
    values_paid (t ∷ ts) b h = omega (arith, value_paid t h.prefix h.first, keys_paid ts h.rest h.second, then_length h)

  children_paid : (kind : ListKind) (ts : List Tree) (b : List ℕ) → Encoded NoLegacy v b (children_parts kind ts) → children_weight kind ts ≤ 7 * length b
  children_paid lists.Array ts b h = array_paid ts b h
  children_paid lists.Object ts b h = keys_paid ts b h

  lists_paid : (ls : List OpenList) (b : List ℕ) → Encoded NoLegacy v b (lists_parts ls) → lists_weight ls ≤ 7 * length b
  lists_paid [] b h = omega arith
  lists_paid (l ∷ ls) b h =
      let p = each_split (EncodesPart NoLegacy v) (lists_parts ls) (list_parts l) b h in
      let q = p.second in
      omega (arith, lists_paid ls p.prefix p.first, head_takes NoLegacy v l.kind l.announced q.prefix q.first, children_paid l.kind l.children q.rest q.second, then_length p, then_length q)

  key_head_paid : (w : Version) (b : List ℕ) (n : ℕ) → KeyHead w b n → length (vnum n) ≤ length b
  key_head_paid V1 b n h = omega (arith, vnum_shortest n h.body h.encoded, ap length h.joined)
  key_head_paid V2 b n h = omega (arith, vnum_shortest n h.body h.encoded, ap length h.joined)
  key_head_paid V3 b n h = vnum_shortest n b h

  bytes_head_paid : (kind : BytesKind) (b : List ℕ) (n : ℕ) → BytesHead v kind b n → length (vnum n) ≤ length b
  bytes_head_paid kinds.Str b n h = omega (arith, vnum_shortest n h.body h.encoded, ap length h.joined)
  bytes_head_paid kinds.Facet b n h = omega (arith, vnum_shortest n h.body h.encoded, ap length h.joined)
  bytes_head_paid kinds.Bytes b n h = omega (arith, vnum_shortest n h.body h.encoded, ap length h.joined)
  bytes_head_paid kinds.Key b n h = key_head_paid v b n h

  state_paid : (s : State) (b : List ℕ) → Encoded NoLegacy v b (parts_of s) → state_weight s ≤ 7 * length b
  state_paid (complete t) b h = omega (arith, value_paid t h.prefix h.first, then_length h)
  state_paid (in_lists ls) b h = lists_paid ls b h
  state_paid (in_bytes ls kind n bs) b h =
      let p = each_split (EncodesPart NoLegacy v) (lists_parts ls) _ b h in
      let q = p.second in
      let r = q.second in
      omega (arith, lists_paid ls p.prefix p.first, bytes_head_paid kind q.prefix n q.first, ap length r.first, then_length p, then_length q, then_length r)

  -- ---- a document

  pairs_paid : (d : Document) (b : List ℕ) → Encoded NoLegacy v b (pairs_parts d) → document_weight d ≤ 7 * length b
  pairs_paid [] b h = omega arith
  pairs_paid (p ∷ d) b h =
      let x = h.first in
      omega (arith, value_paid p.1 x.rest x.second, pairs_paid d h.rest h.second, then_length h, then_length x, sum_by-cons (λ (pair : ℕ × Tree). tree_weight pair.1) p d)

  pub document_paid : (n : ℕ) (d : Document) (b : List ℕ) → Encoded NoLegacy v b (document_parts n d) → document_weight d ≤ 7 * length b
  document_paid n d b h = omega (arith, pairs_paid d h.rest h.second, then_length h)

  pub open_paid : (n : ℕ) (d : Document) (f : ℕ) (s : State) (b : List ℕ) → Encoded NoLegacy v b (open_parts n d f s) → document_weight d + state_weight s ≤ 7 * length b
  open_paid n d f s b h =
      let p = each_split (EncodesPart NoLegacy v) (document_parts n d) (field f ∷ parts_of s) b h in
      let q = p.second in
      omega (arith, document_paid n d p.prefix p.first, state_paid s q.rest q.second, then_length p, then_length q)

  pub open_lists_paid : (n : ℕ) (d : Document) (f : ℕ) (s : State) (b : List ℕ) → Encoded NoLegacy v b (open_parts n d f s) → (2 * length (lists_of s) ≤ length b) × (children_of (lists_of s) ≤ length b)
  open_lists_paid n d f s b h =
      let p = each_split (EncodesPart NoLegacy v) (document_parts n d) (field f ∷ parts_of s) b h in
      let q = p.second in
      let paid = frames_paid NoLegacy v s q.rest q.second in
      let long : length q.rest ≤ length b = omega (arith, then_length p, then_length q) in
      (omega (arith, paid, long), omega (arith, paid, long))
