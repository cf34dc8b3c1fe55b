-- What is written at the end of a heap stands there.
use Rattle.std.proofs.Common.{◌≡◌, ◌≢◌, ℕ, zero, suc, ◌+◌, ◌/◌, ◌^◌, ◌<◌, ◌≤◌, Bool, true, false, List, [], ◌∷◌, ◌++◌, length, refl, sym, ◌∙◌, ap, subst, arith, inl, inr}
use Rattle.std.specs.Int.{w64, cast_unsigned}
use Rattle.std.specs.List.{AllByRecursion, flat_map, sum_by}
use Rattle.std.proofs.lemmas.Bool.{cases_lt}
use Rattle.std.proofs.lemmas.Nat.{div_below}
use Rattle.std.proofs.lemmas.List.{length-append, append-nil}
use Rattle.std.proofs.lemmas.List.Sums.{sum_by-cons}
use Rattle.std.proofs.Math.Nat.{pow-suc}
use Rattle.std.proofs.Math.Logic.{∥∥₁_elim}
use Rattle.tv_base.specs.Number.{vnum, low_bytes, eight_bytes, sixteen_bytes}
use Rattle.tv_base.specs.Parts.{short_sized}
use Rattle.tv_base.proofs.Numbers.{vnum-small, vnum-large}
use Rattle.tv_base.proofs.Shortest.{eight_bytes_encode, sixteen_bytes_encode}
use Rattle.tv_format.specs.Short.{short_token, short_tokenized, IsToken, AreTokens, IsContent, IsLeaf}
use Rattle.tv_format.specs.ShortLaws.{AreTokens-prop}
use Rattle.tv_value.specs.PreTokenized.{tokens_of}
use Rattle.tv_value.specs.Lent.{leaf_of}
use Rattle.tv_value.specs.declared.leaf.ReferenceValueLeaf.{ReferenceValueLeaf}
use Rattle.tv_value.specs.declared.leaf.ReferenceValueLeaf.TheVariants as lent
use Rattle.tv_format.specs.Content.{Content, no_content, truth_content, unsigned_content, signed_content, wide_content, text_content, bytes_content, tokens_content}
use Rattle.tv_format.specs.Leaves.{type_of, content, heap_code}
use Rattle.tv_format.specs.declared.leaf_type.LeafType.{LeafType}
use Rattle.tv_format.specs.Tree.{Token, Leaf, null, boolean, Tree, leaf}
use Rattle.tv_format.proofs.ShortEncodings.{unsigned_fits}
use Rattle.tv_heap.specs.Reads.{Stands, leaf_type_byte, flag, ContentStands}
use Rattle.tv_heap.specs.LeafBytes.{content_bytes, content_address, leaf_bytes, leaf_address}
use Rattle.tv_heap.specs.Room.{content_room, leaf_room, token_room}
use Rattle.tv_heap.specs.Wrote.{Wrote}

-- a number below a power of 128 takes this many groups at most
vnum_short : (k n : ℕ) → n < 2 ^ 64 → n < 128 ^ suc k → length (vnum n) ≤ suc k
vnum_short zero n h l = rw (vnum-small n (omega arith)) (omega arith)
vnum_short (suc k) n h l =
    elim (cases_lt n 128) [
      | inl p ↦ rw (vnum-small n p) (omega arith)
      | inr p ↦
          let below : n / 128 < 128 ^ suc k = div_below n 128 (128 ^ suc k) (omega arith) (rw pow-suc at l) in
          rw (vnum-large n p h) (omega (arith, vnum_short k (n / 128) (omega arith) below))
    ]

pub vnum_five : (n : ℕ) → n < 2 ^ 32 → length (vnum n) ≤ 5
vnum_five n h = vnum_short 4 n (omega arith) (omega arith)

-- what is written at the end stands there
pub at_end : (old new added : List ℕ) (P : List ℕ → Type 0) → new ≡ old ++ added → P added → Stands new (length old) P
at_end old new added P e p = record { before = old; whole = added; behind = []; joined = e ∙ ap (λ z. old ++ z) (sym (append-nil added)); place = refl; stands = p }

pub longer : (old new added : List ℕ) → new ≡ old ++ added → length new ≡ length old + length added
longer old new added e = ap length e ∙ length-append old added

pub sized_length : (content : List ℕ) → length content < 2 ^ 32 → length (short_sized content) ≤ 5 + length content
sized_length content h = omega (arith, length-append (vnum (length content)) content, vnum_five (length content) h)

-- an encoding of a number isn't empty
vnum_some : (n : ℕ) → n < 2 ^ 64 → 0 < length (vnum n)
vnum_some n h = elim (cases_lt n 128) [ inl p ↦ rw (vnum-small n p) (omega arith) | inr p ↦ rw (vnum-large n p h) (omega arith) ]

pub sized_some : (content : List ℕ) → length content < 2 ^ 32 → 0 < length (short_sized content)
sized_some content h = omega (arith, length-append (vnum (length content)) content, vnum_some (length content) (omega arith))

-- what fits with its length fits
pub sized_fits : (content : List ℕ) → length (short_sized content) < 2 ^ 32 → length content < 2 ^ 32
sized_fits content h = omega (arith, length-append (vnum (length content)) content)

-- at the same address, said otherwise
pub wrote_at : {old new : List ℕ} {code at to : ℕ} {t : Tree} → Wrote old new code at t → at ≡ to → Wrote old new code to t
wrote_at {old} {new} {code} {at} {to} {t} w e = subst (λ m. Wrote old new code m t) e w

-- by the same type byte, said otherwise
pub wrote_as : {old new : List ℕ} {code to at : ℕ} {t : Tree} → code ≡ to → Wrote old new code at t → Wrote old new to at t
wrote_as {old} {new} {code} {to} {at} {t} e w = subst (λ k. Wrote old new k at t) e w

-- ---- texts with their tokens

pub vnum_ten : (n : ℕ) → n < 2 ^ 64 → length (vnum n) ≤ 10
vnum_ten n h = vnum_short 9 n h (omega arith)

token_length : (token : Token) → IsToken token → length (short_token token) ≤ token_room token
token_length token p =
    let size : length token.text < 2 ^ 64 = let s = p.text.size in omega arith in
    omega (
      arith,
      vnum_ten token.offset_from p.offset_from,
      vnum_ten token.offset_to p.offset_to,
      vnum_ten token.position p.position,
      vnum_ten (length token.text) size,
      vnum_ten token.position_length p.position_length,
      length-append (vnum token.offset_from) (vnum token.offset_to ++ (vnum token.position ++ (short_sized token.text ++ vnum token.position_length))),
      length-append (vnum token.offset_to) (vnum token.position ++ (short_sized token.text ++ vnum token.position_length)),
      length-append (vnum token.position) (short_sized token.text ++ vnum token.position_length),
      length-append (short_sized token.text) (vnum token.position_length),
      length-append (vnum (length token.text)) token.text,
    )

pub tokens_length : (tokens : List Token) → AllByRecursion IsToken tokens → length (flat_map short_token tokens) ≤ sum_by token_room tokens
tokens_length [] p = omega arith
tokens_length (t ∷ ts) p = omega (arith, token_length t p.0, tokens_length ts p.1, sum_by-cons token_room t ts, length-append (short_token t) (flat_map short_token ts))

-- ---- what is written of a leaf takes its room at most

length-low : (k n : ℕ) → length (low_bytes k n) ≡ k
length-low zero n = refl
length-low (suc k) n = ap suc (length-low k (n / 256))

pub length_eight : (n : ℕ) → length (eight_bytes n) ≡ 8
unfolding eight_bytes
length_eight n = length-low 8 n

pub length_sixteen : (n : ℕ) → length (sixteen_bytes n) ≡ 16
unfolding sixteen_bytes
length_sixteen n = length-low 16 n

-- lengths below 2 ^ 32, and tokens with an encoding
abbrev pub FitsHeap : Content → Type 0
FitsHeap (text_content t) = length t < 2 ^ 32
FitsHeap (bytes_content bs) = length bs < 2 ^ 32
FitsHeap (tokens_content t ts) = (length t < 2 ^ 32) × AreTokens ts
FitsHeap _ = Unit {0}

tokenized_parts : (t : List ℕ) (ts : List Token) → length (short_tokenized t ts) ≡ length (short_sized t) + (length (vnum (length ts)) + length (flat_map short_token ts))
tokenized_parts t ts = omega (arith, length-append (short_sized t) (vnum (length ts) ++ flat_map short_token ts), length-append (vnum (length ts)) (flat_map short_token ts))

pub content_within : (c : Content) → FitsHeap c → length (content_bytes c) ≤ content_room c
content_within no_content h = omega arith
content_within (truth_content b) h = omega arith
content_within (unsigned_content n) h = omega (arith, length_eight n)
content_within (signed_content z) h = omega (arith, length_eight (cast_unsigned w64 z))
content_within (wide_content n) h = omega (arith, length_sixteen n)
content_within (text_content t) h = sized_length t h
content_within (bytes_content bs) h = sized_length bs h
content_within (tokens_content t ts) h =
    let many : length ts < 2 ^ 64 = let c = h.1.count in omega arith in
    omega (arith, tokenized_parts t ts, sized_length t h.0, vnum_ten (length ts) many, tokens_length ts h.1.each)

-- tokens that are lent have an encoding
abbrev TokensEncode : Content → Type 0
TokensEncode (tokens_content t ts) = AreTokens ts
TokensEncode _ = Unit {0}

tokens_encode : (l : ReferenceValueLeaf) → TokensEncode (content (leaf_of l))
tokens_encode (lent.PreTokStr s) = ∥∥₁_elim s.tokens.held.1 (AreTokens-prop (tokens_of s)) (λ p. p.valid)
tokens_encode _ = tt

room_fits : (c : Content) → TokensEncode c → content_room c < 2 ^ 32 → FitsHeap c
room_fits (text_content t) h small = omega arith
room_fits (bytes_content bs) h small = omega arith
room_fits (tokens_content t ts) h small = (omega arith, h)
room_fits _ h small = tt

pub leaf_within : (l : ReferenceValueLeaf) → leaf_room (leaf_of l) < 2 ^ 32 → length (leaf_bytes (leaf_of l)) ≤ leaf_room (leaf_of l)
leaf_within l h = let c = content (leaf_of l) in content_within c (room_fits c (tokens_encode l) h)

-- so where there is room for it, it fits
pub leaf_fits : (len : ℕ) (l : ReferenceValueLeaf) → len + leaf_room (leaf_of l) < 2 ^ 32 → len + length (leaf_bytes (leaf_of l)) < 2 ^ 32
leaf_fits len l h = omega (arith, leaf_within l (omega arith))

-- ---- what is written of a leaf stands there

flag_small : (b : Bool) → flag b < 2 ^ 32
flag_small false = omega arith
flag_small true = omega arith

bytes_fit : (c : Content) → IsContent c → length (content_bytes c) < 2 ^ 32 → FitsHeap c
bytes_fit (text_content t) h small = sized_fits t small
bytes_fit (bytes_content bs) h small = sized_fits bs small
bytes_fit (tokens_content t ts) h small = (sized_fits t (omega (arith, tokenized_parts t ts)), h.1)
bytes_fit _ h small = tt

content_stands : (old new : List ℕ) (c : Content) → new ≡ old ++ content_bytes c → IsContent c → FitsHeap c → ContentStands new (content_address (length old) c) c
content_stands old new no_content e h fits = refl
content_stands old new (truth_content b) e h fits = refl
content_stands old new (unsigned_content n) e h fits = at_end old new _ _ e (eight_bytes_encode n h)
content_stands old new (signed_content z) e h fits = at_end old new _ _ e (record { fits = h; encoded = eight_bytes_encode (cast_unsigned w64 z) (unsigned_fits z h) })
content_stands old new (wide_content n) e h fits = at_end old new _ _ e (sixteen_bytes_encode n h)
content_stands old new (text_content t) e h fits = at_end old new _ _ e (record { sized = record { is = refl; fits = fits }; utf8 = h.utf8 })
content_stands old new (bytes_content bs) e h fits = at_end old new _ _ e (record { is = refl; fits = fits })
content_stands old new (tokens_content t ts) e h fits = at_end old new _ _ e (record { is = refl; content_fits = h.0; tokens_fit = h.1 })

-- nothing and a truth value have no bytes
abbrev HasBytes : Content → Type 0
HasBytes no_content = ⊥
HasBytes (truth_content b) = ⊥
HasBytes _ = Unit {0}

has_bytes : (l : Leaf) → leaf_type_byte l ≢ 0 → leaf_type_byte l ≢ 9 → HasBytes (content l)
has_bytes null x y = x refl
has_bytes (boolean b) x y = y refl
has_bytes _ x y = tt

address_is : (len : ℕ) (c : Content) → HasBytes c → content_address len c ≡ len
address_is len no_content h = absurd h
address_is len (truth_content b) h = absurd h
address_is len _ h = refl

pub address_small : (len : ℕ) (c : Content) → len < 2 ^ 32 → content_address len c < 2 ^ 32
address_small len no_content h = omega arith
address_small len (truth_content b) h = flag_small b
address_small len _ h = h

some_bytes : (c : Content) → HasBytes c → FitsHeap c → 0 < length (content_bytes c)
some_bytes no_content h fits = absurd h
some_bytes (truth_content b) h fits = absurd h
some_bytes (unsigned_content n) h fits = omega (arith, length_eight n)
some_bytes (signed_content z) h fits = omega (arith, length_eight (cast_unsigned w64 z))
some_bytes (wide_content n) h fits = omega (arith, length_sixteen n)
some_bytes (text_content t) h fits = sized_some t fits
some_bytes (bytes_content bs) h fits = sized_some bs fits
some_bytes (tokens_content t ts) h fits = omega (arith, tokenized_parts t ts, sized_some t fits.0)

-- a leaf whose bytes were added
pub wrote_leaf : (old new : List ℕ) (l : Leaf) (at : ℕ) → new ≡ old ++ leaf_bytes l → IsLeaf l → length old + length (leaf_bytes l) < 2 ^ 32 → at ≡ leaf_address (length old) l → Wrote old new (leaf_type_byte l) at (leaf l)
wrote_leaf old new l at e valid small is =
    let c = content l in
    let fits : FitsHeap c = bytes_fit c valid (omega arith) in
    wrote_at (record {
      added = leaf_bytes l;
      grows = e;
      within = content_within c fits;
      weighed = omega arith;
      reads = (refl, content_stands old new c e valid fits);
      behind = λ x y. omega (arith, address_is (length old) c (has_bytes l x y));
      below = λ x y. omega (arith, longer old new (leaf_bytes l) e, address_is (length old) c (has_bytes l x y), some_bytes c (has_bytes l x y) fits);
      fits = address_small (length old) c (omega arith);
    }) (sym is)

-- after room was made, by the type and by what is held
pub wrote_parts : (old mid new : List ℕ) (l : Leaf) (held : Content) (t : LeafType) (at : ℕ) → mid ≡ old → held ≡ content l → t ≡ type_of l → new ≡ mid ++ content_bytes held → IsContent held
    → length old + length (leaf_bytes l) < 2 ^ 32 → at ≡ content_address (length mid) held → Wrote old new (heap_code t) at (leaf l)
wrote_parts old mid new l held t at same holds typed e valid small is =
    subst (λ k. Wrote old new (heap_code k) at (leaf l)) (sym typed)
    (wrote_leaf old new l at (e ∙ (λ i. same i ++ content_bytes (holds i))) (subst IsContent holds valid) small (is ∙ (λ i. content_address (length (same i)) (holds i))))
