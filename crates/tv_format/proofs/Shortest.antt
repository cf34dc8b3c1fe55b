-- No encoding is shorter than the shortest one.
use Rattle.std.proofs.Common.{◌≡◌, ℕ, ◌^◌, ◌<◌, ◌≤◌, List, [], ◌∷◌, ◌++◌, length, sym, ap, subst, arith, length-append, ◌⊎◌, inl, inr}
use Rattle.std.specs.Prelude.{ℤ}
use Rattle.std.specs.Int.{w64, cast_unsigned}
use Rattle.std.specs.List.{flat_map}
use Rattle.tv_base.specs.Number.{VNum, vnum, Fixed, four_bytes, eight_bytes, sixteen_bytes, signed_bytes, Signed, truth_byte}
use Rattle.tv_base.specs.Parts.{Then, Behind, Sized, Text, Each, short_sized}
use Rattle.tv_base.proofs.Numbers.{vnum_shortest, length-fixed, fixed_fits}
use Rattle.tv_base.proofs.Shortest.{four_bytes_encode, eight_bytes_encode, sixteen_bytes_encode, sized_shortest, text_shortest}
use Rattle.tv_format.specs.Content.{Content, no_content, truth_content, unsigned_content, signed_content, wide_content, text_content, bytes_content, tokens_content}
use Rattle.tv_format.specs.Leaves.{type_of, content}
use Rattle.tv_format.specs.Tree.{Token, Leaf, Tree, leaf, array, object, Elements, no_elements, element, Entries, no_entries, entry, element_count, entry_count, Document}
use Rattle.tv_format.specs.Version.{Version, V1, V2, V3, plain, IsWritten, entry_total}
use Rattle.tv_format.specs.Encoding.{Key, TokenEncoding, Tokenized, ContentBody, LeafBody, leaf_code, Encodes, EncodesElements, EncodesEntries, EncodesPair, EncodesDocument, NoLegacy}
use Rattle.tv_format.specs.Short.{short_token, short_tokenized, short_content, short_leaf, short_key, short, short_elements, short_entries, short_pair, short_document}
use Rattle.tv_format.proofs.ShortEncodings.{written_scale}

-- no bytes of a kind are fewer than these
record Shortest (few : List ℕ) (P : List ℕ → Type 0) : Type 0 where
  pub shortest : (bytes : List ℕ) → P bytes → length few ≤ length bytes

exactly : (few : List ℕ) → Shortest few (λ b. b ≡ few)
exactly few = record { shortest = λ b e. omega (arith, ap length e) }

-- shortest parts make a shortest whole
then : {P Q : List ℕ → Type 0} {few more : List ℕ} → Shortest few P → Shortest more Q → Shortest (few ++ more) (Then P Q)
then {few = few} {more = more} r s = record {
  shortest = λ b p.
      omega (arith, length-append few more, length-append p.prefix p.rest, ap length p.joined, r.shortest p.prefix p.first, s.shortest p.rest p.second);
}

behind : {P : List ℕ → Type 0} {code : ℕ} {few : List ℕ} → Shortest few P → Shortest (code ∷ few) (Behind code P)
behind r = record { shortest = λ b p. omega (arith, ap length p.joined, r.shortest p.body p.encoded) }

each : {A : Type 0} (R : List ℕ → A → Type 0) (f : A → List ℕ) → ((x : A) → Shortest (f x) (λ b. R b x)) → (xs : List A) → Shortest (flat_map f xs) (λ b. Each R b xs)
each R f r [] = exactly []
each R f r (x ∷ xs) = then (r x) (each R f r xs)

number : (n : ℕ) → Shortest (vnum n) (λ b. VNum b n)
number n = record { shortest = vnum_shortest n }

-- the encodings of a number in this many bytes have one length
fixed : (k n : ℕ) (few : List ℕ) → (n < 256 ^ k → Fixed k few n) → Shortest few (λ b. Fixed k b n)
fixed k n few f = record { shortest = λ b p. omega (arith, length-fixed (f (fixed_fits p)), length-fixed p) }

signed : (z : ℤ) → Shortest (signed_bytes z) (λ b. Signed b z)
signed z =
    let r = fixed 8 (cast_unsigned w64 z) (signed_bytes z) (eight_bytes_encode (cast_unsigned w64 z)) in
    record { shortest = λ b p. r.shortest b p.encoded }

sized : (content : List ℕ) → Shortest (short_sized content) (λ b. Sized b content)
sized content = record { shortest = sized_shortest content }

text_of : (text : List ℕ) → Shortest (short_sized text) (λ b. Text b text)
text_of text = record { shortest = text_shortest text }

token : (t : Token) → Shortest (short_token t) (λ b. TokenEncoding b t)
token t = then (number t.offset_from) (then (number t.offset_to) (then (number t.position) (then (text_of t.text) (number t.position_length))))

tokenized_of : (t : List ℕ) (ts : List Token) → Shortest (short_tokenized t ts) (λ b. Tokenized b t ts)
tokenized_of t ts = then (text_of t) (then (number (length ts)) (each TokenEncoding short_token token ts))

content_of : (h : Content) → Shortest (short_content h) (λ b. ContentBody plain b h)
content_of no_content = exactly []
content_of (truth_content b) = exactly (truth_byte b)
content_of (unsigned_content n) = fixed 8 n (eight_bytes n) (eight_bytes_encode n)
content_of (signed_content z) = signed z
content_of (wide_content n) = fixed 16 n (sixteen_bytes n) (sixteen_bytes_encode n)
content_of (text_content t) = text_of t
content_of (bytes_content bs) = sized bs
content_of (tokens_content t ts) = behind (tokenized_of t ts)

leaf_of : (v : Version) → IsWritten v → (l : Leaf) → Shortest (short_leaf l) (λ b. Behind (leaf_code l) (λ c. LeafBody v c l) b)
leaf_of v w l = behind (subst (λ s. Shortest (short_content (content l)) (λ b. ContentBody s b (content l))) (sym (written_scale v w (type_of l))) (content_of (content l)))

key_of : (v : Version) (k : List ℕ) → Shortest (short_key v k) (λ b. Key v b k)
key_of V1 k = behind (text_of k)
key_of V2 k = behind (text_of k)
key_of V3 k = text_of k

-- no object stands in a legacy form
without_legacy : (es : Entries) {few : List ℕ} {P : List ℕ → Type 0} → Shortest few P → Shortest few (λ b. P b ⊎ Behind 8 (λ c. NoLegacy c es) b)
without_legacy es {few} r = record { shortest = λ b p. elim p as (λ _. length few ≤ length b) [ inl q ↦ r.shortest b q | inr q ↦ absurd q.encoded ] }

module _ (v : Version) (written : IsWritten v) where
  mutual
    tree : (t : Tree) → Shortest (short v t) (λ b. Encodes NoLegacy v b t)
    tree (leaf l) = leaf_of v written l
    tree (array ts) = behind (then (number (element_count ts)) (elements_of ts))
    tree (object es) = without_legacy es (behind (then (number (entry_total v (entry_count es))) (entries_of es)))

    elements_of : (ts : Elements) → Shortest (short_elements v ts) (λ b. EncodesElements NoLegacy v b ts)
    elements_of no_elements = exactly []
    elements_of (element t ts) = then (tree t) (elements_of ts)

    entries_of : (es : Entries) → Shortest (short_entries v es) (λ b. EncodesEntries NoLegacy v b es)
    entries_of no_entries = exactly []
    entries_of (entry k t es) = then (key_of v k) (then (tree t) (entries_of es))

  pair : (p : ℕ × Tree) → Shortest (short_pair v p) (λ b. EncodesPair NoLegacy v b p)
  pair p = then (fixed 4 p.0 (four_bytes p.0) (four_bytes_encode p.0)) (tree p.1)

  document : (d : Document) → Shortest (short_document v d) (λ b. EncodesDocument NoLegacy v b d)
  document d = then (number (length d)) (each (EncodesPair NoLegacy v) (short_pair v) pair d)

  pub tree_shortest : (t : Tree) (bytes : List ℕ) → Encodes NoLegacy v bytes t → length (short v t) ≤ length bytes
  tree_shortest t = (tree t).shortest

  pub document_shortest : (d : Document) (bytes : List ℕ) → EncodesDocument NoLegacy v bytes d → length (short_document v d) ≤ length bytes
  document_shortest d = (document d).shortest
