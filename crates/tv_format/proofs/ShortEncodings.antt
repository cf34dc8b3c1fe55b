-- The shortest encoding is an encoding.
use Rattle.std.proofs.Common.{◌≡◌, ℕ, ◌^◌, ◌<◌, Bool, true, false, List, [], ◌∷◌, ◌++◌, length, refl, sym, subst, arith, inl}
use Rattle.std.specs.Prelude.{ℤ, pos, negsuc, FitsSigned}
use Rattle.std.specs.Int.{w64, cast_unsigned}
use Rattle.std.specs.List.{AllByRecursion, flat_map}
use Rattle.tv_base.specs.Number.{vnum, Truth, eight_bytes, truth_byte, Signed}
use Rattle.tv_format.specs.Content.{Content, no_content, truth_content, unsigned_content, signed_content, wide_content, text_content, bytes_content, tokens_content}
use Rattle.tv_format.specs.Leaves.{type_of, content, scale}
use Rattle.tv_format.specs.Tree.{Token, Leaf, Tree, leaf, array, object, Elements, no_elements, element, Entries, no_entries, entry, element_count, entry_count, Document}
use Rattle.tv_format.specs.Version.{Version, V1, V2, V3, plain, IsWritten, entry_total}
use Rattle.tv_format.specs.Encoding.{Key, TokenEncoding, Tokenized, ContentBody, LeafBody, leaf_code, Encodes, EncodesElements, EncodesEntries, EncodesPair, EncodesDocument}
use Rattle.tv_format.specs.Short.{short_token, short_tokenized, short_content, short_leaf, short_key, short, short_elements, short_entries, short_pair, short_document, IsText, IsToken, AreTokens, IsContent, IsLeaf, IsValue, AreElements, AreEntries, IsPair, IsDocument}
use Rattle.tv_format.specs.declared.leaf_type.LeafType.{LeafType}
use Rattle.tv_format.specs.declared.leaf_type.LeafType.TheVariants as types
use Rattle.tv_base.proofs.Numbers.{vnum_encodes}
use Rattle.tv_base.specs.Parts.{Then, Behind, Sized, Text, Each, short_sized}
use Rattle.tv_base.proofs.Shortest.{four_bytes_encode, eight_bytes_encode, sixteen_bytes_encode}

-- parts that are encoded make a whole that is
then : {P Q : List ℕ → Type 0} (prefix rest : List ℕ) → P prefix → Q rest → Then P Q (prefix ++ rest)
then prefix rest p q = record { prefix = prefix; rest = rest; joined = refl; first = p; second = q }

behind : {P : List ℕ → Type 0} {code : ℕ} (body : List ℕ) → P body → Behind code P (code ∷ body)
behind body p = record { body = body; joined = refl; encoded = p }

sized : (content : List ℕ) → length content < 2 ^ 63 → Sized (short_sized content) content
sized content h = record { size = vnum (length content); joined = refl; number = vnum_encodes (length content) (omega arith) }

text_of : (content : List ℕ) → IsText content → Text (short_sized content) content
text_of content h = record { sized = sized content h.size; utf8 = h.utf8 }

pub unsigned_fits : (z : ℤ) → FitsSigned w64 z → cast_unsigned w64 z < 2 ^ 64
unsigned_fits (pos n) f = omega (arith, f.sfits)
unsigned_fits (negsuc n) f = omega arith

signed_of : (z : ℤ) → FitsSigned w64 z → Signed (eight_bytes (cast_unsigned w64 z)) z
signed_of z f = record { fits = f; encoded = eight_bytes_encode (cast_unsigned w64 z) (unsigned_fits z f) }

truth : (b : Bool) → Truth (truth_byte b) b
truth true = refl
truth false = refl

token : (t : Token) → IsToken t → TokenEncoding (short_token t) t
token t h =
    then _ _ (vnum_encodes t.offset_from h.offset_from)
    (then _ _ (vnum_encodes t.offset_to h.offset_to)
    (then _ _ (vnum_encodes t.position h.position)
    (then _ _ (text_of t.text h.text) (vnum_encodes t.position_length h.position_length))))

each_of : {A : Type 0} (R : List ℕ → A → Type 0) (P : A → Type 0) (f : A → List ℕ) → ((x : A) → P x → R (f x) x) → (xs : List A) → AllByRecursion P xs → Each R (flat_map f xs) xs
each_of R P f h [] p = refl
each_of R P f h (x ∷ xs) p = then _ _ (h x p.0) (each_of R P f h xs p.1)

pub tokens_of : (ts : List Token) → AllByRecursion IsToken ts → Each TokenEncoding (flat_map short_token ts) ts
tokens_of ts p = each_of TokenEncoding IsToken short_token token ts p

pub tokenized_of : (t : List ℕ) (ts : List Token) → IsText t → AreTokens ts → Tokenized (short_tokenized t ts) t ts
tokenized_of t ts p q = then _ _ (text_of t p) (then _ _ (vnum_encodes (length ts) (omega (arith, q.count))) (tokens_of ts q.each))

-- in the versions that are written each number stands for itself
pub written_scale : (v : Version) → IsWritten v → (t : LeafType) → scale v t ≡ plain
written_scale V1 w t = absurd w
written_scale V2 w types.Date = refl
written_scale V2 w _ = refl
written_scale V3 w types.Date = refl
written_scale V3 w _ = refl

key_of : (v : Version) (k : List ℕ) → IsText k → Key v (short_key v k) k
key_of V1 k h = behind _ (text_of k h)
key_of V2 k h = behind _ (text_of k h)
key_of V3 k h = text_of k h

pub total_fits : (v : Version) (n : ℕ) → n < 2 ^ 63 → entry_total v n < 2 ^ 64
total_fits V1 n h = omega arith
total_fits V2 n h = omega arith
total_fits V3 n h = omega arith

content_encoded : (h : Content) → IsContent h → ContentBody plain (short_content h) h
content_encoded no_content h = refl
content_encoded (truth_content b) h = truth b
content_encoded (unsigned_content n) h = eight_bytes_encode n h
content_encoded (signed_content z) h = signed_of z h
content_encoded (wide_content n) h = sixteen_bytes_encode n h
content_encoded (text_content t) h = text_of t h
content_encoded (bytes_content bs) h = sized bs h.size
content_encoded (tokens_content t ts) h = behind _ (tokenized_of t ts h.0 h.1)

leaf_of : (v : Version) → IsWritten v → (l : Leaf) → IsLeaf l → Behind (leaf_code l) (λ b. LeafBody v b l) (short_leaf l)
leaf_of v w l h =
    behind _ (subst (λ s. ContentBody s (short_content (content l)) (content l)) (sym (written_scale v w (type_of l))) (content_encoded (content l) h))

module _ (Legacy : List ℕ → Entries → Type 0) (v : Version) (written : IsWritten v) where
  mutual
    pub short_encodes : (t : Tree) → IsValue t → Encodes Legacy v (short v t) t
    short_encodes (leaf l) h = leaf_of v written l h
    short_encodes (array ts) h = behind _ (then _ _ (vnum_encodes (element_count ts) (omega arith)) (elements_encode ts h.1))
    short_encodes (object es) h = inl (behind _ (then _ _ (vnum_encodes (entry_total v (entry_count es)) (total_fits v (entry_count es) h.0)) (entries_encode es h.1)))

    elements_encode : (ts : Elements) → AreElements ts → EncodesElements Legacy v (short_elements v ts) ts
    elements_encode no_elements h = refl
    elements_encode (element t ts) h = then _ _ (short_encodes t h.0) (elements_encode ts h.1)

    entries_encode : (es : Entries) → AreEntries es → EncodesEntries Legacy v (short_entries v es) es
    entries_encode no_entries h = refl
    entries_encode (entry k t es) h = then _ _ (key_of v k h.0) (then _ _ (short_encodes t h.1) (entries_encode es h.2))

  pair : (p : ℕ × Tree) → IsPair p → EncodesPair Legacy v (short_pair v p) p
  pair p h = then _ _ (four_bytes_encode p.0 h.field) (short_encodes p.1 h.value)

  pub short_document_encodes : (d : Document) → IsDocument d → EncodesDocument Legacy v (short_document v d) d
  short_document_encodes d h = then _ _ (vnum_encodes (length d) (omega (arith, h.count))) (each_of (EncodesPair Legacy v) IsPair (short_pair v) pair d h.each)
