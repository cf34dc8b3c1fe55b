-- What was taken of a source, and then what it does to what is read.
use Rattle.std.proofs.Common.{◌≡◌, ℕ, ◌<◌, ◌≤◌, ◌⊎◌, Bool, true, false, List, [], ◌∷◌, ◌++◌, length, Option, Some, None, Result, Ok, Err, IsErrOf, refl, sym, ◌∙◌, ap, subst, append_assoc, arith, inl, inr}
use Rattle.std.proofs.lemmas.List.{append-nil}
use Rattle.tv_base.specs.Number.{VNum, Truth}
use Rattle.tv_base.specs.Parts.{Each}
use Rattle.tv_base.specs.Source.{Failures}
use Rattle.tv_base.proofs.Numbers.{length-fixed}
use Rattle.tv_builder.specs.Behind.{document_parts, open_parts}
use Rattle.tv_builder.specs.Prefix.{EncodesPart}
use Rattle.tv_builder.specs.declared.kinds.BytesKind.TheVariants as kinds
use Rattle.tv_builder.specs.Parts.{Part, number, field, value, array_head, object_head, bytes_head, Trades, same}
use Rattle.tv_builder.specs.State.{parts_of}
use Rattle.tv_builder.proofs.Grammar.{each_append, trades_sound}
use Rattle.tv_builder.proofs.Trading.{trades_as, trades_from}
use Rattle.tv_builder.specs.declared.pair_builder.PairBuilder.{PairBuilder}
use Rattle.tv_builder.specs.Builder.{built, state_of}
use Rattle.tv_builder.proofs.Paid.{groups_take, scaled_length}
use Rattle.tv_reader.specs.Legacy.{Legacy}
use Rattle.tv_reader.specs.Finds.{FindsIf}
use Rattle.tv_reader.specs.HeadReading.{head_part}
use Rattle.tv_reader.specs.Heads.{HeadPart, leaf_head, length_head, HasWidth, array_head as array_number, object_head as object_number, tokenized_head, legacy_head, EncodesHead, EncodesKeyHead}
use Rattle.tv_reader.specs.declared.error.DeserializeError.{DeserializeError}
use Rattle.tv_reader.specs.declared.error.DeserializeError.TheVariants as errors
use Rattle.tv_reader.specs.declared.heads.Head.{Head}
use Rattle.tv_reader.proofs.Finding.{finds_as, finds_short}
use Rattle.tv_format.specs.InputError.{Refusal}
use Rattle.tv_format.specs.Content.{Content, no_content, truth_content, unsigned_content, signed_content, wide_content, text_content, bytes_content, tokens_content, form_of}
use Rattle.tv_format.specs.Leaves.{type_of, content, scale}
use Rattle.tv_format.specs.Encoding.{ContentBody, Encodes, NoLegacy}
use Rattle.tv_format.specs.Tree.{Tree, leaf, array, object, Entries}
use Rattle.tv_format.specs.Version.{Version, V1, V2, V3, Scale}
use Rattle.tv_format.specs.declared.leaf_type.LeafType.TheVariants as leaves
use Rattle.tv_reading.proofs.Putting.{same_grows}
use Rattle.tv_reading.specs.Prefix.{parts_at, parts_read, IsBetweenParts, IsPlace, IsSound, LacksPair, IsMalformedNext, NoRoomBehind, ValueNext}
use Rattle.tv_reading.specs.Puts.{PartsPut, LacksRoom, PutsParts, IsParts, head_parts}
use Rattle.tv_reading.specs.Steps.{Advances, HasFirstByte, TakesWhole, Stepped}
use Rattle.tv_reading.specs.declared.reading.Reading.{Reading}
use Rattle.tv_reader.specs.Error.{StoreMayStop}

abbrev pub EncodesIn : (List ℕ → Entries → Type 0) → Version → List ℕ → List Part → Type 0
EncodesIn L v b ps = Each (EncodesPart L v) b ps

pub one_part : (L : List ℕ → Entries → Type 0) (v : Version) (b : List ℕ) (p : Part) → EncodesPart L v b p → EncodesIn L v b (p ∷ [])
one_part L v b p h = record { prefix = b; rest = []; joined = sym (append-nil b); first = h; second = refl }

pub advances : (L : List ℕ → Entries → Type 0) (v : Version) (old new : Reading) (ps : List Part) (taken : List ℕ) → Trades (parts_read old ++ ps) (parts_read new) → EncodesIn L v taken ps → Advances L v old new taken
advances L v old new ps taken t h = λ bytes p. trades_sound L v (parts_read old ++ ps) (parts_read new) (bytes ++ taken) t (each_append (EncodesPart L v) (parts_read old) ps bytes taken p h)

stepped : (v : Version) (legacy : Bool) (old new : Reading) (ps : List Part) (taken : List ℕ) → PartsPut old new ps → 0 < length taken → (length taken ≤ 4096) ⊎ TakesWhole v old taken → EncodesIn Legacy v taken ps → (legacy ≡ false → EncodesIn NoLegacy v taken ps) → Stepped v legacy old new taken
stepped v legacy old new ps taken p some few encoded plain = record { some = some; in_pieces = few; goes = advances Legacy v old new ps taken p.trades encoded; plain = λ e. advances NoLegacy v old new ps taken p.trades (plain e) }

-- ---- the number of the pairs

pub some_number : {b : List ℕ} {n : ℕ} → VNum b n → 0 < length b
some_number h = groups_take h.groups

pub number_put : (r new : Reading) (n : ℕ) → IsSound r → r.announced ≡ None → new.announced ≡ Some n → new.finished ≡ r.finished → new.field ≡ r.field → new.builder ≡ r.builder → PartsPut r new (number n ∷ [])
number_put r new n sound none announced finished field_is builder =
    let none_built : built new.builder ≡ built r.builder = ap built builder in
    let state : state_of new.builder ≡ state_of r.builder = ap state_of builder in
    let k = at r.field (subst (λ z. IsPlace z (built r.builder) r.field (state_of r.builder)) none sound.place) in
    let before : parts_read r ≡ [] = ap (λ z. parts_at z (built r.builder) r.field (state_of r.builder)) none in
    let after : number n ∷ [] ≡ parts_read new = sym k.1 ∙ λ i. parts_at (sym announced i) (sym none_built i) (sym field_is i) (sym state i) in
    record {
      sound = record {
        not_failed = ap (λ (b : PairBuilder). b.failed) builder ∙ sound.not_failed;
        counted = finished ∙ sound.counted ∙ ap length (sym none_built);
        place =
            subst (λ z. IsPlace z (built new.builder) new.field (state_of new.builder)) (sym announced)
            (subst (λ z. IsPlace (Some n) z new.field (state_of new.builder)) (sym none_built)
            (subst (λ z. IsPlace (Some n) (built r.builder) z (state_of new.builder)) (sym field_is)
            (subst (λ z. IsPlace (Some n) (built r.builder) r.field z) (sym state) k.0)));
      };
      grows = same_grows r new builder;
      trades = trades_from _ (ap (λ z. z ++ number n ∷ []) before) (trades_as _ after same);
    }
  where
    at : (f : Option ℕ) → IsPlace None (built r.builder) f (state_of r.builder) → IsPlace (Some n) (built r.builder) f (state_of r.builder) × (parts_at (Some n) (built r.builder) f (state_of r.builder) ≡ number n ∷ [])
    at None h = ((omega (arith, ap length h.0), h.1), ap (λ d. document_parts n d) h.0)
    at (Some f) h = absurd h

-- ---- a field

pub field_put : (r new : Reading) (f : ℕ) → IsSound r → r.field ≡ None → LacksPair r.announced r.finished → new.announced ≡ r.announced → new.finished ≡ r.finished → new.field ≡ Some f → new.builder ≡ r.builder → PartsPut r new (field f ∷ [])
field_put r new f sound none lacks announced finished field_is builder =
    let built_is : built new.builder ≡ built r.builder = ap built builder in
    let state : state_of new.builder ≡ state_of r.builder = ap state_of builder in
    let k = at r.announced lacks (subst (λ z. IsPlace r.announced (built r.builder) z (state_of r.builder)) none sound.place) in
    let before : parts_read r ++ field f ∷ [] ≡ parts_at r.announced (built r.builder) None (state_of r.builder) ++ field f ∷ [] = ap (λ z. parts_at r.announced (built r.builder) z (state_of r.builder) ++ field f ∷ []) none in
    let after : parts_at r.announced (built r.builder) None (state_of r.builder) ++ field f ∷ [] ≡ parts_read new = k.1 ∙ λ i. parts_at (sym announced i) (sym built_is i) (sym field_is i) (sym state i) in
    record {
      sound = record {
        not_failed = ap (λ (b : PairBuilder). b.failed) builder ∙ sound.not_failed;
        counted = finished ∙ sound.counted ∙ ap length (sym built_is);
        place =
            subst (λ z. IsPlace z (built new.builder) new.field (state_of new.builder)) (sym announced)
            (subst (λ z. IsPlace r.announced z new.field (state_of new.builder)) (sym built_is)
            (subst (λ z. IsPlace r.announced (built r.builder) z (state_of new.builder)) (sym field_is)
            (subst (λ z. IsPlace r.announced (built r.builder) (Some f) z) (sym state) k.0)));
      };
      grows = same_grows r new builder;
      trades = trades_from _ before (trades_as _ after same);
    }
  where
    at : (a : Option ℕ) → LacksPair a r.finished → IsPlace a (built r.builder) None (state_of r.builder)
        → IsPlace a (built r.builder) (Some f) (state_of r.builder) × (parts_at a (built r.builder) None (state_of r.builder) ++ field f ∷ [] ≡ parts_at a (built r.builder) (Some f) (state_of r.builder))
    at None lacks h = absurd lacks
    at (Some n) lacks h = (
      (omega (arith, lacks, sound.counted), subst (λ z. IsBetweenParts z) (sym h.1) tt),
      ap (λ (z : List Part). document_parts n (built r.builder) ++ (field f ∷ z)) (sym (ap parts_of h.1)),
    )

-- ---- what was taken, and then the call

-- what a part's bytes are
pub record IsPart (v : Version) (legacy : Bool) (old : Reading) (taken : List ℕ) (ps : List Part) : Type 0 where
  pub some : 0 < length taken
  pub in_pieces : (length taken ≤ 4096) ⊎ TakesWhole v old taken
  pub encoded : EncodesIn Legacy v taken ps
  pub plain : legacy ≡ false → EncodesIn NoLegacy v taken ps

pub part_steps : (v : Version) (legacy : Bool) (old new : Reading) (ps : List Part) (taken : List ℕ) → IsPart v legacy old taken ps → PartsPut old new ps → Stepped v legacy old new taken
part_steps v legacy old new ps taken h p = stepped v legacy old new ps taken p h.some h.in_pieces h.encoded h.plain

pub puts_found : {S X : Type 0} {May : DeserializeError → ℕ → Type 0} {is_known : S → Type 0} {left : S → List ℕ} {failures : S → Failures} {os ns : S} {i k : ℕ} {x : X} {A : List ℕ → X → Type 0} {I : List ℕ → Refusal → Type 0} (v : Version) (legacy : Bool) (old new : Reading) (ps : List Part) (result : Result (Unit {0}) DeserializeError)
    → ((a : List ℕ) → A a x → IsPart v legacy old a ps) → FindsIf May is_known left failures os i ns k (Ok x) A I → PutsParts old new ps result → FindsIf StoreMayStop is_known left failures os i ns k result (λ b _. Stepped v legacy old new b) (IsMalformedNext v old)
puts_found v legacy old new ps (Ok y) part h p = finds_as y (λ b _. Stepped v legacy old new b) (IsMalformedNext v old) (λ a s. part_steps v legacy old new ps a (part a s) p) h
puts_found v legacy old new ps (Err errors.HeapFull) part h p = finds_short errors.HeapFull (λ b _. Stepped v legacy old new b) (IsMalformedNext v old) refl tt h
puts_found v legacy old new ps (Err errors.Memory) part h p = finds_short errors.Memory (λ b _. Stepped v legacy old new b) (IsMalformedNext v old) refl tt h
puts_found v legacy old new ps (Err (errors.CorruptedValue c)) part h p = absurd p
puts_found v legacy old new ps (Err (errors.UnsupportedType t)) part h p = absurd p
puts_found v legacy old new ps (Err (errors.TypeMismatch t u)) part h p = absurd p
puts_found v legacy old new ps (Err (errors.Custom s)) part h p = absurd p
puts_found v legacy old new ps (Err (errors.UnsupportedVersion m n)) part h p = absurd p
puts_found v legacy old new ps (Err (errors.Io e)) part h p = absurd p
puts_found v legacy old new ps (Err errors.AlreadyFailed) part h p = absurd p
puts_found v legacy old new ps (Err errors.TooDeep) part h p = absurd p

-- and where there is no room for it
pub no_room : (v : Version) (old : Reading) (ps : List Part) (whole rest taken : List ℕ) → whole ≡ taken ++ rest → EncodesIn Legacy v taken ps → LacksRoom old ps → NoRoomBehind v old whole
no_room v old ps whole rest taken joined encoded f = λ bytes p. record {
  announced = f.announced;
  finished = f.finished;
  field = f.field;
  state = f.state;
  prefix = bytes ++ taken;
  rest = rest;
  joined = ap (λ (z : List ℕ). bytes ++ z) joined ∙ sym (append_assoc bytes taken rest);
  less = f.less;
  is = f.is;
  encoded = trades_sound Legacy v (parts_read old ++ ps) (open_parts f.announced f.finished f.field f.state) (bytes ++ taken) f.trades (each_append (EncodesPart Legacy v) (parts_read old) ps bytes taken p encoded);
  no_room = f.no_room;
}

full_by : (v : Version) (old new : Reading) (ps : List Part) (result : Result (Unit {0}) DeserializeError) → IsErrOf result errors.HeapFull → PutsParts old new ps result → LacksRoom old ps
full_by v old new ps result is p = subst (λ z. PutsParts old new ps z) is p

pub puts_full : {S X : Type 0} {May : DeserializeError → ℕ → Type 0} {is_known : S → Type 0} {left : S → List ℕ} {failures : S → Failures} {os ns : S} {i k : ℕ} {x : X} {A : List ℕ → X → Type 0} {I : List ℕ → Refusal → Type 0} (v : Version) (legacy : Bool) (old new : Reading) (ps : List Part) (result : Result (Unit {0}) DeserializeError)
    → ((a : List ℕ) → A a x → IsPart v legacy old a ps) → FindsIf May is_known left failures os i ns k (Ok x) A I → PutsParts old new ps result → is_known os → IsErrOf result errors.HeapFull → NoRoomBehind v old (left os)
puts_full {left = left} {os = os} {ns = ns} v legacy old new ps result part h p t is =
    let f = h.found t in
    no_room v old ps (left os) (left ns) f.prefix f.joined (part f.prefix f.encoded).encoded (full_by v old new ps result is p)

-- ---- the head of a key

pub key_part : (v : Version) (legacy : Bool) (old : Reading) (n : ℕ) (a : List ℕ) → EncodesKeyHead v a n → IsPart v legacy old a (bytes_head kinds.Key n ∷ [])
key_part V1 legacy old n a h = record { some = omega (arith, ap length h.joined); in_pieces = inl (omega (arith, ap length h.joined, h.encoded.at_most_ten)); encoded = one_part Legacy V1 a (bytes_head kinds.Key n) h; plain = λ _. one_part NoLegacy V1 a (bytes_head kinds.Key n) h }
key_part V2 legacy old n a h = record { some = omega (arith, ap length h.joined); in_pieces = inl (omega (arith, ap length h.joined, h.encoded.at_most_ten)); encoded = one_part Legacy V2 a (bytes_head kinds.Key n) h; plain = λ _. one_part NoLegacy V2 a (bytes_head kinds.Key n) h }
key_part V3 legacy old n a h = record { some = some_number h; in_pieces = inl (omega (arith, h.at_most_ten)); encoded = one_part Legacy V3 a (bytes_head kinds.Key n) h; plain = λ _. one_part NoLegacy V3 a (bytes_head kinds.Key n) h }

-- ---- the head of a value

truth_length : (t : Bool) (b : List ℕ) → Truth b t → length b ≡ 1
truth_length true b h = ap length h
truth_length false b h = ap length h

small_content : (s : Scale) (b : List ℕ) (c : Content) → HasWidth (form_of c) → ContentBody s b c → length b ≤ 16
small_content s b no_content w h = omega (arith, ap length h)
small_content s b (truth_content t) w h = omega (arith, truth_length t b h)
small_content s b (unsigned_content n) w h = omega (arith, length-fixed h)
small_content s b (signed_content z) w h = omega (arith, scaled_length s b z h)
small_content s b (wide_content n) w h = omega (arith, length-fixed h)
small_content s b (text_content t) w h = absurd w
small_content s b (bytes_content bs) w h = absurd w
small_content s b (tokens_content t ts) w h = absurd w

-- what is taken of a head is short
small_part : (v : Version) (h : HeadPart) (a : List ℕ) → IsParts h → EncodesHead v a h → (0 < length a) × (length a ≤ 4096)
small_part v (leaf_head l) a is h = let p = h.1 in (omega (arith, ap length p.joined), omega (arith, ap length p.joined, small_content (scale v (type_of l)) p.body (content l) h.0 p.encoded))
small_part v (length_head t n) a is h = let p = h.1 in (omega (arith, ap length p.joined), omega (arith, ap length p.joined, p.encoded.at_most_ten))
small_part v tokenized_head a is h = absurd is
small_part v legacy_head a is h = absurd is
small_part v _ a is h = (omega (arith, ap length h.joined), omega (arith, ap length h.joined, h.encoded.at_most_ten))

head_encodes : (L : List ℕ → Entries → Type 0) (v : Version) (h : HeadPart) (a : List ℕ) → IsParts h → EncodesHead v a h → EncodesIn L v a (head_parts h)
head_encodes L v (leaf_head l) a is h = one_part L v a (value (leaf l)) h.1
head_encodes L v (length_head leaves.Str n) a is h = one_part L v a (bytes_head kinds.Str n) h.1
head_encodes L v (length_head leaves.Facet n) a is h = one_part L v a (bytes_head kinds.Facet n) h.1
head_encodes L v (length_head leaves.Bytes n) a is h = one_part L v a (bytes_head kinds.Bytes n) h.1
head_encodes L v (length_head _ n) a is h = absurd h.0
head_encodes L v (array_number n) a is h = one_part L v a (array_head n) h
head_encodes L v (object_number n) a is h = one_part L v a (object_head n) h
head_encodes L v tokenized_head a is h = absurd is
head_encodes L v legacy_head a is h = absurd is

pub head_is_part : (v : Version) (legacy : Bool) (old : Reading) (head : Head) (a : List ℕ) → IsParts (head_part head) → EncodesHead v a (head_part head) → IsPart v legacy old a (head_parts (head_part head))
head_is_part v legacy old head a is h =
    let small = small_part v (head_part head) a is h in
    record { some = small.0; in_pieces = inl small.1; encoded = head_encodes Legacy v (head_part head) a is h; plain = λ _. head_encodes NoLegacy v (head_part head) a is h }

-- ---- a value that is taken whole

-- after the codes of a pre-tokenized text there is a leaf
plain_leaf : (v : Version) (a : List ℕ) (t : Tree) → Encodes Legacy v (7 ∷ a) t → Encodes NoLegacy v (7 ∷ a) t
plain_leaf v a (leaf l) h = h
plain_leaf v a (array ts) h = absurd (let e : 7 ∷ a ≡ 12 ∷ h.body = h.joined in let k : ◌≡◌ {A = ℕ} 7 12 = cc in omega (arith, k))
plain_leaf v a (object es) h = elim h [
  | inl p ↦ absurd (let e : 7 ∷ a ≡ 13 ∷ p.body = p.joined in let k : ◌≡◌ {A = ℕ} 7 13 = cc in omega (arith, k))
  | inr p ↦ absurd (let e : 7 ∷ a ≡ 8 ∷ p.body = p.joined in let k : ◌≡◌ {A = ℕ} 7 8 = cc in omega (arith, k))
]

pub tokenized_part : (v : Version) (legacy : Bool) (old : Reading) (t : Tree) (a : List ℕ) → ValueNext old → (b : List ℕ) → a ≡ 7 ∷ 0 ∷ b → Encodes Legacy v a t → IsPart v legacy old a (value t ∷ [])
tokenized_part v legacy old t a next b is h = record {
  some = omega (arith, ap length is);
  in_pieces = inr ((next, inl (subst (HasFirstByte 7) (sym is) refl)), (t, h));
  encoded = one_part Legacy v a (value t) h;
  plain = λ _. one_part NoLegacy v a (value t) (subst (λ z. Encodes NoLegacy v z t) (sym is) (plain_leaf v (0 ∷ b) t (subst (λ z. Encodes Legacy v z t) is h)));
}

pub legacy_part : (v : Version) (old : Reading) (t : Tree) (a : List ℕ) → ValueNext old → (b : List ℕ) → a ≡ 8 ∷ b → Encodes Legacy v a t → IsPart v true old a (value t ∷ [])
legacy_part v old t a next b is h = record {
  some = omega (arith, ap length is);
  in_pieces = inr ((next, inr (subst (HasFirstByte 8) (sym is) refl)), (t, h));
  encoded = one_part Legacy v a (value t) h;
  plain = λ e. absurd (let f : true ≡ false = e in cc);
}
