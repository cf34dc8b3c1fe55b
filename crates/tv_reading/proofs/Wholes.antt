-- Values that are taken whole, and bytes, from a source.
use Rattle.std.proofs.Common.{◌≡◌, ◌≢◌, ℕ, ◌+◌, ◌-◌, ◌<◌, ◌≤◌, Option, Some, None, Bool, true, false, List, [], ◌∷◌, ◌++◌, length, Result, Ok, Err, OnOk, OnErr, IsErrOf, refl, sym, ◌∙◌, ap, subst, length-append, arith, inl, inr}
use Rattle.std.proofs.lemmas.List.{append-nil}
use Rattle.tv_base.specs.declared.cause.Cause.{Cause}
use Rattle.tv_base.specs.declared.cause.Cause.TheVariants as causes
use Rattle.tv_base.specs.ErrorInPart.{ErrorInBytes}
use Rattle.tv_base.specs.Source.{Failures}
use Rattle.tv_base.specs.declared.source.ByteSource.{Ghosts}
use Rattle.tv_base.proofs.AgreeWidths.{AreBytes, bytes_error}
use Rattle.tv_builder.specs.declared.kinds.Awaits.TheVariants as awaits
use Rattle.tv_builder.specs.Parts.{Part, some_bytes}
use Rattle.tv_builder.specs.State.{State, complete, in_lists, in_bytes, awaited}
use Rattle.tv_builder.specs.Builder.{built, state_of}
use Rattle.tv_reader.specs.Legacy.{Legacy}
use Rattle.tv_reader.specs.Finds.{ShowsRefusal, FindsIf}
use Rattle.tv_reader.specs.HeadReading.{head_part}
use Rattle.tv_reader.specs.Heads.{EncodesHead}
use Rattle.tv_reader.specs.Trees.{NoValue, NoneBehind}
use Rattle.tv_reader.specs.Error.{StoreMayStop, StoreMayStopRoomy, StoreMayStopLean}
use Rattle.tv_reader.specs.ValueType.{type_prefix}
use Rattle.tv_reader.specs.declared.error.DeserializeError.{DeserializeError}
use Rattle.tv_reader.specs.declared.error.DeserializeError.TheVariants as errors
use Rattle.tv_reader.specs.declared.value_type.ValueType.{ValueType}
use Rattle.tv_reader.specs.declared.heads.Head.{Head}
use Rattle.tv_reader.specs.declared.heads.Head.TheVariants as heads
use Rattle.tv_reader.proofs.BehindKinds.{kind_edge, held_error}
use Rattle.tv_format.specs.declared.leaf_type.LeafType.TheVariants as leaves
use Rattle.tv_reader.proofs.Finding.{finds_then, finds_as, finds_any, finds_fails, finds_short}
use Rattle.tv_format.specs.InputError.{Refusal, corrupted, value_ends, no_extension}
use Rattle.tv_format.specs.Encoding.{Encodes, NoLegacy}
use Rattle.tv_value.specs.EncodedTokens.{gathered}
use Rattle.tv_value.specs.PreTokenized.{text_of, tokens_of, tokenized_leaf}
use Rattle.tv_format.specs.Tree.{Tree, leaf, tokenized, Document}
use Rattle.tv_value.specs.declared.pre_tokenized.EncodedTokens.{EncodedTokens}
use Rattle.tv_value.specs.declared.pre_tokenized.PreTokenizedStr.{PreTokenizedStr}
use Rattle.tv_reader.specs.EncodedTokens.{tokenized_tree}
use Rattle.std.specs.String.{string_bytes}
use Rattle.std.specs.declared.alloc.Global.{Global}
use Rattle.std.specs.declared.string.String.{String}
use Rattle.tv_format.specs.Version.{Version}
use Rattle.tv_reading.specs.Prefix.{IsPlace, HasField, IsMalformedNext, NoRoomBehind}
use Rattle.tv_reading.specs.Puts.{Awaiting, LacksRoom, PartsPut, PutsParts, EndNoText, NoText, PutsBytes, IsParts}
use Rattle.tv_reading.specs.Kept.{LetGo, KeepsPairs}
use Rattle.tv_reading.specs.Steps.{HasFirstByte, IsFew, ReadsPart, Sees, Stepped}
use Rattle.tv_reading.specs.declared.reading.Reading.{Reading}
use Rattle.tv_reading.proofs.WithErrors.{value_at_error, end_at_error, text_at_error}
use Rattle.tv_reading.proofs.States.{no_bytes_next}
use Rattle.tv_reading.proofs.Stepping.{one_part, IsPart, part_steps, puts_found, puts_full, no_room}

abbrev end : Refusal
end = corrupted causes.UnexpectedEnd

-- ---- what a call says of its answer

puts_ok : (old new : Reading) (ps : List Part) (result : Result (Unit {0}) DeserializeError) → PutsParts old new ps result → OnOk result (PartsPut old new ps)
puts_ok old new ps (Ok x) h = h
puts_ok old new ps (Err e) h = tt

bytes_ok : (old new : Reading) (more : List ℕ) (ps : List Part) (result : Result (Unit {0}) DeserializeError) → PutsBytes old new more ps result → OnOk result (PartsPut old new ps)
bytes_ok old new more ps (Ok x) h = h
bytes_ok old new more ps (Err e) h = tt

ok_of : {P Q : Type 0} (result : Result (Unit {0}) DeserializeError) → (P → Q) → OnOk result P → OnOk result Q
ok_of (Ok x) to h = to h
ok_of (Err e) to h = tt

keeps_of : (old new : Reading) (result : Result (Unit {0}) DeserializeError) → OnErr result (LetGo old new) → OnErr result (KeepsPairs old new)
keeps_of old new (Ok x) h = tt
keeps_of old new (Err e) h = inl h

pub head_parts_are : (head : Head) → head ≢ heads.Tokenized → head ≢ heads.Legacy → IsParts (head_part head)
head_parts_are heads.Tokenized t l = absurd (t refl)
head_parts_are heads.Legacy t l = absurd (l refl)
head_parts_are _ t l = tt

-- ---- the promise of a step

pub still_seen : (old : Reading) (left : List ℕ) (seen : Bool) → Sees old left seen seen
still_seen old left seen = record { still = λ e. e; first = λ e f. absurd (let k : false ≡ true = sym e ∙ f in cc) }

module _ {S X : Type 0} (source : Ghosts S) {os ns : S} {i k : ℕ} (v : Version) (before after : Bool) (old : Reading) where
  -- a part was put to what is read, or refused
  pub part_put : {May : DeserializeError → ℕ → Type 0} {x : X} {A : List ℕ → X → Type 0} {I : List ℕ → Refusal → Type 0} (new : Reading) (ps : List Part) (result : Result (Unit {0}) DeserializeError) → ((a : List ℕ) → A a x → IsPart v after old a ps)
      → FindsIf May source.is_known source.left source.failures os i ns k (Ok x) A I → PutsParts old new ps result → OnErr result (LetGo old new)
      → (source.is_known os → Sees old (source.left os) before after) → (source.is_known os → IsFew old (source.left os) i k) → ReadsPart v source os ns i k before after old new result
  part_put new ps result part h puts let_go sees few = record {
    sound = ok_of result (λ p. p.sound) (puts_ok old new ps result puts);
    grows = ok_of result (λ p. p.grows) (puts_ok old new ps result puts);
    after_error = keeps_of old new result let_go;
    finds = puts_found v after old new ps result part h puts;
    no_room = λ known full. puts_full v after old new ps result part h puts known full;
    seen = sees;
    at_most = few;
  }

  -- nothing was put
  pub part_fails : {May : DeserializeError → ℕ → Type 0} {e : DeserializeError} {A : List ℕ → X → Type 0} {I : List ℕ → Refusal → Type 0} → ((f : DeserializeError) (n : ℕ) → May f n → StoreMayStopRoomy f n) → ((w : List ℕ) (f : Refusal) → I w f → IsMalformedNext v old w f)
      → FindsIf {X = X} May source.is_known source.left source.failures os i ns k (Err e) A I
      → (source.is_known os → Sees old (source.left os) before after) → (source.is_known os → IsFew old (source.left os) i k) → ReadsPart v source os ns i k before after old old (Err e)
  part_fails {e = e} roomy to h sees few = record {
    sound = tt;
    grows = tt;
    after_error = inr refl;
    finds = finds_fails (λ b _. Stepped v after old old b) (IsMalformedNext v old) to (finds_any (λ f n may. (roomy f n may).0) h);
    no_room = λ known full. absurd ((roomy e k h.may_stop).1 (let same : e ≡ errors.HeapFull = cc in same));
    seen = sees;
    at_most = few;
  }

-- ---- a value after its codes

pub record IsBehind {X : Type 0} (view : X → Tree) (v : Version) (kind : ValueType) (a : List ℕ) (x : X) : Type 0 where
  pub body : List ℕ
  pub joined : a ≡ type_prefix kind ++ body
  pub encoded : Encodes Legacy v a (view x)

value_edge : (v : Version) (old : Reading) (kind : ValueType) → Awaiting old awaits.Value → (a start : List ℕ) (byte : ℕ) → a ≡ type_prefix kind → a ≡ start ++ byte ∷ [] → IsMalformedNext v old start end
value_edge v old kind h a start byte is last = kind_edge end (IsMalformedNext v old) (value_at_error v old [] end h value_ends) (value_at_error v old (7 ∷ []) end h (held_error leaves.PreTokStr (no_extension refl))) kind start byte (sym is ∙ last)

pub whole_found : {S X : Type 0} {is_known : S → Type 0} {left : S → List ℕ} {failures : S → Failures} {os ms ns : S} {i j k : ℕ} {head : Head} {x : X} {I : List ℕ → Refusal → Type 0} (view : X → Tree) (v : Version) (old : Reading) (kind : ValueType) → Awaiting old awaits.Value
    → ((a : List ℕ) → EncodesHead v a (head_part head) → a ≡ type_prefix kind) → FindsIf StoreMayStopLean is_known left failures os i ms j (Ok head) (λ b x. EncodesHead v b (head_part x)) I → FindsIf StoreMayStopRoomy is_known left failures ms j ns k (Ok x) (λ b y. Encodes Legacy v (type_prefix kind ++ b) (view y)) (NoneBehind v kind)
    → FindsIf StoreMayStopRoomy is_known left failures os i ns k (Ok x) (IsBehind view v kind) (IsMalformedNext v old)
whole_found {head = head} view v old kind h is p q =
    finds_then {May0 = StoreMayStop} (IsBehind view v kind) (IsMalformedNext v old)
    (λ a b y r s. record { body = b; joined = ap (λ (z : List ℕ). z ++ b) r; encoded = subst (λ z. Encodes Legacy v (z ++ b) (view y)) (sym r) s })
    (λ a w c r f. value_at_error v old (a ++ w) c h (subst (λ z. NoValue v (z ++ w) c) (sym r) f))
    (λ a f r other _ start byte last. value_edge v old kind h a start byte r last)
    (finds_as {May = StoreMayStop} head (λ a _. a ≡ type_prefix kind) (λ w r. Unit {0}) is p) q

pub whole_fails : {S X : Type 0} {A : List ℕ → X → Type 0} {is_known : S → Type 0} {left : S → List ℕ} {failures : S → Failures} {os ms ns : S} {i j k : ℕ} {head : Head} {e : DeserializeError} {I : List ℕ → Refusal → Type 0} (v : Version) (old : Reading) (kind : ValueType) → Awaiting old awaits.Value
    → ((a : List ℕ) → EncodesHead v a (head_part head) → a ≡ type_prefix kind) → FindsIf StoreMayStopLean is_known left failures os i ms j (Ok head) (λ b x. EncodesHead v b (head_part x)) I → FindsIf {X = X} StoreMayStopRoomy is_known left failures ms j ns k (Err e) A (NoneBehind v kind)
    → FindsIf {X = X} StoreMayStopRoomy is_known left failures os i ns k (Err e) A (IsMalformedNext v old)
whole_fails {A = A} {head = head} v old kind h is p q =
    finds_then {May0 = StoreMayStop} A (IsMalformedNext v old)
    (λ a b y r s. absurd s)
    (λ a w c r f. value_at_error v old (a ++ w) c h (subst (λ z. NoValue v (z ++ w) c) (sym r) f))
    (λ a f r other _ start byte last. value_edge v old kind h a start byte r last)
    (finds_as head (λ a _. a ≡ type_prefix kind) (λ w r. Unit {0}) is p) (finds_fails (λ b z. ⊥) (NoneBehind v kind) (λ w c f. f) q)

-- the bytes that were left begin with its code
pub whole_first : {S : Type 0} {is_known : S → Type 0} {left : S → List ℕ} {failures : S → Failures} {os ms : S} {i j : ℕ} {head : Head} {I : List ℕ → Refusal → Type 0} (v : Version) (kind : ValueType) (code : ℕ) (more : List ℕ) → type_prefix kind ≡ code ∷ more
    → ((a : List ℕ) → EncodesHead v a (head_part head) → a ≡ type_prefix kind) → FindsIf StoreMayStopLean is_known left failures os i ms j (Ok head) (λ b x. EncodesHead v b (head_part x)) I → is_known os → HasFirstByte code (left os)
whole_first {left = left} {ms = ms} v kind code more begins is p known =
    let f = p.found known in
    subst (HasFirstByte code) (sym (f.joined ∙ ap (λ z. z ++ left ms) (is f.prefix f.encoded ∙ begins))) refl

-- a text with its tokens, borrowed from what was gathered
pub lent_is : (s : PreTokenizedStr) (content : String Global) (tokens : EncodedTokens) → text_of s ≡ string_bytes content → tokens_of s ≡ gathered tokens → leaf (tokenized_leaf s) ≡ tokenized_tree (content, tokens)
lent_is s content tokens e f = λ i. leaf (tokenized (e i) (f i))

-- ---- some of the announced bytes

-- one is missing at least
missing_at : (a f : Option ℕ) (d : Document) (s : State) (missing : ℕ) → HasField f → IsPlace a d f s → awaited s ≡ awaits.Bytes missing → 0 < missing
missing_at (Some n) (Some f) d (in_bytes ls kind m bs) missing has h e = let same : m - length bs ≡ missing = cc in omega (arith, same, h.1)
missing_at (Some n) (Some f) d (complete t) missing has h e = absurd h.1
missing_at (Some n) (Some f) d (in_lists []) missing has h e = absurd cc
missing_at (Some n) (Some f) d (in_lists (l ∷ ls)) missing has h e = absurd (no_bytes_next l.kind (length l.children) missing e)
missing_at None (Some f) d s missing has h e = absurd h
missing_at a None d s missing has h e = absurd has

pub some_missing : (r : Reading) (missing : ℕ) → Awaiting r (awaits.Bytes missing) → 0 < missing
some_missing r missing h = missing_at r.announced r.field (built r.builder) (state_of r.builder) missing h.field h.sound.place h.next

-- what was taken of this many bytes
abbrev pub Piece : ℕ → List ℕ → List ℕ → Type 0
Piece n bytes a = (content : List ℕ) × AreBytes n a content × (bytes ≡ [] ++ content)

piece_is : (n : ℕ) (bytes a : List ℕ) → Piece n bytes a → a ≡ bytes
piece_is n bytes a h = sym (h.2 ∙ h.1.1)

piece_part : (v : Version) (legacy : Bool) (old : Reading) (n : ℕ) (bytes a : List ℕ) → 0 < n → n ≤ 4096 → Piece n bytes a → IsPart v legacy old a (some_bytes bytes ∷ [])
piece_part v legacy old n bytes a some few h = record {
  some = omega (arith, some, h.1.0);
  in_pieces = inl (omega (arith, few, h.1.0));
  encoded = one_part Legacy v a (some_bytes bytes) (piece_is n bytes a h);
  plain = λ _. one_part NoLegacy v a (some_bytes bytes) (piece_is n bytes a h);
}

pub piece_ends : (v : Version) (old : Reading) (n missing : ℕ) (w : List ℕ) (c : Cause) → Awaiting old (awaits.Bytes missing) → n ≤ missing → ErrorInBytes n w c → IsMalformedNext v old w (corrupted c)
piece_ends v old n missing w c h few f = let q = bytes_error n w c f in subst (λ z. IsMalformedNext v old w (corrupted z)) (sym q.0) (end_at_error v old w missing h (omega (arith, q.1, few)))

other_cause : corrupted causes.NotUtf8 ≡ end → ⊥
other_cause e = cc

no_text_refuses : (v : Version) (old : Reading) (n missing : ℕ) (bytes a whole rest : List ℕ) → Awaiting old (awaits.Bytes missing) → n ≤ missing → EndNoText (state_of old.builder) bytes → Piece n bytes a → whole ≡ a ++ rest → ShowsRefusal end (IsMalformedNext v old) whole rest (corrupted causes.NotUtf8)
no_text_refuses v old n missing bytes a whole rest h few none p joined =
    let is = piece_is n bytes a p in
    let error : (x : List ℕ) → IsMalformedNext v old (a ++ x) (corrupted causes.NotUtf8) = λ x. subst (λ z. IsMalformedNext v old (z ++ x) (corrupted causes.NotUtf8)) (sym is) (text_at_error v old bytes x (awaits.Bytes missing) h none) in
    record {
      stands = subst (λ z. IsMalformedNext v old z (corrupted causes.NotUtf8)) (sym joined) (error rest);
      shows = record {
        taken = a;
        joined = joined;
        shown = subst (λ z. IsMalformedNext v old z (corrupted causes.NotUtf8)) (append-nil a) (error []);
        all = λ e. absurd (other_cause e);
        early = λ _ start byte last. end_at_error v old start missing h (omega (arith, ap length last, length-append start (byte ∷ []), p.1.0, few));
      };
    }

bytes_fill : (old new : Reading) (bytes : List ℕ) (result : Result (Unit {0}) DeserializeError) → IsErrOf result errors.HeapFull → PutsBytes old new bytes (some_bytes bytes ∷ []) result → LacksRoom old (some_bytes bytes ∷ [])
bytes_fill old new bytes result is q = subst (λ z. PutsBytes old new bytes (some_bytes bytes ∷ []) z) is q

module _ {S X : Type 0} (source : Ghosts S) {os ns : S} {i k : ℕ} {x : X} {I : List ℕ → Refusal → Type 0} (v : Version) (seen : Bool) (old new : Reading) (n missing : ℕ) (bytes : List ℕ) where
  text_refused : (c : Cause) → Awaiting old (awaits.Bytes missing) → n ≤ missing → NoText c (state_of old.builder) bytes → FindsIf StoreMayStop source.is_known source.left source.failures os i ns k (Ok x) (λ a _. Piece n bytes a) I
      → FindsIf {X = Unit {0}} StoreMayStop source.is_known source.left source.failures os i ns k (Err (errors.CorruptedValue c)) (λ b _. Stepped v seen old new b) (IsMalformedNext v old)
  text_refused causes.NotUtf8 h few none p = record {
    found = λ t. let f = p.found t in no_text_refuses v old n missing bytes f.prefix (source.left os) (source.left ns) h few none f.encoded f.joined;
    taken = p.taken;
    stays_known = p.stays_known;
    counts = p.counts;
    count_grows = p.count_grows;
    may_stop = tt;
  }
  text_refused _ h few none p = absurd none

  bytes_found : (result : Result (Unit {0}) DeserializeError) → Awaiting old (awaits.Bytes missing) → 0 < n → n ≤ missing → n ≤ 4096 → FindsIf StoreMayStop source.is_known source.left source.failures os i ns k (Ok x) (λ a _. Piece n bytes a) I → PutsBytes old new bytes (some_bytes bytes ∷ []) result
      → FindsIf StoreMayStop source.is_known source.left source.failures os i ns k result (λ b _. Stepped v seen old new b) (IsMalformedNext v old)
  bytes_found (Ok y) h some few small p q = finds_as y (λ b _. Stepped v seen old new b) (IsMalformedNext v old) (λ a s. part_steps v seen old new (some_bytes bytes ∷ []) a (piece_part v seen old n bytes a some small s) q) p
  bytes_found (Err errors.HeapFull) h some few small p q = finds_short errors.HeapFull (λ b _. Stepped v seen old new b) (IsMalformedNext v old) refl tt p
  bytes_found (Err errors.Memory) h some few small p q = finds_short errors.Memory (λ b _. Stepped v seen old new b) (IsMalformedNext v old) refl tt p
  bytes_found (Err (errors.CorruptedValue c)) h some few small p q = text_refused c h few q p
  bytes_found (Err (errors.UnsupportedType t)) h some few small p q = absurd q
  bytes_found (Err (errors.TypeMismatch t u)) h some few small p q = absurd q
  bytes_found (Err (errors.Custom s)) h some few small p q = absurd q
  bytes_found (Err (errors.UnsupportedVersion l m)) h some few small p q = absurd q
  bytes_found (Err (errors.Io e)) h some few small p q = absurd q
  bytes_found (Err errors.AlreadyFailed) h some few small p q = absurd q
  bytes_found (Err errors.TooDeep) h some few small p q = absurd q

  bytes_full : (result : Result (Unit {0}) DeserializeError) → 0 < n → n ≤ 4096 → FindsIf StoreMayStop source.is_known source.left source.failures os i ns k (Ok x) (λ a _. Piece n bytes a) I → PutsBytes old new bytes (some_bytes bytes ∷ []) result → source.is_known os → IsErrOf result errors.HeapFull → NoRoomBehind v old (source.left os)
  bytes_full result some small p q t is =
      let f = p.found t in
      no_room v old (some_bytes bytes ∷ []) (source.left os) (source.left ns) f.prefix f.joined (piece_part v seen old n bytes f.prefix some small f.encoded).encoded (bytes_fill old new bytes result is q)

  -- some of the announced bytes have come, or they are refused
  pub bytes_put : (result : Result (Unit {0}) DeserializeError) → Awaiting old (awaits.Bytes missing) → 0 < n → n ≤ missing → n ≤ 4096 → FindsIf StoreMayStop source.is_known source.left source.failures os i ns k (Ok x) (λ a _. Piece n bytes a) I → PutsBytes old new bytes (some_bytes bytes ∷ []) result
      → OnErr result (LetGo old new) → k ≤ i + 4096 → ReadsPart v source os ns i k seen seen old new result
  bytes_put result h some few small p q let_go counted = record {
    sound = ok_of result (λ p. p.sound) (bytes_ok old new bytes (some_bytes bytes ∷ []) result q);
    grows = ok_of result (λ p. p.grows) (bytes_ok old new bytes (some_bytes bytes ∷ []) result q);
    after_error = keeps_of old new result let_go;
    finds = bytes_found result h some few small p q;
    no_room = λ known full. bytes_full result some small p q known full;
    seen = λ known. still_seen old (source.left os) seen;
    at_most = λ known. inl counted;
  }
