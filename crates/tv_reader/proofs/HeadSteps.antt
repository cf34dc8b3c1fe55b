-- How the type of a value and what is taken after it make its head.
use Rattle.std.proofs.Common.{◌≡◌, ◌≢◌, ℕ, List, [], ◌∷◌, ◌++◌, Option, Some, None, Ok, Err, refl, sym, ap, subst, inl}
use Rattle.tv_base.specs.declared.cause.Cause.{Cause}
use Rattle.tv_base.specs.declared.cause.Cause.TheVariants.{UnexpectedEnd}
use Rattle.tv_base.specs.declared.cause.ReadError.{ReadError}
use Rattle.tv_base.specs.Number.{VNum, Fixed, Truth}
use Rattle.tv_base.specs.ErrorInPart.{ErrorInNumber, in_sized}
use Rattle.tv_base.specs.Reading.{vint_at}
use Rattle.tv_base.specs.Source.{AllBytes, Failures}
use Rattle.tv_base.specs.Take as reads
use Rattle.tv_base.proofs.Agrees.{Agrees, made, nothing_read}
use Rattle.tv_base.proofs.AgreeNumbers.{vint_agrees}
use Rattle.tv_base.proofs.AgreeTruth.{truth_agrees}
use Rattle.tv_base.proofs.AgreeWidths.{u64_agrees, u128_agrees}
use Rattle.tv_format.specs.Content.{no_content, truth_content, unsigned_content, signed_content, wide_content}
use Rattle.tv_format.specs.InputError.{Refusal, corrupted, no_text_key, ErrorInContent, no_extension, ErrorInCodedKey, ErrorInKey, corrupt, key_ends, key_no_extension, in_key, value_ends, in_count}
use Rattle.tv_format.specs.Leaves.{form, scale}
use Rattle.tv_format.specs.Version.{Version, V3, Scaled}
use Rattle.tv_reader.specs.Error.{read_error, store_stop, StoreMayStopLean}
use Rattle.tv_reader.specs.Finds.{FindsIf}
use Rattle.tv_reader.specs.HeadReading.{head_part, form_head_at, type_head_at, head_at}
use Rattle.tv_reader.specs.Heads.{HeadPart, leaf_head, length_head, array_head, object_head, tokenized_head, legacy_head, EncodesHead, CodedLength}
use Rattle.tv_reader.specs.Kinds.{kind_at}
use Rattle.tv_reader.specs.Leaves.{leaf_holding}
use Rattle.tv_reader.specs.Trees.{NoValue, EncodesEntryCount, ErrorInEntryCount}
use Rattle.tv_reader.specs.ValueType.{leaf_type, value_type_code, type_prefix}
use Rattle.tv_reader.specs.Version.{version_of}
use Rattle.tv_reader.specs.declared.error.DeserializeError.TheVariants as errors
use Rattle.tv_reader.specs.declared.value_type.ValueType.{ValueType}
use Rattle.tv_reader.specs.declared.value_type.ValueType.TheVariants as types
use Rattle.tv_reader.specs.declared.heads.Head.{Head}
use Rattle.tv_reader.specs.declared.version.DocStoreVersion.{DocStoreVersion}
use Rattle.tv_format.specs.declared.leaf_type.Form.{Form}
use Rattle.tv_format.specs.declared.leaf_type.Form.TheVariants as forms
use Rattle.tv_format.specs.declared.leaf_type.LeafType.{LeafType}
use Rattle.tv_format.specs.declared.leaf_type.LeafType.TheVariants as leaves
use Rattle.tv_reader.proofs.AgreeLeaves.{number_agrees}
use Rattle.tv_reader.proofs.BehindKinds.{finds_behind, other_key, held_error, type_or_text}
use Rattle.tv_reader.proofs.Finding.{finds_as, finds_part, finds_part_fails, raised_lean, finds_refused}
use Rattle.tv_reader.proofs.TreeSteps.{entry_count_agrees, entry_count_refused}

abbrev end : Refusal
end = corrupted UnexpectedEnd

-- ---- after the code

abbrev HeadOf : {A : Type 0} → (List ℕ → A → Type 0) → (A → HeadPart) → List ℕ → HeadPart → Type 0
HeadOf {A} R make whole h = (x : A) × R whole x × (h ≡ make x)

abbrev Alone : HeadPart → List ℕ → HeadPart → Type 0
Alone part whole h = (whole ≡ []) × (h ≡ part)

-- of a leaf, by the form of what it holds
abbrev FormHead : Version → LeafType → Form → List ℕ → HeadPart → Type 0
FormHead v t forms.Nothing = Alone (leaf_head (leaf_holding t no_content))
FormHead v t forms.Truth = HeadOf Truth (λ x. leaf_head (leaf_holding t (truth_content x)))
FormHead v t forms.Unsigned = HeadOf (Fixed 8) (λ x. leaf_head (leaf_holding t (unsigned_content x)))
FormHead v t forms.Signed = HeadOf (Scaled (scale v t)) (λ x. leaf_head (leaf_holding t (signed_content x)))
FormHead v t forms.Wide = HeadOf (Fixed 16) (λ x. leaf_head (leaf_holding t (wide_content x)))
FormHead v t forms.Text = HeadOf VNum (length_head t)
FormHead v t forms.Bytes = HeadOf VNum (length_head t)
FormHead v t forms.Tokens = Alone tokenized_head

abbrev ErrorInFormHead : Version → LeafType → Form → List ℕ → Cause → Type 0
ErrorInFormHead v t forms.Text = ErrorInNumber
ErrorInFormHead v t forms.Bytes = ErrorInNumber
ErrorInFormHead v t forms.Tokens = λ whole c. ⊥
ErrorInFormHead v t f = ErrorInContent (scale v t) f

form_head_agrees : (v : Version) (t : LeafType) (f : Form) → Agrees UnexpectedEnd (form_head_at v t f) (FormHead v t f) (ErrorInFormHead v t f)
form_head_agrees v t forms.Nothing = nothing_read UnexpectedEnd (leaf_head (leaf_holding t no_content))
form_head_agrees v t forms.Truth = made (λ x. leaf_head (leaf_holding t (truth_content x))) truth_agrees
form_head_agrees v t forms.Unsigned = made (λ x. leaf_head (leaf_holding t (unsigned_content x))) u64_agrees
form_head_agrees v t forms.Signed = made (λ x. leaf_head (leaf_holding t (signed_content x))) (number_agrees v t)
form_head_agrees v t forms.Wide = made (λ x. leaf_head (leaf_holding t (wide_content x))) u128_agrees
form_head_agrees v t forms.Text = made (length_head t) vint_agrees
form_head_agrees v t forms.Bytes = made (length_head t) vint_agrees
form_head_agrees v t forms.Tokens = nothing_read UnexpectedEnd tokenized_head

abbrev TypeHead : Version → Option LeafType → List ℕ → HeadPart → Type 0
TypeHead v (Some t) = FormHead v t (form t)
TypeHead v None = Alone legacy_head

abbrev ErrorInTypeHead : Version → Option LeafType → List ℕ → Cause → Type 0
ErrorInTypeHead v (Some t) = ErrorInFormHead v t (form t)
ErrorInTypeHead v None = λ whole c. ⊥

type_head_agrees : (v : Version) (o : Option LeafType) → Agrees UnexpectedEnd (type_head_at v o) (TypeHead v o) (ErrorInTypeHead v o)
type_head_agrees v (Some t) = form_head_agrees v t (form t)
type_head_agrees v None = nothing_read UnexpectedEnd legacy_head

abbrev Body : Version → ValueType → List ℕ → HeadPart → Type 0
Body v types.Array = HeadOf VNum array_head
Body v types.Object = HeadOf (EncodesEntryCount v) object_head
Body v kind = TypeHead v (leaf_type kind)

abbrev ErrorInBody : Version → ValueType → List ℕ → Cause → Type 0
ErrorInBody v types.Array = ErrorInNumber
ErrorInBody v types.Object = ErrorInEntryCount v
ErrorInBody v kind = ErrorInTypeHead v (leaf_type kind)

pub head_agrees : (v : Version) (kind : ValueType) → Agrees UnexpectedEnd (head_at v kind) (Body v kind) (ErrorInBody v kind)
unfolding head_at
head_agrees v types.Array = made array_head vint_agrees
head_agrees v types.Object = made object_head (entry_count_agrees v)
head_agrees v kind = type_head_agrees v (leaf_type kind)

-- ---- with the code

head_encoded : (version : DocStoreVersion) (kind : ValueType) (a : List ℕ) (h : HeadPart) → Body (version_of version) kind a h → EncodesHead (version_of version) (type_prefix kind ++ a) h
head_encoded version types.PreTokStr a h p = subst (EncodesHead (version_of version) (7 ∷ 0 ∷ a)) (sym p.1) (ap (λ (l : List ℕ). 7 ∷ 0 ∷ l) p.0)
head_encoded version types.JSONObject a h p = subst (EncodesHead (version_of version) (8 ∷ a)) (sym p.1) (ap (λ (l : List ℕ). 8 ∷ l) p.0)
head_encoded version types.Null a h p = subst (EncodesHead (version_of version) (11 ∷ a)) (sym p.1) (tt, record { body = a; joined = refl; encoded = p.0 })
head_encoded version types.Array a h p = subst (EncodesHead (version_of version) (12 ∷ a)) (sym p.2) (record { body = a; joined = refl; encoded = p.1 })
head_encoded version types.Object a h p =
    subst (EncodesHead (version_of version) (13 ∷ a)) (sym p.2) (record { body = a; joined = refl; encoded = p.1 })
head_encoded version kind a h p = subst (EncodesHead (version_of version) (type_prefix kind ++ a)) (sym p.2) (tt, record { body = a; joined = refl; encoded = p.1 })

-- an error in the head of a leaf is one in what it holds
in_content : (v : Version) (t : LeafType) (f : Form) (w : List ℕ) (c : Cause) → ErrorInFormHead v t f w c → ErrorInContent (scale v t) f w c
in_content v t forms.Text w c h = in_sized (inl h)
in_content v t forms.Bytes w c h = inl h
in_content v t forms.Tokens w c h = absurd h
in_content v t _ w c h = h

head_refused : (version : DocStoreVersion) (kind : ValueType) (w : List ℕ) (c : Cause) → ErrorInBody (version_of version) kind w c → NoValue (version_of version) (type_prefix kind ++ w) (corrupted c)
head_refused version types.PreTokStr w c h = absurd h
head_refused version types.JSONObject w c h = absurd h
head_refused version types.Array w c h = in_count h
head_refused version types.Object w c h = entry_count_refused version w c h
head_refused version kind w c h = let t = type_or_text (leaf_type kind) in held_error t (in_content (version_of version) t (form t) w c h)

-- ---- heads

abbrev pub HeadEncoded : DocStoreVersion → List ℕ → Head → Type 0
HeadEncoded version b head = EncodesHead (version_of version) b (head_part head)

pub head_found : {S : Type 0} {is_known : S → Type 0} {left : S → List ℕ} {failures : S → Failures} {old mid new : S} {i j k : ℕ} {kind : ValueType} {head : Head} (version : DocStoreVersion)
    → ((source : S) → is_known source → AllBytes (left source)) → reads.TakesIf reads.MayStopLean is_known left failures old i mid j (λ x. x) (Ok kind) kind_at
    → reads.TakesIf reads.MayStopLean is_known left failures mid j new k head_part (Ok head) (head_at (version_of version) kind) → FindsIf StoreMayStopLean is_known left failures old i new k (Ok head) (HeadEncoded version) (NoValue (version_of version))
head_found {kind = kind} {head = head} version are_bytes part h =
    finds_behind (HeadEncoded version) (NoValue (version_of version)) are_bytes value_ends (held_error leaves.PreTokStr (no_extension refl)) part
    (finds_as head _ _ (λ a p. head_encoded version kind a (head_part head) p) (finds_part are_bytes (head_agrees (version_of version) kind) h))

pub head_fails : {S : Type 0} {is_known : S → Type 0} {left : S → List ℕ} {failures : S → Failures} {old mid new : S} {i j k : ℕ} {kind : ValueType} {e : ReadError} (version : DocStoreVersion)
    → ((source : S) → is_known source → AllBytes (left source)) → reads.TakesIf reads.MayStopLean is_known left failures old i mid j (λ x. x) (Ok kind) kind_at
    → reads.TakesIf {X = Head} reads.MayStopLean is_known left failures mid j new k head_part (Err e) (head_at (version_of version) kind) → FindsIf {X = Head} StoreMayStopLean is_known left failures old i new k (Err (read_error e)) (HeadEncoded version) (NoValue (version_of version))
head_fails {kind = kind} version are_bytes part h =
    finds_behind (HeadEncoded version) (NoValue (version_of version)) are_bytes value_ends (held_error leaves.PreTokStr (no_extension refl)) part
    (finds_part_fails _ _ raised_lean are_bytes (head_agrees (version_of version) kind) (head_refused version kind) h)

-- ---- heads of keys

pub key_length_found : {S : Type 0} {is_known : S → Type 0} {left : S → List ℕ} {failures : S → Failures} {old mid new : S} {i j k n : ℕ} {kind : ValueType}
    → ((source : S) → is_known source → AllBytes (left source)) → kind ≡ types.String → reads.TakesIf reads.MayStopLean is_known left failures old i mid j (λ x. x) (Ok kind) kind_at
    → reads.TakesIf reads.MayStopLean is_known left failures mid j new k (λ x. x) (Ok n) vint_at → FindsIf StoreMayStopLean is_known left failures old i new k (Ok n) CodedLength ErrorInCodedKey
key_length_found {n = n} are_bytes is part h =
    finds_behind CodedLength ErrorInCodedKey are_bytes key_ends key_no_extension part
    (finds_as n _ _ (λ a t. subst (λ z. CodedLength (type_prefix z ++ a) n) (sym is) (record { body = a; joined = refl; encoded = t })) (finds_part are_bytes vint_agrees h))

pub key_length_fails : {S : Type 0} {is_known : S → Type 0} {left : S → List ℕ} {failures : S → Failures} {old mid new : S} {i j k : ℕ} {kind : ValueType} {e : ReadError}
    → ((source : S) → is_known source → AllBytes (left source)) → kind ≡ types.String → reads.TakesIf reads.MayStopLean is_known left failures old i mid j (λ x. x) (Ok kind) kind_at
    → reads.TakesIf {X = ℕ} reads.MayStopLean is_known left failures mid j new k (λ x. x) (Err e) vint_at → FindsIf {X = ℕ} StoreMayStopLean is_known left failures old i new k (Err (read_error e)) CodedLength ErrorInCodedKey
key_length_fails are_bytes is part h =
    finds_behind CodedLength ErrorInCodedKey are_bytes key_ends key_no_extension part
    (finds_part_fails _ _ raised_lean are_bytes vint_agrees (λ w c f. subst (λ z. ErrorInCodedKey (type_prefix z ++ w) (corrupted c)) (sym is) (in_key (in_sized (inl f)))) h)

pub key_length_refused : {S : Type 0} {is_known : S → Type 0} {left : S → List ℕ} {failures : S → Failures} {old mid : S} {i j : ℕ} {kind : ValueType}
    → ((source : S) → is_known source → AllBytes (left source)) → kind ≢ types.String → reads.TakesIf reads.MayStopLean is_known left failures old i mid j (λ x. x) (Ok kind) kind_at
    → FindsIf StoreMayStopLean is_known left failures old i mid j (Err (errors.TypeMismatch types.String kind)) CodedLength ErrorInCodedKey
key_length_refused {is_known = is_known} {left = left} {failures = failures} {mid = mid} {j = j} {kind = kind} are_bytes other part =
    finds_behind CodedLength ErrorInCodedKey are_bytes key_ends key_no_extension part
    (finds_refused store_stop end is_known left failures mid j (errors.TypeMismatch types.String kind) (no_text_key (value_type_code kind)) _ _ refl ((tt, λ is. cc), λ is. cc) (λ e. cc) (λ w. other_key kind w other))

-- without a code
pub plain_length_fails : {S : Type 0} {is_known : S → Type 0} {left : S → List ℕ} {failures : S → Failures} {old new : S} {i k : ℕ} {e : ReadError}
    → ((source : S) → is_known source → AllBytes (left source)) → reads.TakesIf {X = ℕ} reads.MayStopLean is_known left failures old i new k (λ x. x) (Err e) vint_at
    → FindsIf {X = ℕ} StoreMayStopLean is_known left failures old i new k (Err (read_error e)) VNum (ErrorInKey V3)
plain_length_fails are_bytes h = finds_part_fails _ _ raised_lean are_bytes vint_agrees (λ w c f. corrupt (in_sized (inl f))) h

pub plain_length_found : {S : Type 0} {is_known : S → Type 0} {left : S → List ℕ} {failures : S → Failures} {old new : S} {i k n : ℕ}
    → ((source : S) → is_known source → AllBytes (left source)) → reads.TakesIf reads.MayStopLean is_known left failures old i new k (λ x. x) (Ok n) vint_at → FindsIf StoreMayStopLean is_known left failures old i new k (Ok n) VNum (ErrorInKey V3)
plain_length_found {n = n} are_bytes h = finds_as n _ _ (λ a t. t) (finds_part are_bytes vint_agrees h)
