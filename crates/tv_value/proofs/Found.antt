-- What begins with the encoding of a part.
use Rattle.std.proofs.Common.{◌≡◌, ℕ, ◌≤◌, List, ◌∷◌, length, take, drop, get_or, refl, sym, ◌∙◌, ap, subst}
use Rattle.std.proofs.lemmas.List.{length-take-le}
use Rattle.std.specs.Int.{w64, w128, from_le_bytes, cast_signed}
use Rattle.std.specs.Prelude.{ℤ, ◌<◌}
use Rattle.tv_base.proofs.AgreeWidths.{signed_to}
use Rattle.tv_base.proofs.Widths.{fixed_8, fixed_16}
use Rattle.tv_base.specs.Number.{Fixed, Signed}
use Rattle.tv_base.specs.Parts.{Begins, Behind, Text}
use Rattle.tv_format.specs.Content.{Content, form_of}
use Rattle.tv_format.specs.Leaves.{type_of, content, form, store_code, scale}
use Rattle.tv_format.specs.LeavesLaws.{making}
use Rattle.tv_format.specs.declared.leaf_type.LeafType.{LeafType}
use Rattle.tv_format.specs.declared.leaf_type.LeafType.TheVariants as types
use Rattle.tv_format.specs.Encoding.{NoLegacy, Key, ContentBody, LeafBody, Tokenized, leaf_code, Encodes}
use Rattle.tv_format.specs.Tree.{Leaf, Token, leaf}
use Rattle.tv_format.specs.Version.{plain}
use Rattle.tv_format.specs.WriteVersion.{written_version}
use Rattle.tv_format.specs.declared.leaf_type.WriteVersion.{WriteVersion}
use Rattle.tv_format.specs.declared.leaf_type.WriteVersion.TheVariants as versions
use Rattle.tv_format.proofs.Prefixes.{begins_behind, begins_cut, small_take}

pub eight_found : (bytes prefix rest : List ℕ) (n : ℕ) → ((i : ℕ) → get_or bytes i 0 < 256) → prefix ≡ take 8 bytes → rest ≡ drop 8 bytes → 8 ≤ length bytes → n ≡ from_le_bytes w64 prefix → Begins (λ b. Fixed 8 b n) bytes rest
eight_found bytes prefix rest n small is after l worth =
    let fixed : Fixed 8 (take 8 bytes) n = subst (Fixed 8 (take 8 bytes)) (sym (worth ∙ ap (from_le_bytes w64) is)) (fixed_8 (take 8 bytes) (length-take-le 8 bytes l) (small_take 8 bytes small)) in
    begins_cut (λ b. Fixed 8 b n) 8 bytes (take 8 bytes) rest refl after fixed

pub sixteen_found : (bytes prefix rest : List ℕ) (n : ℕ) → ((i : ℕ) → get_or bytes i 0 < 256) → prefix ≡ take 16 bytes → rest ≡ drop 16 bytes → 16 ≤ length bytes → n ≡ from_le_bytes w128 prefix → Begins (λ b. Fixed 16 b n) bytes rest
sixteen_found bytes prefix rest n small is after l worth =
    let fixed : Fixed 16 (take 16 bytes) n = subst (Fixed 16 (take 16 bytes)) (sym (worth ∙ ap (from_le_bytes w128) is)) (fixed_16 (take 16 bytes) (length-take-le 16 bytes l) (small_take 16 bytes small)) in
    begins_cut (λ b. Fixed 16 b n) 16 bytes (take 16 bytes) rest refl after fixed

pub signed_found : (bytes rest : List ℕ) (n : ℕ) (z : ℤ) → Begins (λ b. Fixed 8 b n) bytes rest → z ≡ cast_signed w64 n → Begins (λ b. Signed b z) bytes rest
signed_found bytes rest n z h e = record { prefix = h.prefix; joined = h.joined; encoded = signed_to h.prefix n z h.encoded e }

pub same_signed : (bytes rest : List ℕ) (z n : ℤ) → Begins (λ b. Signed b z) bytes rest → n ≡ z → Begins (λ b. Signed b n) bytes rest
same_signed bytes rest z n h e = subst (λ m. Begins (λ b. Signed b m) bytes rest) (sym e) h

pub tokenized_found : (bytes payload rest : List ℕ) (n : ℕ) (t : List ℕ) (ts : List Token) → bytes ≡ 0 ∷ payload → rest ≡ drop n payload → Tokenized (take n payload) t ts → Begins (Behind 0 (λ b. Tokenized b t ts)) bytes rest
tokenized_found bytes payload rest n t ts e after h =
    subst (λ z. Begins (Behind 0 (λ b. Tokenized b t ts)) z rest) (sym e) (begins_behind 0 payload rest (begins_cut (λ b. Tokenized b t ts) n payload (take n payload) rest refl after h))

pub coded_found : (bytes behind rest k : List ℕ) → bytes ≡ 0 ∷ behind → Begins (λ b. Text b k) behind rest → Begins (Behind 0 (λ b. Text b k)) bytes rest
coded_found bytes behind rest k e h = subst (λ z. Begins (Behind 0 (λ b. Text b k)) z rest) (sym e) (begins_behind 0 behind rest h)

-- a key after its code, which version 3 leaves out
pub key_found : (version : WriteVersion) (bytes behind rest k : List ℕ) → (version ≡ versions.V2 → bytes ≡ 0 ∷ behind) → (version ≡ versions.V3 → bytes ≡ behind) → Begins (λ b. Text b k) behind rest → Begins (λ b. Key (written_version version) b k) bytes rest
key_found versions.V2 bytes behind rest k coded bare h = coded_found bytes behind rest k (coded refl) h
key_found versions.V3 bytes behind rest k coded bare h = subst (λ z. Begins (λ b. Text b k) z rest) (sym (bare refl)) h

-- ---- a leaf

-- the versions that are written have no scale
no_scale : (version : WriteVersion) (t : LeafType) → scale (written_version version) t ≡ plain
no_scale versions.V2 types.Date = refl
no_scale versions.V3 types.Date = refl
no_scale versions.V2 _ = refl
no_scale versions.V3 _ = refl

-- the leaf of a type that holds this is encoded after the type's code
pub leaf_begins : (version : WriteVersion) (t : LeafType) (c : Content) (code : ℕ) (bytes rest : List ℕ) → store_code t ≡ code → form_of c ≡ form t → Begins (λ b. ContentBody plain b c) bytes rest
    → (l : Leaf) × ((type_of l ≡ t) × (content l ≡ c)) × Begins (λ b. Encodes NoLegacy (written_version version) b (leaf l)) (code ∷ bytes) rest
leaf_begins version t c code bytes rest is formed begins =
    let v = written_version version in
    let m = making t c formed in
    let l = m.made in
    let body : Begins (λ b. LeafBody v b l) bytes rest = subst (λ s. Begins (λ b. ContentBody s b (content l)) bytes rest) (sym (no_scale version (type_of l))) (subst (λ k. Begins (λ b. ContentBody plain b k) bytes rest) (sym m.holds) begins) in
    (l, (m.typed, m.holds), subst (λ z. Begins (λ b. Encodes NoLegacy v b (leaf l)) (z ∷ bytes) rest) (ap store_code m.typed ∙ is) (begins_behind (leaf_code l) bytes rest body))
