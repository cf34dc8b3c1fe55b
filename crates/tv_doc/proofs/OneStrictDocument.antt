-- A text whose keys name fields, each once, makes one document, or has one first refusal.
use Rattle.std.proofs.Common.{String, ◌≡◌, ◌≢◌, ◌⊎◌, ℕ, zero, List, [], ◌∷◌, ◌++◌, inl, inr, length, Result, Ok, Err, Option, Some, None, refl, sym, subst, ◌∙◌, ap, arith, string_bytes, length-append}
use Rattle.std.specs.Prelude.{AllPairs, Contains, IsSome}
use Rattle.std.specs.Fmt.{take_chars}
use Rattle.std.specs.declared.alloc.Global.{Global}
use Rattle.std.proofs.Math.Seq.{get_or-append_seam}
use Rattle.std.proofs.lemmas.List.{get_or_append_left}
use Rattle.std.proofs.lemmas.List.Elements.{All-contains, Contains-append_right}
use Rattle.json.specs.Json as written
use Rattle.json.specs.Token.{Token}
use Rattle.tv_field.specs.Entry.{Entry}
use Rattle.tv_schema.specs.Schema.{field_named}
use Rattle.tv_doc.specs.Alike.{AreAlike, AreStrictlyAlike}
use Rattle.tv_doc.specs.JsonObject.{IsNoObject, Parses}
use Rattle.tv_doc.specs.StrictJson.{ComesBehind, HasKeys, NameFieldsOnce, OfItsKeys, ParsesStrictly, keys_of}
use Rattle.tv_doc.specs.declared.document.CompactDoc.{CompactDoc}
use Rattle.tv_doc.specs.declared.errors.DocParsingError.{DocParsingError}
use Rattle.tv_doc.specs.declared.errors.DocParsingError.TheVariants as error
use Rattle.tv_doc.specs.declared.errors.StrictParsingError.{StrictParsingError}
use Rattle.tv_doc.specs.declared.errors.StrictParsingError.TheVariants.{Parsing, UnknownKey, RepeatedKey}
use Rattle.tv_doc.proofs.OneDocument.{texts_alike}

-- ---- two places in a list

-- two places in one list are the same, or one comes after the other
data Places (b : List (List ℕ)) (x : List ℕ) (c : List (List ℕ)) (y : List ℕ) : Type 0 where
  same_place : b ≡ c → x ≡ y → Places b x c y
  before_other : (m : List (List ℕ)) → c ≡ b ++ x ∷ m → Places b x c y
  behind_other : (m : List (List ℕ)) → b ≡ c ++ y ∷ m → Places b x c y

places_behind : (k : List ℕ) (b c : List (List ℕ)) (x y : List ℕ) → Places b x c y → Places (k ∷ b) x (k ∷ c) y
places_behind k b c x y (same_place p q) = same_place (ap (λ l. k ∷ l) p) q
places_behind k b c x y (before_other m p) = before_other m (ap (λ l. k ∷ l) p)
places_behind k b c x y (behind_other m p) = behind_other m (ap (λ l. k ∷ l) p)

places : (b c r s : List (List ℕ)) (x y : List ℕ) → b ++ x ∷ r ≡ c ++ y ∷ s → Places b x c y
places [] [] r s x y e = let same : x ≡ y = cc (e) in same_place refl same
places [] (k ∷ ks) r s x y e = let same : k ≡ x = cc (e) in before_other ks (ap (λ z. z ∷ ks) same)
places (k ∷ ks) [] r s x y e = let same : k ≡ y = cc (e) in behind_other ks (ap (λ z. z ∷ ks) same)
places (j ∷ js) (k ∷ ks) r s x y e =
    let first : j ≡ k = cc (e) in
    let others : js ++ x ∷ r ≡ ks ++ y ∷ s = cc (e) in
    subst (λ z. Places (j ∷ js) x (z ∷ ks) y) first (places_behind j js ks x y (places js ks r s x y others))

-- ---- keys

-- the members of an object that was read
abbrev members_in : Option (written.Json × List Token) → written.Members
members_in None = written.no_members
members_in (Some (written.object ms, rest)) = ms
members_in (Some (json, rest)) = written.no_members

one_keys : (text : List ℕ) (keys others : List (List ℕ)) → HasKeys text keys → HasKeys text others → keys ≡ others
one_keys text keys others h k =
    let same : h.members ≡ k.members = ap members_in (sym h.stand ∙ k.stand) in
    h.are_theirs ∙ ap keys_of same ∙ sym k.are_theirs

stands_once : (before more : List (List ℕ)) (key : List ℕ) → AllPairs (λ one later. one ≢ later) (before ++ key ∷ more) → Contains before key → ⊥
stands_once before more key once has =
    once has.0 (length before) key has.1 (omega (arith, length-append before (key ∷ more)))
    (get_or_append_left before (key ∷ more) key has.0 has.1 ∙ has.2 ∙ sym (get_or-append_seam before key more key))

names_none : (schema : List Entry) (before more : List (List ℕ)) (key : List ℕ) → NameFieldsOnce schema (before ++ key ∷ more) → field_named schema key ≡ None → ⊥
names_none schema before more key good none =
    let is : IsSome (field_named schema key) =
    All-contains (λ k. IsSome (field_named schema k)) (before ++ key ∷ more) key good.named (Contains-append_right before (key ∷ more) key (zero, omega arith, refl)) in
    let no : IsSome {T = ℕ} None = subst IsSome none is in
    absurd (cc (no))

-- why a key is refused
data Why (schema : List Entry) (before : List (List ℕ)) (key : List ℕ) (r : Result CompactDoc StrictParsingError) : Type 0 where
  unknown : (start : String Global) → r ≡ Err (UnknownKey start) → field_named schema key ≡ None → string_bytes start ≡ take_chars 40 key → Why schema before key r
  repeated : (start : String Global) → r ≡ Err (RepeatedKey start) → Contains before key → string_bytes start ≡ take_chars 40 key → Why schema before key r

good_keys : (schema : List Entry) (before more : List (List ℕ)) (key : List ℕ) (r : Result CompactDoc StrictParsingError) → NameFieldsOnce schema (before ++ key ∷ more) → Why schema before key r → ⊥
good_keys schema before more key r good (unknown start is none told) = names_none schema before more key good none
good_keys schema before more key r good (repeated start is has told) = stands_once before more key good.once has

-- the first key that is refused
record Refused (schema : List Entry) (text : List ℕ) (r : Result CompactDoc StrictParsingError) : Type 0 where
  keys : List (List ℕ)
  has : HasKeys text keys
  before : List (List ℕ)
  key : List ℕ
  comes : ComesBehind schema before key keys
  why : Why schema before key r

known_before : (schema : List Entry) (before : List (List ℕ)) (key : List ℕ) → NameFieldsOnce schema before → field_named schema key ≡ None → Contains before key → ⊥
known_before schema before key good none has =
    let is : IsSome (field_named schema key) = All-contains (λ k. IsSome (field_named schema k)) before key good.named has in
    let no : IsSome {T = ℕ} None = subst IsSome none is in
    absurd (cc (no))

-- ---- outcomes

abbrev strictly : Result CompactDoc DocParsingError → Result CompactDoc StrictParsingError
strictly (Ok made) = Ok made
strictly (Err e) = Err (Parsing e)

lifted : (one other : Result CompactDoc DocParsingError) → AreAlike one other → AreStrictlyAlike (strictly one) (strictly other)
lifted (Ok a) (Ok b) same = same
lifted (Ok a) (Err e) memory = ap Parsing memory
lifted (Err e) (Ok b) memory = ap Parsing memory
lifted (Err e) (Err f) same = λ some more. same (λ is. some (ap Parsing is)) (λ is. more (ap Parsing is))

data Judged (schema : List Entry) (text : List ℕ) (r : Result CompactDoc StrictParsingError) : Type 0 where
  parsed : (s : Result CompactDoc DocParsingError) → r ≡ strictly s → Parses schema text s → OfItsKeys text (NameFieldsOnce schema) ⊎ IsNoObject text → Judged schema text r
  key_refused : Refused schema text r → Judged schema text r
  no_memory : r ≡ Err (Parsing error.Memory) → Judged schema text r

judged : (schema : List Entry) (text : List ℕ) (r : Result CompactDoc StrictParsingError) → ParsesStrictly schema text r → Judged schema text r
judged schema text (Ok made) h = parsed (Ok made) refl h.0 (inl h.1)
judged schema text (Err (UnknownKey start)) h =
    let f = h.2 in
    key_refused (record { keys = h.0; has = h.1; before = f.before; key = f.key; comes = f.comes; why = unknown start refl f.unknown f.told })
judged schema text (Err (RepeatedKey start)) h =
    let f = h.2 in
    key_refused (record { keys = h.0; has = h.1; before = f.before; key = f.key; comes = f.comes; why = repeated start refl f.repeated f.told })
judged schema text (Err (Parsing (error.InvalidJson start))) h = parsed (Err (error.InvalidJson start)) refl h (inr h.0)
judged schema text (Err (Parsing (error.ValueError name e))) h = parsed (Err (error.ValueError name e)) refl h.0 (inl h.1)
judged schema text (Err (Parsing (error.Add e))) h = parsed (Err (error.Add e)) refl h.0 (inl h.1)
judged schema text (Err (Parsing error.Memory)) h = no_memory refl

not_refused : (schema : List Entry) (text : List ℕ) (r : Result CompactDoc StrictParsingError) → OfItsKeys text (NameFieldsOnce schema) ⊎ IsNoObject text → Refused schema text r → ⊥
not_refused schema text r (inl (keys, has, good)) f =
    let same : keys ≡ f.before ++ f.key ∷ f.comes.behind = one_keys text keys f.keys has f.has ∙ f.comes.joined in
    good_keys schema f.before f.comes.behind f.key r (subst (NameFieldsOnce schema) same good) f.why
not_refused schema text r (inr none) f = let object = f.has.is_object in none object.0 object.1

alike_by : (schema : List Entry) (before twin : List (List ℕ)) (key other : List ℕ) (r s : Result CompactDoc StrictParsingError) → before ≡ twin → key ≡ other → NameFieldsOnce schema before
    → Why schema before key r → Why schema twin other s → AreStrictlyAlike r s
alike_by schema before twin key other r s same also good (unknown start is none told) (unknown begin so nothing said) =
    subst (λ x. AreStrictlyAlike x s) (sym is)
    (subst (λ x. AreStrictlyAlike (Err (UnknownKey start)) x) (sym so) (λ some more. told ∙ ap (take_chars 40) also ∙ sym said))
alike_by schema before twin key other r s same also good (repeated start is has told) (repeated begin so holds said) =
    subst (λ x. AreStrictlyAlike x s) (sym is)
    (subst (λ x. AreStrictlyAlike (Err (RepeatedKey start)) x) (sym so) (λ some more. told ∙ ap (take_chars 40) also ∙ sym said))
alike_by schema before twin key other r s same also good (unknown start is none told) (repeated begin so holds said) =
    absurd (known_before schema twin other (subst (NameFieldsOnce schema) same good) (sym (ap (field_named schema) also) ∙ none) holds)
alike_by schema before twin key other r s same also good (repeated start is has told) (unknown begin so nothing said) =
    absurd (known_before schema before key good (ap (field_named schema) also ∙ nothing) has)

refused_at : (schema : List Entry) (text : List ℕ) (r s : Result CompactDoc StrictParsingError) (f : Refused schema text r) (g : Refused schema text s) → Places f.before f.key g.before g.key → AreStrictlyAlike r s
refused_at schema text r s f g (same_place same also) = alike_by schema f.before g.before f.key g.key r s same also f.comes.accepted f.why g.why
refused_at schema text r s f g (before_other m is) = absurd (good_keys schema f.before m f.key r (subst (NameFieldsOnce schema) is g.comes.accepted) f.why)
refused_at schema text r s f g (behind_other m is) = absurd (good_keys schema g.before m g.key s (subst (NameFieldsOnce schema) is f.comes.accepted) g.why)

both_refused : (schema : List Entry) (text : List ℕ) (r s : Result CompactDoc StrictParsingError) → Refused schema text r → Refused schema text s → AreStrictlyAlike r s
both_refused schema text r s f g =
    refused_at schema text r s f g
    (places f.before g.before f.comes.behind g.comes.behind f.key g.key (sym f.comes.joined ∙ one_keys text f.keys g.keys f.has g.has ∙ g.comes.joined))

memory_alike : (one other : Result CompactDoc StrictParsingError) → other ≡ Err (Parsing error.Memory) → AreStrictlyAlike one other
memory_alike one (Ok made) is = absurd (cc (is))
memory_alike (Ok made) (Err e) is = let same : e ≡ Parsing error.Memory = cc (is) in same
memory_alike (Err e) (Err f) is = λ some more. let same : f ≡ Parsing error.Memory = cc (is) in absurd (more same)

memory_first : (one other : Result CompactDoc StrictParsingError) → one ≡ Err (Parsing error.Memory) → AreStrictlyAlike one other
memory_first (Ok made) other is = absurd (cc (is))
memory_first (Err e) (Ok made) is = let same : e ≡ Parsing error.Memory = cc (is) in same
memory_first (Err e) (Err f) is = λ some more. let same : e ≡ Parsing error.Memory = cc (is) in absurd (some same)

judged_alike : (schema : List Entry) (text : List ℕ) (r s : Result CompactDoc StrictParsingError) → Judged schema text r → Judged schema text s → AreStrictlyAlike r s
judged_alike schema text r s mine (no_memory is) = memory_alike r s is
judged_alike schema text r s (no_memory is) yours = memory_first r s is
judged_alike schema text r s (parsed one is parses good) (parsed other so reads fine) =
    subst (λ x. AreStrictlyAlike x s) (sym is) (subst (λ x. AreStrictlyAlike (strictly one) x) (sym so) (lifted one other (texts_alike schema text one other parses reads)))
judged_alike schema text r s (parsed one is parses good) (key_refused f) = absurd (not_refused schema text s good f)
judged_alike schema text r s (key_refused f) (parsed other so reads fine) = absurd (not_refused schema text r fine f)
judged_alike schema text r s (key_refused f) (key_refused g) = both_refused schema text r s f g

pub strictly_alike : (schema : List Entry) (text : List ℕ) (r s : Result CompactDoc StrictParsingError) → ParsesStrictly schema text r → ParsesStrictly schema text s → AreStrictlyAlike r s
strictly_alike schema text r s mine yours = judged_alike schema text r s (judged schema text r mine) (judged schema text s yours)
