-- What is malformed after what has come.
use Rattle.std.proofs.Common.{◌≡◌, ℕ, ◌-◌, ◌<◌, List, [], ◌∷◌, ◌++◌, length, Option, Some, None, sym, subst, arith, inl}
use Rattle.tv_base.specs.declared.cause.Cause.{Cause}
use Rattle.tv_base.specs.declared.cause.Cause.TheVariants.{UnexpectedEnd, NotUtf8}
use Rattle.tv_base.specs.ErrorInPart.{ErrorInNumber, ErrorInBytes}
use Rattle.tv_builder.specs.declared.kinds.Awaits.{Awaits}
use Rattle.tv_builder.specs.declared.kinds.Awaits.TheVariants as awaits
use Rattle.tv_builder.specs.Behind.{ErrorsBehind}
use Rattle.tv_builder.specs.Prefix.{Encoded}
use Rattle.tv_builder.specs.State.{OpenList, State, complete, in_lists, in_bytes, next_in, awaited, IsState}
use Rattle.tv_builder.proofs.WithErrors.{field_errors, value_errors, key_errors, end_errors, text_errors}
use Rattle.tv_builder.proofs.Sound.{all_await, next_key}
use Rattle.tv_builder.specs.Builder.{built, state_of}
use Rattle.tv_reader.specs.Legacy.{Legacy, ErrorInLegacy}
use Rattle.tv_format.specs.InputError.{Refusal, corrupted, Corrupt, corrupt, ErrorInKey, ErrorInValue, ErrorInDocument}
use Rattle.tv_format.specs.Tree.{Document}
use Rattle.tv_format.specs.Version.{Version}
use Rattle.tv_reading.specs.Prefix.{parts_at, IsPlace, IsSound, HasField, LacksPair, IsMalformedNext}
use Rattle.tv_reading.specs.Puts.{Awaiting, EndNoText}
use Rattle.tv_reading.specs.declared.reading.Reading.{Reading}
use Rattle.tv_reading.proofs.States.{is_state, no_bytes_next}

abbrev Behind : Version → Option ℕ → Document → Option ℕ → State → List ℕ → Refusal → Type 0
Behind v a d f s rest r = ErrorsBehind Legacy ErrorInLegacy v (parts_at a d f s) rest r

-- ---- of the number of the pairs

pub number_at_error : (v : Version) (r : Reading) (rest : List ℕ) (e : Refusal) → r.announced ≡ None → Corrupt ErrorInNumber rest e → IsMalformedNext v r rest e
number_at_error v r rest e is h = λ bytes p.
    let none : bytes ≡ [] = subst (λ z. Encoded Legacy v bytes (parts_at z (built r.builder) r.field (state_of r.builder))) is p in
    subst (λ z. ErrorInDocument Legacy ErrorInLegacy v (z ++ rest) e) (sym none) (inl h)

-- ---- of a field

field_at : (v : Version) (a : Option ℕ) (d : Document) (finished : ℕ) (s : State) (rest : List ℕ) (c : Cause) → LacksPair a finished → finished ≡ length d → ErrorInBytes 4 rest c → Behind v a d None s rest (corrupted c)
field_at v None d finished s rest c lacks counted h = absurd lacks
field_at v (Some n) d finished s rest c lacks counted h = field_errors Legacy ErrorInLegacy v n d rest c (omega (arith, lacks, counted)) h

pub field_at_error : (v : Version) (r : Reading) (rest : List ℕ) (e : Refusal) → IsSound r → r.field ≡ None → LacksPair r.announced r.finished → Corrupt (ErrorInBytes 4) rest e → IsMalformedNext v r rest e
field_at_error v r rest _ sound is lacks (corrupt {c} h) =
    subst (λ z. Behind v r.announced (built r.builder) z (state_of r.builder) rest (corrupted c)) (sym is) (field_at v r.announced (built r.builder) r.finished (state_of r.builder) rest c lacks sound.counted h)

-- ---- of a value

value_at : (v : Version) (a f : Option ℕ) (d : Document) (s : State) (rest : List ℕ) (r : Refusal) → HasField f → IsPlace a d f s → IsState s → awaited s ≡ awaits.Value → ErrorInValue Legacy ErrorInLegacy v rest r → Behind v a d f s rest r
value_at v (Some n) (Some f) d (in_lists ls) rest r has h is e error = value_errors Legacy ErrorInLegacy v n d f ls rest r h.0 is.0 (all_await ls e is.1) error
value_at v (Some n) (Some f) d (complete t) rest r has h is e error = absurd h.1
value_at v (Some n) (Some f) d (in_bytes ls kind m bs) rest r has h is e error = absurd cc
value_at v None (Some f) d s rest r has h is e error = absurd h
value_at v a None d s rest r has h is e error = absurd has

pub value_at_error : (v : Version) (r : Reading) (rest : List ℕ) (e : Refusal) → Awaiting r awaits.Value → ErrorInValue Legacy ErrorInLegacy v rest e → IsMalformedNext v r rest e
value_at_error v r rest e h error = value_at v r.announced r.field (built r.builder) (state_of r.builder) rest e h.field h.sound.place (is_state r.builder) h.next error

-- ---- of a key

key_next : (v : Version) (n f : ℕ) (d : Document) (ls : List OpenList) (rest : List ℕ) (r : Refusal) → length d < n → IsState (in_lists ls) → next_in ls ≡ awaits.Key → ErrorInKey v rest r → Behind v (Some n) d (Some f) (in_lists ls) rest r
key_next v n f d [] rest r less is e error = absurd cc
key_next v n f d (l ∷ ls) rest r less is e error = key_errors Legacy ErrorInLegacy v n d f l ls rest r less is.0 is.1 (next_key l.kind (length l.children) e) error

key_at : (v : Version) (a f : Option ℕ) (d : Document) (s : State) (rest : List ℕ) (r : Refusal) → HasField f → IsPlace a d f s → IsState s → awaited s ≡ awaits.Key → ErrorInKey v rest r → Behind v a d f s rest r
key_at v (Some n) (Some f) d (in_lists ls) rest r has h is e error = key_next v n f d ls rest r h.0 is e error
key_at v (Some n) (Some f) d (complete t) rest r has h is e error = absurd h.1
key_at v (Some n) (Some f) d (in_bytes ls kind m bs) rest r has h is e error = absurd cc
key_at v None (Some f) d s rest r has h is e error = absurd h
key_at v a None d s rest r has h is e error = absurd has

pub key_at_error : (v : Version) (r : Reading) (rest : List ℕ) (e : Refusal) → Awaiting r awaits.Key → ErrorInKey v rest e → IsMalformedNext v r rest e
key_at_error v r rest e h error = key_at v r.announced r.field (built r.builder) (state_of r.builder) rest e h.field h.sound.place (is_state r.builder) h.next error

-- ---- of open bytes

same_missing : (m n : ℕ) → awaits.Bytes m ≡ awaits.Bytes n → m ≡ n
same_missing m n e = cc

end_at : (v : Version) (a f : Option ℕ) (d : Document) (s : State) (rest : List ℕ) (missing : ℕ) → HasField f → IsPlace a d f s → IsState s → awaited s ≡ awaits.Bytes missing → length rest < missing → Behind v a d f s rest (corrupted UnexpectedEnd)
end_at v (Some n) (Some f) d (in_bytes ls kind m bs) rest missing has h is e less =
    let same = same_missing (m - length bs) missing e in
    end_errors Legacy ErrorInLegacy v n d f kind ls m bs rest h.0 is.0 is.1 is.2 (omega (arith, less, same, is.3))
end_at v (Some n) (Some f) d (complete t) rest missing has h is e less = absurd h.1
end_at v (Some n) (Some f) d (in_lists []) rest missing has h is e less = absurd cc
end_at v (Some n) (Some f) d (in_lists (l ∷ ls)) rest missing has h is e less = absurd (no_bytes_next l.kind (length l.children) missing e)
end_at v None (Some f) d s rest missing has h is e less = absurd h
end_at v a None d s rest missing has h is e less = absurd has

pub end_at_error : (v : Version) (r : Reading) (rest : List ℕ) (missing : ℕ) → Awaiting r (awaits.Bytes missing) → length rest < missing → IsMalformedNext v r rest (corrupted UnexpectedEnd)
end_at_error v r rest missing h less = end_at v r.announced r.field (built r.builder) (state_of r.builder) rest missing h.field h.sound.place (is_state r.builder) h.next less

text_at : (v : Version) (a f : Option ℕ) (d : Document) (s : State) (piece rest : List ℕ) → HasField f → IsPlace a d f s → IsState s → EndNoText s piece → Behind v a d f s (piece ++ rest) (corrupted NotUtf8)
text_at v (Some n) (Some f) d (in_bytes ls kind m bs) piece rest has h is none = text_errors Legacy ErrorInLegacy v n d f kind ls m bs piece rest h.0 is.0 is.1 is.2 none.0 none.1 none.2
text_at v (Some n) (Some f) d (complete t) piece rest has h is none = absurd none
text_at v (Some n) (Some f) d (in_lists ls) piece rest has h is none = absurd none
text_at v None (Some f) d s piece rest has h is none = absurd h
text_at v a None d s piece rest has h is none = absurd has

pub text_at_error : (v : Version) (r : Reading) (piece rest : List ℕ) (next : Awaits) → Awaiting r next → EndNoText (state_of r.builder) piece → IsMalformedNext v r (piece ++ rest) (corrupted NotUtf8)
text_at_error v r piece rest next h none = text_at v r.announced r.field (built r.builder) (state_of r.builder) piece rest h.field h.sound.place (is_state r.builder) none
