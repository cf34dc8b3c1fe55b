-- Reading a type is reading a byte, and types have a code.
use Rattle.std.proofs.Common.{◌≡◌, ◌≢◌, ℕ, List, [], ◌∷◌, ◌++◌, Result, Ok, Err, refl, sym, ap, subst, ◌∙◌, add-zero, arith}
use Rattle.std.specs.Prelude.{IsErrOf}
use Rattle.tv_base.specs.declared.cause.Cause.{Cause}
use Rattle.tv_base.specs.declared.cause.Cause.TheVariants.{UnexpectedEnd, UnknownTypeCode, TooLong}
use Rattle.tv_base.specs.declared.cause.ReadError.{ReadError}
use Rattle.tv_base.specs.declared.cause.ReadError.TheVariants.{Corrupted}
use Rattle.tv_base.specs.Number.{Fixed, no_bytes, low_byte}
use Rattle.tv_base.specs.ErrorInPart.{ErrorInBytes, bytes_end}
use Rattle.tv_base.specs.declared.source.ByteSource.{Ghosts}
use Rattle.tv_base.specs.ReadsAs.{Shows, ReadsAs}
use Rattle.tv_base.specs.Stop.Stop.{InputError, Uncounted}
use Rattle.tv_base.specs.Take.{read_stop}
use Rattle.tv_heap.specs.declared.value_type.ValueType.{ValueType}
use Rattle.tv_heap.specs.TypeByte.{ErrorInType, no_byte, no_type}
use Rattle.tv_heap.specs.TypeCode.{type_code}

abbrev EncodesType : List ℕ → ValueType → Type 0
EncodesType bytes t = Fixed 1 bytes (type_code t)

abbrev ReadsByte : {S : Type 0} → Ghosts S → S → S → Result ℕ ReadError → Type 0
ReadsByte source old new result = ReadsAs {Y = ℕ} source old new (λ n. n) result (Fixed 1) (ErrorInBytes 1)

abbrev ReadsType : {S : Type 0} → Ghosts S → S → S → Result ValueType ReadError → Type 0
ReadsType source old new result = ReadsAs {Y = ValueType} source old new (λ t. t) result EncodesType ErrorInType

pub err_is : (e f : ReadError) → IsErrOf {T = ValueType} (Err e) f → IsErrOf {T = ℕ} (Err e) f
err_is e f is = let same : e ≡ f = cc in ap (λ x. Err x) same

shows_type : (old new : List ℕ) (c : Cause) → Shows UnexpectedEnd (ErrorInBytes 1) old new c → Shows UnexpectedEnd ErrorInType old new c
shows_type old new c s = record { taken = s.taken; joined = s.joined; shown = no_byte s.shown; all = s.all; early = λ other prefix byte last. no_byte (s.early other prefix byte last) }

-- no byte was read
pub no_byte_read : {S : Type 0} (source : Ghosts S) (old new : S) (e : ReadError) → ReadsByte source old new (Err e) → ReadsType source old new (Err e)
no_byte_read source old new e r = record {
  found = λ t. tt;
  only = λ known y prefix rest joined encodes room. r.only known (type_code y) prefix rest joined encodes room;
  error = λ told f c is stop. no_byte (r.error told f c (err_is e f is) stop);
  shows = λ told f c is stop. shows_type (source.left old) (source.left new) c (r.shows told f c (err_is e f is) stop);
  too_long = λ told f c is stop. r.too_long told f c (err_is e f is) stop;
  ends_early = λ told f c is stop. let h = r.ends_early told f c (err_is e f is) stop in record { taken = h.taken; joined = h.joined; shown = no_byte h.shown };
  no_room = λ told f is none. none;
  errors = tt;
  taken = r.taken;
  failures = r.failures;
  stays_known = r.stays_known;
}

one_byte_is : (bytes : List ℕ) (n : ℕ) → Fixed 1 bytes n → bytes ≡ n ∷ []
one_byte_is bytes n (low_byte {b = b} h no_bytes) = ap (λ (m : ℕ). m ∷ []) (sym (add-zero b))

begins : (byte n : ℕ) (prefix : List ℕ) → byte ∷ [] ≡ prefix ++ n ∷ [] → prefix ≡ []
begins byte n [] e = refl
begins byte n (x ∷ []) e = absurd (cc)
begins byte n (x ∷ y ∷ prefix) e = absurd (cc)

shows_other : (old new prefix : List ℕ) (code : ℕ) → ((t : ValueType) → type_code t ≢ code) → Fixed 1 prefix code → old ≡ prefix ++ new → Shows UnexpectedEnd ErrorInType old new (UnknownTypeCode code)
shows_other old new prefix code other encodes joined = record {
  taken = code ∷ [];
  joined = joined ∙ ap (λ (l : List ℕ). l ++ new) (one_byte_is prefix code encodes);
  shown = no_type code [] refl other;
  all = λ e. absurd (cc);
  early = λ apart prefix byte last. no_byte (subst (λ l. ErrorInBytes 1 l UnexpectedEnd) (sym (begins code byte prefix last)) (bytes_end (omega arith)));
}

-- an error that says this refuses the bytes for it
refused_for : (c d : Cause) (e : ReadError) → c ≢ TooLong → IsErrOf {T = ValueType} (Err (Corrupted c)) e → read_stop e ≡ InputError d → c ≡ d
refused_for c d e other is stop = let same : Corrupted c ≡ e = cc in told c d other (subst (λ z. read_stop z ≡ InputError d) (sym same) stop)
  where
    told : (c d : Cause) → c ≢ TooLong → read_stop (Corrupted c) ≡ InputError d → c ≡ d
    told TooLong d other stop = absurd (other refl)
    told c d other stop = cc

counted : (c d : Cause) (e : ReadError) → c ≢ TooLong → IsErrOf {T = ValueType} (Err (Corrupted c)) e → read_stop e ≡ Uncounted d → ⊥
counted c d e other is stop = let same : Corrupted c ≡ e = cc in none c d other (subst (λ z. read_stop z ≡ Uncounted d) (sym same) stop)
  where
    none : (c d : Cause) → c ≢ TooLong → read_stop (Corrupted c) ≡ Uncounted d → ⊥
    none TooLong d other stop = other refl
    none c d other stop = cc

-- the byte of no type was read
pub other_byte_read : {S : Type 0} (source : Ghosts S) (old new : S) (code : ℕ) → ((t : ValueType) → type_code t ≢ code) → ReadsByte source old new (Ok code) → ReadsType source old new (Err (Corrupted (UnknownTypeCode code)))
other_byte_read source old new code other r =
    let apart : UnknownTypeCode code ≢ TooLong = λ e. absurd (cc) in
    record {
      found = λ t. tt;
      only = λ known y prefix rest joined encodes room. other y (sym (r.only known (type_code y) prefix rest joined encodes room).0);
      error = λ told e c is stop.
          let f = r.found told in
          subst (ErrorInType (source.left old)) (refused_for (UnknownTypeCode code) c e apart is stop) (no_type code (source.left new) (f.joined ∙ ap (λ (l : List ℕ). l ++ source.left new) (one_byte_is f.prefix code f.encoded)) other);
      shows = λ told e c is stop.
          let f = r.found told in
          subst (Shows UnexpectedEnd ErrorInType (source.left old) (source.left new)) (refused_for (UnknownTypeCode code) c e apart is stop) (shows_other (source.left old) (source.left new) f.prefix code other f.encoded f.joined);
      too_long = λ told e c is stop. absurd (counted (UnknownTypeCode code) c e apart is stop);
      ends_early = λ told e c is stop. absurd (counted (UnknownTypeCode code) c e apart is stop);
      no_room = λ told e is none. none;
      errors = tt;
      taken = r.taken;
      failures = r.failures;
      stays_known = r.stays_known;
    }
