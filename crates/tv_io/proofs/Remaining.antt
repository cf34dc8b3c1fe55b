-- What a reader has left and what a writer holds, where they are known, by what a call returned.
use Rattle.std.proofs.Common.{ℕ, ◌≡◌, ◌<◌, List, [], ◌∷◌, ◌++◌, length, Option, Some, None, Ok, Err, refl, sym, ap, ◌∙◌, subst, arith}
use Rattle.std.specs.Prelude.{IsSome, unwrap_or, Result, take, zero, suc}
use Rattle.std.specs.Io.KnownBytes.{Consumes, Appends, Keeps, IsAtEnd, ReadConsumes, WriteAppends}
use Rattle.std.specs.declared.io.ErrorKind.{ErrorKind}
use Rattle.tv_base.specs.Sink.{AppendsSome}
use Rattle.tv_base.specs.Source.{AllBytes, Failures, HasFailed, CountsFailure, GivesSome}
use Rattle.std.proofs.lemmas.List.{append-nil}
use Rattle.tv_base.proofs.SmallBytes.{bytes_after}
use Rattle.tv_io.specs.Calls.{of_read, of_write, CountsOnce}

-- ---- failures

pub failures_counted : (call result : Result ℕ ErrorKind) (old new : Failures) → CountsOnce call result old new → CountsFailure result old new
failures_counted (Ok n) result old new h = subst (λ r. CountsFailure r old new) (sym h.0) h.1
failures_counted (Err kind) result old new h =
    subst (λ r. CountsFailure r old new) (sym h.0) (subst (HasFailed kind old) (sym h.1) (record { counted = omega arith; kept = refl }))

-- ---- reading

-- known bytes after those that were given
pub still_left : (old new : Option (List ℕ)) (given : List ℕ) → Consumes old new given → IsSome old × AllBytes (unwrap_or old []) → IsSome new × AllBytes (unwrap_or new [])
still_left (Some xs) (Some ys) given consumes known = (known.0, bytes_after xs given ys consumes known.1)
still_left (Some xs) None given consumes known = absurd consumes
still_left None new given consumes known = absurd (cc)

still_kept : (old new : Option (List ℕ)) → Keeps old new → IsSome old × AllBytes (unwrap_or old []) → IsSome new × AllBytes (unwrap_or new [])
still_kept (Some xs) (Some ys) same known = (known.0, subst AllBytes (sym same) known.1)
still_kept (Some xs) None same known = absurd same
still_kept None new same known = absurd (cc)

pub still_known : {E : Type 0} (call : Result ℕ E) (buf : List ℕ) (old new : Option (List ℕ)) → ReadConsumes old new call buf
    → IsSome old × AllBytes (unwrap_or old []) → IsSome new × AllBytes (unwrap_or new [])
still_known (Ok n) buf old new h known = still_left old new (take n buf) h.0 known
still_known (Err e) buf old new h known = still_kept old new h known

given_some : (n : ℕ) (buf : List ℕ) (old new : Option (List ℕ)) → Consumes old new (take n buf) → (n ≡ 0 → 0 < length buf → IsAtEnd new) → IsSome old
    → GivesSome {E = ErrorKind} (unwrap_or old []) (unwrap_or new []) (Ok n) buf
given_some n buf (Some xs) (Some ys) h end known = (h, λ none room. h ∙ ap (λ ys. take n buf ++ ys) (end none room) ∙ ap (λ m. take m buf ++ []) none)
given_some n buf (Some xs) None h end known = absurd h
given_some n buf None new h end known = absurd (cc)

kept : (old new : Option (List ℕ)) → Keeps old new → IsSome old → unwrap_or new [] ≡ unwrap_or old []
kept (Some xs) (Some ys) same known = same
kept (Some xs) None same known = absurd same
kept None new same known = absurd (cc)

pub bytes_given : {E : Type 0} (kind : E → ErrorKind) (call : Result ℕ E) (result : Result ℕ ErrorKind) (buf : List ℕ) (old new : Option (List ℕ)) (failures now : Failures)
    → ReadConsumes old new call buf → CountsOnce (of_read kind call) result failures now → IsSome old → GivesSome (unwrap_or old []) (unwrap_or new []) result buf
bytes_given kind (Ok n) result buf old new failures now h counts known =
    subst (λ r. GivesSome (unwrap_or old []) (unwrap_or new []) r buf) (sym counts.0) (given_some n buf old new h.0 h.1 known)
bytes_given kind (Err e) result buf old new failures now h counts known =
    subst (λ r. GivesSome (unwrap_or old []) (unwrap_or new []) r buf) (sym counts.0) (kept old new h known)

-- ---- writing

appended : (old new : Option (List ℕ)) (taken : List ℕ) → Appends old new taken → IsSome old → unwrap_or new [] ≡ unwrap_or old [] ++ taken
appended (Some xs) (Some ys) taken h known = h
appended (Some xs) None taken h known = absurd h
appended None new taken h known = absurd (cc)

appended_none : (old new : Option (List ℕ)) → Appends old new [] → IsSome old → unwrap_or new [] ≡ unwrap_or old []
appended_none old new h known = appended old new [] h known ∙ append-nil (unwrap_or old [])

pub bytes_written : {E : Type 0} (kind : E → ErrorKind) (call : Result ℕ E) (result : Result ℕ ErrorKind) (buf : List ℕ) (old new : Option (List ℕ)) (failures now : Failures)
    → WriteAppends old new call buf → CountsOnce (of_write kind buf call) result failures now → IsSome old → AppendsSome (unwrap_or old []) (unwrap_or new []) result buf
bytes_written kind (Ok n) result [] old new failures now h counts known =
    subst (λ r. AppendsSome (unwrap_or old []) (unwrap_or new []) r []) (sym counts.0) (appended old new (take n []) h known)
bytes_written kind (Ok zero) result (b ∷ bs) old new failures now h counts known =
    subst (λ r. AppendsSome (unwrap_or old []) (unwrap_or new []) r (b ∷ bs)) (sym counts.0) (appended_none old new h known)
bytes_written kind (Ok (suc n)) result (b ∷ bs) old new failures now h counts known =
    subst (λ r. AppendsSome (unwrap_or old []) (unwrap_or new []) r (b ∷ bs)) (sym counts.0) (appended old new (take (suc n) (b ∷ bs)) h known)
bytes_written kind (Err e) result [] old new failures now h counts known =
    subst (λ r. AppendsSome (unwrap_or old []) (unwrap_or new []) r []) (sym counts.0) (kept old new h known)
bytes_written kind (Err e) result (b ∷ bs) old new failures now h counts known =
    subst (λ r. AppendsSome (unwrap_or old []) (unwrap_or new []) r (b ∷ bs)) (sym counts.0) (kept old new h known)

appends_known : (old new : Option (List ℕ)) (taken : List ℕ) → Appends old new taken → IsSome old → IsSome new
appends_known (Some xs) (Some ys) taken h known = known
appends_known (Some xs) None taken h known = absurd h
appends_known None new taken h known = absurd (cc)

keeps_known : (old new : Option (List ℕ)) → Keeps old new → IsSome old → IsSome new
keeps_known (Some xs) (Some ys) h known = known
keeps_known (Some xs) None h known = absurd h
keeps_known None new h known = absurd (cc)

pub writer_known : {E : Type 0} (call : Result ℕ E) (buf : List ℕ) (old new : Option (List ℕ)) → WriteAppends old new call buf → IsSome old → IsSome new
writer_known (Ok n) buf old new h known = appends_known old new (take n buf) h known
writer_known (Err e) buf old new h known = keeps_known old new h known
