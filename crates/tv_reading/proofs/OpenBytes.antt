-- What open bytes leave: their head, some of them, and their end.
use Rattle.std.proofs.Common.{◌≡◌, ◌≢◌, ℕ, ◌+◌, ◌-◌, ◌<◌, ◌≤◌, false, List, [], ◌∷◌, ◌++◌, length, Option, Some, None, Result, Ok, Err, OnErr, IsErrOf, IsUtf8, refl, sym, ◌∙◌, ap, subst, length-append, arith}
use Rattle.std.proofs.lemmas.List.{append-nil}
use Rattle.std.proofs.lemmas.Str.{IsUtf8-nil}
use Rattle.tv_base.specs.declared.cause.Cause.{Cause}
use Rattle.tv_base.specs.declared.cause.Cause.TheVariants as causes
use Rattle.tv_builder.specs.declared.kinds.Awaits.TheVariants as awaits
use Rattle.tv_builder.specs.declared.errors.BuildError.{BuildError}
use Rattle.tv_builder.specs.declared.errors.BuildError.TheVariants.{AlreadyFailed, OutOfPlace, NotUtf8, HeapFull, Memory}
use Rattle.tv_builder.specs.declared.kinds.BytesKind.{BytesKind}
use Rattle.tv_builder.specs.declared.kinds.BytesKind.TheVariants as kinds
use Rattle.tv_builder.specs.Kinds.{IsTextKind}
use Rattle.tv_builder.specs.Parts.{Part, bytes_head, some_bytes, IsContentOf, Trades}
use Rattle.tv_builder.specs.State.{State, complete, in_lists, in_bytes, and_head, and_bytes, and_end, awaited, head_awaits, IsState, state_room, lists_parts, parts_of}
use Rattle.tv_builder.proofs.CallsTrade.{heads_trade, bytes_trade, ends_trade}
use Rattle.tv_builder.proofs.Trading.{trades_as, trades_from}
use Rattle.tv_builder.specs.declared.pair_builder.PairBuilder.{PairBuilder}
use Rattle.tv_builder.specs.Builder.{built, state_of, Goes, BuildsIf, Builds, TakesBytes, HasAllBytes, HasContent, Ends}
use Rattle.tv_heap.specs.Room.{document_room}
use Rattle.tv_reader.specs.declared.error.DeserializeError.{DeserializeError}
use Rattle.tv_reader.specs.declared.error.DeserializeError.TheVariants as errors
use Rattle.tv_format.specs.Tree.{Document}
use Rattle.tv_reading.specs.Errors.{build_error}
use Rattle.tv_reading.specs.Prefix.{parts_at, parts_read, IsPlace, IsSound, HasField}
use Rattle.tv_reading.specs.Puts.{MayStand, IsWithinPair, IsOpen, IsEnding, AtEnd, PutsParts, NoContent, PutsEnd, EndNoText, NoText, PutsBytes}
use Rattle.tv_reading.specs.Kept.{LetGo}
use Rattle.tv_reading.specs.declared.reading.Reading.{Reading}
use Rattle.tv_reading.proofs.Building.{CalledEnd, ended}
use Rattle.tv_reading.proofs.Calls.{not_finish, not_bytes, FillsAt, and_end_is}
use Rattle.tv_reading.proofs.Putting.{with_builder, Leads, leads, goes_let_go, puts_on, and_end_stands}
use Rattle.tv_reading.proofs.States.{is_state, no_bytes_next}
use Rattle.tv_reading.proofs.Trading.{open_trades}

-- ---- their head

pub head_trades : (s : State) (kind : BytesKind) (n : ℕ) → awaited s ≡ head_awaits kind → Trades (parts_of s ++ bytes_head kind n ∷ []) (parts_of (and_head s kind n))
head_trades (in_lists ls) kind n e = heads_trade ls kind n
head_trades (complete t) kind n e = absurd (not_finish kind e)
head_trades (in_bytes ls k m bs) kind n e = absurd (not_bytes kind (m - length bs) e)

pub head_stands : (s : State) (kind : BytesKind) (n : ℕ) → awaited s ≡ head_awaits kind → 0 < n → MayStand (and_head s kind n)
head_stands (in_lists ls) kind n e some = some
head_stands (complete t) kind n e some = tt
head_stands (in_bytes ls k m bs) kind n e some = absurd (not_bytes kind (m - length bs) e)

pub head_awaits_more : (s after : State) (kind : BytesKind) (n : ℕ) → after ≡ and_head s kind n → awaited s ≡ head_awaits kind → awaited after ≢ awaits.Finish
head_awaits_more (in_lists ls) after kind n is e f = let g : awaits.Bytes (n - 0) ≡ awaits.Finish = sym (ap awaited is) ∙ f in cc
head_awaits_more (complete t) after kind n is e f = not_finish kind e
head_awaits_more (in_bytes ls k m bs) after kind n is e f = not_bytes kind (m - length bs) e

pub head_all : (s : State) (kind : BytesKind) (n : ℕ) → awaited s ≡ head_awaits kind → n ≡ 0 → HasAllBytes (and_head s kind n)
head_all (in_lists ls) kind n e none = sym none
head_all (complete t) kind n e none = absurd (not_finish kind e)
head_all (in_bytes ls k m bs) kind n e none = absurd (not_bytes kind (m - length bs) e)

no_content : (kind : BytesKind) → IsContentOf kind []
no_content kinds.Bytes = tt
no_content _ = IsUtf8-nil

pub head_content : (s : State) (kind : BytesKind) (n : ℕ) → awaited s ≡ head_awaits kind → HasContent (and_head s kind n)
head_content (in_lists ls) kind n e = no_content kind
head_content (complete t) kind n e = absurd (not_finish kind e)
head_content (in_bytes ls k m bs) kind n e = absurd (not_bytes kind (m - length bs) e)

-- ---- some of them

pub takes_bytes : (s : State) (m k : ℕ) → IsState s → awaited s ≡ awaits.Bytes m → k ≤ m → TakesBytes s k
takes_bytes (in_bytes ls kind n bs) m k is e few = let same : n - length bs ≡ m = cc in omega (arith, few, same, is.3)
takes_bytes (complete t) m k is e few = absurd cc
takes_bytes (in_lists []) m k is e few = absurd cc
takes_bytes (in_lists (l ∷ ls)) m k is e few = absurd (no_bytes_next l.kind (length l.children) m e)

pub bytes_trades : (s : State) (more : List ℕ) → TakesBytes s (length more) → Trades (parts_of s ++ some_bytes more ∷ []) (parts_of (and_bytes s more))
bytes_trades (in_bytes ls kind n bs) more h = bytes_trade ls kind n bs more
bytes_trades (complete t) more h = absurd h
bytes_trades (in_lists ls) more h = absurd h

pub bytes_stand : (s : State) (more : List ℕ) (m : ℕ) → IsState s → awaited s ≡ awaits.Bytes m → TakesBytes s (length more) → length more < m → MayStand (and_bytes s more)
bytes_stand (in_bytes ls kind n bs) more m is e h less = let same : n - length bs ≡ m = cc in omega (arith, less, same, is.3, length-append bs more)
bytes_stand (complete t) more m is e h less = tt
bytes_stand (in_lists ls) more m is e h less = tt

pub bytes_await_more : (s after : State) (more : List ℕ) → TakesBytes s (length more) → after ≡ and_bytes s more → awaited after ≢ awaits.Finish
bytes_await_more (in_bytes ls kind n bs) after more h is f = let g : awaits.Bytes (n - length (bs ++ more)) ≡ awaits.Finish = sym (ap awaited is) ∙ f in cc
bytes_await_more (complete t) after more h is f = absurd h
bytes_await_more (in_lists ls) after more h is f = absurd h

pub bytes_all : (s : State) (more : List ℕ) (m : ℕ) → IsState s → awaited s ≡ awaits.Bytes m → TakesBytes s (length more) → m ≤ length more → HasAllBytes (and_bytes s more)
bytes_all (in_bytes ls kind n bs) more m is e h all = let same : n - length bs ≡ m = cc in omega (arith, all, same, h, is.3, length-append bs more)
bytes_all (complete t) more m is e h all = absurd h
bytes_all (in_lists ls) more m is e h all = absurd h

no_text : (kind : BytesKind) (content : List ℕ) → ¬ IsContentOf kind content → IsTextKind kind × ¬ IsUtf8 content
no_text kinds.Bytes content h = absurd (h tt)
no_text _ content h = (tt, h)

pub end_no_text : (s after : State) (more : List ℕ) → TakesBytes s (length more) → HasAllBytes after → after ≡ and_bytes s more → ¬ HasContent after → EndNoText s more
end_no_text (in_bytes ls kind n bs) after more h all is none =
    let content : ¬ IsContentOf kind (bs ++ more) = λ c. none (subst HasContent (sym is) c) in
    let k = no_text kind (bs ++ more) content in
    let whole : length (bs ++ more) ≡ n = subst HasAllBytes is all in
    (k.0, omega (arith, whole, length-append bs more), k.1)
end_no_text (complete t) after more h all is none = absurd h
end_no_text (in_lists ls) after more h all is none = absurd h

-- ---- their end

end_trades : (s : State) → IsState s → HasAllBytes s → HasContent s → Trades (parts_of s ++ []) (parts_of (and_end s))
end_trades (in_bytes ls kind n bs) is all content =
    trades_from _ (append-nil (lists_parts ls ++ (bytes_head kind n ∷ some_bytes bs ∷ [])))
    (subst (λ m. Trades (lists_parts ls ++ (bytes_head kind m ∷ some_bytes bs ∷ [])) (parts_of (and_end (in_bytes ls kind n bs)))) all
    (ends_trade ls kind bs (is.0, is.1, is.2, omega arith) content))
end_trades (complete t) is all content = absurd all
end_trades (in_lists ls) is all content = absurd all

record EndedAt (a f : Option ℕ) (d : Document) (old new : State) : Type 0 where
  within : IsWithinPair a d f new
  trades : Trades (parts_at a d f old ++ []) (parts_at a d f new)

ended_at : (a f : Option ℕ) (d : Document) (old new : State) → IsEnding a d f old → MayStand new → Trades (parts_of old ++ []) (parts_of new) → EndedAt a f d old new
ended_at None f d old new h stands t = absurd h
ended_at (Some n) None d old new h stands t = absurd h
ended_at (Some n) (Some f) d old new h stands t = record { within = (h.0, stands); trades = open_trades n d f old new [] t }

all_bytes : (a f : Option ℕ) (d : Document) (s : State) → IsEnding a d f s → HasAllBytes s
all_bytes None f d s h = absurd h
all_bytes (Some n) None d s h = absurd h
all_bytes (Some n) (Some f) d s h = h.1

pub ends_all : (r : Reading) → AtEnd r → HasAllBytes (state_of r.builder)
ends_all r h = all_bytes r.announced r.field (built r.builder) (state_of r.builder) h.ending

pub record EndOpens (r : Reading) (b : PairBuilder) : Type 0 where
  pub open_is : IsOpen (with_builder r b)
  pub goes : Goes r.builder b (and_end (state_of r.builder))
  pub leads : Leads r (with_builder r b) []

pub end_opens : (r : Reading) (b : PairBuilder) (x : Unit {0}) → AtEnd r → Ends r.builder b (Ok x) → EndOpens r b
end_opens r b x h c =
    let s = state_of r.builder in
    let all = ends_all r h in
    let k = ended r.builder b (Ok x) h.not_failed all c in
    let g = k.0 in
    let e = ended_at r.announced r.field (built r.builder) s (and_end s) h.ending (and_end_stands s all) (end_trades s (is_state r.builder) all k.1) in
    let now : parts_at r.announced (built r.builder) r.field (and_end s) ≡ parts_read (with_builder r b) = λ i. parts_at r.announced (sym g.document i) r.field (sym g.state i) in
    record {
      open_is = record {
        not_failed = g.not_failed;
        counted = h.counted ∙ ap length (sym g.document);
        within = subst (λ z. IsWithinPair r.announced z r.field (state_of b)) (sym g.document) (subst (λ z. IsWithinPair r.announced (built r.builder) r.field z) (sym g.state) e.within);
      };
      goes = g;
      leads = leads r b (and_end (state_of r.builder)) [] g (trades_as _ now e.trades);
    }

-- what is dropped when a pair can't be finished
pub end_left : (r : Reading) (b : PairBuilder) (new : Reading) (result : Result (Unit {0}) DeserializeError) → EndOpens r b → OnErr result (LetGo (with_builder r b) new) → OnErr result (LetGo r new)
end_left r b new (Ok x) o l = tt
end_left r b new (Err e) o l = goes_let_go r b (and_end (state_of r.builder)) new o.goes l

-- the heap has no room for what is closed
end_fills_at : (a f : Option ℕ) (d : Document) (s : State) (finished : ℕ) → IsEnding a d f s → IsState (and_end s) → Trades (parts_of s ++ []) (parts_of (and_end s)) → 4294967295 < document_room d + state_room (and_end s) → FillsAt a f d s []
end_fills_at None f d s finished h is t full = absurd h
end_fills_at (Some n) None d s finished h is t full = absurd h
end_fills_at (Some n) (Some f) d s finished h is t full = record { announced = n; field = f; state = and_end s; less = h.0; is = is; trades = open_trades n d f s (and_end s) [] t; no_room = full }

pub end_refused : (r new : Reading) (b : PairBuilder) (e : BuildError) → AtEnd r → Ends r.builder b (Err e) → PutsEnd r new (Err (build_error e))
end_refused r new b e h c = refused e c (ended r.builder b (Err e) h.not_failed (ends_all r h) c)
  where
    s : State
    s = state_of r.builder

    refused : (e : BuildError) → Ends r.builder b (Err e) → CalledEnd r.builder b (Err e) → PutsEnd r new (Err (build_error e))
    refused HeapFull c k =
        let f = end_fills_at r.announced r.field (built r.builder) s 0 h.ending (and_end_is s (is_state r.builder)) (end_trades s (is_state r.builder) (ends_all r h) k.0) (k.1).room in
        record { announced = f.announced; finished = built r.builder; field = f.field; state = f.state; less = f.less; is = f.is; trades = f.trades; no_room = f.no_room }
    refused Memory c k = tt
    refused NotUtf8 c k = k
    refused AlreadyFailed c k = absurd k
    refused OutOfPlace c k = absurd k

-- ---- together

pub puts_end : (r mid new : Reading) (result : Result (Unit {0}) DeserializeError) → Leads r mid [] → PutsParts mid new [] result → PutsEnd r new result
puts_end r mid new (Ok x) t h = puts_on r mid new [] (Ok x) t h
puts_end r mid new (Err errors.HeapFull) t h = puts_on r mid new [] (Err errors.HeapFull) t h
puts_end r mid new (Err errors.Memory) t h = tt
puts_end r mid new (Err (errors.CorruptedValue c)) t h = absurd h
puts_end r mid new (Err (errors.UnsupportedType k)) t h = absurd h
puts_end r mid new (Err (errors.TypeMismatch k l)) t h = absurd h
puts_end r mid new (Err (errors.Custom s)) t h = absurd h
puts_end r mid new (Err (errors.UnsupportedVersion m n)) t h = absurd h
puts_end r mid new (Err (errors.Io k)) t h = absurd h
puts_end r mid new (Err errors.AlreadyFailed) t h = absurd h
puts_end r mid new (Err errors.TooDeep) t h = absurd h

content_there : (c : Cause) (s : State) → HasContent s → NoContent c s → ⊥
content_there causes.NotUtf8 s h none = none h
content_there _ s h none = none

pub puts_from_end : (r mid new : Reading) (ps : List Part) (result : Result (Unit {0}) DeserializeError) → Leads r mid ps → HasContent (state_of mid.builder) → PutsEnd mid new result → PutsParts r new ps result
puts_from_end r mid new ps (Ok x) t content h = puts_on r mid new ps (Ok x) t h
puts_from_end r mid new ps (Err errors.HeapFull) t content h = puts_on r mid new ps (Err errors.HeapFull) t h
puts_from_end r mid new ps (Err errors.Memory) t content h = tt
puts_from_end r mid new ps (Err (errors.CorruptedValue c)) t content h = absurd (content_there c (state_of mid.builder) content h)
puts_from_end r mid new ps (Err (errors.UnsupportedType k)) t content h = absurd h
puts_from_end r mid new ps (Err (errors.TypeMismatch k l)) t content h = absurd h
puts_from_end r mid new ps (Err (errors.Custom s)) t content h = absurd h
puts_from_end r mid new ps (Err (errors.UnsupportedVersion m n)) t content h = absurd h
puts_from_end r mid new ps (Err (errors.Io k)) t content h = absurd h
puts_from_end r mid new ps (Err errors.AlreadyFailed) t content h = absurd h
puts_from_end r mid new ps (Err errors.TooDeep) t content h = absurd h

text_or : (c : Cause) (s after : State) (more : List ℕ) → (¬ HasContent after → EndNoText s more) → NoContent c after → NoText c s more
text_or causes.NotUtf8 s after more map none = map none
text_or _ s after more map none = none

pub bytes_from_end : (r mid new : Reading) (more : List ℕ) (ps : List Part) (result : Result (Unit {0}) DeserializeError) → Leads r mid ps → (¬ HasContent (state_of mid.builder) → EndNoText (state_of r.builder) more)
    → PutsEnd mid new result → PutsBytes r new more ps result
bytes_from_end r mid new more ps (Ok x) t map h = puts_on r mid new ps (Ok x) t h
bytes_from_end r mid new more ps (Err errors.HeapFull) t map h = puts_on r mid new ps (Err errors.HeapFull) t h
bytes_from_end r mid new more ps (Err errors.Memory) t map h = tt
bytes_from_end r mid new more ps (Err (errors.CorruptedValue c)) t map h = text_or c (state_of r.builder) (state_of mid.builder) more map h
bytes_from_end r mid new more ps (Err (errors.UnsupportedType k)) t map h = absurd h
bytes_from_end r mid new more ps (Err (errors.TypeMismatch k l)) t map h = absurd h
bytes_from_end r mid new more ps (Err (errors.Custom s)) t map h = absurd h
bytes_from_end r mid new more ps (Err (errors.UnsupportedVersion m n)) t map h = absurd h
bytes_from_end r mid new more ps (Err (errors.Io k)) t map h = absurd h
bytes_from_end r mid new more ps (Err errors.AlreadyFailed) t map h = absurd h
bytes_from_end r mid new more ps (Err errors.TooDeep) t map h = absurd h

-- some bytes were refused: for want of memory alone
pub bytes_refused : (r new : Reading) (b : PairBuilder) (in_place fits : Type 0) (after : State → State) (more : List ℕ) (ps : List Part) (e : BuildError) → r.builder.failed ≡ false → in_place → Builds r.builder b in_place fits after (Err e) → ¬ IsErrOf {T = Unit {0}} (Err e) HeapFull
    → PutsBytes r new more ps (Err (build_error e))
bytes_refused r new b in_place fits after more ps e not_failed here c roomy = refused e roomy (subst (λ z. BuildsIf z r.builder b in_place fits after (Err e)) not_failed c)
  where
    refused : (e : BuildError) → ¬ IsErrOf {T = Unit {0}} (Err e) HeapFull → BuildsIf false r.builder b in_place fits after (Err e) → PutsBytes r new more ps (Err (build_error e))
    refused HeapFull roomy k = absurd (roomy refl)
    refused Memory roomy k = tt
    refused NotUtf8 roomy k = absurd k
    refused AlreadyFailed roomy k = absurd k
    refused OutOfPlace roomy k = absurd (k.0 here)

ending_at : (a f : Option ℕ) (d : Document) (old new : State) → HasField f → IsPlace a d f old → HasAllBytes new → IsEnding a d f new
ending_at None None d old new has h all = absurd has
ending_at None (Some f) d old new has h all = absurd h
ending_at (Some n) None d old new has h all = absurd has
ending_at (Some n) (Some f) d old new has h all = (h.0, all)

pub at_end : (r : Reading) (b : PairBuilder) (s : State) → IsSound r → HasField r.field → Goes r.builder b s → HasAllBytes s → AtEnd (with_builder r b)
at_end r b s h has g all = record {
  not_failed = g.not_failed;
  counted = h.counted ∙ ap length (sym g.document);
  ending =
      subst (λ z. IsEnding r.announced z r.field (state_of b)) (sym g.document)
      (subst (λ z. IsEnding r.announced (built r.builder) r.field z) (sym g.state) (ending_at r.announced r.field (built r.builder) (state_of r.builder) s has h.place all));
}
