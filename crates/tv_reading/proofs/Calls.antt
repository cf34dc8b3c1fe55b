-- A call of the builder, as it leaves what is read.
use Rattle.std.proofs.Common.{◌≡◌, ℕ, ◌+◌, ◌-◌, ◌<◌, nat_eq, List, [], ◌∷◌, ◌++◌, length, Option, Some, None, Result, Ok, Err, OnErr, sym, subst, arith, inl, inr}
use Rattle.std.proofs.lemmas.Bool.{cond-true, cond-false}
use Rattle.std.proofs.lemmas.Bool.Decides.{eqb_tells}
use Rattle.tv_builder.specs.declared.kinds.Awaits.{Awaits}
use Rattle.tv_builder.specs.declared.kinds.Awaits.TheVariants as awaits
use Rattle.tv_builder.specs.declared.errors.BuildError.{BuildError}
use Rattle.tv_builder.specs.declared.errors.BuildError.TheVariants.{AlreadyFailed, OutOfPlace, NotUtf8, HeapFull, Memory}
use Rattle.tv_builder.specs.declared.kinds.BytesKind.{BytesKind}
use Rattle.tv_builder.specs.declared.kinds.BytesKind.TheVariants as kinds
use Rattle.tv_builder.specs.declared.kinds.ListKind.{ListKind}
use Rattle.tv_builder.specs.declared.kinds.ListKind.TheVariants.{Array, Object}
use Rattle.tv_builder.specs.Behind.{open_parts}
use Rattle.tv_builder.specs.Parts.{Part, Trades}
use Rattle.tv_builder.specs.State.{OpenList, State, complete, in_lists, in_bytes, list_tree, with_content, and_value, and_list, and_head, and_end, awaited, head_awaits, AreLists, OthersAwait, HeadNext, IsState, state_room, parts_of}
use Rattle.tv_builder.proofs.Calls.{head_next}
use Rattle.tv_builder.proofs.Ending.{content_comes}
use Rattle.tv_builder.proofs.Giving.{comes, value_is}
use Rattle.tv_builder.proofs.Sound.{all_await}
use Rattle.tv_builder.specs.declared.pair_builder.PairBuilder.{PairBuilder}
use Rattle.tv_builder.specs.Builder.{built, state_of, Overfull, Builds}
use Rattle.tv_heap.specs.Room.{document_room}
use Rattle.tv_reader.specs.declared.error.DeserializeError.{DeserializeError}
use Rattle.tv_format.specs.Tree.{Tree, Document}
use Rattle.tv_reading.specs.Errors.{build_error}
use Rattle.tv_reading.specs.Prefix.{parts_at, IsPlace, IsSound, HasField}
use Rattle.tv_reading.specs.Puts.{MayStand, IsOpen, Awaiting, LacksRoom, PutsParts}
use Rattle.tv_reading.specs.Kept.{LetGo}
use Rattle.tv_reading.specs.declared.reading.Reading.{Reading}
use Rattle.tv_reading.proofs.Building.{Called, called}
use Rattle.tv_reading.proofs.Putting.{with_builder, trades_at, opened, Leads, call_leads, goes_let_go, puts_on}

-- ---- the state that is left, or would be

pub and_value_is : (s : State) (t : Tree) → IsState s → awaited s ≡ awaits.Value → IsState (and_value s t)
and_value_is (in_lists ls) t is e = value_is ls t is.0 (comes ls t is.0 (all_await ls e is.1))
and_value_is (complete u) t is e = tt
and_value_is (in_bytes ls kind n bs) t is e = absurd cc

pub and_list_is : (s : State) (kind : ListKind) (n : ℕ) → IsState s → awaited s ≡ awaits.Value → IsState (and_list s kind n)
and_list_is (in_lists ls) kind n is e = elim (eqb_tells n 0) [
  | inl p ↦ subst IsState (sym (cond-true (nat_eq n 0) _ _ p.0)) (value_is ls (list_tree kind []) is.0 (comes ls (list_tree kind []) is.0 (all_await ls e is.1)))
  | inr p ↦ subst IsState (sym (cond-false (nat_eq n 0) _ _ p.0)) (opened_is kind (omega (arith, p.1)))
]
  where
    opened_is : (kind : ListKind) → 0 < n → IsState (in_lists (record { kind = kind; announced = n; children = [] } ∷ ls))
    opened_is Array some = ((record { lacks = some; children = tt }, is.0), all_await ls e is.1)
    opened_is Object some = ((record { lacks = omega (arith, some); children = tt }, is.0), all_await ls e is.1)
and_list_is (complete u) kind n is e = tt
and_list_is (in_bytes ls k m bs) kind n is e = absurd cc

pub not_finish : (kind : BytesKind) → awaits.Finish ≡ head_awaits kind → ⊥
not_finish kinds.Key e = cc
not_finish _ e = cc

pub not_bytes : (kind : BytesKind) (n : ℕ) → awaits.Bytes n ≡ head_awaits kind → ⊥
not_bytes kinds.Key n e = cc
not_bytes _ n e = cc

pub and_head_is : (s : State) (kind : BytesKind) (n : ℕ) → IsState s → awaited s ≡ head_awaits kind → IsState (and_head s kind n)
and_head_is (in_lists ls) kind n is e = (is.0, is.1, head_next kind ls e is.1, omega arith)
and_head_is (complete u) kind n is e = tt
and_head_is (in_bytes ls k m bs) kind n is e = absurd (not_bytes kind (m - length bs) e)

content_is : (ls : List OpenList) (kind : BytesKind) (content : List ℕ) → AreLists ls → OthersAwait ls → HeadNext kind ls → IsState (with_content ls kind content)
content_is ls kind content are others next = let c = content_comes kind ls content are others next in subst IsState (sym c.1) (value_is ls _ are c.0)

pub and_end_is : (s : State) → IsState s → IsState (and_end s)
and_end_is (in_bytes ls kind n bs) is = content_is ls kind bs is.0 is.1 is.2
and_end_is (in_lists ls) is = is
and_end_is (complete t) is = is

-- ---- what has no room

pub record FillsAt (a f : Option ℕ) (d : Document) (old : State) (ps : List Part) : Type 0 where
  pub announced : ℕ
  pub field : ℕ
  pub state : State
  pub less : length d < announced
  pub is : IsState state
  pub trades : Trades (parts_at a d f old ++ ps) (open_parts announced d field state)
  pub no_room : 4294967295 < document_room d + state_room state

pub fills_at : (a f : Option ℕ) (d : Document) (old new : State) (ps : List Part) → HasField f → IsPlace a d f old → IsState new → Trades (parts_of old ++ ps) (parts_of new) → 4294967295 < document_room d + state_room new → FillsAt a f d old ps
fills_at None None d old new ps has h is t full = absurd has
fills_at None (Some f) d old new ps has h is t full = absurd h
fills_at (Some n) None d old new ps has h is t full = absurd has
fills_at (Some n) (Some f) d old new ps has h is t full = record { announced = n; field = f; state = new; less = h.0; is = is; trades = trades_at (Some n) (Some f) d old new ps has h t; no_room = full }

pub fills : (r : Reading) (s : State) (ps : List Part) → IsSound r → HasField r.field → IsState s → Trades (parts_of (state_of r.builder) ++ ps) (parts_of s) → Overfull r.builder s → LacksRoom r ps
fills r s ps sound has is t full =
    let k = fills_at r.announced r.field (built r.builder) (state_of r.builder) s ps has sound.place is t full.room in
    record { announced = k.announced; finished = built r.builder; field = k.field; state = k.state; less = k.less; is = k.is; trades = k.trades; no_room = k.no_room }

-- ---- the call, and what it answers

module _ (r : Reading) (b : PairBuilder) (what : Awaits) (in_place fits : Type 0) (after : State → State) (ps : List Part) where
  pub call_opens : (x : Unit {0}) → Awaiting r what → in_place → Builds r.builder b in_place fits after (Ok x) → MayStand (after (state_of r.builder)) → IsOpen (with_builder r b)
  call_opens x h here c stands = opened r b (after (state_of r.builder)) h.sound h.field (called r.builder b in_place fits after (Ok x) h.sound.not_failed here c) stands

  pub call_lead : (x : Unit {0}) → Awaiting r what → in_place → Builds r.builder b in_place fits after (Ok x) → Trades (parts_of (state_of r.builder) ++ ps) (parts_of (after (state_of r.builder))) → Leads r (with_builder r b) ps
  call_lead x h here c t = call_leads r b (after (state_of r.builder)) ps h.sound h.field (called r.builder b in_place fits after (Ok x) h.sound.not_failed here c) t

  pub call_puts : (x : Unit {0}) (new : Reading) (result : Result (Unit {0}) DeserializeError) → Awaiting r what → in_place → Builds r.builder b in_place fits after (Ok x) → Trades (parts_of (state_of r.builder) ++ ps) (parts_of (after (state_of r.builder)))
      → PutsParts (with_builder r b) new [] result → PutsParts r new ps result
  call_puts x new result h here c t p = puts_on r (with_builder r b) new ps result (call_lead x h here c t) p

  pub call_left : (x : Unit {0}) (new : Reading) (result : Result (Unit {0}) DeserializeError) → Awaiting r what → in_place → Builds r.builder b in_place fits after (Ok x) → OnErr result (LetGo (with_builder r b) new) → OnErr result (LetGo r new)
  call_left x new (Ok y) h here c l = tt
  call_left x new (Err e) h here c l = goes_let_go r b (after (state_of r.builder)) new (called r.builder b in_place fits after (Ok x) h.sound.not_failed here c) l

  pub call_refused : (e : BuildError) (new : Reading) → Awaiting r what → in_place → Builds r.builder b in_place fits after (Err e) → IsState (after (state_of r.builder)) → Trades (parts_of (state_of r.builder) ++ ps) (parts_of (after (state_of r.builder)))
      → PutsParts r new ps (Err (build_error e))
  call_refused e new h here c is t = refused e (called r.builder b in_place fits after (Err e) h.sound.not_failed here c)
    where
      refused : (e : BuildError) → Called r.builder b (after (state_of r.builder)) (Err e) → PutsParts r new ps (Err (build_error e))
      refused HeapFull k = fills r (after (state_of r.builder)) ps h.sound h.field is t k
      refused Memory k = tt
      refused AlreadyFailed k = absurd k
      refused OutOfPlace k = absurd k
      refused NotUtf8 k = absurd k
