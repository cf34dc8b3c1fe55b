-- What a part that has come leaves.
use Rattle.std.proofs.Common.{◌≡◌, ◌≢◌, ℕ, ◌+◌, true, false, Bool, cond, nat_eq, List, [], ◌∷◌, ◌++◌, length, take, Option, Some, None, Result, Ok, Err, refl, sym, ◌∙◌, ap, subst, length-append, arith, inl, inr}
use Rattle.std.proofs.lemmas.List.{append-nil, take-append-le}
use Rattle.tv_builder.specs.declared.kinds.Awaits.TheVariants as awaits
use Rattle.tv_builder.specs.declared.kinds.BytesKind.{BytesKind}
use Rattle.tv_builder.specs.declared.kinds.BytesKind.TheVariants as kinds
use Rattle.tv_builder.specs.declared.kinds.ListKind.{ListKind}
use Rattle.tv_builder.specs.Behind.{open_parts}
use Rattle.tv_builder.specs.Parts.{Part, Trades, same}
use Rattle.tv_builder.specs.State.{OpenList, State, complete, in_lists, in_bytes, awaited, lacks_more, with_child, list_tree, with_value, with_key, with_content, and_value, and_list, and_end, parts_of}
use Rattle.tv_builder.proofs.Trading.{trades_as, trades_from, trades_then}
use Rattle.tv_builder.specs.declared.pair_builder.PairBuilder.{PairBuilder}
use Rattle.tv_base.specs.Sink.{IsPrefix}
use Rattle.tv_builder.proofs.Giving.{prefix_then}
use Rattle.tv_builder.specs.Builder.{built, state_of, heap_so_far, Goes, HasAllBytes, IsComplete, Finished}
use Rattle.tv_reader.specs.declared.error.DeserializeError.{DeserializeError}
use Rattle.tv_reader.specs.declared.error.DeserializeError.TheVariants as errors
use Rattle.tv_format.specs.Tree.{Tree, Document}
use Rattle.tv_reading.specs.Prefix.{parts_at, parts_read, IsBetweenParts, IsPlace, IsSound, HasField}
use Rattle.tv_reading.specs.Puts.{MayStand, IsWithinPair, IsOpen, PartsPut, PutsParts}
use Rattle.tv_reading.specs.Kept.{Grows, LetGo}
use Rattle.tv_reading.specs.declared.reading.Reading.{Reading}
use Rattle.tv_reading.proofs.States.{no_finish_next}
use Rattle.tv_reading.proofs.Trading.{open_trades, pair_trades}

-- the same with another builder
abbrev pub with_builder : Reading → PairBuilder → Reading
with_builder r b = record { announced = r.announced; finished = r.finished; field = r.field; builder = b }

-- ---- a complete value becomes that of a pair

record ClosedAt (a : Option ℕ) (d : Document) (f : ℕ) (s : State) (t : Tree) : Type 0 where
  place : IsPlace a (d ++ (f, t) ∷ []) None (in_lists [])
  trades : Trades (parts_at a d (Some f) s ++ []) (parts_at a (d ++ (f, t) ∷ []) None (in_lists []))

closed_at : (a : Option ℕ) (d : Document) (f : ℕ) (s : State) (t : Tree) → IsWithinPair a d (Some f) s → s ≡ complete t → ClosedAt a d f s t
closed_at None d f s t h e = absurd h
closed_at (Some n) d f s t h e = record {
  place = (omega (arith, h.0, length-append d ((f, t) ∷ [])), refl);
  trades = trades_from _ (append-nil (open_parts n d f s) ∙ ap (λ z. open_parts n d f z) e) (pair_trades n d f t);
}

pub closed : (r new : Reading) (f : ℕ) → IsOpen r → r.field ≡ Some f → Finished r.builder new.builder f → new.announced ≡ r.announced → new.finished ≡ r.finished + 1 → new.field ≡ None → PartsPut r new []
closed r new f h is g announced finished field =
    let k = closed_at r.announced (built r.builder) f (state_of r.builder) g.tree (subst (λ z. IsWithinPair r.announced (built r.builder) z (state_of r.builder)) is h.within) g.was in
    let now : parts_at r.announced (built r.builder ++ (f, g.tree) ∷ []) None (in_lists []) ≡ parts_read new = λ i. parts_at (sym announced i) (sym g.document i) (sym field i) (sym g.state i) in
    record {
      sound = record {
        not_failed = g.not_failed;
        counted = omega (arith, finished, h.counted, ap length g.document, length-append (built r.builder) ((f, g.tree) ∷ []));
        place =
            subst (λ z. IsPlace z (built new.builder) new.field (state_of new.builder)) (sym announced)
            (subst (λ z. IsPlace r.announced z new.field (state_of new.builder)) (sym g.document)
            (subst (λ z. IsPlace r.announced (built r.builder ++ (f, g.tree) ∷ []) z (state_of new.builder)) (sym field)
            (subst (λ z. IsPlace r.announced (built r.builder ++ (f, g.tree) ∷ []) None z) (sym g.state) k.place)));
      };
      grows = record { heap = ([], g.heap ∙ sym (append-nil (heap_so_far r.builder))); ends = inr ((f, g.tree), g.document, g.kept ∙ ap length (sym g.heap)) };
      trades = trades_from _ (ap (λ z. parts_at r.announced (built r.builder) z (state_of r.builder) ++ []) is) (trades_as _ now k.trades);
    }

-- a value is complete where the field is awaited
pub finish_awaited : (s : State) → awaited s ≡ awaits.Finish → IsComplete s
finish_awaited (complete t) e = (t, refl)
finish_awaited (in_lists []) e = absurd cc
finish_awaited (in_lists (l ∷ ls)) e = absurd (no_finish_next l.kind (length l.children) e)
finish_awaited (in_bytes ls kind n bs) e = absurd cc

-- or no value is complete
lacks_at : (s : State) → awaited s ≢ awaits.Finish → MayStand s → IsBetweenParts s
lacks_at (complete t) other h = absurd (other refl)
lacks_at (in_lists ls) other h = tt
lacks_at (in_bytes ls kind n bs) other h = h

place_at : (a : Option ℕ) (d : Document) (f : Option ℕ) (s : State) → awaited s ≢ awaits.Finish → IsWithinPair a d f s → IsPlace a d f s
place_at (Some n) d (Some f) s other h = (h.0, lacks_at s other h.1)
place_at (Some n) d None s other h = absurd h
place_at None d f s other h = absurd h

-- the same builder
pub same_grows : (r new : Reading) → new.builder ≡ r.builder → Grows r new
same_grows r new e = record { heap = ([], ap heap_so_far e ∙ sym (append-nil (heap_so_far r.builder))); ends = inl (ap built e, ap (λ (b : PairBuilder). b.kept) e) }

pub stays : (r : Reading) → IsOpen r → awaited (state_of r.builder) ≢ awaits.Finish → PartsPut r r []
stays r h other = record {
  sound = record { not_failed = h.not_failed; counted = h.counted; place = place_at r.announced (built r.builder) r.field (state_of r.builder) other h.within };
  grows = same_grows r r refl;
  trades = trades_from _ (append-nil (parts_read r)) same;
}

-- ---- a call of the builder, and then what it closes

pub trades_at : (a f : Option ℕ) (d : Document) (old new : State) (ps : List Part) → HasField f → IsPlace a d f old → Trades (parts_of old ++ ps) (parts_of new) → Trades (parts_at a d f old ++ ps) (parts_at a d f new)
trades_at None None d old new ps has h t = absurd has
trades_at None (Some f) d old new ps has h t = absurd h
trades_at (Some n) None d old new ps has h t = absurd has
trades_at (Some n) (Some f) d old new ps has h t = open_trades n d f old new ps t

within_at : (a f : Option ℕ) (d : Document) (old new : State) → HasField f → IsPlace a d f old → MayStand new → IsWithinPair a d f new
within_at None None d old new has h stands = absurd has
within_at None (Some f) d old new has h stands = absurd h
within_at (Some n) None d old new has h stands = absurd has
within_at (Some n) (Some f) d old new has h stands = (h.0, stands)

pub opened : (r : Reading) (b : PairBuilder) (s : State) → IsSound r → HasField r.field → Goes r.builder b s → MayStand s → IsOpen (with_builder r b)
opened r b s h has g stands = record {
  not_failed = g.not_failed;
  counted = h.counted ∙ ap length (sym g.document);
  within =
      subst (λ z. IsWithinPair r.announced z r.field (state_of b)) (sym g.document)
      (subst (λ z. IsWithinPair r.announced (built r.builder) r.field z) (sym g.state) (within_at r.announced r.field (built r.builder) (state_of r.builder) s has h.place stands));
}

-- what a call leads to, before what it completes is closed
pub record Leads (r mid : Reading) (ps : List Part) : Type 0 where
  pub trades : Trades (parts_read r ++ ps) (parts_read mid)
  pub heap : IsPrefix (heap_so_far r.builder) (heap_so_far mid.builder)
  pub document : built mid.builder ≡ built r.builder
  pub kept : mid.builder.kept ≡ r.builder.kept

pub leads : (r : Reading) (b : PairBuilder) (s : State) (ps : List Part) → Goes r.builder b s → Trades (parts_read r ++ ps) (parts_read (with_builder r b)) → Leads r (with_builder r b) ps
leads r b s ps g t = record { trades = t; heap = g.grows; document = g.document; kept = g.kept }

pub call_leads : (r : Reading) (b : PairBuilder) (s : State) (ps : List Part) → IsSound r → HasField r.field → Goes r.builder b s → Trades (parts_of (state_of r.builder) ++ ps) (parts_of s) → Leads r (with_builder r b) ps
call_leads r b s ps h has g t =
    let now : parts_at r.announced (built r.builder) r.field s ≡ parts_read (with_builder r b) = λ i. parts_at r.announced (sym g.document i) r.field (sym g.state i) in
    leads r b s ps g (trades_as _ now (trades_at r.announced r.field (built r.builder) (state_of r.builder) s ps has h.place t))

grows_on : (r mid new : Reading) (ps : List Part) → Leads r mid ps → Grows mid new → Grows r new
grows_on r mid new ps l g = record {
  heap = prefix_then (heap_so_far r.builder) (heap_so_far mid.builder) (heap_so_far new.builder) l.heap g.heap;
  ends = elim g.ends [
    | inl p ↦ inl (p.0 ∙ l.document, p.1 ∙ l.kept)
    | inr p ↦ inr (p.0, p.1 ∙ ap (λ z. z ++ p.0 ∷ []) l.document, p.2)
  ];
}

-- and what is dropped then
pub goes_let_go : (r : Reading) (b : PairBuilder) (s : State) (new : Reading) → Goes r.builder b s → LetGo (with_builder r b) new → LetGo r new
goes_let_go r b s new g l = record {
  document = l.document ∙ g.document;
  kept = l.kept ∙ g.kept;
  heap = l.heap ∙ ap (λ n. take n (heap_so_far b)) g.kept ∙ ap (λ z. take r.builder.kept z) g.grows.1 ∙ take-append-le r.builder.kept (heap_so_far r.builder) g.grows.0 r.builder.kept_within;
  state = l.state;
}

pub puts_on : (r mid new : Reading) (ps : List Part) (result : Result (Unit {0}) DeserializeError) → Leads r mid ps → PutsParts mid new [] result → PutsParts r new ps result
puts_on r mid new ps (Ok x) l h = record { sound = h.sound; grows = grows_on r mid new ps l h.grows; trades = trades_then l.trades (trades_from _ (sym (append-nil (parts_read mid))) h.trades) }
puts_on r mid new ps (Err errors.HeapFull) l h = record { announced = h.announced; finished = h.finished; field = h.field; state = h.state; less = h.less; is = h.is; trades = trades_then l.trades (trades_from _ (sym (append-nil (parts_read mid))) h.trades); no_room = h.no_room }
puts_on r mid new ps (Err errors.Memory) t h = tt
puts_on r mid new ps (Err (errors.CorruptedValue c)) t h = absurd h
puts_on r mid new ps (Err (errors.UnsupportedType k)) t h = absurd h
puts_on r mid new ps (Err (errors.TypeMismatch k l)) t h = absurd h
puts_on r mid new ps (Err (errors.Custom s)) t h = absurd h
puts_on r mid new ps (Err (errors.UnsupportedVersion m n)) t h = absurd h
puts_on r mid new ps (Err (errors.Io k)) t h = absurd h
puts_on r mid new ps (Err errors.AlreadyFailed) t h = absurd h
puts_on r mid new ps (Err errors.TooDeep) t h = absurd h

-- ---- what may stand

cond_stands : (b : Bool) (x y : State) → MayStand x → MayStand y → MayStand (cond b x y)
cond_stands true x y h k = h
cond_stands false x y h k = k

value_stands : (ls : List OpenList) (t : Tree) → MayStand (with_value ls t)
value_stands [] t = tt
value_stands (l ∷ ls) t = cond_stands (lacks_more l) (in_lists (with_child l t ∷ ls)) (with_value ls (list_tree l.kind (l.children ++ t ∷ []))) tt (value_stands ls (list_tree l.kind (l.children ++ t ∷ [])))

key_stands : (ls : List OpenList) (k : List ℕ) → MayStand (with_key ls k)
key_stands [] k = tt
key_stands (l ∷ ls) k = tt

pub and_value_stands : (s : State) (t : Tree) → awaited s ≡ awaits.Value → MayStand (and_value s t)
and_value_stands (in_lists ls) t e = value_stands ls t
and_value_stands (complete u) t e = tt
and_value_stands (in_bytes ls kind n bs) t e = absurd cc

pub and_list_stands : (s : State) (kind : ListKind) (n : ℕ) → awaited s ≡ awaits.Value → MayStand (and_list s kind n)
and_list_stands (in_lists ls) kind n e = cond_stands (nat_eq n 0) (with_value ls (list_tree kind [])) (in_lists (record { kind = kind; announced = n; children = [] } ∷ ls)) (value_stands ls (list_tree kind [])) tt
and_list_stands (complete u) kind n e = tt
and_list_stands (in_bytes ls k m bs) kind n e = absurd cc

content_stands : (ls : List OpenList) (kind : BytesKind) (content : List ℕ) → MayStand (with_content ls kind content)
content_stands ls kinds.Key content = key_stands ls content
content_stands ls _ content = value_stands ls _

pub and_end_stands : (s : State) → HasAllBytes s → MayStand (and_end s)
and_end_stands (in_bytes ls kind n bs) h = content_stands ls kind bs
and_end_stands (in_lists ls) h = tt
and_end_stands (complete t) h = tt
