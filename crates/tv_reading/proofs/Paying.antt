-- What is paid for by the bytes that were read.
use Rattle.std.proofs.Common.{◌≡◌, ℕ, ◌+◌, ◌-◌, ◌*◌, ◌≤◌, Bool, false, List, ◌++◌, length, Option, Some, None, Ok, sym, ap, subst, length-append, arith, inl, inr}
use Rattle.tv_base.specs.Source.{Failures}
use Rattle.tv_builder.specs.Prefix.{Encoded}
use Rattle.tv_builder.specs.State.{State, lists_of, children_of}
use Rattle.tv_builder.specs.Weight.{document_weight, state_weight}
use Rattle.tv_builder.proofs.Paid.{document_paid, open_paid, open_lists_paid}
use Rattle.tv_builder.proofs.PairBuilding.{heap_weighs}
use Rattle.tv_builder.specs.Builder.{built, state_of}
use Rattle.tv_reader.specs.Finds.{FindsIf}
use Rattle.tv_format.specs.Encoding.{NoLegacy}
use Rattle.tv_format.specs.Tree.{Document}
use Rattle.tv_format.specs.Version.{Version}
use Rattle.tv_reading.specs.Prefix.{parts_at, parts_read, IsPlace, IsSound, IsMalformedNext}
use Rattle.tv_reading.specs.Paid.{PaidBy}
use Rattle.tv_reading.specs.Kept.{KeepsPairs}
use Rattle.tv_reading.specs.Steps.{Stepped}
use Rattle.tv_reading.specs.declared.reading.Reading.{Reading}
use Rattle.tv_reader.specs.Error.{StoreMayStop}

record Paid (d : Document) (s : State) (n : ℕ) : Type 0 where
  weight : document_weight d + state_weight s ≤ 7 * n
  lists : 2 * length (lists_of s) ≤ n
  children : children_of (lists_of s) ≤ n

paid_at : (v : Version) (a f : Option ℕ) (d : Document) (s : State) (b : List ℕ) → IsPlace a d f s → Encoded NoLegacy v b (parts_at a d f s) → Paid d s (length b)
paid_at v None None d s b h p = record {
  weight = omega (arith, ap document_weight h.0, ap state_weight h.1);
  lists = omega (arith, ap (λ z. length (lists_of z)) h.1);
  children = omega (arith, ap (λ z. children_of (lists_of z)) h.1);
}
paid_at v None (Some f) d s b h p = absurd h
paid_at v (Some n) None d s b h p = record {
  weight = omega (arith, document_paid v n d b p, ap state_weight h.1);
  lists = omega (arith, ap (λ z. length (lists_of z)) h.1);
  children = omega (arith, ap (λ z. children_of (lists_of z)) h.1);
}
paid_at v (Some n) (Some f) d s b h p = let k = open_lists_paid v n d f s b p in record { weight = open_paid v n d f s b p; lists = k.0; children = k.1 }

paid : (v : Version) (r : Reading) (b : List ℕ) → IsSound r → Encoded NoLegacy v b (parts_read r) → Paid (built r.builder) (state_of r.builder) (length b)
paid v r b sound p = paid_at v r.announced r.field (built r.builder) (state_of r.builder) b sound.place p

pub paid_now : (v : Version) (r : Reading) (b : List ℕ) (count : ℕ) → IsSound r → Encoded NoLegacy v b (parts_read r) → length b ≤ count → PaidBy r.builder count
paid_now v r b count sound p less =
    let k = paid v r b sound p in
    record { heap = omega (arith, heap_weighs r.builder, k.weight, less); lists = omega (arith, k.lists, less); children = omega (arith, k.children, less) }

-- after a refusal nothing more is open than before
pub paid_left : (v : Version) (old new : Reading) (b : List ℕ) (count : ℕ) → IsSound old → Encoded NoLegacy v b (parts_read old) → length b ≤ count → KeepsPairs old new → PaidBy new.builder count
paid_left v old new b count sound p less (inl h) =
    let k = paid v old b sound p in
    record {
      heap = omega (arith, heap_weighs new.builder, k.weight, less, ap document_weight h.document, ap state_weight h.state);
      lists = omega (arith, ap (λ z. length (lists_of z)) h.state);
      children = omega (arith, ap (λ z. children_of (lists_of z)) h.state);
    }
paid_left v old new b count sound p less (inr e) = subst (λ (z : Reading). PaidBy z.builder count) (sym e) (paid_now v old b count sound p less)

-- a step that took these bytes
pub paid_next : {S : Type 0} {is_known : S → Type 0} {left : S → List ℕ} {failures : S → Failures} {os ns : S} {i k : ℕ} (x : Unit {0}) (v : Version) (legacy : Bool) (old new : Reading) (b : List ℕ) → IsSound new → Encoded NoLegacy v b (parts_read old) → legacy ≡ false
    → FindsIf StoreMayStop is_known left failures os i ns k (Ok x) (λ b _. Stepped v legacy old new b) (IsMalformedNext v old) → is_known os → PaidBy new.builder (length b + (k - i))
paid_next {left = left} {ns = ns} x v legacy old new b sound p none h t =
    let f = h.found t in
    let g = h.taken t in
    paid_now v new (b ++ f.prefix) _ sound (f.encoded.plain none b p) (omega (arith, g.counted, ap length f.joined, ap length g.joined, length-append b f.prefix, length-append f.prefix (left ns), length-append g.prefix (left ns)))
