-- Where the bytes of a text lead.
use Rattle.std.proofs.Common.{◌≡◌, ℕ, ◌+◌, ◌<◌, List, [], ◌∷◌, ◌++◌, length, take, get_or, refl, subst, arith, drop-cons, Some, Result, Ok, Err}
use Rattle.std.proofs.Math.Seq.{take-length, drop-length}
use Rattle.std.proofs.lemmas.List.{take_more}
use Rattle.tv_json.specs.Faults.{start, next, end_fault, Leads, no_bytes, byte, IsFaultOf}
use Rattle.tv_json.specs.declared.json_fault.JsonFaultKind.{JsonFaultKind}
use Rattle.tv_json.specs.declared.json_scan.Scan.{Scan}

pub Leads-last : {s t u : Scan} {xs : List ℕ} (x : ℕ) → Leads s xs t → next t x ≡ Ok u → Leads s (xs ++ x ∷ []) u
Leads-last x no_bytes e = byte x e no_bytes
Leads-last x (byte y f rest) e = byte y f (Leads-last x rest e)

pub Leads-more :
    (text : List ℕ) (i : ℕ) (s t : Scan) → i < length text → Leads start (take i text) s → next s (get_or text i 0) ≡ Ok t →
    Leads start (take (i + 1) text) t
Leads-more text i s t h passed e = rw (take_more text i 0 h) (Leads-last (get_or text i 0) passed e)

pub fault_at :
    (text : List ℕ) (i : ℕ) (at : Scan) (kind : JsonFaultKind) → i < length text → Leads start (take i text) at →
    next at (get_or text i 0) ≡ Err kind → IsFaultOf text (record { offset = i; kind = kind })
fault_at text i at kind h passed wrong = record {
  within = omega arith;
  at = at;
  passed = passed;
  wrong = rw (drop-cons text i 0) wrong;
}

pub fault_at_end :
    (text : List ℕ) (at : Scan) (kind : JsonFaultKind) → Leads start text at → end_fault at ≡ Some kind →
    IsFaultOf text (record { offset = length text; kind = kind })
fault_at_end text at kind passed wrong = record {
  within = omega arith;
  at = at;
  passed = rw take-length passed;
  wrong = rw drop-length wrong;
}

pub Ok-same : {s t : Scan} {r : Result Scan JsonFaultKind} → r ≡ Ok s → r ≡ Ok t → s ≡ t
Ok-same e f = cc

pub Leads-tail : {s t u : Scan} {xs : List ℕ} → s ≡ t → Leads s xs u → Leads t xs u
Leads-tail {u = u} {xs = xs} e h = subst (λ q. Leads q xs u) e h

-- they lead to one state
pub Leads-same : {s t u : Scan} {xs : List ℕ} → Leads s xs t → Leads s xs u → t ≡ u
Leads-same no_bytes no_bytes = refl
Leads-same (byte x e rest) (byte y f more) = Leads-same (Leads-tail (Ok-same e f) rest) more
