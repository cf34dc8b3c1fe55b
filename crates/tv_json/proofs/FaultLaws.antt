-- A text goes wrong at one place at most.
use Rattle.std.proofs.Common.{◌≡◌, ℕ, zero, suc, ◌+◌, ◌<◌, ◌≤◌, List, [], ◌∷◌, ◌++◌, length, take, drop, get_or, drop-cons, length-append, refl, sym, ap, ap₂, ◌∙◌, arith, Option, Some, None, Result, Ok, Err}
use Rattle.std.proofs.lemmas.List.{length-take-le, take-append-le, take-take, get_or_append_left, get_or-take}
use Rattle.serde_json.specs.Data.{Data}
use Rattle.serde_json.specs.Read.{read}
use Rattle.tv_json.specs.Faults.{start, next, end_fault, Leads, no_bytes, byte, GoesWrong, IsFaultOf, IsSyntax}
use Rattle.tv_json.specs.declared.json_fault.JsonFault.{JsonFault}
use Rattle.tv_json.specs.declared.json_fault.JsonFaultKind.{JsonFaultKind}
use Rattle.tv_json.specs.declared.json_scan.Scan.{Scan}
use Rattle.tv_json.proofs.Faults.{Ok-same, Leads-tail, fault_at}
use Rattle.tv_json.proofs.AcceptedValues.{read_is_syntax}

no_both : {t : Scan} {k : JsonFaultKind} {r : Result Scan JsonFaultKind} → r ≡ Ok t → r ≡ Err k → ⊥
no_both e f = cc

Err-same : {k l : JsonFaultKind} {r : Result Scan JsonFaultKind} → r ≡ Err k → r ≡ Err l → k ≡ l
Err-same e f = cc

Some-same : {k l : JsonFaultKind} {r : Option JsonFaultKind} → r ≡ Some k → r ≡ Some l → k ≡ l
Some-same e f = cc

-- the same place and the same reason, from one state on
one_place :
    {s a b : Scan} (xs : List ℕ) (i j : ℕ) (k l : JsonFaultKind) → i ≤ length xs → j ≤ length xs → Leads s (take i xs) a → GoesWrong a (drop i xs) k →
    Leads s (take j xs) b → GoesWrong b (drop j xs) l → (i ≡ j) × (k ≡ l)
one_place [] zero zero k l h m no_bytes e no_bytes f = (refl, Some-same e f)
one_place [] zero (suc j) k l h m p e q f = absurd (omega arith)
one_place [] (suc i) j k l h m p e q f = absurd (omega arith)
one_place (x ∷ xs) zero zero k l h m no_bytes e no_bytes f = (refl, Err-same e f)
one_place (x ∷ xs) zero (suc j) k l h m no_bytes e (byte y g rest) f = absurd (no_both g e)
one_place (x ∷ xs) (suc i) zero k l h m (byte y g rest) e no_bytes f = absurd (no_both g f)
one_place (x ∷ xs) (suc i) (suc j) k l h m (byte y g rest) e (byte z o more) f =
    let both = one_place xs i j k l (omega arith) (omega arith) (Leads-tail (Ok-same g o) rest) e more f in (ap suc both.0, both.1)

pub one_fault : (text : List ℕ) (fault other : JsonFault) → IsFaultOf text fault → IsFaultOf text other → fault ≡ other
one_fault text fault other h m =
    let both = one_place text fault.offset other.offset fault.kind other.kind h.within m.within h.passed h.wrong m.passed m.wrong in
    ap₂ (λ offset kind. let f : JsonFault = record { offset = offset; kind = kind } in f) both.0 both.1

complete_everywhere :
    {s a t : Scan} (xs : List ℕ) (i : ℕ) (k : JsonFaultKind) → i ≤ length xs → Leads s (take i xs) a → GoesWrong a (drop i xs) k → Leads s xs t → end_fault t ≡ None → ⊥
complete_everywhere [] zero k h no_bytes e no_bytes f = let no : ◌≡◌ {A = Option JsonFaultKind} None (Some k) = sym f ∙ e in cc
complete_everywhere [] (suc i) k h p e q f = absurd (omega arith)
complete_everywhere (x ∷ xs) zero k h no_bytes e (byte y g rest) f = no_both g e
complete_everywhere (x ∷ xs) (suc i) k h (byte y g rest) e (byte z o more) f = complete_everywhere xs i k (omega arith) (Leads-tail (Ok-same g o) rest) e more f

pub no_fault : (text : List ℕ) (fault : JsonFault) → IsFaultOf text fault → ¬ (IsSyntax text)
no_fault text fault h m = complete_everywhere text fault.offset fault.kind h.within h.passed h.wrong m.passed m.complete

-- what comes after the byte at which a text goes wrong doesn't matter
pub fault_stays :
    (text more : List ℕ) (fault : JsonFault) → IsFaultOf text fault → fault.offset < length text → IsFaultOf (take (fault.offset + 1) text ++ more) fault
fault_stays text more fault h within =
    let i = fault.offset in
    let front = take (i + 1) text in
    let len : length front ≡ i + 1 = length-take-le (i + 1) text (omega arith) in
    let before : take i (front ++ more) ≡ take i text = take-append-le i front more (omega arith) ∙ take-take i (i + 1) text (omega arith) in
    let byte_there : get_or (front ++ more) i 0 ≡ get_or text i 0 = get_or_append_left front more 0 i (omega arith) ∙ get_or-take (i + 1) text i 0 (omega arith) in
    let wrong : next h.at (get_or text i 0) ≡ Err fault.kind = rw (drop-cons text i 0) at h.wrong in
    fault_at (front ++ more) i h.at fault.kind (simp length-append (omega arith)) (rw before h.passed) (ap (next h.at) byte_there ∙ wrong)

pub none_goes_on :
    (text more : List ℕ) (fault : JsonFault) (d : Data) → IsFaultOf text fault → fault.offset < length text → ¬ (read (take (fault.offset + 1) text ++ more) ≡ Some d)
none_goes_on text more fault d h within e =
    no_fault (take (fault.offset + 1) text ++ more) fault (fault_stays text more fault h within) (read_is_syntax (take (fault.offset + 1) text ++ more) d e)

-- a text with a byte that can't come isn't JSON by its syntax
pub no_syntax :
    (text : List ℕ) (i : ℕ) (at : Scan) (kind : JsonFaultKind) → i < length text → Leads start (take i text) at → next at (get_or text i 0) ≡ Err kind → ¬ (IsSyntax text)
no_syntax text i at kind within passed wrong syntax = no_fault text (record { offset = i; kind = kind }) (fault_at text i at kind within passed wrong) syntax
