-- The values of an object make one document, or have one first refusal.
use Rattle.std.proofs.Common.{String, ◌≡◌, ◌≢◌, ◌+◌, ℕ, List, [], ◌∷◌, ◌++◌, length, Result, Ok, Err, Some, refl, sym, subst, ◌∙◌, ap, arith, string_bytes}
use Rattle.std.specs.Fmt.{take_chars}
use Rattle.std.specs.declared.alloc.Global.{Global}
use Rattle.serde_json.specs.Data as json
use Rattle.serde_json.specs.Data.{Members}
use Rattle.serde_json.specs.Read.{read}
use Rattle.tv_builder.specs.TreeBytes.{tree_heap}
use Rattle.tv_builder.specs.declared.errors.AddError.{AddError}
use Rattle.tv_builder.specs.declared.errors.AddError.TheVariants as add_error
use Rattle.tv_heap.specs.Room.{room}
use Rattle.tv_field.specs.Entry.{Entry}
use Rattle.tv_field.specs.JsonTable.{Outcome, Table, TableRefusal}
use Rattle.tv_field.proofs.OneOutcome.{one_outcome}
use Rattle.tv_format.specs.Tree.{Document, Tree}
use Rattle.tv_doc.specs.AdditionError.{addition_error}
use Rattle.tv_doc.specs.Additions.{Accepts, AddsEach, IsEmpty, IsMade}
use Rattle.tv_doc.specs.Alike.{AreAlike, SaySame}
use Rattle.tv_doc.specs.Document.{RefusesAddition, document_of, heap_of}
use Rattle.tv_doc.specs.NamedPairs.{MakesPairs, RefusesPairs}
use Rattle.tv_doc.specs.JsonObject.{AddsFieldValues, FieldJson, IsNoObject, IsRefused, MakesDocument, Pairs, Parses, StopsAt, object_values}
use Rattle.tv_doc.specs.declared.document.CompactDoc.{CompactDoc}
use Rattle.tv_doc.specs.declared.errors.DocParsingError.{DocParsingError}
use Rattle.tv_doc.specs.declared.errors.DocParsingError.TheVariants as error

-- ---- what is added

one_tree : (v : FieldJson) (t u : Tree) → Table v.field_type v.value (Ok t) → Table v.field_type v.value (Ok u) → t ≡ u
one_tree v t u mine yours = let same : ◌≡◌ {A = Outcome} (Ok t) (Ok u) = one_outcome v.field_type v.value (Ok t) (Ok u) mine yours in cc (same)

no_tree : (v : FieldJson) (t : Tree) (r : TableRefusal) → Table v.field_type v.value (Ok t) → Table v.field_type v.value (Err r) → ⊥
no_tree v t r mine yours = let same : ◌≡◌ {A = Outcome} (Ok t) (Err r) = one_outcome v.field_type v.value (Ok t) (Err r) mine yours in absurd (cc (same))

one_refusal : (v : FieldJson) (q r : TableRefusal) → Table v.field_type v.value (Err q) → Table v.field_type v.value (Err r) → q ≡ r
one_refusal v q r mine yours = let same : ◌≡◌ {A = Outcome} (Err q) (Err r) = one_outcome v.field_type v.value (Err q) (Err r) mine yours in cc (same)

pairs_one : (vs : List FieldJson) (ps qs : Document) → Pairs vs ps → Pairs vs qs → ps ≡ qs
pairs_one [] ps qs none nil = none ∙ sym nil
pairs_one (v ∷ vs) ps qs (t, rest, table, joined, others) (u, more, also, met, beyond) =
    let tree : t ≡ u = one_tree v t u table also in
    joined ∙ (λ i. (v.field, tree i) ∷ pairs_one vs rest more others beyond i) ∙ sym met

-- the first value was added, and then the others
record Added (v : FieldJson) (vs : List FieldJson) (old new : CompactDoc) : Type 0 where
  tree : Tree
  table : Table v.field_type v.value (Ok tree)
  mid : CompactDoc
  accepts : Accepts old mid v.field tree
  others : AddsFieldValues vs mid new

added_first : (v : FieldJson) (vs : List FieldJson) (old new : CompactDoc) → AddsFieldValues (v ∷ vs) old new → Added v vs old new
added_first v vs old new h =
    let b = h.by_table in
    let each : AddsEach ((v.field, b.0) ∷ b.1) old new = subst (λ (ps : Document). AddsEach ps old new) b.3 h.adds in
    record { tree = b.0; table = b.2; mid = each.0; accepts = each.1; others = record { pairs = b.1; by_table = b.4; adds = each.2 } }

-- ---- where it stops

-- the heaps are the same
abbrev Same : CompactDoc → CompactDoc → Type 0
Same a b = heap_of a ≡ heap_of b

same_added : (field : ℕ) (t u : Tree) (a b x y : CompactDoc) → t ≡ u → Same a b → Accepts a x field t → Accepts b y field u → Same x y
same_added field t u a b x y tree same h k = h.1.bytes ∙ (λ i. tree_heap (same i) (tree i)) ∙ sym k.1.bytes

-- the first value is refused, or it is added and then one of the others is
data Stopped (v : FieldJson) (vs : List FieldJson) (old : CompactDoc) (e : DocParsingError) : Type 0 where
  at_first : (mid : CompactDoc) → Same old mid → IsRefused v mid e → Stopped v vs old e
  later : (tree : Tree) → Table v.field_type v.value (Ok tree) → (mid : CompactDoc) → Accepts old mid v.field tree → StopsAt vs mid e → Stopped v vs old e

nothing_added : (old new : CompactDoc) → AddsFieldValues [] old new → Same old new
nothing_added old new h =
    let none : AddsEach [] old new = subst (λ (ps : Document). AddsEach ps old new) h.by_table h.adds in
    sym none.heap

stopped : (v : FieldJson) (vs : List FieldJson) (old : CompactDoc) (e : DocParsingError) (before : List FieldJson) (at : FieldJson) (behind : List FieldJson) (mid : CompactDoc)
    → v ∷ vs ≡ before ++ at ∷ behind → AddsFieldValues before old mid → IsRefused at mid e → Stopped v vs old e
stopped v vs old e [] at behind mid joined added refused =
    let first : v ≡ at = cc (joined) in
    at_first mid (nothing_added old mid added) (subst (λ (w : FieldJson). IsRefused w mid e) (sym first) refused)
stopped v vs old e (b ∷ bs) at behind mid joined added refused =
    let first : b ≡ v = cc (joined) in
    let others : vs ≡ bs ++ at ∷ behind = cc (joined) in
    let h = added_first v bs old mid (subst (λ (w : FieldJson). AddsFieldValues (w ∷ bs) old mid) first added) in
    later h.tree h.table h.mid h.accepts (record { before = bs; at = at; behind = behind; joined = others; mid = mid; added = h.others; refused = refused })

stops_first : (v : FieldJson) (vs : List FieldJson) (old : CompactDoc) (e : DocParsingError) → StopsAt (v ∷ vs) old e → Stopped v vs old e
stops_first v vs old e s = stopped v vs old e s.before s.at s.behind s.mid s.joined s.added s.refused

no_value : (old : CompactDoc) (e : DocParsingError) (before : List FieldJson) (at : FieldJson) (behind : List FieldJson) → ◌≡◌ {A = List FieldJson} [] (before ++ at ∷ behind) → ⊥
no_value old e [] at behind joined = absurd (cc (joined))
no_value old e (b ∷ bs) at behind joined = absurd (cc (joined))

-- ---- two outcomes

-- what is added isn't refused
not_refused : (v : FieldJson) (t : Tree) (a b mid : CompactDoc) (e : DocParsingError) → Same a b → Table v.field_type v.value (Ok t) → Accepts a mid v.field t → IsRefused v b e → e ≡ error.Memory
not_refused v t a b mid (error.ValueError name e) same table accepts (r, named, is, for) = absurd (no_tree v t r table for)
not_refused v t a b mid (error.Add add_error.HeapFull) same table accepts (u, also, full) =
    let tree : t ≡ u = one_tree v t u table also in
    absurd (omega (arith, accepts.0, full, ap length same, ap room tree))
not_refused v t a b mid (error.Add add_error.Memory) same table accepts refused = absurd refused
not_refused v t a b mid (error.InvalidJson text) same table accepts refused = absurd refused
not_refused v t a b mid error.Memory same table accepts refused = refl

refused_alike : (v : FieldJson) (a b : CompactDoc) (e f : DocParsingError) → IsRefused v a e → IsRefused v b f → e ≢ error.Memory → f ≢ error.Memory → SaySame e f
refused_alike v a b (error.ValueError name e) (error.ValueError other f) (q, named, is, for) (r, called, also, because) some more =
    (named ∙ sym called, is ∙ ap Some (one_refusal v q r for because) ∙ sym also)
refused_alike v a b (error.ValueError name e) (error.Add add_error.HeapFull) (q, named, is, for) (u, table, full) some more = absurd (no_tree v u q table for)
refused_alike v a b (error.ValueError name e) (error.Add add_error.Memory) mine yours some more = absurd yours
refused_alike v a b (error.ValueError name e) (error.InvalidJson text) mine yours some more = absurd yours
refused_alike v a b (error.ValueError name e) error.Memory mine yours some more = absurd (more refl)
refused_alike v a b (error.Add add_error.HeapFull) (error.ValueError other f) (u, table, full) (r, called, also, because) some more = absurd (no_tree v u r table because)
refused_alike v a b (error.Add add_error.HeapFull) (error.Add add_error.HeapFull) mine yours some more = refl
refused_alike v a b (error.Add add_error.HeapFull) (error.Add add_error.Memory) mine yours some more = absurd yours
refused_alike v a b (error.Add add_error.HeapFull) (error.InvalidJson text) mine yours some more = absurd yours
refused_alike v a b (error.Add add_error.HeapFull) error.Memory mine yours some more = absurd (more refl)
refused_alike v a b (error.Add add_error.Memory) f mine yours some more = absurd mine
refused_alike v a b (error.InvalidJson text) f mine yours some more = absurd mine
refused_alike v a b error.Memory f mine yours some more = absurd (some refl)

-- the same of the values after the first
abbrev AddedOrStopped : List FieldJson → Type 0
AddedOrStopped vs = (a b new : CompactDoc) (e : DocParsingError) → Same a b → AddsFieldValues vs a new → StopsAt vs b e → e ≡ error.Memory

first_added_or_stopped : (v : FieldJson) (vs : List FieldJson) → AddedOrStopped vs → (a b new : CompactDoc) (e : DocParsingError) → Same a b → Added v vs a new → Stopped v vs b e → e ≡ error.Memory
first_added_or_stopped v vs others a b new e same k (at_first mid still refused) = not_refused v k.tree a mid k.mid e (same ∙ still) k.table k.accepts refused
first_added_or_stopped v vs others a b new e same k (later tree table mid accepts stops) =
    others k.mid mid new e (same_added v.field k.tree tree a b k.mid mid (one_tree v k.tree tree k.table table) same k.accepts accepts) k.others stops

added_or_stopped : (vs : List FieldJson) → AddedOrStopped vs
added_or_stopped [] = λ a b new e same h s. absurd (no_value b e s.before s.at s.behind s.joined)
added_or_stopped (v ∷ vs) = λ a b new e same h s. first_added_or_stopped v vs (added_or_stopped vs) a b new e same (added_first v vs a new h) (stops_first v vs b e s)

abbrev BothStopped : List FieldJson → Type 0
BothStopped vs = (a b : CompactDoc) (e f : DocParsingError) → Same a b → StopsAt vs a e → StopsAt vs b f → e ≢ error.Memory → f ≢ error.Memory → SaySame e f

first_stopped : (v : FieldJson) (vs : List FieldJson) → BothStopped vs → (a b : CompactDoc) (e f : DocParsingError) → Same a b → Stopped v vs a e → Stopped v vs b f → e ≢ error.Memory → f ≢ error.Memory → SaySame e f
first_stopped v vs rest a b e f same (at_first mid still refused) (at_first other also too) some more = refused_alike v mid other e f refused too some more
first_stopped v vs rest a b e f same (at_first mid still refused) (later tree table other accepts others) some more =
    absurd (some (not_refused v tree b mid other e (sym same ∙ still) table accepts refused))
first_stopped v vs rest a b e f same (later tree table mid accepts others) (at_first other also too) some more =
    absurd (more (not_refused v tree a other mid f (same ∙ also) table accepts too))
first_stopped v vs rest a b e f same (later tree table mid accepts others) (later twin also other accepted stops) some more =
    rest mid other e f (same_added v.field tree twin a b mid other (one_tree v tree twin table also) same accepts accepted) others stops some more

both_stopped : (vs : List FieldJson) → BothStopped vs
both_stopped [] = λ a b e f same s t some more. absurd (no_value a e s.before s.at s.behind s.joined)
both_stopped (v ∷ vs) = λ a b e f same s t some more. first_stopped v vs (both_stopped vs) a b e f same (stops_first v vs a e s) (stops_first v vs b f t) some more

-- ---- documents

both_empty : (a b : CompactDoc) → IsEmpty a → IsEmpty b → Same a b
both_empty a b none nil = none.heap ∙ sym nil.heap

pub made_alike : (vs : List FieldJson) (one other : Result CompactDoc DocParsingError) → MakesDocument vs one → MakesDocument vs other → AreAlike one other
made_alike vs (Ok made) (Ok other) mine yours = pairs_one vs (document_of made) (document_of other) mine.0 yours.0
made_alike vs (Ok made) (Err e) mine (begun, nil, stops) =
    added_or_stopped vs mine.1.0 begun made e (both_empty mine.1.0 begun mine.1.1 nil) (record { pairs = document_of made; by_table = mine.0; adds = mine.1.2 }) stops
made_alike vs (Err e) (Ok made) (begun, nil, stops) yours =
    added_or_stopped vs yours.1.0 begun made e (both_empty yours.1.0 begun yours.1.1 nil) (record { pairs = document_of made; by_table = yours.0; adds = yours.1.2 }) stops
made_alike vs (Err e) (Err f) (begun, none, stops) (start, nil, also) = both_stopped vs begun start e f (both_empty begun start none nil) stops also

-- ---- texts

memory_alike : (one other : Result CompactDoc DocParsingError) → other ≡ Err error.Memory → AreAlike one other
memory_alike one (Ok made) is = absurd (cc (is))
memory_alike (Ok made) (Err e) is = let same : e ≡ error.Memory = cc (is) in same
memory_alike (Err e) (Err f) is = λ some more. let same : f ≡ error.Memory = cc (is) in absurd (more same)

turned : (one other : Result CompactDoc DocParsingError) → AreAlike one other → AreAlike other one
turned (Ok a) (Ok b) same = sym same
turned (Ok a) (Err e) memory = memory
turned (Err e) (Ok b) memory = memory
turned (Err e) (Err f) same = λ some more. say_turned e f (same more some)
  where
    say_turned : (e f : DocParsingError) → SaySame e f → SaySame f e
    say_turned (error.InvalidJson a) (error.InvalidJson b) said = sym said
    say_turned (error.ValueError n a) (error.ValueError m b) said = (sym said.0, sym said.1)
    say_turned (error.Add a) (error.Add b) said = sym said
    say_turned error.Memory f said = absurd said
    say_turned (error.InvalidJson a) (error.ValueError m b) said = absurd said
    say_turned (error.InvalidJson a) (error.Add b) said = absurd said
    say_turned (error.InvalidJson a) error.Memory said = absurd said
    say_turned (error.ValueError n a) (error.InvalidJson b) said = absurd said
    say_turned (error.ValueError n a) (error.Add b) said = absurd said
    say_turned (error.ValueError n a) error.Memory said = absurd said
    say_turned (error.Add a) (error.InvalidJson b) said = absurd said
    say_turned (error.Add a) (error.ValueError m b) said = absurd said
    say_turned (error.Add a) error.Memory said = absurd said

-- a text is an object or none, or memory was refused
data Read (schema : List Entry) (text : List ℕ) (r : Result CompactDoc DocParsingError) : Type 0 where
  an_object : (ms : Members) → read text ≡ Some (json.object ms) → MakesDocument (object_values schema ms) r → Read schema text r
  no_object : (start : String Global) → r ≡ Err (error.InvalidJson start) → IsNoObject text → string_bytes start ≡ take_chars 20 text → Read schema text r
  no_memory : r ≡ Err error.Memory → Read schema text r

as_read : (schema : List Entry) (text : List ℕ) (r : Result CompactDoc DocParsingError) → Parses schema text r → Read schema text r
as_read schema text (Ok made) h = an_object h.0 h.1 h.2
as_read schema text (Err (error.InvalidJson start)) h = no_object start refl h.0 h.1
as_read schema text (Err (error.ValueError name e)) h = an_object h.0 h.1 h.2
as_read schema text (Err (error.Add e)) h = an_object h.0 h.1 h.2
as_read schema text (Err error.Memory) h = no_memory refl

read_alike : (schema : List Entry) (text : List ℕ) (one other : Result CompactDoc DocParsingError) → Read schema text one → Read schema text other → AreAlike one other
read_alike schema text one other mine (no_memory is) = memory_alike one other is
read_alike schema text one other (no_memory is) yours = turned other one (memory_alike other one is)
read_alike schema text one other (an_object ms is made) (an_object ns also too) =
    let same : ms ≡ ns = cc (is, also) in
    made_alike (object_values schema ns) one other (subst (λ (m : Members). MakesDocument (object_values schema m) one) same made) too
read_alike schema text one other (an_object ms is made) (no_object start failed none said) = absurd (none ms is)
read_alike schema text one other (no_object start failed none said) (an_object ms is made) = absurd (none ms is)
read_alike schema text one other (no_object start failed none said) (no_object begin stopped nothing told) =
    subst (λ (r : Result CompactDoc DocParsingError). AreAlike r other) (sym failed)
    (subst (λ (r : Result CompactDoc DocParsingError). AreAlike (Err (error.InvalidJson start)) r) (sym stopped) (λ some more. said ∙ sym told))

pub texts_alike : (schema : List Entry) (text : List ℕ) (one other : Result CompactDoc DocParsingError) → Parses schema text one → Parses schema text other → AreAlike one other
texts_alike schema text one other mine yours = read_alike schema text one other (as_read schema text one mine) (as_read schema text other yours)

-- ---- values by name

no_pair : (before : Document) (at : ℕ × Tree) (behind : Document) → ◌≡◌ {A = Document} [] (before ++ at ∷ behind) → ⊥
no_pair [] at behind joined = absurd (cc (joined))
no_pair (b ∷ bs) at behind joined = absurd (cc (joined))

-- pairs that are all added have room
all_have_room : (before : Document) (at : ℕ × Tree) (behind : Document) (a b new mid : CompactDoc) → Same a b → AddsEach (before ++ at ∷ behind) a new → AddsEach before b mid
    → RefusesAddition mid at.1 add_error.HeapFull → ⊥
all_have_room [] at behind a b new mid same each none full = absurd (omega (arith, each.1.0, full, ap length (same ∙ sym none.heap)))
all_have_room (p ∷ ps) at behind a b new mid same each added full =
    all_have_room ps at behind each.0 added.0 new mid (same_added p.0 p.1 p.1 a b each.0 added.0 refl same each.1 added.1) each.2 added.2 full

added_or_refused : (ps : Document) (made : CompactDoc) (e : AddError) → document_of made ≡ ps → IsMade made → RefusesPairs ps e → e ≡ add_error.Memory
added_or_refused ps made add_error.Memory is h refused = refl
added_or_refused ps made add_error.HeapFull is h (start, none, s) =
    let each : AddsEach (s.before ++ s.at ∷ s.behind) h.0 made = subst (λ (qs : Document). AddsEach qs h.0 made) (is ∙ s.joined) h.2 in
    absurd (all_have_room s.before s.at s.behind h.0 start made s.mid (both_empty h.0 start h.1 none) each s.added s.refused)

memory_of : (e : AddError) → e ≡ add_error.Memory → addition_error e ≡ error.Memory
memory_of e is = ap addition_error is

full_of : (e : AddError) → addition_error e ≢ error.Memory → e ≡ add_error.HeapFull
full_of add_error.HeapFull some = refl
full_of add_error.Memory some = absurd (some refl)

pub pairs_alike : (ps : Document) (one other : Result CompactDoc DocParsingError) → MakesPairs ps one → MakesPairs ps other → AreAlike one other
pairs_alike ps (Ok a) (Ok b) mine yours = mine.0 ∙ sym yours.0
pairs_alike ps (Ok a) (Err e) mine yours = yours.1 ∙ memory_of yours.0 (added_or_refused ps a yours.0 mine.0 mine.1 yours.2)
pairs_alike ps (Err e) (Ok b) mine yours = mine.1 ∙ memory_of mine.0 (added_or_refused ps b mine.0 yours.0 yours.1 mine.2)
pairs_alike ps (Err e) (Err f) mine yours = λ some more.
    let first = full_of mine.0 (λ is. some (mine.1 ∙ is)) in
    let second = full_of yours.0 (λ is. more (yours.1 ∙ is)) in
    subst (λ (x : DocParsingError). SaySame x f) (sym (mine.1 ∙ ap addition_error first))
    (subst (λ (x : DocParsingError). SaySame (addition_error add_error.HeapFull) x) (sym (yours.1 ∙ ap addition_error second)) refl)
