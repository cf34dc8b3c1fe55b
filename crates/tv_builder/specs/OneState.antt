-- A building holds one state at most.
use Rattle.std.specs.Prelude.{◌≡◌, ℕ, List, [], ◌∷◌, ◌++◌, length, take, drop, Option, Some, None, refl}
use Rattle.std.specs.Coded.{Coded, code_by, coded×, coded_list, coded_ℕ, Coded-set}
use Rattle.std.proofs.Common.{ap, sym, ◌∙◌, subst}
use Rattle.std.proofs.Math.Logic.{∥∥₁_elim, ∥∥₁_map, ∥∥₁_prop}
use Rattle.std.proofs.lemmas.List.{append_cancel_left}
use mathlib.Core.HLevel.{Σ_prop_path}
use base.Stored.{Gv, gnil, gnum, gcons}
use Rattle.tv_base.specs.Number.{vnum}
use Rattle.tv_base.proofs.Texts.{same_prefix}
use Rattle.tv_format.specs.Tree.{Tree, elements}
use Rattle.tv_format.specs.TreeCode.{coded_text, coded_tree}
use Rattle.tv_heap.specs.Held.{same_list}
use Rattle.tv_heap.specs.ReadsLaws.{one_tree, one_elements}
use Rattle.tv_heap.specs.Reads.{ReadsTree}
use Rattle.tv_heap.specs.TypeCode.{type_code}
use Rattle.tv_builder.specs.contracts.kinds.BytesKind.{the_row as bytes_row}
use Rattle.tv_builder.specs.contracts.kinds.ListKind.{the_row as list_row}
use Rattle.tv_builder.specs.declared.building.Building.{Building}
use Rattle.tv_builder.specs.declared.building.OpenBytes.{OpenBytes}
use Rattle.tv_builder.specs.declared.kinds.BytesKind.{BytesKind}
use Rattle.tv_builder.specs.declared.building.Frame.{Frame}
use Rattle.tv_builder.specs.declared.kinds.ListKind.{ListKind}
use Rattle.tv_heap.specs.declared.value_type.Place.{Place}
use Rattle.tv_builder.specs.Image.{ShowsBehind}
use Rattle.tv_builder.specs.Shows.{ShowsLists, ShowsAt, HoldsSomeState, frames_of}
use Rattle.tv_builder.specs.State.{OpenList, State, complete, in_lists, in_bytes}

-- ---- a code for states

abbrev coded_open : Coded OpenList
coded_open =
    code_by (ListKind × (ℕ × List Tree)) (coded× list_row.coded (coded× coded_ℕ (coded_list coded_tree)))
    (λ l. (l.kind, (l.announced, l.children)))
    (λ p. record { kind = p.0; announced = p.1.0; children = p.1.1 }) (λ _. refl)

abbrev coded_lists : Coded (List OpenList)
coded_lists = coded_list coded_open

abbrev Piece : Type 0
Piece = List OpenList × (BytesKind × (ℕ × List ℕ))

abbrev coded_piece : Coded Piece
coded_piece = coded× coded_lists (coded× bytes_row.coded (coded× coded_ℕ coded_text))

abbrev state_gv : State → Gv
state_gv (complete t) = gcons (gnum 0) (coded_tree.code t)
state_gv (in_lists ls) = gcons (gnum 1) (coded_lists.code ls)
state_gv (in_bytes ls k n bs) = gcons (gnum 2) (coded_piece.code (ls, (k, (n, bs))))

abbrev tail : Gv → Gv
tail gnil = gnil
tail (gnum n) = gnil
tail (gcons a b) = b

pub state_same : (s t : State) → state_gv s ≡ state_gv t → s ≡ t
state_same (complete s) (complete t) e = ap complete (coded_tree.inj s t (ap tail e))
state_same (in_lists s) (in_lists t) e = ap in_lists (coded_lists.inj s t (ap tail e))
state_same (in_bytes ls k n bs) (in_bytes ms j m cs) e =
    ap (λ (p : Piece). in_bytes p.0 p.1.0 p.1.1.0 p.1.1.1)
    (coded_piece.inj (ls, (k, (n, bs))) (ms, (j, (m, cs))) (ap tail e))
state_same _ _ e = cc

abbrev pub coded_state : Coded State
coded_state = record { code = state_gv; inj = state_same }

-- ---- one state

one_lists : (heap : List ℕ) (fs : List Frame) (places : List ℕ) (ls ms : List OpenList)
    → ShowsLists heap fs places ls → ShowsLists heap fs places ms → ls ≡ ms
one_lists heap [] places [] [] h g = refl
one_lists heap (f ∷ fs) places (l ∷ ls) (m ∷ ms) h g =
    let kind : l.kind ≡ m.kind = h.0.same_kind ∙ sym g.0.same_kind in
    let announced : l.announced ≡ m.announced = h.0.same_announced ∙ sym g.0.same_announced in
    let children : l.children ≡ m.children = same_list l.children m.children
    (one_elements heap (length heap) (length heap) (drop f.first places) (elements l.children)
    (elements m.children) h.0.reads g.0.reads) in
    let others = one_lists heap fs (take f.first places) ls ms h.1 g.1 in
    λ i. record { kind = kind i; announced = announced i; children = children i } ∷ others i
one_lists heap [] places [] (m ∷ ms) h g = absurd g
one_lists heap [] places (l ∷ ls) lists h g = absurd h
one_lists heap (f ∷ fs) places [] lists h g = absurd h
one_lists heap (f ∷ fs) places (l ∷ ls) [] h g = absurd g

both : {A : Type 0} (x : Option A) (a : A) → x ≡ Some a → x ≡ None → ⊥
both x a e f = absurd (let g : Some a ≡ None = sym e ∙ f in cc)

one_state : (heap : List ℕ) (fs : List Frame) (places : List ℕ) (whole : Option Place)
    (bytes : Option OpenBytes) (s t : State) → ShowsAt heap fs places whole bytes s
    → ShowsAt heap fs places whole bytes t → s ≡ t
one_state heap frames places whole bytes (complete s) (complete t) h g =
    let e : Some h.at ≡ Some g.at = sym h.is ∙ g.is in
    let same_at : h.at ≡ g.at = cc in
    ap complete (one_tree heap (type_code h.at.value_type) h.at.address s t h.placed.reads
    (subst (λ (p : Place). ReadsTree heap (type_code p.value_type) p.address t)
    (sym same_at) g.placed.reads))
one_state heap frames places whole bytes (in_lists ls) (in_lists ms) h g =
    ap in_lists (one_lists heap frames places ls ms h.lists g.lists)
one_state heap frames places whole bytes (in_bytes ls k n bs) (in_bytes ms j m cs) h g =
    let e : Some h.piece ≡ Some g.piece = sym h.is ∙ g.is in
    let same_piece : h.piece ≡ g.piece = cc in
    let kind : k ≡ j = sym h.same_kind ∙ ap (λ (o : OpenBytes). o.kind) same_piece ∙ g.same_kind in
    let announced : n ≡ m = sym h.same_announced ∙ ap
    (λ (o : OpenBytes). o.announced) same_piece ∙ g.same_announced in
    let at : length h.stand.before ≡ length g.stand.before =
    h.stand.place ∙ ap (λ (o : OpenBytes). o.address) same_piece ∙ sym g.stand.place in
    let joined : h.stand.before ++ (vnum n ++ bs) ≡ g.stand.before ++ (vnum m ++ cs) =
    sym h.stand.joined ∙ g.stand.joined in
    let prefix = same_prefix h.stand.before g.stand.before (vnum n ++ bs) (vnum m ++ cs) at joined in
    let behind : vnum n ++ bs ≡ vnum m ++ cs = append_cancel_left g.stand.before (vnum n ++ bs) (vnum m ++ cs)
    (ap (λ z. z ++ (vnum n ++ bs)) (sym prefix) ∙ joined) in
    let so_far : bs ≡ cs = append_cancel_left (vnum m) bs cs
    (ap (λ z. vnum z ++ bs) (sym announced) ∙ behind) in
    let lists = one_lists heap frames places ls ms h.lists g.lists in
    λ i. in_bytes (lists i) (kind i) (announced i) (so_far i)
one_state heap frames places whole bytes (complete s) (in_lists ms) h g = absurd (both whole h.at h.is g.none)
one_state heap frames places whole bytes (complete s) (in_bytes ms j m cs) h g =
    absurd (both whole h.at h.is g.none)
one_state heap frames places whole bytes (in_lists ls) (complete t) h g = absurd (both whole g.at g.is h.none)
one_state heap frames places whole bytes (in_lists ls) (in_bytes ms j m cs) h g =
    absurd (both bytes g.piece g.is h.closed)
one_state heap frames places whole bytes (in_bytes ls k n bs) (complete t) h g =
    absurd (both whole g.at g.is h.none)
one_state heap frames places whole bytes (in_bytes ls k n bs) (in_lists ms) h g =
    absurd (both bytes h.piece h.is g.closed)

pub HoldsSomeState-prop : (b : Building) → IsProp (HoldsSomeState b)
HoldsSomeState-prop building x y =
    let set = Coded-set coded_state x.0 y.0 in
    Σ_prop_path (λ s. ∥∥₁_prop) (∥∥₁_elim x.1 set
    (λ p. ∥∥₁_elim y.1 set (λ q. one_state building.heap.items
    (frames_of building) building.places.items building.complete building.open x.0 y.0 p.at q.at)))

-- the state does not depend on how it was shown
pub same_state : (b : Building) (x y : HoldsSomeState b) → x.0 ≡ y.0
same_state building x y = ap (λ p. p.0) (HoldsSomeState-prop building x y)

-- ---- a state after a heap

-- the state that a builder holds, which is all that stands after this heap
abbrev pub StandsBehind : List ℕ → Building → Type 0
StandsBehind base building = (s : State) × ∥ ShowsBehind base building s ∥₁

-- of which the state is one that it holds
abbrev pub stands_of : (base : List ℕ) (b : Building) → StandsBehind base b → HoldsSomeState b
stands_of base building h = (h.0, ∥∥₁_map h.1 (λ p. p.shows))

pub same_behind : (base other : List ℕ) (b : Building) (x : StandsBehind base b) (y : StandsBehind other b)
    → x.0 ≡ y.0
same_behind base other building x y = same_state building (stands_of base building x)
    (stands_of other building y)

pub StandsBehind-prop : (base : List ℕ) (b : Building) → IsProp (StandsBehind base b)
StandsBehind-prop base building x y = Σ_prop_path (λ s. ∥∥₁_prop) (same_behind base base building x y)
