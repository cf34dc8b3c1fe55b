-- Pairs that are added one after the other.
use Rattle.std.proofs.Common.{◌≡◌, ℕ, [], ◌∷◌, ◌++◌, Ok, subst, refl, sym, ap, ◌∙◌, append_assoc, append-nil}
use Rattle.tv_format.specs.Tree.{Tree, Document}
use Rattle.tv_doc.specs.Additions.{AddsEach, IsEmpty}
use Rattle.tv_doc.specs.Document.{RefusesAddition}
use Rattle.tv_doc.specs.NamedPairs.{StopsAtPair, MakesPairs}
use Rattle.tv_builder.specs.declared.errors.AddError.{AddError}
use Rattle.tv_doc.specs.declared.document.CompactDoc.{CompactDoc}
use Rattle.tv_doc.proofs.Additions.{unchanged_same, each_append, from_empty, made_of}

-- a pair alone that is refused
pub stops_at_pair : (d : CompactDoc) (field : ℕ) (t : Tree) (e : AddError) → RefusesAddition d t e → StopsAtPair ((field, t) ∷ []) d e
stops_at_pair d field t e h = record { before = []; at = (field, t); behind = []; joined = refl; mid = d; added = unchanged_same d; refused = h }

-- some pairs are added, and then come the rest
pub record PairsSoFar (all rest : Document) (old now : CompactDoc) : Type 0 where
  pub done : Document
  pub joined : all ≡ done ++ rest
  pub adds : AddsEach done old now

pub no_pair_so_far : (all : Document) (old : CompactDoc) → PairsSoFar all all old old
no_pair_so_far all old = record { done = []; joined = refl; adds = unchanged_same old }

pub more_pairs : (all rest ps others : Document) (old now next : CompactDoc) → PairsSoFar all rest old now → rest ≡ ps ++ others → AddsEach ps now next → PairsSoFar all others old next
more_pairs all rest ps others old now next s parted h = record {
  done = s.done ++ ps;
  joined = s.joined ∙ ap (λ z. s.done ++ z) parted ∙ sym (append_assoc s.done ps others);
  adds = each_append s.done ps old now next s.adds h;
}

pub all_pairs : (all rest : Document) (old now : CompactDoc) → PairsSoFar all rest old now → rest ≡ [] → AddsEach all old now
all_pairs all rest old now s none =
    let whole : s.done ≡ all = sym (s.joined ∙ ap (λ z. s.done ++ z) none ∙ append-nil s.done) in
    subst (λ ps. AddsEach ps old now) whole s.adds

pub stops_behind : (all rest ps others : Document) (old now : CompactDoc) (e : AddError) → PairsSoFar all rest old now → rest ≡ ps ++ others → StopsAtPair ps now e → StopsAtPair all old e
stops_behind all rest ps others old now e s parted h = record {
  before = s.done ++ h.before;
  at = h.at;
  behind = h.behind ++ others;
  joined = s.joined ∙ ap (λ z. s.done ++ z) (parted ∙ ap (λ z. z ++ others) h.joined ∙ append_assoc h.before (h.at ∷ h.behind) others) ∙ sym (append_assoc s.done h.before (h.at ∷ (h.behind ++ others)));
  mid = h.mid;
  added = each_append s.done h.before old now h.mid s.adds h.added;
  refused = h.refused;
}

pub made_of_pairs : (all rest : Document) (start made : CompactDoc) → IsEmpty start → PairsSoFar all rest start made → rest ≡ [] → MakesPairs all (Ok made)
made_of_pairs all rest start made none s end =
    let adds = all_pairs all rest start made s end in
    (from_empty all start made none adds, made_of all start made none adds)
