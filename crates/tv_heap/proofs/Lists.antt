-- The places of children in their list's bytes.
use Rattle.std.proofs.Common.{◌≢◌, ℕ, ◌^◌, ◌<◌, List, [], ◌∷◌, ◌++◌, refl, sym, ◌∙◌, ap, append_assoc}
use Rattle.std.proofs.lemmas.List.{append-nil}
use Rattle.tv_base.specs.Number.{vnum}
use Rattle.tv_format.specs.Tree.{Tree, elements}
use Rattle.tv_heap.specs.Reads.{ReadsTree, ReadsElements}

-- one child more
pub elements_push : (heap : List ℕ) (parent : ℕ) (list : List ℕ) (done : List Tree) (code at : ℕ) (t : Tree) → ReadsElements heap parent list (elements done) → ReadsTree heap code at t → at < 2 ^ 32
    → (code ≢ 0 → code ≢ 9 → at < parent) → ReadsElements heap parent (list ++ (code ∷ vnum at)) (elements (done ++ t ∷ []))
elements_push heap parent list [] code at t p r fits below = record {
  code = code;
  at = at;
  rest = [];
  joined = ap (λ z. z ++ (code ∷ vnum at)) p ∙ ap (λ z. code ∷ z) (sym (append-nil (vnum at)));
  fits = fits;
  below = below;
  reads = r;
  others = refl;
}
elements_push heap parent list (u ∷ done) code at t p r fits below = record {
  code = p.code;
  at = p.at;
  rest = p.rest ++ (code ∷ vnum at);
  joined = ap (λ z. z ++ (code ∷ vnum at)) p.joined ∙ ap (λ z. p.code ∷ z) (append_assoc (vnum p.at) p.rest (code ∷ vnum at));
  fits = p.fits;
  below = p.below;
  reads = p.reads;
  others = elements_push heap parent p.rest done code at t p.others r fits below;
}
