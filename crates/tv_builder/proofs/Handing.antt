-- The loop that hands a finished value from list to list.
use Rattle.std.proofs.Common.{◌≡◌, ℕ, suc, ◌+◌, ◌≤◌, false, nat_lt, List, [], ◌∷◌, ◌++◌, length, reverse, take, drop, Option, None, Result, Ok, Err, IfErr, IsErrAnd, sym, ◌∙◌, ap, subst, arith}
use Rattle.std.proofs.lemmas.List.{reverse-append}
use Rattle.tv_base.specs.Parts.{short_sized}
use Rattle.tv_base.specs.Sink.{IsPrefix}
use Rattle.tv_builder.specs.declared.errors.AddError.{AddError}
use Rattle.tv_builder.specs.declared.errors.AddError.TheVariants as adds
use Rattle.tv_builder.specs.declared.errors.BuildError.{BuildError}
use Rattle.tv_builder.specs.declared.building.Building.{Building}
use Rattle.tv_builder.specs.declared.building.OpenBytes.{OpenBytes}
use Rattle.tv_builder.specs.declared.building.Frame.{Frame}
use Rattle.tv_heap.specs.declared.value_type.Place.{Place}
use Rattle.tv_builder.specs.Given.{Given, given, place_bytes, lacks, still_lacks, one_more, AreCut, pending_in}
use Rattle.tv_builder.specs.Kinds.{list_type, total}
use Rattle.tv_builder.specs.Moves.{given_to, GivesNot, WhyNot}
use Rattle.tv_builder.specs.Whole.{WhyUnwritten, ListPutNot, as_refused}
use Rattle.tv_builder.proofs.Giving.{prefix_then, prefix_length, given_prefix, given_closes}
use Rattle.tv_builder.proofs.Sound.{pending_small}

-- some lists are closed, and the last of them comes to the next
pub record GivesSoFar (old : Building) (p : Place) (heap places : List ℕ) (frames : List Frame) (pending : ℕ) (whole : Option Place) (bytes : Option OpenBytes) (q : Place) : Type 0 where
  pub same : given_to old p ≡ given heap places (reverse frames) q
  pub fits : length heap ≤ 4294967295
  pub counted : pending ≡ pending_in (reverse frames)
  pub cut : AreCut (reverse frames) places
  pub none : whole ≡ None
  pub grows : IsPrefix old.heap.items heap
  pub same_bytes : bytes ≡ old.open

reverse_last : (rest : List Frame) (f : Frame) → reverse (rest ++ f ∷ []) ≡ f ∷ reverse rest
reverse_last rest f = reverse-append rest (f ∷ [])

-- ---- the innermost list

pub record Innermost (heap places : List ℕ) (rest : List Frame) (f : Frame) (pending : ℕ) (q : Place) (g : Given) : Type 0 where
  pub same : g ≡ given heap places (f ∷ reverse rest) q
  pub counted : pending ≡ f.finished + pending_in (reverse rest)
  pub first : f.first ≤ length places
  pub small : f.finished ≤ length (drop f.first places)
  pub cut : AreCut (reverse rest) (take f.first places)
  pub within : pending ≤ length places

pub innermost : (old : Building) (p : Place) (heap places : List ℕ) (frames rest : List Frame) (f : Frame) (pending : ℕ) (whole : Option Place) (bytes : Option OpenBytes) (q : Place)
    → GivesSoFar old p heap places frames pending whole bytes q → frames ≡ rest ++ f ∷ [] → Innermost heap places rest f pending q (given_to old p)
innermost old p heap places frames rest f pending whole bytes q s is =
    let e : reverse frames ≡ f ∷ reverse rest = ap reverse is ∙ reverse_last rest f in
    let cut = subst (λ z. AreCut z places) e s.cut in
    record {
      same = s.same ∙ ap (λ z. given heap places z q) e;
      counted = s.counted ∙ ap pending_in e;
      first = cut.0;
      small = cut.1;
      cut = cut.3;
      within = omega (arith, s.counted, pending_small (reverse frames) places s.cut);
    }

test_same : (f : Frame) → lacks (one_more f) ≡ still_lacks f
test_same f = let e : f.finished + 1 ≡ suc f.finished = omega arith in ap (λ n. nat_lt n (total f.kind f.announced)) e

-- or a list can't be written
pub gives_not : (old new : Building) (p : Place) (heap places own : List ℕ) (frames rest : List Frame) (f : Frame) (pending : ℕ) (whole : Option Place) (bytes : Option OpenBytes) (q : Place) (e : AddError)
    → GivesSoFar old p heap places frames pending whole bytes q → frames ≡ rest ++ f ∷ [] → lacks (one_more f) ≡ false → own ≡ places ++ place_bytes q → ListPutNot 4294967295 heap (drop f.first own) new.heap.items e
    → GivesNot old p new (as_refused e)
gives_not old new p heap places own frames rest f pending whole bytes q e s is test own_is w = record { prefix = prefix_then old.heap.items heap new.heap.items s.grows w.prefix; why = why e w.why }
  where
    more : length (heap ++ short_sized (drop f.first own)) ≤ length (given_to old p).heap
    more =
        let i = innermost old p heap places frames rest f pending whole bytes q s is in
        let closed = heap ++ short_sized (drop f.first (places ++ place_bytes q)) in
        let g = i.same ∙ given_closes heap places f (reverse rest) q (sym (test_same f) ∙ test) in
        let grown = prefix_length closed _ (given_prefix (reverse rest) closed (take f.first places) (record { value_type = list_type f.kind; address = length heap })) in
        omega (arith, grown, ap (λ (z : Given). length z.heap) g, ap (λ z. length (heap ++ short_sized (drop f.first z))) own_is)

    why : (x : AddError) → WhyUnwritten 4294967295 (heap ++ short_sized (drop f.first own)) x → WhyNot (given_to old p).heap (as_refused x)
    why adds.HeapFull h = omega (arith, h, more)
    why adds.Memory h = tt

-- the refusal that a `?` makes of it
pub refused : (old new : Building) (p : Place) (r : Result (Unit {0}) BuildError) (e : AddError) → IsErrAnd r (λ x. x ≡ as_refused e) → GivesNot old p new (as_refused e) → IfErr r (λ x. GivesNot old p new x)
refused old new p (Ok x) e is not = tt
refused old new p (Err x) e is not = subst (GivesNot old p new) (sym is) not
