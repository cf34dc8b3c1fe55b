-- How one item after the other is passed over.
use Rattle.std.proofs.Common.{◌≡◌, ℕ, suc, List, [], ◌∷◌, ◌++◌, Option, Some, None, Ok, Err, refl, subst, inl}
use Rattle.std.proofs.lemmas.List.{append-nil}
use Rattle.tv_base.specs.Source.{Failures}
use Rattle.tv_format.specs.Version.{Version}
use Rattle.tv_reader.specs.Finds.{FindsIf, Nothing}
use Rattle.tv_reader.specs.declared.error.DeserializeError.{DeserializeError}
use Rattle.tv_reader.proofs.Finding.{finds_then, finds_as, finds_fails}
use Rattle.tv_reading.specs.Skip.{OpensItem, ErrorInItem, AreLeft, ErrorInLeft, Passed}
use Rattle.tv_reading.specs.declared.items.ItemKind.{ItemKind}
use Rattle.tv_reading.specs.declared.items.ItemsLeft.{ItemsLeft}
use Rattle.tv_reading.proofs.Left.{so_many, item_ended, passed_then, value_passed, list_opened}
use Rattle.tv_reading.proofs.Passing.{finds_after}
use Rattle.tv_reader.specs.Error.{StoreMayStopRoomy}

-- a whole value was passed over, or what stands before the items of one
abbrev After : Version → List ItemsLeft → List ItemsLeft → List ℕ → Option ItemsLeft → Type 0
After v first rest b None = Passed v first rest b
After v first rest b (Some inner) = Passed v first (inner ∷ rest) b

after : (v : Version) (first now outer : List ItemsLeft) (kind : ItemKind) (n : ℕ) → Passed v now (so_many kind (suc n) ∷ outer) [] → (a b : List ℕ) (opened : Option ItemsLeft) → Passed v first now a → OpensItem v kind b opened → After v first (so_many kind n ∷ outer) (a ++ b) opened
after v first now outer kind n next a b None q s = passed_then v first now (so_many kind n ∷ outer) a b q (passed_then v now (so_many kind (suc n) ∷ outer) (so_many kind n ∷ outer) [] b next (value_passed v kind n outer b s))
after v first now outer kind n next a b (Some inner) q s =
    passed_then v first now (inner ∷ so_many kind n ∷ outer) a b q (passed_then v now (so_many kind (suc n) ∷ outer) (inner ∷ so_many kind n ∷ outer) [] b next (list_opened v kind n inner outer b s))

module _ {S : Type 0} {is_known : S → Type 0} {left : S → List ℕ} {failures : S → Failures} {old mid new : S} {i j k : ℕ} (v : Version) (first now outer : List ItemsLeft) (kind : ItemKind) (n : ℕ) (next : Passed v now (so_many kind (suc n) ∷ outer) []) where
  -- the item is refused
  pub step_fails : (e : DeserializeError) → FindsIf StoreMayStopRoomy is_known left failures old i mid j (Ok (tt {0})) (λ b _. Passed v first now b) Nothing → FindsIf {X = Option ItemsLeft} StoreMayStopRoomy is_known left failures mid j new k (Err e) (OpensItem v kind) (ErrorInItem v kind)
      → FindsIf {X = Unit {0}} StoreMayStopRoomy is_known left failures old i new k (Err e) (λ b _. AreLeft v first b) (ErrorInLeft v first)
  step_fails e p h =
      finds_after (λ b _. AreLeft v first b) (ErrorInLeft v first) (item_ended v kind) (λ a b y q s. absurd s) (λ a w r q f. q.refuses w r (next.refuses w r (inl f))) p (finds_fails (λ b _. ⊥) (ErrorInItem v kind) (λ w r f. f) h)

  step : (opened : Option ItemsLeft) → FindsIf StoreMayStopRoomy is_known left failures old i mid j (Ok (tt {0})) (λ b _. Passed v first now b) Nothing → FindsIf StoreMayStopRoomy is_known left failures mid j new k (Ok opened) (OpensItem v kind) (ErrorInItem v kind) → FindsIf StoreMayStopRoomy is_known left failures old i new k (Ok opened) (After v first (so_many kind n ∷ outer)) Nothing
  step opened p h = finds_then (After v first (so_many kind n ∷ outer)) Nothing (after v first now outer kind n next) (λ a w f r never. never) (λ a f r other never start byte last. never) p (finds_as opened (OpensItem v kind) Nothing (λ a s. s) h)

  pub step_passes : (opened : Option ItemsLeft) → opened ≡ None → FindsIf StoreMayStopRoomy is_known left failures old i mid j (Ok (tt {0})) (λ b _. Passed v first now b) Nothing → FindsIf StoreMayStopRoomy is_known left failures mid j new k (Ok opened) (OpensItem v kind) (ErrorInItem v kind)
      → FindsIf StoreMayStopRoomy is_known left failures old i new k (Ok (tt {0})) (λ b _. Passed v first (so_many kind n ∷ outer) b) Nothing
  step_passes opened is p h = finds_as (tt {0}) _ _ (λ a s. subst (After v first (so_many kind n ∷ outer) a) is s) (step opened p h)

  pub step_opens : (inner : ItemsLeft) (opened : Option ItemsLeft) → opened ≡ Some inner → (rest : List ItemsLeft) → so_many kind n ∷ outer ≡ rest → FindsIf StoreMayStopRoomy is_known left failures old i mid j (Ok (tt {0})) (λ b _. Passed v first now b) Nothing → FindsIf StoreMayStopRoomy is_known left failures mid j new k (Ok opened) (OpensItem v kind) (ErrorInItem v kind)
      → FindsIf StoreMayStopRoomy is_known left failures old i new k (Ok (tt {0})) (λ b _. Passed v first (inner ∷ rest) b) Nothing
  step_opens inner opened is rest turned p h = finds_as (tt {0}) _ _ (λ a s. subst (λ (l : List ItemsLeft). Passed v first (inner ∷ l) a) turned (subst (After v first (so_many kind n ∷ outer) a) is s)) (step opened p h)

-- nothing is left
pub all_passed : {S : Type 0} {is_known : S → Type 0} {left : S → List ℕ} {failures : S → Failures} {old new : S} {i k : ℕ} (v : Version) (first now : List ItemsLeft) → Passed v now [] []
    → FindsIf StoreMayStopRoomy is_known left failures old i new k (Ok (tt {0})) (λ b _. Passed v first now b) Nothing → FindsIf StoreMayStopRoomy is_known left failures old i new k (Ok (tt {0})) (λ b _. AreLeft v first b) (ErrorInLeft v first)
all_passed v first now none p = finds_as (tt {0}) _ _ (λ a s. subst (AreLeft v first) (append-nil a) (s.joins [] (none.joins [] refl))) p
