-- A token, whose parts are taken one after the other.
use Rattle.std.proofs.Common.{ℕ, List, Ok, refl}
use Rattle.tv_base.specs.Reading.{vint_at, text_at}
use Rattle.tv_base.specs.Source.{Failures}
use Rattle.tv_base.specs.Stop.{◌>>=◌, Takes}
use Rattle.tv_base.specs.Take.{read_stop, MayStopLean}
use Rattle.tv_base.proofs.TakeSteps.{SoFar, SoFar-start, SoFar-step}
use Rattle.tv_format.specs.Tree.{Token}
use Rattle.tv_reader.specs.Leaves.{token_at}

abbrev pub token_with : ℕ → ℕ → ℕ → List ℕ → ℕ → Token
token_with from to position content positions = record { offset_from = from; offset_to = to; position = position; text = content; position_length = positions }

-- the first number was taken, the first two, or all three
pub offset_taken : {P : Type 0} {is_known : P → Type 0} {left : P → List ℕ} {count : P → ℕ} {failures : P → Failures} {a b : P} {from : ℕ} → Takes read_stop MayStopLean is_known left count failures a b (λ x. x) (Ok from) vint_at
    → SoFar is_known left count failures a b token_at (λ w. vint_at w >>= λ to. vint_at to.1 >>= λ position. text_at position.1 >>= λ content. vint_at content.1 >>= λ positions. Ok (token_with from to.0 position.0 content.0 positions.0, positions.1))
unfolding token_at
offset_taken x = SoFar-step _ (λ _. refl) (SoFar-start _ _ _ _ _ token_at token_at (λ _. refl)) x

pub offsets_taken : {P : Type 0} {is_known : P → Type 0} {left : P → List ℕ} {count : P → ℕ} {failures : P → Failures} {a b c : P} {from to : ℕ}
    → Takes read_stop MayStopLean is_known left count failures a b (λ x. x) (Ok from) vint_at → Takes read_stop MayStopLean is_known left count failures b c (λ x. x) (Ok to) vint_at
    → SoFar is_known left count failures a c token_at (λ w. vint_at w >>= λ position. text_at position.1 >>= λ content. vint_at content.1 >>= λ positions. Ok (token_with from to position.0 content.0 positions.0, positions.1))
offsets_taken x y = SoFar-step _ (λ _. refl) (offset_taken x) y

pub position_taken : {P : Type 0} {is_known : P → Type 0} {left : P → List ℕ} {count : P → ℕ} {failures : P → Failures} {a b c d : P} {from to position : ℕ}
    → Takes read_stop MayStopLean is_known left count failures a b (λ x. x) (Ok from) vint_at → Takes read_stop MayStopLean is_known left count failures b c (λ x. x) (Ok to) vint_at → Takes read_stop MayStopLean is_known left count failures c d (λ x. x) (Ok position) vint_at
    → SoFar is_known left count failures a d token_at (λ w. text_at w >>= λ content. vint_at content.1 >>= λ positions. Ok (token_with from to position content.0 positions.0, positions.1))
position_taken x y z = SoFar-step _ (λ _. refl) (offsets_taken x y) z
