use Rattle.std.proofs.Common.{◌≡◌, ℕ, ◌<◌, List, [], ◌∷◌, ◌++◌, length, Option, None, Some, Result, Ok, Err, sym, ◌∙◌, ap}
use Rattle.std.specs.Prelude.{MatchResult, option_map}
use Rattle.std.specs.Result.{result_ok}
use Rattle.tv_term.specs.declared.term.TermError.{TermError}
use Rattle.tv_term.specs.declared.term.TermError.TheVariants.{TooShort}
use Rattle.tv_term.specs.Key.{TermValue, coded_value}
use Rattle.tv_term.proofs.Terms.{json_parts-term}
use Rattle.tv_term.proofs.laws.value_behind_path.Goals as goal

-- the bytes of a value are wrapped
wrapped : {V : Type 0} (now : V → List ℕ) (r : Result V TermError) (bytes : List ℕ) (value : TermValue) → bytes ≡ coded_value value
    → MatchResult r (λ v. (now v ≡ bytes) × (0 < length bytes)) (λ error. (error ≡ TooShort) × (bytes ≡ [])) → option_map now (result_ok r) ≡ Some (coded_value value)
wrapped now (Ok v) bytes value e made = ap Some (made.0 ∙ e)
wrapped now (Err error) bytes value e made = let clash : [] ≡ coded_value value = sym made.1 ∙ e in cc

abbrev rest_of : Option (List ℕ × List ℕ) → List ℕ
rest_of None = []
rest_of (Some parts) = parts.1

pub returns-in_err-value : goal.returns-in_err-value
returns-in_err-value c f path value p =
    let parts = json_parts-term c.args.term.now f path value p in
    let none = c.in_err-value.ensures in
    let clash : ◌≡◌ {A = Option (List ℕ × List ℕ)} None (Some (path ++ 0 ∷ [], coded_value value)) = (rw c.value.ensures at none) ∙ parts in cc

pub returns : goal.returns
returns c f path value p =
    let parts = json_parts-term c.args.term.now f path value p in
    let found = c.in_ok-value.ensures in
    rw c.ok.ensures.value (wrapped (λ v. v.serialized.now) c.wrap.result c.in_ok-value.value.now value (ap rest_of ((rw c.value.ensures at found) ∙ parts)) c.wrap.ensures)
