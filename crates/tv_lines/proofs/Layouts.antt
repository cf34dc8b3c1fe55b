-- Texts of JSON in a layout.
use Rattle.std.proofs.Common.{◌≡◌, ◌≢◌, Bool, true, false, Result, Ok, Err, OnOk, OnErr, is_ok, List, ℕ, [], ◌∷◌, ◌++◌, ◌||◌, refl, ap, ◌∙◌}
use Rattle.std.specs.Prelude.{if◌then◌else◌}
use Rattle.std.specs.List.{list_any}
use Rattle.std.proofs.Math.Bool.{or-true}
use Rattle.std.proofs.lemmas.List.Folds.{list_any-append}
use Rattle.json.specs.Layout.{pretty}
use Rattle.json.specs.Lex.{tokens}
use Rattle.json.specs.Reads.{token_of}
use Rattle.json.specs.Token.{Token, bad}
use Rattle.json.specs.declared.token.Token.{Token as Read}
use Rattle.json.specs.declared.token.Token.TheVariants as read
use Rattle.tv_lines.specs.Printing.{is_bad, laid_out}
use Rattle.tv_lines.specs.declared.export.JsonLayout.TheVariants.{Pretty}

-- another token than the one for what is no JSON
pub not_bad : (t : Read) → t ≢ read.Bad → is_bad (token_of t) ≡ false
not_bad read.BeginObject other = refl
not_bad read.EndObject other = refl
not_bad read.BeginArray other = refl
not_bad read.EndArray other = refl
not_bad (read.Key s) other = refl
not_bad (read.String s) other = refl
not_bad (read.Number s) other = refl
not_bad (read.Bool b) other = refl
not_bad read.Null other = refl
not_bad read.Bad other = absurd (other refl)

-- one token more is seen, which isn't bad
pub none_bad : (seen : List Token) (t : Token) → list_any is_bad seen ≡ false → is_bad t ≡ false → list_any is_bad (seen ++ t ∷ []) ≡ false
none_bad seen t none good = list_any-append is_bad seen (t ∷ []) ∙ ap (λ b. b || list_any is_bad (t ∷ [])) none ∙ ap (λ b. b || false) good

by_test : (json : List ℕ) (b : Bool) → list_any is_bad (tokens json) ≡ b → laid_out Pretty json ≡ (if b then json else pretty (tokens json))
by_test json b is = ap (λ x. if x then json else pretty (tokens json)) is

-- all tokens are seen, and none is bad
pub laid_out_all : (json : List ℕ) (seen : List Token) → tokens json ≡ seen → list_any is_bad seen ≡ false → laid_out Pretty json ≡ pretty seen
laid_out_all json seen is none = by_test json false (ap (list_any is_bad) is ∙ none) ∙ ap pretty is

-- a bad one comes
pub laid_out_none : (json : List ℕ) (seen rest : List Token) → tokens json ≡ seen ++ bad ∷ rest → laid_out Pretty json ≡ json
laid_out_none json seen rest is = by_test json true (ap (list_any is_bad) is ∙ list_any-append is_bad seen (bad ∷ rest) ∙ or-true (list_any is_bad seen))

-- ---- a text that is pushed, or not

pub pushed : {T E : Type 0} (result : Result T E) {old new pushes begun text : List ℕ} → new ≡ (if is_ok result then old ++ pushes else old) → old ≡ begun → pushes ≡ text → OnOk result (new ≡ begun ++ text)
pushed (Ok done) {old} {pushes = pushes} {begun} is same says = is ∙ ap (λ l. l ++ pushes) same ∙ ap (λ l. begun ++ l) says
pushed (Err e) is same says = tt

pub unpushed : {T E : Type 0} (result : Result T E) (pushes : List ℕ) {old new begun : List ℕ} → new ≡ (if is_ok result then old ++ pushes else old) → old ≡ begun → OnErr result (new ≡ begun)
unpushed (Ok done) pushes is same = tt
unpushed (Err e) pushes is same = is ∙ same
