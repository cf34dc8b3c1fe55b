use Rattle.std.proofs.Common.{◌≡◌, ℕ, zero, suc, ◌<◌, List, [], ◌∷◌, length, get_or, Option, None, Some, Result, Err, ap, ◌∙◌, subst, arith, rules}
use Rattle.std.specs.Prelude.{IfSome}
use Rattle.serde_json.specs.View.{view, items_view}
use Rattle.serde_json.specs.declared.value.Value.{Value}
use Rattle.tv_schema.specs.SchemaJsonEarly.{first_error, head_error}
use Rattle.tv_schema.specs.declared.json.error.SchemaJsonError.{SchemaJsonError}
use Rattle.tv_schema.proofs.json.builder_of.Goals as goal

-- what is said of the entry at a place before which there is no error, is reported of the first
first_told : {A : Type 0} (items : List Value) (place : ℕ) (description : Value) (result : Result A SchemaJsonError) → place < length items → description ≡ get_or items place description
    → (0 < place → first_error (items_view items) ≡ None) → IfSome (head_error place (view description)) (λ error. result ≡ Err error) → IfSome (first_error (items_view items)) (λ error. result ≡ Err error)
first_told [] place description result within is passed told = absurd (omega arith)
first_told (first ∷ others) zero description result within is passed told = subst (λ (item : Value). IfSome (head_error 0 (view item)) (λ error. result ≡ Err error)) is told
first_told (first ∷ others) (suc place) description result within is passed told = rw (passed (omega arith)) tt

-- two results with one error are reported the same
same_told : {A B : Type 0} (known : Option SchemaJsonError) (error : SchemaJsonError) (one : Result A SchemaJsonError) (other : Result B SchemaJsonError) → one ≡ Err error → other ≡ Err error
    → IfSome known (λ told. one ≡ Err told) → IfSome known (λ told. other ≡ Err told)
same_told None error one other first second h = tt
same_told (Some told) error one other first second h = let same : error ≡ told = cc in second ∙ ap Err same

pub returns-in_err-add_entry-clause-early : goal.returns-in_err-add_entry-clause-early
returns-in_err-add_entry-clause-early c =
    let l = c.loop-place in
    let error = c.in_err-add_entry.field-0.0 in
    let was : c.add_entry.result ≡ Err error = search rules in
    let same : c.from_residual.result ≡ Err error = search rules in
    first_told c.args.items.now l.place c.index-items-place.result c.from_residual.result (omega arith) c.index-items-place.is l.invariant.opened
    (same_told (head_error l.place (view c.index-items-place.result)) error c.add_entry.result c.from_residual.result was same c.add_entry.ensures.early)
