-- Types that a test says apart are not the same.
use Rattle.std.proofs.Common.{◌≡◌, ◌≢◌, true, not, refl, sym, ap, ◌∙◌}
use denote.Enum.Bare.{sameb}
use Rattle.tv_reader.specs.contracts.value_type.ValueType.{the_type}
use Rattle.tv_reader.specs.declared.value_type.ValueType.{ValueType}
use Rattle.tv_reader.specs.declared.value_type.ValueType.TheVariants as types

self_same : (kind : ValueType) → sameb the_type kind kind ≡ true
self_same types.Null = refl
self_same _ = refl

impossible : true ≡ not true → ⊥
impossible e = absurd cc

pub told_apart : (kind expected : ValueType) → true ≡ not (sameb the_type kind expected) → kind ≢ expected
told_apart kind expected e is = impossible (e ∙ ap not (sym (ap (λ (z : ValueType). sameb the_type kind z) is) ∙ self_same kind))
