use Rattle.std.proofs.Common.{◌≡◌, ◌<◌, ◌+◌, ℕ, Bool, true, List, refl, sym, ap, ◌∙◌, subst, length, take, arith}
use Rattle.std.proofs.Math.ListN.{set}
use Rattle.std.proofs.lemmas.List.{length-set}
use Rattle.tv_reading.specs.Wanted.{IsTable}
use Rattle.tv_reading.proofs.WantedFields.{none_noted, noted, passed}
use Rattle.tv_reading.proofs.wanted.table_of.Goals.{then-number-lt-TABLE, else-number-lt-TABLE}
use Rattle.tv_reading.proofs.wanted.table_of.Goals as goal

pub loop-field-init : goal.loop-field-init
loop-field-init c = record { len = refl; table = none_noted }

pub loop-field-preserved : goal.loop-field-preserved
loop-field-preserved c =
    let fields = c.args.fields.now in
    let i = c.loop-field.field-index in
    let before = c.loop-field.table in
    let inv = c.loop-field.invariant in
    elim c.if-number-lt-TABLE.branch [
      | then-number-lt-TABLE w ↦ record {
        len = subst (λ (t : List Bool). length t ≡ 64) (sym w.table-is) (length-set before c.field_id-number.result true ∙ inv.len);
        table = subst (IsTable (take (i + 1) fields)) (sym (w.table-is ∙ ap (λ (k : ℕ). set before k true) c.field_id-number.ensures))
            (noted fields i _ before c.loop-field-test.true (subst (λ (k : ℕ). k < length before) c.field_id-number.ensures (omega (arith, inv.len, w.if-number-lt-TABLE.true))) inv.table);
      }
      | else-number-lt-TABLE w ↦ record {
        len = subst (λ (t : List Bool). length t ≡ 64) (sym w.table-is) inv.len;
        table = subst (IsTable (take (i + 1) fields)) (sym w.table-is)
            (passed fields i _ before c.loop-field-test.true (λ low. let lower : c.field_id-number.result < length before = subst (λ (k : ℕ). k < length before) (sym c.field_id-number.ensures) low in absurd (omega (arith, inv.len, w.if-number-lt-TABLE.false, lower))) inv.table);
      }
    ]
