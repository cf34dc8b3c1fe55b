use Rattle.std.proofs.Common.{◌≡◌, ℕ, Result, Ok, Err, sym, ap, subst}
use Rattle.std.specs.Prelude.{OnSome}
use Rattle.std.specs.Result.{result_ok}
use Rattle.serde_json.specs.Data.{Data}
use Rattle.tv_json.specs.BorrowedData.{data_of}
use Rattle.tv_builder.specs.declared.errors.AddError.{AddError}
use Rattle.tv_field.specs.JsonTable.{Table}
use Rattle.tv_field.specs.declared.field_type.FieldType.{FieldType}
use Rattle.tv_format.specs.Tree.{Tree}
use Rattle.tv_value.specs.JsonTree.{whole_tree}
use Rattle.tv_doc.specs.AddsRow.{AddsRow}
use Rattle.tv_doc.specs.Document.{Adds}
use Rattle.tv_doc.specs.declared.document.CompactDoc.{CompactDoc}
use Rattle.tv_doc.proofs.PlainValues.{object_row}
use Rattle.tv_doc.proofs.borrowed_json.add_plain.Goals as goal

-- an accepted addition of the value's tree is that of its row
adds_row : (old new : CompactDoc) (field : ℕ) (f : FieldType) (d : Data) (t : Tree) (r : Result (Unit {0}) AddError) → t ≡ whole_tree d → Table f d (Ok (whole_tree d)) → Adds old new field t r → OnSome (result_ok r) (AddsRow old new field f d)
adds_row old new field f d t (Ok x) is row h = (t, subst (λ z. Table f d (Ok z)) (sym is) row, h)
adds_row old new field f d t (Err e) is row h = tt

pub returns-in-JsonObject-Object-clause-added : goal.returns-in-JsonObject-Object-clause-added
returns-in-JsonObject-Object-clause-added c =
    let old = c.args.document.now in
    let d = data_of c.args.json.now in
    let row = object_row c.args.to.now.field_type.now c.args.json.now _ c.in-JsonObject-Object.is-0 c.in-JsonObject-Object.is-1 (c.is_whole.ensures.0 c.if-is_whole.true) in
    let h = adds_row old c.add_field_value.new.self c.args.to.now.field.id c.args.to.now.field_type.now d _ c.add_field_value.result (ap (λ j. whole_tree (data_of j)) c.new.ensures) row c.add_field_value.ensures.adds in
    subst (λ o. OnSome o (AddsRow old c.add_field_value.new.self c.args.to.now.field.id c.args.to.now.field_type.now d)) (sym c.ok-in-JsonObject-Object.ensures.value) h
