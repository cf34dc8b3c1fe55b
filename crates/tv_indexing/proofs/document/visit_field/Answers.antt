use Rattle.std.proofs.Common.{◌≡◌, ◌≢◌, true, List, [], ℕ, Result, Ok, Err, Some, refl, sym, ap, ◌∙◌}
use Rattle.std.specs.Prelude.{OnErr, slice_get}
use Rattle.tv_field.specs.Entry.{Entry, is_indexed_type, value_type}
use Rattle.tv_field.specs.declared.field_type.FieldType.{FieldType}
use Rattle.tv_field.specs.declared.field_type.FieldType.TheVariants as types
use Rattle.tv_format.specs.Tree.{Tree}
use Rattle.tv_heap.specs.Value.{tree_of}
use Rattle.tv_indexing.specs.DocumentTerms.{field_terms, pair_terms, plain_terms, typed_terms}
use Rattle.tv_indexing.specs.Visits.{TakesTerms, TakesSome}
use Rattle.tv_indexing.specs.LeafTerms.{tree_value}
use Rattle.tv_options.specs.declared.own_part.DotExpansion.{DotExpansion}
use Rattle.tv_options.specs.declared.textual_options.TextualOptions.{TextualOptions}
use Rattle.tv_value.specs.declared.field.Field.{Field}
use Rattle.tv_indexing.proofs.Late.{is_looked_at, pair_late}
use Rattle.tv_indexing.proofs.document.visit_field.Goals as goal

plain_type : (field : Field) (type : FieldType) (tree : Tree) → ((options : TextualOptions DotExpansion) → type ≢ types.JsonObject options) → typed_terms field type tree ≡ plain_terms field (value_type type) (tree_value tree)
plain_type field (types.Str options) tree plain = refl
plain_type field (types.U64 options) tree plain = refl
plain_type field (types.I64 options) tree plain = refl
plain_type field (types.Bool options) tree plain = refl
plain_type field (types.Date options) tree plain = refl
plain_type field (types.Facet options) tree plain = refl
plain_type field (types.Bytes options) tree plain = refl
plain_type field (types.JsonObject options) tree plain = absurd (plain options refl)
plain_type field (types.IpAddr options) tree plain = refl

plain_pair : (schema : List Entry) (field : Field) (tree : Tree) (found : Entry) (type : FieldType) → slice_get schema field.id ≡ Some found → type ≡ found.field_type → is_indexed_type type ≡ true
    → ((options : TextualOptions DotExpansion) → type ≢ types.JsonObject options) → pair_terms schema (field.id, tree) ≡ plain_terms field (value_type type) (tree_value tree)
plain_pair schema field tree found type at is indexed plain =
    let known : is_indexed_type found.field_type ≡ true = ap is_indexed_type (sym is) ∙ indexed in
    ap (λ entry. field_terms field entry tree) at ∙ rw known (ap (λ t. typed_terms field t tree) (sym is) ∙ plain_type field type tree plain)

still_some : {V E : Type 0} (P : V → V → List (List ℕ) → Type 0) (result : Result (Unit {0}) E) (old new : V) → OnErr result (TakesTerms P old new []) → OnErr result (TakesSome P old new)
still_some P (Ok x) old new h = tt
still_some P (Err e) old new h = ([], h)

pub returns-in_default : goal.returns-in_default
returns-in_default g c =
    let field = c.args.field in
    let tree = tree_of c.args.value in
    let type = c.field_type-field_type.result.now in
    let indexed : is_indexed_type type ≡ true = cc in
    let pair : pair_terms c.args.schema.now (field.id, tree) ≡ plain_terms field c.value_type.result (tree_value tree) =
    plain_pair c.args.schema.now field tree c.get_field_entry.result.now type c.get_field_entry.ensures c.field_type-field_type.ensures indexed (λ options is. c.in_default.not-JsonObject options is)
    ∙ ap (λ t. plain_terms field t (tree_value tree)) (sym c.value_type.ensures) in
    record {
      made = rw pair c.visit_value.ensures.made;
      refused = rw pair c.visit_value.ensures.refused;
      memory = λ is. (is_looked_at c.args.schema.now field c.get_field_entry.result.now type c.get_field_entry.ensures c.field_type-field_type.ensures indexed, λ why e. absurd (c.visit_value.ensures.memory is why (sym pair ∙ e)));
      kept = still_some g.V.TermVisitor.has_taken c.visit_value.result c.args.visitor.now c.visit_value.new.visitor c.visit_value.ensures.untaken;
    }

pub returns-in-JsonObject-clause-memory : goal.returns-in-JsonObject-clause-memory
returns-in-JsonObject-clause-memory g c = λ is.
    let field = c.args.field in
    let type = c.field_type-field_type.result.now in
    let indexed : is_indexed_type type ≡ true = cc in (
      is_looked_at c.args.schema.now field c.get_field_entry.result.now type c.get_field_entry.ensures c.field_type-field_type.ensures indexed,
      pair_late c.args.schema.now field (tree_of c.args.value) c.get_field_entry.result.now type c.in-JsonObject.options c.get_field_entry.ensures c.field_type-field_type.ensures indexed c.in-JsonObject.is,
    )
