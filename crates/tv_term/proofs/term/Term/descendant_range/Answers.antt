use Rattle.std.proofs.Common.{ℕ, List, [], ◌∷◌, ◌++◌, ◌≡◌, ◌≢◌, ap, sym, ◌∙◌}
use Rattle.tv_term.specs.Key.{Facet, term}
use Rattle.tv_term.specs.Range.{IsBelowFacet}
use Rattle.tv_term.proofs.TermRanges.{terms-from, longer-from, of_facet, of_root}
use Rattle.tv_term.proofs.term.Term.descendant_range.Goals as goal

pub returns-then-is_root : goal.returns-then-is_root
returns-then-is_root c = record {
  made =
      let id = c.args.field.id in
      let upper = c.args.facet.now in
      let made = c.in_ok-upper.ensures.made in
      let root : upper ≡ [] = c.is_root.ensures.0 c.if-is_root.true in
      longer-from c.in_ok-of_longer.field-0 c.serialized_term.result.now (term id (Facet upper)) (IsBelowFacet id upper) (c.serialized_term.ensures ∙ made.bytes_are) c.in_ok-of_longer.ensures
      (λ f value small fits. of_root id f upper value made.field_fits small root);
  errors = tt;
}

pub returns : goal.returns
returns c = record {
  made =
      let id = c.args.field.id in
      let upper = c.args.facet.now in
      let made = c.in_ok-upper.ensures.made in
      let some : upper ≢ [] = λ none. let both = sym c.if-is_root.false ∙ c.is_root.ensures.1 none in cc in
      terms-from c.in_ok-from_prefix.field-0 c.into_bytes.result.items (term id (Facet upper) ++ 0 ∷ []) (IsBelowFacet id upper)
      (c.into_bytes.ensures ∙ c.in_ok-append_bytes.ensures.longer ∙ ap (λ (z : List ℕ). z ++ 0 ∷ []) made.bytes_are) c.in_ok-from_prefix.ensures
      (λ f value small fits. of_facet id f upper value made.field_fits small some);
  errors = tt;
}
