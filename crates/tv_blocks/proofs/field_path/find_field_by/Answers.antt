use Rattle.std.proofs.Common.{◌≡◌, ℕ, ◌-◌, List, length, drop, Some, sym, subst, ap, ◌∙◌, arith}
use Rattle.tv_schema.specs.Path.{find}
use Rattle.tv_blocks.proofs.Suffixes.{begins_at, found_suffix, no_longer}
use Rattle.tv_blocks.proofs.field_path.find_field_by.Goals as goal

pub overflow_sub-result : goal.overflow_sub-result
overflow_sub-result c =
    let text = c.in-Ok.ensures.cases in
    let is : find c.args.schema.now c.args.path.now ≡ Some (c.in-Some.field.id, c.in-Some.rest.now) = subst (λ (p : List ℕ). find c.args.schema.now p ≡ Some (c.in-Some.field.id, c.in-Some.rest.now)) text.0 (sym c.in-Some.ensures.found) in
    no_longer c.args.path.now c.in-Some.rest.now (found_suffix c.args.schema.now c.args.path.now (c.in-Some.field.id, c.in-Some.rest.now) is)

pub returns-in-Some-clause-found : goal.returns-in-Some-clause-found
returns-in-Some-clause-found c =
    let text = c.in-Ok.ensures.cases in
    let is : find c.args.schema.now c.args.path.now ≡ Some (c.in-Some.field.id, c.in-Some.rest.now) = subst (λ (p : List ℕ). find c.args.schema.now p ≡ Some (c.in-Some.field.id, c.in-Some.rest.now)) text.0 (sym c.in-Some.ensures.found) in
    let suffix = found_suffix c.args.schema.now c.args.path.now (c.in-Some.field.id, c.in-Some.rest.now) is in
    record {
      utf8 = text.1;
      within = omega arith;
      named = is ∙ ap (λ (l : List ℕ). Some (c.in-Some.field.id, l)) (sym (begins_at c.args.path.now c.in-Some.rest.now suffix)) ∙ ap (λ (n : ℕ). Some (n, drop (length c.args.path.now - length c.in-Some.rest.now) c.args.path.now)) (sym c.field_id.ensures);
    }
