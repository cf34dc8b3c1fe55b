use Rattle.std.proofs.Common.{◌≡◌, false, sym, subst}
use Rattle.tv_indexing.specs.DocumentTerms.{is_among}
use Rattle.tv_query.specs.Fields.{AreDistinct}
use Rattle.tv_query.proofs.Naming.{once_more}
use Rattle.tv_query.proofs.query.add_field.Goals as goal

pub returns-in_ok-push-in-Clause-clause-distinct : goal.returns-in_ok-push-in-Clause-clause-distinct
returns-in_ok-push-in-Clause-clause-distinct c = λ distinct.
    let new : is_among c.args.fields.now.items c.field-field.result.id ≡ false = cc in
    subst AreDistinct (sym c.in_ok-push-in-Clause.ensures.items) (once_more c.args.fields.now.items c.field-field.result distinct new)
