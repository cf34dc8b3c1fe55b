use Rattle.std.proofs.Common.{◌∷◌, [], reverse, refl}
use Rattle.std.proofs.lemmas.Result.{err_from_is_err_and}
use Rattle.tv_reader.specs.Version.{version_of}
use Rattle.tv_reader.specs.declared.error.DeserializeError.TheVariants as errors
use Rattle.tv_reader.proofs.Finding.{finds_as, finds_short_then}
use Rattle.tv_reading.specs.Skip.{Passed, AreLeft, ErrorInLeft, open_items}
use Rattle.tv_reading.proofs.Left.{first_open, list_pushed}
use Rattle.tv_reading.proofs.Steps.{step_fails, step_passes, step_opens, all_passed}
use Rattle.tv_reading.proofs.items.skip_items.Goals as goal
use Rattle.tv_reader.specs.Finds.{Nothing}

pub lists-init : goal.lists-init
lists-init g c =
    let v = version_of c.args.version in
    let items = c.pass_buffered_items-items.result in
    record { finds = finds_as (tt {0}) (λ b _. Passed v (c.args.first ∷ []) (open_items items c.new-outer.result) b) Nothing (λ a h. first_open v c.args.first items c.new-outer.result.items a c.new-outer.ensures.items h) c.pass_buffered_items-items.ensures.finds }

pub returns-in_err-opened : goal.returns-in_err-opened
returns-in_err-opened g c =
    let p = err_from_is_err_and c.from_residual.result c.from_residual.ensures.1 in
    let v = version_of c.args.version in
    record { finds = rw (p.1, p.2) (step_fails v (c.args.first ∷ []) (open_items c.lists.items c.lists.outer) (reverse c.next_item.new.outer.items) c.next_item.new.items.kind c.next_item.new.items.left (c.lists-test.ensures v) c.in_err-opened.field-0.0 c.lists.invariant.finds c.in_err-opened.ensures.finds) }

pub returns-in_err-push : goal.returns-in_err-push
returns-in_err-push g c =
    let p = err_from_is_err_and c.from_residual-in_err-push.result c.from_residual-in_err-push.ensures.1 in
    let v = version_of c.args.version in
    record { finds = rw (p.1, p.2) (finds_short_then errors.Memory (λ b _. AreLeft v (c.args.first ∷ []) b) (ErrorInLeft v (c.args.first ∷ [])) refl (tt, λ is. cc) c.lists.invariant.finds c.in_ok-opened.ensures.finds) }

pub lists-preserved-in-Some : goal.lists-preserved-in-Some
lists-preserved-in-Some g c =
    let v = version_of c.args.version in
    record { finds = step_opens v (c.args.first ∷ []) (open_items c.lists.items c.lists.outer) (reverse c.next_item.new.outer.items) c.next_item.new.items.kind c.next_item.new.items.left (c.lists-test.ensures v) c.in-Some.inner _ c.in-Some.is _ (list_pushed c.next_item.new.items c.next_item.new.outer.items c.push.new.self.items c.in_ok-push.ensures.items) c.lists.invariant.finds c.in_ok-opened.ensures.finds }

pub lists-preserved : goal.lists-preserved
lists-preserved g c =
    let v = version_of c.args.version in
    record { finds = step_passes v (c.args.first ∷ []) (open_items c.lists.items c.lists.outer) (reverse c.next_item.new.outer.items) c.next_item.new.items.kind c.next_item.new.items.left (c.lists-test.ensures v) _ c.in_default.is c.lists.invariant.finds c.in_ok-opened.ensures.finds }

pub returns : goal.returns
returns g c =
    let v = version_of c.args.version in
    record { finds = all_passed v (c.args.first ∷ []) (open_items c.lists.items c.lists.outer) (c.lists-test.ensures v) c.lists.invariant.finds }
