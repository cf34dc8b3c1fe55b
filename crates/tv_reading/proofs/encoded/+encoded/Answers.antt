use Rattle.std.proofs.Common.{◌≡◌, ◌∷◌, ap, ◌∙◌}
use Rattle.tv_format.specs.WriteVersion.{written_version}
use Rattle.tv_reading.proofs.Walking.{array_behind, object_behind, one_more}
use Rattle.tv_reading.proofs.encoded.+encoded.Goals as goal

pub behind_value-returns-in_ok-many-in-12 : goal.behind_value-returns-in_ok-many-in-12
behind_value-returns-in_ok-many-in-12 t c =
    let behind = c.in_ok-code.behind.now in
    let e : c.args.bytes.now ≡ 12 ∷ behind = c.in_ok-code.ensures.cases.0 ∙ ap (λ z. z ∷ behind) c.in-12.is in
    array_behind (written_version c.args.version) c.in_ok-many-in-12.many c.args.bytes.now behind c.in_ok-many-in-12.items.now _ e c.in_ok-many-in-12.ensures.found c.behind_items.ensures

pub behind_value-returns-in_ok-many-in-13 : goal.behind_value-returns-in_ok-many-in-13
behind_value-returns-in_ok-many-in-13 t c =
    let behind = c.in_ok-code.behind.now in
    let e : c.args.bytes.now ≡ 13 ∷ behind = c.in_ok-code.ensures.cases.0 ∙ ap (λ z. z ∷ behind) c.in-13.is in
    object_behind (written_version c.args.version) c.in_ok-many-in-13.many c.args.bytes.now behind c.in_ok-many-in-13.items.now _ e c.in_ok-many-in-13.ensures c.behind_items-in-13.ensures

pub behind_items-loop-i-preserved : goal.behind_items-loop-i-preserved
behind_items-loop-i-preserved t c =
    one_more (written_version c.args.version) c.args.kind c.loop-i._i c.args.bytes.now c.loop-i.rest.now c.in_ok-value.value.now c.in_ok-rest.rest.now c.loop-i.invariant c.in_ok-value.ensures c.in_ok-rest.ensures
