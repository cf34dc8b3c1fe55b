use Rattle.std.proofs.Common.{◌≡◌, ◌++◌, ◌∷◌, length, refl, sym, ap, ◌∙◌, subst, arith}
use Rattle.tv_format.specs.Tree.{text}
use Rattle.tv_format.specs.WriteVersion.{written_version}
use Rattle.tv_builder.specs.Given.{place_bytes}
use Rattle.tv_builder.specs.EncodedPut.{EncodedPut}
use Rattle.tv_builder.proofs.Giving.{prefix_then}
use Rattle.tv_builder.proofs.Putting.{first_within, other_places}
use Rattle.tv_builder.proofs.Encoding.{none_read, one_item, array_encoded, one_member, object_encoded}
use Rattle.tv_builder.proofs.encoded.+encoded.Goals as goal

-- ---- a value of any kind

pub put_encoded-returns-in_ok-rest-in-12-clause-found : goal.put_encoded-returns-in_ok-rest-in-12-clause-found
put_encoded-returns-in_ok-rest-in-12-clause-found t c =
    let behind = c.in_ok-code.behind.now in
    let e : c.args.bytes.now ≡ 12 ∷ behind = c.in_ok-code.ensures.cases.0 ∙ ap (λ z. z ∷ behind) c.in-12.is in
    let x = c.in_ok-rest-in-12 in
    subst (λ z. EncodedPut (written_version c.args.version) z x.rest.now c.args.heap.now.items c.put_encoded_array.new.heap.items x.place) (sym e) x.ensures.found

pub put_encoded-returns-in_ok-rest-in-13-clause-found : goal.put_encoded-returns-in_ok-rest-in-13-clause-found
put_encoded-returns-in_ok-rest-in-13-clause-found t c =
    let behind = c.in_ok-code.behind.now in
    let e : c.args.bytes.now ≡ 13 ∷ behind = c.in_ok-code.ensures.cases.0 ∙ ap (λ z. z ∷ behind) c.in-13.is in
    let x = c.in_ok-rest-in-13 in
    subst (λ z. EncodedPut (written_version c.args.version) z x.rest.now c.args.heap.now.items c.put_encoded_object.new.heap.items x.place) (sym e) x.ensures.found

-- ---- arrays

pub put_encoded_array-loop-i-init : goal.put_encoded_array-loop-i-init
put_encoded_array-loop-i-init t c = none_read _ _ _ _ _ _ _ refl c.requires c.in_ok-announced.ensures.found

pub put_encoded_array-loop-i-preserved : goal.put_encoded_array-loop-i-preserved
put_encoded_array-loop-i-preserved t c =
    let x = c.in_ok-after in
    one_item _ _ _ _ _ _ _ _ _ _ _ _ x.place c.loop-i.invariant x.ensures.found (c.in-Ok.ensures.ok ∙ ap (λ z. z ++ place_bytes x.place) x.ensures.places)

pub put_encoded_array-put_list-requires-clause-first : goal.put_encoded_array-put_list-requires-clause-first
put_encoded_array-put_list-requires-clause-first t c = first_within _ _ _ _ _ _ c.loop-i.invariant.put (omega (arith, c.len-first.ensures.len))

pub put_encoded_array-returns-clause-found : goal.put_encoded_array-returns-clause-found
put_encoded_array-returns-clause-found t c =
    let start : c.len-first.result ≡ length c.args.places.now.items = omega (arith, c.len-first.ensures.len) in
    array_encoded _ _ c.loop-i._i _ _ _ _ _ _ _ _ _ (omega (arith, c.loop-i-test.false)) c.loop-i.invariant start c.in-Ok-put_list.ensures.ok

pub put_encoded_array-returns-clause-places : goal.put_encoded_array-returns-clause-places
put_encoded_array-returns-clause-places t c = other_places _ _ _ _ _ _ _ c.loop-i.invariant.put (omega (arith, c.len-first.ensures.len)) c.in-Ok-put_list.ensures.places

-- ---- objects

pub put_encoded_object-loop-i-init : goal.put_encoded_object-loop-i-init
put_encoded_object-loop-i-init t c = none_read _ _ _ _ _ _ _ refl c.requires c.in_ok-announced.ensures

pub put_encoded_object-put_encoded-requires : goal.put_encoded_object-put_encoded-requires
put_encoded_object-put_encoded-requires t c = (omega (arith, c.decreases, c.if-levels-eq0.false), (c.in_ok-name.ensures.found.put (text c.in_ok-key.key.now) refl refl).fits)

pub put_encoded_object-returns-in_err-after-clause-prefix : goal.put_encoded_object-returns-in_err-after-clause-prefix
put_encoded_object-returns-in_err-after-clause-prefix t c = prefix_then c.args.heap.now.items c.put_content.new.heap.items c.put_encoded.new.heap.items (prefix_then c.args.heap.now.items c.loop-i.heap.items c.put_content.new.heap.items c.loop-i.invariant.put.prefix c.in_ok-name.ensures.prefix) c.in_err-after.ensures.prefix

pub put_encoded_object-returns-in_default-push_place-clause-prefix : goal.put_encoded_object-returns-in_default-push_place-clause-prefix
put_encoded_object-returns-in_default-push_place-clause-prefix t c = prefix_then c.args.heap.now.items c.put_content.new.heap.items c.put_encoded.new.heap.items (prefix_then c.args.heap.now.items c.loop-i.heap.items c.put_content.new.heap.items c.loop-i.invariant.put.prefix c.in_ok-name.ensures.prefix) c.in_ok-after.ensures.prefix

pub put_encoded_object-loop-i-preserved : goal.put_encoded_object-loop-i-preserved
put_encoded_object-loop-i-preserved t c =
    let k = c.in_ok-name in
    let x = c.in_ok-after in
    one_member _ _ _ _ _ _ _ _ _ _ _ _ _ _ _ _ x.place c.loop-i.invariant c.in_ok-key.ensures (k.name, k.ensures.found.put (text c.in_ok-key.key.now) refl refl, c.in-Ok.ensures.ok) x.ensures.found (c.in-Ok-push_place.ensures.ok ∙ ap (λ z. z ++ place_bytes x.place) x.ensures.places)

pub put_encoded_object-put_list-requires-clause-first : goal.put_encoded_object-put_list-requires-clause-first
put_encoded_object-put_list-requires-clause-first t c = first_within _ _ _ _ _ _ c.loop-i.invariant.put (omega (arith, c.len-first.ensures.len))

pub put_encoded_object-returns-clause-found : goal.put_encoded_object-returns-clause-found
put_encoded_object-returns-clause-found t c =
    let start : c.len-first.result ≡ length c.args.places.now.items = omega (arith, c.len-first.ensures.len) in
    object_encoded _ _ c.loop-i._i _ _ _ _ _ _ _ _ _ (omega (arith, c.loop-i-test.false)) c.loop-i.invariant start c.in-Ok-put_list.ensures.ok

pub put_encoded_object-returns-clause-places : goal.put_encoded_object-returns-clause-places
put_encoded_object-returns-clause-places t c = other_places _ _ _ _ _ _ _ c.loop-i.invariant.put (omega (arith, c.len-first.ensures.len)) c.in-Ok-put_list.ensures.places
