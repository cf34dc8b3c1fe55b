use Rattle.std.proofs.Common.{◌≡◌, length, arith}
use Rattle.tv_builder.specs.HeldPairs.{heap_of, RefusesAddition}
use Rattle.tv_builder.specs.Whole.{WhyNotWithin}
use Rattle.tv_builder.specs.declared.errors.AddError.{AddError}
use Rattle.tv_builder.specs.declared.errors.AddError.TheVariants.{HeapFull, Memory}
use Rattle.tv_builder.specs.declared.heap_pairs.HeapPairs.{HeapPairs}
use Rattle.tv_format.specs.Tree.{Tree}
use Rattle.tv_builder.proofs.Kept.{Written, kept_fields, kept_adds, kept_memory, cut_fields, cut_memory, cut_unchanged}
use Rattle.tv_builder.proofs.heap_pairs.HeapPairs.add_whole.Goals as goal

refuses : (old : HeapPairs) (t : Tree) (e : AddError) → WhyNotWithin (heap_of old) t e → RefusesAddition old t e
refuses old t HeapFull h = h
refuses old t Memory h = h

pub invariant_of-self : goal.invariant_of-self
invariant_of-self g c =
    let old = c.args.self.now in
    let len : c.len-len.result ≡ length (heap_of old) = omega (arith, c.len-len.ensures.len) in
    let written : Written old c.put_within.new.heap.items c.len-len.result c.args.field (g.V.Value.tree c.args.value.now) c.in-Ok.place = record { len_is = len; field_fits = omega arith; put = c.in-Ok.ensures.ok.put } in
    let fields = kept_fields old _ _ _ _ _ _ _ _ written c.keep_pair.ensures in
    record { document = fields.document; bytes = fields.bytes; fits = fields.fits }

pub invariant_of-self-in-Err : goal.invariant_of-self-in-Err
invariant_of-self-in-Err g c =
    let old = c.args.self.now in
    let len : c.len-len.result ≡ length (heap_of old) = omega (arith, c.len-len.ensures.len) in
    let fields = cut_fields old c.put_within.new.heap.items _ _ c.len-len.result c.in-Err.ensures.err.prefix len c.truncate.ensures.items (λ i. old.pairs.items) in
    record { document = fields.document; bytes = fields.bytes; fits = fields.fits }

pub returns-in-Ok-clause-adds : goal.returns-in-Ok-clause-adds
returns-in-Ok-clause-adds g c =
    let old = c.args.self.now in
    let len : c.len-len.result ≡ length (heap_of old) = omega (arith, c.len-len.ensures.len) in
    let written : Written old c.put_within.new.heap.items c.len-len.result c.args.field (g.V.Value.tree c.args.value.now) c.in-Ok.place = record { len_is = len; field_fits = omega arith; put = c.in-Ok.ensures.ok.put } in
    kept_adds old _ _ _ _ _ _ _ c.in-Ok.ensures.ok.within written c.keep_pair.ensures

pub returns-in-Err-clause-adds : goal.returns-in-Err-clause-adds
returns-in-Err-clause-adds g c =
    let old = c.args.self.now in
    let len : c.len-len.result ≡ length (heap_of old) = omega (arith, c.len-len.ensures.len) in
    let not = c.in-Err.ensures.err in
    (refuses old _ _ not.why, cut_unchanged old _ c.put_within.new.heap.items c.len-len.result not.prefix len c.truncate.ensures.items (λ i. old.pairs.items))

pub returns-in-Ok-clause-memory : goal.returns-in-Ok-clause-memory
returns-in-Ok-clause-memory g c = kept_memory _ _ _ _ _ _ _ _ _ c.keep_pair.result c.keep_pair.ensures

pub returns-in-Err-clause-memory : goal.returns-in-Err-clause-memory
returns-in-Err-clause-memory g c = cut_memory _ _ c.in-Err.error (λ e. omega (arith, c.truncate.ensures.capacity, c.in-Err.ensures.memory e))
