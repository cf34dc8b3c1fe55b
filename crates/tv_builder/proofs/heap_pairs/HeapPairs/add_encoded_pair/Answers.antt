use Rattle.std.proofs.Common.{◌≡◌, length, arith}
use Rattle.tv_format.specs.WriteVersion.{written_version}
use Rattle.tv_builder.specs.HeldPairs.{heap_of}
use Rattle.tv_builder.proofs.Kept.{Written, kept_fields, kept_unchanged, cut_fields, cut_unchanged}
use Rattle.tv_builder.proofs.EncodedPairs.{FieldFound, pair_added}
use Rattle.tv_builder.proofs.heap_pairs.HeapPairs.add_encoded_pair.Goals as goal

pub invariant_of-self : goal.invariant_of-self
invariant_of-self c =
    let old = c.args.self.now in
    let len : c.len-len.result ≡ length (heap_of old) = omega (arith, c.len-len.ensures.len) in
    let fields = cut_fields old c.put_encoded.new.heap.items _ _ c.len-len.result c.put_encoded.ensures.prefix len c.truncate.ensures.items (λ i. old.pairs.items) in
    record { document = fields.document; bytes = fields.bytes; fits = fields.fits }

pub returns-in_default-clause-none : goal.returns-in_default-clause-none
returns-in_default-clause-none c =
    let old = c.args.self.now in
    let len : c.len-len.result ≡ length (heap_of old) = omega (arith, c.len-len.ensures.len) in
    cut_unchanged old _ c.put_encoded.new.heap.items c.len-len.result c.put_encoded.ensures.prefix len c.truncate.ensures.items (λ i. old.pairs.items)

pub invariant_of-self-2 : goal.invariant_of-self-2
invariant_of-self-2 c =
    let old = c.args.self.now in
    let len : c.len-len.result ≡ length (heap_of old) = omega (arith, c.len-len.ensures.len) in
    let s = c.in-Some.ensures.found in
    let written : Written old c.put_encoded.new.heap.items c.len-len.result c.from_le_bytes-field.result s.tree c.in-Some.place = record { len_is = len; field_fits = omega arith; put = s.put } in
    let fields = kept_fields old _ _ _ _ _ _ _ _ written c.keep_pair.ensures in
    record { document = fields.document; bytes = fields.bytes; fits = fields.fits }

pub returns-in-Ok-clause-added : goal.returns-in-Ok-clause-added
returns-in-Ok-clause-added c =
    let old = c.args.self.now in
    let len : c.len-len.result ≡ length (heap_of old) = omega (arith, c.len-len.ensures.len) in
    let s = c.in-Some.ensures.found in
    let found : FieldFound c.args.bytes.now c.in_ok-prefix.prefix.now c.in_ok-prefix.value.now c.from_le_bytes-field.result =
    record {
      prefix_is = c.in_ok-prefix.ensures.cases.0;
      value_is = c.in_ok-prefix.ensures.cases.1;
      long = omega (arith, c.in_ok-prefix.ensures.cases.2);
      small = λ i. omega (arith, c.type_inv.bytes i);
      number = c.from_le_bytes-field.ensures;
    } in
    let written : Written old c.put_encoded.new.heap.items c.len-len.result c.from_le_bytes-field.result s.tree c.in-Some.place = record { len_is = len; field_fits = omega arith; put = s.put } in
    pair_added (written_version c.args.version) old _ _ _ _ c.in-Some.rest.now _ _ _ _ s found written c.in-Ok.ensures

pub returns-in-Err-clause-none : goal.returns-in-Err-clause-none
returns-in-Err-clause-none c =
    let old = c.args.self.now in
    let len : c.len-len.result ≡ length (heap_of old) = omega (arith, c.len-len.ensures.len) in
    let s = c.in-Some.ensures.found in
    let written : Written old c.put_encoded.new.heap.items c.len-len.result c.from_le_bytes-field.result s.tree c.in-Some.place = record { len_is = len; field_fits = omega arith; put = s.put } in
    kept_unchanged old _ _ _ _ _ _ _ written c.in-Err.ensures
