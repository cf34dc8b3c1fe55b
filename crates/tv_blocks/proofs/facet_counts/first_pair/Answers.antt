use Rattle.std.proofs.Common.{arith}
use Rattle.std.specs.Prelude.{IsUtf8}
use Rattle.tv_blocks.proofs.FacetPairs.{cut_short, is_bad, is_good, no_text, record_read}
use Rattle.tv_blocks.proofs.facet_counts.first_pair.Goals as goal

pub returns-then-behind-len : goal.returns-then-behind-len
returns-then-behind-len c =
    let head = c.in_ok-document.ensures.cases in
    let size = c.in_ok-len.ensures.cases in
    cut_short c.args.bytes.now c.in_ok-document.behind.now c.in_ok-len.len.now c.in_ok-len.behind.now c.from_le_bytes-len.result (omega arith) head.1 size.0 size.1 c.from_le_bytes-len.ensures c.if-behind-len.true

pub returns-then-is_err : goal.returns-then-is_err
returns-then-is_err c =
    let head = c.in_ok-document.ensures.cases in
    let size = c.in_ok-len.ensures.cases in
    no_text c.args.bytes.now c.in_ok-document.behind.now c.in_ok-len.len.now c.in_ok-len.behind.now c.split_at.result.0.now c.from_le_bytes-len.result (omega arith) head.1 size.0 size.1 c.from_le_bytes-len.ensures c.split_at.ensures.front
    (is_bad _ _ (IsUtf8 c.split_at.result.0.now) c.from_utf8.result c.is_err.result c.from_utf8.ensures.cases c.is_err.ensures.value c.if-is_err.true)

pub returns : goal.returns
returns c =
    let head = c.in_ok-document.ensures.cases in
    let size = c.in_ok-len.ensures.cases in (
      (is_good _ _ (IsUtf8 c.split_at.result.0.now) c.from_utf8.result c.is_err.result c.from_utf8.ensures.cases c.is_err.ensures.value c.if-is_err.false, omega (arith, c.from_le_bytes-document.type_inv)),
      record_read c.args.bytes.now c.in_ok-document.document.now c.in_ok-document.behind.now c.in_ok-len.len.now c.in_ok-len.behind.now c.split_at.result.0.now c.split_at.result.1.now c.from_le_bytes-document.result c.from_le_bytes-len.result
          (λ i. omega (arith, c.type_inv.bytes i)) (omega arith) (omega arith) head.0 head.1 size.0 size.1 c.from_le_bytes-document.ensures c.from_le_bytes-len.ensures (omega arith) c.split_at.ensures.front c.split_at.ensures.back c.split_at.ensures.front_len,
    )
