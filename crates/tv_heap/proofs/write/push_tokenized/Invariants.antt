use Rattle.std.proofs.Common.{◌≡◌, ◌+◌, ◌++◌, length}
use Rattle.std.specs.List.{flat_map}
use Rattle.tv_base.specs.Buffer.{GrowsWithin}
use Rattle.tv_base.specs.Sink.{IsPrefix}
use Rattle.tv_value.specs.PreTokenized.{text_of, tokens_of, tokens_left}
use Rattle.tv_format.specs.Short.{short_token, short_tokenized}
use Rattle.tv_heap.proofs.write.push_tokenized.Given as goal

-- what is written, and then the tokens that are left
abbrev pub invariant-loop-token : goal.invariant-loop-token
invariant-loop-token l = record {
  grown : GrowsWithin (length l.fn.heap.items + length (short_tokenized (text_of l.fn.content) (tokens_of l.fn.content))) l.fn.heap l.heap;
  prefix : IsPrefix l.fn.heap.items l.heap.items;
  whole : l.heap.items ++ flat_map short_token (tokens_left l.token-iterator) ≡ l.fn.heap.items ++ short_tokenized (text_of l.fn.content) (tokens_of l.fn.content);
}
