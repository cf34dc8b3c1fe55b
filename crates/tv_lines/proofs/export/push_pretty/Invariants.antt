use Rattle.std.proofs.Common.{◌≡◌, ◌++◌, false, length, string_bytes}
use Rattle.std.specs.List.{list_any}
use Rattle.json.specs.Lex.{tokens}
use Rattle.tv_lines.specs.Printing.{is_bad}
use Rattle.tv_lines.proofs.export.push_pretty.Given as goal

abbrev pub invariant-loop-token : goal.invariant-loop-token
invariant-loop-token l = record {
  split : tokens l.json ≡ l.pretty ++ l.reader;
  good : list_any is_bad l.pretty ≡ false;
  same : string_bytes l.text ≡ string_bytes l.initial.text;
}

abbrev pub decreases-loop-token : goal.decreases-loop-token
decreases-loop-token l = length l.reader
