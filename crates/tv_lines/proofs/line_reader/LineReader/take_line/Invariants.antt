use Rattle.std.proofs.Common.{◌≡◌, ◌++◌, ◌+◌, ◌≤◌, ◌-◌, ◌^◌, length}
use Rattle.tv_lines.specs.Lines.{IsUnbroken}
use Rattle.tv_lines.specs.Reader.{unread, most_left}
use Rattle.tv_base.specs.Stop.{Taken}
use Rattle.tv_lines.proofs.line_reader.LineReader.take_line.Given as goal

abbrev pub invariant-pieces : goal.invariant-pieces
invariant-pieces g l =
    let source = g.S.ByteSource in
    record {
      unbroken : source.is_known l.initial.source → IsUnbroken l.line.items;
      cut : source.is_known l.initial.source → unread l.initial.self ++ source.left l.initial.source ≡ l.line.items ++ (unread l.self ++ source.left l.source);
      stays_known : source.is_known l.initial.source → source.is_known l.source;
      same_failures : source.failures l.source ≡ source.failures l.initial.source;
      taken : source.is_known l.initial.source → Taken (source.left l.initial.source) (source.left l.source) l.initial.self.count l.self.count;
      fewer : most_left l.self + length l.line.items ≤ most_left l.initial.self;
    }

abbrev pub decreases-pieces : goal.decreases-pieces
decreases-pieces g l = 2 ^ 64 - 1 - l.self.count
