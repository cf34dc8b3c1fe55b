use Rattle.std.proofs.Common.{inr, string_bytes}
use Rattle.tv_lines.proofs.export.write_json.Goals as goal

pub returns-in-Err-clause-err : goal.returns-in-Err-clause-err
returns-in-Err-clause-err g c = λ known. inr (string_bytes c.append_json.new.text, (rw c.clear.ensures.bytes at c.in_ok-append_json.ensures.appended), (rw c.as_bytes.ensures.value at c.in-Err.ensures.appends known))
