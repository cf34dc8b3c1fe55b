use Rattle.std.proofs.Common.{string_bytes, rules}
use Rattle.std.specs.Prelude.{Some}
use Rattle.tv_json.proofs.open_lists.next_child.Goals as goal

pub returns-in_ok-key-in-InOrder-clause-ok : goal.returns-in_ok-key-in-InOrder-clause-ok
returns-in_ok-key-in-InOrder-clause-ok g c = (Some (g.N.Key.AsStr.text c.in-Some-key.key), search rules, search rules)

pub returns-in_ok-key-in-ByKey-clause-ok : goal.returns-in_ok-key-in-ByKey-clause-ok
returns-in_ok-key-in-ByKey-clause-ok g c = (Some (string_bytes c.in-Some-next.key), search rules, search rules)
