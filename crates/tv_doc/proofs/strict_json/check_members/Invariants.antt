use Rattle.std.proofs.Common.{ℕ, List, length}
use Rattle.tv_doc.specs.NotedFields.{AreNoted}
use Rattle.tv_doc.specs.StrictJson.{NameFieldsOnce}
use Rattle.tv_doc.proofs.KeysRead.{KeysSoFar}
use Rattle.tv_doc.proofs.strict_json.check_members.Given as goal

-- the keys before this place name fields, each once, and these are noted
abbrev pub invariant-keys : goal.invariant-keys
invariant-keys l = record {
  before : List (List ℕ);
  so_far : KeysSoFar 126 l.initial.reader l.reader before;
  noted : AreNoted l.schema before l.noted;
  accepted : NameFieldsOnce l.schema before;
}

abbrev pub decreases-keys : goal.decreases-keys
decreases-keys l = length l.reader
