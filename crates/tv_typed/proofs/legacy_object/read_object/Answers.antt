use Rattle.tv_reader.specs.Version.{version_of}
use Rattle.tv_typed.specs.Lists.{ObjectRefused}
use Rattle.tv_typed.specs.LegacyObjects.{MembersRefused, in_other}
use Rattle.tv_typed.proofs.LegacySteps.{legacy_among, goes_more}
use Rattle.tv_typed.proofs.legacy_object.read_object.Goals as goal

pub returns-in-JSONObject : goal.returns-in-JSONObject
returns-in-JSONObject g c =
    let T = g.T.ValueDeserialize in
    record {
      deserializes = legacy_among g.C.Entries.is (ObjectRefused T.is T.refused) (version_of c.args.reader.now.version) c.args.kind c.in-JSONObject.is c.legacy_object.ensures;
      deep = λ o t is other. absurd (other c.in-JSONObject.is);
      within = λ o t is other. absurd (other c.in-JSONObject.is);
    }

pub returns-in_default : goal.returns-in_default
returns-in_default g c =
    let T = g.T.ValueDeserialize in
    let r = c.read_coded.ensures in
    record {
      deserializes = goes_more (MembersRefused (ObjectRefused T.is T.refused) (version_of c.args.reader.now.version) c.args.kind) (λ w d f. in_other c.in_default.not-JSONObject f) r.deserializes;
      deep = λ o t is other. r.deep o t is;
      within = λ o t is other. r.within o t is;
    }
