use Rattle.tv_base.proofs.JsonPaths.{joined_path-is}
use Rattle.tv_base.proofs.json_path.push_joined_json_path.Goals as goal

pub returns : goal.returns
returns c = record {
  added = rw (joined_path-is c.args.expand_dots c.args.path.now) c.rewrite.ensures.written;
  unchanged = c.rewrite.ensures.unchanged;
}
