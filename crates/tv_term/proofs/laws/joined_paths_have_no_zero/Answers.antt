use Rattle.tv_term.proofs.Written.{HasNoZero-joined_path, HasNoZero-from_joined_path}
use Rattle.tv_term.proofs.laws.joined_paths_have_no_zero.Goals as goal

pub returns : goal.returns
returns c expand_dots path = (HasNoZero-joined_path expand_dots path, HasNoZero-from_joined_path expand_dots path)
