use Rattle.std.proofs.Common.{◌≡◌, Ok, refl}
use Rattle.tv_indexing.specs.Agree.{SaySame}
use Rattle.tv_indexing.proofs.OneAnswer.{at_path_one}
use Rattle.tv_indexing.proofs.laws.fields_of_paths_are_determined.Goals as goal

pub returns : goal.returns
returns c = λ schema path one other x y. at_path_one (λ e. e) SaySame (λ at also. at ≡ also) (λ e f same. same) (λ at found. found ≡ Ok at) schema path one other (λ at v w. rw (v, w) refl) x y
