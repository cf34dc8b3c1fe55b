use Rattle.tv_indexing.specs.Agree.{FindSame, SaySame}
use Rattle.tv_indexing.specs.JsonRanges.{RangesInField}
use Rattle.tv_indexing.proofs.OneAnswer.{at_path_one}
use Rattle.tv_indexing.proofs.OneRange.{ranges_one}
use Rattle.tv_indexing.proofs.laws.ranges_between_texts_are_determined.Goals as goal

pub returns-clause-at_path : goal.returns-clause-at_path
returns-clause-at_path c = λ schema path start end one other x y.
    at_path_one (λ e. e) SaySame FindSame (λ e f same. same) (λ at. RangesInField at start end) schema path one other (λ at. ranges_one at start end one other) x y

pub returns-clause-in_field : goal.returns-clause-in_field
returns-clause-in_field c = λ at start end one other x y. ranges_one at start end one other x y
