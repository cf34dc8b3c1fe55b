use Rattle.tv_indexing.specs.Agree.{FindSame, SaySame}
use Rattle.tv_indexing.specs.JsonRanges.{AnswersBetween, RangesInField}
use Rattle.tv_indexing.proofs.OneAnswer.{at_path_one}
use Rattle.tv_indexing.proofs.OneRange.{in_bounds_one, ranges_of_text_one, ranges_one}
use Rattle.tv_indexing.proofs.laws.ranges_of_texts_are_determined.Goals as goal

pub returns-clause-at_path : goal.returns-clause-at_path
returns-clause-at_path c = λ schema path text one other x y.
    in_bounds_one FindSame (AnswersBetween schema path) text one other
    (λ start end v w. at_path_one (λ e. e) SaySame FindSame (λ e f same. same) (λ at. RangesInField at start end) schema path one other (λ at. ranges_one at start end one other) v w) x y

pub returns-clause-in_field : goal.returns-clause-in_field
returns-clause-in_field c = λ at text one other x y. ranges_of_text_one at text one other x y
