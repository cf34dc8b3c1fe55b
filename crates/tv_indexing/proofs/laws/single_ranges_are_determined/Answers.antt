use Rattle.tv_indexing.specs.Agree.{HaveSame, SaySame}
use Rattle.tv_indexing.specs.TextRange.{AnswersBounds, RangeInField}
use Rattle.tv_indexing.proofs.OneAnswer.{at_path_one}
use Rattle.tv_indexing.proofs.OneRange.{below_range_one, in_bounds_one, single_one}
use Rattle.tv_indexing.proofs.laws.single_ranges_are_determined.Goals as goal

pub returns-clause-of_text : goal.returns-clause-of_text
returns-clause-of_text c = λ schema path text one other x y.
    in_bounds_one HaveSame (AnswersBounds schema path) text one other
    (λ start end v w. at_path_one (λ e. e) SaySame HaveSame (λ e f same. same) (λ at. RangeInField at start end) schema path one other (λ at. single_one at start end one other) v w) x y

pub returns-clause-at_path : goal.returns-clause-at_path
returns-clause-at_path c = λ schema path start end one other x y.
    at_path_one (λ e. e) SaySame HaveSame (λ e f same. same) (λ at. RangeInField at start end) schema path one other (λ at. single_one at start end one other) x y

pub returns-clause-in_field : goal.returns-clause-in_field
returns-clause-in_field c = λ at start end one other x y. single_one at start end one other x y

pub returns-clause-below : goal.returns-clause-below
returns-clause-below c = λ at text one other x y. below_range_one at text one other x y
