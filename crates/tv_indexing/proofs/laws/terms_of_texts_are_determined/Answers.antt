use Rattle.std.proofs.Common.{◌≡◌, List, ℕ}
use Rattle.tv_field.specs.Entry.{Entry}
use Rattle.tv_indexing.specs.Agree.{SaySame}
use Rattle.tv_indexing.specs.TextTerms.{AnswersText, TermsAnswer, TermsInField}
use Rattle.tv_indexing.proofs.OneAnswer.{SameTerms, appended_one, at_path_one, terms_one}
use Rattle.tv_indexing.proofs.laws.terms_of_texts_are_determined.Goals as goal

at_path : (schema : List Entry) (path text : List ℕ) (one other : TermsAnswer) → AnswersText schema path text one → AnswersText schema path text other → SameTerms one other
at_path schema path text one other x y = at_path_one (λ e. e) SaySame (λ made also. made ≡ also) (λ e f same. same) (λ at. TermsInField at text) schema path one other (λ at. terms_one at text one other) x y

pub returns-clause-at_path : goal.returns-clause-at_path
returns-clause-at_path c = λ schema path text one other x y. at_path schema path text one other x y

pub returns-clause-in_field : goal.returns-clause-in_field
returns-clause-in_field c = λ at text one other x y. terms_one at text one other x y

pub returns-clause-lists : goal.returns-clause-lists
returns-clause-lists c = λ schema path text old new also one other x y. appended_one (AnswersText schema path text) old new also one other (at_path schema path text) x y

pub returns-clause-lists_in_field : goal.returns-clause-lists_in_field
returns-clause-lists_in_field c = λ at text old new also one other x y. appended_one (TermsInField at text) old new also one other (terms_one at text) x y
