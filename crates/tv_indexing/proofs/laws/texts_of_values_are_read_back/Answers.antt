use Rattle.tv_indexing.proofs.ReadBack.{term_is_read, text_is_read}
use Rattle.tv_indexing.proofs.laws.texts_of_values_are_read_back.Goals as goal

pub returns-clause-value : goal.returns-clause-value
returns-clause-value c type l is = text_is_read type l c.printed_facets_are_read.ensures c.printed_dates_are_read.ensures is

pub returns-clause-term : goal.returns-clause-term
returns-clause-term c field type l value is e fits = term_is_read field type l value (text_is_read type l c.printed_facets_are_read.ensures c.printed_dates_are_read.ensures is) is e fits
