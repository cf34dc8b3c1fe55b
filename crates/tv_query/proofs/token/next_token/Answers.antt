use Rattle.std.proofs.Common.{subst, sym}
use Rattle.tv_query.specs.Refusals.{RefusesToken, quoted_alone, unquoted_path}
use Rattle.tv_query.specs.Tokens.{closes, opens}
use Rattle.tv_query.proofs.Words.{begins_word}
use Rattle.tv_query.proofs.token.next_token.Goals as goal

pub returns-in-Some-clause-found : goal.returns-in-Some-clause-found
returns-in-Some-clause-found c = opens c.in-Some.ensures

pub returns-in-Some-after_byte-clause-found : goal.returns-in-Some-after_byte-clause-found
returns-in-Some-after_byte-clause-found c = closes c.in-Some-after_byte.ensures

pub returns-in-None-clause-refused : goal.returns-in-None-clause-refused
returns-in-None-clause-refused c = quoted_alone (rw c.in-Ok-Some.field-0-is at c.in-Ok-Some.ensures.found) c.in-None.ensures

pub returns-in-Err-clause-refused : goal.returns-in-Err-clause-refused
returns-in-Err-clause-refused c = subst (RefusesToken c.args.text.now) (sym c.in-Err.ensures.refused.0) (unquoted_path c.in-Err.ensures.refused.1)

pub word_token-requires-clause-no_end : goal.word_token-requires-clause-no_end
word_token-requires-clause-no_end c = begins_word _ c.requires.no_space c.in_default.ensures c.in_default-after_byte.ensures (rw c.in-Ok-None.field-0-is at c.in-Ok-None.ensures.found)
