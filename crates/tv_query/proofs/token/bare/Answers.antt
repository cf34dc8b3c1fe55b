use Rattle.std.proofs.Common.{◌≡◌, ◌≢◌, List, ℕ, rules, sym, subst}
use Rattle.tv_query.specs.Tokens.{BeginsWithWanted, BeginsWithWord, IsUpTo, of_range, all, ends_word, star, word_prefix, word_text}
use Rattle.tv_query.proofs.Words.{is_empty, no_bracket_in, not_empty, nothing_wanted}
use Rattle.tv_query.proofs.token.bare.Goals as goal

pub returns-then-is_empty-clause-refused : goal.returns-then-is_empty-clause-refused
returns-then-is_empty-clause-refused c = nothing_wanted _ _ _ c.split.ensures (is_empty _ c.if-is_empty.ensures) c.requires.no_quote

pub returns-then-eq-clause-found : goal.returns-then-eq-clause-found
returns-then-eq-clause-found c =
    let is : c.split.result.0.now ≡ star = search rules in
    subst (λ (w : List ℕ). BeginsWithWanted c.args.text.now (of_range w) c.split.result.1.now) (sym is)
    (all (subst (λ (w : List ℕ). IsUpTo ends_word c.args.text.now w c.split.result.1.now) is c.split.ensures))

pub returns-in-Some-clause-found : goal.returns-in-Some-clause-found
returns-in-Some-clause-found c =
    let other : c.split.result.0.now ≢ star = search rules in
    let word : BeginsWithWord c.args.text.now c.split.result.0.now c.split.result.1.now = record {
      up_to = c.split.ensures;
      some = not_empty _ c.if-is_empty.ensures;
      no_bracket = no_bracket_in _ _ _ c.split.ensures.text_is c.requires.no_bracket;
      no_star = other;
    } in
    word_prefix (subst (λ (w : List ℕ). BeginsWithWord c.args.text.now w c.split.result.1.now) c.in-Some.ensures word)

pub returns-in-None-clause-found : goal.returns-in-None-clause-found
returns-in-None-clause-found c =
    let other : c.split.result.0.now ≢ star = search rules in
    let word : BeginsWithWord c.args.text.now c.split.result.0.now c.split.result.1.now = record {
      up_to = c.split.ensures;
      some = not_empty _ c.if-is_empty.ensures;
      no_bracket = no_bracket_in _ _ _ c.split.ensures.text_is c.requires.no_bracket;
      no_star = other;
    } in
    word_text word c.in-None.ensures
