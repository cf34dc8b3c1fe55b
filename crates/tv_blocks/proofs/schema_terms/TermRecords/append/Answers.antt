use Rattle.std.proofs.Common.{List, ℕ, ap, arith, drop, length, take, ◌++◌, ◌-◌, ◌∙◌}
use Rattle.std.proofs.lemmas.List.{length-drop, take_all}
use Rattle.std.proofs.lemmas.Result.{on_ok_weaker}
use Rattle.tv_blocks.specs.SchemaTerms.{common_len}
use Rattle.tv_blocks.proofs.Prefixes.{common_len-rest}
use Rattle.tv_blocks.proofs.schema_terms.TermRecords.append.Goals as goal

pub returns-in_err-append_numbered-clause-before : goal.returns-in_err-append_numbered-clause-before
returns-in_err-append_numbered-clause-before c = c.in_err-append_numbered.ensures.before

pub returns-clause-last : goal.returns-clause-last
returns-clause-last c =
    let last = c.args.self.now.last.items in
    let term = c.args.term.now in
    let shared = c.common_len-shared.result in
    let rest = take_all (length term - shared) (drop shared term) (omega (arith, length-drop shared term)) in
    on_ok_weaker c.replace_end.result
    (λ put. put ∙ ap (λ (l : List ℕ). take shared last ++ l) rest ∙ ap (λ (n : ℕ). take n last ++ drop n term) (c.common_len-shared.ensures.len ∙ ap (λ (l : List ℕ). common_len l term) c.as_slice.ensures.value)
    ∙ common_len-rest last term)
    c.replace_end.ensures.made
