use Rattle.std.proofs.Common.{rules, ◌≡◌, ◌≢◌, ◌∷◌, ◌++◌, [], false, ap, drop, subst, ◌∙◌}
use Rattle.tv_base.specs.JsonPath.{joined_path}
use Rattle.tv_indexing.specs.DocumentTerms.{AreAppended, has_zero}
use Rattle.tv_indexing.specs.JsonWalk.{separated}
use Rattle.tv_indexing.specs.TextTerms.{leaves_terms}
use Rattle.tv_indexing.proofs.TextSteps.{appended}
use Rattle.tv_indexing.proofs.Walks.{kept_whole}
use Rattle.tv_indexing.proofs.text_terms.push_text_below.Goals as goal

pub returns-in-Ok-clause-answers : goal.returns-in-Ok-clause-answers
returns-in-Ok-clause-answers c =
    let at = c.args.at in
    let path = c.args.path.now in
    let text : c.as_str.result.now ≡ joined_path at.expand_dots path = search (rules, c.as_str.ensures, c.in_ok-push_joined_json_path.ensures.added, c.new-keys.ensures.bytes) in
    let keys : c.push_key.new.self ≡ 1 ∷ joined_path at.expand_dots path = c.in_ok-push_key.ensures ∙ ap (λ l. l ++ separated false c.as_str.result.now) c.new-buffer.ensures ∙ ap (λ k. 1 ∷ k) (kept_whole c.as_str.result.now ∙ text) in
    let m = c.in-Ok.ensures.made in
    let a = appended c.args.terms.now c.push_all_written.new.terms (leaves_terms at.field (joined_path at.expand_dots path) m.0)
    (subst (λ bytes. AreAppended c.args.terms.now c.push_all_written.new.terms (leaves_terms at.field (drop 1 bytes) m.0)) keys m.3) in
    let some : path ≢ [] = search (rules, c.if-is_empty.false, c.is_empty.ensures) in
    let plain : has_zero path ≡ false = search (rules, c.if-contains.false, c.contains.ensures.value, c.as_bytes.ensures.value) in
    (a.0, (some, plain, (m.0, m.1, m.2, a.1)), a.2)
