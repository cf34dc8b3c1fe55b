use Rattle.std.proofs.Common.{◌≡◌, List, ℕ, [], ◌∷◌, ◌++◌, Bool, false, ap, ◌∙◌, sym, append_assoc}
use Rattle.tv_indexing.proofs.Walks.{kept_whole}
use Rattle.tv_indexing.specs.JsonWalk.{separated}
use Rattle.tv_indexing.proofs.term_buffer.push_bytes.Goals as goal

added : (expand_dots : Bool) (old one two key bytes : List ℕ) → expand_dots ≡ false → one ≡ old ++ 1 ∷ [] → two ≡ one ++ bytes → bytes ≡ key → two ≡ old ++ separated expand_dots key
added expand_dots old one two key bytes kept first second is =
    second ∙ ap (λ l. l ++ bytes) first ∙ append_assoc old (1 ∷ []) bytes ∙ ap (λ bs. old ++ 1 ∷ bs) (is ∙ sym (kept_whole key)) ∙ ap (λ b. old ++ separated b key) (sym kept)

pub returns-else-expand_dots : goal.returns-else-expand_dots
returns-else-expand_dots c =
    added c.args.expand_dots c.args.path.now.items c.push.new.self.items c.extend_from_slice.new.self.items c.args.key.now c.as_bytes.result.now
    c.if-expand_dots.false c.in_ok-push.ensures.items c.in_ok-extend_from_slice.ensures.items c.as_bytes.ensures.value
