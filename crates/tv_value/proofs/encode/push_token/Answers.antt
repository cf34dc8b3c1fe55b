use Rattle.std.proofs.Common.{◌≡◌, ◌++◌, ℕ, List, append_assoc, ap, ◌∙◌}
use Rattle.std.proofs.lemmas.Result.{on_ok_weaker}
use Rattle.tv_value.proofs.encode.push_token.Goals as goal

-- what five calls appended
five_parts : (old a b c d e one two three four last : List ℕ) → one ≡ old ++ a → two ≡ one ++ b → three ≡ two ++ c → four ≡ three ++ d → last ≡ four ++ e → last ≡ old ++ (a ++ (b ++ (c ++ (d ++ e))))
five_parts old a b c d e one two three four last h i j k l =
    l ∙ ap (λ z. z ++ e) k ∙ append_assoc three d e ∙ ap (λ z. z ++ (d ++ e)) j ∙ append_assoc two c (d ++ e) ∙ ap (λ z. z ++ (c ++ (d ++ e))) i ∙ append_assoc one b (c ++ (d ++ e))
    ∙ ap (λ z. z ++ (b ++ (c ++ (d ++ e)))) h ∙ append_assoc old a (b ++ (c ++ (d ++ e)))

pub returns-clause-ok : goal.returns-clause-ok
returns-clause-ok c =
    on_ok_weaker c.push_number-4.result
    (five_parts _ _ _ _ _ _ _ _ _ _ _ c.in_ok-push_number.ensures.ok c.in_ok-push_number-2.ensures.ok c.in_ok-push_number-3.ensures.ok c.in_ok-push_text.ensures.ok)
    c.push_number-4.ensures.ok
