-- How many bytes were taken.
use Rattle.std.proofs.Common.{ℕ, List, ◌++◌, sym, ap, ◌∙◌, append_assoc, arith}
use Rattle.std.proofs.lemmas.List.{length-append}
use Rattle.tv_base.specs.Stop.{Taken}

pub taken_more : (a b c : List ℕ) (m n k : ℕ) → Taken a b m n → Taken b c n k → Taken a c m k
taken_more a b c m n k s t = record {
  prefix = s.prefix ++ t.prefix;
  joined = s.joined ∙ ap (λ l. s.prefix ++ l) t.joined ∙ sym (append_assoc s.prefix t.prefix c);
  counted = omega (arith, s.counted, t.counted, length-append s.prefix t.prefix);
}
