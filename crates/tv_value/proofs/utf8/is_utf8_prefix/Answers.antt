use Rattle.std.proofs.Common.{refl}
use Rattle.std.proofs.lemmas.Str.{IsUtf8-from_ascii}
use Rattle.tv_value.proofs.utf8.is_utf8_prefix.Goals as goal

pub returns-then-is_ascii_prefix : goal.returns-then-is_ascii_prefix
returns-then-is_ascii_prefix c = (λ _. IsUtf8-from_ascii _ (c.is_ascii_prefix.ensures c.if-is_ascii_prefix.true), λ _. refl)
