use Rattle.std.proofs.Common.{refl}
use Rattle.std.proofs.lemmas.Str.{IsUtf8-had}
use Rattle.tv_base.proofs.facet.Facet.from_encoded.Goals as goal

pub returns-clause-is_text : goal.returns-clause-is_text
returns-clause-is_text c =
    ((λ _. refl), (λ _. IsUtf8-had c.args.encoded_bytes.items (rw c.in_ok-from_utf8.ensures.ok at c.in_ok-from_utf8.field-0.ok)))
