-- Tokens have one reading.
use Rattle.std.proofs.Common.{◌≡◌}
use Rattle.tv_base.specs.Parts.{OneReading}
use Rattle.tv_base.proofs.Agreement.{Agree, one_from, agree_map, agree_then}
use Rattle.tv_base.proofs.Numbers.{agree_number}
use Rattle.tv_base.proofs.Texts.{agree_text}
use Rattle.tv_format.specs.Encoding.{TokenEncoding}
use Rattle.tv_format.specs.Tree.{Token}

pub agree_token : (s t : Token) → Agree (λ b. TokenEncoding b s) (λ b. TokenEncoding b t) (s ≡ t)
agree_token s t =
    agree_map (λ e. λ i. record {
      offset_from = e.0 i;
      offset_to = e.1.0 i;
      position = e.1.1.0 i;
      text = e.1.1.1.0 i;
      position_length = e.1.1.1.1 i;
    })
    (agree_then (agree_number s.offset_from t.offset_from) (λ _.
    (agree_then (agree_number s.offset_to t.offset_to) (λ _.
    (agree_then (agree_number s.position t.position) (λ _.
    (agree_then (agree_text s.text t.text) (λ _. agree_number s.position_length t.position_length))))))))

pub one_token : OneReading TokenEncoding
one_token = one_from TokenEncoding agree_token
