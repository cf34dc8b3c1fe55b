-- Whether tokens are the same, and texts with their tokens.
use Rattle.std.specs.Prelude.{ℕ, Bool, ◌&&◌, List, nat_eq}
use Rattle.std.specs.Cmp.Lexicographic.{pointwise}
use Rattle.tv_format.specs.Tree.{Token}

abbrev pub token_eq : Token → Token → Bool
token_eq token t =
    nat_eq token.offset_from t.offset_from
    && (nat_eq token.offset_to t.offset_to && (nat_eq token.position t.position
    && (pointwise nat_eq token.text t.text && nat_eq token.position_length t.position_length)))

abbrev pub tokens_eq : List Token → List Token → Bool
tokens_eq = pointwise token_eq

-- a text, and its tokens
abbrev pub tokenized_eq : List ℕ × List Token → List ℕ × List Token → Bool
tokenized_eq s t = pointwise nat_eq s.0 t.0 && tokens_eq s.1 t.1
