-- The promises of calls that make terms.
use Rattle.std.specs.Prelude.{◌≡◌, ◌≢◌, ◌++◌, ◌∷◌, [], List, ℕ, Result, Ok, Err, OnErr, OnOk}
use Rattle.std.proofs.Common.{sym, ◌∙◌}
use Rattle.tv_term.specs.Key.{TermValue, AppendsCoded, payload, value_code}
use Rattle.tv_term.specs.Making.{AppendsValue, NulOrMemory, OnlyMemory}
use Rattle.tv_term.specs.declared.term.TermError.{TermError}

-- a path without U+0000 leaves no error but that memory was refused
pub without_nul : {T HasNoNul : Type 0} (r : Result T TermError) → HasNoNul → OnlyMemory r → NulOrMemory HasNoNul r
without_nul (Ok made) no_nul only = record { has_no_nul = no_nul; nul = (λ is given. (cc), λ none. absurd (none no_nul)); memory = λ given. tt }
without_nul (Err error) no_nul only = record { has_no_nul = tt; nul = (λ is given. (cc), λ none. absurd (none no_nul)); memory = λ given. only }

-- bytes after others
behind : (old rest : List ℕ) (b : ℕ) → old ++ b ∷ rest ≢ []
behind [] rest b e = cc
behind (c ∷ old) rest b e = cc

-- where a value was appended, there is a term
pub appends_value : {E : Type 0} (r : Result (Unit {0}) E) (old new : List ℕ) (value : TermValue) → OnOk r (AppendsCoded old new value) → OnErr r (new ≡ old) → AppendsValue old new value r
appends_value (Ok done) old new value appended unchanged =
    record { appended = appended; has_term = λ none. behind old (payload value) (value_code value) (sym appended.bytes_are ∙ none); unchanged = unchanged }
appends_value (Err error) old new value appended unchanged = record { appended = appended; has_term = tt; unchanged = unchanged }
