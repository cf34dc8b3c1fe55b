use Rattle.std.proofs.lemmas.Slice.Eq.{bytes_eq-Decides}
use Rattle.tv_term.specs.Key.{term}
use Rattle.tv_term.proofs.Orders.{equal-keys}
use Rattle.tv_term.proofs.laws.equal_terms_have_equal_keys.Goals as goal

pub returns : goal.returns
returns c f g a b hf hg ha hb e = equal-keys f g a b hf hg ha hb ((bytes_eq-Decides (term f a) (term g b)).0 e)
