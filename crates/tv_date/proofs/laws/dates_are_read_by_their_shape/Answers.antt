use Rattle.tv_date.proofs.Shapes.{fields_takes}
use Rattle.tv_date.proofs.ShapesAgain.{fields_again}
use Rattle.tv_date.proofs.laws.dates_are_read_by_their_shape.Goals as goal

pub returns-clause-read : goal.returns-clause-read
returns-clause-read c = fields_takes

pub returns-clause-again : goal.returns-clause-again
returns-clause-again c = fields_again
