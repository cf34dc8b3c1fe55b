use Rattle.tv_store.proofs.RoundTrips.{trips_alike}
use Rattle.tv_store.proofs.laws.trips_are_alike.Goals as goal

pub returns : goal.returns
returns c = trips_alike
