-- steps of calls that read values of a store, for types of your own
pub use Rattle.tv_typed.proofs.DeserializeSteps
pub use Rattle.tv_typed.proofs.TreeTypeSteps
