pub mod Private
pub use Rattle.tla_operators.specs.Gives
