pub mod Pointwise
pub mod Alike
pub mod RaisedValue
pub mod SteadyValue
pub mod Closed
pub mod Twice
pub mod Listed
pub mod SteadyLiterals
