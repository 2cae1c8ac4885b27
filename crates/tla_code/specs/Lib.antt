pub mod Raise
pub mod Forms
pub mod CodeExpr
pub mod NoVariables
pub mod Laws
pub mod Private
