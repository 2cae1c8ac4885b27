pub mod Stacks
pub mod Inserted
pub mod Latest
pub mod Keys
pub mod Tabling
pub mod NewNames
pub mod WellScoped
pub mod WellScopedModule
