pub mod Puts
pub mod PutsLaws
