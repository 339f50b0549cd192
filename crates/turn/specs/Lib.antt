pub mod Turn
pub mod Trees
