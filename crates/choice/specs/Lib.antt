pub mod Parent
