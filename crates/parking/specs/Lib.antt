pub mod Park
pub mod Chart
