pub mod Point
pub mod Figures
