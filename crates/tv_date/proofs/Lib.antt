pub mod Printing
pub mod CivilText
pub mod Shapes
pub mod ShapesAgain
pub mod ReadBack
