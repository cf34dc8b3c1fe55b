pub mod DateTime
pub mod Rfc3339
pub mod Shape
pub mod Printed
