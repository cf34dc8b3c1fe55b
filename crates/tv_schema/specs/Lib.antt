pub mod Schema
pub mod SchemaJson
pub mod SchemaJsonOptions
pub mod SchemaJsonReading
pub mod Table
pub mod Path
pub mod SchemaJsonEarly
