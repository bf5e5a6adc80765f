pub mod Serving
pub mod Walking
