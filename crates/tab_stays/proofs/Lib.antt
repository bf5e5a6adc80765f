pub mod Log
pub mod Free
