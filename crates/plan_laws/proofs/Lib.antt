pub mod Ways
pub mod Placed
pub mod WalkLaws
pub mod ReachLaws
pub mod StandLaws
pub mod NeedLaws
pub mod LeaveLaws
pub mod Opening
