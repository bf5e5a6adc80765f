pub mod FrameRows
pub mod LoadRows
pub mod LeaveRows
pub mod Owed
pub mod RestRows
pub mod WalkRows
pub mod Left
