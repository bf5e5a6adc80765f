pub mod StoreReads
pub mod WorldReport
pub mod ShownNavs
