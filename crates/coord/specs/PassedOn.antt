-- What is passed on of the crates below, for those above.
pub use Rattle.tab_stands.specs.Delivering.{IsDelivery}
pub use Rattle.tab_stands.specs.PassedOn.{IsSoundTask}
pub use Rattle.tab_stands.specs.Poking.{ReachesOne}
pub use Rattle.tab_stands.specs.Standing.{HasRoomFor, opened_at}
pub use Rattle.user_evicts.specs.Evicting.{IsEvictAsk}
