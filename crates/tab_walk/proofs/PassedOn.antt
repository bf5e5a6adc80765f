-- What is passed on of the crates below, for those above.
pub use Rattle.tab_evicts.proofs.Hangings.{none_awake}
pub use Rattle.tab_evicts.proofs.Quiets.{nav_of_load}
pub use Rattle.tab_moves.proofs.Needing.{aim_is, need_here, stand_for}
pub use Rattle.tab_moves.proofs.PassedOn.{kept_none, kept_then, leaving_none, moved_is, only_none, passed_is, running_is}
pub use Rattle.tab_moves.proofs.Shown.{has_filter_map}
