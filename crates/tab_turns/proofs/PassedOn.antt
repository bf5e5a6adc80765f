-- What is passed on of the crates below, for those above.
pub use Rattle.tab_passes.proofs.PassedOn.{applied_long, fresh, load_pushed_tab, load_replaced_tab, pushed_going, pushed_lasting, pushed_steps, replaced_going, replaced_lasting, replaced_steps, way_unheld}
pub use Rattle.tab_passes.proofs.PassedOn.{AreLeftDuly, alone_log, bare_alone_duly, duly_then}
