-- What is passed on of the crates below, for those above.
pub use Rattle.tab_walk.proofs.Cutoffs.{show_causes}
pub use Rattle.tab_walk.proofs.Ends.{goes_on}
pub use Rattle.tab_walk.proofs.Overs.{over_each, over_with}
pub use Rattle.tab_walk.proofs.PassedOn.{aim_is, leaving_none, moved_is, nav_of_load, passed_is, running_is}
pub use Rattle.tab_facts.proofs.TabGoing.Changes.{added_going, pushed_going, removed_going, replaced_going}
pub use Rattle.tab_facts.proofs.TabGoing.Counts.{as_many, count_few}
pub use Rattle.tab_facts.proofs.TabGoing.Epochs.{AreUpTo}
pub use Rattle.tab_facts.proofs.TabGoing.Rows.{dropped_going, refused_going}
pub use Rattle.tab_facts.proofs.TabGoing.Steps.{steps_still}
pub use Rattle.tab_facts.proofs.TabWhole.Accepting.{load_accepted, load_accepted_flows, load_accepted_tab, strayed_flows, strayed_tab, went, went_tab}
pub use Rattle.tab_facts.proofs.TabWhole.Added.{added_tab}
pub use Rattle.tab_facts.proofs.TabWhole.Beginning.{no_load}
pub use Rattle.tab_facts.proofs.TabWhole.Delivering.{done_tab, fine, its_report}
pub use Rattle.tab_facts.proofs.TabWhole.Denying.{IsMadeAtHand, absent_tab, bare_tab, denied_tab}
pub use Rattle.tab_facts.proofs.TabWhole.Ending.{IsNoProcess}
pub use Rattle.tab_facts.proofs.TabWhole.Fresh.{fresh, new_state, new_to}
pub use Rattle.tab_facts.proofs.TabWhole.Handing.{hand_tab, held_tab, joined_tab}
pub use Rattle.tab_facts.proofs.TabWhole.Pushed.{pushed_tab}
pub use Rattle.tab_facts.proofs.TabWhole.Refusing.{first_refused_tab}
pub use Rattle.tab_facts.proofs.TabWhole.Replaced.{replaced_tab}
pub use Rattle.tab_facts.proofs.TabWhole.Taken.{IsToTakeUp}
pub use Rattle.tab_facts.proofs.TabWhole.Traversed.{removed_tab}
pub use Rattle.tab_facts.proofs.TabWhole.Where.{IsCarried, all_once, at_most_once, none_at}
