-- What is passed on of the crates below, for those above.
pub use Rattle.tab_settles.proofs.Ended.{IsNoneDue}
pub use Rattle.tab_settles.proofs.Lates.{IsUnapplied, late_put, unstood_by}
pub use Rattle.tab_settles.proofs.MovedTurns.{IsUnmoving, shown_put}
pub use Rattle.tab_settles.proofs.PassedOn.{IsBare, IsBegun, IsReachedAt, IsUnsettled, MayLeaveNav, StandOrBare, begun_as_it_was, begun_leaves, causes_on, course_of, leaves_then, live_then, load_back, loaded_never, look_back, mades_same, may_leave_reads, may_leave_same, new_of, none_asked, of_load, out_alike, over_each, over_with, queue_leaves, queue_over, reached_at, reached_same, ready_back, run_leavers, serve_on, show_causes, steps_still, still_on, takers_on, waiting_first, turning_on, unheld_first, unloaded_back, visited_same, way_same, waiting_on}
pub use Rattle.tab_settles.proofs.PutOuts.{sent_homes}
pub use Rattle.tab_settles.proofs.Puts.{cause_more, put_makes}
pub use Rattle.tab_settles.proofs.Sounds.{KeepsWhat, put_sound, sound_more, sound_on}
pub use Rattle.tab_settles.proofs.Stood.{theirs_over}
pub use Rattle.tab_settles.proofs.Unsettled.{leaves_unsettled, taken_moves}
pub use Rattle.leave_facts.proofs.Applied.{FitsWell}
pub use Rattle.leave_facts.proofs.Carried.{AreLeftDuly, change_duly, row_duly}
pub use Rattle.tab_stands.proofs.DulyEvents.{finished_duly}
pub use Rattle.leave_facts.proofs.Readies.{is_made}
pub use Rattle.checking_facts.proofs.Rows.{row_checks}
pub use Rattle.tab_settles.proofs.Slots.{put_slots, row_slots, rows_slots}
