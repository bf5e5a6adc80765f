-- What a row tells of is written as words, and is read from them as it was.
use Rattle.std.proofs.Common.{◌≡◌, Some, None, refl}
use Rattle.log_model.specs.declared.action.Action.TheVariants as actions
use Rattle.log_model.specs.declared.change.Change.{Change}
use Rattle.log_model.specs.declared.change.Change.TheVariants as changes
use Rattle.log_model.specs.declared.handler.Verdict.TheVariants as verdicts
use Rattle.log_model.specs.declared.job.Task.{Task}
use Rattle.log_model.specs.declared.job.Task.TheVariants as tasks
use Rattle.log_model.specs.declared.made.What.{What}
use Rattle.log_model.specs.declared.made.What.TheVariants as things
use Rattle.log_model.specs.declared.outcome.Cause.{Cause}
use Rattle.log_model.specs.declared.outcome.Cause.TheVariants as causes
use Rattle.log_model.specs.declared.outcome.Outcome.{Outcome}
use Rattle.log_model.specs.declared.outcome.Outcome.TheVariants as outcomes
use Rattle.log_model.specs.declared.request.Request.{Request}
use Rattle.log_model.specs.declared.request.Request.TheVariants as requests
use Rattle.log_text.specs.Lines.{request_words, change_words, task_words, outcome_words, made_words, cause_words}
use Rattle.log_reading.specs.Readable.{IsRequest, IsChange, IsTask, IsOutcome, IsThing, IsCause}
use Rattle.log_reading.specs.Fields.{reference_of}
use Rattle.log_reading.specs.Tables.{activate_task, ask_task, by_cause, cause_of, change_of, destroyed_cause, docgo_of, edit_of, entry_fields, fragment_of, fragment_task, frame_change, frame_of, frame_thing, go_of, go_thing, gone_cause, load_of, nav_and_child, outcome_of, populate_task, populated_of, push_change, push_of, push_thing, reload_change, reload_of, remove_change, remove_of, remove_thing, replace_change, replace_of, replace_thing, request_of, task_of, thing_of, traverse_change, update_task}
use Rattle.log_reading.proofs.WordLaws.{AreWords, part_at}
use Rattle.log_reading.proofs.FieldLaws.{address_back, address_word, death_back, death_word, delta_back, delta_word, entry_back, entry_word, epoch_back, initial_back, initial_word, large_word, leave_cause_back, leave_cause_word, memo_back, memo_word, mode_back, mode_word, nav_back, nav_word, plain_back, plain_nav_back, plain_word, req_back, req_word, slot_back, slot_word, small_back, small_word, state_back, state_word, step_back, text_back}

-- ---- change words

pub change_are_words : (change : Change) → IsChange change → AreWords (change_words change)
change_are_words (changes.Push nav entry state address memo) is = ((record { some = refl; bytes = refl }), (nav_word nav is.0, (entry_word entry is.1, (state_word state is.2, (memo_word memo is.4, (address_word address is.3, tt))))))
change_are_words (changes.Replace nav over entry state address memo) is = ((record { some = refl; bytes = refl }), (nav_word nav is.0, (entry_word over is.1, (entry_word entry is.2, (state_word state is.3, (memo_word memo is.5, (address_word address is.4, tt)))))))
change_are_words (changes.AddFrame owner nav entry state) is = ((record { some = refl; bytes = refl }), (state_word owner is.0, (nav_word nav is.1, (entry_word entry is.2, (state_word state is.3, tt)))))
change_are_words (changes.RemoveFrame nav) is = ((record { some = refl; bytes = refl }), (nav_word nav is, tt))
change_are_words (changes.Traverse goal) is = ((record { some = refl; bytes = refl }), (plain_word goal.0 is, tt))
change_are_words (changes.Reload nav) is = ((record { some = refl; bytes = refl }), (nav_word nav is, tt))
change_are_words changes.Edit is = ((record { some = refl; bytes = refl }), tt)

pub change_back : (change : Change) → IsChange change → change_of (part_at (change_words change)) ≡ Some change
unfolding change_of push_change replace_change frame_change remove_change traverse_change reload_change
change_back (changes.Push nav entry state address memo) is = rw (nav_back nav is.0, entry_back entry is.1, state_back state is.2, memo_back memo is.4, address_back address is.3) refl
change_back (changes.Replace nav over entry state address memo) is = rw (nav_back nav is.0, entry_back over is.1, entry_back entry is.2, state_back state is.3, memo_back memo is.5, address_back address is.4) refl
change_back (changes.AddFrame owner nav entry state) is = rw (state_back owner is.0, nav_back nav is.1, entry_back entry is.2, state_back state is.3) refl
change_back (changes.RemoveFrame nav) is = rw (nav_back nav is) refl
change_back (changes.Traverse goal) is = rw (step_back goal is) refl
change_back (changes.Reload nav) is = rw (nav_back nav is) refl
change_back changes.Edit is = refl

-- ---- task words

pub task_are_words : (task : Task) → IsTask task → AreWords (task_words task)
task_are_words (tasks.Populate nav state address initial) is = ((record { some = refl; bytes = refl }), (nav_word nav is.0, (state_word state is.1, (initial_word initial, (address_word address is.2, tt)))))
task_are_words (tasks.Activate entry epoch length index memo address) is = ((record { some = refl; bytes = refl }), (entry_word entry is.0, (large_word epoch.0 is.1, (plain_word length is.2, (plain_word index is.3, (memo_word memo is.4, (address_word address is.5, tt)))))))
task_are_words (tasks.Update length index) is = ((record { some = refl; bytes = refl }), (plain_word length is.0, (plain_word index is.1, tt)))
task_are_words tasks.Freeze is = ((record { some = refl; bytes = refl }), tt)
task_are_words tasks.Discard is = ((record { some = refl; bytes = refl }), tt)
task_are_words (tasks.Ask slot cause) is = ((record { some = refl; bytes = refl }), (small_word slot is, (leave_cause_word cause, tt)))
task_are_words (tasks.DoFragment req mode address) is = ((record { some = refl; bytes = refl }), (req_word req is.0, (mode_word mode, (address_word address is.1, tt))))

pub task_back : (task : Task) → IsTask task → task_of (part_at (task_words task)) ≡ Some task
unfolding task_of populate_task activate_task update_task ask_task fragment_task
task_back (tasks.Populate nav state address initial) is = rw (nav_back nav is.0, state_back state is.1, initial_back initial, address_back address is.2) refl
task_back (tasks.Activate entry epoch length index memo address) is = rw (entry_back entry is.0, epoch_back epoch is.1, plain_back length is.2, plain_back index is.3, memo_back memo is.4, address_back address is.5) refl
task_back (tasks.Update length index) is = rw (plain_back length is.0, plain_back index is.1) refl
task_back tasks.Freeze is = refl
task_back tasks.Discard is = refl
task_back (tasks.Ask slot cause) is = rw (small_back slot is, leave_cause_back cause) refl
task_back (tasks.DoFragment req mode address) is = rw (req_back req is.0, mode_back mode, address_back address is.1) refl

-- ---- outcome words

pub outcome_are_words : (outcome : Outcome) → IsOutcome outcome → AreWords (outcome_words outcome)
outcome_are_words (outcomes.Populated slot) is = ((record { some = refl; bytes = refl }), (slot_word slot is, tt))
outcome_are_words outcomes.Activated is = ((record { some = refl; bytes = refl }), tt)
outcome_are_words outcomes.Updated is = ((record { some = refl; bytes = refl }), tt)
outcome_are_words outcomes.Frozen is = ((record { some = refl; bytes = refl }), tt)
outcome_are_words outcomes.Discarded is = ((record { some = refl; bytes = refl }), tt)
outcome_are_words (outcomes.Asked verdicts.Leave) is = ((record { some = refl; bytes = refl }), tt)
outcome_are_words (outcomes.Asked verdicts.Prompt) is = ((record { some = refl; bytes = refl }), tt)
outcome_are_words outcomes.Fragmented is = ((record { some = refl; bytes = refl }), tt)

pub outcome_back : (outcome : Outcome) → IsOutcome outcome → outcome_of (part_at (outcome_words outcome)) ≡ Some outcome
unfolding outcome_of populated_of
outcome_back (outcomes.Populated slot) is = rw (slot_back slot is) refl
outcome_back outcomes.Activated is = refl
outcome_back outcomes.Updated is = refl
outcome_back outcomes.Frozen is = refl
outcome_back outcomes.Discarded is = refl
outcome_back (outcomes.Asked verdicts.Leave) is = refl
outcome_back (outcomes.Asked verdicts.Prompt) is = refl
outcome_back outcomes.Fragmented is = refl

-- ---- made words

pub thing_are_words : (thing : What) → IsThing thing → AreWords (made_words thing)
thing_are_words (things.Push entry memo address) is = ((record { some = refl; bytes = refl }), (entry_word entry is.0, (memo_word memo is.1, (address_word address is.2, tt))))
thing_are_words (things.Replace over entry memo address) is = ((record { some = refl; bytes = refl }), (entry_word over is.0, (entry_word entry is.1, (memo_word memo is.2, (address_word address is.3, tt)))))
thing_are_words (things.AddFrame nav) is = ((record { some = refl; bytes = refl }), (nav_word nav is, tt))
thing_are_words (things.RemoveFrame nav) is = ((record { some = refl; bytes = refl }), (nav_word nav is, tt))
thing_are_words (things.Go delta) is = ((record { some = refl; bytes = refl }), (delta_word delta is, tt))
thing_are_words things.Edit is = ((record { some = refl; bytes = refl }), tt)

pub thing_back : (thing : What) → IsThing thing → thing_of (part_at (made_words thing)) ≡ Some thing
unfolding thing_of push_thing replace_thing frame_thing remove_thing go_thing
thing_back (things.Push entry memo address) is = rw (entry_back entry is.0, memo_back memo is.1, address_back address is.2) refl
thing_back (things.Replace over entry memo address) is = rw (entry_back over is.0, entry_back entry is.1, memo_back memo is.2, address_back address is.3) refl
thing_back (things.AddFrame nav) is = rw (nav_back nav is) refl
thing_back (things.RemoveFrame nav) is = rw (nav_back nav is) refl
thing_back (things.Go delta) is = rw (delta_back delta is) refl
thing_back things.Edit is = refl

-- ---- cause words

pub cause_are_words : (cause : Cause) → IsCause cause → AreWords (cause_words cause)
cause_are_words causes.Stay is = ((record { some = refl; bytes = refl }), tt)
cause_are_words (causes.By req) is = ((record { some = refl; bytes = refl }), (req_word req is, tt))
cause_are_words (causes.Destroyed req) is = ((record { some = refl; bytes = refl }), (req_word req is, tt))
cause_are_words (causes.Gone death) is = ((record { some = refl; bytes = refl }), (death_word death is, tt))

pub cause_back : (cause : Cause) → IsCause cause → cause_of (part_at (cause_words cause)) ≡ Some cause
unfolding cause_of by_cause destroyed_cause gone_cause
cause_back causes.Stay is = refl
cause_back (causes.By req) is = rw (req_back req is) refl
cause_back (causes.Destroyed req) is = rw (req_back req is) refl
cause_back (causes.Gone death) is = rw (death_back death is) refl

-- ---- request words

pub request_are_words : (request : Request) → IsRequest request → AreWords (request_words request)
request_are_words (requests.Load nav mode address) is = ((record { some = refl; bytes = refl }), (plain_word nav.0 is.0, (mode_word mode, (address_word address is.1, tt))))
request_are_words (requests.Go delta) is = ((record { some = refl; bytes = refl }), (delta_word delta is, tt))
request_are_words (requests.Reload nav) is = ((record { some = refl; bytes = refl }), (plain_word nav.0 is, tt))
request_are_words (requests.Poke nav (actions.Push memo None)) is = ((record { some = refl; bytes = refl }), (plain_word nav.0 is.0, (memo_word memo is.1.0, tt)))
request_are_words (requests.Poke nav (actions.Push memo (Some reference))) is = ((record { some = refl; bytes = refl }), (plain_word nav.0 is.0, (memo_word memo is.1.0, (is.1.1, tt))))
request_are_words (requests.Poke nav (actions.Replace memo None)) is = ((record { some = refl; bytes = refl }), (plain_word nav.0 is.0, (memo_word memo is.1.0, tt)))
request_are_words (requests.Poke nav (actions.Replace memo (Some reference))) is = ((record { some = refl; bytes = refl }), (plain_word nav.0 is.0, (memo_word memo is.1.0, (is.1.1, tt))))
request_are_words (requests.Poke nav (actions.Fragment text)) is = ((record { some = refl; bytes = refl }), (plain_word nav.0 is.0, (is.1, tt)))
request_are_words (requests.Poke nav (actions.AddFrame child)) is = ((record { some = refl; bytes = refl }), (plain_word nav.0 is.0, (plain_word child.0 is.1, tt)))
request_are_words (requests.Poke nav (actions.RemoveFrame child)) is = ((record { some = refl; bytes = refl }), (plain_word nav.0 is.0, (plain_word child.0 is.1, tt)))
request_are_words (requests.Poke nav (actions.Go delta)) is = ((record { some = refl; bytes = refl }), (plain_word nav.0 is.0, (delta_word delta is.1, tt)))
request_are_words (requests.Poke nav actions.Edit) is = ((record { some = refl; bytes = refl }), (plain_word nav.0 is.0, tt))

pub request_back : (request : Request) → IsRequest request → request_of (part_at (request_words request)) ≡ Some request
unfolding request_of entry_fields nav_and_child load_of go_of reload_of push_of replace_of fragment_of frame_of remove_of docgo_of edit_of reference_of
request_back (requests.Load nav mode address) is = rw (plain_nav_back nav is.0, mode_back mode, address_back address is.1) refl
request_back (requests.Go delta) is = rw (delta_back delta is) refl
request_back (requests.Reload nav) is = rw (plain_nav_back nav is) refl
request_back (requests.Poke nav (actions.Push memo None)) is = rw (plain_nav_back nav is.0, memo_back memo is.1.0) refl
request_back (requests.Poke nav (actions.Push memo (Some reference))) is = rw (plain_nav_back nav is.0, memo_back memo is.1.0, text_back reference is.1.1, is.1.1.some) refl
request_back (requests.Poke nav (actions.Replace memo None)) is = rw (plain_nav_back nav is.0, memo_back memo is.1.0) refl
request_back (requests.Poke nav (actions.Replace memo (Some reference))) is = rw (plain_nav_back nav is.0, memo_back memo is.1.0, text_back reference is.1.1, is.1.1.some) refl
request_back (requests.Poke nav (actions.Fragment text)) is = rw (plain_nav_back nav is.0, text_back text is.1) refl
request_back (requests.Poke nav (actions.AddFrame child)) is = rw (plain_nav_back nav is.0, plain_nav_back child is.1) refl
request_back (requests.Poke nav (actions.RemoveFrame child)) is = rw (plain_nav_back nav is.0, plain_nav_back child is.1) refl
request_back (requests.Poke nav (actions.Go delta)) is = rw (plain_nav_back nav is.0, delta_back delta is.1) refl
request_back (requests.Poke nav actions.Edit) is = rw (plain_nav_back nav is.0) refl
