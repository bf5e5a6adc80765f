-- Over each applied change, whom requests leave was asked for them still.
use Rattle.std.proofs.Common.{◌≡◌, ℕ, true, refl}
use Rattle.std.proofs.lemmas.Bool.{and_parts}
use Rattle.tab_ids.specs.declared.DocId.{DocId}
use Rattle.tab_ids.specs.declared.ReqId.{ReqId}
use Rattle.tab_ids.specs.declared.Step.{Step}
use Rattle.log_model.specs.declared.change.Change.{Change}
use Rattle.log_model.specs.declared.change.Change.TheVariants as changes
use Rattle.log_model.specs.declared.row_kind.Actor.{Actor}
use Rattle.log_model.specs.Places.{is_shown, targets_state}
use Rattle.log_model.specs.Seen.{Asked, Document, Seen}
use Rattle.seen_facts.specs.Hang.Changing.{HasState}
use Rattle.leave_facts.specs.Leaving.{AreAsked, IsGoing, WasAwake, BelowAsked}
use Rattle.leave_facts.proofs.Applied.{FitsWell, GoesAlone, alone_asked, below_then, changed, documents_then, places_then, requests_then}
use Rattle.leave_facts.proofs.Frames.{IsNobodys, add_asked, add_below, remove_asked}
use Rattle.leave_facts.proofs.Pushes.{push_asked}
use Rattle.leave_facts.proofs.Replaces.{replace_asked}
use Rattle.leave_facts.proofs.Stays.{asked_same}

-- the change keeps to its navigable's document state; a traversal goes alone
abbrev pub KeepsTo : Seen → ReqId → Change → Type 0
KeepsTo s req (changes.Push nav entry state address memo) = targets_state s.history.rows s.history.current nav state ≡ true
KeepsTo s req (changes.Replace nav over entry state address memo) = HasState s.history.rows over state
KeepsTo s req (changes.AddFrame owner nav entry state) = IsNobodys s nav
KeepsTo s req (changes.RemoveFrame nav) = Unit {0}
KeepsTo s req (changes.Traverse goal) = GoesAlone s req
KeepsTo s req (changes.Reload nav) = Unit {0}
KeepsTo s req changes.Edit = Unit {0}

-- a change is applied
pub applied_asked : (s : Seen) (event : ℕ) (actor : Actor) (req : ReqId) (change : Change) → FitsWell s change → KeepsTo s req change → AreAsked s → AreAsked (changed s event actor req change)
applied_asked s event actor req (changes.Push nav entry state address memo) well keeps asked =
    push_asked s event actor req nav entry state address memo well keeps asked
applied_asked s event actor req (changes.Replace nav over entry state address memo) well keeps asked =
    replace_asked s event actor req nav over entry state address memo well keeps asked
applied_asked s event actor req (changes.AddFrame owner nav entry state) well nobodys asked =
    add_asked s event actor req owner nav entry state well nobodys asked
applied_asked s event actor req (changes.RemoveFrame nav) well keeps asked = remove_asked s event actor req nav well asked
applied_asked s event actor req (changes.Traverse goal) well alone asked =
    alone_asked s event actor req (changes.Traverse goal) tt well.fit alone asked
applied_asked s event actor req (changes.Reload nav) well keeps asked =
    asked_same s (changed s event actor req (changes.Reload nav)) refl (requests_then s event actor req (changes.Reload nav)) (documents_then s event actor req (changes.Reload nav)) (places_then s event actor req (changes.Reload nav) tt) asked
applied_asked s event actor req changes.Edit well keeps asked =
    asked_same s (changed s event actor req changes.Edit) refl (requests_then s event actor req changes.Edit) (documents_then s event actor req changes.Edit) (places_then s event actor req changes.Edit tt) asked

-- so was whom loads and reloads leave
pub applied_below : (s : Seen) (event : ℕ) (actor : Actor) (req : ReqId) (change : Change) → FitsWell s change → KeepsTo s req change → BelowAsked s → BelowAsked (changed s event actor req change)
applied_below s event actor req (changes.Push nav entry state address memo) well keeps asked = below_then s event actor req (changes.Push nav entry state address memo) tt asked
applied_below s event actor req (changes.Replace nav over entry state address memo) well keeps asked = below_then s event actor req (changes.Replace nav over entry state address memo) tt asked
applied_below s event actor req (changes.AddFrame owner nav entry state) well nobodys asked = add_below s event actor req owner nav entry state well nobodys asked
applied_below s event actor req (changes.RemoveFrame nav) well keeps asked = below_then s event actor req (changes.RemoveFrame nav) tt asked
applied_below s event actor req (changes.Traverse goal) well keeps asked = below_then s event actor req (changes.Traverse goal) tt asked
applied_below s event actor req (changes.Reload nav) well keeps asked = below_then s event actor req (changes.Reload nav) tt asked
applied_below s event actor req changes.Edit well keeps asked = below_then s event actor req changes.Edit tt asked

-- a document on which a navigable was awake as the running traversal began pushes an entry of its navigable's document state
pub awake_keeps : (s : Seen) → AreAsked s → (req : ReqId) (q : Asked) (goal : Step) → IsGoing s req q goal → (doc : DocId) (d : Document) → WasAwake s q doc d → targets_state s.history.rows s.history.current d.nav d.state ≡ true
awake_keeps s asked req q goal is doc d awake =
    (and_parts (is_shown s.history.rows s.history.current d.nav) (targets_state s.history.rows s.history.current d.nav d.state) (asked.stay req q goal is doc d awake)).1
