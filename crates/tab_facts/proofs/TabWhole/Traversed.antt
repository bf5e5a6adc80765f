-- All that holds of a tab between two rows holds after the traversal that runs ends, and none runs then; and after a frame is removed.
use Rattle.seen_facts.proofs.Asked.Rows.{applied_plain, ended_plain}
use Rattle.seen_facts.proofs.Coord.Unread.{next}
use Rattle.seen_facts.specs.Each.Runs.{is_run, is_this}
use Rattle.seen_facts.proofs.Entry.Applied.{removed_rows}
use Rattle.seen_facts.proofs.Entry.Changes.{removed_entries, traversed_entries}
use Rattle.seen_facts.proofs.Entry.Ends.{IsToEnd}
use Rattle.seen_facts.proofs.Entry.Skips.{without_made}
use Rattle.tab_facts.proofs.FrameWhole.Queued.{queued_after, queued_none}
use Rattle.tab_facts.proofs.FrameWhole.Soundly.{sound_removed}
use Rattle.tab_facts.proofs.FrameWhole.Taking.{were_there}
use Rattle.tab_facts.proofs.FrameWhole.Traversals.{sound_at, traversed_if}
use Rattle.tab_facts.specs.FrameWhole.Untold.{FlowsIf}
use Rattle.seen_facts.proofs.Hang.Members.{has_filter, has_tidied}
use Rattle.seen_facts.specs.Hang.Members.{Has}
use Rattle.seen_facts.proofs.Home.Changed.{removed_homed, traversed_homed}
use Rattle.log_model.specs.AfterRequests.{without_req}
use Rattle.log_model.specs.Equal.{has_req}
use Rattle.log_model.specs.History.{fits, has_row, is_of, used_step_at}
use Rattle.log_model.specs.Places.{is_traversal}
use Rattle.log_model.specs.Seen.{Asked, Document, Seen, request_of}
use Rattle.log_model.specs.declared.change.Change.TheVariants as changes
use Rattle.log_model.specs.declared.made.Made.{Made}
use Rattle.log_model.specs.declared.row.Row.{Row}
use Rattle.log_model.specs.declared.row_kind.Actor.{Actor}
use Rattle.log_model.specs.declared.row_kind.RowKind.TheVariants as rows
use Rattle.seen_facts.proofs.Place.Changes.{removed_standing, traversed_standing}
use Rattle.std.proofs.Common.{Bool, List, None, Option, Some, [], ap, arith, false, inl, map, not, refl, subst, sym, true, ℕ, ◌&&◌, ◌==◌, ◌∙◌, ◌∷◌, ◌≡◌}
use Rattle.std.proofs.lemmas.Bool.Decides.{nat_tests}
use Rattle.std.specs.Prelude.{filter, find, is_none}
use Rattle.tab_ids.specs.declared.NavId.{NavId}
use Rattle.tab_ids.specs.declared.ReqId.{ReqId}
use Rattle.tab_ids.specs.declared.Step.{Step}
use Rattle.tab_facts.proofs.TabWhole.Changed.{changed_tab}
use Rattle.tab_facts.proofs.TabWhole.Unmoved.{applied_if}
use Rattle.tab_facts.proofs.TabWhole.Where.{IsCarried, IsUnheld, joined_unheld, unheld_end, unheld_hand, unheld_loads}
use Rattle.tab_facts.specs.TabWhole.Tab.{IsTab}

-- documents that no change is of are as they were
map_itself : (documents : List Document) → map (λ (d : Document). d) documents ≡ documents
map_itself [] = refl
map_itself (d ∷ documents) = ap (λ (l : List Document). d ∷ l) (map_itself documents)

-- what runs has no outcome
runs_open : (a : Bool) (q : Asked) (c : Bool) → ((a && is_none q.ending) && c) ≡ true → q.ending ≡ None
runs_open a q c runs = by_ending a q.ending c runs
  where
    by_ending : {A : Type 0} (a : Bool) (o : Option A) (c : Bool) → ((a && is_none o) && c) ≡ true → o ≡ None
    by_ending a None c e = refl
    by_ending true (Some x) c e = absurd cc
    by_ending false (Some x) c e = absurd cc

-- ---- the traversal that runs ends

module _ (loads : List ReqId) (hand : List Made) (s : Seen) (event : ℕ) (actor : Actor) (req : ReqId) (tab : IsTab (Some req) loads hand s) (q : Asked) (goal : Step) (there : request_of s req ≡ Some q) (fit : fits s.history (changes.Traverse goal) ≡ true) where
  abbrev pub gone : Seen
  gone = next s event actor (rows.Applied req (changes.Traverse goal))

  runs : is_run q ≡ true
  runs = tab.asked.only req q there ∙ (let itself : (req.0 == req.0) ≡ true = grind (arith, nat_tests) in itself)

  unended : (x : Asked) → request_of s req ≡ Some x → x.ending ≡ None
  unended x at = (let both : Some q ≡ Some x = sym there ∙ at in let one : q ≡ x = cc in subst (λ (y : Asked). y.ending ≡ None) one (runs_open q.is_started q (is_traversal q.what) runs))

  queued : has_req s.joined req ≡ true
  queued = tab.queued req refl

  unheld : IsUnheld (Some req) loads hand s tab req
  unheld = joined_unheld (Some req) loads hand s tab req queued

  ended : IsTab None (without_req req loads) (without_made req hand) gone
  ended =
      changed_tab (Some req) None loads hand s event actor req (changes.Traverse goal) tab
      (record {
        unended = unended;
        carried = inl queued;
        fit = fit;
        sound = sound_at s.history (used_step_at s.history.rows goal.0) s.history.added tab.sound;
        brings = tt;
        owned = tt;
        free = tt;
        homes = traversed_homed s event actor req tab.homes goal;
        standing = traversed_standing s event actor tab.standing req goal;
        asked = ended_plain req s event actor tab.asked (changes.Traverse goal);
        queued = queued_none gone;
        entries = traversed_entries hand s event actor tab.entries req (unheld_end (Some req) loads hand s tab req unheld) goal;
        flows = subst (λ (l : List Made). FlowsIf l gone) (sym (unheld_hand (Some req) loads hand s tab req unheld)) (traversed_if s event actor hand req goal unheld.parked tab.flows);
      })

  pub ended_tab : IsTab None loads hand gone
  ended_tab =
      subst (λ (l : List ReqId). IsTab None l hand gone) (unheld_loads (Some req) loads hand s tab req unheld)
      (subst (λ (l : List Made). IsTab None (without_req req loads) l gone) (unheld_hand (Some req) loads hand s tab req unheld) ended)

-- ---- a frame is removed

module _ (run : Option ReqId) (loads : List ReqId) (hand : List Made) (s : Seen) (event : ℕ) (actor : Actor) (tab : IsTab run loads hand s) (req : ReqId) (q : Asked) (there : request_of s req ≡ Some q) (unended : q.ending ≡ None) (other : is_this run req ≡ false) (carried : IsCarried loads hand s req) (end : IsToEnd hand s req) (nav : NavId) (fit : fits s.history (changes.RemoveFrame nav) ≡ true) where
  abbrev pub removed : Seen
  removed = next s event actor (rows.Applied req (changes.RemoveFrame nav))

  -- each row was there
  was_row : (row : Row) → Has removed.history.rows row → Has s.history.rows row
  was_row row has =
      (has_filter (λ (r : Row). not (is_of nav r)) s.history.rows row (has_tidied (filter (λ (r : Row). not (is_of nav r)) s.history.rows) row has).0).0

  child : (nav.0 == 0) ≡ false
  child = by_test (nav.0 == 0) fit
    where
      by_test : (b : Bool) → (not b && has_row nav s.history.rows) ≡ true → b ≡ false
      by_test true e = absurd cc
      by_test false e = refl

  pub removed_tab : IsTab run (without_req req loads) (without_made req hand) removed
  removed_tab =
      changed_tab run run loads hand s event actor req (changes.RemoveFrame nav) tab
      (record {
        unended = λ x at. (let both : Some q ≡ Some x = sym there ∙ at in let one : q ≡ x = cc in subst (λ (y : Asked). y.ending ≡ None) one unended);
        carried = carried;
        fit = fit;
        sound = sound_removed s.history nav tab.sound child;
        brings = tt;
        owned = tt;
        free = tt;
        homes = removed_homed s event actor req tab.homes nav;
        standing = removed_standing s event actor tab.standing req nav (record { q = q; found = there });
        asked = applied_plain run s event actor tab.asked req (changes.RemoveFrame nav) other;
        queued = queued_after run s event actor tab.queued (rows.Applied req (changes.RemoveFrame nav)) other;
        entries = removed_entries hand s event actor tab.entries req end nav;
        flows = applied_if hand s event actor req (changes.RemoveFrame nav) refl end
            (λ doc d found. ap (λ (l : List Document). find (λ (x : Document). x.nr.0 == doc.0) l) (sym (map_itself s.documents)) ∙ found)
            (removed_rows s.history nav (λ e. Unit {0})).had
            (λ of place placed. were_there s.history.rows removed.history.rows place.given was_row)
            tab.flows;
      })
