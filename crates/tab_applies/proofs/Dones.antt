-- As a ready load was applied, all goes on, and the rest is as it was.
use Rattle.seen_facts.proofs.Hang.Frames.{IsNoFrame}
use Rattle.seen_facts.specs.Each.Runs.{OnlyRuns}
use Rattle.tab_turns.proofs.PassedOn.{AreLeftDuly, alone_log, bare_alone_duly, duly_then, load_pushed_tab, load_replaced_tab, pushed_going, pushed_lasting, replaced_going, replaced_lasting}
use Rattle.seen_laws.proofs.InEvents.{last_goes, now_at, now_is}
use Rattle.seen_facts.proofs.Coord.Held.{without_same}
use Rattle.seen_facts.proofs.Coord.Unread.{next}
use Rattle.seen_facts.proofs.Entry.Skips.{without_made}
use Rattle.tab_facts.proofs.Frame.Applied.{applied_wishes}
use Rattle.tab_facts.proofs.FrameTab.Plainly.{applied_reads}
use Rattle.tab_facts.proofs.FrameWhole.Refusing.{none_without}
use Rattle.load_doors.specs.Applying.{new_entry}
use Rattle.load_table.specs.Loads.{ongoing_load}
use Rattle.load_table.specs.declared.load.Load.{Load}
use Rattle.log_model.specs.AfterRequests.{entries_taken, without_req}
use Rattle.log_model.specs.History.{fits}
use Rattle.log_model.specs.Once.{next_entry_of}
use Rattle.log_model.specs.Places.{aim_of, all_stand}
use Rattle.log_model.specs.Seen.{Seen}
use Rattle.log_model.specs.declared.change.Change.{Change}
use Rattle.log_model.specs.declared.made.Made.{Made}
use Rattle.log_model.specs.declared.row_kind.RowKind.{RowKind}
use Rattle.navigate_core.specs.Navigations.{change_for}
use Rattle.row_facts.proofs.Owed.Ends.{loose_more, loose_owed}
use Rattle.row_facts.proofs.Owed.Rows.{applied_lasts}
use Rattle.row_facts.specs.Owed.Owed.{IsLoose}
use Rattle.row_facts.proofs.RestRows.Rows.{applied_rests}
use Rattle.row_facts.specs.RestRows.Moving.{AllRest}
use Rattle.seen_laws.specs.InEvent.{InEvent, now_of, log_of}
use Rattle.std.proofs.Common.{Bool, List, None, Option, Some, [], ap, false, if◌then◌else◌, length, refl, subst, sym, true, ℕ, ◌++◌, ◌∙◌, ◌∷◌, ◌≡◌, ◌≤◌}
use Rattle.tab_applies.proofs.Dues.{aim_now, fit, given, going, next_is, open_, tab, tie, unheld_at}
use Rattle.tab_applies.specs.Applying.{HasApplied, MayApply}
use Rattle.tab_doors.specs.Working.{IsAtWork, KeepsRun}
use Rattle.tab_doors.specs.declared.tables.Tables.{Tables}
use Rattle.tab_turns.proofs.Begins.{IsGoing, IsTab}
use Rattle.tab_ids.specs.declared.DocId.{DocId}
use Rattle.tab_ids.specs.declared.EntryId.{EntryId}
use Rattle.tab_ids.specs.declared.NavId.{NavId}
use Rattle.tab_ids.specs.declared.ReqId.{ReqId}
use Rattle.tab_turns.specs.Turning.{MayCause}
use Rattle.tab_turns.specs.PassedOn.{InPass, IsPassing}
pub use Rattle.tab_turns.proofs.Turned.{begun_as_it_was, causes_on, course_of}
use Rattle.row_facts.proofs.WalkRows.Sinces.{applied_since, since_itself}
use Rattle.row_facts.specs.WalkRows.Since.{AwakeSince}
use Rattle.log_model.specs.declared.change.Change.TheVariants as changes
use Rattle.log_model.specs.declared.row_kind.RowKind.TheVariants as rows

module _ (p : InPass) (out : List RowKind) (t : Tables) (passing : IsPassing p out t) (nav : NavId) (load : Load) (at : ongoing_load nav t.loads ≡ Some load) (idle : t.running ≡ None) (may : MayApply p.event (now_of p.event out) nav load) (over : EntryId) (over_is : (given p out t passing nav load at idle may).place.given ≡ Some over) where
  abbrev e : InEvent
  e = p.event

  abbrev s : Seen
  s = now_of e out

  goes : IsGoing None p.loads p.hand s
  goes = going p out t passing nav load at idle may

  -- the change with this entry, and what the log comes to by it
  abbrev put : Bool → EntryId → Change
  put true entry = changes.Replace load.nav over entry load.state load.address None
  put false entry = changes.Push load.nav entry load.state load.address None

  abbrev after_put : Bool → EntryId → Seen
  after_put b entry = next s e.event e.actor (rows.Applied load.req (put b entry))

  change_is : (b : Bool) → load.replace ≡ b → change_for load over (new_entry t) ≡ put b (new_entry t)
  change_is true is =
      ap (λ (b : Bool). if b then changes.Replace load.nav over (new_entry t) load.state load.address None else changes.Push load.nav (new_entry t) load.state load.address None) is
  change_is false is =
      ap (λ (b : Bool). if b then changes.Replace load.nav over (new_entry t) load.state load.address None else changes.Push load.nav (new_entry t) load.state load.address None) is

  fit_put : (b : Bool) → load.replace ≡ b → fits s.history (put b (new_entry t)) ≡ true
  fit_put b is = ap (fits s.history) (sym (change_is b is)) ∙ fit p out t passing nav load at idle may over over_is

  -- what is at hand stays
  left : (then_ : Seen) → IsTab None (without_req load.req p.loads) (without_made load.req p.hand) then_ → IsTab None p.loads p.hand then_
  left then_ now =
      let un = unheld_at p out t passing nav load at idle may over over_is in
      subst (λ (l : List ReqId). IsTab None l p.hand then_) (without_same p.loads load.req un.loads_)
      (subst (λ (m : List Made). IsTab None (without_req load.req p.loads) m then_) (none_without load.req p.hand un.hands) now)

  tab_put : (b : Bool) → load.replace ≡ b → IsTab None p.loads p.hand (after_put b (new_entry t))
  tab_put true is =
      let its = tie p out t passing nav load at idle may in
      subst (λ (entry : EntryId). IsTab None p.loads p.hand (after_put true entry)) (sym (next_is p out t passing nav load at idle may))
      (left (after_put true (next_entry_of s)) (load_replaced_tab None p.loads p.hand s (tab p out t passing nav load at idle may) e.event e.actor load.req its.q its.found its.ongoing load.nav its.mode load.address its.what load.state its.state over load.address None (fit_put true is)))
  tab_put false is =
      let its = tie p out t passing nav load at idle may in
      subst (λ (entry : EntryId). IsTab None p.loads p.hand (after_put false entry)) (sym (next_is p out t passing nav load at idle may))
      (left (after_put false (next_entry_of s)) (load_pushed_tab None p.loads p.hand s (tab p out t passing nav load at idle may) e.event e.actor load.req its.q its.found its.ongoing load.nav its.mode load.address its.what load.state its.state load.address None (fit_put false is)))

  going_put : (b : Bool) → load.replace ≡ b → IsGoing None p.loads p.hand (after_put b (new_entry t))
  going_put true is =
      let its = tie p out t passing nav load at idle may in
      replaced_going None p.loads p.hand s e.event e.actor goes load.req its.q its.found (open_ p out t passing nav load at idle may over over_is).1 load.nav over (new_entry t) load.state load.address None p.loads p.hand (tab_put true is) (replaced_lasting s e.event e.actor goes.lasting load.req load.nav over (new_entry t) load.state load.address None)
  going_put false is =
      let its = tie p out t passing nav load at idle may in
      pushed_going None p.loads p.hand s e.event e.actor goes load.req its.q its.found (open_ p out t passing nav load at idle may over over_is).1 load.nav (new_entry t) load.state load.address None p.loads p.hand (tab_put false is) (pushed_lasting s e.event e.actor goes.lasting load.req load.nav (new_entry t) load.state load.address None (fit_put false is))

  module _ (more : List RowKind) (u : Tables) (out_is : more ≡ out ++ rows.Applied load.req (change_for load over (new_entry t)) ∷ []) (work : IsAtWork p.event more u) (keeps : KeepsRun t u) where
    abbrev change : Change
    change = change_for load over (new_entry t)

    abbrev n : Seen
    n = next s e.event e.actor (rows.Applied load.req change)

    now : now_of e more ≡ n
    now = now_at e out (rows.Applied load.req change) more out_is work.goes

    going_then : IsGoing None p.loads p.hand n
    going_then =
        subst (λ (c : Change). IsGoing None p.loads p.hand (next s e.event e.actor (rows.Applied load.req c))) (sym (change_is load.replace refl)) (going_put load.replace refl)

    stand : all_stand s (aim_of s) ≡ true
    stand = ap (λ (step : ℕ). all_stand s step) (aim_now p out t passing nav load at idle may) ∙ may.stand

    loose_then : IsLoose e more
    loose_then =
        subst (λ (l : List RowKind). IsLoose e l) (sym out_is)
        (loose_more e out (rows.Applied load.req change) (last_goes e out (rows.Applied load.req change) _ out_is work.goes).read (passing.loose stand) (applied_lasts s e.event e.actor load.req change) (λ end on. refl))

    -- it adds no frame
    no_frame : (b : Bool) → load.replace ≡ b → IsNoFrame change
    no_frame true is = subst IsNoFrame (sym (change_is true is)) tt
    no_frame false is = subst IsNoFrame (sym (change_is false is)) tt

    -- whom requests leave was asked still, as no traversal is under way
    applied_duly : AreLeftDuly (log_of e more)
    applied_duly =
        duly_then e out (rows.Applied load.req change) more out_is
        (bare_alone_duly e.checking (log_of e out) e.event e.actor passing.duly load.req change (no_frame load.replace refl) (subst (λ (x : Seen). fits x.history change ≡ true) (now_is e out) (fit p out t passing nav load at idle may over over_is))
        (alone_log e.checking (log_of e out) (passing.work.unheld may.free) passing.work.checks.numbered load.req None (subst (λ (x : Seen). OnlyRuns None x) (now_is e out) goes.tab.asked.only) (λ r never. absurd cc)))

    pub apply_passing : IsPassing p more u
    apply_passing =
        record {
          work = work;
          going = subst (λ (x : Seen). IsGoing u.running p.loads p.hand x) (sym now) (subst (λ (r : Option ReqId). IsGoing r p.loads p.hand n) (sym (keeps.running ∙ idle)) going_then);
          owed = loose_owed e more loose_then;
          loose = λ all. loose_then;
          rests = subst (λ (x : Seen). AllRest x) (sym now) (applied_rests s e.event e.actor [] passing.rests load.req change);
          duly = applied_duly;
          few = subst (λ (k : ℕ). length (now_of e more).kept ≤ k) (sym keeps.keep) (subst (λ (l : List DocId). length l ≤ t.kept.keep) (sym (ap (λ (x : Seen). x.kept) now)) passing.few);
        }

    pub has_applied : HasApplied e nav load out more t u
    has_applied =
        record {
          place = (given p out t passing nav load at idle may).place;
          placed = (given p out t passing nav load at idle may).placed;
          over = over;
          given = over_is;
          out = out_is;
          keeps = keeps;
          wakes = subst (λ (x : Seen). AwakeSince s [] x) (sym now) (applied_since s s [] (since_itself s) e.event e.actor load.req change);
          kept = ap (λ (x : Seen). x.kept) now;
          parked = ap (λ (x : Seen). x.parked) now ∙ without_same s.parked load.req (unheld_at p out t passing nav load at idle may over over_is).parked;
          causes = λ why serves. subst (λ (x : Seen). MayCause x why) (sym now) (causes_on s n None going_then.tab.asked (applied_wishes s e.event e.actor load.req change) (begun_as_it_was s.requests n.requests (applied_reads course_of s.requests load.req change (entries_taken s.history change) (λ q. refl) (λ q. refl) (λ q. refl))) why serves);
        }
