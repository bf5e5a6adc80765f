-- All that holds of a tab between two events holds between two rows after a report is delivered of what a document made, of a poke or of a fragment order: it is at hand, held back, or a traversal in the queue.
use Rattle.seen_facts.specs.Coord.Leading.{held_back}
use Rattle.tab_facts.proofs.Past.Rows.{made_past, unmade_past}
use Rattle.seen_facts.specs.Coord.Flowing.{Flows}
use Rattle.seen_facts.specs.Desk.Own.{IsFragmentTask, IsMadeIn, IsReportIn}
use Rattle.seen_facts.proofs.Entry.Skips.{IsNoEntry, made_in}
use Rattle.seen_facts.proofs.Entry.Told.{at_hand_entries, held_entries, passed_entries}
use Rattle.seen_facts.proofs.Fragment.AtHand.{at_hand_flows}
use Rattle.seen_facts.proofs.Fragment.Delivered.{held_then, parked_flows, unheld_then, first_told}
use Rattle.seen_facts.specs.Fragment.Fragments.{IsFirstMadeOf, IsQuiet}
use Rattle.seen_facts.specs.Fragment.Waiting.{FlowsWith}
use Rattle.tab_facts.proofs.FrameWhole.FlowsAlike.{flows_if}
use Rattle.seen_facts.proofs.LoadWhereabouts.Rows.{at_hand_loads, go_delivered_loads, held_loads}
use Rattle.log_model.specs.AfterRequests.{is_held_back, made_of_report}
use Rattle.log_model.specs.Places.{is_reload, is_traversal}
use Rattle.log_model.specs.Seen.{Asked, Document, Seen, desk_of, document_of, request_in, request_of}
use Rattle.log_model.specs.declared.job.Task.{Task}
use Rattle.log_model.specs.declared.made.Made.{Made}
use Rattle.log_model.specs.declared.made.Report.{Report}
use Rattle.log_model.specs.declared.made.What.{What}
use Rattle.log_model.specs.declared.outcome.Outcome.{Outcome}
use Rattle.seen_facts.proofs.Request.KnownMoved.{at_hand_known, delivered_made, first_made, go_delivered_known, held_known}
use Rattle.seen_facts.proofs.LoadWhereabouts.Counts.{loads_again}
use Rattle.seen_facts.proofs.Request.Onces.{SameTimes, once_again}
use Rattle.seen_facts.proofs.Request.Times.{times_append}
use Rattle.seen_facts.proofs.Request.Placings.{IsNoGo, at_hand_once, go_delivered_once, held_once}
use Rattle.seen_facts.specs.Request.Cores.{Core, core, core_of}
use Rattle.seen_facts.specs.Request.Knowns.{IsMadeOf, is_go}
use Rattle.std.proofs.Common.{Bool, None, Option, Some, [], ap, arith, false, refl, subst, sym, true, ℕ, ℤ, ◌||◌, ◌∙◌, ◌∷◌, ◌≡◌, List, append-nil, ◌++◌}
use Rattle.std.specs.Prelude.{option_and_then, slice_get}
use Rattle.tab_ids.specs.declared.ProcId.{ProcId}
use Rattle.tab_ids.specs.declared.ReqId.{ReqId}
use Rattle.tab_facts.proofs.TabWhole.Delivering.{came, came_tab, fine, its_report}
use Rattle.tab_facts.proofs.TabWhole.Denying.{IsMadeAtHand, alone_at_hand, still_other}
use Rattle.tab_facts.proofs.TabWhole.Passing.{flows_if_with, flows_without_it}
use Rattle.tab_facts.specs.TabWhole.Tab.{IsTab, at_hand, open_among}
use Rattle.seen_facts.specs.Transit.Orders.{IsOutcomeOf}
use Rattle.log_model.specs.declared.job.Task.TheVariants as tasks
use Rattle.log_model.specs.declared.made.Report.TheVariants as reports
use Rattle.log_model.specs.declared.made.What.TheVariants as whats
use Rattle.log_model.specs.declared.outcome.Outcome.TheVariants as outcomes
use Rattle.log_model.specs.declared.row_kind.Actor.TheVariants as actors

-- a fragment order comes to a fragment navigation
fragmented : (task : Task) (outcome : Outcome) → IsFragmentTask task → IsOutcomeOf task outcome → outcome ≡ outcomes.Fragmented
fragmented (tasks.DoFragment req mode address) outcomes.Fragmented is its = refl
fragmented (tasks.DoFragment req mode address) (outcomes.Populated slot) is never = absurd never
fragmented (tasks.DoFragment req mode address) outcomes.Activated is never = absurd never
fragmented (tasks.DoFragment req mode address) outcomes.Updated is never = absurd never
fragmented (tasks.DoFragment req mode address) outcomes.Frozen is never = absurd never
fragmented (tasks.DoFragment req mode address) outcomes.Discarded is never = absurd never
fragmented (tasks.DoFragment req mode address) (outcomes.Asked verdict) is never = absurd never
fragmented (tasks.Populate nav state address initial) outcome never its = absurd never
fragmented (tasks.Activate entry epoch length index memo address) outcome never its = absurd never
fragmented (tasks.Update length index) outcome never its = absurd never
fragmented tasks.Freeze outcome never its = absurd never
fragmented tasks.Discard outcome never its = absurd never
fragmented (tasks.Ask slot cause) outcome never its = absurd never

-- a traversal changes no history, and is no entry
go_free : (s : Seen) (made : Made) (delta : ℤ) → made.what ≡ whats.Go delta → is_held_back s made ≡ false
go_free s made delta what = rw what refl

go_none : (made : Made) (delta : ℤ) → made.what ≡ whats.Go delta → IsNoEntry made.what
go_none made delta what = subst IsNoEntry (sym what) tt

no_traversal : (what : What) → IsNoGo what → is_go what ≡ false
no_traversal (whats.Push entry memo address) is = refl
no_traversal (whats.Replace over entry memo address) is = refl
no_traversal (whats.AddFrame nav) is = refl
no_traversal (whats.RemoveFrame nav) is = refl
no_traversal (whats.Go delta) never = absurd never
no_traversal whats.Edit is = refl

either : (a b : Bool) → (a || b) ≡ false → a ≡ false
either true b e = absurd cc
either false b e = refl

module _ (run : Option ReqId) {loads : List ReqId} (s : Seen) (event : ℕ) (proc : ProcId) (tab : IsTab run loads [] s) (flows : Flows s) (report : Report) (made : Made) (first : slice_get (desk_of s proc).reports 0 ≡ Some report) (tells : made_of_report report ≡ Some made) where
  abbrev told : Seen
  told = came run s event proc tab flows

  -- the report is of a poke, or of a fragment order, and a document of the process made it
  record IsOfOwn : Type 0 where
    quiet : IsQuiet report
    own : IsMadeIn s.documents proc made

  of_own : IsOfOwn
  of_own = by_report report refl tells (its_report run s event proc tab flows report first)
    where
      by_report : (r : Report) → report ≡ r → made_of_report r ≡ Some made → IsReportIn s.documents s.places proc r → IsOfOwn
      by_report (reports.Made m) e is its =
          let same : m ≡ made = cc in
          record { quiet = subst IsQuiet (sym e) tt; own = subst (IsMadeIn s.documents proc) same its }
      by_report (reports.Done job outcome None) e is its = absurd cc
      by_report (reports.Done job outcome (Some m)) e is its =
          let same : m ≡ made = cc in
          let is_ : outcome ≡ outcomes.Fragmented = fragmented job.task outcome its.2.0 its.1 in
          record { quiet = subst IsQuiet (sym e) is_; own = subst (IsMadeIn s.documents proc) same its.2.2 }
      by_report (reports.Died death) e is never = absurd never

  at_first : option_and_then made_of_report (slice_get (desk_of s proc).reports 0) ≡ Some made
  at_first = ap (λ (o : Option Report). option_and_then made_of_report o) first ∙ tells

  told_first : IsFirstMadeOf (desk_of s proc) made
  told_first = record { report = report; first = first; tells = tells; quiet = of_own.quiet }

  its_home : (d : Document) → document_of s made.doc ≡ Some d → d.proc ≡ proc
  its_home d found =
      let both : Some of_own.own.lives.d ≡ Some d = sym of_own.own.lives.found ∙ found in
      let one : of_own.own.lives.d ≡ d = cc in
      let number : d.proc.0 ≡ proc.0 = ap (λ (x : Document). x.proc.0) (sym one) ∙ of_own.own.lives.home in
      ap (λ (n : ℕ). let p : ProcId = record { 0 = n } in p) number

  -- its request, of which it was made
  record IsAsked : Type 0 where
    q : Asked
    there : request_of s made.req ≡ Some q
    makes : q.made ≡ Some made

  its_asked : IsAsked
  its_asked = by_found (request_in s.requests made.req) refl (first_made s event actors.Coord proc report made first tells tab.known)
    where
      by_found : (o : Option Asked) → request_in s.requests made.req ≡ o → IsMadeOf (core_of o) made → IsAsked
      by_found None e k = (let never : None ≡ Some _ = k.is in absurd cc)
      by_found (Some q) e k =
          let both : Some (core q) ≡ Some (record { what = k.what; doc = k.doc; made = Some made; ending = None }) = k.is in
          let one : core q ≡ record { what = k.what; doc = k.doc; made = Some made; ending = None } = cc in
          record { q = q; there = e; makes = ap (λ (c : Core). c.made) one }

  its_made : made_in s.requests made.req ≡ Some made
  its_made =
      ap (λ (o : Option Asked). option_and_then (λ (q : Asked). q.made) o) its_asked.there ∙ its_asked.makes

  -- ---- it is at hand

  pub hand_flows : is_held_back s made ≡ false → FlowsWith (made ∷ []) told
  hand_flows free =
      at_hand_flows s event proc made told_first its_home (unheld_then s event proc made told_first free) flows

  -- behind the loads that are
  abbrev open_loads : List ReqId
  open_loads = open_among s.requests loads

  behind : SameTimes told (made.req ∷ at_hand open_loads []) told (at_hand open_loads (made ∷ []))
  behind r = omega (arith, times_append r open_loads [], times_append r open_loads (made.req ∷ []))

  pub hand_tab : IsNoGo made.what → is_held_back s made ≡ false → IsTab run loads (made ∷ []) told
  hand_tab no_go free =
      came_tab run s event proc tab flows report first (made ∷ [])
      (flows_if_with (made ∷ []) told (hand_flows free))
      (once_again told told (made.req ∷ at_hand open_loads []) (at_hand open_loads (made ∷ [])) (λ r. refl) behind (at_hand_once s (at_hand open_loads []) event actors.Coord proc report made first tells no_go free tab.once))
      (loads_again told told (made.req ∷ at_hand open_loads []) (at_hand open_loads (made ∷ [])) (λ r. refl) behind (at_hand_loads s (at_hand open_loads []) event actors.Coord proc report made first tells tab.trips no_go free))
      (at_hand_known s event actors.Coord proc report made first tells tab.known no_go free)
      (at_hand_entries [] s event actors.Coord tab.entries proc (fine run s event proc tab flows report first) made at_first free)
      (made_past [] (made ∷ []) s event proc tab.docs (fine run s event proc tab flows report first) made (first_told (desk_of s proc) made told_first) its_home (ap (λ (l : List Made). l ++ made ∷ []) (unheld_then s event proc made told_first free ∙ sym (append-nil (held_back s.requests s.parked)))) tab.past)

  -- and all that is at hand of its request, which isn't the running traversal
  pub hand_made : IsNoGo made.what → is_held_back s made ≡ false → IsMadeAtHand run loads (made ∷ []) told made.req made
  hand_made no_go free = by_found (request_in told.requests made.req) refl (delivered_made s event actors.Coord proc report made first tells tab.known)
    where
      now : IsTab run loads (made ∷ []) told
      now = hand_tab no_go free

      by_found : (o : Option Asked) → request_in told.requests made.req ≡ o → IsMadeOf (core_of o) made → IsMadeAtHand run loads (made ∷ []) told made.req made
      by_found None e k = (let never : None ≡ Some _ = k.is in absurd cc)
      by_found (Some q) e k =
          let both : Some (core q) ≡ Some (record { what = k.what; doc = k.doc; made = Some made; ending = None }) = k.is in
          let one : core q ≡ record { what = k.what; doc = k.doc; made = Some made; ending = None } = cc in
          let still : is_traversal q.what ≡ false = ap (λ (c : Core). is_traversal c.what) one ∙ either (is_traversal k.what) (is_reload k.what) (k.begins ∙ no_traversal made.what no_go) in
          alone_at_hand run loads told made q (still_other run loads (made ∷ []) told made.req q now e still) e (ap (λ (c : Core). c.made) one)

  -- ---- it is held back

  pub held_flows : is_held_back s made ≡ true → Flows told
  held_flows held =
      parked_flows s event proc made told_first its_home flows (held_then s event proc made told_first its_asked.q its_asked.there its_asked.makes held)

  pub held_tab : IsNoGo made.what → is_held_back s made ≡ true → IsTab run loads [] told
  held_tab no_go held =
      came_tab run s event proc tab flows report first []
      (flows_if told (held_flows held))
      (held_once s (at_hand open_loads []) event actors.Coord proc report made first tells no_go held tab.once)
      (held_loads s (at_hand open_loads []) event actors.Coord proc report made first tells tab.trips no_go held)
      (held_known s event actors.Coord proc report made first tells tab.known no_go held)
      (held_entries s event actors.Coord tab.entries proc (fine run s event proc tab flows report first) made at_first held its_made)
      (made_past [] [] s event proc tab.docs (fine run s event proc tab flows report first) made (first_told (desk_of s proc) made told_first) its_home (ap (λ (l : List Made). l ++ []) (held_then s event proc made told_first its_asked.q its_asked.there its_asked.makes held) ∙ append-nil (held_back s.requests s.parked ++ made ∷ []) ∙ ap (λ (l : List Made). l ++ made ∷ []) (sym (append-nil (held_back s.requests s.parked)))) tab.past)

  -- ---- it is a traversal, and joins the queue

  module _ (delta : ℤ) (what : made.what ≡ whats.Go delta) where
    pub joined_flows : Flows told
    joined_flows =
        flows_without_it told made (go_none made delta what)
        (at_hand_flows s event proc made told_first its_home (unheld_then s event proc made told_first (go_free s made delta what)) flows)

    pub joined_tab : IsTab run loads [] told
    joined_tab =
        came_tab run s event proc tab flows report first []
        (flows_if told joined_flows)
        (go_delivered_once s (at_hand open_loads []) event actors.Coord proc report made first tells delta what tab.once)
        (go_delivered_loads s (at_hand open_loads []) event actors.Coord proc report made first tells tab.trips delta what)
        (go_delivered_known s event actors.Coord proc report made first tells tab.known delta what)
        (passed_entries [] s event actors.Coord tab.entries proc (fine run s event proc tab flows report first) made at_first (go_free s made delta what) (go_none made delta what))
        (unmade_past [] [] s event proc tab.docs (fine run s event proc tab flows report first) (ap (λ (l : List Made). l ++ []) (unheld_then s event proc made told_first (go_free s made delta what))) tab.past)
