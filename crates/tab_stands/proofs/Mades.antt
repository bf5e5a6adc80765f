-- A report tells what a document made: what is known of it and of its request, and what the event's own row leaves; and all goes on with it at hand.
use Rattle.load_doors.proofs.Starts.{made_real, up_start}
use Rattle.seen_facts.specs.Asked.Asking.{IsAskedPlainly, IsTabRequest}
use Rattle.seen_facts.specs.Desk.Own.{IsFragmentTask, IsMadeIn, IsReportIn}
use Rattle.seen_facts.specs.Fragment.Fragments.{IsFirstMadeOf, IsQuiet}
use Rattle.tab_facts.specs.Frame.Lasting.{IsOfItsNav}
use Rattle.seen_facts.specs.Kept.Keeping.{state_in}
use Rattle.load_doors.specs.Tied.{AreTied}
use Rattle.seen_facts.proofs.LoadTies.Rows.{TellsNone, delivered_tied}
use Rattle.log_model.specs.After.{documents_delivered}
use Rattle.log_model.specs.AfterPlaces.{places_delivered}
use Rattle.log_model.specs.AfterRequests.{changes_history, is_held_back, is_held_up, is_in_place, made_of_report, requests_delivered}
use Rattle.log_model.specs.Places.{is_load}
use Rattle.log_model.specs.Queue.{is_delivered_duly, is_taken_up_at_once}
use Rattle.log_model.specs.Seen.{Asked, Document, Seen, desk_of, request_in, request_of}
use Rattle.log_model.specs.declared.job.Job.{Job}
use Rattle.log_model.specs.declared.job.Task.{Task}
use Rattle.log_model.specs.declared.made.Made.{Made}
use Rattle.log_model.specs.declared.made.Report.{Report}
use Rattle.log_model.specs.declared.outcome.Outcome.{Outcome}
use Rattle.log_model.specs.declared.request.Request.{Request}
use Rattle.log_model.specs.declared.row_kind.Actor.{Actor}
use Rattle.log_model.specs.declared.row_kind.LogRow.{LogRow}
use Rattle.log_model.specs.declared.row_kind.RowKind.{RowKind}
use Rattle.move_queue.specs.Queue.{Queue}
use Rattle.seen_facts.proofs.Request.KnownMoved.{first_made}
use Rattle.seen_facts.specs.Request.Cores.{Core, core, core_of}
use Rattle.seen_facts.specs.Request.Knowns.{IsMadeOf}
use Rattle.seen_laws.specs.Blocks.{point_at}
use Rattle.seen_laws.specs.InEvent.{InEvent, IsTakenIn, now_of, start_of}
use Rattle.seen_laws.specs.Sending.{leads}
use Rattle.std.proofs.Common.{Bool, List, None, Option, Some, [], ap, cond, false, length, map, not, refl, subst, sym, true, ℤ, ◌&&◌, ◌++◌, ◌+◌, ◌∙◌, ◌∷◌, ◌≡◌, ◌≤◌}
use Rattle.std.proofs.lemmas.List.{map-id}
use Rattle.std.specs.List.{filter_map}
use Rattle.std.specs.Option.{option_map_or}
use Rattle.std.specs.Prelude.{option_and_then}
use Rattle.tab_doors.proofs.EndLaws.{left_holds}
use Rattle.tab_doors.specs.Look.{look_of as sights_of, sight}
use Rattle.tab_doors.specs.Working.{IsWorker}
use Rattle.tab_doors.specs.declared.tables.Tables.{Tables}
use Rattle.tab_settles.specs.PassedOn.{AreHeldUp, IsByItsOwn, IsTab}
use Rattle.tab_ids.specs.declared.DocId.{DocId}
use Rattle.tab_ids.specs.declared.ProcId.{ProcId}
use Rattle.tab_ids.specs.declared.ReqId.{ReqId}
use Rattle.tab_ids.specs.declared.StateId.{StateId}
use Rattle.tab_settles.specs.Settling.{IsQueueing}
use Rattle.tab_stands.proofs.Begun.{begun}
use Rattle.tab_stands.proofs.Coming.{IsComing}
use Rattle.tab_stands.proofs.Dones.{itself, unchanged}
use Rattle.tab_stands.proofs.Reports.{told, told_comes, told_going, told_kept, told_moved, told_now, told_rests, told_row, told_tied}
use Rattle.tab_stands.specs.Delivering.{IsSeenDelivery, IsToldOf}
use Rattle.tab_stands.specs.Standing.{HasBegun, HasLogged, HasRoomFor, InCheck, IsOwnRead, StandsFor, seen_start}
use Rattle.tab_settles.proofs.PassedOn.{its_report}
use Rattle.seen_facts.specs.Transit.Orders.{IsOutcomeOf}
use Rattle.log_model.specs.declared.job.Task.TheVariants as tasks
use Rattle.log_model.specs.declared.made.Report.TheVariants as reports
use Rattle.log_model.specs.declared.made.What.TheVariants as whats
use Rattle.log_model.specs.declared.outcome.Outcome.TheVariants as outcomes
use Rattle.log_model.specs.declared.request.Request.TheVariants as requests
use Rattle.log_model.specs.declared.row_kind.Actor.TheVariants as actors

-- the request of what was made: open, and of that
pub record IsMadeFor (s : Seen) (made : Made) : Type 0 where
  pub q : Asked
  pub there : request_of s made.req ≡ Some q
  pub known : IsMadeOf (Some (core q)) made
  pub is : core q ≡ record { what = known.what; doc = known.doc; made = Some made; ending = None }
  pub makes : q.made ≡ Some made
  pub open_ : q.ending ≡ None

module _ (e : InEvent) (proc : ProcId) (report : Report) (made : Made) (del : IsSeenDelivery e proc report) (tells : IsToldOf report made) (t : Tables) (queue : Queue) (blame : List (StateId × ReqId)) {check : InCheck} (stands : StandsFor check (seen_start e) t queue blame) (aside : IsOwnRead e) where
  abbrev s : Seen
  s = seen_start e

  abbrev pub heard : Seen
  heard = told e proc del.by_coord del.own t queue blame stands aside report del.first

  pub heard_now : now_of e [] ≡ heard
  heard_now = told_now e proc del.by_coord del.own t queue blame stands aside report del.first

  its : IsReportIn s.documents s.places proc report
  its = its_report t.running s e.event proc stands.between.tab stands.between.flows report del.first

  -- the report is of a poke, or of a fragment order, and a document of the process made it
  pub record IsOfOwn : Type 0 where
    pub quiet : IsQuiet report
    pub own : IsMadeIn (seen_start e).documents proc made
    pub documents : documents_delivered (seen_start e).documents (Some report) ≡ (seen_start e).documents
    pub places : places_delivered (seen_start e) (Some report) ≡ (seen_start e).places
    pub requests_ : requests_delivered (Some report) (seen_start e).requests ≡ (seen_start e).requests
    pub none : TellsNone (Some report)

  pub of_own : IsOfOwn
  of_own = by_report report refl tells its
    where
      fragment : (job : Job) (task : Task) → job.task ≡ task → IsFragmentTask task → (outcome : Outcome) → IsOutcomeOf task outcome → (m : Made) → report ≡ reports.Done job outcome (Some m) → IsMadeIn s.documents proc made → IsOfOwn
      fragment job (tasks.DoFragment req mode address) at is outcomes.Fragmented its_ m r own =
          record {
            quiet = subst IsQuiet (sym r) refl;
            own = own;
            documents = ap (λ (x : Report). documents_delivered s.documents (Some x)) r;
            places = ap (λ (x : Report). places_delivered s (Some x)) r ∙ (rw at refl);
            requests_ = ap (λ (x : Report). requests_delivered (Some x) s.requests) r;
            none = subst (λ (x : Report). TellsNone (Some x)) (sym r) tt;
          }
      fragment job (tasks.DoFragment req mode address) at is (outcomes.Populated slot) never m r own = absurd never
      fragment job (tasks.DoFragment req mode address) at is outcomes.Activated never m r own = absurd never
      fragment job (tasks.DoFragment req mode address) at is outcomes.Updated never m r own = absurd never
      fragment job (tasks.DoFragment req mode address) at is outcomes.Frozen never m r own = absurd never
      fragment job (tasks.DoFragment req mode address) at is outcomes.Discarded never m r own = absurd never
      fragment job (tasks.DoFragment req mode address) at is (outcomes.Asked verdict) never m r own = absurd never
      fragment job (tasks.Populate nav state address initial) at never outcome its_ m r own = absurd never
      fragment job (tasks.Activate entry epoch long index memo address) at never outcome its_ m r own = absurd never
      fragment job (tasks.Update long index) at never outcome its_ m r own = absurd never
      fragment job tasks.Freeze at never outcome its_ m r own = absurd never
      fragment job tasks.Discard at never outcome its_ m r own = absurd never
      fragment job (tasks.Ask slot cause) at never outcome its_ m r own = absurd never

      by_report : (r : Report) → report ≡ r → made_of_report r ≡ Some made → IsReportIn s.documents s.places proc r → IsOfOwn
      by_report (reports.Made m) at is its_ =
          let same : m ≡ made = cc in
          record {
            quiet = subst IsQuiet (sym at) tt;
            own = subst (IsMadeIn s.documents proc) same its_;
            documents = ap (λ (x : Report). documents_delivered s.documents (Some x)) at;
            places = ap (λ (x : Report). places_delivered s (Some x)) at;
            requests_ = ap (λ (x : Report). requests_delivered (Some x) s.requests) at;
            none = subst (λ (x : Report). TellsNone (Some x)) (sym at) tt;
          }
      by_report (reports.Done job outcome None) at is its_ = absurd cc
      by_report (reports.Done job outcome (Some m)) at is its_ =
          let same : m ≡ made = cc in
          fragment job job.task refl its_.2.0 outcome its_.1 m at (subst (IsMadeIn s.documents proc) same its_.2.2)
      by_report (reports.Died death) at is never = absurd never

  pub heard_requests : heard.requests ≡ (seen_start e).requests
  heard_requests = ap (λ (o : Option Report). requests_delivered o s.requests) del.first ∙ of_own.requests_

  pub heard_documents : heard.documents ≡ (seen_start e).documents
  heard_documents = ap (λ (o : Option Report). documents_delivered s.documents o) del.first ∙ of_own.documents

  pub heard_places : heard.places ≡ (seen_start e).places
  heard_places = ap (λ (o : Option Report). places_delivered s o) del.first ∙ of_own.places

  pub heard_first : IsFirstMadeOf (desk_of (seen_start e) proc) made
  heard_first = record { report = report; first = del.first; tells = tells; quiet = of_own.quiet }

  pub heard_parked : (b : Bool) → is_held_back (seen_start e) made ≡ b → heard.parked ≡ cond b ((seen_start e).parked ++ made.req ∷ []) (seen_start e).parked
  heard_parked b is =
      ap (λ (o : Option Made). option_map_or (λ (m : Made). let l : List ReqId = cond (is_held_back s m) (s.parked ++ m.req ∷ []) s.parked in l) o s.parked) (ap (λ (o : Option Report). option_and_then made_of_report o) del.first ∙ tells)
      ∙ ap (λ (x : Bool). cond x (s.parked ++ made.req ∷ []) s.parked) is

  -- ---- its document and its request

  abbrev d : Document
  d = of_own.own.lives.d

  pub its_asked : IsMadeFor (seen_start e) made
  its_asked = by_found (request_in s.requests made.req) refl (first_made s e.event actors.Coord proc report made del.first tells stands.between.tab.known)
    where
      by_found : (o : Option Asked) → request_in s.requests made.req ≡ o → IsMadeOf (core_of o) made → IsMadeFor s made
      by_found None at k = absurd (let never : None ≡ Some _ = k.is in cc)
      by_found (Some q) at k =
          let both : Some (core q) ≡ Some (record { what = k.what; doc = k.doc; made = Some made; ending = None }) = k.is in
          let one : core q ≡ record { what = k.what; doc = k.doc; made = Some made; ending = None } = cc in
          record { q = q; there = at; known = k; is = one; makes = ap (λ (c : Core). c.made) one; open_ = ap (λ (c : Core). c.ending) one }

  abbrev q : Asked
  q = its_asked.q

  pub its_plain : IsAskedPlainly made.req its_asked.q
  its_plain = stands.between.tab.asked.each made.req q its_asked.there

  -- a document of the request's navigable made it
  pub its_nav : IsByItsOwn (seen_start e) its_asked.q made
  its_nav = by_what q.what refl its_plain.what
    where
      what_is : its_asked.known.what ≡ q.what
      what_is = sym (ap (λ (c : Core). c.what) its_asked.is)

      by_what : (what : Request) → q.what ≡ what → IsTabRequest what → IsByItsOwn s q made
      by_what (requests.Go delta) is plain = absurd (its_asked.known.no_user delta (what_is ∙ is))
      by_what (requests.Poke nav action) is plain =
          let doc : q.doc ≡ Some made.doc = ap (λ (c : Core). c.doc) its_asked.is ∙ its_asked.known.poked nav action (what_is ∙ is) in
          let of_ : IsOfItsNav s.documents _ made.doc = stands.lasts.lasting.poked made.req q its_asked.there made.doc doc in
          record { d = of_.d; found = of_.found; nav_is = of_.nav_is }
      by_what (requests.Load nav mode address) is plain =
          (stands.lasts.made made.req q made its_asked.there (ap is_load is) its_asked.makes).0
      by_what (requests.Reload nav) is never = absurd never

  -- ---- what comes

  pub heard_comes : IsComing blame (seen_start e) (now_of e [])
  heard_comes =
      told_comes e proc del.by_coord del.own t queue blame stands aside report del.first heard_requests (λ p. p) itself (heard_places ∙ sym (map-id s.places)) heard_documents

  pub heard_tied : AreTied (now_of e []) t
  heard_tied =
      told_tied e proc del.by_coord del.own t queue blame stands aside report del.first heard_requests t unchanged
      (left_holds (sights_of s t.running) (sights_of heard t.running) t (ap (λ (l : List Document). map sight l) heard_documents) heard_places refl (told_moved e proc del.by_coord del.own t queue blame stands aside report del.first heard_requests) refl refl refl stands.tied.holds)
      (delivered_tied s e.event actors.Coord t.loads stands.tied.loads proc (subst (λ (o : Option Report). TellsNone o) (sym del.first) of_own.none)) refl
      (stands.tied.kept ∙ ap (λ (l : List Document). filter_map (state_in l) s.kept) (sym heard_documents) ∙ ap (λ (l : List DocId). filter_map (state_in heard.documents) l) (sym (told_kept e proc del.by_coord del.own t queue blame stands aside report del.first)))
      (subst (λ (l : List Document). length l ≤ s.jobs + 1) (sym heard_documents) stands.tied.few)

  -- with this at hand, and what waits
  pub heard_begun : HasLogged e t.checks t.asking → HasRoomFor (seen_start e) → t.kept.keep ≡ e.header.keep → (hand : List Made) → IsTab t.running check.loads hand heard → AreHeldUp t.running heard → (left : Queue) → IsQueueing (record { event = e; loads = check.loads; hand = hand }) [] t left → HasBegun (record { event = e; loads = check.loads; hand = hand }) t left blame
  heard_begun logged room header hand tab held left queueing =
      begun (record { event = e; loads = check.loads; hand = hand }) t left blame stands.between stands.lasts stands.tied.goal header logged (ap (λ (k : RowKind). leads k) del.own) (subst (λ (a : Actor). IsWorker a) (sym del.by_coord) tt)
      heard_tied
      (told_going e proc del.by_coord del.own t queue blame stands aside report del.first heard_requests room check.loads hand tab held (rw heard_places stands.lasts.counted.epochs))
      (told_rests e proc del.by_coord del.own t queue blame stands aside report del.first)
      heard_comes queueing

  -- ---- what needn't be taken up in the event

  pub unneeded_takes : is_taken_up_at_once (seen_start e) made ≡ false → (later : List LogRow) → IsTakenIn e later
  unneeded_takes never later =
      subst (λ (r : LogRow). is_delivered_duly (point_at (start_of e) later) r ≡ true) (sym (told_row e proc del.by_coord del.own t queue blame stands aside report del.first)) (rw (del.real_first) (rw (made_real del.real report del.quiet ∙ tells) (rw (sym (up_start e del.unheld made) ∙ never) refl)))

  -- so it is of what is held back
  pub held_takes : is_held_back (seen_start e) made ≡ true → (later : List LogRow) → IsTakenIn e later
  held_takes held =
      unneeded_takes (no_more (changes_history made.what) (is_in_place s made) (is_held_up s made) held)
    where
      no_more : (a b c : Bool) → (a && b && c) ≡ true → (a && b && not c) ≡ false
      no_more true true true is = refl
      no_more true true false never = absurd cc
      no_more true false c never = absurd cc
      no_more false b c never = absurd cc

  -- and of a traversal
  pub went_takes : (delta : ℤ) → made.what ≡ whats.Go delta → (later : List LogRow) → IsTakenIn e later
  went_takes delta is =
      unneeded_takes (ap (λ (b : Bool). b && is_in_place s made && not (is_held_up s made)) (ap changes_history is))
