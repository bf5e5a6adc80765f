-- What a document made that changes the history is at hand as its report is delivered: it may be taken up, refused or dropped.
use Rattle.tab_facts.specs.TabWhole.Tab.{open_among}
use Rattle.seen_laws.proofs.InEvents.{now_is, uncut_first}
use Rattle.load_doors.proofs.Starts.{made_real, requests_start}
use Rattle.seen_laws.specs.Blocks.{Here}
use Rattle.log_model.specs.Places.{has_passed}
use Rattle.seen_facts.specs.Asked.Asking.{IsTabRequest, IsThere}
use Rattle.row_facts.proofs.FrameRows.LawfulLaws.{ends_other}
use Rattle.row_facts.specs.FrameRows.Taking.{IsTakenNow}
use Rattle.seen_facts.specs.Load.Loading.{IsLoading, is_ongoing, look}
use Rattle.log_model.specs.AfterPlaces.{report_taken}
use Rattle.log_model.specs.AfterRequests.{changes_history, is_held_back, made_of_report}
use Rattle.log_model.specs.Causes.{takes_report}
use Rattle.log_model.specs.Equal.{has_req, holds, implies}
use Rattle.log_model.specs.Once.{has_to_begin}
use Rattle.log_model.specs.Places.{is_load, is_traversal, running_traversal}
use Rattle.log_model.specs.Queue.{is_traverse}
use Rattle.log_model.specs.Seen.{Asked, Document, Seen, request_in, request_of}
use Rattle.log_model.specs.declared.change.Change.{Change}
use Rattle.log_model.specs.declared.made.Made.{Made}
use Rattle.log_model.specs.declared.made.Report.{Report}
use Rattle.log_model.specs.declared.made.What.{What}
use Rattle.log_model.specs.declared.request.Request.{Request}
use Rattle.log_model.specs.declared.row_kind.RowKind.{RowKind}
use Rattle.seen_facts.specs.Home.Homes.{document_in}
use Rattle.move_queue.specs.Queue.{Queue}
use Rattle.seen_facts.proofs.Request.Endings.{due_small}
use Rattle.seen_facts.proofs.Request.Placings.{IsNoGo}
use Rattle.seen_facts.proofs.Request.Times.{itself, times_append, times_none}
use Rattle.seen_facts.specs.Request.Cores.{Core}
use Rattle.seen_facts.specs.Request.Knowns.{is_go}
use Rattle.seen_facts.specs.Request.Whereabouts.{times, times_due, times_found}
use Rattle.seen_facts.specs.LoadWhereabouts.Whereabouts.{times_on_way}
use Rattle.seen_laws.proofs.Sums.{over}
use Rattle.seen_laws.specs.InEvent.{InEvent, here_of, now_of, row_of}
use Rattle.std.proofs.Common.{Bool, List, None, Option, Some, [], ap, arith, false, inl, inr, length, refl, subst, sym, true, ℕ, ◌+◌, ◌==◌, ◌||◌, ◌∙◌, ◌∷◌, ◌≡◌, ◌≤◌, ◌⊎◌}
use Rattle.std.proofs.lemmas.Bool.Decides.{nat_tests}
use Rattle.std.proofs.lemmas.Bool.{or_left}
use Rattle.std.specs.List.{list_any}
use Rattle.std.specs.Prelude.{nat_lt, option_and_then, option_map}
use Rattle.tab_settles.proofs.PassedOn.{all_once, ends_parked, hand_tab, running_is, stand_arrives, stand_bare}
use Rattle.tab_doors.specs.declared.tables.Tables.{Tables}
use Rattle.tab_ids.specs.declared.ProcId.{ProcId}
use Rattle.tab_ids.specs.declared.ReqId.{ReqId}
use Rattle.tab_ids.specs.declared.StateId.{StateId}
use Rattle.tab_settles.specs.PassedOn.{InPass, IsByItsOwn, IsForTaking, IsOfFragment, IsOfPoke, IsTab, IsToTake, at_hand}
use Rattle.tab_stands.proofs.Accepting.{number_low}
use Rattle.tab_stands.proofs.Dones.{held_first}
use Rattle.tab_stands.proofs.Hands.{hand_begun}
use Rattle.tab_stands.proofs.Mades.{IsMadeFor, heard, heard_documents, heard_now, heard_parked, heard_requests, its_asked, its_nav, its_plain}
use Rattle.tab_stands.specs.Delivering.{IsSeenDelivery, IsToldOf}
use Rattle.tab_stands.specs.Standing.{HasBegun, HasLogged, HasRoomFor, InCheck, IsOwnRead, StandsFor, seen_start}
use Rattle.log_model.specs.declared.made.What.TheVariants as whats
use Rattle.log_model.specs.declared.request.Request.TheVariants as requests
use Rattle.log_model.specs.declared.row_kind.RowKind.TheVariants as rows

pub changes_no_go : (what : What) → changes_history what ≡ true → IsNoGo what
changes_no_go (whats.Go delta) never = absurd cc
changes_no_go (whats.Push entry memo address) is = tt
changes_no_go (whats.Replace over entry memo address) is = tt
changes_no_go (whats.AddFrame nav) is = tt
changes_no_go (whats.RemoveFrame nav) is = tt
changes_no_go whats.Edit is = tt

-- once the own row was logged the same is held back in the log itself
here_parked : (e : InEvent) → (here_of e []).now.parked ≡ (now_of e []).parked
here_parked e = ap (λ (x : Seen). x.parked) (sym (now_is e []))

module _ (e : InEvent) (proc : ProcId) (report : Report) (made : Made) (del : IsSeenDelivery e proc report) (tells : IsToldOf report made) (t : Tables) (queue : Queue) (blame : List (StateId × ReqId)) {check : InCheck} (stands : StandsFor check (seen_start e) t queue blame) (aside : IsOwnRead e) (changes : changes_history made.what ≡ true) (free : is_held_back (seen_start e) made ≡ false) (logged : HasLogged e t.checks t.asking) (room : HasRoomFor (seen_start e)) (header : t.kept.keep ≡ e.header.keep) where
  abbrev s : Seen
  s = seen_start e

  abbrev n : Seen
  n = heard e proc report made del tells t queue blame stands aside

  abbrev same : n.requests ≡ (seen_start e).requests
  same = heard_requests e proc report made del tells t queue blame stands aside

  now : now_of e [] ≡ n
  now = heard_now e proc report made del tells t queue blame stands aside

  abbrev asked : IsMadeFor s made
  asked = its_asked e proc report made del tells t queue blame stands aside

  no_go : IsNoGo made.what
  no_go = changes_no_go made.what changes

  abbrev p : InPass
  p = record { event = e; loads = check.loads; hand = made ∷ [] }

  pub begun : HasBegun p t queue blame
  begun = hand_begun e proc report made del tells t queue blame stands aside no_go free logged room header

  tab : IsTab t.running check.loads (made ∷ []) n
  tab = hand_tab t.running s e.event proc stands.between.tab stands.between.flows report made del.first tells no_go free

  parked_same : n.parked ≡ s.parked
  parked_same = heard_parked e proc report made del tells t queue blame stands aside false free

  -- ---- it is at hand alone

  -- beside the loads in their check that haven't ended
  abbrev open_loads : List ReqId
  open_loads = open_among n.requests check.loads

  once : times_found made.req n.desks n.joined n.parked (at_hand open_loads (made ∷ [])) + times_on_way (request_in n.requests made.req) ≡ times_due (request_in n.requests made.req)
  once = all_once t.running check.loads (made ∷ []) n tab made.req

  one_here : times made.req (at_hand open_loads (made ∷ [])) ≡ times made.req open_loads + 1
  one_here =
      times_append made.req open_loads (made.req ∷ [])
      ∙ ap (λ (k : ℕ). times made.req open_loads + k) (let own : times made.req (made.req ∷ []) ≡ 1 = rw (itself made.req) refl in own)

  pub unparked : has_req n.parked made.req ≡ false
  unparked = times_none made.req n.parked (let few = due_small (request_in n.requests made.req) in omega (arith, once, one_here, few))

  pub unjoined : has_req n.joined made.req ≡ false
  unjoined = times_none made.req n.joined (let few = due_small (request_in n.requests made.req) in omega (arith, once, one_here, few))

  pub unparked_now : has_req (now_of e []).parked made.req ≡ false
  unparked_now = ap (λ (x : Seen). has_req x.parked made.req) now ∙ unparked

  -- ---- its request

  pub there_now : request_of (now_of e []) made.req ≡ Some asked.q
  there_now =
      ap (λ (x : Seen). request_of x made.req) now ∙ ap (λ (l : List Asked). request_in l made.req) same ∙ asked.there

  its_passed : has_passed (now_of e []) asked.q ≡ true
  its_passed =
      subst (λ (x : Seen). has_passed x asked.q ≡ true) (sym now) (tab.asked.passed made.req asked.q (sym (ap (λ (x : Seen). request_of x made.req) now) ∙ there_now))

  not_go : (what : What) → IsNoGo what → is_go what ≡ false
  not_go (whats.Go delta) never = absurd never
  not_go (whats.Push entry memo address) is = refl
  not_go (whats.Replace over entry memo address) is = refl
  not_go (whats.AddFrame nav) is = refl
  not_go (whats.RemoveFrame nav) is = refl
  not_go whats.Edit is = refl

  pub rests : is_traversal asked.q.what ≡ false
  rests =
      either (is_traversal asked.q.what) _ (ap has_to_begin (ap (λ (c : Core). c.what) asked.is) ∙ asked.known.begins ∙ not_go made.what no_go)
    where
      either : (a b : Bool) → (a || b) ≡ false → a ≡ false
      either true b h = absurd cc
      either false b h = refl

  pub unstarted : asked.q.is_started ≡ false
  unstarted = by_load (is_load asked.q.what) refl
    where
      by_started : is_load asked.q.what ≡ true → (b : Bool) → asked.q.is_started ≡ b → b ≡ false
      by_started load false is = refl
      by_started load true is =
          let ongoing : is_ongoing (look asked.q) ≡ true = rw is (rw asked.open_ (rw load refl)) in
          let its : IsLoading s (look asked.q) = stands.between.tab.loading.each made.req (look asked.q) (ap (λ (o : Option Asked). option_map look o) asked.there) ongoing in
          absurd (let never : None ≡ Some made = sym its.unmade ∙ asked.makes in cc)

      by_load : (b : Bool) → is_load asked.q.what ≡ b → asked.q.is_started ≡ false
      by_load true load = by_started load asked.q.is_started refl
      by_load false none = (its_plain e proc report made del tells t queue blame stands aside).unstarted rests none

  kind : IsOfPoke asked.q ⊎ IsOfFragment (now_of e []) asked.q
  kind = by_what asked.q.what refl (its_plain e proc report made del tells t queue blame stands aside).what
    where
      by_what : (what : Request) → asked.q.what ≡ what → IsTabRequest what → IsOfPoke asked.q ⊎ IsOfFragment (now_of e []) asked.q
      by_what (requests.Go delta) is plain = absurd (let never : true ≡ false = sym (ap is_traversal is) ∙ rests in cc)
      by_what (requests.Poke nav action) is plain = inl (record { nav = nav; action = action; what = is; no_step = sym (ap is_traversal is) ∙ rests })
      by_what (requests.Load nav mode address) is plain =
          inr (record { nav = nav; mode = mode; address = address; what = is; passed = its_passed })
      by_what (requests.Reload nav) is never = absurd never

  own_now : IsByItsOwn (now_of e []) asked.q made
  own_now =
      let its : IsByItsOwn s asked.q made = its_nav e proc report made del tells t queue blame stands aside in
      let found : document_in n.documents made.doc ≡ Some its.d = ap (λ (l : List Document). document_in l made.doc) (heard_documents e proc report made del tells t queue blame stands aside) ∙ its.found in
      record { d = its.d; found = ap (λ (x : Seen). document_in x.documents made.doc) now ∙ found; nav_is = its.nav_is }

  -- ---- where the event stands

  idle_none : running_traversal (now_of e []) ≡ None → (now_of e []).parked ≡ []
  idle_none none =
      ap (λ (x : Seen). x.parked) now ∙ parked_same ∙ stands.between.held (by_run t.running refl)
    where
      by_run : (o : Option ReqId) → t.running ≡ o → o ≡ None
      by_run None is = refl
      by_run (Some req) is =
          let its : IsThere n req = tab.asked.runs req is in
          let some : running_traversal n ≡ Some its.q = running_is n t.running tab.asked ∙ ap (λ (o : Option ReqId). option_and_then (λ (r : ReqId). request_in n.requests r) o) is ∙ its.found in
          absurd (let never : None ≡ Some its.q = sym none ∙ ap (λ (x : Seen). running_traversal x) now ∙ some in cc)

  before : nat_lt (length e.start.requests) asked.q.nr.0 ≡ false
  before =
      let low : made.req.0 ≤ length s.requests = number_low s.requests made.req asked.q asked.there in
      let nr : asked.q.nr.0 ≡ made.req.0 = ap (λ (r : ReqId). r.0) (its_plain e proc report made del tells t queue blame stands aside).nr in
      let many : length s.requests ≡ length e.start.requests = requests_start e in
      let within : asked.q.nr.0 ≤ length e.start.requests = omega (arith, low, nr, many) in
      grind (arith, nat_tests, within)

  taken_now : (change : Change) → IsTakenNow (here_of e []) (row_of e (rows.Applied made.req change)) made
  taken_now change =
      subst (λ (h : Here). IsTakenNow h (row_of e (rows.Applied made.req change)) made) (sym (uncut_first e logged.logged.uncut)) (λ later.
      or_left _ _ (ap (λ (k : RowKind). holds (λ (taken : Made). taken.req.0 == made.req.0) (option_and_then made_of_report (report_taken e.start k))) del.own
      ∙ ap (λ (o : Option Report). holds (λ (taken : Made). taken.req.0 == made.req.0) (option_and_then made_of_report o)) del.real_first
      ∙ ap (λ (o : Option Made). holds (λ (taken : Made). taken.req.0 == made.req.0) o) (made_real del.real report del.quiet ∙ tells)
      ∙ itself made.req))

  for_taking : IsForTaking e [] (made ∷ []) made
  for_taking =
      record {
        q = asked.q;
        there = there_now;
        makes = asked.makes;
        open_ = asked.open_;
        rests = rests;
        unstarted = unstarted;
        kind = kind;
        own = own_now;
        changes = changes;
        here = inl (refl, refl);
        still = λ at none. idle_none none;
        theirs = begun.theirs;
        by_coord = del.by_coord;
        takes = ap takes_report del.own;
        before = before;
        free = ap (λ (b : Bool). implies b (list_any is_traverse (here_of e []).done)) (ap (λ (l : List ReqId). has_req l made.req) (here_parked e) ∙ unparked_now);
        taken = taken_now;
        held = λ kind_ ends. ends_other e [] kind_ made.req (ends, ends_parked e kind_ made.req ends) (ap (λ (l : List ReqId). has_req l made.req) (sym (held_first e logged.logged.uncut)) ∙ unparked_now) unparked_now;
      }

  pub hand_to_take : IsToTake (record { event = e; loads = check.loads; hand = made ∷ [] }) [] t blame made
  hand_to_take =
      record {
        passing = begun.passing;
        taking = for_taking;
        open_ = begun.taking;
        loose = begun.loose;
        arrived = stand_arrives t.running check.loads (made ∷ []) (now_of e []) begun.passing.going.tab (stand_bare (now_of e []) begun.stand);
      }
