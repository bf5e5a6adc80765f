-- What the calls ask as a load begins and asks, and what is so behind them.
use Rattle.asking_facts.specs.Asking.{begun_asking}
use Rattle.leave_questions.proofs.Due.{load_due}
use Rattle.leave_questions.proofs.Slots.{has_slots}
use Rattle.leave_questions.specs.Questions.{load_questions}
use Rattle.load_asked.proofs.Begins as may
use Rattle.load_asked.proofs.Known as known
use Rattle.load_asked.proofs.Ready as ready
use Rattle.load_asked.proofs.Works as works
use Rattle.load_asked.specs.Beginning.{HasAsked, IsToBegin, asking_load, due_of, entered_tables, own_load, pass_then, then_begun, what_of}
use Rattle.load_doors.specs.Loading.{IsGiven}
use Rattle.load_table.specs.Loads.{begun}
use Rattle.load_table.specs.declared.load.Load.{Load}
use Rattle.log_model.specs.AfterRequests.{load_replaces}
use Rattle.log_model.specs.Equal.{holds}
use Rattle.log_model.specs.Orders.{Question}
use Rattle.log_model.specs.Places.{aim_of, has_arrived, is_given_target, is_placed, is_shown, is_standing, stands, way_to}
use Rattle.log_model.specs.Seen.{Place, Seen}
use Rattle.log_model.specs.Soundness.{IsSound}
use Rattle.log_model.specs.declared.job.Why.TheVariants as whys
use Rattle.log_model.specs.declared.request.Mode.{Mode}
use Rattle.log_model.specs.declared.request.Request.TheVariants as requests
use Rattle.log_model.specs.declared.row_kind.RowKind.{RowKind}
use Rattle.seen_facts.specs.Each.Items.{NoneDied}
use Rattle.seen_facts.specs.Hang.Hanging.{Hangs}
use Rattle.seen_facts.specs.Home.Homes.{EachWake, IsHomed}
use Rattle.seen_laws.proofs.Cuts.{log_cut}
use Rattle.seen_laws.specs.InEvent.{InEvent, log_of, now_of}
use Rattle.slot_facts.specs.Slots.{AreSlots}
use Rattle.std.proofs.Common.{Bool, List, None, Option, [], ap, not, refl, subst, sym, true, ℕ, ◌&&◌, ◌+◌, ◌<◌, ◌∙◌, ◌∷◌, ◌≡◌}
use Rattle.std.proofs.lemmas.Bool.{and_parts}
use Rattle.std.specs.List.{list_all}
use Rattle.tab_asked.proofs.There.{due_there}
use Rattle.tab_asks.specs.Asks.{AreThere, HasBegunAsking, HasBegunCheck}
use Rattle.tab_doors.proofs.Rooms.{states_fit}
use Rattle.tab_doors.specs.Look.{look_of}
use Rattle.tab_doors.specs.Ties.{Holds}
use Rattle.tab_doors.specs.Working.{IsAtWork}
use Rattle.tab_doors.specs.declared.tables.Tables.{Tables}
use Rattle.tab_facts.proofs.Calm.Sames.{way_at}
use Rattle.tab_facts.specs.TabWhole.Tab.{IsTab}
use Rattle.tab_ids.specs.declared.DocId.{DocId}
use Rattle.tab_ids.specs.declared.NavId.{NavId}
use Rattle.tab_ids.specs.declared.ReqId.{ReqId}
use Rattle.tab_loads.proofs.Givens.{is_given}
use Rattle.tab_loads.specs.Asking.{InLoad}
use Rattle.tab_prompts.specs.Asking.{BeginsAsked}
use Rattle.tab_settles.specs.Settling.{IsReady}
use Rattle.unasked.proofs.Whole.{silent}
use Rattle.unload_check.specs.Checks.{OpenCheck}

first_all : (f : NavId → Bool) (navs : List NavId) (nav : NavId) (above : List NavId) → navs ≡ nav ∷ above → list_all f navs ≡ true → f nav ≡ true
first_all f navs nav above is all = (and_parts (f nav) (list_all f above) (ap (λ (l : List NavId). list_all f l) (sym is) ∙ all)).0

module _ (l : InLoad) (t : Tables) (due : IsToBegin l t) (out : List RowKind) (first : out ≡ []) (req : ReqId) (req_is : l.req ≡ req) (nav : NavId) (nav_is : l.nav ≡ nav) (mode : Mode) (mode_is : l.mode ≡ mode) (address : List ℕ) (address_is : l.address ≡ address) where
  abbrev e : InEvent
  e = l.event

  abbrev s : Seen
  s = now_of e []

  abbrev log : Seen
  log = log_of e []

  tab : IsTab t.running (l.req ∷ l.loads) [] s
  tab = due.ready.passing.going.tab

  abbrev place : Place
  place = due.came.anew.place

  own_placed : is_placed s (aim_of s) l.nav ≡ true
  own_placed = first_all (is_placed s (aim_of s)) (way_to s l.nav) l.nav place.above (way_at s l.nav place due.came.anew.there) due.came.anew.placed

  standing : stands s (aim_of s) l.nav ≡ true
  standing = (and_parts (is_shown s.history.rows (aim_of s) l.nav) (stands s (aim_of s) l.nav) own_placed).1

  target : is_given_target s.history.rows (aim_of s) place ≡ true
  target =
      (and_parts (is_given_target s.history.rows (aim_of s) place) (not place.is_unmet)
      (and_parts (is_given_target s.history.rows (aim_of s) place && not place.is_unmet) (has_arrived place) (sym (ap (λ (o : Option Place). holds (is_standing s.history.rows (aim_of s)) o) due.came.anew.there) ∙ standing)).0).0

  pub given_now : IsAtWork l.event out t × IsGiven (now_of l.event out) t nav
  given_now =
      subst (λ (o : List RowKind). IsAtWork e o t × IsGiven (now_of e o) t nav) (sym first)
      (may.work l t due, subst (λ (x : NavId). IsGiven s t x) nav_is (is_given s t.running t (may.work l t due).holds tab.sound l.nav place due.came.anew.there (aim_of s) target))

  -- whether it replaces
  replaces_is : (replace : Bool) → replace ≡ load_replaces (now_of e out) (requests.Load nav mode address) → replace ≡ load_replaces s (what_of l)
  replaces_is replace is =
      is
      ∙ ap (λ (o : List RowKind). load_replaces (now_of e o) (requests.Load nav mode address)) first
      ∙ ap (λ (x : NavId). load_replaces s (requests.Load x mode address)) (sym nav_is)
      ∙ ap (λ (x : Mode). load_replaces s (requests.Load l.nav x address)) (sym mode_is)
      ∙ ap (λ (x : List ℕ). load_replaces s (requests.Load l.nav l.mode x)) (sym address_is)

  module _ (slots : List (DocId × ℕ)) (has : AreSlots (log_of l.event []) slots) (questions : List Question) (asked : questions ≡ load_questions slots t.tree nav) where
    -- whom it asks
    due_is : questions ≡ due_of l
    due_is =
        asked
        ∙ ap (λ (x : NavId). load_questions slots t.tree x) (sym nav_is)
        ∙ load_due log e.checking t.running t slots
        (may.at_bare l t due (λ (x : Seen). Holds (look_of x t.running) t) (may.work l t due).holds)
        (may.at_bare l t due (λ (x : Seen). IsSound x.history) tab.sound)
        (may.at_bare l t due Hangs tab.hangs)
        (may.at_bare l t due (λ (x : Seen). EachWake (IsHomed x.documents) x) tab.homes.homed)
        (has_slots log slots has.known) l.nav l.mode l.address

    there : AreThere log (due_of l)
    there =
        due_there log e.checking (may.at_bare l t due (λ (x : Seen). IsSound x.history) tab.sound) (may.at_bare l t due Hangs tab.hangs) (may.at_bare l t due (λ (x : Seen). EachWake (IsHomed x.documents) x) tab.homes.homed) (may.at_bare l t due NoneDied tab.asked.died) (what_of l) None

    pub ask_now : IsAtWork l.event out t × AreThere (log_of l.event out) questions
    ask_now =
        subst (λ (o : List RowKind). IsAtWork e o t × AreThere (log_of e o) questions) (sym first)
        (may.work l t due, subst (λ (x : List Question). AreThere log x) (sym due_is) there)

    module _ (ran : List DocId) (ran_is : ran ≡ l.event.ran) (new : List RowKind) (begun_asking_ : HasBegunAsking (log_of l.event out) req None questions out new) (mid : Tables) (check : HasBegunCheck ran out req questions t mid) where
      check_is : HasBegunCheck e.ran [] l.req (due_of l) t mid
      check_is =
          subst (λ (x : List DocId). HasBegunCheck x [] l.req (due_of l) t mid) ran_is
          (subst (λ (x : List RowKind). HasBegunCheck ran x l.req (due_of l) t mid) first
          (subst (λ (x : ReqId). HasBegunCheck ran out x (due_of l) t mid) (sym req_is)
          (subst (λ (x : List Question). HasBegunCheck ran out req x t mid) due_is check)))

      asking_is : HasBegunAsking log l.req None (due_of l) [] new
      asking_is =
          subst (λ (x : List RowKind). HasBegunAsking (log_of e x) l.req None (due_of l) x new) first
          (subst (λ (x : ReqId). HasBegunAsking (log_of e out) x None (due_of l) out new) (sym req_is)
          (subst (λ (x : List Question). HasBegunAsking (log_of e out) req None x out new) due_is begun_asking_))

      pub room_now : mid.states + 1 < 4294967296
      room_now =
          subst (λ (n : ℕ). n + 1 < 4294967296) (sym (ap (λ (x : Tables). x.states) check.only)) (states_fit e [] t (may.work l t due) due.ready.passing.going.room)

      module _ (replace : Bool) (replaces : replace ≡ load_replaces (now_of l.event out) (requests.Load nav mode address)) (own : List ℕ) (own_is : own ≡ address) (u : Tables) (tables : u ≡ entered_tables mid (asking_load req nav own replace (mid.states + 1))) where
        load_is : asking_load req nav own replace (t.states + 1) ≡ own_load l
        load_is =
            ap (λ (x : ReqId). asking_load x nav own replace (t.states + 1)) (sym req_is)
            ∙ ap (λ (x : NavId). asking_load l.req x own replace (t.states + 1)) (sym nav_is)
            ∙ ap (λ (x : List ℕ). asking_load l.req l.nav x replace (t.states + 1)) (own_is ∙ sym address_is)
            ∙ ap (λ (x : Bool). asking_load l.req l.nav l.address x (t.states + 1)) (replaces_is replace replaces)
            ∙ ap (λ (n : ℕ). asking_load l.req l.nav l.address (load_replaces s (what_of l)) (n + 1)) ((may.work l t due).holds.states ∙ works.states_now l t due asking_is.jobs asking_is.are mid check_is)

        tables_are : u ≡ works.tables_then l t due asking_is.jobs asking_is.are mid check_is
        tables_are =
            tables
            ∙ ap (λ (x : Tables). entered_tables x (asking_load req nav own replace (x.states + 1))) check.only
            ∙ ap (λ (load : Load). let x : Tables = record t { sent = mid.sent; states = t.states + 1; asking = begun load t.asking; checks = mid.checks } in x) load_is

        checks_are : u.checks ≡ mid.checks
        checks_are = ap (λ (x : Tables). x.checks) tables

        pub has_asked : HasAsked l t u new
        has_asked =
            record {
              jobs = asking_is.jobs;
              are = asking_is.are;
              is = asking_is.rows;
              goes = record { header = refl; start = refl; event = refl; actor = refl; own = refl; before = refl };
              ready = subst (λ (x : Tables). IsReady (pass_then l asking_is.jobs) [] x l.queue l.noted whys.Start) (sym tables_are) (ready.ready_then l t due asking_is.jobs asking_is.are mid check_is);
              begins = subst (λ (c : List (ReqId × OpenCheck)). BeginsAsked (then_begun l asking_is.jobs) c) (sym checks_are) (known.begins_then l t due asking_is.jobs asking_is.are mid check_is);
              known = known.known_then l t due asking_is.jobs asking_is.are mid check_is;
              seen = seen_then;
              reached = known.reached_then l t due asking_is.jobs asking_is.are mid check_is;
              only = record { tables = only };
            }
          where
            only : u ≡ record (entered_tables t (own_load l)) { sent = u.sent; checks = u.checks }
            only =
                tables_are
                ∙ ap (λ (x : Tables). let y : Tables = record (entered_tables t (own_load l)) { sent = x.sent; checks = x.checks } in y) (sym tables_are)

            seen_then : now_of (then_begun l asking_is.jobs) [] ≡ silent s e.event (log_of (then_begun l asking_is.jobs) []).jobs (log_of (then_begun l asking_is.jobs) []).states
            seen_then =
                works.seen l t due asking_is.jobs asking_is.are mid check_is
                ∙ ap (λ (x : Seen). silent s e.event x.jobs x.states) (sym (log_cut e (begun_asking l.req None asking_is.jobs) (then_begun l asking_is.jobs).checking (then_begun l asking_is.jobs).due))
