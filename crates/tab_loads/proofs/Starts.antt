-- A load begins, in the place of its navigable's ongoing one: what its door asks.
use Rattle.tab_doors.proofs.Rooms.{states_fit}
use Rattle.seen_facts.specs.Load.Loading.{look}
use Rattle.log_model.specs.Once.{has_no_earlier_load, loads}
use Rattle.seen_facts.proofs.Hang.Members.{find_has}
use Rattle.load_doors.specs.Loading.{IsGiven, IsToBegin, is_beginning}
use Rattle.row_facts.specs.LoadRows.Beginning.{IsLoadToBegin, is_out_of_way, is_to_fragment}
use Rattle.load_table.specs.Loads.{ongoing_load}
use Rattle.load_table.specs.declared.load.Load.{Load}
use Rattle.seen_facts.proofs.LoadTies.Begins.{none_made}
use Rattle.seen_facts.specs.LoadTies.Tying.{is_for_state, made_for}
use Rattle.log_model.specs.AfterRequests.{load_replaces}
use Rattle.log_model.specs.History.{History}
use Rattle.log_model.specs.Places.{aim_of, is_given_target, is_ongoing_load, is_placed, way_to}
use Rattle.log_model.specs.Points.{is_accepted_here}
use Rattle.log_model.specs.Seen.{Asked, Document, Place, Seen, document_of, place_in, place_of, request_of}
use Rattle.log_model.specs.declared.row_kind.RowKind.{RowKind}
use Rattle.seen_facts.proofs.Rest.Still.{found_itself}
use Rattle.seen_laws.specs.Blocks.{point_at}
use Rattle.seen_laws.specs.InEvent.{InEvent, here_of, now_of, log_of}
use Rattle.log_model.specs.Orders.{Question, due_questions}
use Rattle.log_model.specs.declared.outcome.Cause.TheVariants as drops
use Rattle.std.proofs.Common.{Bool, List, None, Option, Some, [], ap, arith, false, inl, inr, length, not, refl, subst, sym, true, ℕ, ◌+◌, ◌<◌, ◌==◌, ◌||◌, ◌∙◌, ◌≡◌, ◌≤◌, ◌⊎◌, ◌&&◌, ◌++◌}
use Rattle.std.proofs.lemmas.Bool.Decides.{nat_tests}
use Rattle.std.proofs.lemmas.Bool.{and_parts}
use Rattle.std.specs.List.{list_all, list_any}
use Rattle.std.specs.Prelude.{nat_lt, option_map, slice_get}
use Rattle.tab_doors.proofs.Works.{start_here}
use Rattle.tab_doors.specs.Working.{IsAtWork, KeepsRun}
use Rattle.tab_doors.specs.declared.tables.Tables.{Tables}
use Rattle.tab_drops.proofs.Turns.{tied_load}
use Rattle.tab_drops.specs.Dropping.{AreUnheld}
use Rattle.tab_ids.specs.declared.DocId.{DocId}
use Rattle.tab_ids.specs.declared.NavId.{NavId}
use Rattle.tab_ids.specs.declared.ReqId.{ReqId}
use Rattle.tab_ids.specs.declared.StateId.{StateId}
use Rattle.tab_loads.proofs.Comes.{all, pass, place, placed, target}
use Rattle.tab_loads.proofs.Firsts.{q}
use Rattle.tab_loads.proofs.Givens.{is_given, sent_none}
use Rattle.tab_loads.proofs.Reals.{IsThereAs, apart_dropped, asks_dropped, read_there, there_as, way_there}
use Rattle.unasked_dues.proofs.Ends.{earlier_same}
use Rattle.unasked_dues.specs.Checking.{NoneChecksBefore}
use Rattle.row_facts.proofs.LoadRows.Earlier.{all_from}
use Rattle.seen_facts.proofs.Each.Runs.{at_place}
use Rattle.tab_loads.proofs.Gives.{IsMadeWay, made_way}
use Rattle.tab_loads.specs.Asking.{BeginsAnew, InLoad, IsAsked}
use Rattle.tab_loads.specs.Giving.{HasDropped, HasMadeWay, HasNone}
use Rattle.tab_loads.specs.Telling.{away_in}
use Rattle.log_model.specs.declared.job.Why.TheVariants as whys
use Rattle.log_model.specs.declared.request.Request.TheVariants as requests

-- ---- numbers

past : (a n : ℕ) → a ≤ n → (a == (n + 1)) ≡ false
past a n few = grind (arith, nat_tests, few)

next_more : (a b : ℕ) → b ≡ a + 1 → nat_lt a b ≡ true
next_more a b number = grind (arith, nat_tests, number)

module _ (l : InLoad) (t : Tables) (asked : IsAsked l t) (placed_ : away_in t l.nav ≡ None) (anew_ : BeginsAnew l t) (noted : List (StateId × ReqId)) (v : Tables) (out : List RowKind) (way : HasMadeWay l.event l.req l.nav t v out l.noted noted) where
  abbrev pub e : InEvent
  e = l.event

  abbrev s : Seen
  s = now_of l.event []

  abbrev pub n : Seen
  n = now_of l.event out

  -- what is asked
  abbrev pub own : Asked
  own = q l.event l.req l.nav l.mode l.address asked.asks

  pub unheld : AreUnheld l.event s
  unheld = (asked.begun.taking.open_ whys.Start (λ r never. absurd cc)).held

  pub made : IsMadeWay l.event l.req l.nav l.mode l.address asked.asks t (pass l t asked) unheld l.noted asked.begun.taking asked.begun.theirs n out noted
  made =
      made_way l.event l.req l.nav l.mode l.address asked.asks t (pass l t asked) unheld l.noted asked.begun.taking asked.begun.theirs v out noted asked.begun.taking.blamed way

  pub runs_on : KeepsRun t v
  runs_on = by_case way.which
    where
      by_case : HasNone l.nav t v out l.noted noted ⊎ HasDropped l.req l.nav t v out l.noted noted → KeepsRun t v
      by_case (inl it) = record { running = ap (λ (x : Tables). x.running) it.tables; goal = ap (λ (x : Tables). x.goal) it.tables; keep = ap (λ (x : Tables). x.kept.keep) it.tables; checks = ap (λ (x : Tables). x.checks) it.tables }
      by_case (inr it) = record { running = it.kept.running; goal = it.kept.goal; keep = it.kept.keep; checks = it.kept.checks }

  abbrev pub own_place : Place
  own_place = place l t asked

  pub there : place_of n l.nav ≡ Some own_place
  there = ap (λ (p : List Place). place_in p l.nav) made.places ∙ placed l t asked

  abbrev target_in : History → ℕ → Place → Bool
  target_in h step p = is_given_target h.rows step p

  pub its_target : is_given_target n.history.rows (aim_of s) own_place ≡ true
  its_target = ap (λ (h : History). target_in h (aim_of s) (place l t asked)) made.history ∙ target l t asked placed_

  pub given : IsAtWork l.event out v × IsGiven n v l.nav
  given =
      (way.work, is_given n v.running v way.work.holds made.going.tab.sound l.nav own_place there (aim_of s) its_target)

  -- ---- its way stands still

  abbrev placed_in : History → List Place → ℕ → NavId → Bool
  placed_in h places step nav = list_all (λ (x : NavId). is_placed (record s { history = h; places = places }) step x) (way_to (record s { history = h; places = places }) nav)

  pub way_placed : list_all (is_placed n (aim_of n)) (way_to n l.nav) ≡ true
  way_placed =
      ap (λ (h : History). placed_in h n.places (aim_of n) l.nav) made.history
      ∙ ap (λ (p : List Place). placed_in s.history p (aim_of n) l.nav) made.places
      ∙ ap (λ (k : ℕ). placed_in s.history s.places k l.nav) made.aim
      ∙ all l t asked placed_

  abbrev fragment_at : History → Place → Bool
  fragment_at h p = is_to_fragment (record s { history = h }) l.address p

  pub anew_there : is_to_fragment s l.address own_place ≡ false
  anew_there =
      sent_none s t.running t (pass l t asked).work.holds (pass l t asked).going.tab.sound l.nav (place l t asked) (placed l t asked) (aim_of s) (target l t asked placed_) l.address anew_.fragment

  pub anew : is_to_fragment n l.address own_place ≡ false
  anew = ap (λ (h : History). fragment_at h own_place) made.history ∙ anew_there

  -- ---- no document has the state

  abbrev pub state : StateId
  state = record { 0 = n.states + 1 }

  pub low : (doc : DocId) (d : Document) → document_of n doc ≡ Some d → d.state.0 ≤ n.states
  low doc d found = made.going.tab.loading.documents doc d found

  pub no_document : (doc : DocId) (d : Document) → document_of n doc ≡ Some d → (d.state.0 == (n.states + 1)) ≡ false
  no_document doc d found = past (d.state.0) n.states (low doc d found)

  pub unmade : made_for n.documents state ≡ None
  unmade = none_made n.documents state never
    where
      never : (d : Document) → is_for_state state d ≡ true → made_for n.documents state ≡ Some d → ⊥
      never d is found =
          let there_ = (find_has (is_for_state state) n.documents d found).0 in
          let itself : document_of n d.nr ≡ Some d = found_itself n.documents d made.going.tab.whose.numbered there_ in
          let no : false ≡ true = sym (no_document d.nr d itself) ∙ (and_parts (d.state.0 == (n.states + 1)) (not (d.is_discarded || d.is_known_dead)) is).0 in
          absurd cc

  -- ---- it may begin

  pub none_there : ongoing_load l.nav v.loads ≡ None
  none_there = by_load (ongoing_load l.nav v.loads) refl
    where
      by_load : (o : Option Load) → ongoing_load l.nav v.loads ≡ o → ongoing_load l.nav v.loads ≡ None
      by_load None is = is
      by_load (Some load) is = absurd (made.alone load.req (tied_load n v.loads l.nav load way.work.loads is))

  pub accepted : is_accepted_here (point_at (here_of l.event out) []) l.req ≡ true
  accepted =
      ap (λ (x : Seen). nat_lt (length x.requests) l.req.0) (start_here l.event out)
      ∙ next_more (length l.event.start.requests) l.req.0 asked.asks.next

  -- the load as the log has it
  pub as_there : IsThereAs l.event.checking (log_of l.event out) l.req own
  as_there =
      there_as l.event.checking (log_of l.event out) l.req own (read_there l.event out v way.work (λ (x : Seen). request_of x l.req ≡ Some own) made.found) refl asked.asks.outside

  -- whom it asks
  abbrev pub asks_at : List RowKind → List Question
  asks_at o = due_questions (log_of l.event o) (requests.Load l.nav l.mode l.address) None

  asks_same : asks_at out ≡ asks_at []
  asks_same = by_way way.which
    where
      by_way : HasNone l.nav t v out l.noted noted ⊎ HasDropped l.req l.nav t v out l.noted noted → asks_at out ≡ asks_at []
      by_way (inl it) = ap asks_at it.out_is
      by_way (inr it) =
          ap asks_at it.out_is ∙ asks_dropped l.event it.old.req (drops.By l.req) (requests.Load l.nav l.mode l.address)

  pub due : IsLoadToBegin (here_of l.event out) l.req l.nav l.mode l.address as_there.q
  due =
      record {
        at = as_there.at;
        number = ap (λ (x : Asked). x.nr) (sym as_there.is);
        what = ap (λ (x : Asked). x.what) (sym as_there.is);
        open_ = ap (λ (x : Asked). x.ending) (sym as_there.is);
        unstarted = ap (λ (x : Asked). x.is_started) (sym as_there.is);
        accepted = accepted;
        placed = way_there l.event out v way.work l.nav way_placed;
        place = own_place;
        there = read_there l.event out v way.work (λ (x : Seen). place_of x l.nav ≡ Some own_place) there;
        anew = read_there l.event out v way.work (λ (x : Seen). is_to_fragment x l.address own_place ≡ false) anew;
        unasked = asks_same ∙ anew_.nobody;
      }

  -- no earlier load is ongoing
  pub alone_now : has_no_earlier_load n l.req l.nav ≡ true
  alone_now = all_from (is_out_of_way l.req l.nav) n.requests each
    where
      each : (m : ℕ) (x : Asked) → slice_get n.requests m ≡ Some x → is_out_of_way l.req l.nav x ≡ true
      each m x at = by_tests (is_ongoing_load x) (nat_lt x.nr.0 l.req.0) (loads l.nav x.what) refl refl
        where
          number : request_of n (record { 0 = m + 1 }) ≡ Some x
          number = at_place n.requests m ∙ at

          by_tests : (a b c : Bool) → is_ongoing_load x ≡ a → loads l.nav x.what ≡ c → not (a && b && c) ≡ true
          by_tests true true true on its = absurd (made.alone (record { 0 = m + 1 }) (record { look = look x; at = ap (λ (o : Option Asked). option_map look o) number; ongoing = on; loads_it = its }))
          by_tests true true false on its = refl
          by_tests true false true on its = refl
          by_tests true false false on its = refl
          by_tests false true true on its = refl
          by_tests false true false on its = refl
          by_tests false false true on its = refl
          by_tests false false false on its = refl

  -- nor is one in its check
  apart_then : NoneChecksBefore l.event.checking (log_of l.event out) l.req l.nav
  apart_then = by_way way.which
    where
      by_way : HasNone l.nav t v out l.noted noted ⊎ HasDropped l.req l.nav t v out l.noted noted → NoneChecksBefore l.event.checking (log_of l.event out) l.req l.nav
      by_way (inl it) = subst (λ (o : List RowKind). NoneChecksBefore l.event.checking (log_of l.event o) l.req l.nav) (sym it.out_is) asked.asks.apart
      by_way (inr it) =
          subst (λ (o : List RowKind). NoneChecksBefore l.event.checking (log_of l.event o) l.req l.nav) (sym it.out_is) (apart_dropped l.event l.req l.nav asked.asks.apart it.old.req (drops.By l.req))

  -- so none is in the log
  sole : has_no_earlier_load (log_of l.event out) l.req l.nav ≡ true
  sole =
      sym (earlier_same l.event.checking (log_of l.event out) way.work.checks.numbered l.req l.nav apart_then)
      ∙ read_there l.event out v way.work (λ (x : Seen). has_no_earlier_load x l.req l.nav ≡ true) alone_now

  -- no request has begun in this event
  none_began : list_any is_beginning (l.event.before ++ out) ≡ false
  none_began = ap (λ (x : List RowKind). list_any is_beginning (x ++ out)) asked.asks.uncut ∙ by_way way.which
    where
      by_way : HasNone l.nav t v out l.noted noted ⊎ HasDropped l.req l.nav t v out l.noted noted → list_any is_beginning out ≡ false
      by_way (inl it) = ap (λ (x : List RowKind). list_any is_beginning x) it.out_is
      by_way (inr it) = ap (λ (x : List RowKind). list_any is_beginning x) it.out_is

  pub to_begin : (replace : Bool) → replace ≡ load_replaces n (requests.Load l.nav l.mode l.address) → IsToBegin l.event out v.loads l.req l.nav replace l.address
  to_begin replace is =
      record { q = as_there.q; mode = l.mode; due = due; none_ = none_there; sole = sole; first = none_began; handling = is; unmade = unmade }

  pub states_room : v.states + 1 < 4294967296
  states_room = states_fit l.event out v way.work made.going.room
