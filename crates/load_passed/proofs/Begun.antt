-- A load begins in the log without questions as it began in the log: what holds between two rows goes on, and the tables tell of it, where the load has no document yet.
use Rattle.load_doors.specs.Tied.{AreTied}
use Rattle.load_passed.specs.Passing.{InLoadPass, IsUnbegun, load_tables, passed_load}
use Rattle.load_table.proofs.Others.{others_begun}
use Rattle.load_table.specs.Loads.{begun, is_nav, ongoing_load}
use Rattle.load_table.specs.declared.load.Load.{Load}
use Rattle.log_model.proofs.Refl.{nat_eq_refl}
use Rattle.log_model.specs.History.{has_nav}
use Rattle.log_model.specs.Once.{loads}
use Rattle.log_model.specs.Places.{aim_of, is_load, is_ongoing_load, is_traversal}
use Rattle.log_model.specs.Points.{nav_of_request}
use Rattle.log_model.specs.Seen.{Asked, Document, Seen, document_of, request_in, request_of}
use Rattle.log_model.specs.declared.job.Why.{Why}
use Rattle.log_model.specs.declared.request.Request.{Request}
use Rattle.row_facts.proofs.Owed.Requests.{asks_of}
use Rattle.row_facts.proofs.WalkRows.Moves.{goes_on, moved_by}
use Rattle.row_facts.proofs.WalkRows.Passed.{answer_of}
use Rattle.seen_facts.proofs.Coord.Held.{on_else}
use Rattle.seen_facts.proofs.Each.Courses.{is_asked, was_asked}
use Rattle.seen_facts.proofs.Each.Runs.{each_asked_on}
use Rattle.seen_facts.proofs.Hang.Members.{find_has}
use Rattle.seen_facts.proofs.Load.Rows.{req_same}
use Rattle.seen_facts.proofs.LoadTies.Begins.{begun_own, none_made}
use Rattle.seen_facts.proofs.LoadTies.Leaves.{has_again, tied_again, traced}
use Rattle.seen_facts.proofs.Mover.Asked.{Follows, all_go_on, on_follows}
use Rattle.seen_facts.proofs.Mover.Places.{same_ways}
use Rattle.seen_facts.proofs.Request.Readers.{SameReads, on_read}
use Rattle.seen_facts.proofs.Rest.Still.{found_itself}
use Rattle.seen_facts.specs.Each.Runs.{is_run, is_this}
use Rattle.seen_facts.specs.Load.Loading.{Look, is_ongoing, look, look_of}
use Rattle.seen_facts.specs.LoadEnds.Standing.{is_reached}
use Rattle.seen_facts.specs.Mover.Movers.{IsMovedBy}
use Rattle.seen_facts.specs.LoadTies.Tying.{HasLoad, IsLoadTied, TiesLoads, is_for_state, made_for, phase_with}
use Rattle.std.proofs.Common.{Bool, List, None, Option, Some, [], ap, arith, eqb-true, false, length, not, refl, subst, sym, true, ℕ, ◌&&◌, ◌+◌, ◌==◌, ◌||◌, ◌∙◌, ◌∷◌, ◌≡◌, ◌≤◌}
use Rattle.std.proofs.lemmas.Bool.Decides.{nat_tests}
use Rattle.std.proofs.lemmas.Bool.{and_parts}
use Rattle.std.specs.Prelude.{is_none, option_map}
use Rattle.tab_doors.proofs.EndLaws.{left_holds}
use Rattle.tab_doors.proofs.Requests.{moved_read, moved_same, runs_same}
use Rattle.tab_doors.specs.Look.{look_of as look_in_of}
use Rattle.tab_doors.specs.Ties.{Holds}
use Rattle.tab_doors.specs.Working.{HasGoal}
use Rattle.tab_doors.specs.declared.tables.Tables.{Tables}
use Rattle.tab_facts.proofs.TabGoing.Counts.{as_many, count_same}
use Rattle.tab_facts.proofs.TabGoing.Steps.{steps_still}
use Rattle.tab_facts.proofs.TabWhole.Beginning.{IsToLoad}
use Rattle.tab_facts.specs.Frame.Lasting.{IsMadeShown, PokesItsNav, Wish, wish}
use Rattle.tab_facts.specs.Frame.Moving.{IsMadeToGo, IsMovedThere, IsUnmovedYet, course}
use Rattle.tab_facts.specs.Last.Lasting.{AreLasting}
use Rattle.tab_facts.specs.TabGoing.Going.{AreHeldUp, IsGoing, count_of, has_ended}
use Rattle.tab_facts.specs.TabWhole.Tab.{IsTab}
use Rattle.tab_ids.specs.declared.DocId.{DocId}
use Rattle.tab_ids.specs.declared.NavId.{NavId}
use Rattle.tab_ids.specs.declared.ReqId.{ReqId}
use Rattle.tab_passes.proofs.Aims.{aim_is}
use Rattle.tab_passes.specs.Causes.{MayCause}
use Rattle.tab_settles.proofs.Lates.{KeepsStep, off_still}
use Rattle.tab_settles.proofs.MovedRows.{shown_left}
use Rattle.tab_settles.specs.Offs.{IsLate, LateKnown}
use Rattle.tab_stands.proofs.PassedOn.{IsBegun, IsReachedAt, KeepsWhat, causes_on, reached_at, reached_same}
use Rattle.tab_stands.specs.PassedOn.{IsLoadOf, MovedAreShown}
use Rattle.tab_turns.proofs.Turned.{KeepBegun, started_out}
use Rattle.unasked.proofs.Passings.{begun_as}
use Rattle.unasked_tab.proofs.Begun.{begun_now, with_begun}
use Rattle.unasked_tab.proofs.LoadFresh.{load_passed_tab}
use Rattle.unasked_tab.proofs.Reordered.{reordered_tab}
use Rattle.unload_check.specs.Checks.{OpenCheck}

module _ (l : InLoadPass) (hand : List ReqId) (s : Seen) (t : Tables) (p : Asked) (un : IsUnbegun l hand s t p) (q : Asked) (starts : q.is_started ≡ true) (state_is : q.state ≡ Some l.state) (replaces : l.replace ≡ q.replaces) where
  -- the log then, and the load there
  abbrev pub m : Seen
  m = with_begun s l.req q

  abbrev pub own_then : Asked
  own_then = begun_as q p

  pub there : request_of (with_begun s l.req q) l.req ≡ Some (begun_as q p)
  there = begun_now s l.req q p un.there

  -- another one as before
  pub other : (r : ReqId) → (r.0 == l.req.0) ≡ false → request_of (with_begun s l.req q) r ≡ request_of s r
  other r apart = on_else s.requests l.req (begun_as q) r apart

  its_load : is_load p.what ≡ true
  its_load = ap is_load un.what

  never_goes : is_traversal p.what ≡ false
  never_goes = ap is_traversal un.what

  pub ongoing_own : is_ongoing_load (begun_as q p) ≡ true
  ongoing_own = let open_ = un.open_ in let load = its_load in rw starts (rw open_ (rw load refl))

  -- ---- what is read of requests as before

  pub wishes : SameReads wish s.requests (with_begun s l.req q).requests
  wishes = on_read wish s.requests l.req (begun_as q) (λ x. refl)

  pub moves : SameReads moved_read s.requests (with_begun s l.req q).requests
  moves = on_read moved_read s.requests l.req (begun_as q) (λ x. refl)

  -- ---- what holds between two rows

  reached_there : IsReachedAt s l.nav
  reached_there = reached_at s l.nav un.reached

  tab_s : IsTab t.running (l.req ∷ l.loads) [] s
  tab_s = reordered_tab t.running hand (l.req ∷ l.loads) [] s un.hand un.going.tab

  -- its navigable has no ongoing load
  none_ongoing : (r : ReqId) (x : Asked) → request_of s r ≡ Some x → is_ongoing_load x ≡ true → loads l.nav x.what ≡ true → ⊥
  none_ongoing r x at on its =
      let has : HasLoad t.loads l.nav r = un.tied.loads.all r x l.nav at on its in
      let never : None ≡ Some has.load = sym un.alone ∙ has.at in cc

  to_load : IsToLoad s l.req p l.nav l.mode l.address
  to_load =
      record {
        there = un.there;
        what = un.what;
        open_ = un.open_;
        placed = record { place = reached_there.place; found = reached_there.placed };
        unsent = un.unsent;
        alone = λ r x at on its. by_found r x at on its (request_of s r) refl;
      }
    where
      by_found : (r : ReqId) (x : Look) → look_of s r ≡ Some x → is_ongoing x ≡ true → loads l.nav x.what ≡ true → (o : Option Asked) → request_of s r ≡ o → ⊥
      by_found r x at on its None none =
          let never : None ≡ Some x = sym (ap (λ (o : Option Asked). option_map look o) none) ∙ at in cc
      by_found r x at on its (Some y) found =
          let both : Some (look y) ≡ Some x = sym (ap (λ (o : Option Asked). option_map look o) found) ∙ at in
          let same : look y ≡ x = cc in
          none_ongoing r y found (ap is_ongoing same ∙ on) (ap (λ (k : Look). loads l.nav k.what) same ∙ its)

  pub tab_then : IsTab t.running l.loads [] (with_begun s l.req q)
  tab_then =
      load_passed_tab t.running l.req l.loads [] s tab_s p l.nav l.mode l.address to_load q starts l.state state_is un.fresh

  -- ---- what goes on

  lasting_s : AreLasting s
  lasting_s = un.going.lasting

  lasting_then : AreLasting m
  lasting_then =
      record {
        shown = lasting_s.shown;
        made = each_asked_on (λ r x. IsMadeShown (wish x)) (λ r x. IsMadeShown (wish x)) s.requests l.req (begun_as q) (λ r x apart has. has) (λ x at has. has) lasting_s.made;
        poked = each_asked_on (λ r x. PokesItsNav s.documents (wish x)) (λ r x. PokesItsNav s.documents (wish x)) s.requests l.req (begun_as q) (λ r x apart has. has) (λ x at has. has) lasting_s.poked;
        taken = lasting_s.taken;
        populates = lasting_s.populates;
        moves = record {
          unmoved = each_asked_on (λ r x. IsUnmovedYet (course x)) (λ r x. IsUnmovedYet (course x)) s.requests l.req (begun_as q) (λ r x apart has. has) (λ x at has goes un_. (let never : true ≡ false = sym starts ∙ un_ in absurd cc)) lasting_s.moves.unmoved;
          there = each_asked_on (λ r x. IsMovedThere s.places (course x)) (λ r x. IsMovedThere s.places (course x)) s.requests l.req (begun_as q) (λ r x apart has. has) (λ x at has. has) lasting_s.moves.there;
          goes = each_asked_on (λ r x. IsMadeToGo (wish x)) (λ r x. IsMadeToGo (wish x)) s.requests l.req (begun_as q) (λ r x apart has. has) (λ x at has. has) lasting_s.moves.goes;
        };
      }

  same_ended : count_of has_ended m.requests ≡ count_of has_ended s.requests
  same_ended = count_same has_ended s.requests l.req (begun_as q) (λ x at. refl)

  held_then : (run : Option ReqId) → AreHeldUp run s → AreHeldUp run m
  held_then None held = tt
  held_then (Some run) held = λ r y x nav has found asks at.
      (let was = was_asked wish s.requests m.requests wishes r y found in
      let had = was_asked moved_read s.requests m.requests moves run x at in
      ap (λ (navs : List NavId). has_nav navs nav) (sym had.2) ∙ held r was.0 had.0 nav has was.1 (ap (λ (w : Wish). nav_of_request w.what) was.2 ∙ asks) had.1)

  pub going_then : IsGoing t.running l.loads [] (with_begun s l.req q)
  going_then =
      record {
        tab = tab_then;
        lasting = lasting_then;
        counted = record {
          entries = (let low : s.entries ≤ 1 + count_of has_ended s.requests = un.going.counted.entries in let same : count_of has_ended m.requests ≡ count_of has_ended s.requests = same_ended in omega (arith, low, same));
          epochs = un.going.counted.epochs;
        };
        steps = steps_still s m un.going.steps refl (let same : count_of has_ended m.requests ≡ count_of has_ended s.requests = same_ended in omega (arith, same));
        held = held_then t.running un.going.held;
        room = (let long : length m.requests ≡ length s.requests = as_many s.requests l.req (begun_as q) in let room = un.going.room in omega (arith, long, room));
      }

  -- ---- no document has its document state

  pub none_has : (doc : DocId) (d : Document) → document_of s doc ≡ Some d → (d.state.0 == l.state.0) ≡ false
  none_has doc d found = by_test (d.state.0 == l.state.0) refl
    where
      by_test : (b : Bool) → (d.state.0 == l.state.0) ≡ b → b ≡ false
      by_test false e = refl
      by_test true e = absurd (un.fresh.undocumented doc d found (eqb-true d.state.0 l.state.0 e))

  pub unmade : made_for s.documents l.state ≡ None
  unmade = none_made s.documents l.state never
    where
      never : (d : Document) → is_for_state l.state d ≡ true → made_for s.documents l.state ≡ Some d → ⊥
      never d is found =
          let has = (find_has (is_for_state l.state) s.documents d found).0 in
          let itself : document_of s d.nr ≡ Some d = found_itself s.documents d un.going.tab.whose.numbered has in
          let no : false ≡ true = sym (none_has d.nr d itself) ∙ (and_parts (d.state.0 == l.state.0) (not (d.is_discarded || d.is_known_dead)) is).0 in
          absurd cc

  -- ---- the table of loads

  abbrev pub load : Load
  load = passed_load l

  abbrev next : List Load
  next = begun load t.loads

  own : ongoing_load l.nav next ≡ Some load
  own = begun_own load t.loads

  own_tied : IsLoadTied m load
  own_tied =
      record {
        q = own_then;
        found = there;
        ongoing = ongoing_own;
        mode = l.mode;
        what = un.what;
        state = state_is;
        replace = replaces;
        phase = sym (ap (λ (o : Option Document). phase_with o) unmade);
      }

  -- a load of the table was another one
  apart_of : (x : Load) → IsLoadTied s x → (x.req.0 == l.req.0) ≡ false
  apart_of x tied = by_test (x.req.0 == l.req.0) refl
    where
      by_test : (b : Bool) → (x.req.0 == l.req.0) ≡ b → b ≡ false
      by_test false e = refl
      by_test true e =
          let one : x.req ≡ l.req = req_same x.req l.req e in
          let both : Some tied.q ≡ Some p = sym tied.found ∙ ap (λ (r : ReqId). request_of s r) one ∙ un.there in
          let same : tied.q ≡ p = cc in
          let begun_ : is_ongoing_load p ≡ false = (let un_ = un.unstarted in rw un_ refl) in
          let never : true ≡ false = sym tied.ongoing ∙ ap is_ongoing_load same ∙ begun_ in
          absurd cc

  pub ties : TiesLoads (with_begun s l.req q) (begun (passed_load l) t.loads)
  ties = record { there = there_; all = all }
    where
      nav_is : (a b : NavId) → is_nav a b ≡ true → a ≡ b
      nav_is a b e = ap (λ (n : ℕ). let x : NavId = record { 0 = n } in x) (eqb-true a.0 b.0 e)

      there_ : (nav : NavId) (x : Load) → ongoing_load nav next ≡ Some x → IsLoadTied m x
      there_ nav x at = by_nav (is_nav nav l.nav) refl
        where
          by_nav : (b : Bool) → is_nav nav l.nav ≡ b → IsLoadTied m x
          by_nav true e =
              let both : Some load ≡ Some x = sym own ∙ ap (λ (n : NavId). ongoing_load n next) (sym (nav_is nav l.nav e)) ∙ at in
              let one : load ≡ x = cc in
              subst (λ (y : Load). IsLoadTied m y) one own_tied
          by_nav false e =
              let tied : IsLoadTied s x = un.tied.loads.there nav x (sym (others_begun load t.loads nav e) ∙ at) in
              tied_again s m x (ap (λ (o : Option Asked). option_map traced o) (other x.req (apart_of x tied))) refl tied

      all : (r : ReqId) (x : Asked) (nav : NavId) → request_of m r ≡ Some x → is_ongoing_load x ≡ true → loads nav x.what ≡ true → HasLoad next nav r
      all r x nav at on its = by_req (r.0 == l.req.0) refl
        where
          by_nav : HasLoad t.loads nav r → (b : Bool) → is_nav nav l.nav ≡ b → HasLoad next nav r
          by_nav has false e = record { load = has.load; at = others_begun load t.loads nav e ∙ has.at; req_is = has.req_is }
          by_nav has true e =
              let never : None ≡ Some has.load = sym un.alone ∙ ap (λ (n : NavId). ongoing_load n t.loads) (sym (nav_is nav l.nav e)) ∙ has.at in
              absurd cc

          by_req : (b : Bool) → (r.0 == l.req.0) ≡ b → HasLoad next nav r
          by_req true e =
              let one : r ≡ l.req = req_same r l.req e in
              let both : Some own_then ≡ Some x = sym there ∙ ap (λ (k : ReqId). request_of m k) (sym one) ∙ at in
              let same : own_then ≡ x = cc in
              let number : is_nav l.nav nav ≡ true = ap (λ (w : Request). loads nav w) (sym un.what ∙ ap (λ (k : Asked). k.what) same) ∙ its in
              record { load = load; at = ap (λ (n : NavId). ongoing_load n next) (sym (nav_is l.nav nav number)) ∙ own; req_is = sym one }
          by_req false e =
              by_nav (has_again s m t.loads un.tied.loads r x nav at on its (ap (λ (o : Option Asked). option_map traced o) (other r e))) (is_nav nav l.nav) refl

  -- another navigable's load isn't it
  pub table_apart : (nav : NavId) (x : Load) → ongoing_load nav (begun (passed_load l) t.loads) ≡ Some x → is_nav nav l.nav ≡ false → x.req.0 ≡ l.req.0 → ⊥
  table_apart nav x at apart same =
      let tied : IsLoadTied s x = un.tied.loads.there nav x (sym (others_begun load t.loads nav apart) ∙ at) in
      let never : (x.req.0 == l.req.0) ≡ true = grind (arith, nat_tests, same) in
      let no : true ≡ false = sym never ∙ apart_of x tied in
      cc

  -- ---- the tables

  -- it is no traversal
  runs_not : (x : Asked) → is_traversal x.what ≡ false → is_run x ≡ false
  runs_not x none = by_test ((x.is_started && is_none x.ending))
    where
      by_test : (u : Bool) → (u && is_traversal x.what) ≡ false
      by_test true = none
      by_test false = refl

  pub runs_read : SameReads is_run s.requests (with_begun s l.req q).requests
  runs_read r = by_number (r.0 == l.req.0) refl
    where
      by_number : (b : Bool) → (r.0 == l.req.0) ≡ b → option_map is_run (request_in m.requests r) ≡ option_map is_run (request_in s.requests r)
      by_number false e = ap (λ (o : Option Asked). option_map is_run o) (other r e)
      by_number true e =
          let one : r ≡ l.req = req_same r l.req e in
          ap (λ (k : ReqId). option_map is_run (request_in m.requests k)) one
          ∙ ap (λ (o : Option Asked). option_map is_run o) there
          ∙ ap (λ (b : Bool). let o : Option Bool = Some b in o) (runs_not own_then never_goes ∙ sym (runs_not p never_goes))
          ∙ sym (ap (λ (o : Option Asked). option_map is_run o) un.there)
          ∙ ap (λ (k : ReqId). option_map is_run (request_in s.requests k)) (sym one)

  goal_then : HasGoal m.requests t.running t.goal
  goal_then r x is at = by_number (r.0 == l.req.0) refl
    where
      by_number : (b : Bool) → (r.0 == l.req.0) ≡ b → x.goal ≡ Some t.goal
      by_number false e = un.tied.goal r x is (sym (other r e) ∙ at)
      by_number true e =
          let only : is_run p ≡ is_this t.running l.req = un.going.tab.asked.only l.req p un.there in
          let runs : is_this t.running l.req ≡ true = ap (λ (o : Option ReqId). is_this o l.req) is ∙ e in
          let never : false ≡ true = sym (runs_not p never_goes) ∙ only ∙ runs in
          absurd cc

  pub tied_then : (checks : List (ReqId × OpenCheck)) → AreTied (with_begun s l.req q) (load_tables t (passed_load l) checks)
  tied_then checks =
      record {
        holds = on_tables (left_holds (look_in_of s t.running) (look_in_of m t.running) t refl refl refl (moved_same s.requests m.requests t.running moves) refl refl refl un.tied.holds);
        runs = runs_same s.requests m.requests t.running runs_read un.tied.runs;
        goal = goal_then;
        few = un.tied.few;
        initial = un.tied.initial;
        loads = ties;
        kept = un.tied.kept;
      }
    where
      on_tables : Holds (look_in_of m t.running) t → Holds (look_in_of m t.running) (load_tables t load checks)
      on_tables holds =
          record {
            navs = holds.navs;
            documents = holds.documents;
            whose = holds.whose;
            shown = holds.shown;
            last = holds.last;
            history = holds.history;
            numbered = holds.numbered;
            states = holds.states;
            entries = holds.entries;
            sent = holds.sent;
          }

  -- ---- its navigable stands

  pub aim_then : aim_of (with_begun s l.req q) ≡ aim_of s
  aim_then =
      aim_is m t.running tab_then.asked t.goal goal_then
      ∙ sym (aim_is s t.running un.going.tab.asked t.goal un.tied.goal)

  pub reached_then : is_reached (with_begun s l.req q) l.nav ≡ true
  reached_then = reached_same s m refl refl aim_then l.nav un.reached

  -- ---- who was moved

  -- whoever moved a navigable has
  pub moved_then : (why : Why) (nav : NavId) → IsMovedBy s why nav → IsMovedBy (with_begun s l.req q) why nav
  moved_then why nav by =
      moved_by s m why nav (same_ways s.places) by (goes_on s m (all_go_on s.requests m.requests (on_follows s.requests l.req (begun_as q) follows)) (on_read asks_of s.requests l.req (begun_as q) (λ x. refl)) (on_read answer_of s.requests l.req (begun_as q) (λ x. refl)) (λ doc is. is) by.req by.q by.there)
    where
      follows : (x : Asked) → Follows x (begun_as q x)
      follows x =
          record {
            on = record { what = refl; begun = λ e. starts; change = λ c e. e; took = λ test e. e };
            ends = λ r is. record { nr = is.nr; unchanged = is.unchanged; untaken = is.untaken };
          }

  -- ---- for whom orders may be

  -- whoever has set out has so still
  pub keep_begun : KeepBegun s.requests (with_begun s l.req q).requests
  keep_begun this each =
      each_asked_on (IsBegun this) (IsBegun this) s.requests l.req (begun_as q) (λ r x apart has. has) (λ x at has same. started_out (begun_as q x) starts) each

  pub causes_then : (why : Why) → MayCause s why → MayCause (with_begun s l.req q) why
  causes_then = causes_on s m t.running tab_then.asked wishes keep_begun

  -- what each asks, and whose documents are
  pub whats_then : KeepsWhat s (with_begun s l.req q)
  whats_then =
      record {
        asked = λ r x at. (let then = is_asked (λ (k : Asked). k.what) s.requests m.requests (on_read (λ (k : Asked). k.what) s.requests l.req (begun_as q) (λ k. refl)) r x at in (then.0, then.1, then.2));
        homes = λ doc d found. (d, found, refl);
      }

  -- ---- its loads

  -- one that was ongoing is
  pub load_on : (r : ReqId) (nav : NavId) → IsLoadOf s r nav → IsLoadOf (with_begun s l.req q) r nav
  load_on r nav its = by_number (r.0 == l.req.0) refl
    where
      by_number : (b : Bool) → (r.0 == l.req.0) ≡ b → IsLoadOf m r nav
      by_number false e = record { look = its.look; at = ap (λ (o : Option Asked). option_map look o) (other r e) ∙ its.at; ongoing = its.ongoing; loads_it = its.loads_it }
      by_number true e =
          let one : r ≡ l.req = req_same r l.req e in
          let both : Some (look p) ≡ Some its.look = sym (ap (λ (o : Option Asked). option_map look o) un.there) ∙ ap (λ (k : ReqId). look_of s k) (sym one) ∙ its.at in
          let same : look p ≡ its.look = cc in
          let off : is_ongoing (look p) ≡ false = (let un_ = un.unstarted in rw un_ refl) in
          let never : false ≡ true = sym off ∙ ap is_ongoing same ∙ its.ongoing in
          absurd cc

  pub load_own : IsLoadOf (with_begun s l.req q) l.req l.nav
  load_own =
      record {
        look = look own_then;
        at = ap (λ (o : Option Asked). option_map look o) there;
        ongoing = ongoing_own;
        loads_it = ap (λ (w : Request). loads l.nav w) un.what ∙ nat_eq_refl l.nav.0;
      }

  -- ---- whom a traversal has moved, and who is late

  pub moved_shown : MovedAreShown t.running s → MovedAreShown t.running (with_begun s l.req q)
  moved_shown moved = shown_left t.running s m refl still moved
    where
      still : (r : ReqId) (x : Asked) → t.running ≡ Some r → request_of m r ≡ Some x → (y : Asked) × (request_of s r ≡ Some y) × (x.moved ≡ y.moved) × (x.activated ≡ y.activated)
      still r x is at = by_number (r.0 == l.req.0) refl
        where
          by_number : (b : Bool) → (r.0 == l.req.0) ≡ b → (y : Asked) × (request_of s r ≡ Some y) × (x.moved ≡ y.moved) × (x.activated ≡ y.activated)
          by_number false e = (x, sym (other r e) ∙ at, refl, refl)
          by_number true e =
              let one : r ≡ l.req = req_same r l.req e in
              let both : Some own_then ≡ Some x = sym there ∙ ap (λ (k : ReqId). request_of m k) (sym one) ∙ at in
              let same : own_then ≡ x = cc in
              (p, ap (λ (k : ReqId). request_of s k) one ∙ un.there, ap (λ (k : Asked). k.moved) (sym same), ap (λ (k : Asked). k.activated) (sym same))

  pub steps_on : KeepsStep s (with_begun s l.req q)
  steps_on =
      record {
        changes = λ r x change at changed. (let then = is_asked (λ (k : Asked). k.change) s.requests m.requests (on_read (λ (k : Asked). k.change) s.requests l.req (begun_as q) (λ k. refl)) r x at in (then.0, then.1, then.2 ∙ changed));
        last = refl;
        unstood = λ none. none;
      }

  pub late_known : LateKnown t.running s → LateKnown t.running (with_begun s l.req q)
  late_known known = by_run t.running known
    where
      by_run : (r : Option ReqId) → LateKnown r s → LateKnown r m
      by_run (Some run) known = tt
      by_run None known = λ nav place doc late shown.
          (let was : IsLate s nav place doc = record { placed = late.placed; wakes = late.wakes; untold = late.untold; old = late.old } in
          off_still s m nav place place steps_on late.placed late.placed refl refl (known nav place doc was shown))
