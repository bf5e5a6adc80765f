-- The coordinator of a tab that was just opened stands for its log.
use Rattle.tab_doors.proofs.AskingLoads.{opened_asking}
use Rattle.asking_facts.proofs.Passed.{known_nothing, known_on}
use Rattle.checking_facts.proofs.Rows.{none_checks}
use Rattle.leave_facts.proofs.Carried.{opened_duly}
use Rattle.log_model.specs.declared.job.Job.{Job}
use Rattle.seen_facts.specs.Place.Standing.{AreStanding}
use Rattle.tab_facts.specs.Order.Orders.{AreOrders, EachOrder}
use Rattle.tab_settles.specs.Settling.{IsMake, IsSoundTask}
use Rattle.tab_facts.specs.Calm.Calm.{IsCalm}
use Rattle.seen_facts.specs.Hang.Members.{Has}
use Rattle.tab_facts.proofs.Last.Rows.{opened_lasting}
use Rattle.row_facts.proofs.Left.Rows.{opened_were}
use Rattle.load_doors.specs.Tied.{AreTied as IsTiedTo}
use Rattle.seen_facts.proofs.LoadTies.Rows.{opened_tied}
use Rattle.log_model.specs.AfterDocuments.{opening_document}
use Rattle.log_model.specs.AfterPlaces.{opening_place}
use Rattle.log_model.specs.Places.{is_awake, is_given_target, is_shown}
use Rattle.log_model.specs.History.{History, has_nav, has_state}
use Rattle.log_model.specs.Order.{SameHistory}
use Rattle.log_model.specs.Seen.{Asked, Document, Place, Seen, place_in, place_of, request_in, empty_desk, nothing}
use Rattle.log_model.specs.declared.row.Row.{Row}
use Rattle.move_queue.specs.Queue.{Queue}
use Rattle.nav_tree.specs.Tree.{Tree, document_of as placed_for, is_nav, node_of, top_node}
use Rattle.nav_tree.specs.declared.place.Place as live
use Rattle.std.proofs.Common.{Bool, List, None, Option, Some, [], ap, arith, cond, false, inl, inr, refl, subst, sym, true, ℕ, ◌==◌, ◌∙◌, ◌∷◌, ◌≡◌}
use Rattle.std.proofs.lemmas.Bool.Decides.{nat_tests}
use Rattle.std.specs.List.{list_any}
use Rattle.std.specs.Map.{lookup}
use Rattle.std.specs.Prelude.{option_and_then, option_map}
use Rattle.tab_doors.specs.Look.{Look, Sight, is_live_for, is_made_for, look_of, sight_in}
use Rattle.tab_doors.specs.Noting.{IsFresh}
use Rattle.tab_doors.specs.Ties.{AreHeld, AreLast, AreListed, AreShown, AreTied, AreWhose, Holds, IsListed, birth_of, is_doc}
use Rattle.tab_doors.specs.declared.birth.Birth.{Birth}
use Rattle.tab_doors.specs.declared.tables.Tables.{Tables}
use Rattle.tab_facts.proofs.TabEvents.Opened.{opened_between}
use Rattle.tab_facts.specs.TabEvents.Between.{IsBetween}
use Rattle.tab_ids.specs.declared.DocId.{DocId}
use Rattle.tab_ids.specs.declared.JobId.{JobId}
use Rattle.tab_ids.specs.declared.NavId.{NavId}
use Rattle.tab_ids.specs.declared.ProcId.{ProcId}
use Rattle.tab_ids.specs.declared.ReqId.{ReqId}
use Rattle.tab_ids.specs.declared.StateId.{StateId}
use Rattle.tab_settles.specs.PassedOn.{AreLeftStrays, IsLeftStray, MayCause}
use Rattle.tab_settles.proofs.Lates.{told_known}
use Rattle.tab_settles.proofs.MovedRows.{shown_idle}
use Rattle.tab_stands.proofs.LateEvents.{off_of}
use Rattle.tab_stands.specs.Offs.{AreShownUnder, IsUnderEpoch, is_new_place}
use Rattle.tab_stands.specs.Standing.{Lasts, LastsInLog, StandsFor, none_in_check, opened_at}
use Rattle.log_model.specs.declared.row_kind.Actor.TheVariants as actors
use Rattle.log_model.specs.declared.row_kind.RowKind.TheVariants as rows

some_same : {A : Type 0} {a b : A} → (let o : Option A = Some a in o) ≡ Some b → a ≡ b
some_same e = cc

module _ (address : List ℕ) (proc : ProcId) where
  abbrev s : Seen
  s = opened_at address proc

  abbrev first_tree : Tree
  first_tree =
      record {
        navs = (record { 0 = 0 }, top_node (record { 0 = 1 })) ∷ [];
        places = (record { 0 = 1 }, record { doc = record { 0 = 1 }; proc = proc; handler = None }) ∷ [];
      }

  abbrev look : Look
  look = look_of s None

  -- ---- navigables

  navs : AreHeld look first_tree
  navs = record { navs = λ nav. by_nav nav (0 == nav.0) refl; order = refl }
    where
      by_nav : (nav : NavId) (b : Bool) → (0 == nav.0) ≡ b → AreTied look.documents look.moved nav (node_of nav first_tree) (place_in look.places nav)
      by_nav nav true e =
          let same : record { 0 = 0 } ≡ nav = (let n : 0 ≡ nav.0 = grind (arith, nat_tests, e) in ap (λ (i : ℕ). let x : NavId = record { 0 = i } in x) n) in
          subst (λ (n : NavId). AreTied look.documents look.moved n (node_of n first_tree) (place_in look.places n)) same (refl, record { parent = refl; owner = refl; status = refl; given = refl; epoch = refl; why = refl; moved_is = refl; stands = λ wakes. refl; unmet = refl; added_by = refl; destroyed_by = refl; home = record { document = record { nr = record { 0 = 1 }; nav = record { 0 = 0 }; state = record { 0 = 1 }; proc = proc; slot = None; told = _; is_ready = true; is_discarded = false; is_known_dead = false }; found = refl; nav_is = refl; told_is = refl } })
      by_nav nav false e =
          let turned : (nav.0 == 0) ≡ false = grind (arith, nat_tests, e) in rw (e, turned) tt

  -- ---- documents

  documents : AreListed look.documents first_tree []
  documents =
      record {
        live = λ state. by_state state (1 == state.0) refl;
        made = λ state. by_state_made state (1 == state.0) refl;
        live_once = (refl, tt);
        made_once = tt;
      }
    where
      none_there : (state : StateId) → (state.0 == 1) ≡ false → placed_for state first_tree ≡ None
      none_there state turned = rw turned refl

      none_live : (state : StateId) → (1 == state.0) ≡ false → list_any (is_live_for state) look.documents ≡ false
      none_live state e = rw e refl

      by_state : (state : StateId) (b : Bool) → (1 == state.0) ≡ b → IsListed (is_live_for state) look.documents (option_map (λ (place : live.Place). place.doc) (placed_for state first_tree))
      by_state state true e =
          let same : record { 0 = 1 } ≡ state = (let n : 1 ≡ state.0 = grind (arith, nat_tests, e) in ap (λ (i : ℕ). let x : StateId = record { 0 = i } in x) n) in
          subst (λ (x : StateId). IsListed (is_live_for x) look.documents (option_map (λ (place : live.Place). place.doc) (placed_for x first_tree))) same (record { document = _; found = refl; passes = refl; only = λ d has live_. only_one d has })
        where
          only_one : (d : Sight) → Has look.documents d → (d.nr.0 == 1) ≡ true
          only_one d (inl is) = ap (λ (x : Sight). x.nr.0 == 1) (sym is)
          only_one d (inr never) = absurd never
      by_state state false e =
          let turned : (state.0 == 1) ≡ false = grind (arith, nat_tests, e) in
          subst (λ (o : Option live.Place). IsListed (is_live_for state) look.documents (option_map (λ (place : live.Place). place.doc) o)) (sym (none_there state turned)) (none_live state e)

      by_state_made : (state : StateId) (b : Bool) → (1 == state.0) ≡ b → IsListed (is_made_for state) look.documents None
      by_state_made state true e = rw e refl
      by_state_made state false e = rw e refl

  whose : AreWhose look.documents ((record { 0 = 1 }, record { nav = record { 0 = 0 }; proc = proc }) ∷ [])
  whose doc = by_doc (1 == doc.0) refl
    where
      by_doc : (b : Bool) → (1 == doc.0) ≡ b → lookup (is_doc doc) ((record { 0 = 1 }, record { nav = record { 0 = 0 }; proc = proc }) ∷ []) ≡ option_map birth_of (sight_in look.documents doc)
      by_doc true e = (let turned : (doc.0 == 1) ≡ true = grind (arith, nat_tests, e) in rw (e, turned) refl)
      by_doc false e = (let turned : (doc.0 == 1) ≡ false = grind (arith, nat_tests, e) in rw (e, turned) refl)

  shown : AreShown look.places []
  shown nav = by_nav (0 == nav.0) refl
    where
      by_nav : (b : Bool) → (0 == nav.0) ≡ b → None ≡ option_and_then (λ (p : Place). p.last_job) (place_in look.places nav)
      by_nav true e = rw e refl
      by_nav false e = rw e refl

  last : AreLast look.places ((record { 0 = 0 }, record { 0 = 1 }) ∷ [])
  last nav = by_nav (0 == nav.0) refl
    where
      by_nav : (b : Bool) → (0 == nav.0) ≡ b → lookup (is_nav nav) ((record { 0 = 0 }, record { 0 = 1 }) ∷ []) ≡ option_and_then (λ (p : Place). p.last) (place_in look.places nav)
      by_nav true e = (let turned : (nav.0 == 0) ≡ true = grind (arith, nat_tests, e) in rw (e, turned) refl)
      by_nav false e = (let turned : (nav.0 == 0) ≡ false = grind (arith, nat_tests, e) in rw (e, turned) refl)

  fresh_holds : (keep : ℕ) (t : Tables) → IsFresh address proc keep t → Holds look t
  fresh_holds keep t is =
      record {
        navs = subst (λ (x : Tree). AreHeld look x) (sym is.tree) navs;
        documents = subst (λ (x : Tree). AreListed look.documents x t.making.entries) (sym is.tree) (subst (λ (l : List (StateId × DocId)). AreListed look.documents first_tree l) (sym is.making) documents);
        whose = subst (λ (l : List (DocId × Birth)). AreWhose look.documents l) (sym is.whose) whose;
        shown = subst (λ (l : List (NavId × JobId)). AreShown look.places l) (sym is.shown) shown;
        last = subst (λ (l : List (NavId × DocId)). AreLast look.places l) (sym is.last) last;
        history = subst (λ (h : History). SameHistory h s.history) (sym is.history) (record { rows = refl; current = refl; added = refl });
        numbered = is.documents;
        states = is.states;
        entries = is.entries;
        sent = is.sent;
      }

  -- ---- nothing was asked

  none_asked : (req : ReqId) (q : Asked) → request_in [] req ≡ Some q → ⊥
  none_asked req q = by_number (req.0 == 0)
    where
      by_number : (b : Bool) → (let o : Option Asked = cond b None None in o) ≡ Some q → ⊥
      by_number true e = cc
      by_number false e = cc

  tied : (keep : ℕ) (t : Tables) → IsFresh address proc keep t → IsTiedTo s t
  tied keep t is =
      record {
        holds = subst (λ (o : Option ReqId). Holds (look_of s o) t) (sym is.running) (fresh_holds keep t is);
        runs = record { only = λ req q at. absurd (none_asked req q at); there = λ req runs. absurd (let never : None ≡ Some req = sym is.running ∙ runs in cc) };
        goal = λ req q runs. absurd (let never : None ≡ Some req = sym is.running ∙ runs in cc);
        few = omega arith;
        initial = is.initial;
        loads = rw is.loads (opened_tied s refl);
        kept = ap (λ k. k.states) is.kept;
      }

  -- ---- the one navigable, its entry and its document

  abbrev place : Place
  place = opening_place (record { maker = 0; nr = 1 }) (record { 0 = 1 })

  only_place : (nav : NavId) (p : Place) → place_of s nav ≡ Some p → place ≡ p
  only_place nav p = by_test (0 == nav.0)
    where
      by_test : (b : Bool) → (let o : Option Place = cond b (Some place) None in o) ≡ Some p → place ≡ p
      by_test true e = cc
      by_test false e = absurd cc

  its_row : (row : Row) → Has s.history.rows row → row.step.0 ≡ 0
  its_row row (inl is) = ap (λ (r : Row). r.step.0) (sym is)
  its_row row (inr never) = absurd never

  calm : IsCalm s
  calm =
      record {
        here = λ nav p doc found wakes. inr (record {
          shown = ap (λ (x : Place). is_here x) (sym (only_place nav p found));
          target = ap (λ (x : Place). is_its x) (sym (only_place nav p found));
        });
        wakes = λ nav p found is ever. inr (ap (λ (x : Place). wakes_ x) (sym (only_place nav p found)));
      }
    where
      is_here : Place → Bool
      is_here x = is_shown s.history.rows s.history.current x.nav

      is_its : Place → Bool
      is_its x = is_given_target s.history.rows s.history.current x

      wakes_ : Place → Bool
      wakes_ x = is_awake x

  -- its document is of the entry's state, so it isn't stray
  strays : AreLeftStrays s []
  strays doc state stray = by_test (1 == doc.0) stray.found
    where
      has : (d : Document) → d.state ≡ state → record { 0 = 1 } ≡ d.state → ⊥
      has d its one =
          let there : has_state state s.history.rows ≡ true = subst (λ (x : StateId). has_state x s.history.rows ≡ true) (one ∙ its) refl in
          let never : true ≡ false = sym there ∙ stray.bare in
          cc

      by_test : (b : Bool) → (let o : Option Document = cond b (Some (opening_document (record { maker = 0; nr = 1 }) (record { 0 = 1 }) (record { 0 = 1 }) proc None address)) None in o) ≡ Some stray.document → IsLeftStray s [] doc state
      by_test true e = absurd (has stray.document stray.its_state (ap (λ (d : Document). d.state) (some_same e)))
      by_test false e = absurd cc

  -- ---- no order is on its way

  no_orders : (F : Job → Type 0) → AreOrders F s
  no_orders F other = by_test (proc.0 == other.0)
    where
      by_test : (b : Bool) → EachOrder F (cond b (empty_desk proc) (empty_desk other))
      by_test true = record { orders = tt; told = tt }
      by_test false = record { orders = tt; told = tt }

  -- ---- all of it

  shows : AreShownUnder s
  shows =
      record {
        orders = no_orders (λ (job : Job). IsUnderEpoch s.documents s.places job job.task);
        unshown = λ nav p found new. absurd (let never : true ≡ false = sym new ∙ ap (λ (x : Place). is_new_place x) (sym (only_place nav p found)) in cc);
        top_ = record { place = place; placed = refl; shown = refl };
      }

  standing : AreStanding s
  standing =
      (opened_between 0 0 actors.Start (record { maker = 0; nr = 1 }) (record { 0 = 1 }) (record { 0 = 1 }) proc address (record { maker = refl; entry_nr = refl; state_nr = refl; doc_nr = refl })).tab.standing

  lasts : Lasts None s
  lasts =
      record {
        lasting = opened_lasting 0 actors.Start (record { maker = 0; nr = 1 }) (record { 0 = 1 }) (record { 0 = 1 }) proc None address;
        counted = record {
          entries = omega arith;
          epochs = λ nav p found. (let one : 1 ≡ p.epoch.0 = ap (λ (x : Place). x.epoch.0) (only_place nav p found) in omega (arith, one));
        };
        steps = record {
          rows_ = λ row has. (let zero_ : row.step.0 ≡ 0 = its_row row has in omega (arith, zero_));
          current = omega arith;
        };
        held = tt;
        were = opened_were 0 actors.Start (record { maker = 0; nr = 1 }) (record { 0 = 1 }) (record { 0 = 1 }) proc None address;
        parents = λ nav above p up found has over. (let never : false ≡ true = ap (λ (x : Place). has_nav x.above above) (only_place nav p found) ∙ has in absurd cc);
        takers = λ nav p req found taken. (let never : None ≡ Some req = ap (λ (x : Place). x.taken_by) (only_place nav p found) ∙ taken in absurd cc);
        calm = calm;
        moved = shown_idle s;
        made = λ req q made there load makes. absurd (none_asked req q there);
        makes = no_orders (λ (job : Job). IsMake job.task → MayCause s job.why);
        sound = no_orders (λ (job : Job). IsSoundTask s job.doc job.task);
        off = off_of s (record { unshown = shows.unshown; top_ = shows.top_ }) standing None calm (told_known None s (λ nav p doc found wakes. ap (λ (x : Place). x.is_delivered) (sym (only_place nav p found))));
      }

  -- and of the log itself
  pub fresh_lasts : (checking : ReqId → Bool) → LastsInLog checking [] s
  fresh_lasts checking =
      record {
        checks = none_checks checking s refl refl;
        asking = opened_asking checking s refl;
        shows = shows;
        duly = opened_duly 0 actors.Start (record { maker = 0; nr = 1 }) (record { 0 = 1 }) (record { 0 = 1 }) proc None address;
        known = known_on nothing (record { event = 0; actor = actors.Start; row = rows.Opened (record { maker = 0; nr = 1 }) (record { 0 = 1 }) (record { 0 = 1 }) proc None address }) tt tt tt tt known_nothing;
      }

  pub fresh_stands : (keep : ℕ) (t : Tables) (queue : Queue) → IsFresh address proc keep t → queue ≡ record { waiting = []; parked = [] } → StandsFor none_in_check s t queue []
  fresh_stands keep t queue is empty =
      record {
        between = subst (λ (o : Option ReqId). IsBetween t.kept.keep o s) (sym is.running) (opened_between t.kept.keep 0 actors.Start (record { maker = 0; nr = 1 }) (record { 0 = 1 }) (record { 0 = 1 }) proc address (record { maker = refl; entry_nr = refl; state_nr = refl; doc_nr = refl }));
        alone = λ never. absurd cc;
        lasts = subst (λ (o : Option ReqId). Lasts o s) (sym is.running) lasts;
        tied = tied keep t is;
        strays = strays;
        queue = rw (is.running, empty) (record { traversals = tt; ready = λ req q nav there ready its. absurd (none_asked req q there); steps = λ step never. absurd never });
        parked = rw empty refl;
      }
