-- What the tables tell of who is to be told length and index is so in the log.
use Rattle.nav_tree.specs.declared.status.NavStatus.TheVariants as kept  -- keep
use Rattle.log_model.specs.declared.job.Task.TheVariants as tasks  -- keep
use Rattle.tab_doors.proofs.Sights.{seen_of, IsSeen}  -- keep
use Rattle.tab_doors.specs.Ties.{AreTied, IsHome}  -- keep
use Rattle.tab_doors.specs.Orders.{IsThere}  -- keep
use Rattle.seen_facts.proofs.Hang.Hung.{places_distinct}  -- keep
use Rattle.tab_doors.specs.declared.tables.Tables.{Tables}  -- keep
use Rattle.tab_doors.specs.Ties.{IsAwakeIn, status_of}
use Rattle.seen_facts.specs.Coord.Leading.{EachIsOfItsNavigable}
use Rattle.tab_doors.proofs.Holding.{IsThat, awake_home, its_place}
use Rattle.tab_doors.specs.Look.{Sight, look_of, moved_by, sight}
use Rattle.tab_doors.specs.Orders.{order_to}
use Rattle.seen_facts.specs.Hang.AsPlaces.{AreDistinct}
use Rattle.seen_facts.specs.Hang.Members.{Has}
use Rattle.seen_facts.specs.Home.Homes.{IsAtHome}
use Rattle.log_model.proofs.Refl.{nat_eq_refl}
use Rattle.log_model.specs.ActsAtOnce.{is_told}
use Rattle.log_model.specs.Equal.{holds, same_pair}
use Rattle.log_model.specs.History.{History, has_nav}
use Rattle.log_model.specs.Places.{aim_of, due_pair, is_awake, is_awake_on, is_moved_in, pair_in, shower_of}
use Rattle.log_model.specs.Seen.{Document, Place, Seen, Status, asleep, awake, document_of, lost, place_in, place_of}
use Rattle.log_model.specs.declared.job.Why.{Why}
use Rattle.log_model.specs.declared.row_kind.RowKind.{RowKind}
use Rattle.nav_tree.specs.Tree.{nav_of, node_of}
use Rattle.nav_tree.specs.declared.node.Node.{Node}
use Rattle.nav_tree.specs.declared.status.NavStatus.{NavStatus}
use Rattle.tab_passes.proofs.Aims.{aim_is, held_aim, held_pair, moved_is}
use Rattle.tab_passes.proofs.Tellings.{told_asleep, told_none}
use Rattle.tab_passes.specs.Passing.{InPass, IsPassing}
use Rattle.tab_passes.specs.Telling.{IsToldAt, awake_on, if_new, step_in, untold_in}
use Rattle.seen_facts.proofs.Rest.Stands.{get_of}
use Rattle.seen_laws.specs.InEvent.{now_of}
use Rattle.seen_laws.specs.Sending.{IsUpdateDue}
use Rattle.std.proofs.Common.{Bool, List, None, Option, Some, [], ap, arith, cond, false, inl, inr, map, refl, subst, sym, true, ℕ, ◌==◌, ◌∙◌, ◌∷◌, ◌≡◌}
use Rattle.std.proofs.lemmas.Bool.Decides.{nat_tests}
use Rattle.std.specs.Prelude.{find, option_and_then, option_map}
use Rattle.step_index.specs.Held.{history_held}
use Rattle.tab_ids.specs.declared.DocId.{DocId}
use Rattle.tab_ids.specs.declared.NavId.{NavId}
use Rattle.seen_facts.proofs.Walk.Placed.{each_found}

-- ---- who is awake on a document

-- of the places awake on it there is one
shower_in : (l : List Place) (doc : DocId) (nav : NavId) (place : Place) → place_in l nav ≡ Some place → is_awake_on doc place ≡ true → ((p : Place) → Has l p → is_awake_on doc p ≡ true → (p.nav.0 == nav.0) ≡ true) → find (is_awake_on doc) l ≡ Some place
shower_in [] doc nav place at on only = cc
shower_in (p ∷ l) doc nav place at on only =
    by_nav (p.nav.0 == nav.0) refl (is_awake_on doc p) refl at (λ found. shower_in l doc nav place found on (λ x there wakes. only x (inr there) wakes))
  where
    by_nav : (b : Bool) → (p.nav.0 == nav.0) ≡ b → (c : Bool) → is_awake_on doc p ≡ c → cond b (Some p) (place_in l nav) ≡ Some place → (place_in l nav ≡ Some place → find (is_awake_on doc) l ≡ Some place) → cond c (Some p) (find (is_awake_on doc) l) ≡ Some place
    by_nav true same true is found more = found
    by_nav true same false is found more =
        let one : p ≡ place = cc in
        let never : false ≡ true = sym is ∙ ap (is_awake_on doc) one ∙ on in
        cc
    by_nav false apart true is found more = let never : false ≡ true = sym apart ∙ only p (inl refl) is in cc
    by_nav false apart false is found more = more found

-- a place that is awake on it has that status
awake_status : (doc : DocId) (place : Place) → is_awake_on doc place ≡ true → place.status ≡ awake doc
awake_status doc place on = by_status place.status refl
  where
    by_status : (st : Status) → place.status ≡ st → place.status ≡ awake doc
    by_status (awake x) is =
        let number : (x.0 == doc.0) ≡ true = sym (let r : is_awake_on doc place ≡ (x.0 == doc.0) = rw is refl in r) ∙ on in
        is ∙ ap (λ (n : ℕ). awake (record { 0 = n })) (grind (arith, nat_tests, number))
    by_status asleep is = let never : false ≡ true = sym (let r : is_awake_on doc place ≡ false = rw is refl in r) ∙ on in cc
    by_status lost is = let never : false ≡ true = sym (let r : is_awake_on doc place ≡ false = rw is refl in r) ∙ on in cc

pub shower_is : (s : Seen) (doc : DocId) (nav : NavId) (place : Place) (d : Document) → AreDistinct s.places → EachIsOfItsNavigable s → document_of s doc ≡ Some d → place_of s nav ≡ Some place → place.status ≡ awake doc → shower_of s doc ≡ Some place
shower_is s doc nav place d apart whose found placed wakes = shower_in s.places doc nav place placed (rw wakes (nat_eq_refl doc.0)) only
  where
    only : (p : Place) → Has s.places p → is_awake_on doc p ≡ true → (p.nav.0 == nav.0) ≡ true
    only p there on =
        let at = get_of s.places p there in
        let found_p : place_of s p.nav ≡ Some p = each_found s.places apart at.0 p at.1 in
        let its : d.nav.0 ≡ p.nav.0 = whose p.nav p doc d found_p (awake_status doc p on) found in
        let ours : d.nav.0 ≡ nav.0 = whose nav place doc d placed wakes found in
        ap (λ (n : ℕ). n == nav.0) (sym its ∙ ours) ∙ nat_eq_refl nav.0

-- ---- who is to be told, and what

module _ (p : InPass) (out : List RowKind) (t : Tables) (pass : IsPassing p out t) where
  abbrev s : Seen
  s = now_of p.event out

  abbrev held : History
  held = history_held t.store

  held_step : (moved : Bool) → step_in held t.running t.goal moved ≡ cond moved (aim_of s) s.history.current
  held_step true =
      held_aim t.store s.history t.running t.goal pass.work.holds.history
      ∙ sym (aim_is s t.running pass.going.tab.asked t.goal pass.work.goal)
  held_step false = pass.work.holds.history.current

  pairs_same : (step : ℕ) → pair_in held.rows step ≡ pair_in s.history.rows step
  pairs_same step = let both_ = held_pair t.store s.history pass.work.holds.history step in rw (both_.0, both_.1) refl

  -- the pair that the tables have for a navigable is the due one
  pub due_is : (nav : NavId) (node : Node) → node_of nav t.tree ≡ Some node → pair_in held.rows (step_in held t.running t.goal node.nav.moved) ≡ due_pair s nav
  due_is nav node there =
      let it : IsThat (look_of s t.running) nav node = its_place (look_of s t.running) t.tree nav node pass.work.holds.navs there in
      let moves : node.nav.moved ≡ is_moved_in s.requests nav = it.tied.moved_is ∙ ap (λ (n : NavId). has_nav (moved_by s.requests t.running) n) it.nav_is ∙ sym (moved_is s t.running pass.going.tab.asked nav) in
      pairs_same (step_in held t.running t.goal node.nav.moved)
      ∙ ap (λ (step : ℕ). pair_in s.history.rows step) (held_step node.nav.moved ∙ ap (λ (b : Bool). cond b (aim_of s) s.history.current) moves)

  -- what the tables have to be told is
  abbrev untold_ : NavId → Option (DocId × (ℕ × ℕ))
  untold_ nav = option_and_then (untold_in held t.running t.goal) (nav_of nav t.tree)

  -- the document of an awake navigable, and what it was told
  record IsAwakeHere (nav : NavId) (node : Node) (doc : DocId) : Type 0 where
    place : Place
    placed : place_of s nav ≡ Some place
    nav_is : place.nav ≡ nav
    wakes : place.status ≡ awake doc
    document : Document
    found : document_of s doc ≡ Some document
    told : document.told ≡ node.nav.told

  awake_here : (nav : NavId) (node : Node) (doc : DocId) → node_of nav t.tree ≡ Some node → node.nav.status ≡ kept.Awake doc → IsAwakeHere nav node doc
  awake_here nav node doc there wakes =
      let it : IsThat (look_of s t.running) nav node = its_place (look_of s t.running) t.tree nav node pass.work.holds.navs there in
      let home : IsHome (map sight s.documents) nav node.nav.told doc = awake_home (look_of s t.running) t.tree nav node doc pass.work.holds.navs there wakes in
      let seen : IsSeen s doc home.document = seen_of s doc home.document home.found in
      record {
        place = it.place;
        placed = it.at;
        nav_is = it.nav_is;
        wakes = sym it.tied.status ∙ ap status_of wakes;
        document = seen.document;
        found = seen.found;
        told = ap (λ (x : Sight). x.told) seen.is ∙ home.told_is;
      }

  -- it is told, or is to be told the due pair
  told_here : (nav : NavId) (node : Node) (doc : DocId) → (its : IsAwakeHere nav node doc) → is_told s its.place ≡ holds (same_pair (due_pair s nav)) node.nav.told
  told_here nav node doc its =
      rw its.wakes (rw its.found (rw its.told (ap (λ (n : NavId). holds (same_pair (due_pair s n)) node.nav.told) its.nav_is)))

  -- the order is due
  pub record IsTellDue (nav : NavId) (doc : DocId) (pair : ℕ × ℕ) : Type 0 where
    pub wakes : IsAwakeIn t.tree nav doc
    pub there : IsThere s doc
    pub place : Place
    pub placed : place_of s nav ≡ Some place
    pub on : place.status ≡ awake doc
    pub due_pair_is : pair ≡ due_pair s nav
    pub due : (why : Why) → IsUpdateDue s (order_to s doc why (tasks.Update pair.0 pair.1)) pair

  tell_due : (nav : NavId) (node : Node) (doc : DocId) (pair : ℕ × ℕ) → node_of nav t.tree ≡ Some node → node.nav.status ≡ kept.Awake doc → pair ≡ due_pair s nav → holds (same_pair pair) node.nav.told ≡ false → IsTellDue nav doc pair
  tell_due nav node doc pair at wakes is new =
      record {
        wakes = record { node = node; there = at; wakes = wakes };
        there = record { document = its.document; found = its.found; alive = rw (home.1.0, home.1.1) refl; known = (pass.going.tab.asked.died its.document.proc).0 };
        place = its.place;
        placed = its.placed;
        on = its.wakes;
        due_pair_is = is;
        due = λ why. record {
          place = its.place;
          shows = shower_is s doc nav its.place its.document (places_distinct s pass.going.tab.sound pass.going.tab.hangs) pass.going.tab.flows.whose its.found its.placed its.wakes;
          untold = rw its.wakes (rw its.found (rw its.told new));
          due = is ∙ ap (λ (n : NavId). due_pair s n) (sym its.nav_is);
        };
      }
    where
      its : IsAwakeHere nav node doc
      its = awake_here nav node doc at wakes

      at_home : IsAtHome s.documents its.place.nav doc
      at_home = (pass.going.tab.homes.homed nav its.place doc its.placed its.wakes).home

      home : IsAtHome s.documents its.place.nav doc × ((its.document.is_discarded ≡ false) × (its.document.is_known_dead ≡ false))
      home = (at_home, let same : at_home.document ≡ its.document = (let both_ : Some at_home.document ≡ Some its.document = sym at_home.found ∙ its.found in cc) in (ap (λ (d : Document). d.is_discarded) (sym same) ∙ at_home.undiscarded, ap (λ (d : Document). d.is_known_dead) (sym same) ∙ at_home.unknown))

  by_new : (nav : NavId) (node : Node) (doc x : DocId) (told pair : ℕ × ℕ) → (b : Bool) → holds (same_pair told) node.nav.told ≡ b → option_map {U = DocId × (ℕ × ℕ)} (λ (p : ℕ × ℕ). (x, p)) (cond b None (Some told)) ≡ Some (doc, pair) → (holds (same_pair told) node.nav.told ≡ false) × ((x ≡ doc) × (told ≡ pair))
  by_new nav node doc x told pair true is e = cc
  by_new nav node doc x told pair false is e = let one : (x, told) ≡ (doc, pair) = cc in (is, (ap (λ (p : DocId × (ℕ × ℕ)). p.0) one, ap (λ (p : DocId × (ℕ × ℕ)). p.1) one))

  pub untold_some : (nav : NavId) (doc : DocId) (pair : ℕ × ℕ) → untold_ nav ≡ Some (doc, pair) → IsTellDue nav doc pair
  untold_some nav doc pair e = by_node (node_of nav t.tree) refl e
    where
      by_status : (node : Node) → node_of nav t.tree ≡ Some node → (st : NavStatus) → node.nav.status ≡ st → option_and_then {U = DocId × (ℕ × ℕ)} (λ (x : DocId). option_map {U = DocId × (ℕ × ℕ)} (λ (p : ℕ × ℕ). (x, p)) (if_new node.nav.told (pair_in held.rows (step_in held t.running t.goal node.nav.moved)))) (awake_on st) ≡ Some (doc, pair) → IsTellDue nav doc pair
      by_status node at (kept.Awake x) wakes is =
          let parts = by_new nav node doc x (pair_in held.rows (step_in held t.running t.goal node.nav.moved)) pair (holds (same_pair (pair_in held.rows (step_in held t.running t.goal node.nav.moved))) node.nav.told) refl is in
          tell_due nav node doc pair at (wakes ∙ ap (λ (y : DocId). kept.Awake y) parts.1.0) (sym parts.1.1 ∙ due_is nav node at) (subst (λ (p : ℕ × ℕ). holds (same_pair p) node.nav.told ≡ false) parts.1.1 parts.0)
      by_status node at kept.Lost wakes is = cc
      by_status node at kept.Asleep wakes is = cc

      by_node : (o : Option Node) → node_of nav t.tree ≡ o → option_and_then (untold_in held t.running t.goal) (option_map (λ (n : Node). n.nav) o) ≡ Some (doc, pair) → IsTellDue nav doc pair
      by_node None at is = cc
      by_node (Some node) at is = by_status node at node.nav.status refl is

  pub untold_none : (nav : NavId) → untold_ nav ≡ None → IsToldAt s nav
  untold_none nav e = by_node (node_of nav t.tree) refl e
    where
      by_test : (b : Bool) (told : ℕ × ℕ) (x : DocId) → option_map {U = DocId × (ℕ × ℕ)} (λ (p : ℕ × ℕ). (x, p)) (cond b None (Some told)) ≡ None → b ≡ true
      by_test true told x is = refl
      by_test false told x is = cc

      sleeps : (node : Node) (there : node_of nav t.tree ≡ Some node) (st : Status) → status_of node.nav.status ≡ st → ((p : Place) → p.status ≡ st → is_awake p ≡ false) → IsToldAt s nav
      sleeps node there st is none =
          told_asleep s nav (λ p at.
          let it : IsThat (look_of s t.running) nav node = its_place (look_of s t.running) t.tree nav node pass.work.holds.navs there in
          let both_ : Some it.place ≡ Some p = sym it.at ∙ at in
          let same : it.place ≡ p = cc in
          none p (ap (λ (q : Place). q.status) (sym same) ∙ sym it.tied.status ∙ is))

      by_status : (node : Node) → node_of nav t.tree ≡ Some node → (st : NavStatus) → node.nav.status ≡ st → option_and_then {U = DocId × (ℕ × ℕ)} (λ (x : DocId). option_map {U = DocId × (ℕ × ℕ)} (λ (p : ℕ × ℕ). (x, p)) (if_new node.nav.told (pair_in held.rows (step_in held t.running t.goal node.nav.moved)))) (awake_on st) ≡ None → IsToldAt s nav
      by_status node at (kept.Awake x) wakes is =
          let its : IsAwakeHere nav node x = awake_here nav node x at wakes in
          let was : holds (same_pair (pair_in held.rows (step_in held t.running t.goal node.nav.moved))) node.nav.told ≡ true = by_test _ (pair_in held.rows (step_in held t.running t.goal node.nav.moved)) x is in
          λ p found.
          let both_ : Some its.place ≡ Some p = sym its.placed ∙ found in
          let same : its.place ≡ p = cc in
          ap (is_told s) (sym same) ∙ told_here nav node x its ∙ subst (λ (q : ℕ × ℕ). holds (same_pair q) node.nav.told ≡ true) (due_is nav node at) was
      by_status node at kept.Lost wakes is = sleeps node at lost (ap status_of wakes) (λ p on. rw on refl)
      by_status node at kept.Asleep wakes is = sleeps node at asleep (ap status_of wakes) (λ p on. rw on refl)

      by_node : (o : Option Node) → node_of nav t.tree ≡ o → option_and_then (untold_in held t.running t.goal) (option_map (λ (n : Node). n.nav) o) ≡ None → IsToldAt s nav
      by_node None at is = told_none s nav (by_tied (place_in s.places nav) refl (subst (λ (o : Option Node). AreTied (map sight s.documents) (moved_by s.requests t.running) nav o (place_in s.places nav)) at (pass.work.holds.navs.navs nav)))
        where
          by_tied : (o : Option Place) → place_in s.places nav ≡ o → AreTied (map sight s.documents) (moved_by s.requests t.running) nav None o → place_of s nav ≡ None
          by_tied None placed tied = placed
          by_tied (Some p) placed tied = elim tied [ ]
      by_node (Some node) at is = by_status node at node.nav.status refl is
