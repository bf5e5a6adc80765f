-- What the tables tell of what a document made is what the log says, and what follows of each verdict.
use Rattle.seen_facts.specs.Each.Runs.{is_this}
use Rattle.seen_facts.specs.Doc.Docs.{HasPlace}
use Rattle.log_model.specs.History.{has_nav, has_row}
use Rattle.log_model.specs.Places.{is_awake, is_moved, is_under_way}
use Rattle.log_model.specs.Seen.{Document, Place, Seen, document_of, place_of}
use Rattle.log_model.specs.declared.made.Made.{Made}
use Rattle.log_model.specs.declared.row_kind.RowKind.{RowKind}
use Rattle.nav_tree.specs.Tree.{node_of}
use Rattle.nav_tree.specs.declared.node.Node.{Node}
use Rattle.nav_tree.specs.declared.status.NavStatus.{NavStatus}
use Rattle.nav_tree.specs.declared.status.NavStatus.TheVariants as kept
use Rattle.seen_facts.specs.Place.Standing.{IsAskedBy}
use Rattle.seen_laws.specs.InEvent.{now_of}
use Rattle.std.proofs.Common.{Bool, List, None, Option, Some, ap, false, map, refl, subst, sym, true, ◌&&◌, ◌==◌, ◌∙◌, ◌≡◌}
use Rattle.std.specs.Prelude.{is_some, option_map}
use Rattle.sync_core.specs.Judging.{is_awake as is_awake_judged, is_current, judged}
use Rattle.sync_core.specs.declared.judging.Judged.{Judged}
use Rattle.sync_core.specs.declared.judging.Judged.TheVariants as verdicts
use Rattle.tab_doors.proofs.Holding.{its_node}
use Rattle.tab_doors.proofs.Sights.{sight_of}
use Rattle.tab_doors.specs.Look.{Sight, look_of, moved_by, sight}
use Rattle.tab_doors.specs.Ties.{IsTied, birth_of, status_of}
use Rattle.tab_doors.specs.declared.birth.Birth.{Birth}
use Rattle.tab_doors.specs.declared.tables.Tables.{Tables}
use Rattle.tab_ids.specs.declared.Epoch.{Epoch}
use Rattle.tab_ids.specs.declared.ReqId.{ReqId}
use Rattle.tab_ids.specs.declared.StateId.{StateId}
use Rattle.tab_rests.proofs.PassedOn.{moved_is}
use Rattle.tab_rests.specs.PassedOn.{InPass, IsTab}
use Rattle.tab_takes.specs.Taking.{HasNode, IsByItsOwn, IsToTake, judged_in, nav_found}
use Rattle.seen_facts.proofs.Walk.Placed.{found_nav}

some_same : {A : Type 0} {a b : A} → (let o : Option A = Some a in o) ≡ Some b → a ≡ b
some_same e = cc

-- who is awake in the tables is so in the log
awake_same : (st : NavStatus) (p : Place) → status_of st ≡ p.status → is_awake_judged st ≡ is_awake p
awake_same (kept.Awake doc) p e = rw (sym e) refl
awake_same kept.Lost p e = rw (sym e) refl
awake_same kept.Asleep p e = rw (sym e) refl

module _ (p : InPass) (out : List RowKind) (t : Tables) (blame : List (StateId × ReqId)) (made : Made) (at : IsToTake p out t blame made) where
  abbrev pub s : Seen
  s = now_of p.event out

  abbrev pub tab : IsTab t.running p.loads p.hand s
  tab = at.passing.going.tab

  -- its document, and the place and the node of its navigable
  pub record IsOfIt : Type 0 where
    pub d : Document
    pub found : document_of s made.doc ≡ Some d
    pub place : Place
    pub placed : place_of s d.nav ≡ Some place
    pub node : Node
    pub there : node_of d.nav t.tree ≡ Some node
    pub nav_is : place.nav ≡ d.nav
    pub tied : IsTied (map sight s.documents) (moved_by s.requests t.running) node place
    pub noted : nav_found t made.doc ≡ Some d.nav

  pub its : IsOfIt
  its =
      let o : IsByItsOwn s at.taking.q made = at.taking.own in
      let has : HasPlace s.places o.d.nav = (tab.docs.each made.doc o.d o.found).placed in
      let node = its_node (look_of s t.running) t.tree o.d.nav has.place at.passing.work.holds.navs has.found in
      record {
        d = o.d;
        found = o.found;
        place = has.place;
        placed = has.found;
        node = node.node;
        there = node.there;
        nav_is = found_nav s.places o.d.nav has.place has.found;
        tied = node.tied;
        noted = ap (λ (x : Option Birth). option_map (λ (b : Birth). b.nav) x) (at.passing.work.holds.whose made.doc ∙ ap (λ (x : Option Sight). option_map birth_of x) (sight_of s made.doc o.d o.found));
      }

  pub has_node : HasNode t made
  has_node = record { nav = its.d.nav; found = its.noted; node = ap (λ (o : Option Node). is_some o) its.there }

  -- ---- the verdict

  -- its navigable is awake under the epoch
  abbrev pub current : Bool
  current = is_awake its.place && its.place.epoch.0 == made.epoch.0

  current_is : is_current made.epoch its.node.nav ≡ current
  current_is =
      ap (λ (b : Bool). b && its.node.nav.epoch.0 == made.epoch.0) (awake_same its.node.nav.status its.place its.tied.status)
      ∙ ap (λ (x : Epoch). is_awake its.place && x.0 == made.epoch.0) its.tied.epoch

  -- what each verdict tells
  abbrev pub Tells : Judged → Type 0
  Tells (verdicts.Gone by) = its.place.taken_by ≡ Some by
  Tells (verdicts.Stale why) = (its.place.taken_by ≡ None) × ((current ≡ false) × (its.place.why ≡ why))
  Tells verdicts.Park = (its.place.taken_by ≡ None) × ((current ≡ true) × (its.node.nav.moved ≡ true))
  Tells verdicts.Now = (its.place.taken_by ≡ None) × ((current ≡ true) × (its.node.nav.moved ≡ false))

  judged_is : (v : Judged) → judged_in t made ≡ Some v → judged t.tree its.d.nav made.epoch true ≡ v
  judged_is v eq =
      let first : judged_in t made ≡ Some (judged t.tree its.d.nav made.epoch true) = ap (λ (o : Option _). option_map (λ nav. judged t.tree nav made.epoch true) o) its.noted in
      some_same (sym first ∙ eq)

  pub tells : (v : Judged) → judged_in t made ≡ Some v → Tells v
  tells v eq = by_taken its.node.destroyed_by refl
    where
      is_v : judged t.tree its.d.nav made.epoch true ≡ v
      is_v = judged_is v eq

      told : (w : Judged) → judged t.tree its.d.nav made.epoch true ≡ w → Tells w → Tells v
      told w eq_ facts = subst Tells (sym eq_ ∙ is_v) facts

      by_moved : (c : Bool) → its.node.nav.moved ≡ c → its.node.destroyed_by ≡ None → is_current made.epoch its.node.nav ≡ true → Tells v
      by_moved true f none now_ =
          told verdicts.Park (rw (its.there, none, now_, f) refl) (sym its.tied.destroyed_by ∙ none, (sym current_is ∙ now_, f))
      by_moved false f none now_ =
          told verdicts.Now (rw (its.there, none, now_, f) refl) (sym its.tied.destroyed_by ∙ none, (sym current_is ∙ now_, f))

      by_current : (b : Bool) → is_current made.epoch its.node.nav ≡ b → its.node.destroyed_by ≡ None → Tells v
      by_current false f none =
          told (verdicts.Stale its.node.nav.why) (rw (its.there, none, f) refl) (sym its.tied.destroyed_by ∙ none, (sym current_is ∙ f, sym its.tied.why))
      by_current true f none = by_moved its.node.nav.moved refl none f

      by_taken : (o : Option ReqId) → its.node.destroyed_by ≡ o → Tells v
      by_taken (Some by) f = told (verdicts.Gone by) (rw (its.there, f) refl) (sym its.tied.destroyed_by ∙ f)
      by_taken None f = by_current (is_current made.epoch its.node.nav) refl f

  -- a navigable whose last entries nobody took has one
  pub has_entry : its.place.taken_by ≡ None → has_row its.d.nav s.history.rows ≡ true
  has_entry none = by_row (has_row its.d.nav s.history.rows) refl
    where
      by_row : (b : Bool) → has_row its.d.nav s.history.rows ≡ b → b ≡ true
      by_row true h = refl
      by_row false h =
          let bare : has_row its.place.nav s.history.rows ≡ false = ap (λ n. has_row n s.history.rows) its.nav_is ∙ h in
          let by : IsAskedBy s.requests its.place.taken_by = (tab.standing its.d.nav its.place its.placed).taken bare in
          absurd (let never : None ≡ Some by.req = sym none ∙ by.is in cc)

  -- it isn't of the traversal that runs
  pub apart : is_this t.running made.req ≡ false
  apart =
      sym (tab.asked.only made.req at.taking.q at.taking.there) ∙ rw at.taking.rests (never (is_under_way at.taking.q))
    where
      never : (b : Bool) → (b && false) ≡ false
      never true = refl
      never false = refl

  -- where it is taken up now, that doesn't move its navigable
  pub unmoved : its.node.nav.moved ≡ false → is_moved s its.d.nav ≡ false
  unmoved none =
      moved_is s t.running tab.asked its.d.nav
      ∙ ap (λ n. has_nav (moved_by s.requests t.running) n) (sym its.nav_is)
      ∙ sym its.tied.moved_is
      ∙ none
