-- What a document made is held back in the log just where the tables judge it to wait.
use Rattle.seen_facts.specs.Doc.Docs.{HasPlace}
use Rattle.log_model.specs.AfterRequests.{changes_history, is_held_back, is_held_up, is_in_place}
use Rattle.log_model.specs.Equal.{holds}
use Rattle.log_model.specs.History.{has_nav, has_row}
use Rattle.log_model.specs.Places.{is_awake, is_present, running_traversal}
use Rattle.log_model.specs.Seen.{Asked, Document, Place, Seen, Status, asleep, awake, document_of, lost, place_of, request_in}
use Rattle.log_model.specs.declared.made.Made.{Made}
use Rattle.log_model.specs.declared.made.Report.{Report}
use Rattle.seen_facts.specs.Asked.Asking.{IsThere}
use Rattle.move_queue.specs.Queue.{Queue}
use Rattle.nav_tree.specs.declared.node.Node.{Node}
use Rattle.nav_tree.specs.declared.status.NavStatus.{NavStatus}
use Rattle.nav_tree.specs.declared.status.NavStatus.TheVariants as kept
use Rattle.seen_facts.specs.Place.Standing.{IsAskedBy}
use Rattle.seen_laws.specs.InEvent.{InEvent}
use Rattle.std.proofs.Common.{Bool, List, None, Option, Some, ap, false, refl, sym, true, ◌&&◌, ◌==◌, ◌∙◌, ◌≡◌}
use Rattle.std.proofs.lemmas.Bool.{and_parts}
use Rattle.std.specs.Prelude.{is_some, option_and_then, option_map}
use Rattle.sync_core.specs.Judging.{is_awake as is_awake_judged, is_current, judged}
use Rattle.sync_core.specs.declared.judging.Judged.{Judged}
use Rattle.tab_doors.proofs.Holding.{HasNode as IsItsNode, its_node}
use Rattle.tab_doors.proofs.Sights.{sight_of}
use Rattle.tab_doors.specs.Look.{Sight, look_of, moved_by}
use Rattle.tab_doors.specs.Ties.{birth_of, status_of}
use Rattle.tab_doors.specs.declared.birth.Birth.{Birth}
use Rattle.tab_doors.specs.declared.tables.Tables.{Tables}
use Rattle.tab_ids.specs.declared.DocId.{DocId}
use Rattle.tab_ids.specs.declared.Epoch.{Epoch}
use Rattle.tab_ids.specs.declared.NavId.{NavId}
use Rattle.tab_ids.specs.declared.ProcId.{ProcId}
use Rattle.tab_ids.specs.declared.ReqId.{ReqId}
use Rattle.tab_ids.specs.declared.StateId.{StateId}
use Rattle.tab_settles.proofs.PassedOn.{running_is}
use Rattle.tab_stands.proofs.Mades.{its_asked, its_nav}
use Rattle.tab_stands.specs.Delivering.{IsSeenDelivery, IsToldOf}
use Rattle.tab_stands.specs.Standing.{InCheck, IsOwnRead, StandsFor, seen_start}
use Rattle.tab_settles.specs.PassedOn.{HasNode, IsByItsOwn, judged_in, nav_found}
use Rattle.sync_core.specs.declared.judging.Judged.TheVariants as verdicts

some_same : {A : Type 0} {a b : A} → (let o : Option A = Some a in o) ≡ Some b → a ≡ b
some_same e = cc

-- who is awake in the tables is so in the log
awake_same : (st : NavStatus) (p : Place) → status_of st ≡ p.status → is_awake_judged st ≡ is_awake p
awake_same (kept.Awake doc) p e = rw (sym e) refl
awake_same kept.Lost p e = rw (sym e) refl
awake_same kept.Asleep p e = rw (sym e) refl

awake_on : (p : Place) → is_awake p ≡ true → (doc : DocId) × (p.status ≡ awake doc)
awake_on p wakes = by_status p.status refl wakes
  where
    by_status : (st : Status) → p.status ≡ st → is_awake (record p { status = st }) ≡ true → (doc : DocId) × (p.status ≡ awake doc)
    by_status (awake doc) is h = (doc, is)
    by_status lost is h = absurd cc
    by_status asleep is h = absurd cc

module _ (e : InEvent) (proc : ProcId) (report : Report) (made : Made) (del : IsSeenDelivery e proc report) (tells : IsToldOf report made) (t : Tables) (queue : Queue) (blame : List (StateId × ReqId)) {check : InCheck} (stands : StandsFor check (seen_start e) t queue blame) (aside : IsOwnRead e) where
  abbrev s : Seen
  s = seen_start e

  abbrev own : IsByItsOwn s (its_asked e proc report made del tells t queue blame stands aside).q made
  own = its_nav e proc report made del tells t queue blame stands aside

  abbrev d : Document
  d = own.d

  has : HasPlace s.places d.nav
  has = (stands.between.tab.docs.each made.doc d own.found).placed

  abbrev place : Place
  place = has.place

  node_ : IsItsNode (look_of s t.running) t.tree d.nav place
  node_ = its_node (look_of s t.running) t.tree d.nav has.place stands.tied.holds.navs has.found

  noted : nav_found t made.doc ≡ Some d.nav
  noted =
      ap (λ (o : Option Birth). option_map (λ (b : Birth). b.nav) o) (stands.tied.holds.whose made.doc ∙ ap (λ (o : Option Sight). option_map birth_of o) (sight_of s made.doc d own.found))

  pub has_node : HasNode t made
  has_node = record { nav = d.nav; found = noted; node = ap (λ (o : Option Node). is_some o) node_.there }

  judged_as : judged_in t made ≡ Some (judged t.tree d.nav made.epoch true)
  judged_as = ap (λ (o : Option NavId). option_map (λ (nav : NavId). judged t.tree nav made.epoch true) o) noted

  -- ---- in the words of the log

  abbrev current : Bool
  current = is_awake place && place.epoch.0 == made.epoch.0

  current_is : is_current made.epoch node_.node.nav ≡ current
  current_is =
      ap (λ (b : Bool). b && node_.node.nav.epoch.0 == made.epoch.0) (awake_same node_.node.nav.status place node_.tied.status)
      ∙ ap (λ (x : Epoch). is_awake place && x.0 == made.epoch.0) node_.tied.epoch

  present_is : is_present s made ≡ current
  present_is =
      ap (λ (o : Option Document). holds (λ (x : Document). holds (λ (p : Place). is_awake p && p.epoch.0 == made.epoch.0) (place_of s x.nav)) o) own.found
      ∙ ap (λ (o : Option Place). holds (λ (p : Place). is_awake p && p.epoch.0 == made.epoch.0) o) has.found

  row_is : holds (λ (x : Document). has_row x.nav s.history.rows) (document_of s made.doc) ≡ has_row d.nav s.history.rows
  row_is = ap (λ (o : Option Document). holds (λ (x : Document). has_row x.nav s.history.rows) o) own.found

  -- the traversal that runs has shown its navigable a document
  held_is : (o : Option ReqId) → t.running ≡ o → is_held_up s made ≡ holds (λ (q : Asked). has_nav q.activated d.nav) (option_and_then (λ (req : ReqId). request_in s.requests req) o)
  held_is o is =
      ap (λ (x : Option Document). holds (λ (y : Document). holds (λ (q : Asked). has_nav q.activated y.nav) (running_traversal s)) x) own.found
      ∙ ap (λ (x : Option Asked). holds (λ (q : Asked). has_nav q.activated d.nav) x) (running_is s t.running stands.between.tab.asked ∙ ap (λ (x : Option ReqId). option_and_then (λ (req : ReqId). request_in s.requests req) x) is)

  -- and has moved it
  moved_at : node_.node.nav.moved ≡ has_nav (moved_by s.requests t.running) d.nav
  moved_at = node_.tied.moved_is ∙ ap (λ (x : NavId). has_nav (moved_by s.requests t.running) x) node_.nav_is

  -- ---- it waits

  record Waits : Type 0 where
    none : node_.node.destroyed_by ≡ None
    now_ : current ≡ true
    moves : node_.node.nav.moved ≡ true

  it_waits : judged t.tree d.nav made.epoch true ≡ verdicts.Park → Waits
  it_waits is = by_taken node_.node.destroyed_by refl
    where
      other : (v : Judged) → judged t.tree d.nav made.epoch true ≡ v → (v ≡ verdicts.Park → ⊥) → Waits
      other v at never = absurd (never (sym at ∙ is))

      by_moved : (b : Bool) → node_.node.nav.moved ≡ b → node_.node.destroyed_by ≡ None → is_current made.epoch node_.node.nav ≡ true → Waits
      by_moved true f none now_ = record { none = none; now_ = sym current_is ∙ now_; moves = f }
      by_moved false f none now_ = other verdicts.Now (rw (node_.there, none, now_, f) refl) (λ e. cc)

      by_current : (b : Bool) → is_current made.epoch node_.node.nav ≡ b → node_.node.destroyed_by ≡ None → Waits
      by_current false f none = other (verdicts.Stale node_.node.nav.why) (rw (node_.there, none, f) refl) (λ e. cc)
      by_current true f none = by_moved node_.node.nav.moved refl none f

      by_taken : (o : Option ReqId) → node_.node.destroyed_by ≡ o → Waits
      by_taken (Some by) f = other (verdicts.Gone by) (rw (node_.there, f) refl) (λ e. cc)
      by_taken None f = by_current (is_current made.epoch node_.node.nav) refl f

  -- a navigable whose last entries nobody took has one
  has_entry : place.taken_by ≡ None → has_row d.nav s.history.rows ≡ true
  has_entry none = by_row (has_row d.nav s.history.rows) refl
    where
      by_row : (b : Bool) → has_row d.nav s.history.rows ≡ b → b ≡ true
      by_row true h = refl
      by_row false h =
          let bare : has_row place.nav s.history.rows ≡ false = ap (λ x. has_row x s.history.rows) node_.nav_is ∙ h in
          let by : IsAskedBy s.requests place.taken_by = (stands.between.tab.standing d.nav place has.found).taken bare in
          absurd (let never : None ≡ Some by.req = sym none ∙ by.is in cc)

  all_three : (a p r u : Bool) → a ≡ true → p ≡ true → r ≡ true → u ≡ true → (a && (p && r) && u) ≡ true
  all_three true true true true ea ep er eu = refl
  all_three false p r u never ep er eu = absurd cc
  all_three true false r u ea never er eu = absurd cc
  all_three true true false u ea ep never eu = absurd cc
  all_three true true true false ea ep er never = absurd cc

  -- what is judged to wait is held back, since who is awake and was moved by the traversal that runs was shown a document by it
  pub parks_held : changes_history made.what ≡ true → judged_in t made ≡ Some verdicts.Park → is_held_back (seen_start e) made ≡ true
  parks_held changes is =
      all_three (changes_history made.what) (is_present s made) (holds (λ (x : Document). has_row x.nav s.history.rows) (document_of s made.doc)) (is_held_up s made) changes (present_is ∙ waits.now_) (row_is ∙ has_entry (sym node_.tied.destroyed_by ∙ waits.none)) (by_run t.running refl)
    where
      waits : Waits
      waits = it_waits (some_same (sym judged_as ∙ is))

      wakes : (doc : DocId) × (place.status ≡ awake doc)
      wakes = awake_on place (and_parts (is_awake place) (place.epoch.0 == made.epoch.0) waits.now_).0

      by_run : (o : Option ReqId) → t.running ≡ o → is_held_up s made ≡ true
      by_run None at =
          let none : has_nav (moved_by s.requests t.running) d.nav ≡ false = ap (λ (o : Option ReqId). has_nav (moved_by s.requests o) d.nav) at in
          absurd (let never : true ≡ false = sym (sym moved_at ∙ waits.moves) ∙ none in cc)
      by_run (Some run) at =
          let ran : IsThere s run = stands.between.tab.asked.runs run at in
          let moved : has_nav ran.q.moved d.nav ≡ true = sym (ap (λ (o : Option ReqId). has_nav (moved_by s.requests o) d.nav) at ∙ (rw (ran.found) refl)) ∙ sym moved_at ∙ waits.moves in
          held_is (Some run) at ∙ ap (λ (o : Option Asked). holds (λ (q : Asked). has_nav q.activated d.nav) o) ran.found ∙ stands.lasts.moved run ran.q d.nav place wakes.0 at ran.found has.found wakes.1 moved

  -- what is held back is judged to wait
  pub held_parks : is_held_back (seen_start e) made ≡ true → judged_in t made ≡ Some verdicts.Park
  held_parks held =
      judged_as ∙ ap (λ (v : Judged). let o : Option Judged = Some v in o) verdict
    where
      up : (is_in_place s made ≡ true) × (is_held_up s made ≡ true)
      up =
          let parts = and_parts (changes_history made.what && is_in_place s made) (is_held_up s made) held in ((and_parts (changes_history made.what) (is_in_place s made) parts.0).1, parts.1)

      there_ : (is_present s made ≡ true) × (holds (λ (x : Document). has_row x.nav s.history.rows) (document_of s made.doc) ≡ true)
      there_ = and_parts (is_present s made) (holds (λ (x : Document). has_row x.nav s.history.rows) (document_of s made.doc)) up.0

      now_ : is_current made.epoch node_.node.nav ≡ true
      now_ = current_is ∙ sym present_is ∙ there_.0

      moves : node_.node.nav.moved ≡ true
      moves = moved_at ∙ by_run t.running refl
        where
          by_run : (o : Option ReqId) → t.running ≡ o → has_nav (moved_by s.requests t.running) d.nav ≡ true
          by_run None at = (let never : false ≡ true = sym (held_is None at) ∙ up.1 in absurd cc)
          by_run (Some run) at =
              let ran : IsThere s run = stands.between.tab.asked.runs run at in
              let shown : has_nav ran.q.activated d.nav ≡ true = sym (held_is (Some run) at ∙ ap (λ (o : Option Asked). holds (λ (q : Asked). has_nav q.activated d.nav) o) ran.found) ∙ up.1 in
              ap (λ (o : Option ReqId). has_nav (moved_by s.requests o) d.nav) at ∙ (rw (ran.found) ((stands.between.tab.asked.each run ran.q ran.found).moved d.nav shown))

      none : node_.node.destroyed_by ≡ None
      none = by_taker place.taken_by refl
        where
          by_taker : (o : Option ReqId) → place.taken_by ≡ o → node_.node.destroyed_by ≡ None
          by_taker None is = node_.tied.destroyed_by ∙ is
          by_taker (Some req) is =
              let bare : has_row d.nav s.history.rows ≡ false = stands.lasts.lasting.taken d.nav place req has.found is in
              absurd (let never : true ≡ false = sym (sym row_is ∙ there_.1) ∙ bare in cc)

      verdict : judged t.tree d.nav made.epoch true ≡ verdicts.Park
      verdict = rw (node_.there, none, now_, moves) refl

  -- so what is judged otherwise is at hand
  pub judged_free : (verdict : Judged) → judged_in t made ≡ Some verdict → (verdict ≡ verdicts.Park → ⊥) → is_held_back (seen_start e) made ≡ false
  judged_free verdict judged_ apart = by_held (is_held_back s made) refl
    where
      by_held : (b : Bool) → is_held_back s made ≡ b → b ≡ false
      by_held false is = refl
      by_held true is = absurd (apart (some_same (sym judged_ ∙ held_parks is)))
