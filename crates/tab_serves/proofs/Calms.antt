-- What a turn of the walk puts out leaves the tab as calm as it was, and each ongoing load its document.
use Rattle.tab_walk.proofs.Overs.{asks_nobody}
use Rattle.tab_doors.proofs.PassedOn.{sent_goes, sent_now}
use Rattle.tab_facts.proofs.Calm.Loads.{loads_sent}
use Rattle.tab_facts.proofs.Calm.Sames.{IsUsableAt}
use Rattle.tab_facts.proofs.Calm.Sents.{DiscardsNone, KeepsSeats, ShowsEntry, seats_none, seats_sent, seats_then, usable_sent}
use Rattle.tab_facts.proofs.Calm.Turns.{IsCalmTurn, IsInPlace}
use Rattle.tab_facts.specs.Calm.Loads.{LoadsHaveDocuments}
use Rattle.seen_facts.proofs.Hang.Targets.{IsTarget, target_has}
use Rattle.log_model.proofs.Refl.{nat_eq_refl, same_entry_refl}
use Rattle.log_model.specs.After.{after}
use Rattle.log_model.specs.AfterPlaces.{activated}
use Rattle.log_model.specs.Equal.{holds}
use Rattle.log_model.specs.History.{History, same_entry, target_entry}
use Rattle.log_model.specs.Orders.{is_usable}
use Rattle.log_model.specs.Places.{aim_of, is_awake}
use Rattle.log_model.specs.Seen.{Document, Place, Seen, document_of, place_of}
use Rattle.log_model.specs.declared.header.Header.{Header}
use Rattle.log_model.specs.declared.job.Job.{Job}
use Rattle.log_model.specs.declared.job.Task.{Task}
use Rattle.log_model.specs.declared.job.Why.{Why}
use Rattle.log_model.specs.declared.row.Row.{Row}
use Rattle.log_model.specs.declared.row_kind.RowKind.{RowKind}
use Rattle.seen_facts.proofs.Mover.Orders.{PutsToSleep}
use Rattle.seen_laws.proofs.InEvents.{now_step}
use Rattle.seen_laws.specs.InEvent.{InEvent, now_of, row_of}
use Rattle.seen_laws.specs.Unasked.{is_question}
use Rattle.std.proofs.Common.{Bool, List, None, Option, Some, [], ap, cond, inl, inr, refl, subst, sym, true, ℕ, ◌++◌, ◌==◌, ◌∙◌, ◌∷◌, ◌≡◌, false}
use Rattle.std.specs.Prelude.{option_map}
use Rattle.tab_doors.specs.declared.tables.Tables.{Tables}
use Rattle.tab_ids.specs.declared.DocId.{DocId}
use Rattle.tab_ids.specs.declared.EntryId.{EntryId}
use Rattle.tab_ids.specs.declared.NavId.{NavId}
use Rattle.tab_ids.specs.declared.StateId.{StateId}
use Rattle.tab_walk.specs.PassedOn.{HasMade}
pub use Rattle.tab_walk.proofs.Overs.{only_as}
use Rattle.tab_walk.specs.Moving.{HasBeenMoved, HasOnly, IsLeaveFor}
use Rattle.tab_serves.proofs.Orders.{IsOrderOf, over_orders}
use Rattle.seen_facts.proofs.Walk.Placed.{found_nav}
use Rattle.seen_facts.proofs.Walk.Sleepers.{becomes, place_becomes, sleepers_of, slept, slept_same}
use Rattle.seen_facts.proofs.Walk.Turns.{show_aim}
use Rattle.seen_facts.specs.Walk.Walking.{LeavesOthers}
use Rattle.log_model.specs.declared.job.Task.TheVariants as tasks
use Rattle.log_model.specs.declared.row_kind.RowKind.TheVariants as rows

-- ---- a document is made

module _ (header : Header) (t : Tables) (nav : NavId) (entry : EntryId) (cause : Why) (e : InEvent) (was out : List RowKind) where
  abbrev s : Seen
  s = now_of e was

  -- nothing was put out
  none_calm : (place : Place) → place_of s nav ≡ Some place → IsCalmTurn s s nav place
  none_calm place placed =
      record {
        own = λ now p there. inl (let both : Some p ≡ Some place = sym there ∙ placed in cc);
        usable = λ none doc d state found usable. record { d = d; found = found; usable = usable };
        target = λ row at doc d found usable. (doc, record { d = d; found = found; usable = usable });
        seats = seats_none s;
      }

  -- an order that makes it
  populate_calm : (job : Job) (state : StateId) (address : List ℕ) (initial : Bool) → job.task ≡ tasks.Populate nav state address initial → (place : Place) → place_of s nav ≡ Some place → IsCalmTurn s (after s (row_of e (rows.Sent job))) nav place
  populate_calm job state address initial task place placed =
      record {
        own = λ now p there. inl (let both : Some p ≡ Some place = sym there ∙ places ∙ placed in cc);
        usable = λ none. stays;
        target = λ row at doc d found usable. (doc, stays doc d row.state found usable);
        seats = seats_sent s e.event e.actor job (subst (λ (k : Task). ShowsEntry s job.doc k) (sym task) tt);
      }
    where
      places : place_of (after s (row_of e (rows.Sent job))) nav ≡ place_of s nav
      places = rw task refl

      stays : (doc : DocId) (d : Document) (other : StateId) → document_of s doc ≡ Some d → is_usable d other ≡ true → IsUsableAt (after s (row_of e (rows.Sent job))) doc other
      stays = usable_sent s e.event e.actor job (subst (λ (k : Task). DiscardsNone k) (sym task) tt)

  pub made_calm : HasMade header t nav entry cause was out → (place : Place) → place_of s nav ≡ Some place → IsCalmTurn s (now_of e out) nav place
  made_calm (inl making) place placed =
      subst (λ (l : List RowKind). IsCalmTurn s (now_of e l) nav place) (sym making.1) (none_calm place placed)
  made_calm (inr made) place placed =
      subst (λ (l : List RowKind). IsCalmTurn s (now_of e l) nav place) (sym made.is)
      (subst (λ (x : Seen). IsCalmTurn s x nav place) (sym (sent_now e was made.job (ap (λ (k : Task). is_question k) made.task))) (populate_calm made.job _ _ _ made.task place placed))

-- its place stays
pub made_place : (header : Header) (t : Tables) (nav : NavId) (entry : EntryId) (cause : Why) (e : InEvent) (was out : List RowKind) → HasMade header t nav entry cause was out → place_of (now_of e out) nav ≡ place_of (now_of e was) nav
made_place header t nav entry cause e was out (inl making) = ap (λ (l : List RowKind). place_of (now_of e l) nav) making.1
made_place header t nav entry cause e was out (inr made) =
    ap (λ (l : List RowKind). place_of (now_of e l) nav) made.is
    ∙ ap (λ (x : Seen). place_of x nav) (sent_now e was made.job (ap (λ (k : Task). is_question k) made.task))
    ∙ (let task = made.task in rw task refl)

-- ---- it is moved

module _ (e : InEvent) (nav : NavId) (was out : List RowKind) (moved : HasBeenMoved e nav was out) (others : LeavesOthers (now_of e was) (now_of e out) nav) (place : Place) (placed : place_of (now_of e was) nav ≡ Some place) (first : place.epoch.0 ≡ 0 → place.last ≡ None) where
  abbrev b : Seen
  b = now_of e was

  abbrev m : Seen
  m = now_of e moved.mid

  abbrev x : Seen
  x = after m (row_of e (rows.Sent moved.job))

  then_ : now_of e out ≡ x
  then_ =
      ap (λ (l : List RowKind). now_of e l) moved.is ∙ sent_now e moved.mid moved.job (ap (λ (k : Task). is_question k) moved.task)

  -- ---- the order that shows it

  history : m.history ≡ b.history
  history = sym (ap (λ (y : Seen). y.history) then_) ∙ others.history

  aims : aim_of m ≡ aim_of b
  aims =
      sym (show_aim m e.event e.actor moved.job moved.wanted.document moved.entry moved.epoch moved.long moved.at moved.memo moved.address moved.task moved.wanted.found) ∙ sym (ap aim_of then_) ∙ others.aim

  -- its target is the one before
  at_before : target_entry b.history.rows nav (aim_of b) ≡ Some moved.wanted.target
  at_before =
      sym (ap (λ (h : History). target_entry h.rows nav (aim_of m)) history ∙ ap (λ (k : ℕ). target_entry b.history.rows nav k) aims) ∙ moved.wanted.at

  abbrev become : Place → Place
  become = becomes m e.event e.actor moved.job moved.wanted.document moved.entry moved.epoch moved.long moved.at moved.memo moved.address moved.task moved.wanted.found

  abbrev old : Place
  old = slept (sleepers_of m moved.job.doc moved.wanted.document.nav) moved.job.why moved.wanted.place

  new : become moved.wanted.place ≡ activated moved.job moved.entry moved.epoch moved.wanted.document old
  new =
      ap (λ (c : Bool). let p : Place = cond c (activated moved.job moved.entry moved.epoch moved.wanted.document old) old in p) own
    where
      own : (old.nav.0 == moved.wanted.document.nav.0) ≡ true
      own =
          ap (λ (n : NavId). n.0 == moved.wanted.document.nav.0) ((slept_same (sleepers_of m moved.job.doc moved.wanted.document.nav) moved.job.why moved.wanted.place).0 ∙ found_nav m.places nav moved.wanted.place moved.wanted.placed ∙ sym moved.wanted.nav_is)
          ∙ nat_eq_refl moved.wanted.document.nav.0

  -- what its place becomes
  place_is : (p : Place) → place_of x nav ≡ Some p → activated moved.job moved.entry moved.epoch moved.wanted.document old ≡ p
  place_is p there =
      let both : Some (become moved.wanted.place) ≡ Some p = sym (place_becomes m e.event e.actor moved.job moved.wanted.document moved.entry moved.epoch moved.long moved.at moved.memo moved.address moved.task moved.wanted.found nav ∙ ap (option_map become) moved.wanted.placed) ∙ there in
      let same : become moved.wanted.place ≡ p = cc in
      sym new ∙ same

  -- under its first epoch, if it was never shown a document
  pub moved_first : (p : Place) → place_of (now_of e out) nav ≡ Some p → place.last ≡ None → p.epoch.0 ≡ 1
  moved_first p there none =
      ap (λ (q : Place). q.epoch.0) (sym (place_is p (ap (λ (y : Seen). place_of y nav) (sym then_) ∙ there))) ∙ moved.one place placed none

  -- it is awake on its target
  put : (p : Place) → place_of x nav ≡ Some p → aim_of b ≡ b.history.current → IsInPlace b p
  put p there now =
      record {
        up = ap (λ (q : Place). is_awake q) (sym is);
        target = ap (λ (n : NavId). holds (λ (row : Row). holds (same_entry row.entry) p.given) (target_entry b.history.rows n b.history.current)) navs
            ∙ ap (λ (o : Option Row). holds (λ (row : Row). holds (same_entry row.entry) p.given) o) (ap (λ (k : ℕ). target_entry b.history.rows nav k) (sym now) ∙ at_before)
            ∙ ap (λ (o : Option EntryId). holds (same_entry moved.wanted.target.entry) o) given
            ∙ same_entry_refl moved.wanted.target.entry;
      }
    where
      is : activated moved.job moved.entry moved.epoch moved.wanted.document old ≡ p
      is = place_is p there

      navs : p.nav ≡ nav
      navs = found_nav x.places nav p there

      given : p.given ≡ Some moved.wanted.target.entry
      given =
          ap (λ (q : Place). q.given) (sym is) ∙ ap (λ (n : EntryId). Some n) (sym moved.wanted.entry_is)

  -- a usable document is so after it
  shown_usable : (doc : DocId) (d : Document) (state : StateId) → document_of m doc ≡ Some d → is_usable d state ≡ true → IsUsableAt x doc state
  shown_usable =
      usable_sent m e.event e.actor moved.job (subst (λ (k : Task). DiscardsNone k) (sym moved.task) tt)

  shown_seats : KeepsSeats m x
  shown_seats =
      seats_sent m e.event e.actor moved.job (subst (λ (k : Task). ShowsEntry m moved.job.doc k) (sym moved.task) (λ d found. (moved.wanted.target, its.there, its.nav_is ∙ sym moved.wanted.nav_is ∙ ap (λ (x : Document). x.nav) (let both : Some moved.wanted.document ≡ Some d = sym moved.wanted.found ∙ found in let one : moved.wanted.document ≡ d = cc in one), moved.wanted.entry_is)))
    where
      its : IsTarget m.history.rows nav (aim_of m) moved.wanted.target
      its = target_has m.history.rows nav (aim_of m) moved.wanted.target moved.wanted.at

  -- ---- those before it

  puts_entry : (y : Seen) (doc : DocId) (task : Task) → PutsToSleep task → ShowsEntry y doc task
  puts_entry y doc tasks.Freeze puts = tt
  puts_entry y doc tasks.Discard puts = tt
  puts_entry y doc _ puts = absurd puts

  left_orders : HasOnly (IsOrderOf PutsToSleep) was moved.mid
  left_orders =
      only_as (IsLeaveFor moved.for_) (IsOrderOf PutsToSleep) was moved.mid (λ row it. record { job = it.job; is = it.is; task = it.puts }) moved.left

  left_seats : KeepsSeats b m
  left_seats =
      over_orders PutsToSleep asks_nobody (λ (y : Seen). KeepsSeats b y) (λ y event job puts so. seats_then b y (after y (row_of event (rows.Sent job))) so (seats_sent y event.event event.actor job (puts_entry y job.doc job.task puts))) e was moved.mid left_orders (seats_none b)

  -- ---- all of it

  moved_turn : IsCalmTurn b x nav place
  moved_turn =
      record {
        own = λ now p there. inr (put p there now);
        usable = λ none doc d state found usable. shown_usable doc d state (ap (λ (l : List RowKind). document_of (now_of e l) doc) (moved.first place placed (first none)) ∙ found) usable;
        target = λ row at doc d found usable. (moved.job.doc, shown_usable moved.job.doc moved.wanted.document row.state moved.wanted.found (ap (λ (r : Row). is_usable moved.wanted.document r.state) (its row at) ∙ moved.wanted.usable));
        seats = seats_then b m x left_seats shown_seats;
      }
    where
      its : (row : Row) → target_entry b.history.rows nav (aim_of b) ≡ Some row → row ≡ moved.wanted.target
      its row at = let both : Some row ≡ Some moved.wanted.target = sym at ∙ at_before in cc

  pub moved_calm : IsCalmTurn b (now_of e out) nav place
  moved_calm = subst (λ (y : Seen). IsCalmTurn b y nav place) (sym then_) moved_turn

-- ---- documents of loads

-- an order that discards none leaves each ongoing load its document
sent_loads : (e : InEvent) (was out : List RowKind) (job : Job) → out ≡ was ++ rows.Sent job ∷ [] → is_question job.task ≡ false → DiscardsNone job.task → LoadsHaveDocuments (now_of e was) → LoadsHaveDocuments (now_of e out)
sent_loads e was out job is quiet none are =
    subst (λ (l : List RowKind). LoadsHaveDocuments (now_of e l)) (sym is)
    (now_step LoadsHaveDocuments e was (rows.Sent job) (sent_goes e was job quiet) (λ were. loads_sent (now_of e was) e.event e.actor job (inl none) were) are)

pub made_loads : (header : Header) (t : Tables) (nav : NavId) (entry : EntryId) (cause : Why) (e : InEvent) (was out : List RowKind) → HasMade header t nav entry cause was out → LoadsHaveDocuments (now_of e was) → LoadsHaveDocuments (now_of e out)
made_loads header t nav entry cause e was out (inl making) are =
    subst (λ (l : List RowKind). LoadsHaveDocuments (now_of e l)) (sym making.1) are
made_loads header t nav entry cause e was out (inr made) are =
    sent_loads e was out made.job made.is (ap is_question made.task) (subst (λ (k : Task). DiscardsNone k) (sym made.task) tt) are

pub moved_loads : (e : InEvent) (nav : NavId) (was out : List RowKind) → HasBeenMoved e nav was out → LoadsHaveDocuments (now_of e was) → LoadsHaveDocuments (now_of e out)
moved_loads e nav was out moved are =
    sent_loads e moved.mid out moved.job moved.is (ap is_question moved.task) (subst (λ (k : Task). DiscardsNone k) (sym moved.task) tt) (moved.loading are)
