-- A navigable that was shown a document in an event doesn't stand as the event ends: its report comes later.
use Rattle.std.proofs.Common.{◌≡◌, ℕ, Bool, true, false, not, ◌&&◌, ◌==◌, cond, List, [], ◌∷◌, ◌++◌, Option, Some, None, fold, map, refl, ap}
use Rattle.std.specs.List.{list_all}
use Rattle.std.specs.Option.{option_map_or}
use Rattle.std.specs.Prelude.{option_and_then}
use Rattle.std.proofs.lemmas.Bool.{and_parts}
use Rattle.tab_ids.specs.declared.EntryId.{EntryId}
use Rattle.tab_ids.specs.declared.Epoch.{Epoch}
use Rattle.tab_ids.specs.declared.NavId.{NavId}
use Rattle.tab_ids.specs.declared.ReqId.{ReqId}
use Rattle.log_model.specs.After.{after}
use Rattle.log_model.specs.AfterPlaces.{activated, given_entry, new_place, on_place, places_after, places_applied, places_sent, put_to_sleep, sleepers_below, sleepers_with, with_taker}
use Rattle.log_model.specs.Equal.{holds}
use Rattle.log_model.specs.History.{History, applied, has_nav, has_row}
use Rattle.log_model.specs.Places.{has_arrived, holder_of}
use Rattle.log_model.specs.Seen.{Asked, Document, Place, Seen, asleep, document_of, place_in, place_of, request_of}
use Rattle.log_model.specs.declared.change.Change.{Change}
use Rattle.log_model.specs.declared.job.Job.{Job}
use Rattle.log_model.specs.declared.job.Task.{Task}
use Rattle.log_model.specs.declared.job.Why.{Why}
use Rattle.log_model.specs.declared.made.Made.{Made}
use Rattle.log_model.specs.declared.row_kind.Actor.{Actor}
use Rattle.log_model.specs.declared.row_kind.LogRow.{LogRow}
use Rattle.log_model.specs.declared.row_kind.RowKind.{RowKind}
use Rattle.log_model.specs.declared.change.Change.TheVariants as changes
use Rattle.log_model.specs.declared.job.Task.TheVariants as tasks
use Rattle.log_model.specs.declared.row_kind.RowKind.TheVariants as rows
use Rattle.seen_facts.specs.LoadEnds.Standing.{is_off, is_unarrived, takes_no_report}
use Rattle.seen_facts.proofs.LoadEnds.Ends.{unarrived_off}

-- ---- in a list of places

-- the navigable has a place among these, and hasn't arrived
abbrev waits : List Place → NavId → Bool
waits places nav = holds (λ place. not (has_arrived place)) (place_in places nav)

-- the change leaves the navigable, and what hasn't arrived
record Waits (f : Place → Place) : Type 0 where
  nav : (p : Place) → (f p).nav.0 ≡ p.nav.0
  more : (p : Place) → not (has_arrived p) ≡ true → not (has_arrived (f p)) ≡ true

on_each : (f : Place → Place) → Waits f → (places : List Place) (nav : NavId) → waits places nav ≡ true → waits (map f places) nav ≡ true
on_each f w [] nav is = is
on_each f w (p ∷ places) nav is =
    let same : ((f p).nav.0 == nav.0) ≡ (p.nav.0 == nav.0) = ap (λ (n : ℕ). n == nav.0) (w.nav p) in
    rw same (by_test (p.nav.0 == nav.0) (on_each f w places nav) is)
  where
    by_test : (b : Bool) → (waits places nav ≡ true → waits (map f places) nav ≡ true) → holds (λ place. not (has_arrived place)) (cond b (Some p) (place_in places nav)) ≡ true → holds (λ place. not (has_arrived place)) (cond b (Some (f p)) (place_in (map f places) nav)) ≡ true
    by_test true so is = w.more p is
    by_test false so is = so is

-- a change of some
on_some : (test : Place → Bool) (f : Place → Place) → Waits f → Waits (λ (p : Place). cond (test p) (f p) p)
on_some test f w = record { nav = λ p. nav_by p (test p); more = λ p. more_by p (test p) }
  where
    nav_by : (p : Place) (b : Bool) → (cond b (f p) p).nav.0 ≡ p.nav.0
    nav_by p true = w.nav p
    nav_by p false = refl

    more_by : (p : Place) (b : Bool) → not (has_arrived p) ≡ true → not (has_arrived (cond b (f p) p)) ≡ true
    more_by p true is = w.more p is
    more_by p false is = is

one_more : (places : List Place) (new : Place) (nav : NavId) → waits places nav ≡ true → waits (places ++ new ∷ []) nav ≡ true
one_more [] new nav is = cc
one_more (p ∷ places) new nav is = by_test (p.nav.0 == nav.0) (one_more places new nav) is
  where
    by_test : (b : Bool) → (waits places nav ≡ true → waits (places ++ new ∷ []) nav ≡ true) → holds (λ place. not (has_arrived place)) (cond b (Some p) (place_in places nav)) ≡ true → holds (λ place. not (has_arrived place)) (cond b (Some p) (place_in (places ++ new ∷ []) nav)) ≡ true
    by_test true so is = is
    by_test false so is = so is

-- a change that leaves navigables leaves each its place
still_there : (f : Place → Place) → ((p : Place) → (f p).nav.0 ≡ p.nav.0) → (places : List Place) (nav : NavId) (place : Place) → place_in places nav ≡ Some place → (p : Place) × (place_in (map f places) nav ≡ Some p)
still_there f keeps [] nav place here = cc
still_there f keeps (q ∷ places) nav place here =
    let same : ((f q).nav.0 == nav.0) ≡ (q.nav.0 == nav.0) = ap (λ (n : ℕ). n == nav.0) (keeps q) in
    by_test (q.nav.0 == nav.0) same (still_there f keeps places nav place) here
  where
    by_test : (b : Bool) → ((f q).nav.0 == nav.0) ≡ b → (place_in places nav ≡ Some place → (p : Place) × (place_in (map f places) nav ≡ Some p)) → cond b (Some q) (place_in places nav) ≡ Some place → (p : Place) × (place_in (f q ∷ map f places) nav ≡ Some p)
    by_test true same more is = (f q, rw same refl)
    by_test false same more is = let found = more is in (found.0, rw same found.1)

-- one that falls asleep hasn't arrived
slept : (navs : List NavId) (why : Why) (places : List Place) (nav : NavId) → waits places nav ≡ true → waits (put_to_sleep navs why places) nav ≡ true
slept navs why places =
    on_each _ (on_some (λ (p : Place). has_nav navs p.nav) (λ (p : Place). record p { status = asleep; why = why }) (record { nav = λ p. refl; more = λ p is. refl })) places

-- nor has one that is shown a document
shown : (job : Job) (entry : EntryId) (epoch : Epoch) (d : Document) (nav : NavId) (places : List Place) (other : NavId) → waits places other ≡ true → waits (on_place nav (activated job entry epoch d) places) other ≡ true
shown job entry epoch d nav places =
    on_each _ (on_some (λ (p : Place). p.nav.0 == nav.0) (activated job entry epoch d) (record { nav = λ p. refl; more = λ p is. refl })) places

-- ---- over a row

module _ (s : Seen) (nav : NavId) (is : is_unarrived s nav ≡ true) where
  sent_waits : (job : Job) (task : Task) → waits (places_sent s job task) nav ≡ true
  sent_waits job (tasks.Activate entry epoch length index memo address) = by_document (document_of s job.doc)
    where
      by_document : (o : Option Document) → waits (option_map_or (λ (d : Document). on_place d.nav (activated job entry epoch d) (put_to_sleep (option_map_or (sleepers_below s job.doc) (place_of s d.nav) []) job.why s.places)) o s.places) nav ≡ true
      by_document None = is
      by_document (Some d) =
          shown job entry epoch d d.nav (put_to_sleep (option_map_or (sleepers_below s job.doc) (place_of s d.nav) []) job.why s.places) nav (slept (option_map_or (sleepers_below s job.doc) (place_of s d.nav) []) job.why s.places nav is)
  sent_waits job tasks.Freeze = slept (sleepers_with s job.doc) job.why s.places nav is
  sent_waits job tasks.Discard = slept (sleepers_with s job.doc) job.why s.places nav is
  sent_waits job (tasks.Populate n state address initial) = is
  sent_waits job (tasks.Update length index) = is
  sent_waits job (tasks.Ask slot cause) = is
  sent_waits job (tasks.DoFragment req mode address) = is

  taken_waits : (old new : History) (req : ReqId) (places : List Place) → waits places nav ≡ true → waits (with_taker old new req places) nav ≡ true
  taken_waits old new req places =
      on_each _ (on_some (λ (p : Place). has_row p.nav old.rows && not (has_row p.nav new.rows)) (λ (p : Place). record p { taken_by = Some req }) (record { nav = λ p. refl; more = λ p is. is })) places nav

  given_waits : (n : NavId) (entry : EntryId) (o : Option Made) → waits (option_map_or (λ made. on_place n (given_entry entry) s.places) o s.places) nav ≡ true
  given_waits n entry None = is
  given_waits n entry (Some made) =
      on_each _ (on_some (λ (p : Place). p.nav.0 == n.0) (given_entry entry) (record { nav = λ p. refl; more = λ p is. is })) s.places nav is

  applied_waits : (req : ReqId) (change : Change) → waits (places_applied s req change) nav ≡ true
  applied_waits req (changes.Push n entry state address memo) =
      taken_waits s.history (applied s.history (changes.Push n entry state address memo)) req _ (given_waits n entry (option_and_then (λ (q : Asked). q.made) (request_of s req)))
  applied_waits req (changes.Replace n over entry state address memo) =
      taken_waits s.history (applied s.history (changes.Replace n over entry state address memo)) req _ (given_waits n entry (option_and_then (λ (q : Asked). q.made) (request_of s req)))
  applied_waits req (changes.AddFrame owner n entry state) =
      taken_waits s.history (applied s.history (changes.AddFrame owner n entry state)) req _ (by_parent (option_and_then (place_of s) (holder_of owner s.history.rows)))
    where
      by_parent : (o : Option Place) → waits (option_map_or (λ parent. s.places ++ new_place req n owner parent ∷ []) o s.places) nav ≡ true
      by_parent None = is
      by_parent (Some parent) = one_more s.places (new_place req n owner parent) nav is
  applied_waits req (changes.Reload n) =
      taken_waits s.history (applied s.history (changes.Reload n)) req _ (on_each _ (on_some (λ (p : Place). p.nav.0 == n.0) (λ (p : Place). record p { is_pending = true; is_unmet = true }) (record { nav = λ p. refl; more = λ p is. is })) s.places nav is)
  applied_waits req (changes.RemoveFrame n) = taken_waits s.history (applied s.history (changes.RemoveFrame n)) req s.places is
  applied_waits req (changes.Traverse goal) = taken_waits s.history (applied s.history (changes.Traverse goal)) req s.places is
  applied_waits req changes.Edit = taken_waits s.history (applied s.history changes.Edit) req s.places is

  kind_waits : (event : ℕ) (actor : Actor) (kind : RowKind) → takes_no_report (record { event = event; actor = actor; row = kind }) ≡ true → waits (places_after s kind) nav ≡ true
  kind_waits event actor (rows.Sent job) none = sent_waits job job.task
  kind_waits event actor (rows.Applied req change) none = applied_waits req change
  kind_waits event actor (rows.Opened entry state doc proc slot address) none = cc
  kind_waits event actor (rows.Delivered proc) none = cc
  kind_waits event actor (rows.Accepted req doc what) none = is
  kind_waits event actor (rows.Started req goal) none = is
  kind_waits event actor (rows.Refused req reason) none = is
  kind_waits event actor (rows.Dropped req cause) none = is
  kind_waits event actor (rows.Prompted req doc) none = is
  kind_waits event actor (rows.Answered req stay) none = is
  kind_waits event actor (rows.Taken proc job live dirty) none = is
  kind_waits event actor (rows.Finished proc job outcome) none = is
  kind_waits event actor (rows.Made proc made) none = is
  kind_waits event actor (rows.Killed proc death) none = is
  kind_waits event actor (rows.Evicted state) none = is

  -- a navigable that hasn't arrived hasn't after a row that takes no report
  pub row_unarrived : (row : LogRow) → takes_no_report row ≡ true → is_unarrived (after s row) nav ≡ true
  row_unarrived row none = kind_waits row.event row.actor row.row none

-- ---- over the rest of an event

-- nor after more such rows
pub later_unarrived : (rows_ : List LogRow) (s : Seen) (nav : NavId) → list_all takes_no_report rows_ ≡ true → is_unarrived s nav ≡ true → is_unarrived (fold after s rows_) nav ≡ true
later_unarrived [] s nav none is = is
later_unarrived (row ∷ rows_) s nav none is =
    let parts = and_parts (takes_no_report row) (list_all takes_no_report rows_) none in
    later_unarrived rows_ (after s row) nav parts.1 (row_unarrived s nav is row parts.0)

-- one that hasn't arrived doesn't stand
pub unarrived_is_off : (e : Seen) (nav : NavId) → is_unarrived e nav ≡ true → is_off e nav ≡ true
unarrived_is_off e nav is = by_place (place_of e nav) refl is
  where
    by_place : (o : Option Place) → place_of e nav ≡ o → holds (λ place. not (has_arrived place)) o ≡ true → is_off e nav ≡ true
    by_place None at is = cc
    by_place (Some place) at is = unarrived_off e nav place at (unarrived (has_arrived place) is)
      where
        unarrived : (b : Bool) → not b ≡ true → b ≡ false
        unarrived true is = cc
        unarrived false is = refl

-- a navigable that is shown a document hasn't arrived
pub shown_unarrived : (s : Seen) (event : ℕ) (actor : Actor) (job : Job) (entry : EntryId) (epoch : Epoch) (length index : ℕ) (memo : Option (List ℕ)) (address : List ℕ) (d : Document) (place : Place) → job.task ≡ tasks.Activate entry epoch length index memo address → document_of s job.doc ≡ Some d → place_of s d.nav ≡ Some place → is_unarrived (after s (record { event = event; actor = actor; row = rows.Sent job })) d.nav ≡ true
shown_unarrived s event actor job entry epoch length index memo address d place task found at =
    rw (task, found) (by_places (put_to_sleep (option_map_or (sleepers_below s job.doc) (place_of s d.nav) []) job.why s.places) (still_there _ (λ q. nav_by q (has_nav navs q.nav)) s.places d.nav place at))
  where
    navs : List NavId
    navs = option_map_or (sleepers_below s job.doc) (place_of s d.nav) []

    nav_by : (q : Place) (b : Bool) → (cond b (record q { status = asleep; why = job.why }) q).nav.0 ≡ q.nav.0
    nav_by q true = refl
    nav_by q false = refl

    by_places : (places : List Place) → (p : Place) × (place_in places d.nav ≡ Some p) → waits (on_place d.nav (activated job entry epoch d) places) d.nav ≡ true
    by_places [] (p, here) = cc
    by_places (q ∷ places) (p, here) = by_test (q.nav.0 == d.nav.0) refl (λ more. by_places places (p, more)) here
      where
        by_test : (b : Bool) → (q.nav.0 == d.nav.0) ≡ b → (place_in places d.nav ≡ Some p → waits (on_place d.nav (activated job entry epoch d) places) d.nav ≡ true) → cond b (Some q) (place_in places d.nav) ≡ Some p → waits (on_place d.nav (activated job entry epoch d) (q ∷ places)) d.nav ≡ true
        by_test true same more is = rw (same, same) refl
        by_test false same more is = rw (same, same) (more is)
