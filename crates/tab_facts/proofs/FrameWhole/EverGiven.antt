-- The entry that a navigable was given is one of those that it was ever given: so it is in every log.
use Rattle.seen_facts.proofs.Coord.Unread.{next}
use Rattle.tab_facts.specs.FrameWhole.Beside.{AreEverGiven, IsEverGiven}
use Rattle.seen_facts.specs.Hang.Members.{Has}
use Rattle.log_model.specs.After.{after}
use Rattle.log_model.specs.AfterPlaces.{activated, given_entry, is_taken_by, new_place, on_place, place_arrived, place_bereft, places_added, places_applied, places_delivered, places_given, places_sent, put_to_sleep, sleepers_below, sleepers_with, with_taker}
use Rattle.log_model.specs.Equal.{holds}
use Rattle.log_model.specs.History.{History, applied, has_nav, has_row}
use Rattle.log_model.specs.Places.{awake_document, holder_of, is_asleep}
use Rattle.log_model.specs.Seen.{Asked, Document, Place, Seen, asleep, desk_of, document_of, lost, place_of, request_of}
use Rattle.log_model.specs.declared.change.Change.{Change}
use Rattle.log_model.specs.declared.job.Job.{Job}
use Rattle.log_model.specs.declared.job.Task.{Task}
use Rattle.log_model.specs.declared.job.Why.{Why}
use Rattle.log_model.specs.declared.made.Made.{Made}
use Rattle.log_model.specs.declared.made.Report.{Report}
use Rattle.log_model.specs.declared.outcome.Outcome.{Outcome}
use Rattle.log_model.specs.declared.row_kind.Actor.{Actor}
use Rattle.log_model.specs.declared.row_kind.LogRow.{LogRow}
use Rattle.log_model.specs.declared.row_kind.RowKind.{RowKind}
use Rattle.seen_facts.proofs.Each.Eaches.{each_map, each_more}
use Rattle.seen_facts.specs.Each.Items.{Each}
use Rattle.seen_laws.proofs.Sums.{over}
use Rattle.std.proofs.Common.{Bool, List, None, Option, Some, [], cond, false, fold, inl, inr, length, map, not, refl, subst, true, ℕ, ◌&&◌, ◌++◌, ◌==◌, ◌∷◌, ◌≡◌}
use Rattle.std.specs.List.{list_any}
use Rattle.std.specs.Option.{option_map_or}
use Rattle.std.specs.Prelude.{option_and_then, slice_get}
use Rattle.tab_ids.specs.declared.Death.{Death}
use Rattle.tab_ids.specs.declared.EntryId.{EntryId}
use Rattle.tab_ids.specs.declared.NavId.{NavId}
use Rattle.tab_ids.specs.declared.ReqId.{ReqId}
use Rattle.log_model.specs.declared.change.Change.TheVariants as changes
use Rattle.log_model.specs.declared.job.Task.TheVariants as tasks
use Rattle.log_model.specs.declared.job.Why.TheVariants as whys
use Rattle.log_model.specs.declared.made.Report.TheVariants as reports
use Rattle.log_model.specs.declared.row_kind.RowKind.TheVariants as rows

pub each_has : {A : Type 0} (F : A → Type 0) (xs : List A) (x : A) → Each F xs → Has xs x → F x
each_has F [] x all has = absurd has
each_has F (y ∷ xs) x all (inl same) = subst F same all.0
each_has F (y ∷ xs) x all (inr more) = each_has F xs x all.1 more

-- ---- a change of a place

-- it stays so
abbrev StaysEver : (Place → Place) → Type 0
StaysEver f = (place : Place) → IsEverGiven place → IsEverGiven (f place)

given_ever : (entry : EntryId) → StaysEver (given_entry entry)
given_ever entry place is new same = inl (some_same same)
  where
    some_same : {A : Type 0} {a b : A} → (let o : Option A = Some a in o) ≡ Some b → a ≡ b
    some_same e = cc

if_ever : (test : Place → Bool) (f : Place → Place) → StaysEver f → StaysEver (λ (p : Place). cond (test p) (f p) p)
if_ever test f stays place is = elim (test place) as (λ b. IsEverGiven (let y : Place = cond b (f place) place in y)) [ true ↦ stays place is | false ↦ is ]

all_ever : (f : Place → Place) (places : List Place) → StaysEver f → Each IsEverGiven places → Each IsEverGiven (map f places)
all_ever f places stays all = each_map IsEverGiven IsEverGiven f places stays all

on_ever : (nav : NavId) (f : Place → Place) (places : List Place) → StaysEver f → Each IsEverGiven places → Each IsEverGiven (on_place nav f places)
on_ever nav f places stays all = all_ever (λ (p : Place). cond (p.nav.0 == nav.0) (f p) p) places (if_ever (λ (p : Place). p.nav.0 == nav.0) f stays) all

sleep_ever : (navs : List NavId) (why : Why) (places : List Place) → Each IsEverGiven places → Each IsEverGiven (put_to_sleep navs why places)
sleep_ever navs why places all = all_ever (λ (p : Place). cond (has_nav navs p.nav) (record p { status = asleep; why = why }) p) places (if_ever (λ (p : Place). has_nav navs p.nav) (λ (p : Place). record p { status = asleep; why = why }) (λ p is. is)) all

taker_ever : (old new : History) (req : ReqId) (places : List Place) → Each IsEverGiven places → Each IsEverGiven (with_taker old new req places)
taker_ever old new req places all = all_ever (λ (p : Place). cond (has_row p.nav old.rows && not (has_row p.nav new.rows)) (record p { taken_by = Some req }) p) places (if_ever (λ (p : Place). has_row p.nav old.rows && not (has_row p.nav new.rows)) (λ (p : Place). record p { taken_by = Some req }) (λ p is. is)) all

-- ---- the rows

module _ (s : Seen) (all : AreEverGiven s) where
  or_same : {A : Type 0} (f : A → List Place) (o : Option A) → ((x : A) → Each IsEverGiven (f x)) → Each IsEverGiven (option_map_or f o s.places)
  or_same f None each = all
  or_same f (Some x) each = each x

  sent_ever : (job : Job) (task : Task) → Each IsEverGiven (places_sent s job task)
  sent_ever job (tasks.Activate entry epoch length index memo address) =
      or_same (λ (d : Document). on_place d.nav (activated job entry epoch d) (put_to_sleep (option_map_or (sleepers_below s job.doc) (place_of s d.nav) []) job.why s.places)) (document_of s job.doc)
      (λ d. on_ever d.nav (activated job entry epoch d) (put_to_sleep (option_map_or (sleepers_below s job.doc) (place_of s d.nav) []) job.why s.places) (λ p is. given_ever entry p is) (sleep_ever (option_map_or (sleepers_below s job.doc) (place_of s d.nav) []) job.why s.places all))
  sent_ever job tasks.Freeze = sleep_ever (sleepers_with s job.doc) job.why s.places all
  sent_ever job tasks.Discard = sleep_ever (sleepers_with s job.doc) job.why s.places all
  sent_ever job (tasks.Populate nav state address initial) = all
  sent_ever job (tasks.Update length index) = all
  sent_ever job (tasks.Ask slot cause) = all
  sent_ever job (tasks.DoFragment req mode address) = all

  given_by : (req : ReqId) (nav : NavId) (entry : EntryId) → Each IsEverGiven (places_given s req nav entry)
  given_by req nav entry =
      or_same (λ (made : Made). on_place nav (given_entry entry) s.places) (option_and_then (λ (q : Asked). q.made) (request_of s req)) (λ made. on_ever nav (given_entry entry) s.places (given_ever entry) all)

  applied_ever : (req : ReqId) (change : Change) → Each IsEverGiven (places_applied s req change)
  applied_ever req (changes.Push nav entry state address memo) =
      taker_ever s.history (applied s.history (changes.Push nav entry state address memo)) req (places_given s req nav entry) (given_by req nav entry)
  applied_ever req (changes.Replace nav over entry state address memo) =
      taker_ever s.history (applied s.history (changes.Replace nav over entry state address memo)) req (places_given s req nav entry) (given_by req nav entry)
  applied_ever req (changes.AddFrame owner nav entry state) =
      taker_ever s.history (applied s.history (changes.AddFrame owner nav entry state)) req (places_added s req owner nav)
      (or_same (λ (parent : Place). s.places ++ new_place req nav owner parent ∷ []) (option_and_then (place_of s) (holder_of owner s.history.rows)) (λ parent. each_more IsEverGiven s.places (new_place req nav owner parent) all (λ e never. absurd cc)))
  applied_ever req (changes.Reload nav) =
      taker_ever s.history (applied s.history (changes.Reload nav)) req (on_place nav (λ (p : Place). record p { is_pending = true; is_unmet = true }) s.places) (on_ever nav (λ (p : Place). record p { is_pending = true; is_unmet = true }) s.places (λ p is. is) all)
  applied_ever req (changes.RemoveFrame nav) = taker_ever s.history (applied s.history (changes.RemoveFrame nav)) req s.places all
  applied_ever req (changes.Traverse goal) = taker_ever s.history (applied s.history (changes.Traverse goal)) req s.places all
  applied_ever req changes.Edit = taker_ever s.history (applied s.history changes.Edit) req s.places all

  bereft_ever : (death : Death) → StaysEver (place_bereft s death)
  bereft_ever death place is = by_test (list_any (λ (nav : NavId). holds (is_hit_ s death) (place_of s nav)) place.above && not (is_asleep place))
    where
      is_hit_ : Seen → Death → Place → Bool
      is_hit_ s death p = holds (is_taken_by s death) (awake_document p)

      lost_or : (b : Bool) → IsEverGiven (let y : Place = cond b (record place { status = lost; why = whys.Death death }) place in y)
      lost_or true = is
      lost_or false = is

      by_test : (b : Bool) → IsEverGiven (let y : Place = cond b (record place { status = asleep; why = whys.Death death }) (cond (holds (is_taken_by s death) (awake_document place)) (record place { status = lost; why = whys.Death death }) place) in y)
      by_test true = is
      by_test false = lost_or (holds (is_taken_by s death) (awake_document place))

  done_ever : (job : Job) (outcome : Outcome) (made : Option Made) (task : Task) → job.task ≡ task → Each IsEverGiven (places_delivered s (Some (reports.Done job outcome made)))
  done_ever job outcome made (tasks.Activate entry epoch length index memo address) e =
      rw e (or_same (λ (d : Document). on_place d.nav (place_arrived job) s.places) (document_of s job.doc) (λ d. on_ever d.nav (place_arrived job) s.places (λ p is. is) all))
  done_ever job outcome made tasks.Freeze e = rw e all
  done_ever job outcome made tasks.Discard e = rw e all
  done_ever job outcome made (tasks.Populate nav state address initial) e = rw e all
  done_ever job outcome made (tasks.Update length index) e = rw e all
  done_ever job outcome made (tasks.Ask slot cause) e = rw e all
  done_ever job outcome made (tasks.DoFragment req mode address) e = rw e all

  delivered_ever : (report : Option Report) → Each IsEverGiven (places_delivered s report)
  delivered_ever None = all
  delivered_ever (Some (reports.Made made)) = all
  delivered_ever (Some (reports.Done job outcome made)) = done_ever job outcome made job.task refl
  delivered_ever (Some (reports.Died death)) = all_ever (place_bereft s death) s.places (bereft_ever death) all

  -- so it is after each row
  pub ever_after : (event : ℕ) (actor : Actor) (kind : RowKind) → AreEverGiven (next s event actor kind)
  ever_after event actor (rows.Opened entry state doc proc slot address) = ((λ e same. inl (let one : entry ≡ e = cc in one)), tt)
  ever_after event actor (rows.Applied req change) = applied_ever req change
  ever_after event actor (rows.Sent job) = sent_ever job job.task
  ever_after event actor (rows.Delivered proc) = delivered_ever (slice_get (desk_of s proc).reports 0)
  ever_after event actor (rows.Accepted req doc what) = all
  ever_after event actor (rows.Started req goal) = all
  ever_after event actor (rows.Refused req reason) = all
  ever_after event actor (rows.Dropped req cause) = all
  ever_after event actor (rows.Prompted req doc) = all
  ever_after event actor (rows.Answered req stay) = all
  ever_after event actor (rows.Evicted state) = all
  ever_after event actor (rows.Killed proc death) = all
  ever_after event actor (rows.Taken proc job live dirty) = all
  ever_after event actor (rows.Finished proc job outcome) = all
  ever_after event actor (rows.Made proc made) = all

-- and so in every log
pub ever_on : (log : List LogRow) (s : Seen) → AreEverGiven s → AreEverGiven (fold after s log)
ever_on [] s all = all
ever_on (row ∷ log) s all = ever_on log (after s row) (ever_after s all row.event row.actor row.row)
