-- Who has a place keeps it over each row but the opening.
use Rattle.seen_facts.proofs.Coord.Unread.{next}
use Rattle.tab_facts.proofs.Frame.Parts.{find_front}
use Rattle.tab_facts.specs.FrameTab.Alive.{HasPlace}
use Rattle.log_model.specs.AfterPlaces.{activated, given_entry, is_taken_by, new_place, on_place, place_arrived, place_bereft, places_added, places_applied, places_delivered, places_given, places_sent, put_to_sleep, sleepers_below, sleepers_with, with_taker}
use Rattle.log_model.specs.Equal.{holds}
use Rattle.log_model.specs.History.{History, applied, has_nav, has_row}
use Rattle.log_model.specs.Places.{awake_document, holder_of, is_asleep}
use Rattle.log_model.specs.Seen.{Asked, Document, Place, Seen, asleep, desk_of, document_of, lost, place_of, request_of}
use Rattle.log_model.specs.declared.change.Change.{Change}
use Rattle.log_model.specs.declared.job.Job.{Job}
use Rattle.log_model.specs.declared.job.Task.{Task}
use Rattle.log_model.specs.declared.job.Why.{Why}
use Rattle.log_model.specs.declared.made.Made.{Made}
use Rattle.log_model.specs.declared.made.Report.{Report}
use Rattle.log_model.specs.declared.outcome.Outcome.{Outcome}
use Rattle.log_model.specs.declared.row_kind.Actor.{Actor}
use Rattle.log_model.specs.declared.row_kind.RowKind.{RowKind}
use Rattle.seen_laws.proofs.Keyed.{find_map}
use Rattle.std.proofs.Common.{Bool, List, None, Option, Some, [], ap, cond, false, map, not, refl, true, ℕ, ◌&&◌, ◌++◌, ◌==◌, ◌∙◌, ◌∷◌, ◌≡◌}
use Rattle.std.specs.List.{list_any}
use Rattle.std.specs.Option.{option_map_or}
use Rattle.std.specs.Prelude.{option_and_then, option_map, slice_get}
use Rattle.tab_ids.specs.declared.Death.{Death}
use Rattle.tab_ids.specs.declared.EntryId.{EntryId}
use Rattle.tab_ids.specs.declared.NavId.{NavId}
use Rattle.tab_ids.specs.declared.ReqId.{ReqId}
use Rattle.log_model.specs.declared.change.Change.TheVariants as changes
use Rattle.log_model.specs.declared.job.Task.TheVariants as tasks
use Rattle.log_model.specs.declared.job.Why.TheVariants as whys
use Rattle.log_model.specs.declared.made.Report.TheVariants as reports
use Rattle.log_model.specs.declared.row_kind.RowKind.TheVariants as rows

-- each navigable that has a place has one still
abbrev pub KeepPlaces : List Place → List Place → Type 0
KeepPlaces places next = (nav : NavId) → HasPlace places nav → HasPlace next nav

-- ---- a change of places

-- it leaves the number
abbrev KeepsNav : (Place → Place) → Type 0
KeepsNav f = (p : Place) → (f p).nav ≡ p.nav

all_kept : (f : Place → Place) (places : List Place) → KeepsNav f → KeepPlaces places (map f places)
all_kept f places same nav has =
    record {
      place = f has.place;
      found = find_map (λ (p : Place). p.nav.0) f nav.0 places (λ p. ap (λ (n : NavId). n.0) (same p)) ∙ ap (λ (o : Option Place). option_map f o) has.found;
    }

if_kept : (test : Place → Bool) (f : Place → Place) → KeepsNav f → KeepsNav (λ (p : Place). cond (test p) (f p) p)
if_kept test f same p = elim (test p) as (λ b. (let y : Place = cond b (f p) p in y).nav ≡ p.nav) [ true ↦ same p | false ↦ refl ]

on_kept : (nav : NavId) (f : Place → Place) (places : List Place) → KeepsNav f → KeepPlaces places (on_place nav f places)
on_kept nav f places same =
    all_kept (λ (p : Place). cond (p.nav.0 == nav.0) (f p) p) places (if_kept (λ (p : Place). p.nav.0 == nav.0) f same)

sleep_kept : (navs : List NavId) (why : Why) (places : List Place) → KeepPlaces places (put_to_sleep navs why places)
sleep_kept navs why places =
    all_kept (λ (p : Place). cond (has_nav navs p.nav) (record p { status = asleep; why = why }) p) places (if_kept (λ (p : Place). has_nav navs p.nav) (λ (p : Place). record p { status = asleep; why = why }) (λ p. refl))

taker_kept : (old new : History) (req : ReqId) (places : List Place) → KeepPlaces places (with_taker old new req places)
taker_kept old new req places =
    all_kept (λ (p : Place). cond (has_row p.nav old.rows && not (has_row p.nav new.rows)) (record p { taken_by = Some req }) p) places (if_kept (λ (p : Place). has_row p.nav old.rows && not (has_row p.nav new.rows)) (λ (p : Place). record p { taken_by = Some req }) (λ p. refl))

then_kept : (a b c : List Place) → KeepPlaces a b → KeepPlaces b c → KeepPlaces a c
then_kept a b c first then_ nav has = then_ nav (first nav has)

-- ---- the rows

module _ (s : Seen) where
  or_same : {A : Type 0} (f : A → List Place) (o : Option A) → ((x : A) → KeepPlaces s.places (f x)) → KeepPlaces s.places (option_map_or f o s.places)
  or_same f None each nav has = has
  or_same f (Some x) each nav has = each x nav has

  sent_kept : (job : Job) (task : Task) → KeepPlaces s.places (places_sent s job task)
  sent_kept job (tasks.Activate entry epoch length index memo address) =
      or_same (λ (d : Document). on_place d.nav (activated job entry epoch d) (put_to_sleep (option_map_or (sleepers_below s job.doc) (place_of s d.nav) []) job.why s.places)) (document_of s job.doc)
      (λ d. then_kept s.places (put_to_sleep (option_map_or (sleepers_below s job.doc) (place_of s d.nav) []) job.why s.places) (on_place d.nav (activated job entry epoch d) (put_to_sleep (option_map_or (sleepers_below s job.doc) (place_of s d.nav) []) job.why s.places)) (sleep_kept (option_map_or (sleepers_below s job.doc) (place_of s d.nav) []) job.why s.places) (on_kept d.nav (activated job entry epoch d) (put_to_sleep (option_map_or (sleepers_below s job.doc) (place_of s d.nav) []) job.why s.places) (λ p. refl)))
  sent_kept job tasks.Freeze = sleep_kept (sleepers_with s job.doc) job.why s.places
  sent_kept job tasks.Discard = sleep_kept (sleepers_with s job.doc) job.why s.places
  sent_kept job (tasks.Populate nav state address initial) = λ n has. has
  sent_kept job (tasks.Update length index) = λ n has. has
  sent_kept job (tasks.Ask slot cause) = λ n has. has
  sent_kept job (tasks.DoFragment req mode address) = λ n has. has

  given_kept : (req : ReqId) (nav : NavId) (entry : EntryId) → KeepPlaces s.places (places_given s req nav entry)
  given_kept req nav entry =
      or_same (λ (made : Made). on_place nav (given_entry entry) s.places) (option_and_then (λ (q : Asked). q.made) (request_of s req)) (λ made. on_kept nav (given_entry entry) s.places (λ p. refl))

  more_kept : (new : Place) → KeepPlaces s.places (s.places ++ new ∷ [])
  more_kept new nav has =
      record { place = has.place; found = find_front (λ (p : Place). p.nav.0 == nav.0) s.places (new ∷ []) has.place has.found }

  applied_kept : (req : ReqId) (change : Change) → KeepPlaces s.places (places_applied s req change)
  applied_kept req (changes.Push nav entry state address memo) =
      then_kept s.places (places_given s req nav entry) (places_applied s req (changes.Push nav entry state address memo)) (given_kept req nav entry) (taker_kept s.history (applied s.history (changes.Push nav entry state address memo)) req (places_given s req nav entry))
  applied_kept req (changes.Replace nav over entry state address memo) =
      then_kept s.places (places_given s req nav entry) (places_applied s req (changes.Replace nav over entry state address memo)) (given_kept req nav entry) (taker_kept s.history (applied s.history (changes.Replace nav over entry state address memo)) req (places_given s req nav entry))
  applied_kept req (changes.AddFrame owner nav entry state) =
      then_kept s.places (places_added s req owner nav) (places_applied s req (changes.AddFrame owner nav entry state))
      (or_same (λ (parent : Place). s.places ++ new_place req nav owner parent ∷ []) (option_and_then (place_of s) (holder_of owner s.history.rows)) (λ parent. more_kept (new_place req nav owner parent)))
      (taker_kept s.history (applied s.history (changes.AddFrame owner nav entry state)) req (places_added s req owner nav))
  applied_kept req (changes.Reload nav) =
      then_kept s.places (on_place nav (λ (p : Place). record p { is_pending = true; is_unmet = true }) s.places) (places_applied s req (changes.Reload nav)) (on_kept nav (λ (p : Place). record p { is_pending = true; is_unmet = true }) s.places (λ p. refl)) (taker_kept s.history (applied s.history (changes.Reload nav)) req (on_place nav (λ (p : Place). record p { is_pending = true; is_unmet = true }) s.places))
  applied_kept req (changes.RemoveFrame nav) = taker_kept s.history (applied s.history (changes.RemoveFrame nav)) req s.places
  applied_kept req (changes.Traverse goal) = taker_kept s.history (applied s.history (changes.Traverse goal)) req s.places
  applied_kept req changes.Edit = taker_kept s.history (applied s.history changes.Edit) req s.places

  bereft_kept : (death : Death) → KeepsNav (place_bereft s death)
  bereft_kept death place = by_test (list_any (λ (nav : NavId). holds (is_hit_ s death) (place_of s nav)) place.above && not (is_asleep place))
    where
      is_hit_ : Seen → Death → Place → Bool
      is_hit_ s death p = holds (is_taken_by s death) (awake_document p)

      lost_or : (b : Bool) → (let y : Place = cond b (record place { status = lost; why = whys.Death death }) place in y).nav ≡ place.nav
      lost_or true = refl
      lost_or false = refl

      by_test : (b : Bool) → (let y : Place = cond b (record place { status = asleep; why = whys.Death death }) (cond (holds (is_taken_by s death) (awake_document place)) (record place { status = lost; why = whys.Death death }) place) in y).nav ≡ place.nav
      by_test true = refl
      by_test false = lost_or (holds (is_taken_by s death) (awake_document place))

  done_kept : (job : Job) (outcome : Outcome) (made : Option Made) (task : Task) → job.task ≡ task → KeepPlaces s.places (places_delivered s (Some (reports.Done job outcome made)))
  done_kept job outcome made (tasks.Activate entry epoch length index memo address) e =
      rw e (or_same (λ (d : Document). on_place d.nav (place_arrived job) s.places) (document_of s job.doc) (λ d. on_kept d.nav (place_arrived job) s.places (λ p. refl)))
  done_kept job outcome made tasks.Freeze e = rw e (λ n has. has)
  done_kept job outcome made tasks.Discard e = rw e (λ n has. has)
  done_kept job outcome made (tasks.Populate nav state address initial) e = rw e (λ n has. has)
  done_kept job outcome made (tasks.Update length index) e = rw e (λ n has. has)
  done_kept job outcome made (tasks.Ask slot cause) e = rw e (λ n has. has)
  done_kept job outcome made (tasks.DoFragment req mode address) e = rw e (λ n has. has)

  delivered_kept : (report : Option Report) → KeepPlaces s.places (places_delivered s report)
  delivered_kept None n has = has
  delivered_kept (Some (reports.Made made)) n has = has
  delivered_kept (Some (reports.Done job outcome made)) n has = done_kept job outcome made job.task refl n has
  delivered_kept (Some (reports.Died death)) n has = all_kept (place_bereft s death) s.places (bereft_kept death) n has

  -- the row opens no tab
  abbrev pub IsLater : RowKind → Type 0
  IsLater (rows.Opened entry state doc proc slot address) = ⊥
  IsLater _ = Unit {0}

  pub places_keep : (event : ℕ) (actor : Actor) (kind : RowKind) → IsLater kind → KeepPlaces s.places (next s event actor kind).places
  places_keep event actor (rows.Opened entry state doc proc slot address) never = absurd never
  places_keep event actor (rows.Applied req change) later = applied_kept req change
  places_keep event actor (rows.Sent job) later = sent_kept job job.task
  places_keep event actor (rows.Delivered proc) later = delivered_kept (slice_get (desk_of s proc).reports 0)
  places_keep event actor (rows.Accepted req doc what) later = λ n has. has
  places_keep event actor (rows.Started req goal) later = λ n has. has
  places_keep event actor (rows.Refused req reason) later = λ n has. has
  places_keep event actor (rows.Dropped req cause) later = λ n has. has
  places_keep event actor (rows.Prompted req doc) later = λ n has. has
  places_keep event actor (rows.Answered req stay) later = λ n has. has
  places_keep event actor (rows.Evicted state) later = λ n has. has
  places_keep event actor (rows.Killed proc death) later = λ n has. has
  places_keep event actor (rows.Taken proc job live dirty) later = λ n has. has
  places_keep event actor (rows.Finished proc job outcome) later = λ n has. has
  places_keep event actor (rows.Made proc made) later = λ n has. has
