-- How each row of a log changes where the navigables stand, and which documents are kept for traversal.
-- This project's own; a kept document is the HTML Standard's "Documents kept for traversal": one that is not fully active and may be shown again.
use Rattle.std.specs.Prelude.{Bool, true, false, not, ◌&&◌, ◌||◌, ◌==◌, List, [], ◌∷◌, ◌++◌, map, filter, slice_get, Option, Some, None, option_and_then, if◌then◌else◌}
use Rattle.std.specs.List.{list_any}
use Rattle.std.specs.Option.{option_map_or}
use Rattle.tab_ids.specs.declared.NavId.{NavId}
use Rattle.tab_ids.specs.declared.StateId.{StateId}
use Rattle.tab_ids.specs.declared.DocId.{DocId}
use Rattle.tab_ids.specs.declared.JobId.{JobId}
use Rattle.tab_ids.specs.declared.EntryId.{EntryId}
use Rattle.tab_ids.specs.declared.Epoch.{Epoch}
use Rattle.tab_ids.specs.declared.ReqId.{ReqId}
use Rattle.tab_ids.specs.declared.Death.{Death}
use Rattle.log_model.specs.declared.change.Change.{Change}
use Rattle.log_model.specs.declared.change.Change.TheVariants as changes
use Rattle.log_model.specs.declared.job.Job.{Job}
use Rattle.log_model.specs.declared.job.Task.{Task}
use Rattle.log_model.specs.declared.job.Task.TheVariants as tasks
use Rattle.log_model.specs.declared.job.Why.{Why}
use Rattle.log_model.specs.declared.job.Why.TheVariants as whys
use Rattle.log_model.specs.declared.made.Report.{Report}
use Rattle.log_model.specs.declared.made.Report.TheVariants as reports
use Rattle.log_model.specs.declared.row_kind.RowKind.{RowKind}
use Rattle.log_model.specs.declared.row_kind.RowKind.TheVariants as rows
use Rattle.log_model.specs.Equal.{holds}
use Rattle.log_model.specs.History.{History, has_nav, has_row, applied}
use Rattle.log_model.specs.Seen.{Seen, Document, Asked, Place, awake, lost, asleep, document_of, desk_of, request_of, place_of}
use Rattle.log_model.specs.Places.{top, is_asleep, awake_document, shower_of, is_below, is_gone, holder_of}

-- ---- what is read of the rows

-- the report that a row takes from a process
abbrev pub report_taken : Seen → RowKind → Option Report
report_taken s (rows.Delivered proc) = slice_get (desk_of s proc).reports 0
report_taken s _ = None

-- the document is dead by the death
abbrev pub is_dead_by : Death → Document → Bool
is_dead_by death d = holds (λ (by : Death). by.0 == death.0) d.dead_by

-- the document of a number is dead by the death
abbrev pub is_taken_by : Seen → Death → DocId → Bool
is_taken_by s death doc = holds (is_dead_by death) (document_of s doc)

-- the numbers of the places that pass a test
abbrev pub navs_where : (Place → Bool) → List Place → List NavId
navs_where test places = map (λ (place : Place). place.nav) (filter test places)

-- ---- who falls asleep

-- the navigables below one that aren't asleep
abbrev pub woken_below : Seen → NavId → List NavId
woken_below s nav = navs_where (λ place. is_below nav place && not (is_asleep place)) s.places

-- a navigable that is shown another document than before puts those below it to sleep
abbrev pub sleepers_below : Seen → DocId → Place → List NavId
sleepers_below s doc place =
    if holds (λ (last : DocId). last.0 == doc.0) place.last then [] else woken_below s place.nav

-- the navigable that is awake on a document falls asleep with those below it
abbrev pub sleepers_with : Seen → DocId → List NavId
sleepers_with s doc = option_map_or (λ (place : Place). place.nav ∷ woken_below s place.nav) (shower_of s doc) []

-- ---- the places

-- the place of the top as the tab opens: awake on the first document
abbrev pub opening_place : EntryId → DocId → Place
opening_place entry doc =
    record {
      nav = top;
      above = [];
      owners = [];
      status = awake doc;
      epoch = record { 0 = 1 };
      given = Some entry;
      why = whys.Start;
      last = Some doc;
      last_job = None;
      is_delivered = true;
      was_activated = true;
      added_by = None;
      taken_by = None;
      is_pending = false;
      is_unmet = false;
      ever_given = entry ∷ [];
      ever_awake = doc ∷ [];
    }

-- the place of a new child navigable: asleep, for the request that added it
abbrev pub new_place : ReqId → NavId → StateId → Place → Place
new_place req nav owner parent =
    record {
      nav = nav;
      above = parent.nav ∷ parent.above;
      owners = owner ∷ parent.owners;
      status = asleep;
      epoch = record { 0 = 0 };
      given = None;
      why = whys.Req req;
      last = None;
      last_job = None;
      is_delivered = false;
      was_activated = false;
      added_by = Some req;
      taken_by = None;
      is_pending = false;
      is_unmet = false;
      ever_given = [];
      ever_awake = [];
    }

-- the places with that of one navigable changed
abbrev pub on_place : NavId → (Place → Place) → List Place → List Place
on_place nav f places = map (λ (place : Place). if place.nav.0 == nav.0 then f place else place) places

-- these navigables fall asleep, for a reason
abbrev pub put_to_sleep : List NavId → Why → List Place → List Place
put_to_sleep navs why places =
    map (λ (place : Place). if has_nav navs place.nav then record place { status = asleep; why = why } else place) places

-- the navigable was given an entry
abbrev pub given_entry : EntryId → Place → Place
given_entry entry place = record place { given = Some entry; ever_given = entry ∷ place.ever_given }

-- the navigable is shown a document at an entry; a pending reload of it is met where the document was made after the reload
abbrev pub activated : Job → EntryId → Epoch → Document → Place → Place
activated job entry epoch d place =
    record (given_entry entry place) {
      status = awake job.doc;
      epoch = epoch;
      why = job.why;
      last = Some job.doc;
      last_job = Some job.nr;
      is_delivered = false;
      is_pending = false;
      is_unmet = place.is_unmet && not d.is_fresh;
      ever_awake = job.doc ∷ place.ever_awake;
    }

-- what an order does to the places: it may show a navigable a document, and puts others to sleep
abbrev pub places_sent : Seen → Job → Task → List Place
places_sent s job (tasks.Activate entry epoch length index memo address) =
    option_map_or
    (λ (d : Document). on_place d.nav (activated job entry epoch d) (put_to_sleep (option_map_or (sleepers_below s job.doc) (place_of s d.nav) []) job.why s.places))
    (document_of s job.doc)
    s.places
places_sent s job tasks.Freeze = put_to_sleep (sleepers_with s job.doc) job.why s.places
places_sent s job tasks.Discard = put_to_sleep (sleepers_with s job.doc) job.why s.places
places_sent s job _ = s.places

-- a navigable that is awake on a document dead by the death is known lost; those below one of these fall asleep, lost ones too
abbrev pub place_bereft : Seen → Death → Place → Place
place_bereft s death place =
    if list_any (λ nav. holds (is_hit s death) (place_of s nav)) place.above && not (is_asleep place) then
    record place { status = asleep; why = whys.Death death }
    else (if is_hit s death place then record place { status = lost; why = whys.Death death } else place)
  where
    is_hit : Seen → Death → Place → Bool
    is_hit s death place = holds (is_taken_by s death) (awake_document place)

-- the report that the document of the last Activate is shown is delivered
abbrev pub place_arrived : Job → Place → Place
place_arrived job place =
    record place {
      was_activated = true;
      is_delivered = place.is_delivered || holds (λ (nr : JobId). nr.0 == job.nr.0) place.last_job;
    }

-- what a delivered report does to the places
abbrev pub places_delivered : Seen → Option Report → List Place
places_delivered s (Some (reports.Died death)) = map (place_bereft s death) s.places
places_delivered s (Some (reports.Done job outcome made)) = by_task s job job.task
  where
    by_task : Seen → Job → Task → List Place
    by_task s job (tasks.Activate entry epoch length index memo address) =
        option_map_or (λ (d : Document). on_place d.nav (place_arrived job) s.places) (document_of s job.doc) s.places
    by_task s job _ = s.places
places_delivered s _ = s.places

-- the request whose change takes a navigable's last rows
abbrev pub with_taker : History → History → ReqId → List Place → List Place
with_taker old new req places =
    map
    (λ (place : Place). if has_row place.nav old.rows && not (has_row place.nav new.rows) then record place { taken_by = Some req } else place)
    places

-- the place of a new child, its parent being the navigable whose rows have the owner state
abbrev pub places_added : Seen → ReqId → StateId → NavId → List Place
places_added s req owner nav =
    option_map_or (λ parent. s.places ++ new_place req nav owner parent ∷ []) (option_and_then (place_of s) (holder_of owner s.history.rows)) s.places

-- an applied push or replace of something that a document made gives its navigable the entry
abbrev pub places_given : Seen → ReqId → NavId → EntryId → List Place
places_given s req nav entry =
    option_map_or (λ made. on_place nav (given_entry entry) s.places) (option_and_then (λ (q : Asked). q.made) (request_of s req)) s.places

-- what an applied change does to the places
abbrev pub places_applied : Seen → ReqId → Change → List Place
places_applied s req change = with_taker s.history (applied s.history change) req (by_change s req change)
  where
    by_change : Seen → ReqId → Change → List Place
    by_change s req (changes.Push nav entry state address memo) = places_given s req nav entry
    by_change s req (changes.Replace nav over entry state address memo) = places_given s req nav entry
    by_change s req (changes.AddFrame owner nav entry state) = places_added s req owner nav
    by_change s req (changes.Reload nav) = on_place nav (λ place. record place { is_pending = true; is_unmet = true }) s.places
    by_change s req _ = s.places

-- what each row does to the places
abbrev pub places_after : Seen → RowKind → List Place
places_after s (rows.Opened entry state doc proc slot address) = opening_place entry doc ∷ []
places_after s (rows.Applied req change) = places_applied s req change
places_after s (rows.Sent job) = places_sent s job job.task
places_after s (rows.Delivered proc) = places_delivered s (slice_get (desk_of s proc).reports 0)
places_after s _ = s.places

-- ---- the kept documents

-- the documents without one
abbrev pub without_doc : DocId → List DocId → List DocId
without_doc doc docs = filter (λ (d : DocId). not (d.0 == doc.0)) docs

-- a document that is left joins in front, unless it is gone, and the new one is taken out
abbrev pub kept_leaving : Seen → DocId → Option DocId → List DocId
kept_leaving s doc None = without_doc doc s.kept
kept_leaving s doc (Some left) =
    if left.0 == doc.0 then s.kept
    else without_doc doc (if is_gone s left then s.kept else left ∷ without_doc left s.kept)

-- what an order does to the kept documents
abbrev pub kept_sent : Seen → DocId → Task → List DocId
kept_sent s doc (tasks.Activate entry epoch length index memo address) =
    kept_leaving s doc (option_and_then (λ (d : Document). option_and_then (λ (place : Place). place.last) (place_of s d.nav)) (document_of s doc))
kept_sent s doc tasks.Discard = without_doc doc s.kept
kept_sent s doc _ = s.kept

-- the documents that a reported death took are no longer kept
abbrev pub kept_delivered : Seen → Option Report → List DocId
kept_delivered s (Some (reports.Died death)) = filter (λ doc. not (is_taken_by s death doc)) s.kept
kept_delivered s _ = s.kept

-- what each row does to the kept documents
abbrev pub kept_after : Seen → RowKind → List DocId
kept_after s (rows.Sent job) = kept_sent s job.doc job.task
kept_after s (rows.Delivered proc) = kept_delivered s (slice_get (desk_of s proc).reports 0)
kept_after s _ = s.kept
