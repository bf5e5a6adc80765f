-- Which rows leave the forms of all navigables: each but the opening and an added frame.
use Rattle.std.proofs.Common.{◌≡◌, Bool, true, false, cond, not, ◌&&◌, List, [], refl, ◌∙◌, Option, Some, None, if◌then◌else◌, ◌==◌}
use Rattle.std.specs.Prelude.{option_and_then}
use Rattle.std.specs.Option.{option_map_or}
use Rattle.tab_ids.specs.declared.EntryId.{EntryId}
use Rattle.tab_ids.specs.declared.NavId.{NavId}
use Rattle.tab_ids.specs.declared.ReqId.{ReqId}
use Rattle.log_model.specs.declared.change.Change.{Change}
use Rattle.log_model.specs.declared.change.Change.TheVariants as changes
use Rattle.log_model.specs.declared.job.Job.{Job}
use Rattle.log_model.specs.declared.job.Task.{Task}
use Rattle.log_model.specs.declared.job.Task.TheVariants as tasks
use Rattle.log_model.specs.declared.job.Why.{Why}
use Rattle.log_model.specs.declared.job.Why.TheVariants as whys
use Rattle.log_model.specs.declared.made.Made.{Made}
use Rattle.log_model.specs.declared.made.Report.{Report}
use Rattle.log_model.specs.declared.made.Report.TheVariants as reports
use Rattle.log_model.specs.History.{History, has_nav, has_row, applied}
use Rattle.log_model.specs.Seen.{asleep, lost, Seen, Document, Asked, Place, document_of, request_of, place_of}
use Rattle.log_model.specs.AfterPlaces.{on_place, put_to_sleep, given_entry, activated, sleepers_below, sleepers_with, place_bereft, place_arrived, with_taker, places_sent, places_delivered, places_given, places_applied}
use Rattle.seen_facts.specs.Hang.Forms.{form_of, forms_of}
use Rattle.seen_facts.proofs.Hang.Forms.{forms_kept}

pub on_place_kept : (nav : NavId) (f : Place → Place) (places : List Place) → ((place : Place) → form_of (f place) ≡ form_of place) → forms_of (on_place nav f places) ≡ forms_of places
on_place_kept nav f places same = forms_kept (λ (place : Place). if place.nav.0 == nav.0 then f place else place) places each
  where
    each : (place : Place) → form_of (if place.nav.0 == nav.0 then f place else place) ≡ form_of place
    each place = by_test (place.nav.0 == nav.0)
      where
        by_test : (b : Bool) → form_of (cond b (f place) place) ≡ form_of place
        by_test true = same place
        by_test false = refl

pub asleep_kept : (navs : List NavId) (why : Why) (places : List Place) → forms_of (put_to_sleep navs why places) ≡ forms_of places
asleep_kept navs why places = forms_kept _ places (λ place. by_test place (has_nav navs place.nav))
  where
    by_test : (place : Place) (b : Bool) → form_of (cond b (record place { status = asleep; why = why }) place) ≡ form_of place
    by_test place true = refl
    by_test place false = refl

-- an order
pub sent_kept : (s : Seen) (job : Job) (task : Task) → forms_of (places_sent s job task) ≡ forms_of s.places
sent_kept s job (tasks.Populate nav state address initial) = refl
sent_kept s job (tasks.Activate entry epoch length index memo address) = by_document (document_of s job.doc)
  where
    by_document : (o : Option Document) → forms_of (option_map_or (λ (d : Document). on_place d.nav (activated job entry epoch d) (put_to_sleep (option_map_or (sleepers_below s job.doc) (place_of s d.nav) []) job.why s.places)) o s.places) ≡ forms_of s.places
    by_document None = refl
    by_document (Some d) =
        on_place_kept d.nav (activated job entry epoch d) (put_to_sleep (option_map_or (sleepers_below s job.doc) (place_of s d.nav) []) job.why s.places) (λ place. refl)
        ∙ asleep_kept (option_map_or (sleepers_below s job.doc) (place_of s d.nav) []) job.why s.places
sent_kept s job (tasks.Update length index) = refl
sent_kept s job tasks.Freeze = asleep_kept (sleepers_with s job.doc) job.why s.places
sent_kept s job tasks.Discard = asleep_kept (sleepers_with s job.doc) job.why s.places
sent_kept s job (tasks.Ask slot cause) = refl
sent_kept s job (tasks.DoFragment req mode address) = refl

-- a report
pub delivered_kept : (s : Seen) (report : Option Report) → forms_of (places_delivered s report) ≡ forms_of s.places
delivered_kept s None = refl
delivered_kept s (Some (reports.Made made)) = refl
delivered_kept s (Some (reports.Died death)) = forms_kept (place_bereft s death) s.places bereft
  where
    by_tests : (place : Place) (b c : Bool) → form_of (cond b (record place { status = asleep; why = whys.Death death }) (cond c (record place { status = lost; why = whys.Death death }) place)) ≡ form_of place
    by_tests place true c = refl
    by_tests place false true = refl
    by_tests place false false = refl

    bereft : (place : Place) → form_of (place_bereft s death place) ≡ form_of place
    bereft place = by_tests place _ _
delivered_kept s (Some (reports.Done job outcome made)) = by_task job.task
  where
    arrived : (o : Option Document) → forms_of (option_map_or (λ (d : Document). on_place d.nav (place_arrived job) s.places) o s.places) ≡ forms_of s.places
    arrived None = refl
    arrived (Some d) = on_place_kept d.nav (place_arrived job) s.places (λ place. refl)

    by_task : (task : Task) → forms_of (places_delivered s (Some (reports.Done (record job { task = task }) outcome made))) ≡ forms_of s.places
    by_task (tasks.Activate entry epoch length index memo address) = arrived (document_of s job.doc)
    by_task _ = refl

-- an applied change that adds no frame
pub taken_kept : (old new : History) (req : ReqId) (places : List Place) → forms_of (with_taker old new req places) ≡ forms_of places
taken_kept old new req places = forms_kept _ places (λ place. by_test place (has_row place.nav old.rows && not (has_row place.nav new.rows)))
  where
    by_test : (place : Place) (b : Bool) → form_of (cond b (record place { taken_by = Some req }) place) ≡ form_of place
    by_test place true = refl
    by_test place false = refl

given_kept : (s : Seen) (req : ReqId) (nav : NavId) (entry : EntryId) → forms_of (places_given s req nav entry) ≡ forms_of s.places
given_kept s req nav entry = by_made (option_and_then (λ (q : Asked). q.made) (request_of s req))
  where
    by_made : (o : Option Made) → forms_of (option_map_or (λ made. on_place nav (given_entry entry) s.places) o s.places) ≡ forms_of s.places
    by_made None = refl
    by_made (Some made) = on_place_kept nav (given_entry entry) s.places (λ place. refl)

-- the change adds no frame
abbrev pub IsNoFrame : Change → Type 0
IsNoFrame (changes.AddFrame owner nav entry state) = ⊥
IsNoFrame _ = Unit {0}

pub applied_kept : (s : Seen) (req : ReqId) (change : Change) → IsNoFrame change → forms_of (places_applied s req change) ≡ forms_of s.places
applied_kept s req (changes.Push nav entry state address memo) none = taken_kept s.history (applied s.history (changes.Push nav entry state address memo)) req (places_given s req nav entry) ∙ given_kept s req nav entry
applied_kept s req (changes.Replace nav over entry state address memo) none = taken_kept s.history (applied s.history (changes.Replace nav over entry state address memo)) req (places_given s req nav entry) ∙ given_kept s req nav entry
applied_kept s req (changes.AddFrame owner nav entry state) none = absurd none
applied_kept s req (changes.RemoveFrame nav) none = taken_kept s.history (applied s.history (changes.RemoveFrame nav)) req s.places
applied_kept s req (changes.Traverse goal) none = taken_kept s.history (applied s.history (changes.Traverse goal)) req s.places
applied_kept s req (changes.Reload nav) none =
    taken_kept s.history (applied s.history (changes.Reload nav)) req (on_place nav (λ place. record place { is_pending = true; is_unmet = true }) s.places)
    ∙ on_place_kept nav (λ place. record place { is_pending = true; is_unmet = true }) s.places (λ place. refl)
applied_kept s req changes.Edit none = taken_kept s.history (applied s.history changes.Edit) req s.places
