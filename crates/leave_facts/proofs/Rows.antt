-- Whom requests leave was asked for them still, over each row but those of requests that begin and of changes.
use Rattle.std.proofs.Common.{◌≡◌, ℕ, ◌+◌, List, ◌∷◌, length, Some, refl, sym, ap, ◌∙◌}
use Rattle.std.specs.Prelude.{slice_get}
use Rattle.tab_ids.specs.declared.NavId.{NavId}
use Rattle.log_model.specs.declared.outcome.Ending.TheVariants as endings
use Rattle.log_model.specs.declared.row_kind.Actor.{Actor}
use Rattle.log_model.specs.declared.row_kind.RowKind.{RowKind}
use Rattle.log_model.specs.declared.row_kind.RowKind.TheVariants as rows
use Rattle.log_model.specs.After.{after}
use Rattle.log_model.specs.AfterDocuments.{task_in_hand}
use Rattle.log_model.specs.Seen.{Place, Seen, desk_of, place_of}
use Rattle.seen_facts.specs.Hang.Forms.{Form, form_in, form_of, forms_of}
use Rattle.seen_facts.proofs.Hang.Forms.{IsPlaceOf, form_there, place_there}
use Rattle.seen_facts.proofs.Hang.Frames.{delivered_kept, sent_kept}
use Rattle.leave_facts.specs.Leaving.{AreAsked, BelowAsked}
use Rattle.leave_facts.proofs.Below.{below_stays}
use Rattle.leave_facts.proofs.Stays.{DocumentsStay, PlacesStay, RequestsStay, WasPlace, asked_same}
use Rattle.leave_facts.proofs.Requests.{WereThere, requests_stay, there_delivered, there_ended, there_finished, there_more, there_on, there_sent, were_there, as_read}
use Rattle.leave_facts.proofs.Documents.{FillsUnawake, MakesUnawake, WereDocuments, documents_dead, documents_done, documents_heard, documents_made, documents_told, were_documents}

-- ---- places

-- where the navigable hangs as it hung, its place was there so
pub was_place : (s t : Seen) (nav : NavId) → form_in (forms_of t.places) nav ≡ form_in (forms_of s.places) nav → (place : Place) → place_of t nav ≡ Some place → WasPlace s nav place
was_place s t nav same place found =
    record { old = it.place; found = it.found; way = ap (λ (f : Form). let l : List NavId = f.nav ∷ f.above in l) it.is }
  where
    it : IsPlaceOf s.places nav (form_of place)
    it = place_there s.places nav (form_of place) (sym same ∙ form_there t.places nav place found)

-- where each one does, places stay
pub places_stay : (s t : Seen) → forms_of t.places ≡ forms_of s.places → PlacesStay s t
places_stay s t same =
    record { each = λ doc d for found place at. was_place s t d.nav (ap (λ (l : List Form). form_in l d.nav) same) place at }

-- ---- the rows

-- the row neither begins a request nor changes the history, and what it makes was awake for no request
abbrev pub IsKeeping : Seen → RowKind → Type 0
IsKeeping s (rows.Opened entry state doc proc slot address) = ⊥
IsKeeping s (rows.Started req goal) = ⊥
IsKeeping s (rows.Applied req change) = ⊥
IsKeeping s (rows.Accepted req doc what) = req.0 ≡ length s.requests + 1
IsKeeping s (rows.Sent job) = MakesUnawake s job job.task
IsKeeping s (rows.Finished proc job outcome) = FillsUnawake s (task_in_hand s proc) outcome
IsKeeping s _ = Unit {0}

module _ (s : Seen) (event : ℕ) (actor : Actor) where
  abbrev then : RowKind → Seen
  then kind = after s (record { event = event; actor = actor; row = kind })

  -- the row leaves requests, documents and places
  pub record LeavesAll (kind : RowKind) : Type 0 where
    pub same : (then kind).history ≡ s.history
    pub requests : RequestsStay s (then kind)
    pub documents : DocumentsStay s (then kind)
    pub places : PlacesStay s (then kind)

  leaves_with : (kind : RowKind) → (then kind).history ≡ s.history → WereThere s (then kind).requests → WereDocuments s (then kind).documents → forms_of (then kind).places ≡ forms_of s.places → LeavesAll kind
  leaves_with kind same were documents forms =
      record {
        same = same;
        requests = requests_stay s (then kind) were;
        documents = record { each = documents };
        places = places_stay s (then kind) forms;
      }

  -- each such row does
  pub row_leaves : (kind : RowKind) → IsKeeping s kind → LeavesAll kind
  row_leaves (rows.Opened entry state doc proc slot address) never = absurd never
  row_leaves (rows.Started req goal) never = absurd never
  row_leaves (rows.Applied req change) never = absurd never
  row_leaves (rows.Accepted req doc what) next =
      leaves_with (rows.Accepted req doc what) refl (there_more s s.requests req doc what next (were_there s)) (were_documents s) refl
  row_leaves (rows.Refused req reason) keeps =
      leaves_with (rows.Refused req reason) refl (there_ended s s.requests req (endings.Refused reason) (were_there s)) (were_documents s) refl
  row_leaves (rows.Dropped req cause) keeps =
      leaves_with (rows.Dropped req cause) refl (there_ended s s.requests req (endings.Dropped cause) (were_there s)) (were_documents s) refl
  row_leaves (rows.Prompted req doc) keeps =
      leaves_with (rows.Prompted req doc) refl (there_on s s.requests req _ (λ q. as_read q _ refl) (were_there s)) (were_documents s) refl
  row_leaves (rows.Answered req stay) keeps =
      leaves_with (rows.Answered req stay) refl (there_on s s.requests req _ (λ q. as_read q _ refl) (were_there s)) (were_documents s) refl
  row_leaves (rows.Sent job) makes =
      leaves_with (rows.Sent job) refl (there_sent s job job.task s.requests (were_there s)) (documents_told s job job.task makes) (sent_kept s job job.task)
  row_leaves (rows.Taken proc job live dirty) keeps =
      leaves_with (rows.Taken proc job live dirty) refl (were_there s) (were_documents s) refl
  row_leaves (rows.Finished proc job outcome) fills =
      leaves_with (rows.Finished proc job outcome) refl (there_finished s (desk_of s proc).in_hand outcome s.requests (were_there s)) (documents_done s (task_in_hand s proc) outcome fills) refl
  row_leaves (rows.Made proc made) keeps =
      leaves_with (rows.Made proc made) refl (there_on s s.requests made.req _ (λ q. as_read q _ refl) (were_there s)) (documents_made s proc made) refl
  row_leaves (rows.Delivered proc) keeps =
      leaves_with (rows.Delivered proc) refl (there_delivered s (slice_get (desk_of s proc).reports 0) s.requests (were_there s)) (documents_heard s (slice_get (desk_of s proc).reports 0)) (delivered_kept s (slice_get (desk_of s proc).reports 0))
  row_leaves (rows.Killed proc death) keeps =
      leaves_with (rows.Killed proc death) refl (were_there s) (documents_dead s proc death) refl
  row_leaves (rows.Evicted state) keeps =
      leaves_with (rows.Evicted state) refl (were_there s) (were_documents s) refl

  -- over each such row whom requests leave was asked for them still
  pub asked_row : (kind : RowKind) → IsKeeping s kind → AreAsked s → AreAsked (then kind)
  asked_row kind keeps asked =
      let leaves : LeavesAll kind = row_leaves kind keeps in
      asked_same s (then kind) leaves.same leaves.requests leaves.documents leaves.places asked

  -- so was whom loads and reloads leave
  pub below_row : (kind : RowKind) → IsKeeping s kind → BelowAsked s → BelowAsked (then kind)
  below_row kind keeps asked =
      let leaves : LeavesAll kind = row_leaves kind keeps in
      below_stays s (then kind) leaves.requests leaves.documents leaves.places asked
