-- A document that no navigable is awake on any more is frozen or discarded: what is true between two rows of the documents of all awake navigables stays.
use Rattle.std.proofs.Common.{◌≡◌, ℕ, ◌≤◌, true, false, ◌==◌, List, length, Option, Some, refl, sym, ap, ◌∙◌, subst, arith}
use Rattle.std.specs.Prelude.{filter_map}
use Rattle.tab_ids.specs.declared.DocId.{DocId}
use Rattle.tab_ids.specs.declared.EntryId.{EntryId}
use Rattle.tab_ids.specs.declared.Epoch.{Epoch}
use Rattle.tab_ids.specs.declared.NavId.{NavId}
use Rattle.log_model.specs.declared.job.Job.{Job}
use Rattle.log_model.specs.declared.job.Task.{Task}
use Rattle.log_model.specs.declared.job.Task.TheVariants as tasks
use Rattle.log_model.specs.declared.made.Made.{Made}
use Rattle.log_model.specs.declared.row_kind.Actor.{Actor}
use Rattle.log_model.specs.declared.row_kind.RowKind.TheVariants as rows
use Rattle.log_model.specs.Seen.{Seen, Document, Desk, Place, awake, desk_of, place_in, place_of}
use Rattle.log_model.specs.After.{after, on_document}
use Rattle.log_model.specs.AfterDocuments.{addressed, documents_sent}
use Rattle.log_model.specs.AfterPlaces.{put_to_sleep, sleepers_with, places_sent}
use Rattle.log_model.specs.AfterRequests.{made_of_report}
use Rattle.seen_laws.proofs.Keyed.{find_has}
use Rattle.seen_facts.specs.Coord.Leading.{orders_for, held_back, EachAwake}
use Rattle.seen_facts.specs.Coord.Reaching.{Reaches}
use Rattle.seen_facts.specs.Coord.Epochs.{AllWithin, MadeWithin, ShowsWithin, IsWithin}
use Rattle.seen_facts.specs.Coord.Flowing.{Flows}
use Rattle.seen_facts.proofs.Coord.Leadings.{as_placed, one_stays, LeadsIn, leads_again}
use Rattle.seen_facts.proofs.Coord.OneDocument.{mailed, mailed_other, leads_alike}
use Rattle.seen_facts.proofs.Coord.Kept.{IsSentHome, is_mine}
use Rattle.seen_facts.proofs.Coord.Reached.{mailed_elsewhere}
use Rattle.seen_facts.proofs.Coord.Shown.{still_awake}
use Rattle.seen_facts.proofs.Coord.Whose.{whose_one}
use Rattle.seen_facts.proofs.Coord.EachDocuments.{IsOneOfEach, each_stays}
use Rattle.seen_facts.proofs.Coord.Within.{within_more, sent_within, sent_apart}
use Rattle.seen_facts.proofs.Coord.WithinShown.{slept_before}
use Rattle.seen_facts.proofs.Coord.Withins.{WithinIn, within_again}

-- the document shows what it showed, where it was, in its process
pub record LeavesIt (g : Document → Document) : Type 0 where
  pub number : (d : Document) → (g d).nr ≡ d.nr
  pub proc : (d : Document) → (g d).proc ≡ d.proc
  pub nav : (d : Document) → (g d).nav ≡ d.nav
  pub view : (d : Document) → (g d).view ≡ d.view

pub within_alike : (held : List Made) (desk : Desk) (d next : Document) (bound : ℕ) → next.nr ≡ d.nr → next.view ≡ d.view → IsWithin held desk d bound → IsWithin held desk next bound
within_alike held desk d next bound nr view is =
    record {
      view = λ seen has. is.view seen (sym view ∙ has);
      orders = subst (λ (doc : DocId). AllWithin bound (orders_for desk doc)) (sym nr) is.orders;
      held_back = subst (λ (doc : DocId). MadeWithin bound doc held) (sym nr) is.held_back;
      reports = subst (λ (doc : DocId). MadeWithin bound doc (filter_map made_of_report desk.reports)) (sym nr) is.reports;
    }

module _ (s : Seen) (event : ℕ) (actor : Actor) (job : Job) (g : Document → Document) (navs : List NavId) (leaves : LeavesIt g) (shows : (bound : ℕ) → ShowsWithin bound job.task) (sent : IsSentHome s job) where
  abbrev pub after_sending : Seen
  after_sending = after s (record { event = event; actor = actor; row = rows.Sent job })

  module _ (documents : after_sending.documents ≡ on_document job.doc g s.documents) (places : after_sending.places ≡ put_to_sleep navs job.why s.places) (unused : (nav : NavId) (place : Place) → place_of after_sending nav ≡ Some place → place.status ≡ awake job.doc → ⊥) (held : held_back after_sending.requests after_sending.parked ≡ held_back s.requests s.parked) where
    slept : (nav : NavId) (place : Place) → place_of after_sending nav ≡ Some place → place_in (put_to_sleep navs job.why s.places) nav ≡ Some place
    slept nav place placed = ap (λ (l : List Place). place_in l nav) (sym places) ∙ placed

    was_awake : (nav : NavId) (place : Place) (at : DocId) → place_of after_sending nav ≡ Some place → place.status ≡ awake at → place_of s nav ≡ Some place
    was_awake nav place at placed wakes =
        still_awake navs job.why s.places nav place at (slept nav place placed) wakes

    away_stays : (F : Desk → Document → Option EntryId → Epoch → Type 0) → ((x : Document) (given : Option EntryId) (epoch : Epoch) → (job.doc.0 == x.nr.0) ≡ false → F (desk_of s job.proc) x given epoch → F (mailed job (desk_of s job.proc)) x given epoch) → EachAwake F s → EachAwake F after_sending
    away_stays F other each =
        one_stays F s after_sending job.proc (mailed job) job.doc g
        (record {
          desks = refl;
          documents = documents;
          keeps_proc = λ desk. refl;
          keeps_number = leaves.number;
          stays = leaves.proc;
          home = sent.home;
          own = λ nav place d placed wakes there. absurd (unused nav place placed wakes);
          others = λ nav place at placed wakes apart. as_placed s nav place (was_awake nav place at placed wakes);
          other = other;
        })
        each

    within_change : IsOneOfEach (WithinIn s) s after_sending job.proc (mailed job) job.doc g
    within_change =
        record {
          desks = refl;
          documents = documents;
          keeps_proc = λ desk. refl;
          keeps_number = leaves.number;
          stays = leaves.proc;
          stays_in = leaves.nav;
          had = λ nav place placed. (let was = slept_before s navs job.why nav place (slept nav place placed) in record { before = was.0; there = was.1; rises = subst (λ (k : Epoch). was.0.epoch.0 ≤ k.0) was.2 (omega arith) });
          grows = λ desk d m n more is. within_more (held_back s.requests s.parked) desk d m n more is;
          home = sent.home;
          own = λ d place there placed is. within_alike (held_back s.requests s.parked) (mailed job (desk_of s job.proc)) (addressed job.task d) (g d) place.epoch.0 (leaves.number d) (leaves.view d) (sent_within (held_back s.requests s.parked) (desk_of s job.proc) d job place.epoch.0 (shows place.epoch.0) (is_mine d.nr (length (desk_of s job.proc).killed) job (sym (find_has (λ (x : Document). x.nr.0) job.doc.0 s.documents d there)) sent.lives) is);
          other = λ d bound apart is. sent_apart (held_back s.requests s.parked) (desk_of s job.proc) d job bound apart is;
        }

    away_flows : Flows s → Flows after_sending
    away_flows is =
        record {
          leads = leads_again s after_sending refl held (away_stays (LeadsIn s) (λ x given epoch apart leads. leads_alike s.history.rows (held_back s.requests s.parked) (desk_of s job.proc) (mailed job (desk_of s job.proc)) x x given epoch (mailed_other (held_back s.requests s.parked) (desk_of s job.proc) job x epoch apart) leads) is.leads);
          whose = whose_one s after_sending job.doc g documents leaves.number leaves.nav (λ nav place doc placed wakes. record { before = place; there = was_awake nav place doc placed wakes; status = refl }) is.whose;
          reaches = away_stays (λ desk x given epoch. Reaches desk x epoch) (λ x given epoch apart reaches. mailed_elsewhere (desk_of s job.proc) x job epoch apart reaches) is.reaches;
          within = within_again s after_sending held (each_stays (WithinIn s) s after_sending job.proc (mailed job) job.doc g within_change is.within);
        }

-- a document that is left is frozen
module _ (s : Seen) (event : ℕ) (actor : Actor) (job : Job) (task : job.task ≡ tasks.Freeze) (sent : IsSentHome s job) where
  abbrev after_freeze : Seen
  after_freeze = after s (record { event = event; actor = actor; row = rows.Sent job })

  pub freeze_flows : ((nav : NavId) (place : Place) → place_of after_freeze nav ≡ Some place → place.status ≡ awake job.doc → ⊥) → held_back after_freeze.requests after_freeze.parked ≡ held_back s.requests s.parked → Flows s → Flows after_freeze
  freeze_flows unused held is =
      away_flows s event actor job (addressed tasks.Freeze) (sleepers_with s job.doc) (record { number = λ d. refl; proc = λ d. refl; nav = λ d. refl; view = λ d. refl }) (λ bound. subst (ShowsWithin bound) (sym task) tt) sent (ap (λ (t : Task). documents_sent s job t) task) (ap (λ (t : Task). places_sent s job t) task) unused held is

-- it is discarded
module _ (s : Seen) (event : ℕ) (actor : Actor) (job : Job) (task : job.task ≡ tasks.Discard) (sent : IsSentHome s job) where
  abbrev after_discard : Seen
  after_discard = after s (record { event = event; actor = actor; row = rows.Sent job })

  pub discard_flows : ((nav : NavId) (place : Place) → place_of after_discard nav ≡ Some place → place.status ≡ awake job.doc → ⊥) → held_back after_discard.requests after_discard.parked ≡ held_back s.requests s.parked → Flows s → Flows after_discard
  discard_flows unused held is =
      away_flows s event actor job (λ d. record d { is_discarded = true }) (sleepers_with s job.doc) (record { number = λ d. refl; proc = λ d. refl; nav = λ d. refl; view = λ d. refl }) (λ bound. subst (ShowsWithin bound) (sym task) tt) sent (ap (λ (t : Task). documents_sent s job t) task) (ap (λ (t : Task). places_sent s job t) task) unused held is
