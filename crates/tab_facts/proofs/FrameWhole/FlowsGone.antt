-- A document that no navigable is awake on any more is discarded: what is true between two rows of the documents of all awake navigables stays.
use Rattle.seen_facts.proofs.Coord.EachDocuments.{IsOneOfEach, each_stays}
use Rattle.seen_facts.proofs.Coord.Kept.{IsSentHome, is_mine}
use Rattle.seen_facts.proofs.Coord.Leadings.{as_placed, one_stays}
use Rattle.seen_facts.proofs.Coord.OneDocument.{mailed, mailed_other}
use Rattle.seen_facts.proofs.Coord.Reached.{mailed_elsewhere}
use Rattle.seen_facts.proofs.Coord.SentAway.{within_alike}
use Rattle.seen_facts.proofs.Coord.Shown.{still_awake}
use Rattle.seen_facts.proofs.Coord.Unread.{next}
use Rattle.seen_facts.proofs.Coord.Whose.{whose_one}
use Rattle.seen_facts.proofs.Coord.Within.{sent_apart, sent_within, within_more}
use Rattle.seen_facts.proofs.Coord.WithinShown.{slept_before}
use Rattle.seen_facts.specs.Coord.Epochs.{ShowsWithin}
use Rattle.seen_facts.specs.Coord.Leading.{EachAwake}
use Rattle.seen_facts.specs.Coord.Reaching.{Reaches}
use Rattle.tab_facts.specs.FrameTab.Desks.{waiting}
use Rattle.tab_facts.proofs.FrameWhole.FlowsAlike.{IfIn, WithinHand, if_again, if_alike, within_if}
use Rattle.tab_facts.proofs.FrameWhole.FlowsShown.{sent_waits}
use Rattle.tab_facts.specs.FrameWhole.Untold.{FlowsIf}
use Rattle.log_model.specs.After.{on_document}
use Rattle.log_model.specs.AfterDocuments.{addressed, documents_sent}
use Rattle.log_model.specs.AfterPlaces.{places_sent, put_to_sleep, sleepers_with}
use Rattle.log_model.specs.Seen.{Desk, Document, Place, Seen, awake, desk_of, document_of, place_in, place_of}
use Rattle.log_model.specs.declared.job.Job.{Job}
use Rattle.log_model.specs.declared.job.Task.{Task}
use Rattle.log_model.specs.declared.made.Made.{Made}
use Rattle.log_model.specs.declared.row_kind.Actor.{Actor}
use Rattle.seen_laws.proofs.Keyed.{find_has}
use Rattle.std.proofs.Common.{List, Option, Some, ap, arith, false, length, refl, subst, sym, true, ℕ, ◌==◌, ◌∙◌, ◌≡◌, ◌≤◌}
use Rattle.tab_ids.specs.declared.DocId.{DocId}
use Rattle.tab_ids.specs.declared.EntryId.{EntryId}
use Rattle.tab_ids.specs.declared.Epoch.{Epoch}
use Rattle.tab_ids.specs.declared.NavId.{NavId}
use Rattle.log_model.specs.declared.job.Task.TheVariants as tasks
use Rattle.log_model.specs.declared.row_kind.RowKind.TheVariants as rows

module _ (s : Seen) (event : ℕ) (actor : Actor) (hand : List Made) (job : Job) (task : job.task ≡ tasks.Discard) (sent : IsSentHome s job) where
  abbrev pub discarded : Seen
  discarded = next s event actor (rows.Sent job)

  abbrev gone : Document → Document
  gone d = record d { is_discarded = true }

  documents_are : discarded.documents ≡ on_document job.doc gone s.documents
  documents_are = ap (λ (t : Task). documents_sent s job t) task

  slept : (nav : NavId) (place : Place) → place_of discarded nav ≡ Some place → place_in (put_to_sleep (sleepers_with s job.doc) job.why s.places) nav ≡ Some place
  slept nav place placed = ap (λ (l : List Place). place_in l nav) (sym (ap (λ (t : Task). places_sent s job t) task)) ∙ placed

  was_awake : (nav : NavId) (place : Place) (doc : DocId) → place_of discarded nav ≡ Some place → place.status ≡ awake doc → place_of s nav ≡ Some place
  was_awake nav place doc placed wakes = still_awake (sleepers_with s job.doc) job.why s.places nav place doc (slept nav place placed) wakes

  module _ (unused : (nav : NavId) (place : Place) → place_of discarded nav ≡ Some place → place.status ≡ awake job.doc → ⊥) where
    away_stays : (F : Desk → Document → Option EntryId → Epoch → Type 0) → ((x : Document) (given : Option EntryId) (epoch : Epoch) → (job.doc.0 == x.nr.0) ≡ false → F (desk_of s job.proc) x given epoch → F (mailed job (desk_of s job.proc)) x given epoch) → EachAwake F s → EachAwake F discarded
    away_stays F other each =
        one_stays F s discarded job.proc (mailed job) job.doc gone
        (record {
          desks = refl;
          documents = documents_are;
          keeps_proc = λ desk. refl;
          keeps_number = λ d. refl;
          stays = λ d. refl;
          home = sent.home;
          own = λ nav place d placed wakes there. absurd (unused nav place placed wakes);
          others = λ nav place doc placed wakes apart. as_placed s nav place (was_awake nav place doc placed wakes);
          other = other;
        })
        each

    own_within : (d : Document) (bound : ℕ) → document_of s job.doc ≡ Some d → WithinHand hand s (desk_of s job.proc) d bound → WithinHand hand s (mailed job (desk_of s job.proc)) (gone d) bound
    own_within d bound there was =
        within_alike (waiting s hand) (mailed job (desk_of s job.proc)) (addressed job.task d) (gone d) bound refl refl
        (sent_within (waiting s hand) (desk_of s job.proc) d job bound (subst (ShowsWithin bound) (sym task) tt) (is_mine d.nr (length (desk_of s job.proc).killed) job (sym (find_has (λ (x : Document). x.nr.0) job.doc.0 s.documents d there)) sent.lives) was)

    within_change : IsOneOfEach (WithinHand hand s) s discarded job.proc (mailed job) job.doc gone
    within_change =
        record {
          desks = refl;
          documents = documents_are;
          keeps_proc = λ desk. refl;
          keeps_number = λ d. refl;
          stays = λ d. refl;
          stays_in = λ d. refl;
          had = λ nav place placed. (let was = slept_before s (sleepers_with s job.doc) job.why nav place (slept nav place placed) in record { before = was.0; there = was.1; rises = subst (λ (k : Epoch). was.0.epoch.0 ≤ k.0) was.2 (omega arith) });
          grows = λ desk d m n more was. within_more (waiting s hand) desk d m n more was;
          home = sent.home;
          own = λ d place there placed was. own_within d place.epoch.0 there was;
          other = λ d bound apart was. sent_apart (waiting s hand) (desk_of s job.proc) d job bound apart was;
        }

    pub discard_if : FlowsIf hand s → FlowsIf hand discarded
    discard_if is =
        record {
          leads = if_again s discarded hand hand refl (sent_waits s event actor hand job) (away_stays (IfIn hand s) (λ x given epoch apart leads has. if_alike s.history.rows (waiting s hand) (desk_of s job.proc) (mailed job (desk_of s job.proc)) x x given epoch (mailed_other (waiting s hand) (desk_of s job.proc) job x epoch apart) (leads has)) is.leads);
          whose = whose_one s discarded job.doc gone documents_are (λ d. refl) (λ d. refl) (λ nav place doc placed wakes. record { before = place; there = was_awake nav place doc placed wakes; status = refl }) is.whose;
          reaches = away_stays (λ desk x given epoch. Reaches desk x epoch) (λ x given epoch apart reaches. mailed_elsewhere (desk_of s job.proc) x job epoch apart reaches) is.reaches;
          within = within_if s discarded hand hand (sent_waits s event actor hand job) (each_stays (WithinHand hand s) s discarded job.proc (mailed job) job.doc gone within_change is.within);
        }
