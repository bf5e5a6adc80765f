-- A finished order and an Update keep that no document is under an epoch that its navigable hasn't come to.
use Rattle.std.proofs.Common.{◌≡◌, ℕ, List, length, Some, refl, sym, ap, ◌∙◌, subst, arith}
use Rattle.tab_ids.specs.declared.NavId.{NavId}
use Rattle.tab_ids.specs.declared.ProcId.{ProcId}
use Rattle.log_model.specs.declared.job.Job.{Job}
use Rattle.log_model.specs.declared.job.Order.{Order}
use Rattle.log_model.specs.declared.job.Task.{Task}
use Rattle.log_model.specs.declared.job.Task.TheVariants as tasks
use Rattle.log_model.specs.declared.made.Made.{Made}
use Rattle.log_model.specs.declared.outcome.Outcome.{Outcome}
use Rattle.log_model.specs.declared.row_kind.Actor.{Actor}
use Rattle.log_model.specs.declared.row_kind.RowKind.TheVariants as rows
use Rattle.log_model.specs.Seen.{Seen, Document, Desk, Asked, Place, desk_of, place_of}
use Rattle.log_model.specs.After.{after, on_document, desk_finished}
use Rattle.log_model.specs.AfterDocuments.{addressed, documents_sent}
use Rattle.log_model.specs.AfterRequests.{requests_sent}
use Rattle.seen_laws.proofs.Keyed.{find_has}
use Rattle.seen_facts.specs.Coord.Leading.{held_back, once_finished}
use Rattle.seen_facts.specs.Coord.Epochs.{ShowsWithin, IsWithin, EachDocument, EachIsWithin}
use Rattle.seen_facts.proofs.Coord.OneDocument.{mailed}
use Rattle.seen_facts.proofs.Coord.Kept as kept
use Rattle.seen_facts.proofs.Coord.Kept.{IsInHand, IsPlainOutcome, IsSentHome, is_mine}
use Rattle.seen_facts.proofs.Coord.EachDocuments.{HadEpoch, IsOneOfEach, each_stays}
use Rattle.seen_facts.proofs.Coord.Within.{within_more, finished_within, finished_apart, sent_within, sent_apart}

-- the fact of one document, of all that a log has come to
abbrev pub WithinIn : Seen → Desk → Document → ℕ → Type 0
WithinIn s = IsWithin (held_back s.requests s.parked)

-- held back reports that are as they were leave it
pub within_again : (s next : Seen) → held_back next.requests next.parked ≡ held_back s.requests s.parked → EachDocument (WithinIn s) next → EachIsWithin next
within_again s next held each doc d place found placed =
    subst (λ (l : List Made). IsWithin l (desk_of next d.proc) d place.epoch.0) (sym held) (each doc d place found placed)

-- a navigable whose place is as it was has come no further
pub unmoved : (s : Seen) (nav : NavId) (place : Place) → place_of s nav ≡ Some place → HadEpoch s nav place
unmoved s nav place there = record { before = place; there = there; rises = omega arith }

-- an order in hand is finished
module _ (s : Seen) (event : ℕ) (proc : ProcId) (order : Order) (outcome : Outcome) (in_ : IsInHand s proc order) (plain : IsPlainOutcome outcome) where
  finished_change : IsOneOfEach (WithinIn s) s (kept.after_finish s event proc order outcome in_ plain) proc (desk_finished outcome) order.job.doc (λ d. once_finished d order.job)
  finished_change =
      record {
        desks = refl;
        documents = kept.finished_documents s event proc order outcome in_ plain;
        keeps_proc = λ desk. refl;
        keeps_number = λ d. refl;
        stays = λ d. refl;
        stays_in = λ d. refl;
        had = λ nav place placed. unmoved s nav place placed;
        grows = λ desk d m n more is. within_more (held_back s.requests s.parked) desk d m n more is;
        home = in_.home;
        own = λ d place there placed is. finished_within (held_back s.requests s.parked) (desk_of s proc) order outcome d place.epoch.0 in_.hand (is_mine d.nr (length (desk_of s proc).killed) order.job (sym (find_has (λ (x : Document). x.nr.0) order.job.doc.0 s.documents d there)) in_.lives) is;
        other = λ d bound apart is. finished_apart (held_back s.requests s.parked) (desk_of s proc) order outcome d bound in_.hand apart is;
      }

  pub finished_stays : EachIsWithin s → EachIsWithin (kept.after_finish s event proc order outcome in_ plain)
  finished_stays each =
      within_again s (kept.after_finish s event proc order outcome in_ plain) (ap (λ (asked : List Asked). held_back asked s.parked) (kept.finished_requests s event proc order outcome in_ plain))
      (each_stays (WithinIn s) s (kept.after_finish s event proc order outcome in_ plain) proc (desk_finished outcome) order.job.doc (λ d. once_finished d order.job) finished_change each)

-- an Update is sent
module _ (s : Seen) (event : ℕ) (actor : Actor) (job : Job) (long at : ℕ) (task : job.task ≡ tasks.Update long at) (sent : IsSentHome s job) where
  abbrev after_update : Seen
  after_update = after s (record { event = event; actor = actor; row = rows.Sent job })

  update_change : IsOneOfEach (WithinIn s) s after_update job.proc (mailed job) job.doc (addressed job.task)
  update_change =
      record {
        desks = refl;
        documents = ap (λ (t : Task). documents_sent s job t) task ∙ ap (λ (t : Task). on_document job.doc (addressed t) s.documents) (sym task);
        keeps_proc = λ desk. refl;
        keeps_number = λ d. refl;
        stays = λ d. refl;
        stays_in = λ d. refl;
        had = λ nav place placed. unmoved s nav place (kept.was_placed s event actor job long at task sent nav place placed);
        grows = λ desk d m n more is. within_more (held_back s.requests s.parked) desk d m n more is;
        home = sent.home;
        own = λ d place there placed is. sent_within (held_back s.requests s.parked) (desk_of s job.proc) d job place.epoch.0 (subst (ShowsWithin place.epoch.0) (sym task) tt) (is_mine d.nr (length (desk_of s job.proc).killed) job (sym (find_has (λ (x : Document). x.nr.0) job.doc.0 s.documents d there)) sent.lives) is;
        other = λ d bound apart is. sent_apart (held_back s.requests s.parked) (desk_of s job.proc) d job bound apart is;
      }

  pub update_stays : EachIsWithin s → EachIsWithin after_update
  update_stays each =
      within_again s after_update (ap (λ (asked : List Asked). held_back asked s.parked) (ap (λ (t : Task). requests_sent s job t s.requests) task))
      (each_stays (WithinIn s) s after_update job.proc (mailed job) job.doc (addressed job.task) update_change each)
