-- A document whose push was applied is told its length and index: what is on its way leads for each document again.
use Rattle.std.proofs.Common.{◌≡◌, ℕ, true, ◌==◌, List, length, Option, Some, refl, sym, ap, ◌∙◌, subst}
use Rattle.tab_ids.specs.declared.DocId.{DocId}
use Rattle.tab_ids.specs.declared.EntryId.{EntryId}
use Rattle.tab_ids.specs.declared.Epoch.{Epoch}
use Rattle.tab_ids.specs.declared.NavId.{NavId}
use Rattle.tab_ids.specs.declared.ProcId.{ProcId}
use Rattle.log_model.specs.declared.job.Job.{Job}
use Rattle.log_model.specs.declared.job.Task.{Task}
use Rattle.log_model.specs.declared.job.Task.TheVariants as tasks
use Rattle.log_model.specs.declared.row_kind.Actor.{Actor}
use Rattle.log_model.specs.declared.row_kind.RowKind.TheVariants as rows
use Rattle.log_model.specs.Seen.{Seen, Document, Desk, Asked, Place, awake, document_of, desk_of, place_of}
use Rattle.log_model.specs.After.{after}
use Rattle.log_model.specs.AfterDocuments.{addressed, on_document, documents_sent}
use Rattle.log_model.specs.AfterRequests.{requests_sent}
use Rattle.log_model.proofs.Refl.{nat_eq_refl}
use Rattle.seen_laws.proofs.Keyed.{find_has}
use Rattle.seen_facts.specs.Coord.Leading.{held_back, LeadsUntold, LeadsBut, EachLeads, EachLeadsBut}
use Rattle.seen_facts.proofs.Coord.Leadings.{as_placed, IsOneChange, one_settles, LeadsIn, leads_again}
use Rattle.seen_facts.proofs.Coord.OneDocument.{mailed, told_again, leads_alike, mailed_other}
use Rattle.seen_facts.proofs.Coord.Kept as kept
use Rattle.seen_facts.proofs.Coord.Kept.{IsSentHome, is_mine}
use Rattle.seen_facts.proofs.Coord.TakenUp.{other_leads, turned}

-- of the document itself, what was told is left open
own_untold : (doc : DocId) (s : Seen) (desk : Desk) (d : Document) (given : Option EntryId) (epoch : Epoch) → d.nr.0 ≡ doc.0 → LeadsBut doc s.history.rows (held_back s.requests s.parked) desk d given epoch → LeadsUntold s.history.rows (held_back s.requests s.parked) desk d given epoch
own_untold doc s desk d given epoch same is =
    let mine : (d.nr.0 == doc.0) ≡ true = rw same (nat_eq_refl doc.0) in rw mine at is

module _ (s : Seen) (event : ℕ) (actor : Actor) (job : Job) (long at : ℕ) (task : job.task ≡ tasks.Update long at) (sent : IsSentHome s job) (each : EachLeadsBut job.doc s) where
  abbrev after_update : Seen
  after_update = after s (record { event = event; actor = actor; row = rows.Sent job })

  own : (nav : NavId) (place : Place) (d : Document) → place_of after_update nav ≡ Some place → place.status ≡ awake job.doc → document_of s job.doc ≡ Some d → LeadsIn s (mailed job (desk_of s job.proc)) (addressed job.task d) place.given place.epoch
  own nav place d placed wakes there =
      let number : d.nr.0 ≡ job.doc.0 = find_has (λ (x : Document). x.nr.0) job.doc.0 s.documents d there in
      let but : LeadsBut job.doc s.history.rows (held_back s.requests s.parked) (desk_of s d.proc) d place.given place.epoch = each nav place job.doc d (kept.was_placed s event actor job long at task sent nav place placed) wakes there in
      let home : LeadsBut job.doc s.history.rows (held_back s.requests s.parked) (desk_of s job.proc) d place.given place.epoch = subst (λ (p : ProcId). LeadsBut job.doc s.history.rows (held_back s.requests s.parked) (desk_of s p) d place.given place.epoch) (sent.home d there) but in
      told_again s.history.rows (held_back s.requests s.parked) (desk_of s job.proc) d job long at place.given place.epoch task (is_mine d.nr (length (desk_of s job.proc).killed) job (sym number) sent.lives) (own_untold job.doc s (desk_of s job.proc) d place.given place.epoch number home)

  change : IsOneChange (LeadsIn s) s after_update job.proc (mailed job) job.doc (addressed job.task)
  change =
      record {
        desks = refl;
        documents = ap (λ (t : Task). documents_sent s job t) task ∙ ap (λ (t : Task). on_document job.doc (addressed t) s.documents) (sym task);
        keeps_proc = λ desk. refl;
        keeps_number = λ d. refl;
        stays = λ d. refl;
        home = sent.home;
        own = own;
        others = λ nav place at_ placed wakes apart. as_placed s nav place (kept.was_placed s event actor job long at task sent nav place placed);
        other = λ d given epoch apart leads. leads_alike s.history.rows (held_back s.requests s.parked) (desk_of s job.proc) (mailed job (desk_of s job.proc)) d d given epoch (mailed_other (held_back s.requests s.parked) (desk_of s job.proc) job d epoch apart) leads;
      }

  pub update_settles : EachLeads after_update
  update_settles =
      leads_again s after_update refl (ap (λ (asked : List Asked). held_back asked s.parked) (ap (λ (t : Task). requests_sent s job t s.requests) task))
      (one_settles (LeadsIn s) s after_update job.proc (mailed job) job.doc (addressed job.task) change
      (λ nav place at_ d placed wakes there apart. (let number : d.nr.0 ≡ at_.0 = find_has (λ (x : Document). x.nr.0) at_.0 s.documents d there in other_leads job.doc s.history.rows (held_back s.requests s.parked) (desk_of s d.proc) d place.given place.epoch (rw number (turned job.doc.0 at_.0 apart)) (each nav place at_ d placed wakes there))))
