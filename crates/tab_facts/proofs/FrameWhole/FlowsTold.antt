-- A document is told length and index: what is true between two rows of the documents of all awake navigables stays, and of this one what it was told is its view's.
use Rattle.seen_facts.proofs.Coord.EachDocuments.{IsOneOfEach, each_stays}
use Rattle.seen_facts.proofs.Coord.Kept.{IsSentHome, is_mine}
use Rattle.seen_facts.proofs.Coord.Leadings.{IsOneChange, as_placed, one_stays}
use Rattle.seen_facts.proofs.Coord.OneDocument.{mailed, mailed_other, told_again}
use Rattle.seen_facts.proofs.Coord.Whose.{had_status, whose_one}
use Rattle.seen_facts.proofs.Coord.Within.{sent_apart, sent_within, within_more}
use Rattle.seen_facts.proofs.Coord.Withins.{unmoved}
use Rattle.seen_facts.specs.Coord.Epochs.{ShowsWithin}
use Rattle.seen_facts.specs.Coord.Leading.{held_back, is_live_order}
use Rattle.tab_facts.specs.FrameTab.Desks.{waiting}
use Rattle.tab_facts.specs.FrameTab.Whole.{IsFrameTab}
use Rattle.tab_facts.proofs.FrameWhole.FlowsAlike.{IfIn, WithinHand, if_again, if_alike, if_leads, untold_if, within_if}
use Rattle.tab_facts.specs.FrameWhole.Untold.{EachLeadsIf, FlowsIf, LeadsIf}
use Rattle.log_model.specs.After.{after, on_document}
use Rattle.log_model.specs.AfterDocuments.{addressed, documents_sent}
use Rattle.log_model.specs.AfterPlaces.{places_sent}
use Rattle.log_model.specs.AfterRequests.{requests_sent}
use Rattle.log_model.specs.Seen.{Asked, Document, Place, Seen, awake, desk_of, document_of, place_in, place_of}
use Rattle.log_model.specs.declared.job.Job.{Job}
use Rattle.log_model.specs.declared.job.Task.{Task}
use Rattle.log_model.specs.declared.made.Made.{Made}
use Rattle.log_model.specs.declared.row_kind.Actor.{Actor}
use Rattle.seen_laws.proofs.Keyed.{find_has}
use Rattle.std.proofs.Common.{List, Option, Some, ap, length, refl, subst, sym, true, ℕ, ◌++◌, ◌∙◌, ◌≡◌}
use Rattle.tab_ids.specs.declared.Death.{Death}
use Rattle.tab_ids.specs.declared.NavId.{NavId}
use Rattle.tab_ids.specs.declared.ProcId.{ProcId}
use Rattle.tab_ids.specs.declared.ReqId.{ReqId}
use Rattle.seen_facts.proofs.Coord.Reachings as reachings
use Rattle.log_model.specs.declared.job.Task.TheVariants as tasks
use Rattle.log_model.specs.declared.row_kind.RowKind.TheVariants as rows

-- ---- where an order goes

-- an order to the process of all documents, in its first incarnation
pub sent_home : (home : ProcId) (run : Option ReqId) (hand : List Made) (s : Seen) (job : Job) → IsFrameTab home run hand s → job.proc ≡ home → job.incarnation ≡ 0 → IsSentHome s job
sent_home home run hand s job tab to first =
    record {
      lives = first ∙ sym (ap (λ (l : List Death). length l) (tab.asked.died job.proc).1);
      home = λ d found. (tab.documents job.doc d found).alive.proc ∙ sym to;
    }

module _ (s : Seen) (event : ℕ) (actor : Actor) (hand : List Made) (job : Job) (long at : ℕ) (task : job.task ≡ tasks.Update long at) (sent : IsSentHome s job) where
  abbrev after_update : Seen
  after_update = after s (record { event = event; actor = actor; row = rows.Sent job })

  documents_are : after_update.documents ≡ on_document job.doc (addressed job.task) s.documents
  documents_are =
      ap (λ (t : Task). documents_sent s job t) task ∙ ap (λ (t : Task). on_document job.doc (addressed t) s.documents) (sym task)

  was_placed : (nav : NavId) (place : Place) → place_of after_update nav ≡ Some place → place_of s nav ≡ Some place
  was_placed nav place placed =
      ap (λ (places : List Place). place_in places nav) (sym (ap (λ (t : Task). places_sent s job t) task)) ∙ placed

  mine : (d : Document) → document_of s job.doc ≡ Some d → is_live_order d.nr (length (desk_of s job.proc).killed) job ≡ true
  mine d there =
      is_mine d.nr (length (desk_of s job.proc).killed) job (sym (find_has (λ (x : Document). x.nr.0) job.doc.0 s.documents d there)) sent.lives

  own : EachLeadsIf hand s → (nav : NavId) (place : Place) (d : Document) → place_of after_update nav ≡ Some place → place.status ≡ awake job.doc → document_of s job.doc ≡ Some d → IfIn hand s (mailed job (desk_of s job.proc)) (addressed job.task d) place.given place.epoch
  own each nav place d placed wakes there has =
      let was : LeadsIf s.history.rows (waiting s hand) (desk_of s d.proc) d place.given place.epoch = each nav place job.doc d (was_placed nav place placed) wakes there has in
      let here : LeadsIf s.history.rows (waiting s hand) (desk_of s job.proc) d place.given place.epoch = subst (λ (p : ProcId). LeadsIf s.history.rows (waiting s hand) (desk_of s p) d place.given place.epoch) (sent.home d there) was in
      if_leads s.history.rows (waiting s hand) (mailed job (desk_of s job.proc)) (addressed job.task d) place.given place.epoch
      (told_again s.history.rows (waiting s hand) (desk_of s job.proc) d job long at place.given place.epoch task (mine d there) (untold_if s.history.rows (waiting s hand) (desk_of s job.proc) d place.given place.epoch here))

  leads_change : EachLeadsIf hand s → IsOneChange (IfIn hand s) s after_update job.proc (mailed job) job.doc (addressed job.task)
  leads_change each =
      record {
        desks = refl;
        documents = documents_are;
        keeps_proc = λ desk. refl;
        keeps_number = λ d. refl;
        stays = λ d. refl;
        home = sent.home;
        own = own each;
        others = λ nav place at_ placed wakes apart. as_placed s nav place (was_placed nav place placed);
        other = λ d given epoch apart leads has. if_alike s.history.rows (waiting s hand) (desk_of s job.proc) (mailed job (desk_of s job.proc)) d d given epoch (mailed_other (waiting s hand) (desk_of s job.proc) job d epoch apart) (leads has);
      }

  within_change : IsOneOfEach (WithinHand hand s) s after_update job.proc (mailed job) job.doc (addressed job.task)
  within_change =
      record {
        desks = refl;
        documents = documents_are;
        keeps_proc = λ desk. refl;
        keeps_number = λ d. refl;
        stays = λ d. refl;
        stays_in = λ d. refl;
        had = λ nav place placed. unmoved s nav place (was_placed nav place placed);
        grows = λ desk d m n more is. within_more (waiting s hand) desk d m n more is;
        home = sent.home;
        own = λ d place there placed is. sent_within (waiting s hand) (desk_of s job.proc) d job place.epoch.0 (subst (ShowsWithin place.epoch.0) (sym task) tt) (mine d there) is;
        other = λ d bound apart is. sent_apart (waiting s hand) (desk_of s job.proc) d job bound apart is;
      }

  waits : waiting after_update hand ≡ waiting s hand
  waits =
      ap (λ (asked : List Asked). held_back asked s.parked ++ hand) (ap (λ (t : Task). requests_sent s job t s.requests) task)

  pub update_if : FlowsIf hand s → FlowsIf hand after_update
  update_if is =
      record {
        leads = if_again s after_update hand hand refl waits (one_stays (IfIn hand s) s after_update job.proc (mailed job) job.doc (addressed job.task) (leads_change is.leads) is.leads);
        whose = whose_one s after_update job.doc (addressed job.task) documents_are (λ d. refl) (λ d. refl) (had_status s after_update (λ nav place placed. as_placed s nav place (was_placed nav place placed))) is.whose;
        reaches = reachings.update_reach s event actor job long at task sent is.reaches;
        within = within_if s after_update hand hand waits (each_stays (WithinHand hand s) s after_update job.proc (mailed job) job.doc (addressed job.task) within_change is.within);
      }
