-- A document is sent to a fragment: what is true between two rows of the documents of all awake navigables stays.
-- This project's own.
use Rattle.seen_facts.proofs.Coord.EachDocuments.{IsOneOfEach, each_stays}
use Rattle.seen_facts.proofs.Coord.Kept.{IsSentHome, is_mine}
use Rattle.seen_facts.proofs.Coord.Leadings.{as_placed, one_stays}
use Rattle.seen_facts.proofs.Coord.OneDocument.{mailed, mailed_other, pending_mailed}
use Rattle.seen_facts.proofs.Coord.Reached.{mailed_elsewhere, told_reaches}
use Rattle.seen_facts.proofs.Coord.Unread.{next}
use Rattle.seen_facts.proofs.Coord.Whose.{had_status, whose_one}
use Rattle.seen_facts.proofs.Coord.Within.{sent_apart, sent_within, within_more}
use Rattle.seen_facts.proofs.Coord.Withins.{unmoved}
use Rattle.seen_facts.specs.Coord.Epochs.{ShowsWithin}
use Rattle.seen_facts.specs.Coord.Leading.{EachAwake, is_live_order, once_finished, orders_for}
use Rattle.seen_facts.specs.Coord.Reaching.{Reaches, is_telling}
use Rattle.seen_facts.specs.Entry.Entries.{waiting}
use Rattle.tab_facts.proofs.FrameWhole.FlowsAlike.{IfIn, WithinHand, if_again, if_alike, within_if}
use Rattle.tab_facts.proofs.FrameWhole.FlowsShown.{sent_waits}
use Rattle.tab_facts.specs.FrameWhole.Untold.{FlowsIf, LeadsIf}
use Rattle.log_model.specs.After.{on_document}
use Rattle.log_model.specs.AfterDocuments.{addressed, documents_sent, told_by, view_finished}
use Rattle.log_model.specs.AfterPlaces.{places_sent}
use Rattle.log_model.specs.Seen.{Desk, Document, Place, Seen, desk_of, document_of, place_in, place_of}
use Rattle.log_model.specs.declared.job.Job.{Job}
use Rattle.log_model.specs.declared.job.Task.{Task}
use Rattle.log_model.specs.declared.made.Made.{Made}
use Rattle.log_model.specs.declared.request.Mode.{Mode}
use Rattle.log_model.specs.declared.row.Row.{Row}
use Rattle.log_model.specs.declared.row_kind.Actor.{Actor}
use Rattle.seen_laws.proofs.Keyed.{find_has}
use Rattle.std.proofs.Common.{List, Option, Some, ap, false, fold, length, refl, subst, sym, true, ℕ, ◌==◌, ◌∙◌, ◌≡◌}
use Rattle.std.specs.Prelude.{is_some}
use Rattle.tab_ids.specs.declared.EntryId.{EntryId}
use Rattle.tab_ids.specs.declared.Epoch.{Epoch}
use Rattle.tab_ids.specs.declared.NavId.{NavId}
use Rattle.tab_ids.specs.declared.ProcId.{ProcId}
use Rattle.tab_ids.specs.declared.ReqId.{ReqId}
use Rattle.log_model.specs.declared.job.Task.TheVariants as tasks
use Rattle.log_model.specs.declared.row_kind.RowKind.TheVariants as rows

module _ (s : Seen) (event : ℕ) (actor : Actor) (hand : List Made) (job : Job) (req : ReqId) (mode : Mode) (address : List ℕ) (task : job.task ≡ tasks.DoFragment req mode address) (sent : IsSentHome s job) where
  abbrev pub ordered : Seen
  ordered = next s event actor (rows.Sent job)

  -- the orders lead to the view that they led to, and the document was told nothing
  ordered_leads : (rows_ : List Row) (held : List Made) (desk : Desk) (d : Document) (given : Option EntryId) (epoch : Epoch) → is_live_order d.nr (length desk.killed) job ≡ true → LeadsIf rows_ held desk d given epoch → LeadsIf rows_ held (mailed job desk) (addressed job.task d) given epoch
  ordered_leads rows_ held desk d given epoch mine is =
      record {
        face = is.face;
        is_given = is.is_given;
        is_row = is.is_row;
        view = is.view;
        pending = pending_mailed d desk job mine ∙ ap (λ (t : Task). view_finished (fold once_finished d (orders_for desk d.nr)) t) task ∙ is.pending;
        leads = is.leads;
        runs = is.runs;
        in_epoch = is.in_epoch;
        pair = λ none told. same ∙ is.pair none (sym (ap (λ (o : Option (ℕ × ℕ)). is_some o) same) ∙ told);
      }
    where
      same : told_by d.told job.task ≡ d.told
      same = ap (λ (t : Task). told_by d.told t) task

  documents_are : ordered.documents ≡ on_document job.doc (addressed job.task) s.documents
  documents_are =
      ap (λ (t : Task). documents_sent s job t) task ∙ ap (λ (t : Task). on_document job.doc (addressed t) s.documents) (sym task)

  was_placed : (nav : NavId) (place : Place) → place_of ordered nav ≡ Some place → place_of s nav ≡ Some place
  was_placed nav place placed =
      ap (λ (l : List Place). place_in l nav) (sym (ap (λ (t : Task). places_sent s job t) task)) ∙ placed

  mine : (d : Document) → document_of s job.doc ≡ Some d → is_live_order d.nr (length (desk_of s job.proc).killed) job ≡ true
  mine d there =
      is_mine d.nr (length (desk_of s job.proc).killed) job (sym (find_has (λ (x : Document). x.nr.0) job.doc.0 s.documents d there)) sent.lives

  telling : is_telling job.task ≡ true
  telling = ap is_telling task

  order_stays : (F : Desk → Document → Option EntryId → Epoch → Type 0) → ((d : Document) (given : Option EntryId) (epoch : Epoch) → document_of s job.doc ≡ Some d → F (desk_of s job.proc) d given epoch → F (mailed job (desk_of s job.proc)) (addressed job.task d) given epoch) → ((x : Document) (given : Option EntryId) (epoch : Epoch) → (job.doc.0 == x.nr.0) ≡ false → F (desk_of s job.proc) x given epoch → F (mailed job (desk_of s job.proc)) x given epoch) → EachAwake F s → EachAwake F ordered
  order_stays F own other each =
      one_stays F s ordered job.proc (mailed job) job.doc (addressed job.task)
      (record {
        desks = refl;
        documents = documents_are;
        keeps_proc = λ desk. refl;
        keeps_number = λ d. refl;
        stays = λ d. refl;
        home = sent.home;
        own = λ nav place d placed wakes there. own d place.given place.epoch there (subst (λ (p : ProcId). F (desk_of s p) d place.given place.epoch) (sent.home d there) (each nav place job.doc d (was_placed nav place placed) wakes there));
        others = λ nav place at placed wakes apart. as_placed s nav place (was_placed nav place placed);
        other = other;
      })
      each

  within_change : IsOneOfEach (WithinHand hand s) s ordered job.proc (mailed job) job.doc (addressed job.task)
  within_change =
      record {
        desks = refl;
        documents = documents_are;
        keeps_proc = λ desk. refl;
        keeps_number = λ d. refl;
        stays = λ d. refl;
        stays_in = λ d. refl;
        had = λ nav place placed. unmoved s nav place (was_placed nav place placed);
        grows = λ desk d m n more is. within_more (waiting s hand) desk d m n more is;
        home = sent.home;
        own = λ d place there placed is. sent_within (waiting s hand) (desk_of s job.proc) d job place.epoch.0 (subst (ShowsWithin place.epoch.0) (sym task) tt) (mine d there) is;
        other = λ d bound apart is. sent_apart (waiting s hand) (desk_of s job.proc) d job bound apart is;
      }

  pub fragment_if : FlowsIf hand s → FlowsIf hand ordered
  fragment_if flows =
      record {
        leads = if_again s ordered hand hand refl (sent_waits s event actor hand job) (order_stays (IfIn hand s) (λ d given epoch there leads has. ordered_leads s.history.rows (waiting s hand) (desk_of s job.proc) d given epoch (mine d there) (leads has)) (λ x given epoch apart leads has. if_alike s.history.rows (waiting s hand) (desk_of s job.proc) (mailed job (desk_of s job.proc)) x x given epoch (mailed_other (waiting s hand) (desk_of s job.proc) job x epoch apart) (leads has)) flows.leads);
        whose = whose_one s ordered job.doc (addressed job.task) documents_are (λ d. refl) (λ d. refl) (had_status s ordered (λ nav place placed. as_placed s nav place (was_placed nav place placed))) flows.whose;
        reaches = order_stays (λ desk x given epoch. Reaches desk x epoch) (λ d given epoch there reaches. told_reaches (desk_of s job.proc) d job epoch telling (mine d there) reaches) (λ x given epoch apart reaches. mailed_elsewhere (desk_of s job.proc) x job epoch apart reaches) flows.reaches;
        within = within_if s ordered hand hand (sent_waits s event actor hand job) (each_stays (WithinHand hand s) s ordered job.proc (mailed job) job.doc (addressed job.task) within_change flows.within);
      }
