-- Each row of orders, and what a document makes, keep that once a document is under its navigable's epoch only orders come that leave what it shows.
use Rattle.std.proofs.Common.{◌≡◌, ℕ, Bool, true, length, Option, Some, None, refl, sym, ap, ◌∙◌, subst}
use Rattle.std.specs.Prelude.{slice_get}
use Rattle.tab_ids.specs.declared.EntryId.{EntryId}
use Rattle.tab_ids.specs.declared.Epoch.{Epoch}
use Rattle.tab_ids.specs.declared.NavId.{NavId}
use Rattle.tab_ids.specs.declared.ProcId.{ProcId}
use Rattle.log_model.specs.declared.job.Job.{Job}
use Rattle.log_model.specs.declared.job.Order.{Order}
use Rattle.log_model.specs.declared.job.Task.{Task}
use Rattle.log_model.specs.declared.job.Task.TheVariants as tasks
use Rattle.log_model.specs.declared.made.What.{What}
use Rattle.log_model.specs.declared.outcome.Outcome.{Outcome}
use Rattle.log_model.specs.declared.request.Poke.{Poke}
use Rattle.log_model.specs.declared.row_kind.Actor.{Actor}
use Rattle.log_model.specs.declared.row_kind.Actor.TheVariants as actors
use Rattle.log_model.specs.declared.row_kind.RowKind.TheVariants as rows
use Rattle.log_model.specs.Views.{View, made_for}
use Rattle.log_model.specs.Seen.{Seen, Document, Desk, Asked, desk_of}
use Rattle.log_model.specs.After.{after, on_desk, on_document, desk_finished, desk_taken, desk_delivered, desk_made, desks_made}
use Rattle.log_model.specs.AfterDocuments.{addressed, documents_sent}
use Rattle.seen_laws.specs.Acting.{IsToAct}
use Rattle.seen_laws.proofs.Keyed.{find_has}
use Rattle.seen_facts.specs.Coord.Leading.{once_finished}
use Rattle.seen_facts.specs.Coord.Reaching.{Reaches, EachReaches}
use Rattle.seen_facts.proofs.Coord.Leadings.{as_placed, IsOneChange, one_stays}
use Rattle.seen_facts.proofs.Coord.OneDocument.{mailed}
use Rattle.seen_facts.proofs.Coord.OneMade.{once_made}
use Rattle.seen_facts.proofs.Coord.Kept as kept
use Rattle.seen_facts.proofs.Coord.Kept.{IsInHand, IsPlainOutcome, IsSentHome, is_mine, unread_stays, same_places, desk_stays_on}
use Rattle.seen_facts.proofs.Coord.Arrived as arrived
use Rattle.seen_facts.proofs.Coord.Arrived.{IsFirstReport}
use Rattle.seen_facts.proofs.Coord.Makes as makes
use Rattle.seen_facts.proofs.Coord.Reached.{IsOfOne, taken_reaches, delivered_reaches, making_reaches, making_elsewhere, finished_reaches, finished_elsewhere, told_reaches, mailed_elsewhere}

-- the fact of one document
abbrev ReachesIn : Desk → Document → Option EntryId → Epoch → Type 0
ReachesIn desk d given epoch = Reaches desk d epoch

-- with the desk of its process
at_home : (s : Seen) (proc : ProcId) (d : Document) (epoch : Epoch) → d.proc ≡ proc → Reaches (desk_of s d.proc) d epoch → Reaches (desk_of s proc) d epoch
at_home s proc d epoch home is = subst (λ (p : ProcId). Reaches (desk_of s p) d epoch) home is

-- an order in hand is finished that doesn't make a document
module _ (s : Seen) (event : ℕ) (proc : ProcId) (order : Order) (outcome : Outcome) (in_ : IsInHand s proc order) (plain : IsPlainOutcome outcome) (of : IsOfOne order.job.task) where
  finished_change : EachReaches s → IsOneChange ReachesIn s (kept.after_finish s event proc order outcome in_ plain) proc (desk_finished outcome) order.job.doc (λ d. once_finished d order.job)
  finished_change each =
      record {
        desks = refl;
        documents = kept.finished_documents s event proc order outcome in_ plain;
        keeps_proc = λ desk. refl;
        keeps_number = λ d. refl;
        stays = λ d. refl;
        home = in_.home;
        own = λ nav place d placed wakes there. finished_reaches (desk_of s proc) order outcome d place.epoch in_.hand (is_mine d.nr (length (desk_of s proc).killed) order.job (sym (find_has (λ (x : Document). x.nr.0) order.job.doc.0 s.documents d there)) in_.lives) of (at_home s proc d place.epoch (in_.home d there) (each nav place order.job.doc d placed wakes there));
        others = λ nav place at placed wakes apart. as_placed s nav place placed;
        other = λ d given epoch apart is. finished_elsewhere (desk_of s proc) order outcome d epoch in_.hand apart is;
      }

  pub finished_reach : EachReaches s → EachReaches (kept.after_finish s event proc order outcome in_ plain)
  finished_reach each =
      one_stays ReachesIn s (kept.after_finish s event proc order outcome in_ plain) proc (desk_finished outcome) order.job.doc (λ d. once_finished d order.job) (finished_change each) each

-- an Update is sent
module _ (s : Seen) (event : ℕ) (actor : Actor) (job : Job) (long at : ℕ) (task : job.task ≡ tasks.Update long at) (sent : IsSentHome s job) where
  abbrev after_update : Seen
  after_update = after s (record { event = event; actor = actor; row = rows.Sent job })

  update_change : EachReaches s → IsOneChange ReachesIn s after_update job.proc (mailed job) job.doc (addressed job.task)
  update_change each =
      record {
        desks = refl;
        documents = ap (λ (t : Task). documents_sent s job t) task ∙ ap (λ (t : Task). on_document job.doc (addressed t) s.documents) (sym task);
        keeps_proc = λ desk. refl;
        keeps_number = λ d. refl;
        stays = λ d. refl;
        home = sent.home;
        own = λ nav place d placed wakes there. told_reaches (desk_of s job.proc) d job place.epoch (rw task refl) (is_mine d.nr (length (desk_of s job.proc).killed) job (sym (find_has (λ (x : Document). x.nr.0) job.doc.0 s.documents d there)) sent.lives) (at_home s job.proc d place.epoch (sent.home d there) (each nav place job.doc d (kept.was_placed s event actor job long at task sent nav place placed) wakes there));
        others = λ nav place at_ placed wakes apart. as_placed s nav place (kept.was_placed s event actor job long at task sent nav place placed);
        other = λ d given epoch apart is. mailed_elsewhere (desk_of s job.proc) d job epoch apart is;
      }

  pub update_reach : EachReaches s → EachReaches after_update
  update_reach each =
      one_stays ReachesIn s after_update job.proc (mailed job) job.doc (addressed job.task) (update_change each) each

-- a live order is taken up
module _ (s : Seen) (event : ℕ) (proc : ProcId) (job : Job) (dirty : Bool) (free : (desk_of s proc).in_hand ≡ None) (first : slice_get (desk_of s proc).mail 0 ≡ Some job) where
  abbrev after_taking : Seen
  after_taking =
      after s (record { event = event; actor = actors.Proc proc; row = rows.Taken proc job.nr true dirty })

  pub taken_reach : EachReaches s → EachReaches after_taking
  taken_reach each =
      unread_stays ReachesIn s after_taking
      (record {
        documents = refl;
        places = same_places s after_taking refl;
        stays_on = desk_stays_on ReachesIn s after_taking proc (desk_taken true dirty) refl (λ desk. refl) (λ d given epoch is. taken_reaches (desk_of s proc) job dirty d epoch free first is);
      })
      each

-- the report of an order that made nothing is delivered
module _ (s : Seen) (event : ℕ) (proc : ProcId) (job : Job) (outcome : Outcome) (first : IsFirstReport (desk_of s proc) job outcome) (plain : IsPlainOutcome outcome) where
  abbrev after_delivery : Seen
  after_delivery = after s (record { event = event; actor = actors.Coord; row = rows.Delivered proc })

  pub delivered_reach : EachReaches s → EachReaches after_delivery
  delivered_reach each =
      unread_stays ReachesIn s after_delivery
      (record {
        documents = arrived.documents_as s event proc job outcome first plain;
        places = arrived.places_before s event proc job outcome first plain;
        stays_on = desk_stays_on ReachesIn s after_delivery proc desk_delivered refl (λ desk. refl) (λ d given epoch is. delivered_reaches (desk_of s proc) d epoch is);
      })
      each

-- a document makes something of its first poke
module _ (s : Seen) (proc : ProcId) (poke : Poke) (q : Asked) (of : NavId) (d : Document) (view : View) (what : What) (acts : IsToAct s proc poke q of d view) (reaches : EachReaches s) where
  abbrev after_making : Seen
  after_making =
      after s (record { event = s.events; actor = actors.Proc proc; row = rows.Made proc (made_for view poke.req what) })

  made_change : IsOneChange ReachesIn s after_making proc (desk_made (made_for view poke.req what)) view.doc (once_made what)
  made_change =
      record {
        desks = ap (λ (b : Bool). on_desk proc (desks_made b (made_for view poke.req what)) s.desks) (makes.unfollowed s proc poke q of d view what acts reaches);
        documents = refl;
        keeps_proc = λ desk. refl;
        keeps_number = λ x. refl;
        stays = λ x. refl;
        home = λ x there. (let same : d ≡ x = (let some : Some d ≡ Some x = sym acts.there ∙ there in cc) in ap (λ (y : Document). y.proc) (sym same) ∙ acts.home);
        own = λ nav place x placed wakes there. (let same : d ≡ x = (let some : Some d ≡ Some x = sym acts.there ∙ there in cc) in let home : x.proc ≡ proc = ap (λ (y : Document). y.proc) (sym same) ∙ acts.home in making_reaches (desk_of s proc) (made_for view poke.req what) x what place.epoch (at_home s proc x place.epoch home (reaches nav place view.doc x placed wakes there)));
        others = λ nav place at placed wakes apart. as_placed s nav place placed;
        other = λ x given epoch apart has. making_elsewhere (desk_of s proc) (made_for view poke.req what) x epoch has;
      }

  pub made_reach : EachReaches after_making
  made_reach =
      one_stays ReachesIn s after_making proc (desk_made (made_for view poke.req what)) view.doc (once_made what) made_change reaches
