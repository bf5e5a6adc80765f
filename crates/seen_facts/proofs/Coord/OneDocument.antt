-- What is on its way for one document, and what a change of its process leaves of it.
use Rattle.std.proofs.Common.{◌≡◌, ℕ, Bool, true, false, ◌==◌, List, [], ◌∷◌, ◌++◌, length, Option, Some, None, refl, sym, ap, ◌∙◌, append-nil, append_assoc}
use Rattle.std.specs.Prelude.{filter, filter_map, fold, option_map, option_to_list, slice_get, drop}
use Rattle.std.specs.List.{list_any}
use Rattle.std.proofs.lemmas.List.Elements.{filter-append, filter_map-append}
use Rattle.std.proofs.lemmas.List.Sums.{fold-append}
use Rattle.tab_ids.specs.declared.DocId.{DocId}
use Rattle.tab_ids.specs.declared.EntryId.{EntryId}
use Rattle.tab_ids.specs.declared.Epoch.{Epoch}
use Rattle.log_model.specs.declared.job.Job.{Job}
use Rattle.log_model.specs.declared.job.Order.{Order}
use Rattle.log_model.specs.declared.job.Task.{Task}
use Rattle.log_model.specs.declared.job.Task.TheVariants as tasks
use Rattle.log_model.specs.declared.made.Made.{Made}
use Rattle.log_model.specs.declared.made.Report.TheVariants as reports
use Rattle.log_model.specs.declared.outcome.Outcome.{Outcome}
use Rattle.log_model.specs.declared.row.Row.{Row}
use Rattle.log_model.specs.Views.{View, after_task}
use Rattle.log_model.specs.Seen.{Document, Desk}
use Rattle.log_model.specs.After.{desk_finished, desk_taken}
use Rattle.log_model.specs.AfterDocuments.{view_finished, addressed}
use Rattle.log_model.specs.AfterRequests.{made_of_report}
use Rattle.seen_facts.specs.Coord.Leading.{orders_of_desk, is_live_order, orders_for, once_finished, pending_view, is_made_under, coming, Leads, LeadsUntold, face_after, is_push}

-- ---- what is read

-- the orders lead to the same view, the same is coming, and the same was told
pub record LooksAlike (held : List Made) (desk next_desk : Desk) (d next_d : Document) (epoch : Epoch) : Type 0 where
  pub pending : pending_view next_d next_desk ≡ pending_view d desk
  pub coming : coming held next_desk next_d.nr epoch ≡ coming held desk d.nr epoch
  pub told : next_d.told ≡ d.told

pub leads_alike : (rows : List Row) (held : List Made) (desk next_desk : Desk) (d next_d : Document) (given : Option EntryId) (epoch : Epoch) → LooksAlike held desk next_desk d next_d epoch → Leads rows held desk d given epoch → Leads rows held next_desk next_d given epoch
leads_alike rows held desk next_desk d next_d given epoch alike is =
    record {
      face = is.face;
      is_given = is.is_given;
      is_row = is.is_row;
      view = is.view;
      pending = alike.pending ∙ is.pending;
      leads = ap (λ (l : List Made). fold face_after is.face l) alike.coming ∙ is.leads;
      runs = is.runs;
      in_epoch = is.in_epoch;
      pair = λ none. alike.told ∙ is.pair (sym (ap (λ (l : List Made). list_any is_push l) alike.coming) ∙ none);
    }

-- ---- the finish of an order that makes nothing

-- its report tells of nothing made
coming_done : (held : List Made) (desk : Desk) (order : Order) (outcome : Outcome) (doc : DocId) (epoch : Epoch) → desk.in_hand ≡ Some order → coming held (desk_finished outcome desk) doc epoch ≡ coming held desk doc epoch
coming_done held desk order outcome doc epoch hand =
    let more : filter_map made_of_report (desk.reports ++ reports.Done order.job outcome None ∷ []) ≡ filter_map made_of_report desk.reports = filter_map-append made_of_report desk.reports (reports.Done order.job outcome None ∷ []) ∙ append-nil (filter_map made_of_report desk.reports) in
    rw hand (ap (λ (l : List Made). filter (is_made_under doc epoch) (held ++ l)) more)

pub orders_finished_own : (desk : Desk) (order : Order) (outcome : Outcome) (doc : DocId) → desk.in_hand ≡ Some order → is_live_order doc (length desk.killed) order.job ≡ true → order.job ∷ orders_for (desk_finished outcome desk) doc ≡ orders_for desk doc
orders_finished_own desk order outcome doc hand lives = rw hand (rw lives refl)

pub orders_finished_other : (desk : Desk) (order : Order) (outcome : Outcome) (doc : DocId) → desk.in_hand ≡ Some order → (order.job.doc.0 == doc.0) ≡ false → orders_for (desk_finished outcome desk) doc ≡ orders_for desk doc
orders_finished_other desk order outcome doc hand other = rw hand (rw other refl)

-- for its own document the finished order is one that is no longer to come
pub finished_own : (held : List Made) (desk : Desk) (order : Order) (outcome : Outcome) (d : Document) (epoch : Epoch) → desk.in_hand ≡ Some order → is_live_order d.nr (length desk.killed) order.job ≡ true → LooksAlike held desk (desk_finished outcome desk) d (once_finished d order.job) epoch
finished_own held desk order outcome d epoch hand lives =
    record {
      pending = ap (λ (orders : List Job). (fold once_finished d orders).view) (orders_finished_own desk order outcome d.nr hand lives);
      coming = coming_done held desk order outcome d.nr epoch hand;
      told = refl;
    }

pub finished_other : (held : List Made) (desk : Desk) (order : Order) (outcome : Outcome) (d : Document) (epoch : Epoch) → desk.in_hand ≡ Some order → (order.job.doc.0 == d.nr.0) ≡ false → LooksAlike held desk (desk_finished outcome desk) d d epoch
finished_other held desk order outcome d epoch hand other =
    record {
      pending = ap (λ (orders : List Job). (fold once_finished d orders).view) (orders_finished_other desk order outcome d.nr hand other);
      coming = coming_done held desk order outcome d.nr epoch hand;
      told = refl;
    }

-- ---- a live order is taken up

pub orders_taken : (desk : Desk) (job : Job) (dirty : Bool) → desk.in_hand ≡ None → slice_get desk.mail 0 ≡ Some job → orders_of_desk (desk_taken true dirty desk) ≡ orders_of_desk desk
orders_taken desk job dirty free first = rw (free, first) (by_mail desk.mail first)
  where
    by_mail : (mail : List Job) → slice_get mail 0 ≡ Some job → job ∷ drop 1 mail ≡ mail
    by_mail [] first = cc
    by_mail (one ∷ others) first =
        let same : one ≡ job = cc in ap (λ (j : Job). j ∷ others) (sym same)

pub taken_alike : (held : List Made) (desk : Desk) (job : Job) (dirty : Bool) (d : Document) (epoch : Epoch) → desk.in_hand ≡ None → slice_get desk.mail 0 ≡ Some job → LooksAlike held desk (desk_taken true dirty desk) d d epoch
taken_alike held desk job dirty d epoch free first =
    record {
      pending = ap (λ (orders : List Job). (fold once_finished d (filter (is_live_order d.nr (length desk.killed)) orders)).view) (orders_taken desk job dirty free first);
      coming = refl;
      told = refl;
    }

-- ---- an order is sent

-- one more order waits
abbrev pub mailed : Job → Desk → Desk
mailed job desk = record desk { mail = desk.mail ++ job ∷ [] }

pub orders_mailed : (job : Job) (desk : Desk) (doc : DocId) → orders_for (mailed job desk) doc ≡ orders_for desk doc ++ filter (is_live_order doc (length desk.killed)) (job ∷ [])
orders_mailed job desk doc =
    ap (λ (l : List Job). filter (is_live_order doc (length desk.killed)) l) (sym (append_assoc (option_to_list (option_map (λ (order : Order). order.job) desk.in_hand)) desk.mail (job ∷ [])))
    ∙ filter-append (is_live_order doc (length desk.killed)) (orders_of_desk desk) (job ∷ [])

-- an order to another document changes nothing for this one
pub mailed_other : (held : List Made) (desk : Desk) (job : Job) (d : Document) (epoch : Epoch) → (job.doc.0 == d.nr.0) ≡ false → LooksAlike held desk (mailed job desk) d d epoch
mailed_other held desk job d epoch other =
    let same : orders_for desk d.nr ++ filter (is_live_order d.nr (length desk.killed)) (job ∷ []) ≡ orders_for desk d.nr = rw other (append-nil (orders_for desk d.nr)) in
    record {
      pending = ap (λ (orders : List Job). (fold once_finished d orders).view) (orders_mailed job desk d.nr ∙ same);
      coming = refl;
      told = refl;
    }

-- orders make the same of documents of one number and one view
view_alike : (d e : Document) (task : Task) → d.nr ≡ e.nr → d.view ≡ e.view → view_finished d task ≡ view_finished e task
view_alike d e (tasks.Populate nav state address initial) nr view =
    ap (λ (n : DocId). view_finished (record e { nr = n }) (tasks.Populate nav state address initial)) nr
view_alike d e (tasks.Activate entry epoch long at memo address) nr view =
    ap (λ (v : Option View). option_map (λ (v : View). after_task v (tasks.Activate entry epoch long at memo address)) v) view
view_alike d e (tasks.Update long at) nr view = ap (λ (v : Option View). option_map (λ (v : View). after_task v (tasks.Update long at)) v) view
view_alike d e tasks.Freeze nr view = ap (λ (v : Option View). option_map (λ (v : View). after_task v tasks.Freeze) v) view
view_alike d e tasks.Discard nr view = refl
view_alike d e (tasks.Ask slot cause) nr view = ap (λ (v : Option View). option_map (λ (v : View). after_task v (tasks.Ask slot cause)) v) view
view_alike d e (tasks.DoFragment req mode address) nr view = view

pub views_alike : (d e : Document) (jobs : List Job) → d.nr ≡ e.nr → d.view ≡ e.view → (fold once_finished d jobs).view ≡ (fold once_finished e jobs).view
views_alike d e [] nr view = view
views_alike d e (job ∷ jobs) nr view = views_alike (once_finished d job) (once_finished e job) jobs nr (view_alike d e job.task nr view)

-- the view that one more order to the document leads to
pub pending_mailed : (d : Document) (desk : Desk) (job : Job) → is_live_order d.nr (length desk.killed) job ≡ true → pending_view (addressed job.task d) (mailed job desk) ≡ view_finished (fold once_finished d (orders_for desk d.nr)) job.task
pending_mailed d desk job mine =
    let one : filter (is_live_order d.nr (length desk.killed)) (job ∷ []) ≡ job ∷ [] = rw mine refl in
    views_alike (addressed job.task d) d (orders_for (mailed job desk) d.nr) refl refl
    ∙ ap (λ (orders : List Job). (fold once_finished d orders).view) (orders_mailed job desk d.nr ∙ ap (λ (l : List Job). orders_for desk d.nr ++ l) one)
    ∙ ap (λ (x : Document). x.view) (fold-append once_finished d (orders_for desk d.nr) (job ∷ []))

-- what leads does so whatever the document was told
pub untold : (rows : List Row) (held : List Made) (desk : Desk) (d : Document) (given : Option EntryId) (epoch : Epoch) → Leads rows held desk d given epoch → LeadsUntold rows held desk d given epoch
untold rows held desk d given epoch is =
    record {
      face = is.face;
      is_given = is.is_given;
      is_row = is.is_row;
      view = is.view;
      pending = is.pending;
      leads = is.leads;
      runs = is.runs;
      in_epoch = is.in_epoch;
    }

-- and where the document was told the pair of the view that its orders lead to, unless a push is coming, it leads in full
pub with_pair : (rows : List Row) (held : List Made) (desk : Desk) (d : Document) (given : Option EntryId) (epoch : Epoch) → LeadsUntold rows held desk d given epoch → ((view : View) → pending_view d desk ≡ Some view → list_any is_push (coming held desk d.nr epoch) ≡ false → d.told ≡ Some (view.length, view.index)) → Leads rows held desk d given epoch
with_pair rows held desk d given epoch is told =
    record {
      face = is.face;
      is_given = is.is_given;
      is_row = is.is_row;
      view = is.view;
      pending = is.pending;
      leads = is.leads;
      runs = is.runs;
      in_epoch = is.in_epoch;
      pair = λ none. told is.view is.pending none;
    }

-- an Update leads to a view with that length and index, and they were told last, whatever was told before
pub told_again : (rows : List Row) (held : List Made) (desk : Desk) (d : Document) (job : Job) (long at : ℕ) (given : Option EntryId) (epoch : Epoch) → job.task ≡ tasks.Update long at → is_live_order d.nr (length desk.killed) job ≡ true → LeadsUntold rows held desk d given epoch → Leads rows held (mailed job desk) (addressed job.task d) given epoch
told_again rows held desk d job long at given epoch task mine is =
    record {
      face = is.face;
      is_given = is.is_given;
      is_row = is.is_row;
      view = after_task is.view (tasks.Update long at);
      pending = pending_mailed d desk job mine ∙ ap (λ (t : Task). view_finished (fold once_finished d (orders_for desk d.nr)) t) task ∙ ap (λ (v : Option View). option_map (λ (v : View). after_task v (tasks.Update long at)) v) is.pending;
      leads = is.leads;
      runs = is.runs;
      in_epoch = is.in_epoch;
      pair = λ none. ap (λ (t : Task). (addressed t d).told) task;
    }

pub updated_leads : (rows : List Row) (held : List Made) (desk : Desk) (d : Document) (job : Job) (long at : ℕ) (given : Option EntryId) (epoch : Epoch) → job.task ≡ tasks.Update long at → is_live_order d.nr (length desk.killed) job ≡ true → Leads rows held desk d given epoch → Leads rows held (mailed job desk) (addressed job.task d) given epoch
updated_leads rows held desk d job long at given epoch task mine is =
    told_again rows held desk d job long at given epoch task mine (untold rows held desk d given epoch is)

-- an Activate leads from the new given entry on, where nothing is coming under the new epoch
pub activated_leads : (rows : List Row) (held : List Made) (desk : Desk) (d : Document) (job : Job) (view : View) (entry : EntryId) (epoch : Epoch) (long at : ℕ) (memo : Option (List ℕ)) (address : List ℕ) → job.task ≡ tasks.Activate entry epoch long at memo address → is_live_order d.nr (length desk.killed) job ≡ true → pending_view d desk ≡ Some view → coming held desk d.nr epoch ≡ [] → ((i : ℕ) (row : Row) → slice_get rows i ≡ Some row → row.entry ≡ entry → (row.address ≡ address) × (row.memo ≡ memo)) → Leads rows held (mailed job desk) (addressed job.task d) (Some entry) epoch
activated_leads rows held desk d job view entry epoch long at memo address task mine pending none shown =
    record {
      face = record { entry = entry; address = address; memo = memo };
      is_given = refl;
      is_row = shown;
      view = after_task view (tasks.Activate entry epoch long at memo address);
      pending = pending_mailed d desk job mine ∙ ap (λ (t : Task). view_finished (fold once_finished d (orders_for desk d.nr)) t) task ∙ ap (λ (v : Option View). option_map (λ (v : View). after_task v (tasks.Activate entry epoch long at memo address)) v) pending;
      leads = ap (λ (l : List Made). fold face_after (record { entry = entry; address = address; memo = memo }) l) none;
      runs = refl;
      in_epoch = refl;
      pair = λ no_push. ap (λ (t : Task). (addressed t d).told) task;
    }
