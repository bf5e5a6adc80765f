-- Once a document is under its navigable's epoch only orders come that leave what it shows: kept by each row of orders, and as the document makes something.
use Rattle.std.proofs.Common.{◌≡◌, ℕ, Bool, true, false, ◌==◌, List, [], ◌∷◌, ◌++◌, length, Option, Some, None, refl, sym, ap, ◌∙◌, subst, append-nil}
use Rattle.std.specs.Prelude.{filter, option_map, slice_get}
use Rattle.tab_ids.specs.declared.DocId.{DocId}
use Rattle.tab_ids.specs.declared.EntryId.{EntryId}
use Rattle.tab_ids.specs.declared.Epoch.{Epoch}
use Rattle.log_model.specs.declared.job.Job.{Job}
use Rattle.log_model.specs.declared.job.Order.{Order}
use Rattle.log_model.specs.declared.job.Task.{Task}
use Rattle.log_model.specs.declared.job.Task.TheVariants as tasks
use Rattle.log_model.specs.declared.made.Made.{Made}
use Rattle.log_model.specs.declared.made.What.{What}
use Rattle.log_model.specs.declared.made.What.TheVariants as whats
use Rattle.log_model.specs.declared.outcome.Outcome.{Outcome}
use Rattle.log_model.specs.Views.{View, after_task, after_made}
use Rattle.log_model.specs.Seen.{Document, Desk}
use Rattle.log_model.specs.After.{desk_finished, desk_taken, desk_made, desk_delivered}
use Rattle.log_model.specs.AfterDocuments.{view_finished, addressed}
use Rattle.log_model.proofs.Refl.{nat_eq_refl}
use Rattle.seen_facts.specs.Coord.Leading.{orders_for, is_live_order, once_finished}
use Rattle.seen_facts.specs.Coord.Reaching.{is_telling, AllTell, shows_under, LastShows, Reaches}
use Rattle.seen_facts.proofs.Coord.OneDocument.{orders_finished_own, orders_finished_other, orders_taken, mailed, orders_mailed}
use Rattle.seen_facts.proofs.Coord.OneMade.{once_made}

some_same : {A : Type 0} {a b : A} → (let o : Option A = Some a in o) ≡ Some b → a ≡ b
some_same e = cc

-- ---- the same orders

-- where the same orders come, and the view is as it was, or has the epoch that it had
pub reaches_alike : (desk next_desk : Desk) (d next_d : Document) (epoch : Epoch) → orders_for next_desk next_d.nr ≡ orders_for desk d.nr → ((next : View) → next_d.view ≡ Some next → (view : View) × (d.view ≡ Some view) × (view.epoch ≡ next.epoch)) → Reaches desk d epoch → Reaches next_desk next_d epoch
reaches_alike desk next_desk d next_d epoch same views is =
    record {
      reached = λ next has at. (let was = views next has in subst AllTell (sym same) (is.reached was.0 was.1 (ap (λ (e : Epoch). e.0) was.2 ∙ at)));
      last = subst (LastShows epoch) (sym same) is.last;
    }

as_it_was : (d : Document) (next : View) → d.view ≡ Some next → (view : View) × (d.view ≡ Some view) × (view.epoch ≡ next.epoch)
as_it_was d next has = (next, has, refl)

pub taken_reaches : (desk : Desk) (job : Job) (dirty : Bool) (d : Document) (epoch : Epoch) → desk.in_hand ≡ None → slice_get desk.mail 0 ≡ Some job → Reaches desk d epoch → Reaches (desk_taken true dirty desk) d epoch
taken_reaches desk job dirty d epoch free first is =
    reaches_alike desk (desk_taken true dirty desk) d d epoch (ap (λ (orders : List Job). filter (is_live_order d.nr (length desk.killed)) orders) (orders_taken desk job dirty free first)) (as_it_was d) is

pub delivered_reaches : (desk : Desk) (d : Document) (epoch : Epoch) → Reaches desk d epoch → Reaches (desk_delivered desk) d epoch
delivered_reaches desk d epoch is = reaches_alike desk (desk_delivered desk) d d epoch refl (as_it_was d) is

made_epoch : (view : View) (what : What) → view.epoch ≡ (after_made view what).epoch
made_epoch view (whats.Push entry memo address) = refl
made_epoch view (whats.Replace over entry memo address) = refl
made_epoch view (whats.AddFrame nav) = refl
made_epoch view (whats.RemoveFrame nav) = refl
made_epoch view (whats.Go delta) = refl
made_epoch view whats.Edit = refl

-- as the document makes something
pub making_reaches : (desk : Desk) (made : Made) (d : Document) (what : What) (epoch : Epoch) → Reaches desk d epoch → Reaches (desk_made made desk) (once_made what d) epoch
making_reaches desk made d what epoch is = reaches_alike desk (desk_made made desk) d (once_made what d) epoch refl (views d.view refl) is
  where
    views : (o : Option View) → d.view ≡ o → (next : View) → option_map (λ (view : View). after_made view what) d.view ≡ Some next → (view : View) × (d.view ≡ Some view) × (view.epoch ≡ next.epoch)
    views None e next has =
        let no_ : None ≡ Some next = sym (ap (λ (v : Option View). option_map (λ (view : View). after_made view what) v) e) ∙ has in absurd cc
    views (Some view) e next has =
        let is_ : after_made view what ≡ next = some_same (sym (ap (λ (v : Option View). option_map (λ (view : View). after_made view what) v) e) ∙ has) in
        (view, e, made_epoch view what ∙ ap (λ (v : View). v.epoch) is_)

pub making_elsewhere : (desk : Desk) (made : Made) (d : Document) (epoch : Epoch) → Reaches desk d epoch → Reaches (desk_made made desk) d epoch
making_elsewhere desk made d epoch is = reaches_alike desk (desk_made made desk) d d epoch refl (as_it_was d) is

-- ---- an order is finished

-- an order to a document that is there
abbrev pub IsOfOne : Task → Type 0
IsOfOne (tasks.Populate nav state address initial) = ⊥
IsOfOne _ = Unit {0}

pub finished_reaches : (desk : Desk) (order : Order) (outcome : Outcome) (d : Document) (epoch : Epoch) → desk.in_hand ≡ Some order → is_live_order d.nr (length desk.killed) order.job ≡ true → IsOfOne order.job.task → Reaches desk d epoch → Reaches (desk_finished outcome desk) (once_finished d order.job) epoch
finished_reaches desk order outcome d epoch hand lives of is =
    record {
      reached = λ next has at. by_task order.job.task refl of next has at;
      last = last.1;
    }
  where
    last : (shows_under epoch order.job.task ≡ true → AllTell (orders_for (desk_finished outcome desk) d.nr)) × LastShows epoch (orders_for (desk_finished outcome desk) d.nr)
    last =
        subst (LastShows epoch) (sym (orders_finished_own desk order outcome d.nr hand lives)) is.last

    -- the view had the epoch before, and all that came told
    before : (view : View) → d.view ≡ Some view → view.epoch.0 ≡ epoch.0 → AllTell (orders_for (desk_finished outcome desk) d.nr)
    before view has at =
        (let all : AllTell (order.job ∷ orders_for (desk_finished outcome desk) d.nr) = subst AllTell (sym (orders_finished_own desk order outcome d.nr hand lives)) (is.reached view has at) in all).1

    by_view : (f : View → View) → ((view : View) → (f view).epoch ≡ view.epoch) → (o : Option View) → d.view ≡ o → (next : View) → option_map f o ≡ Some next → next.epoch.0 ≡ epoch.0 → AllTell (orders_for (desk_finished outcome desk) d.nr)
    by_view f keeps None e next has at = absurd cc
    by_view f keeps (Some view) e next has at =
        let is_ : f view ≡ next = some_same has in
        before view e (ap (λ (k : Epoch). k.0) (sym (keeps view) ∙ ap (λ (v : View). v.epoch) is_) ∙ at)

    by_shown : (entry : EntryId) (under : Epoch) (long index : ℕ) (memo : Option (List ℕ)) (address : List ℕ) → order.job.task ≡ tasks.Activate entry under long index memo address → (o : Option View) → (next : View) → option_map (λ (v : View). after_task v (tasks.Activate entry under long index memo address)) o ≡ Some next → next.epoch.0 ≡ epoch.0 → AllTell (orders_for (desk_finished outcome desk) d.nr)
    by_shown entry under long index memo address task None next has at = absurd cc
    by_shown entry under long index memo address task (Some view) next has at =
        let is_ : after_task view (tasks.Activate entry under long index memo address) ≡ next = some_same has in
        let same : under.0 ≡ epoch.0 = ap (λ (v : View). v.epoch.0) is_ ∙ at in
        last.0 (ap (λ (t : Task). shows_under epoch t) task ∙ rw same (nat_eq_refl epoch.0))

    by_task : (task : Task) → order.job.task ≡ task → IsOfOne task → (next : View) → view_finished d order.job.task ≡ Some next → next.epoch.0 ≡ epoch.0 → AllTell (orders_for (desk_finished outcome desk) d.nr)
    by_task (tasks.Populate nav state address initial) task of next has at = elim of [ ]
    by_task tasks.Discard task of next has at =
        let no_ : None ≡ Some next = sym (ap (λ (t : Task). view_finished d t) task) ∙ has in absurd cc
    by_task (tasks.DoFragment req mode address) task of next has at =
        before next (sym (ap (λ (t : Task). view_finished d t) task) ∙ has) at
    by_task (tasks.Activate entry under long index memo address) task of next has at =
        by_shown entry under long index memo address task d.view next (sym (ap (λ (t : Task). view_finished d t) task) ∙ has) at
    by_task (tasks.Update long index) task of next has at =
        by_view (λ (v : View). after_task v (tasks.Update long index)) (λ v. refl) d.view refl next (sym (ap (λ (t : Task). view_finished d t) task) ∙ has) at
    by_task tasks.Freeze task of next has at =
        by_view (λ (v : View). after_task v tasks.Freeze) (λ v. refl) d.view refl next (sym (ap (λ (t : Task). view_finished d t) task) ∙ has) at
    by_task (tasks.Ask slot cause) task of next has at =
        by_view (λ (v : View). after_task v (tasks.Ask slot cause)) (λ v. refl) d.view refl next (sym (ap (λ (t : Task). view_finished d t) task) ∙ has) at

pub finished_elsewhere : (desk : Desk) (order : Order) (outcome : Outcome) (d : Document) (epoch : Epoch) → desk.in_hand ≡ Some order → (order.job.doc.0 == d.nr.0) ≡ false → Reaches desk d epoch → Reaches (desk_finished outcome desk) d epoch
finished_elsewhere desk order outcome d epoch hand other is =
    reaches_alike desk (desk_finished outcome desk) d d epoch (orders_finished_other desk order outcome d.nr hand other) (as_it_was d) is

-- ---- an order is sent

all_more : (jobs : List Job) (job : Job) → AllTell jobs → is_telling job.task ≡ true → AllTell (jobs ++ job ∷ [])
all_more [] job all telling = (telling, tt)
all_more (first ∷ jobs) job all telling = (all.0, all_more jobs job all.1 telling)

last_more : (epoch : Epoch) (jobs : List Job) (job : Job) → LastShows epoch jobs → is_telling job.task ≡ true → LastShows epoch (jobs ++ job ∷ [])
last_more epoch [] job last telling = (λ shows. tt, tt)
last_more epoch (first ∷ jobs) job last telling = (λ shows. all_more jobs job (last.0 shows) telling, last_more epoch jobs job last.1 telling)

pub mailed_own : (job : Job) (desk : Desk) (doc : DocId) → is_live_order doc (length desk.killed) job ≡ true → orders_for (mailed job desk) doc ≡ orders_for desk doc ++ job ∷ []
mailed_own job desk doc mine = orders_mailed job desk doc ∙ ap (λ (l : List Job). orders_for desk doc ++ l) (rw mine refl)

-- an order that leaves what the document shows
pub told_reaches : (desk : Desk) (d : Document) (job : Job) (epoch : Epoch) → is_telling job.task ≡ true → is_live_order d.nr (length desk.killed) job ≡ true → Reaches desk d epoch → Reaches (mailed job desk) (addressed job.task d) epoch
told_reaches desk d job epoch telling mine is =
    record {
      reached = λ view has at. subst AllTell (sym (mailed_own job desk d.nr mine)) (all_more (orders_for desk d.nr) job (is.reached view has at) telling);
      last = subst (LastShows epoch) (sym (mailed_own job desk d.nr mine)) (last_more epoch (orders_for desk d.nr) job is.last telling);
    }

pub mailed_elsewhere : (desk : Desk) (d : Document) (job : Job) (epoch : Epoch) → (job.doc.0 == d.nr.0) ≡ false → Reaches desk d epoch → Reaches (mailed job desk) d epoch
mailed_elsewhere desk d job epoch other is =
    reaches_alike desk (mailed job desk) d d epoch (orders_mailed job desk d.nr ∙ (let same : orders_for desk d.nr ++ filter (is_live_order d.nr (length desk.killed)) (job ∷ []) ≡ orders_for desk d.nr = rw other (append-nil (orders_for desk d.nr)) in same)) (as_it_was d) is

-- none of the orders shows the document under the epoch
abbrev pub NoneShows : Epoch → List Job → Type 0
NoneShows epoch [] = Unit {0}
NoneShows epoch (job ∷ jobs) = (shows_under epoch job.task ≡ false) × NoneShows epoch jobs

first_shows : (epoch : Epoch) (jobs : List Job) (job : Job) → NoneShows epoch jobs → LastShows epoch (jobs ++ job ∷ [])
first_shows epoch [] job none = (λ shows. tt, tt)
first_shows epoch (first ∷ jobs) job none =
    (λ shows. (let no_ : true ≡ false = sym shows ∙ none.0 in absurd cc), first_shows epoch jobs job none.1)

-- an Activate under an epoch that is new to the document
pub shown_reaches : (desk : Desk) (d : Document) (job : Job) (epoch : Epoch) → is_live_order d.nr (length desk.killed) job ≡ true → ((view : View) → d.view ≡ Some view → view.epoch.0 ≡ epoch.0 → ⊥) → NoneShows epoch (orders_for desk d.nr) → Reaches (mailed job desk) (addressed job.task d) epoch
shown_reaches desk d job epoch mine new none =
    record {
      reached = λ view has at. absurd (new view has at);
      last = subst (LastShows epoch) (sym (mailed_own job desk d.nr mine)) (first_shows epoch (orders_for desk d.nr) job none);
    }
