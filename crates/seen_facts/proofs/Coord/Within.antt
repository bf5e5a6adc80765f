-- No document comes under an epoch that its navigable hasn't come to, whatever happens to its orders and reports.
use Rattle.std.proofs.Common.{◌≡◌, ℕ, ◌≤◌, Bool, true, false, ◌==◌, List, [], ◌∷◌, ◌++◌, length, Option, Some, None, refl, sym, ◌∙◌, subst, arith, append-nil}
use Rattle.std.specs.Prelude.{filter, filter_map, option_map, slice_get}
use Rattle.std.proofs.lemmas.List.Elements.{filter_map-append}
use Rattle.tab_ids.specs.declared.DocId.{DocId}
use Rattle.log_model.specs.declared.job.Job.{Job}
use Rattle.log_model.specs.declared.job.Order.{Order}
use Rattle.log_model.specs.declared.job.Task.{Task}
use Rattle.log_model.specs.declared.job.Task.TheVariants as tasks
use Rattle.log_model.specs.declared.made.Made.{Made}
use Rattle.log_model.specs.declared.made.Report.TheVariants as reports
use Rattle.log_model.specs.declared.outcome.Outcome.{Outcome}
use Rattle.log_model.specs.Views.{View, fresh_view, after_task}
use Rattle.log_model.specs.Seen.{Document, Desk}
use Rattle.log_model.specs.After.{desk_finished, desk_taken}
use Rattle.log_model.specs.AfterDocuments.{view_finished, addressed}
use Rattle.log_model.specs.AfterRequests.{made_of_report}
use Rattle.seen_facts.specs.Coord.Leading.{orders_for, is_live_order, once_finished}
use Rattle.seen_facts.specs.Coord.Epochs.{ShowsWithin, AllWithin, MadeWithin, IsWithin}
use Rattle.seen_facts.proofs.Coord.OneDocument.{orders_finished_own, orders_finished_other, orders_taken, mailed, orders_mailed}
use Rattle.seen_facts.proofs.Coord.Reached.{mailed_own}

some_same : {A : Type 0} {a b : A} → (let o : Option A = Some a in o) ≡ Some b → a ≡ b
some_same e = cc

-- ---- a greater bound

shows_more : (m n : ℕ) → m ≤ n → (task : Task) → ShowsWithin m task → ShowsWithin n task
shows_more m n more (tasks.Activate entry under length index memo address) within = omega (arith, more, within)
shows_more m n more (tasks.Populate nav state address initial) within = tt
shows_more m n more (tasks.Update length index) within = tt
shows_more m n more tasks.Freeze within = tt
shows_more m n more tasks.Discard within = tt
shows_more m n more (tasks.Ask slot cause) within = tt
shows_more m n more (tasks.DoFragment req mode address) within = tt

all_more : (m n : ℕ) → m ≤ n → (jobs : List Job) → AllWithin m jobs → AllWithin n jobs
all_more m n more [] all = tt
all_more m n more (job ∷ jobs) all = (shows_more m n more job.task all.0, all_more m n more jobs all.1)

made_more : (m n : ℕ) → m ≤ n → (doc : DocId) (mades : List Made) → MadeWithin m doc mades → MadeWithin n doc mades
made_more m n more doc [] all = tt
made_more m n more doc (made ∷ mades) all = (λ its. (let low : made.epoch.0 ≤ m = all.0 its in omega (arith, more, low)), made_more m n more doc mades all.1)

pub within_more : (held : List Made) (desk : Desk) (d : Document) (m n : ℕ) → m ≤ n → IsWithin held desk d m → IsWithin held desk d n
within_more held desk d m n more is =
    record {
      view = λ view has. (let low : view.epoch.0 ≤ m = is.view view has in omega (arith, more, low));
      orders = all_more m n more (orders_for desk d.nr) is.orders;
      held_back = made_more m n more d.nr held is.held_back;
      reports = made_more m n more d.nr (filter_map made_of_report desk.reports) is.reports;
    }

-- ---- an order is finished

-- its report tells of nothing made
reports_done : (desk : Desk) (order : Order) (outcome : Outcome) → desk.in_hand ≡ Some order → filter_map made_of_report (desk_finished outcome desk).reports ≡ filter_map made_of_report desk.reports
reports_done desk order outcome hand =
    let more : filter_map made_of_report (desk.reports ++ reports.Done order.job outcome None ∷ []) ≡ filter_map made_of_report desk.reports = filter_map-append made_of_report desk.reports (reports.Done order.job outcome None ∷ []) ∙ append-nil (filter_map made_of_report desk.reports) in
    rw hand more

-- the view after an order is within the bound where the order shows within it
view_within : (d : Document) (bound : ℕ) (task : Task) → ShowsWithin bound task → ((view : View) → d.view ≡ Some view → view.epoch.0 ≤ bound) → (next : View) → view_finished d task ≡ Some next → next.epoch.0 ≤ bound
view_within d bound (tasks.Populate nav state address initial) shows was next has =
    let is : fresh_view d.nr address initial ≡ next = some_same has in
    subst (λ (v : View). v.epoch.0 ≤ bound) is (omega arith)
view_within d bound tasks.Discard shows was next has = absurd cc
view_within d bound (tasks.DoFragment req mode address) shows was next has = was next has
view_within d bound (tasks.Activate entry under long index memo address) shows was next has = by_view d.view has
  where
    by_view : (o : Option View) → option_map (λ (v : View). after_task v (tasks.Activate entry under long index memo address)) o ≡ Some next → next.epoch.0 ≤ bound
    by_view None e = absurd cc
    by_view (Some view) e = subst (λ (v : View). v.epoch.0 ≤ bound) (some_same e) shows
view_within d bound (tasks.Update long index) shows was next has = by_view d.view refl has
  where
    by_view : (o : Option View) → d.view ≡ o → option_map (λ (v : View). after_task v (tasks.Update long index)) o ≡ Some next → next.epoch.0 ≤ bound
    by_view None is e = absurd cc
    by_view (Some view) is e = subst (λ (v : View). v.epoch.0 ≤ bound) (some_same e) (was view is)
view_within d bound tasks.Freeze shows was next has = by_view d.view refl has
  where
    by_view : (o : Option View) → d.view ≡ o → option_map (λ (v : View). after_task v tasks.Freeze) o ≡ Some next → next.epoch.0 ≤ bound
    by_view None is e = absurd cc
    by_view (Some view) is e = subst (λ (v : View). v.epoch.0 ≤ bound) (some_same e) (was view is)
view_within d bound (tasks.Ask slot cause) shows was next has = by_view d.view refl has
  where
    by_view : (o : Option View) → d.view ≡ o → option_map (λ (v : View). after_task v (tasks.Ask slot cause)) o ≡ Some next → next.epoch.0 ≤ bound
    by_view None is e = absurd cc
    by_view (Some view) is e = subst (λ (v : View). v.epoch.0 ≤ bound) (some_same e) (was view is)

pub finished_within : (held : List Made) (desk : Desk) (order : Order) (outcome : Outcome) (d : Document) (bound : ℕ) → desk.in_hand ≡ Some order → is_live_order d.nr (length desk.killed) order.job ≡ true → IsWithin held desk d bound → IsWithin held (desk_finished outcome desk) (once_finished d order.job) bound
finished_within held desk order outcome d bound hand lives is =
    let all : ShowsWithin bound order.job.task × AllWithin bound (orders_for (desk_finished outcome desk) d.nr) = subst (AllWithin bound) (sym (orders_finished_own desk order outcome d.nr hand lives)) is.orders in
    record {
      view = view_within d bound order.job.task all.0 is.view;
      orders = all.1;
      held_back = is.held_back;
      reports = subst (MadeWithin bound d.nr) (sym (reports_done desk order outcome hand)) is.reports;
    }

pub finished_apart : (held : List Made) (desk : Desk) (order : Order) (outcome : Outcome) (d : Document) (bound : ℕ) → desk.in_hand ≡ Some order → (order.job.doc.0 == d.nr.0) ≡ false → IsWithin held desk d bound → IsWithin held (desk_finished outcome desk) d bound
finished_apart held desk order outcome d bound hand other is =
    record {
      view = is.view;
      orders = subst (AllWithin bound) (sym (orders_finished_other desk order outcome d.nr hand other)) is.orders;
      held_back = is.held_back;
      reports = subst (MadeWithin bound d.nr) (sym (reports_done desk order outcome hand)) is.reports;
    }

-- ---- an order is sent, and taken up

orders_more : (bound : ℕ) (jobs : List Job) (job : Job) → AllWithin bound jobs → ShowsWithin bound job.task → AllWithin bound (jobs ++ job ∷ [])
orders_more bound [] job all shows = (shows, tt)
orders_more bound (first ∷ jobs) job all shows = (all.0, orders_more bound jobs job all.1 shows)

pub sent_within : (held : List Made) (desk : Desk) (d : Document) (job : Job) (bound : ℕ) → ShowsWithin bound job.task → is_live_order d.nr (length desk.killed) job ≡ true → IsWithin held desk d bound → IsWithin held (mailed job desk) (addressed job.task d) bound
sent_within held desk d job bound shows mine is =
    record {
      view = is.view;
      orders = subst (AllWithin bound) (sym (mailed_own job desk d.nr mine)) (orders_more bound (orders_for desk d.nr) job is.orders shows);
      held_back = is.held_back;
      reports = is.reports;
    }

pub sent_apart : (held : List Made) (desk : Desk) (d : Document) (job : Job) (bound : ℕ) → (job.doc.0 == d.nr.0) ≡ false → IsWithin held desk d bound → IsWithin held (mailed job desk) d bound
sent_apart held desk d job bound other is =
    let same : orders_for desk d.nr ++ filter (is_live_order d.nr (length desk.killed)) (job ∷ []) ≡ orders_for desk d.nr = rw other (append-nil (orders_for desk d.nr)) in
    record {
      view = is.view;
      orders = subst (AllWithin bound) (sym (orders_mailed job desk d.nr ∙ same)) is.orders;
      held_back = is.held_back;
      reports = is.reports;
    }

pub taken_within : (held : List Made) (desk : Desk) (job : Job) (dirty : Bool) (d : Document) (bound : ℕ) → desk.in_hand ≡ None → slice_get desk.mail 0 ≡ Some job → IsWithin held desk d bound → IsWithin held (desk_taken true dirty desk) d bound
taken_within held desk job dirty d bound free first is =
    record {
      view = is.view;
      orders = subst (λ (orders : List Job). AllWithin bound (filter (is_live_order d.nr (length desk.killed)) orders)) (sym (orders_taken desk job dirty free first)) is.orders;
      held_back = is.held_back;
      reports = is.reports;
    }
