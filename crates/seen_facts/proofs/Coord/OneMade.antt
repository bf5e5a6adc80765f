-- A document makes something: what is on its way for it stays so.
use Rattle.std.proofs.Common.{◌≡◌, ℕ, Bool, true, false, ◌||◌, ◌==◌, List, [], ◌∷◌, ◌++◌, Option, Some, None, refl, sym, ap, ◌∙◌, subst, arith, append-nil, append_assoc}
use Rattle.std.specs.Prelude.{filter, filter_map, fold, option_map}
use Rattle.std.specs.List.{list_any}
use Rattle.std.proofs.lemmas.Bool.Decides.{nat_tests}
use Rattle.std.proofs.lemmas.List.Elements.{filter-append, filter_map-append}
use Rattle.std.proofs.lemmas.List.Sums.{fold-append}
use Rattle.tab_ids.specs.declared.DocId.{DocId}
use Rattle.tab_ids.specs.declared.EntryId.{EntryId}
use Rattle.tab_ids.specs.declared.Epoch.{Epoch}
use Rattle.tab_ids.specs.declared.ReqId.{ReqId}
use Rattle.log_model.specs.declared.job.Job.{Job}
use Rattle.log_model.specs.declared.job.Task.{Task}
use Rattle.log_model.specs.declared.job.Task.TheVariants as tasks
use Rattle.log_model.specs.declared.made.Made.{Made}
use Rattle.log_model.specs.declared.made.What.{What}
use Rattle.log_model.specs.declared.made.What.TheVariants as whats
use Rattle.log_model.specs.declared.made.Report.{Report}
use Rattle.log_model.specs.declared.made.Report.TheVariants as reports
use Rattle.log_model.specs.declared.row.Row.{Row}
use Rattle.log_model.specs.Views.{View, fresh_view, after_task, after_made, made_for}
use Rattle.log_model.specs.Seen.{Document, Desk}
use Rattle.log_model.specs.After.{desk_made, reports_made}
use Rattle.log_model.specs.AfterDocuments.{view_finished}
use Rattle.log_model.specs.AfterRequests.{made_of_report}
use Rattle.log_model.proofs.Refl.{nat_eq_refl}
use Rattle.seen_laws.specs.Acting.{IsNoEdit}
use Rattle.seen_facts.specs.Coord.Leading.{orders_for, once_finished, is_made_under, coming, Face, face_of_view, face_after, is_push, Leads}
use Rattle.seen_facts.specs.Coord.Reaching.{is_telling, AllTell, Reaches}

some_same : {A : Type 0} {a b : A} → (let o : Option A = Some a in o) ≡ Some b → a ≡ b
some_same e = cc

-- ---- orders that tell

-- the pair that an order tells, if any
abbrev pub pair_after : ℕ × ℕ → Job → ℕ × ℕ
pair_after pair job = by_task pair job.task
  where
    by_task : ℕ × ℕ → Task → ℕ × ℕ
    by_task pair (tasks.Update length index) = (length, index)
    by_task pair _ = pair

-- the view with this pair
abbrev pub with_pair : View → ℕ × ℕ → View
with_pair view pair = record view { length = pair.0; index = pair.1 }

-- they change the pair alone
pub tells : (d : Document) (view : View) (jobs : List Job) → AllTell jobs → d.view ≡ Some view → (fold once_finished d jobs).view ≡ Some (with_pair view (fold pair_after (view.length, view.index) jobs))
tells d view [] all has = has
tells d view (job ∷ jobs) all has = by_task job.task refl all.0 (λ next more. tells (once_finished d job) next jobs all.1 more)
  where
    by_task : (task : Task) → job.task ≡ task → is_telling task ≡ true → ((next : View) → view_finished d job.task ≡ Some next → (fold once_finished (once_finished d job) jobs).view ≡ Some (with_pair next (fold pair_after (next.length, next.index) jobs))) → (fold once_finished (once_finished d job) jobs).view ≡ Some (with_pair view (fold pair_after (pair_after (view.length, view.index) job) jobs))
    by_task (tasks.Update long at) is telling more =
        let here : view_finished d job.task ≡ Some (with_pair view (long, at)) = ap (λ (t : Task). view_finished d t) is ∙ ap (λ (v : Option View). option_map (λ (v : View). after_task v (tasks.Update long at)) v) has in
        let pair : pair_after (view.length, view.index) job ≡ (long, at) = rw is refl in
        more (with_pair view (long, at)) here ∙ ap (λ (p : ℕ × ℕ). Some (with_pair view (fold pair_after p jobs))) (sym pair)
    by_task (tasks.Ask slot cause) is telling more =
        let here : view_finished d job.task ≡ Some view = ap (λ (t : Task). view_finished d t) is ∙ ap (λ (v : Option View). option_map (λ (v : View). after_task v (tasks.Ask slot cause)) v) has in
        let pair : pair_after (view.length, view.index) job ≡ (view.length, view.index) = rw is refl in
        more view here ∙ ap (λ (p : ℕ × ℕ). Some (with_pair view (fold pair_after p jobs))) (sym pair)
    by_task (tasks.DoFragment req mode address) is telling more =
        let here : view_finished d job.task ≡ Some view = ap (λ (t : Task). view_finished d t) is ∙ has in
        let pair : pair_after (view.length, view.index) job ≡ (view.length, view.index) = rw is refl in
        more view here ∙ ap (λ (p : ℕ × ℕ). Some (with_pair view (fold pair_after p jobs))) (sym pair)
    by_task _ is telling more = absurd cc

-- ---- orders that show the document anew

-- two views show the same, under one epoch, and both run or neither does
pub record ShowsAlike (one other : View) : Type 0 where
  pub face : face_of_view one ≡ face_of_view other
  pub length : one.length ≡ other.length
  pub index : one.index ≡ other.index
  pub epoch : one.epoch ≡ other.epoch
  pub runs : one.running ≡ other.running

-- two documents of one number: they show alike, or both have a view of an epoch that isn't this one
pub data AreAlike (epoch : Epoch) (one other : Document) : Type 0 where
  gone : one.view ≡ None → other.view ≡ None → AreAlike epoch one other
  shown : (view next : View) → one.view ≡ Some view → other.view ≡ Some next → ShowsAlike view next → AreAlike epoch one other
  apart : (view next : View) → one.view ≡ Some view → other.view ≡ Some next → view.epoch ≡ next.epoch → view.running ≡ next.running → (view.epoch.0 == epoch.0) ≡ false → AreAlike epoch one other

-- an order leaves them alike
alike_more : (epoch : Epoch) (one other : Document) (job : Job) → one.nr ≡ other.nr → AreAlike epoch one other → AreAlike epoch (once_finished one job) (once_finished other job)
alike_more epoch one other job nr (gone none_one none_other) = by_task job.task refl
  where
    none : (d : Document) (task : Task) (f : View → View) → d.view ≡ None → option_map f d.view ≡ None
    none d task f is = ap (λ (v : Option View). option_map f v) is

    by_task : (task : Task) → job.task ≡ task → AreAlike epoch (once_finished one job) (once_finished other job)
    by_task (tasks.Populate nav state address initial) is =
        shown (fresh_view one.nr address initial) (fresh_view other.nr address initial) (ap (λ (t : Task). view_finished one t) is) (ap (λ (t : Task). view_finished other t) is) (record { face = refl; length = refl; index = refl; epoch = refl; runs = refl })
    by_task tasks.Discard is =
        gone (ap (λ (t : Task). view_finished one t) is) (ap (λ (t : Task). view_finished other t) is)
    by_task (tasks.DoFragment req mode address) is =
        gone (ap (λ (t : Task). view_finished one t) is ∙ none_one) (ap (λ (t : Task). view_finished other t) is ∙ none_other)
    by_task (tasks.Activate entry under long at memo address) is =
        gone (ap (λ (t : Task). view_finished one t) is ∙ none one job.task (λ v. after_task v (tasks.Activate entry under long at memo address)) none_one) (ap (λ (t : Task). view_finished other t) is ∙ none other job.task (λ v. after_task v (tasks.Activate entry under long at memo address)) none_other)
    by_task (tasks.Update long at) is =
        gone (ap (λ (t : Task). view_finished one t) is ∙ none one job.task (λ v. after_task v (tasks.Update long at)) none_one) (ap (λ (t : Task). view_finished other t) is ∙ none other job.task (λ v. after_task v (tasks.Update long at)) none_other)
    by_task tasks.Freeze is =
        gone (ap (λ (t : Task). view_finished one t) is ∙ none one job.task (λ v. after_task v tasks.Freeze) none_one) (ap (λ (t : Task). view_finished other t) is ∙ none other job.task (λ v. after_task v tasks.Freeze) none_other)
    by_task (tasks.Ask slot cause) is =
        gone (ap (λ (t : Task). view_finished one t) is ∙ none one job.task (λ v. after_task v (tasks.Ask slot cause)) none_one) (ap (λ (t : Task). view_finished other t) is ∙ none other job.task (λ v. after_task v (tasks.Ask slot cause)) none_other)
alike_more epoch one other job nr (shown view next has_one has_other same) = by_task job.task refl
  where
    some : (d : Document) (v : View) (f : View → View) → d.view ≡ Some v → option_map f d.view ≡ Some (f v)
    some d v f is = ap (λ (v : Option View). option_map f v) is

    by_task : (task : Task) → job.task ≡ task → AreAlike epoch (once_finished one job) (once_finished other job)
    by_task (tasks.Populate nav state address initial) is =
        shown (fresh_view one.nr address initial) (fresh_view other.nr address initial) (ap (λ (t : Task). view_finished one t) is) (ap (λ (t : Task). view_finished other t) is) (record { face = refl; length = refl; index = refl; epoch = refl; runs = refl })
    by_task tasks.Discard is =
        gone (ap (λ (t : Task). view_finished one t) is) (ap (λ (t : Task). view_finished other t) is)
    by_task (tasks.DoFragment req mode address) is =
        shown view next (ap (λ (t : Task). view_finished one t) is ∙ has_one) (ap (λ (t : Task). view_finished other t) is ∙ has_other) same
    by_task (tasks.Activate entry under long at memo address) is =
        shown (after_task view (tasks.Activate entry under long at memo address)) (after_task next (tasks.Activate entry under long at memo address)) (ap (λ (t : Task). view_finished one t) is ∙ some one view (λ v. after_task v (tasks.Activate entry under long at memo address)) has_one) (ap (λ (t : Task). view_finished other t) is ∙ some other next (λ v. after_task v (tasks.Activate entry under long at memo address)) has_other) (record { face = refl; length = refl; index = refl; epoch = refl; runs = refl })
    by_task (tasks.Update long at) is =
        shown (after_task view (tasks.Update long at)) (after_task next (tasks.Update long at)) (ap (λ (t : Task). view_finished one t) is ∙ some one view (λ v. after_task v (tasks.Update long at)) has_one) (ap (λ (t : Task). view_finished other t) is ∙ some other next (λ v. after_task v (tasks.Update long at)) has_other) (record { face = same.face; length = refl; index = refl; epoch = same.epoch; runs = same.runs })
    by_task tasks.Freeze is =
        shown (after_task view tasks.Freeze) (after_task next tasks.Freeze) (ap (λ (t : Task). view_finished one t) is ∙ some one view (λ v. after_task v tasks.Freeze) has_one) (ap (λ (t : Task). view_finished other t) is ∙ some other next (λ v. after_task v tasks.Freeze) has_other) (record { face = same.face; length = same.length; index = same.index; epoch = same.epoch; runs = refl })
    by_task (tasks.Ask slot cause) is =
        shown view next (ap (λ (t : Task). view_finished one t) is ∙ some one view (λ v. after_task v (tasks.Ask slot cause)) has_one) (ap (λ (t : Task). view_finished other t) is ∙ some other next (λ v. after_task v (tasks.Ask slot cause)) has_other) same
alike_more epoch one other job nr (apart view next has_one has_other same runs away) = by_task job.task refl
  where
    some : (d : Document) (v : View) (f : View → View) → d.view ≡ Some v → option_map f d.view ≡ Some (f v)
    some d v f is = ap (λ (v : Option View). option_map f v) is

    by_task : (task : Task) → job.task ≡ task → AreAlike epoch (once_finished one job) (once_finished other job)
    by_task (tasks.Populate nav state address initial) is =
        shown (fresh_view one.nr address initial) (fresh_view other.nr address initial) (ap (λ (t : Task). view_finished one t) is) (ap (λ (t : Task). view_finished other t) is) (record { face = refl; length = refl; index = refl; epoch = refl; runs = refl })
    by_task tasks.Discard is =
        gone (ap (λ (t : Task). view_finished one t) is) (ap (λ (t : Task). view_finished other t) is)
    by_task (tasks.DoFragment req mode address) is =
        apart view next (ap (λ (t : Task). view_finished one t) is ∙ has_one) (ap (λ (t : Task). view_finished other t) is ∙ has_other) same runs away
    by_task (tasks.Activate entry under long at memo address) is =
        shown (after_task view (tasks.Activate entry under long at memo address)) (after_task next (tasks.Activate entry under long at memo address)) (ap (λ (t : Task). view_finished one t) is ∙ some one view (λ v. after_task v (tasks.Activate entry under long at memo address)) has_one) (ap (λ (t : Task). view_finished other t) is ∙ some other next (λ v. after_task v (tasks.Activate entry under long at memo address)) has_other) (record { face = refl; length = refl; index = refl; epoch = refl; runs = refl })
    by_task (tasks.Update long at) is =
        apart (after_task view (tasks.Update long at)) (after_task next (tasks.Update long at)) (ap (λ (t : Task). view_finished one t) is ∙ some one view (λ v. after_task v (tasks.Update long at)) has_one) (ap (λ (t : Task). view_finished other t) is ∙ some other next (λ v. after_task v (tasks.Update long at)) has_other) same runs away
    by_task tasks.Freeze is =
        apart (after_task view tasks.Freeze) (after_task next tasks.Freeze) (ap (λ (t : Task). view_finished one t) is ∙ some one view (λ v. after_task v tasks.Freeze) has_one) (ap (λ (t : Task). view_finished other t) is ∙ some other next (λ v. after_task v tasks.Freeze) has_other) same refl away
    by_task (tasks.Ask slot cause) is =
        apart view next (ap (λ (t : Task). view_finished one t) is ∙ some one view (λ v. after_task v (tasks.Ask slot cause)) has_one) (ap (λ (t : Task). view_finished other t) is ∙ some other next (λ v. after_task v (tasks.Ask slot cause)) has_other) same runs away

-- and so do many: where the first of them comes to the epoch, the other one shows alike
alike_at : (epoch : Epoch) (one other : Document) (jobs : List Job) (view : View) → one.nr ≡ other.nr → AreAlike epoch one other → (fold once_finished one jobs).view ≡ Some view → view.epoch ≡ epoch → (next : View) × ((fold once_finished other jobs).view ≡ Some next) × ShowsAlike view next
alike_at epoch one other [] view nr (gone none_one none_other) is at = absurd cc
alike_at epoch one other [] view nr (shown v next has_one has_other same) is at =
    let it : v ≡ view = some_same (sym has_one ∙ is) in
    (next, has_other, subst (λ (x : View). ShowsAlike x next) it same)
alike_at epoch one other [] view nr (apart v next has_one has_other same runs away) is at =
    let it : v ≡ view = some_same (sym has_one ∙ is) in
    let here : (v.epoch.0 == epoch.0) ≡ true = rw it (rw at (nat_eq_refl epoch.0)) in
    let no_ : true ≡ false = sym here ∙ away in absurd cc
alike_at epoch one other (job ∷ jobs) view nr alike is at =
    alike_at epoch (once_finished one job) (once_finished other job) jobs view nr (alike_more epoch one other job nr alike) is at

-- ---- what is made

-- it changes neither the number of the view's document, nor its epoch, nor whether it runs
made_keeps : (view : View) (what : What) → ((after_made view what).epoch ≡ view.epoch) × ((after_made view what).running ≡ view.running)
made_keeps view (whats.Push entry memo address) = (refl, refl)
made_keeps view (whats.Replace over entry memo address) = (refl, refl)
made_keeps view (whats.AddFrame nav) = (refl, refl)
made_keeps view (whats.RemoveFrame nav) = (refl, refl)
made_keeps view (whats.Go delta) = (refl, refl)
made_keeps view whats.Edit = (refl, refl)

-- its entry is shown then
made_shows : (view : View) (req : ReqId) (what : What) → face_after (face_of_view view) (made_for view req what) ≡ face_of_view (after_made view what)
made_shows view req (whats.Push entry memo address) = refl
made_shows view req (whats.Replace over entry memo address) = refl
made_shows view req (whats.AddFrame nav) = refl
made_shows view req (whats.RemoveFrame nav) = refl
made_shows view req (whats.Go delta) = refl
made_shows view req whats.Edit = refl

-- what is no push leaves the pair
made_pair : (view : View) (req : ReqId) (what : What) → is_push (made_for view req what) ≡ false → ((after_made view what).length, (after_made view what).index) ≡ (let p : ℕ × ℕ = (view.length, view.index) in p)
made_pair view req (whats.Push entry memo address) no_push = cc
made_pair view req (whats.Replace over entry memo address) no_push = refl
made_pair view req (whats.AddFrame nav) no_push = refl
made_pair view req (whats.RemoveFrame nav) no_push = refl
made_pair view req (whats.Go delta) no_push = refl
made_pair view req whats.Edit no_push = refl

-- all but an edit is reported
pub reported : (waiting : List Report) (made : Made) (what : What) → IsNoEdit what → reports_made waiting made what ≡ waiting ++ reports.Made made ∷ []
reported waiting made (whats.Push entry memo address) is = refl
reported waiting made (whats.Replace over entry memo address) is = refl
reported waiting made (whats.AddFrame nav) is = refl
reported waiting made (whats.RemoveFrame nav) is = refl
reported waiting made (whats.Go delta) is = refl
reported waiting made whats.Edit is = elim is [ ]

-- what a report tells of then: an edit isn't reported
abbrev pub told_of : Made → What → List Made
told_of made whats.Edit = []
told_of made _ = made ∷ []

pub told_so : (waiting : List Report) (made : Made) (what : What) → filter_map made_of_report (reports_made waiting made what) ≡ filter_map made_of_report waiting ++ told_of made what
told_so waiting made (whats.Push entry memo address) = filter_map-append made_of_report waiting (reports.Made made ∷ [])
told_so waiting made (whats.Replace over entry memo address) =
    filter_map-append made_of_report waiting (reports.Made made ∷ [])
told_so waiting made (whats.AddFrame nav) = filter_map-append made_of_report waiting (reports.Made made ∷ [])
told_so waiting made (whats.RemoveFrame nav) = filter_map-append made_of_report waiting (reports.Made made ∷ [])
told_so waiting made (whats.Go delta) = filter_map-append made_of_report waiting (reports.Made made ∷ [])
told_so waiting made whats.Edit = sym (append-nil (filter_map made_of_report waiting))

-- it is made under the epoch, or under another one
all_told : (doc : DocId) (epoch : Epoch) (made : Made) (what : What) → is_made_under doc epoch made ≡ true → filter (is_made_under doc epoch) (told_of made what) ≡ told_of made what
all_told doc epoch made (whats.Push entry memo address) mine = rw mine refl
all_told doc epoch made (whats.Replace over entry memo address) mine = rw mine refl
all_told doc epoch made (whats.AddFrame nav) mine = rw mine refl
all_told doc epoch made (whats.RemoveFrame nav) mine = rw mine refl
all_told doc epoch made (whats.Go delta) mine = rw mine refl
all_told doc epoch made whats.Edit mine = refl

pub none_told : (doc : DocId) (epoch : Epoch) (made : Made) (what : What) → is_made_under doc epoch made ≡ false → filter (is_made_under doc epoch) (told_of made what) ≡ []
none_told doc epoch made (whats.Push entry memo address) none = rw none refl
none_told doc epoch made (whats.Replace over entry memo address) none = rw none refl
none_told doc epoch made (whats.AddFrame nav) none = rw none refl
none_told doc epoch made (whats.RemoveFrame nav) none = rw none refl
none_told doc epoch made (whats.Go delta) none = rw none refl
none_told doc epoch made whats.Edit none = refl

-- an edit shows what was shown
told_face : (face : Face) (made : Made) (what : What) → made.what ≡ what → fold face_after face (told_of made what) ≡ face_after face made
told_face face made (whats.Push entry memo address) is = refl
told_face face made (whats.Replace over entry memo address) is = refl
told_face face made (whats.AddFrame nav) is = refl
told_face face made (whats.RemoveFrame nav) is = refl
told_face face made (whats.Go delta) is = refl
told_face face made whats.Edit is = rw is refl

-- what a report tells of is coming, where it was made under the epoch
pub coming_so : (held : List Made) (desk : Desk) (made : Made) (doc : DocId) (epoch : Epoch) → coming held (desk_made made desk) doc epoch ≡ coming held desk doc epoch ++ filter (is_made_under doc epoch) (told_of made made.what)
coming_so held desk made doc epoch =
    ap (λ (l : List Made). filter (is_made_under doc epoch) (held ++ l)) (told_so desk.reports made made.what)
    ∙ ap (λ (l : List Made). filter (is_made_under doc epoch) l) (sym (append_assoc held (filter_map made_of_report desk.reports) (told_of made made.what)))
    ∙ filter-append (is_made_under doc epoch) (held ++ filter_map made_of_report desk.reports) (told_of made made.what)

-- one more is coming, where it was made under the epoch
pub coming_made : (held : List Made) (desk : Desk) (made : Made) (doc : DocId) (epoch : Epoch) → IsNoEdit made.what → coming held (desk_made made desk) doc epoch ≡ coming held desk doc epoch ++ filter (is_made_under doc epoch) (made ∷ [])
coming_made held desk made doc epoch is =
    ap (λ (waiting : List Report). filter (is_made_under doc epoch) (held ++ filter_map made_of_report waiting)) (reported desk.reports made made.what is)
    ∙ ap (λ (l : List Made). filter (is_made_under doc epoch) (held ++ l)) (filter_map-append made_of_report desk.reports (reports.Made made ∷ []))
    ∙ ap (λ (l : List Made). filter (is_made_under doc epoch) l) (sym (append_assoc held (filter_map made_of_report desk.reports) (made ∷ [])))
    ∙ filter-append (is_made_under doc epoch) (held ++ filter_map made_of_report desk.reports) (made ∷ [])

any_append : (made : Made) (more : List Made) → list_any is_push (more ++ made ∷ []) ≡ false → (list_any is_push more ≡ false) × (is_push made ≡ false)
any_append made [] none = (refl, left (is_push made) false none)
  where
    left : (a b : Bool) → (a || b) ≡ false → a ≡ false
    left true b e = e
    left false b e = refl
any_append made (first ∷ more) none = by_first (is_push first) none (any_append made more)
  where
    by_first : (b : Bool) → (b || list_any is_push (more ++ made ∷ [])) ≡ false → (list_any is_push (more ++ made ∷ []) ≡ false → (list_any is_push more ≡ false) × (is_push made ≡ false)) → ((b || list_any is_push more) ≡ false) × (is_push made ≡ false)
    by_first true e rest = cc
    by_first false e rest = rest e

-- the same of what a report tells of
any_told : (made : Made) (what : What) → made.what ≡ what → (more : List Made) → list_any is_push (more ++ told_of made what) ≡ false → (list_any is_push more ≡ false) × (is_push made ≡ false)
any_told made (whats.Push entry memo address) is more none = any_append made more none
any_told made (whats.Replace over entry memo address) is more none = any_append made more none
any_told made (whats.AddFrame nav) is more none = any_append made more none
any_told made (whats.RemoveFrame nav) is more none = any_append made more none
any_told made (whats.Go delta) is more none = any_append made more none
any_told made whats.Edit is more none =
    (sym (ap (λ (l : List Made). list_any is_push l) (append-nil more)) ∙ none, rw is refl)

-- the document of the view, once it made something
abbrev pub once_made : What → Document → Document
once_made what d = record d { view = option_map (λ (view : View). after_made view what) d.view }

module _ (rows : List Row) (held : List Made) (desk : Desk) (d : Document) (view : View) (req : ReqId) (what : What) (given : Option EntryId) (epoch : Epoch) (has : d.view ≡ Some view) (its : view.doc ≡ d.nr) (reaches : Reaches desk d epoch) (leads : Leads rows held desk d given epoch) where
  abbrev made : Made
  made = made_for view req what

  has_made : (once_made what d).view ≡ Some (after_made view what)
  has_made = ap (λ (v : Option View). option_map (λ (v : View). after_made v what) v) has

  -- it is made under the epoch: the orders that come only tell, and what was made is the last that is coming
  under_it : (view.epoch.0 == epoch.0) ≡ true → Leads rows held (desk_made made desk) (once_made what d) given epoch
  under_it e =
      record {
        face = leads.face;
        is_given = leads.is_given;
        is_row = leads.is_row;
        view = with_pair (after_made view what) (fold pair_after ((after_made view what).length, (after_made view what).index) (orders_for desk d.nr));
        pending = tells (once_made what d) (after_made view what) (orders_for desk d.nr) all has_made;
        leads = ap (λ (l : List Made). fold face_after leads.face l) came ∙ fold-append face_after leads.face (coming held desk d.nr epoch) (told_of made what) ∙ told_face (fold face_after leads.face (coming held desk d.nr epoch)) made what refl ∙ ap (λ (f : Face). face_after f made) (leads.leads ∙ shows_same) ∙ made_shows view req what;
        runs = (made_keeps view what).1 ∙ sym (ap (λ (v : View). v.running) is_view) ∙ leads.runs;
        in_epoch = (made_keeps view what).0 ∙ sym (ap (λ (v : View). v.epoch) is_view) ∙ leads.in_epoch;
        pair = told;
      }
    where
      all : AllTell (orders_for desk d.nr)
      all = reaches.reached view has (let n : view.epoch.0 ≡ epoch.0 = grind (arith, nat_tests, e) in n)

      is_view : leads.view ≡ with_pair view (fold pair_after (view.length, view.index) (orders_for desk d.nr))
      is_view = some_same (sym leads.pending ∙ tells d view (orders_for desk d.nr) all has)

      shows_same : face_of_view leads.view ≡ face_of_view view
      shows_same = ap face_of_view is_view

      mine : is_made_under d.nr epoch made ≡ true
      mine = rw its (rw (nat_eq_refl d.nr.0) e)

      came : coming held (desk_made made desk) d.nr epoch ≡ coming held desk d.nr epoch ++ told_of made what
      came =
          coming_so held desk made d.nr epoch
          ∙ ap (λ (l : List Made). coming held desk d.nr epoch ++ l) (all_told d.nr epoch made what mine)

      told : list_any is_push (coming held (desk_made made desk) d.nr epoch) ≡ false → d.told ≡ Some ((with_pair (after_made view what) (fold pair_after ((after_made view what).length, (after_made view what).index) (orders_for desk d.nr))).length, (with_pair (after_made view what) (fold pair_after ((after_made view what).length, (after_made view what).index) (orders_for desk d.nr))).index)
      told none =
          let parts = any_told made what refl (coming held desk d.nr epoch) (sym (ap (λ (l : List Made). list_any is_push l) came) ∙ none) in
          leads.pair parts.0
          ∙ ap (λ (v : View). let o : Option (ℕ × ℕ) = Some (v.length, v.index) in o) is_view
          ∙ ap (λ (p : ℕ × ℕ). let o : Option (ℕ × ℕ) = Some ((fold pair_after p (orders_for desk d.nr)).0, (fold pair_after p (orders_for desk d.nr)).1) in o) (sym (made_pair view req what parts.1))

  -- it is made under an earlier epoch: it isn't coming, and an order that comes shows the document anew
  under_another : (view.epoch.0 == epoch.0) ≡ false → Leads rows held (desk_made made desk) (once_made what d) given epoch
  under_another e =
      let next = alike_at epoch d (once_made what d) (orders_for desk d.nr) leads.view refl (apart view (after_made view what) has has_made (sym (made_keeps view what).0) (sym (made_keeps view what).1) e) leads.pending leads.in_epoch in
      let none : is_made_under d.nr epoch made ≡ false = rw its (rw (nat_eq_refl d.nr.0) e) in
      let same : coming held (desk_made made desk) d.nr epoch ≡ coming held desk d.nr epoch = coming_so held desk made d.nr epoch ∙ ap (λ (l : List Made). coming held desk d.nr epoch ++ l) (none_told d.nr epoch made what none) ∙ append-nil (coming held desk d.nr epoch) in
      record {
        face = leads.face;
        is_given = leads.is_given;
        is_row = leads.is_row;
        view = next.0;
        pending = next.1;
        leads = ap (λ (l : List Made). fold face_after leads.face l) same ∙ leads.leads ∙ next.2.face;
        runs = sym next.2.runs ∙ leads.runs;
        in_epoch = sym next.2.epoch ∙ leads.in_epoch;
        pair = λ no_push. leads.pair (sym (ap (λ (l : List Made). list_any is_push l) same) ∙ no_push) ∙ ap (λ (n : ℕ). let o : Option (ℕ × ℕ) = Some (n, leads.view.index) in o) next.2.length ∙ ap (λ (n : ℕ). let o : Option (ℕ × ℕ) = Some (next.0.length, n) in o) next.2.index;
      }

  -- what leads for the document leads on as it makes something
  pub making_leads : Leads rows held (desk_made made desk) (once_made what d) given epoch
  making_leads = by_epoch (view.epoch.0 == epoch.0) refl
    where
      by_epoch : (b : Bool) → (view.epoch.0 == epoch.0) ≡ b → Leads rows held (desk_made made desk) (once_made what d) given epoch
      by_epoch true e = under_it e
      by_epoch false e = under_another e
