-- A new epoch is new to each document of its navigable: no view is under it, no order shows under it, and nothing made under it is coming.
use Rattle.std.proofs.Common.{◌≡◌, ℕ, ◌<◌, ◌≤◌, Bool, true, false, cond, ◌&&◌, ◌==◌, List, [], ◌∷◌, ◌++◌, Some, refl, ap, ◌∙◌, arith}
use Rattle.std.specs.Prelude.{filter, filter_map}
use Rattle.std.proofs.lemmas.Bool.Decides.{nat_tests}
use Rattle.std.proofs.lemmas.List.Elements.{filter-append}
use Rattle.tab_ids.specs.declared.DocId.{DocId}
use Rattle.tab_ids.specs.declared.Epoch.{Epoch}
use Rattle.log_model.specs.declared.job.Job.{Job}
use Rattle.log_model.specs.declared.job.Task.{Task}
use Rattle.log_model.specs.declared.job.Task.TheVariants as tasks
use Rattle.log_model.specs.declared.made.Made.{Made}
use Rattle.log_model.specs.Views.{View}
use Rattle.log_model.specs.Seen.{Document, Desk}
use Rattle.log_model.specs.AfterRequests.{made_of_report}
use Rattle.seen_facts.specs.Coord.Leading.{orders_for, is_made_under, coming}
use Rattle.seen_facts.specs.Coord.Reaching.{shows_under}
use Rattle.seen_facts.specs.Coord.Epochs.{ShowsWithin, AllWithin, MadeWithin, IsWithin}
use Rattle.seen_facts.proofs.Coord.Reached.{NoneShows}

module _ (bound : ℕ) (epoch : Epoch) (new : bound < epoch.0) where
  shows_not : (task : Task) → ShowsWithin bound task → shows_under epoch task ≡ false
  shows_not (tasks.Activate entry under long index memo address) within = grind (arith, nat_tests)
  shows_not (tasks.Populate nav state address initial) within = refl
  shows_not (tasks.Update long index) within = refl
  shows_not tasks.Freeze within = refl
  shows_not tasks.Discard within = refl
  shows_not (tasks.Ask slot cause) within = refl
  shows_not (tasks.DoFragment req mode address) within = refl

  none_shows : (jobs : List Job) → AllWithin bound jobs → NoneShows epoch jobs
  none_shows [] within = tt
  none_shows (job ∷ jobs) within = (shows_not job.task within.0, none_shows jobs within.1)

  none_made : (doc : DocId) (mades : List Made) → MadeWithin bound doc mades → filter (is_made_under doc epoch) mades ≡ []
  none_made doc [] within = refl
  none_made doc (made ∷ mades) within = by_doc (made.doc.0 == doc.0) refl (none_made doc mades within.1)
    where
      by_doc : (b : Bool) → (made.doc.0 == doc.0) ≡ b → filter (is_made_under doc epoch) mades ≡ [] → cond (b && made.epoch.0 == epoch.0) (made ∷ filter (is_made_under doc epoch) mades) (filter (is_made_under doc epoch) mades) ≡ []
      by_doc true e more =
          let low : made.epoch.0 ≤ bound = within.0 (let same : made.doc.0 ≡ doc.0 = grind (arith, nat_tests, e) in same) in
          let away : (made.epoch.0 == epoch.0) ≡ false = grind (arith, nat_tests) in
          rw away more
      by_doc false e more = more

  -- of a document that is within the bound
  module _ (held : List Made) (desk : Desk) (d : Document) (is : IsWithin held desk d bound) where
    pub no_view : (view : View) → d.view ≡ Some view → view.epoch.0 ≡ epoch.0 → ⊥
    no_view view has at = omega (arith, is.view view has, at, new)

    pub no_order : NoneShows epoch (orders_for desk d.nr)
    no_order = none_shows (orders_for desk d.nr) is.orders

    pub nothing_comes : coming held desk d.nr epoch ≡ []
    nothing_comes =
        filter-append (is_made_under d.nr epoch) held (filter_map made_of_report desk.reports)
        ∙ ap (λ (l : List Made). l ++ filter (is_made_under d.nr epoch) (filter_map made_of_report desk.reports)) (none_made d.nr held is.held_back)
        ∙ none_made d.nr (filter_map made_of_report desk.reports) is.reports
