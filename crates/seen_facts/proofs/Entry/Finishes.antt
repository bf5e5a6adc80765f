-- What is known of entries, over an order that a process finishes: what a document made of it has a row of its own.
use Rattle.std.proofs.Common.{◌≡◌, ℕ, List, [], ◌∷◌, ◌++◌, Option, Some, None, refl, ◌∙◌, subst, append-nil}
use Rattle.std.specs.Prelude.{filter_map, option_map}
use Rattle.std.specs.Option.{option_map_or}
use Rattle.std.proofs.lemmas.List.Elements.{filter_map-append}
use Rattle.tab_ids.specs.declared.JobId.{JobId}
use Rattle.tab_ids.specs.declared.ProcId.{ProcId}
use Rattle.log_model.specs.declared.job.Job.{Job}
use Rattle.log_model.specs.declared.job.Order.{Order}
use Rattle.log_model.specs.declared.made.Made.{Made}
use Rattle.log_model.specs.declared.made.Report.TheVariants as reports
use Rattle.log_model.specs.declared.outcome.Outcome.{Outcome}
use Rattle.log_model.specs.declared.row_kind.Actor.{Actor}
use Rattle.log_model.specs.declared.row_kind.RowKind.TheVariants as rows
use Rattle.log_model.specs.After.{after, desk_finished}
use Rattle.log_model.specs.AfterDocuments.{task_in_hand}
use Rattle.log_model.specs.AfterRequests.{made_of_report}
use Rattle.log_model.specs.Seen.{Seen, Desk, desk_of}
use Rattle.seen_facts.proofs.Request.Readers.{finished_reads}
use Rattle.seen_facts.specs.Entry.Entries.{AreEntries, mades_of}
use Rattle.seen_facts.proofs.Entry.Docs.{DocsAre, MakesUnmade, finished_docs}
use Rattle.seen_facts.proofs.Entry.Parts.{KeepsAsked, SameTold, asked_read, deed, given_same, goes_entries, home_same, lists_same, same_shown, told_on, waits_same}

-- the report of a finished order tells of nothing made
finished_told : (outcome : Outcome) (desk : Desk) → mades_of (desk_finished outcome desk) ≡ mades_of desk
finished_told outcome desk = by_hand desk.in_hand
  where
    by_hand : (o : Option Order) → filter_map made_of_report (option_map_or (λ (order : Order). desk.reports ++ reports.Done order.job outcome None ∷ []) o desk.reports) ≡ mades_of desk
    by_hand None = refl
    by_hand (Some order) =
        filter_map-append made_of_report desk.reports (reports.Done order.job outcome None ∷ []) ∙ append-nil (mades_of desk)

-- an order in hand that makes a document is of one that isn't made yet
abbrev pub FinishesUnmade : Seen → ProcId → Type 0
FinishesUnmade s proc = (order : Order) → (desk_of s proc).in_hand ≡ Some order → MakesUnmade s.documents order.job

module _ (hand : List Made) (s : Seen) (event : ℕ) (actor : Actor) (are : AreEntries hand s) where
  pub finished_entries : (proc : ProcId) (job : JobId) (outcome : Outcome) → FinishesUnmade s proc → AreEntries hand (after s (record { event = event; actor = actor; row = rows.Finished proc job outcome }))
  finished_entries proc job outcome makes =
      goes_entries hand hand s t
      (record {
        g = docs.g;
        keeps = docs.keeps;
        applied = docs.applied;
        documents = docs.are;
        views = docs.views;
        lists = lists_same hand s t (record { parked = refl; asked = asked; told = told });
        waits = waits_same hand s t (record { parked = refl; asked = asked; told = told }) are;
        home = home_same hand s t told are;
        shown = same_shown s t refl;
        stays = record { history = refl; numbers = refl; given = given_same s.places; asked = asked };
      })
      are
    where
      t : Seen
      t = after s (record { event = event; actor = actor; row = rows.Finished proc job outcome })

      makes_in : (o : Option Order) → (desk_of s proc).in_hand ≡ o → (j : Job) → option_map (λ (order : Order). order.job) o ≡ Some j → MakesUnmade s.documents j
      makes_in None e j is = absurd cc
      makes_in (Some order) e j is = (let same : order.job ≡ j = cc in subst (MakesUnmade s.documents) same (makes order e))

      docs : DocsAre s.documents (after s (record { event = event; actor = actor; row = rows.Finished proc job outcome })).documents
      docs = finished_docs s.documents (task_in_hand s proc) outcome (makes_in (desk_of s proc).in_hand refl)

      asked : KeepsAsked s.requests (after s (record { event = event; actor = actor; row = rows.Finished proc job outcome })).requests
      asked =
          asked_read s.requests (after s (record { event = event; actor = actor; row = rows.Finished proc job outcome })).requests (finished_reads deed (record { moves = λ q a m. refl; asks = λ q a. refl; fragments = λ q d. refl; misses = λ q b. refl }) s (desk_of s proc).in_hand outcome s.requests)

      told : SameTold s (after s (record { event = event; actor = actor; row = rows.Finished proc job outcome }))
      told =
          told_on s (after s (record { event = event; actor = actor; row = rows.Finished proc job outcome })) proc (desk_finished outcome) refl (λ desk. refl) (finished_told outcome (desk_of s proc))
