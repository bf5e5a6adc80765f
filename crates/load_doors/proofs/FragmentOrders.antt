-- A document is sent to a fragment, and the coordinator goes on working.
use Rattle.unasked.proofs.Nows.{sent_goes}
use Rattle.seen_facts.proofs.LoadTies.Rows.{sent_tied}
use Rattle.row_facts.proofs.LeaveRows.FragmentSends.{fragment_quiet}
use Rattle.log_model.specs.After.{after}
use Rattle.log_model.specs.AfterDocuments.{addressed}
use Rattle.log_model.specs.Seen.{Document, Seen}
use Rattle.log_model.specs.declared.job.Job.{Job}
use Rattle.log_model.specs.declared.job.Task.{Task}
use Rattle.log_model.specs.declared.request.Mode.{Mode}
use Rattle.log_model.specs.declared.row_kind.RowKind.{RowKind}
use Rattle.seen_facts.proofs.Request.Readers.{on_read}
use Rattle.seen_laws.specs.InEvent.{InEvent, now_of, row_of}
use Rattle.std.proofs.Common.{List, None, Some, [], arith, cond, false, inl, length, map, refl, subst, sym, true, ℕ, ◌++◌, ◌+◌, ◌==◌, ◌∷◌, ◌≡◌}
use Rattle.std.proofs.lemmas.List.{length-map}
use Rattle.tab_doors.proofs.Ahead.{step_sent}
use Rattle.tab_doors.proofs.EndLaws.{left_holds}
use Rattle.tab_doors.proofs.Requests.{moved_read, moved_same}
use Rattle.tab_doors.proofs.Sights.{sights_same}
use Rattle.tab_doors.proofs.Works.{few_sent, goal_on, goal_read, kept_on, runs_on, work_more}
use Rattle.tab_doors.specs.Look.{look_of, moved_by, sight}
use Rattle.tab_doors.specs.Orders.{order_to}
use Rattle.tab_doors.specs.Ties.{Holds}
use Rattle.tab_doors.specs.Working.{IsAtWork, MaySend}
use Rattle.tab_doors.specs.declared.tables.Tables.{Tables}
use Rattle.tab_ids.specs.declared.DocId.{DocId}
use Rattle.tab_ids.specs.declared.ReqId.{ReqId}
use Rattle.seen_facts.specs.Each.Runs.{is_run}
use Rattle.log_model.specs.declared.job.Task.TheVariants as tasks
use Rattle.log_model.specs.declared.job.Why.TheVariants as whys
use Rattle.log_model.specs.declared.row_kind.RowKind.TheVariants as rows

module _ (e : InEvent) (out : List RowKind) (t : Tables) (doc : DocId) (req : ReqId) (mode : Mode) (address : List ℕ) (work : IsAtWork e out t) where
  abbrev fragment : Task
  fragment = tasks.DoFragment req mode address

  abbrev pub order : Job
  order = order_to (now_of e out) doc (whys.Req req) fragment

  abbrev then_sent : Seen
  then_sent = after (now_of e out) (row_of e (rows.Sent order))

  sights : map sight then_sent.documents ≡ map sight (now_of e out).documents
  sights =
      sights_same (λ (d : Document). cond (d.nr.0 == doc.0) (addressed fragment d) d)
      (λ d. elim (d.nr.0 == doc.0) as (λ b. sight (cond b (addressed fragment d) d) ≡ sight d) [ true ↦ refl | false ↦ refl ]) (now_of e out).documents

  moved : moved_by then_sent.requests t.running ≡ moved_by (now_of e out).requests t.running
  moved =
      moved_same (now_of e out).requests then_sent.requests t.running (on_read moved_read (now_of e out).requests req (λ q. record q { fragment = Some doc }) (λ q. refl))

  -- all that the tables tell is as it was, but for how many orders were sent
  as_before : Holds (record (look_of then_sent t.running) { jobs = (now_of e out).jobs }) t
  as_before =
      left_holds (look_of (now_of e out) t.running) (record (look_of then_sent t.running) { jobs = (now_of e out).jobs }) t sights refl refl moved refl refl refl work.holds

  pub fragment_work : MaySend None e out order → e.checking req ≡ false → (u : Tables) → u ≡ record t { sent = u.sent } → length u.sent.items ≡ length t.sent.items + 1 → IsAtWork e (out ++ rows.Sent order ∷ []) u
  fragment_work may off u same more =
      subst (λ (x : Tables). IsAtWork e (out ++ rows.Sent order ∷ []) x) (sym same) (work_more e out (rows.Sent order) None t (record t { sent = u.sent }) work (sent_goes e out order refl) tt off tt
      (record {
        navs = record { navs = as_before.navs.navs; order = as_before.navs.order };
        documents = as_before.documents;
        whose = as_before.whose;
        shown = as_before.shown;
        last = as_before.last;
        history = as_before.history;
        numbered = as_before.numbered;
        states = as_before.states;
        entries = as_before.entries;
        sent = (let was : length t.sent.items ≡ (now_of e out).jobs + 1 = work.holds.sent in omega (arith, more, was));
      })
      (runs_on (now_of e out).requests then_sent.requests t t (on_read is_run (now_of e out).requests req (λ q. record q { fragment = Some doc }) (λ q. refl)) refl work.runs)
      (goal_on (now_of e out).requests then_sent.requests t t (on_read goal_read (now_of e out).requests req (λ q. record q { fragment = Some doc }) (λ q. refl)) refl refl work.goal)
      (few_sent (now_of e out).documents then_sent.documents (now_of e out).jobs (length-map (now_of e out).documents _) work.few)
      work.initial
      (sent_tied (now_of e out) e.event e.actor t.loads work.loads order tt)
      (kept_on (now_of e out) doc (addressed fragment) (λ d. refl) (λ d. refl) None t.kept t.kept work.kept refl)
      tt
      (step_sent e out None order (fragment_quiet e order req mode address refl) refl may)
      refl
      refl
      (inl refl))
