-- The questions that wait, over a change of desks in what isn't read: as a poke comes or goes, an order is taken, something is made, and as the log opens.
use Rattle.std.proofs.Common.{◌≡◌, ◌⊎◌, inl, inr, ℕ, ◌+◌, ◌≤◌, Bool, true, false, cond, ◌==◌, List, [], ◌∷◌, ◌++◌, map, length, Option, Some, None, refl, sym, ap, ◌∙◌, subst, arith}
use Rattle.std.specs.Prelude.{if◌then◌else◌, drop, option_map, slice_get}
use Rattle.tab_ids.specs.declared.DocId.{DocId}
use Rattle.tab_ids.specs.declared.ProcId.{ProcId}
use Rattle.tab_ids.specs.declared.ReqId.{ReqId}
use Rattle.log_model.specs.declared.action.Action.{Action}
use Rattle.log_model.specs.declared.job.Job.{Job}
use Rattle.log_model.specs.declared.job.Order.{Order}
use Rattle.log_model.specs.declared.made.Made.{Made}
use Rattle.log_model.specs.declared.made.What.{What}
use Rattle.log_model.specs.declared.made.What.TheVariants as whats
use Rattle.log_model.specs.declared.made.Report.{Report}
use Rattle.log_model.specs.declared.made.Report.TheVariants as reports
use Rattle.log_model.specs.declared.request.Request.{Request}
use Rattle.log_model.specs.declared.request.Request.TheVariants as requests
use Rattle.log_model.specs.declared.row_kind.Actor.{Actor}
use Rattle.log_model.specs.declared.row_kind.Actor.TheVariants as actors
use Rattle.log_model.specs.declared.row_kind.LogRow.{LogRow}
use Rattle.log_model.specs.declared.row_kind.RowKind.TheVariants as rows
use Rattle.log_model.specs.After.{after, desk_dropped, desk_taken, desks_accepted, desks_made, desks_refused, new_request, on_desk, poked, reports_joined, reports_made}
use Rattle.log_model.specs.Seen.{Asked, Desk, Document, Seen, desk_in, desk_of, document_of, empty_desk, request_in, request_of}
use Rattle.seen_laws.proofs.Sums.{over}
use Rattle.seen_facts.proofs.Each.Eaches.{each_less, each_more}
use Rattle.seen_facts.proofs.Each.Runs.{each_asked_more}
use Rattle.seen_facts.specs.Each.Items.{Each}
use Rattle.asking_facts.proofs.Counts.{fewer_apart, map_same, on_fewer, taken_fewer}
use Rattle.asking_facts.proofs.Started.{accepted_on}
use Rattle.asking_facts.proofs.Waiting.{Carries, KeepsAsks, asks_carry, asks_sent, desk_on}
use Rattle.asking_facts.proofs.WaitingRows.{desks_on}
use Rattle.asking_facts.specs.Waiting.{DeskWaits, HandWaits, JobWaits, QuestionsWait, ReportWaits, times_at}

-- ---- desks that change in what isn't read

-- whichever desks change
module _ (s t : Seen) (keeps : KeepsAsks s t) (waits : QuestionsWait s) where
  carries : Carries s t
  carries = asks_carry s t keeps

  fewer_wait : ((n : ℕ) → over (times_at n) t.desks ≤ over (times_at n) s.desks) → ((p : ProcId) → DeskWaits t (desk_of t p)) → QuestionsWait t
  fewer_wait fewer desks =
      record {
        desks = desks;
        apart = fewer_apart s t keeps.jobs fewer waits.apart;
        sent = asks_sent s t keeps waits.sent;
      }

  -- none
  pub same_wait : t.desks ≡ s.desks → QuestionsWait t
  same_wait same =
      fewer_wait (λ n. (let e : over (times_at n) t.desks ≡ over (times_at n) s.desks = ap (over (times_at n)) same in omega (arith, e))) (λ p. subst (λ (l : List Desk). DeskWaits t (desk_in l p)) (sym same) (desk_on s t carries (desk_of s p) (waits.desks p)))

  -- one
  pub on_wait : (proc : ProcId) (g : Desk → Desk) → t.desks ≡ on_desk proc g s.desks → ((d : Desk) → (g d).proc ≡ d.proc) → ((n : ℕ) → times_at n (g (desk_of s proc)) ≤ times_at n (desk_of s proc)) → (DeskWaits t (desk_of s proc) → DeskWaits t (g (desk_of s proc))) → QuestionsWait t
  on_wait proc g are proc_same fewer own =
      fewer_wait (λ n. subst (λ (l : List Desk). over (times_at n) l ≤ over (times_at n) s.desks) (sym are) (on_fewer n g s.desks proc (fewer n))) (desks_on s t proc g carries are proc_same (own (desk_on s t carries (desk_of s proc) (waits.desks proc))) waits.desks)

-- ---- rows

module _ (s : Seen) (row : LogRow) (waits : QuestionsWait s) where
  abbrev t : Seen
  t = after s row

  accepted_keep : (req : ReqId) (doc : Option DocId) (what : Request) → row.row ≡ rows.Accepted req doc what → KeepsAsks s t
  accepted_keep req doc what is =
      record {
        jobs = (let e : t.jobs ≡ s.jobs = rw is refl in omega (arith, e));
        there = λ r q at. (q, ap (λ (l : List Asked). request_in l r) are ∙ accepted_on s.requests (new_request req doc what) q r at, refl);
        back = λ r x at. each_asked_more (λ n y. (y.asks ≡ []) ⊎ ((q : Asked) × (request_of s n ≡ Some q) × (y.asks ≡ q.asks))) s.requests (new_request req doc what) (record { 0 = length s.requests + 1 }) refl (inl refl) (λ n y there. inr (y, there, refl)) r x (ap (λ (l : List Asked). request_in l r) (sym are) ∙ at);
      }
    where
      are : t.requests ≡ s.requests ++ new_request req doc what ∷ []
      are = rw is refl

  -- an accepted poke joins an input
  pub accepted_wait : (req : ReqId) (doc : Option DocId) (what : Request) → row.row ≡ rows.Accepted req doc what → QuestionsWait t
  accepted_wait req doc what is = by_poke doc what (rw is refl)
    where
      keeps : KeepsAsks s t
      keeps = accepted_keep req doc what is

      at_document : (d : DocId) (action : Action) (o : Option Document) → document_of s d ≡ o → t.desks ≡ poked s req d action → QuestionsWait t
      at_document d action None e are = same_wait s t keeps waits (are ∙ rw e refl)
      at_document d action (Some x) e are =
          on_wait s t keeps waits x.proc (λ desk. record desk { input = desk.input ++ record { req = req; doc = d; action = action } ∷ [] }) (are ∙ rw e refl) (λ y. refl) (λ n. omega arith) (λ w. record { mail = w.mail; hand = w.hand; reports = w.reports })

      by_poke : (o : Option DocId) (w : Request) → t.desks ≡ desks_accepted s req o w → QuestionsWait t
      by_poke None w are = same_wait s t keeps waits are
      by_poke (Some d) (requests.Poke nav action) are = at_document d action (document_of s d) refl are
      by_poke (Some d) (requests.Load nav mode address) are = same_wait s t keeps waits are
      by_poke (Some d) (requests.Go delta) are = same_wait s t keeps waits are
      by_poke (Some d) (requests.Reload nav) are = same_wait s t keeps waits are

  -- one that a process refuses leaves it
  pub refused_wait : KeepsAsks s t → (actor : Actor) → t.desks ≡ desks_refused s.desks actor → QuestionsWait t
  refused_wait keeps (actors.Proc proc) are =
      on_wait s t keeps waits proc (λ desk. record desk { input = drop 1 desk.input }) are (λ d. refl) (λ n. omega arith) (λ w. record { mail = w.mail; hand = w.hand; reports = w.reports })
  refused_wait keeps actors.Start are = same_wait s t keeps waits are
  refused_wait keeps actors.Ui are = same_wait s t keeps waits are
  refused_wait keeps actors.Coord are = same_wait s t keeps waits are

  -- one that is dropped leaves all
  pub dropped_wait : KeepsAsks s t → (req : ReqId) → t.desks ≡ map (desk_dropped req) s.desks → QuestionsWait t
  dropped_wait keeps req are =
      fewer_wait s t keeps waits (λ n. (let e : over (times_at n) t.desks ≡ over (times_at n) s.desks = ap (over (times_at n)) are ∙ map_same n (desk_dropped req) s.desks (λ d. refl) in omega (arith, e))) (λ p. subst (λ (l : List Desk). DeskWaits t (desk_in l p)) (sym are) (subst (DeskWaits t) (sym (desk_at s.desks p)) (left (desk_of s p) (desk_on s t (carries s t keeps waits) (desk_of s p) (waits.desks p)))))
    where
      left : (desk : Desk) → DeskWaits t desk → DeskWaits t (desk_dropped req desk)
      left desk w = record { mail = w.mail; hand = w.hand; reports = w.reports }

      desk_at : (desks : List Desk) (p : ProcId) → desk_in (map (desk_dropped req) desks) p ≡ desk_dropped req (desk_in desks p)
      desk_at [] p = refl
      desk_at (desk ∷ desks) p = by_test (desk.proc.0 == p.0) (desk_at desks p)
        where
          by_test : (b : Bool) → desk_in (map (desk_dropped req) desks) p ≡ desk_dropped req (desk_in desks p) → cond b (desk_dropped req desk) (desk_in (map (desk_dropped req) desks) p) ≡ desk_dropped req (cond b desk (desk_in desks p))
          by_test true rest = refl
          by_test false rest = rest

  pub taken_wait : (keeps : KeepsAsks s t) (proc : ProcId) (live dirty : Bool) → t.desks ≡ on_desk proc (desk_taken live dirty) s.desks → QuestionsWait t
  taken_wait keeps proc live dirty are =
      on_wait s t keeps waits proc (desk_taken live dirty) are (λ d. refl) (λ n. taken_fewer n live dirty (desk_of s proc)) (λ w. record {
        mail = each_less (JobWaits t) (desk_of s proc).mail w.mail;
        hand = by_live live (desk_of s proc).mail w.mail;
        reports = w.reports;
      })
    where
      by_live : (b : Bool) (mail : List Job) → Each (JobWaits t) mail → HandWaits t (if b then option_map (λ (job : Job). let o : Order = record { job = job; dirty = dirty } in o) (slice_get mail 0) else None)
      by_live false mail each = tt
      by_live true [] each = tt
      by_live true (job ∷ mail) each = each.0

  -- ---- what processes make

  pub made_wait : (keeps : KeepsAsks s t) (joins : Bool) (proc : ProcId) (made : Made) → t.desks ≡ on_desk proc (desks_made joins made) s.desks → QuestionsWait t
  made_wait keeps true proc made are =
      on_wait s t keeps waits proc (desks_made true made) are (λ d. refl) (λ n. omega arith) (λ w. record { mail = w.mail; hand = w.hand; reports = joined (desk_of s proc).reports w.reports })
    where
      joined : (waiting : List Report) → Each (ReportWaits t) waiting → Each (ReportWaits t) (reports_joined made waiting)
      joined [] each = tt
      joined (reports.Done job outcome m ∷ []) each = (each.0, tt)
      joined (reports.Made m ∷ []) each = each
      joined (reports.Died death ∷ []) each = each
      joined (reports.Done job outcome m ∷ next ∷ waiting) each = (each.0, joined (next ∷ waiting) each.1)
      joined (reports.Made m ∷ next ∷ waiting) each = (each.0, joined (next ∷ waiting) each.1)
      joined (reports.Died death ∷ next ∷ waiting) each = (each.0, joined (next ∷ waiting) each.1)
  made_wait keeps false proc made are =
      on_wait s t keeps waits proc (desks_made false made) are (λ d. refl) (λ n. omega arith) (λ w. record { mail = w.mail; hand = w.hand; reports = by_what made.what w.reports })
    where
      by_what : (what : What) → Each (ReportWaits t) (desk_of s proc).reports → Each (ReportWaits t) (reports_made (desk_of s proc).reports made what)
      by_what whats.Edit each = each
      by_what (whats.Push entry memo address) each =
          each_more (ReportWaits t) (desk_of s proc).reports (reports.Made made) each tt
      by_what (whats.Replace old entry memo address) each =
          each_more (ReportWaits t) (desk_of s proc).reports (reports.Made made) each tt
      by_what (whats.AddFrame nav) each =
          each_more (ReportWaits t) (desk_of s proc).reports (reports.Made made) each tt
      by_what (whats.RemoveFrame nav) each =
          each_more (ReportWaits t) (desk_of s proc).reports (reports.Made made) each tt
      by_what (whats.Go delta) each =
          each_more (ReportWaits t) (desk_of s proc).reports (reports.Made made) each tt

  -- ---- the log opens

  pub opened_wait : KeepsAsks s t → (proc : ProcId) → t.desks ≡ empty_desk proc ∷ [] → QuestionsWait t
  opened_wait keeps proc are =
      record {
        desks = λ p. subst (λ (l : List Desk). DeskWaits t (desk_in l p)) (sym are) (by_test p (proc.0 == p.0));
        apart = record {
          once = λ n. (let e : over (times_at n) t.desks ≡ over (times_at n) (empty_desk proc ∷ []) = ap (over (times_at n)) are in omega (arith, e));
          numbered = λ n past. ap (over (times_at n)) are ∙ (let z : over (times_at n) (empty_desk proc ∷ []) ≡ 0 = omega arith in z);
        };
        sent = asks_sent s t keeps waits.sent;
      }
    where
      by_test : (p : ProcId) (b : Bool) → DeskWaits t (let d : Desk = cond b (empty_desk proc) (empty_desk p) in d)
      by_test p true = record { mail = tt; hand = tt; reports = tt }
      by_test p false = record { mail = tt; hand = tt; reports = tt }
