-- The questions that wait stay so over each row, by its kind.
use Rattle.std.proofs.Common.{◌≡◌, ℕ, ◌≤◌, Bool, true, false, ◌==◌, List, [], ◌∷◌, Option, Some, None, refl, sym, ap, ◌∙◌, subst, arith}
use Rattle.std.specs.Prelude.{if◌then◌else◌, option_map, slice_get}
use Rattle.std.proofs.lemmas.Bool.Decides.{nat_tests}
use Rattle.tab_ids.specs.declared.JobId.{JobId}
use Rattle.tab_ids.specs.declared.ProcId.{ProcId}
use Rattle.tab_ids.specs.declared.ReqId.{ReqId}
use Rattle.log_model.specs.declared.handler.Verdict.{Verdict}
use Rattle.log_model.specs.declared.job.Job.{Job}
use Rattle.log_model.specs.declared.job.Order.{Order}
use Rattle.log_model.specs.declared.job.Task.{Task}
use Rattle.log_model.specs.declared.job.Task.TheVariants as tasks
use Rattle.log_model.specs.declared.job.Why.TheVariants as whys
use Rattle.log_model.specs.declared.made.Report.{Report}
use Rattle.log_model.specs.declared.made.Report.TheVariants as reports
use Rattle.log_model.specs.declared.outcome.Outcome.{Outcome}
use Rattle.log_model.specs.declared.outcome.Outcome.TheVariants as outcomes
use Rattle.log_model.specs.declared.row_kind.LogRow.{LogRow}
use Rattle.log_model.specs.declared.row_kind.RowKind.TheVariants as rows
use Rattle.log_model.specs.After.{after, desk_delivered, desk_finished, on_desk}
use Rattle.log_model.specs.AfterRequests.{on_served, requests_delivered, requests_finished}
use Rattle.log_model.specs.Outcomes.{is_outcome_of}
use Rattle.log_model.specs.Seen.{Asked, Asking, Desk, Seen, desk_in, desk_of, request_in}
use Rattle.seen_laws.proofs.Desks.{desk_on_other, desk_on_same}
use Rattle.seen_laws.proofs.Sums.{over}
use Rattle.seen_facts.proofs.Each.Eaches.{each_less, each_more, each_on}
use Rattle.seen_facts.proofs.Request.Alls.{each_desk}
use Rattle.seen_facts.proofs.Request.LookUps.{on_itself}
use Rattle.seen_facts.proofs.Request.Readers.{SameReads}
use Rattle.seen_facts.specs.Each.Items.{Each}
use Rattle.asking_facts.proofs.Counts.{alone_in_hand, emptied, fewer_apart, on_fewer, over_none, times_none}
use Rattle.asking_facts.proofs.Waiting.{Carries, KeepsAsks, asks_carry, asks_of, asks_sent, desk_on, from_asks, says_same, set_keeps, set_on, set_one, set_own, set_says, set_there}
use Rattle.asking_facts.proofs.WaitingRows.{desks_on, other_waits, set_all_sent, some_same}
use Rattle.asking_facts.specs.Waiting.{AreApart, AreSent, DeskWaits, EndWaits, EndsSo, HandWaits, IsWaiting, JobWaits, OrderWaits, QuestionsWait, ReportWaits, SaysOf, Waits, is_asked_by, times_at, times_in_hand}

-- ---- a report is delivered

module _ (s : Seen) (row : LogRow) (proc : ProcId) (is : row.row ≡ rows.Delivered proc) (waits : QuestionsWait s) where
  abbrev t : Seen
  t = after s row

  requests_are : t.requests ≡ requests_delivered (slice_get (desk_of s proc).reports 0) s.requests
  requests_are = rw is refl

  jobs_are : t.jobs ≡ s.jobs
  jobs_are = rw is refl

  same_asks : t.requests ≡ s.requests → Carries s t × AreSent t
  same_asks same =
      let keeps : KeepsAsks s t = from_asks s t (let e : t.jobs ≡ s.jobs = jobs_are in omega (arith, e)) (subst (λ (l : List Asked). SameReads asks_of s.requests l) (sym same) (λ r. refl)) in
      (asks_carry s t keeps, asks_sent s t keeps waits.sent)

  by_report : (report : Option Report) → t.requests ≡ requests_delivered report s.requests → Carries s t × AreSent t
  by_report None e = same_asks e
  by_report (Some (reports.Made made)) e = same_asks e
  by_report (Some (reports.Died death)) e = same_asks e
  by_report (Some (reports.Done job outcome made)) e = by_outcome outcome e
    where
      by_outcome : (o : Outcome) → t.requests ≡ requests_delivered (Some (reports.Done job o made)) s.requests → Carries s t × AreSent t
      by_outcome (outcomes.Asked verdict) f =
          ((λ other said its. other_waits s t job (λ asking. record asking { is_delivered = true }) (λ asking. refl) (λ asking. refl) jobs_are f other said said (λ req why w. set_keeps job.nr (λ asking. record asking { is_delivered = true }) (λ asking. refl) (λ asking. refl) other.nr said w.q.asks (λ asking. refl) w.says) (λ req w at. w.says) its), set_all_sent s t job (λ asking. record asking { is_delivered = true }) (λ asking. refl) (λ asking. refl) jobs_are f waits.sent)
      by_outcome (outcomes.Populated slot) f = same_asks f
      by_outcome outcomes.Activated f = same_asks f
      by_outcome outcomes.Updated f = same_asks f
      by_outcome outcomes.Frozen f = same_asks f
      by_outcome outcomes.Discarded f = same_asks f
      by_outcome outcomes.Fragmented f = same_asks f

  desks_are : t.desks ≡ on_desk proc desk_delivered s.desks
  desks_are = rw is refl

  pub delivered_wait : QuestionsWait t
  delivered_wait =
      let both = by_report (slice_get (desk_of s proc).reports 0) requests_are in
      let own = desk_on s t both.0 (desk_of s proc) (waits.desks proc) in
      record {
        desks = desks_on s t proc desk_delivered both.0 desks_are (λ d. refl) (record { mail = own.mail; hand = own.hand; reports = each_less (ReportWaits t) (desk_of s proc).reports own.reports }) waits.desks;
        apart = fewer_apart s t (let e : t.jobs ≡ s.jobs = jobs_are in omega (arith, e)) (λ n. subst (λ (l : List Desk). over (times_at n) l ≤ over (times_at n) s.desks) (sym desks_are) (on_fewer n desk_delivered s.desks proc (omega arith))) waits.apart;
        sent = both.1;
      }

-- ---- an order is finished

each_both : {A : Type 0} (F G H : A → Type 0) (xs : List A) → ((x : A) → F x → G x → H x) → Each F xs → Each G xs → Each H xs
each_both F G H [] make one two = tt
each_both F G H (x ∷ xs) make one two = (make x one.0 two.0, each_both F G H xs make one.1 two.1)

module _ (s : Seen) (row : LogRow) (proc : ProcId) (nr : JobId) (outcome : Outcome) (is : row.row ≡ rows.Finished proc nr outcome) (ends : EndsSo (desk_of s proc).in_hand outcome) (waits : QuestionsWait s) where
  abbrev f : Seen
  f = after s row

  finished_jobs : f.jobs ≡ s.jobs
  finished_jobs = rw is refl

  finished_desks : f.desks ≡ on_desk proc (desk_finished outcome) s.desks
  finished_desks = rw is refl

  finished_requests : f.requests ≡ requests_finished s (desk_of s proc).in_hand outcome s.requests
  finished_requests = rw is refl

  finished_apart : AreApart f
  finished_apart =
      fewer_apart s f (let e : f.jobs ≡ s.jobs = finished_jobs in omega (arith, e)) (λ n. subst (λ (l : List Desk). over (times_at n) l ≤ over (times_at n) s.desks) (sym finished_desks) (on_fewer n (desk_finished outcome) s.desks proc (omega arith))) waits.apart

  -- where the questions stay
  quiet_finished : SameReads asks_of s.requests f.requests → (DeskWaits f (desk_of s proc) → Each (ReportWaits f) (desk_finished outcome (desk_of s proc)).reports) → QuestionsWait f
  quiet_finished same reports_ =
      let keeps : KeepsAsks s f = from_asks s f (let e : f.jobs ≡ s.jobs = finished_jobs in omega (arith, e)) same in
      let carries : Carries s f = asks_carry s f keeps in
      let own = desk_on s f carries (desk_of s proc) (waits.desks proc) in
      record {
        desks = desks_on s f proc (desk_finished outcome) carries finished_desks (λ d. refl) (record { mail = own.mail; hand = tt; reports = reports_ own }) waits.desks;
        apart = finished_apart;
        sent = asks_sent s f keeps waits.sent;
      }

  -- nothing was in hand
  pub none_finished : (desk_of s proc).in_hand ≡ None → QuestionsWait f
  none_finished hand =
      quiet_finished (subst (λ (l : List Asked). SameReads asks_of s.requests l) (sym (finished_requests ∙ ap (λ (h : Option Order). requests_finished s h outcome s.requests) hand)) (λ r. refl)) (λ own. rw hand own.reports)

  module _ (order : Order) (hand : (desk_of s proc).in_hand ≡ Some order) where
    -- no question
    pub other_finished : SameReads asks_of s.requests (requests_finished s (Some order) outcome s.requests) → EndWaits f order.job outcome → QuestionsWait f
    other_finished same end =
        quiet_finished (subst (λ (l : List Asked). SameReads asks_of s.requests l) (sym (finished_requests ∙ ap (λ (h : Option Order). requests_finished s h outcome s.requests) hand)) same) (λ own. rw hand (each_more (ReportWaits f) (desk_of s proc).reports (reports.Done order.job outcome None) own.reports end))

    -- an answer
    module _ (verdict : Verdict) (answers : outcome ≡ outcomes.Asked verdict) where
      abbrev job : Job
      job = order.job

      abbrev say : Asking → Asking
      say asking = record asking { verdict = Some verdict }

      abbrev said_one : Asked → Asked
      said_one q = record q { asks = set_on job.nr say q.asks }

      said_requests : f.requests ≡ on_served job.why said_one s.requests
      said_requests =
          finished_requests ∙ ap (λ (h : Option Order). requests_finished s h outcome s.requests) hand ∙ rw answers refl

      -- the order was a question that waited
      its : Waits s job None
      its =
          by_task job.task refl (subst (λ (o : Outcome). EndsSo (Some order) o) answers (subst (λ (h : Option Order). EndsSo h outcome) hand ends)) (subst (λ (h : Option Order). HandWaits s h) hand (waits.desks proc).hand)
        where
          wrong : {A : Type 0} → false ≡ true → A
          wrong x = cc

          by_task : (task : Task) → job.task ≡ task → is_outcome_of job.task (outcomes.Asked verdict) ≡ true → OrderWaits s job job.task → Waits s job None
          by_task (tasks.Ask slot cause) e so w = subst (λ (k : Task). OrderWaits s job k) e w
          by_task (tasks.Populate nav state address initial) e so w =
              wrong (subst (λ (k : Task). is_outcome_of k (outcomes.Asked verdict) ≡ true) e so)
          by_task (tasks.Activate entry epoch long at memo address) e so w =
              wrong (subst (λ (k : Task). is_outcome_of k (outcomes.Asked verdict) ≡ true) e so)
          by_task (tasks.Update long at) e so w =
              wrong (subst (λ (k : Task). is_outcome_of k (outcomes.Asked verdict) ≡ true) e so)
          by_task tasks.Freeze e so w =
              wrong (subst (λ (k : Task). is_outcome_of k (outcomes.Asked verdict) ≡ true) e so)
          by_task tasks.Discard e so w =
              wrong (subst (λ (k : Task). is_outcome_of k (outcomes.Asked verdict) ≡ true) e so)
          by_task (tasks.DoFragment req mode address) e so w =
              wrong (subst (λ (k : Task). is_outcome_of k (outcomes.Asked verdict) ≡ true) e so)

      -- its report tells the answer
      own_waits : Waits f job (Some verdict)
      own_waits =
          record {
            numbered = subst (λ (n : ℕ). job.nr.0 ≤ n) (sym finished_jobs) its.numbered;
            each = λ req why. one req why (its.each req why);
          }
        where
          one : (req : ReqId) → job.why ≡ whys.Req req → IsWaiting s job None req → IsWaiting f job (Some verdict) req
          one req why w =
              record {
                q = record w.q { asks = set_on job.nr say w.q.asks };
                at = ap (λ (l : List Asked). request_in l req) (said_requests ∙ ap (λ x. on_served x said_one s.requests) why) ∙ on_itself s.requests req said_one ∙ ap (λ (o : Option Asked). option_map said_one o) w.at;
                there = set_there job.nr say (λ asking. refl) (λ asking. refl) job.nr w.q.asks ∙ w.there;
                one = set_one job.nr say (λ asking. refl) (λ asking. refl) job.nr job.doc w.q.asks w.one;
                says = set_own job.nr say (λ asking. refl) (λ asking. refl) (Some verdict) w.q.asks (λ asking. refl);
              }

      -- another order says what it did
      apart_waits : (other : Job) (said : Option Verdict) → (other.nr.0 == job.nr.0) ≡ false → Waits s other said → Waits f other said
      apart_waits other said apart w =
          other_waits s f job say (λ asking. refl) (λ asking. refl) finished_jobs said_requests other said said (λ req why x. set_says job.nr say (λ asking. refl) (λ asking. refl) other.nr said x.q.asks apart x.says) (λ req x at. x.says) w

      -- and each report of an answer
      told_waits : (other : Job) (v : Verdict) → Waits s other (Some v) → Waits f other (Some v)
      told_waits other v w =
          other_waits s f job say (λ asking. refl) (λ asking. refl) finished_jobs said_requests other (Some v) (Some v) (λ req why x. own req why x (other.nr.0 == job.nr.0) refl) (λ req x at. x.says) w
        where
          own : (req : ReqId) → job.why ≡ whys.Req req → (x : IsWaiting s other (Some v) req) → (b : Bool) → (other.nr.0 == job.nr.0) ≡ b → SaysOf other.nr (Some v) (set_on job.nr say x.q.asks)
          own req why x false apart =
              set_says job.nr say (λ asking. refl) (λ asking. refl) other.nr (Some v) x.q.asks apart x.says
          own req why x true same =
              let n : other.nr ≡ job.nr = ap (λ (i : ℕ). let j : JobId = record { 0 = i } in j) (let m : other.nr.0 ≡ job.nr.0 = grind (arith, nat_tests, same) in m) in
              let w : IsWaiting s job None req = its.each req why in
              let q : w.q ≡ x.q = some_same (sym w.at ∙ x.at) in
              let none : SaysOf job.nr None x.q.asks = subst (λ (y : Asked). SaysOf job.nr None y.asks) q w.says in
              let some : SaysOf job.nr (Some v) x.q.asks = subst (λ (j : JobId). SaysOf j (Some v) x.q.asks) n x.says in
              let there : is_asked_by job.nr x.q.asks ≡ true = ap (λ (j : JobId). is_asked_by j x.q.asks) (sym n) ∙ x.there in
              let never : None ≡ Some v = says_same job.nr None (Some v) x.q.asks there none some in
              absurd cc

      -- a desk on which the order isn't
      heard_desk : (desk : Desk) → times_at job.nr.0 desk ≡ 0 → DeskWaits s desk → DeskWaits f desk
      heard_desk desk none w =
          record {
            mail = each_both (λ (x : Job). (x.nr.0 == job.nr.0) ≡ false) (JobWaits s) (JobWaits f) desk.mail (λ x apart y. by_task x x.task apart y) (times_none job.nr.0 desk.mail (omega (arith, none))) w.mail;
            hand = by_hand desk.in_hand (omega (arith, none)) w.hand;
            reports = each_on (ReportWaits s) (ReportWaits f) desk.reports by_report_ w.reports;
          }
        where
          by_task : (x : Job) (task : Task) → (x.nr.0 == job.nr.0) ≡ false → OrderWaits s x task → OrderWaits f x task
          by_task x (tasks.Ask slot cause) apart y = apart_waits x None apart y
          by_task x (tasks.Populate nav state address initial) apart y = tt
          by_task x (tasks.Activate entry epoch long at memo address) apart y = tt
          by_task x (tasks.Update long at) apart y = tt
          by_task x tasks.Freeze apart y = tt
          by_task x tasks.Discard apart y = tt
          by_task x (tasks.DoFragment req mode address) apart y = tt

          by_hand : (h : Option Order) → times_in_hand job.nr.0 h ≡ 0 → HandWaits s h → HandWaits f h
          by_hand None zero y = tt
          by_hand (Some o) zero y = by_test (o.job.nr.0 == job.nr.0) refl zero
            where
              by_test : (b : Bool) → (o.job.nr.0 == job.nr.0) ≡ b → (let n : ℕ = (if b then 1 else 0) in n) ≡ 0 → JobWaits f o.job
              by_test true same z = absurd (omega (arith, z))
              by_test false apart z = by_task o.job o.job.task apart y

          by_report_ : (report : Report) → ReportWaits s report → ReportWaits f report
          by_report_ (reports.Done x o made) y = by_outcome o y
            where
              by_outcome : (o : Outcome) → EndWaits s x o → EndWaits f x o
              by_outcome (outcomes.Asked v) z = told_waits x v z
              by_outcome (outcomes.Populated slot) z = tt
              by_outcome outcomes.Activated z = tt
              by_outcome outcomes.Updated z = tt
              by_outcome outcomes.Frozen z = tt
              by_outcome outcomes.Discarded z = tt
              by_outcome outcomes.Fragmented z = tt
          by_report_ (reports.Made made) y = tt
          by_report_ (reports.Died death) y = tt

      zero_at : (p : ProcId) → times_at job.nr.0 (desk_in (on_desk proc emptied s.desks) p) ≡ 0
      zero_at p = over_none job.nr.0 (on_desk proc emptied s.desks) (alone_in_hand s proc order waits.apart hand) p

      pub asked_finished : QuestionsWait f
      asked_finished =
          record {
            desks = λ p. subst (λ (l : List Desk). DeskWaits f (desk_in l p)) (sym finished_desks) (each_desk (DeskWaits f) (desk_finished outcome) s.desks proc (λ d. refl) own (λ other apart. heard_desk (desk_of s other) (ap (times_at job.nr.0) (sym (desk_on_other emptied s.desks proc other (λ d. refl) apart)) ∙ zero_at other) (waits.desks other)) p);
            apart = finished_apart;
            sent = set_all_sent s f job say (λ asking. refl) (λ asking. refl) finished_jobs said_requests waits.sent;
          }
        where
          left : DeskWaits f (emptied (desk_of s proc))
          left =
              heard_desk (emptied (desk_of s proc)) (ap (times_at job.nr.0) (sym (desk_on_same emptied s.desks proc (λ d. refl))) ∙ zero_at proc) (record { mail = (waits.desks proc).mail; hand = tt; reports = (waits.desks proc).reports })

          own : DeskWaits f (desk_finished outcome (desk_of s proc))
          own =
              record {
                mail = left.mail;
                hand = tt;
                reports = rw hand (each_more (ReportWaits f) (desk_of s proc).reports (reports.Done order.job outcome None) left.reports (subst (λ (o : Outcome). EndWaits f job o) (sym answers) own_waits));
              }
