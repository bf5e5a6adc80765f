-- One process's lists grow and shrink, and what it has is of its documents still.
use Rattle.std.proofs.Common.{◌≡◌, Bool, true, false, cond, not, ◌==◌, List, [], ◌∷◌, ◌++◌, drop, Option, Some, None, refl, sym, ap, ◌∙◌, subst}
use Rattle.std.specs.Prelude.{filter, option_map, option_to_list, slice_get}
use Rattle.tab_ids.specs.declared.ProcId.{ProcId}
use Rattle.tab_ids.specs.declared.ReqId.{ReqId}
use Rattle.log_model.specs.declared.job.Job.{Job}
use Rattle.log_model.specs.declared.job.Order.{Order}
use Rattle.log_model.specs.declared.made.Made.{Made}
use Rattle.log_model.specs.declared.made.What.{What}
use Rattle.log_model.specs.declared.made.What.TheVariants as whats
use Rattle.log_model.specs.declared.made.Report.{Report}
use Rattle.log_model.specs.declared.made.Report.TheVariants as reports
use Rattle.log_model.specs.declared.outcome.Outcome.{Outcome}
use Rattle.log_model.specs.declared.request.Poke.{Poke}
use Rattle.log_model.specs.After.{desk_delivered, desk_dropped, desk_finished, desk_made, desk_taken, on_desk, reports_joined, reports_made}
use Rattle.log_model.specs.Seen.{Seen, Document, Desk, Place, desk_in, desk_of}
use Rattle.seen_facts.specs.Coord.Leading.{orders_of_desk}
use Rattle.seen_facts.proofs.Coord.Leadings.{proc_same}
use Rattle.seen_laws.proofs.Desks.{desk_on_same, desk_on_other}
use Rattle.seen_facts.specs.Transit.Orders.{IsOutcomeOf}
use Rattle.seen_facts.specs.Each.Items.{Each}
use Rattle.seen_facts.proofs.Each.Eaches.{each_less, each_more}
use Rattle.seen_facts.specs.Desk.Own.{AreDesksIn, IsDeskIn, IsFragmentTask, IsMadeIn, IsOrderIn, IsPokeIn, IsReportIn, LivesIn}
use Rattle.seen_facts.proofs.Desk.Again.{AllStay, AllStayAt, desk_again}

-- ---- the desks

-- one process's desk is changed
pub desks_on : (s t : Seen) (proc : ProcId) (f : Desk → Desk) → t.desks ≡ on_desk proc f s.desks → ((desk : Desk) → (f desk).proc ≡ desk.proc) → AllStay s.documents t.documents → AllStayAt s.places t.places → (IsDeskIn t.documents t.places proc (desk_of s proc) → IsDeskIn t.documents t.places proc (f (desk_of s proc))) → AreDesksIn s → AreDesksIn t
desks_on s t proc f desks keeps stay stay_at own are other = by_proc (proc.0 == other.0) refl
  where
    by_proc : (b : Bool) → (proc.0 == other.0) ≡ b → IsDeskIn t.documents t.places other (desk_of t other)
    by_proc true e =
        let same : proc ≡ other = proc_same proc other e in
        let desk : desk_of t proc ≡ f (desk_of s proc) = ap (λ (l : List Desk). desk_in l proc) desks ∙ desk_on_same f s.desks proc keeps in
        subst (λ (p : ProcId). IsDeskIn t.documents t.places p (desk_of t p)) same (subst (λ (d : Desk). IsDeskIn t.documents t.places proc d) (sym desk) (own (desk_again s.documents t.documents s.places t.places stay stay_at proc (desk_of s proc) (are proc))))
    by_proc false e =
        let desk : desk_of t other ≡ desk_of s other = ap (λ (l : List Desk). desk_in l other) desks ∙ desk_on_other f s.desks proc other keeps e in
        subst (λ (d : Desk). IsDeskIn t.documents t.places other d) (sym desk) (desk_again s.documents t.documents s.places t.places stay stay_at other (desk_of s other) (are other))

-- no desk is changed
pub desks_same : (s t : Seen) → t.desks ≡ s.desks → AllStay s.documents t.documents → AllStayAt s.places t.places → AreDesksIn s → AreDesksIn t
desks_same s t desks stay stay_at are proc =
    subst (λ (l : List Desk). IsDeskIn t.documents t.places proc (desk_in l proc)) (sym desks) (desk_again s.documents t.documents s.places t.places stay stay_at proc (desk_of s proc) (are proc))

-- ---- one desk

module _ (documents : List Document) (places : List Place) (proc : ProcId) where
  join_in : {A : Type 0} (xs ys zs : List A) → xs ++ (ys ++ zs) ≡ (xs ++ ys) ++ zs
  join_in [] ys zs = refl
  join_in (x ∷ xs) ys zs = ap (λ l. x ∷ l) (join_in xs ys zs)

  -- an order joins its mail
  pub mailed_in : (job : Job) (desk : Desk) → IsOrderIn documents places proc job → IsDeskIn documents places proc desk → IsDeskIn documents places proc (record desk { mail = desk.mail ++ job ∷ [] })
  mailed_in job desk own is =
      record {
        orders = subst (λ (l : List Job). Each (IsOrderIn documents places proc) l) (sym (join_in (option_to_list (option_map (λ (order : Order). order.job) desk.in_hand)) desk.mail (job ∷ []))) (each_more (IsOrderIn documents places proc) (orders_of_desk desk) job is.orders own);
        told = is.told;
        pokes = is.pokes;
      }

  -- a poke joins its input
  pub poked_in : (poke : Poke) (desk : Desk) → LivesIn documents proc poke.doc → IsDeskIn documents places proc desk → IsDeskIn documents places proc (record desk { input = desk.input ++ poke ∷ [] })
  poked_in poke desk lives is =
      record { orders = is.orders; told = is.told; pokes = each_more (IsPokeIn documents proc) desk.input poke is.pokes lives }

  -- the first poke leaves it
  pub unpoked_in : (desk : Desk) → IsDeskIn documents places proc desk → IsDeskIn documents places proc (record desk { input = drop 1 desk.input })
  unpoked_in desk is = record { orders = is.orders; told = is.told; pokes = each_less (IsPokeIn documents proc) desk.input is.pokes }

  each_filtered : {A : Type 0} (F : A → Type 0) (test : A → Bool) (xs : List A) → Each F xs → Each F (filter test xs)
  each_filtered F test [] all = tt
  each_filtered {A} F test (x ∷ xs) all = by_test (test x) (each_filtered F test xs all.1)
    where
      by_test : (b : Bool) → Each F (filter test xs) → Each F (cond b (x ∷ filter test xs) (filter test xs))
      by_test true more = (all.0, more)
      by_test false more = more

  -- a poke of a dropped request does
  pub dropped_in : (req : ReqId) (desk : Desk) → IsDeskIn documents places proc desk → IsDeskIn documents places proc (desk_dropped req desk)
  dropped_in req desk is =
      record { orders = is.orders; told = is.told; pokes = each_filtered (IsPokeIn documents proc) (λ (poke : Poke). not (poke.req.0 == req.0)) desk.input is.pokes }

  -- its first order is taken up
  pub taken_in : (dirty : Bool) (desk : Desk) → desk.in_hand ≡ None → IsDeskIn documents places proc desk → IsDeskIn documents places proc (desk_taken true dirty desk)
  taken_in dirty desk free is =
      record { orders = subst (λ (l : List Job). Each (IsOrderIn documents places proc) l) (sym (same desk.mail)) mail; told = is.told; pokes = is.pokes }
    where
      mail : Each (IsOrderIn documents places proc) desk.mail
      mail = subst (λ (o : Option Order). Each (IsOrderIn documents places proc) (option_to_list (option_map (λ (order : Order). order.job) o) ++ desk.mail)) free is.orders

      same : (l : List Job) → option_to_list (option_map (λ (order : Order). order.job) (option_map (λ (job : Job). let o : Order = record { job = job; dirty = dirty } in o) (slice_get l 0))) ++ drop 1 l ≡ l
      same [] = refl
      same (job ∷ l) = refl

  -- the order in hand is finished, and its report waits
  pub finished_in : (order : Order) (outcome : Outcome) (desk : Desk) → desk.in_hand ≡ Some order → IsOutcomeOf order.job.task outcome → IsDeskIn documents places proc desk → IsDeskIn documents places proc (desk_finished outcome desk)
  finished_in order outcome desk hand answers is =
      let all : IsOrderIn documents places proc order.job × Each (IsOrderIn documents places proc) desk.mail = subst (λ (o : Option Order). Each (IsOrderIn documents places proc) (option_to_list (option_map (λ (order : Order). order.job) o) ++ desk.mail)) hand is.orders in
      record {
        orders = all.1;
        told = rw hand (each_more (IsReportIn documents places proc) desk.reports (reports.Done order.job outcome None) is.told (all.0, answers, tt));
        pokes = is.pokes;
      }

  -- a report is taken
  pub delivered_in : (desk : Desk) → IsDeskIn documents places proc desk → IsDeskIn documents places proc (desk_delivered desk)
  delivered_in desk is =
      record { orders = is.orders; told = each_less (IsReportIn documents places proc) desk.reports is.told; pokes = is.pokes }

  -- a document makes something of the first poke
  pub made_in : (made : Made) (desk : Desk) → IsMadeIn documents proc made → IsDeskIn documents places proc desk → IsDeskIn documents places proc (desk_made made desk)
  made_in made desk own is =
      record { orders = is.orders; told = by_what made.what; pokes = each_less (IsPokeIn documents proc) desk.input is.pokes }
    where
      more : Each (IsReportIn documents places proc) (desk.reports ++ reports.Made made ∷ [])
      more = each_more (IsReportIn documents places proc) desk.reports (reports.Made made) is.told own

      by_what : (what : What) → Each (IsReportIn documents places proc) (reports_made desk.reports made what)
      by_what (whats.Push entry memo address) = more
      by_what (whats.Replace over entry memo address) = more
      by_what (whats.AddFrame nav) = more
      by_what (whats.RemoveFrame nav) = more
      by_what (whats.Go delta) = more
      by_what whats.Edit = is.told

  -- it edits itself, which isn't reported
  pub edited_in : (made : Made) (desk : Desk) → made.what ≡ whats.Edit → IsDeskIn documents places proc desk → IsDeskIn documents places proc (desk_made made desk)
  edited_in made desk edits is =
      record {
        orders = is.orders;
        told = subst (λ (w : What). Each (IsReportIn documents places proc) (reports_made desk.reports made w)) (sym edits) is.told;
        pokes = each_less (IsPokeIn documents proc) desk.input is.pokes;
      }

  -- or of the fragment order that it finished just now, whose report is the last
  joined : (made : Made) (job : Job) (outcome : Outcome) (waiting : List Report) → IsFragmentTask job.task → made.doc.0 ≡ job.doc.0 → IsMadeIn documents proc made → Each (IsReportIn documents places proc) (waiting ++ reports.Done job outcome None ∷ []) → Each (IsReportIn documents places proc) (reports_joined made (waiting ++ reports.Done job outcome None ∷ []))
  joined made job outcome [] fragment same own all = ((all.0.0, all.0.1, (fragment, same, own)), tt)
  joined made job outcome (report ∷ waiting) fragment same own all = by_rest waiting report (joined made job outcome waiting fragment same own all.1) all.0
    where
      by_rest : (l : List Report) (r : Report) → Each (IsReportIn documents places proc) (reports_joined made (l ++ reports.Done job outcome None ∷ [])) → IsReportIn documents places proc r → Each (IsReportIn documents places proc) (reports_joined made (r ∷ (l ++ reports.Done job outcome None ∷ [])))
      by_rest [] (reports.Done j o m) more first = (first, more)
      by_rest [] (reports.Made m) more first = (first, more)
      by_rest [] (reports.Died death) more first = (first, more)
      by_rest (x ∷ l) (reports.Done j o m) more first = (first, more)
      by_rest (x ∷ l) (reports.Made m) more first = (first, more)
      by_rest (x ∷ l) (reports.Died death) more first = (first, more)

  pub joined_in : (made : Made) (job : Job) (outcome : Outcome) (waiting : List Report) (desk : Desk) → desk.reports ≡ waiting ++ reports.Done job outcome None ∷ [] → IsFragmentTask job.task → made.doc.0 ≡ job.doc.0 → IsMadeIn documents proc made → IsDeskIn documents places proc desk → IsDeskIn documents places proc (record desk { reports = reports_joined made desk.reports })
  joined_in made job outcome waiting desk last fragment same own is =
      record {
        orders = is.orders;
        told = subst (λ (l : List Report). Each (IsReportIn documents places proc) (reports_joined made l)) (sym last) (joined made job outcome waiting fragment same own (subst (λ (l : List Report). Each (IsReportIn documents places proc) l) last is.told));
        pokes = is.pokes;
      }
