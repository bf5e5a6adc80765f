-- The report of each fragment order tells of what its document made of it, over each row but the end of a fragment order, and over that with the row behind it.
use Rattle.seen_facts.proofs.Coord.OneDocument.{mailed}
use Rattle.seen_facts.proofs.Coord.Unread.{DesksLeft, accepted_left, dropped_left, next, refused_left}
use Rattle.seen_facts.specs.Desk.Own.{IsFragmentTask}
use Rattle.seen_facts.proofs.Each.Eaches.{each_first, each_less, each_more}
use Rattle.seen_facts.specs.Each.Items.{Each}
use Rattle.seen_facts.proofs.Entry.Parts.{each_desk}
use Rattle.log_model.proofs.Refl.{nat_eq_refl}
use Rattle.log_model.specs.After.{desk_delivered, desk_finished, desk_taken, desks_made, follows_finished, on_desk, reports_joined, reports_made}
use Rattle.log_model.specs.AfterDocuments.{task_in_hand}
use Rattle.log_model.specs.Seen.{Desk, Seen, desk_of, empty_desk, nothing}
use Rattle.log_model.specs.declared.job.Job.{Job}
use Rattle.log_model.specs.declared.job.Order.{Order}
use Rattle.log_model.specs.declared.made.Made.{Made}
use Rattle.log_model.specs.declared.made.Report.{Report}
use Rattle.log_model.specs.declared.made.Report.TheVariants as reports
use Rattle.log_model.specs.declared.made.What.{What}
use Rattle.log_model.specs.declared.made.What.TheVariants as whats
use Rattle.log_model.specs.declared.outcome.Outcome.{Outcome}
use Rattle.log_model.specs.declared.row_kind.Actor.{Actor}
use Rattle.log_model.specs.declared.row_kind.RowKind.{RowKind}
use Rattle.log_model.specs.declared.row_kind.RowKind.TheVariants as rows
use Rattle.tab_facts.specs.Order.Orders.{IsOfCoord}
use Rattle.tab_facts.specs.Running.Telling.{AreTelling, EndsNoFragment, TellsOfMade}
use Rattle.seen_facts.specs.Hang.Members.{Has}
use Rattle.seen_laws.proofs.InEvents.{first_goes, now_step, rest_goes}
use Rattle.seen_laws.specs.InEvent.{EachGoes, InEvent, now_of}
use Rattle.seen_laws.proofs.Desks.{desk_on_other, desk_on_same}
use Rattle.std.proofs.Common.{Bool, List, None, Option, Some, [], ap, append-nil, append_assoc, cond, false, inl, inr, refl, subst, sym, true, ℕ, ◌&&◌, ◌++◌, ◌+◌, ◌==◌, ◌∙◌, ◌∷◌, ◌≡◌}
use Rattle.std.specs.Prelude.{is_some, option_map, slice_get}
use Rattle.tab_ids.specs.declared.EntryId.{EntryId}
use Rattle.tab_ids.specs.declared.JobId.{JobId}
use Rattle.tab_ids.specs.declared.DocId.{DocId}
use Rattle.tab_ids.specs.declared.ProcId.{ProcId}
use Rattle.tab_ids.specs.declared.StateId.{StateId}

-- ---- processes

left_telling : (s t : Seen) → DesksLeft s t → AreTelling s → AreTelling t
left_telling s t left are proc =
    subst (λ (desk : Desk). Each TellsOfMade desk.reports) (sym (left proc).1) (are proc)

-- one is changed
on_telling : (s t : Seen) (of : ProcId) (f : Desk → Desk) → t.desks ≡ on_desk of f s.desks → ((desk : Desk) → (f desk).proc ≡ desk.proc) → Each TellsOfMade (f (desk_of s of)).reports → AreTelling s → AreTelling t
on_telling s t of f desks keeps own are =
    each_desk s t of f (λ (proc : ProcId) (desk : Desk). Each TellsOfMade desk.reports) desks keeps own (λ proc apart. are proc)

-- ---- reports

-- an order is finished that is no fragment order
finished_tells : (outcome : Outcome) (desk : Desk) (hand : Option Order) → desk.in_hand ≡ hand → ((order : Order) → hand ≡ Some order → IsFragmentTask order.job.task → ⊥) → Each TellsOfMade desk.reports → Each TellsOfMade (desk_finished outcome desk).reports
finished_tells outcome desk None e none all = rw e all
finished_tells outcome desk (Some order) e none all =
    rw e (each_more TellsOfMade desk.reports (reports.Done order.job outcome None) all (λ fragment. absurd (none order refl fragment)))

-- what was made joins the last report, which may be the one that doesn't tell yet
joined_tells : (made : Made) (waiting : List Report) → Each TellsOfMade waiting → Each TellsOfMade (reports_joined made waiting)
joined_tells made [] all = tt
joined_tells made (reports.Done job outcome joined ∷ []) all = ((λ fragment. refl), tt)
joined_tells made (reports.Done job outcome joined ∷ next_ ∷ waiting) all = (all.0, joined_tells made (next_ ∷ waiting) all.1)
joined_tells made (reports.Made x ∷ waiting) all = (tt, joined_tells made waiting all.1)
joined_tells made (reports.Died death ∷ waiting) all = (tt, joined_tells made waiting all.1)

last_tells : (made : Made) (waiting : List Report) (job : Job) (outcome : Outcome) → Each TellsOfMade waiting → Each TellsOfMade (reports_joined made (waiting ++ reports.Done job outcome None ∷ []))
last_tells made [] job outcome all = ((λ fragment. refl), tt)
last_tells made (reports.Done one so joined ∷ []) job outcome all = (all.0, ((λ fragment. refl), tt))
last_tells made (reports.Done one so joined ∷ next_ ∷ waiting) job outcome all = (all.0, last_tells made (next_ ∷ waiting) job outcome all.1)
last_tells made (reports.Made x ∷ waiting) job outcome all = (tt, last_tells made waiting job outcome all.1)
last_tells made (reports.Died death ∷ waiting) job outcome all = (tt, last_tells made waiting job outcome all.1)

made_tells : (waiting : List Report) (made : Made) (what : What) → Each TellsOfMade waiting → Each TellsOfMade (reports_made waiting made what)
made_tells waiting made whats.Edit all = all
made_tells waiting made (whats.Push entry memo address) all = each_more TellsOfMade waiting (reports.Made made) all tt
made_tells waiting made (whats.Replace over entry memo address) all = each_more TellsOfMade waiting (reports.Made made) all tt
made_tells waiting made (whats.AddFrame nav) all = each_more TellsOfMade waiting (reports.Made made) all tt
made_tells waiting made (whats.RemoveFrame nav) all = each_more TellsOfMade waiting (reports.Made made) all tt
made_tells waiting made (whats.Go delta) all = each_more TellsOfMade waiting (reports.Made made) all tt

either_tells : (joins : Bool) (made : Made) (desk : Desk) → Each TellsOfMade desk.reports → Each TellsOfMade (desks_made joins made desk).reports
either_tells true made desk all = joined_tells made desk.reports all
either_tells false made desk all = made_tells desk.reports made made.what all

made_proc : (joins : Bool) (made : Made) (desk : Desk) → (desks_made joins made desk).proc ≡ desk.proc
made_proc true made desk = refl
made_proc false made desk = refl

-- ---- each row, but the end of a fragment order

module _ (s : Seen) (event : ℕ) (actor : Actor) (are : AreTelling s) where
  pub telling_after : (kind : RowKind) → EndsNoFragment s kind → AreTelling (next s event actor kind)
  telling_after (rows.Opened entry state doc proc slot address) never = absurd never
  telling_after (rows.Killed proc death) never = absurd never
  telling_after (rows.Accepted req doc what) fine =
      left_telling s (next s event actor (rows.Accepted req doc what)) (accepted_left s event actor req doc what) are
  telling_after (rows.Refused req reason) fine =
      left_telling s (next s event actor (rows.Refused req reason)) (refused_left s event actor req reason) are
  telling_after (rows.Dropped req cause) fine =
      left_telling s (next s event actor (rows.Dropped req cause)) (dropped_left s event actor req cause) are
  telling_after (rows.Started req goal) fine = are
  telling_after (rows.Applied req change) fine = are
  telling_after (rows.Prompted req doc) fine = are
  telling_after (rows.Answered req stay) fine = are
  telling_after (rows.Evicted state) fine = are
  telling_after (rows.Sent job) fine =
      on_telling s (next s event actor (rows.Sent job)) job.proc (mailed job) refl (λ desk. refl) (are job.proc) are
  telling_after (rows.Taken proc nr live dirty) fine =
      on_telling s (next s event actor (rows.Taken proc nr live dirty)) proc (desk_taken live dirty) refl (λ desk. refl) (are proc) are
  telling_after (rows.Finished proc nr outcome) none =
      on_telling s (next s event actor (rows.Finished proc nr outcome)) proc (desk_finished outcome) refl (λ desk. refl) (finished_tells outcome (desk_of s proc) (desk_of s proc).in_hand refl none (are proc)) are
  telling_after (rows.Made proc made) fine =
      let joins = follows_finished s (record { event = event; actor = actor; row = rows.Made proc made }) in
      on_telling s (next s event actor (rows.Made proc made)) proc (desks_made joins made) refl (made_proc joins made) (either_tells joins made (desk_of s proc) (are proc)) are
  telling_after (rows.Delivered proc) fine =
      on_telling s (next s event actor (rows.Delivered proc)) proc desk_delivered refl (λ desk. refl) (each_less TellsOfMade (desk_of s proc).reports (are proc)) are

  -- ---- an order is finished, and what its document made of it is told

  module _ (proc : ProcId) (nr : JobId) (outcome : Outcome) (order : Order) (in_hand : (desk_of s proc).in_hand ≡ Some order) (by : Actor) (made : Made) where
    abbrev ended : Seen
    ended = next s event actor (rows.Finished proc nr outcome)

    abbrev pub answered : Seen
    answered = next ended event by (rows.Made proc made)

    joins : follows_finished ended (record { event = event; actor = by; row = rows.Made proc made }) ≡ true
    joins =
        let job_is : task_in_hand s proc ≡ Some order.job = ap (λ (o : Option Order). option_map (λ (x : Order). x.job) o) in_hand in
        ap (λ (o : Option Job). (event + 1 == event + 1) && is_some o) job_is ∙ ap (λ (b : Bool). b && true) (nat_eq_refl (event + 1))

    ended_reports : (desk_of ended proc).reports ≡ (desk_of s proc).reports ++ reports.Done order.job outcome None ∷ []
    ended_reports =
        ap (λ (desk : Desk). desk.reports) (desk_on_same (desk_finished outcome) s.desks proc (λ desk. refl)) ∙ (let now : (desk_finished outcome (desk_of s proc)).reports ≡ (desk_of s proc).reports ++ reports.Done order.job outcome None ∷ [] = rw in_hand refl in now)

    told : Each TellsOfMade (desks_made true made (desk_of ended proc)).reports
    told =
        subst (λ (l : List Report). Each TellsOfMade (reports_joined made l)) (sym ended_reports) (last_tells made (desk_of s proc).reports order.job outcome (are proc))

    pub answered_telling : AreTelling answered
    answered_telling =
        each_desk ended answered proc (desks_made true made) (λ (p : ProcId) (desk : Desk). Each TellsOfMade desk.reports) desks_are (made_proc true made) told others
      where
        desks_are : answered.desks ≡ on_desk proc (desks_made true made) ended.desks
        desks_are = ap (λ (b : Bool). on_desk proc (desks_made b made) ended.desks) joins

        others : (p : ProcId) → (proc.0 == p.0) ≡ false → Each TellsOfMade (desk_of ended p).reports
        others p apart =
            subst (λ (desk : Desk). Each TellsOfMade desk.reports) (sym (desk_on_other (desk_finished outcome) s.desks proc p (λ desk. refl) apart)) (are p)

-- ---- rows of a coordinator, of an event

coord_ends : (s : Seen) (kind : RowKind) → IsOfCoord kind → EndsNoFragment s kind
coord_ends s (rows.Sent job) fine = tt
coord_ends s (rows.Started req goal) fine = tt
coord_ends s (rows.Applied req change) fine = tt
coord_ends s (rows.Refused req reason) fine = tt
coord_ends s (rows.Dropped req cause) fine = tt
coord_ends s _ fine = absurd fine

pub telling_over : (e : InEvent) (more was : List RowKind) → EachGoes e was more → ((kind : RowKind) → Has more kind → IsOfCoord kind) → AreTelling (now_of e was) → AreTelling (now_of e (was ++ more))
telling_over e [] was goes fine are = subst (λ (l : List RowKind). AreTelling (now_of e l)) (sym (append-nil was)) are
telling_over e (kind ∷ more) was goes fine are =
    subst (λ (l : List RowKind). AreTelling (now_of e l)) (append_assoc was (kind ∷ []) more)
    (telling_over e more (was ++ kind ∷ []) (rest_goes e was more kind goes) (λ k has. fine k (inr has)) (now_step AreTelling e was kind (first_goes e was more kind goes) (λ a. telling_after (now_of e was) e.event e.actor a kind (coord_ends (now_of e was) kind (fine kind (inl refl)))) are))

-- ---- the opening

pub opened_telling : (event : ℕ) (actor : Actor) (entry : EntryId) (state : StateId) (doc : DocId) (proc : ProcId) (slot : Option ℕ) (address : List ℕ) → AreTelling (next nothing event actor (rows.Opened entry state doc proc slot address))
opened_telling event actor entry state doc proc slot address p = by_process (proc.0 == p.0)
  where
    by_process : (b : Bool) → Each TellsOfMade (let desk : Desk = cond b (empty_desk proc) (empty_desk p) in desk).reports
    by_process true = tt
    by_process false = tt

-- ---- what follows

-- the first report of a process, where it is of a fragment order, tells of what was made
pub first_tells : (s : Seen) (proc : ProcId) (job : Job) (outcome : Outcome) (made : Option Made) → AreTelling s → slice_get (desk_of s proc).reports 0 ≡ Some (reports.Done job outcome made) → IsFragmentTask job.task → is_some made ≡ true
first_tells s proc job outcome made are first =
    each_first TellsOfMade (desk_of s proc).reports (reports.Done job outcome made) first (are proc)
