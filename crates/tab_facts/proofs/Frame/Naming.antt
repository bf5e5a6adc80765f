-- What each row leaves of the orders that make documents: they name the states of these documents.
use Rattle.seen_facts.proofs.Coord.Leadings.{proc_same}
use Rattle.seen_facts.proofs.Coord.OneDocument.{mailed}
use Rattle.seen_facts.proofs.Coord.Unread.{DesksLeft, next}
use Rattle.seen_facts.specs.Coord.Leading.{orders_of_desk}
use Rattle.tab_facts.specs.Frame.Lasting.{IsLasting, IsOfState, NameTheirStates, NamesItsState, TellsItsState}
use Rattle.tab_facts.proofs.FrameTab.Mailing.{orders_more}
use Rattle.log_model.specs.After.{desk_delivered, desk_finished, desk_taken, desks_made, follows_finished, on_desk, reports_joined, reports_made}
use Rattle.log_model.specs.Seen.{Desk, Document, Seen, desk_in, desk_of, document_of}
use Rattle.log_model.specs.declared.job.Job.{Job}
use Rattle.log_model.specs.declared.job.Order.{Order}
use Rattle.log_model.specs.declared.made.Made.{Made}
use Rattle.log_model.specs.declared.made.Report.{Report}
use Rattle.log_model.specs.declared.made.What.{What}
use Rattle.log_model.specs.declared.outcome.Outcome.{Outcome}
use Rattle.log_model.specs.declared.row_kind.Actor.{Actor}
use Rattle.seen_facts.proofs.Each.Eaches.{each_first, each_less, each_more, each_on}
use Rattle.seen_facts.specs.Each.Items.{Each}
use Rattle.seen_laws.proofs.Desks.{desk_on_other, desk_on_same}
use Rattle.std.proofs.Common.{Bool, List, None, Option, Some, [], ap, false, refl, subst, sym, true, ℕ, ◌++◌, ◌==◌, ◌∙◌, ◌∷◌, ◌≡◌}
use Rattle.std.specs.Prelude.{option_map, option_to_list, slice_get}
use Rattle.tab_ids.specs.declared.DocId.{DocId}
use Rattle.tab_ids.specs.declared.NavId.{NavId}
use Rattle.tab_ids.specs.declared.ProcId.{ProcId}
use Rattle.tab_ids.specs.declared.StateId.{StateId}
use Rattle.log_model.specs.declared.job.Task.TheVariants as tasks
use Rattle.log_model.specs.declared.made.Report.TheVariants as reports
use Rattle.log_model.specs.declared.made.What.TheVariants as whats
use Rattle.log_model.specs.declared.row_kind.RowKind.TheVariants as rows

-- ---- documents that keep their states

module _ (documents next_ : List Document) (stay : (doc : DocId) (state : StateId) → IsOfState documents doc state → IsOfState next_ doc state) where
  told_on : (report : Report) → TellsItsState documents report → TellsItsState next_ report
  told_on (reports.Done job outcome made) its =
      λ nav state address initial task. stay job.doc state (its nav state address initial task)
  told_on (reports.Made made) its = tt
  told_on (reports.Died death) its = tt

  pub names_on : (desk : Desk) → NameTheirStates documents desk → NameTheirStates next_ desk
  names_on desk are =
      record {
        orders = each_on (NamesItsState documents) (NamesItsState next_) (orders_of_desk desk) (λ job its nav state address initial task. stay job.doc state (its nav state address initial task)) are.orders;
        told = each_on (TellsItsState documents) (TellsItsState next_) desk.reports told_on are.told;
      }

-- ---- desks

-- whatever the documents are, each process has orders that name their states again
abbrev pub LeavesNames : Seen → Seen → Type 0
LeavesNames s t =
    (documents : List Document) (proc : ProcId) → NameTheirStates documents (desk_of s proc) → NameTheirStates documents (desk_of t proc)

-- no process is changed, or none but in its input
pub same_names : (s t : Seen) → t.desks ≡ s.desks → LeavesNames s t
same_names s t same documents proc are = subst (λ (l : List Desk). NameTheirStates documents (desk_in l proc)) (sym same) are

pub left_names : (s t : Seen) → DesksLeft s t → LeavesNames s t
left_names s t left documents proc are =
    subst (NameTheirStates documents) (sym (left proc).1) (record { orders = are.orders; told = are.told })

-- one process is changed
on_names : (s t : Seen) (of : ProcId) (f : Desk → Desk) (documents : List Document) → t.desks ≡ on_desk of f s.desks → ((desk : Desk) → (f desk).proc ≡ desk.proc) → ((desk : Desk) → NameTheirStates documents desk → NameTheirStates documents (f desk)) → (proc : ProcId) → NameTheirStates documents (desk_of s proc) → NameTheirStates documents (desk_of t proc)
on_names s t of f documents desks keeps again proc are = by_process (of.0 == proc.0) refl
  where
    by_process : (b : Bool) → (of.0 == proc.0) ≡ b → NameTheirStates documents (desk_of t proc)
    by_process true e =
        let same : of ≡ proc = proc_same of proc e in
        let own : desk_of t of ≡ f (desk_of s of) = ap (λ (l : List Desk). desk_in l of) desks ∙ desk_on_same f s.desks of keeps in
        subst (λ (p : ProcId). NameTheirStates documents (desk_of t p)) same
        (subst (NameTheirStates documents) (sym own) (again (desk_of s of) (subst (λ (p : ProcId). NameTheirStates documents (desk_of s p)) (sym same) are)))
    by_process false e =
        subst (NameTheirStates documents) (sym (ap (λ (l : List Desk). desk_in l proc) desks ∙ desk_on_other f s.desks of proc keeps e)) are

-- ---- an order is sent, taken up and finished

pub mailed_names : (documents : List Document) (job : Job) (desk : Desk) → NamesItsState documents job → NameTheirStates documents desk → NameTheirStates documents (mailed job desk)
mailed_names documents job desk its are =
    record {
      orders = subst (λ (l : List Job). Each (NamesItsState documents) l) (sym (orders_more job desk)) (each_more (NamesItsState documents) (orders_of_desk desk) job are.orders its);
      told = are.told;
    }

-- the orders in the mail
mail_of : (F : Job → Type 0) (hand : Option Order) (mail : List Job) → Each F (option_to_list (option_map (λ (order : Order). order.job) hand) ++ mail) → Each F mail
mail_of F None mail all = all
mail_of F (Some order) mail all = all.1

taken_orders : (F : Job → Type 0) (live dirty : Bool) (desk : Desk) (mail : List Job) → desk.mail ≡ mail → Each F mail → Each F (orders_of_desk (desk_taken live dirty desk))
taken_orders F true dirty desk [] e all = rw e tt
taken_orders F false dirty desk [] e all = rw e tt
taken_orders F true dirty desk (job ∷ mail) e all = rw e all
taken_orders F false dirty desk (job ∷ mail) e all = rw e all.1

finished_told : (documents : List Document) (outcome : Outcome) (desk : Desk) (hand : Option Order) → desk.in_hand ≡ hand → NameTheirStates documents desk → Each (TellsItsState documents) (desk_finished outcome desk).reports
finished_told documents outcome desk None e are = rw e are.told
finished_told documents outcome desk (Some order) e are =
    let its : NamesItsState documents order.job = (subst (λ (o : Option Order). Each (NamesItsState documents) (option_to_list (option_map (λ (x : Order). x.job) o) ++ desk.mail)) e are.orders).0 in
    rw e (each_more (TellsItsState documents) desk.reports (reports.Done order.job outcome None) are.told its)

-- ---- what is made joins a report, or waits itself

joined_told : (documents : List Document) (made : Made) (waiting : List Report) → Each (TellsItsState documents) waiting → Each (TellsItsState documents) (reports_joined made waiting)
joined_told documents made [] all = tt
joined_told documents made (reports.Done job outcome joined ∷ []) all = (all.0, tt)
joined_told documents made (reports.Done job outcome joined ∷ next_ ∷ waiting) all =
    (all.0, joined_told documents made (next_ ∷ waiting) all.1)
joined_told documents made (reports.Made x ∷ waiting) all = (tt, joined_told documents made waiting all.1)
joined_told documents made (reports.Died death ∷ waiting) all = (tt, joined_told documents made waiting all.1)

made_told : (documents : List Document) (waiting : List Report) (made : Made) (what : What) → Each (TellsItsState documents) waiting → Each (TellsItsState documents) (reports_made waiting made what)
made_told documents waiting made whats.Edit all = all
made_told documents waiting made (whats.Push entry memo address) all = each_more (TellsItsState documents) waiting (reports.Made made) all tt
made_told documents waiting made (whats.Replace over entry memo address) all = each_more (TellsItsState documents) waiting (reports.Made made) all tt
made_told documents waiting made (whats.AddFrame nav) all = each_more (TellsItsState documents) waiting (reports.Made made) all tt
made_told documents waiting made (whats.RemoveFrame nav) all = each_more (TellsItsState documents) waiting (reports.Made made) all tt
made_told documents waiting made (whats.Go delta) all = each_more (TellsItsState documents) waiting (reports.Made made) all tt

made_names : (documents : List Document) (joins : Bool) (made : Made) (desk : Desk) → NameTheirStates documents desk → NameTheirStates documents (desks_made joins made desk)
made_names documents true made desk are =
    record { orders = are.orders; told = joined_told documents made desk.reports are.told }
made_names documents false made desk are =
    record { orders = are.orders; told = made_told documents desk.reports made made.what are.told }

made_proc : (joins : Bool) (made : Made) (desk : Desk) → (desks_made joins made desk).proc ≡ desk.proc
made_proc true made desk = refl
made_proc false made desk = refl

-- ---- the rows

module _ (s : Seen) (event : ℕ) (actor : Actor) where
  -- the order names its document's state, where it makes one
  pub sent_names : (job : Job) (documents : List Document) → NamesItsState documents job → (proc : ProcId) → NameTheirStates documents (desk_of s proc) → NameTheirStates documents (desk_of (next s event actor (rows.Sent job)) proc)
  sent_names job documents its =
      on_names s (next s event actor (rows.Sent job)) job.proc (mailed job) documents refl (λ desk. refl) (λ desk are. mailed_names documents job desk its are)

  pub taken_names : (proc : ProcId) (job : Job) (live dirty : Bool) → LeavesNames s (next s event actor (rows.Taken proc job.nr live dirty))
  taken_names proc job live dirty documents =
      on_names s (next s event actor (rows.Taken proc job.nr live dirty)) proc (desk_taken live dirty) documents refl (λ desk. refl)
      (λ desk are. record { orders = taken_orders (NamesItsState documents) live dirty desk desk.mail refl (mail_of (NamesItsState documents) desk.in_hand desk.mail are.orders); told = are.told })

  pub finished_names : (proc : ProcId) (order : Order) (outcome : Outcome) → LeavesNames s (next s event actor (rows.Finished proc order.job.nr outcome))
  finished_names proc order outcome documents =
      on_names s (next s event actor (rows.Finished proc order.job.nr outcome)) proc (desk_finished outcome) documents refl (λ desk. refl)
      (λ desk are. record { orders = mail_of (NamesItsState documents) desk.in_hand desk.mail are.orders; told = finished_told documents outcome desk desk.in_hand refl are })

  pub delivered_names : (proc : ProcId) → LeavesNames s (next s event actor (rows.Delivered proc))
  delivered_names proc documents =
      on_names s (next s event actor (rows.Delivered proc)) proc desk_delivered documents refl (λ desk. refl)
      (λ desk are. record { orders = are.orders; told = each_less (TellsItsState documents) desk.reports are.told })

  pub acted_names : (proc : ProcId) (made : Made) → LeavesNames s (next s event actor (rows.Made proc made))
  acted_names proc made documents =
      on_names s (next s event actor (rows.Made proc made)) proc (desks_made (follows_finished s (record { event = event; actor = actor; row = rows.Made proc made })) made) documents refl
      (made_proc (follows_finished s (record { event = event; actor = actor; row = rows.Made proc made })) made)
      (made_names documents (follows_finished s (record { event = event; actor = actor; row = rows.Made proc made })) made)

-- ---- the report of it that is first

pub told_state : (s : Seen) → IsLasting s → (proc : ProcId) (job : Job) (outcome : Outcome) (made : Option Made) → slice_get (desk_of s proc).reports 0 ≡ Some (reports.Done job outcome made) → (nav : NavId) (state : StateId) (address : List ℕ) (initial : Bool) → job.task ≡ tasks.Populate nav state address initial → (d : Document) → document_of s job.doc ≡ Some d → d.state ≡ state
told_state s is proc job outcome made first nav state address initial task d found =
    let its : IsOfState s.documents job.doc state = each_first (TellsItsState s.documents) (desk_of s proc).reports (reports.Done job outcome made) first (is.populates proc).told nav state address initial task in
    let both_ : Some d ≡ Some its.d = sym found ∙ its.found in
    let same : d ≡ its.d = cc in
    ap (λ (x : Document). x.state) same ∙ its.state_is
