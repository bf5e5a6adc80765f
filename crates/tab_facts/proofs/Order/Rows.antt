-- What is so of each order on its way is so after each row, but for an order that is sent.
use Rattle.seen_facts.proofs.Coord.Leadings.{proc_same}
use Rattle.seen_facts.proofs.Coord.OneDocument.{mailed}
use Rattle.seen_facts.proofs.Coord.Unread.{DesksLeft, accepted_left, dropped_left, next, refused_left}
use Rattle.seen_facts.specs.Coord.Leading.{orders_of_desk}
use Rattle.seen_facts.proofs.Each.Eaches.{each_less, each_more, each_on}
use Rattle.seen_facts.specs.Each.Items.{Each}
use Rattle.tab_facts.proofs.FrameTab.Mailing.{orders_more}
use Rattle.seen_facts.specs.Hang.Members.{Has}
use Rattle.log_model.specs.After.{desk_delivered, desk_finished, desk_taken, desks_made, follows_finished, on_desk, reports_joined, reports_made}
use Rattle.log_model.specs.Seen.{Desk, Seen, desk_in, desk_of}
use Rattle.log_model.specs.declared.job.Job.{Job}
use Rattle.log_model.specs.declared.job.Order.{Order}
use Rattle.log_model.specs.declared.made.Made.{Made}
use Rattle.log_model.specs.declared.made.Report.{Report}
use Rattle.log_model.specs.declared.made.What.{What}
use Rattle.log_model.specs.declared.outcome.Outcome.{Outcome}
use Rattle.log_model.specs.declared.row_kind.Actor.{Actor}
use Rattle.log_model.specs.declared.row_kind.RowKind.{RowKind}
use Rattle.tab_facts.specs.Order.Orders.{AreOrders, EachOrder, IsOfCoord, TellsOf}
use Rattle.seen_laws.proofs.Desks.{desk_on_other, desk_on_same}
use Rattle.seen_laws.proofs.InEvents.{first_goes, now_step, rest_goes}
use Rattle.seen_laws.specs.InEvent.{EachGoes, InEvent, now_of}
use Rattle.std.proofs.Common.{Bool, List, None, Option, Some, [], ap, append-nil, append_assoc, false, inl, inr, refl, subst, sym, true, ℕ, ◌++◌, ◌==◌, ◌∙◌, ◌∷◌, ◌≡◌}
use Rattle.std.specs.Prelude.{option_map, option_to_list}
use Rattle.tab_ids.specs.declared.ProcId.{ProcId}
use Rattle.log_model.specs.declared.made.Report.TheVariants as reports
use Rattle.log_model.specs.declared.made.What.TheVariants as whats
use Rattle.log_model.specs.declared.row_kind.RowKind.TheVariants as rows

-- ---- one statement of the other

told_on : (F G : Job → Type 0) → ((job : Job) → F job → G job) → (report : Report) → TellsOf F report → TellsOf G report
told_on F G on (reports.Done job outcome made) its = on job its
told_on F G on (reports.Made made) its = tt
told_on F G on (reports.Died death) its = tt

pub orders_on : (F G : Job → Type 0) (s : Seen) → ((job : Job) → F job → G job) → AreOrders F s → AreOrders G s
orders_on F G s on are proc =
    record {
      orders = each_on F G (orders_of_desk (desk_of s proc)) on (are proc).orders;
      told = each_on (TellsOf F) (TellsOf G) (desk_of s proc).reports (told_on F G on) (are proc).told;
    }

-- the row neither opens the tab nor kills a process
abbrev pub IsWithin : RowKind → Type 0
IsWithin (rows.Opened entry state doc proc slot address) = ⊥
IsWithin (rows.Killed proc death) = ⊥
IsWithin _ = Unit {0}

pub coord_within : (kind : RowKind) → IsOfCoord kind → IsWithin kind
coord_within (rows.Sent job) fine = tt
coord_within (rows.Started req goal) fine = tt
coord_within (rows.Applied req change) fine = tt
coord_within (rows.Refused req reason) fine = tt
coord_within (rows.Dropped req cause) fine = tt
coord_within _ fine = absurd fine

module _ (F : Job → Type 0) where
  -- ---- processes

  -- none is changed, or none but in its input
  same_orders : (s t : Seen) → t.desks ≡ s.desks → AreOrders F s → AreOrders F t
  same_orders s t same are proc = subst (λ (l : List Desk). EachOrder F (desk_in l proc)) (sym same) (are proc)

  left_orders : (s t : Seen) → DesksLeft s t → AreOrders F s → AreOrders F t
  left_orders s t left are proc =
      subst (EachOrder F) (sym (left proc).1) (record { orders = (are proc).orders; told = (are proc).told })

  -- one is changed
  on_orders : (s t : Seen) (of : ProcId) (f : Desk → Desk) → t.desks ≡ on_desk of f s.desks → ((desk : Desk) → (f desk).proc ≡ desk.proc) → ((desk : Desk) → EachOrder F desk → EachOrder F (f desk)) → AreOrders F s → AreOrders F t
  on_orders s t of f desks keeps again are proc = by_process (of.0 == proc.0) refl
    where
      by_process : (b : Bool) → (of.0 == proc.0) ≡ b → EachOrder F (desk_of t proc)
      by_process true e =
          let same : of ≡ proc = proc_same of proc e in
          let own : desk_of t of ≡ f (desk_of s of) = ap (λ (l : List Desk). desk_in l of) desks ∙ desk_on_same f s.desks of keeps in
          subst (λ (p : ProcId). EachOrder F (desk_of t p)) same
          (subst (EachOrder F) (sym own) (again (desk_of s of) (are of)))
      by_process false e =
          subst (EachOrder F) (sym (ap (λ (l : List Desk). desk_in l proc) desks ∙ desk_on_other f s.desks of proc keeps e)) (are proc)

  -- ---- an order is sent, taken up and finished

  mailed_orders : (job : Job) (desk : Desk) → F job → EachOrder F desk → EachOrder F (mailed job desk)
  mailed_orders job desk its are =
      record {
        orders = subst (λ (l : List Job). Each F l) (sym (orders_more job desk)) (each_more F (orders_of_desk desk) job are.orders its);
        told = are.told;
      }

  -- the orders in the mail
  mail_of : (hand : Option Order) (mail : List Job) → Each F (option_to_list (option_map (λ (order : Order). order.job) hand) ++ mail) → Each F mail
  mail_of None mail all = all
  mail_of (Some order) mail all = all.1

  taken_each : (live dirty : Bool) (desk : Desk) (mail : List Job) → desk.mail ≡ mail → Each F mail → Each F (orders_of_desk (desk_taken live dirty desk))
  taken_each true dirty desk [] e all = rw e tt
  taken_each false dirty desk [] e all = rw e tt
  taken_each true dirty desk (job ∷ mail) e all = rw e all
  taken_each false dirty desk (job ∷ mail) e all = rw e all.1

  finished_told : (outcome : Outcome) (desk : Desk) (hand : Option Order) → desk.in_hand ≡ hand → EachOrder F desk → Each (TellsOf F) (desk_finished outcome desk).reports
  finished_told outcome desk None e are = rw e are.told
  finished_told outcome desk (Some order) e are =
      let its : F order.job = (subst (λ (o : Option Order). Each F (option_to_list (option_map (λ (x : Order). x.job) o) ++ desk.mail)) e are.orders).0 in
      rw e (each_more (TellsOf F) desk.reports (reports.Done order.job outcome None) are.told its)

  -- ---- what is made joins a report, or waits itself

  joined_told : (made : Made) (waiting : List Report) → Each (TellsOf F) waiting → Each (TellsOf F) (reports_joined made waiting)
  joined_told made [] all = tt
  joined_told made (reports.Done job outcome joined ∷ []) all = (all.0, tt)
  joined_told made (reports.Done job outcome joined ∷ next_ ∷ waiting) all = (all.0, joined_told made (next_ ∷ waiting) all.1)
  joined_told made (reports.Made x ∷ waiting) all = (tt, joined_told made waiting all.1)
  joined_told made (reports.Died death ∷ waiting) all = (tt, joined_told made waiting all.1)

  made_told : (waiting : List Report) (made : Made) (what : What) → Each (TellsOf F) waiting → Each (TellsOf F) (reports_made waiting made what)
  made_told waiting made whats.Edit all = all
  made_told waiting made (whats.Push entry memo address) all = each_more (TellsOf F) waiting (reports.Made made) all tt
  made_told waiting made (whats.Replace over entry memo address) all = each_more (TellsOf F) waiting (reports.Made made) all tt
  made_told waiting made (whats.AddFrame nav) all = each_more (TellsOf F) waiting (reports.Made made) all tt
  made_told waiting made (whats.RemoveFrame nav) all = each_more (TellsOf F) waiting (reports.Made made) all tt
  made_told waiting made (whats.Go delta) all = each_more (TellsOf F) waiting (reports.Made made) all tt

  made_orders : (joins : Bool) (made : Made) (desk : Desk) → EachOrder F desk → EachOrder F (desks_made joins made desk)
  made_orders true made desk are = record { orders = are.orders; told = joined_told made desk.reports are.told }
  made_orders false made desk are = record { orders = are.orders; told = made_told desk.reports made made.what are.told }

  made_proc : (joins : Bool) (made : Made) (desk : Desk) → (desks_made joins made desk).proc ≡ desk.proc
  made_proc true made desk = refl
  made_proc false made desk = refl

  -- ---- each row, but one that opens the tab or kills a process

  module _ (s : Seen) (event : ℕ) (actor : Actor) where
    -- where it is so of an order that the row sends
    pub orders_after : (kind : RowKind) → IsWithin kind → ((job : Job) → kind ≡ rows.Sent job → F job) → AreOrders F s → AreOrders F (next s event actor kind)
    orders_after (rows.Opened entry state doc proc slot address) fine sent are = absurd fine
    orders_after (rows.Accepted req doc what) fine sent are = left_orders s (next s event actor (rows.Accepted req doc what)) (accepted_left s event actor req doc what) are
    orders_after (rows.Started req goal) fine sent are = same_orders s (next s event actor (rows.Started req goal)) refl are
    orders_after (rows.Sent job) fine sent are =
        on_orders s (next s event actor (rows.Sent job)) job.proc (mailed job) refl (λ desk. refl) (λ desk each. mailed_orders job desk (sent job refl) each) are
    orders_after (rows.Taken proc job live dirty) fine sent are =
        on_orders s (next s event actor (rows.Taken proc job live dirty)) proc (desk_taken live dirty) refl (λ desk. refl)
        (λ desk each. record { orders = taken_each live dirty desk desk.mail refl (mail_of desk.in_hand desk.mail each.orders); told = each.told }) are
    orders_after (rows.Finished proc job outcome) fine sent are =
        on_orders s (next s event actor (rows.Finished proc job outcome)) proc (desk_finished outcome) refl (λ desk. refl)
        (λ desk each. record { orders = mail_of desk.in_hand desk.mail each.orders; told = finished_told outcome desk desk.in_hand refl each }) are
    orders_after (rows.Made proc made) fine sent are =
        let joins = follows_finished s (record { event = event; actor = actor; row = rows.Made proc made }) in
        on_orders s (next s event actor (rows.Made proc made)) proc (desks_made joins made) refl (made_proc joins made) (made_orders joins made) are
    orders_after (rows.Delivered proc) fine sent are =
        on_orders s (next s event actor (rows.Delivered proc)) proc desk_delivered refl (λ desk. refl)
        (λ desk each. record { orders = each.orders; told = each_less (TellsOf F) desk.reports each.told }) are
    orders_after (rows.Applied req change) fine sent are = same_orders s (next s event actor (rows.Applied req change)) refl are
    orders_after (rows.Refused req reason) fine sent are = left_orders s (next s event actor (rows.Refused req reason)) (refused_left s event actor req reason) are
    orders_after (rows.Dropped req cause) fine sent are = left_orders s (next s event actor (rows.Dropped req cause)) (dropped_left s event actor req cause) are
    orders_after (rows.Prompted req doc) fine sent are = same_orders s (next s event actor (rows.Prompted req doc)) refl are
    orders_after (rows.Answered req stay) fine sent are = same_orders s (next s event actor (rows.Answered req stay)) refl are
    orders_after (rows.Evicted state) fine sent are = same_orders s (next s event actor (rows.Evicted state)) refl are
    orders_after (rows.Killed proc death) fine sent are = absurd fine

-- ---- rows of an event

module _ (F : Job → Type 0) (e : InEvent) where
  -- where it is so of each order that they send
  pub orders_over : (more was : List RowKind) → EachGoes e was more → ((kind : RowKind) → Has more kind → IsWithin kind) → ((job : Job) → Has more (rows.Sent job) → F job) → AreOrders F (now_of e was) → AreOrders F (now_of e (was ++ more))
  orders_over [] was goes fine sent are = subst (λ (l : List RowKind). AreOrders F (now_of e l)) (sym (append-nil was)) are
  orders_over (kind ∷ more) was goes fine sent are =
      subst (λ (l : List RowKind). AreOrders F (now_of e l)) (append_assoc was (kind ∷ []) more)
      (orders_over more (was ++ kind ∷ []) (rest_goes e was more kind goes) (λ k has. fine k (inr has)) (λ job has. sent job (inr has))
      (now_step (AreOrders F) e was kind (first_goes e was more kind goes) (λ a. orders_after F (now_of e was) e.event e.actor kind (fine kind (inl refl)) (λ job is. sent job (inl is)) a) are))
