-- What each row leaves outstanding at a desk.
use Rattle.std.proofs.Common.{◌≡◌, ◌⊎◌, inl, inr, Bool, true, List, [], ◌∷◌, ◌++◌, Option, Some, None, refl, sym, ap, ◌∙◌, subst}
use Rattle.std.specs.Prelude.{drop, slice_get, option_map, option_to_list}
use Rattle.log_model.specs.declared.job.Job.{Job}
use Rattle.log_model.specs.declared.job.Order.{Order}
use Rattle.log_model.specs.declared.made.Made.{Made}
use Rattle.log_model.specs.declared.made.Report.{Report}
use Rattle.log_model.specs.declared.made.Report.TheVariants as reports
use Rattle.log_model.specs.declared.made.What.{What}
use Rattle.log_model.specs.declared.made.What.TheVariants as whats
use Rattle.log_model.specs.declared.outcome.Outcome.{Outcome}
use Rattle.log_model.specs.declared.request.Poke.{Poke}
use Rattle.log_model.specs.After.{reports_made, desk_made, desk_taken, desk_finished, desk_delivered}
use Rattle.log_model.specs.Seen.{Desk}
use Rattle.seen_facts.specs.Coord.Leading.{orders_of_desk}
use Rattle.seen_facts.specs.Hang.Members.{Has}
use Rattle.seen_facts.specs.Transit.Orders.{HasSome, IsOutcomeOf, TellsOf, IsOutstanding}

-- ---- lists

into_front : {A : Type 0} (xs ys : List A) (x : A) → Has xs x → Has (xs ++ ys) x
into_front [] ys x h = absurd h
into_front (z ∷ zs) ys x (inl same) = inl same
into_front (z ∷ zs) ys x (inr more) = inr (into_front zs ys x more)

into_back : {A : Type 0} (xs ys : List A) (x : A) → Has ys x → Has (xs ++ ys) x
into_back [] ys x h = h
into_back (z ∷ zs) ys x h = inr (into_back zs ys x h)

has_either : {A : Type 0} (xs ys : List A) (x : A) → Has (xs ++ ys) x → Has xs x ⊎ Has ys x
has_either [] ys x h = inr h
has_either (z ∷ zs) ys x (inl same) = inl (inl same)
has_either (z ∷ zs) ys x (inr more) = by_case (has_either zs ys x more)
  where
    by_case : Has zs x ⊎ Has ys x → ((z ≡ x) ⊎ Has zs x) ⊎ Has ys x
    by_case (inl there) = inl (inr there)
    by_case (inr there) = inr there

-- the first item, or one behind it
first_or_more : {A : Type 0} (xs : List A) (x : A) → Has xs x → (slice_get xs 0 ≡ Some x) ⊎ Has (drop 1 xs) x
first_or_more [] x h = absurd h
first_or_more (y ∷ ys) x (inl same) = inl (ap (λ z. Some z) same)
first_or_more (y ∷ ys) x (inr more) = inr more

-- ---- the changes of a desk

module _ (P : Job → Type 0) (desk : Desk) where
  -- its input alone changes
  pub left_outstanding : (input : List Poke) → IsOutstanding P desk → IsOutstanding P (record desk { input = input })
  left_outstanding input is = is

  -- an order joins the mail
  pub mailed_outstanding : (job : Job) → IsOutstanding P desk → IsOutstanding P (record desk { mail = desk.mail ++ job ∷ [] })
  mailed_outstanding job (inr told) = inr told
  mailed_outstanding job (inl h) = by_case (has_either (option_to_list (option_map (λ (order : Order). order.job) desk.in_hand)) desk.mail h.it h.there)
    where
      by_case : Has (option_to_list (option_map (λ (order : Order). order.job) desk.in_hand)) h.it ⊎ Has desk.mail h.it → IsOutstanding P (record desk { mail = desk.mail ++ job ∷ [] })
      by_case (inl there) = inl (record { it = h.it; there = into_front (option_to_list (option_map (λ (order : Order). order.job) desk.in_hand)) (desk.mail ++ job ∷ []) h.it there; is = h.is })
      by_case (inr there) = inl (record { it = h.it; there = into_back (option_to_list (option_map (λ (order : Order). order.job) desk.in_hand)) (desk.mail ++ job ∷ []) h.it (into_front desk.mail (job ∷ []) h.it there); is = h.is })

  -- it is outstanding then
  pub mailed_itself : (job : Job) → P job → IsOutstanding P (record desk { mail = desk.mail ++ job ∷ [] })
  mailed_itself job is =
      inl (record { it = job; there = into_back (option_to_list (option_map (λ (order : Order). order.job) desk.in_hand)) (desk.mail ++ job ∷ []) job (into_back desk.mail (job ∷ []) job (inl refl)); is = is })

  -- a live order is taken up
  pub taken_outstanding : (job : Job) (dirty : Bool) → desk.in_hand ≡ None → slice_get desk.mail 0 ≡ Some job → IsOutstanding P desk → IsOutstanding P (desk_taken true dirty desk)
  taken_outstanding job dirty free first (inr told) = inr told
  taken_outstanding job dirty free first (inl h) = inl (record { it = h.it; there = subst (λ (l : List Job). Has l h.it) (sym same) h.there; is = h.is })
    where
      by_mail : (mail : List Job) → slice_get mail 0 ≡ Some job → option_to_list (option_map (λ (order : Order). order.job) (option_map (λ (j : Job). let o : Order = record { job = j; dirty = dirty } in o) (slice_get mail 0))) ++ drop 1 mail ≡ mail
      by_mail [] e = cc
      by_mail (j ∷ mail) e = refl

      same : orders_of_desk (desk_taken true dirty desk) ≡ orders_of_desk desk
      same = by_mail desk.mail first ∙ sym (ap (λ (o : Option Order). option_to_list (option_map (λ (order : Order). order.job) o) ++ desk.mail) free)

  -- the order in hand is finished, and its report waits
  pub finished_outstanding : (order : Order) (outcome : Outcome) → desk.in_hand ≡ Some order → IsOutcomeOf order.job.task outcome → IsOutstanding P desk → IsOutstanding P (desk_finished outcome desk)
  finished_outstanding order outcome in_ fits (inr h) =
      inr (record { it = h.it; there = subst (λ (l : List Report). Has l h.it) (let e : desk.reports ++ reports.Done order.job outcome None ∷ [] ≡ (desk_finished outcome desk).reports = rw in_ refl in e) (into_front desk.reports (reports.Done order.job outcome None ∷ []) h.it h.there); is = h.is })
  finished_outstanding order outcome in_ fits (inl h) = by_case (has_either (option_to_list (option_map (λ (o : Order). o.job) desk.in_hand)) desk.mail h.it h.there)
    where
      its : HasSome P (orders_of_desk desk)
      its = h

      in_hand_is : Has (option_to_list (option_map (λ (o : Order). o.job) desk.in_hand)) h.it → order.job ≡ h.it
      in_hand_is there = by_one (subst (λ (o : Option Order). Has (option_to_list (option_map (λ (x : Order). x.job) o)) h.it) in_ there)
        where
          by_one : (order.job ≡ h.it) ⊎ ⊥ → order.job ≡ h.it
          by_one (inl same) = same
          by_one (inr never) = absurd never

      by_case : Has (option_to_list (option_map (λ (o : Order). o.job) desk.in_hand)) h.it ⊎ Has desk.mail h.it → IsOutstanding P (desk_finished outcome desk)
      by_case (inl there) =
          inr (record {
            it = reports.Done order.job outcome None;
            there = subst (λ (l : List Report). Has l (reports.Done order.job outcome None)) (let e : desk.reports ++ reports.Done order.job outcome None ∷ [] ≡ (desk_finished outcome desk).reports = rw in_ refl in e) (into_back desk.reports (reports.Done order.job outcome None ∷ []) (reports.Done order.job outcome None) (inl refl));
            is = (subst P (sym (in_hand_is there)) h.is, fits);
          })
      by_case (inr there) = inl (record { it = h.it; there = there; is = h.is })

  -- something was made of a poke
  pub made_outstanding : (made : Made) → IsOutstanding P desk → IsOutstanding P (desk_made made desk)
  made_outstanding made (inl h) = inl h
  made_outstanding made (inr h) = inr (record { it = h.it; there = by_what made.what; is = h.is })
    where
      by_what : (what : What) → Has (reports_made desk.reports made what) h.it
      by_what (whats.Push entry memo address) = into_front desk.reports (reports.Made made ∷ []) h.it h.there
      by_what (whats.Replace over entry memo address) = into_front desk.reports (reports.Made made ∷ []) h.it h.there
      by_what (whats.AddFrame nav) = into_front desk.reports (reports.Made made ∷ []) h.it h.there
      by_what (whats.RemoveFrame nav) = into_front desk.reports (reports.Made made ∷ []) h.it h.there
      by_what (whats.Go delta) = into_front desk.reports (reports.Made made ∷ []) h.it h.there
      by_what whats.Edit = h.there

  -- the first report is delivered: it is that of the order, or the order is outstanding still
  pub delivered_outstanding : IsOutstanding P desk → ((report : Report) × (slice_get desk.reports 0 ≡ Some report) × TellsOf P report) ⊎ IsOutstanding P (desk_delivered desk)
  delivered_outstanding (inl h) = inr (inl h)
  delivered_outstanding (inr h) = by_case (first_or_more desk.reports h.it h.there)
    where
      by_case : (slice_get desk.reports 0 ≡ Some h.it) ⊎ Has (drop 1 desk.reports) h.it → ((report : Report) × (slice_get desk.reports 0 ≡ Some report) × TellsOf P report) ⊎ IsOutstanding P (desk_delivered desk)
      by_case (inl first) = inl (h.it, first, h.is)
      by_case (inr more) = inr (inr (record { it = h.it; there = more; is = h.is }))
