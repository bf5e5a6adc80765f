-- What is true between two rows of the documents of all awake navigables is so of a state in which each process has the same orders and its reports tell of the same.
use Rattle.std.proofs.Common.{◌≡◌, ℕ, Bool, true, false, ◌==◌, List, ◌++◌, length, Option, refl, sym, ap, ◌∙◌, subst}
use Rattle.std.specs.Prelude.{filter, filter_map, fold}
use Rattle.tab_ids.specs.declared.DocId.{DocId}
use Rattle.tab_ids.specs.declared.EntryId.{EntryId}
use Rattle.tab_ids.specs.declared.Epoch.{Epoch}
use Rattle.tab_ids.specs.declared.ProcId.{ProcId}
use Rattle.log_model.specs.declared.job.Job.{Job}
use Rattle.log_model.specs.declared.made.Made.{Made}
use Rattle.log_model.specs.declared.row.Row.{Row}
use Rattle.log_model.specs.AfterRequests.{made_of_report}
use Rattle.log_model.specs.Seen.{Seen, Document, Desk, desk_of}
use Rattle.seen_facts.specs.Coord.Epochs.{AllWithin, IsWithin, MadeWithin, EachIsWithin}
use Rattle.seen_facts.specs.Coord.Flowing.{Flows, FlowsBut}
use Rattle.seen_facts.specs.Coord.Leading.{orders_of_desk, orders_for, is_live_order, is_made_under, once_finished, held_back, face_after, LeadsUntold, LeadsBut, EachAwake, EachIsOfItsNavigable, EachLeadsBut}
use Rattle.seen_facts.specs.Coord.Reaching.{Reaches, EachReaches}
use Rattle.seen_facts.proofs.Coord.Kept.{unread_stays}
use Rattle.seen_facts.proofs.Coord.Leadings.{EachWasAwake, LeadsIn, leads_again}
use Rattle.seen_facts.proofs.Coord.OneDocument.{LooksAlike, leads_alike}
use Rattle.seen_facts.proofs.Coord.Reached.{reaches_alike}
use Rattle.seen_facts.proofs.Coord.TakenUp.{but_own, but_other, other_leads}
use Rattle.seen_facts.proofs.Coord.Whose.{had_status, whose_same}
use Rattle.seen_facts.proofs.Coord.Within.{within_more}
use Rattle.seen_facts.proofs.Coord.WithinLeft.{each_unread}
use Rattle.seen_facts.proofs.Coord.WithinRows.{as_far}
use Rattle.seen_facts.proofs.Coord.Withins.{WithinIn, within_again}

-- the process has the same orders, as many deaths, and its reports tell of the same
pub record SaysAlike (desk next : Desk) : Type 0 where
  pub orders : orders_of_desk next ≡ orders_of_desk desk
  pub killed : length next.killed ≡ length desk.killed
  pub told : filter_map made_of_report next.reports ≡ filter_map made_of_report desk.reports

pub orders_alike : (desk next : Desk) (doc : DocId) → SaysAlike desk next → orders_for next doc ≡ orders_for desk doc
orders_alike desk next doc is =
    ap (λ (l : List Job). filter (is_live_order doc (length next.killed)) l) is.orders
    ∙ ap (λ (n : ℕ). filter (is_live_order doc n) (orders_of_desk desk)) is.killed

pub looks_alike : (held : List Made) (desk next : Desk) (d : Document) (epoch : Epoch) → SaysAlike desk next → LooksAlike held desk next d d epoch
looks_alike held desk next d epoch is =
    record {
      pending = ap (λ (l : List Job). (fold once_finished d l).view) (orders_alike desk next d.nr is);
      coming = ap (λ (l : List Made). filter (is_made_under d.nr epoch) (held ++ l)) is.told;
      told = refl;
    }

-- no document is changed, and no navigable that is awake wasn't so; the rows and what is held back are as they were, and each process says the same
pub record IsUnseen (s t : Seen) : Type 0 where
  pub documents : t.documents ≡ s.documents
  pub places : EachWasAwake s t
  pub rows : t.history.rows ≡ s.history.rows
  pub held : held_back t.requests t.parked ≡ held_back s.requests s.parked
  pub desks : (proc : ProcId) → SaysAlike (desk_of s proc) (desk_of t proc)

within_alike : (held : List Made) (desk next : Desk) (d : Document) (bound : ℕ) → SaysAlike desk next → IsWithin held desk d bound → IsWithin held next d bound
within_alike held desk next d bound says was =
    record {
      view = was.view;
      orders = subst (λ (l : List Job). AllWithin bound l) (sym (orders_alike desk next d.nr says)) was.orders;
      held_back = was.held_back;
      reports = subst (λ (l : List Made). MadeWithin bound d.nr l) (sym says.told) was.reports;
    }

-- but for what one document was told
untold_alike : (rows : List Row) (held : List Made) (desk next : Desk) (d : Document) (given : Option EntryId) (epoch : Epoch) → LooksAlike held desk next d d epoch → LeadsUntold rows held desk d given epoch → LeadsUntold rows held next d given epoch
untold_alike rows held desk next d given epoch alike is =
    record {
      face = is.face;
      is_given = is.is_given;
      is_row = is.is_row;
      view = is.view;
      pending = alike.pending ∙ is.pending;
      leads = ap (λ (l : List Made). fold face_after is.face l) alike.coming ∙ is.leads;
      runs = is.runs;
      in_epoch = is.in_epoch;
    }

but_alike : (doc : DocId) (rows : List Row) (held : List Made) (desk next : Desk) (d : Document) (given : Option EntryId) (epoch : Epoch) → LooksAlike held desk next d d epoch → LeadsBut doc rows held desk d given epoch → LeadsBut doc rows held next d given epoch
but_alike doc rows held desk next d given epoch alike is = by_test (d.nr.0 == doc.0) refl
  where
    by_test : (b : Bool) → (d.nr.0 == doc.0) ≡ b → LeadsBut doc rows held next d given epoch
    by_test true e =
        let own : LeadsUntold rows held desk d given epoch = rw e at is in
        but_own doc rows held next d given epoch e (untold_alike rows held desk next d given epoch alike own)
    by_test false e =
        but_other doc rows held next d given epoch e (leads_alike rows held desk next d d given epoch alike (other_leads doc rows held desk d given epoch e is))

module _ (s t : Seen) (is : IsUnseen s t) where
  -- a fact of the document of each awake navigable, where it looks at what its process says alone
  unseen_stays : (F : Desk → Document → Option EntryId → Epoch → Type 0) → ((desk next : Desk) (d : Document) (given : Option EntryId) (epoch : Epoch) → SaysAlike desk next → F desk d given epoch → F next d given epoch) → EachAwake F s → EachAwake F t
  unseen_stays F on each =
      unread_stays F s t
      (record {
        documents = is.documents;
        places = is.places;
        stays_on = λ d given epoch was. on (desk_of s d.proc) (desk_of t d.proc) d given epoch (is.desks d.proc) was;
      })
      each

  whose_again : EachIsOfItsNavigable s → EachIsOfItsNavigable t
  whose_again whose = whose_same s t is.documents (had_status s t is.places) whose

  reaches_again : EachReaches s → EachReaches t
  reaches_again each =
      unseen_stays (λ desk x given epoch. Reaches desk x epoch) (λ desk next d given epoch says reaches. reaches_alike desk next d d epoch (orders_alike desk next d.nr says) (λ view has. (view, has, refl)) reaches) each

  withins_again : EachIsWithin s → EachIsWithin t
  withins_again each =
      within_again s t is.held
      (each_unread (WithinIn s) s t is.documents (λ nav place placed. as_far s nav place (is.places nav place placed)) (λ desk d m n more was. within_more (held_back s.requests s.parked) desk d m n more was) (λ d bound was. within_alike (held_back s.requests s.parked) (desk_of s d.proc) (desk_of t d.proc) d bound (is.desks d.proc) was) each)

  pub flows_again : Flows s → Flows t
  flows_again flows =
      record {
        leads = leads_again s t is.rows is.held (unseen_stays (LeadsIn s) (λ desk next d given epoch says led. leads_alike s.history.rows (held_back s.requests s.parked) desk next d d given epoch (looks_alike (held_back s.requests s.parked) desk next d epoch says) led) flows.leads);
        whose = whose_again flows.whose;
        reaches = reaches_again flows.reaches;
        within = withins_again flows.within;
      }

  -- so it is between an applied push and the order that tells of it
  pub flows_but_again : (doc : DocId) → FlowsBut doc s → FlowsBut doc t
  flows_but_again doc flows =
      record {
        leads = leads;
        whose = whose_again flows.whose;
        reaches = reaches_again flows.reaches;
        within = withins_again flows.within;
      }
    where
      ButIn : Desk → Document → Option EntryId → Epoch → Type 0
      ButIn = LeadsBut doc s.history.rows (held_back s.requests s.parked)

      led : EachAwake ButIn t
      led =
          unseen_stays ButIn (λ desk next d given epoch says led. but_alike doc s.history.rows (held_back s.requests s.parked) desk next d given epoch (looks_alike (held_back s.requests s.parked) desk next d epoch says) led) flows.leads

      leads : EachLeadsBut doc t
      leads nav place at d placed wakes found =
          subst (λ (rows : List Row). LeadsBut doc rows (held_back t.requests t.parked) (desk_of t d.proc) d place.given place.epoch) (sym is.rows)
          (subst (λ (held : List Made). LeadsBut doc s.history.rows held (desk_of t d.proc) d place.given place.epoch) (sym is.held) (led nav place at d placed wakes found))
