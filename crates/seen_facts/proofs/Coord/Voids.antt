-- A void order, one to an incarnation that has ended, is let go: what is true between two rows of the documents of all awake navigables stays.
use Rattle.std.proofs.Common.{◌≡◌, ℕ, Bool, true, false, ◌&&◌, ◌==◌, List, [], ◌∷◌, drop, length, Some, None, refl, sym, ap, subst}
use Rattle.std.specs.Prelude.{filter, fold, slice_get}
use Rattle.tab_ids.specs.declared.DocId.{DocId}
use Rattle.tab_ids.specs.declared.Epoch.{Epoch}
use Rattle.tab_ids.specs.declared.ProcId.{ProcId}
use Rattle.log_model.specs.declared.job.Job.{Job}
use Rattle.log_model.specs.declared.row_kind.Actor.TheVariants as actors
use Rattle.log_model.specs.declared.row_kind.RowKind.TheVariants as rows
use Rattle.log_model.specs.Seen.{Seen, Document, Desk, desk_of}
use Rattle.log_model.specs.After.{after, desk_taken}
use Rattle.seen_facts.specs.Coord.Leading.{orders_for, is_live_order, held_back, once_finished}
use Rattle.seen_facts.specs.Coord.Reaching.{Reaches}
use Rattle.seen_facts.specs.Coord.Epochs.{AllWithin, IsWithin}
use Rattle.seen_facts.specs.Coord.Flowing.{Flows}
use Rattle.seen_facts.proofs.Coord.Leadings.{LeadsIn, leads_again}
use Rattle.seen_facts.proofs.Coord.OneDocument.{LooksAlike, leads_alike}
use Rattle.seen_facts.proofs.Coord.Kept.{unread_stays, same_places, desk_stays_on}
use Rattle.seen_facts.proofs.Coord.Reached.{reaches_alike}
use Rattle.seen_facts.proofs.Coord.Whose.{had_status, whose_same}
use Rattle.seen_facts.proofs.Coord.Withins.{unmoved}
use Rattle.seen_facts.proofs.Coord.WithinRows as within_rows

-- it is the next of a process that has none in hand
pub record IsVoid (desk : Desk) (job : Job) : Type 0 where
  pub free : desk.in_hand ≡ None
  pub first : slice_get desk.mail 0 ≡ Some job
  pub ended : (job.incarnation == length desk.killed) ≡ false

-- a void order is none of a document's
orders_void : (desk : Desk) (job : Job) (dirty : Bool) (doc : DocId) → IsVoid desk job → orders_for (desk_taken false dirty desk) doc ≡ orders_for desk doc
orders_void desk job dirty doc is = rw is.free (by_mail desk.mail is.first)
  where
    is_own : Job → Bool
    is_own = is_live_order doc (length desk.killed)

    never : (b : Bool) → b && false ≡ false
    never true = refl
    never false = refl

    by_mail : (mail : List Job) → slice_get mail 0 ≡ Some job → filter is_own (drop 1 mail) ≡ filter is_own mail
    by_mail [] first = cc
    by_mail (one ∷ others) first =
        let same : one ≡ job = cc in
        let none : is_own one ≡ false = subst (λ (j : Job). is_own j ≡ false) (sym same) (rw is.ended (never (job.doc.0 == doc.0))) in
        rw none refl

module _ (s : Seen) (event : ℕ) (proc : ProcId) (job : Job) (dirty : Bool) (is : IsVoid (desk_of s proc) job) where
  abbrev pub after_void : Seen
  after_void =
      after s (record { event = event; actor = actors.Proc proc; row = rows.Taken proc job.nr false dirty })

  same_orders : (d : Document) → orders_for (desk_taken false dirty (desk_of s proc)) d.nr ≡ orders_for (desk_of s proc) d.nr
  same_orders d = orders_void (desk_of s proc) job dirty d.nr is

  looks_alike : (d : Document) (epoch : Epoch) → LooksAlike (held_back s.requests s.parked) (desk_of s proc) (desk_taken false dirty (desk_of s proc)) d d epoch
  looks_alike d epoch =
      record {
        pending = ap (λ (orders : List Job). (fold once_finished d orders).view) (same_orders d);
        coming = refl;
        told = refl;
      }

  reaches_still : (d : Document) (epoch : Epoch) → Reaches (desk_of s proc) d epoch → Reaches (desk_taken false dirty (desk_of s proc)) d epoch
  reaches_still d epoch reaches =
      reaches_alike (desk_of s proc) (desk_taken false dirty (desk_of s proc)) d d epoch (same_orders d) (λ view has. (view, has, refl)) reaches

  within_still : (d : Document) (bound : ℕ) → IsWithin (held_back s.requests s.parked) (desk_of s proc) d bound → IsWithin (held_back s.requests s.parked) (desk_taken false dirty (desk_of s proc)) d bound
  within_still d bound was =
      record {
        view = was.view;
        orders = subst (AllWithin bound) (sym (same_orders d)) was.orders;
        held_back = was.held_back;
        reports = was.reports;
      }

  pub void_flows : Flows s → Flows after_void
  void_flows flows =
      record {
        leads = leads_again s after_void refl refl (unread_stays (LeadsIn s) s after_void (record { documents = refl; places = same_places s after_void refl; stays_on = desk_stays_on (LeadsIn s) s after_void proc (desk_taken false dirty) refl (λ desk. refl) (λ d given epoch leads. leads_alike s.history.rows (held_back s.requests s.parked) (desk_of s proc) (desk_taken false dirty (desk_of s proc)) d d given epoch (looks_alike d epoch) leads) }) flows.leads);
        whose = whose_same s after_void refl (had_status s after_void (same_places s after_void refl)) flows.whose;
        reaches = unread_stays (λ desk x given epoch. Reaches desk x epoch) s after_void (record { documents = refl; places = same_places s after_void refl; stays_on = desk_stays_on (λ desk x given epoch. Reaches desk x epoch) s after_void proc (desk_taken false dirty) refl (λ desk. refl) (λ d given epoch reaches. reaches_still d epoch reaches) }) flows.reaches;
        within = within_rows.desk_within s after_void proc (desk_taken false dirty) refl (λ nav place placed. unmoved s nav place placed) refl refl (λ desk. refl) within_still flows.within;
      }
