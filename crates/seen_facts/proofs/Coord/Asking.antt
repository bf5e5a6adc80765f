-- A document is asked, or told to navigate to a fragment: what is true between two rows of the documents of all awake navigables stays, as the order by itself leaves what the document shows.
use Rattle.std.proofs.Common.{◌≡◌, ℕ, true, false, ◌==◌, List, length, Option, Some, None, refl, sym, ap, ◌∙◌, subst}
use Rattle.std.specs.Prelude.{fold, option_map}
use Rattle.tab_ids.specs.declared.EntryId.{EntryId}
use Rattle.tab_ids.specs.declared.Epoch.{Epoch}
use Rattle.tab_ids.specs.declared.NavId.{NavId}
use Rattle.tab_ids.specs.declared.ProcId.{ProcId}
use Rattle.log_model.specs.declared.job.Job.{Job}
use Rattle.log_model.specs.declared.job.Task.{Task}
use Rattle.log_model.specs.declared.job.Task.TheVariants as tasks
use Rattle.log_model.specs.declared.made.Made.{Made}
use Rattle.log_model.specs.declared.row.Row.{Row}
use Rattle.log_model.specs.declared.row_kind.Actor.{Actor}
use Rattle.log_model.specs.declared.row_kind.RowKind.TheVariants as rows
use Rattle.log_model.specs.Views.{View, after_task}
use Rattle.log_model.specs.Seen.{Seen, Document, Desk, Place, document_of, desk_of, place_of, place_in}
use Rattle.log_model.specs.After.{after, on_document}
use Rattle.log_model.specs.AfterDocuments.{addressed, documents_sent, told_by, view_finished}
use Rattle.log_model.specs.AfterPlaces.{places_sent}
use Rattle.seen_laws.proofs.Keyed.{find_has}
use Rattle.seen_facts.specs.Coord.Leading.{orders_for, is_live_order, held_back, once_finished, Leads, EachAwake}
use Rattle.seen_facts.specs.Coord.Reaching.{is_telling, Reaches}
use Rattle.seen_facts.specs.Coord.Epochs.{ShowsWithin}
use Rattle.seen_facts.specs.Coord.Flowing.{Flows}
use Rattle.seen_facts.proofs.Coord.Leadings.{as_placed, one_stays, LeadsIn, leads_again}
use Rattle.seen_facts.proofs.Coord.OneDocument.{mailed, mailed_other, leads_alike, pending_mailed}
use Rattle.seen_facts.proofs.Coord.Kept.{IsSentHome, is_mine}
use Rattle.seen_facts.proofs.Coord.Reached.{told_reaches, mailed_elsewhere}
use Rattle.seen_facts.proofs.Coord.Whose.{had_status, whose_one}
use Rattle.seen_facts.proofs.Coord.EachDocuments.{IsOneOfEach, each_stays}
use Rattle.seen_facts.proofs.Coord.Within.{within_more, sent_within, sent_apart}
use Rattle.seen_facts.proofs.Coord.Withins.{WithinIn, within_again, unmoved}

-- ---- the order

-- a question, or a fragment navigation
abbrev pub IsAsk : Task → Type 0
IsAsk (tasks.Ask slot cause) = Unit {0}
IsAsk (tasks.DoFragment req mode address) = Unit {0}
IsAsk _ = ⊥

keeps_view : (task : Task) → IsAsk task → (d : Document) → view_finished d task ≡ d.view
keeps_view (tasks.Ask slot cause) is d = by_view d.view
  where
    by_view : (o : Option View) → option_map (λ (v : View). after_task v (tasks.Ask slot cause)) o ≡ o
    by_view None = refl
    by_view (Some view) = refl
keeps_view (tasks.DoFragment req mode address) is d = refl
keeps_view (tasks.Activate entry epoch long at memo address) is d = elim is [ ]
keeps_view (tasks.Populate nav state address initial) is d = elim is [ ]
keeps_view (tasks.Update long at) is d = elim is [ ]
keeps_view tasks.Freeze is d = elim is [ ]
keeps_view tasks.Discard is d = elim is [ ]

tells_nothing : (task : Task) → IsAsk task → (told : Option (ℕ × ℕ)) → told_by told task ≡ told
tells_nothing (tasks.Ask slot cause) is told = refl
tells_nothing (tasks.DoFragment req mode address) is told = refl
tells_nothing _ is told = elim is [ ]

telling : (task : Task) → IsAsk task → is_telling task ≡ true
telling (tasks.Ask slot cause) is = refl
telling (tasks.DoFragment req mode address) is = refl
telling _ is = elim is [ ]

within_any : (task : Task) → IsAsk task → (bound : ℕ) → ShowsWithin bound task
within_any (tasks.Ask slot cause) is bound = tt
within_any (tasks.DoFragment req mode address) is bound = tt
within_any _ is bound = elim is [ ]

same_documents : (s : Seen) (job : Job) (task : Task) → IsAsk task → documents_sent s job task ≡ on_document job.doc (addressed task) s.documents
same_documents s job (tasks.Ask slot cause) is = refl
same_documents s job (tasks.DoFragment req mode address) is = refl
same_documents s job _ is = elim is [ ]

same_placed : (s : Seen) (job : Job) (task : Task) → IsAsk task → places_sent s job task ≡ s.places
same_placed s job (tasks.Ask slot cause) is = refl
same_placed s job (tasks.DoFragment req mode address) is = refl
same_placed s job _ is = elim is [ ]

-- the orders lead to the view that they led to
asked_leads : (rows_ : List Row) (held : List Made) (desk : Desk) (d : Document) (job : Job) (given : Option EntryId) (epoch : Epoch) → IsAsk job.task → is_live_order d.nr (length desk.killed) job ≡ true → Leads rows_ held desk d given epoch → Leads rows_ held (mailed job desk) (addressed job.task d) given epoch
asked_leads rows_ held desk d job given epoch asks mine is =
    record {
      face = is.face;
      is_given = is.is_given;
      is_row = is.is_row;
      view = is.view;
      pending = pending_mailed d desk job mine ∙ keeps_view job.task asks (fold once_finished d (orders_for desk d.nr)) ∙ is.pending;
      leads = is.leads;
      runs = is.runs;
      in_epoch = is.in_epoch;
      pair = λ none. tells_nothing job.task asks d.told ∙ is.pair none;
    }

-- ---- the row

module _ (s : Seen) (event : ℕ) (actor : Actor) (job : Job) (asks : IsAsk job.task) (sent : IsSentHome s job) where
  abbrev pub after_asking : Seen
  after_asking = after s (record { event = event; actor = actor; row = rows.Sent job })

  was_placed : (nav : NavId) (place : Place) → place_of after_asking nav ≡ Some place → place_of s nav ≡ Some place
  was_placed nav place placed = ap (λ (l : List Place). place_in l nav) (sym (same_placed s job job.task asks)) ∙ placed

  mine : (d : Document) → document_of s job.doc ≡ Some d → is_live_order d.nr (length (desk_of s job.proc).killed) job ≡ true
  mine d there =
      is_mine d.nr (length (desk_of s job.proc).killed) job (sym (find_has (λ (x : Document). x.nr.0) job.doc.0 s.documents d there)) sent.lives

  asking_stays : (F : Desk → Document → Option EntryId → Epoch → Type 0) → ((d : Document) (given : Option EntryId) (epoch : Epoch) → document_of s job.doc ≡ Some d → F (desk_of s job.proc) d given epoch → F (mailed job (desk_of s job.proc)) (addressed job.task d) given epoch) → ((x : Document) (given : Option EntryId) (epoch : Epoch) → (job.doc.0 == x.nr.0) ≡ false → F (desk_of s job.proc) x given epoch → F (mailed job (desk_of s job.proc)) x given epoch) → EachAwake F s → EachAwake F after_asking
  asking_stays F own other each =
      one_stays F s after_asking job.proc (mailed job) job.doc (addressed job.task)
      (record {
        desks = refl;
        documents = same_documents s job job.task asks;
        keeps_proc = λ desk. refl;
        keeps_number = λ d. refl;
        stays = λ d. refl;
        home = sent.home;
        own = λ nav place d placed wakes there. own d place.given place.epoch there (subst (λ (p : ProcId). F (desk_of s p) d place.given place.epoch) (sent.home d there) (each nav place job.doc d (was_placed nav place placed) wakes there));
        others = λ nav place at placed wakes apart. as_placed s nav place (was_placed nav place placed);
        other = other;
      })
      each

  within_change : IsOneOfEach (WithinIn s) s after_asking job.proc (mailed job) job.doc (addressed job.task)
  within_change =
      record {
        desks = refl;
        documents = same_documents s job job.task asks;
        keeps_proc = λ desk. refl;
        keeps_number = λ d. refl;
        stays = λ d. refl;
        stays_in = λ d. refl;
        had = λ nav place placed. unmoved s nav place (was_placed nav place placed);
        grows = λ desk d m n more is. within_more (held_back s.requests s.parked) desk d m n more is;
        home = sent.home;
        own = λ d place there placed is. sent_within (held_back s.requests s.parked) (desk_of s job.proc) d job place.epoch.0 (within_any job.task asks place.epoch.0) (mine d there) is;
        other = λ d bound apart is. sent_apart (held_back s.requests s.parked) (desk_of s job.proc) d job bound apart is;
      }

  pub asking_flows : held_back after_asking.requests after_asking.parked ≡ held_back s.requests s.parked → Flows s → Flows after_asking
  asking_flows held flows =
      record {
        leads = leads_again s after_asking refl held (asking_stays (LeadsIn s) (λ d given epoch there leads. asked_leads s.history.rows (held_back s.requests s.parked) (desk_of s job.proc) d job given epoch asks (mine d there) leads) (λ x given epoch apart leads. leads_alike s.history.rows (held_back s.requests s.parked) (desk_of s job.proc) (mailed job (desk_of s job.proc)) x x given epoch (mailed_other (held_back s.requests s.parked) (desk_of s job.proc) job x epoch apart) leads) flows.leads);
        whose = whose_one s after_asking job.doc (addressed job.task) (same_documents s job job.task asks) (λ d. refl) (λ d. refl) (had_status s after_asking (λ nav place placed. as_placed s nav place (was_placed nav place placed))) flows.whose;
        reaches = asking_stays (λ desk x given epoch. Reaches desk x epoch) (λ d given epoch there reaches. told_reaches (desk_of s job.proc) d job epoch (telling job.task asks) (mine d there) reaches) (λ x given epoch apart reaches. mailed_elsewhere (desk_of s job.proc) x job epoch apart reaches) flows.reaches;
        within = within_again s after_asking held (each_stays (WithinIn s) s after_asking job.proc (mailed job) job.doc (addressed job.task) within_change flows.within);
      }
