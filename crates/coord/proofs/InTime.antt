-- The rows of an event leave unsettled whom they move: an order that shows a document does so by itself, as its report comes in a later event; of changes it is asked.
use Rattle.coord.specs.Standing.{ChangesLeaveOff}
use Rattle.seen_facts.proofs.Coord.Unread.{next}
use Rattle.seen_facts.proofs.Desk.Again.{AllStay, same_documents}
use Rattle.seen_facts.proofs.Desk.Stays.{changed_stay, made_stay, sent_stay}
use Rattle.seen_facts.proofs.Hang.Members.{has_map}
use Rattle.seen_facts.specs.Hang.Members.{Has}
use Rattle.seen_facts.proofs.LoadEnds.Unarrived.{later_unarrived, shown_unarrived, unarrived_is_off}
use Rattle.seen_facts.specs.LoadEnds.Standing.{AreUnsettled, is_change_unsettled, is_off, is_order_unsettled, is_row_unsettled, takes_no_report}
use Rattle.log_model.specs.After.{after}
use Rattle.log_model.specs.Equal.{holds, implies}
use Rattle.log_model.specs.Events.{AtEachEvent, Point, after_opening, each_event, events_of}
use Rattle.log_model.specs.Formed.{is_applied_edit, is_dropped, is_made, is_work, may_begin, may_follow}
use Rattle.log_model.specs.LoadsEndInTime.{LoadsEndInTime, is_for_traversal}
use Rattle.log_model.specs.Orders.{has_cause}
use Rattle.log_model.specs.Seen.{Document, Place, Seen, document_of, place_of}
use Rattle.log_model.specs.declared.change.Change.{Change}
use Rattle.log_model.specs.declared.header.Header.{Header}
use Rattle.log_model.specs.declared.job.Job.{Job}
use Rattle.log_model.specs.declared.job.Task.{Task}
use Rattle.log_model.specs.declared.row_kind.Actor.{Actor}
use Rattle.log_model.specs.declared.row_kind.LogRow.{LogRow}
use Rattle.log_model.specs.declared.row_kind.RowKind.{RowKind}
use Rattle.seen_laws.proofs.InEvents.{log_fold, uncut_rows}
use Rattle.seen_laws.proofs.Sendings.{both}
use Rattle.seen_laws.specs.Blocks.{EachPass, Here, Passes, point_at}
use Rattle.seen_laws.specs.InEvent.{InEvent, log_of, row_of, start_of}
use Rattle.std.proofs.Common.{Bool, List, None, Option, Some, [], ap, false, fold, inl, inr, map, refl, subst, sym, true, ℕ, ◌++◌, ◌∙◌, ◌∷◌, ◌≡◌}
use Rattle.std.proofs.lemmas.Bool.{and_parts}
use Rattle.std.specs.List.{list_all}
use Rattle.tab_ids.specs.declared.DocId.{DocId}
use Rattle.tab_ids.specs.declared.NavId.{NavId}
use Rattle.tab_ids.specs.declared.ReqId.{ReqId}
use Rattle.log_model.specs.declared.job.Task.TheVariants as tasks
use Rattle.log_model.specs.declared.row_kind.Actor.TheVariants as actors
use Rattle.log_model.specs.declared.row_kind.RowKind.TheVariants as rows

-- ---- rows behind an event's own

-- the row may stand behind one
abbrev IsLater : RowKind → Type 0
IsLater (rows.Started req goal) = Unit {0}
IsLater (rows.Applied req change) = Unit {0}
IsLater (rows.Refused req reason) = Unit {0}
IsLater (rows.Dropped req cause) = Unit {0}
IsLater (rows.Prompted req doc) = Unit {0}
IsLater (rows.Sent job) = Unit {0}
IsLater (rows.Made proc made) = Unit {0}
IsLater _ = ⊥

abbrev AreLater : List LogRow → Type 0
AreLater [] = Unit {0}
AreLater (row ∷ more) = IsLater row.row × AreLater more

never_follows : (own kind : RowKind) → is_work kind ≡ false → is_dropped kind ≡ false → is_made kind ≡ false → is_applied_edit kind ≡ false → may_follow own kind ≡ true → ⊥
never_follows (rows.Accepted req doc what) kind work dropped made edits is = let never : false ≡ true = sym work ∙ is in cc
never_follows (rows.Answered req stay) kind work dropped made edits is = let never : false ≡ true = sym work ∙ is in cc
never_follows (rows.Evicted state) kind work dropped made edits is = let never : false ≡ true = sym work ∙ is in cc
never_follows (rows.Delivered proc) kind work dropped made edits is = let never : false ≡ true = sym work ∙ is in cc
never_follows (rows.Killed proc death) kind work dropped made edits is = let never : false ≡ true = sym dropped ∙ is in cc
never_follows (rows.Finished proc job outcome) kind work dropped made edits is = let never : false ≡ true = sym made ∙ is in cc
never_follows (rows.Made proc x) kind work dropped made edits is = let never : false ≡ true = sym edits ∙ is in cc
never_follows (rows.Opened entry state doc proc slot address) kind work dropped made edits is = cc
never_follows (rows.Started req goal) kind work dropped made edits is = cc
never_follows (rows.Applied req change) kind work dropped made edits is = cc
never_follows (rows.Refused req reason) kind work dropped made edits is = cc
never_follows (rows.Dropped req cause) kind work dropped made edits is = cc
never_follows (rows.Prompted req doc) kind work dropped made edits is = cc
never_follows (rows.Sent job) kind work dropped made edits is = cc
never_follows (rows.Taken proc job live dirty) kind work dropped made edits is = cc

is_later : (own kind : RowKind) → may_follow own kind ≡ true → IsLater kind
is_later own (rows.Started req goal) is = tt
is_later own (rows.Applied req change) is = tt
is_later own (rows.Refused req reason) is = tt
is_later own (rows.Dropped req cause) is = tt
is_later own (rows.Prompted req doc) is = tt
is_later own (rows.Sent job) is = tt
is_later own (rows.Made proc made) is = tt
is_later own (rows.Opened entry state doc proc slot address) is = never_follows own (rows.Opened entry state doc proc slot address) refl refl refl refl is
is_later own (rows.Accepted req doc what) is = never_follows own (rows.Accepted req doc what) refl refl refl refl is
is_later own (rows.Answered req stay) is = never_follows own (rows.Answered req stay) refl refl refl refl is
is_later own (rows.Evicted state) is = never_follows own (rows.Evicted state) refl refl refl refl is
is_later own (rows.Delivered proc) is = never_follows own (rows.Delivered proc) refl refl refl refl is
is_later own (rows.Killed proc death) is = never_follows own (rows.Killed proc death) refl refl refl refl is
is_later own (rows.Taken proc job live dirty) is = never_follows own (rows.Taken proc job live dirty) refl refl refl refl is
is_later own (rows.Finished proc job outcome) is = never_follows own (rows.Finished proc job outcome) refl refl refl refl is

-- so are those of an event whose rows pass
abbrev here : Header → Seen → Seen → LogRow → List LogRow → Here
here header start now own done = record { header = header; start = start; now = now; done = own ∷ done }

are_later : (header : Header) (start now : Seen) (own : LogRow) (done : List LogRow) (more : List LogRow) → EachPass (here header start now own done) more [] → AreLater more
are_later header start now own done [] passes = tt
are_later header start now own done (row ∷ more) passes = (
  is_later own.row row.row (and_parts _ _ passes.0.formed).0,
  are_later header start (after now row) own (done ++ row ∷ []) more passes.1,
)

-- they take no report, and documents stay
takes_none : (kind : RowKind) (event : ℕ) (actor : Actor) → IsLater kind → takes_no_report (record { event = event; actor = actor; row = kind }) ≡ true
takes_none (rows.Started req goal) event actor its = refl
takes_none (rows.Applied req change) event actor its = refl
takes_none (rows.Refused req reason) event actor its = refl
takes_none (rows.Dropped req cause) event actor its = refl
takes_none (rows.Prompted req doc) event actor its = refl
takes_none (rows.Sent job) event actor its = refl
takes_none (rows.Made proc made) event actor its = refl
takes_none _ event actor its = absurd its

take_none : (more : List LogRow) → AreLater more → list_all takes_no_report more ≡ true
take_none [] later = refl
take_none (row ∷ more) later = both (takes_none row.row row.event row.actor later.0) (take_none more later.1)

documents_stay : (s : Seen) (event : ℕ) (actor : Actor) (kind : RowKind) → IsLater kind → AllStay s.documents (next s event actor kind).documents
documents_stay s event actor (rows.Started req goal) its = same_documents s.documents
documents_stay s event actor (rows.Applied req change) its = changed_stay change s.documents
documents_stay s event actor (rows.Refused req reason) its = same_documents s.documents
documents_stay s event actor (rows.Dropped req cause) its = same_documents s.documents
documents_stay s event actor (rows.Prompted req doc) its = same_documents s.documents
documents_stay s event actor (rows.Sent job) its = sent_stay s job job.task
documents_stay s event actor (rows.Made proc made) its = made_stay made s.documents
documents_stay s event actor _ its = absurd its

document_stays : (s : Seen) (more : List LogRow) → AreLater more → (doc : DocId) (d : Document) → document_of s doc ≡ Some d → (new : Document) × (document_of (fold after s more) doc ≡ Some new) × (new.nav ≡ d.nav)
document_stays s [] later doc d found = (d, found, refl)
document_stays s (row ∷ more) later doc d found =
    let one = documents_stay s row.event row.actor row.row later.0 doc d found in
    let rest = document_stays (after s row) more later.1 doc one.new one.found in (rest.0, rest.1, rest.2 ∙ one.nav)

-- ---- an order that shows a document

some_held : {A : Type 0} (test : A → Bool) (o : Option A) → holds test o ≡ true → (a : A) × (o ≡ Some a) × (test a ≡ true)
some_held test None is = absurd cc
some_held test (Some a) is = (a, refl, is)

under : (b : Bool) {c : Bool} → c ≡ true → implies b c ≡ true
under true is = is
under false is = refl

-- its document and that one's navigable are there
record IsShown (s : Seen) (job : Job) : Type 0 where
  d : Document
  found : document_of s job.doc ≡ Some d
  place : Place
  placed : place_of s d.nav ≡ Some place

abbrev Shows : Seen → Job → Task → Type 0
Shows s job (tasks.Activate entry epoch length index memo address) = IsShown s job
Shows s job _ = Unit {0}

shown_by : (p : Point) (row : LogRow) (job : Job) (task : Task) → has_cause p row job task ≡ true → Shows p.now job task
shown_by p row job (tasks.Activate entry epoch length index memo address) cause =
    let d = some_held _ (document_of p.now job.doc) cause in
    let place = some_held _ (place_of p.now d.0.nav) (and_parts _ _ (and_parts _ _ d.2).0).0 in record { d = d.0; found = d.1; place = place.0; placed = place.1 }
shown_by p row job _ cause = tt

order_unsettled : (now : Seen) (event : ℕ) (actor : Actor) (job : Job) (more : List LogRow) → AreLater more → (task : Task) → job.task ≡ task → Shows now job task → is_order_unsettled (fold after (next now event actor (rows.Sent job)) more) job task ≡ true
order_unsettled now event actor job more later (tasks.Activate entry epoch length index memo address) is its =
    under (is_for_traversal e job.why) (ap (λ (o : Option Document). holds (λ (x : Document). is_off e x.nav) o) still.1 ∙ ap (λ (n : NavId). is_off e n) still.2 ∙ off)
  where
    sent : Seen
    sent = next now event actor (rows.Sent job)

    e : Seen
    e = fold after (next now event actor (rows.Sent job)) more

    off : is_off (fold after (next now event actor (rows.Sent job)) more) its.d.nav ≡ true
    off =
        unarrived_is_off (fold after (next now event actor (rows.Sent job)) more) its.d.nav
        (later_unarrived more (next now event actor (rows.Sent job)) its.d.nav (take_none more later) (shown_unarrived now event actor job entry epoch length index memo address its.d its.place is its.found its.placed))

    still : (new : Document) × (document_of (fold after (next now event actor (rows.Sent job)) more) job.doc ≡ Some new) × (new.nav ≡ its.d.nav)
    still =
        let one = sent_stay now job job.task job.doc its.d its.found in
        let rest = document_stays (next now event actor (rows.Sent job)) more later job.doc one.new one.found in (rest.0, rest.1, rest.2 ∙ one.nav)
order_unsettled now event actor job more later (tasks.Populate nav state address initial) is its = refl
order_unsettled now event actor job more later (tasks.Update length index) is its = refl
order_unsettled now event actor job more later tasks.Freeze is its = refl
order_unsettled now event actor job more later tasks.Discard is its = refl
order_unsettled now event actor job more later (tasks.Ask slot cause) is its = refl
order_unsettled now event actor job more later (tasks.DoFragment req mode address) is its = refl

-- ---- the rows

kind_unsettled : (header : Header) (start now : Seen) (own : LogRow) (done : List LogRow) (event : ℕ) (actor : Actor) (kind : RowKind) (more : List LogRow) → Passes header (point_at (here header start now own done) (more ++ [])) (record { event = event; actor = actor; row = kind }) → AreLater more → ((req : ReqId) (change : Change) → kind ≡ rows.Applied req change → is_change_unsettled (fold after (next now event actor kind) more) req change ≡ true) → is_row_unsettled (fold after (next now event actor kind) more) (record { event = event; actor = actor; row = kind }) ≡ true
kind_unsettled header start now own done event actor (rows.Sent job) more passes later changes =
    order_unsettled now event actor job more later job.task refl (shown_by (point_at (here header start now own done) (more ++ [])) (record { event = event; actor = actor; row = rows.Sent job }) job job.task (and_parts _ _ passes.ordered).1)
kind_unsettled header start now own done event actor (rows.Applied req change) more passes later changes = changes req change refl
kind_unsettled header start now own done event actor (rows.Opened entry state doc proc slot address) more passes later changes = refl
kind_unsettled header start now own done event actor (rows.Accepted req doc what) more passes later changes = refl
kind_unsettled header start now own done event actor (rows.Started req goal) more passes later changes = refl
kind_unsettled header start now own done event actor (rows.Refused req reason) more passes later changes = refl
kind_unsettled header start now own done event actor (rows.Dropped req cause) more passes later changes = refl
kind_unsettled header start now own done event actor (rows.Prompted req doc) more passes later changes = refl
kind_unsettled header start now own done event actor (rows.Answered req stay) more passes later changes = refl
kind_unsettled header start now own done event actor (rows.Taken proc job live dirty) more passes later changes = refl
kind_unsettled header start now own done event actor (rows.Finished proc job outcome) more passes later changes = refl
kind_unsettled header start now own done event actor (rows.Made proc made) more passes later changes = refl
kind_unsettled header start now own done event actor (rows.Delivered proc) more passes later changes = refl
kind_unsettled header start now own done event actor (rows.Killed proc death) more passes later changes = refl
kind_unsettled header start now own done event actor (rows.Evicted state) more passes later changes = refl

rows_unsettled : (header : Header) (start now : Seen) (own : LogRow) (done : List LogRow) (more : List LogRow) → EachPass (here header start now own done) more [] → ((row : LogRow) → Has more row → (req : ReqId) (change : Change) → row.row ≡ rows.Applied req change → is_change_unsettled (fold after now more) req change ≡ true) → list_all (is_row_unsettled (fold after now more)) more ≡ true
rows_unsettled header start now own done [] passes changes = refl
rows_unsettled header start now own done (row ∷ more) passes changes =
    both
    (kind_unsettled header start now own done row.event row.actor row.row more passes.0 (are_later header start (after now row) own (done ++ row ∷ []) more passes.1) (λ req change is. changes row (inl refl) req change is))
    (rows_unsettled header start (after now row) own (done ++ row ∷ []) more passes.1 (λ x has. changes x (inr has)))

-- ---- the own row shows nothing, and changes nothing

own_unsettled : (s e : Seen) (event : ℕ) (actor : Actor) (kind : RowKind) → may_begin s actor kind ≡ true → is_row_unsettled e (record { event = event; actor = actor; row = kind }) ≡ true
own_unsettled s e event actor (rows.Sent job) is = by_actor actor is
  where
    by_actor : (a : Actor) → may_begin s a (rows.Sent job) ≡ true → is_row_unsettled e (record { event = event; actor = actor; row = rows.Sent job }) ≡ true
    by_actor actors.Start never = absurd cc
    by_actor actors.Ui never = absurd cc
    by_actor actors.Coord never = absurd cc
    by_actor (actors.Proc proc) never = absurd cc
own_unsettled s e event actor (rows.Applied req change) is = by_actor actor is
  where
    by_actor : (a : Actor) → may_begin s a (rows.Applied req change) ≡ true → is_row_unsettled e (record { event = event; actor = actor; row = rows.Applied req change }) ≡ true
    by_actor actors.Start never = absurd cc
    by_actor actors.Ui never = absurd cc
    by_actor actors.Coord never = absurd cc
    by_actor (actors.Proc proc) never = absurd cc
own_unsettled s e event actor (rows.Opened entry state doc proc slot address) is = refl
own_unsettled s e event actor (rows.Accepted req doc what) is = refl
own_unsettled s e event actor (rows.Started req goal) is = refl
own_unsettled s e event actor (rows.Refused req reason) is = refl
own_unsettled s e event actor (rows.Dropped req cause) is = refl
own_unsettled s e event actor (rows.Prompted req doc) is = refl
own_unsettled s e event actor (rows.Answered req stay) is = refl
own_unsettled s e event actor (rows.Taken proc job live dirty) is = refl
own_unsettled s e event actor (rows.Finished proc job outcome) is = refl
own_unsettled s e event actor (rows.Made proc made) is = refl
own_unsettled s e event actor (rows.Delivered proc) is = refl
own_unsettled s e event actor (rows.Killed proc death) is = refl
own_unsettled s e event actor (rows.Evicted state) is = refl

-- ---- the event

pub event_unsettled : (e : InEvent) (out : List RowKind) → e.before ≡ [] → EachPass (start_of e) (row_of e e.own ∷ map (row_of e) out) [] → ChangesLeaveOff (log_of e out) out → AreUnsettled (log_of e out) (row_of e e.own ∷ map (row_of e) out)
event_unsettled e out uncut passes off =
    subst (λ (x : Seen). AreUnsettled x (row_of e e.own ∷ map (row_of e) out)) (sym folds)
    (both
    (own_unsettled e.start end e.event e.actor e.own (and_parts _ _ passes.0.formed).0)
    (rows_unsettled e.header e.start (after e.start (row_of e e.own)) (row_of e e.own) [] (map (row_of e) out) passes.1 changes))
  where
    end : Seen
    end = fold after e.start (row_of e e.own ∷ map (row_of e) out)

    folds : log_of e out ≡ fold after e.start (row_of e e.own ∷ map (row_of e) out)
    folds = log_fold e out ∙ ap (λ (l : List LogRow). fold after e.start l) (uncut_rows e out uncut)

    changes : (row : LogRow) → Has (map (row_of e) out) row → (req : ReqId) (change : Change) → row.row ≡ rows.Applied req change → is_change_unsettled (fold after e.start (row_of e e.own ∷ map (row_of e) out)) req change ≡ true
    changes row has req change is =
        let it = has_map (row_of e) out row has in
        let kind : it.it ≡ rows.Applied req change = ap (λ (x : LogRow). x.row) it.is ∙ is in
        subst (λ (x : Seen). is_change_unsettled x req change ≡ true) folds (off req change (subst (λ (k : RowKind). Has out k) kind it.there))

-- ---- the opening: no event comes after it

pub opened_in_time : (row : LogRow) → LoadsEndInTime (row ∷ [])
unfolding AtEachEvent events_of after_opening each_event
opened_in_time row = refl
