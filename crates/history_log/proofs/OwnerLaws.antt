-- The process of a document, by the rows so far.
use Rattle.std.proofs.Common.{◌≡◌, ℕ, ◌+◌, ◌<◌, zero, suc, Bool, true, false, cond, ◌||◌, ◌==◌, List, [], ◌∷◌, ◌++◌, length, get_or, take, drop, map, Option, Some, None, refl, ap, sym, ◌∙◌, add-one}
use Rattle.std.specs.Prelude.{fold, find, option_map}
use Rattle.std.specs.List.{list_any}
use Rattle.tab_ids.specs.declared.DocId.{DocId}
use Rattle.tab_ids.specs.declared.EntryId.{EntryId}
use Rattle.tab_ids.specs.declared.ProcId.{ProcId}
use Rattle.log_model.specs.declared.change.Change.{Change}
use Rattle.log_model.specs.declared.change.Change.TheVariants as changes
use Rattle.log_model.specs.declared.job.Job.{Job}
use Rattle.log_model.specs.declared.job.Task.{Task}
use Rattle.log_model.specs.declared.job.Task.TheVariants as tasks
use Rattle.log_model.specs.declared.made.Report.{Report}
use Rattle.log_model.specs.declared.made.Report.TheVariants as reports
use Rattle.log_model.specs.declared.outcome.Outcome.{Outcome}
use Rattle.log_model.specs.declared.outcome.Outcome.TheVariants as outcomes
use Rattle.log_model.specs.declared.row_kind.LogRow.{LogRow}
use Rattle.log_model.specs.declared.row_kind.RowKind.{RowKind}
use Rattle.log_model.specs.declared.row_kind.RowKind.TheVariants as rows
use Rattle.log_model.specs.Seen.{Seen, Document, nothing, desk_of}
use Rattle.log_model.specs.After.{after}
use Rattle.log_model.specs.AfterDocuments.{opening_document, on_document, addressed, told_after_change, with_applied, applied_to, new_document, documents_sent, task_in_hand, view_finished, documents_finished, slot_finished, documents_delivered, documents_after}
use Rattle.log_model.specs.AfterPlaces.{is_dead_by}
use Rattle.log_model.specs.Views.{View, after_made}
use Rattle.std.specs.Prelude.{slice_get, is_none, is_some, ◌&&◌}
use Rattle.log_model.specs.Logs.{seen_of}
use Rattle.history_log.specs.Owners.{placed_by_task, first_place, owner_after, owner_of}
use Rattle.history_log.specs.Lefts.{opens, have_opening}
use Rattle.history_log.proofs.Cuts.{cut_at}

-- the process of a document among these
abbrev pub own : List Document → DocId → Option ProcId
own ds doc = option_map (λ (d : Document). d.proc) (find (λ (d : Document). d.nr.0 == doc.0) ds)

-- the changes that leave a document its number and its process
abbrev pub Stays : (Document → Document) → Type 0
Stays g = (d : Document) → ((g d).nr ≡ d.nr) × ((g d).proc ≡ d.proc)

own-map : (g : Document → Document) → Stays g → (ds : List Document) (doc : DocId) → own (map g ds) doc ≡ own ds doc
own-map g stays [] doc = refl
own-map g stays (d ∷ ds) doc =
    by_test (d.nr.0 == doc.0) refl (ap (λ (n : DocId). n.0 == doc.0) (stays d).0) (own-map g stays ds doc)
  where
    by_test : (b : Bool) → (d.nr.0 == doc.0) ≡ b → ((g d).nr.0 == doc.0) ≡ (d.nr.0 == doc.0) → own (map g ds) doc ≡ own ds doc → own (map g (d ∷ ds)) doc ≡ own (d ∷ ds) doc
    by_test true here same rest = rw (same, here) (ap (λ (p : ProcId). Some p) (stays d).1)
    by_test false here same rest = rw (same, here) rest

own-one : (d : Document) (doc : DocId) → own (d ∷ []) doc ≡ cond (d.nr.0 == doc.0) (Some d.proc) None
own-one d doc = elim (d.nr.0 == doc.0) as (λ b. option_map (λ (x : Document). x.proc) (cond b (Some d) None) ≡ cond b (Some d.proc) None) [
  | true ↦ refl
  | false ↦ refl
]

own-append : (ds : List Document) (new : Document) (doc : DocId) → own (ds ++ new ∷ []) doc ≡ first_place (own ds doc) (own (new ∷ []) doc)
own-append [] new doc = refl
own-append (d ∷ ds) new doc =
    elim (d.nr.0 == doc.0) as (λ b. option_map (λ (x : Document). x.proc) (cond b (Some d) (find (λ (x : Document). x.nr.0 == doc.0) (ds ++ new ∷ []))) ≡ first_place (option_map (λ (x : Document). x.proc) (cond b (Some d) (find (λ (x : Document). x.nr.0 == doc.0) ds))) (own (new ∷ []) doc)) [
      | true ↦ refl
      | false ↦ own-append ds new doc
    ]

first_place_none : (owner : Option ProcId) → first_place owner None ≡ owner
first_place_none None = refl
first_place_none (Some p) = refl

-- ---- each change leaves number and process

stays_where : (b : Bool) (f : Document → Document) (d : Document) → ((f d).nr ≡ d.nr) × ((f d).proc ≡ d.proc) → ((cond b (f d) d).nr ≡ d.nr) × ((cond b (f d) d).proc ≡ d.proc)
stays_where true f d stays = stays
stays_where false f d stays = (refl, refl)

own-on_document : (doc : DocId) (f : Document → Document) → Stays f → (ds : List Document) (other : DocId) → own (on_document doc f ds) other ≡ own ds other
own-on_document doc f stays ds other =
    own-map (λ (d : Document). cond (d.nr.0 == doc.0) (f d) d) (λ d. stays_where (d.nr.0 == doc.0) f d (stays d)) ds other

told_stays : (change : Change) → Stays (λ d. told_after_change d change)
told_stays (changes.Push nav entry state address memo) d = stays_where (d.nr.0 == entry.maker) (λ (x : Document). record x { told = None }) d (refl, refl)
told_stays (changes.Replace nav over entry state address memo) d = (refl, refl)
told_stays (changes.AddFrame owner nav entry state) d = (refl, refl)
told_stays (changes.RemoveFrame nav) d = (refl, refl)
told_stays (changes.Traverse goal) d = (refl, refl)
told_stays (changes.Reload nav) d = (refl, refl)
told_stays changes.Edit d = (refl, refl)

with_applied_stays : (entry : EntryId) → Stays (with_applied entry)
with_applied_stays entry d = stays_where (d.nr.0 == entry.maker) (λ (x : Document). record x { last_applied = entry.nr }) d (refl, refl)

applied_stays : (change : Change) → Stays (applied_to change)
applied_stays (changes.Push nav entry state address memo) d = with_applied_stays entry d
applied_stays (changes.Replace nav over entry state address memo) d = with_applied_stays entry d
applied_stays (changes.Reload nav) d = stays_where (d.nav.0 == nav.0) (λ (x : Document). record x { is_fresh = false }) d (refl, refl)
applied_stays (changes.AddFrame owner nav entry state) d = (refl, refl)
applied_stays (changes.RemoveFrame nav) d = (refl, refl)
applied_stays (changes.Traverse goal) d = (refl, refl)
applied_stays changes.Edit d = (refl, refl)

both_stay : (change : Change) → Stays (λ d. applied_to change (told_after_change d change))
both_stay change d =
    ((applied_stays change (told_after_change d change)).0 ∙ (told_stays change d).0, (applied_stays change (told_after_change d change)).1 ∙ (told_stays change d).1)

own_sent : (s : Seen) (job : Job) (task : Task) (doc : DocId) → own (documents_sent s job task) doc ≡ first_place (own s.documents doc) (placed_by_task doc job task)
own_sent s job (tasks.Populate nav state address initial) doc =
    own-append s.documents (new_document s job nav state) doc ∙ ap (λ (o : Option ProcId). first_place (own s.documents doc) o) (own-one (new_document s job nav state) doc)
own_sent s job tasks.Discard doc = own-on_document job.doc (λ (d : Document). record d { is_discarded = true }) (λ d. (refl, refl)) s.documents doc ∙ sym (first_place_none _)
own_sent s job (tasks.Activate entry epoch length index memo address) doc = own-on_document job.doc (addressed (tasks.Activate entry epoch length index memo address)) (λ d. (refl, refl)) s.documents doc ∙ sym (first_place_none _)
own_sent s job (tasks.Update length index) doc = own-on_document job.doc (addressed (tasks.Update length index)) (λ d. (refl, refl)) s.documents doc ∙ sym (first_place_none _)
own_sent s job tasks.Freeze doc = own-on_document job.doc (addressed tasks.Freeze) (λ d. (refl, refl)) s.documents doc ∙ sym (first_place_none _)
own_sent s job (tasks.Ask slot cause) doc = own-on_document job.doc (addressed (tasks.Ask slot cause)) (λ d. (refl, refl)) s.documents doc ∙ sym (first_place_none _)
own_sent s job (tasks.DoFragment req mode address) doc = own-on_document job.doc (addressed (tasks.DoFragment req mode address)) (λ d. (refl, refl)) s.documents doc ∙ sym (first_place_none _)

own_done : (ds : List Document) (job : Option Job) (doc : DocId) → own (documents_finished ds job) doc ≡ own ds doc
own_done ds None doc = refl
own_done ds (Some job) doc = own-on_document job.doc (λ (d : Document). record d { view = view_finished d job.task }) (λ d. (refl, refl)) ds doc

own_slot : (ds : List Document) (job : Option Job) (outcome : Outcome) (doc : DocId) → own (slot_finished ds job outcome) doc ≡ own ds doc
own_slot ds None outcome doc = refl
own_slot ds (Some job) (outcomes.Populated slot) doc = own-on_document job.doc (λ (d : Document). record d { slot = slot }) (λ d. (refl, refl)) ds doc
own_slot ds (Some job) outcomes.Activated doc = refl
own_slot ds (Some job) outcomes.Updated doc = refl
own_slot ds (Some job) outcomes.Frozen doc = refl
own_slot ds (Some job) outcomes.Discarded doc = refl
own_slot ds (Some job) (outcomes.Asked verdict) doc = refl
own_slot ds (Some job) outcomes.Fragmented doc = refl

own_delivered : (ds : List Document) (report : Option Report) (doc : DocId) → own (documents_delivered ds report) doc ≡ own ds doc
own_delivered ds None doc = refl
own_delivered ds (Some (reports.Done job (outcomes.Populated slot) made)) doc = own-on_document job.doc (λ (d : Document). record d { is_ready = true; is_fresh = true }) (λ d. (refl, refl)) ds doc
own_delivered ds (Some (reports.Done job outcomes.Activated made)) doc = refl
own_delivered ds (Some (reports.Done job outcomes.Updated made)) doc = refl
own_delivered ds (Some (reports.Done job outcomes.Frozen made)) doc = refl
own_delivered ds (Some (reports.Done job outcomes.Discarded made)) doc = refl
own_delivered ds (Some (reports.Done job (outcomes.Asked verdict) made)) doc = refl
own_delivered ds (Some (reports.Done job outcomes.Fragmented made)) doc = refl
own_delivered ds (Some (reports.Made made)) doc = refl
own_delivered ds (Some (reports.Died death)) doc =
    own-map (λ (d : Document). cond (is_dead_by death d) (record d { is_known_dead = true }) d) (λ d. stays_where (is_dead_by death d) (λ (x : Document). record x { is_known_dead = true }) d (refl, refl)) ds doc

-- the process after one more row
pub own_after : (s : Seen) (kind : RowKind) (doc : DocId) → own (documents_after s kind) doc ≡ owner_after doc (own s.documents doc) kind
own_after s (rows.Opened entry state d proc slot address) doc = own-one (opening_document entry state d proc slot address) doc
own_after s (rows.Applied req change) doc = own-map (λ (d : Document). applied_to change (told_after_change d change)) (both_stay change) s.documents doc
own_after s (rows.Sent job) doc = own_sent s job job.task doc
own_after s (rows.Finished proc job outcome) doc =
    own_slot (documents_finished s.documents (task_in_hand s proc)) (task_in_hand s proc) outcome doc ∙ own_done s.documents (task_in_hand s proc) doc
own_after s (rows.Made proc made) doc = own-on_document made.doc (λ (d : Document). record d { view = option_map (λ (view : View). after_made view made.what) d.view }) (λ d. (refl, refl)) s.documents doc
own_after s (rows.Delivered proc) doc = own_delivered s.documents (slice_get (desk_of s proc).reports 0) doc
own_after s (rows.Killed proc death) doc =
    own-map (λ (d : Document). cond (d.proc.0 == proc.0 && is_none d.dead_by) (record d { dead_by = Some death; view = None }) d) (λ d. stays_where (d.proc.0 == proc.0 && is_none d.dead_by) (λ (x : Document). record x { dead_by = Some death; view = None }) d (refl, refl)) s.documents doc
own_after s (rows.Accepted req d what) doc = refl
own_after s (rows.Started req goal) doc = refl
own_after s (rows.Refused req reason) doc = refl
own_after s (rows.Dropped req cause) doc = refl
own_after s (rows.Prompted req d) doc = refl
own_after s (rows.Answered req stay) doc = refl
own_after s (rows.Taken proc job live dirty) doc = refl
own_after s (rows.Evicted state) doc = refl

abbrev pub owned_on : DocId → Option ProcId → List LogRow → Option ProcId
owned_on doc owner log = fold (λ (owner : Option ProcId) (row : LogRow). owner_after doc owner row.row) owner log

own_fold : (doc : DocId) (log : List LogRow) (s : Seen) → own (fold after s log).documents doc ≡ owned_on doc (own s.documents doc) log
own_fold doc [] s = refl
own_fold doc (row ∷ log) s = own_fold doc log (after s row) ∙ ap (λ (o : Option ProcId). owned_on doc o log) (own_after s row.row doc)

-- the process of a document of a log
pub own_is : (log : List LogRow) (doc : DocId) → own (seen_of log).documents doc ≡ owner_of log doc
unfolding seen_of
own_is log doc = own_fold doc log nothing

-- ---- where a search may end

pub any_take : {A : Type 0} (test : A → Bool) (n : ℕ) (xs : List A) → list_any test xs ≡ false → list_any test (take n xs) ≡ false
any_take test zero xs no_one = refl
any_take test (suc n) [] no_one = refl
any_take test (suc n) (x ∷ xs) no_one = by_test (test x) (list_any test xs) refl refl no_one (any_take test n xs)
  where
    by_test : (b c : Bool) → test x ≡ b → list_any test xs ≡ c → (test x || list_any test xs) ≡ false → (list_any test xs ≡ false → list_any test (take n xs) ≡ false) → (test x || list_any test (take n xs)) ≡ false
    by_test false false here rest none more = rw here (more rest)
    by_test true c here rest none more = absurd (let e : true ≡ false = rw here at none in cc)
    by_test false true here rest none more = absurd (let e : true ≡ false = rw (here, rest) at none in cc)

pub any_drop : {A : Type 0} (test : A → Bool) (n : ℕ) (xs : List A) → list_any test xs ≡ false → list_any test (drop n xs) ≡ false
any_drop test zero xs no_one = no_one
any_drop test (suc n) [] no_one = refl
any_drop test (suc n) (x ∷ xs) no_one = any_drop test n xs (by_test (test x) (list_any test xs) refl refl no_one)
  where
    by_test : (b c : Bool) → test x ≡ b → list_any test xs ≡ c → (test x || list_any test xs) ≡ false → list_any test xs ≡ false
    by_test b false here rest none = rest
    by_test true true here rest none = absurd (let e : true ≡ false = rw here at none in cc)
    by_test false true here rest none = absurd (let e : true ≡ false = rw (here, rest) at none in cc)

pub opening_take : (i : ℕ) (log : List LogRow) → have_opening (drop 1 log) ≡ false → have_opening (drop 1 (take i log)) ≡ false
opening_take zero log no_one = refl
opening_take (suc i) [] no_one = refl
opening_take (suc i) (row ∷ log) no_one = any_take _ i log no_one

opening_drop : (i : ℕ) (log : List LogRow) → have_opening (drop 1 log) ≡ false → have_opening (drop (suc i) log) ≡ false
opening_drop i [] no_one = refl
opening_drop i (row ∷ log) no_one = any_drop _ i log no_one

owner_stays : (doc : DocId) (p : ProcId) (kind : RowKind) → opens kind ≡ false → owner_after doc (Some p) kind ≡ Some p
owner_stays doc p (rows.Opened entry state d proc slot address) closed = absurd cc
owner_stays doc p (rows.Sent job) closed = refl
owner_stays doc p (rows.Accepted req d what) closed = refl
owner_stays doc p (rows.Started req goal) closed = refl
owner_stays doc p (rows.Applied req change) closed = refl
owner_stays doc p (rows.Refused req reason) closed = refl
owner_stays doc p (rows.Dropped req cause) closed = refl
owner_stays doc p (rows.Prompted req d) closed = refl
owner_stays doc p (rows.Answered req stay) closed = refl
owner_stays doc p (rows.Taken proc job live dirty) closed = refl
owner_stays doc p (rows.Finished proc job outcome) closed = refl
owner_stays doc p (rows.Made proc made) closed = refl
owner_stays doc p (rows.Delivered proc) closed = refl
owner_stays doc p (rows.Killed proc death) closed = refl
owner_stays doc p (rows.Evicted state) closed = refl

owned_stays : (doc : DocId) (p : ProcId) (log : List LogRow) → have_opening log ≡ false → owned_on doc (Some p) log ≡ Some p
owned_stays doc p [] closed = refl
owned_stays doc p (row ∷ log) closed =
    rw (owner_stays doc p row.row (first (opens row.row) (have_opening log) closed)) (owned_stays doc p log (second (opens row.row) (have_opening log) closed))
  where
    first : (b c : Bool) → (b || c) ≡ false → b ≡ false
    first true c e = cc
    first false c e = refl

    second : (b c : Bool) → (b || c) ≡ false → c ≡ false
    second true c e = absurd cc
    second false c e = e

-- a place that is found stays the document's
pub found_stays : (doc : DocId) (p : ProcId) (i : ℕ) (log : List LogRow) → have_opening (drop 1 log) ≡ false → owned_on doc (Some p) (drop (i + 1) log) ≡ Some p
found_stays doc p i log once = owned_stays doc p (drop (i + 1) log) (rw add-one (opening_drop i log once))

-- what is found early is the process of the whole log
pub found_early : (doc : DocId) (log : List LogRow) (i : ℕ) (row : LogRow) (owner found : Option ProcId) → have_opening (drop 1 log) ≡ false → i < length log → row ≡ get_or log i row → true ≡ is_some found → found ≡ owner_after doc owner row.row → owned_on doc owner (drop i log) ≡ owner_of log doc → found ≡ owner_of log doc
found_early doc log i row owner None once within is there found so_far = absurd (let e : true ≡ false = there in cc)
found_early doc log i row owner (Some p) once within is there found so_far =
    sym (found_stays doc p i log once)
    ∙ ap (λ (o : Option ProcId). owned_on doc o (drop (i + 1) log)) found
    ∙ ap (λ (l : List LogRow). owned_on doc owner l) (sym (cut_at log i row within is))
    ∙ so_far
