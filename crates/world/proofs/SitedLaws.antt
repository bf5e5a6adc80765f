-- That each document lives in a process of the settings, over each row.
use Rattle.std.proofs.Common.{◌≡◌, ℕ, inl, inr, Bool, true, false, cond, ◌==◌, ◌&&◌, List, [], ◌∷◌, ◌++◌, map, Option, Some, None, refl, sym, ap, ◌∙◌, subst, arith}
use Rattle.std.specs.Prelude.{find, bytes_eq, slice_get, is_none, length, option_and_then, option_map, option_to_list, if◌then◌else◌}
use Rattle.std.specs.Option.{option_map_or}
use Rattle.std.proofs.lemmas.Bool.Decides.{nat_tests}
use Rattle.tab_ids.specs.declared.DocId.{DocId}
use Rattle.tab_ids.specs.declared.NavId.{NavId}
use Rattle.tab_ids.specs.declared.ProcId.{ProcId}
use Rattle.address.specs.Addresses.{base_of, origin_of, blank_text}
use Rattle.seen_facts.proofs.Each.Eaches.{each_map, each_more}
use Rattle.seen_facts.specs.Each.Items.{Each}
use Rattle.seen_facts.proofs.Hang.Members.{find_has}
use Rattle.seen_facts.specs.Hang.Members.{Has}
use Rattle.log_model.specs.declared.change.Change.{Change}
use Rattle.log_model.specs.declared.header.Header.{Header}
use Rattle.log_model.specs.declared.header.Site.{Site}
use Rattle.log_model.specs.declared.job.Job.{Job}
use Rattle.log_model.specs.declared.job.Order.{Order}
use Rattle.log_model.specs.declared.request.Poke.{Poke}
use Rattle.seen_facts.specs.Desk.Own.{IsDeskIn, IsOrderIn, IsPokeIn, IsReportIn, LivesIn}
use Rattle.log_model.specs.Logs.{is_idle}
use Rattle.log_model.specs.declared.job.Task.{Task}
use Rattle.log_model.specs.declared.job.Task.TheVariants as tasks
use Rattle.log_model.specs.declared.row_kind.LogRow.{LogRow}
use Rattle.log_model.specs.declared.row_kind.RowKind.{RowKind}
use Rattle.log_model.specs.declared.row_kind.RowKind.TheVariants as rows
use Rattle.log_model.specs.declared.made.Report.{Report}
use Rattle.log_model.specs.declared.made.Report.TheVariants as told
use Rattle.log_model.specs.declared.outcome.Outcome.{Outcome}
use Rattle.log_model.specs.declared.outcome.Outcome.TheVariants as outcomes
use Rattle.log_model.specs.AfterDocuments.{addressed, applied_to, documents_after, documents_delivered, documents_finished, documents_sent, new_document, on_document, slot_finished, told_after_change, view_finished}
use Rattle.log_model.specs.AfterPlaces.{is_dead_by}
use Rattle.log_model.specs.declared.made.Made.{Made}
use Rattle.log_model.specs.Views.{View, after_made}
use Rattle.log_model.specs.Equal.{holds}
use Rattle.log_model.specs.Events.{Point}
use Rattle.log_model.specs.Seen.{Seen, Desk, Document, Place, desk_of, place_of, document_of}
use Rattle.log_model.specs.Places.{awake_document}
use Rattle.log_model.specs.Suits.{first_process, process_of_origin, process_of_parent, home_of, is_home, is_sent_home, is_suitable_row}
use Rattle.std.proofs.lemmas.Bool.{and_parts}
use Rattle.log_model.specs.Formed.{is_work}
use Rattle.world.specs.Open.{bare, opening_process}
use Rattle.world.specs.Sited.{IsSited, AreSited}
use Rattle.world.proofs.FaceLaws.{applied_leaves, leaves_then, told_leaves}

-- ---- where an order may make its document

-- a row that makes one does so in the document's process
abbrev pub IsSentHome : Header → Seen → RowKind → Type 0
IsSentHome header s (rows.Sent job) = is_sent_home header s job job.task ≡ true
IsSentHome header s _ = Unit {0}

pub sent_home : (header : Header) (p : Point) (row : LogRow) → is_suitable_row header p row ≡ true → IsSentHome header p.now row.row
sent_home header p row suits = by_kind row.row refl
  where
    by_kind : (kind : RowKind) → row.row ≡ kind → IsSentHome header p.now kind
    by_kind (rows.Sent job) e =
        let test : is_suitable_row header p (record row { row = rows.Sent job }) ≡ true = subst (λ (k : RowKind). is_suitable_row header p (record row { row = k }) ≡ true) e suits in
        (and_parts (is_sent_home header p.now job job.task) _ test).0
    by_kind _ e = tt

-- ---- one process

-- by its number alone
same_sited : (header : Header) (a b : ProcId) → a.0 ≡ b.0 → IsSited header a → IsSited header b
same_sited header a b same (inl first) = inl (sym same ∙ first)
same_sited header a b same (inr of) = inr (record { site = of.site; has = of.has; proc_is = of.proc_is ∙ same })

-- that of an origin
origin_sited : (header : Header) (origin : List ℕ) → IsSited header (process_of_origin header origin)
origin_sited header origin = by_site (find (λ (site : Site). bytes_eq site.origin origin) header.sites) refl
  where
    by_site : (o : Option Site) → find (λ (site : Site). bytes_eq site.origin origin) header.sites ≡ o → IsSited header (option_map_or (λ (site : Site). site.proc) o first_process)
    by_site None e = inl refl
    by_site (Some site) e =
        inr (record { site = site; has = (find_has (λ (x : Site). bytes_eq x.origin origin) header.sites site e).0; proc_is = refl })

-- that in which a tab opens
pub opening_sited : (header : Header) → IsSited header (opening_process header)
unfolding opening_process
opening_sited header =
    elim (bytes_eq (base_of header.first) blank_text) as (λ b. IsSited header (cond b first_process (process_of_origin header (origin_of header.first)))) [
      | true ↦ inl refl
      | false ↦ origin_sited header (origin_of header.first)
    ]

-- that of a document that is there
found_sited : (header : Header) (documents : List Document) (d : Document) → Has documents d → AreSited header documents → IsSited header d.proc
found_sited header [] d never are = absurd never
found_sited header (x ∷ documents) d (inl same) are = subst (λ (y : Document). IsSited header y.proc) same are.0
found_sited header (x ∷ documents) d (inr has) are = found_sited header documents d has are.1

pub document_sited : (header : Header) (s : Seen) (doc : DocId) (d : Document) → document_of s doc ≡ Some d → AreSited header s.documents → IsSited header d.proc
document_sited header s doc d found are =
    found_sited header s.documents d (find_has (λ (x : Document). x.nr.0 == doc.0) s.documents d found).0 are

-- that of the parent's document
parent_sited : (header : Header) (s : Seen) (nav : NavId) (home : ProcId) → process_of_parent s nav ≡ Some home → AreSited header s.documents → IsSited header home
parent_sited header s nav home is are = by_place (place_of s nav) refl is
  where
    by_document : (o : Option Document) (awake_ : DocId) → document_of s awake_ ≡ o → option_map (λ (d : Document). d.proc) o ≡ Some home → IsSited header home
    by_document None awake_ e never = absurd cc
    by_document (Some d) awake_ e its =
        subst (λ (p : ProcId). IsSited header p) (let same : d.proc ≡ home = cc in same) (document_sited header s awake_ d e are)

    by_awake : (o : Option DocId) → option_map (λ (d : Document). d.proc) (option_and_then (document_of s) o) ≡ Some home → IsSited header home
    by_awake None never = absurd cc
    by_awake (Some doc) its = by_document (document_of s doc) doc refl its

    of_parent : (o : Option Place) → option_and_then (λ (place : Place). option_map (λ (d : Document). d.proc) (option_and_then (document_of s) (awake_document place))) o ≡ Some home → IsSited header home
    of_parent None never = absurd cc
    of_parent (Some place) its = by_awake (awake_document place) its

    by_above : (o : Option NavId) → option_and_then (λ parent. option_and_then (λ (place : Place). option_map (λ (d : Document). d.proc) (option_and_then (document_of s) (awake_document place))) (place_of s parent)) o ≡ Some home → IsSited header home
    by_above None never = absurd cc
    by_above (Some parent) its = of_parent (place_of s parent) its

    by_place : (o : Option Place) → place_of s nav ≡ o → option_and_then (λ (place : Place). option_and_then (λ parent. option_and_then (λ (x : Place). option_map (λ (d : Document). d.proc) (option_and_then (document_of s) (awake_document x))) (place_of s parent)) (slice_get place.above 0)) o ≡ Some home → IsSited header home
    by_place None e never = absurd cc
    by_place (Some place) e its = by_above (slice_get place.above 0) its

-- that of the document at an address
home_sited : (header : Header) (s : Seen) (nav : NavId) (address : List ℕ) (home : ProcId) → home_of (bare header) s nav address ≡ Some home → AreSited header s.documents → IsSited header home
home_sited header s nav address home is are =
    by_blank (bytes_eq (base_of address) blank_text) (nav.0 == 0) is
  where
    some_same : {A : Type 0} {a b : A} → (let o : Option A = Some a in o) ≡ Some b → a ≡ b
    some_same e = cc

    by_blank : (blank top : Bool) → cond blank (cond top (Some first_process) (process_of_parent s nav)) (Some (process_of_origin header (origin_of address))) ≡ Some home → IsSited header home
    by_blank true true its = subst (λ (p : ProcId). IsSited header p) (some_same its) (inl refl)
    by_blank true false its = parent_sited header s nav home its are
    by_blank false top its = subst (λ (p : ProcId). IsSited header p) (some_same its) (origin_sited header (origin_of address))

pub is_home_sited : (header : Header) (s : Seen) (nav : NavId) (address : List ℕ) (proc : ProcId) → is_home (bare header) s nav address proc ≡ true → AreSited header s.documents → IsSited header proc
is_home_sited header s nav address proc is are = by_home (home_of (bare header) s nav address) refl is
  where
    by_home : (o : Option ProcId) → home_of (bare header) s nav address ≡ o → holds (λ (home : ProcId). home.0 == proc.0) o ≡ true → IsSited header proc
    by_home None e never = absurd cc
    by_home (Some home) e its =
        same_sited header home proc (grind (arith, nat_tests, its)) (home_sited header s nav address home e are)

-- ---- each row

-- a change of documents that leaves their processes
pub procs_sited : (header : Header) (f : Document → Document) (documents : List Document) → ((d : Document) → (f d).proc ≡ d.proc) → AreSited header documents → AreSited header (map f documents)
procs_sited header f documents same are =
    each_map (λ (d : Document). IsSited header d.proc) (λ (d : Document). IsSited header d.proc) f documents (λ d its. subst (λ (p : ProcId). IsSited header p) (sym (same d)) its) are

-- of one of them
pub one_sited : (header : Header) (doc : DocId) (f : Document → Document) (documents : List Document) → ((d : Document) → (f d).proc ≡ d.proc) → AreSited header documents → AreSited header (on_document doc f documents)
one_sited header doc f documents same are =
    procs_sited header (λ (d : Document). if d.nr.0 == doc.0 then f d else d) documents (λ d. by_test d (d.nr.0 == doc.0)) are
  where
    by_test : (d : Document) (b : Bool) → (let x : Document = cond b (f d) d in x).proc ≡ d.proc
    by_test d true = same d
    by_test d false = refl

-- an order is sent
sent_sited : (header : Header) (s : Seen) (job : Job) (task : Task) → is_sent_home (bare header) s job task ≡ true → AreSited header s.documents → AreSited header (documents_sent s job task)
sent_sited header s job (tasks.Populate nav state address initial) home are =
    each_more (λ (d : Document). IsSited header d.proc) s.documents (new_document s job nav state) are (is_home_sited header s nav address job.proc home are)
sent_sited header s job tasks.Discard home are = one_sited header job.doc (λ d. record d { is_discarded = true }) s.documents (λ d. refl) are
sent_sited header s job (tasks.Activate entry epoch long at memo address) home are = one_sited header job.doc (addressed (tasks.Activate entry epoch long at memo address)) s.documents (λ d. refl) are
sent_sited header s job (tasks.Update long at) home are = one_sited header job.doc (addressed (tasks.Update long at)) s.documents (λ d. refl) are
sent_sited header s job tasks.Freeze home are = one_sited header job.doc (addressed tasks.Freeze) s.documents (λ d. refl) are
sent_sited header s job (tasks.Ask slot cause) home are = one_sited header job.doc (addressed (tasks.Ask slot cause)) s.documents (λ d. refl) are
sent_sited header s job (tasks.DoFragment req mode address) home are = one_sited header job.doc (addressed (tasks.DoFragment req mode address)) s.documents (λ d. refl) are

-- a change is applied
applied_sited : (header : Header) (documents : List Document) (change : Change) → AreSited header documents → AreSited header (map (λ (d : Document). applied_to change (told_after_change d change)) documents)
applied_sited header documents change are =
    let leaves = leaves_then (λ d. told_after_change d change) (applied_to change) (told_leaves change) (applied_leaves change) in
    procs_sited header (λ (d : Document). applied_to change (told_after_change d change)) documents (λ d. ap (λ (x : Option View × ProcId). x.1) (leaves.face d)) are

-- the coordinator's work
pub work_sited : (header : Header) (s : Seen) (kind : RowKind) → is_work kind ≡ true → IsSentHome (bare header) s kind → AreSited header s.documents → AreSited header (documents_after s kind)
work_sited header s (rows.Sent job) work home are = sent_sited header s job job.task home are
work_sited header s (rows.Applied req change) work home are = applied_sited header s.documents change are
work_sited header s (rows.Started req goal) work home are = are
work_sited header s (rows.Refused req reason) work home are = are
work_sited header s (rows.Dropped req cause) work home are = are
work_sited header s (rows.Prompted req doc) work home are = are
work_sited header s (rows.Opened entry state doc proc slot address) work home are = cc
work_sited header s (rows.Accepted req doc what) work home are = cc
work_sited header s (rows.Answered req stay) work home are = cc
work_sited header s (rows.Taken proc job live dirty) work home are = cc
work_sited header s (rows.Finished proc job outcome) work home are = cc
work_sited header s (rows.Made proc made) work home are = cc
work_sited header s (rows.Delivered proc) work home are = cc
work_sited header s (rows.Killed proc death) work home are = cc
work_sited header s (rows.Evicted state) work home are = cc

-- a report is delivered
pub delivered_sited : (header : Header) (documents : List Document) (report : Option Report) → AreSited header documents → AreSited header (documents_delivered documents report)
delivered_sited header documents None are = are
delivered_sited header documents (Some (told.Made made)) are = are
delivered_sited header documents (Some (told.Died death)) are =
    procs_sited header (λ (d : Document). if is_dead_by death d then record d { is_known_dead = true } else d) documents (λ d. by_test d (is_dead_by death d)) are
  where
    by_test : (d : Document) (b : Bool) → (let x : Document = cond b (record d { is_known_dead = true }) d in x).proc ≡ d.proc
    by_test d true = refl
    by_test d false = refl
delivered_sited header documents (Some (told.Done job outcome made)) are = by_outcome outcome
  where
    by_outcome : (outcome : Outcome) → AreSited header (documents_delivered documents (Some (told.Done job outcome made)))
    by_outcome (outcomes.Populated slot) =
        one_sited header job.doc (λ d. record d { is_ready = true; is_fresh = true }) documents (λ d. refl) are
    by_outcome outcomes.Activated = are
    by_outcome outcomes.Updated = are
    by_outcome outcomes.Frozen = are
    by_outcome outcomes.Discarded = are
    by_outcome (outcomes.Asked verdict) = are
    by_outcome outcomes.Fragmented = are

-- an order is finished
pub finished_sited : (header : Header) (documents : List Document) (job : Job) (outcome : Outcome) → AreSited header documents → AreSited header (slot_finished (documents_finished documents (Some job)) (Some job) outcome)
finished_sited header documents job outcome are = by_outcome outcome
  where
    done : AreSited header (documents_finished documents (Some job))
    done = one_sited header job.doc (λ d. record d { view = view_finished d job.task }) documents (λ d. refl) are

    by_outcome : (o : Outcome) → AreSited header (slot_finished (documents_finished documents (Some job)) (Some job) o)
    by_outcome (outcomes.Populated slot) =
        one_sited header job.doc (λ d. record d { slot = slot }) (documents_finished documents (Some job)) (λ d. refl) done
    by_outcome outcomes.Activated = done
    by_outcome outcomes.Updated = done
    by_outcome outcomes.Frozen = done
    by_outcome outcomes.Discarded = done
    by_outcome (outcomes.Asked verdict) = done
    by_outcome outcomes.Fragmented = done

-- something is made
pub made_sited : (header : Header) (documents : List Document) (made : Made) → AreSited header documents → AreSited header (on_document made.doc (λ d. record d { view = option_map (λ view. after_made view made.what) d.view }) documents)
made_sited header documents made are =
    one_sited header made.doc (λ d. record d { view = option_map (λ view. after_made view made.what) d.view }) documents (λ d. refl) are

-- ---- where something waits

-- a process in which something waits is that of a document
pub busy_sited : (header : Header) (s : Seen) (proc : ProcId) → IsDeskIn s.documents s.places proc (desk_of s proc) → AreSited header s.documents → is_idle (desk_of s proc) ≡ false → IsSited header proc
busy_sited header s proc its are busy = by_input (desk_of s proc) its busy
  where
    lives : (doc : DocId) → LivesIn s.documents proc doc → IsSited header proc
    lives doc in_ = same_sited header in_.d.proc proc in_.home (document_sited header s doc in_.d in_.found are)

    by_input : (desk : Desk) → IsDeskIn s.documents s.places proc desk → is_idle desk ≡ false → IsSited header proc
    by_input desk is idle = by_lists desk.input desk.mail desk.in_hand desk.reports is.pokes is.orders is.told idle
      where
        of_report : (report : Report) → IsReportIn s.documents s.places proc report → IsSited header proc
        of_report (told.Done job outcome made) its_ = lives job.doc its_.0.lives
        of_report (told.Made made) its_ = lives made.doc its_.lives
        of_report (told.Died death) never = absurd never

        by_lists : (input : List Poke) (mail : List Job) (hand : Option Order) (reports : List Report) → Each (IsPokeIn s.documents proc) input → Each (IsOrderIn s.documents s.places proc) (option_to_list (option_map (λ (x : Order). x.job) hand) ++ mail) → Each (IsReportIn s.documents s.places proc) reports → (length input == 0 && length mail == 0 && is_none hand && length reports == 0) ≡ false → IsSited header proc
        by_lists (poke ∷ input) mail hand reports pokes orders told_ some = lives poke.doc pokes.0
        by_lists [] mail (Some order) reports pokes orders told_ some = lives order.job.doc orders.0.lives
        by_lists [] (job ∷ mail) None reports pokes orders told_ some = lives job.doc orders.0.lives
        by_lists [] [] None (report ∷ reports) pokes orders told_ some = of_report report told_.0
        by_lists [] [] None [] pokes orders told_ never = absurd cc
