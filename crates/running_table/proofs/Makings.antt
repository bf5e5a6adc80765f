-- The orders to make documents stay as they should be, over each row.
use Rattle.std.proofs.Common.{◌≡◌, ℕ, ◌+◌, ◌≤◌, ◌<◌, Bool, true, false, cond, ◌&&◌, ◌==◌, List, [], ◌∷◌, ◌++◌, length, drop, map, Option, Some, None, refl, sym, ap, ◌∙◌, subst, arith}
use Rattle.std.specs.Prelude.{is_none, option_map, slice_get, if◌then◌else◌}
use Rattle.std.specs.Option.{option_map_or}
use Rattle.std.proofs.lemmas.Bool.Decides.{nat_tests}
use Rattle.tab_ids.specs.declared.DocId.{DocId}
use Rattle.tab_ids.specs.declared.NavId.{NavId}
use Rattle.tab_ids.specs.declared.ProcId.{ProcId}
use Rattle.tab_ids.specs.declared.ReqId.{ReqId}
use Rattle.tab_ids.specs.declared.StateId.{StateId}
use Rattle.tab_ids.specs.declared.Death.{Death}
use Rattle.log_model.proofs.Refl.{nat_eq_refl}
use Rattle.log_model.specs.declared.made.Made.{Made}
use Rattle.log_model.specs.declared.change.Change.{Change}
use Rattle.log_model.specs.declared.job.Job.{Job}
use Rattle.log_model.specs.declared.job.Order.{Order}
use Rattle.log_model.specs.declared.job.Task.{Task}
use Rattle.log_model.specs.declared.job.Task.TheVariants as tasks
use Rattle.log_model.specs.declared.made.Report.{Report}
use Rattle.log_model.specs.declared.outcome.Outcome.{Outcome}
use Rattle.log_model.specs.declared.outcome.Outcome.TheVariants as outcomes
use Rattle.log_model.specs.declared.request.Request.{Request}
use Rattle.log_model.specs.declared.request.Request.TheVariants as requests
use Rattle.log_model.specs.declared.row_kind.Actor.{Actor}
use Rattle.log_model.specs.declared.row_kind.Actor.TheVariants as actors
use Rattle.log_model.specs.declared.row_kind.RowKind.{RowKind}
use Rattle.log_model.specs.declared.row_kind.RowKind.TheVariants as rows
use Rattle.log_model.specs.After.{after, desk_delivered, desk_dropped, desk_finished, desk_killed, desk_taken, desks_accepted, desks_made, desks_refused, follows_finished, on_desk}
use Rattle.log_model.specs.AfterDocuments.{applied_to, documents_after, documents_delivered, documents_finished, documents_killed, documents_sent, new_document, on_document, slot_finished, task_in_hand, told_after_change, view_finished}
use Rattle.log_model.specs.Seen.{Seen, Desk, Document, desk_in, desk_of, document_of, empty_desk, nothing}
use Rattle.log_model.specs.Views.{after_made, after_task}
use Rattle.seen_laws.proofs.Desks.{desk_on_other, desk_on_same}
use Rattle.seen_laws.proofs.Keyed.{find_on_other}
use Rattle.running_table.specs.Making.{AreMaking, AreToMake, IsToMake, Makes, least_after, orders_at, with_hand}
use Rattle.running_table.specs.Telling.{AddsNext, AreNumbered, MakesNext, MayBeDone, NumberedFrom, found}
use Rattle.running_table.proofs.MakeOrders.{kept_makes, lower_makes, makes_mail, makes_more, makes_other, makes_taken}
use Rattle.running_table.proofs.Newest.{same_doc}
use Rattle.running_table.proofs.Unmade.{LeaveUnmade, applied_unmade, delivered_unmade, mapped_none, sent_unmade, told_unmade, unmade_if, unmade_map, unmade_more, unmade_on, unmade_through}

some_same : {A : Type 0} {a b : A} → (let o : Option A = Some a in o) ≡ Some b → a ≡ b
some_same e = cc

-- ---- a desk changes

module _ (old new : List Document) (desks : List Desk) (are : (proc : ProcId) → AreToMake old proc 0 (orders_at (desk_in desks proc))) where
  -- the documents change, and no desk
  pub stay_making : LeaveUnmade old new → (proc : ProcId) → AreToMake new proc 0 (orders_at (desk_in desks proc))
  stay_making leave proc =
      kept_makes old new proc 0 (λ least doc nav within. leave proc least doc nav) 0 (orders_at (desk_in desks proc)) (omega arith) (are proc)

  -- the desk of one process changes
  pub on_making : (of : ProcId) (f : Desk → Desk) → ((d : Desk) → (f d).proc ≡ d.proc) → AreToMake new of 0 (orders_at (f (desk_in desks of))) → ((proc : ProcId) → (of.0 == proc.0) ≡ false → AreToMake new proc 0 (orders_at (desk_in desks proc))) → (proc : ProcId) → AreToMake new proc 0 (orders_at (desk_in (on_desk of f desks) proc))
  on_making of f keeps own others proc = by_test (of.0 == proc.0) refl
    where
      by_test : (b : Bool) → (of.0 == proc.0) ≡ b → AreToMake new proc 0 (orders_at (desk_in (on_desk of f desks) proc))
      by_test true e =
          let n : of.0 ≡ proc.0 = grind (arith, nat_tests, e) in
          let same : of ≡ proc = ap (λ (i : ℕ). let p : ProcId = record { 0 = i } in p) n in
          subst (λ (p : ProcId). AreToMake new p 0 (orders_at (desk_in (on_desk of f desks) p))) same (subst (λ (d : Desk). AreToMake new of 0 (orders_at d)) (sym (desk_on_same f desks of keeps)) own)
      by_test false e =
          subst (λ (d : Desk). AreToMake new proc 0 (orders_at d)) (sym (desk_on_other f desks of proc keeps e)) (others proc e)

  -- and has the same orders
  pub same_making : LeaveUnmade old new → (of : ProcId) (f : Desk → Desk) → ((d : Desk) → (f d).proc ≡ d.proc) → ((d : Desk) → orders_at (f d) ≡ orders_at d) → (proc : ProcId) → AreToMake new proc 0 (orders_at (desk_in (on_desk of f desks) proc))
  same_making leave of f keeps same =
      on_making of f keeps (subst (λ (jobs : List Job). AreToMake new of 0 jobs) (sym (same (desk_in desks of))) (stay_making leave of)) (λ proc apart. stay_making leave proc)

nothing_changes : (documents : List Document) → LeaveUnmade documents documents
nothing_changes documents proc least doc nav make = make

module _ (s : Seen) (are : AreMaking s) where
  -- ---- rows that send no order and end none

  accepted_making : (req : ReqId) (doc : Option DocId) (what : Request) (proc : ProcId) → AreToMake s.documents proc 0 (orders_at (desk_in (desks_accepted s req doc what) proc))
  accepted_making req (Some doc) (requests.Poke nav action) = by_found (document_of s doc)
    where
      by_found : (o : Option Document) (proc : ProcId) → AreToMake s.documents proc 0 (orders_at (desk_in (option_map_or (λ (d : Document). on_desk d.proc (λ desk. record desk { input = desk.input ++ record { req = req; doc = doc; action = action } ∷ [] }) s.desks) o s.desks) proc))
      by_found None = are
      by_found (Some d) =
          same_making s.documents s.documents s.desks are (nothing_changes s.documents) d.proc (λ desk. record desk { input = desk.input ++ record { req = req; doc = doc; action = action } ∷ [] }) (λ d. refl) (λ d. refl)
  accepted_making req doc what = are

  refused_making : (actor : Actor) (proc : ProcId) → AreToMake s.documents proc 0 (orders_at (desk_in (desks_refused s.desks actor) proc))
  refused_making (actors.Proc of) =
      same_making s.documents s.documents s.desks are (nothing_changes s.documents) of (λ desk. record desk { input = drop 1 desk.input }) (λ d. refl) (λ d. refl)
  refused_making actor = are

  dropped_making : (req : ReqId) (proc : ProcId) → AreToMake s.documents proc 0 (orders_at (desk_in (map (desk_dropped req) s.desks) proc))
  dropped_making req proc =
      subst (λ (jobs : List Job). AreToMake s.documents proc 0 jobs) (sym (same s.desks)) (are proc)
    where
      behind : (desk : Desk) (desks : List Desk) → orders_at (desk_in (map (desk_dropped req) desks) proc) ≡ orders_at (desk_in desks proc) → orders_at (desk_in (map (desk_dropped req) (desk ∷ desks)) proc) ≡ orders_at (desk_in (desk ∷ desks) proc)
      behind desk desks more = by_test (desk.proc.0 == proc.0)
        where
          by_test : (b : Bool) → orders_at (cond b (desk_dropped req desk) (desk_in (map (desk_dropped req) desks) proc)) ≡ orders_at (cond b desk (desk_in desks proc))
          by_test true = refl
          by_test false = more

      same : (desks : List Desk) → orders_at (desk_in (map (desk_dropped req) desks) proc) ≡ orders_at (desk_in desks proc)
      same [] = refl
      same (desk ∷ desks) = behind desk desks (same desks)

  taken_making : (of : ProcId) (live dirty : Bool) (proc : ProcId) → AreToMake s.documents proc 0 (orders_at (desk_in (on_desk of (desk_taken live dirty) s.desks) proc))
  taken_making of live dirty =
      on_making s.documents s.documents s.desks are of (desk_taken live dirty) (λ d. refl) (makes_taken s.documents of 0 live dirty (desk_of s of).mail (makes_mail s.documents of 0 (desk_of s of).in_hand (desk_of s of).mail (are of))) (λ proc apart. are proc)

  made_orders : (joins : Bool) (made : Made) (d : Desk) → orders_at (desks_made joins made d) ≡ orders_at d
  made_orders true made d = refl
  made_orders false made d = refl

  made_proc : (joins : Bool) (made : Made) (d : Desk) → (desks_made joins made d).proc ≡ d.proc
  made_proc true made d = refl
  made_proc false made d = refl

  made_making : (joins : Bool) (of : ProcId) (made : Made) (proc : ProcId) → AreToMake (on_document made.doc (λ d. record d { view = option_map (λ view. after_made view made.what) d.view }) s.documents) proc 0 (orders_at (desk_in (on_desk of (desks_made joins made) s.desks) proc))
  made_making joins of made =
      same_making s.documents (on_document made.doc (λ d. record d { view = option_map (λ view. after_made view made.what) d.view }) s.documents) s.desks are (unmade_on s.documents made.doc (λ d. record d { view = option_map (λ view. after_made view made.what) d.view }) (λ d. record { nr = refl; nav = refl; proc = refl; unseen = λ e. mapped_none (λ view. after_made view made.what) d.view e })) of (desks_made joins made) (made_proc joins made) (made_orders joins made)

  delivered_making : (of : ProcId) (report : Option Report) (proc : ProcId) → AreToMake (documents_delivered s.documents report) proc 0 (orders_at (desk_in (on_desk of desk_delivered s.desks) proc))
  delivered_making of report =
      same_making s.documents (documents_delivered s.documents report) s.desks are (delivered_unmade s.documents report) of desk_delivered (λ d. refl) (λ d. refl)

  applied_making : (change : Change) (proc : ProcId) → AreToMake (map (λ d. applied_to change (told_after_change d change)) s.documents) proc 0 (orders_at (desk_in s.desks proc))
  applied_making change =
      stay_making s.documents (map (λ d. applied_to change (told_after_change d change)) s.documents) s.desks are (unmade_map s.documents (λ d. applied_to change (told_after_change d change)) (λ d. unmade_through d (told_after_change d change) (applied_to change (told_after_change d change)) (told_unmade change d) (applied_unmade change (told_after_change d change))))

  killed_making : (of : ProcId) (death : Death) (proc : ProcId) → AreToMake (documents_killed s of death) proc 0 (orders_at (desk_in (on_desk of (desk_killed death) s.desks) proc))
  killed_making of death =
      on_making s.documents (documents_killed s of death) s.desks are of (desk_killed death) (λ d. refl) (kept_makes s.documents (documents_killed s of death) of 0 (λ least doc nav within. leave of least doc nav) 0 (desk_of s of).mail (omega arith) (makes_mail s.documents of 0 (desk_of s of).in_hand (desk_of s of).mail (are of))) (λ proc apart. stay_making s.documents (documents_killed s of death) s.desks are leave proc)
    where
      leave : LeaveUnmade s.documents (documents_killed s of death)
      leave =
          unmade_map s.documents (λ d. if d.proc.0 == of.0 && is_none d.dead_by then record d { dead_by = Some death; view = None } else d) (λ d. unmade_if (d.proc.0 == of.0 && is_none d.dead_by) d (record d { dead_by = Some death; view = None }) (record { nr = refl; nav = refl; proc = refl; unseen = λ e. refl }))

  -- ---- an order is sent

  hand_more : (hand : Option Order) (mail : List Job) (job : Job) → with_hand hand (mail ++ job ∷ []) ≡ with_hand hand mail ++ job ∷ []
  hand_more None mail job = refl
  hand_more (Some order) mail job = refl

  module _ (job : Job) where
    abbrev pub mailed : Desk → Desk
    mailed desk = record desk { mail = desk.mail ++ job ∷ [] }

    sent_other : (task : Task) → ((least : ℕ) → Makes (documents_sent s job task) job.proc least job.doc job.task) → (proc : ProcId) → AreToMake (documents_sent s job task) proc 0 (orders_at (desk_in (on_desk job.proc mailed s.desks) proc))
    sent_other task make =
        on_making s.documents (documents_sent s job task) s.desks are job.proc mailed (λ d. refl) (subst (λ (jobs : List Job). AreToMake (documents_sent s job task) job.proc 0 jobs) (sym (hand_more (desk_of s job.proc).in_hand (desk_of s job.proc).mail job)) (makes_other (documents_sent s job task) job.proc job make 0 (orders_at (desk_of s job.proc)) (stay_making s.documents (documents_sent s job task) s.desks are (sent_unmade s job task) job.proc))) (λ proc apart. stay_making s.documents (documents_sent s job task) s.desks are (sent_unmade s job task) proc)

    -- one that makes a document
    numbered_below : (next : ℕ) (documents : List Document) (doc : DocId) (d : Document) → NumberedFrom next documents → found documents doc ≡ Some d → doc.0 < length documents + next
    numbered_below next [] doc d numbered there = cc
    numbered_below next (x ∷ documents) doc d numbered there =
        by_test (x.nr.0 == doc.0) refl (numbered_below (next + 1) documents doc d numbered.1) there
      where
        by_test : (b : Bool) → (x.nr.0 == doc.0) ≡ b → (found documents doc ≡ Some d → doc.0 < length documents + (next + 1)) → cond b (Some x) (found documents doc) ≡ Some d → doc.0 < length (x ∷ documents) + next
        by_test true e more f =
            let same : x.nr.0 ≡ doc.0 = grind (arith, nat_tests, e) in omega (arith, same, numbered.0)
        by_test false e more f = let below = more f in omega (arith, below)

    none_found : (documents : List Document) (doc : DocId) → ((d : Document) → found documents doc ≡ Some d → ⊥) → found documents doc ≡ None
    none_found documents doc never = by_found (found documents doc) refl
      where
        by_found : (o : Option Document) → found documents doc ≡ o → o ≡ None
        by_found None e = refl
        by_found (Some d) e = absurd (never d e)

    found_last : (documents : List Document) (new : Document) (doc : DocId) → new.nr ≡ doc → found documents doc ≡ None → found (documents ++ new ∷ []) doc ≡ Some new
    found_last [] new doc is none = rw is (rw (nat_eq_refl doc.0) refl)
    found_last (x ∷ documents) new doc is none =
        by_test (x.nr.0 == doc.0) none (found_last documents new doc is)
      where
        by_test : (b : Bool) → cond b (Some x) (found documents doc) ≡ None → (found documents doc ≡ None → found (documents ++ new ∷ []) doc ≡ Some new) → cond b (Some x) (found (documents ++ new ∷ []) doc) ≡ Some new
        by_test true f more = cc
        by_test false f more = more f

    module _ (nav : NavId) (state : StateId) (address : List ℕ) (initial : Bool) (task : job.task ≡ tasks.Populate nav state address initial) (next : job.doc.0 ≡ length s.documents + 1) (numbered : AreNumbered s) where
      abbrev pub making : List Document
      making = s.documents ++ new_document s job nav state ∷ []

      beyond : (doc : DocId) (d : Document) → found s.documents doc ≡ Some d → doc.0 < job.doc.0
      beyond doc d there =
          let below = numbered_below 1 s.documents doc d numbered there in omega (arith, below, next)

      absent : found s.documents job.doc ≡ None
      absent =
          none_found s.documents job.doc (λ d there. (let below = beyond job.doc d there in let wrong : ⊥ = omega (arith, below) in wrong))

      make : (least : ℕ) → least ≤ job.doc.0 → IsToMake making job.proc least job.doc nav
      make least within =
          record {
            d = new_document s job nav state;
            known = found_last s.documents (new_document s job nav state) job.doc refl absent;
            its_nav = refl;
            its_proc = refl;
            unseen = refl;
            later = within;
          }

      sent_make : (proc : ProcId) → AreToMake making proc 0 (orders_at (desk_in (on_desk job.proc mailed s.desks) proc))
      sent_make =
          on_making s.documents making s.desks are job.proc mailed (λ d. refl) (subst (λ (jobs : List Job). AreToMake making job.proc 0 jobs) (sym (hand_more (desk_of s job.proc).in_hand (desk_of s job.proc).mail job)) more) (λ proc apart. stay_making s.documents making s.desks are (unmade_more s.documents (new_document s job nav state)) proc)
        where
          more : AreToMake making job.proc 0 (orders_at (desk_of s job.proc) ++ job ∷ [])
          more =
              makes_more s.documents making job.proc 0 (λ least doc n within its. unmade_more s.documents (new_document s job nav state) job.proc least doc n its) job beyond (λ least within. subst (λ (t : Task). Makes making job.proc least job.doc t) (sym task) (make least within)) 0 (orders_at (desk_of s job.proc)) (omega arith) (omega arith) (are job.proc)

    sent_making : (task : Task) → job.task ≡ task → MakesNext s job task → AreNumbered s → (proc : ProcId) → AreToMake (documents_sent s job task) proc 0 (orders_at (desk_in (on_desk job.proc mailed s.desks) proc))
    sent_making (tasks.Populate nav state address initial) e next numbered =
        sent_make nav state address initial e next numbered
    sent_making (tasks.Activate entry epoch length index memo address) e next numbered =
        sent_other (tasks.Activate entry epoch length index memo address) (λ least. subst (λ (t : Task). Makes (documents_sent s job (tasks.Activate entry epoch length index memo address)) job.proc least job.doc t) (sym e) tt)
    sent_making (tasks.Update length index) e next numbered =
        sent_other (tasks.Update length index) (λ least. subst (λ (t : Task). Makes (documents_sent s job (tasks.Update length index)) job.proc least job.doc t) (sym e) tt)
    sent_making tasks.Freeze e next numbered =
        sent_other tasks.Freeze (λ least. subst (λ (t : Task). Makes (documents_sent s job tasks.Freeze) job.proc least job.doc t) (sym e) tt)
    sent_making tasks.Discard e next numbered =
        sent_other tasks.Discard (λ least. subst (λ (t : Task). Makes (documents_sent s job tasks.Discard) job.proc least job.doc t) (sym e) tt)
    sent_making (tasks.Ask slot cause) e next numbered =
        sent_other (tasks.Ask slot cause) (λ least. subst (λ (t : Task). Makes (documents_sent s job (tasks.Ask slot cause)) job.proc least job.doc t) (sym e) tt)
    sent_making (tasks.DoFragment req mode address) e next numbered =
        sent_other (tasks.DoFragment req mode address) (λ least. subst (λ (t : Task). Makes (documents_sent s job (tasks.DoFragment req mode address)) job.proc least job.doc t) (sym e) tt)

  -- ---- the order in hand is finished

  module _ (of : ProcId) (outcome : Outcome) (order : Order) (hand : (desk_of s of).in_hand ≡ Some order) where
    abbrev pub ended : List Document
    ended = on_document order.job.doc (λ d. record d { view = view_finished d order.job.task }) s.documents

    abbrev pub finished : List Document
    finished = slot_finished ended (Some order.job) outcome

    slot_unmade : (o : Outcome) → LeaveUnmade ended (slot_finished ended (Some order.job) o)
    slot_unmade (outcomes.Populated slot) =
        unmade_on ended order.job.doc (λ d. record d { slot = slot }) (λ d. record { nr = refl; nav = refl; proc = refl; unseen = λ e. e })
    slot_unmade o = nothing_changes ended

    in_order : AreToMake s.documents of 0 (order.job ∷ (desk_of s of).mail)
    in_order =
        subst (λ (o : Option Order). AreToMake s.documents of 0 (with_hand o (desk_of s of).mail)) hand (are of)

    -- one that makes no document
    finished_other : ((d : Document) → d.view ≡ None → view_finished d order.job.task ≡ None) → (proc : ProcId) → AreToMake finished proc 0 (orders_at (desk_in (on_desk of (desk_finished outcome) s.desks) proc))
    finished_other none =
        on_making s.documents finished s.desks are of (desk_finished outcome) (λ d. refl) (kept_makes s.documents finished of 0 (λ least doc nav within. leave of least doc nav) 0 (desk_of s of).mail (omega arith) (makes_mail s.documents of 0 (desk_of s of).in_hand (desk_of s of).mail (are of))) (λ proc apart. stay_making s.documents finished s.desks are leave proc)
      where
        leave : LeaveUnmade s.documents finished
        leave proc least doc nav make =
            slot_unmade outcome proc least doc nav (unmade_on s.documents order.job.doc (λ d. record d { view = view_finished d order.job.task }) (λ d. record { nr = refl; nav = refl; proc = refl; unseen = none d }) proc least doc nav make)

    -- one that makes a document
    module _ (nav : NavId) (its : IsToMake s.documents of 0 order.job.doc nav) (rest : AreToMake s.documents of (order.job.doc.0 + 1) (desk_of s of).mail) where
      keep : (proc : ProcId) (least : ℕ) (doc : DocId) (n : NavId) → (order.job.doc.0 == doc.0) ≡ false → IsToMake s.documents proc least doc n → IsToMake finished proc least doc n
      keep proc least doc n apart make =
          slot_unmade outcome proc least doc n (record { d = make.d; known = find_on_other (λ (d : Document). d.nr.0) (λ d. record d { view = view_finished d order.job.task }) order.job.doc.0 doc.0 s.documents (λ d. refl) apart ∙ make.known; its_nav = make.its_nav; its_proc = make.its_proc; unseen = make.unseen; later = make.later })

      -- the document of an order to another process is another one
      of_other : (proc : ProcId) (least : ℕ) (doc : DocId) (n : NavId) → (of.0 == proc.0) ≡ false → IsToMake s.documents proc least doc n → (order.job.doc.0 == doc.0) ≡ false
      of_other proc least doc n apart make = by_test (order.job.doc.0 == doc.0) refl
        where
          by_test : (b : Bool) → (order.job.doc.0 == doc.0) ≡ b → b ≡ false
          by_test false e = refl
          by_test true e =
              let there : found s.documents doc ≡ Some its.d = subst (λ (x : DocId). found s.documents x ≡ Some its.d) (same_doc order.job.doc doc e) its.known in
              let same : its.d ≡ make.d = some_same (sym there ∙ make.known) in
              let one : of.0 ≡ proc.0 = sym its.its_proc ∙ (ap (λ (d : Document). d.proc.0) same ∙ make.its_proc) in
              let no_ : (of.0 == proc.0) ≡ true = grind (arith, nat_tests, one) in
              let never : true ≡ false = sym no_ ∙ apart in absurd cc

      finished_make : (proc : ProcId) → AreToMake finished proc 0 (orders_at (desk_in (on_desk of (desk_finished outcome) s.desks) proc))
      finished_make =
          on_making s.documents finished s.desks are of (desk_finished outcome) (λ d. refl) own (λ proc apart. kept_makes s.documents finished proc 0 (λ least doc n within make. keep proc least doc n (of_other proc least doc n apart make) make) 0 (orders_at (desk_in s.desks proc)) (omega arith) (are proc))
        where
          own : AreToMake finished of 0 (desk_of s of).mail
          own =
              lower_makes finished of 0 (order.job.doc.0 + 1) (desk_of s of).mail (omega arith) (kept_makes s.documents finished of (order.job.doc.0 + 1) (λ least doc n within make. keep of least doc n (grind (arith, nat_tests, within)) make) (order.job.doc.0 + 1) (desk_of s of).mail (omega arith) rest)

    finished_by_task : (task : Task) → order.job.task ≡ task → (proc : ProcId) → AreToMake finished proc 0 (orders_at (desk_in (on_desk of (desk_finished outcome) s.desks) proc))
    finished_by_task (tasks.Populate nav state address initial) e =
        let its : AreToMake s.documents of 0 (order.job ∷ (desk_of s of).mail) = in_order in
        finished_make nav (subst (λ (t : Task). Makes s.documents of 0 order.job.doc t) e its.0) (subst (λ (t : Task). AreToMake s.documents of (least_after 0 order.job.doc t) (desk_of s of).mail) e its.1)
    finished_by_task (tasks.Activate entry epoch length index memo address) e =
        finished_other (λ d none. subst (λ (t : Task). view_finished d t ≡ None) (sym e) (mapped_none (λ v. after_task v (tasks.Activate entry epoch length index memo address)) d.view none))
    finished_by_task (tasks.Update length index) e =
        finished_other (λ d none. subst (λ (t : Task). view_finished d t ≡ None) (sym e) (mapped_none (λ v. after_task v (tasks.Update length index)) d.view none))
    finished_by_task tasks.Freeze e =
        finished_other (λ d none. subst (λ (t : Task). view_finished d t ≡ None) (sym e) (mapped_none (λ v. after_task v tasks.Freeze) d.view none))
    finished_by_task tasks.Discard e =
        finished_other (λ d none. subst (λ (t : Task). view_finished d t ≡ None) (sym e) refl)
    finished_by_task (tasks.Ask slot cause) e =
        finished_other (λ d none. subst (λ (t : Task). view_finished d t ≡ None) (sym e) (mapped_none (λ v. after_task v (tasks.Ask slot cause)) d.view none))
    finished_by_task (tasks.DoFragment req mode address) e =
        finished_other (λ d none. subst (λ (t : Task). view_finished d t ≡ None) (sym e) none)

  finished_making : (of : ProcId) (outcome : Outcome) (hand : Option Order) → (desk_of s of).in_hand ≡ hand → (proc : ProcId) → AreToMake (slot_finished (documents_finished s.documents (option_map (λ (o : Order). o.job) hand)) (option_map (λ (o : Order). o.job) hand) outcome) proc 0 (orders_at (desk_in (on_desk of (desk_finished outcome) s.desks) proc))
  finished_making of outcome None e =
      on_making s.documents s.documents s.desks are of (desk_finished outcome) (λ d. refl) (makes_mail s.documents of 0 (desk_of s of).in_hand (desk_of s of).mail (are of)) (λ proc apart. are proc)
  finished_making of outcome (Some order) e = finished_by_task of outcome order e order.job.task refl

  -- what is in hand may be done
  pub may_be_done : (proc : ProcId) (job : Job) → task_in_hand s proc ≡ Some job → MayBeDone s job.doc job.task
  may_be_done proc job in_hand = by_hand (desk_of s proc).in_hand refl in_hand
    where
      by_task : (task : Task) → Makes s.documents proc 0 job.doc task → MayBeDone s job.doc task
      by_task (tasks.Populate nav state address initial) make =
          record { d = make.d; known = make.known; its_nav = make.its_nav; unseen = make.unseen }
      by_task (tasks.Activate entry epoch length index memo address) make = tt
      by_task (tasks.Update length index) make = tt
      by_task tasks.Freeze make = tt
      by_task tasks.Discard make = tt
      by_task (tasks.Ask slot cause) make = tt
      by_task (tasks.DoFragment req mode address) make = tt

      by_hand : (hand : Option Order) → (desk_of s proc).in_hand ≡ hand → option_map (λ (o : Order). o.job) hand ≡ Some job → MayBeDone s job.doc job.task
      by_hand None e f = cc
      by_hand (Some order) e f =
          let same : order.job ≡ job = some_same f in
          let its : AreToMake s.documents proc 0 (order.job ∷ (desk_of s proc).mail) = subst (λ (o : Option Order). AreToMake s.documents proc 0 (with_hand o (desk_of s proc).mail)) e (are proc) in
          by_task job.task (subst (λ (j : Job). Makes s.documents proc 0 j.doc j.task) same its.0)

-- ---- each row

opened_making : (of : ProcId) (documents : List Document) (proc : ProcId) → AreToMake documents proc 0 (orders_at (desk_in (empty_desk of ∷ []) proc))
opened_making of documents proc = by_test (of.0 == proc.0)
  where
    by_test : (b : Bool) → AreToMake documents proc 0 (orders_at (cond b (empty_desk of) (empty_desk proc)))
    by_test true = tt
    by_test false = tt

pub nothing_making : AreMaking nothing
nothing_making proc = tt

pub after_making : (s : Seen) (event : ℕ) (actor : Actor) (kind : RowKind) → AddsNext s kind → AreNumbered s → AreMaking s → AreMaking (after s (record { event = event; actor = actor; row = kind }))
after_making s event actor (rows.Opened entry state doc proc slot address) next numbered are =
    opened_making proc (documents_after s (rows.Opened entry state doc proc slot address))
after_making s event actor (rows.Accepted req doc what) next numbered are = accepted_making s are req doc what
after_making s event actor (rows.Started req goal) next numbered are = are
after_making s event actor (rows.Applied req change) next numbered are = applied_making s are change
after_making s event actor (rows.Refused req reason) next numbered are = refused_making s are actor
after_making s event actor (rows.Dropped req cause) next numbered are = dropped_making s are req
after_making s event actor (rows.Prompted req doc) next numbered are = are
after_making s event actor (rows.Answered req stay) next numbered are = are
after_making s event actor (rows.Sent job) next numbered are = sent_making s are job job.task refl next numbered
after_making s event actor (rows.Taken proc job live dirty) next numbered are = taken_making s are proc live dirty
after_making s event actor (rows.Finished proc job outcome) next numbered are =
    finished_making s are proc outcome (desk_of s proc).in_hand refl
after_making s event actor (rows.Made proc made) next numbered are =
    made_making s are (follows_finished s (record { event = event; actor = actor; row = rows.Made proc made })) proc made
after_making s event actor (rows.Delivered proc) next numbered are =
    delivered_making s are proc (slice_get (desk_of s proc).reports 0)
after_making s event actor (rows.Killed proc death) next numbered are = killed_making s are proc death
after_making s event actor (rows.Evicted state) next numbered are = are
