-- What is true of documents stays as a report is delivered that tells of no death.
use Rattle.std.proofs.Common.{◌≡◌, ℕ, ◌+◌, ◌≤◌, Bool, true, false, cond, ◌==◌, List, [], ◌∷◌, drop, map, Option, Some, None, refl, sym, ap, ◌∙◌, subst, arith}
use Rattle.std.specs.Prelude.{slice_get}
use Rattle.std.proofs.lemmas.Bool.Decides.{nat_tests}
use Rattle.tab_ids.specs.declared.DocId.{DocId}
use Rattle.tab_ids.specs.declared.ProcId.{ProcId}
use Rattle.log_model.specs.declared.job.Job.{Job}
use Rattle.log_model.specs.declared.job.Task.{Task}
use Rattle.log_model.specs.declared.job.Task.TheVariants as tasks
use Rattle.log_model.specs.declared.made.Made.{Made}
use Rattle.log_model.specs.declared.made.Report.{Report}
use Rattle.log_model.specs.declared.made.Report.TheVariants as reports
use Rattle.log_model.specs.declared.outcome.Outcome.{Outcome}
use Rattle.log_model.specs.declared.outcome.Outcome.TheVariants as outcomes
use Rattle.log_model.specs.declared.row_kind.Actor.{Actor}
use Rattle.log_model.specs.declared.row_kind.RowKind.TheVariants as rows
use Rattle.log_model.specs.After.{after, desk_delivered}
use Rattle.log_model.specs.AfterDocuments.{documents_delivered}
use Rattle.log_model.specs.Seen.{Document, Seen, desk_of, document_of}
use Rattle.log_model.proofs.Refl.{nat_eq_refl}
use Rattle.seen_facts.specs.Coord.Leading.{orders_of_desk}
use Rattle.seen_facts.specs.Desk.Own.{AreDesksIn, IsReportIn}
use Rattle.seen_facts.proofs.Desk.Stays.{NoDeath, delivered_at}
use Rattle.seen_facts.proofs.Each.Eaches.{each_first}
use Rattle.seen_facts.proofs.Entry.Docs.{its_own}
use Rattle.seen_facts.proofs.Entry.Parts.{each_desk, map_itself}
use Rattle.seen_facts.specs.Transit.Orders.{IsOutcomeOf}
use Rattle.seen_facts.specs.Doc.Docs.{AreDocs, IsLive, IsMadeOnce, makes_at, makes_by, makes_due, makes_it, makes_sent, makes_told}
use Rattle.seen_facts.proofs.Doc.Makes.{MakesNone, makes_none}
use Rattle.seen_facts.proofs.Doc.Awakes.{delivered_awake}
use Rattle.seen_facts.proofs.Doc.Leaves.{KeepsDoc, kept_places, itself_keeps, keeps_if, left_docs, once_alike, thawed_again}

some_same : {A : Type 0} {a b : A} → (let o : Option A = Some a in o) ≡ Some b → a ≡ b
some_same e = cc

-- a list that has a first item
first_of : {A : Type 0} (xs : List A) (x : A) → slice_get xs 0 ≡ Some x → xs ≡ x ∷ drop 1 xs
first_of [] x first = cc
first_of (y ∷ xs) x first = (let same : y ≡ x = cc in ap (λ z. z ∷ xs) same)

none_of : {A : Type 0} (xs : List A) → slice_get xs 0 ≡ None → xs ≡ []
none_of [] none = refl
none_of (x ∷ xs) none = absurd cc

-- an order with another outcome than that a document is made makes none
abbrev MakesNoDoc : Outcome → Type 0
MakesNoDoc (outcomes.Populated slot) = ⊥
MakesNoDoc _ = Unit {0}

none_made : (task : Task) (outcome : Outcome) → IsOutcomeOf task outcome → MakesNoDoc outcome → MakesNone task
none_made (tasks.Populate nav state address initial) (outcomes.Populated slot) is never = absurd never
none_made (tasks.Populate nav state address initial) outcomes.Activated never none = absurd never
none_made (tasks.Populate nav state address initial) outcomes.Updated never none = absurd never
none_made (tasks.Populate nav state address initial) outcomes.Frozen never none = absurd never
none_made (tasks.Populate nav state address initial) outcomes.Discarded never none = absurd never
none_made (tasks.Populate nav state address initial) (outcomes.Asked verdict) never none = absurd never
none_made (tasks.Populate nav state address initial) outcomes.Fragmented never none = absurd never
none_made (tasks.Activate entry epoch length index memo address) outcome is none = tt
none_made (tasks.Update length index) outcome is none = tt
none_made tasks.Freeze outcome is none = tt
none_made tasks.Discard outcome is none = tt
none_made (tasks.Ask slot cause) outcome is none = tt
none_made (tasks.DoFragment req mode address) outcome is none = tt

-- an order whose document was made makes it
makes_one : (task : Task) (slot : Option ℕ) → IsOutcomeOf task (outcomes.Populated slot) → makes_by true task ≡ 1
makes_one (tasks.Populate nav state address initial) slot is = refl
makes_one (tasks.Activate entry epoch length index memo address) slot never = absurd never
makes_one (tasks.Update length index) slot never = absurd never
makes_one tasks.Freeze slot never = absurd never
makes_one tasks.Discard slot never = absurd never
makes_one (tasks.Ask slot_ cause) slot never = absurd never
makes_one (tasks.DoFragment req mode address) slot never = absurd never

due_low : (b : Bool) → makes_due b ≤ 1
due_low true = omega arith
due_low false = omega arith

module _ (s : Seen) (event : ℕ) (actor : Actor) (are : AreDocs s) (desks : AreDesksIn s) (proc : ProcId) (fine : NoDeath (slice_get (desk_of s proc).reports 0)) where
  abbrev pub delivered : Seen
  delivered = after s (record { event = event; actor = actor; row = rows.Delivered proc })

  abbrev rest : List Report
  rest = drop 1 (desk_of s proc).reports

  -- of a document that no delivered report tells to be made, there is as much to be made as before
  left_makes : (doc : DocId) → makes_told doc rest ≡ makes_told doc (desk_of s proc).reports → (p : ProcId) → makes_at doc (desk_of delivered p) ≡ makes_at doc (desk_of s p)
  left_makes doc same p =
      each_desk s delivered proc desk_delivered (λ other desk. makes_at doc desk ≡ makes_at doc (desk_of s other)) refl (λ desk. refl) (ap (λ (k : ℕ). makes_sent doc (orders_of_desk (desk_of s proc)) + k) same) (λ other apart. refl) p

  -- documents stay
  stays : delivered.documents ≡ s.documents → ((doc : DocId) → makes_told doc rest ≡ makes_told doc (desk_of s proc).reports) → AreDocs delivered
  stays documents same =
      left_docs s delivered (record {
        g = λ d. d;
        keeps = itself_keeps;
        documents = documents ∙ map_itself s.documents;
        live = λ doc d found is. is;
        places = kept_places s.places delivered.places (delivered_at s (slice_get (desk_of s proc).reports 0) fine);
        once = λ doc d found is. once_alike (desk_of s d.proc) (desk_of delivered d.proc) d d refl refl (λ n. left_makes n (same n) d.proc) is;
        thawed = thawed_again s delivered (λ d. d) itself_keeps (documents ∙ map_itself s.documents) (λ d. refl) (delivered_awake s (slice_get (desk_of s proc).reports 0) fine) are.thawed;
      }) are

  -- a report that tells of no document that was made
  others : (report : Report) → slice_get (desk_of s proc).reports 0 ≡ Some report → ((doc : DocId) (later : List Report) → makes_told doc (report ∷ later) ≡ makes_told doc later) → documents_delivered s.documents (Some report) ≡ s.documents → AreDocs delivered
  others report first none documents =
      stays (ap (λ (o : Option Report). documents_delivered s.documents o) first ∙ documents)
      (λ doc. sym (ap (makes_told doc) (first_of (desk_of s proc).reports report first) ∙ none doc rest))

  -- ---- a document is made

  module _ (job : Job) (slot : Option ℕ) (made : Option Made) (first : slice_get (desk_of s proc).reports 0 ≡ Some (reports.Done job (outcomes.Populated slot) made)) where
    told : IsReportIn s.documents s.places proc (reports.Done job (outcomes.Populated slot) made)
    told = each_first (IsReportIn s.documents s.places proc) (desk_of s proc).reports (reports.Done job (outcomes.Populated slot) made) first (desks proc).told

    abbrev readied : Document → Document
    readied d = record d { is_ready = true; is_fresh = true }

    abbrev ready_at : Document → Document
    ready_at d = cond (d.nr.0 == job.doc.0) (readied d) d

    documents_are : delivered.documents ≡ map ready_at s.documents
    documents_are = ap (λ (o : Option Report). documents_delivered s.documents o) first

    ready_keeps : KeepsDoc ready_at
    ready_keeps =
        keeps_if (λ (d : Document). d.nr.0 == job.doc.0) readied (record { nr = λ d. refl; nav = λ d. refl; state = λ d. refl; proc = λ d. refl; discarded = λ d e. e })

    ready_lives : (d : Document) → IsLive d → IsLive (ready_at d)
    ready_lives d is = by_test (d.nr.0 == job.doc.0)
      where
        by_test : (b : Bool) → IsLive (cond b (readied d) d)
        by_test false = is
        by_test true =
            record { incarnation = is.incarnation; slot = is.slot; lives = is.lives; unknown = is.unknown; viewed = is.viewed; unmade = λ view has never. absurd cc; made = λ gone. refl }

    ready_frozen : (d : Document) → (ready_at d).is_frozen ≡ d.is_frozen
    ready_frozen d = elim (d.nr.0 == job.doc.0) as (λ b. (let x : Document = cond b (readied d) d in x).is_frozen ≡ d.is_frozen) [ true ↦ refl | false ↦ refl ]

    all : (doc : DocId) → makes_told doc (desk_of s proc).reports ≡ makes_it doc job + makes_told doc rest
    all doc = ap (makes_told doc) (first_of (desk_of s proc).reports (reports.Done job (outcomes.Populated slot) made) first)

    turned : (doc : DocId) (b : Bool) → (doc.0 == job.doc.0) ≡ b → (job.doc.0 == doc.0) ≡ b
    turned doc true e = (let n : (job.doc.0 == doc.0) ≡ true = grind (arith, nat_tests, e) in n)
    turned doc false e = (let n : (job.doc.0 == doc.0) ≡ false = grind (arith, nat_tests, e) in n)

    own_delivered : desk_of delivered proc ≡ desk_delivered (desk_of s proc)
    own_delivered = each_desk s delivered proc desk_delivered (λ other desk. (proc.0 == other.0) ≡ true → desk ≡ desk_delivered (desk_of s other)) refl (λ desk. refl) (λ own. refl) (λ other apart own. (let never : true ≡ false = sym own ∙ apart in absurd cc)) proc (nat_eq_refl proc.0)

    once_ready : (doc : DocId) (d : Document) → document_of s doc ≡ Some d → IsMadeOnce (desk_of s d.proc) d → IsMadeOnce (desk_of delivered d.proc) (ready_at d)
    once_ready doc d found is = by_test (d.nr.0 == job.doc.0) refl
      where
        by_test : (b : Bool) → (d.nr.0 == job.doc.0) ≡ b → IsMadeOnce (desk_of delivered d.proc) (cond b (readied d) d)
        by_test false e =
            let own : makes_it d.nr job ≡ 0 = ap (λ (b : Bool). makes_by b job.task) (turned d.nr false e) ∙ refl in
            left_makes d.nr (let less : makes_told d.nr rest ≡ makes_told d.nr (desk_of s proc).reports = (let whole = all d.nr in omega (arith, own, whole)) in less) d.proc ∙ is
        by_test true e =
            let same : told.0.lives.d ≡ d = some_same (sym told.0.lives.found ∙ its_own s.documents doc job.doc d found e) in
            let number : d.proc.0 ≡ proc.0 = subst (λ (x : Document). x.proc.0 ≡ proc.0) same told.0.lives.home in
            let home : d.proc ≡ proc = ap (λ (n : ℕ). let x : ProcId = record { 0 = n } in x) number in
            let own : makes_it d.nr job ≡ 1 = ap (λ (b : Bool). makes_by b job.task) (turned d.nr true e) ∙ makes_one job.task slot told.1 in
            let before : makes_sent d.nr (orders_of_desk (desk_of s proc)) + makes_told d.nr (desk_of s proc).reports ≡ makes_due d.is_ready = subst (λ (p : ProcId). makes_at d.nr (desk_of s p) ≡ makes_due d.is_ready) home is in
            let low : makes_due d.is_ready ≤ 1 = due_low d.is_ready in
            let whole = all d.nr in
            let none : makes_sent d.nr (orders_of_desk (desk_of s proc)) + makes_told d.nr rest ≡ 0 = omega (arith, own, before, low, whole) in
            subst (λ (p : ProcId). makes_at d.nr (desk_of delivered p) ≡ 0) (sym home) (ap (makes_at d.nr) own_delivered ∙ none)

    is_made : AreDocs delivered
    is_made =
        left_docs s delivered (record {
          g = ready_at;
          keeps = ready_keeps;
          documents = documents_are;
          live = λ doc d found is. ready_lives d is;
          places = kept_places s.places delivered.places (delivered_at s (slice_get (desk_of s proc).reports 0) fine);
          once = once_ready;
          thawed = thawed_again s delivered ready_at ready_keeps documents_are ready_frozen (delivered_awake s (slice_get (desk_of s proc).reports 0) fine) are.thawed;
        }) are

  -- ---- any report

  by_outcome : (job : Job) (outcome : Outcome) (made : Option Made) → slice_get (desk_of s proc).reports 0 ≡ Some (reports.Done job outcome made) → AreDocs delivered
  by_outcome job outcome made first = by_kind outcome first
    where
      told_of : (u : Outcome) → slice_get (desk_of s proc).reports 0 ≡ Some (reports.Done job u made) → IsOutcomeOf job.task u
      told_of u at =
          (each_first (IsReportIn s.documents s.places proc) (desk_of s proc).reports (reports.Done job u made) at (desks proc).told).1

      quiet : (u : Outcome) → MakesNoDoc u → slice_get (desk_of s proc).reports 0 ≡ Some (reports.Done job u made) → documents_delivered s.documents (Some (reports.Done job u made)) ≡ s.documents → AreDocs delivered
      quiet u none at same =
          others (reports.Done job u made) at (λ doc later. ap (λ (k : ℕ). k + makes_told doc later) (makes_none doc job (none_made job.task u (told_of u at) none)) ∙ (let zero : 0 + makes_told doc later ≡ makes_told doc later = omega arith in zero)) same

      by_kind : (u : Outcome) → slice_get (desk_of s proc).reports 0 ≡ Some (reports.Done job u made) → AreDocs delivered
      by_kind (outcomes.Populated slot) at = is_made job slot made at
      by_kind outcomes.Activated at = quiet outcomes.Activated tt at refl
      by_kind outcomes.Updated at = quiet outcomes.Updated tt at refl
      by_kind outcomes.Frozen at = quiet outcomes.Frozen tt at refl
      by_kind outcomes.Discarded at = quiet outcomes.Discarded tt at refl
      by_kind (outcomes.Asked verdict) at = quiet (outcomes.Asked verdict) tt at refl
      by_kind outcomes.Fragmented at = quiet outcomes.Fragmented tt at refl

  pub delivered_docs : AreDocs delivered
  delivered_docs = by_report (slice_get (desk_of s proc).reports 0) refl fine
    where
      by_report : (o : Option Report) → slice_get (desk_of s proc).reports 0 ≡ o → NoDeath o → AreDocs delivered
      by_report None first none =
          stays (ap (λ (o : Option Report). documents_delivered s.documents o) first) (λ doc. ap (λ (l : List Report). makes_told doc (drop 1 l)) (none_of (desk_of s proc).reports first) ∙ sym (ap (makes_told doc) (none_of (desk_of s proc).reports first)))
      by_report (Some (reports.Made made)) first none = others (reports.Made made) first (λ doc later. refl) refl
      by_report (Some (reports.Done job outcome made)) first none = by_outcome job outcome made first
      by_report (Some (reports.Died death)) first never = absurd never
