-- The slots stay those of the log as a process finishes an order. What is asked of the log is a part of what holds of a tab in which nobody is asked.
use Rattle.log_model.proofs.Refl.{nat_eq_refl}
use Rattle.log_model.specs.After.{after, desk_finished}
use Rattle.log_model.specs.AfterDocuments.{on_document, task_in_hand, view_finished}
use Rattle.log_model.specs.Seen.{Desk, Document, Place, Seen, desk_of, document_of}
use Rattle.log_model.specs.declared.job.Job.{Job}
use Rattle.log_model.specs.declared.job.Order.{Order}
use Rattle.log_model.specs.declared.job.Task.TheVariants as tasks
use Rattle.log_model.specs.declared.job.Task.{Task}
use Rattle.log_model.specs.declared.made.Report.TheVariants as reports
use Rattle.log_model.specs.declared.made.Report.{Report}
use Rattle.log_model.specs.declared.outcome.Outcome.TheVariants as outcomes
use Rattle.log_model.specs.declared.outcome.Outcome.{Outcome}
use Rattle.log_model.specs.declared.row_kind.Actor.{Actor}
use Rattle.log_model.specs.declared.row_kind.RowKind.TheVariants as rows
use Rattle.seen_facts.proofs.Coord.Leadings.{doc_same, proc_same}
use Rattle.seen_facts.proofs.Each.Eaches.{each_more}
use Rattle.seen_facts.proofs.Hang.Members.{find_has}
use Rattle.seen_facts.specs.Coord.Leading.{orders_of_desk}
use Rattle.seen_facts.specs.Desk.Own.{AreDesksIn, IsOrderIn, IsReportIn}
use Rattle.seen_facts.specs.Doc.Docs.{AreDocs, makes_at, makes_by, makes_due, makes_it, makes_sent, makes_told}
use Rattle.seen_facts.specs.Each.Items.{Each}
use Rattle.seen_facts.specs.Home.Homes.{document_in}
use Rattle.seen_facts.specs.Transit.Orders.{IsOutcomeOf}
use Rattle.seen_laws.proofs.Keyed.{find_on_other, find_on_same}
use Rattle.seen_laws.specs.Unasked.{is_question, no_answer, no_question_in_hand, unasked, unhandled, without_slot}
use Rattle.slot_facts.proofs.Changes.{SlotsStay, all_tell, known_then, slots_on}
use Rattle.slot_facts.proofs.Told.{told_on}
use Rattle.slot_facts.specs.Slots.{AreSlots, KnowsSlots, TellsSlot, slot_in, slot_known}
use Rattle.std.proofs.Common.{Bool, List, None, Option, Some, [], ap, arith, false, filter_map, refl, subst, sym, true, ℕ, ◌+◌, ◌==◌, ◌∙◌, ◌∷◌, ◌≡◌}
use Rattle.std.proofs.lemmas.Bool.Decides.{nat_tests}
use Rattle.std.specs.List.{cons_option}
use Rattle.std.specs.Prelude.{if◌then◌else◌, option_and_then, option_map}
use Rattle.tab_ids.specs.declared.DocId.{DocId}
use Rattle.tab_ids.specs.declared.ProcId.{ProcId}
use Rattle.tab_ids.specs.declared.ReqId.{ReqId}
use Rattle.unasked.proofs.Readings.{desk_read, document_read}

-- ---- an order that makes a document

makes_one : (task : Task) (slot : Option ℕ) → IsOutcomeOf task (outcomes.Populated slot) → makes_by true task ≡ 1
makes_one (tasks.Populate nav state address initial) slot is = refl
makes_one (tasks.Activate entry epoch length index memo address) slot never = absurd never
makes_one (tasks.Update length index) slot never = absurd never
makes_one tasks.Freeze slot never = absurd never
makes_one tasks.Discard slot never = absurd never
makes_one (tasks.Ask slot_ cause) slot never = absurd never
makes_one (tasks.DoFragment req mode address) slot never = absurd never

-- it asks nobody
makes_asks_none : (task : Task) → makes_by true task ≡ 1 → is_question task ≡ false
makes_asks_none (tasks.Populate nav state address initial) is = refl
makes_asks_none (tasks.Activate entry epoch length index memo address) is = refl
makes_asks_none (tasks.Update length index) is = refl
makes_asks_none tasks.Freeze is = refl
makes_asks_none tasks.Discard is = refl
makes_asks_none (tasks.Ask slot cause) never = let no_ : 0 ≡ 1 = never in absurd (omega (arith, no_))
makes_asks_none (tasks.DoFragment req mode address) is = refl

-- ---- reports that wait

-- if the report's order makes a document, it is another one
abbrev IsOfOther : DocId → Report → Type 0
IsOfOther doc (reports.Done job outcome made) = makes_by true job.task ≡ 1 → (doc.0 == job.doc.0) ≡ false
IsOfOther doc _ = Unit {0}

apart_sym : (a b : ℕ) → (b == a) ≡ false → (a == b) ≡ false
apart_sym a b e = grind (arith, nat_tests, e)

-- where none of the reports that are seen tells of its making, none does
none_told : (doc : DocId) (waiting : List Report) → makes_told doc (filter_map no_answer waiting) ≡ 0 → Each (IsOfOther doc) waiting
none_told doc [] none = tt
none_told doc (reports.Made made ∷ waiting) none = (tt, none_told doc waiting none)
none_told doc (reports.Died death ∷ waiting) none = (tt, none_told doc waiting none)
none_told doc (reports.Done job outcome made ∷ waiting) none = by_question (is_question job.task) refl none (none_told doc waiting)
  where
    by_doc : makes_by true job.task ≡ 1 → (c : Bool) → makes_by c job.task ≡ 0 → c ≡ false
    by_doc makes true zero = (let no_ : 1 ≡ 0 = sym makes ∙ zero in absurd (omega (arith, no_)))
    by_doc makes false zero = refl

    by_question : (b : Bool) → is_question job.task ≡ b → makes_told doc (cons_option (if b then None else Some (reports.Done job (without_slot outcome) made)) (filter_map no_answer waiting)) ≡ 0 → (makes_told doc (filter_map no_answer waiting) ≡ 0 → Each (IsOfOther doc) waiting) → Each (IsOfOther doc) (reports.Done job outcome made ∷ waiting)
    by_question true asks zero rest =
        let other : makes_by true job.task ≡ 1 → (doc.0 == job.doc.0) ≡ false = λ makes. (let no_ : true ≡ false = sym asks ∙ makes_asks_none job.task makes in absurd cc) in
        (other, rest zero)
    by_question false asks sum rest =
        let later : makes_told doc (filter_map no_answer waiting) ≡ 0 = omega (arith, sum) in
        let own : makes_it doc job ≡ 0 = omega (arith, sum) in
        (λ makes. apart_sym doc.0 job.doc.0 (by_doc makes (job.doc.0 == doc.0) own), rest later)

-- nor in another process than the document's
module _ (documents : List Document) (places : List Place) (p : ProcId) (doc : DocId) (d : Document) (found : document_in documents doc ≡ Some d) (away : (d.proc.0 == p.0) ≡ false) where
  never_there : (job : Job) → IsOrderIn documents places p job → (c : Bool) → (doc.0 == job.doc.0) ≡ c → c ≡ false
  never_there job its false e = refl
  never_there job its true e =
      let same : Some d ≡ Some its.lives.d = sym found ∙ ap (λ (at : DocId). document_in documents at) (doc_same doc job.doc e) ∙ its.lives.found in
      let is : d ≡ its.lives.d = cc in
      let home : d.proc.0 ≡ p.0 = ap (λ (x : Document). x.proc.0) is ∙ its.lives.home in
      let no_ : true ≡ false = sym (nat_eq_refl p.0) ∙ ap (λ (n : ℕ). n == p.0) (sym home) ∙ away in
      absurd cc

  none_elsewhere : (waiting : List Report) → Each (IsReportIn documents places p) (filter_map no_answer waiting) → Each (IsOfOther doc) waiting
  none_elsewhere [] told = tt
  none_elsewhere (reports.Made made ∷ waiting) (first, told) = (tt, none_elsewhere waiting told)
  none_elsewhere (reports.Died death ∷ waiting) (first, told) = (tt, none_elsewhere waiting told)
  none_elsewhere (reports.Done job outcome made ∷ waiting) told = by_question (is_question job.task) refl told (none_elsewhere waiting)
    where
      by_question : (b : Bool) → is_question job.task ≡ b → Each (IsReportIn documents places p) (cons_option (if b then None else Some (reports.Done job (without_slot outcome) made)) (filter_map no_answer waiting)) → (Each (IsReportIn documents places p) (filter_map no_answer waiting) → Each (IsOfOther doc) waiting) → Each (IsOfOther doc) (reports.Done job outcome made ∷ waiting)
      by_question true asks all rest =
          let other : makes_by true job.task ≡ 1 → (doc.0 == job.doc.0) ≡ false = λ makes. (let no_ : true ≡ false = sym asks ∙ makes_asks_none job.task makes in absurd cc) in
          (other, rest all)
      by_question false asks (first, all) rest = (λ makes. never_there job first.0 (doc.0 == job.doc.0) refl, rest all)

-- ---- the document whose making is done

-- it isn't made yet
pub record IsUnmade (documents : List Document) (doc : DocId) : Type 0 where
  pub d : Document
  pub found : document_in documents doc ≡ Some d
  pub unready : d.is_ready ≡ false

module _ (s : Seen) (checking : ReqId → Bool) (docs : AreDocs (unasked checking s)) (desks : AreDesksIn (unasked checking s)) (proc : ProcId) (order : Order) (in_hand : (desk_of s proc).in_hand ≡ Some order) (makes : makes_by true order.job.task ≡ 1) where
  abbrev bare : Seen
  bare = unasked checking s

  abbrev doc : DocId
  doc = order.job.doc

  bare_hand : (desk_of bare proc).in_hand ≡ Some order
  bare_hand =
      ap (λ (desk : Desk). desk.in_hand) (desk_read checking s proc)
      ∙ ap (λ (o : Option Order). option_and_then no_question_in_hand o) in_hand
      ∙ ap (λ (b : Bool). if b then None else Some order) (makes_asks_none order.job.task makes)

  orders_are : orders_of_desk (desk_of bare proc) ≡ order.job ∷ (desk_of bare proc).mail
  orders_are = rw bare_hand refl

  its : IsOrderIn bare.documents bare.places proc order.job
  its = (subst (λ (l : List Job). Each (IsOrderIn bare.documents bare.places proc) l) orders_are (desks proc).orders).0

  abbrev d : Document
  d = its.lives.d

  nr_is : d.nr ≡ doc
  nr_is = doc_same d.nr doc (find_has (λ (x : Document). x.nr.0 == doc.0) bare.documents d its.lives.found).1

  home_is : d.proc ≡ proc
  home_is = proc_same d.proc proc (ap (λ (n : ℕ). n == proc.0) its.lives.home ∙ nat_eq_refl proc.0)

  once : makes_at doc (desk_of bare proc) ≡ makes_due d.is_ready
  once =
      ap (λ (n : DocId). makes_at n (desk_of bare proc)) (sym nr_is)
      ∙ ap (λ (p : ProcId). makes_at d.nr (desk_of bare p)) (sym home_is)
      ∙ (docs.each doc d its.lives.found).once

  one_here : makes_at doc (desk_of bare proc) ≡ (1 + makes_sent doc (desk_of bare proc).mail) + makes_told doc (desk_of bare proc).reports
  one_here =
      ap (λ (l : List Job). makes_sent doc l + makes_told doc (desk_of bare proc).reports) orders_are
      ∙ ap (λ (n : ℕ). (n + makes_sent doc (desk_of bare proc).mail) + makes_told doc (desk_of bare proc).reports) (ap (λ (b : Bool). makes_by b order.job.task) (nat_eq_refl doc.0) ∙ makes)

  abbrev IsSole : Bool → Type 0
  IsSole ready = (ready ≡ false) × (makes_told doc (desk_of bare proc).reports ≡ 0)

  sole : IsSole d.is_ready
  sole = by_ready d.is_ready once
    where
      by_ready : (b : Bool) → makes_at doc (desk_of bare proc) ≡ makes_due b → IsSole b
      by_ready true is = (let no_ : (1 + makes_sent doc (desk_of bare proc).mail) + makes_told doc (desk_of bare proc).reports ≡ 0 = sym one_here ∙ is in absurd (omega (arith, no_)))
      by_ready false is = (let sum : (1 + makes_sent doc (desk_of bare proc).mail) + makes_told doc (desk_of bare proc).reports ≡ 1 = sym one_here ∙ is in (refl, omega (arith, sum)))

  pub unmade : IsUnmade s.documents doc
  unmade = by_old (document_of s doc) refl (sym (document_read checking s doc) ∙ its.lives.found)
    where
      by_old : (o : Option Document) → document_of s doc ≡ o → option_map unhandled o ≡ Some d → IsUnmade s.documents doc
      by_old None e is = absurd cc
      by_old (Some old) e is =
          let same : unhandled old ≡ d = cc in
          record { d = old; found = e; unready = ap (λ (x : Document). x.is_ready) same ∙ sole.0 }

  -- no report tells of its making
  others_told : (p : ProcId) → Each (IsOfOther doc) (desk_of s p).reports
  others_told p = by_proc (proc.0 == p.0) refl
    where
      by_proc : (b : Bool) → (proc.0 == p.0) ≡ b → Each (IsOfOther doc) (desk_of s p).reports
      by_proc true e =
          let here : Each (IsOfOther doc) (desk_of s proc).reports = none_told doc (desk_of s proc).reports (ap (λ (desk : Desk). makes_told doc desk.reports) (sym (desk_read checking s proc)) ∙ sole.1) in
          subst (λ (at : ProcId). Each (IsOfOther doc) (desk_of s at).reports) (proc_same proc p e) here
      by_proc false e =
          none_elsewhere bare.documents bare.places p doc d its.lives.found (ap (λ (at : ProcId). at.0 == p.0) home_is ∙ e) (desk_of s p).reports
          (subst (λ (desk : Desk). Each (IsReportIn bare.documents bare.places p) desk.reports) (desk_read checking s p) (desks p).told)

-- ---- the row

-- if a document was made, it has this slot
abbrev HasSlotOf : Outcome → Option ℕ → Type 0
HasSlotOf (outcomes.Populated x) slot = x ≡ slot
HasSlotOf _ slot = Unit {0}

module _ (s : Seen) (event : ℕ) (actor : Actor) (proc : ProcId) (order : Order) (outcome : Outcome) (in_hand : (desk_of s proc).in_hand ≡ Some order) (slots : List (DocId × ℕ)) (are : AreSlots s slots) where
  abbrev finished : Seen
  finished = after s (record { event = event; actor = actor; row = rows.Finished proc order.job.nr outcome })

  job_is : task_in_hand s proc ≡ Some order.job
  job_is = ap (λ (o : Option Order). option_map (λ (x : Order). x.job) o) in_hand

  abbrev viewed : List Document
  viewed = on_document order.job.doc (λ d. record d { view = view_finished d order.job.task }) s.documents

  viewed_stay : SlotsStay s.documents viewed
  viewed_stay = slots_on order.job.doc (λ d. record d { view = view_finished d order.job.task }) s.documents (record { nr = λ d. refl; slot = λ d. refl; ready = λ d. refl })

  -- the reports, with that of the order
  waiting_tell : (documents : List Document) → ((p : ProcId) → Each (TellsSlot documents) (desk_of s p).reports) → TellsSlot documents (reports.Done order.job outcome None) → (p : ProcId) → Each (TellsSlot documents) (desk_of finished p).reports
  waiting_tell documents told own =
      told_on documents (desk_finished outcome) s.desks proc (λ desk. refl) (rw in_hand (each_more (TellsSlot documents) (desk_of s proc).reports (reports.Done order.job outcome None) (told proc) own)) told

  finished_with : (documents : List Document) → finished.documents ≡ documents → KnowsSlots documents slots → ((p : ProcId) → Each (TellsSlot documents) (desk_of s p).reports) → TellsSlot documents (reports.Done order.job outcome None) → AreSlots finished slots
  finished_with documents are_ known told own =
      record {
        known = subst (λ (l : List Document). KnowsSlots l slots) (sym are_) known;
        told = subst (λ (l : List Document). (p : ProcId) → Each (TellsSlot l) (desk_of finished p).reports) (sym are_) (waiting_tell documents told own);
      }

  -- where the order makes no document, all stays
  plainly : finished.documents ≡ viewed → TellsSlot viewed (reports.Done order.job outcome None) → AreSlots finished slots
  plainly same own =
      finished_with viewed same (known_then s.documents viewed slots viewed_stay are.known) (λ p. all_tell s.documents viewed viewed_stay (desk_of s p).reports (are.told p)) own

  -- where it makes one, that is told of no other report
  module _ (slot : Option ℕ) (makes : makes_by true order.job.task ≡ 1) (made : IsUnmade s.documents order.job.doc) (others : (p : ProcId) → Each (IsOfOther order.job.doc) (desk_of s p).reports) where
    abbrev slotted : List Document
    slotted = on_document order.job.doc (λ d. record d { slot = slot }) viewed

    abbrev d_then : Document
    d_then = let d : Document = record (made.d) { view = view_finished made.d order.job.task } in record d { slot = slot }

    found_then : document_in slotted order.job.doc ≡ Some d_then
    found_then =
        find_on_same (λ (x : Document). x.nr.0) (λ d. record d { slot = slot }) order.job.doc.0 viewed (λ x. refl)
        ∙ ap (λ (o : Option Document). option_map (λ (d : Document). let x : Document = record d { slot = slot } in x) o)
        (find_on_same (λ (x : Document). x.nr.0) (λ d. record d { view = view_finished d order.job.task }) order.job.doc.0 s.documents (λ x. refl)
        ∙ ap (λ (o : Option Document). option_map (λ (d : Document). let x : Document = record d { view = view_finished d order.job.task } in x) o) made.found)

    other_then : (doc : DocId) → (order.job.doc.0 == doc.0) ≡ false → document_in slotted doc ≡ document_in s.documents doc
    other_then doc apart =
        find_on_other (λ (x : Document). x.nr.0) (λ d. record d { slot = slot }) order.job.doc.0 doc.0 viewed (λ x. refl) apart
        ∙ find_on_other (λ (x : Document). x.nr.0) (λ d. record d { view = view_finished d order.job.task }) order.job.doc.0 doc.0 s.documents (λ x. refl) apart

    none_unready : (d : Document) → d.is_ready ≡ false → slot_known (Some d) ≡ None
    none_unready d unready = rw unready refl

    known_slotted : KnowsSlots slotted slots
    known_slotted doc = by_doc (order.job.doc.0 == doc.0) refl
      where
        by_doc : (b : Bool) → (order.job.doc.0 == doc.0) ≡ b → slot_in slots doc ≡ slot_known (document_in slotted doc)
        by_doc true e =
            let was : slot_known (document_in s.documents order.job.doc) ≡ None = ap slot_known made.found ∙ none_unready made.d made.unready in
            let now : slot_known (document_in slotted order.job.doc) ≡ None = ap slot_known found_then ∙ none_unready d_then made.unready in
            let here : slot_in slots order.job.doc ≡ slot_known (document_in slotted order.job.doc) = are.known order.job.doc ∙ was ∙ sym now in
            subst (λ (at : DocId). slot_in slots at ≡ slot_known (document_in slotted at)) (doc_same order.job.doc doc e) here
        by_doc false e = are.known doc ∙ ap slot_known (sym (other_then doc e))

    other_tells : (report : Report) → TellsSlot s.documents report → IsOfOther order.job.doc report → TellsSlot slotted report
    other_tells (reports.Done job (outcomes.Populated x) joined) has other =
        record { makes = has.makes; d = has.d; found = other_then job.doc (other has.makes) ∙ has.found; is = has.is }
    other_tells (reports.Done job outcomes.Activated joined) tells other = tt
    other_tells (reports.Done job outcomes.Updated joined) tells other = tt
    other_tells (reports.Done job outcomes.Frozen joined) tells other = tt
    other_tells (reports.Done job outcomes.Discarded joined) tells other = tt
    other_tells (reports.Done job (outcomes.Asked verdict) joined) tells other = tt
    other_tells (reports.Done job outcomes.Fragmented joined) tells other = tt
    other_tells (reports.Made what) tells other = tt
    other_tells (reports.Died death) tells other = tt

    others_tell : (waiting : List Report) → Each (TellsSlot s.documents) waiting → Each (IsOfOther order.job.doc) waiting → Each (TellsSlot slotted) waiting
    others_tell [] tell other = tt
    others_tell (report ∷ waiting) (tells, tell) (first, other) = (other_tells report tells first, others_tell waiting tell other)

    populated : finished.documents ≡ slotted → HasSlotOf outcome slot → AreSlots finished slots
    populated same its =
        finished_with slotted same known_slotted (λ p. others_tell (desk_of s p).reports (are.told p) (others p)) (own outcome its)
      where
        own : (u : Outcome) → HasSlotOf u slot → TellsSlot slotted (reports.Done order.job u None)
        own (outcomes.Populated x) is = record { makes = makes; d = d_then; found = found_then; is = sym is }
        own outcomes.Activated is = tt
        own outcomes.Updated is = tt
        own outcomes.Frozen is = tt
        own outcomes.Discarded is = tt
        own (outcomes.Asked verdict) is = tt
        own outcomes.Fragmented is = tt

  -- the slots stay
  pub finished_slots : (checking : ReqId → Bool) → AreDocs (unasked checking s) → AreDesksIn (unasked checking s) → IsOutcomeOf order.job.task outcome → AreSlots finished slots
  finished_slots checking docs desks fits = by_outcome outcome refl fits
    where
      by_outcome : (u : Outcome) → outcome ≡ u → IsOutcomeOf order.job.task u → AreSlots finished slots
      by_outcome (outcomes.Populated slot) e is =
          let makes : makes_by true order.job.task ≡ 1 = makes_one order.job.task slot is in
          populated slot makes (unmade s checking docs desks proc order in_hand makes) (others_told s checking docs desks proc order in_hand makes) (rw (job_is, e) refl) (subst (λ (x : Outcome). HasSlotOf x slot) (sym e) refl)
      by_outcome outcomes.Activated e is = plainly (rw (job_is, e) refl) (rw e tt)
      by_outcome outcomes.Updated e is = plainly (rw (job_is, e) refl) (rw e tt)
      by_outcome outcomes.Frozen e is = plainly (rw (job_is, e) refl) (rw e tt)
      by_outcome outcomes.Discarded e is = plainly (rw (job_is, e) refl) (rw e tt)
      by_outcome (outcomes.Asked verdict) e is = plainly (rw (job_is, e) refl) (rw e tt)
      by_outcome outcomes.Fragmented e is = plainly (rw (job_is, e) refl) (rw e tt)
