-- A report tells that a document was made: what is known of it before, in the log and in the tables.
use Rattle.seen_facts.specs.Desk.Own.{IsOrderIn}
use Rattle.seen_facts.specs.Doc.Docs.{IsLive, makes_at, makes_due, makes_it, makes_told}
use Rattle.seen_facts.proofs.Each.Eaches.{each_first}
use Rattle.tab_facts.specs.Frame.Lasting.{IsOfState, TellsItsState}
use Rattle.seen_facts.proofs.Hang.Members.{has_any, has_map}
use Rattle.seen_facts.specs.Hang.Members.{Has}
use Rattle.log_model.proofs.Refl.{nat_eq_refl}
use Rattle.log_model.specs.After.{documents_delivered, on_document}
use Rattle.log_model.specs.AfterPlaces.{places_delivered}
use Rattle.log_model.specs.Seen.{Document, Seen, desk_of, document_of}
use Rattle.log_model.specs.declared.job.Job.{Job}
use Rattle.log_model.specs.declared.job.Task.{Task}
use Rattle.log_model.specs.declared.made.Report.{Report}
use Rattle.log_model.specs.declared.outcome.Outcome.{Outcome}
use Rattle.move_queue.specs.Queue.{Queue}
use Rattle.nav_tree.specs.Tree.{document_of as placed_for, is_state}
use Rattle.nav_tree.specs.declared.place.Place as live
use Rattle.seen_facts.proofs.Rest.Still.{found_itself}
use Rattle.seen_laws.proofs.Keyed.{find_has}
use Rattle.seen_laws.specs.InEvent.{InEvent}
use Rattle.std.proofs.Common.{Bool, List, None, Option, Some, [], ap, arith, cond, eqb-true, false, map, not, refl, subst, sym, true, ℕ, ◌&&◌, ◌+◌, ◌==◌, ◌∙◌, ◌∷◌, ◌≡◌}
use Rattle.std.specs.Map.{lookup}
use Rattle.std.specs.Prelude.{drop, find, option_map, slice_get}
use Rattle.tab_doors.proofs.Sights.{found_has, seen_of, sight_of}
use Rattle.tab_doors.specs.Look.{Sight, is_live_for, is_made_for, sight, sight_in}
use Rattle.tab_doors.specs.Ties.{IsListed}
use Rattle.tab_doors.specs.declared.tables.Tables.{Tables}
use Rattle.tab_ids.specs.declared.DocId.{DocId}
use Rattle.tab_ids.specs.declared.NavId.{NavId}
use Rattle.tab_ids.specs.declared.ProcId.{ProcId}
use Rattle.tab_ids.specs.declared.ReqId.{ReqId}
use Rattle.tab_ids.specs.declared.StateId.{StateId}
use Rattle.tab_stands.proofs.Dones.{did, did_outcome}
use Rattle.tab_stands.specs.Delivering.{IsSeenDelivery}
use Rattle.tab_stands.specs.Standing.{InCheck, IsOwnRead, StandsFor, seen_start}
use Rattle.tab_settles.proofs.PassedOn.{its_report}
use Rattle.seen_facts.specs.Transit.Orders.{IsOutcomeOf}
use Rattle.log_model.specs.declared.job.Task.TheVariants as tasks
use Rattle.log_model.specs.declared.made.Report.TheVariants as reports
use Rattle.log_model.specs.declared.outcome.Outcome.TheVariants as outcomes

some_same : {A : Type 0} {a b : A} → (let o : Option A = Some a in o) ≡ Some b → a ≡ b
some_same e = cc

-- the first of a list stands before the others
front_of : {A : Type 0} (xs : List A) (x : A) → slice_get xs 0 ≡ Some x → xs ≡ x ∷ drop 1 xs
front_of [] x never = absurd cc
front_of (y ∷ xs) x is = ap (λ z. z ∷ xs) (some_same is)

-- a document once it is made, and each where this one is
abbrev pub made_of : Document → Document
made_of x = record x { is_ready = true; is_fresh = true }

abbrev pub made_at : DocId → Document → Document
made_at doc x = cond (x.nr.0 == doc.0) (made_of x) x

module _ (e : InEvent) (proc : ProcId) (job : Job) (outcome : Outcome) (del : IsSeenDelivery e proc (reports.Done job outcome None)) (t : Tables) (queue : Queue) (blame : List (StateId × ReqId)) {check : InCheck} (stands : StandsFor check (seen_start e) t queue blame) (aside : IsOwnRead e) (nav : NavId) (state : StateId) (address : List ℕ) (initial : Bool) (task : job.task ≡ tasks.Populate nav state address initial) where
  abbrev report : Report
  report = reports.Done job outcome None

  abbrev s : Seen
  s = seen_start e

  abbrev n : Seen
  n = did e proc job outcome del t queue blame stands aside

  pub its_order : IsOrderIn s.documents s.places proc job
  its_order = (its_report t.running s e.event proc stands.between.tab stands.between.flows report del.first).0

  abbrev pub d : Document
  d = its_order.lives.d

  pub its_found : document_of (seen_start e) job.doc ≡ Some d
  its_found = its_order.lives.found

  its_live : IsLive d
  its_live = (stands.between.tab.docs.each job.doc d its_found).live

  pub its_state : d.state ≡ state
  its_state =
      let names : TellsItsState s.documents report = each_first (TellsItsState s.documents) (desk_of s proc).reports report del.first (stands.lasts.lasting.populates proc).told in
      let of_ : IsOfState s.documents job.doc state = names nav state address initial task in
      let same : of_.d ≡ d = some_same (sym of_.found ∙ its_found) in
      ap (λ (x : Document). x.state) (sym same) ∙ of_.state_is

  pub its_number : d.nr.0 ≡ job.doc.0
  its_number = find_has (λ (x : Document). x.nr.0) job.doc.0 s.documents d its_found

  pub not_ready : d.is_ready ≡ false
  not_ready = by_test d.is_ready refl
    where
      waits : (desk_of s proc).reports ≡ report ∷ drop 1 (desk_of s proc).reports
      waits = front_of (desk_of s proc).reports report del.first

      home : d.proc ≡ proc
      home = ap (λ (i : ℕ). let p : ProcId = record { 0 = i } in p) its_order.lives.home

      once : makes_at d.nr (desk_of s proc) ≡ makes_due d.is_ready
      once =
          ap (λ (p : ProcId). makes_at d.nr (desk_of s p)) (sym home) ∙ (stands.between.tab.docs.each job.doc d its_found).once

      more : makes_told d.nr (desk_of s proc).reports ≡ makes_it d.nr job + makes_told d.nr (drop 1 (desk_of s proc).reports)
      more = ap (λ (l : List Report). makes_told d.nr l) waits

      one : makes_it d.nr job ≡ 1
      one = rw its_number (rw (task, nat_eq_refl job.doc.0) refl)

      by_test : (b : Bool) → d.is_ready ≡ b → b ≡ false
      by_test false is = refl
      by_test true is = (let due : makes_due d.is_ready ≡ 0 = ap makes_due is in absurd (omega (arith, once, more, one, due)))

  pub undiscarded : d.is_discarded ≡ false
  undiscarded = by_test d.is_discarded refl
    where
      by_test : (b : Bool) → d.is_discarded ≡ b → b ≡ false
      by_test false is = refl
      by_test true is = (let never : true ≡ false = sym (its_live.made is) ∙ not_ready in absurd cc)

  pub unknown : d.is_known_dead ≡ false
  unknown = its_live.unknown

  -- each document is found by its number
  pub the_one : (x : Document) → Has (seen_start e).documents x → (x.nr.0 == job.doc.0) ≡ true → x ≡ d
  the_one x there same =
      let number : x.nr.0 ≡ job.doc.0 = eqb-true x.nr.0 job.doc.0 same in
      some_same (sym (found_itself s.documents x stands.between.tab.whose.numbered there) ∙ (ap (λ (i : ℕ). find (λ (y : Document). y.nr.0 == i) s.documents) number ∙ its_found))

  -- ---- what the tables have of it

  pub its_own : (x : Sight) → Has (map sight (seen_start e).documents) x → (x.nr.0 == job.doc.0) ≡ true → x.state ≡ state
  its_own x there own =
      let of_ = has_map sight s.documents x there in
      let one : of_.it ≡ d = the_one of_.it of_.there (ap (λ (y : Sight). y.nr.0 == job.doc.0) of_.is ∙ own) in
      ap (λ (y : Sight). y.state) (sym of_.is) ∙ ap (λ (y : Document). y.state) one ∙ its_state

  pub seen_found : sight_in (map sight (seen_start e).documents) job.doc ≡ Some (sight d)
  seen_found = sight_of s job.doc d its_found

  seen_has : Has (map sight s.documents) (sight d)
  seen_has = found_has (map sight s.documents) job.doc (sight d) seen_found

  is_being_made : is_made_for state (sight d) ≡ true
  is_being_made = rw its_state (rw (nat_eq_refl state.0) (rw (not_ready, unknown) refl))

  pub being : lookup (is_state state) t.making.entries ≡ Some job.doc
  being = by_listed (lookup (is_state state) t.making.entries) refl (stands.tied.holds.documents.made state)
    where
      by_listed : (o : Option DocId) → lookup (is_state state) t.making.entries ≡ o → IsListed (is_made_for state) (map sight s.documents) o → lookup (is_state state) t.making.entries ≡ Some job.doc
      by_listed None at none =
          absurd (let never : true ≡ false = sym (has_any (is_made_for state) (map sight s.documents) (sight d) seen_has is_being_made) ∙ none in cc)
      by_listed (Some doc) at such =
          let same : (d.nr.0 == doc.0) ≡ true = such.only (sight d) seen_has is_being_made in
          let number : doc.0 ≡ job.doc.0 = sym (eqb-true d.nr.0 doc.0 same) ∙ its_number in
          at ∙ ap (λ (i : ℕ). let o : Option DocId = Some (record { 0 = i }) in o) number

  -- a document of its state that isn't discarded is this one
  pub sole_one : (x : Document) (doc : DocId) → document_of (seen_start e) doc ≡ Some x → x.state ≡ state → x.is_discarded ≡ false → x ≡ d
  sole_one x doc at of_state there =
      let nr : x.nr ≡ d.nr = stands.between.tab.docs.sole doc job.doc x d at its_found (of_state ∙ sym its_state) there undiscarded in
      let number : x.nr.0 ≡ doc.0 = find_has (λ (y : Document). y.nr.0) doc.0 s.documents x at in
      let docs : doc ≡ job.doc = ap (λ (i : ℕ). let y : DocId = record { 0 = i } in y) (sym number ∙ ap (λ (y : DocId). y.0) nr ∙ its_number) in
      some_same (sym at ∙ ap (λ (y : DocId). document_of s y) docs ∙ its_found)

  -- none is there for it yet, since it would be a second one
  pub unplaced : placed_for state t.tree ≡ None
  unplaced = by_listed (placed_for state t.tree) refl (stands.tied.holds.documents.live state)
    where
      four : (a b x y : Bool) → (a && b && not x && not y) ≡ true → (a ≡ true) × (b ≡ true) × (x ≡ false)
      four true true false y h = (refl, refl, refl)
      four false b x y h = absurd cc
      four true false x y h = absurd cc
      four true true true y h = absurd cc

      never_live : (x : Document) (doc : DocId) → document_of s doc ≡ Some x → is_live_for state (sight x) ≡ true → ⊥
      never_live x doc at lives =
          let parts = four (x.state.0 == state.0) x.is_ready x.is_discarded x.is_known_dead lives in
          let of_state : x.state ≡ state = ap (λ (i : ℕ). let y : StateId = record { 0 = i } in y) (eqb-true x.state.0 state.0 parts.0) in
          let same : x ≡ d = sole_one x doc at of_state parts.2 in
          let never : true ≡ false = sym parts.1 ∙ (ap (λ (y : Document). y.is_ready) same ∙ not_ready) in cc

      by_listed : (o : Option live.Place) → placed_for state t.tree ≡ o → IsListed (is_live_for state) (map sight s.documents) (option_map (λ (p : live.Place). p.doc) o) → o ≡ None
      by_listed None at is = refl
      by_listed (Some p) at such =
          let seen = seen_of s p.doc such.document such.found in
          absurd (never_live seen.document p.doc seen.found (ap (λ (y : Sight). is_live_for state y) seen.is ∙ such.passes))

  -- ---- what the report leaves

  pub its_outcome : (slot : Option ℕ) × (outcome ≡ outcomes.Populated slot)
  its_outcome = by_outcome outcome (subst (λ (k : Task). IsOutcomeOf k outcome) task (did_outcome e proc job outcome del t queue blame stands aside))
    where
      by_outcome : (u : Outcome) → IsOutcomeOf (tasks.Populate nav state address initial) u → (slot : Option ℕ) × (u ≡ outcomes.Populated slot)
      by_outcome (outcomes.Populated slot) its = (slot, refl)
      by_outcome _ its = elim its [ ]

  pub documents_now : n.documents ≡ on_document job.doc made_of (seen_start e).documents
  documents_now =
      ap (λ (o : Option Report). documents_delivered s.documents o) del.first
      ∙ ap (λ (u : Outcome). documents_delivered s.documents (Some (reports.Done job u None))) its_outcome.1

  pub places_now : n.places ≡ (seen_start e).places
  places_now = ap (λ (o : Option Report). places_delivered s o) del.first ∙ (rw task refl)
