-- A document that was just made was never shown: no navigable was shown it last, it isn't kept, and nobody is awake on it.
use Rattle.tab_unneeded.proofs.Tells.{made_tells}
use Rattle.std.specs.Prelude.{find}
use Rattle.seen_facts.proofs.Hang.Hung.{places_distinct}
use Rattle.seen_facts.proofs.Hang.Members.{find_has}
use Rattle.seen_facts.specs.Hang.Members.{Has}
use Rattle.seen_facts.specs.Home.Homes.{IsHomed}
use Rattle.seen_facts.specs.Kept.Keeping.{IsKeptDoc, IsMadeFor}
use Rattle.row_facts.specs.LeaveRows.Evicting.{is_last}
use Rattle.log_model.specs.AfterPlaces.{sleepers_with}
use Rattle.log_model.specs.Equal.{has_doc, holds}
use Rattle.log_model.specs.Places.{is_awake_on, shower_of}
use Rattle.log_model.specs.Seen.{Document, Place, Seen, awake, document_of, place_in, place_of}
use Rattle.log_model.specs.declared.job.Job.{Job}
use Rattle.log_model.specs.declared.made.Report.{Report}
use Rattle.log_model.specs.declared.outcome.Outcome.{Outcome}
use Rattle.move_queue.specs.Queue.{Queue}
use Rattle.row_facts.proofs.RestRows.Again.{doc_same}
use Rattle.seen_laws.specs.InEvent.{InEvent, now_of}
use Rattle.std.proofs.Common.{Bool, List, None, Option, Some, [], ap, eqb-true, false, refl, subst, sym, true, ℕ, ◌==◌, ◌∙◌, ◌≡◌}
use Rattle.tab_doors.specs.declared.tables.Tables.{Tables}
use Rattle.tab_ids.specs.declared.DocId.{DocId}
use Rattle.tab_ids.specs.declared.NavId.{NavId}
use Rattle.tab_ids.specs.declared.ProcId.{ProcId}
use Rattle.tab_ids.specs.declared.ReqId.{ReqId}
use Rattle.tab_ids.specs.declared.StateId.{StateId}
use Rattle.tab_passes.proofs.Unders.{IsListedAs, has_docs}
use Rattle.tab_stands.proofs.Dones.{did_now, did_tab}
use Rattle.tab_stands.proofs.Reports.{told_kept}
use Rattle.tab_stands.proofs.Unmade.{d, its_found, its_outcome, not_ready, places_now}
use Rattle.tab_stands.specs.Delivering.{IsSeenDelivery}
use Rattle.tab_stands.specs.PassedOn.{IsStray, IsTab}
use Rattle.tab_stands.specs.Standing.{InCheck, IsOwnRead, StandsFor, seen_start}
use Rattle.tab_sweeps.specs.Unneeded.{IsUnneeded}
use Rattle.row_facts.proofs.WalkRows.Sleeping.{no_shower, nobody_awake}
use Rattle.log_model.specs.declared.job.Task.TheVariants as tasks
use Rattle.log_model.specs.declared.made.Report.TheVariants as reports
use Rattle.log_model.specs.declared.outcome.Outcome.TheVariants as outcomes

module _ (e : InEvent) (proc : ProcId) (job : Job) (outcome : Outcome) (del : IsSeenDelivery e proc (reports.Done job outcome None)) (t : Tables) (queue : Queue) (blame : List (StateId × ReqId)) {check : InCheck} (stands : StandsFor check (seen_start e) t queue blame) (aside : IsOwnRead e) (nav : NavId) (state : StateId) (address : List ℕ) (initial : Bool) (task : job.task ≡ tasks.Populate nav state address initial) where
  abbrev s : Seen
  s = seen_start e

  abbrev n : Seen
  n = now_of e []

  abbrev own : Document
  own = d e proc job outcome del t queue blame stands aside nav state address initial task

  found : document_of s job.doc ≡ Some own
  found = its_found e proc job outcome del t queue blame stands aside nav state address initial task

  new : own.is_ready ≡ false
  new = not_ready e proc job outcome del t queue blame stands aside nav state address initial task

  places_same : n.places ≡ s.places
  places_same =
      ap (λ (x : Seen). x.places) (did_now e proc job outcome del t queue blame stands aside) ∙ places_now e proc job outcome del t queue blame stands aside nav state address initial task

  place_same : (x : NavId) → place_of n x ≡ place_of s x
  place_same x = ap (λ (l : List Place). place_in l x) places_same

  pub tab_made : IsTab t.running check.loads [] n
  tab_made =
      subst (λ (x : Seen). IsTab t.running check.loads [] x) (sym (did_now e proc job outcome del t queue blame stands aside)) (did_tab e proc job outcome del t queue blame stands aside)

  -- ---- nobody is awake on it

  never_awake : (x : NavId) (place : Place) → place_of n x ≡ Some place → place.status ≡ awake job.doc → ⊥
  never_awake x place placed wakes =
      let homed : IsHomed s.documents place job.doc = stands.between.tab.homes.homed x place job.doc (sym (place_same x) ∙ placed) wakes in
      let both : Some homed.home.document ≡ Some own = sym homed.home.found ∙ found in
      let one : homed.home.document ≡ own = cc in
      let never : true ≡ false = sym homed.home.ready ∙ ap (λ (y : Document). y.is_ready) one ∙ new in
      cc

  made_off : shower_of n job.doc ≡ None
  made_off = no_shower n job.doc (places_distinct n tab_made.sound tab_made.hangs) never_awake

  pub made_nobody : sleepers_with n job.doc ≡ []
  made_nobody = nobody_awake n job.doc made_off

  -- ---- it isn't kept

  pub made_unkept : has_doc n.kept job.doc ≡ false
  made_unkept = by_test (has_doc n.kept job.doc) refl
    where
      kept_same : n.kept ≡ s.kept
      kept_same =
          ap (λ (x : Seen). x.kept) (did_now e proc job outcome del t queue blame stands aside) ∙ told_kept e proc del.by_coord del.own t queue blame stands aside (reports.Done job outcome None) del.first

      by_test : (b : Bool) → has_doc n.kept job.doc ≡ b → has_doc n.kept job.doc ≡ false
      by_test false is = is
      by_test true is =
          let listed : IsListedAs s.kept job.doc = has_docs s.kept job.doc (ap (λ (l : List DocId). has_doc l job.doc) (sym kept_same) ∙ is) in
          let its : IsKeptDoc s.documents s.places job.doc = stands.between.tab.kept.each job.doc (subst (λ (x : DocId). Has s.kept x) (doc_same listed.it job.doc listed.passes) listed.there) in
          let both : Some its.d ≡ Some own = sym its.found ∙ found in
          let one : its.d ≡ own = cc in
          let never : true ≡ false = sym its.ready ∙ ap (λ (y : Document). y.is_ready) one ∙ new in
          absurd cc

  -- ---- no navigable was shown it last

  unshown : (x : Document) → document_of n job.doc ≡ Some x → is_last n x ≡ false
  unshown x at = by_place (place_of n x.nav) refl
    where
      number : x.nr ≡ job.doc
      number =
          ap (λ (k : ℕ). let y : DocId = record { 0 = k } in y) (let passes : (x.nr.0 == job.doc.0) ≡ true = (find_has (λ (y : Document). y.nr.0 == job.doc.0) n.documents x at).1 in eqb-true x.nr.0 job.doc.0 passes)

      by_doc : (place : Place) (last : DocId) → place_of n x.nav ≡ Some place → place.last ≡ Some last → (b : Bool) → (last.0 == job.doc.0) ≡ b → (last.0 == job.doc.0) ≡ false
      by_doc place last placed is false apart = apart
      by_doc place last placed is true same =
          let made : IsMadeFor s.documents x.nav last = stands.between.tab.kept.lasts x.nav place last (sym (place_same x.nav) ∙ placed) is in
          let both : Some made.d ≡ Some own = sym made.found ∙ ap (λ (y : DocId). document_of s y) (doc_same last job.doc same) ∙ found in
          let one : made.d ≡ own = cc in
          let never : true ≡ false = sym made.ready ∙ ap (λ (y : Document). y.is_ready) one ∙ new in
          absurd cc

      by_last : (place : Place) → place_of n x.nav ≡ Some place → (o : Option DocId) → place.last ≡ o → holds (λ (y : DocId). y.0 == x.nr.0) place.last ≡ false
      by_last place placed None is = ap (λ (o : Option DocId). holds (λ (y : DocId). y.0 == x.nr.0) o) is
      by_last place placed (Some last) is =
          ap (λ (o : Option DocId). holds (λ (y : DocId). y.0 == x.nr.0) o) is
          ∙ ap (λ (y : DocId). last.0 == y.0) number
          ∙ by_doc place last placed is (last.0 == job.doc.0) refl

      by_place : (o : Option Place) → place_of n x.nav ≡ o → holds (λ (place : Place). holds (λ (y : DocId). y.0 == x.nr.0) place.last) o ≡ false
      by_place None none = refl
      by_place (Some place) placed = by_last place placed place.last refl

  -- ---- so nothing needs it

  pub made_unneeded : IsStray n job.doc state → IsUnneeded e n job.doc state
  made_unneeded stray =
      record {
        taken = record {
          proc = proc;
          takes = del.own;
          populate = job;
          slot = own.0;
          made = None;
          tells = del.real_first ∙ ap (λ (r : Report). let o : Option Report = Some r in o) own.1;
          of = refl;
        };
        stray = stray;
        unshown = unshown stray.document stray.found;
        unkept = made_unkept;
        unwoken = ap (λ (l : List Place). find (is_awake_on job.doc) l) (sym places_same) ∙ made_off;
      }
    where
      slot : (slot : Option ℕ) × (outcome ≡ outcomes.Populated slot)
      slot = its_outcome e proc job outcome del t queue blame stands aside nav state address initial task

      own : (own : Option ℕ) × (del.real ≡ reports.Done job (outcomes.Populated own) None)
      own = made_tells del.real job outcome slot.0 slot.1 del.quiet
