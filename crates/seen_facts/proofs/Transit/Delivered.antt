-- A report is delivered, of no death: who waited for it has arrived, or is made, and what others wait for is on its way still.
use Rattle.std.proofs.Common.{◌≡◌, ◌⊎◌, inl, inr, ℕ, Bool, true, false, cond, ◌||◌, ◌==◌, List, Option, Some, None, refl, sym, ap, ◌∙◌, subst}
use Rattle.std.specs.Prelude.{find, is_some, option_map, slice_get}
use Rattle.std.specs.Option.{option_map_or}
use Rattle.std.proofs.lemmas.Bool.{eqb-true}
use Rattle.tab_ids.specs.declared.DocId.{DocId}
use Rattle.tab_ids.specs.declared.JobId.{JobId}
use Rattle.tab_ids.specs.declared.NavId.{NavId}
use Rattle.tab_ids.specs.declared.ProcId.{ProcId}
use Rattle.log_model.specs.declared.job.Job.{Job}
use Rattle.log_model.specs.declared.job.Task.{Task}
use Rattle.log_model.specs.declared.job.Task.TheVariants as tasks
use Rattle.log_model.specs.declared.made.Made.{Made}
use Rattle.log_model.specs.declared.made.Report.{Report}
use Rattle.log_model.specs.declared.made.Report.TheVariants as reports
use Rattle.log_model.specs.declared.outcome.Outcome.{Outcome}
use Rattle.log_model.specs.declared.outcome.Outcome.TheVariants as outcomes
use Rattle.log_model.specs.declared.row_kind.Actor.{Actor}
use Rattle.log_model.specs.declared.row_kind.RowKind.TheVariants as rows
use Rattle.log_model.specs.After.{after, desk_delivered}
use Rattle.log_model.specs.AfterDocuments.{documents_delivered}
use Rattle.log_model.specs.AfterPlaces.{on_place, place_arrived}
use Rattle.log_model.specs.Equal.{holds}
use Rattle.log_model.specs.Orders.{is_being_made}
use Rattle.log_model.specs.Seen.{Seen, Document, Desk, Place, document_of, desk_of, place_in, place_of}
use Rattle.log_model.proofs.Refl.{nat_eq_refl}
use Rattle.seen_facts.proofs.Coord.Leadings.{proc_same}
use Rattle.seen_laws.proofs.Desks.{desk_on_same, desk_on_other}
use Rattle.seen_laws.proofs.Keyed.{find_map}
use Rattle.seen_facts.proofs.Hang.Members.{find_has}
use Rattle.seen_facts.specs.Home.Homes.{AreHomed, IsHomed}
use Rattle.seen_facts.proofs.Home.Rows.{IsNoDeath}
use Rattle.seen_facts.specs.Transit.Orders.{IsOutcomeOf, TellsOf, IsOutstanding, IsShowOf, IsMakeOf}
use Rattle.seen_facts.specs.Transit.Waiting.{Comes, EachComes, IsOnItsMaking, EachIsMade, AreOnTheirWay}
use Rattle.seen_facts.proofs.Transit.Desks.{delivered_outstanding}
use Rattle.seen_facts.proofs.Transit.Again.{WaitedSo, WasDocument, AllWaited, AllWere, all_were, same_documents, keeps_at, same_places, KeepsWaiting, all_waited, keeps_one}

module _ (s : Seen) (event : ℕ) (actor : Actor) (proc : ProcId) (homes : AreHomed s) (ways : AreOnTheirWay s) where
  abbrev t : Seen
  t = after s (record { event = event; actor = actor; row = rows.Delivered proc })

  abbrev first : Option Report
  first = slice_get (desk_of s proc).reports 0

  -- what is outstanding is so still, or told of by this report
  told_or_not : (P : Job → Type 0) (at : ProcId) → IsOutstanding P (desk_of s at) → ((report : Report) × (first ≡ Some report) × TellsOf P report) ⊎ IsOutstanding P (desk_of t at)
  told_or_not P at is = by_process (proc.0 == at.0) refl
    where
      by_told : proc ≡ at → ((report : Report) × (first ≡ Some report) × TellsOf P report) ⊎ IsOutstanding P (desk_delivered (desk_of s proc)) → ((report : Report) × (first ≡ Some report) × TellsOf P report) ⊎ IsOutstanding P (desk_of t at)
      by_told same (inl told) = inl told
      by_told same (inr still) =
          let now : desk_of t proc ≡ desk_delivered (desk_of s proc) = desk_on_same desk_delivered s.desks proc (λ desk. refl) in
          inr (subst (λ (p : ProcId). IsOutstanding P (desk_of t p)) same (subst (λ (d : Desk). IsOutstanding P d) (sym now) still))

      by_process : (b : Bool) → (proc.0 == at.0) ≡ b → ((report : Report) × (first ≡ Some report) × TellsOf P report) ⊎ IsOutstanding P (desk_of t at)
      by_process true e =
          let same : proc ≡ at = proc_same proc at e in
          by_told same (delivered_outstanding P (desk_of s proc) (subst (λ (p : ProcId). IsOutstanding P (desk_of s p)) (sym same) is))
      by_process false e =
          let now : desk_of t at ≡ desk_of s at = desk_on_other desk_delivered s.desks proc at (λ desk. refl) e in
          inr (subst (λ (d : Desk). IsOutstanding P d) (sym now) is)

  -- ---- the documents

  documents_were : (o : Option Report) → first ≡ o → IsNoDeath s event actor homes o → AllWere s t
  documents_were None e no_death = same_documents s t (rw e refl)
  documents_were (Some (reports.Died death)) e never = absurd never
  documents_were (Some (reports.Made made)) e no_death = same_documents s t (rw e refl)
  documents_were (Some (reports.Done job (outcomes.Populated slot) made)) e no_death =
      all_were s t _ (keeps_at job.doc (λ d. record d { is_ready = true; is_fresh = true }) (record { nr = λ d. refl; proc = λ d. refl; dead = λ d is. is; unmade = λ d is. cc })) (rw e refl)
  documents_were (Some (reports.Done job outcomes.Activated made)) e no_death = same_documents s t (rw e refl)
  documents_were (Some (reports.Done job outcomes.Updated made)) e no_death = same_documents s t (rw e refl)
  documents_were (Some (reports.Done job outcomes.Frozen made)) e no_death = same_documents s t (rw e refl)
  documents_were (Some (reports.Done job outcomes.Discarded made)) e no_death = same_documents s t (rw e refl)
  documents_were (Some (reports.Done job (outcomes.Asked verdict) made)) e no_death = same_documents s t (rw e refl)
  documents_were (Some (reports.Done job outcomes.Fragmented made)) e no_death = same_documents s t (rw e refl)

  -- a document of whose making it tells is made
  made_by_it : (job : Job) (slot : Option ℕ) (made : Option Made) → first ≡ Some (reports.Done job (outcomes.Populated slot) made) → (doc : DocId) (d : Document) → document_of t doc ≡ Some d → (d.nr.0 == job.doc.0) ≡ true → is_being_made d ≡ true → ⊥
  made_by_it job slot made e doc d found same making = by_old (document_of s doc) refl
    where
      g : Document → Document
      g x = cond (x.nr.0 == job.doc.0) (record x { is_ready = true; is_fresh = true }) x

      number : (x : Document) (b : Bool) → (let y : Document = cond b (record x { is_ready = true; is_fresh = true }) x in y).nr.0 ≡ x.nr.0
      number x true = refl
      number x false = refl

      now : document_of t doc ≡ option_map g (document_of s doc)
      now = ap (λ (o : Option Report). find (λ (x : Document). x.nr.0 == doc.0) (documents_delivered s.documents o)) e ∙ find_map (λ (x : Document). x.nr.0) g doc.0 s.documents (λ x. number x (x.nr.0 == job.doc.0))

      by_test : (x : Document) → (b : Bool) → (x.nr.0 == job.doc.0) ≡ b → g x ≡ d → ⊥
      by_test x true f is =
          let value : g x ≡ record x { is_ready = true; is_fresh = true } = rw f refl in
          let ready : is_being_made d ≡ false = ap is_being_made (sym (sym value ∙ is)) in
          let no_ : true ≡ false = sym making ∙ ready in cc
      by_test x false f is =
          let value : g x ≡ x = rw f refl in
          let no_ : false ≡ true = sym f ∙ ap (λ (y : Document). y.nr.0 == job.doc.0) (sym value ∙ is) ∙ same in cc

      by_old : (o : Option Document) → document_of s doc ≡ o → ⊥
      by_old None f = let no_ : None ≡ Some d = sym (now ∙ ap (λ (o : Option Document). option_map g o) f) ∙ found in cc
      by_old (Some x) f =
          let both : Some (g x) ≡ Some d = sym (now ∙ ap (λ (o : Option Document). option_map g o) f) ∙ found in
          by_test x (x.nr.0 == job.doc.0) refl (let is : g x ≡ d = cc in is)

  made_then : AllWere s t → EachIsMade t
  made_then were doc d found making = by_way (ways.made doc w.before w.there (w.unmade making))
    where
      w : WasDocument s doc d
      w = were doc d found

      by_report : (report : Report) → first ≡ Some report → TellsOf (IsMakeOf w.before.nr) report → ⊥
      by_report (reports.Made made) e tells = tells
      by_report (reports.Died death) e tells = tells
      by_report (reports.Done job outcome made) e tells = by_task job.task refl outcome refl tells.0 tells.1
        where
          by_task : (task : Task) → job.task ≡ task → (u : Outcome) → outcome ≡ u → IsMakeOf w.before.nr job → IsOutcomeOf job.task outcome → ⊥
          by_task (tasks.Populate nav state address initial) is u fits its out = by_outcome u fits (subst (λ (k : Task). IsOutcomeOf k outcome) is out) (subst (λ (k : Task). IsMakeOf w.before.nr (record job { task = k })) is its)
            where
              by_outcome : (u : Outcome) → outcome ≡ u → IsOutcomeOf (tasks.Populate nav state address initial) outcome → job.doc ≡ w.before.nr → ⊥
              by_outcome (outcomes.Populated slot) f ok same =
                  made_by_it job slot made (e ∙ ap (λ (x : Outcome). Some (reports.Done job x made)) f) doc d found (subst (λ (n : DocId). (d.nr.0 == n.0) ≡ true) (sym (same ∙ w.nr)) (nat_eq_refl d.nr.0)) making
              by_outcome outcomes.Activated f ok same = subst (λ (x : Outcome). IsOutcomeOf (tasks.Populate nav state address initial) x) f ok
              by_outcome outcomes.Updated f ok same = subst (λ (x : Outcome). IsOutcomeOf (tasks.Populate nav state address initial) x) f ok
              by_outcome outcomes.Frozen f ok same = subst (λ (x : Outcome). IsOutcomeOf (tasks.Populate nav state address initial) x) f ok
              by_outcome outcomes.Discarded f ok same = subst (λ (x : Outcome). IsOutcomeOf (tasks.Populate nav state address initial) x) f ok
              by_outcome (outcomes.Asked verdict) f ok same = subst (λ (x : Outcome). IsOutcomeOf (tasks.Populate nav state address initial) x) f ok
              by_outcome outcomes.Fragmented f ok same = subst (λ (x : Outcome). IsOutcomeOf (tasks.Populate nav state address initial) x) f ok
          by_task (tasks.Activate entry epoch length index memo address) is u fits its out = subst (λ (k : Task). IsMakeOf w.before.nr (record job { task = k })) is its
          by_task (tasks.Update length index) is u fits its out = subst (λ (k : Task). IsMakeOf w.before.nr (record job { task = k })) is its
          by_task tasks.Freeze is u fits its out = subst (λ (k : Task). IsMakeOf w.before.nr (record job { task = k })) is its
          by_task tasks.Discard is u fits its out = subst (λ (k : Task). IsMakeOf w.before.nr (record job { task = k })) is its
          by_task (tasks.Ask slot cause) is u fits its out = subst (λ (k : Task). IsMakeOf w.before.nr (record job { task = k })) is its
          by_task (tasks.DoFragment req mode address) is u fits its out = subst (λ (k : Task). IsMakeOf w.before.nr (record job { task = k })) is its

      by_told : ((report : Report) × (first ≡ Some report) × TellsOf (IsMakeOf w.before.nr) report) ⊎ IsOutstanding (IsMakeOf w.before.nr) (desk_of t w.before.proc) → IsOnItsMaking (desk_of t d.proc) d
      by_told (inl told) = absurd (by_report told.0 told.1 told.2)
      by_told (inr still) = inl (subst (λ (p : ProcId). IsOutstanding (IsMakeOf d.nr) (desk_of t p)) w.proc (subst (λ (n : DocId). IsOutstanding (IsMakeOf n) (desk_of t w.before.proc)) w.nr still))

      by_way : IsOnItsMaking (desk_of s w.before.proc) w.before → IsOnItsMaking (desk_of t d.proc) d
      by_way (inl is) = by_told (told_or_not (IsMakeOf w.before.nr) w.before.proc is)
      by_way (inr dead) = inr (w.dead dead)

  -- ---- the places

  arrived_keeps : (job : Job) → KeepsWaiting (place_arrived job)
  arrived_keeps job = record { nav = λ p. refl; status = λ p. refl; late = λ p e. first_false p.is_delivered (holds (λ (nr : JobId). nr.0 == job.nr.0) p.last_job) e; last_job = λ p. refl }
    where
      first_false : (a b : Bool) → (a || b) ≡ false → a ≡ false
      first_false true b e = e
      first_false false b e = refl

  arrives : (job : Job) (o : Option Document) → t.places ≡ option_map_or (λ (d : Document). on_place d.nav (place_arrived job) s.places) o s.places → AllWaited s t
  arrives job None are = same_places s t are
  arrives job (Some d) are = all_waited s t (λ (p : Place). cond (p.nav.0 == d.nav.0) (place_arrived job p) p) (keeps_one d.nav (place_arrived job) (arrived_keeps job)) are

  places_waited : (o : Option Report) → first ≡ o → IsNoDeath s event actor homes o → AllWaited s t
  places_waited None e no_death = same_places s t (rw e refl)
  places_waited (Some (reports.Died death)) e never = absurd never
  places_waited (Some (reports.Made made)) e no_death = same_places s t (rw e refl)
  places_waited (Some (reports.Done job outcome made)) e no_death = by_task job.task refl
    where
      by_task : (task : Task) → job.task ≡ task → AllWaited s t
      by_task (tasks.Activate entry epoch length index memo address) is = arrives job (document_of s job.doc) (rw e (rw is refl))
      by_task (tasks.Populate nav state address initial) is = same_places s t (rw e (rw is refl))
      by_task (tasks.Update length index) is = same_places s t (rw e (rw is refl))
      by_task tasks.Freeze is = same_places s t (rw e (rw is refl))
      by_task tasks.Discard is = same_places s t (rw e (rw is refl))
      by_task (tasks.Ask slot cause) is = same_places s t (rw e (rw is refl))
      by_task (tasks.DoFragment req mode address) is = same_places s t (rw e (rw is refl))

  -- a navigable of whose document it tells has arrived
  arrived_by_it : (job : Job) (outcome : Outcome) (made : Option Made) (entry_task : Task) → first ≡ Some (reports.Done job outcome made) → (d : Document) → t.places ≡ on_place d.nav (place_arrived job) s.places → (nav : NavId) (old place : Place) → place_of s nav ≡ Some old → old.nav ≡ d.nav → old.last_job ≡ Some job.nr → place_of t nav ≡ Some place → place.is_delivered ≡ false → ⊥
  arrived_by_it job outcome made entry_task e d are nav old place there navs last now late =
      let g : Place → Place = λ (p : Place). cond (p.nav.0 == d.nav.0) (place_arrived job p) p in
      let at : place_of t nav ≡ option_map g (place_of s nav) = ap (λ (l : List Place). place_in l nav) are ∙ find_map (λ (p : Place). p.nav.0) g nav.0 s.places (λ p. number p (p.nav.0 == d.nav.0)) in
      let both : Some (g old) ≡ Some place = sym (at ∙ ap (λ (o : Option Place). option_map g o) there) ∙ now in
      let one : g old ≡ place = cc in
      let own : (old.nav.0 == d.nav.0) ≡ true = subst (λ (n : NavId). (n.0 == d.nav.0) ≡ true) (sym navs) (nat_eq_refl d.nav.0) in
      let value : g old ≡ place_arrived job old = rw own refl in
      let told : (old.is_delivered || holds (λ (nr : JobId). nr.0 == job.nr.0) old.last_job) ≡ true = rw last (rw (nat_eq_refl job.nr.0) (or_true old.is_delivered)) in
      let no_ : true ≡ false = sym told ∙ ap (λ (p : Place). p.is_delivered) (sym value ∙ one) ∙ late in cc
    where
      or_true : (a : Bool) → (a || true) ≡ true
      or_true true = refl
      or_true false = refl

      number : (p : Place) (b : Bool) → (let q : Place = cond b (place_arrived job p) p in q).nav.0 ≡ p.nav.0
      number p true = refl
      number p false = refl

  comes_then : AllWaited s t → AllWere s t → EachComes t
  comes_then waited were nav place doc d there wakes found late =
      record { nr = c.nr; last = sym w.last_job ∙ c.last; waits = by_way c.waits }
    where
      w : WaitedSo s nav place
      w = waited nav place doc there wakes late

      o : WasDocument s doc d
      o = were doc d found

      c : Comes (desk_of s o.before.proc) o.before w.before
      c = ways.comes nav w.before doc o.before w.there (w.status ∙ wakes) o.there w.late

      -- its document is at home
      home_nav : w.before.nav ≡ o.before.nav
      home_nav =
          let h : IsHomed s.documents w.before doc = homes.homed nav w.before doc w.there (w.status ∙ wakes) in
          let both : Some h.home.document ≡ Some o.before = sym h.home.found ∙ o.there in
          let one : h.home.document ≡ o.before = cc in
          sym h.home.nav_is ∙ ap (λ (x : Document). x.nav) one

      its : o.before.nr ≡ doc
      its =
          let number : o.before.nr.0 ≡ doc.0 = eqb-true o.before.nr.0 doc.0 (find_has (λ (x : Document). x.nr.0 == doc.0) s.documents o.before o.there).1 in
          ap (λ (n : ℕ). let x : DocId = record { 0 = n } in x) number

      by_report : (report : Report) → first ≡ Some report → TellsOf (IsShowOf o.before.nr c.nr) report → ⊥
      by_report (reports.Made made) e tells = tells
      by_report (reports.Died death) e tells = tells
      by_report (reports.Done job outcome made) e tells = by_task job.task refl tells.0
        where
          by_task : (task : Task) → job.task ≡ task → IsShowOf o.before.nr c.nr job → ⊥
          by_task (tasks.Activate entry epoch length index memo address) is shows =
              let parts : (job.doc ≡ o.before.nr) × (job.nr ≡ c.nr) = subst (λ (k : Task). IsShowOf o.before.nr c.nr (record job { task = k })) is shows in
              let home : document_of s job.doc ≡ Some o.before = ap (document_of s) (parts.0 ∙ its) ∙ o.there in
              let are : t.places ≡ on_place o.before.nav (place_arrived job) s.places = rw e (rw is (rw home refl)) in
              arrived_by_it job outcome made (tasks.Activate entry epoch length index memo address) e o.before are nav w.before place w.there home_nav (c.last ∙ ap (λ (n : JobId). Some n) (sym parts.1)) there late
          by_task (tasks.Populate nav_ state address initial) is shows = subst (λ (k : Task). IsShowOf o.before.nr c.nr (record job { task = k })) is shows
          by_task (tasks.Update length index) is shows = subst (λ (k : Task). IsShowOf o.before.nr c.nr (record job { task = k })) is shows
          by_task tasks.Freeze is shows = subst (λ (k : Task). IsShowOf o.before.nr c.nr (record job { task = k })) is shows
          by_task tasks.Discard is shows = subst (λ (k : Task). IsShowOf o.before.nr c.nr (record job { task = k })) is shows
          by_task (tasks.Ask slot cause) is shows = subst (λ (k : Task). IsShowOf o.before.nr c.nr (record job { task = k })) is shows
          by_task (tasks.DoFragment req mode address) is shows = subst (λ (k : Task). IsShowOf o.before.nr c.nr (record job { task = k })) is shows

      by_told : ((report : Report) × (first ≡ Some report) × TellsOf (IsShowOf o.before.nr c.nr) report) ⊎ IsOutstanding (IsShowOf o.before.nr c.nr) (desk_of t o.before.proc) → IsOutstanding (IsShowOf d.nr c.nr) (desk_of t d.proc) ⊎ (is_some d.dead_by ≡ true)
      by_told (inl told) = absurd (by_report told.0 told.1 told.2)
      by_told (inr still) = inl (subst (λ (p : ProcId). IsOutstanding (IsShowOf d.nr c.nr) (desk_of t p)) o.proc (subst (λ (n : DocId). IsOutstanding (IsShowOf n c.nr) (desk_of t o.before.proc)) o.nr still))

      by_way : IsOutstanding (IsShowOf o.before.nr c.nr) (desk_of s o.before.proc) ⊎ (is_some o.before.dead_by ≡ true) → IsOutstanding (IsShowOf d.nr c.nr) (desk_of t d.proc) ⊎ (is_some d.dead_by ≡ true)
      by_way (inl is) = by_told (told_or_not (IsShowOf o.before.nr c.nr) o.before.proc is)
      by_way (inr dead) = inr (o.dead dead)

  pub delivered_ways : IsNoDeath s event actor homes first → AreOnTheirWay t
  delivered_ways no_death =
      let were = documents_were first refl no_death in
      let waited = places_waited first refl no_death in
      record { comes = comes_then waited were; made = made_then were }
