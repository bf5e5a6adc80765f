-- What is on its way stays so from row to row, or begins, or is told of.
use Rattle.std.proofs.Common.{◌≡◌, ◌⊎◌, inl, inr, ℕ, Bool, true, false, cond, ◌==◌, List, [], ◌∷◌, ◌++◌, map, Option, Some, None, refl, sym, ap, ◌∙◌, subst}
use Rattle.std.specs.Prelude.{find, is_some, option_map, slice_get}
use Rattle.std.proofs.lemmas.Bool.{eqb-true}
use Rattle.tab_ids.specs.declared.DocId.{DocId}
use Rattle.tab_ids.specs.declared.EntryId.{EntryId}
use Rattle.tab_ids.specs.declared.Epoch.{Epoch}
use Rattle.tab_ids.specs.declared.NavId.{NavId}
use Rattle.tab_ids.specs.declared.ProcId.{ProcId}
use Rattle.tab_ids.specs.declared.StateId.{StateId}
use Rattle.log_model.specs.declared.job.Job.{Job}
use Rattle.log_model.specs.declared.job.Order.{Order}
use Rattle.log_model.specs.declared.job.Task.{Task}
use Rattle.log_model.specs.declared.job.Task.TheVariants as tasks
use Rattle.log_model.specs.declared.made.Made.{Made}
use Rattle.log_model.specs.declared.outcome.Outcome.{Outcome}
use Rattle.log_model.specs.declared.outcome.Outcome.TheVariants as outcomes
use Rattle.log_model.specs.declared.row_kind.Actor.{Actor}
use Rattle.log_model.specs.declared.row_kind.RowKind.{RowKind}
use Rattle.log_model.specs.declared.row_kind.RowKind.TheVariants as rows
use Rattle.log_model.specs.After.{after, follows_finished, desk_taken, desk_finished, desk_made}
use Rattle.log_model.specs.AfterDocuments.{addressed, new_document, task_in_hand, view_finished}
use Rattle.log_model.specs.AfterPlaces.{put_to_sleep, sleepers_with, activated}
use Rattle.log_model.specs.History.{has_nav}
use Rattle.log_model.specs.Orders.{is_being_made}
use Rattle.log_model.specs.Seen.{Seen, Document, Desk, Place, awake, asleep, document_of, desk_of, place_in, place_of}
use Rattle.log_model.specs.Views.{View, after_made}
use Rattle.seen_facts.proofs.Coord.Unread.{DesksLeft}
use Rattle.seen_laws.proofs.Desks.{desk_on_same}
use Rattle.seen_laws.proofs.Keyed.{find_map}
use Rattle.seen_facts.proofs.Hang.Members.{find_has}
use Rattle.seen_facts.proofs.Walk.Sleepers.{sleepers_of, slept, becomes, place_becomes}
use Rattle.seen_facts.specs.Transit.Orders.{IsOutcomeOf, IsOutstanding, IsShowOf, IsMakeOf}
use Rattle.seen_facts.specs.Transit.Waiting.{Comes, EachComes, IsOnItsMaking, EachIsMade, AreOnTheirWay}
use Rattle.seen_facts.proofs.Transit.Desks.{mailed_outstanding, mailed_itself, taken_outstanding, finished_outstanding, made_outstanding}
use Rattle.seen_facts.proofs.Transit.Again.{WaitedSo, AllWaited, WasDocument, AllWere, AllOutstand, still_comes, still_making, made_again, ways_again, one_desk, inputs_left, KeepsDocument, all_were, same_documents, keeps_at, same_places}

abbrev mailed : Job → Desk → Desk
mailed job desk = record desk { mail = desk.mail ++ job ∷ [] }

-- a document whose state as made or not, and as dead, doesn't change
alike : (g : Document → Document) → ((d : Document) → (g d).nr ≡ d.nr) → ((d : Document) → (g d).proc ≡ d.proc) → ((d : Document) → (g d).dead_by ≡ d.dead_by) → ((d : Document) → is_being_made (g d) ≡ is_being_made d) → KeepsDocument g
alike g nr proc dead made =
    record { nr = nr; proc = proc; dead = λ d e. ap (λ o. is_some o) (dead d) ∙ e; unmade = λ d e. sym (made d) ∙ e }

module _ (s : Seen) (event : ℕ) (actor : Actor) (ways : AreOnTheirWay s) where
  abbrev pub then_ : RowKind → Seen
  then_ kind = after s (record { event = event; actor = actor; row = kind })

  -- ---- rows that change inputs alone

  pub left_ways : (kind : RowKind) → DesksLeft s (then_ kind) → (then_ kind).documents ≡ s.documents → (then_ kind).places ≡ s.places → AreOnTheirWay (then_ kind)
  left_ways kind left documents places =
      ways_again s (then_ kind) (inputs_left s (then_ kind) left) (same_places s (then_ kind) places) (same_documents s (then_ kind) documents) ways

  -- ---- what processes do

  pub taken_ways : (proc : ProcId) (job : Job) (dirty : Bool) → (desk_of s proc).in_hand ≡ None → slice_get (desk_of s proc).mail 0 ≡ Some job → AreOnTheirWay (then_ (rows.Taken proc job.nr true dirty))
  taken_ways proc job dirty free first =
      ways_again s (then_ (rows.Taken proc job.nr true dirty)) (one_desk s (then_ (rows.Taken proc job.nr true dirty)) proc (desk_taken true dirty) refl (λ desk. refl) (λ P. taken_outstanding P (desk_of s proc) job dirty free first)) (same_places s (then_ (rows.Taken proc job.nr true dirty)) refl) (same_documents s (then_ (rows.Taken proc job.nr true dirty)) refl) ways

  pub finished_ways : (proc : ProcId) (order : Order) (outcome : Outcome) → (desk_of s proc).in_hand ≡ Some order → IsOutcomeOf order.job.task outcome → AreOnTheirWay (then_ (rows.Finished proc order.job.nr outcome))
  finished_ways proc order outcome in_ fits =
      ways_again s (then_ (rows.Finished proc order.job.nr outcome)) (one_desk s (then_ (rows.Finished proc order.job.nr outcome)) proc (desk_finished outcome) refl (λ desk. refl) (λ P. finished_outstanding P (desk_of s proc) order outcome in_ fits)) (same_places s (then_ (rows.Finished proc order.job.nr outcome)) refl) were ways
    where
      viewed : Document → Document
      viewed d = cond (d.nr.0 == order.job.doc.0) (record d { view = view_finished d order.job.task }) d

      slotted : Option ℕ → Document → Document
      slotted slot d = cond (d.nr.0 == order.job.doc.0) (record d { slot = slot }) d

      views : KeepsDocument viewed
      views = keeps_at order.job.doc (λ d. record d { view = view_finished d order.job.task }) (alike (λ d. record d { view = view_finished d order.job.task }) (λ d. refl) (λ d. refl) (λ d. refl) (λ d. refl))

      slots : (slot : Option ℕ) → KeepsDocument (slotted slot)
      slots slot = keeps_at order.job.doc (λ d. record d { slot = slot }) (alike (λ d. record d { slot = slot }) (λ d. refl) (λ d. refl) (λ d. refl) (λ d. refl))

      both : (f g : Document → Document) → KeepsDocument f → KeepsDocument g → KeepsDocument (λ (d : Document). g (f d))
      both f g one two =
          record { nr = λ d. two.nr (f d) ∙ one.nr d; proc = λ d. two.proc (f d) ∙ one.proc d; dead = λ d e. two.dead (f d) (one.dead d e); unmade = λ d e. one.unmade d (two.unmade (f d) e) }

      map_both : (f g : Document → Document) (xs : List Document) → map g (map f xs) ≡ map (λ (x : Document). g (f x)) xs
      map_both f g [] = refl
      map_both f g (x ∷ xs) = ap (λ l. g (f x) ∷ l) (map_both f g xs)

      job_is : task_in_hand s proc ≡ Some order.job
      job_is = ap (λ (o : Option Order). option_map (λ (x : Order). x.job) o) in_

      by_outcome : (u : Outcome) → outcome ≡ u → AllWere s (then_ (rows.Finished proc order.job.nr outcome))
      by_outcome (outcomes.Populated slot) e =
          all_were s (then_ (rows.Finished proc order.job.nr outcome)) (λ (d : Document). slotted slot (viewed d)) (both viewed (slotted slot) views (slots slot)) (rw (job_is, e) (map_both viewed (slotted slot) s.documents))
      by_outcome outcomes.Activated e = all_were s (then_ (rows.Finished proc order.job.nr outcome)) viewed views (rw (job_is, e) refl)
      by_outcome outcomes.Updated e = all_were s (then_ (rows.Finished proc order.job.nr outcome)) viewed views (rw (job_is, e) refl)
      by_outcome outcomes.Frozen e = all_were s (then_ (rows.Finished proc order.job.nr outcome)) viewed views (rw (job_is, e) refl)
      by_outcome outcomes.Discarded e = all_were s (then_ (rows.Finished proc order.job.nr outcome)) viewed views (rw (job_is, e) refl)
      by_outcome (outcomes.Asked verdict) e = all_were s (then_ (rows.Finished proc order.job.nr outcome)) viewed views (rw (job_is, e) refl)
      by_outcome outcomes.Fragmented e = all_were s (then_ (rows.Finished proc order.job.nr outcome)) viewed views (rw (job_is, e) refl)

      were : AllWere s (then_ (rows.Finished proc order.job.nr outcome))
      were = by_outcome outcome refl

  -- made of a poke
  pub made_ways : (proc : ProcId) (made : Made) → follows_finished s (record { event = event; actor = actor; row = rows.Made proc made }) ≡ false → AreOnTheirWay (then_ (rows.Made proc made))
  made_ways proc made apart =
      ways_again s (then_ (rows.Made proc made)) (one_desk s (then_ (rows.Made proc made)) proc (desk_made made) (rw apart refl) (λ desk. refl) (λ P. made_outstanding P (desk_of s proc) made)) (same_places s (then_ (rows.Made proc made)) refl) (all_were s (then_ (rows.Made proc made)) _ (keeps_at made.doc (λ d. record d { view = option_map (λ (view : View). after_made view made.what) d.view }) (alike (λ d. record d { view = option_map (λ (view : View). after_made view made.what) d.view }) (λ d. refl) (λ d. refl) (λ d. refl) (λ d. refl))) refl) ways

  -- ---- orders

  sent_desks : (job : Job) → AllOutstand s (then_ (rows.Sent job))
  sent_desks job = one_desk s (then_ (rows.Sent job)) job.proc (mailed job) refl (λ desk. refl) (λ P. mailed_outstanding P (desk_of s job.proc) job)

  -- its mail has it then
  sent_itself : (job : Job) (P : Job → Type 0) → P job → IsOutstanding P (desk_of (then_ (rows.Sent job)) job.proc)
  sent_itself job P is =
      subst (λ (d : Desk). IsOutstanding P d) (sym now) (mailed_itself P (desk_of s job.proc) job is)
    where
      now : desk_of (then_ (rows.Sent job)) job.proc ≡ mailed job (desk_of s job.proc)
      now = desk_on_same (mailed job) s.desks job.proc (λ desk. refl)

  abbrev pub IsTelling : Task → Type 0
  IsTelling (tasks.Update length index) = Unit {0}
  IsTelling (tasks.Ask slot cause) = Unit {0}
  IsTelling (tasks.DoFragment req mode address) = Unit {0}
  IsTelling _ = ⊥

  told_alike : (task : Task) → KeepsDocument (addressed task)
  told_alike task = alike (addressed task) (λ d. refl) (λ d. refl) (λ d. refl) (λ d. refl)

  pub told_ways : (job : Job) (task : Task) → job.task ≡ task → IsTelling task → AreOnTheirWay (then_ (rows.Sent job))
  told_ways job (tasks.Update length index) is tells =
      ways_again s (then_ (rows.Sent job)) (sent_desks job) (same_places s (then_ (rows.Sent job)) (rw is refl)) (all_were s (then_ (rows.Sent job)) _ (keeps_at job.doc (addressed (tasks.Update length index)) (told_alike (tasks.Update length index))) (rw is refl)) ways
  told_ways job (tasks.Ask slot cause) is tells =
      ways_again s (then_ (rows.Sent job)) (sent_desks job) (same_places s (then_ (rows.Sent job)) (rw is refl)) (all_were s (then_ (rows.Sent job)) _ (keeps_at job.doc (addressed (tasks.Ask slot cause)) (told_alike (tasks.Ask slot cause))) (rw is refl)) ways
  told_ways job (tasks.DoFragment req mode address) is tells =
      ways_again s (then_ (rows.Sent job)) (sent_desks job) (same_places s (then_ (rows.Sent job)) (rw is refl)) (all_were s (then_ (rows.Sent job)) _ (keeps_at job.doc (addressed (tasks.DoFragment req mode address)) (told_alike (tasks.DoFragment req mode address))) (rw is refl)) ways
  told_ways job (tasks.Populate nav state address initial) is never = absurd never
  told_ways job (tasks.Activate entry epoch length index memo address) is never = absurd never
  told_ways job tasks.Freeze is never = absurd never
  told_ways job tasks.Discard is never = absurd never

  -- a document is frozen or discarded: some fall asleep
  asleep_waited : (job : Job) → (then_ (rows.Sent job)).places ≡ put_to_sleep (sleepers_with s job.doc) job.why s.places → AllWaited s (then_ (rows.Sent job))
  asleep_waited job places nav place doc there wakes late = by_old (place_of s nav) refl
    where
      slept_ : Place → Place
      slept_ p = cond (has_nav (sleepers_with s job.doc) p.nav) (record p { status = asleep; why = job.why }) p

      number : (p : Place) (b : Bool) → (let q : Place = cond b (record p { status = asleep; why = job.why }) p in q).nav.0 ≡ p.nav.0
      number p true = refl
      number p false = refl

      now : place_of (then_ (rows.Sent job)) nav ≡ option_map slept_ (place_of s nav)
      now = ap (λ (l : List Place). place_in l nav) places ∙ find_map (λ (p : Place). p.nav.0) slept_ nav.0 s.places (λ p. number p (has_nav (sleepers_with s job.doc) p.nav))

      by_test : (p : Place) → place_of s nav ≡ Some p → (b : Bool) → cond b (record p { status = asleep; why = job.why }) p ≡ place → WaitedSo s nav place
      by_test p e true same = let no_ : asleep ≡ awake doc = ap (λ (q : Place). q.status) same ∙ wakes in cc
      by_test p e false same = record { before = place; there = e ∙ ap (λ (q : Place). Some q) same; status = refl; late = late; last_job = refl }

      by_old : (o : Option Place) → place_of s nav ≡ o → WaitedSo s nav place
      by_old None e = let no_ : None ≡ Some place = sym (now ∙ ap (λ (o : Option Place). option_map slept_ o) e) ∙ there in cc
      by_old (Some p) e =
          let both : Some (slept_ p) ≡ Some place = sym (now ∙ ap (λ (o : Option Place). option_map slept_ o) e) ∙ there in
          by_test p e (has_nav (sleepers_with s job.doc) p.nav) (let same : slept_ p ≡ place = cc in same)

  pub frozen_ways : (job : Job) → job.task ≡ tasks.Freeze → AreOnTheirWay (then_ (rows.Sent job))
  frozen_ways job is =
      ways_again s (then_ (rows.Sent job)) (sent_desks job) (asleep_waited job (rw is refl)) (all_were s (then_ (rows.Sent job)) _ (keeps_at job.doc (addressed tasks.Freeze) (told_alike tasks.Freeze)) (rw is refl)) ways

  pub discarded_ways : (job : Job) → job.task ≡ tasks.Discard → AreOnTheirWay (then_ (rows.Sent job))
  discarded_ways job is =
      ways_again s (then_ (rows.Sent job)) (sent_desks job) (asleep_waited job (rw is refl)) (all_were s (then_ (rows.Sent job)) _ (keeps_at job.doc (λ d. record d { is_discarded = true }) (alike (λ d. record d { is_discarded = true }) (λ d. refl) (λ d. refl) (λ d. refl) (λ d. refl))) (rw is refl)) ways

  -- a document is to be made: its order is outstanding
  module _ (job : Job) (nav : NavId) (state : StateId) (address : List ℕ) (initial : Bool) (task : job.task ≡ tasks.Populate nav state address initial) (none : (d : Document) → document_of s job.doc ≡ Some d → ⊥) where
    new : Document
    new = new_document s job nav state

    documents : (then_ (rows.Sent job)).documents ≡ s.documents ++ new_document s job nav state ∷ []
    documents = rw task refl

    places : (then_ (rows.Sent job)).places ≡ s.places
    places = rw task refl

    last_document : (l : List Document) (doc : DocId) (d : Document) → find (λ (x : Document). x.nr.0 == doc.0) (l ++ new_document s job nav state ∷ []) ≡ Some d → (find (λ (x : Document). x.nr.0 == doc.0) l ≡ Some d) ⊎ ((new_document s job nav state ≡ d) × ((job.doc.0 == doc.0) ≡ true))
    last_document [] doc d found = by_test (job.doc.0 == doc.0) refl found
      where
        by_test : (b : Bool) → (job.doc.0 == doc.0) ≡ b → cond b (Some (new_document s job nav state)) None ≡ Some d → (None ≡ Some d) ⊎ ((new_document s job nav state ≡ d) × ((job.doc.0 == doc.0) ≡ true))
        by_test true e h = inr (let same : new_document s job nav state ≡ d = cc in same, e)
        by_test false e h = cc
    last_document (x ∷ l) doc d found = by_test (x.nr.0 == doc.0) (last_document l doc d) found
      where
        by_test : (b : Bool) → (find (λ (y : Document). y.nr.0 == doc.0) (l ++ new_document s job nav state ∷ []) ≡ Some d → (find (λ (y : Document). y.nr.0 == doc.0) l ≡ Some d) ⊎ ((new_document s job nav state ≡ d) × ((job.doc.0 == doc.0) ≡ true))) → cond b (Some x) (find (λ (y : Document). y.nr.0 == doc.0) (l ++ new_document s job nav state ∷ [])) ≡ Some d → (cond b (Some x) (find (λ (y : Document). y.nr.0 == doc.0) l) ≡ Some d) ⊎ ((new_document s job nav state ≡ d) × ((job.doc.0 == doc.0) ≡ true))
        by_test true rest h = inl h
        by_test false rest h = rest h

    old_or_new : (doc : DocId) (d : Document) → document_of (then_ (rows.Sent job)) doc ≡ Some d → (document_of s doc ≡ Some d) ⊎ ((new_document s job nav state ≡ d) × ((job.doc.0 == doc.0) ≡ true))
    old_or_new doc d found = last_document s.documents doc d (ap (λ (l : List Document). find (λ (x : Document). x.nr.0 == doc.0) l) (sym documents) ∙ found)

    its_making : IsMakeOf job.doc job
    its_making = subst (λ (t : Task). IsMakeOf job.doc (record job { task = t })) (sym task) refl

    pub making_ways : ((nav : NavId) (place : Place) → place_of s nav ≡ Some place → place.status ≡ awake job.doc → ⊥) → AreOnTheirWay (then_ (rows.Sent job))
    making_ways unused =
        record { comes = comes; made = made }
      where
        comes : EachComes (then_ (rows.Sent job))
        comes n place doc d there wakes found late = by_case (old_or_new doc d found)
          where
            was : place_of s n ≡ Some place
            was = ap (λ (l : List Place). place_in l n) (sym places) ∙ there

            by_case : (document_of s doc ≡ Some d) ⊎ ((new_document s job nav state ≡ d) × ((job.doc.0 == doc.0) ≡ true)) → Comes (desk_of (then_ (rows.Sent job)) d.proc) d place
            by_case (inl old) = still_comes s (then_ (rows.Sent job)) (sent_desks job) d d place place refl refl (λ e. e) refl (ways.comes n place doc d was wakes old late)
            by_case (inr is) =
                let number : job.doc.0 ≡ doc.0 = eqb-true job.doc.0 doc.0 is.1 in
                let same : doc ≡ job.doc = ap (λ (k : ℕ). let x : DocId = record { 0 = k } in x) (sym number) in
                absurd (unused n place was (wakes ∙ ap awake same))

        made : EachIsMade (then_ (rows.Sent job))
        made doc d found making = by_case (old_or_new doc d found)
          where
            by_case : (document_of s doc ≡ Some d) ⊎ ((new_document s job nav state ≡ d) × ((job.doc.0 == doc.0) ≡ true)) → IsOnItsMaking (desk_of (then_ (rows.Sent job)) d.proc) d
            by_case (inl old) = still_making s (then_ (rows.Sent job)) (sent_desks job) d d refl refl (λ e. e) (ways.made doc d old making)
            by_case (inr is) =
                subst (λ (x : Document). IsOnItsMaking (desk_of (then_ (rows.Sent job)) x.proc) x) is.0 (inl (sent_itself job (IsMakeOf job.doc) its_making))

  -- a navigable is shown a document: the order is outstanding
  module _ (job : Job) (d : Document) (entry : EntryId) (epoch : Epoch) (long at : ℕ) (memo : Option (List ℕ)) (address : List ℕ) (task : job.task ≡ tasks.Activate entry epoch long at memo address) (found : document_of s job.doc ≡ Some d) (home : d.proc ≡ job.proc) where
    were : AllWere s (then_ (rows.Sent job))
    were = all_were s (then_ (rows.Sent job)) _ (keeps_at job.doc (addressed (tasks.Activate entry epoch long at memo address)) (told_alike (tasks.Activate entry epoch long at memo address))) (rw task refl)

    its_show : IsShowOf job.doc job.nr job
    its_show = subst (λ (t : Task). IsShowOf job.doc job.nr (record job { task = t })) (sym task) (refl, refl)

    pub shown_ways : AreOnTheirWay (then_ (rows.Sent job))
    shown_ways = record { comes = comes; made = made_again s (then_ (rows.Sent job)) (sent_desks job) were ways.made }
      where
        comes : EachComes (then_ (rows.Sent job))
        comes nav place doc x there wakes at_ late = by_old (place_of s nav) refl
          where
            be : Place → Place
            be = becomes s event actor job d entry epoch long at memo address task found

            now : place_of (then_ (rows.Sent job)) nav ≡ option_map be (place_of s nav)
            now = place_becomes s event actor job d entry epoch long at memo address task found nav

            own : (p : Place) → activated job entry epoch d p ≡ place → Comes (desk_of (then_ (rows.Sent job)) x.proc) x place
            own p same =
                let docs : awake job.doc ≡ awake doc = ap (λ (q : Place). q.status) same ∙ wakes in
                let doc_is : job.doc ≡ doc = cc in
                let w : WasDocument s doc x = were doc x at_ in
                let both : Some d ≡ Some w.before = sym found ∙ ap (document_of s) doc_is ∙ w.there in
                let one : d ≡ w.before = cc in
                let proc_is : job.proc ≡ x.proc = sym home ∙ ap (λ (y : Document). y.proc) one ∙ w.proc in
                let nr_is : job.doc ≡ x.nr = (let n : d.nr ≡ job.doc = (let number : d.nr.0 ≡ job.doc.0 = eqb-true d.nr.0 job.doc.0 (find_has (λ (y : Document). y.nr.0 == job.doc.0) s.documents d found).1 in ap (λ (k : ℕ). let z : DocId = record { 0 = k } in z) number) in sym n ∙ ap (λ (y : Document). y.nr) one ∙ w.nr) in
                record {
                  nr = job.nr;
                  last = ap (λ (q : Place). q.last_job) (sym same);
                  waits = inl (subst (λ (p : ProcId). IsOutstanding (IsShowOf x.nr job.nr) (desk_of (then_ (rows.Sent job)) p)) proc_is (subst (λ (n : DocId). IsOutstanding (IsShowOf n job.nr) (desk_of (then_ (rows.Sent job)) job.proc)) nr_is (sent_itself job (IsShowOf job.doc job.nr) its_show)));
                }

            other : (p : Place) → place_of s nav ≡ Some p → (b : Bool) → has_nav (sleepers_of s job.doc d.nav) p.nav ≡ b → cond b (record p { status = asleep; why = job.why }) p ≡ place → Comes (desk_of (then_ (rows.Sent job)) x.proc) x place
            other p e true is same = let no_ : asleep ≡ awake doc = ap (λ (q : Place). q.status) same ∙ wakes in cc
            other p e false is same =
                let w : WasDocument s doc x = were doc x at_ in
                still_comes s (then_ (rows.Sent job)) (sent_desks job) w.before x place place w.nr w.proc w.dead refl (ways.comes nav place doc w.before (e ∙ ap (λ (q : Place). Some q) same) wakes w.there late)

            by_nav : (p : Place) → place_of s nav ≡ Some p → (b : Bool) → ((slept (sleepers_of s job.doc d.nav) job.why p).nav.0 == d.nav.0) ≡ b → be p ≡ place → Comes (desk_of (then_ (rows.Sent job)) x.proc) x place
            by_nav p e true is same =
                let value : be p ≡ activated job entry epoch d (slept (sleepers_of s job.doc d.nav) job.why p) = rw is refl in
                own (slept (sleepers_of s job.doc d.nav) job.why p) (sym value ∙ same)
            by_nav p e false is same =
                let value : be p ≡ slept (sleepers_of s job.doc d.nav) job.why p = rw is refl in
                other p e (has_nav (sleepers_of s job.doc d.nav) p.nav) refl (sym value ∙ same)

            by_old : (o : Option Place) → place_of s nav ≡ o → Comes (desk_of (then_ (rows.Sent job)) x.proc) x place
            by_old None e = let no_ : None ≡ Some place = sym (now ∙ ap (λ (o : Option Place). option_map be o) e) ∙ there in cc
            by_old (Some p) e =
                let both : Some (be p) ≡ Some place = sym (now ∙ ap (λ (o : Option Place). option_map be o) e) ∙ there in
                by_nav p e ((slept (sleepers_of s job.doc d.nav) job.why p).nav.0 == d.nav.0) refl (let same : be p ≡ place = cc in same)
