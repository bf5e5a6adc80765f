-- Documents rest as an order is sent, but for the same ones and those that are left: it makes, tells, asks, freezes, discards or shows a document.
use Rattle.std.proofs.Common.{◌≡◌, ◌⊎◌, inl, inr, ℕ, Bool, true, false, cond, ◌||◌, ◌==◌, List, [], ◌∷◌, ◌++◌, length, Option, Some, None, refl, sym, ap, ◌∙◌, subst}
use Rattle.std.specs.Prelude.{find, option_map}
use Rattle.tab_ids.specs.declared.DocId.{DocId}
use Rattle.tab_ids.specs.declared.EntryId.{EntryId}
use Rattle.tab_ids.specs.declared.Epoch.{Epoch}
use Rattle.tab_ids.specs.declared.NavId.{NavId}
use Rattle.tab_ids.specs.declared.ProcId.{ProcId}
use Rattle.tab_ids.specs.declared.StateId.{StateId}
use Rattle.log_model.specs.declared.job.Job.{Job}
use Rattle.log_model.specs.declared.job.Task.{Task}
use Rattle.log_model.specs.declared.job.Task.TheVariants as tasks
use Rattle.log_model.specs.declared.row_kind.Actor.{Actor}
use Rattle.log_model.specs.declared.row_kind.RowKind.TheVariants as rows
use Rattle.log_model.specs.After.{after}
use Rattle.log_model.specs.AfterDocuments.{addressed, documents_sent, new_document, on_document}
use Rattle.log_model.specs.AfterPlaces.{activated, places_sent, put_to_sleep, sleepers_with, without_doc}
use Rattle.log_model.specs.Equal.{has_doc}
use Rattle.log_model.specs.History.{has_nav}
use Rattle.log_model.specs.Seen.{Desk, Document, Place, Seen, asleep, awake, desk_of, document_of, place_in, place_of}
use Rattle.log_model.proofs.Refl.{nat_eq_refl}
use Rattle.seen_facts.specs.Coord.Leading.{is_live_order}
use Rattle.seen_facts.proofs.Coord.Kept.{IsSentHome, is_mine}
use Rattle.seen_facts.proofs.Coord.Leadings.{proc_same}
use Rattle.seen_facts.proofs.Coord.OneDocument.{mailed}
use Rattle.seen_laws.proofs.Desks.{desk_on_other, desk_on_same}
use Rattle.seen_laws.proofs.Keyed.{find_map}
use Rattle.seen_facts.proofs.Hang.Forms.{nav_is}
use Rattle.seen_facts.proofs.Walk.Placed.{found_nav}
use Rattle.seen_facts.proofs.Walk.Sleepers.{becomes, place_becomes, sleepers_of, slept, slept_same}
use Rattle.seen_facts.specs.Rest.Resting.{IsUnshown, is_resting, run_after, will_run}
use Rattle.seen_facts.proofs.Rest.Again.{its_number, WasOf, same_shown, unshown_before, was_of}
use Rattle.seen_facts.proofs.Rest.Running.{mailed_run_other, mailed_run_own}
use Rattle.row_facts.specs.RestRows.Left.{left_below, left_for, shown_by}
use Rattle.row_facts.specs.RestRows.Moving.{RestBut}
use Rattle.row_facts.proofs.RestRows.Again.{doc_same, part_both, part_first, part_last, part_without, rest_more, stays_without, turned}
use Rattle.row_facts.proofs.RestRows.Lefts.{left_has}

-- an order that tells a document something, or asks it
abbrev pub OnlyTells : Task → Type 0
OnlyTells (tasks.Update length index) = Unit {0}
OnlyTells (tasks.Ask slot cause) = Unit {0}
OnlyTells (tasks.DoFragment req mode address) = Unit {0}
OnlyTells _ = ⊥

-- the documents of the list but this one are in the other list
abbrev pub OthersPart : DocId → List DocId → List DocId → Type 0
OthersPart own docs docs_ =
    (doc : DocId) → (doc.0 == own.0) ≡ false → has_doc docs doc ≡ true → has_doc docs_ doc ≡ true

-- who was shown, but on this document, and then isn't, is among these
abbrev pub OthersLeft : Seen → Seen → DocId → List DocId → Type 0
OthersLeft s t own docs_ =
    (nav : NavId) (place : Place) (doc : DocId) → place_of s nav ≡ Some place → place.status ≡ awake doc → (doc.0 == own.0) ≡ false → IsUnshown t doc → has_doc docs_ doc ≡ true

-- what these navigables are awake on, but this document, is among these
abbrev pub OthersOf : Seen → List NavId → DocId → List DocId → Type 0
OthersOf s navs own docs_ =
    (nav : NavId) (place : Place) (doc : DocId) → place_of s nav ≡ Some place → place.status ≡ awake doc → has_nav navs place.nav ≡ true → (doc.0 == own.0) ≡ false → has_doc docs_ doc ≡ true

-- who is frozen doesn't run
frozen_resting : (o : Option Bool) → is_resting (option_map (λ (b : Bool). false) o) ≡ true
frozen_resting None = refl
frozen_resting (Some b) = refl

module _ (s : Seen) (event : ℕ) (actor : Actor) (docs : List DocId) (rest : RestBut docs s) (job : Job) (sent : IsSentHome s job) where
  abbrev pub t : Seen
  t = after s (record { event = event; actor = actor; row = rows.Sent job })

  desk_then : desk_of t job.proc ≡ mailed job (desk_of s job.proc)
  desk_then = desk_on_same (mailed job) s.desks job.proc (λ desk. refl)

  -- another document's orders stay
  run_other : (d : Document) → (job.doc.0 == d.nr.0) ≡ false → will_run (desk_of t d.proc) d ≡ will_run (desk_of s d.proc) d
  run_other d other = by_process (job.proc.0 == d.proc.0) refl
    where
      by_process : (b : Bool) → (job.proc.0 == d.proc.0) ≡ b → will_run (desk_of t d.proc) d ≡ will_run (desk_of s d.proc) d
      by_process true e =
          let same : job.proc ≡ d.proc = proc_same job.proc d.proc e in
          subst (λ (p : ProcId). will_run (desk_of t p) d ≡ will_run (desk_of s p) d) same (ap (λ (x : Desk). will_run x d) desk_then ∙ mailed_run_other (desk_of s job.proc) job d other)
      by_process false e = ap (λ (x : Desk). will_run x d) (desk_on_other (mailed job) s.desks job.proc d.proc (λ desk. refl) e)

  -- the order's document has one more
  run_own : (d new : Document) → document_of s job.doc ≡ Some d → new.nr ≡ d.nr → new.view ≡ d.view → new.proc ≡ d.proc → will_run (desk_of t new.proc) new ≡ run_after (will_run (desk_of s d.proc) d) job.task
  run_own d new found nr view proc =
      let home : d.proc ≡ job.proc = sent.home d found in
      let number : d.nr ≡ job.doc = its_number s job.doc d found in
      let lives : is_live_order d.nr (length (desk_of s job.proc).killed) job ≡ true = is_mine d.nr (length (desk_of s job.proc).killed) job (ap (λ (n : DocId). n.0) (sym number)) sent.lives in
      ap (λ (p : ProcId). will_run (desk_of t p) new) (proc ∙ home)
      ∙ ap (λ (x : Desk). will_run x new) desk_then
      ∙ mailed_run_own (desk_of s job.proc) job d new lives nr view
      ∙ ap (λ (p : ProcId). run_after (will_run (desk_of s p) d) job.task) (sym home)

  -- an order changes its document so, but for number, view and process
  record KeepsView (f : Document → Document) : Type 0 where
    nr : (d : Document) → (f d).nr ≡ d.nr
    view : (d : Document) → (f d).view ≡ d.view
    proc : (d : Document) → (f d).proc ≡ d.proc

  module _ (f : Document → Document) (keeps : KeepsView f) (documents : t.documents ≡ on_document job.doc f s.documents) (docs_ : List DocId) where
    abbrev at_doc : Document → Document
    at_doc d = cond (d.nr.0 == job.doc.0) (f d) d

    at_nr : (d : Document) → (at_doc d).nr ≡ d.nr
    at_nr d = elim (d.nr.0 == job.doc.0) as (λ b. (let x : Document = cond b (f d) d in x).nr ≡ d.nr) [ true ↦ keeps.nr d | false ↦ refl ]

    -- its document rests then, and who is left is among the new list
    sent_rests : ((d : Document) → document_of s job.doc ≡ Some d → IsUnshown t job.doc → has_doc docs_ job.doc ≡ false → is_resting (run_after (will_run (desk_of s d.proc) d) job.task) ≡ true) → OthersLeft s t job.doc docs_ → OthersPart job.doc docs docs_ → RestBut docs_ t
    sent_rests own left part doc d found unshown apart = by_was w.before w.there w.is (w.before.nr.0 == job.doc.0) refl
      where
        w : WasOf s at_doc doc d
        w = was_of s t at_doc at_nr documents doc d found

        by_was : (before : Document) → document_of s doc ≡ Some before → at_doc before ≡ d → (b : Bool) → (before.nr.0 == job.doc.0) ≡ b → is_resting (will_run (desk_of t d.proc) d) ≡ true
        by_was before there is true e =
            let same : doc ≡ job.doc = sym (its_number s doc before there) ∙ doc_same before.nr job.doc e in
            let at_ : document_of s job.doc ≡ Some before = ap (document_of s) (sym same) ∙ there in
            let new : f before ≡ d = ap (λ (b : Bool). cond b (f before) before) (sym e) ∙ is in
            ap (λ (x : Document). is_resting (will_run (desk_of t x.proc) x)) (sym new)
            ∙ ap is_resting (run_own before (f before) at_ (keeps.nr before) (keeps.view before) (keeps.proc before))
            ∙ own before at_ (subst (λ (n : DocId). IsUnshown t n) same unshown) (ap (has_doc docs_) (sym same) ∙ apart)
        by_was before there is false e =
            let one : before ≡ d = ap (λ (b : Bool). cond b (f before) before) (sym e) ∙ is in
            let other : (doc.0 == job.doc.0) ≡ false = ap (λ (n : DocId). n.0 == job.doc.0) (sym (its_number s doc before there)) ∙ e in
            ap (λ (x : Document). is_resting (will_run (desk_of t x.proc) x)) (sym one)
            ∙ ap is_resting (run_other before (turned before.nr job.doc e)) ∙ rest doc before there (was other) (unlisted other (has_doc docs doc) refl)
          where
            was : (doc.0 == job.doc.0) ≡ false → IsUnshown s doc
            was other nav place placed wakes =
                let no_ : true ≡ false = sym (left nav place doc placed wakes other unshown) ∙ apart in cc

            unlisted : (doc.0 == job.doc.0) ≡ false → (b : Bool) → has_doc docs doc ≡ b → has_doc docs doc ≡ false
            unlisted other false h = h
            unlisted other true h = let no_ : true ≡ false = sym (part doc other h) ∙ apart in cc

  addressed_keeps : (task : Task) → KeepsView (addressed task)
  addressed_keeps task = record { nr = λ d. refl; view = λ d. refl; proc = λ d. refl }

  -- ---- it tells, asks, or is a fragment navigation

  told_so : (task : Task) → job.task ≡ task → documents_sent s job task ≡ on_document job.doc (addressed task) s.documents → places_sent s job task ≡ s.places → ((runs : Option Bool) → run_after runs task ≡ runs) → RestBut docs t
  told_so task is documents places tells =
      sent_rests (addressed task) (addressed_keeps task) (ap (documents_sent s job) is ∙ documents) docs
      (λ d found unshown apart. ap (λ (k : Task). is_resting (run_after (will_run (desk_of s d.proc) d) k)) is ∙ ap is_resting (tells (will_run (desk_of s d.proc) d)) ∙ rest job.doc d found (was job.doc unshown) apart)
      (λ nav place doc placed wakes other unshown. absurd (was doc unshown nav place placed wakes))
      (λ doc other has. has)
    where
      was : (doc : DocId) → IsUnshown t doc → IsUnshown s doc
      was doc = unshown_before s t (same_shown s t (ap (places_sent s job) is ∙ places)) doc

  pub told_rests : OnlyTells job.task → RestBut docs t
  told_rests tells = by_task job.task refl tells
    where
      by_task : (task : Task) → job.task ≡ task → OnlyTells task → RestBut docs t
      by_task (tasks.Update length index) is tells_ = told_so (tasks.Update length index) is refl refl (λ runs. refl)
      by_task (tasks.Ask slot cause) is tells_ = told_so (tasks.Ask slot cause) is refl refl (λ runs. refl)
      by_task (tasks.DoFragment req mode address) is tells_ =
          told_so (tasks.DoFragment req mode address) is refl refl (λ runs. refl)
      by_task (tasks.Populate nav state address initial) is never = absurd never
      by_task (tasks.Activate entry epoch length index memo address) is never = absurd never
      by_task tasks.Freeze is never = absurd never
      by_task tasks.Discard is never = absurd never

  -- ---- a document is frozen or discarded

  -- who is awake no more falls asleep with it
  sleeper_left : (docs_ : List DocId) → t.places ≡ put_to_sleep (sleepers_with s job.doc) job.why s.places → OthersOf s (sleepers_with s job.doc) job.doc docs_ → OthersLeft s t job.doc docs_
  sleeper_left docs_ are others nav place doc placed wakes other unshown = by_test (has_nav (sleepers_with s job.doc) place.nav) refl
    where
      sleeps : Place → Place
      sleeps = slept (sleepers_with s job.doc) job.why

      place_then : place_of t nav ≡ Some (sleeps place)
      place_then =
          ap (λ (l : List Place). place_in l nav) are
          ∙ find_map (λ (p : Place). p.nav.0) sleeps nav.0 s.places (λ p. ap (λ (n : NavId). n.0) (slept_same (sleepers_with s job.doc) job.why p).0)
          ∙ ap (λ (o : Option Place). option_map sleeps o) placed

      by_test : (b : Bool) → has_nav (sleepers_with s job.doc) place.nav ≡ b → has_doc docs_ doc ≡ true
      by_test true e = others nav place doc placed wakes e other
      by_test false e =
          let stays : sleeps place ≡ place = ap (λ (b : Bool). cond b (record place { status = asleep; why = job.why }) place) e in
          absurd (unshown nav place (place_then ∙ ap (λ (p : Place). Some p) stays) wakes)

  -- these and those of before, without the order's own
  others_more : (navs : List NavId) → OthersOf s navs job.doc (without_doc job.doc (shown_by navs s.places) ++ without_doc job.doc docs)
  others_more navs nav place doc placed wakes has other =
      part_first (without_doc job.doc (shown_by navs s.places)) (without_doc job.doc docs) doc (left_has navs s.places nav place doc job.doc placed wakes has other)

  part_more : (left : List DocId) → OthersPart job.doc docs (left ++ without_doc job.doc docs)
  part_more left doc other has = part_last left (without_doc job.doc docs) doc (stays_without job.doc docs doc other has)

  -- and the own, if it was among them
  with_own : (left : List DocId) → RestBut (left ++ without_doc job.doc docs) t → RestBut (left ++ docs) t
  with_own left =
      rest_more t (left ++ without_doc job.doc docs) (left ++ docs) (part_both left (without_doc job.doc docs) (left ++ docs) (part_first left docs) (λ doc has. part_last left docs doc (part_without job.doc docs doc has)))

  module _ (task : job.task ≡ tasks.Freeze) where
    -- who is left is among the list
    pub frozen_but : (docs_ : List DocId) → OthersLeft s t job.doc docs_ → OthersPart job.doc docs docs_ → RestBut docs_ t
    frozen_but docs_ left part =
        sent_rests (addressed tasks.Freeze) (addressed_keeps tasks.Freeze) (ap (documents_sent s job) task) docs_
        (λ d found unshown apart. ap (λ (k : Task). is_resting (run_after (will_run (desk_of s d.proc) d) k)) task ∙ frozen_resting (will_run (desk_of s d.proc) d))
        left part

    -- what who falls asleep with it is awake on is
    pub frozen_among : (docs_ : List DocId) → OthersOf s (sleepers_with s job.doc) job.doc docs_ → OthersPart job.doc docs docs_ → RestBut docs_ t
    frozen_among docs_ others part = frozen_but docs_ (sleeper_left docs_ (ap (places_sent s job) task) others) part

    -- the document leaves the list
    pub frozen_less : RestBut (left_below s job.doc ++ without_doc job.doc docs) t
    frozen_less =
        frozen_among (left_below s job.doc ++ without_doc job.doc docs) (others_more (sleepers_with s job.doc)) (part_more (left_below s job.doc))

    pub frozen_rests : RestBut (left_below s job.doc ++ docs) t
    frozen_rests = with_own (left_below s job.doc) frozen_less

  module _ (task : job.task ≡ tasks.Discard) where
    abbrev gone : Document → Document
    gone d = record d { is_discarded = true }

    -- who is left is among the list
    pub discarded_but : (docs_ : List DocId) → OthersLeft s t job.doc docs_ → OthersPart job.doc docs docs_ → RestBut docs_ t
    discarded_but docs_ left part =
        sent_rests gone (record { nr = λ d. refl; view = λ d. refl; proc = λ d. refl }) (ap (documents_sent s job) task) docs_
        (λ d found unshown apart. ap (λ (k : Task). is_resting (run_after (will_run (desk_of s d.proc) d) k)) task)
        left part

    -- what who falls asleep with it is awake on is
    pub discarded_among : (docs_ : List DocId) → OthersOf s (sleepers_with s job.doc) job.doc docs_ → OthersPart job.doc docs docs_ → RestBut docs_ t
    discarded_among docs_ others part = discarded_but docs_ (sleeper_left docs_ (ap (places_sent s job) task) others) part

    -- the document leaves the list
    pub discarded_less : RestBut (left_below s job.doc ++ without_doc job.doc docs) t
    discarded_less =
        discarded_among (left_below s job.doc ++ without_doc job.doc docs) (others_more (sleepers_with s job.doc)) (part_more (left_below s job.doc))

    pub discarded_rests : RestBut (left_below s job.doc ++ docs) t
    discarded_rests = with_own (left_below s job.doc) discarded_less

  -- ---- a navigable is shown the document

  module _ (d : Document) (found : document_of s job.doc ≡ Some d) (entry : EntryId) (epoch : Epoch) (long at : ℕ) (memo : Option (List ℕ)) (address : List ℕ) (task : job.task ≡ tasks.Activate entry epoch long at memo address) (place : Place) (placed : place_of s d.nav ≡ Some place) where
    abbrev show_task : Task
    show_task = tasks.Activate entry epoch long at memo address

    abbrev then_ : Place → Place
    then_ = becomes s event actor job d entry epoch long at memo address task found

    place_then : (nav : NavId) (p : Place) → place_of s nav ≡ Some p → place_of t nav ≡ Some (then_ p)
    place_then nav p there =
        place_becomes s event actor job d entry epoch long at memo address task found nav ∙ ap (λ (o : Option Place). option_map then_ o) there

    -- the navigable is awake on it then
    its_shown : IsUnshown t job.doc → ⊥
    its_shown unshown = unshown d.nav (then_ place) (place_then d.nav place placed) (ap (λ (q : Place). q.status) value)
      where
        mine : ((slept (sleepers_of s job.doc d.nav) job.why place).nav.0 == d.nav.0) ≡ true
        mine =
            ap (λ (n : NavId). n.0 == d.nav.0) ((slept_same (sleepers_of s job.doc d.nav) job.why place).0 ∙ found_nav s.places d.nav place placed) ∙ nat_eq_refl d.nav.0

        value : then_ place ≡ activated job entry epoch d (slept (sleepers_of s job.doc d.nav) job.why place)
        value =
            ap (λ (b : Bool). cond b (activated job entry epoch d (slept (sleepers_of s job.doc d.nav) job.why place)) (slept (sleepers_of s job.doc d.nav) job.why place)) mine

    -- who is awake no more is this navigable, or falls asleep for it
    who_left : (nav : NavId) (p : Place) (doc : DocId) → place_of s nav ≡ Some p → p.status ≡ awake doc → IsUnshown t doc → has_nav (d.nav ∷ sleepers_of s job.doc d.nav) p.nav ≡ true
    who_left nav p doc there wakes unshown = by_tests (p.nav.0 == d.nav.0) (has_nav (sleepers_of s job.doc d.nav) p.nav) refl refl
      where
        by_tests : (b c : Bool) → (p.nav.0 == d.nav.0) ≡ b → has_nav (sleepers_of s job.doc d.nav) p.nav ≡ c → has_nav (d.nav ∷ sleepers_of s job.doc d.nav) p.nav ≡ true
        by_tests true c e f =
            let same : d.nav ≡ p.nav = sym (nav_is p.nav d.nav e) in
            ap (λ (n : NavId). (n.0 == p.nav.0) || has_nav (sleepers_of s job.doc d.nav) p.nav) same ∙ rw (nat_eq_refl p.nav.0) refl
        by_tests false true e f = skip (d.nav.0 == p.nav.0) f
          where
            skip : (b : Bool) → has_nav (sleepers_of s job.doc d.nav) p.nav ≡ true → (b || has_nav (sleepers_of s job.doc d.nav) p.nav) ≡ true
            skip true h = refl
            skip false h = h
        by_tests false false e f =
            let awake_still : slept (sleepers_of s job.doc d.nav) job.why p ≡ p = ap (λ (b : Bool). cond b (record p { status = asleep; why = job.why }) p) f in
            let other : ((slept (sleepers_of s job.doc d.nav) job.why p).nav.0 == d.nav.0) ≡ false = ap (λ (q : Place). q.nav.0 == d.nav.0) awake_still ∙ e in
            let value : then_ p ≡ slept (sleepers_of s job.doc d.nav) job.why p = ap (λ (b : Bool). cond b (activated job entry epoch d (slept (sleepers_of s job.doc d.nav) job.why p)) (slept (sleepers_of s job.doc d.nav) job.why p)) other in
            absurd (unshown nav p (place_then nav p there ∙ ap (λ (q : Place). Some q) (value ∙ awake_still)) wakes)

    -- who is left is among the list
    pub shown_but : (docs_ : List DocId) → OthersLeft s t job.doc docs_ → OthersPart job.doc docs docs_ → RestBut docs_ t
    shown_but docs_ left part =
        sent_rests (addressed show_task) (addressed_keeps show_task) (ap (documents_sent s job) task) docs_ (λ x there unshown apart. absurd (its_shown unshown)) left part

    -- what the navigable, and who falls asleep for it, are awake on is
    pub shown_among : (docs_ : List DocId) → OthersOf s (d.nav ∷ sleepers_of s job.doc d.nav) job.doc docs_ → OthersPart job.doc docs docs_ → RestBut docs_ t
    shown_among docs_ others part =
        shown_but docs_ (λ nav p doc there wakes other unshown. others nav p doc there wakes (who_left nav p doc there wakes unshown) other) part

    -- the document leaves the list
    pub shown_less : RestBut (left_for s job.doc d.nav ++ without_doc job.doc docs) t
    shown_less =
        shown_among (left_for s job.doc d.nav ++ without_doc job.doc docs) (others_more (d.nav ∷ sleepers_of s job.doc d.nav)) (part_more (left_for s job.doc d.nav))

    pub shown_rests : RestBut (left_for s job.doc d.nav ++ docs) t
    shown_rests = with_own (left_for s job.doc d.nav) shown_less

    -- nobody falls asleep for it, and what the navigable showed, but this document, is
    pub shown_only : (docs_ : List DocId) → ((n : NavId) → has_nav (sleepers_of s job.doc d.nav) n ≡ false) → ((doc : DocId) → place.status ≡ awake doc → (doc.0 == job.doc.0) ≡ false → has_doc docs_ doc ≡ true) → OthersPart job.doc docs docs_ → RestBut docs_ t
    shown_only docs_ nobody showed part = shown_among docs_ others part
      where
        others : OthersOf s (d.nav ∷ sleepers_of s job.doc d.nav) job.doc docs_
        others nav p doc there wakes has other = by_test (d.nav.0 == p.nav.0) refl has
          where
            by_test : (b : Bool) → (d.nav.0 == p.nav.0) ≡ b → (b || has_nav (sleepers_of s job.doc d.nav) p.nav) ≡ true → has_doc docs_ doc ≡ true
            by_test true e is =
                let own : d.nav ≡ nav = nav_is d.nav p.nav e ∙ found_nav s.places nav p there in
                let both : Some place ≡ Some p = sym placed ∙ ap (place_of s) own ∙ there in
                let one : place ≡ p = cc in
                showed doc (ap (λ (q : Place). q.status) one ∙ wakes) other
            by_test false e is = let no_ : false ≡ true = sym (nobody p.nav) ∙ is in cc

    -- nobody falls asleep for it, and the navigable showed this document or none
    pub shown_alone : ((n : NavId) → has_nav (sleepers_of s job.doc d.nav) n ≡ false) → ((doc : DocId) → place.status ≡ awake doc → doc ≡ job.doc) → RestBut (without_doc job.doc docs) t
    shown_alone nobody its_own =
        shown_only (without_doc job.doc docs) nobody
        (λ doc wakes other. (let no_ : true ≡ false = sym (nat_eq_refl job.doc.0) ∙ ap (λ (n : DocId). n.0 == job.doc.0) (sym (its_own doc wakes)) ∙ other in cc))
        (λ doc other has. stays_without job.doc docs doc other has)

  -- ---- a document is to be made that no row named before

  module _ (nav : NavId) (state : StateId) (address : List ℕ) (initial : Bool) (task : job.task ≡ tasks.Populate nav state address initial) where
    last_document : (l : List Document) (doc : DocId) (d : Document) → find (λ (x : Document). x.nr.0 == doc.0) (l ++ new_document s job nav state ∷ []) ≡ Some d → (find (λ (x : Document). x.nr.0 == doc.0) l ≡ Some d) ⊎ (new_document s job nav state ≡ d)
    last_document [] doc d found = by_test (job.doc.0 == doc.0) found
      where
        by_test : (b : Bool) → cond b (Some (new_document s job nav state)) None ≡ Some d → (None ≡ Some d) ⊎ (new_document s job nav state ≡ d)
        by_test true h = inr (let same : new_document s job nav state ≡ d = cc in same)
        by_test false h = cc
    last_document (x ∷ l) doc d found = by_test (x.nr.0 == doc.0) (last_document l doc d) found
      where
        by_test : (b : Bool) → (find (λ (y : Document). y.nr.0 == doc.0) (l ++ new_document s job nav state ∷ []) ≡ Some d → (find (λ (y : Document). y.nr.0 == doc.0) l ≡ Some d) ⊎ (new_document s job nav state ≡ d)) → cond b (Some x) (find (λ (y : Document). y.nr.0 == doc.0) (l ++ new_document s job nav state ∷ [])) ≡ Some d → (cond b (Some x) (find (λ (y : Document). y.nr.0 == doc.0) l) ≡ Some d) ⊎ (new_document s job nav state ≡ d)
        by_test true rest h = inl h
        by_test false rest h = rest h

    pub making_rests : ((d : Document) → document_of s job.doc ≡ Some d → ⊥) → RestBut docs t
    making_rests none doc d found unshown apart =
        by_case (last_document s.documents doc d (ap (λ (l : List Document). find (λ (x : Document). x.nr.0 == doc.0) l) (sym (ap (documents_sent s job) task)) ∙ found))
      where
        lives : is_live_order job.doc (length (desk_of s job.proc).killed) job ≡ true
        lives = is_mine job.doc (length (desk_of s job.proc).killed) job refl sent.lives

        other : document_of s doc ≡ Some d → (b : Bool) → (job.doc.0 == d.nr.0) ≡ b → (job.doc.0 == d.nr.0) ≡ false
        other old false e = e
        other old true e =
            absurd (none d (ap (document_of s) (doc_same job.doc d.nr e ∙ its_number s doc d old) ∙ old))

        by_case : (document_of s doc ≡ Some d) ⊎ (new_document s job nav state ≡ d) → is_resting (will_run (desk_of t d.proc) d) ≡ true
        by_case (inl old) =
            ap is_resting (run_other d (other old (job.doc.0 == d.nr.0) refl)) ∙ rest doc d old (unshown_before s t (same_shown s t (ap (places_sent s job) task)) doc unshown) apart
        by_case (inr is) =
            ap (λ (x : Document). is_resting (will_run (desk_of t x.proc) x)) (sym is)
            ∙ ap (λ (x : Desk). is_resting (will_run x (new_document s job nav state))) desk_then
            ∙ ap is_resting (mailed_run_own (desk_of s job.proc) job (new_document s job nav state) (new_document s job nav state) lives refl refl ∙ ap (λ (k : Task). run_after (will_run (desk_of s job.proc) (new_document s job nav state)) k) task)
