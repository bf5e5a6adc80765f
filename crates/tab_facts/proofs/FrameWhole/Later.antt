-- A new entry that a document made, and that is taken up in its turn, is later than each of the document's that was applied.
use Rattle.seen_facts.specs.Coord.Leading.{is_live_order, once_finished, orders_of_desk, pending_view}
use Rattle.tab_facts.proofs.FrameTab.Changing.{IsMadeHere}
use Rattle.tab_facts.proofs.FrameTab.Leaving.{untold}
use Rattle.tab_facts.proofs.FrameTab.Takings.{IsFirstOf, own_first}
use Rattle.tab_facts.specs.FrameTab.Desks.{makes_by, makes_due, makes_it, makes_sent, makes_told, waiting}
use Rattle.tab_facts.specs.FrameWhole.Tab.{IsTab}
use Rattle.tab_facts.specs.FrameWhole.Untold.{LeadsIf}
use Rattle.seen_facts.specs.Home.Homes.{IsAtHome}
use Rattle.log_model.specs.AfterDocuments.{view_finished}
use Rattle.log_model.specs.History.{has_row}
use Rattle.log_model.specs.Seen.{Document, Place, Seen, awake, desk_of, document_of, place_of}
use Rattle.log_model.specs.Views.{View}
use Rattle.log_model.specs.declared.job.Job.{Job}
use Rattle.log_model.specs.declared.job.Task.{Task}
use Rattle.log_model.specs.declared.made.Made.{Made}
use Rattle.seen_facts.specs.Each.Mades.{Ascend, IsNext}
use Rattle.seen_laws.proofs.Keyed.{find_has}
use Rattle.std.proofs.Common.{Bool, List, None, Option, Some, [], ap, arith, cond, false, fold, length, refl, subst, sym, true, ℕ, ◌&&◌, ◌+◌, ◌==◌, ◌∙◌, ◌∷◌, ◌≡◌}
use Rattle.std.specs.Prelude.{filter}
use Rattle.tab_ids.specs.declared.DocId.{DocId}
use Rattle.tab_ids.specs.declared.NavId.{NavId}
use Rattle.tab_ids.specs.declared.ProcId.{ProcId}
use Rattle.tab_ids.specs.declared.ReqId.{ReqId}
use Rattle.log_model.specs.declared.job.Task.TheVariants as tasks
use Rattle.seen_facts.proofs.Coord.Singles.{AreApart}  -- keep
use Rattle.log_model.specs.Once.{is_later_entry}
use Rattle.std.proofs.Common.{not, ◌<◌, ◌||◌}
use Rattle.std.proofs.lemmas.Bool.{eqb-true, lt-ltb}
use Rattle.std.specs.List.{list_all}
use Rattle.std.specs.Prelude.{find, nat_lt}
use Rattle.tab_ids.specs.declared.EntryId.{EntryId}

-- ---- the document of an awake navigable that has a row has a view

none_done : (d : Document) (task : Task) → d.view ≡ None → makes_by true task ≡ 0 → view_finished d task ≡ None
none_done d (tasks.Populate nav state address initial) none once = absurd (let never : 1 ≡ 0 = once in omega (arith, never))
none_done d (tasks.Activate entry epoch length index memo address) none once = rw none refl
none_done d (tasks.Update length index) none once = rw none refl
none_done d tasks.Freeze none once = rw none refl
none_done d tasks.Discard none once = refl
none_done d (tasks.Ask slot cause) none once = rw none refl
none_done d (tasks.DoFragment req mode address) none once = none

no_view : (d : Document) (doc : DocId) (incarnation : ℕ) (jobs : List Job) → d.view ≡ None → makes_sent doc jobs ≡ 0 → (fold once_finished d (filter (is_live_order doc incarnation) jobs)).view ≡ None
no_view d doc incarnation [] none once = none
no_view d doc incarnation (job ∷ jobs) none once =
    by_test (job.doc.0 == doc.0) (job.incarnation == incarnation) refl (λ x h. no_view x doc incarnation jobs h (omega (arith, once)))
  where
    by_test : (a b : Bool) → (job.doc.0 == doc.0) ≡ a → ((x : Document) → x.view ≡ None → (fold once_finished x (filter (is_live_order doc incarnation) jobs)).view ≡ None) → (fold once_finished d (cond (a && b) (job ∷ filter (is_live_order doc incarnation) jobs) (filter (is_live_order doc incarnation) jobs))).view ≡ None
    by_test true true e more =
        let first : makes_it doc job ≡ 0 = omega (arith, once) in
        more (once_finished d job) (none_done d job.task none (sym (ap (λ (b : Bool). makes_by b job.task) e) ∙ first))
    by_test true false e more = more d none
    by_test false b e more = more d none

-- the document's view
pub record HasView (d : Document) : Type 0 where
  pub view : View
  pub has : d.view ≡ Some view

module _ (home : ProcId) (run : Option ReqId) (hand : List Made) (s : Seen) (tab : IsTab home run hand s) where
  pub has_view : (nav : NavId) (place : Place) (doc : DocId) (d : Document) → place_of s nav ≡ Some place → place.status ≡ awake doc → document_of s doc ≡ Some d → has_row d.nav s.history.rows ≡ true → HasView d
  has_view nav place doc d placed wakes found has = by_view d.view refl
    where
      at : IsAtHome s.documents place.nav doc
      at = (tab.homes.homed nav place doc placed wakes).home

      ready : d.is_ready ≡ true
      ready =
          let both : Some at.document ≡ Some d = sym at.found ∙ found in
          let same : at.document ≡ d = cc in
          ap (λ (x : Document). x.is_ready) (sym same) ∙ at.ready

      once : makes_sent d.nr (orders_of_desk (desk_of s home)) + makes_told d.nr (desk_of s home).reports ≡ 0
      once = tab.framed.made doc d found ∙ ap makes_due ready

      led : LeadsIf s.history.rows (waiting s hand) (desk_of s home) d place.given place.epoch
      led = subst (λ (p : ProcId). LeadsIf s.history.rows (waiting s hand) (desk_of s p) d place.given place.epoch) (tab.framed.documents doc d found).alive.proc (tab.flows.leads nav place doc d placed wakes found has)

      by_view : (o : Option View) → d.view ≡ o → HasView d
      by_view (Some view) e = record { view = view; has = e }
      by_view None e =
          let gone : pending_view d (desk_of s home) ≡ None = no_view d d.nr (length (desk_of s home).killed) (orders_of_desk (desk_of s home)) e (omega (arith, once)) in
          let never : None ≡ Some led.view = sym gone ∙ led.pending in absurd cc

  -- ---- what comes first of a document

  pub its_next : (made : Made) (d : Document) (left : List Made) → IsMadeHere s made d → IsFirstOf (untold (waiting s hand) (desk_of s home)) made left → has_row d.nav s.history.rows ≡ true → IsNext d.last_applied made.what
  its_next made d left here list has =
      let v : HasView d = has_view d.nav here.place made.doc d here.placed here.wakes here.found has in
      let all : Ascend d.last_applied (filter (λ (m : Made). m.doc.0 == d.nr.0) (untold (waiting s hand) (desk_of s home))) v.view.numbered = tab.framed.ascends made.doc d here.found v.view v.has in
      let own : Ascend d.last_applied (filter (λ (m : Made). m.doc.0 == made.doc.0) (untold (waiting s hand) (desk_of s home))) v.view.numbered = subst (λ (n : DocId). Ascend d.last_applied (filter (λ (m : Made). m.doc.0 == n.0) (untold (waiting s hand) (desk_of s home))) v.view.numbered) number all in
      let front : Ascend d.last_applied (made ∷ filter (λ (m : Made). m.doc.0 == made.doc.0) left) v.view.numbered = subst (λ (l : List Made). Ascend d.last_applied l v.view.numbered) (own_first (untold (waiting s hand) (desk_of s home)) made left list) own in
      front.0
    where
      number : d.nr ≡ made.doc
      number = ap (λ (n : ℕ). let x : DocId = record { 0 = n } in x) (find_has (λ (x : Document). x.nr.0) made.doc.0 s.documents d here.found)

-- ---- so it is in order

none_earlier : (documents : List Document) (entry : EntryId) → find (λ (x : Document). x.nr.0 == entry.maker) documents ≡ None → list_all (λ (x : Document). not (x.nr.0 == entry.maker) || nat_lt x.last_applied entry.nr) documents ≡ true
none_earlier [] entry none = refl
none_earlier (x ∷ documents) entry none = by_test (x.nr.0 == entry.maker) none (none_earlier documents entry)
  where
    by_test : (b : Bool) → (let o : Option Document = cond b (Some x) (find (λ (y : Document). y.nr.0 == entry.maker) documents) in o) ≡ None → (find (λ (y : Document). y.nr.0 == entry.maker) documents ≡ None → list_all (λ (y : Document). not (y.nr.0 == entry.maker) || nat_lt y.last_applied entry.nr) documents ≡ true) → ((not b || nat_lt x.last_applied entry.nr) && list_all (λ (y : Document). not (y.nr.0 == entry.maker) || nat_lt y.last_applied entry.nr) documents) ≡ true
    by_test true e more = absurd cc
    by_test false e more = more e

all_earlier : (documents : List Document) (d : Document) (entry : EntryId) → AreApart (λ (x : Document). x.nr.0) documents → find (λ (x : Document). x.nr.0 == entry.maker) documents ≡ Some d → d.last_applied < entry.nr → list_all (λ (x : Document). not (x.nr.0 == entry.maker) || nat_lt x.last_applied entry.nr) documents ≡ true
all_earlier [] d entry apart found later = refl
all_earlier (x ∷ documents) d entry apart found later =
    by_test (x.nr.0 == entry.maker) refl found (λ e. all_earlier documents d entry apart.1 e later)
  where
    rest : Bool
    rest = list_all (λ (y : Document). not (y.nr.0 == entry.maker) || nat_lt y.last_applied entry.nr) documents

    by_test : (b : Bool) → (x.nr.0 == entry.maker) ≡ b → cond b (Some x) (find (λ (y : Document). y.nr.0 == entry.maker) documents) ≡ Some d → (find (λ (y : Document). y.nr.0 == entry.maker) documents ≡ Some d → list_all (λ (y : Document). not (y.nr.0 == entry.maker) || nat_lt y.last_applied entry.nr) documents ≡ true) → ((not b || nat_lt x.last_applied entry.nr) && list_all (λ (y : Document). not (y.nr.0 == entry.maker) || nat_lt y.last_applied entry.nr) documents) ≡ true
    by_test false e f more = more f
    by_test true e f more =
        let same : x ≡ d = cc in
        let number : x.nr.0 ≡ entry.maker = eqb-true x.nr.0 entry.maker e in
        let none : find (λ (y : Document). y.nr.0 == entry.maker) documents ≡ None = subst (λ (n : ℕ). find (λ (y : Document). y.nr.0 == n) documents ≡ None) number apart.0 in
        let low : nat_lt x.last_applied entry.nr ≡ true = lt-ltb x.last_applied entry.nr (subst (λ (y : Document). y.last_applied < entry.nr) (sym same) later) in
        rw low (none_earlier documents entry none)

-- the entry that was made is later than each applied one of its document
pub later_entry : (home : ProcId) (run : Option ReqId) (hand : List Made) (s : Seen) → IsTab home run hand s → (made : Made) (d : Document) (entry : EntryId) → document_of s made.doc ≡ Some d → entry.maker ≡ made.doc.0 → d.last_applied < entry.nr → is_later_entry s entry ≡ true
later_entry home run hand s tab made d entry found maker later =
    all_earlier s.documents d entry tab.kept.numbered (subst (λ (n : ℕ). find (λ (x : Document). x.nr.0 == n) s.documents ≡ Some d) (sym maker) found) later
