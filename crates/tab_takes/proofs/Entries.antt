-- The entry that what a document made brings is new, and later than each applied one of the document.
use Rattle.seen_facts.specs.Coord.Leading.{is_live_order, once_finished, orders_of_desk, pending_view}
use Rattle.seen_facts.specs.Doc.Docs.{makes_at, makes_by, makes_due, makes_it, makes_sent}
use Rattle.seen_facts.specs.Each.Items.{Each}
use Rattle.seen_facts.specs.Each.Mades.{Ascend, IsNext}
use Rattle.seen_facts.proofs.Entry.Firsts.{IsFirstOf, each_parts, first_with, own_first}
use Rattle.seen_facts.specs.Entry.Entries.{IsItsOwn, IsMadeThere, mades_of, untaken, untold, waiting}
use Rattle.entry_store.specs.Store.{IsStateOf}
use Rattle.tab_facts.proofs.FrameWhole.Soundly.{none_entry}
use Rattle.tab_facts.specs.FrameWhole.Untold.{LeadsIf}
use Rattle.seen_facts.proofs.Hang.Forms.{nav_is}
use Rattle.seen_facts.proofs.Hang.Members.{Passing, any_has, has_any}
use Rattle.seen_facts.proofs.Hang.Parts.{state_is}
use Rattle.seen_facts.specs.Hang.Members.{Has}
use Rattle.log_model.proofs.Refl.{nat_eq_refl}
use Rattle.log_model.specs.AfterDocuments.{view_finished}
use Rattle.log_model.specs.History.{has_state, is_of}
use Rattle.log_model.specs.Once.{is_later_entry}
use Rattle.log_model.specs.Seen.{Document, Place, Seen, desk_of, document_of, place_of}
use Rattle.log_model.specs.Soundness.{is_entry, is_in_state}
use Rattle.log_model.specs.Views.{View}
use Rattle.log_model.specs.declared.change.Change.{Change}
use Rattle.log_model.specs.declared.job.Job.{Job}
use Rattle.log_model.specs.declared.job.Task.{Task}
use Rattle.log_model.specs.declared.made.Made.{Made}
use Rattle.log_model.specs.declared.row.Row.{Row}
use Rattle.log_model.specs.declared.row_kind.RowKind.{RowKind}
use Rattle.seen_facts.specs.Place.Standing.{IsShownOnce}
use Rattle.seen_laws.proofs.Keyed.{find_has as seen_number}
use Rattle.seen_facts.proofs.Coord.Singles.{AreApart}
use Rattle.std.proofs.Common.{Bool, List, None, Option, Some, [], ap, arith, cond, false, fold, length, not, refl, subst, suc, sym, true, zero, ℕ, ◌&&◌, ◌<◌, ◌==◌, ◌||◌, ◌∙◌, ◌∷◌, ◌≡◌, ◌≤◌}
use Rattle.std.proofs.lemmas.Bool.{and_parts, eqb-true}
use Rattle.std.proofs.lemmas.Bool.Decides.{nat_tests}
use Rattle.std.specs.List.{list_all, list_any}
use Rattle.std.specs.Prelude.{filter, find, nat_lt}
use Rattle.sync_core.specs.declared.judging.Judged.TheVariants as verdicts
use Rattle.tab_doors.specs.declared.tables.Tables.{Tables}
use Rattle.tab_ids.specs.declared.DocId.{DocId}
use Rattle.tab_ids.specs.declared.EntryId.{EntryId}
use Rattle.tab_ids.specs.declared.NavId.{NavId}
use Rattle.tab_ids.specs.declared.ReqId.{ReqId}
use Rattle.tab_ids.specs.declared.StateId.{StateId}
use Rattle.tab_rests.specs.PassedOn.{InPass}
use Rattle.tab_takes.proofs.Now.{e, given, has, list, now_, own, ready, rest, target, then_, wakes, whole}
use Rattle.tab_takes.proofs.Verdicts.{Tells}
use Rattle.tab_takes.specs.Taking.{IsToTake}
use Rattle.log_model.specs.declared.job.Task.TheVariants as tasks

-- ---- a document without a view gets none from orders that don't make it

none_done : (d : Document) (task : Task) → d.view ≡ None → makes_by true task ≡ 0 → view_finished d task ≡ None
none_done d (tasks.Populate nav state address initial) none once = absurd (let never : 1 ≡ 0 = once in omega (arith, never))
none_done d (tasks.Activate entry epoch length index memo address) none once = rw none refl
none_done d (tasks.Update length index) none once = rw none refl
none_done d tasks.Freeze none once = rw none refl
none_done d tasks.Discard none once = refl
none_done d (tasks.Ask slot cause) none once = rw none refl
none_done d (tasks.DoFragment req mode address) none once = none

no_view : (d : Document) (doc : DocId) (incarnation : ℕ) (jobs : List Job) → d.view ≡ None → makes_sent doc jobs ≡ 0 → (fold once_finished d (filter (is_live_order doc incarnation) jobs)).view ≡ None
no_view d doc incarnation [] none once = none
no_view d doc incarnation (job ∷ jobs) none once =
    by_test (job.doc.0 == doc.0) (job.incarnation == incarnation) refl (λ x h. no_view x doc incarnation jobs h (omega (arith, once)))
  where
    by_test : (a b : Bool) → (job.doc.0 == doc.0) ≡ a → ((x : Document) → x.view ≡ None → (fold once_finished x (filter (is_live_order doc incarnation) jobs)).view ≡ None) → (fold once_finished d (cond (a && b) (job ∷ filter (is_live_order doc incarnation) jobs) (filter (is_live_order doc incarnation) jobs))).view ≡ None
    by_test true true e more =
        let first : makes_it doc job ≡ 0 = omega (arith, once) in
        more (once_finished d job) (none_done d job.task none (sym (ap (λ (b : Bool). makes_by b job.task) e) ∙ first))
    by_test true false e more = more d none
    by_test false b e more = more d none

-- ---- so it is in order

none_earlier : (documents : List Document) (entry : EntryId) → find (λ (x : Document). x.nr.0 == entry.maker) documents ≡ None → list_all (λ (x : Document). not (x.nr.0 == entry.maker) || nat_lt x.last_applied entry.nr) documents ≡ true
none_earlier [] entry none = refl
none_earlier (x ∷ documents) entry none = by_test (x.nr.0 == entry.maker) none (none_earlier documents entry)
  where
    by_test : (b : Bool) → (let o : Option Document = cond b (Some x) (find (λ (y : Document). y.nr.0 == entry.maker) documents) in o) ≡ None → (find (λ (y : Document). y.nr.0 == entry.maker) documents ≡ None → list_all (λ (y : Document). not (y.nr.0 == entry.maker) || nat_lt y.last_applied entry.nr) documents ≡ true) → ((not b || nat_lt x.last_applied entry.nr) && list_all (λ (y : Document). not (y.nr.0 == entry.maker) || nat_lt y.last_applied entry.nr) documents) ≡ true
    by_test true e more = absurd cc
    by_test false e more = more e

all_earlier : (documents : List Document) (d : Document) (entry : EntryId) → AreApart (λ (x : Document). x.nr.0) documents → find (λ (x : Document). x.nr.0 == entry.maker) documents ≡ Some d → d.last_applied < entry.nr → list_all (λ (x : Document). not (x.nr.0 == entry.maker) || nat_lt x.last_applied entry.nr) documents ≡ true
all_earlier [] d entry apart found later = refl
all_earlier (x ∷ documents) d entry apart found later =
    by_test (x.nr.0 == entry.maker) refl found (λ e. all_earlier documents d entry apart.1 e later)
  where
    by_test : (b : Bool) → (x.nr.0 == entry.maker) ≡ b → cond b (Some x) (find (λ (y : Document). y.nr.0 == entry.maker) documents) ≡ Some d → (find (λ (y : Document). y.nr.0 == entry.maker) documents ≡ Some d → list_all (λ (y : Document). not (y.nr.0 == entry.maker) || nat_lt y.last_applied entry.nr) documents ≡ true) → ((not b || nat_lt x.last_applied entry.nr) && list_all (λ (y : Document). not (y.nr.0 == entry.maker) || nat_lt y.last_applied entry.nr) documents) ≡ true
    by_test false e f more = more f
    by_test true e f more =
        let same : x ≡ d = cc in
        let number : x.nr.0 ≡ entry.maker = eqb-true x.nr.0 entry.maker e in
        let none : find (λ (y : Document). y.nr.0 == entry.maker) documents ≡ None = subst (λ (n : ℕ). find (λ (y : Document). y.nr.0 == n) documents ≡ None) number apart.0 in
        let before : x.last_applied < entry.nr = subst (λ (y : Document). y.last_applied < entry.nr) (sym same) later in
        let low : nat_lt x.last_applied entry.nr ≡ true = grind (arith, nat_tests, before) in
        rw low (none_earlier documents entry none)

-- the document's view
record HasView (d : Document) : Type 0 where
  view : View
  has : d.view ≡ Some view

module _ (p : InPass) (out : List RowKind) (t : Tables) (blame : List (StateId × ReqId)) (made : Made) (at : IsToTake p out t blame made) (told : Tells p out t blame made at verdicts.Now) where
  abbrev s : Seen
  s = now_ p out t blame made at told

  abbrev d : Document
  d = (own p out t blame made at told).d

  abbrev found : document_of s made.doc ≡ Some d
  found = (own p out t blame made at told).found

  -- its document state has an entry, its navigable's target
  pub has_its_state : has_state d.state s.history.rows ≡ true
  has_its_state =
      let it = given p out t blame made at told in
      has_any (λ (row : Row). row.state.0 == d.state.0) s.history.rows it.row (target p out t blame made at told).there (ap (λ (x : StateId). x.0 == d.state.0) it.state_is ∙ nat_eq_refl d.state.0)

  -- the entries of its document state are its navigable's
  pub state_of_it : IsStateOf d.nav d.state s.history.rows
  state_of_it other held =
      let a : Passing (λ (row : Row). is_of other row && is_in_state d.state row) s.history.rows = any_has (λ (row : Row). is_of other row && is_in_state d.state row) s.history.rows held in
      let both = and_parts (is_of other a.it) (is_in_state d.state a.it) a.passes in
      let its : a.it.nav ≡ d.nav = (whole p out t blame made at told).whose.whose made.doc d a.it found a.there (state_is a.it.state d.state both.1) in
      ap (λ (n : NavId). n.0) (sym (nav_is a.it.nav other both.0) ∙ its)

  number : d.nr.0 ≡ made.doc.0
  number = seen_number (λ (x : Document). x.nr.0) made.doc.0 s.documents d found

  number_is : d.nr ≡ made.doc
  number_is = ap (λ (n : ℕ). let x : DocId = record { 0 = n } in x) number

  unsent : makes_sent d.nr (orders_of_desk (desk_of s d.proc)) ≡ 0
  unsent =
      let once : makes_at d.nr (desk_of s d.proc) ≡ 0 = ((whole p out t blame made at told).docs.each made.doc d found).once ∙ ap makes_due (ready p out t blame made at told) in omega (arith, once)

  has_view : HasView d
  has_view = by_view d.view refl
    where
      led : LeadsIf s.history.rows (waiting s p.hand) (desk_of s d.proc) d (own p out t blame made at told).place.given (own p out t blame made at told).place.epoch
      led =
          (whole p out t blame made at told).flows.leads d.nav (own p out t blame made at told).place made.doc d (own p out t blame made at told).placed (wakes p out t blame made at told) found (has p out t blame made at told)

      by_view : (o : Option View) → d.view ≡ o → HasView d
      by_view (Some view) is = record { view = view; has = is }
      by_view None is =
          let gone : pending_view d (desk_of s d.proc) ≡ None = no_view d d.nr (length (desk_of s d.proc).killed) (orders_of_desk (desk_of s d.proc)) is unsent in
          let never : None ≡ Some led.view = sym gone ∙ led.pending in absurd cc

  module _ (change : Change) where
    abbrev n : Seen
    n = then_ p out t blame made at told change

    list_ : IsFirstOf (waiting s p.hand) made (waiting n (rest p out t blame made at told))
    list_ = list p out t blame made at told change

    -- it waits, so its entry is the document's
    pub its_own : IsItsOwn made.doc made.what
    its_own =
        let all = each_parts (IsMadeThere s.documents) list_.before made list_.later (subst (λ (l : List Made). Each (IsMadeThere s.documents) l) list_.whole (whole p out t blame made at told).entries.waits) in
        all.0.own

    pub its_next : IsNext d.last_applied made.what
    its_next =
        let all : Ascend d.last_applied (untaken (waiting s p.hand) (desk_of s d.proc) d.nr) has_view.view.numbered = (whole p out t blame made at told).entries.ascends made.doc d found has_view.view has_view.has in
        let own_ : Ascend d.last_applied (untaken (waiting s p.hand) (desk_of s d.proc) made.doc) has_view.view.numbered = subst (λ (n_ : DocId). Ascend d.last_applied (untaken (waiting s p.hand) (desk_of s d.proc) n_) has_view.view.numbered) number_is all in
        (subst (λ (l : List Made). Ascend d.last_applied l has_view.view.numbered) front own_).0
      where
        front : untaken (waiting s p.hand) (desk_of s d.proc) made.doc ≡ made ∷ untaken (waiting n (rest p out t blame made at told)) (desk_of s d.proc) made.doc
        front =
            own_first (untold (waiting s p.hand) (desk_of s d.proc)) made (untold (waiting n (rest p out t blame made at told)) (desk_of s d.proc))
            (first_with (waiting s p.hand) made (waiting n (rest p out t blame made at told)) (mades_of (desk_of s d.proc)) list_)

    -- ---- a new entry

    module _ (entry : EntryId) (maker : entry.maker ≡ made.doc.0) (later : d.last_applied < entry.nr) where
      pub entry_maker : (entry.maker == 0) ≡ false
      entry_maker =
          let real : 1 ≤ d.nr.0 = ((whole p out t blame made at told).entries.counted made.doc d found).real in
          apart entry.maker (omega (arith, maker, real, number))
        where
          apart : (k : ℕ) → 1 ≤ k → (k == 0) ≡ false
          apart k low = grind (arith, nat_tests, low)

      pub entry_fresh : (row : Row) → Has s.history.rows row → row.entry ≡ entry → ⊥
      entry_fresh row has_ same =
          let low : row.entry.nr ≤ d.last_applied = ((whole p out t blame made at told).entries.entries.of_row row has_).applied made.doc d found (ap (λ (x : EntryId). x.maker) same ∙ maker ∙ sym number) in
          let nr : row.entry.nr ≡ entry.nr = ap (λ (x : EntryId). x.nr) same in
          omega (arith, low, nr, later)

      -- nor was a navigable given it
      pub entry_ungiven : (nav : NavId) (place : Place) → place_of s nav ≡ Some place → place.given ≡ Some entry → ⊥
      entry_ungiven nav place placed given_ = by_epoch place.epoch.0 refl
        where
          by_shown : IsShownOnce place → ⊥
          by_shown is =
              let numbered = (whole p out t blame made at told).entries.entries.given nav place is.entry placed is.ever in
              let both : Some is.entry ≡ Some entry = sym is.given ∙ given_ in
              let same : is.entry ≡ entry = cc in
              let low : is.entry.nr ≤ d.last_applied = numbered.applied made.doc d found (ap (λ (x : EntryId). x.maker) same ∙ maker ∙ sym number) in
              let nr : is.entry.nr ≡ entry.nr = ap (λ (x : EntryId). x.nr) same in
              omega (arith, low, nr, later)

          by_epoch : (k : ℕ) → place.epoch.0 ≡ k → ⊥
          by_epoch zero is =
              let none : place.given ≡ None = (((whole p out t blame made at told).standing nav place placed).told.0 is).given in
              let no_ : None ≡ Some entry = sym none ∙ given_ in cc
          by_epoch (suc k) is = by_shown (((whole p out t blame made at told).standing nav place placed).told.1 (omega (arith, is)))

      pub entry_new : list_any (is_entry entry) s.history.rows ≡ false
      entry_new = none_entry s.history.rows entry entry_fresh

      pub entry_later : is_later_entry s entry ≡ true
      entry_later =
          all_earlier s.documents d entry (whole p out t blame made at told).whose.numbered (subst (λ (k : ℕ). find (λ (x : Document). x.nr.0 == k) s.documents ≡ Some d) (sym maker) found) later
