-- Who is awake stays rooted over each order, and each usable document usable but over one that discards it.
use Rattle.tab_facts.proofs.Calm.Sames.{IsUsableAt}
use Rattle.tab_facts.specs.Calm.Calm.{AreRooted, HasUsable, IsRooted}
use Rattle.seen_facts.proofs.Coord.Unread.{next}
use Rattle.seen_facts.proofs.Hang.Forms.{nav_is}
use Rattle.seen_facts.proofs.Hang.Members.{Passing, any_has, has_any, has_map, has_more}
use Rattle.seen_facts.specs.Hang.Members.{Has}
use Rattle.seen_facts.specs.Home.Homes.{document_in}
use Rattle.log_model.specs.AfterDocuments.{addressed, documents_sent, new_document, on_document}
use Rattle.log_model.specs.AfterPlaces.{activated, places_sent, sleepers_with}
use Rattle.log_model.specs.History.{has_nav, has_state}
use Rattle.log_model.specs.Orders.{is_usable}
use Rattle.log_model.specs.Seen.{Document, Place, Seen, asleep, awake, document_of, place_in, place_of}
use Rattle.log_model.specs.declared.job.Job.{Job}
use Rattle.log_model.specs.declared.job.Task.{Task}
use Rattle.log_model.specs.declared.outcome.Cause.{Cause}
use Rattle.log_model.specs.declared.outcome.Denial.{Denial}
use Rattle.log_model.specs.declared.row.Row.{Row}
use Rattle.log_model.specs.declared.row_kind.Actor.{Actor}
use Rattle.seen_facts.proofs.Place.Documents.{MakesNone, state_in, states_stay}
use Rattle.seen_laws.proofs.Keyed.{find_map}
use Rattle.std.proofs.Common.{Bool, List, map, None, Option, Some, [], ap, cond, false, inl, inr, not, refl, subst, sym, true, ℕ, ◌&&◌, ◌++◌, ◌==◌, ◌∙◌, ◌∷◌, ◌≡◌, ◌⊎◌}
use Rattle.std.proofs.lemmas.Bool.{and_parts}
use Rattle.std.proofs.lemmas.List.Folds.{find-append}
use Rattle.std.specs.List.{list_any}
use Rattle.std.specs.Option.{option_or}
use Rattle.std.specs.Prelude.{is_some, option_map}
use Rattle.tab_ids.specs.declared.DocId.{DocId}
use Rattle.tab_ids.specs.declared.EntryId.{EntryId}
use Rattle.tab_ids.specs.declared.Epoch.{Epoch}
use Rattle.tab_ids.specs.declared.NavId.{NavId}
use Rattle.tab_ids.specs.declared.ReqId.{ReqId}
use Rattle.tab_ids.specs.declared.StateId.{StateId}
use Rattle.tab_ids.specs.declared.Step.{Step}
use Rattle.seen_facts.proofs.Walk.Sleepers.{becomes, place_becomes, sleepers_of, slept}
use Rattle.row_facts.proofs.WalkRows.Sleeping.{place_sleeps}
use Rattle.log_model.specs.declared.job.Task.TheVariants as tasks
use Rattle.log_model.specs.declared.row_kind.RowKind.TheVariants as rows

-- ---- documents

-- an order that discards none
abbrev pub DiscardsNone : Task → Type 0
DiscardsNone tasks.Discard = ⊥
DiscardsNone _ = Unit {0}

module _ (s : Seen) (event : ℕ) (actor : Actor) (job : Job) where
  abbrev t : Seen
  t = next s event actor (rows.Sent job)

  pub documents_are : (task : Task) → job.task ≡ task → t.documents ≡ documents_sent s job task
  documents_are task is = ap (λ (k : Task). documents_sent s job k) is

  -- one that is changed in what is read of it here by none
  pub found_on : (f : Document → Document) → ((d : Document) → (f d).nr ≡ d.nr) → t.documents ≡ on_document job.doc f s.documents → (doc : DocId) → document_of t doc ≡ option_map (λ (d : Document). cond (d.nr.0 == job.doc.0) (f d) d) (document_of s doc)
  found_on f nrs is doc =
      ap (λ (l : List Document). document_in l doc) is
      ∙ find_map (λ (d : Document). d.nr.0) (λ (d : Document). cond (d.nr.0 == job.doc.0) (f d) d) doc.0 s.documents (λ d. by_test d (d.nr.0 == job.doc.0))
    where
      by_test : (d : Document) (b : Bool) → (let x : Document = cond b (f d) d in x).nr.0 ≡ d.nr.0
      by_test d true = ap (λ (n : DocId). n.0) (nrs d)
      by_test d false = refl

  -- a document more leaves those that were there
  pub found_more : (new : Document) → t.documents ≡ s.documents ++ new ∷ [] → (doc : DocId) (d : Document) → document_of s doc ≡ Some d → document_of t doc ≡ Some d
  found_more new is doc d found =
      ap (λ (l : List Document). document_in l doc) is
      ∙ find-append (λ (x : Document). x.nr.0 == doc.0) s.documents (new ∷ [])
      ∙ ap (λ (o : Option Document). option_or o (document_in (new ∷ []) doc)) found

  -- ---- usable ones

  addressed_usable : (task : Task) → t.documents ≡ on_document job.doc (addressed task) s.documents → (doc : DocId) (d : Document) (state : StateId) → document_of s doc ≡ Some d → is_usable d state ≡ true → IsUsableAt t doc state
  addressed_usable task is doc d state found usable =
      record {
        d = cond (d.nr.0 == job.doc.0) (addressed task d) d;
        found = found_on (addressed task) (λ x. refl) is doc ∙ ap (option_map (λ (x : Document). cond (x.nr.0 == job.doc.0) (addressed task x) x)) found;
        usable = by_test (d.nr.0 == job.doc.0);
      }
    where
      by_test : (b : Bool) → (let x : Document = cond b (addressed task d) d in is_usable x state) ≡ true
      by_test true = usable
      by_test false = usable

  usable_by : (task : Task) → job.task ≡ task → DiscardsNone task → (doc : DocId) (d : Document) (state : StateId) → document_of s doc ≡ Some d → is_usable d state ≡ true → IsUsableAt t doc state
  usable_by (tasks.Activate entry epoch long at memo address) is none =
      addressed_usable (tasks.Activate entry epoch long at memo address) (documents_are (tasks.Activate entry epoch long at memo address) is)
  usable_by (tasks.Populate nav state_ address initial) is none = λ doc d state found usable.
      record { d = d; found = found_more (new_document s job nav state_) (documents_are (tasks.Populate nav state_ address initial) is) doc d found; usable = usable }
  usable_by (tasks.Update long at) is none =
      addressed_usable (tasks.Update long at) (documents_are (tasks.Update long at) is)
  usable_by tasks.Freeze is none = addressed_usable tasks.Freeze (documents_are tasks.Freeze is)
  usable_by tasks.Discard is never = absurd never
  usable_by (tasks.Ask slot cause) is none =
      addressed_usable (tasks.Ask slot cause) (documents_are (tasks.Ask slot cause) is)
  usable_by (tasks.DoFragment req mode address) is none =
      addressed_usable (tasks.DoFragment req mode address) (documents_are (tasks.DoFragment req mode address) is)

  pub usable_sent : DiscardsNone job.task → (doc : DocId) (d : Document) (state : StateId) → document_of s doc ≡ Some d → is_usable d state ≡ true → IsUsableAt t doc state
  usable_sent = usable_by job.task refl

-- ---- where one is usable then, one was before

-- each is changed so that it is usable then only if it was
usable_mapped : (g : Document → Document) (documents : List Document) (state : StateId) → ((d : Document) → is_usable (g d) state ≡ true → is_usable d state ≡ true) → list_any (λ (d : Document). is_usable d state) (map g documents) ≡ true → list_any (λ (d : Document). is_usable d state) documents ≡ true
usable_mapped g documents state was some =
    let a = any_has (λ (d : Document). is_usable d state) (map g documents) some in
    let b = has_map g documents a.it a.there in
    has_any (λ (d : Document). is_usable d state) documents b.it b.there (was b.it (ap (λ (d : Document). is_usable d state) b.is ∙ a.passes))

usable_if : (test : Document → Bool) (f : Document → Document) (state : StateId) → ((d : Document) → is_usable (f d) state ≡ true → is_usable d state ≡ true) → (d : Document) → (let x : Document = cond (test d) (f d) d in is_usable x state) ≡ true → is_usable d state ≡ true
usable_if test f state was d = by_test (test d)
  where
    by_test : (b : Bool) → (let x : Document = cond b (f d) d in is_usable x state) ≡ true → is_usable d state ≡ true
    by_test true = was d
    by_test false = λ is. is

-- a document that isn't made is usable for none
usable_more : (documents : List Document) (new : Document) (state : StateId) → new.is_ready ≡ false → list_any (λ (d : Document). is_usable d state) (documents ++ new ∷ []) ≡ true → list_any (λ (d : Document). is_usable d state) documents ≡ true
usable_more documents new state unready some = by_case (has_more documents new a.it a.there)
  where
    a : Passing (λ (d : Document). is_usable d state) (documents ++ new ∷ [])
    a = any_has (λ (d : Document). is_usable d state) (documents ++ new ∷ []) some

    ready_of : (d : Document) → is_usable d state ≡ true → d.is_ready ≡ true
    ready_of d usable =
        (and_parts (d.state.0 == state.0) d.is_ready (and_parts (d.state.0 == state.0 && d.is_ready) (not d.is_discarded) (and_parts (d.state.0 == state.0 && d.is_ready && not d.is_discarded) (not d.is_known_dead) usable).0).0).1

    by_case : Has documents a.it ⊎ (new ≡ a.it) → list_any (λ (d : Document). is_usable d state) documents ≡ true
    by_case (inl has) = has_any (λ (d : Document). is_usable d state) documents a.it has a.passes
    by_case (inr is) =
        let never : true ≡ false = sym (ready_of a.it a.passes) ∙ ap (λ (d : Document). d.is_ready) (sym is) ∙ unready in absurd cc

discarded_was : (d : Document) (state : StateId) → is_usable (record d { is_discarded = true }) state ≡ true → is_usable d state ≡ true
discarded_was d state is =
    let parts = and_parts (d.state.0 == state.0 && d.is_ready && false) (not d.is_known_dead) is in
    let never = (and_parts (d.state.0 == state.0 && d.is_ready) false parts.0).1 in absurd cc

module _ (s : Seen) (event : ℕ) (actor : Actor) (job : Job) (state : StateId) where
  addressed_was : (task : Task) → list_any (λ (d : Document). is_usable d state) (on_document job.doc (addressed task) s.documents) ≡ true → HasUsable s state
  addressed_was task =
      usable_mapped (λ (d : Document). cond (d.nr.0 == job.doc.0) (addressed task d) d) s.documents state (usable_if (λ (d : Document). d.nr.0 == job.doc.0) (addressed task) state (λ d is. is))

  was_by : (task : Task) → list_any (λ (d : Document). is_usable d state) (documents_sent s job task) ≡ true → HasUsable s state
  was_by (tasks.Activate entry epoch long at memo address) = addressed_was (tasks.Activate entry epoch long at memo address)
  was_by (tasks.Populate nav state_ address initial) =
      usable_more s.documents (new_document s job nav state_) state refl
  was_by (tasks.Update long at) = addressed_was (tasks.Update long at)
  was_by tasks.Freeze = addressed_was tasks.Freeze
  was_by tasks.Discard =
      usable_mapped (λ (d : Document). cond (d.nr.0 == job.doc.0) (record d { is_discarded = true }) d) s.documents state (usable_if (λ (d : Document). d.nr.0 == job.doc.0) (λ (d : Document). record d { is_discarded = true }) state (λ d. discarded_was d state))
  was_by (tasks.Ask slot cause) = addressed_was (tasks.Ask slot cause)
  was_by (tasks.DoFragment req mode address) = addressed_was (tasks.DoFragment req mode address)

  -- no order makes one ready
  pub usable_was : HasUsable (next s event actor (rows.Sent job)) state → HasUsable s state
  usable_was = was_by job.task

-- ---- rooted ones

-- who is awake is so on a document that is there, and is rooted
pub record AreSeated (s : Seen) : Type 0 where
  pub there : (nav : NavId) (place : Place) (doc : DocId) → place_of s nav ≡ Some place → place.status ≡ awake doc → is_some (document_of s doc) ≡ true
  pub rooted : AreRooted s

-- an order that shows a document an entry shows it one of its navigable, which is in the history
abbrev pub ShowsEntry : Seen → DocId → Task → Type 0
ShowsEntry s doc (tasks.Activate entry epoch long at memo address) =
    (d : Document) → document_of s doc ≡ Some d → (row : Row) × (Has s.history.rows row) × (row.nav ≡ d.nav) × (row.entry ≡ entry)
ShowsEntry s doc _ = Unit {0}

-- the place was there, and is awake only on the document that it was awake on
pub record WasSeated (s : Seen) (nav : NavId) (place : Place) : Type 0 where
  pub old : Place
  pub placed : place_of s nav ≡ Some old
  pub wakes : (doc : DocId) → place.status ≡ awake doc → old.status ≡ awake doc
  pub nav_is : place.nav ≡ old.nav
  pub given : place.given ≡ old.given

-- or the order shows it the document, and an entry
pub record IsShownOne (s : Seen) (job : Job) (place : Place) : Type 0 where
  pub entry : EntryId
  pub epoch : Epoch
  pub long : ℕ
  pub at : ℕ
  pub memo : Option (List ℕ)
  pub address : List ℕ
  pub task : job.task ≡ tasks.Activate entry epoch long at memo address
  pub on : (doc : DocId) → place.status ≡ awake doc → doc ≡ job.doc
  pub d : Document
  pub found : document_of s job.doc ≡ Some d
  pub own : place.nav ≡ d.nav
  pub given : place.given ≡ Some entry

abbrev pub ComesFrom : Seen → Job → NavId → Place → Type 0
ComesFrom s job nav place = WasSeated s nav place ⊎ IsShownOne s job place

module _ (s : Seen) (event : ℕ) (actor : Actor) (job : Job) where
  abbrev u : Seen
  u = next s event actor (rows.Sent job)

  -- where no place changes
  same_from : u.places ≡ s.places → (nav : NavId) (place : Place) → place_of u nav ≡ Some place → ComesFrom s job nav place
  same_from same nav place placed =
      inl (record { old = place; placed = ap (λ (l : List Place). place_in l nav) (sym same) ∙ placed; wakes = λ doc on. on; nav_is = refl; given = refl })

  places_are : (task : Task) → job.task ≡ task → u.places ≡ places_sent s job task
  places_are task is = ap (λ (k : Task). places_sent s job k) is

  -- one that fell asleep isn't awake
  slept_from : (navs : List NavId) (old : Place) (nav : NavId) (place : Place) → place_of s nav ≡ Some old → slept navs job.why old ≡ place → ComesFrom s job nav place
  slept_from navs old nav place was is = by_test (has_nav navs old.nav) is
    where
      by_test : (b : Bool) → (let p : Place = cond b (record old { status = asleep; why = job.why }) old in p) ≡ place → ComesFrom s job nav place
      by_test true same =
          inl (record {
            old = old;
            placed = was;
            wakes = λ doc on. absurd (let never : asleep ≡ awake doc = ap (λ (p : Place). p.status) same ∙ on in cc);
            nav_is = ap (λ (p : Place). p.nav) (sym same);
            given = ap (λ (p : Place). p.given) (sym same);
          })
      by_test false same =
          inl (record { old = old; placed = was; wakes = λ doc on. ap (λ (p : Place). p.status) same ∙ on; nav_is = ap (λ (p : Place). p.nav) (sym same); given = ap (λ (p : Place). p.given) (sym same) })

  sleeps_from : (navs : List NavId) → ((nav : NavId) → place_of u nav ≡ option_map (slept navs job.why) (place_of s nav)) → (nav : NavId) (place : Place) → place_of u nav ≡ Some place → ComesFrom s job nav place
  sleeps_from navs become nav place placed = by_old (place_of s nav) refl
    where
      by_old : (o : Option Place) → place_of s nav ≡ o → ComesFrom s job nav place
      by_old None at =
          let never : None ≡ Some place = sym (become nav ∙ ap (option_map (slept navs job.why)) at) ∙ placed in absurd cc
      by_old (Some old) at =
          let both : Some (slept navs job.why old) ≡ Some place = sym (become nav ∙ ap (option_map (slept navs job.why)) at) ∙ placed in
          slept_from navs old nav place at (let same : slept navs job.why old ≡ place = cc in same)

  -- one that is shown the document was shown the entry
  shows_from : (d : Document) (entry : EntryId) (epoch : Epoch) (long at : ℕ) (memo : Option (List ℕ)) (address : List ℕ) → (task : job.task ≡ tasks.Activate entry epoch long at memo address) → (found : document_of s job.doc ≡ Some d) → (nav : NavId) (place : Place) → place_of u nav ≡ Some place → ComesFrom s job nav place
  shows_from d entry epoch long at memo address task found nav place placed =
      by_old (place_of s nav) refl
    where
      become : Place → Place
      become = becomes s event actor job d entry epoch long at memo address task found

      sleepers : List NavId
      sleepers = sleepers_of s job.doc d.nav

      by_test : (old : Place) → place_of s nav ≡ Some old → (b : Bool) → ((slept sleepers job.why old).nav.0 == d.nav.0) ≡ b → (let p : Place = cond b (activated job entry epoch d (slept sleepers job.why old)) (slept sleepers job.why old) in p) ≡ place → ComesFrom s job nav place
      by_test old was true own same =
          inr (record {
            entry = entry;
            epoch = epoch;
            long = long;
            at = at;
            memo = memo;
            address = address;
            task = task;
            on = λ doc wakes. (let on : awake job.doc ≡ awake doc = ap (λ (p : Place). p.status) same ∙ wakes in let doc_is : job.doc ≡ doc = cc in sym doc_is);
            d = d;
            found = found;
            own = ap (λ (p : Place). p.nav) (sym same) ∙ nav_is (slept sleepers job.why old).nav d.nav own;
            given = ap (λ (p : Place). p.given) (sym same);
          })
      by_test old was false own same = slept_from sleepers old nav place was same

      by_old : (o : Option Place) → place_of s nav ≡ o → ComesFrom s job nav place
      by_old None was =
          let never : None ≡ Some place = sym (place_becomes s event actor job d entry epoch long at memo address task found nav ∙ ap (option_map become) was) ∙ placed in absurd cc
      by_old (Some old) was =
          let both : Some (become old) ≡ Some place = sym (place_becomes s event actor job d entry epoch long at memo address task found nav ∙ ap (option_map become) was) ∙ placed in
          by_test old was ((slept sleepers job.why old).nav.0 == d.nav.0) refl (let same : become old ≡ place = cc in same)

  comes_by : (task : Task) → job.task ≡ task → (nav : NavId) (place : Place) → place_of u nav ≡ Some place → ComesFrom s job nav place
  comes_by (tasks.Activate entry epoch long at memo address) is = by_document (document_of s job.doc) refl
    where
      by_document : (o : Option Document) → document_of s job.doc ≡ o → (nav : NavId) (place : Place) → place_of u nav ≡ Some place → ComesFrom s job nav place
      by_document None none =
          same_from (places_are (tasks.Activate entry epoch long at memo address) is ∙ rw none refl)
      by_document (Some d) found = shows_from d entry epoch long at memo address is found
  comes_by tasks.Freeze is =
      sleeps_from (sleepers_with s job.doc) (place_sleeps s event actor job tasks.Freeze is tt)
  comes_by tasks.Discard is =
      sleeps_from (sleepers_with s job.doc) (place_sleeps s event actor job tasks.Discard is tt)
  comes_by (tasks.Populate nav state address initial) is =
      same_from (places_are (tasks.Populate nav state address initial) is)
  comes_by (tasks.Update long at) is = same_from (places_are (tasks.Update long at) is)
  comes_by (tasks.Ask slot cause) is = same_from (places_are (tasks.Ask slot cause) is)
  comes_by (tasks.DoFragment req mode address) is =
      same_from (places_are (tasks.DoFragment req mode address) is)

  -- where each place comes from
  pub comes_from : (nav : NavId) (place : Place) → place_of u nav ≡ Some place → ComesFrom s job nav place
  comes_from = comes_by job.task refl

  -- an entry that is shown, in the history
  record IsRowShown (place : Place) : Type 0 where
    row : Row
    has : Has s.history.rows row
    nav_is : row.nav ≡ place.nav
    given : place.given ≡ Some row.entry

  row_shown : ShowsEntry s job.doc job.task → (place : Place) → IsShownOne s job place → IsRowShown place
  row_shown shows place shown =
      record {
        row = its.0;
        has = its.1;
        nav_is = its.2 ∙ sym shown.own;
        given = shown.given ∙ ap (λ (e : EntryId). Some e) (sym its.3);
      }
    where
      its : (row : Row) × (Has s.history.rows row) × (row.nav ≡ shown.d.nav) × (row.entry ≡ shown.entry)
      its = subst (λ (k : Task). ShowsEntry s job.doc k) shown.task shows shown.d shown.found

  -- ---- documents, with their states

  -- a document that is there stays, and is of its state
  stays_of : (doc : DocId) → is_some (document_of s doc) ≡ true → state_in u.documents doc ≡ state_in s.documents doc
  stays_of doc some = by_task job.task refl
    where
      apart : MakesNone job.task → state_in u.documents doc ≡ state_in s.documents doc
      apart none = states_stay s (rows.Sent job) none doc

      made : (new : Document) → u.documents ≡ s.documents ++ new ∷ [] → (o : Option Document) → document_of s doc ≡ o → is_some o ≡ true → state_in u.documents doc ≡ state_in s.documents doc
      made new is None at never = absurd cc
      made new is (Some d) at sure =
          ap (option_map (λ (x : Document). x.state)) (found_more s event actor job new is doc d at) ∙ sym (ap (option_map (λ (x : Document). x.state)) at)

      by_task : (task : Task) → job.task ≡ task → state_in u.documents doc ≡ state_in s.documents doc
      by_task (tasks.Populate nav state address initial) is =
          made (new_document s job nav state) (documents_are s event actor job (tasks.Populate nav state address initial) is) (document_of s doc) refl some
      by_task (tasks.Activate entry epoch long at memo address) is =
          apart (subst (λ (k : Task). MakesNone k) (sym is) tt)
      by_task (tasks.Update long at) is = apart (subst (λ (k : Task). MakesNone k) (sym is) tt)
      by_task tasks.Freeze is = apart (subst (λ (k : Task). MakesNone k) (sym is) tt)
      by_task tasks.Discard is = apart (subst (λ (k : Task). MakesNone k) (sym is) tt)
      by_task (tasks.Ask slot cause) is = apart (subst (λ (k : Task). MakesNone k) (sym is) tt)
      by_task (tasks.DoFragment req mode address) is =
          apart (subst (λ (k : Task). MakesNone k) (sym is) tt)

  there_of : (doc : DocId) → is_some (document_of s doc) ≡ true → is_some (document_of u doc) ≡ true
  there_of doc some = by_both (document_of u doc) (document_of s doc) (stays_of doc some) some
    where
      by_both : (o v : Option Document) → option_map (λ (d : Document). d.state) o ≡ option_map (λ (d : Document). d.state) v → is_some v ≡ true → is_some o ≡ true
      by_both (Some d) v same sure = refl
      by_both None None same never = absurd cc
      by_both None (Some d) same sure = absurd cc

  -- its document before
  record WasOf (doc : DocId) (d : Document) : Type 0 where
    old : Document
    found : document_of s doc ≡ Some old
    state : old.state ≡ d.state

  was_of : (doc : DocId) (d : Document) → is_some (document_of s doc) ≡ true → document_of u doc ≡ Some d → WasOf doc d
  was_of doc d some found =
      by_old (document_of s doc) refl (sym (stays_of doc some) ∙ ap (option_map (λ (x : Document). x.state)) found)
    where
      by_old : (o : Option Document) → document_of s doc ≡ o → option_map (λ (x : Document). x.state) o ≡ Some d.state → WasOf doc d
      by_old None at is = absurd cc
      by_old (Some old) at is = record { old = old; found = at; state = cc }

  -- each order keeps it
  pub rooted_sent : ShowsEntry s job.doc job.task → AreSeated s → AreSeated u
  rooted_sent shows seated =
      record {
        there = λ nav place doc placed wakes. there_by nav place doc wakes (comes_from nav place placed);
        rooted = λ nav place doc d placed wakes found has. rooted_by nav place doc d wakes found has (comes_from nav place placed);
      }
    where
      there_by : (nav : NavId) (place : Place) (doc : DocId) → place.status ≡ awake doc → ComesFrom s job nav place → is_some (document_of u doc) ≡ true
      there_by nav place doc wakes (inl was) =
          there_of doc (seated.there nav was.old doc was.placed (was.wakes doc wakes))
      there_by nav place doc wakes (inr shown) =
          there_of doc (ap (λ (x : DocId). is_some (document_of s x)) (shown.on doc wakes) ∙ ap (λ (o : Option Document). is_some o) shown.found)

      -- a root stays one, with the same given entry
      again : (old place : Place) (one other : Document) → place.nav ≡ old.nav → place.given ≡ old.given → one.state ≡ other.state → IsRooted s old one → IsRooted u place other
      again old place one other navs given states (inl root) = inl (root.0, root.1, root.2 ∙ sym navs, given ∙ root.3)
      again old place one other navs given states (inr root) = inr (root.0, root.1, root.2 ∙ states, root.3)

      rooted_by : (nav : NavId) (place : Place) (doc : DocId) (d : Document) → place.status ≡ awake doc → document_of u doc ≡ Some d → has_state d.state u.history.rows ≡ true → ComesFrom s job nav place → IsRooted u place d
      rooted_by nav place doc d wakes found has (inl was) =
          let its = was_of doc d (seated.there nav was.old doc was.placed (was.wakes doc wakes)) found in
          again was.old place its.old d was.nav_is was.given its.state (seated.rooted nav was.old doc its.old was.placed (was.wakes doc wakes) its.found (ap (λ (x : StateId). has_state x s.history.rows) its.state ∙ has))
      rooted_by nav place doc d wakes found has (inr shown) =
          let its = row_shown shows place shown in inl (its.row, its.has, its.nav_is, its.given)

-- ---- over any orders

-- who is awake stays seated
pub record KeepsSeats (s t : Seen) : Type 0 where
  pub history : t.history ≡ s.history
  pub seated : AreSeated s → AreSeated t

pub seats_none : (s : Seen) → KeepsSeats s s
seats_none s = record { history = refl; seated = λ are. are }

pub seats_then : (s t u : Seen) → KeepsSeats s t → KeepsSeats t u → KeepsSeats s u
seats_then s t u one two =
    record {
      history = two.history ∙ one.history;
      seated = λ are. two.seated (one.seated are);
    }

-- each order keeps them
pub seats_sent : (s : Seen) (event : ℕ) (actor : Actor) (job : Job) → ShowsEntry s job.doc job.task → KeepsSeats s (next s event actor (rows.Sent job))
seats_sent s event actor job shows =
    record {
      history = refl;
      seated = rooted_sent s event actor job shows;
    }

-- ---- rows that are no orders

module _ (s : Seen) (event : ℕ) (actor : Actor) (are : AreRooted s) where
  -- a request is dropped
  pub dropped_rooted : (req : ReqId) (cause : Cause) → AreRooted (next s event actor (rows.Dropped req cause))
  dropped_rooted req cause = are

  -- or refused
  pub refused_rooted : (req : ReqId) (reason : Denial) → AreRooted (next s event actor (rows.Refused req reason))
  refused_rooted req reason = are

  -- or begins, as a traversal does
  pub started_rooted : (req : ReqId) (goal : Option Step) → AreRooted (next s event actor (rows.Started req goal))
  started_rooted req goal = are
