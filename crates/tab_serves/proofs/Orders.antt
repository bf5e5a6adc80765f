-- What the orders of a walk keep, one after the other.
use Rattle.tab_walk.specs.PassedOn.{length_index}
use Rattle.seen_laws.specs.Unasked.{is_question}
use Rattle.seen_facts.specs.Hang.Members.{Has}
use Rattle.row_facts.proofs.Left.Rows.{were_shown}
use Rattle.row_facts.specs.Left.Left.{WereShown}
use Rattle.seen_facts.specs.Load.Loading.{look}
use Rattle.log_model.specs.After.{after}
use Rattle.log_model.specs.AfterPlaces.{activated, on_place, places_sent, put_to_sleep, sleepers_below, sleepers_with}
use Rattle.log_model.specs.AfterRequests.{request_served, requests_sent}
use Rattle.log_model.specs.History.{has_nav}
use Rattle.log_model.specs.Places.{all_stand, aim_of}
use Rattle.log_model.specs.Seen.{Asked, Document, Place, Seen, asleep, document_of, place_of}
use Rattle.log_model.specs.declared.job.Job.{Job}
use Rattle.log_model.specs.declared.job.Task.{Task}
use Rattle.log_model.specs.declared.job.Why.{Why}
use Rattle.log_model.specs.declared.row_kind.RowKind.{RowKind}
use Rattle.seen_facts.proofs.Mover.Places.{any_behind, same_ways, sleep_ways, ways_both, ways_if, ways_mapped}
use Rattle.seen_facts.proofs.Mover.Stays.{KeepWays}
use Rattle.seen_facts.specs.Mover.Movers.{IsMovedBy}
use Rattle.seen_facts.proofs.Asked.Passed.{have_passed}
use Rattle.row_facts.proofs.Owed.Requests.{AsksNone}
use Rattle.seen_facts.specs.Asked.Asking.{HavePassed}
use Rattle.seen_laws.proofs.InEvents.{now_step}
use Rattle.seen_laws.specs.InEvent.{InEvent, now_of, row_of}
use Rattle.std.proofs.Common.{Bool, List, None, Option, Some, [], ap, append-nil, append_assoc, cond, false, inl, inr, map, refl, subst, sym, true, ◌++◌, ◌==◌, ◌∙◌, ◌∷◌, ◌≡◌}
use Rattle.std.specs.Option.{option_map_or}
use Rattle.std.specs.Prelude.{is_some, option_map}
use Rattle.tab_ids.specs.declared.NavId.{NavId}
use Rattle.tab_ids.specs.declared.ReqId.{ReqId}
use Rattle.tab_walk.proofs.Overs.{only_as, order_goes}
use Rattle.tab_walk.specs.Moving.{HasOnly}
use Rattle.tab_serves.specs.Serving.{HasOnlyServed, IsOfWalk, IsServeFor, ParentsShown}
use Rattle.seen_facts.proofs.Walk.Aims.{blur, on_served_blur}
use Rattle.seen_facts.proofs.Walk.Sleepers.{becomes, place_becomes, shown_on, sleepers_of, slept, slept_same, shown_same}
use Rattle.row_facts.proofs.WalkRows.Moved.{sent_moved}
use Rattle.row_facts.proofs.WalkRows.Needs.{sent_stood}
use Rattle.row_facts.proofs.WalkRows.Sleeping.{place_sleeps}
use Rattle.log_model.specs.declared.job.Task.TheVariants as tasks
use Rattle.log_model.specs.declared.row_kind.RowKind.TheVariants as rows

-- ---- one after the other

-- the row is such an order
pub record IsOrderOf (Is : Task → Type 0) (row : RowKind) : Type 0 where
  pub job : Job
  pub is : row ≡ rows.Sent job
  pub task : Is job.task

-- none of these asks anybody
abbrev pub AskNobody : (Task → Type 0) → Type 0
AskNobody Is = (task : Task) → Is task → is_question task ≡ false

-- none of a walk does
pub walk_quiet : AskNobody IsOfWalk
walk_quiet (tasks.Ask slot cause) never = absurd never
walk_quiet (tasks.Activate entry epoch length index memo address) is = refl
walk_quiet (tasks.Populate nav state address initial) is = refl
walk_quiet tasks.Freeze is = refl
walk_quiet tasks.Discard is = refl
walk_quiet (tasks.Update long at) is = refl
walk_quiet (tasks.DoFragment req mode address) is = refl

-- nor one that tells length and index
pub tells_quiet : AskNobody (λ task. length_index task ≡ true)
tells_quiet (tasks.Ask slot cause) never = absurd cc
tells_quiet (tasks.Activate entry epoch length index memo address) is = refl
tells_quiet (tasks.Populate nav state address initial) is = refl
tells_quiet tasks.Freeze is = refl
tells_quiet tasks.Discard is = refl
tells_quiet (tasks.Update long at) is = refl
tells_quiet (tasks.DoFragment req mode address) is = refl

-- what each such order keeps
abbrev pub KeptByEach : (Task → Type 0) → (Seen → Type 0) → Type 0
KeptByEach Is P = (s : Seen) (e : InEvent) (job : Job) → Is job.task → P s → P (after s (row_of e (rows.Sent job)))

over_rows : (Is : Task → Type 0) → AskNobody Is → (P : Seen → Type 0) → KeptByEach Is P → (e : InEvent) (out more : List RowKind) → ((row : RowKind) → Has more row → IsOrderOf Is row) → P (now_of e out) → P (now_of e (out ++ more))
over_rows Is quiet P step e out [] each so = subst (λ (l : List RowKind). P (now_of e l)) (sym (append-nil out)) so
over_rows Is quiet P step e out (row ∷ more) each so =
    subst (λ (l : List RowKind). P (now_of e l)) (append_assoc out (row ∷ []) more)
    (over_rows Is quiet P step e (out ++ row ∷ []) more (λ other there. each other (inr there)) (now_step P e out row (order_goes e out row (record { job = its.job; is = its.is; quiet = quiet its.job.task its.task })) (λ was. one was) so))
  where
    its : IsOrderOf Is row
    its = each row (inl refl)

    one : P (now_of e out) → P (after (now_of e out) (row_of e row))
    one was = subst (λ (k : RowKind). P (after (now_of e out) (row_of e k))) (sym its.is) (step (now_of e out) e its.job its.task was)

-- all of them keep it
pub over_orders : (Is : Task → Type 0) → AskNobody Is → (P : Seen → Type 0) → KeptByEach Is P → (e : InEvent) (was out : List RowKind) → HasOnly (IsOrderOf Is) was out → P (now_of e was) → P (now_of e out)
over_orders Is quiet P step e was out only so =
    subst (λ (l : List RowKind). P (now_of e l)) (sym only.is) (over_rows Is quiet P step e was only.more only.each so)

-- those of a walk
pub walk_orders : (run : Option ReqId) (cause : Why) (was out : List RowKind) → HasOnlyServed run cause was out → HasOnly (IsOrderOf IsOfWalk) was out
walk_orders run cause was out only =
    only_as (IsServeFor run cause) (IsOrderOf IsOfWalk) was out (λ row it. record { job = it.job; is = it.is; task = it.serves }) only

-- ---- one order

asks_none : (task : Task) → IsOfWalk task → AsksNone task
asks_none (tasks.Activate entry epoch length index memo address) is = tt
asks_none (tasks.Populate nav state address initial) is = tt
asks_none tasks.Freeze is = tt
asks_none tasks.Discard is = tt
asks_none _ is = absurd is

-- what is read of the requests
look_blur : (asked : List Asked) → map look asked ≡ map look (map blur asked)
look_blur [] = refl
look_blur (q ∷ asked) = ap (λ (l : List _). look q ∷ l) (look_blur asked)

sent_blur : (s : Seen) (job : Job) (task : Task) → IsOfWalk task → map blur (requests_sent s job task s.requests) ≡ map blur s.requests
sent_blur s job (tasks.Populate nav state address initial) is = refl
sent_blur s job tasks.Freeze is = on_served_blur job.why (request_served s job tasks.Freeze) s.requests (λ q. refl)
sent_blur s job tasks.Discard is = on_served_blur job.why (request_served s job tasks.Discard) s.requests (λ q. refl)
sent_blur s job (tasks.Activate entry epoch length index memo address) is =
    on_served_blur job.why (request_served s job (tasks.Activate entry epoch length index memo address)) s.requests (λ q. by_document q (document_of s job.doc) refl)
  where
    by_document : (q : Asked) (o : Option Document) → document_of s job.doc ≡ o → blur (request_served s job (tasks.Activate entry epoch length index memo address) q) ≡ blur q
    by_document q None at = rw at refl
    by_document q (Some d) at = rw at refl
sent_blur s job _ is = absurd is

sent_looks : (s : Seen) (e : InEvent) (job : Job) → IsOfWalk job.task → map look (after s (row_of e (rows.Sent job))).requests ≡ map look s.requests
sent_looks s e job is =
    look_blur (requests_sent s job job.task s.requests) ∙ ap (map look) (sent_blur s job job.task is) ∙ sym (look_blur s.requests)

-- each place hangs as before, and was given what it was
sent_ways : (s : Seen) (job : Job) (task : Task) → IsOfWalk task → KeepWays s.places (places_sent s job task)
sent_ways s job (tasks.Activate entry epoch length index memo address) is = by_document (document_of s job.doc)
  where
    by_document : (o : Option Document) → KeepWays s.places (option_map_or (λ (d : Document). on_place d.nav (activated job entry epoch d) (put_to_sleep (option_map_or (sleepers_below s job.doc) (place_of s d.nav) []) job.why s.places)) o s.places)
    by_document None = same_ways s.places
    by_document (Some d) =
        let asleep_ : List Place = put_to_sleep (option_map_or (sleepers_below s job.doc) (place_of s d.nav) []) job.why s.places in
        ways_both s.places asleep_ _ (sleep_ways (option_map_or (sleepers_below s job.doc) (place_of s d.nav) []) job.why s.places)
        (ways_mapped (λ (p : Place). cond (p.nav.0 == d.nav.0) (activated job entry epoch d p) p) asleep_ (ways_if (λ (p : Place). p.nav.0 == d.nav.0) (activated job entry epoch d) (record { nav = λ p. refl; above = λ p. refl; given = λ p test any. any_behind test entry p.ever_given any })))
sent_ways s job tasks.Freeze is = sleep_ways (sleepers_with s job.doc) job.why s.places
sent_ways s job tasks.Discard is = sleep_ways (sleepers_with s job.doc) job.why s.places
sent_ways s job (tasks.Populate nav state address initial) is = same_ways s.places
sent_ways s job _ is = absurd is

-- each place is changed so: it hangs where it did, it was shown a document if it had been, and who took its entries stays
pub record IsChanged (s t : Seen) : Type 0 where
  pub g : Place → Place
  pub places : (nav : NavId) → place_of t nav ≡ option_map g (place_of s nav)
  pub ways : (p : Place) → (g p).above ≡ p.above
  pub shown : (p : Place) → is_some p.last ≡ true → is_some (g p).last ≡ true
  pub taken : (p : Place) → (g p).taken_by ≡ p.taken_by

-- so each navigable above another was shown a document
parents_changed : (s t : Seen) → IsChanged s t → ParentsShown s → ParentsShown t
parents_changed s t it are nav above place up placed has there =
    by_old (place_of s nav) refl (place_of s above) refl
  where
    by_old : (o : Option Place) → place_of s nav ≡ o → (u : Option Place) → place_of s above ≡ u → is_some up.last ≡ true
    by_old None at u up_at =
        let never : None ≡ Some place = sym (it.places nav ∙ ap (option_map it.g) at) ∙ placed in absurd cc
    by_old (Some old) at None up_at =
        let never : None ≡ Some up = sym (it.places above ∙ ap (option_map it.g) up_at) ∙ there in absurd cc
    by_old (Some old) at (Some old_up) up_at =
        let both : Some (it.g old) ≡ Some place = sym (it.places nav ∙ ap (option_map it.g) at) ∙ placed in
        let same : it.g old ≡ place = cc in
        let both_up : Some (it.g old_up) ≡ Some up = sym (it.places above ∙ ap (option_map it.g) up_at) ∙ there in
        let same_up : it.g old_up ≡ up = cc in
        let had : has_nav old.above above ≡ true = ap (λ (l : List NavId). has_nav l above) (sym (it.ways old) ∙ ap (λ (p : Place). p.above) same) ∙ has in
        ap (λ (p : Place). is_some p.last) (sym same_up) ∙ it.shown old_up (are nav above old old_up at had up_at)

-- and who took the entries of each is as before
taken_changed : (s t : Seen) → IsChanged s t → (nav : NavId) → option_map (λ (p : Place). p.taken_by) (place_of t nav) ≡ option_map (λ (p : Place). p.taken_by) (place_of s nav)
taken_changed s t it nav = ap (option_map (λ (p : Place). p.taken_by)) (it.places nav) ∙ by_old (place_of s nav)
  where
    by_old : (o : Option Place) → option_map (λ (p : Place). p.taken_by) (option_map it.g o) ≡ option_map (λ (p : Place). p.taken_by) o
    by_old None = refl
    by_old (Some p) = ap (λ (by : Option ReqId). Some by) (it.taken p)

slept_last : (navs : List NavId) (why : Why) (p : Place) → is_some p.last ≡ true → is_some (slept navs why p).last ≡ true
slept_last navs why p is = by_test (has_nav navs p.nav)
  where
    by_test : (b : Bool) → is_some (let q : Place = cond b (record p { status = asleep; why = why }) p in q).last ≡ true
    by_test true = is
    by_test false = is

slept_taken : (navs : List NavId) (why : Why) (p : Place) → (slept navs why p).taken_by ≡ p.taken_by
slept_taken navs why p = by_test (has_nav navs p.nav)
  where
    by_test : (b : Bool) → (let q : Place = cond b (record p { status = asleep; why = why }) p in q).taken_by ≡ p.taken_by
    by_test true = refl
    by_test false = refl

unchanged : (s t : Seen) → ((nav : NavId) → place_of t nav ≡ place_of s nav) → IsChanged s t
unchanged s t same =
    record { g = λ p. p; places = λ nav. same nav ∙ itself (place_of s nav); ways = λ p. refl; shown = λ p is. is; taken = λ p. refl }
  where
    itself : (o : Option Place) → o ≡ option_map (λ p. p) o
    itself None = refl
    itself (Some p) = refl

sent_changed : (s : Seen) (e : InEvent) (job : Job) (task : Task) → job.task ≡ task → IsOfWalk task → IsChanged s (after s (row_of e (rows.Sent job)))
sent_changed s e job (tasks.Populate nav state address initial) at is =
    unchanged s (after s (row_of e (rows.Sent job))) (λ n. rw at refl)
sent_changed s e job tasks.Freeze at is =
    record {
      g = slept (sleepers_with s job.doc) job.why;
      places = place_sleeps s e.event e.actor job tasks.Freeze at tt;
      ways = λ p. (slept_same (sleepers_with s job.doc) job.why p).1;
      shown = slept_last (sleepers_with s job.doc) job.why;
      taken = slept_taken (sleepers_with s job.doc) job.why;
    }
sent_changed s e job tasks.Discard at is =
    record {
      g = slept (sleepers_with s job.doc) job.why;
      places = place_sleeps s e.event e.actor job tasks.Discard at tt;
      ways = λ p. (slept_same (sleepers_with s job.doc) job.why p).1;
      shown = slept_last (sleepers_with s job.doc) job.why;
      taken = slept_taken (sleepers_with s job.doc) job.why;
    }
sent_changed s e job (tasks.Activate entry epoch length index memo address) at is =
    by_document (document_of s job.doc) refl
  where
    t : Seen
    t = after s (row_of e (rows.Sent job))

    by_document : (o : Option Document) → document_of s job.doc ≡ o → IsChanged s t
    by_document None none = unchanged s t (λ n. rw at (rw none refl))
    by_document (Some d) found =
        record {
          g = becomes s e.event e.actor job d entry epoch length index memo address at found;
          places = place_becomes s e.event e.actor job d entry epoch length index memo address at found;
          ways = λ p. (shown_same d.nav job entry epoch d (slept (sleepers_of s job.doc d.nav) job.why p)).1 ∙ (slept_same (sleepers_of s job.doc d.nav) job.why p).1;
          shown = λ p shown. shown_last (slept (sleepers_of s job.doc d.nav) job.why p) (slept_last (sleepers_of s job.doc d.nav) job.why p shown);
          taken = λ p. shown_taken (slept (sleepers_of s job.doc d.nav) job.why p) ∙ slept_taken (sleepers_of s job.doc d.nav) job.why p;
        }
      where
        shown_last : (p : Place) → is_some p.last ≡ true → is_some (shown_on d.nav job entry epoch d p).last ≡ true
        shown_last p is_ = by_test (p.nav.0 == d.nav.0)
          where
            by_test : (b : Bool) → is_some (let q : Place = cond b (activated job entry epoch d p) p in q).last ≡ true
            by_test true = refl
            by_test false = is_

        shown_taken : (p : Place) → (shown_on d.nav job entry epoch d p).taken_by ≡ p.taken_by
        shown_taken p = by_test (p.nav.0 == d.nav.0)
          where
            by_test : (b : Bool) → (let q : Place = cond b (activated job entry epoch d p) p in q).taken_by ≡ p.taken_by
            by_test true = refl
            by_test false = refl
sent_changed s e job _ at is = absurd is

-- ---- all of them

module _ (e : InEvent) (was out : List RowKind) (only : HasOnly (IsOrderOf IsOfWalk) was out) where
  abbrev s : Seen
  s = now_of e was

  abbrev t : Seen
  t = now_of e out

  pub moved_over : (why : Why) (nav : NavId) → IsMovedBy s why nav → IsMovedBy t why nav
  moved_over why nav =
      over_orders IsOfWalk walk_quiet (λ (x : Seen). IsMovedBy x why nav) (λ x event job is by. sent_moved x event.event event.actor why nav by job (asks_none job.task is)) e was out only

  pub were_over : WereShown s → WereShown t
  were_over =
      over_orders IsOfWalk walk_quiet WereShown (λ x event job is were. were_shown x event.event event.actor were (rows.Sent job) tt) e was out only

  pub looks_over : map look t.requests ≡ map look s.requests
  looks_over =
      over_orders IsOfWalk walk_quiet (λ (x : Seen). map look x.requests ≡ map look s.requests) (λ x event job is same. sent_looks x event job is ∙ same) e was out only refl

  pub ways_over : (places : List Place) → KeepWays places s.places → KeepWays places t.places
  ways_over places =
      over_orders IsOfWalk walk_quiet (λ (x : Seen). KeepWays places x.places) (λ x event job is ways. ways_both places x.places _ ways (sent_ways x job job.task is)) e was out only

  pub parents_over : ParentsShown s → ParentsShown t
  parents_over =
      over_orders IsOfWalk walk_quiet ParentsShown (λ x event job is are. parents_changed x (after x (row_of event (rows.Sent job))) (sent_changed x event job job.task refl is) are) e was out only

  -- who took the entries of each
  pub taken_over : (nav : NavId) → option_map (λ (p : Place). p.taken_by) (place_of t nav) ≡ option_map (λ (p : Place). p.taken_by) (place_of s nav)
  taken_over nav =
      over_orders IsOfWalk walk_quiet (λ (x : Seen). option_map (λ (p : Place). p.taken_by) (place_of x nav) ≡ option_map (λ (p : Place). p.taken_by) (place_of s nav)) (λ x event job is same. taken_changed x (after x (row_of event (rows.Sent job))) (sent_changed x event job job.task refl is) nav ∙ same) e was out only refl

  -- where all stand then, all stood before
  pub stood_over : HavePassed s → all_stand t (aim_of t) ≡ true → all_stand s (aim_of s) ≡ true
  stood_over passed =
      (over_orders IsOfWalk walk_quiet (λ (x : Seen). HavePassed x × (all_stand x (aim_of x) ≡ true → all_stand s (aim_of s) ≡ true)) (λ x event job is so. (
        have_passed x (row_of event (rows.Sent job)) (asks_none job.task is) tt so.0,
        λ all. so.1 (sent_stood x event.event event.actor job so.0 (asks_none job.task is) all),
      )) e was out only (passed, λ all. all)).1
