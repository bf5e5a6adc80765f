-- What lasts is kept by each order that is sent: one that makes a document, shows one, tells it something, asks it, sends it to a fragment, freezes or discards it.
use Rattle.seen_facts.proofs.Coord.Unread.{next}
use Rattle.seen_facts.proofs.Doc.Makes.{MakesNone}
use Rattle.seen_facts.specs.Doc.Docs.{HasPlace}
use Rattle.tab_facts.proofs.Frame.Moves.{ServesNoneToBegin, moves_again}
use Rattle.tab_facts.proofs.Frame.Naming.{sent_names}
use Rattle.tab_facts.proofs.Frame.Orders.{run_shown, sent_takers, wish_blind}
use Rattle.tab_facts.proofs.Frame.Placed.{KeepPlaces, places_keep}
use Rattle.tab_facts.specs.Frame.Lasting.{NamesItsState, wish}
use Rattle.tab_facts.specs.Frame.Moving.{AreMoves, course}
use Rattle.tab_facts.proofs.Last.Moved.{AllPlaced, MayMove, moved_more, none_placed, one_placed, served_moves, shown_placed, slept_placed}
use Rattle.tab_facts.proofs.Last.Parts.{StayDocs, again, docs_if, docs_more, taken_again}
use Rattle.tab_facts.specs.Last.Lasting.{AreLasting}
use Rattle.log_model.proofs.Refl.{nat_eq_refl}
use Rattle.log_model.specs.AfterDocuments.{addressed, documents_sent, new_document, on_document}
use Rattle.log_model.specs.AfterPlaces.{sleepers_below, sleepers_with}
use Rattle.log_model.specs.AfterRequests.{on_served, request_served, requests_sent, with_activated, with_moved}
use Rattle.log_model.specs.Seen.{Asked, Document, Seen, document_of, place_of}
use Rattle.log_model.specs.declared.handler.LeaveCause.{LeaveCause}
use Rattle.log_model.specs.declared.job.Job.{Job}
use Rattle.log_model.specs.declared.job.Task.{Task}
use Rattle.log_model.specs.declared.request.Mode.{Mode}
use Rattle.log_model.specs.declared.row_kind.Actor.{Actor}
use Rattle.seen_facts.proofs.Request.Readers.{SameReads, on_read, sent_reads}
use Rattle.seen_laws.proofs.Keyed.{find_has}
use Rattle.std.proofs.Common.{Bool, List, None, Option, Some, [], ap, arith, cond, false, inl, inr, length, refl, subst, sym, true, ℕ, ◌++◌, ◌+◌, ◌==◌, ◌∙◌, ◌∷◌, ◌≡◌, ◌≤◌}
use Rattle.std.specs.Option.{option_map_or}
use Rattle.std.specs.Prelude.{find}
use Rattle.tab_ids.specs.declared.DocId.{DocId}
use Rattle.tab_ids.specs.declared.EntryId.{EntryId}
use Rattle.tab_ids.specs.declared.Epoch.{Epoch}
use Rattle.tab_ids.specs.declared.NavId.{NavId}
use Rattle.tab_ids.specs.declared.ReqId.{ReqId}
use Rattle.tab_ids.specs.declared.StateId.{StateId}
use Rattle.log_model.specs.declared.job.Task.TheVariants as tasks
use Rattle.log_model.specs.declared.row_kind.RowKind.TheVariants as rows

-- ---- numbers

-- the next number is no document's
pub next_unused : (s : Seen) (doc : DocId) → doc.0 ≡ length s.documents + 1 → ((d : Document) → document_of s doc ≡ Some d → d.nr.0 ≤ length s.documents) → document_of s doc ≡ None
next_unused s doc next_ counted = by_found (document_of s doc) refl
  where
    by_found : (o : Option Document) → document_of s doc ≡ o → document_of s doc ≡ None
    by_found None e = e
    by_found (Some d) e =
        let low : d.nr.0 ≤ length s.documents = counted d e in
        let number : d.nr.0 ≡ doc.0 = find_has (λ (x : Document). x.nr.0) doc.0 s.documents d e in
        absurd (omega (arith, low, number, next_))

-- the last of a list, where none before it passes
find_last : {A : Type 0} (test : A → Bool) (xs : List A) (y : A) → find test xs ≡ None → test y ≡ true → find test (xs ++ y ∷ []) ≡ Some y
find_last test [] y none own = rw own refl
find_last {A} test (z ∷ xs) y none own = by_test (test z) none (λ less. find_last test xs y less own)
  where
    by_test : (b : Bool) → (let o : Option A = cond b (Some z) (find test xs) in o) ≡ None → (find test xs ≡ None → find test (xs ++ y ∷ []) ≡ Some y) → (let o : Option A = cond b (Some z) (find test (xs ++ y ∷ [])) in o) ≡ Some y
    by_test true e more = absurd cc
    by_test false e more = more e

module _ (s : Seen) (event : ℕ) (actor : Actor) (is : AreLasting s) (job : Job) where
  abbrev sent : Seen
  sent = next s event actor (rows.Sent job)

  keep : KeepPlaces s.places sent.places
  keep = places_keep s event actor (rows.Sent job) tt

  wishes : SameReads wish s.requests sent.requests
  wishes = sent_reads wish wish_blind s job job.task s.requests

  -- ---- documents

  addressed_stay : (task : Task) → StayDocs s.documents (on_document job.doc (addressed task) s.documents)
  addressed_stay task =
      docs_if s.documents (λ (d : Document). d.nr.0 == job.doc.0) (addressed task) (record { nr = λ d. refl; nav = λ d. refl; state = λ d. refl; proc = λ d. refl; discarded = λ d kept. kept }) (λ d shown. run_shown (addressed task) d refl shown)

  discarded_stay : StayDocs s.documents (documents_sent s job tasks.Discard)
  discarded_stay =
      docs_if s.documents (λ (d : Document). d.nr.0 == job.doc.0) gone (record { nr = λ d. refl; nav = λ d. refl; state = λ d. refl; proc = λ d. refl; discarded = λ d never. absurd cc }) (λ d shown. run_shown gone d refl shown)
    where
      gone : Document → Document
      gone d = record d { is_discarded = true }

  stay : (task : Task) → MakesNone task → StayDocs s.documents (documents_sent s job task)
  stay (tasks.Populate nav state address initial) never = absurd never
  stay (tasks.Activate entry epoch long at memo address) none = addressed_stay (tasks.Activate entry epoch long at memo address)
  stay (tasks.Update long at) none = addressed_stay (tasks.Update long at)
  stay tasks.Freeze none = addressed_stay tasks.Freeze
  stay tasks.Discard none = discarded_stay
  stay (tasks.Ask slot cause) none = addressed_stay (tasks.Ask slot cause)
  stay (tasks.DoFragment req mode address) none = addressed_stay (tasks.DoFragment req mode address)

  -- an order that makes no document
  plainly : MakesNone job.task → AreMoves sent → AreLasting sent
  plainly none moves =
      again s sent (stay job.task none) wishes (taken_again s sent (sent_takers s job job.task) refl is.taken) (λ proc are. sent_names s event actor job sent.documents names_none proc are) moves is
    where
      names_none : NamesItsState sent.documents job
      names_none nav state address initial made = absurd (subst MakesNone made none)

  -- ---- whom its request has moved

  -- nobody more
  still_moves : (task : Task) → job.task ≡ task → SameReads course s.requests (requests_sent s job task s.requests) → AreMoves sent
  still_moves task task_is same =
      moves_again s sent (subst (λ (k : Task). SameReads course s.requests (requests_sent s job k s.requests)) (sym task_is) same) wishes keep is.moves

  -- these
  more_moves : (task : Task) (navs : List NavId) → job.task ≡ task → requests_sent s job task s.requests ≡ on_served job.why (request_served s job task) s.requests → ((q : Asked) → course (request_served s job task q) ≡ moved_more navs q) → AllPlaced s.places navs → MayMove s job.why navs → AreMoves sent
  more_moves task navs task_is requests adds placed may =
      served_moves s job.why navs may sent (request_served s job task) adds placed (ap (λ (k : Task). requests_sent s job k s.requests) task_is ∙ requests) wishes keep is.moves

  -- ---- the orders

  -- an order tells a document length and index
  pub told_lasting : (long at : ℕ) → job.task ≡ tasks.Update long at → AreLasting sent
  told_lasting long at task =
      plainly (subst MakesNone (sym task) tt) (still_moves (tasks.Update long at) task (λ r. refl))

  -- sends it to a fragment
  pub fragment_lasting : (req : ReqId) (mode : Mode) (address : List ℕ) → job.task ≡ tasks.DoFragment req mode address → AreLasting sent
  fragment_lasting req mode address task =
      plainly (subst MakesNone (sym task) tt) (still_moves (tasks.DoFragment req mode address) task (on_read course s.requests req (λ q. record q { fragment = Some job.doc }) (λ q. refl)))

  -- asks it
  pub asked_lasting : (slot : ℕ) (cause : LeaveCause) → job.task ≡ tasks.Ask slot cause → AreLasting sent
  asked_lasting slot cause task =
      plainly (subst MakesNone (sym task) tt) (more_moves (tasks.Ask slot cause) [] task refl (λ q. refl) (none_placed s.places) (inl refl))

  -- freezes it
  pub frozen_lasting : job.task ≡ tasks.Freeze → MayMove s job.why (sleepers_with s job.doc) → AreLasting sent
  frozen_lasting task may =
      plainly (subst MakesNone (sym task) tt) (more_moves tasks.Freeze (sleepers_with s job.doc) task refl (λ q. refl) (slept_placed s job.doc) may)

  -- discards it
  pub discarded_lasting : job.task ≡ tasks.Discard → MayMove s job.why (sleepers_with s job.doc) → AreLasting sent
  discarded_lasting task may =
      plainly (subst MakesNone (sym task) tt) (more_moves tasks.Discard (sleepers_with s job.doc) task refl (λ q. refl) (slept_placed s job.doc) may)

  -- shows one, of a navigable that has a place, for no traversal that is still to begin
  pub shown_lasting : (entry : EntryId) (epoch : Epoch) (long at : ℕ) (memo : Option (List ℕ)) (address : List ℕ) → job.task ≡ tasks.Activate entry epoch long at memo address → ((d : Document) → document_of s job.doc ≡ Some d → HasPlace s.places d.nav) → ServesNoneToBegin s job.why → AreLasting sent
  shown_lasting entry epoch long at memo address task placed begun =
      plainly (subst MakesNone (sym task) tt) (more_moves (tasks.Activate entry epoch long at memo address) (moved_of (document_of s job.doc)) task refl (λ q. adds q (document_of s job.doc)) (each_placed (document_of s job.doc) refl) (inr begun))
    where
      asleep_for : Document → List NavId
      asleep_for d = option_map_or (sleepers_below s job.doc) (place_of s d.nav) []

      -- the navigable, and who falls asleep below it
      moved_of : Option Document → List NavId
      moved_of o = option_map_or (λ (d : Document). d.nav ∷ asleep_for d) o []

      adds : (q : Asked) (o : Option Document) → course (option_map_or (λ (d : Document). with_activated d.nav (with_moved (option_map_or (sleepers_below s job.doc) (place_of s d.nav) []) q)) o q) ≡ moved_more (moved_of o) q
      adds q None = refl
      adds q (Some d) = refl

      each_placed : (o : Option Document) → document_of s job.doc ≡ o → AllPlaced s.places (moved_of o)
      each_placed None e = none_placed s.places
      each_placed (Some d) e =
          let own = placed d e in
          one_placed s.places d.nav (asleep_for d) (record { place = own.place; found = own.found }) (shown_placed s job.doc (place_of s d.nav))

  -- makes one, under a number that no document has
  pub making_lasting : (nav : NavId) (state : StateId) (address : List ℕ) (initial : Bool) → job.task ≡ tasks.Populate nav state address initial → document_of s job.doc ≡ None → AreLasting sent
  making_lasting nav state address initial task unused =
      again s sent (subst (StayDocs s.documents) (sym documents) (docs_more s.documents new refl)) wishes (taken_again s sent (sent_takers s job job.task) refl is.taken)
      (λ proc are. sent_names s event actor job sent.documents (subst (λ (l : List Document). NamesItsState l job) (sym documents) its_state) proc are)
      (still_moves (tasks.Populate nav state address initial) task (λ r. refl)) is
    where
      new : Document
      new = new_document s job nav state

      documents : sent.documents ≡ s.documents ++ new ∷ []
      documents = ap (λ (t : Task). documents_sent s job t) task

      its_state : NamesItsState (s.documents ++ new ∷ []) job
      its_state nav_ state_ address_ initial_ made =
          let one : tasks.Populate nav state address initial ≡ tasks.Populate nav_ state_ address_ initial_ = sym task ∙ made in
          record {
            d = new;
            found = find_last (λ (x : Document). x.nr.0 == job.doc.0) s.documents new unused (nat_eq_refl job.doc.0);
            state_is = (let same : state ≡ state_ = cc in same);
          }
