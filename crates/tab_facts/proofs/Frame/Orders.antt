-- What orders, and the rows that begin or end requests, leave of what lasts.
use Rattle.seen_facts.proofs.Coord.Unread.{dropped_left, next, refused_left, started_left}
use Rattle.tab_facts.proofs.Frame.Naming.{LeavesNames, left_names, sent_names}
use Rattle.tab_facts.proofs.Frame.Parts.{TakersWere, lasting_on, names_more, pokes_more, some_same, takers_map, takers_same, takers_then}
use Rattle.tab_facts.specs.Frame.Lasting.{IsKeptUnmade, IsLasting, IsMadeShown, IsRunShown, NameTheirStates, NamesItsState, PokesItsNav, wish}
use Rattle.tab_facts.specs.FrameTab.Alive.{AreThere}
use Rattle.seen_facts.specs.Home.Homes.{document_in}
use Rattle.seen_facts.proofs.Coord.Leadings.{doc_same}
use Rattle.log_model.specs.After.{addressed, documents_sent, new_document}
use Rattle.log_model.specs.declared.job.Why.{Why}
use Rattle.seen_laws.proofs.Keyed.{find_has as seen_number}
use Rattle.log_model.specs.AfterPlaces.{activated, on_place, places_sent, put_to_sleep, sleepers_below, sleepers_with}
use Rattle.log_model.specs.AfterRequests.{on_request, request_begun, requests_sent}
use Rattle.log_model.specs.History.{has_nav, has_row}
use Rattle.log_model.proofs.Refl.{nat_eq_refl}
use Rattle.log_model.specs.Seen.{Asked, Document, Place, Seen, asleep, desk_of, document_of, place_of}
use Rattle.log_model.specs.declared.job.Job.{Job}
use Rattle.log_model.specs.declared.job.Task.{Task}
use Rattle.log_model.specs.declared.outcome.Cause.{Cause}
use Rattle.log_model.specs.declared.outcome.Denial.{Denial}
use Rattle.log_model.specs.declared.row_kind.Actor.{Actor}
use Rattle.seen_facts.specs.Each.Runs.{EachAsked}
use Rattle.seen_facts.proofs.Request.Readers.{IsBlind, SameReads, on_read, reads_then, sent_reads}
use Rattle.std.proofs.Common.{Bool, List, None, Option, Some, [], ap, arith, cond, false, inl, inr, length, map, refl, subst, sym, true, ℕ, ◌++◌, ◌+◌, ◌==◌, ◌∙◌, ◌∷◌, ◌≡◌, ◌≤◌, ◌⊎◌}
use Rattle.std.proofs.lemmas.List.{map-id}
use Rattle.std.specs.Option.{option_map_or}
use Rattle.std.specs.Prelude.{find}
use Rattle.tab_ids.specs.declared.DocId.{DocId}
use Rattle.tab_ids.specs.declared.EntryId.{EntryId}
use Rattle.tab_ids.specs.declared.Epoch.{Epoch}
use Rattle.tab_ids.specs.declared.NavId.{NavId}
use Rattle.tab_ids.specs.declared.ProcId.{ProcId}
use Rattle.tab_ids.specs.declared.ReqId.{ReqId}
use Rattle.tab_ids.specs.declared.StateId.{StateId}
use Rattle.tab_ids.specs.declared.Step.{Step}
use Rattle.log_model.specs.declared.job.Task.TheVariants as tasks
use Rattle.log_model.specs.declared.outcome.Ending.TheVariants as endings
use Rattle.log_model.specs.declared.row_kind.RowKind.TheVariants as rows

-- ---- what is asked

pub wish_blind : IsBlind wish
wish_blind = record { moves = λ q activated moved. refl; asks = λ q asks. refl; fragments = λ q doc. refl; misses = λ q is. refl }

-- ---- a document that is changed, but neither in number, navigable nor state, nor in what runs, and that isn't unmade

pub record KeepsRuns (f : Document → Document) : Type 0 where
  pub nr : (x : Document) → (f x).nr ≡ x.nr
  pub nav : (x : Document) → (f x).nav ≡ x.nav
  pub state : (x : Document) → (f x).state ≡ x.state
  pub view : (x : Document) → (f x).view ≡ x.view
  pub discarded : (x : Document) → (f x).is_discarded ≡ x.is_discarded
  pub unready : (x : Document) → (f x).is_ready ≡ false → x.is_ready ≡ false

-- so it isn't discarded before it is made
pub unmade_runs : (f : Document → Document) → KeepsRuns f → (x : Document) → IsKeptUnmade x → IsKeptUnmade (f x)
unmade_runs f keeps x kept unready = keeps.discarded x ∙ kept (keeps.unready x unready)

pub if_runs : (test : Document → Bool) (f : Document → Document) → KeepsRuns f → KeepsRuns (λ (x : Document). cond (test x) (f x) x)
if_runs test f keeps =
    record {
      nr = λ x. elim (test x) as (λ b. (let y : Document = cond b (f x) x in y).nr ≡ x.nr) [ true ↦ keeps.nr x | false ↦ refl ];
      nav = λ x. elim (test x) as (λ b. (let y : Document = cond b (f x) x in y).nav ≡ x.nav) [ true ↦ keeps.nav x | false ↦ refl ];
      state = λ x. elim (test x) as (λ b. (let y : Document = cond b (f x) x in y).state ≡ x.state) [ true ↦ keeps.state x | false ↦ refl ];
      view = λ x. elim (test x) as (λ b. (let y : Document = cond b (f x) x in y).view ≡ x.view) [ true ↦ keeps.view x | false ↦ refl ];
      discarded = λ x. elim (test x) as (λ b. (let y : Document = cond b (f x) x in y).is_discarded ≡ x.is_discarded) [ true ↦ keeps.discarded x | false ↦ refl ];
      unready = λ x. elim (test x) as (λ b. (let y : Document = cond b (f x) x in y).is_ready ≡ false → x.is_ready ≡ false) [ true ↦ keeps.unready x | false ↦ (λ e. e) ];
    }

pub both_run : (f g : Document → Document) → KeepsRuns f → KeepsRuns g → KeepsRuns (λ (x : Document). g (f x))
both_run f g one two =
    record {
      nr = λ x. two.nr (f x) ∙ one.nr x;
      nav = λ x. two.nav (f x) ∙ one.nav x;
      state = λ x. two.state (f x) ∙ one.state x;
      view = λ x. two.view (f x) ∙ one.view x;
      discarded = λ x. two.discarded (f x) ∙ one.discarded x;
      unready = λ x e. one.unready x (two.unready (f x) e);
    }

pub same_runs : KeepsRuns (λ x. x)
same_runs = record { nr = λ x. refl; nav = λ x. refl; state = λ x. refl; view = λ x. refl; discarded = λ x. refl; unready = λ x e. e }

pub run_shown : (f : Document → Document) (x : Document) → (f x).view ≡ x.view → IsRunShown x → IsRunShown (f x)
run_shown f x same is view has runs = is view (sym same ∙ has) runs

-- ---- rows that leave the history and who took entries

module _ (home : ProcId) (s t : Seen) (there : AreThere home s) where
  pub mapped_lasting : (g : Document → Document) → KeepsRuns g → t.documents ≡ map g s.documents → t.history.rows ≡ s.history.rows → SameReads wish s.requests t.requests → TakersWere s.places t.places → LeavesNames s t → IsLasting s → IsLasting t
  mapped_lasting g keeps documents rows_ wishes takers names =
      lasting_on home s t g there (record {
        documents = documents;
        nr = keeps.nr;
        nav = keeps.nav;
        state = keeps.state;
        undone = λ x there_. sym (keeps.discarded x) ∙ there_;
        unmade = λ doc x found kept. unmade_runs g keeps x kept;
        names = names;
        runs = λ doc x found is. run_shown g x (keeps.view x) is;
        gone = λ doc x found gone. inl (sym (keeps.discarded x) ∙ gone);
        wishes = wishes;
        bare = λ nav placed bare. ap (λ (l : List _). has_row nav l) rows_ ∙ bare;
        takers = λ nav place req found taken. inl (takers nav place req found taken);
      })

  pub quiet_lasting : t.documents ≡ s.documents → t.history.rows ≡ s.history.rows → SameReads wish s.requests t.requests → t.places ≡ s.places → LeavesNames s t → IsLasting s → IsLasting t
  quiet_lasting documents rows_ wishes places names =
      mapped_lasting (λ x. x) same_runs (documents ∙ sym (map-id s.documents)) rows_ wishes (takers_same s.places t.places places) names

-- ---- who falls asleep, or is shown

-- a change of a place that leaves its number and who took its entries
record KeepsTaker (f : Place → Place) : Type 0 where
  nav : (p : Place) → (f p).nav ≡ p.nav
  taker : (p : Place) → (f p).taken_by ≡ p.taken_by

if_taker : (test : Place → Bool) (f : Place → Place) → KeepsTaker f → KeepsTaker (λ (p : Place). cond (test p) (f p) p)
if_taker test f keeps =
    record {
      nav = λ p. elim (test p) as (λ b. (let y : Place = cond b (f p) p in y).nav ≡ p.nav) [ true ↦ keeps.nav p | false ↦ refl ];
      taker = λ p. elim (test p) as (λ b. (let y : Place = cond b (f p) p in y).taken_by ≡ p.taken_by) [ true ↦ keeps.taker p | false ↦ refl ];
    }

all_takers : (places : List Place) (f : Place → Place) → KeepsTaker f → TakersWere places (map f places)
all_takers places f keeps = takers_map places f keeps.nav keeps.taker

sleep_takers : (navs : List NavId) (why : Why) (places : List Place) → TakersWere places (put_to_sleep navs why places)
sleep_takers navs why places =
    all_takers places (λ (p : Place). cond (has_nav navs p.nav) (record p { status = asleep; why = why }) p) (if_taker (λ (p : Place). has_nav navs p.nav) (λ (p : Place). record p { status = asleep; why = why }) (record { nav = λ p. refl; taker = λ p. refl }))

pub on_takers : (nav : NavId) (f : Place → Place) (places : List Place) → ((p : Place) → (f p).nav ≡ p.nav) → ((p : Place) → (f p).taken_by ≡ p.taken_by) → TakersWere places (on_place nav f places)
on_takers nav f places same taker =
    all_takers places (λ (p : Place). cond (p.nav.0 == nav.0) (f p) p) (if_taker (λ (p : Place). p.nav.0 == nav.0) f (record { nav = same; taker = taker }))

pub or_takers : {A : Type 0} (f : A → List Place) (o : Option A) (places : List Place) → ((x : A) → TakersWere places (f x)) → TakersWere places (option_map_or f o places)
or_takers f None places each = takers_same places places refl
or_takers f (Some x) places each = each x

pub sent_takers : (s : Seen) (job : Job) (task : Task) → TakersWere s.places (places_sent s job task)
sent_takers s job (tasks.Activate entry epoch length index memo address) =
    or_takers (λ (d : Document). on_place d.nav (activated job entry epoch d) (put_to_sleep (option_map_or (sleepers_below s job.doc) (place_of s d.nav) []) job.why s.places)) (document_of s job.doc) s.places
    (λ d. takers_then s.places (put_to_sleep (option_map_or (sleepers_below s job.doc) (place_of s d.nav) []) job.why s.places) (on_place d.nav (activated job entry epoch d) (put_to_sleep (option_map_or (sleepers_below s job.doc) (place_of s d.nav) []) job.why s.places)) (sleep_takers (option_map_or (sleepers_below s job.doc) (place_of s d.nav) []) job.why s.places) (on_takers d.nav (activated job entry epoch d) (put_to_sleep (option_map_or (sleepers_below s job.doc) (place_of s d.nav) []) job.why s.places) (λ p. refl) (λ p. refl)))
sent_takers s job tasks.Freeze = sleep_takers (sleepers_with s job.doc) job.why s.places
sent_takers s job tasks.Discard = sleep_takers (sleepers_with s job.doc) job.why s.places
sent_takers s job (tasks.Populate nav state address initial) = takers_same s.places s.places refl
sent_takers s job (tasks.Update length index) = takers_same s.places s.places refl
sent_takers s job (tasks.Ask slot cause) = takers_same s.places s.places refl
sent_takers s job (tasks.DoFragment req mode address) = takers_same s.places s.places refl

-- what is found in a list with one item more
pub found_last : {A : Type 0} (test : A → Bool) (xs : List A) (y x : A) → find test (xs ++ y ∷ []) ≡ Some x → (find test xs ≡ Some x) ⊎ (y ≡ x)
found_last {A} test [] y x is = by_test (test y) is
  where
    by_test : (b : Bool) → (let o : Option A = cond b (Some y) None in o) ≡ Some x → (find test [] ≡ Some x) ⊎ (y ≡ x)
    by_test true e = inr (some_same e)
    by_test false e = absurd cc
found_last {A} test (z ∷ xs) y x is = by_test (test z) is (found_last test xs y x)
  where
    by_test : (b : Bool) → (let o : Option A = cond b (Some z) (find test (xs ++ y ∷ [])) in o) ≡ Some x → (find test (xs ++ y ∷ []) ≡ Some x → (find test xs ≡ Some x) ⊎ (y ≡ x)) → ((let o : Option A = cond b (Some z) (find test xs) in o) ≡ Some x) ⊎ (y ≡ x)
    by_test true e more = inl e
    by_test false e more = more e

-- the last of a list, where none before it passes
find_last : {A : Type 0} (test : A → Bool) (xs : List A) (y : A) → find test xs ≡ None → test y ≡ true → find test (xs ++ y ∷ []) ≡ Some y
find_last test [] y none own = rw own refl
find_last {A} test (z ∷ xs) y none own = by_test (test z) none (λ less. find_last test xs y less own)
  where
    by_test : (b : Bool) → (let o : Option A = cond b (Some z) (find test xs) in o) ≡ None → (find test xs ≡ None → find test (xs ++ y ∷ []) ≡ Some y) → (let o : Option A = cond b (Some z) (find test (xs ++ y ∷ [])) in o) ≡ Some y
    by_test true e more = absurd cc
    by_test false e more = more e

-- ---- the rows

module _ (home : ProcId) (s : Seen) (event : ℕ) (actor : Actor) (there : AreThere home s) (is : IsLasting s) where
  -- an order that makes no document
  plain_names : (job : Job) → ((nav : NavId) (state : StateId) (address : List ℕ) (initial : Bool) → job.task ≡ tasks.Populate nav state address initial → ⊥) → LeavesNames s (next s event actor (rows.Sent job))
  plain_names job never documents =
      sent_names s event actor job documents (λ nav state address initial made. absurd (never nav state address initial made))

  -- an order that is no other than these
  addressed_runs : (job : Job) (task : Task) → KeepsRuns (λ (x : Document). cond (x.nr.0 == job.doc.0) (addressed task x) x)
  addressed_runs job task =
      if_runs (λ (x : Document). x.nr.0 == job.doc.0) (addressed task) (record { nr = λ x. refl; nav = λ x. refl; state = λ x. refl; view = λ x. refl; discarded = λ x. refl; unready = λ x e. e })

  pub told_lasting : (job : Job) (long at : ℕ) → job.task ≡ tasks.Update long at → IsLasting (next s event actor (rows.Sent job))
  told_lasting job long at task =
      mapped_lasting home s (next s event actor (rows.Sent job)) there (λ (x : Document). cond (x.nr.0 == job.doc.0) (addressed (tasks.Update long at) x) x) (addressed_runs job (tasks.Update long at)) (ap (λ (t : Task). documents_sent s job t) task) refl (sent_reads wish wish_blind s job job.task s.requests) (sent_takers s job job.task) (plain_names job (λ nav state address initial made. (let never : tasks.Update long at ≡ tasks.Populate nav state address initial = sym task ∙ made in cc))) is

  pub shown_lasting : (job : Job) (entry : EntryId) (epoch : Epoch) (long at : ℕ) (memo : Option (List ℕ)) (address : List ℕ) → job.task ≡ tasks.Activate entry epoch long at memo address → IsLasting (next s event actor (rows.Sent job))
  shown_lasting job entry epoch long at memo address task =
      mapped_lasting home s (next s event actor (rows.Sent job)) there (λ (x : Document). cond (x.nr.0 == job.doc.0) (addressed (tasks.Activate entry epoch long at memo address) x) x) (addressed_runs job (tasks.Activate entry epoch long at memo address)) (ap (λ (t : Task). documents_sent s job t) task) refl (sent_reads wish wish_blind s job job.task s.requests) (sent_takers s job job.task) (plain_names job (λ nav state address_ initial made. (let never : tasks.Activate entry epoch long at memo address ≡ tasks.Populate nav state address_ initial = sym task ∙ made in cc))) is

  -- a made document of a navigable without an entry is discarded
  pub discarded_lasting : (job : Job) → job.task ≡ tasks.Discard → ((d : Document) → document_of s job.doc ≡ Some d → d.is_ready ≡ true) → ((d : Document) → document_of s job.doc ≡ Some d → has_row d.nav s.history.rows ≡ false) → IsLasting (next s event actor (rows.Sent job))
  discarded_lasting job task ready bare =
      lasting_on home s (next s event actor (rows.Sent job)) g there (record {
        documents = ap (λ (t : Task). documents_sent s job t) task;
        nr = λ x. by_test (λ y. y.nr) (λ y. refl) x;
        nav = λ x. by_test (λ y. y.nav) (λ y. refl) x;
        state = λ x. by_test (λ y. y.state) (λ y. refl) x;
        undone = λ x. elim (x.nr.0 == job.doc.0) as (λ b. (let y : Document = cond b (record x { is_discarded = true }) x in y).is_discarded ≡ false → x.is_discarded ≡ false) [ true ↦ (λ e. cc) | false ↦ (λ e. e) ];
        unmade = λ doc x found kept. by_made doc x found (x.nr.0 == job.doc.0) refl kept;
        names = plain_names job (λ nav state address initial made. (let never : tasks.Discard ≡ tasks.Populate nav state address initial = sym task ∙ made in cc));
        runs = λ doc x found shown. run_shown g x (by_test (λ y. y.view) (λ y. refl) x) shown;
        gone = λ doc x found gone. by_doc doc x found (x.nr.0 == job.doc.0) refl gone;
        wishes = sent_reads wish wish_blind s job job.task s.requests;
        bare = λ nav placed none. none;
        takers = λ nav place req found taken. inl (sent_takers s job job.task nav place req found taken);
      }) is
    where
      g : Document → Document
      g x = cond (x.nr.0 == job.doc.0) (record x { is_discarded = true }) x

      by_test : {B : Type 0} (read : Document → B) → ((x : Document) → read (record x { is_discarded = true }) ≡ read x) → (x : Document) → read (g x) ≡ read x
      by_test read same x = elim (x.nr.0 == job.doc.0) as (λ b. read (let y : Document = cond b (record x { is_discarded = true }) x in y) ≡ read x) [ true ↦ same x | false ↦ refl ]

      -- the order's own document
      its_own : (doc : DocId) (x : Document) → document_of s doc ≡ Some x → (x.nr.0 == job.doc.0) ≡ true → document_of s job.doc ≡ Some x
      its_own doc x found e =
          let number : x.nr.0 ≡ doc.0 = seen_number (λ (y : Document). y.nr.0) doc.0 s.documents x found in
          let same : doc ≡ job.doc = doc_same doc job.doc (ap (λ (n : ℕ). n == job.doc.0) (sym number) ∙ e) in
          ap (λ (n : DocId). document_of s n) (sym same) ∙ found

      by_doc : (doc : DocId) (x : Document) → document_of s doc ≡ Some x → (b : Bool) → (x.nr.0 == job.doc.0) ≡ b → (let y : Document = cond b (record x { is_discarded = true }) x in y).is_discarded ≡ true → (x.is_discarded ≡ true) ⊎ (has_row x.nav s.history.rows ≡ false)
      by_doc doc x found false e gone = inl gone
      by_doc doc x found true e gone = inr (bare x (its_own doc x found e))

      by_made : (doc : DocId) (x : Document) → document_of s doc ≡ Some x → (b : Bool) → (x.nr.0 == job.doc.0) ≡ b → IsKeptUnmade x → IsKeptUnmade (let y : Document = cond b (record x { is_discarded = true }) x in y)
      by_made doc x found false e kept = kept
      by_made doc x found true e kept =
          λ unready. (let never : true ≡ false = sym (ready x (its_own doc x found e)) ∙ unready in cc)

  -- a document more is to be made, under the next number, of a state whose documents are discarded, and the first of its navigable
  pub making_lasting : (job : Job) (nav : NavId) (state : StateId) (address : List ℕ) (initial : Bool) → job.task ≡ tasks.Populate nav state address initial → job.doc.0 ≡ length s.documents + 1 → ((doc : DocId) (d : Document) → document_of s doc ≡ Some d → d.state ≡ state → d.is_discarded ≡ true) → ((doc : DocId) (d : Document) → document_of s doc ≡ Some d → d.nav ≡ nav → ⊥) → IsLasting (next s event actor (rows.Sent job))
  making_lasting job nav state address initial task next_ bare first =
      record {
        shown = λ doc x found. shown_by doc x (found_in doc x found);
        made = subst (λ (l : List Asked). EachAsked (λ (req : ReqId) (q : Asked). IsMadeShown (wish q)) l) (sym requests_) is.made;
        poked = subst (λ (l : List Document). EachAsked (λ (req : ReqId) (q : Asked). PokesItsNav l (wish q)) (next s event actor (rows.Sent job)).requests) (sym documents_)
            (subst (λ (l : List Asked). EachAsked (λ (req : ReqId) (q : Asked). PokesItsNav (s.documents ++ new ∷ []) (wish q)) l) (sym requests_) (λ req q at. pokes_more s.documents (new ∷ []) (wish q) (is.poked req q at)));
        taken = λ n place req found taken.
            (let w = sent_takers s job job.task n place req found taken in is.taken n w.before req w.there w.taken);
        gone = λ doc x found gone. gone_by doc x gone (found_in doc x found);
        populates = λ proc. subst (λ (l : List Document). NameTheirStates l (desk_of (next s event actor (rows.Sent job)) proc)) (sym documents_)
            (sent_names s event actor job (s.documents ++ new ∷ []) its_state proc (names_more s.documents (new ∷ []) (desk_of s proc) (is.populates proc)));
        unmade = λ doc x found. unmade_by doc x (found_in doc x found);
        sole = λ doc other d o at_d at_o same there_d there_o. sole_by doc other d o same there_d there_o (found_in doc d at_d) (found_in other o at_o);
        single = λ doc other d o at_d at_o same. single_by doc other d o same (found_in doc d at_d) (found_in other o at_o);
      }
    where
      new : Document
      new = new_document s job nav state

      documents_ : (next s event actor (rows.Sent job)).documents ≡ s.documents ++ new ∷ []
      documents_ = ap (λ (t : Task). documents_sent s job t) task

      requests_ : (next s event actor (rows.Sent job)).requests ≡ s.requests
      requests_ = ap (λ (t : Task). requests_sent s job t s.requests) task

      found_in : (doc : DocId) (x : Document) → document_of (next s event actor (rows.Sent job)) doc ≡ Some x → (document_of s doc ≡ Some x) ⊎ (new ≡ x)
      found_in doc x found =
          found_last (λ (y : Document). y.nr.0 == doc.0) s.documents new x (ap (λ (l : List Document). document_in l doc) (sym documents_) ∙ found)

      shown_by : (doc : DocId) (x : Document) → (document_of s doc ≡ Some x) ⊎ (new ≡ x) → IsRunShown x
      shown_by doc x (inl old) = is.shown doc x old
      shown_by doc x (inr one) = subst IsRunShown one (λ view has runs. absurd cc)

      gone_by : (doc : DocId) (x : Document) → x.is_discarded ≡ true → (document_of s doc ≡ Some x) ⊎ (new ≡ x) → has_row x.nav s.history.rows ≡ false
      gone_by doc x gone (inl old) = is.gone doc x old gone
      gone_by doc x gone (inr one) = (let never : false ≡ true = ap (λ (y : Document). y.is_discarded) one ∙ gone in absurd cc)

      unmade_by : (doc : DocId) (x : Document) → (document_of s doc ≡ Some x) ⊎ (new ≡ x) → IsKeptUnmade x
      unmade_by doc x (inl old) = is.unmade doc x old
      unmade_by doc x (inr one) = subst IsKeptUnmade one (λ unready. refl)

      -- the number is new
      unused : document_of s job.doc ≡ None
      unused = by_found (document_of s job.doc) refl
        where
          by_found : (o : Option Document) → document_of s job.doc ≡ o → document_of s job.doc ≡ None
          by_found None e = e
          by_found (Some x) e =
              let low : x.nr.0 ≤ length s.documents = (there job.doc x e).number in
              let number : x.nr.0 ≡ job.doc.0 = seen_number (λ (y : Document). y.nr.0) job.doc.0 s.documents x e in
              absurd (omega (arith, low, number, next_))

      its_state : NamesItsState (s.documents ++ new ∷ []) job
      its_state nav_ state_ address_ initial_ made =
          let one : tasks.Populate nav state address initial ≡ tasks.Populate nav_ state_ address_ initial_ = sym task ∙ made in
          record {
            d = new;
            found = find_last (λ (y : Document). y.nr.0 == job.doc.0) s.documents new unused (nat_eq_refl job.doc.0);
            state_is = (let same : state ≡ state_ = cc in same);
          }

      -- an old document of the new one's state is discarded
      never_both : (doc : DocId) (x : Document) → document_of s doc ≡ Some x → x.state ≡ state → x.is_discarded ≡ false → ⊥
      never_both doc x old same there_ = (let never : true ≡ false = sym (bare doc x old same) ∙ there_ in cc)

      sole_by : (doc other : DocId) (d o : Document) → o.state ≡ d.state → d.is_discarded ≡ false → o.is_discarded ≡ false → (document_of s doc ≡ Some d) ⊎ (new ≡ d) → (document_of s other ≡ Some o) ⊎ (new ≡ o) → o.nr ≡ d.nr
      sole_by doc other d o same there_d there_o (inl old) (inl too) = is.sole doc other d o old too same there_d there_o
      sole_by doc other d o same there_d there_o (inl old) (inr one) =
          absurd (never_both doc d old (sym same ∙ sym (ap (λ (y : Document). y.state) one)) there_d)
      sole_by doc other d o same there_d there_o (inr one) (inl old) =
          absurd (never_both other o old (same ∙ sym (ap (λ (y : Document). y.state) one)) there_o)
      sole_by doc other d o same there_d there_o (inr one) (inr two) = ap (λ (y : Document). y.nr) (sym two ∙ one)

      single_by : (doc other : DocId) (d o : Document) → o.nav ≡ d.nav → (document_of s doc ≡ Some d) ⊎ (new ≡ d) → (document_of s other ≡ Some o) ⊎ (new ≡ o) → o.nr ≡ d.nr
      single_by doc other d o same (inl old) (inl too) = is.single doc other d o old too same
      single_by doc other d o same (inl old) (inr one) =
          absurd (first doc d old (sym same ∙ sym (ap (λ (y : Document). y.nav) one)))
      single_by doc other d o same (inr one) (inl old) =
          absurd (first other o old (same ∙ sym (ap (λ (y : Document). y.nav) one)))
      single_by doc other d o same (inr one) (inr two) = ap (λ (y : Document). y.nr) (sym two ∙ one)

  -- a traversal begins; a request ends but for a change
  pub started_lasting : (req : ReqId) (goal : Option Step) → IsLasting (next s event actor (rows.Started req goal))
  started_lasting req goal =
      quiet_lasting home s (next s event actor (rows.Started req goal)) there refl refl
      (reads_then wish s.requests (on_request req (λ q. record q { is_started = true; goal = goal }) s.requests) (next s event actor (rows.Started req goal)).requests (on_read wish s.requests req (λ q. record q { is_started = true; goal = goal }) (λ q. refl)) (on_read wish (on_request req (λ q. record q { is_started = true; goal = goal }) s.requests) req (request_begun s) (λ q. refl)))
      refl (left_names s (next s event actor (rows.Started req goal)) (started_left s event actor req goal)) is

  pub refused_lasting : (req : ReqId) (reason : Denial) → IsLasting (next s event actor (rows.Refused req reason))
  refused_lasting req reason =
      quiet_lasting home s (next s event actor (rows.Refused req reason)) there refl refl (on_read wish s.requests req (λ q. record q { ending = Some (endings.Refused reason) }) (λ q. refl)) refl (left_names s (next s event actor (rows.Refused req reason)) (refused_left s event actor req reason)) is

  pub dropped_lasting : (req : ReqId) (cause : Cause) → IsLasting (next s event actor (rows.Dropped req cause))
  dropped_lasting req cause =
      quiet_lasting home s (next s event actor (rows.Dropped req cause)) there refl refl (on_read wish s.requests req (λ q. record q { ending = Some (endings.Dropped cause) }) (λ q. refl)) refl (left_names s (next s event actor (rows.Dropped req cause)) (dropped_left s event actor req cause)) is
