-- What a document made is applied: what holds in a tab of frames of documents, requests, processes and what is coming holds again.
use Rattle.std.proofs.Common.{◌≡◌, ℕ, Bool, true, false, cond, ◌==◌, List, [], ◌∷◌, ◌++◌, length, map, Option, Some, None, refl, sym, ap, ◌∙◌, subst, arith}
use Rattle.std.specs.Prelude.{filter, if◌then◌else◌}
use Rattle.std.proofs.lemmas.Bool.{eqb-true}
use Rattle.std.proofs.lemmas.Bool.Decides.{nat_tests}
use Rattle.std.proofs.lemmas.List.Elements.{filter-append}
use Rattle.tab_ids.specs.declared.DocId.{DocId}
use Rattle.tab_ids.specs.declared.EntryId.{EntryId}
use Rattle.tab_ids.specs.declared.Epoch.{Epoch}
use Rattle.tab_ids.specs.declared.NavId.{NavId}
use Rattle.tab_ids.specs.declared.ProcId.{ProcId}
use Rattle.tab_ids.specs.declared.ReqId.{ReqId}
use Rattle.tab_ids.specs.declared.StateId.{StateId}
use Rattle.log_model.specs.declared.change.Change.{Change}
use Rattle.log_model.specs.declared.change.Change.TheVariants as changes
use Rattle.log_model.specs.declared.made.Made.{Made}
use Rattle.log_model.specs.declared.made.What.{What}
use Rattle.log_model.specs.declared.made.What.TheVariants as whats
use Rattle.log_model.specs.declared.outcome.Ending.TheVariants as endings
use Rattle.log_model.specs.declared.row_kind.Actor.{Actor}
use Rattle.log_model.specs.declared.row_kind.RowKind.TheVariants as rows
use Rattle.log_model.specs.Equal.{holds}
use Rattle.log_model.specs.History.{has_row, owner_of}
use Rattle.log_model.specs.After.{ended}
use Rattle.log_model.specs.AfterDocuments.{told_after_change, applied_to, with_applied}
use Rattle.log_model.specs.AfterRequests.{entries_taken}
use Rattle.log_model.specs.Once.{change_of_made}
use Rattle.log_model.specs.Seen.{Seen, Document, Place, awake, desk_of, document_of, place_of}
use Rattle.seen_facts.specs.Coord.Leading.{is_made_under, coming}
use Rattle.seen_facts.proofs.Coord.Unread.{next}
use Rattle.seen_laws.proofs.Keyed.{find_has}
use Rattle.seen_facts.specs.Each.Runs.{EachAsked, is_run, is_this}
use Rattle.seen_facts.specs.Each.Mades.{Ascend, Continues, number_after, entry_after}
use Rattle.seen_facts.specs.Each.Items.{Each}
use Rattle.seen_facts.proofs.Each.Courses.{runs_ended_other, runs_applied}
use Rattle.seen_facts.proofs.Each.Eaches.{each_on}
use Rattle.tab_facts.specs.FrameTab.Alive.{IsAlive}
use Rattle.tab_facts.specs.FrameTab.Asking.{ArePlainlyAsked}
use Rattle.tab_facts.specs.FrameTab.Desks.{IsItsOwn, IsMadeThere, HasMadeNothing, waiting, untaken, Ascends}
use Rattle.tab_facts.specs.FrameTab.Numbers.{AreStated, IsNumbered, EachEntry}
use Rattle.tab_facts.specs.FrameTab.Steady.{IsAskedBy, AreSteady, AreGiven}
use Rattle.tab_facts.specs.FrameTab.Whole.{IsFrameTab}
use Rattle.tab_facts.proofs.FrameTab.Goings.{StaysAsked, AllStayAsked, all_read, begun_of}
use Rattle.tab_facts.proofs.FrameTab.Theres.{KeepPlaces, there_mapped}
use Rattle.tab_facts.proofs.FrameTab.Desking.{AllStayMade, AllStayPlaced, same_placed, made_there_again, desks_same}
use Rattle.tab_facts.proofs.FrameTab.Plainly.{plainness, plain_again, applied_reads}
use Rattle.tab_facts.proofs.FrameTab.Leaving.{untold, made_again, unmade_again, once_alike, ascends_again}
use Rattle.tab_facts.proofs.FrameTab.Arrived.{mapped_made}

some_same : {A : Type 0} {a b : A} → (let o : Option A = Some a in o) ≡ Some b → a ≡ b
some_same e = cc

-- a navigable's place is its own
pub place_nav : (s : Seen) (nav : NavId) (place : Place) → place_of s nav ≡ Some place → place.nav ≡ nav
place_nav s nav place there =
    ap (λ (n : ℕ). let x : NavId = record { 0 = n } in x) (find_has (λ (x : Place). x.nav.0) nav.0 s.places place there)

-- ---- the requests

-- whatever was applied of a request that isn't the running one, or of that
pub applied_asked : (home : ProcId) (run run_ : Option ReqId) (hand : List Made) (s : Seen) (event : ℕ) (actor : Actor) (req : ReqId) (change : Change) → IsFrameTab home run hand s → EachAsked (λ r q. is_run q ≡ is_this run_ r) (ended s.requests req endings.Applied) → ((r : ReqId) → run_ ≡ Some r → run ≡ Some r) → ArePlainlyAsked run_ (next s event actor (rows.Applied req change))
applied_asked home run run_ hand s event actor req change tab only fewer =
    record {
      each = plain_again s.requests t.requests (applied_reads plainness s.requests req change (entries_taken s.history change) (λ q. refl) (λ q. refl) (λ q. refl)) tab.asked.each;
      only = runs_applied run_ (ended s.requests req endings.Applied) req change (entries_taken s.history change) only;
      runs = λ r e. runs_then r e;
      kept = tab.asked.kept;
      died = tab.asked.died;
    }
  where
    t : Seen
    t = next s event actor (rows.Applied req change)

    runs_then : (r : ReqId) → run_ ≡ Some r → IsAskedBy t.requests run_
    runs_then r e =
        let there : IsAskedBy s.requests run = tab.asked.runs r (fewer r e) in
        let same : Some there.req ≡ Some r = sym there.is ∙ fewer r e in
        let now : StaysAsked t.requests there.req there.q = all_read s.requests t.requests (applied_reads begun_of s.requests req change (entries_taken s.history change) (λ q. refl) (λ q. refl) (λ q. refl)) there.req there.q there.there in
        record { req = there.req; is = e ∙ sym same; q = now.new; there = now.there }

pub applied_stay : (s : Seen) (event : ℕ) (actor : Actor) (req : ReqId) (change : Change) → AllStayAsked s.requests (next s event actor (rows.Applied req change)).requests
applied_stay s event actor req change =
    all_read s.requests (next s event actor (rows.Applied req change)).requests (applied_reads begun_of s.requests req change (entries_taken s.history change) (λ q. refl) (λ q. refl) (λ q. refl))

-- ---- the documents

told_read : {B : Type 0} (read : Document → B) → ((x : Document) → read (record x { told = None }) ≡ read x) → (entry : EntryId) (x : Document) → read (if x.nr.0 == entry.maker then record x { told = None } else x) ≡ read x
told_read read same entry x = elim (x.nr.0 == entry.maker) as (λ b. read (let y : Document = cond b (record x { told = None }) x in y) ≡ read x) [ true ↦ same x | false ↦ refl ]

last_read : {B : Type 0} (read : Document → B) (entry : EntryId) → ((x : Document) → read (record x { last_applied = entry.nr }) ≡ read x) → (x : Document) → read (with_applied entry x) ≡ read x
last_read read entry same x = elim (x.nr.0 == entry.maker) as (λ b. read (let y : Document = cond b (record x { last_applied = entry.nr }) x in y) ≡ read x) [ true ↦ same x | false ↦ refl ]

-- each is as it was, but for what it was told, and for the number of its entry that was applied last
pub record IsTakenOf (doc : DocId) (what : What) (g : Document → Document) : Type 0 where
  pub nr : (x : Document) → (g x).nr ≡ x.nr
  pub nav : (x : Document) → (g x).nav ≡ x.nav
  pub state : (x : Document) → (g x).state ≡ x.state
  pub proc : (x : Document) → (g x).proc ≡ x.proc
  pub incarnation : (x : Document) → (g x).incarnation ≡ x.incarnation
  pub slot : (x : Document) → (g x).slot ≡ x.slot
  pub frozen : (x : Document) → (g x).is_frozen ≡ x.is_frozen
  pub dead : (x : Document) → (g x).dead_by ≡ x.dead_by
  pub known : (x : Document) → (g x).is_known_dead ≡ x.is_known_dead
  pub ready : (x : Document) → (g x).is_ready ≡ x.is_ready
  pub view : (x : Document) → (g x).view ≡ x.view
  pub own : (x : Document) → (x.nr.0 == doc.0) ≡ true → (g x).last_applied ≡ number_after x.last_applied what
  pub other : (x : Document) → (x.nr.0 == doc.0) ≡ false → (g x).last_applied ≡ x.last_applied

same_taken : (doc : DocId) (what : What) → ((n : ℕ) → number_after n what ≡ n) → IsTakenOf doc what (λ x. x)
same_taken doc what same =
    record { nr = λ x. refl; nav = λ x. refl; state = λ x. refl; proc = λ x. refl; incarnation = λ x. refl; slot = λ x. refl; frozen = λ x. refl; dead = λ x. refl; known = λ x. refl; ready = λ x. refl; view = λ x. refl; own = λ x e. sym (same x.last_applied); other = λ x e. refl }

replaced_taken : (doc : DocId) (what : What) (entry : EntryId) → entry.maker ≡ doc.0 → ((n : ℕ) → number_after n what ≡ entry.nr) → IsTakenOf doc what (λ x. with_applied entry x)
replaced_taken doc what entry maker number =
    record {
      nr = last_read (λ x. x.nr) entry (λ x. refl);
      nav = last_read (λ x. x.nav) entry (λ x. refl);
      state = last_read (λ x. x.state) entry (λ x. refl);
      proc = last_read (λ x. x.proc) entry (λ x. refl);
      incarnation = last_read (λ x. x.incarnation) entry (λ x. refl);
      slot = last_read (λ x. x.slot) entry (λ x. refl);
      frozen = last_read (λ x. x.is_frozen) entry (λ x. refl);
      dead = last_read (λ x. x.dead_by) entry (λ x. refl);
      known = last_read (λ x. x.is_known_dead) entry (λ x. refl);
      ready = last_read (λ x. x.is_ready) entry (λ x. refl);
      view = last_read (λ x. x.view) entry (λ x. refl);
      own = λ x e. ap (λ (b : Bool). (let y : Document = cond b (record x { last_applied = entry.nr }) x in y).last_applied) (ap (λ (n : ℕ). x.nr.0 == n) maker ∙ e) ∙ sym (number x.last_applied);
      other = λ x e. ap (λ (b : Bool). (let y : Document = cond b (record x { last_applied = entry.nr }) x in y).last_applied) (ap (λ (n : ℕ). x.nr.0 == n) maker ∙ e);
    }

pushed_taken : (doc : DocId) (what : What) (entry : EntryId) → entry.maker ≡ doc.0 → ((n : ℕ) → number_after n what ≡ entry.nr) → IsTakenOf doc what (λ x. with_applied entry (if x.nr.0 == entry.maker then record x { told = None } else x))
pushed_taken doc what entry maker number =
    record {
      nr = λ x. r.nr (told x) ∙ told_nr x;
      nav = λ x. r.nav (told x) ∙ told_read (λ y. y.nav) (λ y. refl) entry x;
      state = λ x. r.state (told x) ∙ told_read (λ y. y.state) (λ y. refl) entry x;
      proc = λ x. r.proc (told x) ∙ told_read (λ y. y.proc) (λ y. refl) entry x;
      incarnation = λ x. r.incarnation (told x) ∙ told_read (λ y. y.incarnation) (λ y. refl) entry x;
      slot = λ x. r.slot (told x) ∙ told_read (λ y. y.slot) (λ y. refl) entry x;
      frozen = λ x. r.frozen (told x) ∙ told_read (λ y. y.is_frozen) (λ y. refl) entry x;
      dead = λ x. r.dead (told x) ∙ told_read (λ y. y.dead_by) (λ y. refl) entry x;
      known = λ x. r.known (told x) ∙ told_read (λ y. y.is_known_dead) (λ y. refl) entry x;
      ready = λ x. r.ready (told x) ∙ told_read (λ y. y.is_ready) (λ y. refl) entry x;
      view = λ x. r.view (told x) ∙ told_read (λ y. y.view) (λ y. refl) entry x;
      own = λ x e. r.own (told x) (ap (λ (n : DocId). n.0 == doc.0) (told_nr x) ∙ e) ∙ ap (λ (n : ℕ). number_after n what) (told_read (λ y. y.last_applied) (λ y. refl) entry x);
      other = λ x e. r.other (told x) (ap (λ (n : DocId). n.0 == doc.0) (told_nr x) ∙ e) ∙ told_read (λ y. y.last_applied) (λ y. refl) entry x;
    }
  where
    r : IsTakenOf doc what (λ x. with_applied entry x)
    r = replaced_taken doc what entry maker number

    told : Document → Document
    told x = if x.nr.0 == entry.maker then record x { told = None } else x

    told_nr : (x : Document) → (let y : Document = if x.nr.0 == entry.maker then record x { told = None } else x in y).nr ≡ x.nr
    told_nr x = told_read (λ y. y.nr) (λ y. refl) entry x

abbrev pub takes : Change → Document → Document
takes change x = applied_to change (told_after_change x change)

pub taken_of : (s : Seen) (d : Document) (doc : DocId) (what : What) (change : Change) → IsItsOwn doc what → change_of_made s d what ≡ Some change → IsTakenOf doc what (takes change)
taken_of s d doc (whats.Push entry memo address) change own is =
    subst (λ (c : Change). IsTakenOf doc (whats.Push entry memo address) (takes c)) (some_same is) (pushed_taken doc (whats.Push entry memo address) entry own (λ n. refl))
taken_of s d doc (whats.Replace over entry memo address) change own is =
    subst (λ (c : Change). IsTakenOf doc (whats.Replace over entry memo address) (takes c)) (some_same is) (replaced_taken doc (whats.Replace over entry memo address) entry own (λ n. refl))
taken_of s d doc (whats.AddFrame nav) change own is =
    subst (λ (c : Change). IsTakenOf doc (whats.AddFrame nav) (takes c)) (some_same is) (same_taken doc (whats.AddFrame nav) (λ n. refl))
taken_of s d doc (whats.RemoveFrame nav) change own is = by_test (holds (λ (owner : StateId). owner.0 == d.state.0) (owner_of nav s.history.rows)) is
  where
    by_test : (b : Bool) → (let o : Option Change = cond b (Some (changes.RemoveFrame nav)) None in o) ≡ Some change → IsTakenOf doc (whats.RemoveFrame nav) (takes change)
    by_test true e = subst (λ (c : Change). IsTakenOf doc (whats.RemoveFrame nav) (takes c)) (some_same e) (same_taken doc (whats.RemoveFrame nav) (λ n. refl))
    by_test false e = absurd cc
taken_of s d doc (whats.Go delta) change own is = absurd cc
taken_of s d doc whats.Edit change never is = absurd never

-- ---- what is taken of what waits: nothing of its document comes before

pub record IsFirstOf (xs : List Made) (made : Made) (ys : List Made) : Type 0 where
  pub before : List Made
  pub later : List Made
  pub whole : xs ≡ before ++ made ∷ later
  pub left : ys ≡ before ++ later
  pub none : filter (λ (m : Made). m.doc.0 == made.doc.0) before ≡ []

module _ (xs : List Made) (made : Made) (ys : List Made) (is : IsFirstOf xs made ys) where
  abbrev its : DocId → List Made → List Made
  its doc l = filter (λ (m : Made). m.doc.0 == doc.0) l

  its_parts : (doc : DocId) → its doc xs ≡ its doc is.before ++ its doc (made ∷ is.later)
  its_parts doc = ap (its doc) is.whole ∙ filter-append (λ (m : Made). m.doc.0 == doc.0) is.before (made ∷ is.later)

  its_left : (doc : DocId) → its doc ys ≡ its doc is.before ++ its doc is.later
  its_left doc = ap (its doc) is.left ∙ filter-append (λ (m : Made). m.doc.0 == doc.0) is.before is.later

  pub others_same : (doc : DocId) → (made.doc.0 == doc.0) ≡ false → its doc ys ≡ its doc xs
  others_same doc apart = its_left doc ∙ sym (its_parts doc ∙ (let one : its doc is.before ++ its doc (made ∷ is.later) ≡ its doc is.before ++ its doc is.later = rw apart refl in one))

  itself : (made.doc.0 == made.doc.0) ≡ true
  itself = grind (arith, nat_tests)

  pub own_first : its made.doc xs ≡ made ∷ its made.doc ys
  own_first =
      its_parts made.doc
      ∙ ap (λ (l : List Made). l ++ its made.doc (made ∷ is.later)) is.none
      ∙ (let one : its made.doc (made ∷ is.later) ≡ made ∷ its made.doc is.later = rw itself refl in one)
      ∙ ap (λ (l : List Made). made ∷ l) (sym (its_left made.doc ∙ ap (λ (l : List Made). l ++ its made.doc is.later) is.none))

  -- under an epoch
  under_of : (doc : DocId) (epoch : Epoch) (l : List Made) → filter (is_made_under doc epoch) l ≡ filter (λ (m : Made). m.epoch.0 == epoch.0) (its doc l)
  under_of doc epoch [] = refl
  under_of doc epoch (m ∷ l) = by_tests (m.doc.0 == doc.0) (m.epoch.0 == epoch.0) refl refl (under_of doc epoch l)
    where
      by_tests : (a b : Bool) → (m.doc.0 == doc.0) ≡ a → (m.epoch.0 == epoch.0) ≡ b → filter (is_made_under doc epoch) l ≡ filter (λ (x : Made). x.epoch.0 == epoch.0) (its doc l) → filter (is_made_under doc epoch) (m ∷ l) ≡ filter (λ (x : Made). x.epoch.0 == epoch.0) (its doc (m ∷ l))
      by_tests true true e f rest = rw (e, f) (ap (λ (k : List Made). m ∷ k) rest)
      by_tests true false e f rest = rw (e, f) rest
      by_tests false b e f rest = rw e rest

  pub coming_first : (epoch : Epoch) → (made.epoch.0 == epoch.0) ≡ true → filter (is_made_under made.doc epoch) xs ≡ made ∷ filter (is_made_under made.doc epoch) ys
  coming_first epoch under =
      under_of made.doc epoch xs
      ∙ ap (λ (l : List Made). filter (λ (m : Made). m.epoch.0 == epoch.0) l) own_first
      ∙ (let one : filter (λ (m : Made). m.epoch.0 == epoch.0) (made ∷ its made.doc ys) ≡ made ∷ filter (λ (m : Made). m.epoch.0 == epoch.0) (its made.doc ys) = rw under refl in one)
      ∙ ap (λ (l : List Made). made ∷ l) (sym (under_of made.doc epoch ys))

  pub coming_same : (doc : DocId) (epoch : Epoch) → (made.doc.0 == doc.0) ≡ false → filter (is_made_under doc epoch) ys ≡ filter (is_made_under doc epoch) xs
  coming_same doc epoch apart =
      under_of doc epoch ys ∙ ap (λ (l : List Made). filter (λ (m : Made). m.epoch.0 == epoch.0) l) (others_same doc apart) ∙ sym (under_of doc epoch xs)

-- ---- the row

-- a navigable was awake on the document under the same epoch; that of what was made is given the entry after it, the others what they were
pub record WasTaken (s : Seen) (made : Made) (nav : NavId) (place : Place) (doc : DocId) : Type 0 where
  pub before : Place
  pub there : place_of s nav ≡ Some before
  pub status : before.status ≡ awake doc
  pub epoch : before.epoch ≡ place.epoch
  pub given : (given : EntryId) → place.given ≡ Some given → (old : EntryId) × (before.given ≡ Some old) × (given ≡ (if made.doc.0 == doc.0 then entry_after old made.what else old))
  pub under : (made.doc.0 == doc.0) ≡ true → (made.epoch.0 == place.epoch.0) ≡ true

pub record IsTaking (home : ProcId) (run : Option ReqId) (hand hand_ : List Made) (s t : Seen) (req : ReqId) (change : Change) (made : Made) (d : Document) : Type 0 where
  pub other : is_this run req ≡ false
  pub found : document_of s made.doc ≡ Some d
  pub own : IsItsOwn made.doc made.what
  pub change_is : change_of_made s d made.what ≡ Some change
  pub list : IsFirstOf (untold (waiting s hand) (desk_of s home)) made (untold (waiting t hand_) (desk_of s home))
  pub waits : Each (IsMadeThere s.documents) (waiting t hand_)
  pub keep : KeepPlaces s t
  pub placed : AllStayPlaced s.places t.places
  pub were : (nav : NavId) (place : Place) (doc : DocId) → place_of t nav ≡ Some place → place.status ≡ awake doc → WasTaken s made nav place doc
  pub had_row : (nav : NavId) (place : Place) (doc : DocId) → place_of t nav ≡ Some place → place.status ≡ awake doc → has_row place.nav t.history.rows ≡ true → has_row place.nav s.history.rows ≡ true

module _ (home : ProcId) (run : Option ReqId) (hand hand_ : List Made) (s : Seen) (event : ℕ) (actor : Actor) (tab : IsFrameTab home run hand s) (req : ReqId) (change : Change) (made : Made) (d : Document) (taking : IsTaking home run hand hand_ s (next s event actor (rows.Applied req change)) req change made d) where
  abbrev pub taken : Seen
  taken = next s event actor (rows.Applied req change)

  pub taken_is : IsTakenOf made.doc made.what (takes change)
  taken_is = taken_of s d made.doc made.what change taking.own taking.change_is

  alive_taken : (doc : DocId) (x : Document) → document_of s doc ≡ Some x → IsAlive home x → IsAlive home (takes change x)
  alive_taken doc x there is =
      record {
        proc = taken_is.proc x ∙ is.proc;
        incarnation = taken_is.incarnation x ∙ is.incarnation;
        slot = taken_is.slot x ∙ is.slot;
        thawed = taken_is.frozen x ∙ is.thawed;
        lives = taken_is.dead x ∙ is.lives;
        unknown = taken_is.known x ∙ is.unknown;
        viewed = λ view has. is.viewed view (sym (taken_is.view x) ∙ has) ∙ sym (taken_is.nr x);
        unmade = λ view has no_. is.unmade view (sym (taken_is.view x) ∙ has) (sym (taken_is.ready x) ∙ no_);
      }

  made_on : AllStayMade s.documents (map (takes change) s.documents)
  made_on = mapped_made s.documents (takes change) taken_is.nr taken_is.nav (λ x ready. taken_is.ready x ∙ ready)

  turned : (x : Document) (b : Bool) → (x.nr.0 == made.doc.0) ≡ b → (made.doc.0 == x.nr.0) ≡ b
  turned x true e = (let n : (made.doc.0 == x.nr.0) ≡ true = grind (arith, nat_tests, e) in n)
  turned x false e = (let n : (made.doc.0 == x.nr.0) ≡ false = grind (arith, nat_tests, e) in n)

  -- of its own document, what waits begins with it
  first_own : (x : Document) → (x.nr.0 == made.doc.0) ≡ true → untaken (waiting s hand) (desk_of s home) x.nr ≡ made ∷ untaken (waiting taken hand_) (desk_of taken home) x.nr
  first_own x e =
      let n : x.nr.0 ≡ made.doc.0 = eqb-true x.nr.0 made.doc.0 e in
      let nr : x.nr ≡ made.doc = ap (λ (n : ℕ). let y : DocId = record { 0 = n } in y) n in
      subst (λ (y : DocId). untaken (waiting s hand) (desk_of s home) y ≡ made ∷ untaken (waiting taken hand_) (desk_of s home) y) (sym nr)
      (own_first (untold (waiting s hand) (desk_of s home)) made (untold (waiting taken hand_) (desk_of s home)) taking.list)

  unmade_taken : (doc : DocId) (x : Document) → document_of s doc ≡ Some x → HasMadeNothing (waiting s hand) (desk_of s home) x → HasMadeNothing (waiting taken hand_) (desk_of taken home) (takes change x)
  unmade_taken doc x there is unready = by_test (x.nr.0 == made.doc.0) refl
    where
      i : (x.last_applied ≡ 0) × (untaken (waiting s hand) (desk_of s home) x.nr ≡ [])
      i = is (sym (taken_is.ready x) ∙ unready)

      by_test : (b : Bool) → (x.nr.0 == made.doc.0) ≡ b → ((takes change x).last_applied ≡ 0) × (untaken (waiting taken hand_) (desk_of taken home) (takes change x).nr ≡ [])
      by_test true e = (let never : made ∷ untaken (waiting taken hand_) (desk_of taken home) x.nr ≡ [] = sym (first_own x e) ∙ i.1 in absurd cc)
      by_test false e =
          (taken_is.other x e ∙ i.0, ap (λ (n : DocId). untaken (waiting taken hand_) (desk_of taken home) n) (taken_is.nr x) ∙ others_same (untold (waiting s hand) (desk_of s home)) made (untold (waiting taken hand_) (desk_of s home)) taking.list x.nr (turned x false e) ∙ i.1)

  ascends_taken : (doc : DocId) (x : Document) → document_of s doc ≡ Some x → Ascends (waiting s hand) (desk_of s home) x → Ascends (waiting taken hand_) (desk_of taken home) (takes change x)
  ascends_taken doc x there is view has =
      subst (λ (n : DocId). Ascend (takes change x).last_applied (untaken (waiting taken hand_) (desk_of taken home) n) view.numbered) (sym (taken_is.nr x)) (by_test (x.nr.0 == made.doc.0) refl)
    where
      old : Ascend x.last_applied (untaken (waiting s hand) (desk_of s home) x.nr) view.numbered
      old = is view (sym (taken_is.view x) ∙ has)

      by_test : (b : Bool) → (x.nr.0 == made.doc.0) ≡ b → Ascend (takes change x).last_applied (untaken (waiting taken hand_) (desk_of taken home) x.nr) view.numbered
      by_test true e =
          subst (λ (n : ℕ). Ascend n (untaken (waiting taken hand_) (desk_of taken home) x.nr) view.numbered) (sym (taken_is.own x e))
          (subst (λ (l : List Made). Ascend x.last_applied l view.numbered) (first_own x e) old).1
      by_test false e =
          subst (λ (n : ℕ). Ascend n (untaken (waiting taken hand_) (desk_of taken home) x.nr) view.numbered) (sym (taken_is.other x e))
          (subst (λ (l : List Made). Ascend x.last_applied l view.numbered) (sym (others_same (untold (waiting s hand) (desk_of s home)) made (untold (waiting taken hand_) (desk_of s home)) taking.list x.nr (turned x false e))) old)

  continues_taken : (nav : NavId) (place : Place) (doc : DocId) (given : EntryId) → place_of taken nav ≡ Some place → place.status ≡ awake doc → has_row place.nav taken.history.rows ≡ true → place.given ≡ Some given → Continues given (coming (waiting taken hand_) (desk_of taken home) doc place.epoch)
  continues_taken nav place doc given there wakes has is =
      by_test (made.doc.0 == doc.0) refl
    where
      w : WasTaken s made nav place doc
      w = taking.were nav place doc there wakes

      o : (old : EntryId) × (w.before.given ≡ Some old) × (given ≡ (if made.doc.0 == doc.0 then entry_after old made.what else old))
      o = w.given given is

      navs : (taking.were nav place doc there wakes).before.nav ≡ place.nav
      navs =
          place_nav s nav (taking.were nav place doc there wakes).before (taking.were nav place doc there wakes).there ∙ sym (place_nav taken nav place there)

      before : has_row (taking.were nav place doc there wakes).before.nav s.history.rows ≡ true
      before =
          ap (λ (n : NavId). has_row n s.history.rows) navs ∙ taking.had_row nav place doc there wakes has

      old : Continues o.0 (coming (waiting s hand) (desk_of s home) doc place.epoch)
      old = subst (λ (n : Epoch). Continues o.0 (coming (waiting s hand) (desk_of s home) doc n)) w.epoch (tab.continues nav w.before doc o.0 w.there w.status before o.1)

      by_test : (b : Bool) → (made.doc.0 == doc.0) ≡ b → Continues given (coming (waiting taken hand_) (desk_of taken home) doc place.epoch)
      by_test true e =
          let n : made.doc.0 ≡ doc.0 = eqb-true made.doc.0 doc.0 e in
          let nr : made.doc ≡ doc = ap (λ (n : ℕ). let y : DocId = record { 0 = n } in y) n in
          let first : coming (waiting s hand) (desk_of s home) doc place.epoch ≡ made ∷ coming (waiting taken hand_) (desk_of taken home) doc place.epoch = subst (λ (y : DocId). coming (waiting s hand) (desk_of s home) y place.epoch ≡ made ∷ coming (waiting taken hand_) (desk_of taken home) y place.epoch) nr (coming_first (untold (waiting s hand) (desk_of s home)) made (untold (waiting taken hand_) (desk_of s home)) taking.list place.epoch (w.under e)) in
          let now : entry_after o.0 made.what ≡ given = sym (o.2 ∙ ap (λ (b : Bool). if b then entry_after o.0 made.what else o.0) e) in
          subst (λ (x : EntryId). Continues x (coming (waiting taken hand_) (desk_of taken home) doc place.epoch)) now (subst (λ (l : List Made). Continues o.0 l) first old).1
      by_test false e =
          let now : o.0 ≡ given = sym (o.2 ∙ ap (λ (b : Bool). if b then entry_after o.0 made.what else o.0) e) in
          subst (λ (x : EntryId). Continues x (coming (waiting taken hand_) (desk_of taken home) doc place.epoch)) now
          (subst (λ (l : List Made). Continues o.0 l) (sym (coming_same (untold (waiting s hand) (desk_of s home)) made (untold (waiting taken hand_) (desk_of s home)) taking.list doc place.epoch e)) old)

  -- with what holds of the places and of the history
  pub taken_framed : AreSteady taken → AreStated taken → EachEntry (IsNumbered taken.entries (length taken.documents) taken.documents) taken.history.rows taken.places taken.requests → AreGiven taken → IsFrameTab home run hand_ taken
  taken_framed steady stated entries given =
      record {
        documents = there_mapped home s taken (takes change) (record { nr = taken_is.nr; nav = taken_is.nav; alive = alive_taken }) refl taking.keep tab.documents;
        asked = applied_asked home run run hand s event actor req change tab (runs_ended_other run s.requests req endings.Applied taking.other tab.asked.only) (λ r e. e);
        steady = steady;
        stated = stated;
        entries = entries;
        desks = desks_same home s taken refl made_on taking.placed tab.desks;
        made = made_again home s taken (takes change) taken_is.nr (λ doc x there is. once_alike (desk_of s home) (desk_of taken home) x (takes change x) (taken_is.nr x) (taken_is.ready x) (λ n. refl) is) refl tab.made;
        unmade = unmade_again home s taken hand hand_ (takes change) taken_is.nr unmade_taken refl tab.unmade;
        waits = each_on (IsMadeThere s.documents) (IsMadeThere (map (takes change) s.documents)) (waiting taken hand_) (made_there_again s.documents (map (takes change) s.documents) s.places s.places made_on (same_placed s.places s.places refl)) taking.waits;
        ascends = ascends_again home s taken hand hand_ (takes change) taken_is.nr ascends_taken refl tab.ascends;
        continues = continues_taken;
        given = given;
      }
