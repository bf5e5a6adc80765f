-- A row that changes no history: what it has to leave, and that all of it then holds again.
use Rattle.std.proofs.Common.{◌≡◌, ◌⊎◌, inl, inr, ℕ, ◌≤◌, ◌==◌, true, List, ◌∷◌, length, map, Option, Some, refl, sym, ap, ◌∙◌, subst}
use Rattle.tab_ids.specs.declared.DocId.{DocId}
use Rattle.tab_ids.specs.declared.EntryId.{EntryId}
use Rattle.tab_ids.specs.declared.NavId.{NavId}
use Rattle.tab_ids.specs.declared.ProcId.{ProcId}
use Rattle.tab_ids.specs.declared.ReqId.{ReqId}
use Rattle.tab_ids.specs.declared.StateId.{StateId}
use Rattle.log_model.specs.declared.made.Made.{Made}
use Rattle.log_model.specs.declared.row.Row.{Row}
use Rattle.log_model.specs.History.{History}
use Rattle.log_model.specs.Places.{top}
use Rattle.log_model.specs.Seen.{Seen, Document, Asked, Place, place_in, place_of, request_in}
use Rattle.std.specs.List.{list_any}
use Rattle.std.proofs.lemmas.List.{length-map}
use Rattle.seen_facts.specs.Hang.Forms.{forms_of}
use Rattle.seen_facts.specs.Hang.Members.{Has}
use Rattle.seen_facts.specs.Each.Items.{IsUpTo}
use Rattle.seen_facts.proofs.Request.Readers.{SameReads}
use Rattle.seen_facts.proofs.Rest.Again.{WasOf, was_of}
use Rattle.seen_facts.proofs.Each.Courses.{was_asked}
use Rattle.tab_facts.specs.FrameTab.Asking.{ArePlainlyAsked}
use Rattle.tab_facts.specs.FrameTab.Desks.{AreDesks, EachIsMadeOnce, EachHasMadeNothing, EachWaits, EachAscends, EachContinues}
use Rattle.tab_facts.specs.FrameTab.Numbers.{IsOfItsRows, AreStated, IsNumbered, EachEntry}
use Rattle.tab_facts.specs.FrameTab.Steady.{AreSteady, AreGiven}
use Rattle.tab_facts.specs.FrameTab.Whole.{IsFrameTab}
use Rattle.tab_facts.proofs.FrameTab.Goings.{place_stays, navs_stay}
use Rattle.tab_facts.proofs.FrameTab.Theres.{KeepsAlive, there_mapped}

-- ---- entries that are known: of a row, once given, or taken

pub record WasGiven (places : List Place) (entry : EntryId) : Type 0 where
  pub nav : NavId
  pub place : Place
  pub there : (let o : Option Place = place_in places nav in o) ≡ Some place
  pub has : Has place.ever_given entry

pub record WasTook (asked : List Asked) (entry : EntryId) : Type 0 where
  pub req : ReqId
  pub q : Asked
  pub there : request_in asked req ≡ Some q
  pub has : Has q.took entry

pub record IsOfRow (rows : List Row) (entry : EntryId) : Type 0 where
  pub row : Row
  pub there : Has rows row
  pub is : row.entry ≡ entry

abbrev pub IsKnownEntry : Seen → EntryId → Type 0
IsKnownEntry s entry = IsOfRow s.history.rows entry ⊎ WasGiven s.places entry ⊎ WasTook s.requests entry

pub known_is : (F : EntryId → Type 0) (s : Seen) (entry : EntryId) → EachEntry F s.history.rows s.places s.requests → IsKnownEntry s entry → F entry
known_is F s entry each (inl r) = subst F r.is (each.of_row r.row r.there)
known_is F s entry each (inr (inl g)) = each.given g.nav g.place entry g.there g.has
known_is F s entry each (inr (inr t)) = each.took t.req t.q entry t.there t.has

-- each entry that is known was known, or is new and so
pub entries_again : (F G : EntryId → Type 0) (s t : Seen) → ((entry : EntryId) → F entry → G entry) → ((row : Row) → Has t.history.rows row → IsKnownEntry s row.entry ⊎ G row.entry) → ((nav : NavId) (place : Place) (entry : EntryId) → place_of t nav ≡ Some place → Has place.ever_given entry → IsKnownEntry s entry ⊎ G entry) → ((req : ReqId) (q : Asked) (entry : EntryId) → request_in t.requests req ≡ Some q → Has q.took entry → IsKnownEntry s entry ⊎ G entry) → EachEntry F s.history.rows s.places s.requests → EachEntry G t.history.rows t.places t.requests
entries_again F G s t on of_rows givens tooks each =
    record {
      of_row = λ row there. either row.entry (of_rows row there);
      given = λ nav place entry there has. either entry (givens nav place entry there has);
      took = λ req q entry there has. either entry (tooks req q entry there has);
    }
  where
    either : (entry : EntryId) → IsKnownEntry s entry ⊎ G entry → G entry
    either entry (inl known) = on entry (known_is F s entry each known)
    either entry (inr new) = new

-- ---- the row

-- documents keep what is read of them among rows and entries
pub record KeepsNumbers (g : Document → Document) : Type 0 where
  pub state : (d : Document) → (g d).state ≡ d.state
  pub applied : (d : Document) → (g d).last_applied ≡ d.last_applied

pub record Goes (home : ProcId) (run run_ : Option ReqId) (hand hand_ : List Made) (s t : Seen) : Type 0 where
  pub g : Document → Document
  pub documents : t.documents ≡ map g s.documents
  pub alive : KeepsAlive home s g
  pub numbers : KeepsNumbers g
  pub forms : forms_of t.places ≡ forms_of s.places
  pub givens : (nav : NavId) (place : Place) (entry : EntryId) → place_of t nav ≡ Some place → Has place.ever_given entry → IsKnownEntry s entry
  pub tooks : (req : ReqId) (q : Asked) (entry : EntryId) → request_in t.requests req ≡ Some q → Has q.took entry → IsKnownEntry s entry
  pub history : t.history ≡ s.history
  pub states : t.states ≡ s.states
  pub entries : t.entries ≡ s.entries
  pub initial : t.initial_states ≡ s.initial_states
  pub asked : ArePlainlyAsked run_ t
  pub steady : AreSteady t
  pub desks : AreDesks home t
  pub made : EachIsMadeOnce home t
  pub unmade : EachHasMadeNothing home t hand_
  pub waits : EachWaits t hand_
  pub ascends : EachAscends home t hand_
  pub continues : EachContinues home t hand_
  pub given : AreGiven t

-- the numbers of entries, of documents that are so changed
pub numbered_again : (s t : Seen) (g : Document → Document) → ((d : Document) → (g d).nr ≡ d.nr) → KeepsNumbers g → t.documents ≡ map g s.documents → t.entries ≡ s.entries → (entry : EntryId) → IsNumbered s.entries (length s.documents) s.documents entry → IsNumbered t.entries (length t.documents) t.documents entry
numbered_again s t g nr keeps documents entries entry is =
    record {
      own = λ own. subst (λ (n : ℕ). entry.nr ≤ n) (sym entries) (is.own own);
      maker = subst (λ (n : ℕ). entry.maker ≤ n) (sym (ap (λ (l : List Document). length l) documents ∙ length-map s.documents g)) is.maker;
      applied = λ doc d found.
          let w : WasOf s g doc d = was_of s t g nr documents doc d found in
          subst (λ (x : Document). IsUpTo x.last_applied x.nr entry) w.is (up w.before (is.applied doc w.before w.there));
    }
  where
    up : (d : Document) → IsUpTo d.last_applied d.nr entry → IsUpTo (g d).last_applied (g d).nr entry
    up d is_ maker = subst (λ (n : ℕ). entry.nr ≤ n) (sym (keeps.applied d)) (is_ (maker ∙ ap (λ (n : DocId). n.0) (nr d)))

pub stated_again : (s t : Seen) (g : Document → Document) → ((d : Document) → (g d).nr ≡ d.nr) → ((d : Document) → (g d).nav ≡ d.nav) → KeepsNumbers g → t.documents ≡ map g s.documents → forms_of t.places ≡ forms_of s.places → t.history ≡ s.history → t.states ≡ s.states → t.initial_states ≡ s.initial_states → AreStated s → AreStated t
stated_again s t g nr nav keeps documents forms history states initial are =
    record {
      one = λ a b here there same. are.one a b (old a here) (old b there) same;
      begins = λ row there.
          let b = are.begins row (old row there) in
          record { row = b.row; there = subst (λ (h : History). Has h.rows b.row) (sym history) b.there; nav_is = b.nav_is; by = b.by };
      given = λ row there.
          let is = are.given row (old row there) in
          record {
            real = is.real;
            given = subst (λ (n : ℕ). row.state.0 ≤ n) (sym states) is.given;
            blank = λ child. subst (λ (l : List StateId). list_any (λ (state : StateId). state.0 == row.state.0) l ≡ true) (sym initial) (is.blank child);
          };
      documents = λ doc d found.
          let w : WasOf s g doc d = was_of s t g nr documents doc d found in
          subst (λ (x : Document). IsOfItsRows t.history.rows t.states x) w.is (its w.before (are.documents doc w.before w.there));
      listed = navs_stay s.places t.places forms ∙ are.listed ∙ ap (λ (h : History). top ∷ h.added) (sym history);
    }
  where
    old : (row : Row) → Has t.history.rows row → Has s.history.rows row
    old row there = subst (λ (h : History). Has h.rows row) history there

    its : (d : Document) → IsOfItsRows s.history.rows s.states d → IsOfItsRows t.history.rows t.states (g d)
    its d is =
        record {
          rows_ = λ row there same. is.rows_ row (old row there) (same ∙ nav d) ∙ sym (keeps.state d);
          given = subst (λ (n : ℕ). (g d).state.0 ≤ n) (sym states) (subst (λ (x : StateId). x.0 ≤ s.states) (sym (keeps.state d)) is.given);
        }

pub goes_tab : (home : ProcId) (run run_ : Option ReqId) (hand hand_ : List Made) (s t : Seen) → Goes home run run_ hand hand_ s t → IsFrameTab home run hand s → IsFrameTab home run_ hand_ t
goes_tab home run run_ hand hand_ s t goes tab =
    record {
      documents = there_mapped home s t goes.g goes.alive goes.documents (λ nav has. place_stays s.places t.places nav goes.forms has) tab.documents;
      asked = goes.asked;
      steady = goes.steady;
      stated = stated_again s t goes.g goes.alive.nr goes.alive.nav goes.numbers goes.documents goes.forms goes.history goes.states goes.initial tab.stated;
      entries =
          entries_again (IsNumbered s.entries (length s.documents) s.documents) (IsNumbered t.entries (length t.documents) t.documents) s t
          (numbered_again s t goes.g goes.alive.nr goes.numbers goes.documents goes.entries)
          (λ row there. inl (inl (record { row = row; there = subst (λ (h : History). Has h.rows row) goes.history there; is = refl })))
          (λ nav place entry there has. inl (goes.givens nav place entry there has))
          (λ req q entry there has. inl (goes.tooks req q entry there has))
          tab.entries;
      desks = goes.desks;
      made = goes.made;
      unmade = goes.unmade;
      waits = goes.waits;
      ascends = goes.ascends;
      continues = goes.continues;
      given = goes.given;
    }

-- ---- what stays where nothing of it is changed

-- no place is changed
pub same_givens : (s t : Seen) → t.places ≡ s.places → (nav : NavId) (place : Place) (entry : EntryId) → place_of t nav ≡ Some place → Has place.ever_given entry → IsKnownEntry s entry
same_givens s t same nav place entry there has =
    inr (inl (record { nav = nav; place = place; there = ap (λ (l : List Place). place_in l nav) (sym same) ∙ there; has = has }))

-- nothing is applied
pub same_tooks : (s t : Seen) → SameReads (λ (q : Asked). q.took) s.requests t.requests → (req : ReqId) (q : Asked) (entry : EntryId) → request_in t.requests req ≡ Some q → Has q.took entry → IsKnownEntry s entry
same_tooks s t same req q entry there has =
    let was : (p : Asked) × (request_in s.requests req ≡ Some p) × (p.took ≡ q.took) = was_asked (λ (q : Asked). q.took) s.requests t.requests same req q there in
    inr (inr (record { req = req; q = was.0; there = was.1; has = subst (λ (l : List EntryId). Has l entry) (sym was.2) has }))
