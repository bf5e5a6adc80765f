-- What a row leaves of what documents made and of what navigables were given, and that all holds after a row that changes requests and one process alone.
use Rattle.std.proofs.Common.{◌≡◌, ℕ, ◌+◌, ◌==◌, false, true, List, [], ◌++◌, map, Option, Some, refl, sym, ap, ◌∙◌, subst}
use Rattle.std.specs.Prelude.{filter, filter_map}
use Rattle.std.proofs.lemmas.List.{map-id}
use Rattle.tab_ids.specs.declared.DocId.{DocId}
use Rattle.tab_ids.specs.declared.EntryId.{EntryId}
use Rattle.tab_ids.specs.declared.Epoch.{Epoch}
use Rattle.tab_ids.specs.declared.NavId.{NavId}
use Rattle.tab_ids.specs.declared.ProcId.{ProcId}
use Rattle.tab_ids.specs.declared.ReqId.{ReqId}
use Rattle.log_model.specs.declared.made.Made.{Made}
use Rattle.log_model.specs.declared.row.Row.{Row}
use Rattle.log_model.specs.AfterRequests.{made_of_report}
use Rattle.log_model.specs.History.{History, has_row}
use Rattle.log_model.specs.Places.{is_moved_in, is_given_target}
use Rattle.log_model.specs.Seen.{Seen, Document, Desk, Asked, Place, awake, desk_of, document_of, place_in, place_of, request_in}
use Rattle.seen_facts.specs.Coord.Leading.{orders_of_desk, is_made_under, coming}
use Rattle.seen_facts.specs.Hang.Forms.{forms_of}
use Rattle.seen_facts.specs.Hang.Members.{Has}
use Rattle.seen_facts.proofs.Rest.Again.{WasOf, was_of}
use Rattle.seen_facts.specs.Each.Mades.{Ascend, Continues}
use Rattle.seen_facts.specs.Each.Items.{Each}
use Rattle.tab_facts.specs.FrameTab.Asking.{ArePlainlyAsked}
use Rattle.tab_facts.specs.FrameTab.Desks.{makes_sent, makes_told, makes_due, IsMadeOnce, IsMadeThere, AreDesks, EachIsMadeOnce, HasMadeNothing, EachHasMadeNothing, untaken, Ascends, waiting, EachAscends, EachContinues}
use Rattle.tab_facts.specs.FrameTab.Steady.{AreGiven}
use Rattle.tab_facts.specs.FrameTab.Whole.{IsFrameTab}
use Rattle.tab_facts.proofs.FrameTab.Goings.{AllStayAsked}
use Rattle.tab_facts.proofs.FrameTab.Steadies.{steady_left}
use Rattle.tab_facts.proofs.FrameTab.Going.{IsKnownEntry, Goes, same_givens, goes_tab}

-- how often the desk has an order that makes the document, or a report of one
abbrev pub makes_at : DocId → Desk → ℕ
makes_at doc desk = makes_sent doc (orders_of_desk desk) + makes_told doc desk.reports

-- all that was made and isn't in the history
abbrev pub untold : List Made → Desk → List Made
untold held desk = held ++ filter_map made_of_report desk.reports

pub made_again : (home : ProcId) (s t : Seen) (g : Document → Document) → ((d : Document) → (g d).nr ≡ d.nr) → ((doc : DocId) (d : Document) → document_of s doc ≡ Some d → IsMadeOnce (desk_of s home) d → IsMadeOnce (desk_of t home) (g d)) → t.documents ≡ map g s.documents → EachIsMadeOnce home s → EachIsMadeOnce home t
made_again home s t g nr one documents each doc d found =
    let w : WasOf s g doc d = was_of s t g nr documents doc d found in
    subst (λ (x : Document). IsMadeOnce (desk_of t home) x) w.is (one doc w.before w.there (each doc w.before w.there))

-- the document is as before, or made as before
pub once_alike : (desk next : Desk) (d new : Document) → new.nr ≡ d.nr → new.is_ready ≡ d.is_ready → ((doc : DocId) → makes_at doc next ≡ makes_at doc desk) → IsMadeOnce desk d → IsMadeOnce next new
once_alike desk next d new nr ready same is =
    ap (λ (n : DocId). makes_at n next) nr ∙ same d.nr ∙ is ∙ ap makes_due (sym ready)

pub ascends_again : (home : ProcId) (s t : Seen) (hand hand_ : List Made) (g : Document → Document) → ((d : Document) → (g d).nr ≡ d.nr) → ((doc : DocId) (d : Document) → document_of s doc ≡ Some d → Ascends (waiting s hand) (desk_of s home) d → Ascends (waiting t hand_) (desk_of t home) (g d)) → t.documents ≡ map g s.documents → EachAscends home s hand → EachAscends home t hand_
ascends_again home s t hand hand_ g nr one documents each doc d found =
    let w : WasOf s g doc d = was_of s t g nr documents doc d found in
    subst (λ (x : Document). Ascends (waiting t hand_) (desk_of t home) x) w.is (one doc w.before w.there (each doc w.before w.there))

pub unmade_again : (home : ProcId) (s t : Seen) (hand hand_ : List Made) (g : Document → Document) → ((d : Document) → (g d).nr ≡ d.nr) → ((doc : DocId) (d : Document) → document_of s doc ≡ Some d → HasMadeNothing (waiting s hand) (desk_of s home) d → HasMadeNothing (waiting t hand_) (desk_of t home) (g d)) → t.documents ≡ map g s.documents → EachHasMadeNothing home s hand → EachHasMadeNothing home t hand_
unmade_again home s t hand hand_ g nr one documents each doc d found =
    let w : WasOf s g doc d = was_of s t g nr documents doc d found in
    subst (λ (x : Document). HasMadeNothing (waiting t hand_) (desk_of t home) x) w.is (one doc w.before w.there (each doc w.before w.there))

-- a navigable was awake on the document, given the same under the same epoch
pub record WasShown (s : Seen) (nav : NavId) (place : Place) : Type 0 where
  pub before : Place
  pub there : place_of s nav ≡ Some before
  pub nav_is : place.nav ≡ before.nav
  pub status : before.status ≡ place.status
  pub given : before.given ≡ place.given
  pub epoch : before.epoch ≡ place.epoch

abbrev pub AllWereShown : Seen → Seen → Type 0
AllWereShown s t = (nav : NavId) (place : Place) (doc : DocId) → place_of t nav ≡ Some place → place.status ≡ awake doc → WasShown s nav place

pub same_shown : (s t : Seen) → t.places ≡ s.places → AllWereShown s t
same_shown s t same nav place doc there wakes =
    record { before = place; there = ap (λ (l : List Place). place_in l nav) (sym same) ∙ there; nav_is = refl; status = refl; given = refl; epoch = refl }

pub continues_again : (home : ProcId) (s t : Seen) (hand hand_ : List Made) → AllWereShown s t → t.history.rows ≡ s.history.rows → ((nav : NavId) (place : Place) (doc : DocId) (given : EntryId) → place_of s nav ≡ Some place → place.status ≡ awake doc → has_row place.nav s.history.rows ≡ true → Continues given (coming (waiting s hand) (desk_of s home) doc place.epoch) → Continues given (coming (waiting t hand_) (desk_of t home) doc place.epoch)) → EachContinues home s hand → EachContinues home t hand_
continues_again home s t hand hand_ were same on each nav place doc given there wakes has is =
    let w : WasShown s nav place = were nav place doc there wakes in
    subst (λ (n : Epoch). Continues given (coming (waiting t hand_) (desk_of t home) doc n)) w.epoch
    (on nav w.before doc given w.there (w.status ∙ wakes) (before w) (each nav w.before doc given w.there (w.status ∙ wakes) (before w) (w.given ∙ is)))
  where
    before : (w : WasShown s nav place) → has_row w.before.nav s.history.rows ≡ true
    before w =
        ap (λ (n : NavId). has_row n s.history.rows) (sym w.nav_is) ∙ ap (λ (l : List Row). has_row place.nav l) (sym same) ∙ has

pub target_alike : (rows : List Row) (step : ℕ) (a b : Place) → a.nav ≡ b.nav → a.given ≡ b.given → is_given_target rows step a ≡ is_given_target rows step b
target_alike rows step a b nav given = rw (nav, given) refl

pub given_again : (s t : Seen) → AllWereShown s t → t.history ≡ s.history → ((nav : NavId) → is_moved_in t.requests nav ≡ false → is_moved_in s.requests nav ≡ false) → AreGiven s → AreGiven t
given_again s t were history moved are nav place doc there wakes has unmoved =
    let w : WasShown s nav place = were nav place doc there wakes in
    ap (λ (h : History). is_given_target h.rows h.current place) history
    ∙ target_alike s.history.rows s.history.current place w.before w.nav_is (sym w.given)
    ∙ are nav w.before doc w.there (w.status ∙ wakes) (ap (λ (n : NavId). has_row n s.history.rows) (sym w.nav_is) ∙ ap (λ (h : History). has_row place.nav h.rows) (sym history) ∙ has) (ap (λ (n : NavId). is_moved_in s.requests n) (sym w.nav_is) ∙ moved place.nav unmoved)

-- ---- a row that changes neither documents, places nor the history

pub record Leaves (home : ProcId) (run_ : Option ReqId) (hand hand_ : List Made) (s t : Seen) : Type 0 where
  pub documents : t.documents ≡ s.documents
  pub places : t.places ≡ s.places
  pub history : t.history ≡ s.history
  pub states : t.states ≡ s.states
  pub entries : t.entries ≡ s.entries
  pub initial : t.initial_states ≡ s.initial_states
  pub stay : AllStayAsked s.requests t.requests
  pub tooks : (req : ReqId) (q : Asked) (entry : EntryId) → request_in t.requests req ≡ Some q → Has q.took entry → IsKnownEntry s entry
  pub asked : ArePlainlyAsked run_ t
  pub desks : AreDesks home t
  pub makes : (doc : DocId) → makes_at doc (desk_of t home) ≡ makes_at doc (desk_of s home)
  pub unmade : (doc : DocId) → untaken (waiting s hand) (desk_of s home) doc ≡ [] → untaken (waiting t hand_) (desk_of t home) doc ≡ []
  pub waits : Each (IsMadeThere s.documents) (waiting t hand_)
  pub ascends : (doc : DocId) (from to : ℕ) → Ascend from (untaken (waiting s hand) (desk_of s home) doc) to → Ascend from (untaken (waiting t hand_) (desk_of t home) doc) to
  pub continues : (nav : NavId) (place : Place) (doc : DocId) (given : EntryId) → place_of s nav ≡ Some place → place.status ≡ awake doc → has_row place.nav s.history.rows ≡ true → Continues given (coming (waiting s hand) (desk_of s home) doc place.epoch) → Continues given (coming (waiting t hand_) (desk_of t home) doc place.epoch)
  pub moved : (nav : NavId) → is_moved_in t.requests nav ≡ false → is_moved_in s.requests nav ≡ false

leaves_goes : (home : ProcId) (run run_ : Option ReqId) (hand hand_ : List Made) (s t : Seen) → Leaves home run_ hand hand_ s t → IsFrameTab home run hand s → Goes home run run_ hand hand_ s t
leaves_goes home run run_ hand hand_ s t leaves tab =
    record {
      g = λ d. d;
      documents = documents;
      alive = record { nr = λ d. refl; nav = λ d. refl; alive = λ doc d found is. is };
      numbers = record { state = λ d. refl; applied = λ d. refl };
      forms = ap forms_of leaves.places;
      givens = same_givens s t leaves.places;
      tooks = leaves.tooks;
      history = leaves.history;
      states = leaves.states;
      entries = leaves.entries;
      initial = leaves.initial;
      asked = leaves.asked;
      steady = steady_left s t leaves.places (ap (λ (h : History). h.rows) leaves.history) leaves.stay tab.steady;
      desks = leaves.desks;
      made = made_again home s t (λ d. d) (λ d. refl) (λ doc d found is. once_alike (desk_of s home) (desk_of t home) d d refl refl leaves.makes is) documents tab.made;
      unmade = unmade_again home s t hand hand_ (λ d. d) (λ d. refl) (λ doc d found is unready. (let i : (d.last_applied ≡ 0) × (untaken (waiting s hand) (desk_of s home) d.nr ≡ []) = is unready in (i.0, leaves.unmade d.nr i.1))) documents tab.unmade;
      waits = subst (λ (l : List Document). Each (IsMadeThere l) (waiting t hand_)) (sym leaves.documents) leaves.waits;
      ascends = ascends_again home s t hand hand_ (λ d. d) (λ d. refl) (λ doc d found is view has. leaves.ascends d.nr d.last_applied view.numbered (is view has)) documents tab.ascends;
      continues = continues_again home s t hand hand_ (same_shown s t leaves.places) (ap (λ (h : History). h.rows) leaves.history) leaves.continues tab.continues;
      given = given_again s t (same_shown s t leaves.places) leaves.history leaves.moved tab.given;
    }
  where
    documents : t.documents ≡ map (λ (d : Document). d) s.documents
    documents = leaves.documents ∙ sym (map-id s.documents)

pub leaves_tab : (home : ProcId) (run run_ : Option ReqId) (hand hand_ : List Made) (s t : Seen) → Leaves home run_ hand hand_ s t → IsFrameTab home run hand s → IsFrameTab home run_ hand_ t
leaves_tab home run run_ hand hand_ s t leaves tab =
    goes_tab home run run_ hand hand_ s t (leaves_goes home run run_ hand hand_ s t leaves tab) tab

-- nothing that was made comes or goes
pub same_ascends : (held held_ : List Made) (desk next : Desk) → untold held_ next ≡ untold held desk → (doc : DocId) (from to : ℕ) → Ascend from (untaken held desk doc) to → Ascend from (untaken held_ next doc) to
same_ascends held held_ desk next same doc from to is =
    subst (λ (l : List Made). Ascend from (filter (λ (made : Made). made.doc.0 == doc.0) l) to) (sym same) is

pub same_continues : (held held_ : List Made) (desk next : Desk) → untold held_ next ≡ untold held desk → (doc : DocId) (given : EntryId) (epoch : Epoch) → Continues given (coming held desk doc epoch) → Continues given (coming held_ next doc epoch)
same_continues held held_ desk next same doc given epoch is =
    subst (λ (l : List Made). Continues given (filter (is_made_under doc epoch) l)) (sym same) is

pub same_unmade : (held held_ : List Made) (desk next : Desk) → untold held_ next ≡ untold held desk → (doc : DocId) → untaken held desk doc ≡ [] → untaken held_ next doc ≡ []
same_unmade held held_ desk next same doc none =
    ap (λ (l : List Made). filter (λ (made : Made). made.doc.0 == doc.0) l) same ∙ none
