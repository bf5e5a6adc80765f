-- What is known of an open world: the views of documents and where they live, whom a poke reaches, and that its numbers are small.
use Rattle.std.proofs.Common.{◌≡◌, ℕ, ◌+◌, ◌<◌, ◌≤◌, Bool, true, false, ◌==◌, List, [], ◌∷◌, length, map, Option, Some, None, refl, sym, ap, ◌∙◌, subst, arith}
use Rattle.std.specs.Prelude.{option_and_then, option_map, is_some, IfSome, IsSome, IsSomeAnd, if◌then◌else◌}
use Rattle.std.proofs.lemmas.Bool.Decides.{nat_tests}
use Rattle.tab_ids.specs.declared.DocId.{DocId}
use Rattle.tab_ids.specs.declared.NavId.{NavId}
use Rattle.tab_ids.specs.declared.ProcId.{ProcId}
use Rattle.tab_ids.specs.declared.ReqId.{ReqId}
use Rattle.log_model.specs.declared.header.Header.{Header}
use Rattle.log_model.specs.declared.job.Order.{Order}
use Rattle.log_model.specs.declared.outcome.Denial.{Denial}
use Rattle.log_model.specs.declared.outcome.Ending.{Ending}
use Rattle.log_model.specs.declared.row_kind.Actor.{Actor}
use Rattle.log_model.specs.declared.row_kind.LogRow.{LogRow}
use Rattle.log_model.specs.declared.row_kind.RowKind.{RowKind}
use Rattle.log_model.specs.Causes.{denial_of_poke}
use Rattle.log_model.specs.Equal.{holds}
use Rattle.log_model.specs.Formed.{poked_document}
use Rattle.log_model.specs.Logs.{seen_of}
use Rattle.log_model.specs.Seen.{Seen, Document, Desk, Asked, document_of}
use Rattle.log_model.specs.Views.{View}
use Rattle.log_counts.specs.Counts.{AreFew, told_index}
use Rattle.log_counts.proofs.Fews.{legal_few}
use Rattle.log_counts.proofs.Numbered.{few_events}
use Rattle.seen_facts.proofs.Rest.Again.{its_number}
use Rattle.coord.specs.Standing.{IsOpenTo, StandsFor}
use Rattle.tab_doors.specs.declared.birth.Birth.{Birth}
use Rattle.tab_doors.specs.Look.{Sight}
use Rattle.tab_doors.specs.Ties.{birth_of, proc_in}
use Rattle.tab_doors.proofs.Sights.{sight_of}
use Rattle.coord.specs.PassedOn.{HasRoomFor}
use Rattle.tab_facts.specs.TabWhole.Tab.{IsTab}
use Rattle.world.specs.declared.state.State.{State}
use Rattle.proc_tables.specs.Desks.{desk_at}
use Rattle.proc_tables.specs.Views.{HasRoom as HasViewRoom, view_at}
use Rattle.world.specs.Asking.{event_of}
use Rattle.world.specs.Open.{IsOpen, IsSmall, row_limit, view_in}
use Rattle.world.specs.Reaching.{AreOf, Reaches}
use Rattle.world.specs.Steps.{next_request, reached_in}

as_long : {A B : Type 0} (f : A → B) (xs : List A) → length (map f xs) ≡ length xs
as_long f [] = refl
as_long f (x ∷ xs) = omega (arith, as_long f xs)

-- ---- whom a poke reaches

-- the document, by number, and that no reason denies it
pub record IsReaching (s : Seen) (nav : NavId) (doc : DocId) : Type 0 where
  pub undenied : denial_of_poke s nav ≡ None
  pub d : Document
  pub reaches : poked_document s nav ≡ Some d
  pub nr : d.nr ≡ doc
  pub in_step : reached_in s nav ≡ Some d

-- the document that it reaches is the one that the step knows
pub reached_there : (s : Seen) (nav : NavId) (doc : DocId) (is : Reaches s nav doc) → reached_in s nav ≡ Some is.d
reached_there s nav doc is =
    let some : (length (is.first ∷ is.others) == 0) ≡ false = grind (arith, nat_tests) in
    let none : denial_of_poke s nav ≡ None = rw is.row (rw (is.run, some) refl) in
    ap (λ (o : Option Denial). let x : Option Document = if is_some o then None else poked_document s nav in x) none ∙ is.reaches

pub reaching : (s : Seen) (nav : NavId) (doc : DocId) → Reaches s nav doc → IsReaching s nav doc
reaching s nav doc is =
    let some : (length (is.first ∷ is.others) == 0) ≡ false = grind (arith, nat_tests) in
    let none : denial_of_poke s nav ≡ None = rw is.row (rw (is.run, some) refl) in
    record {
      undenied = none;
      d = is.d;
      reaches = is.reaches;
      nr = is.nr;
      in_step = reached_there s nav doc is;
    }

-- where a reason denies it, it reaches none
pub reaches_none : (s : Seen) (nav : NavId) (reason : Denial) → denial_of_poke s nav ≡ Some reason → reached_in s nav ≡ None
reaches_none s nav reason denied =
    ap (λ (o : Option Denial). let x : Option Document = if is_some o then None else poked_document s nav in x) denied

-- a test of a view is one of its document
pub holds_then : (test : View → Bool) (o : Option Document) → holds test (option_and_then (λ (d : Document). d.view) o) ≡ holds (λ (d : Document). holds test d.view) o
holds_then test None = refl
holds_then test (Some d) = refl

-- a view that runs isn't one that doesn't
pub run_never : (o : Option View) → holds (λ (v : View). v.running) o ≡ true → IfSome o (λ (v : View). v.running ≡ false) → ⊥
run_never None never stopped = absurd cc
run_never (Some v) runs stopped = let wrong : true ≡ false = sym runs ∙ stopped in absurd cc

-- a document with this view
pub record HasView (s : Seen) (doc : DocId) (view : View) : Type 0 where
  pub d : Document
  pub found : document_of s doc ≡ Some d
  pub has : d.view ≡ Some view

pub has_view : (s : Seen) (doc : DocId) (view : View) → view_in s doc ≡ Some view → HasView s doc view
has_view s doc view is = by_found (document_of s doc) refl is
  where
    by_found : (o : Option Document) → document_of s doc ≡ o → option_and_then (λ (d : Document). d.view) o ≡ Some view → HasView s doc view
    by_found None e never = absurd cc
    by_found (Some d) e has = record { d = d; found = e; has = has }

module _ (header : Header) (log : List LogRow) (t : State) (is : IsOpen header log t) where
  abbrev pub s : Seen
  s = seen_of log

  abbrev pub stands : StandsFor (seen_of log) t.coordinator
  stands = is.keeps.stands

  -- what is true of the tab
  abbrev pub tab : IsTab t.coordinator.tables.running [] [] (seen_of log)
  tab = is.keeps.stands.but.stands.between.tab

  -- ---- where a document lives

  pub lives_in : (doc : DocId) (d : Document) → document_of s doc ≡ Some d → proc_in t.coordinator.tables.whose.entries doc ≡ Some d.proc
  lives_in doc d found =
      ap (λ (o : Option Birth). option_map (λ (b : Birth). b.proc) o) (stands.but.stands.tied.holds.whose doc)
      ∙ ap (λ (o : Option Sight). option_map (λ (b : Birth). b.proc) (option_map birth_of o)) (sight_of s doc d found)

  pub lives_somewhere : (doc : DocId) (d : Document) → document_of s doc ≡ Some d → IsSome (proc_in t.coordinator.tables.whose.entries doc)
  lives_somewhere doc d found = rw (lives_in doc d found) refl

  -- ---- views

  pub viewed : (doc : DocId) (view : View) → view_at t.views doc ≡ Some view → HasView s doc view
  viewed doc view at = has_view s doc view (is.holds.views doc ∙ at)

  pub view_doc : (doc : DocId) → IfSome (view_at t.views doc) (λ (v : View). doc ≡ v.doc)
  view_doc doc = by_view (view_at t.views doc) refl
    where
      by_view : (o : Option View) → view_at t.views doc ≡ o → IfSome o (λ (v : View). doc ≡ v.doc)
      by_view None e = tt
      by_view (Some v) e =
          let its = viewed doc v e in
          sym ((tab.docs.each doc its.d its.found).live.viewed v its.has ∙ its_number s doc its.d its.found)

  -- ---- numbers

  few : AreFew s
  few = legal_few log is.keeps.some is.keeps.legal

  pub few_events_ : s.events ≤ row_limit
  few_events_ = few_events row_limit log is.keeps.some is.keeps.legal is.limited

  pub events_small : t.events ≤ row_limit
  events_small = let same : s.events ≡ t.events = is.holds.events in omega (arith, few_events_, same)

  pub asked_long : length t.endings.items ≡ length s.requests
  asked_long =
      ap (λ (l : List (Option Ending)). length l) (sym is.holds.endings) ∙ as_long (λ (q : Asked). q.ending) s.requests

  pub asked_small : length t.endings.items < row_limit
  asked_small =
      let long : length t.endings.items ≡ length s.requests = asked_long in
      let some : length s.requests + 1 ≤ s.events = few.requests in
      omega (arith, few_events_, long, some)

  -- the number of the next request
  pub next_is : (req : ReqId) → req.0 ≡ length t.endings.items + 1 → req ≡ next_request s
  next_is req nr =
      let long : length t.endings.items ≡ length s.requests = asked_long in
      let at : req.0 ≡ length s.requests + 1 = omega (arith, nr, long) in
      ap (λ (n : ℕ). let x : ReqId = record { 0 = n } in x) at

  pub room : HasRoomFor s
  room =
      let some : length s.requests + 1 ≤ s.events = few.requests in
      omega (arith, few_events_, some)

  -- an event may begin
  pub open_to : (actor : Actor) (own : RowKind) → IsOpenTo (event_of header log actor own) t.coordinator
  open_to actor own =
      record { in_ = record { header = is.header_is; stands = stands.but; room = room; uncut = refl; undue = record { due = λ end. refl; ran = refl }; unwanted = λ behind. refl; unchecked = refl }; slots = stands.slots }

  pub are_of : AreOf (seen_of log) t.coordinator t.runners
  are_of = record { stands = stands; room = room; told = is.holds.runners }

  -- a view has room for one entry more
  roomy : (view : View) → IsSmall t.events view → HasViewRoom view
  roomy view small =
      let numbered : view.numbered ≤ 1000000 = omega (arith, small.numbered, events_small) in
      let index : view.index ≤ 2000000 = omega (arith, small.index, events_small) in
      record { index = omega (arith, index); numbered = omega (arith, numbered) }

  pub has_room : (doc : DocId) → IfSome (view_at t.views doc) HasViewRoom
  has_room doc = by_view (view_at t.views doc) (is.holds.small doc)
    where
      by_view : (o : Option View) → IfSome o (IsSmall t.events) → IfSome o HasViewRoom
      by_view None small = tt
      by_view (Some v) small = roomy v small

  -- the view that runs is there
  pub record IsRun (doc : DocId) : Type 0 where
    pub view : View
    pub at : view_at t.views doc ≡ Some view
    pub running : view.running ≡ true

  pub run_there : (doc : DocId) → holds (λ (v : View). v.running) (view_at t.views doc) ≡ true → IsRun doc
  run_there doc runs = by_view (view_at t.views doc) refl runs
    where
      by_view : (o : Option View) → view_at t.views doc ≡ o → holds (λ (v : View). v.running) o ≡ true → IsRun doc
      by_view None e never = absurd cc
      by_view (Some v) e running = record { view = v; at = e; running = running }

  pub run_room : (doc : DocId) → holds (λ (v : View). v.running) (view_at t.views doc) ≡ true → IsSomeAnd (view_at t.views doc) HasViewRoom
  run_room doc runs =
      let its = run_there doc runs in
      rw its.at (subst (λ (o : Option View). IfSome o HasViewRoom) its.at (has_room doc))

  pub hand_small : (proc : ProcId) (order : Order) → (desk_at t.desks proc).in_hand ≡ Some order → told_index order.job.task ≤ t.events
  hand_small proc order hand =
      let told : told_index order.job.task ≤ s.events = few.hand proc order (ap (λ (x : Desk). x.in_hand) (is.holds.desks proc) ∙ hand) in
      let same : s.events ≡ t.events = is.holds.events in
      omega (arith, told, same)
