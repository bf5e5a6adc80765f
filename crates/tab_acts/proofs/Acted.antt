-- A document makes something of the first poke of its process, but for an edit, or the process refuses that poke: tables that stood for a log stand for it still.
use Rattle.seen_facts.proofs.Coord.Held.{held_apart, held_on, on_else, without_same}
use Rattle.seen_facts.proofs.Coord.Unread.{next}
use Rattle.seen_facts.specs.Desk.Own as owning
use Rattle.seen_facts.proofs.Each.Eaches.{each_first}
use Rattle.seen_facts.proofs.Entry.Stays.{its_number}
use Rattle.tab_facts.proofs.Last.Rows.{made_lasting, refused_lasting}
use Rattle.row_facts.proofs.Left.Rows.{were_shown}
use Rattle.log_model.specs.Equal.{has_req}
use Rattle.log_model.specs.Once.{delta_of}
use Rattle.log_model.specs.Places.{is_load, is_ongoing_load, is_under_way}
use Rattle.log_model.specs.Seen.{Asked, Desk, Document, Seen, desk_of, document_of, request_in, request_of}
use Rattle.log_model.specs.Views.{View, after_made, made_by, made_for}
use Rattle.log_model.specs.declared.action.Action.{Action}
use Rattle.log_model.specs.declared.made.Made.{Made}
use Rattle.log_model.specs.declared.made.What.{What}
use Rattle.log_model.specs.declared.outcome.Denial.{Denial}
use Rattle.log_model.specs.declared.request.Poke.{Poke}
use Rattle.move_queue.specs.Queue.{Queue}
use Rattle.tab_facts.proofs.Order.Rows.{orders_after}
use Rattle.seen_facts.proofs.Request.LookUps.{on_itself}
use Rattle.seen_facts.proofs.Request.Readers.{on_read}
use Rattle.seen_laws.specs.Acting.{IsNoEdit}
use Rattle.std.proofs.Common.{Bool, List, Option, Some, ap, arith, cond, drop, eqb-true, false, map, refl, sym, true, ℕ, ℤ, ◌&&◌, ◌+◌, ◌==◌, ◌∙◌, ◌≡◌}
use Rattle.std.proofs.lemmas.List.{map-id}
use Rattle.std.specs.Prelude.{is_some, option_map, slice_get}
use Rattle.tab_acts.proofs.Left.{StaysTold, changes_kept, left_stands}
use Rattle.tab_stands.proofs.Coming.{bare}
use Rattle.tab_doors.proofs.Sights.{seen_of, sight_of, sights_same, unseen_at, IsSeen}
use Rattle.tab_doors.specs.Look.{Sight, sight, sight_in}
use Rattle.tab_doors.specs.declared.tables.Tables.{Tables}
use Rattle.tab_facts.proofs.TabEvents.Acting.{acted_between, refused_between}
use Rattle.tab_facts.proofs.TabEvents.Left.{IsLeft, but_of, keeps_all}
use Rattle.tab_facts.proofs.TabEvents.Ordered.{orders_on}
use Rattle.tab_facts.proofs.TabEvents.Requests.{others_left}
use Rattle.tab_facts.proofs.TabEvents.Rows.{made_left}
use Rattle.tab_facts.proofs.TabGoing.Counts.{as_many, count_more, count_same}
use Rattle.tab_facts.specs.TabGoing.Going.{count_of, has_ended}
use Rattle.tab_ids.specs.declared.DocId.{DocId}
use Rattle.tab_ids.specs.declared.NavId.{NavId}
use Rattle.tab_ids.specs.declared.ProcId.{ProcId}
use Rattle.tab_ids.specs.declared.ReqId.{ReqId}
use Rattle.tab_ids.specs.declared.StateId.{StateId}
use Rattle.tab_stands.proofs.PassedOn.{unstood_by}
use Rattle.tab_stands.specs.PassedOn.{IsByItsOwn, LoadsMadeOwn, is_new_entry}
use Rattle.tab_stands.specs.Offs.{AreShownOnce}
use Rattle.tab_stands.specs.Standing.{HasRoomFor, InCheck, StandsFor}
use Rattle.tab_facts.proofs.TabWhole.Acting.{Asks, IsActing, its_asked, not_running, unjoined, unparked}
use Rattle.log_model.specs.declared.action.Action.TheVariants as actions
use Rattle.log_model.specs.declared.made.What.TheVariants as whats
use Rattle.log_model.specs.declared.outcome.Ending.TheVariants as endings
use Rattle.log_model.specs.declared.request.Request.TheVariants as requests
use Rattle.log_model.specs.declared.row_kind.Actor.TheVariants as actors
use Rattle.log_model.specs.declared.row_kind.RowKind.TheVariants as rows

some_same : {A : Type 0} {a b : A} → (let o : Option A = Some a in o) ≡ Some b → a ≡ b
some_same e = cc

-- of a traversal a document makes that it goes by its delta
goes_by : (view : View) (nav : NavId) (action : Action) (what : What) (delta : ℤ) → made_by view action ≡ Some what → delta_of (requests.Poke nav action) ≡ Some delta → what ≡ whats.Go delta
goes_by view nav (actions.Go d) what delta makes asks = sym (some_same makes) ∙ ap (λ (n : ℤ). whats.Go n) (some_same asks)
goes_by view nav (actions.Push memo reference) what delta makes never = absurd cc
goes_by view nav (actions.Replace memo reference) what delta makes never = absurd cc
goes_by view nav (actions.Fragment text) what delta makes never = absurd cc
goes_by view nav (actions.AddFrame child) what delta makes never = absurd cc
goes_by view nav (actions.RemoveFrame child) what delta makes never = absurd cc
goes_by view nav actions.Edit what delta makes never = absurd cc

-- what was made of loads is as it was, where another request is changed
pub theirs_else : (s n : Seen) (req : ReqId) → ((q : Asked) → request_in s.requests req ≡ Some q → is_load q.what ≡ false) → ((r : ReqId) → (r.0 == req.0) ≡ false → request_in n.requests r ≡ request_in s.requests r) → ((q : Asked) → request_in n.requests req ≡ Some q → (old : Asked) × (request_in s.requests req ≡ Some old) × (old.what ≡ q.what)) → ((doc : DocId) (d : Document) → document_of s doc ≡ Some d → (new : Document) × (document_of n doc ≡ Some new) × (new.nav ≡ d.nav)) → LoadsMadeOwn s → LoadsMadeOwn n
theirs_else s n req no_load others own homes theirs r q made found load makes = by_test (r.0 == req.0) refl
  where
    by_test : (b : Bool) → (r.0 == req.0) ≡ b → IsByItsOwn n q made × (is_new_entry made.what ≡ true)
    by_test false apart =
        let its = theirs r q made (sym (others r apart) ∙ found) load makes in
        let d = homes made.doc its.0.d its.0.found in
        (record { d = d.0; found = d.1; nav_is = its.0.nav_is ∙ ap (λ (x : NavId). let o : Option NavId = Some x in o) (sym d.2) }, its.1)
    by_test true same =
        let one : r ≡ req = ap (λ (i : ℕ). let x : ReqId = record { 0 = i } in x) (eqb-true r.0 req.0 same) in
        let old = own q (ap (λ (x : ReqId). request_in n.requests x) (sym one) ∙ found) in
        let never : true ≡ false = sym (ap is_load old.2 ∙ load) ∙ no_load old.0 old.1 in absurd cc

module _ (s : Seen) (t : Tables) (queue : Queue) (blame : List (StateId × ReqId)) {check : InCheck} (stands : StandsFor check s t queue blame) (room : HasRoomFor s) (once : AreShownOnce s.places) (proc : ProcId) (poke : Poke) (first : slice_get (desk_of s proc).input 0 ≡ Some poke) where
  -- ---- the request of the poke

  abbrev pub asked : Asks t.running s proc stands.between.tab stands.between.flows poke first
  asked = its_asked t.running s proc stands.between.tab stands.between.flows poke first

  pub no_load : (q : Asked) → request_in s.requests poke.req ≡ Some q → is_load q.what ≡ false
  no_load q there =
      let one : asked.q ≡ q = some_same (sym asked.there ∙ there) in
      ap (λ (x : Asked). is_load x.what) (sym one) ∙ ap is_load asked.what

  pub unheld : has_req s.parked poke.req ≡ false
  unheld = unparked t.running s proc stands.between.tab stands.between.flows poke first

  -- ---- the document acts

  module _ (d : Document) (view : View) (found : document_of s poke.doc ≡ Some d) (has : d.view ≡ Some view) (runs : view.running ≡ true) where
    pub number : view.doc ≡ poke.doc
    number =
        (stands.between.tab.docs.each poke.doc d found).live.viewed view has ∙ ap (λ (n : ℕ). let x : DocId = record { 0 = n } in x) (its_number s.documents poke.doc d found)

    pub there : document_of s view.doc ≡ Some d
    there = ap (λ (n : DocId). document_of s n) number ∙ found

    pub home : d.proc ≡ proc
    home =
        let one : lives.d ≡ d = some_same (sym lives.found ∙ found) in
        let same : d.proc.0 ≡ proc.0 = ap (λ (x : Document). x.proc.0) (sym one) ∙ lives.home in
        ap (λ (n : ℕ). let p : ProcId = record { 0 = n } in p) same
      where
        lives : owning.LivesIn s.documents proc poke.doc
        lives = each_first (owning.IsPokeIn s.documents proc) (desk_of s proc).input poke first (stands.between.tab.desks proc).pokes

    module _ (what : What) (makes : made_by view poke.action ≡ Some what) where
      abbrev its_made : Made
      its_made = made_for view poke.req what

      abbrev made_ : Seen
      made_ = next s s.events (actors.Proc proc) (rows.Made proc (made_for view poke.req what))

      pub acting : IsActing t.running s proc stands.between.tab stands.between.flows poke first d view what
      acting = record { found = found; has = has; runs = runs; makes = makes }

      pub sights : map sight made_.documents ≡ map sight s.documents
      sights =
          sights_same (λ (x : Document). cond (x.nr.0 == view.doc.0) (record x { view = option_map (λ (v : View). after_made v what) x.view }) x) (unseen_at view.doc (λ (x : Document). record x { view = option_map (λ (v : View). after_made v what) x.view }) (λ x. refl)) s.documents

      made_told : StaysTold s made_
      made_told =
          record {
            sights = sights;
            ways = on_read bare s.requests poke.req (λ (x : Asked). record x { made = Some its_made }) (λ x. refl);
            changes = changes_kept s.requests made_.requests (on_read (λ (x : Asked). x.change) s.requests poke.req (λ (x : Asked). record x { made = Some its_made }) (λ x. refl));
            held = held_apart s.requests s.parked poke.req (λ (x : Asked). record x { made = Some its_made }) unheld;
            jobs = refl;
            states = refl;
            entries = refl;
            initial = refl;
            ended = (let same : count_of has_ended made_.requests ≡ count_of has_ended s.requests = count_same has_ended s.requests poke.req (λ (x : Asked). record x { made = Some its_made }) (λ q at. refl) in omega (arith, same));
            long = as_many s.requests poke.req (λ (x : Asked). record x { made = Some its_made });
            step = refl;
            unstood = λ off away. unstood_by s (record { event = s.events; actor = actors.Proc proc; row = rows.Made proc its_made }) refl away off;
          }

      pub homes : (doc : DocId) (x : Document) → document_of s doc ≡ Some x → (new : Document) × (document_of made_ doc ≡ Some new) × (new.nav ≡ x.nav)
      homes doc x at =
          let seen : IsSeen made_ doc (sight x) = seen_of made_ doc (sight x) (ap (λ (l : List Sight). sight_in l doc) sights ∙ sight_of s doc x at) in
          (seen.document, seen.found, ap (λ (y : Sight). y.nav) seen.is)

      pub goes_on : (q : Asked) (delta : ℤ) → request_of s poke.req ≡ Some q → delta_of q.what ≡ Some delta → what ≡ whats.Go delta
      goes_on q delta at asks =
          let one : asked.q ≡ q = some_same (sym asked.there ∙ at) in
          goes_by view asked.nav poke.action what delta makes (ap delta_of (sym asked.what) ∙ ap (λ (x : Asked). delta_of x.what) one ∙ asks)

      -- what it made is no edit
      pub made_stands : IsNoEdit what → StandsFor check (next s s.events (actors.Proc proc) (rows.Made proc (made_for view poke.req what))) t queue blame
      made_stands no_edit =
          left_stands s t queue blame stands room made_ (but_of t.running s made_ (made_left t.running s s.events (actors.Proc proc) proc its_made)) made_told
          (acted_between t.kept.keep t.running s proc stands.between poke first d view what acting no_edit)
          (made_lasting s s.events (actors.Proc proc) stands.lasts.lasting proc its_made d view there has runs refl goes_on)
          (λ F. orders_after F s s.events (actors.Proc proc) (rows.Made proc its_made) tt (λ x is. cc))
          (theirs_else s made_ poke.req no_load (λ r apart. on_else s.requests poke.req (λ (x : Asked). record x { made = Some its_made }) r apart) own_was homes stands.lasts.made)
          (were_shown s s.events (actors.Proc proc) stands.lasts.were (rows.Made proc its_made) tt)
          once
        where
          own_was : (q : Asked) → request_in made_.requests poke.req ≡ Some q → (old : Asked) × (request_in s.requests poke.req ≡ Some old) × (old.what ≡ q.what)
          own_was q at =
              let same : record asked.q { made = Some its_made } ≡ q = some_same (sym (ap (λ (o : Option Asked). option_map (λ (x : Asked). record x { made = Some its_made }) o) asked.there) ∙ sym (on_itself s.requests poke.req (λ (x : Asked). record x { made = Some its_made })) ∙ at) in
              (asked.q, asked.there, ap (λ (x : Asked). x.what) same)

  -- ---- the poke is refused

  module _ (event : ℕ) (reason : Denial) where
    abbrev refuse : Asked → Asked
    refuse q = record q { ending = Some (endings.Refused reason) }

    abbrev refused : Seen
    refused = next s event (actors.Proc proc) (rows.Refused poke.req reason)

    then_is : (q : Asked) → request_in refused.requests poke.req ≡ Some q → refuse asked.q ≡ q
    then_is q at = some_same (sym (ap (λ (o : Option Asked). option_map refuse o) asked.there) ∙ sym (on_itself s.requests poke.req refuse) ∙ at)

    idle_then : (q : Asked) → request_in refused.requests poke.req ≡ Some q → is_ongoing_load q ≡ false
    idle_then q at = ap is_ongoing_load (sym (then_is q at)) ∙ by_started asked.q.is_started (is_load asked.q.what)
      where
        by_started : (a b : Bool) → ((a && false) && b) ≡ false
        by_started true b = refl
        by_started false b = refl

    idle : (q : Asked) → request_in s.requests poke.req ≡ Some q → is_ongoing_load q ≡ false
    idle q there = neither (is_under_way q) (is_load q.what) (no_load q there)
      where
        neither : (a b : Bool) → b ≡ false → (a && b) ≡ false
        neither true b is = is
        neither false b is = refl

    refused_left : IsLeft t.running s refused
    refused_left =
        record {
          g = λ x. x;
          keeps = keeps_all;
          documents = sym (map-id s.documents);
          asked = others_left t.running s.requests refused.requests poke.req (not_running t.running s proc stands.between.tab stands.between.flows poke first) (λ r apart. on_else s.requests poke.req refuse r apart) idle_then idle;
          history = refl;
          places = refl;
          kept = refl;
          joined = without_same s.joined poke.req (unjoined t.running s proc stands.between.tab stands.between.flows poke first);
          parked = without_same s.parked poke.req unheld;
          orders = orders_on proc (λ (desk : Desk). record desk { input = drop 1 desk.input }) s.desks (λ desk has. has);
        }

    refused_told : StaysTold s refused
    refused_told =
        record {
          sights = refl;
          ways = on_read bare s.requests poke.req refuse (λ q. refl);
          changes = changes_kept s.requests refused.requests (on_read (λ (x : Asked). x.change) s.requests poke.req refuse (λ q. refl));
          held = held_on s.requests s.parked poke.req refuse (λ q. refl);
          jobs = refl;
          states = refl;
          entries = refl;
          initial = refl;
          ended = (let more : count_of has_ended refused.requests ≡ count_of has_ended s.requests + 1 = count_more has_ended s.requests poke.req refuse asked.q asked.there (ap is_some asked.unended) refl in omega (arith, more));
          long = as_many s.requests poke.req refuse;
          step = refl;
          unstood = λ off away. unstood_by s (record { event = event; actor = actors.Proc proc; row = rows.Refused poke.req reason }) refl away off;
        }

    pub refused_stands : StandsFor check (next s event (actors.Proc proc) (rows.Refused poke.req reason)) t queue blame
    refused_stands =
        left_stands s t queue blame stands room refused (but_of t.running s refused refused_left) refused_told
        (refused_between t.kept.keep t.running s proc stands.between poke first event reason)
        (refused_lasting s event (actors.Proc proc) stands.lasts.lasting poke.req reason)
        (λ F. orders_after F s event (actors.Proc proc) (rows.Refused poke.req reason) tt (λ x is. cc))
        (theirs_else s refused poke.req no_load (λ r apart. on_else s.requests poke.req refuse r apart) (λ q at. (asked.q, asked.there, ap (λ (x : Asked). x.what) (then_is q at))) (λ doc d found. (d, found, refl)) stands.lasts.made)
        (were_shown s event (actors.Proc proc) stands.lasts.were (rows.Refused poke.req reason) tt)
        once
