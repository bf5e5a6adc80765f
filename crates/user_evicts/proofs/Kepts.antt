-- The document that is kept longest, as the user evicts it: nobody is awake on it, and the tables have it for its state alone.
use Rattle.tab_doors.specs.AskingLoads.{TiesAsking}
use Rattle.load_doors.specs.Logged.{IsLogged}
use Rattle.seen_facts.proofs.Hang.Hung.{places_distinct}
use Rattle.seen_facts.proofs.Hang.Members.{has_map}
use Rattle.seen_facts.proofs.Hang.Parts.{state_is}
use Rattle.seen_facts.specs.Hang.Members.{Has}
use Rattle.seen_facts.proofs.Kept.States.{AreOfOwnStates, sole_states}
use Rattle.seen_facts.specs.Kept.Keeping.{IsKeptDoc, IsMadeFor, is_last}
use Rattle.row_facts.specs.LeaveRows.Evicting.{IsEvictDue}
use Rattle.row_facts.specs.LeaveRows.Leaving.{IsDiscardOf}
use Rattle.row_facts.specs.Left.Left.{WasEverShown, WereShown}
use Rattle.load_doors.specs.Tied.{AreTied}
use Rattle.seen_facts.specs.Load.Loading.{IsLoading, look, look_of}
use Rattle.load_table.specs.Loads.{ongoing_load}
use Rattle.load_table.specs.declared.load.Load.{Load}
use Rattle.seen_facts.specs.LoadTies.Tying.{IsLoadTied}
use Rattle.log_model.proofs.Refl.{nat_eq_refl}
use Rattle.log_model.specs.AfterPlaces.{sleepers_with}
use Rattle.log_model.specs.Equal.{has_doc, holds}
use Rattle.log_model.specs.History.{has_nav}
use Rattle.log_model.specs.Seen.{Asked, Document, Place, Seen, document_of, place_of}
use Rattle.nav_tree.specs.Tree.{document_of as document_at}
use Rattle.nav_tree.specs.declared.place.Place as live_place
use Rattle.seen_facts.proofs.Rest.Still.{found_itself}
use Rattle.seen_laws.specs.InEvent.{InEvent, log_of, now_of}
use Rattle.seen_laws.specs.Unasked.{unhandled}
use Rattle.std.proofs.Common.{Bool, List, None, Option, Some, [], ap, arith, false, map, not, refl, subst, sym, true, ℕ, ◌&&◌, ◌==◌, ◌||◌, ◌∙◌, ◌≡◌}
use Rattle.std.proofs.lemmas.Bool.Decides.{nat_tests}
use Rattle.std.specs.Prelude.{find, option_map}
use Rattle.tab_doors.proofs.Sights.{sight_of}
use Rattle.tab_doors.proofs.Whose.{proc_found}
use Rattle.tab_doors.specs.Look.{Sight, is_live_for, sight}
use Rattle.tab_doors.specs.Orders.{IsToGo, order_to, proc_at}
use Rattle.tab_doors.specs.declared.tables.Tables.{Tables}
use Rattle.tab_evicts.proofs.Hangings.{not_awake}
use Rattle.tab_ids.specs.declared.ReqId.{ReqId}
use Rattle.tab_ids.specs.declared.DocId.{DocId}
use Rattle.tab_ids.specs.declared.NavId.{NavId}
use Rattle.tab_ids.specs.declared.StateId.{StateId}
use Rattle.tab_passes.proofs.Lives.{listed_at}
use Rattle.tab_stands.specs.PassedOn.{IsTab}
use Rattle.user_evicts.proofs.Lawful.{last_has}
use Rattle.user_evicts.specs.Discarding.{IsEvicted}
use Rattle.user_evicts.specs.Evicting.{IsEvictAsk}
use Rattle.row_facts.proofs.WalkRows.Sleeping.{no_shower, nobody_awake}
use Rattle.log_model.specs.declared.job.Task.TheVariants as tasks
use Rattle.log_model.specs.declared.job.Why.TheVariants as whys

neither : (a b : Bool) → a ≡ false → b ≡ false → (a || b) ≡ false
neither false false e f = refl
neither true b e f = absurd cc
neither false true e f = absurd cc

all_four : (a b c d : Bool) → a ≡ true → b ≡ true → c ≡ false → d ≡ false → (a && b && not c && not d) ≡ true
all_four true true false false e f g h = refl
all_four false b c d e f g h = absurd cc
all_four true false c d e f g h = absurd cc
all_four true true true d e f g h = absurd cc
all_four true true false true e f g h = absurd cc

module _ (e : InEvent) (state : StateId) (asks : IsEvictAsk e state) (t : Tables) (tied : AreTied (now_of e []) t) {ids : List ReqId} (tab : IsTab t.running ids [] (now_of e [])) (were : WereShown (now_of e [])) (due : IsEvictDue (now_of e []) state asks.doc (unhandled asks.document)) where
  abbrev n : Seen
  n = now_of e []

  abbrev pub doc : DocId
  doc = asks.doc

  abbrev pub document : Document
  document = unhandled asks.document

  pub its_kept : Has n.kept doc
  its_kept = last_has n.kept doc due.last

  its : IsKeptDoc n.documents n.places doc
  its = tab.kept.each doc its_kept

  -- it is that document
  its_own : its.d ≡ document
  its_own = let both : Some its.d ≡ Some document = sym its.found ∙ due.found in cc

  ready : document.is_ready ≡ true
  ready = ap (λ (d : Document). d.is_ready) (sym its_own) ∙ its.ready

  pub its_there : document.is_discarded ≡ false
  its_there = ap (λ (d : Document). d.is_discarded) (sym its_own) ∙ its.undiscarded

  unknown : document.is_known_dead ≡ false
  unknown = ap (λ (d : Document). d.is_known_dead) (sym its_own) ∙ its.unknown

  -- ---- no navigable was shown it last, and nobody is awake on it

  unshown : (nav : NavId) (place : Place) → place_of n nav ≡ Some place → is_last doc place ≡ false
  unshown nav place placed = by_last place.last refl
    where
      by_doc : (last : DocId) → place.last ≡ Some last → (b : Bool) → (last.0 == doc.0) ≡ b → (last.0 == doc.0) ≡ false
      by_doc last at false apart = apart
      by_doc last at true same =
          let number : last.0 ≡ doc.0 = grind (arith, nat_tests, same) in
          let one : last ≡ doc = ap (λ (k : ℕ). let x : DocId = record { 0 = k } in x) number in
          let made : IsMadeFor n.documents nav last = tab.kept.lasts nav place last placed at in
          let both : Some made.d ≡ Some its.d = sym made.found ∙ ap (λ (x : DocId). document_of n x) one ∙ its.found in
          let docs : made.d ≡ its.d = cc in
          let navs : its.d.nav ≡ nav = ap (λ (k : ℕ). let x : NavId = record { 0 = k } in x) (ap (λ (d : Document). d.nav.0) (sym docs) ∙ made.nav_is) in
          let two : Some its.place ≡ Some place = sym its.placed ∙ ap (λ (x : NavId). place_of n x) navs ∙ placed in
          let here : its.place ≡ place = cc in
          let own : is_last doc place ≡ true = ap (λ (o : Option DocId). holds (λ (x : DocId). x.0 == doc.0) o) at ∙ same in
          let never : true ≡ false = sym own ∙ ap (λ (p : Place). is_last doc p) (sym here) ∙ its.left in
          absurd cc

      by_last : (o : Option DocId) → place.last ≡ o → is_last doc place ≡ false
      by_last None at = ap (λ (o : Option DocId). holds (λ (x : DocId). x.0 == doc.0) o) at
      by_last (Some last) at =
          ap (λ (o : Option DocId). holds (λ (x : DocId). x.0 == doc.0) o) at ∙ by_doc last at (last.0 == doc.0) refl

  pub nobody : sleepers_with n doc ≡ []
  nobody =
      nobody_awake n doc (no_shower n doc (places_distinct n tab.sound tab.hangs) (λ nav place placed wakes. not_awake t.running ids [] n tab were.owned doc its.d its.found its_kept nav place doc its.d placed wakes its.found refl))

  -- ---- its state is its own

  own_state : AreOfOwnStates n.documents n.kept doc state
  own_state =
      subst (λ (x : StateId). AreOfOwnStates n.documents n.kept doc x) due.state_is
      (sole_states n doc document tab.kept (record {
        found = due.found;
        only = λ other o there same undiscarded.
            ap (λ (x : DocId). x.0) (tab.docs.sole other doc o document there due.found (ap (λ (k : ℕ). let x : StateId = record { 0 = k } in x) same) undiscarded its_there);
      }))

  -- and no ongoing load's, since the document was shown
  pub its_unloaded : (nav : NavId) (load : Load) → ongoing_load nav t.loads ≡ Some load → (state.0 == load.state.0) ≡ false
  its_unloaded nav load at = by_test (state.0 == load.state.0) refl
    where
      tie : IsLoadTied n load
      tie = tied.loads.there nav load at

      its_look : look_of n load.req ≡ Some (look tie.q)
      its_look = ap (λ (o : Option Asked). option_map look o) tie.found

      loading : IsLoading n (look tie.q)
      loading = tab.loading.each load.req (look tie.q) its_look tie.ongoing

      ever : WasEverShown n.places doc
      ever = were.kept doc its_kept

      by_test : (c : Bool) → (state.0 == load.state.0) ≡ c → (state.0 == load.state.0) ≡ false
      by_test false is = is
      by_test true is =
          let states : Some load.state ≡ Some loading.state = sym tie.state ∙ loading.state_is in
          let one : load.state ≡ loading.state = cc in
          let number : document.state.0 ≡ loading.state.0 = ap (λ (x : StateId). x.0) (due.state_is ∙ state_is state load.state is ∙ one) in
          let never : has_doc ever.place.ever_awake doc ≡ false = loading.unshown doc document due.found number ever.nav ever.place ever.placed in
          let no_ : true ≡ false = sym ever.ever ∙ never in
          absurd cc

  -- ---- what the order asks

  discards : IsDiscardOf n (order_to n doc whys.Evict tasks.Discard) document
  discards =
      record {
        task = refl;
        to = record { found = due.found; proc = sym (proc_found n doc document due.found); alive = neither document.is_discarded document.is_known_dead its_there unknown };
        unhandled = (tab.docs.each doc document due.found).live.slot;
        for_one = refl;
      }

  lives : is_live_for state (sight document) ≡ true
  lives =
      all_four (document.state.0 == state.0) document.is_ready document.is_discarded document.is_known_dead (ap (λ (x : StateId). x.0 == state.0) due.state_is ∙ nat_eq_refl state.0) ready its_there unknown

  pub its_listed : option_map (λ (q : live_place.Place). q.doc) (document_at state t.tree) ≡ Some doc
  its_listed =
      listed_at (map sight n.documents) t tied.holds.documents doc (sight document) (sight_of n doc document due.found) state lives

  gone : IsToGo n t.tree t.loads [] doc state
  gone =
      record {
        document = document;
        found = due.found;
        are = λ other. ap (λ (navs : List NavId). has_nav navs other) nobody;
        its_state = own;
        ready = ready;
        its = its_listed;
        unloaded = its_unloaded;
      }
    where
      own : (x : Sight) → Has (map sight n.documents) x → (x.nr.0 == doc.0) ≡ true → x.state ≡ state
      own x there same =
          let of_ = has_map sight n.documents x there in
          let first : of_.it.nr.0 ≡ x.nr.0 = ap (λ (y : Sight). y.nr.0) of_.is in
          let second : x.nr.0 ≡ doc.0 = grind (arith, nat_tests, same) in
          let at : document_of n doc ≡ Some of_.it = subst (λ (k : ℕ). find (λ (y : Document). y.nr.0 == k) n.documents ≡ Some of_.it) (first ∙ second) (found_itself n.documents of_.it tab.whose.numbered of_.there) in
          let both : Some of_.it ≡ Some document = sym at ∙ due.found in
          let one : of_.it ≡ document = cc in
          ap (λ (y : Sight). y.state) (sym of_.is) ∙ ap (λ (y : Document). y.state) one ∙ due.state_is

  pub its_evicted : IsLogged e t.checks → TiesAsking e.checking (log_of e []) t.asking → IsEvicted e t asks.doc state
  its_evicted logged asking =
      record {
        logged = logged;
        asking = asking;
        by_user = asks.by_user;
        own = asks.own;
        was = asks.document;
        began = asks.due;
        document = document;
        due = due;
        unshown = unshown;
        discards = discards;
        known = (tab.asked.died (proc_at n doc)).0;
        gone = gone;
        own_state = own_state;
      }
