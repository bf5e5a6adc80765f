-- The document that the user evicts was discarded: those below it may be, and none of them is awake.
use Rattle.load_doors.specs.Logged.{IsLogged}
use Rattle.tab_passes.proofs.PassedOn.{sent_duly}
use Rattle.unasked.proofs.Nows.{sent_goes, sent_now}
use Rattle.tab_facts.proofs.Calm.Loads.{IsLoads, loads_sent}
use Rattle.seen_facts.specs.Hang.Members.{Has}
use Rattle.row_facts.proofs.Left.Rows.{were_shown}
use Rattle.row_facts.specs.Left.Left.{WereShown}
use Rattle.seen_facts.proofs.Load.Rows.{look_blind}
use Rattle.seen_facts.specs.Load.Loading.{look}
use Rattle.log_model.specs.After.{after}
use Rattle.log_model.specs.AfterPlaces.{sleepers_with, without_doc}
use Rattle.log_model.specs.Equal.{has_doc}
use Rattle.log_model.specs.History.{has_nav}
use Rattle.log_model.specs.Places.{hangs_on}
use Rattle.log_model.specs.Seen.{Document, Place, Seen, document_of, place_in, place_of}
use Rattle.log_model.specs.declared.job.Job.{Job}
use Rattle.log_model.specs.declared.row_kind.RowKind.{RowKind}
use Rattle.move_queue.specs.Queue.{Queue}
use Rattle.seen_facts.proofs.Mover.Orders.{MovesEach}
use Rattle.nav_tree.specs.Tree.{docs_of}
use Rattle.row_facts.proofs.Owed.Ends.{loose_first, loose_more, loose_owed}
use Rattle.row_facts.proofs.Owed.Rows.{sent_lasts}
use Rattle.row_facts.specs.Owed.Owed.{IsLoose}
use Rattle.seen_facts.specs.Asked.Asking.{HavePassed}
use Rattle.seen_facts.proofs.Request.Readers.{sent_reads}
use Rattle.row_facts.proofs.RestRows.Again.{doc_same}
use Rattle.row_facts.proofs.RestRows.Orders.{discarded_less}
use Rattle.row_facts.specs.RestRows.Moving.{RestBut}
use Rattle.seen_laws.proofs.Keyed.{find_on_other, find_on_same}
use Rattle.seen_laws.specs.InEvent.{InEvent, now_of, row_of, log_of}
use Rattle.seen_laws.specs.Sending.{leads}
use Rattle.seen_laws.specs.Unasked.{unhandled}
use Rattle.std.proofs.Common.{Bool, List, None, Option, Some, [], ap, cond, false, inl, inr, not, refl, subst, sym, true, ◌++◌, ◌==◌, ◌∙◌, ◌∷◌, ◌≡◌}
use Rattle.std.specs.Prelude.{option_map}
use Rattle.tab_doors.proofs.Whose.{proc_found}
use Rattle.tab_doors.specs.Orders.{order_to}
use Rattle.tab_doors.specs.Working.{IsAtWorkIn, KeepsStore, MayDiscardIn}
use Rattle.tab_doors.specs.declared.tables.Tables.{Tables}
use Rattle.tab_evicts.proofs.Hangings.{none_awake}
use Rattle.tab_evicts.proofs.Nones.{there_listed}
use Rattle.tab_evicts.proofs.Quiets.{no_loads}
use Rattle.tab_evicts.specs.Evicting.{HasOnlyDiscarded, IsDiscardFor, IsGoneFor, IsLetting, IsNotBelow, IsThereBelow, NoLoadBelow, NoMoreBelow, NoneBelow, StaysPlaced}
use Rattle.tab_facts.proofs.TabGoing.PassedOn.{discard_tab, discarded_lasting}
use Rattle.tab_facts.proofs.TabGoing.Rows.{sent_going}
use Rattle.tab_facts.proofs.TabGoing.PassedOn.{IsToMade, sent_home}
use Rattle.tab_ids.specs.declared.DocId.{DocId}
use Rattle.tab_ids.specs.declared.NavId.{NavId}
use Rattle.tab_ids.specs.declared.ReqId.{ReqId}
use Rattle.tab_ids.specs.declared.StateId.{StateId}
use Rattle.tab_passes.proofs.Freezings.{below_none}
use Rattle.tab_passes.proofs.Onlies.{only_one}
use Rattle.tab_stands.specs.PassedOn.{IsGoing, IsLoadOf, IsTab}
use Rattle.tab_stands.specs.Standing.{HasRoomFor, InCheck, LastsInLog, StandsFor, seen_start}
use Rattle.user_evicts.proofs.Kepts.{its_kept, its_unloaded, nobody}
use Rattle.user_evicts.proofs.Owns.{due_own, going_own, rests_own, tab_own, taking_own, tied_own, were_own}
use Rattle.user_evicts.specs.Evicting.{IsEvictAsk}
use Rattle.row_facts.proofs.WalkRows.Leaves.{discard_none_leaves, none_places}
use Rattle.log_model.specs.declared.job.Task.TheVariants as tasks
use Rattle.log_model.specs.declared.job.Why.TheVariants as whys
use Rattle.log_model.specs.declared.row_kind.RowKind.TheVariants as rows

-- one that is taken out of a list isn't in it
without_itself : (doc : DocId) (docs : List DocId) → has_doc (without_doc doc docs) doc ≡ false
without_itself doc [] = refl
without_itself doc (d ∷ docs) = by_test (d.0 == doc.0) refl (without_itself doc docs)
  where
    by_test : (b : Bool) → (d.0 == doc.0) ≡ b → has_doc (without_doc doc docs) doc ≡ false → has_doc (let l : List DocId = cond (not (d.0 == doc.0)) (d ∷ without_doc doc docs) (without_doc doc docs) in l) doc ≡ false
    by_test true same rest = rw same rest
    by_test false apart rest = rw apart (rw apart rest)

module _ (e : InEvent) (state : StateId) (asks : IsEvictAsk e state) (t : Tables) (queue : Queue) (blame : List (StateId × ReqId)) {check : InCheck} (stands : StandsFor check (seen_start e) t queue blame) (logged : IsLogged e t.checks) (logs : LastsInLog e.checking t.asking (log_of e [])) (room : HasRoomFor (seen_start e)) (free : MayDiscardIn check.holds e) where
  abbrev n : Seen
  n = now_of e []

  abbrev doc : DocId
  doc = asks.doc

  abbrev document : Document
  document = unhandled asks.document

  abbrev order : Job
  order = order_to n asks.doc whys.Evict tasks.Discard

  abbrev then_ : Seen
  then_ = after n (row_of e (rows.Sent order))

  abbrev tab : IsTab t.running check.loads [] n
  tab = tab_own e state asks t queue blame stands logged logs

  abbrev were : WereShown n
  were = were_own e state asks t queue blame stands logged logs

  found : document_of n doc ≡ Some document
  found = (due_own e state asks t queue blame stands logged logs).found

  states : document.state ≡ state
  states = (due_own e state asks t queue blame stands logged logs).state_is

  kept : Has n.kept doc
  kept = its_kept e state asks t (tied_own e state asks t queue blame stands logged logs) tab were (due_own e state asks t queue blame stands logged logs)

  none_sleep : sleepers_with n doc ≡ []
  none_sleep = nobody e state asks t (tied_own e state asks t queue blame stands logged logs) tab were (due_own e state asks t queue blame stands logged logs)

  all_passed : HavePassed n
  all_passed = tab.asked.passed

  -- ---- all goes on

  ready : document.is_ready ≡ true
  ready =
      (let its = tab.kept.each doc kept in let both : Some its.d ≡ Some document = sym its.found ∙ found in let same : its.d ≡ document = cc in ap (λ (d : Document). d.is_ready) (sym same) ∙ its.ready)

  to_discard : IsToMade n order document
  to_discard = record { found = found; ready = ready; home = sym (proc_found n doc document found); first = refl }

  moves : MovesEach n whys.Evict (sleepers_with n doc)
  moves other has = let never : false ≡ true = sym (ap (λ (navs : List NavId). has_nav navs other) none_sleep) ∙ has in absurd cc

  going_then : IsGoing t.running check.loads [] then_
  going_then =
      sent_going t.running check.loads [] n e.event e.actor (going_own e state asks t queue blame stands logged logs room) order check.loads [] (discard_tab t.running check.loads [] n e.event e.actor tab order document to_discard moves refl) (discarded_lasting n e.event e.actor (going_own e state asks t queue blame stands logged logs room).lasting order refl (inl none_sleep)) tt

  rests_then : RestBut [] then_
  rests_then =
      subst (λ (l : List DocId). RestBut (l ++ []) then_) (below_none n doc none_sleep) (discarded_less n e.event e.actor [] (rests_own e state asks t queue blame stands logged logs) order (sent_home t.running check.loads [] n tab order document to_discard) refl)

  own_leads : leads e.own ≡ true
  own_leads = ap (λ (k : RowKind). leads k) asks.own

  loose_then : IsLoose e (rows.Sent order ∷ [])
  loose_then =
      loose_more e [] (rows.Sent order) (sent_goes e [] order refl).read (loose_first e logged.undue) (sent_lasts n e.event e.actor order) (λ end lasts. refl)

  -- ---- what is left

  places_then : then_.places ≡ n.places
  places_then = none_places n e.event e.actor order none_sleep tasks.Discard refl tt

  stays : StaysPlaced n then_
  stays =
      record {
        places = places_then;
        leaves = λ nav. discard_none_leaves n e.event e.actor order none_sleep nav refl all_passed;
        loading = loads_sent n e.event e.actor order (inr none_its);
      }
    where
      none_its : (d : Document) → document_of n doc ≡ Some d → IsLoads n d.state → ⊥
      none_its d at loads_it =
          let both : Some d ≡ Some document = sym at ∙ found in
          let same : d ≡ document = cc in
          let own : d.state ≡ state = ap (λ (x : Document). x.state) same ∙ states in
          no_loads n t.loads (tied_own e state asks t queue blame stands logged logs).loads state (its_unloaded e state asks t (tied_own e state asks t queue blame stands logged logs) tab were (due_own e state asks t queue blame stands logged logs)) (subst (λ (x : StateId). IsLoads n x) own loads_it)

  placed_was : (nav : NavId) (place : Place) → place_of then_ nav ≡ Some place → place_of n nav ≡ Some place
  placed_was nav place at = ap (λ (l : List Place). place_in l nav) (sym places_then) ∙ at

  discarded : document_of then_ doc ≡ Some (record document { is_discarded = true })
  discarded =
      find_on_same (λ (y : Document). y.nr.0) (λ (y : Document). record y { is_discarded = true }) doc.0 n.documents (λ y. refl)
      ∙ ap (λ (o : Option Document). option_map (λ (y : Document). record y { is_discarded = true }) o) found

  gone_then : IsGoneFor then_ state
  gone_then =
      record { doc = doc; document = record document { is_discarded = true }; found = discarded; discarded = refl; its_state = states }

  -- nobody is awake below it
  none_hung : NoneBelow n state
  none_hung nav place x placed wakes =
      ap (λ (own : StateId). hangs_on own place) (sym states) ∙ none_awake t.running check.loads [] n tab were.owned doc document found kept nav place x placed wakes

  none_then : NoneBelow then_ state
  none_then nav place x placed wakes = none_hung nav place x (placed_was nav place placed) wakes

  -- so no ongoing load's navigable is
  loads_then : NoLoadBelow then_ state
  loads_then req l nav place at ongoing its_own placed =
      let its : IsLoadOf n req nav = record { look = l; at = sym (sent_reads look look_blind n order tasks.Discard n.requests req) ∙ at; ongoing = ongoing; loads_it = its_own } in
      let up = (taking_own e state asks t queue blame stands logged logs).live.awake req nav its in
      none_hung nav place up.0 (placed_was nav place placed) (let both : Some up.1.place ≡ Some place = sym up.1.placed ∙ placed_was nav place placed in let same : up.1.place ≡ place = cc in ap (λ (p : Place). p.status) (sym same) ∙ up.1.wakes)

  -- none is there below it that wasn't
  fewer : NoMoreBelow state n then_
  fewer x it = by_test (doc.0 == x.0) refl
    where
      own_gone : IsNotBelow then_ state doc
      own_gone own =
          let both : Some own.document ≡ Some (record document { is_discarded = true }) = sym own.found ∙ discarded in
          let same : own.document ≡ record document { is_discarded = true } = cc in
          let never : false ≡ true = sym own.undiscarded ∙ ap (λ (d : Document). d.is_discarded) same in
          cc

      by_test : (b : Bool) → (doc.0 == x.0) ≡ b → IsThereBelow n state x
      by_test true same = absurd (own_gone (subst (λ (y : DocId). IsThereBelow then_ state y) (sym (doc_same doc x same)) it))
      by_test false apart =
          record {
            document = it.document;
            found = sym (find_on_other (λ (y : Document). y.nr.0) (λ (y : Document). record y { is_discarded = true }) doc.0 x.0 n.documents (λ y. refl) apart) ∙ it.found;
            ready = it.ready;
            undiscarded = it.undiscarded;
            unknown = it.unknown;
            place = it.place;
            placed = placed_was it.document.nav it.place it.placed;
            below = it.below;
          }

  -- those that are there below it are listed
  pub below_listed : (x : DocId) → IsThereBelow n state x → Has (docs_of t.tree) x
  below_listed x it = there_listed n t (tied_own e state asks t queue blame stands logged logs).holds.documents state x it

  -- ---- the order was put out

  module _ (new : List RowKind) (u : Tables) (is : new ≡ rows.Sent order ∷ []) where
    now_is : then_ ≡ now_of e new
    now_is = sym (ap (λ (l : List RowKind). now_of e l) is ∙ sent_now e [] order refl)

    pub first_only : HasOnlyDiscarded whys.Evict [] new
    first_only = only_one (IsDiscardFor whys.Evict) [] new (rows.Sent order) is (record { job = order; is = refl; why_is = refl; discards = refl })

    pub first_stays : StaysPlaced n (now_of e new)
    first_stays = subst (λ (x : Seen). StaysPlaced n x) now_is stays

    pub first_fewer : NoMoreBelow state n (now_of e new)
    first_fewer = subst (λ (x : Seen). NoMoreBelow state n x) now_is fewer

    pub first_unkept : has_doc (now_of e new).kept doc ≡ false
    first_unkept = subst (λ (x : Seen). has_doc x.kept doc ≡ false) now_is (without_itself doc n.kept)

    pub first_letting : KeepsStore t u → IsAtWorkIn check.holds None e new u → IsLetting (record { pass = record { event = e; loads = check.loads; hand = [] }; moved = None; sweeps = check.holds }) state whys.Evict new u
    first_letting keeps work =
        record {
          leaving = record {
            work = work;
            going = subst (λ (x : Seen). IsGoing u.running check.loads [] x) now_is (subst (λ (r : Option ReqId). IsGoing r check.loads [] then_) (sym keeps.running) going_then);
            owed = loose_owed e new (subst (λ (l : List RowKind). IsLoose e l) (sym is) loose_then);
            rests = subst (λ (x : Seen). RestBut [] x) now_is rests_then;
            duly = sent_duly e [] order new is tt logs.duly;
          };
          may = λ req never. absurd cc;
          were = subst (λ (x : Seen). WereShown x) now_is (were_shown n e.event e.actor were (rows.Sent order) tt);
          loads = subst (λ (x : Seen). NoLoadBelow x state) now_is loads_then;
          gone_for = subst (λ (x : Seen). IsGoneFor x state) now_is gone_then;
          none = subst (λ (x : Seen). NoneBelow x state) now_is none_then;
          moving = λ m never. absurd cc;
          off = λ doc_ d found ready undiscarded shown. inr (λ req never. absurd cc);
          free = free;
        }
