-- A document on which nobody is awake is discarded within a move.
use Rattle.tab_doors.proofs.PassedOn.{sent_now}
use Rattle.tab_facts.proofs.Calm.Loads.{IsLoads, loads_sent}
use Rattle.seen_facts.specs.Doc.Docs.{AreDocs}
use Rattle.seen_facts.proofs.Hang.Members.{has_map}
use Rattle.seen_facts.specs.Hang.Members.{Has}
use Rattle.seen_facts.proofs.Kept.States.{AreOfOwnStates, sole_states, states_without}
use Rattle.seen_facts.specs.Kept.Keeping.{kept_states}
use Rattle.row_facts.specs.LeaveRows.Leaving.{IsDiscardOf, is_for_one}
use Rattle.seen_facts.proofs.Load.Rows.{look_blind}
use Rattle.seen_facts.specs.Load.Loading.{look, look_of}
use Rattle.load_table.specs.Loads.{ongoing_load}
use Rattle.load_table.specs.declared.load.Load.{Load}
use Rattle.row_facts.proofs.Left.Rows.{were_shown}
use Rattle.row_facts.specs.Left.Left.{WereShown}
use Rattle.seen_facts.specs.LoadTies.Tying.{HasLoad, IsLoadTied, TiesLoads}
use Rattle.log_model.proofs.Refl.{nat_eq_refl}
use Rattle.log_model.specs.After.{after}
use Rattle.log_model.specs.AfterPlaces.{sleepers_with, without_doc}
use Rattle.log_model.specs.Checks.{may_go_on}
use Rattle.log_model.specs.Once.{loads}
use Rattle.log_model.specs.Places.{is_load, is_under_way}
use Rattle.log_model.specs.Seen.{Asked, Document, Seen, document_of, request_of}
use Rattle.log_model.specs.declared.job.Job.{Job}
use Rattle.log_model.specs.declared.job.Why.{Why}
use Rattle.log_model.specs.declared.request.Request.{Request}
use Rattle.log_model.specs.declared.row_kind.RowKind.{RowKind}
use Rattle.nav_tree.specs.Tree.{document_of as document_at}
use Rattle.std.proofs.lemmas.Bool.{and_parts}
use Rattle.log_model.specs.declared.request.Request.TheVariants as requests
use Rattle.nav_tree.specs.declared.place.Place as live_place
use Rattle.seen_facts.specs.Asked.Asking.{HavePassed}
use Rattle.page_cache.specs.Kept.{without}
use Rattle.seen_facts.proofs.Request.Readers.{sent_reads}
use Rattle.seen_facts.proofs.Rest.Still.{found_itself}
use Rattle.seen_laws.proofs.Keyed.{find_has as seen_number, find_on_other}
use Rattle.seen_laws.specs.InEvent.{now_of, row_of}
use Rattle.std.proofs.Common.{List, None, Option, Some, [], ap, arith, false, inl, inr, map, refl, subst, sym, true, ℕ, ◌++◌, ◌==◌, ◌∙◌, ◌∷◌, ◌≡◌, Bool}
use Rattle.std.proofs.lemmas.Bool.Decides.{nat_tests}
use Rattle.std.specs.Prelude.{find, is_some, option_map}
use Rattle.tab_doors.proofs.Keeping.{states_on}
use Rattle.tab_doors.proofs.Whose.{proc_found}
use Rattle.tab_doors.specs.Keeping.{Move}
use Rattle.tab_doors.specs.Look.{Sight, sight}
use Rattle.tab_doors.specs.Orders.{order_to}
use Rattle.tab_doors.specs.declared.tables.Tables.{Tables}
use Rattle.tab_evicts.specs.Evicting.{HasOnlyDiscarded, IsDiscardFor, StaysPlaced}
use Rattle.tab_ids.specs.declared.DocId.{DocId}
use Rattle.tab_ids.specs.declared.NavId.{NavId}
use Rattle.tab_ids.specs.declared.ReqId.{ReqId}
use Rattle.tab_ids.specs.declared.StateId.{StateId}
use Rattle.tab_passes.proofs.Freezings.{below_none}
use Rattle.tab_passes.proofs.Goings.{goes_on}
use Rattle.tab_passes.proofs.Onlies.{only_one}
use Rattle.tab_passes.proofs.Serveds.{served_causes}
use Rattle.tab_passes.specs.Causes.{MayCause}
use Rattle.tab_passes.specs.Leaving.{IsGoneAt, IsLeavingIn, MayLeave, left_then}
use Rattle.tab_passes.specs.Passing.{InPass}
use Rattle.log_model.specs.History.{has_nav}
use Rattle.row_facts.proofs.WalkRows.Leaves.{discard_none_leaves, none_places}
use Rattle.log_model.specs.declared.job.Task.TheVariants as tasks
use Rattle.log_model.specs.declared.job.Why.TheVariants as whys
use Rattle.log_model.specs.declared.row_kind.RowKind.TheVariants as rows

-- the document is there for the state, and nobody is awake on it
pub record IsQuiet (s : Seen) (t : Tables) (doc : DocId) (state : StateId) : Type 0 where
  pub document : Document
  pub found : document_of s doc ≡ Some document
  pub its_state : document.state ≡ state
  pub ready : document.is_ready ≡ true
  pub undiscarded : document.is_discarded ≡ false
  pub unknown : document.is_known_dead ≡ false
  pub listed : option_map (λ (q : live_place.Place). q.doc) (document_at state t.tree) ≡ Some doc
  pub nobody : sleepers_with s doc ≡ []
  pub unloaded : (nav : NavId) (load : Load) → ongoing_load nav t.loads ≡ Some load → (state.0 == load.state.0) ≡ false

-- ---- what it is for

pub for_one : (s : Seen) (why : Why) → MayCause s why → is_for_one s why ≡ true
for_one s (whys.Req req) may = by_found (request_of s req) refl (may req refl).goes
  where
    by_found : (o : Option Asked) → request_of s req ≡ o → may_go_on s req ≡ true → is_some (request_of s req) ≡ true
    by_found (Some q) at goes = rw at refl
    by_found None at goes = let never : may_go_on s req ≡ false = rw at refl in absurd cc
for_one s why may = refl

-- two documents of one number are one
pub one_document : (s : Seen) (doc : DocId) (d e : Document) → document_of s doc ≡ Some d → document_of s doc ≡ Some e → d ≡ e
one_document s doc d e there also = let both : Some d ≡ Some e = sym there ∙ also in cc

-- two that are there for one state are one
pub one_of_state : (s : Seen) (docs : AreDocs s) (doc other : DocId) (d e : Document) → document_of s doc ≡ Some d → document_of s other ≡ Some e → d.state ≡ e.state → d.is_discarded ≡ false → e.is_discarded ≡ false → doc ≡ other
one_of_state s docs doc other d e there also states first second =
    let numbers : d.nr ≡ e.nr = docs.sole doc other d e there also states first second in
    let number : doc.0 ≡ other.0 = sym (seen_number (λ (x : Document). x.nr.0) doc.0 s.documents d there) ∙ ap (λ (n : DocId). n.0) numbers ∙ seen_number (λ (x : Document). x.nr.0) other.0 s.documents e also in
    ap (λ (n : ℕ). let x : DocId = record { 0 = n } in x) number

-- ---- documents of loads

-- a load is of a navigable
pub nav_of_load : (what : Request) → is_load what ≡ true → (nav : NavId) × (loads nav what ≡ true)
nav_of_load (requests.Load nav mode address) is = (nav, nat_eq_refl nav.0)
nav_of_load _ is = absurd (let never : false ≡ true = is in cc)

-- a state that is no load's in the tables is none's in the log
pub no_loads : (s : Seen) (table : List Load) → TiesLoads s table → (state : StateId) → ((nav : NavId) (load : Load) → ongoing_load nav table ≡ Some load → (state.0 == load.state.0) ≡ false) → IsLoads s state → ⊥
no_loads s table ties state apart its =
    let never : true ≡ false = sym (nat_eq_refl state.0) ∙ ap (λ (x : StateId). state.0 == x.0) (sym states) ∙ apart nav.0 has.load has.at in cc
  where
    nav : (n : NavId) × (loads n its.q.what ≡ true)
    nav = nav_of_load its.q.what (and_parts (is_under_way its.q) (is_load its.q.what) its.ongoing).1

    has : HasLoad table nav.0 its.req
    has = ties.all its.req its.q nav.0 its.found its.ongoing nav.1

    tied : IsLoadTied s has.load
    tied = ties.there nav.0 has.load has.at

    states : has.load.state ≡ state
    states =
        let both : Some tied.q ≡ Some its.q = sym tied.found ∙ ap (λ (r : ReqId). request_of s r) has.req_is ∙ its.found in
        let same : tied.q ≡ its.q = cc in
        let two : Some has.load.state ≡ Some state = sym tied.state ∙ ap (λ (q : Asked). q.state) same ∙ its.own in
        cc

module _ {sweeps : Bool} (p : InPass) (move : Option Move) {docs : List DocId} (out : List RowKind) (t : Tables) (leaving : IsLeavingIn sweeps p move docs out t) (why : Why) (may : MayCause (now_of p.event out) why) (doc : DocId) (state : StateId) (its : IsQuiet (now_of p.event out) t doc state) where
  abbrev s : Seen
  s = now_of p.event out

  abbrev discard : Job
  discard = order_to s doc why tasks.Discard

  abbrev pub gone_seen : Seen
  gone_seen = after s (row_of p.event (rows.Sent discard))

  -- ---- what the call asks

  pub quiet_leaves : MayLeave s doc why
  quiet_leaves =
      record {
        document = its.document;
        found = its.found;
        ready = its.ready;
        moves = λ other has. absurd (none_has other has);
        begun = inl its.nobody;
        may = may;
      }
    where
      none_has : (other : NavId) → has_nav (sleepers_with s doc) other ≡ true → ⊥
      none_has other has = let never : false ≡ true = sym (ap (λ (navs : List NavId). has_nav navs other) its.nobody) ∙ has in cc

  pub quiet_gone : IsGoneAt s t.tree t.loads doc state
  quiet_gone =
      record { document = its.document; found = its.found; its_state = own; ready = its.ready; its = its.listed; unloaded = its.unloaded }
    where
      own : (x : Sight) → Has (map sight s.documents) x → (x.nr.0 == doc.0) ≡ true → x.state ≡ state
      own x there same =
          let of_ = has_map sight s.documents x there in
          let first : of_.it.nr.0 ≡ x.nr.0 = ap (λ (y : Sight). y.nr.0) of_.is in
          let second : x.nr.0 ≡ doc.0 = grind (arith, nat_tests, same) in
          let at : document_of s doc ≡ Some of_.it = subst (λ (n : ℕ). find (λ (y : Document). y.nr.0 == n) s.documents ≡ Some of_.it) (first ∙ second) (found_itself s.documents of_.it leaving.going.tab.whose.numbered of_.there) in
          let one : of_.it ≡ its.document = one_document s doc of_.it its.document at its.found in
          ap (λ (y : Sight). y.state) (sym of_.is) ∙ ap (λ (y : Document). y.state) one ∙ its.its_state

  pub quiet_own : AreOfOwnStates s.documents s.kept doc state
  quiet_own =
      subst (λ (x : StateId). AreOfOwnStates s.documents s.kept doc x) its.its_state
      (sole_states s doc its.document leaving.going.tab.kept (record {
        found = its.found;
        only = λ other o there same undiscarded.
            ap (λ (n : DocId). n.0) (leaving.going.tab.docs.sole other doc o its.document there its.found (ap (λ (n : ℕ). let x : StateId = record { 0 = n } in x) same) undiscarded its.undiscarded);
      }))

  all_passed : HavePassed s
  all_passed = leaving.going.tab.asked.passed

  pub quiet_discards : IsDiscardOf s discard its.document
  quiet_discards =
      record {
        task = refl;
        to = record { found = its.found; proc = sym (proc_found s doc its.document its.found); alive = rw (its.undiscarded, its.unknown) refl };
        unhandled = (leaving.going.tab.docs.each doc its.document its.found).live.slot;
        for_one = for_one s why may;
      }

  -- ---- what it leaves

  pub gone_places : gone_seen.places ≡ s.places
  gone_places = none_places s p.event.event p.event.actor discard its.nobody tasks.Discard refl tt

  pub gone_stays : StaysPlaced s gone_seen
  gone_stays =
      record {
        places = gone_places;
        leaves = λ nav. discard_none_leaves s p.event.event p.event.actor discard its.nobody nav refl all_passed;
        loading = loads_sent s p.event.event p.event.actor discard (inr none_its);
      }
    where
      none_its : (d : Document) → document_of s doc ≡ Some d → IsLoads s d.state → ⊥
      none_its d found loads_it =
          let states : d.state ≡ state = ap (λ (x : Document). x.state) (one_document s doc d its.document found its.found) ∙ its.its_state in
          no_loads s t.loads leaving.work.loads state its.unloaded (subst (λ (x : StateId). IsLoads s x) states loads_it)

  pub gone_other : (other : DocId) → (doc.0 == other.0) ≡ false → document_of gone_seen other ≡ document_of s other
  gone_other other apart = find_on_other (λ (y : Document). y.nr.0) (λ (y : Document). record y { is_discarded = true }) doc.0 other.0 s.documents (λ y. refl) apart

  pub gone_states : kept_states gone_seen ≡ without state (kept_states s)
  gone_states =
      states_on doc (λ (y : Document). record y { is_discarded = true }) s.documents (without_doc doc s.kept) (λ d. refl) (λ d. refl)
      ∙ states_without s.documents s.kept doc state quiet_own

  pub gone_looks : (req : ReqId) → look_of gone_seen req ≡ look_of s req
  gone_looks req = sent_reads look look_blind s discard tasks.Discard s.requests req

  pub gone_were : WereShown s → WereShown gone_seen
  gone_were were = were_shown s p.event.event p.event.actor were (rows.Sent discard) tt

  module _ (new : List RowKind) (u : Tables) (is : new ≡ out ++ rows.Sent discard ∷ []) where
    pub gone_now : gone_seen ≡ now_of p.event new
    gone_now = sym (ap (λ (x : List RowKind). now_of p.event x) is ∙ sent_now p.event out discard refl)

    pub gone_leaving : IsLeavingIn sweeps p move (left_then s doc docs) new u → IsLeavingIn sweeps p move (without_doc doc docs) new u
    gone_leaving so = subst (λ (x : List DocId). IsLeavingIn sweeps p move (x ++ without_doc doc docs) new u) (below_none s doc its.nobody) so

    pub gone_may : {rest : List DocId} → IsLeavingIn sweeps p move rest new u → MayCause (now_of p.event new) why
    gone_may so =
        subst (λ (x : Seen). MayCause x why) gone_now
        (served_causes s p.event discard why (subst (λ (x : Seen). (req : ReqId) (q : Asked) → request_of x req ≡ Some q → may_go_on x req ≡ true) (sym gone_now) (goes_on (now_of p.event new) u.running so.going.tab.asked)) may)

    pub gone_only : HasOnlyDiscarded why out new
    gone_only = only_one (IsDiscardFor why) out new (rows.Sent discard) is (record { job = discard; is = refl; why_is = refl; discards = refl })
