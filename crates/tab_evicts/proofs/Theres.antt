-- A document that is there below a discarded one.
use Rattle.seen_facts.proofs.Hang.Members.{find_has, has_any}
use Rattle.seen_facts.proofs.Hang.Parts.{state_is}
use Rattle.seen_facts.specs.Load.Loading.{IsLoading, look, look_of}
use Rattle.load_table.specs.Loads.{ongoing_load}
use Rattle.load_table.specs.declared.load.Load.{Load}
use Rattle.seen_facts.specs.LoadTies.Tying.{IsLoadTied}
use Rattle.log_model.proofs.Refl.{nat_eq_refl}
use Rattle.log_model.specs.Equal.{holds}
use Rattle.log_model.specs.Once.{loads}
use Rattle.log_model.specs.Orders.{is_below_gone}
use Rattle.log_model.specs.Places.{hangs_on, is_document_below}
use Rattle.log_model.specs.Seen.{Asked, Document, Place, Seen, document_of, place_of}
use Rattle.log_model.specs.declared.request.Request.{Request}
use Rattle.seen_laws.proofs.Keyed.{find_has as seen_number}
use Rattle.std.proofs.Common.{Bool, Option, Some, ap, arith, false, not, refl, sym, true, ℕ, ◌&&◌, ◌==◌, ◌||◌, ◌∙◌, ◌≡◌}
use Rattle.std.proofs.lemmas.Bool.Decides.{nat_tests}
use Rattle.std.specs.Prelude.{option_map}
use Rattle.tab_doors.specs.declared.tables.Tables.{Tables}
use Rattle.tab_evicts.proofs.Quiets.{one_document}
use Rattle.tab_doors.specs.Look.{is_live_for, sight}
use Rattle.tab_evicts.specs.Evicting.{IsGoneFor, NoLoadBelow}
use Rattle.tab_ids.specs.declared.DocId.{DocId}
use Rattle.tab_ids.specs.declared.NavId.{NavId}
use Rattle.tab_ids.specs.declared.StateId.{StateId}
use Rattle.seen_facts.specs.Load.Loading.{AreLoading}
use Rattle.seen_facts.specs.LoadTies.Tying.{TiesLoads}
use Rattle.tab_evicts.specs.Evicting.{IsThereBelow}

module _ (s : Seen) (gone : StateId) (doc : DocId) (it : IsThereBelow s gone doc) where
  -- it is there for its state
  pub there_lives : is_live_for it.document.state (sight it.document) ≡ true
  there_lives = rw (nat_eq_refl it.document.state.0) (rw it.ready (rw it.undiscarded (rw it.unknown refl)))

  -- it is another one than any that is elsewhere
  pub there_elsewhere : (other : DocId) (d : Document) (nav : NavId) (place : Place) → document_of s other ≡ Some d → d.nav ≡ nav → place_of s nav ≡ Some place → hangs_on gone place ≡ false → (doc.0 == other.0) ≡ false
  there_elsewhere other d nav place there navs placed outside = by_test (doc.0 == other.0) refl
    where
      by_test : (c : Bool) → (doc.0 == other.0) ≡ c → (doc.0 == other.0) ≡ false
      by_test false e = e
      by_test true e =
          let number : doc.0 ≡ other.0 = grind (arith, nat_tests, e) in
          let one : doc ≡ other = ap (λ (n : ℕ). let x : DocId = record { 0 = n } in x) number in
          let same : it.document ≡ d = one_document s other it.document d (ap (λ (x : DocId). document_of s x) (sym one) ∙ it.found) there in
          let own : it.document.nav ≡ nav = ap (λ (x : Document). x.nav) same ∙ navs in
          let both : Some it.place ≡ Some place = sym it.placed ∙ ap (λ (n : NavId). place_of s n) own ∙ placed in
          let here : it.place ≡ place = cc in
          let no_ : true ≡ false = sym it.below ∙ ap (λ (q : Place). hangs_on gone q) here ∙ outside in
          absurd cc

  -- and than the one that is gone
  pub there_apart : (g : IsGoneFor s gone) → (doc.0 == g.doc.0) ≡ false
  there_apart g = by_test (doc.0 == g.doc.0) refl
    where
      by_test : (c : Bool) → (doc.0 == g.doc.0) ≡ c → (doc.0 == g.doc.0) ≡ false
      by_test false e = e
      by_test true e =
          let number : doc.0 ≡ g.doc.0 = grind (arith, nat_tests, e) in
          let one : doc ≡ g.doc = ap (λ (n : ℕ). let x : DocId = record { 0 = n } in x) number in
          let same : it.document ≡ g.document = one_document s g.doc it.document g.document (ap (λ (x : DocId). document_of s x) (sym one) ∙ it.found) g.found in
          let no_ : false ≡ true = sym it.undiscarded ∙ ap (λ (d : Document). d.is_discarded) same ∙ g.discarded in
          absurd cc

  pub there_gone : (g : IsGoneFor s gone) → is_below_gone s it.document ≡ true
  there_gone g =
      has_any (λ (other : Document). not (other.nr.0 == it.document.nr.0) && (other.is_discarded || other.is_known_dead) && is_document_below s other.state it.document) s.documents g.document
      (find_has (λ (x : Document). x.nr.0 == g.doc.0) s.documents g.document g.found).0 passes
    where
      numbers : (g.document.nr.0 == it.document.nr.0) ≡ false
      numbers =
          let first : g.document.nr.0 ≡ g.doc.0 = seen_number (λ (x : Document). x.nr.0) g.doc.0 s.documents g.document g.found in
          let second : it.document.nr.0 ≡ doc.0 = seen_number (λ (x : Document). x.nr.0) doc.0 s.documents it.document it.found in
          let apart = there_apart g in
          grind (arith, nat_tests, first, second, apart)

      hangs : is_document_below s g.document.state it.document ≡ true
      hangs =
          ap (λ (x : StateId). is_document_below s x it.document) g.its_state
          ∙ ap (λ (o : Option Place). holds (hangs_on gone) o) it.placed
          ∙ it.below

      by_parts : (n gone_ dead hang : Bool) → n ≡ false → gone_ ≡ true → hang ≡ true → (not n && (gone_ || dead) && hang) ≡ true
      by_parts false true dead true e f g = refl
      by_parts true gone_ dead hang e f g = absurd cc
      by_parts false false dead hang e f g = absurd cc
      by_parts false true dead false e f g = absurd cc

      passes : (not (g.document.nr.0 == it.document.nr.0) && (g.document.is_discarded || g.document.is_known_dead) && is_document_below s g.document.state it.document) ≡ true
      passes = by_parts (g.document.nr.0 == it.document.nr.0) g.document.is_discarded g.document.is_known_dead (is_document_below s g.document.state it.document) numbers g.discarded hangs

  -- no load has its state
  pub there_unloaded : (t : Tables) → TiesLoads s t.loads → AreLoading s → NoLoadBelow s gone → (its : StateId) → it.document.state ≡ its → (nav : NavId) (load : Load) → ongoing_load nav t.loads ≡ Some load → (its.0 == load.state.0) ≡ false
  there_unloaded t ties loading_ none its its_state nav load at = by_test (its.0 == load.state.0) refl
    where
      tied : IsLoadTied s load
      tied = ties.there nav load at

      its_look : look_of s load.req ≡ Some (look tied.q)
      its_look = ap (λ (o : Option Asked). option_map look o) tied.found

      loading : IsLoading s (look tied.q)
      loading = loading_.each load.req (look tied.q) its_look tied.ongoing

      its_own : loads loading.nav tied.q.what ≡ true
      its_own = ap (λ (w : Request). loads loading.nav w) loading.what ∙ nat_eq_refl loading.nav.0

      by_test : (c : Bool) → (its.0 == load.state.0) ≡ c → (its.0 == load.state.0) ≡ false
      by_test false is = is
      by_test true is =
          let states : Some load.state ≡ Some loading.state = sym tied.state ∙ loading.state_is in
          let one : load.state ≡ loading.state = cc in
          let number : it.document.state.0 ≡ loading.state.0 = ap (λ (x : StateId). x.0) (its_state ∙ state_is its load.state is ∙ one) in
          let navs : it.document.nav ≡ loading.nav = loading.whose doc it.document it.found number in
          let outside : hangs_on gone it.place ≡ false = none load.req (look tied.q) loading.nav it.place its_look tied.ongoing its_own (ap (λ (n : NavId). place_of s n) (sym navs) ∙ it.placed) in
          let no_ : true ≡ false = sym it.below ∙ outside in
          absurd cc
