-- All goes on after a document was told length and index.
use Rattle.leave_facts.proofs.Events.{sent_duly}
use Rattle.tab_doors.proofs.PassedOn.{sent_goes, sent_now}
use Rattle.tab_passes.proofs.Untold.{IsTellDue}  -- keep
use Rattle.seen_facts.specs.Home.Homes.{IsAtHome}
use Rattle.tab_facts.proofs.TabGoing.PassedOn.{IsToMade, sent_home, tell_tab, told_lasting}
use Rattle.log_model.specs.After.{after}
use Rattle.log_model.specs.Places.{aim_of, all_stand}
use Rattle.log_model.specs.Seen.{Document, Seen}
use Rattle.log_model.specs.declared.job.Job.{Job}
use Rattle.log_model.specs.declared.job.Why.{Why}
use Rattle.log_model.specs.declared.row_kind.RowKind.{RowKind}
use Rattle.row_facts.proofs.Owed.Ends.{loose_more, owed_more}
use Rattle.row_facts.proofs.Owed.Rows.{reckoned_now, sent_lasts, sent_stays}
use Rattle.row_facts.specs.Owed.Owed.{IsLoose, IsOwed}
use Rattle.seen_facts.specs.Asked.Asking.{HavePassed}
use Rattle.row_facts.proofs.RestRows.Orders.{told_rests}
use Rattle.row_facts.specs.RestRows.Moving.{AllRest}
use Rattle.seen_laws.specs.InEvent.{now_of, row_of}
use Rattle.std.proofs.Common.{List, Option, Some, [], ap, length, refl, subst, sym, true, ℕ, ◌++◌, ◌∙◌, ◌∷◌, ◌≡◌, ◌≤◌}
use Rattle.tab_doors.proofs.Whose.{proc_found}
use Rattle.tab_doors.specs.Orders.{order_to}
use Rattle.tab_doors.specs.Working.{IsAtWork, KeepsStore}
use Rattle.tab_doors.specs.declared.tables.Tables.{Tables}
use Rattle.tab_facts.proofs.TabGoing.Rows.{sent_going}
use Rattle.tab_facts.specs.TabGoing.Going.{IsGoing}
use Rattle.tab_ids.specs.declared.DocId.{DocId}
use Rattle.tab_ids.specs.declared.NavId.{NavId}
use Rattle.tab_ids.specs.declared.ReqId.{ReqId}
use Rattle.tab_passes.proofs.Tellings.{telling_aim, told_turn}
use Rattle.tab_passes.specs.Passing.{InPass, IsPassing}
use Rattle.tab_passes.specs.Telling.{IsToldTurn}
pub use Rattle.tab_facts.specs.TabGoing.Going.{IsTab}
use Rattle.log_model.specs.declared.job.Task.TheVariants as tasks
use Rattle.log_model.specs.declared.row_kind.RowKind.TheVariants as rows

-- nobody is asked for a request of the tab
pub all_passed : (p : InPass) (out : List RowKind) (t : Tables) → IsPassing p out t → HavePassed (now_of p.event out)
all_passed p out t pass = pass.going.tab.asked.passed

module _ (p : InPass) (out : List RowKind) (t : Tables) (pass : IsPassing p out t) (nav : NavId) (doc : DocId) (why : Why) (pair : ℕ × ℕ) (due : IsTellDue p out t pass nav doc pair) where
  abbrev s : Seen
  s = now_of p.event out

  abbrev update : Job
  update = order_to s doc why (tasks.Update pair.0 pair.1)

  abbrev told_ : Seen
  told_ = after s (row_of p.event (rows.Sent update))

  its_home : IsAtHome s.documents due.place.nav doc
  its_home = (pass.going.tab.homes.homed nav due.place doc due.placed due.on).home

  its_proc : due.there.document.proc ≡ update.proc
  its_proc = sym (proc_found s doc due.there.document due.there.found)

  -- its document is made
  to_made : IsToMade s update due.there.document
  to_made =
      let both_ : Some its_home.document ≡ Some due.there.document = sym its_home.found ∙ due.there.found in
      let same : its_home.document ≡ due.there.document = cc in
      record { found = due.there.found; ready = ap (λ (d : Document). d.is_ready) (sym same) ∙ its_home.ready; home = its_proc; first = refl }

  tab_then : IsTab t.running p.loads p.hand told_
  tab_then = tell_tab t.running p.loads p.hand s p.event.event p.event.actor pass.going.tab update pair.0 pair.1 due.there.document refl to_made

  -- as tables that keep the traversal that runs
  going_then : IsGoing t.running p.loads p.hand told_
  going_then =
      sent_going t.running p.loads p.hand s p.event.event p.event.actor pass.going update p.loads p.hand tab_then (told_lasting s p.event.event p.event.actor pass.going.lasting update pair.0 pair.1 refl) tt

  aim_then : aim_of told_ ≡ aim_of s
  aim_then = telling_aim s p.event.event p.event.actor update.proc doc why pair nav due.place due.there.document due.placed due.on due.there.found pass.going.tab.flows.whose due.due_pair_is

  loose_then : all_stand told_ (aim_of told_) ≡ true → IsLoose p.event (out ++ rows.Sent update ∷ [])
  loose_then stand =
      loose_more p.event out (rows.Sent update) (sent_goes p.event out update refl).read (pass.loose (ap (λ (step : ℕ). all_stand s step) (sym aim_then) ∙ stand)) (sent_lasts s p.event.event p.event.actor update) (λ end lasts. refl)

  owed_then : IsOwed p.event (out ++ rows.Sent update ∷ [])
  owed_then =
      owed_more p.event out (rows.Sent update) (sent_goes p.event out update refl).read pass.owed (sent_stays s p.event.event p.event.actor update (all_passed p out t pass) (reckoned_now p.event out) refl) (λ end stays. refl)

  rests_then : AllRest told_
  rests_then = told_rests s p.event.event p.event.actor [] pass.rests update (sent_home t.running p.loads p.hand s pass.going.tab update due.there.document to_made) tt

  pub told_passing : (u : Tables) (new : List RowKind) → new ≡ out ++ rows.Sent update ∷ [] → KeepsStore t u → IsAtWork p.event new u → IsPassing p new u
  told_passing u new is keeps work =
      subst (λ (l : List RowKind). IsPassing p l u) (sym is) (record {
        work = subst (λ (l : List RowKind). IsAtWork p.event l u) is work;
        going = subst (λ (x : Seen). IsGoing u.running p.loads p.hand x) now_is (subst (λ (r : Option ReqId). IsGoing r p.loads p.hand told_) (sym keeps.running) going_then);
        owed = owed_then;
        loose = λ stand. loose_then (subst (λ (x : Seen). all_stand x (aim_of x) ≡ true) (sym now_is) stand);
        rests = subst (λ (x : Seen). AllRest x) now_is rests_then;
        duly = sent_duly p.event out update (out ++ rows.Sent update ∷ []) refl tt pass.duly;
        few = subst (λ (n : ℕ). length (now_of p.event (out ++ rows.Sent update ∷ [])).kept ≤ n) (sym keeps.keep) (subst (λ (x : Seen). length x.kept ≤ t.kept.keep) now_is pass.few);
      })
    where
      now_is : told_ ≡ now_of p.event (out ++ rows.Sent update ∷ [])
      now_is = sym (sent_now p.event out update refl)

  pub told_turn_here : (new : List RowKind) → new ≡ out ++ rows.Sent update ∷ [] → IsToldTurn s (now_of p.event new) nav
  told_turn_here new is =
      subst (λ (l : List RowKind). IsToldTurn s (now_of p.event l) nav) (sym is)
      (subst (λ (x : Seen). IsToldTurn s x nav) (sym (sent_now p.event out update refl))
      (told_turn s p.event.event p.event.actor update.proc doc why pair nav due.place due.there.document due.placed due.on due.there.found pass.going.tab.flows.whose due.due_pair_is))
