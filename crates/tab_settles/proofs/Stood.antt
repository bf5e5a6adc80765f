-- Where all stand after a pass and no traversal runs, what documents made may be taken up.
use Rattle.tab_facts.proofs.Calm.Calms.{calm_but, calm_rooted}
use Rattle.tab_facts.specs.Calm.Calm.{CalmUnless, IsCalm, IsCalmYet}
use Rattle.tab_facts.specs.Calm.Loads.{LoadsHaveDocuments}
use Rattle.tab_releases.proofs.PassedOn.{calm_unmoved, rest_blamed, rest_loads, rest_open, stand_awake}
use Rattle.log_model.specs.History.{has_row}
use Rattle.seen_facts.proofs.Each.Courses.{was_asked}
use Rattle.tab_facts.specs.Frame.Lasting.{Wish, wish}
use Rattle.seen_facts.specs.Home.Homes.{document_in}
use Rattle.log_model.specs.Places.{all_stand, is_load}
use Rattle.log_model.specs.Points.{nav_of_request}
use Rattle.log_model.specs.Seen.{Document, Seen}
use Rattle.seen_facts.proofs.Request.Readers.{SameReads}
use Rattle.log_model.specs.declared.row_kind.RowKind.{RowKind}
use Rattle.seen_laws.specs.InEvent.{now_of}
use Rattle.std.proofs.Common.{List, None, Option, ap, false, subst, sym, true, ◌∙◌, ◌≡◌}
use Rattle.tab_facts.proofs.Calm.Awakes.{calm_stood}
use Rattle.tab_releases.specs.Releasing.{InPass, IsPassing, IsTaking, LoadsMadeOwn, Tables}
use Rattle.tab_ids.specs.declared.NavId.{NavId}
use Rattle.tab_ids.specs.declared.ReqId.{ReqId}
use Rattle.tab_ids.specs.declared.StateId.{StateId}
use Rattle.tab_releases.specs.PassedOn.{AreLeftStrays, HasPassed, LoadsLive}
use Rattle.tab_releases.proofs.Releases.{IsByItsOwn}

-- where documents are as they were, what was made of each load is by a document of its navigable still
pub theirs_over : (s n : Seen) → SameReads wish s.requests n.requests → n.documents ≡ s.documents → LoadsMadeOwn s → LoadsMadeOwn n
theirs_over s n wishes documents theirs req q made found load makes =
    let asked = was_asked wish s.requests n.requests wishes req q found in
    let both = theirs req asked.0 made asked.1 (ap (λ (w : Wish). is_load w.what) asked.2 ∙ load) (ap (λ (w : Wish). w.made) asked.2 ∙ makes) in
    let had : IsByItsOwn s asked.0 made = both.0 in
    (record { d = had.d; found = ap (λ (l : List Document). document_in l made.doc) documents ∙ had.found; nav_is = ap (λ (w : Wish). nav_of_request w.what) (sym asked.2) ∙ had.nav_is }, both.1)

module _ (p : InPass) (out : List RowKind) (t : Tables) (passing : IsPassing p out t) (idle : t.running ≡ None) (passed : HasPassed p.event (now_of p.event out)) (stand : all_stand (now_of p.event out) (now_of p.event out).history.current ≡ true) where
  abbrev s : Seen
  s = now_of p.event out

  -- ongoing loads live on
  pub stood_live : LoadsHaveDocuments s → LoadsLive s
  stood_live loading =
      record { awake = stand_awake t.running p.loads p.hand s passing.going.tab passed.walked.loads; loading = loading }

  calm : IsCalm s
  calm =
      calm_stood s passing.going.tab.sound passing.going.tab.hangs passing.going.tab.homes passing.going.tab.standing passed.rows_ stand

  pub stood_taking : (blame : List (StateId × ReqId)) → AreLeftStrays s blame → LoadsHaveDocuments s → IsTaking p.event t.running blame s
  stood_taking blame strays loading =
      record {
        open_ = rest_open p out t passing idle passed stand;
        loads = rest_loads p out t passing idle passed stand;
        blamed = rest_blamed p out t passing passed blame strays;
        calm = subst (λ (r : Option ReqId). CalmUnless IsCalmYet r s) (sym idle) (calm_but s calm (λ (nav : NavId). has_row nav s.history.rows ≡ false));
        unmoved = calm_unmoved s calm;
        rooted = calm_rooted s calm;
        live = stood_live loading;
      }
