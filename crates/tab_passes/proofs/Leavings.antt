-- All goes on as documents are left: frozen or discarded, within a move or not.
use Rattle.leave_facts.proofs.Events.{sent_duly}
use Rattle.tab_doors.proofs.PassedOn.{sent_goes, sent_now}
use Rattle.tab_facts.proofs.TabGoing.PassedOn.{ServesNoneToBegin, discard_tab, discarded_lasting, freeze_tab, frozen_lasting, show_tab, shown_lasting}
use Rattle.seen_facts.specs.Doc.Docs.{HasPlace}
use Rattle.log_model.specs.After.{after}
use Rattle.log_model.specs.Places.{aim_of, all_stand}
use Rattle.log_model.specs.Seen.{Document, Place, Seen, document_of}
use Rattle.log_model.specs.declared.job.Job.{Job}
use Rattle.log_model.specs.declared.job.Why.{Why}
use Rattle.log_model.specs.declared.row.Row.{Row}
use Rattle.log_model.specs.declared.row_kind.RowKind.{RowKind}
use Rattle.row_facts.proofs.Owed.Ends.{owed_more}
use Rattle.row_facts.proofs.Owed.Rows.{reckoned_now, sent_stays}
use Rattle.row_facts.specs.Owed.Owed.{IsLoose, IsOwed}
use Rattle.seen_facts.specs.Asked.Asking.{HavePassed}
use Rattle.row_facts.proofs.RestRows.Orders.{discarded_less, frozen_less}
use Rattle.row_facts.specs.RestRows.Moving.{RestBut}
use Rattle.seen_laws.specs.InEvent.{InEvent, now_of, row_of}
use Rattle.std.proofs.Common.{Bool, List, None, Option, Some, [], length, refl, subst, sym, true, ℕ, ◌++◌, ◌+◌, ◌∙◌, ◌∷◌, ◌≡◌, ◌≤◌, ap}
use Rattle.tab_doors.proofs.Whose.{proc_found}
use Rattle.tab_doors.proofs.Ahead.{begin_move}
use Rattle.tab_doors.specs.PassedOn.{noted_by}
use Rattle.tab_doors.specs.Keeping.{Move, with_left}
use Rattle.tab_doors.specs.Orders.{order_to}
use Rattle.tab_doors.specs.Working.{IsAtWork, IsAtWorkFor, IsAtWorkIn, KeepsStore}
use Rattle.tab_doors.specs.declared.tables.Tables.{Tables}
pub use Rattle.tab_facts.proofs.TabGoing.Rows.{sent_going}
use Rattle.tab_facts.specs.TabGoing.Going.{IsGoing}
use Rattle.tab_ids.specs.declared.DocId.{DocId}
use Rattle.tab_ids.specs.declared.Epoch.{Epoch}
use Rattle.tab_ids.specs.declared.ReqId.{ReqId}
use Rattle.tab_ids.specs.declared.StateId.{StateId}
use Rattle.tab_passes.specs.Leaving.{IsLeaving, IsLeavingIn, MayLeave, left_then}
use Rattle.tab_passes.specs.Passing.{InPass, IsPassing, IsPassingIn}
pub use Rattle.tab_facts.proofs.TabGoing.PassedOn.{IsShowOf, IsToMade, sent_home}
use Rattle.log_model.specs.declared.job.Task.TheVariants as tasks
use Rattle.log_model.specs.declared.row_kind.RowKind.TheVariants as rows

-- ---- between two moves

pub leaving_none : {sweeps : Bool} (p : InPass) (out : List RowKind) (t : Tables) → IsPassingIn sweeps p out t → IsLeavingIn sweeps p None [] out t
leaving_none p out t pass = record { work = pass.work; going = pass.going; owed = pass.owed; rests = pass.rests; duly = pass.duly }

-- all is as it was, where what is owed is paid and no more are kept than may be
pub passing_again : {sweeps : Bool} (p : InPass) (out : List RowKind) (t : Tables) → IsLeavingIn sweeps p None [] out t → (all_stand (now_of p.event out) (aim_of (now_of p.event out)) ≡ true → IsLoose p.event out) → length (now_of p.event out).kept ≤ t.kept.keep → IsPassingIn sweeps p out t
passing_again p out t leaving loose few =
    record { work = leaving.work; going = leaving.going; owed = leaving.owed; loose = loose; rests = leaving.rests; few = few; duly = leaving.duly }

-- ---- a move begins, for which the cache notes what is left

begun_work : (e : InEvent) (out : List RowKind) (t : Tables) (doc : DocId) (left : Option StateId) (states : List StateId) → IsAtWork e out t → states ≡ with_left left t.kept.keep t.kept.states → IsAtWorkFor (Some (record { doc = doc; left = left })) e out (record t { kept = record t.kept { states = states } })
begun_work e out t doc left states work is =
    record {
      own = work.own;
      worker = work.worker;
      goes = work.goes;
      numbered = work.numbered;
      read = work.read;
      sole = work.sole;
      debts = work.debts;
      checks = work.checks;
      calm = work.calm;
      unheld = work.unheld;
      off = work.off;
      holds = record {
        navs = work.holds.navs;
        documents = work.holds.documents;
        whose = work.holds.whose;
        shown = work.holds.shown;
        last = work.holds.last;
        history = work.holds.history;
        numbered = work.holds.numbered;
        states = work.holds.states;
        entries = work.holds.entries;
        sent = work.holds.sent;
      };
      runs = work.runs;
      goal = work.goal;
      few = work.few;
      initial = work.initial;
      loads = work.loads;
      asking = work.asking;
      kept = is ∙ ap (λ (l : List StateId). with_left left t.kept.keep l) work.kept;
      asked = work.asked;
      lawful = begin_move e (noted_by e.ran t.checks out) out (record { doc = doc; left = left }) work.lawful;
    }

pub begun_leaving : (p : InPass) (out : List RowKind) (t : Tables) (doc : DocId) (left : Option StateId) (states : List StateId) → IsPassing p out t → states ≡ with_left left t.kept.keep t.kept.states → IsLeaving p (Some (record { doc = doc; left = left })) [] out (record t { kept = record t.kept { states = states } })
begun_leaving p out t doc left states pass is =
    record { work = begun_work p.event out t doc left states pass.work is; going = pass.going; owed = pass.owed; rests = pass.rests; duly = pass.duly }

-- ---- a document is left

module _ {sweeps : Bool} (p : InPass) (move : Option Move) (docs : List DocId) (out : List RowKind) (t : Tables) (leaving : IsLeavingIn sweeps p move docs out t) (doc : DocId) (why : Why) (may : MayLeave (now_of p.event out) doc why) where
  abbrev s : Seen
  s = now_of p.event out

  all_passed : HavePassed s
  all_passed = leaving.going.tab.asked.passed

  its_proc : may.document.proc ≡ (order_to s doc why tasks.Freeze).proc
  its_proc = sym (proc_found s doc may.document may.found)

  -- it is frozen

  abbrev freeze : Job
  freeze = order_to s doc why tasks.Freeze

  abbrev frozen : Seen
  frozen = after s (row_of p.event (rows.Sent freeze))

  to_freeze : IsToMade s freeze may.document
  to_freeze = record { found = may.found; ready = may.ready; home = its_proc; first = refl }

  frozen_going : IsGoing t.running p.loads p.hand frozen
  frozen_going =
      sent_going t.running p.loads p.hand s p.event.event p.event.actor leaving.going freeze p.loads p.hand (freeze_tab t.running p.loads p.hand s p.event.event p.event.actor leaving.going.tab freeze may.document to_freeze may.moves refl) (frozen_lasting s p.event.event p.event.actor leaving.going.lasting freeze refl may.begun) tt

  frozen_owed : IsOwed p.event (out ++ rows.Sent freeze ∷ [])
  frozen_owed =
      owed_more p.event out (rows.Sent freeze) (sent_goes p.event out freeze refl).read leaving.owed (sent_stays s p.event.event p.event.actor freeze all_passed (reckoned_now p.event out) refl) (λ end stays. refl)

  frozen_rests : RestBut (left_then s doc docs) frozen
  frozen_rests =
      frozen_less s p.event.event p.event.actor docs leaving.rests freeze (sent_home t.running p.loads p.hand s leaving.going.tab freeze may.document to_freeze) refl

  pub frozen_leaving : (u : Tables) (new : List RowKind) → new ≡ out ++ rows.Sent freeze ∷ [] → KeepsStore t u → IsAtWorkIn sweeps move p.event new u → IsLeavingIn sweeps p move (left_then s doc docs) new u
  frozen_leaving u new is keeps work =
      subst (λ (l : List RowKind). IsLeavingIn sweeps p move (left_then s doc docs) l u) (sym is) (record {
        work = subst (λ (l : List RowKind). IsAtWorkIn sweeps move p.event l u) is work;
        going = subst (λ (x : Seen). IsGoing u.running p.loads p.hand x) now_is (subst (λ (r : Option ReqId). IsGoing r p.loads p.hand frozen) (sym keeps.running) frozen_going);
        owed = frozen_owed;
        rests = subst (λ (x : Seen). RestBut (left_then s doc docs) x) now_is frozen_rests;
        duly = sent_duly p.event out freeze (out ++ rows.Sent freeze ∷ []) refl tt leaving.duly;
      })
    where
      now_is : frozen ≡ now_of p.event (out ++ rows.Sent freeze ∷ [])
      now_is = sym (sent_now p.event out freeze refl)

  -- it is discarded

  abbrev discard : Job
  discard = order_to s doc why tasks.Discard

  abbrev gone : Seen
  gone = after s (row_of p.event (rows.Sent discard))

  to_discard : IsToMade s discard may.document
  to_discard = record { found = may.found; ready = may.ready; home = its_proc; first = refl }

  gone_going : IsGoing t.running p.loads p.hand gone
  gone_going =
      sent_going t.running p.loads p.hand s p.event.event p.event.actor leaving.going discard p.loads p.hand (discard_tab t.running p.loads p.hand s p.event.event p.event.actor leaving.going.tab discard may.document to_discard may.moves refl) (discarded_lasting s p.event.event p.event.actor leaving.going.lasting discard refl may.begun) tt

  gone_owed : IsOwed p.event (out ++ rows.Sent discard ∷ [])
  gone_owed =
      owed_more p.event out (rows.Sent discard) (sent_goes p.event out discard refl).read leaving.owed (sent_stays s p.event.event p.event.actor discard all_passed (reckoned_now p.event out) refl) (λ end stays. refl)

  gone_rests : RestBut (left_then s doc docs) gone
  gone_rests =
      discarded_less s p.event.event p.event.actor docs leaving.rests discard (sent_home t.running p.loads p.hand s leaving.going.tab discard may.document to_discard) refl

  pub gone_leaving : (u : Tables) (new : List RowKind) → new ≡ out ++ rows.Sent discard ∷ [] → KeepsStore t u → IsAtWorkIn sweeps move p.event new u → IsLeavingIn sweeps p move (left_then s doc docs) new u
  gone_leaving u new is keeps work =
      subst (λ (l : List RowKind). IsLeavingIn sweeps p move (left_then s doc docs) l u) (sym is) (record {
        work = subst (λ (l : List RowKind). IsAtWorkIn sweeps move p.event l u) is work;
        going = subst (λ (x : Seen). IsGoing u.running p.loads p.hand x) now_is (subst (λ (r : Option ReqId). IsGoing r p.loads p.hand gone) (sym keeps.running) gone_going);
        owed = gone_owed;
        rests = subst (λ (x : Seen). RestBut (left_then s doc docs) x) now_is gone_rests;
        duly = sent_duly p.event out discard (out ++ rows.Sent discard ∷ []) refl tt leaving.duly;
      })
    where
      now_is : gone ≡ now_of p.event (out ++ rows.Sent discard ∷ [])
      now_is = sym (sent_now p.event out discard refl)

-- ---- a navigable is shown a document, which ends a move

module _ (p : InPass) (move : Option Move) (docs : List DocId) (out : List RowKind) (t : Tables) (leaving : IsLeaving p move docs out t) (doc : DocId) (why : Why) (d : Document) (place : Place) (target : Row) (epoch : Epoch) (long at : ℕ) (show : IsShowOf (now_of p.event out) (order_to (now_of p.event out) doc why (tasks.Activate target.entry epoch long at target.memo target.address)) d place target epoch) (begun : ServesNoneToBegin (now_of p.event out) why) (fits : epoch.0 ≤ (now_of p.event out).jobs + 2) where
  abbrev showing : Job
  showing = order_to (now_of p.event out) doc why (tasks.Activate target.entry epoch long at target.memo target.address)

  abbrev pub shown : Seen
  shown = after (now_of p.event out) (row_of p.event (rows.Sent showing))

  shown_going : IsGoing t.running p.loads p.hand shown
  shown_going =
      sent_going t.running p.loads p.hand (now_of p.event out) p.event.event p.event.actor leaving.going showing p.loads p.hand (show_tab t.running p.loads p.hand (now_of p.event out) p.event.event p.event.actor leaving.going.tab showing d place target epoch long at refl show) (shown_lasting (now_of p.event out) p.event.event p.event.actor leaving.going.lasting showing target.entry epoch long at target.memo target.address refl placed begun) fits
    where
      placed : (x : Document) → document_of (now_of p.event out) showing.doc ≡ Some x → HasPlace (now_of p.event out).places x.nav
      placed x found =
          let both : Some d ≡ Some x = sym show.found ∙ found in
          let same : d ≡ x = cc in
          subst (λ (y : Document). HasPlace (now_of p.event out).places y.nav) same (record { place = place; found = show.placed })

  shown_owed : IsOwed p.event (out ++ rows.Sent showing ∷ [])
  shown_owed =
      owed_more p.event out (rows.Sent showing) (sent_goes p.event out showing refl).read leaving.owed (sent_stays (now_of p.event out) p.event.event p.event.actor showing leaving.going.tab.asked.passed (reckoned_now p.event out) refl) (λ end stays. refl)

  pub shown_leaving : (docs_ : List DocId) → RestBut docs_ shown → (u : Tables) (new : List RowKind) → new ≡ out ++ rows.Sent showing ∷ [] → KeepsStore t u → IsAtWork p.event new u → IsLeaving p None docs_ new u
  shown_leaving docs_ rests u new is keeps work =
      subst (λ (l : List RowKind). IsLeaving p None docs_ l u) (sym is) (record {
        work = subst (λ (l : List RowKind). IsAtWork p.event l u) is work;
        going = subst (λ (x : Seen). IsGoing u.running p.loads p.hand x) now_is (subst (λ (r : Option ReqId). IsGoing r p.loads p.hand shown) (sym keeps.running) shown_going);
        owed = shown_owed;
        rests = subst (λ (x : Seen). RestBut docs_ x) now_is rests;
        duly = sent_duly p.event out showing (out ++ rows.Sent showing ∷ []) refl tt leaving.duly;
      })
    where
      now_is : shown ≡ now_of p.event (out ++ rows.Sent showing ∷ [])
      now_is = sym (sent_now p.event out showing refl)
