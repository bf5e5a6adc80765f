-- A poke is accepted by the document that it reaches: the event ends with that, and the coordinator stands for the log still.
use Rattle.log_model.specs.declared.row_kind.RowKind.{RowKind}
use Rattle.seen_laws.specs.Sending.{leads}
use Rattle.tab_stands.proofs.Orders.{keeps_coming, makes_first, sound_first}
use Rattle.tab_facts.specs.Frame.Lasting.{IsOfItsNav, wish}
use Rattle.log_model.specs.After.{new_request}
use Rattle.log_model.specs.Seen.{Seen}
use Rattle.log_model.specs.declared.action.Action.{Action}
use Rattle.log_model.specs.declared.request.Request.{Request}
use Rattle.log_model.specs.declared.row_kind.LogRow.{LogRow}
use Rattle.move_queue.specs.Queue.{Queue}
use Rattle.seen_laws.proofs.Processes.{poke_passes}
use Rattle.seen_laws.specs.Blocks.{EachPass}
use Rattle.seen_laws.specs.InEvent.{InEvent, now_of, row_of, start_of}
use Rattle.std.proofs.Common.{List, Option, Some, [], ap, length, refl, subst, sym, ◌+◌, ◌∷◌, ◌≡◌}
use Rattle.tab_doors.specs.declared.tables.Tables.{Tables}
use Rattle.tab_facts.proofs.TabEvents.Poking.{poked_between}
use Rattle.tab_facts.specs.TabEvents.Between.{IsBetweenChecks}
use Rattle.tab_ids.specs.declared.DocId.{DocId}
use Rattle.tab_ids.specs.declared.NavId.{NavId}
use Rattle.tab_ids.specs.declared.ReqId.{ReqId}
use Rattle.tab_ids.specs.declared.StateId.{StateId}
use Rattle.tab_settles.specs.PassedOn.{AreLeftStrays, HasQueue}
use Rattle.tab_stands.proofs.Accepting.{accepted_row, comes_now, goes_on, now, parked_now, strays_still, tied_now, went}
use Rattle.tab_stands.proofs.Stays.{stands_still}
use Rattle.tab_stands.proofs.Waiting.{queued_still}
use Rattle.tab_stands.specs.Offs.{AreShownOnce}
use Rattle.tab_stands.specs.Poking.{ReachesOne}
use Rattle.tab_stands.specs.Standing.{HasRoomFor, InCheck, IsOwnRead, StandsFor, seen_start}
use Rattle.log_model.specs.declared.request.Request.TheVariants as requests
use Rattle.log_model.specs.declared.row_kind.Actor.TheVariants as actors
use Rattle.log_model.specs.declared.row_kind.RowKind.TheVariants as rows

some_same : {A : Type 0} {a b : A} → (let o : Option A = Some a in o) ≡ Some b → a ≡ b
some_same e = cc

module _ (e : InEvent) (t : Tables) (queue : Queue) (blame : List (StateId × ReqId)) {check : InCheck} (stands : StandsFor check (seen_start e) t queue blame) (aside : IsOwnRead e) (room : HasRoomFor (seen_start e)) (req : ReqId) (nav : NavId) (action : Action) (reached : DocId) (by_user : e.actor ≡ actors.Ui) (own : e.own ≡ rows.Accepted req (Some reached) (requests.Poke nav action)) (nr : req.0 ≡ length (seen_start e).requests + 1) (its : ReachesOne (seen_start e) nav reached) where
  abbrev poke : Request
  poke = requests.Poke nav action

  abbrev doc : Option DocId
  doc = Some reached

  abbrev n : Seen
  n = went e req doc poke by_user own nr aside

  its_own : (x : DocId) → doc ≡ Some x → IsOfItsNav (seen_start e).documents (wish (new_request req doc poke)) x
  its_own x is =
      subst (λ (y : DocId). IsOfItsNav (seen_start e).documents (wish (new_request req doc poke)) y) (some_same is) (record { d = its.d; found = its.found; nav_is = ap (λ (y : NavId). let o : Option NavId = Some y in o) (sym its.nav_is) })

  between : IsBetweenChecks t.kept.keep t.running check.loads check.holds n
  between =
      poked_between t.kept.keep t.running (seen_start e) e.event actors.Ui stands.between req nr nav action reached its.d its.found

  unjoined : n.joined ≡ (seen_start e).joined
  unjoined = refl

  pub poke_stands : AreShownOnce (now_of e []).places → StandsFor check (now_of e []) t queue blame
  poke_stands shown =
      stands_still (seen_start e) t queue blame stands (now_of e []) (comes_now e req doc poke by_user own nr aside t queue blame stands)
      (subst (λ (x : Seen). IsBetweenChecks t.kept.keep t.running check.loads check.holds x) (sym then_) between)
      (goes_on e req doc poke by_user own nr aside t queue blame stands room its_own check.loads between.tab)
      (tied_now e req doc poke by_user own nr aside t queue blame stands check.loads between.tab)
      (makes_first e aside (ap (λ (k : RowKind). leads k) own) (comes_now e req doc poke by_user own nr aside t queue blame stands).serves stands.lasts.makes)
      (sound_first e aside (ap (λ (k : RowKind). leads k) own) (keeps_coming blame (seen_start e) (now_of e []) (comes_now e req doc poke by_user own nr aside t queue blame stands)) stands.lasts.sound)
      shown
      (subst (λ (x : Seen). AreLeftStrays x blame) (sym then_) (strays_still e req doc poke by_user own nr aside t queue blame stands))
      (subst (λ (x : Seen). HasQueue x t.running queue.waiting) (sym then_) (queued_still e req doc poke by_user own nr aside t queue blame stands unjoined))
      (parked_now e req doc poke by_user own nr aside t queue blame stands)
    where
      then_ : now_of e [] ≡ n
      then_ = now e req doc poke by_user own nr aside

-- the own row passes by itself
pub poke_pass : (e : InEvent) (req : ReqId) (nav : NavId) (action : Action) (reached : DocId) → e.actor ≡ actors.Ui → e.own ≡ rows.Accepted req (Some reached) (requests.Poke nav action) → req.0 ≡ length e.start.requests + 1 → ReachesOne e.start nav reached → EachPass (start_of e) (row_of e e.own ∷ []) []
poke_pass e req nav action reached by_user own nr its =
    subst (λ (row : LogRow). EachPass (start_of e) (row ∷ []) []) (sym (accepted_row e req (Some reached) (requests.Poke nav action) by_user own)) (poke_passes e.header e.start e.event req nav reached its.d its.first its.others action nr its.row its.run its.reaches its.nr, tt)
