-- A request is accepted with the next number: what goes on from event to event goes on, and nothing else has changed.
use Rattle.seen_facts.specs.Asked.Asking.{IsThere}
use Rattle.seen_facts.proofs.Coord.Unread.{accepted_held, next}
use Rattle.tab_facts.specs.Frame.Lasting.{IsOfItsNav, wish}
use Rattle.tab_facts.proofs.Last.Rows.{accepted_lasting}
use Rattle.row_facts.proofs.Left.Rows.{were_shown}
use Rattle.load_doors.specs.Tied.{AreTied}
use Rattle.seen_facts.proofs.LoadTies.Rows.{accepted_tied}
use Rattle.log_model.specs.After.{new_request}
use Rattle.log_model.specs.Equal.{has_req}
use Rattle.log_model.specs.History.{has_nav}
use Rattle.log_model.specs.Points.{nav_of_request}
use Rattle.log_model.specs.Queue.{is_delivered_duly}
use Rattle.log_model.specs.Seen.{Asked, Seen, request_in}
use Rattle.log_model.specs.declared.request.Request.{Request}
use Rattle.log_model.specs.declared.row_kind.Actor.{Actor}
use Rattle.log_model.specs.declared.row_kind.LogRow.{LogRow}
use Rattle.log_model.specs.declared.row_kind.RowKind.{RowKind}
use Rattle.seen_facts.proofs.Request.LookUps.{none_before}
use Rattle.seen_facts.specs.Request.Cores.{Core, core_of}
use Rattle.seen_facts.specs.Request.Knowns.{AllOf, IsParked, req_itself}
use Rattle.row_facts.proofs.RestRows.Rows.{accepted_rests}
use Rattle.row_facts.specs.RestRows.Moving.{AllRest}
use Rattle.seen_laws.specs.Blocks.{point_at}
use Rattle.seen_laws.specs.InEvent.{InEvent, IsTakenIn, now_of, row_of, start_of}
use Rattle.std.proofs.Common.{Bool, List, None, Option, Some, [], ap, arith, cond, eqb-true, false, inl, inr, length, length-append, refl, subst, sym, true, ℕ, ◌+◌, ◌-◌, ◌<◌, ◌==◌, ◌||◌, ◌∙◌, ◌∷◌, ◌≡◌, ◌≤◌, ◌⊎◌}
use Rattle.std.proofs.lemmas.Option.{slice_get_within}
use Rattle.std.specs.Prelude.{slice_get}
use Rattle.tab_doors.proofs.EndLaws.{left_holds}
use Rattle.tab_doors.specs.Look.{look_of as sights_of, moved_by}
use Rattle.tab_doors.specs.Ties.{IsRunning}
use Rattle.tab_doors.specs.Working.{HasGoal}
use Rattle.tab_doors.specs.declared.tables.Tables.{Tables}
use Rattle.tab_settles.proofs.Lates.{unstood_by}
use Rattle.tab_settles.proofs.PassedOn.{steps_still}
use Rattle.tab_settles.specs.PassedOn.{AreHeldUp, AreLeftStrays, IsGoing, IsTab, count_of, has_ended}
use Rattle.tab_ids.specs.declared.DocId.{DocId}
use Rattle.tab_ids.specs.declared.NavId.{NavId}
use Rattle.tab_ids.specs.declared.ReqId.{ReqId}
use Rattle.tab_ids.specs.declared.StateId.{StateId}
use Rattle.move_queue.specs.Queue.{Queue}
use Rattle.tab_settles.specs.Settling.{HoldsParked}
use Rattle.tab_stands.proofs.Coming.{IsComing}
use Rattle.tab_stands.proofs.More.{coming_more, count_as, new_there, old_stays, one_of, strays_more}
use Rattle.tab_stands.specs.Standing.{HasRoomFor, InCheck, IsOwnRead, StandsFor, seen_start}
use Rattle.log_model.specs.declared.row_kind.Actor.TheVariants as actors
use Rattle.log_model.specs.declared.row_kind.RowKind.TheVariants as rows

-- a request that is there has a number up to how many there are
pub number_low : (asked : List Asked) (req : ReqId) (q : Asked) → request_in asked req ≡ Some q → req.0 ≤ length asked
number_low asked req q at = by_number (req.0 == 0) at
  where
    by_number : (b : Bool) → cond b None (slice_get asked (req.0 - 1)) ≡ Some q → req.0 ≤ length asked
    by_number true never = absurd cc
    by_number false there = (let low : req.0 - 1 < length asked = slice_get_within asked (req.0 - 1) q there in omega (arith, low))

-- a request whose report is held back is there
parked_there : (asked : List Asked) (reqs : List ReqId) → AllOf IsParked req_itself asked reqs → (req : ReqId) → has_req reqs req ≡ true → request_in asked req ≡ None → ⊥
parked_there asked [] are req has at = let never : false ≡ true = has in cc
parked_there asked (r ∷ reqs) are req has at = by_test (r.0 == req.0) refl has (λ h. parked_there asked reqs are.1 req h at)
  where
    none_known : IsParked (core_of None) req → ⊥
    none_known p = let never : (let o : Option Core = None in o) ≡ Some (record { what = p.is.what; doc = p.is.doc; made = Some p.made; ending = None }) = p.is.is in cc

    by_test : (b : Bool) → (r.0 == req.0) ≡ b → (b || has_req reqs req) ≡ true → (has_req reqs req ≡ true → ⊥) → ⊥
    by_test true e h more =
        let same : r ≡ req = ap (λ (n : ℕ). let x : ReqId = record { 0 = n } in x) (eqb-true r.0 req.0 e) in
        none_known (subst (λ (o : Option Asked). IsParked (core_of o) req) at (subst (λ (x : ReqId). IsParked (core_of (request_in asked x)) x) same are.0))
    by_test false e h more = more h

-- ---- the row

pub accepted_row : (e : InEvent) (req : ReqId) (doc : Option DocId) (what : Request) → e.actor ≡ actors.Ui → e.own ≡ rows.Accepted req doc what → row_of e e.own ≡ record { event = e.event; actor = actors.Ui; row = rows.Accepted req doc what }
accepted_row e req doc what by_user own =
    ap (λ (a : Actor). let r : LogRow = record { event = e.event; actor = a; row = e.own } in r) by_user
    ∙ ap (λ (k : RowKind). let r : LogRow = record { event = e.event; actor = actors.Ui; row = k } in r) own

module _ (e : InEvent) (req : ReqId) (doc : Option DocId) (what : Request) (by_user : e.actor ≡ actors.Ui) (own : e.own ≡ rows.Accepted req doc what) (nr : req.0 ≡ length (seen_start e).requests + 1) (aside : IsOwnRead e) where
  abbrev pub new : Asked
  new = new_request req doc what

  abbrev pub went : Seen
  went = next (seen_start e) e.event actors.Ui (rows.Accepted req doc what)

  abbrev s : Seen
  s = seen_start e

  pub now : now_of e [] ≡ went
  now =
      aside
      ∙ (ap (λ (a : Actor). next (seen_start e) e.event a e.own) by_user
      ∙ ap (λ (k : RowKind). next (seen_start e) e.event actors.Ui k) own)

  pub its_row : row_of e e.own ≡ record { event = e.event; actor = actors.Ui; row = rows.Accepted req doc what }
  its_row = accepted_row e req doc what by_user own

  -- nothing is delivered in it
  pub takes_none : (later : List LogRow) → IsTakenIn e later
  takes_none later = subst (λ (r : LogRow). is_delivered_duly (point_at (start_of e) later) r ≡ true) (sym its_row) refl

  pub there_now : request_in went.requests req ≡ Some new
  there_now = new_there s went new req nr

  -- a request that was there is there still
  pub stays : (r : ReqId) (q : Asked) → request_in s.requests r ≡ Some q → request_in went.requests r ≡ Some q
  stays = old_stays s went new req nr

  -- each was there, or is this one
  pub old_or_new : (r : ReqId) (q : Asked) → request_in went.requests r ≡ Some q → (request_in s.requests r ≡ Some q) ⊎ ((r ≡ req) × (q ≡ new))
  old_or_new = one_of s went new req nr

  -- ---- what comes

  module _ (t : Tables) (queue : Queue) (blame : List (StateId × ReqId)) {check : InCheck} (stands : StandsFor check (seen_start e) t queue blame) where
    pub strays_still : AreLeftStrays went blame
    strays_still = strays_more s went new req nr refl refl refl refl t queue blame stands

    coming : IsComing blame s went
    coming =
        coming_more s went new req nr refl refl refl refl t queue blame stands (were_shown s e.event actors.Ui stands.lasts.were (rows.Accepted req doc what) tt) refl (λ off away. unstood_by s (record { event = e.event; actor = actors.Ui; row = rows.Accepted req doc what }) refl away off)

    pub comes_now : IsComing blame s (now_of e [])
    comes_now = subst (λ (x : Seen). IsComing blame s x) (sym now) coming

    pub rests_now : AllRest (now_of e [])
    rests_now = subst (λ (x : Seen). AllRest x) (sym now) (accepted_rests s e.event actors.Ui [] stands.between.rests req doc what)

    -- ---- what goes on

    held_still : AreHeldUp t.running went
    held_still = by_run t.running refl stands.lasts.held
      where
        by_run : (o : Option ReqId) → t.running ≡ o → AreHeldUp o s → AreHeldUp o went
        by_run None is held = tt
        by_run (Some run) is held =
            λ x q r nav has there its found. by_old x q r nav has its (old_run r found) (old_or_new x q there)
          where
            ran : IsThere s run
            ran = stands.between.tab.asked.runs run is

            old_run : (r : Asked) → request_in went.requests run ≡ Some r → request_in s.requests run ≡ Some r
            old_run r found =
                let both : Some ran.q ≡ Some r = sym (stays run ran.q ran.found) ∙ found in
                let same : ran.q ≡ r = cc in
                ran.found ∙ ap (λ (y : Asked). let o : Option Asked = Some y in o) same

            by_old : (x : ReqId) (q r : Asked) (nav : NavId) → has_req s.parked x ≡ true → nav_of_request q.what ≡ Some nav → request_in s.requests run ≡ Some r → (request_in s.requests x ≡ Some q) ⊎ ((x ≡ req) × (q ≡ new)) → has_nav r.moved nav ≡ true
            by_old x q r nav has its ran_ (inl old) = held x q r nav has old its ran_
            by_old x q r nav has its ran_ (inr it) =
                absurd (parked_there s.requests s.parked stands.between.tab.known.parked req (ap (λ (y : ReqId). has_req s.parked y) (sym it.0) ∙ has) (none_before s.requests new req nr))

    pub goes_on : HasRoomFor s → ((x : DocId) → doc ≡ Some x → IsOfItsNav s.documents (wish new) x) → (ids : List ReqId) → IsTab t.running ids [] went → IsGoing t.running ids [] (now_of e [])
    goes_on room its_own ids tab = subst (λ (x : Seen). IsGoing t.running ids [] x) (sym now) going
      where
        ended : count_of has_ended went.requests ≡ count_of has_ended s.requests
        ended = count_as has_ended new refl s.requests

        going : IsGoing t.running ids [] went
        going =
            record {
              tab = tab;
              lasting = accepted_lasting s e.event actors.Ui stands.lasts.lasting req doc what nr its_own;
              counted = record {
                entries = subst (λ (n : ℕ). s.entries ≤ 1 + n) (sym ended) stands.lasts.counted.entries;
                epochs = stands.lasts.counted.epochs;
              };
              steps = steps_still s went stands.lasts.steps refl (omega (arith, ended));
              held = held_still;
              room = more_room;
            }
          where
            more_room : length went.requests + 2 < 4294967296
            more_room =
                let long : length went.requests ≡ length s.requests + 1 = length-append s.requests (new ∷ []) in
                let low : length s.requests + 3 < 4294967296 = room in omega (arith, long, low)

    -- ---- the tables

    moved_by_same : moved_by went.requests t.running ≡ moved_by s.requests t.running
    moved_by_same = by_run t.running refl
      where
        by_run : (o : Option ReqId) → t.running ≡ o → moved_by went.requests o ≡ moved_by s.requests o
        by_run None is = refl
        by_run (Some run) is =
            let ran = stands.between.tab.asked.runs run is in
            let still : request_in went.requests run ≡ Some ran.q = stays run ran.q ran.found in
            rw still (rw ran.found refl)

    pub tied_now : (ids : List ReqId) → IsTab t.running ids [] went → AreTied (now_of e []) t
    tied_now ids tab = subst (λ (x : Seen). AreTied x t) (sym now) tied
      where
        runs : IsRunning went.requests t.running
        runs =
            record {
              only = tab.asked.only;
              there = λ r is. (let its = stands.tied.runs.there r is in (its.0, stays r its.0 its.1));
            }

        goal : HasGoal went.requests t.running t.goal
        goal r q is at =
            let its = stands.tied.runs.there r is in
            let both : Some its.0 ≡ Some q = sym (stays r its.0 its.1) ∙ at in
            let same : its.0 ≡ q = cc in
            ap (λ (x : Asked). x.goal) (sym same) ∙ stands.tied.goal r its.0 is its.1

        tied : AreTied went t
        tied =
            record {
              holds = left_holds (sights_of s t.running) (sights_of went t.running) t refl refl refl moved_by_same refl refl refl stands.tied.holds;
              runs = runs;
              goal = goal;
              few = stands.tied.few;
              initial = stands.tied.initial;
              loads = accepted_tied s e.event actors.Ui t.loads stands.tied.loads req doc what nr;
              kept = stands.tied.kept;
            }

    pub parked_now : HoldsParked (now_of e []) queue.parked
    parked_now =
        subst (λ (x : Seen). HoldsParked x queue.parked) (sym now) (stands.parked ∙ sym (accepted_held s e.event actors.Ui req doc what))
