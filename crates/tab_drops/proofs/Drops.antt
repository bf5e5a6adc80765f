-- An ongoing load is dropped: what that asks, that all goes on then, and that all else is as it was.
use Rattle.tab_passes.proofs.PassedOn.{dropped_duly}
use Rattle.tab_doors.proofs.PassedOn.{dropped_now}
use Rattle.tab_passes.proofs.SetOuts.{KeepBegun, begun_as_it_was, course_of, kept_begun}
use Rattle.seen_facts.proofs.Coord.Held.{on_else, without_same}
use Rattle.seen_facts.proofs.Coord.Unread.{next}
use Rattle.seen_facts.specs.Each.Runs.{is_this}
use Rattle.seen_facts.proofs.Entry.Skips.{without_made}
use Rattle.tab_facts.specs.Frame.Lasting.{wish}
use Rattle.tab_moves.proofs.PassedOn.{IsUnheld, at_most_once, dropped_going, dropped_lasting, dropped_tab, unheld_end, unheld_hand, unheld_loads, way_unheld}
use Rattle.load_doors.specs.Loading.{IsOpenHere}
use Rattle.seen_facts.specs.Load.Loading.{Look, is_ongoing, look, look_of}
use Rattle.seen_facts.specs.LoadWhereabouts.Whereabouts.{times_on_way}
use Rattle.log_model.specs.Checks.{may_go_on}
use Rattle.log_model.specs.Equal.{has_req, holds}
use Rattle.log_model.specs.Places.{aim_of, all_stand, is_gone, is_load, is_ongoing_load}
use Rattle.log_model.specs.Seen.{Asked, Seen, request_in, request_of}
use Rattle.log_model.specs.declared.made.Made.{Made}
use Rattle.log_model.specs.declared.outcome.Cause.{Cause}
use Rattle.log_model.specs.declared.row_kind.RowKind.{RowKind}
use Rattle.row_facts.proofs.Owed.Aims.{ended_aim}
use Rattle.row_facts.proofs.Owed.Requests.{req_same}
use Rattle.row_facts.proofs.Owed.Rows.{IsIdle, dropped_lasts, dropped_stays, load_idle, reckoned_now}
use Rattle.row_facts.specs.Owed.Owed.{IsLoose, IsOwed}
use Rattle.seen_facts.proofs.Request.LookUps.{on_itself}
use Rattle.seen_facts.proofs.Request.Readers.{on_read, reads_then}
use Rattle.seen_facts.proofs.Request.Times.{times_none}
use Rattle.row_facts.proofs.RestRows.Rows.{dropped_rests}
use Rattle.row_facts.specs.RestRows.Moving.{AllRest}
use Rattle.seen_laws.specs.InEvent.{now_of}
use Rattle.std.proofs.Common.{Bool, List, None, Option, Some, [], ap, arith, false, inr, length, refl, subst, sym, true, ℕ, ◌&&◌, ◌++◌, ◌<◌, ◌==◌, ◌∙◌, ◌∷◌, ◌≡◌, ◌≤◌}
use Rattle.std.specs.Prelude.{option_map}
use Rattle.tab_doors.specs.Working.{IsAtWorkIn, KeepsStore}
use Rattle.tab_doors.specs.declared.tables.Tables.{Tables}
use Rattle.tab_drops.proofs.Loads.{IsAskedFor, asked_for, open_of}
use Rattle.tab_drops.specs.Dropping.{AreUnheld, IsLoadOf, LeavesAll}
use Rattle.tab_moves.proofs.Makings.{IsGoing}
use Rattle.tab_ids.specs.declared.NavId.{NavId}
use Rattle.tab_ids.specs.declared.ReqId.{ReqId}
use Rattle.tab_moves.proofs.Frees.{goes_on}
use Rattle.tab_moves.specs.PassedOn.{IsPassingIn, IsTab, MayServe}
use Rattle.tab_moves.specs.Moving.{InPass}
use Rattle.row_facts.proofs.WalkRows.Moved.{dropped_moved}
use Rattle.log_model.specs.declared.outcome.Ending.TheVariants as endings
use Rattle.log_model.specs.declared.row_kind.RowKind.TheVariants as rows

-- nothing happens
pub leaves_none : (s : Seen) → LeavesAll s s
leaves_none s =
    record {
      places = refl;
      documents = refl;
      history = refl;
      aim = refl;
      kept = refl;
      parked = refl;
      joined = refl;
      last = refl;
      stood = λ is. is;
      loads = λ req l at ongoing. at;
      others = λ req q at other. at;
      wishes = λ r. refl;
      orders = λ why may. may;
      movers = λ why nav by. by;
    }

-- one after the other
pub leaves_then : (s t u : Seen) → LeavesAll s t → LeavesAll t u → LeavesAll s u
leaves_then s t u one two =
    record {
      places = two.places ∙ one.places;
      documents = two.documents ∙ one.documents;
      history = two.history ∙ one.history;
      aim = two.aim ∙ one.aim;
      kept = two.kept ∙ one.kept;
      parked = two.parked ∙ one.parked;
      joined = two.joined ∙ one.joined;
      last = two.last ∙ one.last;
      stood = λ is. two.stood (one.stood is);
      loads = λ req l at ongoing. one.loads req l (two.loads req l at ongoing) ongoing;
      others = λ req q at other. two.others req q (one.others req q at other) other;
      wishes = reads_then wish s.requests t.requests u.requests one.wishes two.wishes;
      orders = λ why may. two.orders why (one.orders why may);
      movers = λ why nav by. two.movers why nav (one.movers why nav by);
    }

-- on its way once at least
on_way : (q : Asked) → is_ongoing_load q ≡ true → 0 < times_on_way (Some q)
on_way q ongoing = (let one : 0 < times_on_way (Some q) = rw ongoing (omega arith) in one)

module _ {sweeps : Bool} (p : InPass) (out : List RowKind) (t : Tables) (pass : IsPassingIn sweeps p out t) (req : ReqId) (nav : NavId) (load : IsLoadOf (now_of p.event out) req nav) where
  abbrev s : Seen
  s = now_of p.event out

  its : IsAskedFor s req nav
  its = asked_for s req nav load

  abbrev pub then_ : Cause → Seen
  then_ cause = next s p.event.event p.event.actor (rows.Dropped req cause)

  pub idle : IsIdle s req
  idle = load_idle s req nav its.mode its.address its.q its.at its.what

  pub apart : is_this t.running req ≡ false
  apart = sym (pass.work.runs.only req its.q its.at) ∙ idle its.q its.at

  way : 0 < times_on_way (request_in s.requests req)
  way = subst (λ (o : Option Asked). 0 < times_on_way o) (sym its.at) (on_way its.q its.ongoing)

  pub unheld : IsUnheld t.running p.loads p.hand s pass.going.tab req
  unheld = way_unheld t.running p.loads p.hand s pass.going.tab req way

  unjoined : has_req s.joined req ≡ false
  unjoined = (let few = at_most_once t.running p.loads p.hand s pass.going.tab req in times_none req s.joined (omega (arith, way, few)))

  pub open_here : AreUnheld p.event s → IsOpenHere p.event out req
  open_here held =
      record { asked = its.q; at = its.at; open_ = open_of its.q its.ongoing; unparked = unheld.parked; unheld = held req nav load }

  -- ---- all goes on

  ongoing_here : holds is_ongoing_load (request_in s.requests req) ≡ true
  ongoing_here = ap (λ (o : Option Asked). holds is_ongoing_load o) its.at ∙ its.ongoing

  pub tab_then : (cause : Cause) → IsTab t.running p.loads p.hand (then_ cause)
  tab_then cause =
      subst (λ (h : List Made). IsTab t.running p.loads h (then_ cause)) (unheld_hand t.running p.loads p.hand s pass.going.tab req unheld)
      (subst (λ (l : List ReqId). IsTab t.running l (without_made req p.hand) (then_ cause)) (unheld_loads t.running p.loads p.hand s pass.going.tab req unheld)
      (dropped_tab t.running p.loads p.hand s p.event.event pass.going.tab req (record { other = apart; carried = inr (inr (inr ongoing_here)); passed = unheld_end t.running p.loads p.hand s pass.going.tab req unheld }) p.event.actor cause))

  pub going_then : (cause : Cause) → IsGoing t.running p.loads p.hand (then_ cause)
  going_then cause =
      dropped_going t.running p.loads p.hand s p.event.event p.event.actor pass.going req its.q its.at (open_of its.q its.ongoing) cause p.loads p.hand (tab_then cause) (dropped_lasting s p.event.event p.event.actor pass.going.lasting req cause)

  pub passing_then : (cause : Cause) → IsOwed p.event (out ++ rows.Dropped req cause ∷ []) → (all_stand (then_ cause) (aim_of (then_ cause)) ≡ true → IsLoose p.event (out ++ rows.Dropped req cause ∷ [])) → (u : Tables) (new : List RowKind) → new ≡ out ++ rows.Dropped req cause ∷ [] → KeepsStore t u → IsAtWorkIn sweeps None p.event new u → IsPassingIn sweeps p new u
  passing_then cause owed loose u new is keeps work =
      subst (λ (l : List RowKind). IsPassingIn sweeps p l u) (sym is) (record {
        work = subst (λ (l : List RowKind). IsAtWorkIn sweeps None p.event l u) is work;
        going = subst (λ (x : Seen). IsGoing u.running p.loads p.hand x) now_is (subst (λ (r : Option ReqId). IsGoing r p.loads p.hand (then_ cause)) (sym keeps.running) (going_then cause));
        owed = owed;
        loose = λ stand. loose (subst (λ (x : Seen). all_stand x (aim_of x) ≡ true) (sym now_is) stand);
        rests = subst (λ (x : Seen). AllRest x) now_is (dropped_rests s p.event.event p.event.actor [] pass.rests req cause);
        duly = dropped_duly p.event out req cause (out ++ rows.Dropped req cause ∷ []) refl pass.duly;
        few = subst (λ (n : ℕ). length (now_of p.event (out ++ rows.Dropped req cause ∷ [])).kept ≤ n) (sym keeps.keep) (subst (λ (x : Seen). length x.kept ≤ t.kept.keep) now_is pass.few);
      })
    where
      now_is : then_ cause ≡ now_of p.event (out ++ rows.Dropped req cause ∷ [])
      now_is = sym (dropped_now p.event out req cause)

  -- ---- all else is as it was

  abbrev pub end_it : Cause → Asked → Asked
  end_it cause q = record q { ending = Some (endings.Dropped cause) }

  pub other_request : (cause : Cause) (r : ReqId) → (r.0 == req.0) ≡ false → request_of (then_ cause) r ≡ request_of s r
  other_request cause r other = on_else s.requests req (end_it cause) r other

  own_request : (cause : Cause) → request_of (then_ cause) req ≡ Some (end_it cause its.q)
  own_request cause =
      on_itself s.requests req (end_it cause) ∙ ap (λ (o : Option Asked). option_map (end_it cause) o) its.at

  ended_not : (cause : Cause) (q : Asked) → is_ongoing_load (end_it cause q) ≡ false
  ended_not cause q = by_start q.is_started
    where
      by_start : (b : Bool) → ((b && false) && is_load q.what) ≡ false
      by_start true = refl
      by_start false = refl

  -- it is ongoing no more
  pub ended_then : (cause : Cause) (l : Look) → look_of (then_ cause) req ≡ Some l → is_ongoing l ≡ true → ⊥
  ended_then cause l at ongoing =
      let both : Some (look (end_it cause its.q)) ≡ Some l = ap (λ (o : Option Asked). option_map look o) (sym (own_request cause)) ∙ at in
      let same : look (end_it cause its.q) ≡ l = cc in
      let never : false ≡ true = sym (ended_not cause its.q) ∙ ap is_ongoing same ∙ ongoing in
      absurd cc

  serves : (cause : Cause) (r : ReqId) → MayServe s r → MayServe (then_ cause) r
  serves cause r may = record { goes = by_found (request_of s r) refl may.goes; begun = kept_begun s (then_ cause) r kept may.begun }
    where
      by_found : (o : Option Asked) → request_of s r ≡ o → may_go_on s r ≡ true → may_go_on (then_ cause) r ≡ true
      by_found None at goes = let never : false ≡ true = sym (let none : may_go_on s r ≡ false = rw at refl in none) ∙ goes in absurd cc
      by_found (Some q) at goes =
          let there = (dropped_lasts s p.event.event p.event.actor req cause).asked r q at in
          goes_on (then_ cause) t.running (tab_then cause).asked r there.r there.at

      kept : KeepBegun s.requests (then_ cause).requests
      kept =
          begun_as_it_was s.requests (then_ cause).requests (on_read course_of s.requests req (λ (q : Asked). record q { ending = Some (endings.Dropped cause) }) (λ q. refl))

  pub leaves_then_dropped : (cause : Cause) → LeavesAll s (then_ cause)
  leaves_then_dropped cause =
      record {
        places = refl;
        documents = refl;
        history = refl;
        aim = ended_aim (is_gone s) s.history s.requests req (endings.Dropped cause) idle;
        kept = refl;
        parked = without_same s.parked req unheld.parked;
        joined = without_same s.joined req unjoined;
        last = refl;
        stood = (dropped_stays s p.event.event p.event.actor req (reckoned_now p.event out) idle cause).unsettled;
        loads = λ r l at ongoing. by_number r l at ongoing (r.0 == req.0) refl;
        others = λ r q at other. by_other r q at other (r.0 == req.0) refl;
        wishes = on_read wish s.requests req (λ (q : Asked). record q { ending = Some (endings.Dropped cause) }) (λ q. refl);
        orders = λ why may r is. serves cause r (may r is);
        movers = λ why n by. dropped_moved s p.event.event p.event.actor why n by req cause;
      }
    where
      by_number : (r : ReqId) (l : Look) → look_of (then_ cause) r ≡ Some l → is_ongoing l ≡ true → (b : Bool) → (r.0 == req.0) ≡ b → look_of s r ≡ Some l
      by_number r l at ongoing true same =
          absurd (ended_then cause l (ap (λ (x : ReqId). look_of (then_ cause) x) (sym (req_same r req same)) ∙ at) ongoing)
      by_number r l at ongoing false other = ap (λ (o : Option Asked). option_map look o) (sym (other_request cause r other)) ∙ at

      by_other : (r : ReqId) (q : Asked) → request_of s r ≡ Some q → is_ongoing_load q ≡ false → (b : Bool) → (r.0 == req.0) ≡ b → request_of (then_ cause) r ≡ Some q
      by_other r q at other true same =
          let both : Some its.q ≡ Some q = sym its.at ∙ ap (λ (x : ReqId). request_of s x) (sym (req_same r req same)) ∙ at in
          let one : its.q ≡ q = cc in
          let never : false ≡ true = sym other ∙ ap is_ongoing_load (sym one) ∙ its.ongoing in
          absurd cc
      by_other r q at other false apart_ = other_request cause r apart_ ∙ at
