-- The load as its event begins: it is there by the next number, open and unstarted, at hand and nowhere else.
use Rattle.seen_laws.proofs.InEvents.{uncut_first, uncut_log}
use Rattle.tab_doors.proofs.Uncut.{uncut_held}
use Rattle.seen_facts.proofs.Coord.Unread.{next}
use Rattle.load_doors.specs.Loading.{IsOpenHere}
use Rattle.log_model.specs.After.{after, new_request}
use Rattle.log_model.specs.Equal.{has_req}
use Rattle.log_model.specs.Places.{is_ongoing_load}
use Rattle.log_model.specs.Points.{is_accepted_here}
use Rattle.log_model.specs.Seen.{Asked, Seen, request_in, request_of}
use Rattle.log_model.specs.declared.request.Mode.{Mode}
use Rattle.log_model.specs.declared.row_kind.RowKind.{RowKind}
use Rattle.row_facts.proofs.Owed.Rows.{IsIdle, load_idle}
use Rattle.seen_facts.proofs.Request.LookUps.{one_more}
use Rattle.seen_facts.proofs.Request.Times.{itself, times_none}
use Rattle.seen_facts.specs.Request.Whereabouts.{is_of_load}
use Rattle.seen_laws.specs.Blocks.{Here, point_at}
use Rattle.seen_laws.specs.InEvent.{InEvent, here_of, log_of, now_of, row_of, seen_here}
use Rattle.std.proofs.Common.{List, None, Option, Some, [], ap, arith, false, length, refl, subst, sym, true, ℕ, ◌∙◌, ◌∷◌, ◌≡◌}
use Rattle.std.proofs.lemmas.Bool.Decides.{nat_tests}
use Rattle.std.specs.Prelude.{nat_lt}
use Rattle.tab_doors.specs.Keeping.{IsNoLoad}
use Rattle.tab_ids.specs.declared.NavId.{NavId}
use Rattle.tab_ids.specs.declared.ReqId.{ReqId}
use Rattle.load_doors.proofs.Starts.{next_start}
use Rattle.load_doors.specs.Logged.{seen_start}
use Rattle.tab_loads.specs.Loading.{IsLoadAsk}
use Rattle.tab_facts.proofs.TabWhole.Where.{IsNowhereElse, listed_alone}
use Rattle.tab_facts.specs.TabWhole.Tab.{IsTab}
use Rattle.log_model.specs.declared.request.Request.TheVariants as requests
use Rattle.log_model.specs.declared.row_kind.RowKind.TheVariants as rows

module _ (e : InEvent) (req : ReqId) (nav : NavId) (mode : Mode) (address : List ℕ) (asks : IsLoadAsk e req nav mode address) where
  -- what is asked, as it is accepted
  abbrev pub q : Asked
  q = new_request req None (requests.Load nav mode address)

  pub first_is : now_of e [] ≡ next (seen_start e) e.event e.actor (rows.Accepted req None (requests.Load nav mode address))
  first_is = asks.read ∙ ap (λ (k : RowKind). next (seen_start e) e.event e.actor k) asks.own

  pub found : request_of (now_of e []) req ≡ Some q
  found = ap (λ (s : Seen). request_of s req) first_is ∙ one_more (seen_start e).requests q req (next_start e req.0 asks.next)

  pub accepted_here : is_accepted_here (point_at (here_of e []) []) req ≡ true
  accepted_here = subst (λ (h : Here). is_accepted_here (point_at h []) req ≡ true) (sym (uncut_first e asks.uncut)) (let number = asks.next in let more : nat_lt (length e.start.requests) req.0 ≡ true = grind (arith, nat_tests, number) in more)

  -- it is there in the log
  pub found_log : request_of (log_of e []) req ≡ Some q
  found_log =
      ap (λ (s : Seen). request_of s req) (uncut_log e asks.uncut ∙ ap (λ (k : RowKind). after e.start (row_of e k)) asks.own)
      ∙ one_more e.start.requests q req asks.next

  -- so in the log as it would be had nobody been asked
  pub accepted_seen : is_accepted_here (point_at (seen_here e []) []) req ≡ true
  accepted_seen =
      (let number = next_start e req.0 asks.next in let more : nat_lt (length (seen_start e).requests) req.0 ≡ true = grind (arith, nat_tests, number) in more)

  pub idle : IsIdle (now_of e []) req
  idle = load_idle (now_of e []) req nav mode address q found refl

  pub no_load : IsNoLoad (now_of e []) req
  no_load x there =
      let two : Some q ≡ Some x = sym found ∙ there in
      let one : q ≡ x = cc in
      subst (λ (y : Asked). is_ongoing_load y ≡ false) one refl

  pub of_load : is_of_load (request_in (now_of e []).requests req) ≡ true
  of_load = ap is_of_load found

  module _ (run : Option ReqId) {behind : List ReqId} (tab : IsTab run (req ∷ behind) [] (now_of e [])) where
    alone : IsNowhereElse run (req ∷ behind) [] (now_of e []) tab req
    alone = listed_alone run (req ∷ behind) [] (now_of e []) tab req (rw (itself req) refl)

    pub unjoined : has_req (now_of e []).joined req ≡ false
    unjoined = times_none req (now_of e []).joined alone.joined

    pub unparked : has_req (now_of e []).parked req ≡ false
    unparked = times_none req (now_of e []).parked alone.parked

    pub open_here : IsOpenHere e [] req
    open_here = record { asked = q; at = found; open_ = refl; unparked = unparked; unheld = ap (λ (l : List ReqId). has_req l req) (sym (uncut_held e asks.uncut)) ∙ unparked }
