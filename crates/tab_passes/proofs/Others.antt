-- What orders may be for isn't in its unload check: a request in its check reads there as one that hasn't set out.
use Rattle.seen_laws.proofs.InEvents.{now_is}
use Rattle.log_model.specs.Checks.{is_checked, may_go_on}
use Rattle.log_model.specs.Places.{is_load, is_reload, is_traversal}
use Rattle.log_model.specs.Seen.{Asked, Seen, request_of}
use Rattle.log_model.specs.declared.job.Why.{Why}
use Rattle.log_model.specs.declared.request.Request.{Request}
use Rattle.log_model.specs.declared.row_kind.RowKind.{RowKind}
use Rattle.seen_facts.specs.Asked.Asking.{IsAskedPlainly, IsTabRequest}
use Rattle.seen_facts.specs.Each.Runs.{EachAsked}
use Rattle.seen_laws.specs.InEvent.{InEvent, log_of, now_of}
use Rattle.seen_laws.specs.Unasked.{unbegun}
use Rattle.std.proofs.Common.{Bool, List, None, Option, Some, ap, false, refl, subst, sym, true, ◌||◌, ◌∙◌, ◌≡◌}
use Rattle.std.specs.Prelude.{is_some}
use Rattle.tab_doors.specs.Keeping.{Move}
use Rattle.tab_doors.specs.Orders.{IsForOther}
use Rattle.tab_doors.specs.Working.{IsAtWorkIn}
use Rattle.tab_doors.specs.declared.tables.Tables.{Tables}
use Rattle.tab_ids.specs.declared.ReqId.{ReqId}
use Rattle.tab_passes.specs.Causes.{HasSetOut, MayCause, MayServe}
use Rattle.tab_doors.proofs.LogDues.{checked_on, found_from}
use Rattle.log_model.specs.declared.request.Request.TheVariants as requests

-- one that hasn't set out is no load and no traversal
none_out : (q : Asked) → q.is_started ≡ false → q.fragment ≡ None → HasSetOut q → IsTabRequest q.what → is_checked q ≡ false
none_out q unstarted unsent out what = by_load (is_load q.what) (is_traversal q.what) (is_reload q.what) refl refl (no_reload q.what what)
  where
    no_reload : (w : Request) → IsTabRequest w → is_reload w ≡ false
    no_reload (requests.Go delta) is = refl
    no_reload (requests.Load nav mode address) is = refl
    no_reload (requests.Poke nav action) is = refl
    no_reload (requests.Reload nav) is = absurd is

    by_load : (a b c : Bool) → is_load q.what ≡ a → is_traversal q.what ≡ b → c ≡ false → (a || b || c) ≡ false
    by_load true b c load goes reload =
        let off : (q.is_started || is_some q.fragment) ≡ false = rw (unstarted, unsent) refl in
        let never : false ≡ true = sym off ∙ out.loads load in
        absurd cc
    by_load false true c load goes reload =
        let never : false ≡ true = sym unstarted ∙ out.traverses goes in
        absurd cc
    by_load false false c load goes reload = reload

module _ {sweeps : Bool} {move : Option Move} (e : InEvent) (out : List RowKind) (t : Tables) (work : IsAtWorkIn sweeps move e out t) (each : EachAsked IsAskedPlainly (now_of e out).requests) where
  abbrev n : Seen
  n = now_of e out

  abbrev log : Seen
  log = log_of e out

  -- one that has set out
  pub out_off : (req : ReqId) (bare : Asked) → request_of n req ≡ Some bare → HasSetOut bare → e.checking req ≡ false
  out_off req bare found out_ = by_check (e.checking req) refl
    where
      by_check : (b : Bool) → e.checking req ≡ b → b ≡ false
      by_check false off = refl
      by_check true on =
          let from = found_from e.checking log req bare (subst (λ (x : Seen). request_of x req ≡ Some bare) (now_is e out) found) in
          let its = work.checks.checks req from.0 from.1 on in
          let is : bare ≡ unbegun from.0 = from.2 ∙ checked_on e.checking from.0 (ap e.checking its.nr ∙ on) in
          let none : is_checked bare ≡ false = none_out bare (ap (λ (x : Asked). x.is_started) is) (ap (λ (x : Asked). x.fragment) is ∙ its.unsent) out_ (each req bare found).what in
          let never : false ≡ true = sym none ∙ ap (λ (x : Asked). is_checked x) is ∙ its.checked in
          absurd cc

  pub serve_off : (req : ReqId) → MayServe n req → e.checking req ≡ false
  serve_off req may = by_found (request_of n req) refl
    where
      by_found : (o : Option Asked) → request_of n req ≡ o → e.checking req ≡ false
      by_found None at =
          let none : may_go_on n req ≡ false = rw at refl in
          let never : false ≡ true = sym none ∙ may.goes in
          absurd cc
      by_found (Some bare) at = out_off req bare at (may.begun bare at)

  pub cause_off : (why : Why) → MayCause n why → IsForOther e.checking why
  cause_off why may req is = serve_off req (may req is)
