-- A request that may leave a navigable may so still once other rows came; and where it may leave one that is awake on a document, that is left duly for it.
use Rattle.leave_facts.proofs.Carried.{AreLeftDuly}
use Rattle.leave_facts.proofs.Duly.{below_duly, late_duly}
use Rattle.leave_facts.specs.Leaving.{IsLeftDuly, IsLeftDulyFor, leaves_nav}
use Rattle.log_model.specs.History.{has_nav}
use Rattle.log_model.specs.Places.{way_of, way_to}
use Rattle.log_model.specs.Seen.{Asked, Document, Place, Seen, document_of, place_of, request_of}
use Rattle.log_model.specs.declared.request.Mode.{Mode}
use Rattle.log_model.specs.declared.request.Request.{Request}
use Rattle.log_model.specs.declared.row_kind.RowKind.{RowKind}
use Rattle.seen_facts.proofs.Walk.Placed.{found_nav}
use Rattle.seen_facts.specs.Asked.Asking.{IsAskedPlainly}
use Rattle.seen_facts.specs.Each.Runs.{EachAsked}
use Rattle.seen_facts.specs.Load.Loading.{Look, look, look_of}
use Rattle.seen_laws.proofs.InEvents.{now_is}
use Rattle.seen_laws.specs.InEvent.{InEvent, log_of, now_of}
use Rattle.seen_laws.specs.Unasked.{unasked_request, without_asks}
use Rattle.std.proofs.Common.{Bool, List, None, Option, Some, [], ap, false, inl, inr, refl, subst, sym, true, ℕ, ◌∙◌, ◌∷◌, ◌≡◌, ◌⊎◌}
use Rattle.std.specs.Option.{option_map_or}
use Rattle.std.specs.Prelude.{option_map}
use Rattle.tab_doors.proofs.Leavable.{IsInLog, in_log, placed_log}
use Rattle.tab_doors.proofs.LogDues.{checked_off, found_from}
use Rattle.tab_doors.specs.Keeping.{Move}
use Rattle.tab_doors.specs.Working.{IsAtWorkIn}
use Rattle.tab_doors.specs.declared.tables.Tables.{Tables}
use Rattle.tab_ids.specs.declared.DocId.{DocId}
use Rattle.tab_ids.specs.declared.NavId.{NavId}
use Rattle.tab_ids.specs.declared.ReqId.{ReqId}
use Rattle.tab_passes.proofs.Others.{serve_off}
use Rattle.tab_passes.specs.Causes.{HasSetOut, MayServe}
use Rattle.tab_sweeps.specs.Sweeping.{IsOverNav, MayLeaveNav, NeverBegins}
use Rattle.log_model.specs.declared.job.Why.TheVariants as whys
use Rattle.log_model.specs.declared.request.Request.TheVariants as requests

-- ---- ways

-- the way to a navigable is read off those above it
way_form : (s : Seen) (nav : NavId) → way_to s nav ≡ option_map_or (λ (l : List NavId). nav ∷ l) (option_map (λ (p : Place). p.above) (place_of s nav)) (nav ∷ [])
way_form s nav = by_place (place_of s nav) refl
  where
    by_place : (o : Option Place) → place_of s nav ≡ o → option_map_or way_of o (nav ∷ []) ≡ option_map_or (λ (l : List NavId). nav ∷ l) (option_map (λ (p : Place). p.above) o) (nav ∷ [])
    by_place None is = refl
    by_place (Some p) is = ap (λ (n : NavId). let l : List NavId = n ∷ p.above in l) (found_nav s.places nav p is)

-- so it is the same where those are
pub way_same : (s t : Seen) (nav : NavId) → option_map (λ (p : Place). p.above) (place_of t nav) ≡ option_map (λ (p : Place). p.above) (place_of s nav) → way_to t nav ≡ way_to s nav
way_same s t nav above =
    way_form t nav ∙ ap (λ (o : Option (List NavId)). option_map_or (λ (l : List NavId). nav ∷ l) o (nav ∷ [])) above ∙ sym (way_form s nav)

-- ---- why

-- one that has set out and hasn't begun may leave any
pub unbegun_leaves : (s : Seen) (req : ReqId) (q : Asked) (nav : NavId) → request_of s req ≡ Some q → q.is_started ≡ false → MayServe s req → MayLeaveNav s req nav
unbegun_leaves s req q nav at unbegun may =
    record { q = q; found = at; how = inl (record { out = may.begun q at; unstarted = unbegun }) }

-- a load whoever is at or below its navigable
pub load_leaves : (s : Seen) (req : ReqId) (q : Asked) (nav own : NavId) (mode : Mode) (address : List ℕ) → request_of s req ≡ Some q → q.what ≡ requests.Load own mode address → has_nav (way_to s nav) own ≡ true → MayLeaveNav s req nav
load_leaves s req q nav own mode address at what above =
    record { q = q; found = at; how = inr (record { at = own; leaves = ap (λ (w : Request). leaves_nav w) what; above = above }) }

-- ---- once other rows came

-- where the request asks what it asked, and hasn't begun if it hadn't, and the way to the navigable is the same
pub may_leave_on : (s t : Seen) (req : ReqId) (nav : NavId) → MayServe t req → option_map (λ (q : Asked). q.what) (request_of t req) ≡ option_map (λ (q : Asked). q.what) (request_of s req) → ((q x : Asked) → request_of s req ≡ Some q → q.is_started ≡ false → request_of t req ≡ Some x → x.is_started ≡ false) → way_to t nav ≡ way_to s nav → MayLeaveNav s req nav → MayLeaveNav t req nav
may_leave_on s t req nav may whats unbegun ways its = by_found (request_of t req) refl
  where
    how_then : (x : Asked) → request_of t req ≡ Some x → x.what ≡ its.q.what → NeverBegins its.q ⊎ IsOverNav s its.q nav → NeverBegins x ⊎ IsOverNav t x nav
    how_then x at same (inl never) = inl (record { out = may.begun x at; unstarted = unbegun its.q x its.found never.unstarted at })
    how_then x at same (inr over) =
        inr (record { at = over.at; leaves = ap (λ (w : Request). leaves_nav w) same ∙ over.leaves; above = ap (λ (l : List NavId). has_nav l over.at) ways ∙ over.above })

    by_found : (o : Option Asked) → request_of t req ≡ o → MayLeaveNav t req nav
    by_found None none =
        let never : None ≡ Some its.q.what = sym (ap (option_map (λ (q : Asked). q.what)) none) ∙ whats ∙ ap (option_map (λ (q : Asked). q.what)) its.found in
        absurd cc
    by_found (Some x) at =
        let two : Some x.what ≡ Some its.q.what = sym (ap (option_map (λ (q : Asked). q.what)) at) ∙ whats ∙ ap (option_map (λ (q : Asked). q.what)) its.found in
        record { q = x; found = at; how = how_then x at (let same : x.what ≡ its.q.what = cc in same) its.how }

-- where it asks what it asked, and has begun if it had
pub may_leave_reads : (s t : Seen) (req : ReqId) (nav : NavId) → MayServe t req → option_map (λ (q : Asked). q.what) (request_of t req) ≡ option_map (λ (q : Asked). q.what) (request_of s req) → option_map (λ (q : Asked). q.is_started) (request_of t req) ≡ option_map (λ (q : Asked). q.is_started) (request_of s req) → way_to t nav ≡ way_to s nav → MayLeaveNav s req nav → MayLeaveNav t req nav
may_leave_reads s t req nav may whats starts =
    may_leave_on s t req nav may whats
    (λ q x at off there. let two : Some x.is_started ≡ Some q.is_started = sym (ap (option_map (λ (y : Asked). y.is_started)) there) ∙ starts ∙ ap (option_map (λ (y : Asked). y.is_started)) at in let one : x.is_started ≡ q.is_started = cc in one ∙ off)

-- where it is as it was
pub may_leave_same : (s t : Seen) (req : ReqId) (nav : NavId) → MayServe t req → request_of t req ≡ request_of s req → way_to t nav ≡ way_to s nav → MayLeaveNav s req nav → MayLeaveNav t req nav
may_leave_same s t req nav may same =
    may_leave_reads s t req nav may (ap (option_map (λ (q : Asked). q.what)) same) (ap (option_map (λ (q : Asked). q.is_started)) same)

-- where it begins, not having set out
pub begun_leaves : (s t : Seen) (req : ReqId) (nav : NavId) (q x : Asked) → request_of s req ≡ Some q → (HasSetOut q → ⊥) → request_of t req ≡ Some x → x.what ≡ q.what → way_to t nav ≡ way_to s nav → MayLeaveNav s req nav → MayLeaveNav t req nav
begun_leaves s t req nav q x at late there same ways its = record { q = x; found = there; how = by_how its.how }
  where
    one : q ≡ its.q
    one = let two : Some q ≡ Some its.q = sym at ∙ its.found in cc

    by_how : NeverBegins its.q ⊎ IsOverNav s its.q nav → NeverBegins x ⊎ IsOverNav t x nav
    by_how (inl never) = absurd (late (subst (λ (y : Asked). HasSetOut y) (sym one) never.out))
    by_how (inr over) =
        inr (record {
          at = over.at;
          leaves = ap (λ (w : Request). leaves_nav w) (same ∙ ap (λ (y : Asked). y.what) one) ∙ over.leaves;
          above = ap (λ (l : List NavId). has_nav l over.at) ways ∙ over.above;
        })

-- where it looks as it did
pub may_leave_looks : (s t : Seen) (req : ReqId) (nav : NavId) → MayServe t req → look_of t req ≡ look_of s req → way_to t nav ≡ way_to s nav → MayLeaveNav s req nav → MayLeaveNav t req nav
may_leave_looks s t req nav may looks =
    may_leave_on s t req nav may (sym (looks_what (request_of t req)) ∙ ap (option_map (λ (l : Look). l.what)) looks ∙ looks_what (request_of s req))
    (λ q x at off there. let two : Some (look x) ≡ Some (look q) = sym (ap (option_map look) there) ∙ looks ∙ ap (option_map look) at in let one : look x ≡ look q = cc in ap (λ (l : Look). l.is_started) one ∙ off)
  where
    looks_what : (o : Option Asked) → option_map (λ (l : Look). l.what) (option_map look o) ≡ option_map (λ (q : Asked). q.what) o
    looks_what None = refl
    looks_what (Some q) = refl

-- ---- so the document is left duly

module _ {sweeps : Bool} {move : Option Move} (e : InEvent) (out : List RowKind) (t : Tables) (work : IsAtWorkIn sweeps move e out t) (each : EachAsked IsAskedPlainly (now_of e out).requests) (duly : AreLeftDuly (log_of e out)) where
  abbrev n : Seen
  n = now_of e out

  abbrev log : Seen
  log = log_of e out

  pub left_by : (req : ReqId) (nav : NavId) (place : Place) (doc : DocId) (d : Document) → MayServe n req → place_of n nav ≡ Some place → document_of n doc ≡ Some d → d.nav ≡ nav → MayLeaveNav n req nav → IsLeftDulyFor log doc (whys.Req req)
  left_by req nav place doc d may placed found home its other named =
      let one : req ≡ other = cc in subst (λ (r : ReqId). IsLeftDuly log doc r) one (by_how its.how)
    where
      off : e.checking req ≡ false
      off = serve_off e out t work each req may

      from : (x : Asked) × (request_of log req ≡ Some x) × (its.q ≡ unasked_request e.checking x)
      from = found_from e.checking log req its.q (subst (λ (y : Seen). request_of y req ≡ Some its.q) (now_is e out) its.found)

      same : its.q ≡ without_asks from.0
      same = from.2 ∙ checked_off e.checking from.0 (ap e.checking (work.checks.numbered req from.0 from.1) ∙ off)

      in_ : IsInLog e out doc d
      in_ = in_log e out (now_is e out) doc d found

      late : from.0.is_started ≡ false → IsLeftDuly log doc req
      late unbegun = late_duly log doc req from.0 from.1 unbegun

      over : IsOverNav n its.q nav → (b : Bool) → from.0.is_started ≡ b → IsLeftDuly log doc req
      over up false unbegun = late unbegun
      over up true began =
          below_duly log duly.below doc in_.d in_.found req from.0 up.at
          (record { found = from.1; started = began; leaves = ap (λ (x : Asked). leaves_nav x.what) (sym same) ∙ up.leaves }) place
          (ap (λ (m : NavId). place_of log m) (ap (λ (x : Document). x.nav) (sym in_.is) ∙ home) ∙ placed_log e out (now_is e out) nav place placed)
          (ap (λ (o : Option Place). has_nav (option_map_or way_of o (nav ∷ [])) up.at) (sym placed) ∙ up.above)

      by_how : NeverBegins its.q ⊎ IsOverNav n its.q nav → IsLeftDuly log doc req
      by_how (inl never) = late (ap (λ (x : Asked). x.is_started) (sym same) ∙ never.unstarted)
      by_how (inr up) = over up from.0.is_started refl
