-- All that holds of a tab between two rows holds after the coordinator refuses or drops what a document made, which is held back or at hand: it can't be done, isn't present, was moved away, or its document's navigable has no row.
use Rattle.seen_facts.proofs.Coord.Held.{without_same}
use Rattle.seen_facts.proofs.Coord.Unread.{next}
use Rattle.seen_facts.specs.Each.Runs.{is_this}
use Rattle.seen_facts.proofs.Entry.Skips.{IsPassed, without_made}
use Rattle.tab_facts.proofs.FrameWhole.Ending.{IsItsHand, absent_passed, bare_passed, denied_none, made_ends, reqs_of, some_times}
use Rattle.tab_facts.proofs.FrameWhole.Refusing.{none_without}
use Rattle.seen_facts.specs.Hang.Members.{Has}
use Rattle.log_model.specs.AfterRequests.{changes_history, without_req}
use Rattle.log_model.specs.Causes.{by_mover, denial_at_delivery, has_moved_away, is_outdated}
use Rattle.log_model.specs.Equal.{has_req, holds}
use Rattle.log_model.specs.History.{has_row}
use Rattle.log_model.specs.Places.{is_present, is_traversal, is_under_way}
use Rattle.log_model.specs.Points.{nav_of_request}
use Rattle.log_model.specs.Seen.{Asked, Document, Seen, document_of, request_in, request_of}
use Rattle.log_model.specs.declared.made.Made.{Made}
use Rattle.log_model.specs.declared.made.What.{What}
use Rattle.log_model.specs.declared.outcome.Cause.{Cause}
use Rattle.log_model.specs.declared.outcome.Denial.{Denial}
use Rattle.log_model.specs.declared.row_kind.Actor.{Actor}
use Rattle.seen_facts.proofs.Request.Times.{itself, times_none}
use Rattle.seen_facts.specs.Request.Cores.{Core, core, core_of}
use Rattle.seen_facts.specs.Request.Knowns.{AllOf, IsParked, is_go, req_itself}
use Rattle.seen_facts.specs.Request.Whereabouts.{times}
use Rattle.std.proofs.Common.{Bool, List, None, Option, Some, [], ap, arith, cond, false, inl, inr, not, refl, subst, sym, true, ℕ, ◌&&◌, ◌++◌, ◌<◌, ◌==◌, ◌||◌, ◌∙◌, ◌∷◌, ◌≡◌}
use Rattle.std.proofs.lemmas.Bool.{eqb-true}
use Rattle.tab_ids.specs.declared.ReqId.{ReqId}
use Rattle.tab_facts.proofs.TabWhole.Ending.{IsNoProcess, MayEnd, dropped_tab, refused_tab}
use Rattle.tab_facts.proofs.TabWhole.Where.{IsCarried, at_most_once, found_unloaded, none_at}
use Rattle.tab_facts.specs.TabWhole.Tab.{IsTab}
use Rattle.log_model.specs.declared.made.What.TheVariants as whats
use Rattle.log_model.specs.declared.outcome.Cause.TheVariants as drops
use Rattle.log_model.specs.declared.row_kind.RowKind.TheVariants as rows

some_same : {A : Type 0} {a b : A} → (let o : Option A = Some a in o) ≡ Some b → a ≡ b
some_same e = cc

neither : (a b : Bool) → b ≡ false → (a && b) ≡ false
neither true b e = e
neither false b e = refl

-- this was made of the request, which isn't the running traversal, and is all that is at hand of it
pub record IsMadeAtHand (run : Option ReqId) (loads : List ReqId) (hand : List Made) (s : Seen) (req : ReqId) (made : Made) : Type 0 where
  pub other : is_this run req ≡ false
  pub q : Asked
  pub there : request_of s req ≡ Some q
  pub makes : q.made ≡ Some made
  pub carried : IsCarried loads hand s req
  pub its : IsItsHand hand req made

module _ (run : Option ReqId) (loads : List ReqId) (hand : List Made) (s : Seen) (event : ℕ) (tab : IsTab run loads hand s) (req : ReqId) (made : Made) (is : IsMadeAtHand run loads hand s req made) where
  made_may : IsPassed s made → MayEnd run loads hand s req
  made_may passed =
      let end = made_ends run hand s req is.q made is.other is.there is.makes is.its passed in
      record { other = is.other; carried = is.carried; passed = record { held = end.held; at_hand = end.at_hand } }

  -- it can't be done
  pub denied_tab : (actor : Actor) (reason : Denial) → IsNoProcess actor → denial_at_delivery s made ≡ Some reason → IsTab run (without_req req loads) (without_made req hand) (next s event actor (rows.Refused req reason))
  denied_tab actor reason by denies =
      refused_tab run loads hand s event tab req (made_may (λ nav place doc placed wakes has under. denied_none s made reason denies)) actor reason by

  -- it isn't present
  pub absent_tab : (actor : Actor) (cause : Cause) → is_present s made ≡ false → IsTab run (without_req req loads) (without_made req hand) (next s event actor (rows.Dropped req cause))
  absent_tab actor cause absent =
      dropped_tab run loads hand s event tab req (made_may (absent_passed s made tab.homes absent)) actor cause

  -- its document's navigable has no row, though it may still be awake
  pub bare_tab : (actor : Actor) (cause : Cause) (d : Document) → document_of s made.doc ≡ Some d → has_row d.nav s.history.rows ≡ false → IsTab run (without_req req loads) (without_made req hand) (next s event actor (rows.Dropped req cause))
  bare_tab actor cause d found bare =
      dropped_tab run loads hand s event tab req (made_may (bare_passed s made d tab.homes found bare)) actor cause

  -- another request moved its navigable away
  pub moved_tab : (actor : Actor) (by : ReqId) (mover : Asked) → is.q.is_not_found ≡ false → by_mover s is.q mover ≡ true → IsTab run (without_req req loads) (without_made req hand) (next s event actor (rows.Dropped req (drops.By by)))
  moved_tab actor by mover found moved = absent_tab actor (drops.By by) absent
    where
      first : (a b : Bool) → (a && b) ≡ true → a ≡ true
      first true b e = refl
      first false b e = absurd cc

      outdated : is_outdated s is.q ≡ true
      outdated = first (is_outdated s is.q) (holds (has_moved_away s is.q mover) (nav_of_request is.q.what)) moved

      outdated_is : is_outdated s is.q ≡ (not (is_traversal is.q.what) && (not (is_present s made) || false))
      outdated_is =
          ap (λ (o : Option Made). not (is_traversal is.q.what) && (holds (λ (m : Made). not (is_present s m)) o || is.q.is_not_found)) is.makes
          ∙ ap (λ (b : Bool). not (is_traversal is.q.what) && (not (is_present s made) || b)) found

      by_tests : (x y : Bool) → (not x && (not y || false)) ≡ true → y ≡ false
      by_tests true y h = absurd cc
      by_tests false true h = absurd cc
      by_tests false false h = refl

      absent : is_present s made ≡ false
      absent = by_tests (is_traversal is.q.what) (is_present s made) (sym outdated_is ∙ outdated)

-- ---- when it is so

-- a request that asks for no traversal isn't the one that runs
pub still_other : (run : Option ReqId) (loads : List ReqId) (hand : List Made) (s : Seen) (req : ReqId) (q : Asked) → IsTab run loads hand s → request_of s req ≡ Some q → is_traversal q.what ≡ false → is_this run req ≡ false
still_other run loads hand s req q tab there still =
    sym (tab.asked.only req q there) ∙ neither (is_under_way q) (is_traversal q.what) still

-- what is last is there
last_has : (req : ReqId) (reqs : List ReqId) → has_req (reqs ++ req ∷ []) req ≡ true
last_has req [] = rw (itself req) refl
last_has req (r ∷ reqs) = behind (r.0 == req.0) (last_has req reqs)
  where
    behind : (b : Bool) → has_req (reqs ++ req ∷ []) req ≡ true → (b || has_req (reqs ++ req ∷ []) req) ≡ true
    behind true e = refl
    behind false e = e

-- what alone was made and is at hand
module _ (run : Option ReqId) (loads : List ReqId) (s : Seen) (made : Made) (q : Asked) where
  pub alone_at_hand : is_this run made.req ≡ false → request_of s made.req ≡ Some q → q.made ≡ Some made → IsMadeAtHand run loads (made ∷ []) s made.req made
  alone_at_hand other there makes =
      record {
        other = other;
        q = q;
        there = there;
        makes = makes;
        carried = inr (inr (inl (last_has made.req loads)));
        its = λ m has same. by_has m has;
      }
    where
      by_has : (m : Made) → Has (made ∷ []) m → m ≡ made
      by_has m (inl is) = sym is
      by_has m (inr never) = absurd never

-- and then nothing is
pub hand_emptied : (run : Option ReqId) (loads : List ReqId) (made : Made) (t : Seen) → IsTab run loads (without_made made.req (made ∷ [])) t → IsTab run loads [] t
hand_emptied run loads made t =
    subst (λ (l : List Made). IsTab run loads l t) (ap (λ (b : Bool). let l : List Made = cond (not b) (made ∷ []) [] in l) (itself made.req))

-- what is known of one that is held back
parked_is : (asked : List Asked) (parked : List ReqId) (req : ReqId) → has_req parked req ≡ true → AllOf IsParked req_itself asked parked → IsParked (core_of (request_in asked req)) req
parked_is asked [] req has all = absurd cc
parked_is asked (r ∷ parked) req has (one, all) =
    by_number (r.0 == req.0) refl has (λ more. parked_is asked parked req more all)
  where
    by_number : (b : Bool) → (r.0 == req.0) ≡ b → (b || has_req parked req) ≡ true → (has_req parked req ≡ true → IsParked (core_of (request_in asked req)) req) → IsParked (core_of (request_in asked req)) req
    by_number false e more rest = rest more
    by_number true e more rest =
        let same : r ≡ req = ap (λ (n : ℕ). let x : ReqId = record { 0 = n } in x) (eqb-true r.0 req.0 e) in
        subst (λ (x : ReqId). IsParked (core_of (request_in asked x)) x) same one

-- what changes the history is no traversal
no_go : (what : What) → changes_history what ≡ true → is_go what ≡ false
no_go (whats.Push entry memo address) is = refl
no_go (whats.Replace over entry memo address) is = refl
no_go (whats.AddFrame nav) is = refl
no_go (whats.RemoveFrame nav) is = refl
no_go (whats.Go delta) never = absurd cc
no_go whats.Edit never = absurd cc

module _ (run : Option ReqId) (loads : List ReqId) (hand : List Made) (s : Seen) (tab : IsTab run loads hand s) (req : ReqId) (parked : has_req s.parked req ≡ true) where
  some_parked : 0 < times req s.parked
  some_parked = some_times req s.parked parked

  unhanded : has_req (reqs_of hand) req ≡ false
  unhanded =
      let all = at_most_once run loads hand s tab req in
      times_none req (reqs_of hand) (omega (arith, all, some_parked))

  unloaded : has_req loads req ≡ false
  unloaded =
      times_none req loads (found_unloaded run loads hand s tab req (omega (arith, some_parked)))

  its : IsParked (core_of (request_in s.requests req)) req
  its = parked_is s.requests s.parked req parked tab.known.parked

  pub held_made : (q : Asked) (made : Made) → request_of s req ≡ Some q → q.made ≡ Some made → IsMadeAtHand run loads hand s req made
  held_made q made there makes =
      record {
        other = still_other run loads hand s req q tab there still;
        q = q;
        there = there;
        makes = makes;
        carried = inr (inl parked);
        its = λ m has same. absurd (none_at req hand m unhanded has same);
      }
    where
      core_is : core q ≡ record { what = its.is.what; doc = its.is.doc; made = Some its.made; ending = None }
      core_is = some_same (ap core_of (sym there) ∙ its.is.is)

      first : (a b : Bool) → (a || b) ≡ false → a ≡ false
      first true b e = absurd cc
      first false b e = refl

      still : is_traversal q.what ≡ false
      still =
          ap (λ (c : Core). is_traversal c.what) core_is
          ∙ first (is_traversal its.is.what) _ (its.is.begins ∙ no_go its.made.what its.changes)

  -- whatever is at hand stays
  pub held_left : (t : Seen) → IsTab run (without_req req loads) (without_made req hand) t → IsTab run loads hand t
  held_left t now =
      subst (λ (l : List ReqId). IsTab run l hand t) (without_same loads req unloaded) (subst (λ (m : List Made). IsTab run (without_req req loads) m t) (none_without req hand unhanded) now)
