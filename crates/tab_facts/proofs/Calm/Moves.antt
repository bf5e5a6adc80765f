-- Where a traversal runs, whom it hasn't moved stays where it is to be: an order that shows a document moves its navigable for the traversal, and each other one leaves who is awake.
use Rattle.seen_facts.proofs.Asked.Running.{moved_is}
use Rattle.tab_facts.proofs.Calm.Sames.{here_same}
use Rattle.tab_facts.proofs.Calm.Sents.{ComesFrom, IsShownOne, comes_from}
use Rattle.tab_facts.proofs.Calm.Turns.{later_in}
use Rattle.tab_facts.specs.Calm.Calm.{IsHere, ShowsOne, UnmovedAreHere}
use Rattle.seen_facts.proofs.Coord.Held.{on_else}
use Rattle.seen_facts.proofs.Coord.Unread.{next}
use Rattle.seen_facts.proofs.Each.Runs.{each_asked_on}
use Rattle.seen_facts.specs.Each.Runs.{OnlyRuns, is_run, is_this}
use Rattle.seen_facts.proofs.Load.Rows.{look_blind, req_same}
use Rattle.seen_facts.specs.Load.Loading.{Look, look, look_of}
use Rattle.log_model.proofs.Refl.{nat_eq_refl}
use Rattle.log_model.specs.AfterPlaces.{sleepers_below, sleepers_with}
use Rattle.log_model.specs.AfterRequests.{on_request, on_served, request_served, requests_sent, with_activated, with_moved}
use Rattle.log_model.specs.Equal.{holds}
use Rattle.log_model.specs.History.{has_nav}
use Rattle.log_model.specs.Places.{is_moved, is_traversal}
use Rattle.log_model.specs.Seen.{Asked, Document, Place, Seen, document_of, place_of, request_in}
use Rattle.log_model.specs.declared.job.Job.{Job}
use Rattle.log_model.specs.declared.job.Task.{Task}
use Rattle.log_model.specs.declared.job.Why.{Why}
use Rattle.log_model.specs.declared.outcome.Cause.{Cause}
use Rattle.log_model.specs.declared.row_kind.Actor.{Actor}
use Rattle.seen_facts.proofs.Request.LookUps.{on_itself}
use Rattle.seen_facts.proofs.Request.Readers.{sent_reads}
use Rattle.std.proofs.Common.{Bool, List, None, Option, Some, [], ap, false, inl, inr, refl, subst, sym, true, ℕ, ◌&&◌, ◌++◌, ◌==◌, ◌||◌, ◌∙◌, ◌∷◌, ◌≡◌}
use Rattle.std.specs.Option.{option_map_or}
use Rattle.std.specs.Prelude.{is_none, option_map}
use Rattle.tab_ids.specs.declared.NavId.{NavId}
use Rattle.tab_ids.specs.declared.ReqId.{ReqId}
use Rattle.seen_facts.proofs.Walk.Placed.{found_nav}
use Rattle.log_model.specs.declared.job.Task.TheVariants as tasks
use Rattle.log_model.specs.declared.job.Why.TheVariants as whys
use Rattle.log_model.specs.declared.outcome.Ending.TheVariants as endings
use Rattle.log_model.specs.declared.row_kind.RowKind.TheVariants as rows

-- the traversal runs, it alone; and whom it hasn't moved is where it is to be
pub record AreUnmoved (run : ReqId) (s : Seen) : Type 0 where
  pub only : OnlyRuns (Some run) s
  pub q : Asked
  pub found : request_in s.requests run ≡ Some q
  pub traverses : is_traversal q.what ≡ true
  pub here : UnmovedAreHere s

-- ---- whom a request has moved

-- a change of a request that moves whom it had moved
abbrev Grows : (Asked → Asked) → Type 0
Grows f = (q : Asked) (nav : NavId) → has_nav q.moved nav ≡ true → has_nav (f q).moved nav ≡ true

in_back : (front navs : List NavId) (nav : NavId) → has_nav navs nav ≡ true → has_nav (front ++ navs) nav ≡ true
in_back [] navs nav has = has
in_back (first ∷ front) navs nav has = later_in first nav (front ++ navs) (in_back front navs nav has)

served_grows : (s : Seen) (job : Job) (task : Task) → Grows (request_served s job task)
served_grows s job (tasks.Activate entry epoch long at memo address) q nav has =
    by_document (document_of s job.doc)
  where
    by_document : (o : Option Document) → has_nav (let x : Asked = option_map_or (λ (d : Document). with_activated d.nav (with_moved (option_map_or (sleepers_below s job.doc) (place_of s d.nav) []) q)) o q in x).moved nav ≡ true
    by_document None = has
    by_document (Some d) =
        let l : List NavId = option_map_or (sleepers_below s job.doc) (place_of s d.nav) [] in
        later_in d.nav nav (l ++ q.moved) (in_back l q.moved nav has)
served_grows s job tasks.Freeze q nav has = in_back (sleepers_with s job.doc) q.moved nav has
served_grows s job tasks.Discard q nav has = in_back (sleepers_with s job.doc) q.moved nav has
served_grows s job (tasks.Ask slot cause) q nav has = has
served_grows s job (tasks.Populate n state address initial) q nav has = has
served_grows s job (tasks.Update long at) q nav has = has
served_grows s job (tasks.DoFragment req mode address) q nav has = has

-- the request then, which has moved whom it had moved
record HasMore (asked : List Asked) (run : ReqId) (q : Asked) : Type 0 where
  more : Asked
  found : request_in asked run ≡ Some more
  grows : (nav : NavId) → has_nav q.moved nav ≡ true → has_nav more.moved nav ≡ true

on_more : (asked : List Asked) (req run : ReqId) (f : Asked → Asked) (q : Asked) → Grows f → request_in asked run ≡ Some q → HasMore (on_request req f asked) run q
on_more asked req run f q grows found = by_test (run.0 == req.0) refl
  where
    by_test : (b : Bool) → (run.0 == req.0) ≡ b → HasMore (on_request req f asked) run q
    by_test false apart =
        record { more = q; found = on_else asked req f run apart ∙ found; grows = λ nav has. has }
    by_test true same =
        let one : run ≡ req = req_same run req same in
        record {
          more = f q;
          found = ap (λ (r : ReqId). request_in (on_request req f asked) r) one ∙ on_itself asked req f ∙ ap (option_map f) (ap (λ (r : ReqId). request_in asked r) (sym one) ∙ found);
          grows = grows q;
        }

served_more : (why : Why) (f : Asked → Asked) (asked : List Asked) (run : ReqId) (q : Asked) → Grows f → request_in asked run ≡ Some q → HasMore (on_served why f asked) run q
served_more (whys.Req req) f asked run q grows found = on_more asked req run f q grows found
served_more (whys.Death death) f asked run q grows found =
    record { more = q; found = found; grows = λ nav has. has }
served_more whys.Evict f asked run q grows found =
    record { more = q; found = found; grows = λ nav has. has }
served_more whys.Start f asked run q grows found =
    record { more = q; found = found; grows = λ nav has. has }

sent_more : (s : Seen) (job : Job) (task : Task) (asked : List Asked) (run : ReqId) (q : Asked) → request_in asked run ≡ Some q → HasMore (requests_sent s job task asked) run q
sent_more s job (tasks.Activate entry epoch long at memo address) asked run q =
    served_more job.why (request_served s job (tasks.Activate entry epoch long at memo address)) asked run q (served_grows s job (tasks.Activate entry epoch long at memo address))
sent_more s job tasks.Freeze asked run q =
    served_more job.why (request_served s job tasks.Freeze) asked run q (served_grows s job tasks.Freeze)
sent_more s job tasks.Discard asked run q =
    served_more job.why (request_served s job tasks.Discard) asked run q (served_grows s job tasks.Discard)
sent_more s job (tasks.Ask slot cause) asked run q =
    served_more job.why (request_served s job (tasks.Ask slot cause)) asked run q (served_grows s job (tasks.Ask slot cause))
sent_more s job (tasks.Populate n state address initial) asked run q = λ found. record { more = q; found = found; grows = λ nav has. has }
sent_more s job (tasks.Update long at) asked run q = λ found. record { more = q; found = found; grows = λ nav has. has }
sent_more s job (tasks.DoFragment req mode address) asked run q =
    on_more asked req run (λ (x : Asked). record x { fragment = Some job.doc }) q (λ x nav has. has)

-- ---- one order

-- what is read of the traversal that runs
abbrev runs_in : Look → Bool
runs_in l = (l.is_started && is_none l.ending) && is_traversal l.what

module _ (s : Seen) (event : ℕ) (actor : Actor) (job : Job) (run : ReqId) (are : AreUnmoved run s) where
  abbrev t : Seen
  t = next s event actor (rows.Sent job)

  looks : (req : ReqId) → look_of t req ≡ look_of s req
  looks req = sent_reads look look_blind s job job.task s.requests req

  only_then : OnlyRuns (Some run) t
  only_then req q at = by_old (request_in s.requests req) refl
    where
      same : Some (look q) ≡ option_map look (request_in s.requests req)
      same = sym (ap (option_map look) at) ∙ looks req

      by_old : (o : Option Asked) → request_in s.requests req ≡ o → is_run q ≡ is_this (Some run) req
      by_old None was = let never : Some (look q) ≡ None = same ∙ ap (option_map look) was in absurd cc
      by_old (Some old) was =
          let both : Some (look q) ≡ Some (look old) = same ∙ ap (option_map look) was in
          let one : look q ≡ look old = cc in
          ap runs_in one ∙ are.only req old was

  more : HasMore t.requests run are.q
  more = sent_more s job job.task s.requests run are.q are.found

  traverses_then : is_traversal more.more.what ≡ true
  traverses_then =
      let both : Some (look more.more) ≡ Some (look are.q) = sym (ap (option_map look) more.found) ∙ looks run ∙ ap (option_map look) are.found in
      let one : look more.more ≡ look are.q = cc in
      ap (λ (l : Look). is_traversal l.what) one ∙ are.traverses

  -- whom it hasn't moved then, it hadn't before
  unmoved_before : (nav : NavId) → is_moved t nav ≡ false → is_moved s nav ≡ false
  unmoved_before nav none = by_moved (is_moved s nav) refl
    where
      by_moved : (b : Bool) → is_moved s nav ≡ b → is_moved s nav ≡ false
      by_moved false is = is
      by_moved true is =
          let had : has_nav are.q.moved nav ≡ true = sym (moved_is (Some run) s.requests nav are.only ∙ ap (λ (o : Option Asked). holds (λ (q : Asked). has_nav q.moved nav) o) are.found) ∙ is in
          let has : is_moved t nav ≡ true = moved_is (Some run) t.requests nav only_then ∙ ap (λ (o : Option Asked). holds (λ (q : Asked). has_nav q.moved nav) o) more.found ∙ more.grows nav had in
          let never : true ≡ false = sym has ∙ none in absurd cc

  -- one that is shown a document for it, it has moved
  shown_moved : (place : Place) → IsShownOne s job place → job.why ≡ whys.Req run → is_moved t place.nav ≡ true
  shown_moved place shown for_run =
      moved_is (Some run) t.requests place.nav only_then
      ∙ ap (λ (o : Option Asked). holds (λ (q : Asked). has_nav q.moved place.nav) o) (ap (λ (l : List Asked). request_in l run) requests ∙ on_itself s.requests run (request_served s job task) ∙ ap (option_map (request_served s job task)) are.found)
      ∙ ap (λ (o : Option Document). has_nav (let x : Asked = option_map_or (λ (d : Document). with_activated d.nav (with_moved (option_map_or (sleepers_below s job.doc) (place_of s d.nav) []) are.q)) o are.q in x).moved place.nav) shown.found
      ∙ own (shown.d.nav.0 == place.nav.0) (ap (λ (n : NavId). shown.d.nav.0 == n.0) shown.own ∙ nat_eq_refl shown.d.nav.0)
    where
      task : Task
      task = tasks.Activate shown.entry shown.epoch shown.long shown.at shown.memo shown.address

      requests : t.requests ≡ on_request run (request_served s job task) s.requests
      requests =
          ap (λ (k : Task). requests_sent s job k s.requests) shown.task
          ∙ ap (λ (w : Why). on_served w (request_served s job task) s.requests) for_run

      own : (b : Bool) → b ≡ true → (b || has_nav (option_map_or (sleepers_below s job.doc) (place_of s shown.d.nav) [] ++ are.q.moved) place.nav) ≡ true
      own true is = refl
      own false is = absurd cc

  here_then : (ShowsOne job.task → job.why ≡ whys.Req run) → UnmovedAreHere t
  here_then for_run nav place doc placed wakes has none = by_from (comes_from s event actor job nav place placed)
    where
      by_from : ComesFrom s job nav place → IsHere t place
      by_from (inl was) =
          here_same s t refl place was.old was.nav_is was.given (are.here nav was.old doc was.placed (was.wakes doc wakes) has (unmoved_before nav none))
      by_from (inr shown) =
          let moved : is_moved t place.nav ≡ true = shown_moved place shown (for_run (subst (λ (k : Task). ShowsOne k) (sym shown.task) tt)) in
          let never : true ≡ false = sym moved ∙ ap (λ (n : NavId). is_moved t n) (found_nav t.places nav place placed) ∙ none in
          absurd cc

  -- where it shows a document for the traversal that runs, if it shows one
  pub unmoved_sent : (ShowsOne job.task → job.why ≡ whys.Req run) → AreUnmoved run t
  unmoved_sent for_run =
      record {
        only = only_then;
        q = more.more;
        found = more.found;
        traverses = traverses_then;
        here = here_then for_run;
      }

-- ---- another request is dropped

module _ (s : Seen) (event : ℕ) (actor : Actor) (req : ReqId) (cause : Cause) (run : ReqId) (apart : (run.0 == req.0) ≡ false) (are : AreUnmoved run s) where
  abbrev v : Seen
  v = next s event actor (rows.Dropped req cause)

  abbrev ends : Asked → Asked
  ends q = record q { ending = Some (endings.Dropped cause) }

  ended_only : OnlyRuns (Some run) v
  ended_only =
      each_asked_on (λ r q. is_run q ≡ is_this (Some run) r) (λ r q. is_run q ≡ is_this (Some run) r) s.requests req ends (λ r q differs is. is) (λ q at is. idle q.is_started (is_traversal q.what) ∙ sym apart) are.only
    where
      idle : (started goes : Bool) → ((started && false) && goes) ≡ false
      idle true goes = refl
      idle false goes = refl

  own_still : request_in v.requests run ≡ Some are.q
  own_still = on_else s.requests req ends run apart ∙ are.found

  moved_still : (nav : NavId) → is_moved v nav ≡ is_moved s nav
  moved_still nav =
      moved_is (Some run) v.requests nav ended_only
      ∙ ap (λ (o : Option Asked). holds (λ (q : Asked). has_nav q.moved nav) o) (own_still ∙ sym are.found)
      ∙ sym (moved_is (Some run) s.requests nav are.only)

  pub unmoved_dropped : AreUnmoved run v
  unmoved_dropped =
      record {
        only = ended_only;
        q = are.q;
        found = own_still;
        traverses = are.traverses;
        here = λ nav place doc placed wakes has none. here_same s v refl place place refl refl (are.here nav place doc placed wakes has (sym (moved_still nav) ∙ none));
      }
