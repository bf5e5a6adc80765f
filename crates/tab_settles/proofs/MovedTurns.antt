-- Where a traversal runs, who is awake and was moved by it was shown a document by it: rows keep that which move nobody and by which nobody wakes, and it is so as a traversal begins.
use Rattle.tab_releases.proofs.PassedOn.{over_with}
use Rattle.seen_facts.specs.Asked.Asking.{ArePlain, IsThere}
use Rattle.seen_facts.proofs.Coord.Held.{on_else}
use Rattle.seen_facts.proofs.Coord.Unread.{next}
use Rattle.seen_facts.proofs.Each.Courses.{was_asked}
use Rattle.seen_facts.specs.Each.Runs.{is_run}
use Rattle.tab_facts.specs.Frame.Moving.{AreMoves}
use Rattle.seen_facts.proofs.Load.Rows.{req_same}
use Rattle.log_model.proofs.Refl.{nat_eq_refl}
use Rattle.log_model.specs.After.{after, ended}
use Rattle.log_model.specs.AfterRequests.{entries_taken, on_request, request_begun, requests_sent}
use Rattle.log_model.specs.Places.{is_traversal}
use Rattle.log_model.specs.Seen.{Asked, Place, Seen, awake, place_in, place_of, request_in}
use Rattle.log_model.specs.declared.job.Job.{Job}
use Rattle.log_model.specs.declared.job.Task.{Task}
use Rattle.log_model.specs.declared.outcome.Ending.{Ending}
use Rattle.log_model.specs.declared.request.Request.{Request}
use Rattle.log_model.specs.declared.row_kind.Actor.{Actor}
use Rattle.log_model.specs.declared.row_kind.RowKind.{RowKind}
use Rattle.seen_facts.proofs.Request.LookUps.{on_itself}
use Rattle.seen_facts.proofs.Request.Readers.{SameReads, on_read, reads_then}
use Rattle.seen_laws.specs.InEvent.{InEvent, now_of, row_of, EachGoes}
use Rattle.std.proofs.Common.{Bool, List, None, Option, Some, ap, false, refl, sym, true, ℕ, ◌&&◌, ◌==◌, ◌∙◌, ◌≡◌, []}
use Rattle.std.proofs.lemmas.Bool.{and_parts}
use Rattle.std.specs.Prelude.{is_none, is_some, option_map}
use Rattle.tab_ids.specs.declared.DocId.{DocId}
use Rattle.tab_ids.specs.declared.NavId.{NavId}
use Rattle.tab_ids.specs.declared.ReqId.{ReqId}
use Rattle.tab_releases.specs.PassedOn.{HasGrown, HasOnly, IsOfTurn}
use Rattle.tab_settles.proofs.MovedRows.{shown_back, shown_idle, shown_unmoved}
use Rattle.tab_settles.specs.Settling.{MovedAreShown}
use Rattle.row_facts.specs.WalkRows.Since.{WasAwake}
use Rattle.log_model.specs.declared.job.Task.TheVariants as tasks
use Rattle.log_model.specs.declared.outcome.Ending.TheVariants as endings
use Rattle.log_model.specs.declared.row_kind.RowKind.TheVariants as rows

-- ---- whom requests have moved

-- what a request asks, whom it has moved, and whom it showed a document
pub record Reach : Type 0 where
  pub what : Request
  pub moved : List NavId
  pub activated : List NavId

abbrev pub reach : Asked → Reach
reach q = record { what = q.what; moved = q.moved; activated = q.activated }

-- the order moves nobody
abbrev pub MovesNone : Task → Type 0
MovesNone (tasks.Populate nav state address initial) = Unit {0}
MovesNone (tasks.Update long index) = Unit {0}
MovesNone (tasks.DoFragment req mode address) = Unit {0}
MovesNone _ = ⊥

-- the row begins, applies or ends a request, or is such an order
abbrev pub IsUnmoving : RowKind → Type 0
IsUnmoving (rows.Sent job) = MovesNone job.task
IsUnmoving (rows.Started req goal) = Unit {0}
IsUnmoving (rows.Applied req change) = Unit {0}
IsUnmoving (rows.Refused req reason) = Unit {0}
IsUnmoving (rows.Dropped req cause) = Unit {0}
IsUnmoving _ = ⊥

sent_reach : (s : Seen) (job : Job) (task : Task) (asked : List Asked) → MovesNone task → SameReads reach asked (requests_sent s job task asked)
sent_reach s job (tasks.Populate nav state address initial) asked is = λ r. refl
sent_reach s job (tasks.Update long index) asked is = λ r. refl
sent_reach s job (tasks.DoFragment req mode address) asked is =
    on_read reach asked req (λ (q : Asked). record q { fragment = Some job.doc }) (λ q. refl)
sent_reach s job _ asked never = absurd never

row_reach : (s : Seen) (event : ℕ) (actor : Actor) (kind : RowKind) → IsUnmoving kind → SameReads reach s.requests (next s event actor kind).requests
row_reach s event actor (rows.Sent job) is = sent_reach s job job.task s.requests is
row_reach s event actor (rows.Started req goal) is =
    reads_then reach s.requests begun _ (on_read reach s.requests req (λ (q : Asked). record q { is_started = true; goal = goal }) (λ q. refl))
    (on_read reach begun req (request_begun s) (λ q. refl))
  where
    begun : List Asked
    begun = on_request req (λ (q : Asked). record q { is_started = true; goal = goal }) s.requests
row_reach s event actor (rows.Applied req change) is =
    reads_then reach s.requests over _ (on_read reach s.requests req (λ (q : Asked). record q { ending = Some endings.Applied }) (λ q. refl))
    (reads_then reach over said _ (on_read reach over req (λ (q : Asked). record q { change = Some change }) (λ q. refl))
    (on_read reach said req (λ (q : Asked). record q { took = entries_taken s.history change }) (λ q. refl)))
  where
    over : List Asked
    over = ended s.requests req endings.Applied

    said : List Asked
    said = on_request req (λ (q : Asked). record q { change = Some change }) over
row_reach s event actor (rows.Refused req reason) is =
    on_read reach s.requests req (λ (q : Asked). record q { ending = Some (endings.Refused reason) }) (λ q. refl)
row_reach s event actor (rows.Dropped req cause) is =
    on_read reach s.requests req (λ (q : Asked). record q { ending = Some (endings.Dropped cause) }) (λ q. refl)
row_reach s event actor _ never = absurd never

pub only_reach : (e : InEvent) (was out : List RowKind) → EachGoes e [] out → HasOnly IsUnmoving was out → SameReads reach (now_of e was).requests (now_of e out).requests
only_reach e was out goes only =
    over_with IsUnmoving (λ (x : Seen). SameReads reach (now_of e was).requests x.requests) e one was out goes only (λ r. refl)
  where
    one : (x : Seen) (kind : RowKind) → IsUnmoving kind → SameReads reach (now_of e was).requests x.requests → SameReads reach (now_of e was).requests (after x (row_of e kind)).requests
    one x kind is same =
        reads_then reach (now_of e was).requests x.requests (after x (row_of e kind)).requests same (row_reach x e.event e.actor kind is)

-- so it is where nobody woke
pub shown_over : (run : Option ReqId) (s t : Seen) → SameReads reach s.requests t.requests → ((nav : NavId) (place : Place) (doc : DocId) → place_of t nav ≡ Some place → place.status ≡ awake doc → WasAwake s nav doc) → MovedAreShown run s → MovedAreShown run t
shown_over run s t same back =
    shown_back run s t back (λ req x runs at. (let was = was_asked reach s.requests t.requests same req x at in (was.0, was.1, ap (λ (r : Reach). r.moved) (sym was.2), ap (λ (r : Reach). r.activated) (sym was.2))))

-- and where no place has changed
pub shown_put : (e : InEvent) (run : Option ReqId) (was out : List RowKind) → EachGoes e [] out → HasOnly IsUnmoving was out → (now_of e out).places ≡ (now_of e was).places → MovedAreShown run (now_of e was) → MovedAreShown run (now_of e out)
shown_put e run was out goes only places =
    shown_over run (now_of e was) (now_of e out) (only_reach e was out goes only) (λ nav place doc placed wakes. record { place = place; placed = ap (λ (l : List Place). place_in l nav) (sym places) ∙ placed; wakes = wakes })

-- ---- a traversal begins

pub turn_unmoving : (kind : RowKind) → IsOfTurn kind → IsUnmoving kind
turn_unmoving (rows.Started req goal) is = tt
turn_unmoving (rows.Applied req change) is = tt
turn_unmoving (rows.Refused req reason) is = tt
turn_unmoving (rows.Dropped req cause) is = tt
turn_unmoving _ never = absurd never

-- the request has ended
record IsOver (asked : List Asked) (req : ReqId) : Type 0 where
  q : Asked
  found : request_in asked req ≡ Some q
  over : is_some q.ending ≡ true

on_over : (asked : List Asked) (at req : ReqId) (f : Asked → Asked) → ((q : Asked) → is_some q.ending ≡ true → is_some (f q).ending ≡ true) → IsOver asked req → IsOver (on_request at f asked) req
on_over asked at req f stays its = by_test (req.0 == at.0) refl
  where
    by_test : (b : Bool) → (req.0 == at.0) ≡ b → IsOver (on_request at f asked) req
    by_test false apart = record { q = its.q; found = on_else asked at f req apart ∙ its.found; over = its.over }
    by_test true same =
        let one : req ≡ at = req_same req at same in
        record {
          q = f its.q;
          found = ap (λ (r : ReqId). request_in (on_request at f asked) r) one ∙ on_itself asked at f ∙ ap (option_map f) (ap (λ (r : ReqId). request_in asked r) (sym one) ∙ its.found);
          over = stays its.q its.over;
        }

row_over : (s : Seen) (event : ℕ) (actor : Actor) (kind : RowKind) (req : ReqId) → IsOfTurn kind → IsOver s.requests req → IsOver (next s event actor kind).requests req
row_over s event actor (rows.Started at goal) req is its =
    on_over begun at req (request_begun s) (λ q over. over) (on_over s.requests at req (λ (q : Asked). record q { is_started = true; goal = goal }) (λ q over. over) its)
  where
    begun : List Asked
    begun = on_request at (λ (q : Asked). record q { is_started = true; goal = goal }) s.requests
row_over s event actor (rows.Applied at change) req is its =
    on_over said at req (λ (q : Asked). record q { took = entries_taken s.history change }) (λ q over. over)
    (on_over done at req (λ (q : Asked). record q { change = Some change }) (λ q over. over)
    (on_over s.requests at req (λ (q : Asked). record q { ending = Some endings.Applied }) (λ q over. refl) its))
  where
    done : List Asked
    done = ended s.requests at endings.Applied

    said : List Asked
    said = on_request at (λ (q : Asked). record q { change = Some change }) done
row_over s event actor (rows.Refused at reason) req is its =
    on_over s.requests at req (λ (q : Asked). record q { ending = Some (endings.Refused reason) }) (λ q over. refl) its
row_over s event actor (rows.Dropped at cause) req is its =
    on_over s.requests at req (λ (q : Asked). record q { ending = Some (endings.Dropped cause) }) (λ q over. refl) its
row_over s event actor _ req never its = absurd never

-- where none ran before, the one that runs now has moved nobody
pub shown_began : (e : InEvent) (was out : List RowKind) → EachGoes e [] out → HasGrown was out → (run : Option ReqId) → ArePlain None (now_of e was) → AreMoves (now_of e was) → ArePlain run (now_of e out) → MovedAreShown run (now_of e out)
shown_began e was out goes grown None plain_s moves plain_n = shown_idle (now_of e out)
shown_began e was out goes grown (Some run) plain_s moves plain_n =
    shown_unmoved run n it.q it.found (ap (λ (r : Reach). r.moved) (sym had.2) ∙ moves.unmoved run p had.1 traverses unstarted)
  where
    s : Seen
    s = now_of e was

    n : Seen
    n = now_of e out

    it : IsThere n run
    it = plain_n.runs run refl

    had : (q : Asked) × (request_in s.requests run ≡ Some q) × (reach q ≡ reach it.q)
    had =
        was_asked reach s.requests n.requests (only_reach e was out goes (record { more = grown.more; is = grown.is; each = λ kind has. turn_unmoving kind (grown.each kind has) })) run it.q it.found

    p : Asked
    p = had.0

    traverses : is_traversal p.what ≡ true
    traverses = ap (λ (r : Reach). is_traversal r.what) had.2 ∙ it.traverses

    -- what has ended doesn't run
    ran : IsOver s.requests run → ⊥
    ran its = both it.q.ending open_ (ap (λ (q : Asked). is_some q.ending) one ∙ then_.over)
      where
        then_ : IsOver n.requests run
        then_ =
            over_with IsOfTurn (λ (x : Seen). IsOver x.requests run) e (λ x kind is at. row_over x e.event e.actor kind run is at) was out goes (record { more = grown.more; is = grown.is; each = grown.each }) its

        one : it.q ≡ then_.q
        one = let two : Some it.q ≡ Some then_.q = sym it.found ∙ then_.found in cc

        runs : is_run it.q ≡ true
        runs = plain_n.only run it.q it.found ∙ nat_eq_refl run.0

        open_ : is_none it.q.ending ≡ true
        open_ =
            (and_parts it.q.is_started (is_none it.q.ending) (and_parts (it.q.is_started && is_none it.q.ending) (is_traversal it.q.what) runs).0).1

        both : (o : Option Ending) → is_none o ≡ true → is_some o ≡ true → ⊥
        both None is never = cc
        both (Some ending) never is = cc

    unstarted : p.is_started ≡ false
    unstarted = by_start p.is_started p.ending refl refl
      where
        by_start : (b : Bool) (o : Option Ending) → p.is_started ≡ b → p.ending ≡ o → p.is_started ≡ false
        by_start false o is over = is
        by_start true None is over =
            let runs : is_run p ≡ true = rw is (rw over (rw traverses refl)) in
            let never : true ≡ false = sym runs ∙ plain_s.only run p had.1 in
            absurd cc
        by_start true (Some ending) is over = absurd (ran (record { q = p; found = had.1; over = ap is_some over }))
