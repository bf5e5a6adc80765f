-- A load begins and asks, and enters its check by that: the table of loads in their checks tells of it, and of the others as before.
use Rattle.asking_facts.proofs.Begun.{block_log}
use Rattle.asking_facts.proofs.Sent.{when_asked}
use Rattle.asking_facts.specs.Asking.{begun_asking}
use Rattle.checking_facts.proofs.Grown.{req_same}
use Rattle.checking_facts.specs.Checks.{SameBut}
use Rattle.load_asked.specs.Beginning.{asking_load}
use Rattle.load_table.proofs.Others.{others_begun}
use Rattle.load_table.specs.Loads.{begun, is_nav, ongoing_load}
use Rattle.load_table.specs.declared.load.Load.{Load}
use Rattle.log_model.specs.After.{after}
use Rattle.log_model.specs.AfterRequests.{load_replaces, on_request, request_begun}
use Rattle.log_model.specs.Once.{loads}
use Rattle.log_model.specs.Places.{is_ongoing_load}
use Rattle.log_model.specs.Seen.{Asked, Seen, request_of}
use Rattle.log_model.specs.declared.job.Job.{Job}
use Rattle.log_model.specs.declared.request.Mode.{Mode}
use Rattle.log_model.specs.declared.request.Request.TheVariants as requests
use Rattle.log_model.specs.declared.request.Request.{Request}
use Rattle.log_model.specs.declared.row_kind.RowKind.TheVariants as rows
use Rattle.log_model.specs.declared.row_kind.RowKind.{RowKind}
use Rattle.seen_facts.proofs.Coord.Held.{on_else}
use Rattle.seen_facts.proofs.LoadTies.Begins.{begun_own}
use Rattle.seen_facts.proofs.LoadTies.Leaves.{Traced, goes_on, read_as, traced, traced_of}
use Rattle.seen_facts.proofs.Request.LookUps.{on_itself}
use Rattle.seen_facts.specs.LoadTies.Tying.{HasLoad}
use Rattle.seen_laws.specs.InEvent.{InEvent, log_of, row_of}
use Rattle.std.proofs.Common.{Bool, List, None, Option, Some, [], ap, eqb-true, false, refl, subst, sym, true, ℕ, ◌+◌, ◌++◌, ◌==◌, ◌∙◌, ◌∷◌, ◌≡◌}
use Rattle.std.specs.Prelude.{option_map}
use Rattle.tab_doors.proofs.AskingLoads.{asking_still, off_apart, row_asking}
use Rattle.tab_doors.specs.AskingLoads.{IsAskingTied, TiesAsking}
use Rattle.tab_ids.specs.declared.NavId.{NavId}
use Rattle.tab_ids.specs.declared.ReqId.{ReqId}

same_nav : (a b : NavId) → (a.0 == b.0) ≡ true → a ≡ b
same_nav a b is = let n : a.0 ≡ b.0 = eqb-true a.0 b.0 is in ap (λ (i : ℕ). let x : NavId = record { 0 = i } in x) n

module _ (e : InEvent) (out : List RowKind) (table : List Load) (checking entered : ReqId → Bool) (ties : TiesAsking checking (log_of e out) table) (req : ReqId) (q : Asked) (at : request_of (log_of e out) req ≡ Some q) (nav : NavId) (mode : Mode) (address : List ℕ) (what : q.what ≡ requests.Load nav mode address) (open_ : q.ending ≡ None) (same : SameBut req checking entered) (off : checking req ≡ false) (on : entered req ≡ true) (none_ : ongoing_load nav table ≡ None) (replace : Bool) (replaces : replace ≡ load_replaces (log_of e out) (requests.Load nav mode address)) where
  abbrev s : Seen
  s = log_of e out

  abbrev load : Load
  load = asking_load req nav address replace (s.states + 1)

  abbrev next : List Load
  next = begun load table

  abbrev begin : Asked → Asked
  begin x = record x { is_started = true; goal = None }

  abbrev mid : Seen
  mid = after s (row_of e (rows.Started req None))

  others : (r : ReqId) → (r.0 == req.0) ≡ false → traced_of mid r ≡ traced_of s r
  others r apart =
      ap (λ (o : Option Asked). option_map traced o) (on_else (on_request req begin s.requests) req (request_begun s) r apart ∙ on_else s.requests req begin r apart)

  own : request_of mid req ≡ Some (request_begun s (begin q))
  own =
      on_itself (on_request req begin s.requests) req (request_begun s)
      ∙ ap (λ (o : Option Asked). option_map (request_begun s) o) (on_itself s.requests req begin ∙ ap (λ (o : Option Asked). option_map begin o) at)

  -- the load itself has the next document state
  own_tied : IsAskingTied entered mid load
  own_tied =
      record {
        q = request_begun s (begin q);
        found = own;
        on = on;
        ongoing = rw (open_, what) refl;
        mode = mode;
        what = what;
        state = rw what refl;
        replace = replaces ∙ ap (load_replaces s) (sym what);
        phase = refl;
      }

  in_mid : TiesAsking entered mid next
  in_mid = record { there = there; all = all }
    where
      there : (n : NavId) (l : Load) → ongoing_load n next ≡ Some l → IsAskingTied entered mid l
      there n l found = by_nav (is_nav n nav) refl
        where
          by_nav : (b : Bool) → is_nav n nav ≡ b → IsAskingTied entered mid l
          by_nav true is =
              let both : Some load ≡ Some l = sym (begun_own load table) ∙ ap (λ (x : NavId). ongoing_load x next) (sym (same_nav n nav is)) ∙ found in
              let one : load ≡ l = cc in
              subst (λ (x : Load). IsAskingTied entered mid x) one own_tied
          by_nav false is =
              let tied = ties.there n l (sym (others_begun load table n is) ∙ found) in
              let apart : (l.req.0 == req.0) ≡ false = off_apart checking l.req req tied.on off in
              let still = asking_still checking s mid l (others l.req apart) tied in
              record { q = still.q; found = still.found; on = same l.req apart ∙ still.on; ongoing = still.ongoing; mode = still.mode; what = still.what; state = still.state; replace = still.replace; phase = still.phase }

      all : (r : ReqId) (x : Asked) (n : NavId) → request_of mid r ≡ Some x → entered r ≡ true → is_ongoing_load x ≡ true → loads n x.what ≡ true → HasLoad next n r
      all r x n found checks going of_nav = by_number (r.0 == req.0) refl
        where
          -- another one was in the table, and is of another navigable
          other : HasLoad table n r → (b : Bool) → is_nav n nav ≡ b → HasLoad next n r
          other has false is = record { load = has.load; at = others_begun load table n is ∙ has.at; req_is = has.req_is }
          other has true is =
              let never : (let o : Option Load = None in o) ≡ Some has.load = sym none_ ∙ ap (λ (y : NavId). ongoing_load y table) (sym (same_nav n nav is)) ∙ has.at in
              absurd cc

          by_number : (b : Bool) → (r.0 == req.0) ≡ b → HasLoad next n r
          by_number true is =
              let it : r ≡ req = req_same r req is in
              let both : Some (request_begun s (begin q)) ≡ Some x = sym own ∙ ap (λ (k : ReqId). request_of mid k) (sym it) ∙ found in
              let one : request_begun s (begin q) ≡ x = cc in
              let number : (nav.0 == n.0) ≡ true = ap (λ (w : Request). loads n w) (sym what ∙ ap (λ (y : Asked). y.what) one) ∙ of_nav in
              record { load = load; at = ap (λ (y : NavId). ongoing_load y next) (sym (same_nav nav n number)) ∙ begun_own load table; req_is = sym it }
          by_number false apart =
              let w = read_as s r (traced x) (sym (others r apart) ∙ ap (λ (o : Option Asked). option_map traced o) found) in
              other (ties.all r w.q n w.found (sym (same r apart) ∙ checks) (ap goes_on w.is ∙ going) (ap (λ (l : Traced). loads n l.what) w.is ∙ of_nav)) (is_nav n nav) refl

  asked_then : (x : Seen) (jobs : List Job) → TiesAsking entered x next → TiesAsking entered (when_asked e x jobs) next
  asked_then x [] tied = tied
  asked_then x (job ∷ jobs) tied =
      asked_then (after x (row_of e (rows.Sent job))) jobs (row_asking entered x e.event e.actor next tied (rows.Sent job) tt)

  pub asking_entered : (jobs : List Job) → TiesAsking entered (log_of e (out ++ begun_asking req None jobs)) next
  asking_entered jobs =
      subst (λ (x : Seen). TiesAsking entered x next) (sym (block_log e out req None jobs)) (asked_then mid jobs in_mid)
