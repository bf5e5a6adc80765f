-- The table of loads in their unload checks stays over each row that begins, ends and accepts none of them.
use Rattle.checking_facts.specs.Checks.{SameBut}
use Rattle.checking_facts.specs.Prompts.{GoesBeside}
use Rattle.load_table.specs.Loads.{KeepsOthers, is_nav, ongoing_load}
use Rattle.load_table.specs.declared.load.Load.{Load}
use Rattle.log_model.proofs.Refl.{nat_eq_refl}
use Rattle.log_model.specs.After.{after, new_request}
use Rattle.log_model.specs.AfterRequests.{on_request, request_begun}
use Rattle.log_model.specs.Once.{loads}
use Rattle.log_model.specs.Places.{is_ongoing_load}
use Rattle.log_model.specs.Seen.{Asked, Seen, desk_of, request_in, request_of}
use Rattle.log_model.specs.declared.made.Made.{Made}
use Rattle.log_model.specs.declared.request.Request.{Request}
use Rattle.log_model.specs.declared.request.Request.TheVariants as requests
use Rattle.log_model.specs.declared.row_kind.Actor.{Actor}
use Rattle.log_model.specs.declared.row_kind.RowKind.{RowKind}
use Rattle.log_model.specs.declared.row_kind.RowKind.TheVariants as rows
use Rattle.seen_facts.proofs.Coord.Held.{on_else}
use Rattle.seen_facts.proofs.LoadTies.Begins.{found_nav}
use Rattle.seen_facts.proofs.LoadTies.Ends.{HasEnded, applied_ended, dropped_ended, refused_ended}
use Rattle.seen_facts.proofs.LoadTies.Leaves.{IsReadAs, Traced, goes_on, read_as, traced, traced_blind, traced_of}
use Rattle.seen_facts.proofs.Request.LookUps.{none_before, one_more, others_before}
use Rattle.seen_facts.proofs.Request.Readers.{SameReads, delivered_reads, finished_reads, on_read, sent_reads}
use Rattle.seen_facts.specs.LoadTies.Tying.{HasLoad}
use Rattle.std.proofs.Common.{Bool, List, None, Option, Some, [], ap, cond, eqb-true, false, length, refl, sym, true, ℕ, ◌+◌, ◌==◌, ◌∙◌, ◌≡◌}
use Rattle.std.specs.Prelude.{option_map, slice_get}
use Rattle.tab_doors.specs.AskingLoads.{IsAskingTied, TiesAsking}
use Rattle.tab_ids.specs.declared.DocId.{DocId}
use Rattle.tab_ids.specs.declared.NavId.{NavId}
use Rattle.tab_ids.specs.declared.ReqId.{ReqId}
use Rattle.tab_ids.specs.declared.Step.{Step}

same_req : (a b : ReqId) → (a.0 == b.0) ≡ true → a ≡ b
same_req a b e = let n : a.0 ≡ b.0 = eqb-true a.0 b.0 e in ap (λ (i : ℕ). let x : ReqId = record { 0 = i } in x) n

-- who is in its check is another one than who isn't
pub off_apart : (checking : ReqId → Bool) (r req : ReqId) → checking r ≡ true → checking req ≡ false → (r.0 == req.0) ≡ false
off_apart checking r req on off = by_test (r.0 == req.0) refl
  where
    by_test : (b : Bool) → (r.0 == req.0) ≡ b → b ≡ false
    by_test false e = refl
    by_test true e = let never : true ≡ false = sym on ∙ ap checking (same_req r req e) ∙ off in absurd cc

-- ---- where the ongoing loads in their checks are read as they were

-- a load of the table is one still
pub asking_still : (checking : ReqId → Bool) (s t : Seen) (load : Load) → traced_of t load.req ≡ traced_of s load.req → IsAskingTied checking s load → IsAskingTied checking t load
asking_still checking s t load same tied =
    let r = read_as t load.req (traced tied.q) (same ∙ ap (λ (o : Option Asked). option_map traced o) tied.found) in
    record {
      q = r.q;
      found = r.found;
      on = tied.on;
      ongoing = ap goes_on r.is ∙ tied.ongoing;
      mode = tied.mode;
      what = ap (λ (l : Traced). l.what) r.is ∙ tied.what;
      state = ap (λ (l : Traced). l.state) r.is ∙ tied.state;
      replace = tied.replace ∙ sym (ap (λ (l : Traced). l.replaces) r.is);
      phase = tied.phase;
    }

module _ (checking : ReqId → Bool) (s t : Seen) (table : List Load) (ties : TiesAsking checking s table) where
  -- and no other request is one then
  pub asking_on : ((r : ReqId) (q : Asked) → checking r ≡ true → request_of s r ≡ Some q → is_ongoing_load q ≡ true → traced_of t r ≡ traced_of s r) → ((r : ReqId) (q : Asked) → checking r ≡ true → request_of t r ≡ Some q → is_ongoing_load q ≡ true → traced_of t r ≡ traced_of s r) → TiesAsking checking t table
  asking_on on back =
      record {
        there = λ nav load at. (let tied = ties.there nav load at in asking_still checking s t load (on load.req tied.q tied.on tied.found tied.ongoing) tied);
        all = λ req q nav found checks going of_nav.
            (let r = read_as s req (traced q) (sym (back req q checks found going) ∙ ap (λ (o : Option Asked). option_map traced o) found) in
            ties.all req r.q nav r.found checks (ap goes_on r.is ∙ going) (ap (λ (l : Traced). loads nav l.what) r.is ∙ of_nav));
      }

  -- as where whoever is in its check is
  pub asking_same : ((r : ReqId) → checking r ≡ true → traced_of t r ≡ traced_of s r) → TiesAsking checking t table
  asking_same same = asking_on (λ r q on at going. same r on) (λ r q on at going. same r on)

  -- or everybody
  pub asking_read : SameReads traced s.requests t.requests → TiesAsking checking t table
  asking_read same = asking_same (λ r on. same r)

-- ---- rows

-- none that ends or begins as the row is in its check, and one that is accepted has the next number
abbrev pub LeavesAsking : (ReqId → Bool) → Seen → RowKind → Type 0
LeavesAsking checking s (rows.Opened entry state doc proc slot address) = ⊥
LeavesAsking checking s (rows.Accepted req doc what) = req.0 ≡ length s.requests + 1
LeavesAsking checking s (rows.Started req goal) = checking req ≡ false
LeavesAsking checking s (rows.Applied req change) = checking req ≡ false
LeavesAsking checking s (rows.Refused req reason) = checking req ≡ false
LeavesAsking checking s (rows.Dropped req cause) = checking req ≡ false
LeavesAsking checking s _ = Unit {0}

module _ (checking : ReqId → Bool) (s : Seen) (event : ℕ) (actor : Actor) (table : List Load) (ties : TiesAsking checking s table) where
  abbrev then_ : RowKind → Seen
  then_ kind = after s (record { event = event; actor = actor; row = kind })

  others_asking : (req : ReqId) (kind : RowKind) → checking req ≡ false → ((r : ReqId) → (r.0 == req.0) ≡ false → traced_of (then_ kind) r ≡ traced_of s r) → TiesAsking checking (then_ kind) table
  others_asking req kind off others =
      asking_same checking s (then_ kind) table ties (λ r on. others r (off_apart checking r req on off))

  begun_asking : (req : ReqId) (goal : Option Step) → checking req ≡ false → TiesAsking checking (then_ (rows.Started req goal)) table
  begun_asking req goal off =
      others_asking req (rows.Started req goal) off (λ r apart. ap (λ (o : Option Asked). option_map traced o) (on_else (on_request req begin s.requests) req (request_begun s) r apart ∙ on_else s.requests req begin r apart))
    where
      begin : Asked → Asked
      begin q = record q { is_started = true; goal = goal }

  ended_asking : (req : ReqId) (kind : RowKind) → HasEnded s (then_ kind) req → checking req ≡ false → TiesAsking checking (then_ kind) table
  ended_asking req kind has off = others_asking req kind off has.others

  accepted_asking : (req : ReqId) (doc : Option DocId) (what : Request) → req.0 ≡ length s.requests + 1 → TiesAsking checking (then_ (rows.Accepted req doc what)) table
  accepted_asking req doc what next =
      asking_on checking s (then_ (rows.Accepted req doc what)) table ties on back
    where
      new : Asked
      new = new_request req doc what

      on : (r : ReqId) (q : Asked) → checking r ≡ true → request_of s r ≡ Some q → is_ongoing_load q ≡ true → traced_of (then_ (rows.Accepted req doc what)) r ≡ traced_of s r
      on r q checks at going = by_number (req.0 == r.0) refl
        where
          by_number : (b : Bool) → (req.0 == r.0) ≡ b → traced_of (then_ (rows.Accepted req doc what)) r ≡ traced_of s r
          by_number false e = ap (λ (o : Option Asked). option_map traced o) (others_before s.requests new req next r e)
          by_number true e =
              let no_ : None ≡ Some q = sym (none_before s.requests new req next) ∙ ap (request_of s) (same_req req r e) ∙ at in
              absurd cc

      back : (r : ReqId) (q : Asked) → checking r ≡ true → request_of (then_ (rows.Accepted req doc what)) r ≡ Some q → is_ongoing_load q ≡ true → traced_of (then_ (rows.Accepted req doc what)) r ≡ traced_of s r
      back r q checks at going = by_number (req.0 == r.0) refl
        where
          by_number : (b : Bool) → (req.0 == r.0) ≡ b → traced_of (then_ (rows.Accepted req doc what)) r ≡ traced_of s r
          by_number false e = ap (λ (o : Option Asked). option_map traced o) (others_before s.requests new req next r e)
          by_number true e =
              let both : Some new ≡ Some q = sym (one_more s.requests new req next) ∙ ap (request_of (then_ (rows.Accepted req doc what))) (same_req req r e) ∙ at in
              let one : new ≡ q = cc in
              let no_ : false ≡ true = ap is_ongoing_load one ∙ going in
              absurd cc

  pub row_asking : (kind : RowKind) → LeavesAsking checking s kind → TiesAsking checking (then_ kind) table
  row_asking (rows.Opened entry state doc proc slot address) never = absurd never
  row_asking (rows.Accepted req doc what) next = accepted_asking req doc what next
  row_asking (rows.Started req goal) off = begun_asking req goal off
  row_asking (rows.Applied req change) off = ended_asking req (rows.Applied req change) (applied_ended s event actor req change) off
  row_asking (rows.Refused req reason) off = ended_asking req (rows.Refused req reason) (refused_ended s event actor req reason) off
  row_asking (rows.Dropped req cause) off = ended_asking req (rows.Dropped req cause) (dropped_ended s event actor req cause) off
  row_asking (rows.Prompted req doc) is =
      asking_read checking s (then_ (rows.Prompted req doc)) table ties (on_read traced s.requests req (λ q. record q { prompted = Some doc }) (λ q. refl))
  row_asking (rows.Answered req stay) is =
      asking_read checking s (then_ (rows.Answered req stay)) table ties (on_read traced s.requests req (λ q. record q { answered = Some stay }) (λ q. refl))
  row_asking (rows.Sent job) is =
      asking_read checking s (then_ (rows.Sent job)) table ties (sent_reads traced traced_blind s job job.task s.requests)
  row_asking (rows.Taken proc job live dirty) is = asking_read checking s (then_ (rows.Taken proc job live dirty)) table ties (λ r. refl)
  row_asking (rows.Finished proc job outcome) is =
      asking_read checking s (then_ (rows.Finished proc job outcome)) table ties (finished_reads traced traced_blind s (desk_of s proc).in_hand outcome s.requests)
  row_asking (rows.Made proc made) is =
      asking_read checking s (then_ (rows.Made proc made)) table ties (on_read traced s.requests made.req (λ q. record q { made = Some made }) (λ q. refl))
  row_asking (rows.Delivered proc) is =
      asking_read checking s (then_ (rows.Delivered proc)) table ties (delivered_reads traced traced_blind (slice_get (desk_of s proc).reports 0) s.requests)
  row_asking (rows.Killed proc death) is = asking_read checking s (then_ (rows.Killed proc death)) table ties (λ r. refl)
  row_asking (rows.Evicted state) is = asking_read checking s (then_ (rows.Evicted state)) table ties (λ r. refl)

  -- so over a row beside the checks
  pub beside_asking : (kind : RowKind) → GoesBeside checking s kind → TiesAsking checking (then_ kind) table
  beside_asking (rows.Started req goal) off = row_asking (rows.Started req goal) off
  beside_asking (rows.Applied req change) beside = row_asking (rows.Applied req change) beside.0
  beside_asking (rows.Refused req reason) beside = row_asking (rows.Refused req reason) beside.0
  beside_asking (rows.Dropped req cause) off = row_asking (rows.Dropped req cause) off
  beside_asking (rows.Sent job) beside = row_asking (rows.Sent job) tt
  beside_asking _ never = absurd never

-- where nobody is in its check the table is empty
pub none_asking : (checking : ReqId → Bool) (s : Seen) → ((req : ReqId) → checking req ≡ false) → TiesAsking checking s []
none_asking checking s off =
    record {
      there = λ nav load at. absurd cc;
      all = λ req q nav found on going of_nav. (let never : true ≡ false = sym on ∙ off req in absurd cc);
    }

-- ---- a request in its check ends, or passes

module _ (checking : ReqId → Bool) (s : Seen) (table : List Load) (ties : TiesAsking checking s table) (req : ReqId) where
  -- the loads of the table are others, where it is no ongoing one
  none_is : ((q : Asked) → request_of s req ≡ Some q → is_ongoing_load q ≡ false) → (r : ReqId) (q : Asked) → request_of s r ≡ Some q → is_ongoing_load q ≡ true → (r.0 == req.0) ≡ false
  none_is no_load r q at going = by_test (r.0 == req.0) refl
    where
      by_test : (b : Bool) → (r.0 == req.0) ≡ b → b ≡ false
      by_test false e = refl
      by_test true e =
          let never : false ≡ true = sym (no_load q (ap (request_of s) (sym (same_req r req e)) ∙ at)) ∙ going in
          absurd cc

  -- it passes, and isn't in its check any more
  pub asking_passed : (passed : ReqId → Bool) → SameBut req checking passed → passed req ≡ false → ((q : Asked) → request_of s req ≡ Some q → is_ongoing_load q ≡ false) → TiesAsking passed s table
  asking_passed passed same off no_load =
      record {
        there = λ nav load at. (let tied = ties.there nav load at in record { q = tied.q; found = tied.found; on = same load.req (none_is no_load load.req tied.q tied.found tied.ongoing) ∙ tied.on; ongoing = tied.ongoing; mode = tied.mode; what = tied.what; state = tied.state; replace = tied.replace; phase = tied.phase });
        all = λ r q nav found on going of_nav. ties.all r q nav found (sym (same r (none_is no_load r q found going)) ∙ on) going of_nav;
      }

  module _ (t : Seen) (ended_ : HasEnded s t req) where
    -- an ongoing load is of another request then
    other_then : (r : ReqId) (q : Asked) → request_of t r ≡ Some q → is_ongoing_load q ≡ true → (r.0 == req.0) ≡ false
    other_then r q at going = by_test (r.0 == req.0) refl
      where
        by_test : (b : Bool) → (r.0 == req.0) ≡ b → b ≡ false
        by_test false e = refl
        by_test true e =
            let never : false ≡ true = sym (ended_.own q (ap (request_of t) (sym (same_req r req e)) ∙ at)) ∙ going in
            absurd cc

    -- it is no ongoing load, and has ended
    pub asking_ended : ((q : Asked) → request_of s req ≡ Some q → is_ongoing_load q ≡ false) → TiesAsking checking t table
    asking_ended no_load =
        asking_on checking s t table ties
        (λ r q on at going. ended_.others r (none_is no_load r q at going))
        (λ r q on at going. ended_.others r (other_then r q at going))

    -- it is the load of a navigable, which leaves the table
    module _ (nav : NavId) (load : Load) (at : ongoing_load nav table ≡ Some load) (its : load.req ≡ req) (next : List Load) (none : ongoing_load nav next ≡ None) (others : KeepsOthers nav table next) where
      pub asking_withdrawn : TiesAsking checking t next
      asking_withdrawn = record { there = there; all = all }
        where
          -- a load of another navigable is of another request
          apart : (n : NavId) (l : Load) → ongoing_load n table ≡ Some l → is_nav n nav ≡ false → (l.req.0 == req.0) ≡ false
          apart n l there_ e = by_test (l.req.0 == req.0) refl
            where
              by_test : (b : Bool) → (l.req.0 == req.0) ≡ b → b ≡ false
              by_test false f = refl
              by_test true f =
                  let same : l.req ≡ load.req = same_req l.req req f ∙ sym its in
                  let one = ties.there n l there_ in
                  let two = ties.there nav load at in
                  let both : Some one.q ≡ Some two.q = sym one.found ∙ ap (request_of s) same ∙ two.found in
                  let asked : one.q ≡ two.q = cc in
                  let whats : requests.Load l.nav one.mode l.address ≡ requests.Load load.nav two.mode load.address = sym one.what ∙ ap (λ (q : Asked). q.what) asked ∙ two.what in
                  let navs : l.nav ≡ load.nav = cc in
                  let n_is : n ≡ nav = sym (found_nav n table l there_) ∙ navs ∙ found_nav nav table load at in
                  let no_ : true ≡ false = sym (nat_eq_refl nav.0) ∙ ap (λ (x : NavId). x.0 == nav.0) (sym n_is) ∙ e in
                  absurd cc

          there : (n : NavId) (l : Load) → ongoing_load n next ≡ Some l → IsAskingTied checking t l
          there n l at_next = by_nav (is_nav n nav) refl
            where
              by_nav : (b : Bool) → is_nav n nav ≡ b → IsAskingTied checking t l
              by_nav false e =
                  let was : ongoing_load n table ≡ Some l = sym (others n e) ∙ at_next in
                  asking_still checking s t l (ended_.others l.req (apart n l was e)) (ties.there n l was)
              by_nav true e =
                  let number : n.0 ≡ nav.0 = eqb-true n.0 nav.0 e in
                  let same : n ≡ nav = ap (λ (k : ℕ). let x : NavId = record { 0 = k } in x) number in
                  let no_ : None ≡ Some l = sym none ∙ ap (λ (x : NavId). ongoing_load x next) (sym same) ∙ at_next in
                  absurd cc

          all : (r : ReqId) (q : Asked) (n : NavId) → request_of t r ≡ Some q → checking r ≡ true → is_ongoing_load q ≡ true → loads n q.what ≡ true → HasLoad next n r
          all r q n at_t on going of_nav = by_nav has (is_nav n nav) refl
            where
              was : IsReadAs s r (traced q)
              was = read_as s r (traced q) (sym (ended_.others r (other_then r q at_t going)) ∙ ap (λ (o : Option Asked). option_map traced o) at_t)

              has : HasLoad table n r
              has = ties.all r was.q n was.found on (ap goes_on was.is ∙ going) (ap (λ (l : Traced). loads n l.what) was.is ∙ of_nav)

              by_nav : HasLoad table n r → (b : Bool) → is_nav n nav ≡ b → HasLoad next n r
              by_nav has_ false e = record { load = has_.load; at = others n e ∙ has_.at; req_is = has_.req_is }
              by_nav has_ true e =
                  let number : n.0 ≡ nav.0 = eqb-true n.0 nav.0 e in
                  let same : n ≡ nav = ap (λ (k : ℕ). let x : NavId = record { 0 = k } in x) number in
                  let both : Some has_.load ≡ Some load = sym has_.at ∙ ap (λ (x : NavId). ongoing_load x table) same ∙ at in
                  let one : has_.load ≡ load = cc in
                  let req_is : r ≡ req = sym has_.req_is ∙ ap (λ (l : Load). l.req) one ∙ its in
                  let no_ : true ≡ false = sym (nat_eq_refl req.0) ∙ ap (λ (x : ReqId). x.0 == req.0) (sym req_is) ∙ other_then r q at_t going in
                  absurd cc

-- as where no request was accepted yet
pub opened_asking : (checking : ReqId → Bool) (s : Seen) → s.requests ≡ [] → TiesAsking checking s []
opened_asking checking s none =
    record {
      there = λ nav load at. absurd cc;
      all = λ req q nav found on going of_nav. absurd (nobody req q (ap (λ (l : List Asked). request_in l req) (sym none) ∙ found));
    }
  where
    nobody : (req : ReqId) (q : Asked) → request_in [] req ≡ Some q → ⊥
    nobody req q at = by_zero (req.0 == 0) at
      where
        by_zero : (b : Bool) → (let o : Option Asked = cond b None None in o) ≡ Some q → ⊥
        by_zero true e = cc
        by_zero false e = cc
