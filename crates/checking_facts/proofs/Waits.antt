-- A traversal that is in its check hasn't passed, from row to row.
use Rattle.std.proofs.Common.{◌≡◌, ℕ, Bool, true, false, not, ◌&&◌, ◌==◌, List, Option, Some, None, refl, sym, ap, ◌∙◌, subst, arith}
use Rattle.std.specs.Prelude.{is_none, slice_get, option_map}
use Rattle.std.specs.List.{list_all}
use Rattle.std.proofs.lemmas.Bool.Decides.{nat_tests}
use Rattle.tab_ids.specs.declared.DocId.{DocId}
use Rattle.tab_ids.specs.declared.ReqId.{ReqId}
use Rattle.tab_ids.specs.declared.Step.{Step}
use Rattle.log_model.specs.declared.outcome.Ending.{Ending}
use Rattle.log_model.specs.declared.outcome.Ending.TheVariants as endings
use Rattle.log_model.specs.declared.request.Request.{Request}
use Rattle.log_model.specs.declared.row_kind.Actor.{Actor}
use Rattle.log_model.specs.declared.row_kind.LogRow.{LogRow}
use Rattle.log_model.specs.declared.row_kind.RowKind.{RowKind}
use Rattle.log_model.specs.declared.row_kind.RowKind.TheVariants as rows
use Rattle.log_model.specs.Equal.{holds}
use Rattle.log_model.specs.After.{after, ended, new_request}
use Rattle.log_model.specs.AfterRequests.{entries_taken, on_request, request_begun}
use Rattle.log_model.specs.Places.{all_asked, has_passed, is_gone, is_settled_asking, is_traversal, is_under_way, may_leave}
use Rattle.log_model.specs.Seen.{Asked, Seen, desk_of, request_in, request_of}
use Rattle.seen_facts.proofs.Coord.Held.{on_else}
use Rattle.seen_facts.proofs.Each.Courses.{was_asked}
use Rattle.seen_facts.proofs.Each.Runs.{each_asked_more, each_asked_on}
use Rattle.seen_facts.proofs.Request.LookUps.{on_itself}
use Rattle.seen_facts.proofs.Request.Readers.{IsBlind, SameReads, delivered_reads, finished_reads, on_read, reads_then, sent_reads}
use Rattle.seen_facts.specs.Each.Runs.{EachAsked}
use Rattle.unasked_dues.specs.Checking.{NonePasses}
use Rattle.checking_facts.specs.Checks.{IsCalm, NonePassesBut, NumbersNext, SameBut, SettlesNoneBut, just}

-- ---- what is read of a traversal

record Stand : Type 0 where
  what : Request
  is_under_way : Bool
  may_leave : Bool

-- of a request
abbrev stand_of : Asked → Stand
stand_of q = record { what = q.what; is_under_way = is_under_way q; may_leave = may_leave q }

-- orders and answers change none of it
blind : IsBlind stand_of
blind =
    record {
      moves = λ q activated moved. refl;
      asks = λ q asks. refl;
      fragments = λ q doc. refl;
      misses = λ q is. refl;
    }

-- one that is under way was one of these, and stood so
abbrev Was : List Asked → ReqId → Asked → Type 0
Was old r q = is_under_way q ≡ true → (p : Asked) × (request_in old r ≡ Some p) × (stand_of p ≡ stand_of q)

-- where each stands as before
were_read : (old new : List Asked) → SameReads stand_of old new → EachAsked (Was old) new
were_read old new same r q at runs = was_asked stand_of old new same r q at

-- and after a change of which nothing is read
were_then : (old mid new : List Asked) → EachAsked (Was old) mid → SameReads stand_of mid new → EachAsked (Was old) new
were_then old mid new each same r q at runs =
    let m = was_asked stand_of mid new same r q at in
    let p = each r m.0 m.1 (ap (λ (x : Stand). x.is_under_way) m.2 ∙ runs) in
    (p.0, p.1, p.2 ∙ m.2)

-- one that ends isn't under way
were_ended : (old : List Asked) (req : ReqId) (ending : Ending) → EachAsked (Was old) (ended old req ending)
were_ended old req ending =
    each_asked_on (Was old) (Was old) old req (λ q. record q { ending = Some ending }) (λ r q apart was. was) (λ q at was runs. absurd (never q.is_started runs)) (were_read old old (λ r. refl))
  where
    never : (b : Bool) → (b && false) ≡ true → ⊥
    never true is = cc
    never false is = cc

-- over a calm row
calm_were : (s : Seen) (row : LogRow) → IsCalm row.row → NumbersNext s row.row → EachAsked (Was s.requests) (after s row).requests
calm_were s row calm next = by_kind row.row refl calm next
  where
    same : EachAsked (Was s.requests) s.requests
    same = were_read s.requests s.requests (λ r. refl)

    by_kind : (kind : RowKind) → row.row ≡ kind → IsCalm kind → NumbersNext s kind → EachAsked (Was s.requests) (after s row).requests
    by_kind (rows.Opened entry state doc proc slot address) e is n = rw e same
    by_kind (rows.Accepted req doc what) e is n =
        rw e (each_asked_more (Was s.requests) s.requests (new_request req doc what) req n (λ runs. absurd (let never : false ≡ true = runs in let no : ⊥ = cc in no)) same)
    by_kind (rows.Started req goal) e never n = absurd never
    by_kind (rows.Applied req change) e is n =
        rw e (were_then s.requests (ended s.requests req endings.Applied) _ (were_ended s.requests req endings.Applied)
        (reads_then stand_of (ended s.requests req endings.Applied) (on_request req (λ q. record q { change = Some change }) (ended s.requests req endings.Applied)) _ (on_read stand_of (ended s.requests req endings.Applied) req (λ q. record q { change = Some change }) (λ q. refl))
        (on_read stand_of (on_request req (λ q. record q { change = Some change }) (ended s.requests req endings.Applied)) req (λ q. record q { took = entries_taken s.history change }) (λ q. refl))))
    by_kind (rows.Refused req reason) e is n = rw e (were_ended s.requests req (endings.Refused reason))
    by_kind (rows.Dropped req cause) e is n = rw e (were_ended s.requests req (endings.Dropped cause))
    by_kind (rows.Prompted req doc) e never n = absurd never
    by_kind (rows.Answered req stay) e never n = absurd never
    by_kind (rows.Sent job) e is n =
        rw e (were_read s.requests _ (sent_reads stand_of blind s job job.task s.requests))
    by_kind (rows.Taken proc job live dirty) e is n = rw e same
    by_kind (rows.Finished proc job outcome) e is n =
        rw e (were_read s.requests _ (finished_reads stand_of blind s (desk_of s proc).in_hand outcome s.requests))
    by_kind (rows.Made proc made) e is n =
        rw e (were_read s.requests _ (on_read stand_of s.requests made.req (λ q. record q { made = Some made }) (λ q. refl)))
    by_kind (rows.Delivered proc) e is n =
        rw e (were_read s.requests _ (delivered_reads stand_of blind (slice_get (desk_of s proc).reports 0) s.requests))
    by_kind (rows.Killed proc death) e is n = rw e same
    by_kind (rows.Evicted state) e is n = rw e same

-- ---- what goes on to hold

-- a test that fails at its end
and_false : (b : Bool) → (b && false) ≡ false
and_false true = refl
and_false false = refl

-- one that fails in a part still does
by_parts : (a b c d : Bool) → (a && b) ≡ false → (a ≡ false → c ≡ false) → b ≡ d → (c && d) ≡ false
by_parts false b c d is settles same = rw (settles refl) refl
by_parts true b c d is settles same = rw (sym same, is) (and_false c)

module _ (checking but : ReqId → Bool) (s t : Seen) where
  -- where those that are under way stood so before, and none is settled
  waits : ((r : ReqId) (q : Asked) → request_of t r ≡ Some q → but r ≡ false → Was s.requests r q) → SettlesNoneBut checking but s t → NonePassesBut checking but s → NonePassesBut checking but t
  waits were settles none req q at runs goes on off =
      let p = were req q at off runs in
      let runs_ : is_under_way p.0 ≡ true = ap (λ (x : Stand). x.is_under_way) p.2 ∙ runs in
      let goes_ : is_traversal p.0.what ≡ true = ap (λ (x : Stand). is_traversal x.what) p.2 ∙ goes in
      by_parts (all_asked s p.0) (may_leave p.0) (all_asked t q) (may_leave q) (none req p.0 p.1 runs_ goes_ on off) (settles req p.0 q p.1 at runs_ goes_ on off) (ap (λ (x : Stand). x.may_leave) p.2)

-- over a calm row that settles the last question of none
pub calm_waits : (checking but : ReqId → Bool) (s : Seen) (row : LogRow) → IsCalm row.row → NumbersNext s row.row → SettlesNoneBut checking but s (after s row) → NonePassesBut checking but s → NonePassesBut checking but (after s row)
calm_waits checking but s row calm next settles none =
    waits checking but s (after s row) (λ r q at off. calm_were s row calm next r q at) settles none

-- ---- with one more left out, and with one fewer

-- with more left out
pub more_waits : (checking but more : ReqId → Bool) (s : Seen) → ((r : ReqId) → more r ≡ false → but r ≡ false) → NonePassesBut checking but s → NonePassesBut checking more s
more_waits checking but more s fewer none req q at runs goes on off = none req q at runs goes on (fewer req off)

-- with none left out
pub none_waits : (checking : ReqId → Bool) (s : Seen) → NonePasses checking s → (but : ReqId → Bool) → NonePassesBut checking but s
none_waits checking s none but req q at runs goes on off = none req q at runs goes on

-- where the one that was left out hasn't passed, or isn't in its check
pub just_waits : (checking : ReqId → Bool) (s : Seen) (req : ReqId) → ((q : Asked) → request_of s req ≡ Some q → checking req ≡ true → has_passed s q ≡ false) → NonePassesBut checking (just req) s → NonePasses checking s
just_waits checking s req own none r q at runs goes on = by_number (r.0 == req.0) refl
  where
    by_number : (b : Bool) → (r.0 == req.0) ≡ b → has_passed s q ≡ false
    by_number true e =
        let n : r.0 ≡ req.0 = grind (arith, nat_tests, e) in
        let it : r ≡ req = ap (λ (i : ℕ). let x : ReqId = record { 0 = i } in x) n in
        own q (ap (λ (x : ReqId). request_of s x) (sym it) ∙ at) (ap checking (sym it) ∙ on)
    by_number false e = none r q at runs goes on e

-- as it passes
pub passed_waits : (checking passed : ReqId → Bool) (s : Seen) (req : ReqId) → SameBut req checking passed → passed req ≡ false → NonePassesBut checking (just req) s → NonePasses passed s
passed_waits checking passed s req same out none =
    just_waits passed s req (λ q at on. let never : true ≡ false = sym on ∙ out in absurd cc) (λ r q at runs goes on off. none r q at runs goes (sym (same r off) ∙ on) off)

-- as one enters its check that isn't under way
pub entered_waits : (checking entered : ReqId → Bool) (s : Seen) (req : ReqId) → SameBut req checking entered → ((q : Asked) → request_of s req ≡ Some q → is_under_way q ≡ false) → NonePasses checking s → NonePasses entered s
entered_waits checking entered s req same idle none r q at runs goes on = by_number (r.0 == req.0) refl
  where
    by_number : (b : Bool) → (r.0 == req.0) ≡ b → has_passed s q ≡ false
    by_number true e =
        let n : r.0 ≡ req.0 = grind (arith, nat_tests, e) in
        let it : r ≡ req = ap (λ (i : ℕ). let x : ReqId = record { 0 = i } in x) n in
        let never : true ≡ false = sym runs ∙ idle q (ap (λ (x : ReqId). request_of s x) (sym it) ∙ at) in
        absurd cc
    by_number false e = none r q at runs goes (sym (same r e) ∙ on)

-- ---- a request begins, the user is asked, and answers

-- one request is changed, and no document
module _ (checking : ReqId → Bool) (s t : Seen) (req : ReqId) (others : (r : ReqId) → (r.0 == req.0) ≡ false → request_of t r ≡ request_of s r) (gone : (doc : DocId) → is_gone t doc ≡ is_gone s doc) where
  -- what is found is one
  some_same : {A : Type 0} {a b : A} → (let o : Option A = Some a in o) ≡ Some b → a ≡ b
  some_same e = cc

  -- of all at once
  all_gone : is_gone t ≡ is_gone s
  all_gone = λ i doc. gone doc i

  -- no other is settled
  changed_settles : SettlesNoneBut checking (just req) s t
  changed_settles r p q at there runs goes on off open_ =
      let it : p ≡ q = some_same (sym at ∙ sym (others r off) ∙ there) in
      ap (λ (g : DocId → Bool). list_all (is_settled_asking g) q.asks) all_gone ∙ ap (λ (x : Asked). all_asked s x) (sym it) ∙ open_

  pub changed_waits : NonePassesBut checking (just req) s → NonePassesBut checking (just req) t
  changed_waits none =
      waits checking (just req) s t (λ r q at off runs. (q, sym (others r off) ∙ at, refl)) changed_settles none

module _ (checking : ReqId → Bool) (s : Seen) (event : ℕ) (actor : Actor) (req : ReqId) where
  -- what the log has come to after a row of the kind
  abbrev pub next : RowKind → Seen
  next kind = after s (record { event = event; actor = actor; row = kind })

  -- one begins: it is left out
  pub begun_waits : (goal : Option Step) → NonePassesBut checking (just req) s → NonePassesBut checking (just req) (next (rows.Started req goal))
  begun_waits goal none =
      changed_waits checking s (next (rows.Started req goal)) req (λ r off. on_else (on_request req (λ q. record q { is_started = true; goal = goal }) s.requests) req (request_begun s) r off ∙ on_else s.requests req (λ q. record q { is_started = true; goal = goal }) r off) (λ doc. refl) none

  -- the user is asked for it, who hasn't answered: it is left out no more
  pub prompted_waits : (doc : DocId) → ((q : Asked) → request_of s req ≡ Some q → holds not q.answered ≡ false) → NonePassesBut checking (just req) s → NonePasses checking (next (rows.Prompted req doc))
  prompted_waits doc unanswered none =
      just_waits checking (next (rows.Prompted req doc)) req own (changed_waits checking s (next (rows.Prompted req doc)) req (λ r off. on_else s.requests req (λ q. record q { prompted = Some doc }) r off) (λ d. refl) none)
    where
      by_found : (o : Option Asked) → request_of s req ≡ o → (q : Asked) → option_map (λ (x : Asked). record x { prompted = Some doc }) o ≡ Some q → may_leave q ≡ false
      by_found None e q at = cc
      by_found (Some p) e q at =
          let it : record p { prompted = Some doc } ≡ q = cc in
          subst (λ (x : Asked). may_leave x ≡ false) it (unanswered p e)

      own : (q : Asked) → request_of (next (rows.Prompted req doc)) req ≡ Some q → checking req ≡ true → has_passed (next (rows.Prompted req doc)) q ≡ false
      own q at on =
          let stays : may_leave q ≡ false = by_found (request_of s req) refl q (sym (on_itself s.requests req (λ x. record x { prompted = Some doc })) ∙ at) in
          rw stays (and_false (all_asked (next (rows.Prompted req doc)) q))

  -- the user answers to stay, being asked
  pub stayed_waits : ((q : Asked) → request_of s req ≡ Some q → is_none q.prompted ≡ false) → NonePassesBut checking (just req) s → NonePasses checking (next (rows.Answered req true))
  stayed_waits asked none =
      just_waits checking (next (rows.Answered req true)) req own (changed_waits checking s (next (rows.Answered req true)) req (λ r off. on_else s.requests req (λ q. record q { answered = Some true }) r off) (λ d. refl) none)
    where
      by_found : (o : Option Asked) → request_of s req ≡ o → (q : Asked) → option_map (λ (x : Asked). record x { answered = Some true }) o ≡ Some q → may_leave q ≡ false
      by_found None e q at = cc
      by_found (Some p) e q at =
          let it : record p { answered = Some true } ≡ q = cc in
          subst (λ (x : Asked). may_leave x ≡ false) it (rw (asked p e) refl)

      own : (q : Asked) → request_of (next (rows.Answered req true)) req ≡ Some q → checking req ≡ true → has_passed (next (rows.Answered req true)) q ≡ false
      own q at on =
          let stays : may_leave q ≡ false = by_found (request_of s req) refl q (sym (on_itself s.requests req (λ x. record x { answered = Some true })) ∙ at) in
          rw stays (and_false (all_asked (next (rows.Answered req true)) q))

  -- the user lets the page go: it is left out
  pub left_waits : NonePassesBut checking (just req) s → NonePassesBut checking (just req) (next (rows.Answered req false))
  left_waits none =
      changed_waits checking s (next (rows.Answered req false)) req (λ r off. on_else s.requests req (λ q. record q { answered = Some false }) r off) (λ d. refl) none
