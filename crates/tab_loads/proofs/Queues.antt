-- The queue waits on once the document of a load that has begun is being made.
use Rattle.seen_facts.proofs.Coord.Unread.{next}
use Rattle.seen_facts.specs.Hang.Members.{Has}
use Rattle.log_model.specs.ActsAtOnce.{has_document}
use Rattle.log_model.specs.AfterDocuments.{new_document}
use Rattle.log_model.specs.AfterRequests.{request_begun}
use Rattle.log_model.specs.Equal.{holds}
use Rattle.log_model.specs.Orders.{is_usable}
use Rattle.log_model.specs.Places.{is_ongoing_load}
use Rattle.log_model.specs.Seen.{Asked, Document, Seen, document_of, request_of}
use Rattle.log_model.specs.declared.job.Job.{Job}
use Rattle.log_model.specs.declared.row_kind.RowKind.{RowKind}
use Rattle.seen_facts.proofs.Request.Readers.{SameReads}
use Rattle.seen_laws.specs.InEvent.{now_of}
use Rattle.std.proofs.Common.{Bool, List, None, Option, Some, [], ap, arith, false, inl, inr, not, refl, sym, true, ℕ, ◌&&◌, ◌++◌, ◌+◌, ◌==◌, ◌||◌, ◌∙◌, ◌∷◌, ◌≡◌}
use Rattle.std.proofs.lemmas.Bool.Decides.{nat_tests}
use Rattle.std.proofs.lemmas.Bool.{and_parts}
use Rattle.std.specs.List.{list_any}
use Rattle.tab_doors.specs.Orders.{next_order}
use Rattle.tab_doors.specs.Working.{IsAtWork, KeepsStore}
use Rattle.tab_doors.specs.declared.tables.Tables.{Tables}
use Rattle.tab_ids.specs.declared.DocId.{DocId}
use Rattle.tab_ids.specs.declared.NavId.{NavId}
use Rattle.tab_ids.specs.declared.ProcId.{ProcId}
use Rattle.tab_ids.specs.declared.ReqId.{ReqId}
use Rattle.tab_ids.specs.declared.StateId.{StateId}
use Rattle.tab_loads.proofs.Firsts.{q}
use Rattle.tab_loads.proofs.Orders.{order_of}
use Rattle.tab_loads.specs.Asking.{BeginsAnew, InLoad, IsAsked}
use Rattle.tab_loads.specs.Giving.{HasMadeWay}
use Rattle.tab_loads.specs.Telling.{away_in}
use Rattle.tab_moves.specs.Making.{home_in}
use Rattle.log_model.specs.declared.job.Task.TheVariants as tasks
use Rattle.log_model.specs.declared.job.Why.TheVariants as whys
use Rattle.log_model.specs.declared.row_kind.RowKind.TheVariants as rows
use Rattle.tab_loads.proofs.Begun as begun
use Rattle.tab_loads.proofs.Kept as kept
use Rattle.tab_loads.proofs.Makes as makes
use Rattle.tab_stands.proofs.PassedOn.{IsReachedAt}
use Rattle.tab_stands.specs.PassedOn.{IsReadyLoadOf, LeavesQueue}

-- one more that doesn't pass
any_more : (test : Document → Bool) (xs : List Document) (y : Document) → test y ≡ false → list_any test (xs ++ y ∷ []) ≡ list_any test xs
any_more test [] y not_ = rw not_ refl
any_more test (x ∷ xs) y not_ = ap (λ (b : Bool). test x || b) (any_more test xs y not_)

none_any : (test : Document → Bool) (xs : List Document) → ((x : Document) → Has xs x → test x ≡ false) → list_any test xs ≡ false
none_any test [] each = refl
none_any test (x ∷ xs) each = rw (each x (inl refl)) (none_any test xs (λ y there. each y (inr there)))

new_unusable : (b : Bool) → (b && false && not false && not false) ≡ false
new_unusable true = refl
new_unusable false = refl

-- requests of one number are one
req_same : (a b : ReqId) → (a.0 == b.0) ≡ true → a ≡ b
req_same a b is =
    let number : a.0 ≡ b.0 = grind (arith, nat_tests, is) in
    ap (λ (k : ℕ). let r : ReqId = record { 0 = k } in r) number

module _ (l : InLoad) (t : Tables) (asked : IsAsked l t) (placed_ : away_in t l.nav ≡ None) (anew_ : BeginsAnew l t) (noted : List (StateId × ReqId)) (v : Tables) (out : List RowKind) (way : HasMadeWay l.event l.req l.nav t v out l.noted noted) (w : Tables) (now : List RowKind) (work : IsAtWork l.event now w) (now_is : now ≡ out ++ rows.Started l.req None ∷ []) (keeps : KeepsStore v w) (proc : ProcId) (home : home_in l.event.header w l.nav l.address ≡ Some proc) (y : Tables) (last : List RowKind) (work_y : IsAtWork l.event last y) (last_is : last ≡ now ++ rows.Sent (order_of l w now proc) ∷ []) (keeps_y : KeepsStore w y) where
  abbrev n : Seen
  n = now_of l.event out

  abbrev own : Asked
  own = q l.event l.req l.nav l.mode l.address asked.asks

  abbrev state : StateId
  state = record { 0 = n.states + 1 }

  abbrev then_ : Seen
  then_ = next n l.event.event l.event.actor (rows.Started l.req None)

  abbrev is_then : now_of l.event now ≡ then_
  is_then = begun.is_then l t asked placed_ anew_ noted v out way w now work now_is keeps

  abbrev m : Seen
  m = now_of l.event now

  abbrev its : IsReachedAt m l.nav
  its = begun.its l t asked placed_ anew_ noted v out way w now work now_is keeps

  abbrev own_then : Asked
  own_then = request_begun n (record own { is_started = true; goal = None })

  abbrev found_then : request_of m l.req ≡ Some own_then
  found_then = makes.found_then l t asked placed_ anew_ noted v out way w now work now_is keeps

  abbrev its_state : StateId
  its_state = record { 0 = w.states }

  abbrev state_is : own_then.state ≡ Some its_state
  state_is = makes.state_is l t asked placed_ anew_ noted v out way w now work now_is keeps

  abbrev documents_same : m.documents ≡ n.documents
  documents_same = makes.documents_same l t asked placed_ anew_ noted v out way w now work now_is keeps

  abbrev none_has : (doc : DocId) (d : Document) → document_of m doc ≡ Some d → (d.state.0 == w.states) ≡ false
  none_has = makes.none_has l t asked placed_ anew_ noted v out way w now work now_is keeps

  abbrev by_number : (d : Document) → Has m.documents d → document_of m d.nr ≡ Some d
  by_number = makes.by_number l t asked placed_ anew_ noted v out way w now work now_is keeps

  abbrev order : Job
  order = next_order m.jobs proc (record { 0 = w.documents + 1 }) (whys.Req l.req) (tasks.Populate l.nav (record { 0 = w.states }) l.address false)

  abbrev fin : Seen
  fin = next m l.event.event l.event.actor (rows.Sent order)

  abbrev reads_on : {B : Type 0} (read : Asked → B) → ((x : Asked) → read (record x { is_started = true; goal = None }) ≡ read x) → ((x : Asked) → read (request_begun n x) ≡ read x) → SameReads read n.requests fin.requests
  reads_on = kept.reads_on l t asked placed_ anew_ noted v out way w now work now_is keeps proc home y last work_y last_is keeps_y

  abbrev other_same : (r : ReqId) → (r.0 == l.req.0) ≡ false → request_of fin r ≡ request_of n r
  other_same = kept.other_same l t asked placed_ anew_ noted v out way w now work now_is keeps proc home y last work_y last_is keeps_y

  abbrev new : Document
  new = new_document m order l.nav its_state

  -- ---- the queue

  pub ready_back : (r : ReqId) (nav : NavId) → IsReadyLoadOf fin r nav → IsReadyLoadOf n r nav
  ready_back r nav its_ = by_own (r.0 == l.req.0) refl
    where
      parts : (is_ongoing_load its_.q ≡ true) × (has_document fin its_.q ≡ true)
      parts = and_parts (is_ongoing_load its_.q) (has_document fin its_.q) its_.ready

      unready : (k : StateId) → list_any (λ (d : Document). is_usable d k) fin.documents ≡ list_any (λ (d : Document). is_usable d k) n.documents
      unready k =
          any_more (λ (d : Document). is_usable d k) m.documents new (new_unusable (its_state.0 == k.0)) ∙ ap (λ (x : List Document). list_any (λ (d : Document). is_usable d k) x) documents_same

      document_same : (o : Option StateId) → holds (λ (k : StateId). list_any (λ (d : Document). is_usable d k) fin.documents) o ≡ holds (λ (k : StateId). list_any (λ (d : Document). is_usable d k) n.documents) o
      document_same None = refl
      document_same (Some k) = unready k

      -- no document of its own state is there
      none_usable : list_any (λ (d : Document). is_usable d its_state) n.documents ≡ false
      none_usable =
          ap (λ (x : List Document). list_any (λ (d : Document). is_usable d its_state) x) (sym documents_same) ∙ none_any (λ (d : Document). is_usable d its_state) m.documents (λ d there_. let no : (d.state.0 == w.states) ≡ false = none_has d.nr d (by_number d there_) in rw no refl)

      by_own : (b : Bool) → (r.0 == l.req.0) ≡ b → IsReadyLoadOf n r nav
      by_own false apart_ =
          let document : has_document n its_.q ≡ true = sym (document_same its_.q.state) ∙ parts.1 in
          record { q = its_.q; at = sym (other_same r apart_) ∙ its_.at; ready = rw (parts.0, document) refl; its = its_.its }
      by_own true is =
          let two : Some own_then ≡ Some its_.q = sym found_then ∙ ap (λ (k : ReqId). request_of fin k) (sym (req_same r l.req is)) ∙ its_.at in
          let one : own_then ≡ its_.q = cc in
          let its_own : Some its_state ≡ its_.q.state = sym state_is ∙ ap (λ (x : Asked). x.state) one in
          let never : false ≡ true = sym none_usable ∙ sym (unready its_state) ∙ ap (λ (o : Option StateId). holds (λ (k : StateId). list_any (λ (d : Document). is_usable d k) fin.documents) o) its_own ∙ parts.1 in
          absurd cc

  pub left_fin : LeavesQueue n fin
  left_fin =
      record {
        joined = ap (λ (x : Seen). x.joined) is_then;
        whats = reads_on (λ (x : Asked). x.what) (λ x. refl) (λ x. refl);
        ready = ready_back;
      }
