-- The queue waits on as a load passes its check, and once its document is being made: it isn't ready yet.
use Rattle.load_passed.proofs.Begun as begun
use Rattle.load_passed.proofs.Kept as kept
use Rattle.load_passed.proofs.Makes as makes
use Rattle.load_passed.proofs.Sent.{order_of}
use Rattle.load_passed.specs.Passing.{InLoadPass, IsToMake, IsUnbegun}
use Rattle.log_model.specs.ActsAtOnce.{has_document}
use Rattle.log_model.specs.AfterDocuments.{new_document}
use Rattle.log_model.specs.Equal.{holds}
use Rattle.log_model.specs.Orders.{is_usable}
use Rattle.log_model.specs.Places.{is_ongoing_load}
use Rattle.log_model.specs.Seen.{Asked, Document, Seen, request_of}
use Rattle.log_model.specs.declared.job.Job.{Job}
use Rattle.log_model.specs.declared.job.Task.TheVariants as tasks
use Rattle.log_model.specs.declared.job.Why.TheVariants as whys
use Rattle.log_model.specs.declared.row_kind.RowKind.TheVariants as rows
use Rattle.log_model.specs.declared.row_kind.RowKind.{RowKind}
use Rattle.seen_facts.proofs.Coord.Unread.{next}
use Rattle.seen_facts.proofs.Load.Rows.{req_same}
use Rattle.seen_facts.proofs.Request.Readers.{on_read}
use Rattle.seen_facts.proofs.Rest.Still.{found_itself}
use Rattle.seen_facts.specs.Hang.Members.{Has}
use Rattle.seen_laws.specs.InEvent.{now_of}
use Rattle.std.proofs.Common.{Bool, List, None, Option, Some, [], ap, false, inl, inr, not, refl, sym, true, ◌&&◌, ◌++◌, ◌+◌, ◌==◌, ◌||◌, ◌∙◌, ◌∷◌, ◌≡◌}
use Rattle.std.proofs.lemmas.Bool.{and_parts}
use Rattle.std.specs.List.{list_any}
use Rattle.tab_doors.specs.Orders.{next_order}
use Rattle.tab_doors.specs.Working.{IsAtWork, KeepsStore}
use Rattle.tab_doors.specs.declared.tables.Tables.{Tables}
use Rattle.tab_ids.specs.declared.NavId.{NavId}
use Rattle.tab_ids.specs.declared.ProcId.{ProcId}
use Rattle.tab_ids.specs.declared.ReqId.{ReqId}
use Rattle.tab_ids.specs.declared.StateId.{StateId}
use Rattle.tab_moves.specs.Making.{home_in}
use Rattle.tab_stands.specs.PassedOn.{IsReadyLoadOf, LeavesQueue}
use Rattle.unasked.proofs.Passings.{begun_as}
use Rattle.unasked_tab.proofs.Begun.{with_begun}

-- one more that doesn't pass
any_more : (test : Document → Bool) (xs : List Document) (y : Document) → test y ≡ false → list_any test (xs ++ y ∷ []) ≡ list_any test xs
any_more test [] y not_ = rw not_ refl
any_more test (x ∷ xs) y not_ = ap (λ (b : Bool). test x || b) (any_more test xs y not_)

none_any : (test : Document → Bool) (xs : List Document) → ((x : Document) → Has xs x → test x ≡ false) → list_any test xs ≡ false
none_any test [] each = refl
none_any test (x ∷ xs) each = rw (each x (inl refl)) (none_any test xs (λ y there. each y (inr there)))

new_unusable : (b : Bool) → (b && false && not false && not false) ≡ false
new_unusable true = refl
new_unusable false = refl

-- a log in which the load has begun, of which no document was made that wasn't there or is usable
module _ (l : InLoadPass) (hand : List ReqId) (s : Seen) (t : Tables) (p : Asked) (un : IsUnbegun l hand s t p) (q : Asked) (starts : q.is_started ≡ true) (state_is : q.state ≡ Some l.state) (replaces : l.replace ≡ q.replaces) where
  -- no document of its own state is there
  none_usable : list_any (λ (d : Document). is_usable d l.state) s.documents ≡ false
  none_usable = none_any (λ (d : Document). is_usable d l.state) s.documents (λ d has. let no : (d.state.0 == l.state.0) ≡ false = begun.none_has l hand s t p un q starts state_is replaces d.nr d (found_itself s.documents d un.going.tab.whose.numbered has) in rw no refl)

  module _ (n : Seen) (own : request_of n l.req ≡ Some (begun_as q p)) (other : (r : ReqId) → (r.0 == l.req.0) ≡ false → request_of n r ≡ request_of s r) (same : (k : StateId) → list_any (λ (d : Document). is_usable d k) n.documents ≡ list_any (λ (d : Document). is_usable d k) s.documents) where
    document_same : (o : Option StateId) → holds (λ (k : StateId). list_any (λ (d : Document). is_usable d k) n.documents) o ≡ holds (λ (k : StateId). list_any (λ (d : Document). is_usable d k) s.documents) o
    document_same None = refl
    document_same (Some k) = same k

    pub ready_back : (r : ReqId) (nav : NavId) → IsReadyLoadOf n r nav → IsReadyLoadOf s r nav
    ready_back r nav its_ = by_own (r.0 == l.req.0) refl
      where
        parts : (is_ongoing_load its_.q ≡ true) × (has_document n its_.q ≡ true)
        parts = and_parts (is_ongoing_load its_.q) (has_document n its_.q) its_.ready

        by_own : (b : Bool) → (r.0 == l.req.0) ≡ b → IsReadyLoadOf s r nav
        by_own false apart_ =
            let document : has_document s its_.q ≡ true = sym (document_same its_.q.state) ∙ parts.1 in
            record { q = its_.q; at = sym (other r apart_) ∙ its_.at; ready = rw (parts.0, document) refl; its = its_.its }
        by_own true is =
            let two : Some (begun_as q p) ≡ Some its_.q = sym own ∙ ap (λ (k : ReqId). request_of n k) (sym (req_same r l.req is)) ∙ its_.at in
            let one : begun_as q p ≡ its_.q = cc in
            let its_own : Some l.state ≡ its_.q.state = sym state_is ∙ ap (λ (x : Asked). x.state) one in
            let never : false ≡ true = sym none_usable ∙ sym (same l.state) ∙ ap (λ (o : Option StateId). holds (λ (k : StateId). list_any (λ (d : Document). is_usable d k) n.documents) o) its_own ∙ parts.1 in
            absurd cc

  -- as it begins
  pub left_then : LeavesQueue s (with_begun s l.req q)
  left_then =
      record {
        joined = refl;
        whats = on_read (λ (x : Asked). x.what) s.requests l.req (begun_as q) (λ x. refl);
        ready = ready_back (with_begun s l.req q) (begun.there l hand s t p un q starts state_is replaces) (begun.other l hand s t p un q starts state_is replaces) (λ k. refl);
      }

-- once its document is being made
module _ (l : InLoadPass) (u : Tables) (it : IsToMake l u) (proc : ProcId) (home : home_in l.event.header u l.nav l.address ≡ Some proc) (y : Tables) (last : List RowKind) (work_y : IsAtWork l.event last y) (last_is : last ≡ rows.Sent (order_of l u proc) ∷ []) (keeps_y : KeepsStore u y) where
  abbrev m : Seen
  m = now_of l.event []

  abbrev order : Job
  order =
      next_order (now_of l.event []).jobs proc (record { 0 = u.documents + 1 }) (whys.Req l.req) (tasks.Populate l.nav l.state l.address false)

  abbrev fin : Seen
  fin = next (now_of l.event []) l.event.event l.event.actor (rows.Sent order)

  abbrev new : Document
  new = new_document (now_of l.event []) order l.nav l.state

  unready : (k : StateId) → list_any (λ (d : Document). is_usable d k) fin.documents ≡ list_any (λ (d : Document). is_usable d k) l.before.documents
  unready k =
      any_more (λ (d : Document). is_usable d k) m.documents new (new_unusable (l.state.0 == k.0)) ∙ ap (λ (x : List Document). list_any (λ (d : Document). is_usable d k) x) (makes.documents_same l u it)

  pub left_fin : LeavesQueue l.before (next (now_of l.event []) l.event.event l.event.actor (rows.Sent (order_of l u proc)))
  left_fin =
      record {
        joined = ap (λ (x : Seen). x.joined) it.now;
        whats = kept.reads_on l u it proc home y last work_y last_is keeps_y (λ (x : Asked). x.what) (λ x. refl);
        ready = ready_back l it.loads l.before it.t it.p it.unbegun it.q it.starts it.state_is it.replaces fin (kept.found_fin l u it proc home y last work_y last_is keeps_y) (kept.other_same l u it proc home y last work_y last_is keeps_y) unready;
      }
