-- What orders leave that discard documents for an eviction, one after the other.
use Rattle.std.specs.List.{list_any}
use Rattle.unasked.proofs.Nows.{sent_goes}
use Rattle.seen_laws.specs.Unasked.{is_question}
use Rattle.tab_facts.proofs.Calm.Sents.{found_on, usable_was}
use Rattle.tab_facts.specs.Calm.Calm.{HasUsable}
use Rattle.seen_facts.specs.Hang.Members.{Has}
use Rattle.row_facts.proofs.LeaveRows.Keeps.{without_short}
use Rattle.log_model.specs.After.{after}
use Rattle.log_model.specs.AfterDocuments.{documents_sent}
use Rattle.log_model.specs.AfterPlaces.{kept_sent, without_doc}
use Rattle.log_model.specs.AfterRequests.{on_served, request_served, requests_sent}
use Rattle.log_model.specs.Equal.{has_doc}
use Rattle.log_model.specs.Queue.{is_traverse}
use Rattle.log_model.specs.Seen.{Document, Seen, document_of}
use Rattle.log_model.specs.declared.job.Job.{Job}
use Rattle.log_model.specs.declared.job.Task.{Task}
use Rattle.log_model.specs.declared.job.Why.{Why}
use Rattle.log_model.specs.declared.row_kind.RowKind.{RowKind}
use Rattle.row_facts.specs.FrameRows.Lawful.{has_traversed}
use Rattle.seen_facts.specs.Mover.Movers.{IsMovedBy}
use Rattle.row_facts.proofs.Owed.Ends.{loose_more}
use Rattle.row_facts.proofs.Owed.Requests.{AsksNone}
use Rattle.row_facts.proofs.Owed.Rows.{sent_lasts}
use Rattle.row_facts.specs.Owed.Owed.{IsLoose}
use Rattle.row_facts.proofs.RestRows.Again.{part_without}
use Rattle.seen_laws.specs.InEvent.{InEvent, now_of, row_of, GoesThere}
use Rattle.std.proofs.Common.{Bool, List, None, Option, Some, [], ap, append-nil, append_assoc, arith, cond, false, inl, inr, length, refl, subst, sym, true, ◌++◌, ◌==◌, ◌||◌, ◌∙◌, ◌∷◌, ◌≡◌, ◌≤◌, map}
use Rattle.std.specs.Prelude.{option_map}
use Rattle.tab_evicts.specs.Evicting.{HasOnlyDiscarded, IsDiscardFor}
use Rattle.tab_ids.specs.declared.DocId.{DocId}
use Rattle.tab_ids.specs.declared.NavId.{NavId}
use Rattle.tab_ids.specs.declared.StateId.{StateId}
use Rattle.tab_stands.proofs.PassedOn.{over_each}
use Rattle.row_facts.proofs.WalkRows.Moved.{sent_moved}
use Rattle.log_model.specs.declared.job.Task.TheVariants as tasks
use Rattle.log_model.specs.declared.job.Why.TheVariants as whys
use Rattle.log_model.specs.declared.row_kind.RowKind.TheVariants as rows

-- a document but for whether it is discarded
abbrev pub but_discarded : Document → Document
but_discarded d = record d { is_discarded = true }

-- the requests, who joined and what is held back are as they were; so is each document but for whether it is discarded, and each that isn't discarded; none was made usable, and none is kept that wasn't; and requests have moved whom they had
pub record LeavesGone (s n : Seen) : Type 0 where
  pub requests : n.requests ≡ s.requests
  pub joined : n.joined ≡ s.joined
  pub parked : n.parked ≡ s.parked
  pub documents : (doc : DocId) → option_map but_discarded (document_of n doc) ≡ option_map but_discarded (document_of s doc)
  pub there : (doc : DocId) (d : Document) → document_of n doc ≡ Some d → d.is_discarded ≡ false → document_of s doc ≡ Some d
  pub usable : (state : StateId) → HasUsable n state → HasUsable s state
  pub few : length n.kept ≤ length s.kept
  pub kept : (doc : DocId) → has_doc n.kept doc ≡ true → has_doc s.kept doc ≡ true
  pub moved : (why : Why) (nav : NavId) → IsMovedBy s why nav → IsMovedBy n why nav

pub leaves_gone_none : (s : Seen) → LeavesGone s s
leaves_gone_none s =
    record { requests = refl; joined = refl; parked = refl; documents = λ doc. refl; there = λ doc d at is. at; usable = λ state is. is; few = omega arith; kept = λ doc is. is; moved = λ why nav by. by }

-- what is read of a document but for that is as it was
pub read_gone : {B : Type 0} (read : Document → B) → ((d : Document) → read (but_discarded d) ≡ read d) → (s n : Seen) → LeavesGone s n → (doc : DocId) → option_map read (document_of n doc) ≡ option_map read (document_of s doc)
read_gone {B} read blind s n left doc =
    sym (past (document_of n doc)) ∙ ap (λ (o : Option Document). option_map read o) (left.documents doc) ∙ past (document_of s doc)
  where
    past : (o : Option Document) → option_map read (option_map but_discarded o) ≡ option_map read o
    past None = refl
    past (Some d) = ap (λ (x : B). Some x) (blind d)

-- ---- one order more

module _ (s x : Seen) (e : InEvent) (job : Job) (task : job.task ≡ tasks.Discard) (why : job.why ≡ whys.Evict) (left : LeavesGone s x) where
  abbrev y : Seen
  y = after x (row_of e (rows.Sent job))

  requests_are : y.requests ≡ x.requests
  requests_are =
      ap (λ (k : Task). requests_sent x job k x.requests) task
      ∙ ap (λ (w : Why). on_served w (request_served x job tasks.Discard) x.requests) why

  kept_are : y.kept ≡ without_doc job.doc x.kept
  kept_are = ap (λ (k : Task). kept_sent x job.doc k) task

  found_are : (doc : DocId) → document_of y doc ≡ option_map (λ (d : Document). cond (d.nr.0 == job.doc.0) (but_discarded d) d) (document_of x doc)
  found_are doc =
      found_on x e.event e.actor job but_discarded (λ d. refl) (ap (λ (k : Task). documents_sent x job k) task) doc

  documents_then : (doc : DocId) → option_map but_discarded (document_of y doc) ≡ option_map but_discarded (document_of x doc)
  documents_then doc = ap (λ (o : Option Document). option_map but_discarded o) (found_are doc) ∙ by_found (document_of x doc)
    where
      by_test : (d : Document) (b : Bool) → but_discarded (cond b (but_discarded d) d) ≡ but_discarded d
      by_test d true = refl
      by_test d false = refl

      by_found : (o : Option Document) → option_map but_discarded (option_map (λ (d : Document). cond (d.nr.0 == job.doc.0) (but_discarded d) d) o) ≡ option_map but_discarded o
      by_found None = refl
      by_found (Some d) = ap (λ (z : Document). Some z) (by_test d (d.nr.0 == job.doc.0))

  there_then : (doc : DocId) (d : Document) → document_of y doc ≡ Some d → d.is_discarded ≡ false → document_of x doc ≡ Some d
  there_then doc d at is = by_found (document_of x doc) refl (sym (found_are doc) ∙ at)
    where
      by_test : (old : Document) → document_of x doc ≡ Some old → (b : Bool) → (let z : Document = cond b (but_discarded old) old in z) ≡ d → document_of x doc ≡ Some d
      by_test old found true same =
          let never : true ≡ false = ap (λ (z : Document). z.is_discarded) same ∙ is in absurd cc
      by_test old found false same = found ∙ ap (λ (z : Document). let o : Option Document = Some z in o) same

      by_found : (o : Option Document) → document_of x doc ≡ o → option_map (λ (z : Document). cond (z.nr.0 == job.doc.0) (but_discarded z) z) o ≡ Some d → document_of x doc ≡ Some d
      by_found None none same = absurd cc
      by_found (Some old) found same =
          let one : (let z : Document = cond (old.nr.0 == job.doc.0) (but_discarded old) old in z) ≡ d = cc in
          by_test old found (old.nr.0 == job.doc.0) one

  gone_more : LeavesGone s y
  gone_more =
      record {
        requests = requests_are ∙ left.requests;
        joined = left.joined;
        parked = left.parked;
        documents = λ doc. documents_then doc ∙ left.documents doc;
        there = λ doc d at is. left.there doc d (there_then doc d at is) is;
        usable = λ state some. left.usable state (usable_was x e.event e.actor job state some);
        few = (let less : length (without_doc job.doc x.kept) ≤ length x.kept = without_short job.doc x.kept in let low : length x.kept ≤ length s.kept = left.few in subst (λ (l : List DocId). length l ≤ length s.kept) (sym kept_are) (omega (arith, less, low)));
        kept = λ doc has. left.kept doc (part_without job.doc x.kept doc (ap (λ (l : List DocId). has_doc l doc) (sym kept_are) ∙ has));
        moved = λ reason nav by. sent_moved x e.event e.actor reason nav (left.moved reason nav by) job (subst (λ (k : Task). AsksNone k) (sym task) tt);
      }

-- ---- all of them

pub gone_over : (e : InEvent) (was out : List RowKind) → HasOnlyDiscarded whys.Evict was out → LeavesGone (now_of e was) (now_of e out)
gone_over e was out only =
    over_each (IsDiscardFor whys.Evict) (λ (x : Seen). LeavesGone (now_of e was) x) e (λ mid row it. subst (GoesThere e mid) (sym it.is) (sent_goes e mid it.job (ap is_question it.discards))) (λ x row it so. subst (λ (k : RowKind). LeavesGone (now_of e was) (after x (row_of e k))) (sym it.is) (gone_more (now_of e was) x e it.job it.discards it.why_is so)) was out only (leaves_gone_none (now_of e was))

-- what the rows so far owe is paid by any end still
loose_rows : (e : InEvent) (out more : List RowKind) → ((row : RowKind) → Has more row → IsDiscardFor whys.Evict row) → IsLoose e out → IsLoose e (out ++ more)
loose_rows e out [] each loose = subst (λ (l : List RowKind). IsLoose e l) (sym (append-nil out)) loose
loose_rows e out (row ∷ more) each loose =
    subst (λ (l : List RowKind). IsLoose e l) (append_assoc out (row ∷ []) more)
    (loose_rows e (out ++ row ∷ []) more (λ other there. each other (inr there)) (subst (λ (k : RowKind). IsLoose e (out ++ k ∷ [])) (sym it.is) (loose_more e out (rows.Sent it.job) (sent_goes e out it.job (ap (λ (k : Task). is_question k) it.discards)).read loose (sent_lasts (now_of e out) e.event e.actor it.job) (λ end lasts. refl))))
  where
    it : IsDiscardFor whys.Evict row
    it = each row (inl refl)

pub loose_over : (e : InEvent) (was out : List RowKind) → HasOnlyDiscarded whys.Evict was out → IsLoose e was → IsLoose e out
loose_over e was out only loose = subst (λ (l : List RowKind). IsLoose e l) (sym only.is) (loose_rows e was only.more only.each loose)

-- no traversal is applied
none_traversed : (e : InEvent) (more : List RowKind) → ((row : RowKind) → Has more row → IsDiscardFor whys.Evict row) → list_any is_traverse (map (row_of e) more) ≡ false
none_traversed e [] each = refl
none_traversed e (row ∷ more) each =
    ap (λ (k : RowKind). is_traverse (row_of e k) || list_any is_traverse (map (row_of e) more)) it.is
    ∙ none_traversed e more (λ other there. each other (inr there))
  where
    it : IsDiscardFor whys.Evict row
    it = each row (inl refl)

pub untraversed : (e : InEvent) (out : List RowKind) → e.before ≡ [] → HasOnlyDiscarded whys.Evict [] out → has_traversed e out ≡ false
untraversed e out uncut only =
    ap (λ (l : List RowKind). has_traversed e l) only.is
    ∙ ap (λ (l : List RowKind). list_any is_traverse (map (row_of e) l ++ map (row_of e) only.more)) uncut
    ∙ none_traversed e only.more only.each
