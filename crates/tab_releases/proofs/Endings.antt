-- What a row that ends a request leaves of the others, and of what is held back.
use Rattle.seen_facts.proofs.Coord.Unread.{next}
use Rattle.tab_facts.proofs.Frame.Applied.{applied_wishes}
use Rattle.tab_facts.specs.Frame.Lasting.{wish}
use Rattle.log_model.specs.After.{ended}
use Rattle.log_model.specs.AfterRequests.{entries_taken, on_request, parked_after, without_req}
use Rattle.log_model.specs.Points.{ends_in}
use Rattle.seen_facts.proofs.Doc.Lives.{change_keeps, takes_in}
use Rattle.seen_facts.specs.Home.Homes.{document_in}
use Rattle.log_model.specs.Seen.{Asked, Document, Seen, document_of}
use Rattle.log_model.specs.declared.change.Change.{Change}
use Rattle.log_model.specs.declared.outcome.Cause.{Cause}
use Rattle.log_model.specs.declared.outcome.Denial.{Denial}
use Rattle.log_model.specs.declared.row_kind.RowKind.{RowKind}
use Rattle.seen_facts.proofs.Request.Readers.{SameReads, on_read}
use Rattle.seen_laws.specs.InEvent.{InEvent, row_of}
pub use Rattle.tab_takes.proofs.PassedOn.{as_many}
use Rattle.seen_laws.proofs.Keyed.{find_map}
use Rattle.std.proofs.Common.{List, None, Option, Some, ap, length, map, refl, subst, ◌∙◌, ◌≡◌}
use Rattle.std.specs.Prelude.{option_map}
use Rattle.tab_ids.specs.declared.DocId.{DocId}
use Rattle.tab_ids.specs.declared.NavId.{NavId}
use Rattle.tab_ids.specs.declared.ReqId.{ReqId}
use Rattle.log_model.specs.declared.outcome.Ending.TheVariants as endings
use Rattle.log_model.specs.declared.row_kind.RowKind.TheVariants as rows

-- what holds of each row that ends its request
pub by_end : (P : RowKind → ReqId → Type 0) → ((req : ReqId) (change : Change) → P (rows.Applied req change) req) → ((req : ReqId) (reason : Denial) → P (rows.Refused req reason) req) → ((req : ReqId) (cause : Cause) → P (rows.Dropped req cause) req) → (e : InEvent) (kind : RowKind) (req : ReqId) → ends_in (row_of e kind) ≡ Some req → P kind req
by_end P applied refused dropped e (rows.Applied r change) req is =
    (let same : r ≡ req = cc in subst (λ (x : ReqId). P (rows.Applied r change) x) same (applied r change))
by_end P applied refused dropped e (rows.Refused r reason) req is =
    (let same : r ≡ req = cc in subst (λ (x : ReqId). P (rows.Refused r reason) x) same (refused r reason))
by_end P applied refused dropped e (rows.Dropped r cause) req is =
    (let same : r ≡ req = cc in subst (λ (x : ReqId). P (rows.Dropped r cause) x) same (dropped r cause))
by_end P applied refused dropped e (rows.Opened entry state doc proc slot address) req is = absurd cc
by_end P applied refused dropped e (rows.Accepted r doc what) req is = absurd cc
by_end P applied refused dropped e (rows.Started r goal) req is = absurd cc
by_end P applied refused dropped e (rows.Prompted r doc) req is = absurd cc
by_end P applied refused dropped e (rows.Answered r stay) req is = absurd cc
by_end P applied refused dropped e (rows.Sent job) req is = absurd cc
by_end P applied refused dropped e (rows.Taken proc job live dirty) req is = absurd cc
by_end P applied refused dropped e (rows.Finished proc job outcome) req is = absurd cc
by_end P applied refused dropped e (rows.Made proc made) req is = absurd cc
by_end P applied refused dropped e (rows.Delivered proc) req is = absurd cc
by_end P applied refused dropped e (rows.Killed proc death) req is = absurd cc
by_end P applied refused dropped e (rows.Evicted state) req is = absurd cc

-- it isn't held back any more
pub ends_parked : (e : InEvent) (kind : RowKind) (req : ReqId) → ends_in (row_of e kind) ≡ Some req → (s : Seen) → parked_after s kind ≡ without_req req s.parked
ends_parked =
    by_end (λ (kind : RowKind) (req : ReqId). (s : Seen) → parked_after s kind ≡ without_req req s.parked) (λ req change s. refl) (λ req reason s. refl) (λ req cause s. refl)

-- a change leaves whose each document is
homes_on : (documents : List Document) (change : Change) (doc : DocId) → option_map (λ (d : Document). d.nav) (document_in (map (takes_in change) documents) doc) ≡ option_map (λ (d : Document). d.nav) (document_in documents doc)
homes_on documents change doc =
    ap (λ (o : Option Document). option_map (λ (d : Document). d.nav) o) (find_map (λ (d : Document). d.nr.0) (takes_in change) doc.0 documents (λ d. ap (λ (n : DocId). n.0) ((change_keeps change).nr d)))
    ∙ by_old (document_in documents doc)
  where
    by_old : (o : Option Document) → option_map (λ (d : Document). d.nav) (option_map (takes_in change) o) ≡ option_map (λ (d : Document). d.nav) o
    by_old None = refl
    by_old (Some d) = ap (λ (n : NavId). Some n) ((change_keeps change).nav d)

-- all requests ask what they asked, whose each document is stays, and the one that ended is neither in the queue nor held back any more
pub record IsEnding (s n : Seen) (req : ReqId) : Type 0 where
  pub homes : (doc : DocId) → option_map (λ (d : Document). d.nav) (document_of n doc) ≡ option_map (λ (d : Document). d.nav) (document_of s doc)
  pub wishes : SameReads wish s.requests n.requests
  pub long : length n.requests ≡ length s.requests
  pub joined : n.joined ≡ without_req req s.joined
  pub parked : n.parked ≡ without_req req s.parked

pub is_ending : (s : Seen) (e : InEvent) (kind : RowKind) (req : ReqId) → ends_in (row_of e kind) ≡ Some req → IsEnding s (next s e.event e.actor kind) req
is_ending s e kind req is =
    by_end (λ (k : RowKind) (r : ReqId). IsEnding s (next s e.event e.actor k) r)
    (λ r change. record {
      homes = λ doc. homes_on s.documents change doc;
      wishes = applied_wishes s e.event e.actor r change;
      long = as_many (on_request r (λ (x : Asked). record x { change = Some change }) (ended s.requests r endings.Applied)) r (λ (x : Asked). record x { took = entries_taken s.history change })
          ∙ as_many (ended s.requests r endings.Applied) r (λ (x : Asked). record x { change = Some change })
          ∙ as_many s.requests r (λ (x : Asked). record x { ending = Some endings.Applied });
      joined = refl;
      parked = refl;
    })
    (λ r reason. record {
      homes = λ doc. refl;
      wishes = on_read wish s.requests r (λ (x : Asked). record x { ending = Some (endings.Refused reason) }) (λ x. refl);
      long = as_many s.requests r (λ (x : Asked). record x { ending = Some (endings.Refused reason) });
      joined = refl;
      parked = refl;
    })
    (λ r cause. record {
      homes = λ doc. refl;
      wishes = on_read wish s.requests r (λ (x : Asked). record x { ending = Some (endings.Dropped cause) }) (λ x. refl);
      long = as_many s.requests r (λ (x : Asked). record x { ending = Some (endings.Dropped cause) });
      joined = refl;
      parked = refl;
    })
    e kind req is
