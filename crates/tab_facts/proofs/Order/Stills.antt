-- Each request is there still after the rows that a coordinator puts out: it asks what it asked, and has begun if it had.
use Rattle.seen_facts.proofs.Coord.Unread.{next}
use Rattle.seen_facts.specs.Hang.Members.{Has}
use Rattle.log_model.specs.Seen.{Asked, Seen, request_of}
use Rattle.log_model.specs.declared.row_kind.Actor.{Actor}
use Rattle.log_model.specs.declared.row_kind.RowKind.{RowKind}
use Rattle.tab_facts.specs.Order.Orders.{IsOfCoord}
use Rattle.row_facts.proofs.Owed.Rows.{applied_lasts, begun_still, dropped_lasts, refused_lasts, sent_lasts}
use Rattle.row_facts.specs.Owed.Owed.{IsStill}
use Rattle.seen_laws.proofs.InEvents.{first_goes, now_step, rest_goes}
use Rattle.seen_laws.specs.InEvent.{EachGoes, InEvent, now_of}
use Rattle.std.proofs.Common.{List, Some, [], append-nil, append_assoc, inl, inr, refl, subst, sym, ℕ, ◌++◌, ◌∙◌, ◌∷◌, ◌≡◌}
use Rattle.tab_ids.specs.declared.ReqId.{ReqId}
use Rattle.log_model.specs.declared.row_kind.RowKind.TheVariants as rows

-- nothing came
pub still_itself : (s : Seen) (req : ReqId) (q : Asked) → request_of s req ≡ Some q → IsStill s req q
still_itself s req q at = record { r = q; at = at; what = refl; nr = refl; began = λ is. is }

pub still_then : (t u : Seen) (req : ReqId) (q : Asked) → (one : IsStill t req q) → IsStill u req one.r → IsStill u req q
still_then t u req q one two =
    record {
      r = two.r;
      at = two.at;
      what = two.what ∙ one.what;
      nr = two.nr ∙ one.nr;
      began = λ is. two.began (one.began is);
    }

-- one row came
pub still_after : (s : Seen) (event : ℕ) (actor : Actor) (kind : RowKind) → IsOfCoord kind → (req : ReqId) (q : Asked) → request_of s req ≡ Some q → IsStill (next s event actor kind) req q
still_after s event actor (rows.Sent job) fine req q at = (sent_lasts s event actor job).asked req q at
still_after s event actor (rows.Dropped r cause) fine req q at = (dropped_lasts s event actor r cause).asked req q at
still_after s event actor (rows.Refused r reason) fine req q at = (refused_lasts s event actor r reason).asked req q at
still_after s event actor (rows.Applied r change) fine req q at = (applied_lasts s event actor r change).asked req q at
still_after s event actor (rows.Started r goal) fine req q at = begun_still s event actor r goal req q at
still_after s event actor _ fine req q at = absurd fine

-- such rows came in an event
pub still_over : (e : InEvent) (more was : List RowKind) → EachGoes e was more → ((kind : RowKind) → Has more kind → IsOfCoord kind) → (req : ReqId) (q : Asked) → request_of (now_of e was) req ≡ Some q → IsStill (now_of e (was ++ more)) req q
still_over e [] was goes fine req q at = subst (λ (l : List RowKind). IsStill (now_of e l) req q) (sym (append-nil was)) (still_itself (now_of e was) req q at)
still_over e (kind ∷ more) was goes fine req q at =
    subst (λ (l : List RowKind). IsStill (now_of e l) req q) (append_assoc was (kind ∷ []) more)
    (still_then (now_of e (was ++ kind ∷ [])) (now_of e ((was ++ kind ∷ []) ++ more)) req q one (still_over e more (was ++ kind ∷ []) (rest_goes e was more kind goes) (λ k has. fine k (inr has)) req one.r one.at))
  where
    one : IsStill (now_of e (was ++ kind ∷ [])) req q
    one =
        now_step (λ (x : Seen). IsStill x req q) e was kind (first_goes e was more kind goes) (λ is. still_after (now_of e was) e.event e.actor kind (fine kind (inl refl)) req q at) (still_itself (now_of e was) req q at)
