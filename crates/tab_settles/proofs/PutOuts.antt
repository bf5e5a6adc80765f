-- What orders and drops leave, and so a pass: what requests ask and how many there are, and whose each document is; and none of them applies a traversal.
use Rattle.std.proofs.lemmas.Bool.{not-true}
use Rattle.tab_doors.proofs.PassedOn.{sent_goes, dropped_goes}
use Rattle.row_facts.proofs.Owed.Standing.{sent_eased}
use Rattle.log_model.specs.declared.row.Row.{Row}
use Rattle.log_model.specs.Places.{all_stand_in}
use Rattle.seen_facts.proofs.Coord.Unread.{next}
use Rattle.tab_facts.proofs.Frame.Orders.{wish_blind}
use Rattle.tab_facts.specs.Frame.Lasting.{wish}
use Rattle.row_facts.specs.FrameRows.Lawful.{has_traversed}
use Rattle.seen_facts.proofs.Hang.Members.{has_map}
use Rattle.seen_facts.specs.Hang.Members.{Has}
use Rattle.log_model.specs.AfterDocuments.{addressed, documents_sent, new_document, on_document}
use Rattle.log_model.specs.AfterRequests.{on_served, request_served, requests_sent}
use Rattle.seen_facts.specs.Home.Homes.{document_in}
use Rattle.log_model.specs.Queue.{is_traverse}
use Rattle.log_model.specs.Seen.{Asked, Document, Seen}
use Rattle.log_model.specs.declared.job.Job.{Job}
use Rattle.log_model.specs.declared.job.Task.{Task}
use Rattle.log_model.specs.declared.job.Why.{Why}
use Rattle.log_model.specs.declared.row_kind.Actor.{Actor}
use Rattle.log_model.specs.declared.row_kind.LogRow.{LogRow}
use Rattle.log_model.specs.declared.row_kind.RowKind.{RowKind}
use Rattle.seen_facts.proofs.Request.Readers.{on_read, reads_then, sent_reads}
use Rattle.seen_laws.proofs.InEvents.{later_more, now_step}
use Rattle.seen_laws.specs.InEvent.{InEvent, later_of, now_of, row_of, GoesThere}
use Rattle.seen_laws.specs.Unasked.{is_question}
use Rattle.std.proofs.Common.{Bool, List, None, Option, Some, [], ap, append-nil, append_assoc, cond, false, inl, inr, length, map, not, refl, subst, sym, true, ℕ, ◌++◌, ◌==◌, ◌||◌, ◌∙◌, ◌∷◌, ◌≡◌}
use Rattle.std.proofs.lemmas.List.Folds.{list_any-append}
use Rattle.std.specs.List.{list_any}
use Rattle.std.specs.Prelude.{option_map}
use Rattle.seen_laws.proofs.Keyed.{find_map}
use Rattle.tab_releases.specs.PassedOn.{Drop, HasGivenWay, HasOnly, HasOnlyDropped, HasPutOut, IsOfWalk, IsServeFor, IsUpdateFor, length_index, row_of_drop}
use Rattle.tab_releases.proofs.Endings.{as_many}
use Rattle.tab_ids.specs.declared.DocId.{DocId}
use Rattle.tab_ids.specs.declared.ReqId.{ReqId}
use Rattle.tab_releases.proofs.PassedOn.{only_as, only_none, only_then}
use Rattle.tab_settles.specs.Settling.{IsOrderOrDrop, LeavesPut}
use Rattle.log_model.specs.declared.job.Task.TheVariants as tasks
use Rattle.log_model.specs.declared.job.Why.TheVariants as whys
use Rattle.log_model.specs.declared.outcome.Ending.TheVariants as endings
use Rattle.log_model.specs.declared.row_kind.RowKind.TheVariants as rows

-- ---- documents

-- a document of the same navigable has the number
abbrev IsHomeStill : List Document → DocId → Document → Type 0
IsHomeStill documents doc d = (new : Document) × (document_in documents doc ≡ Some new) × (new.nav ≡ d.nav)

changed_home : (documents : List Document) (at doc : DocId) (f : Document → Document) → ((d : Document) → (f d).nr ≡ d.nr) → ((d : Document) → (f d).nav ≡ d.nav) → (d : Document) → document_in documents doc ≡ Some d → IsHomeStill (on_document at f documents) doc d
changed_home documents at doc f nr nav d found =
    (changed d, find_map (λ (x : Document). x.nr.0) changed doc.0 documents (λ x. number (x.nr.0 == at.0) x) ∙ ap (option_map changed) found, home (d.nr.0 == at.0) d)
  where
    changed : Document → Document
    changed x = cond (x.nr.0 == at.0) (f x) x

    number : (b : Bool) (x : Document) → (let y : Document = cond b (f x) x in y).nr.0 ≡ x.nr.0
    number true x = ap (λ (n : DocId). n.0) (nr x)
    number false x = refl

    home : (b : Bool) (x : Document) → (let y : Document = cond b (f x) x in y).nav ≡ x.nav
    home true x = nav x
    home false x = refl

-- one that joins at the end is found only where none was
more_home : (documents : List Document) (new d : Document) (doc : DocId) → document_in documents doc ≡ Some d → document_in (documents ++ new ∷ []) doc ≡ Some d
more_home [] new d doc found = absurd cc
more_home (x ∷ documents) new d doc found = by_test (x.nr.0 == doc.0) found (more_home documents new d doc)
  where
    by_test : (b : Bool) → (let o : Option Document = cond b (Some x) (document_in documents doc) in o) ≡ Some d → (document_in documents doc ≡ Some d → document_in (documents ++ new ∷ []) doc ≡ Some d) → (let o : Option Document = cond b (Some x) (document_in (documents ++ new ∷ []) doc) in o) ≡ Some d
    by_test true h later = h
    by_test false h later = later h

pub sent_homes : (s : Seen) (job : Job) (task : Task) (doc : DocId) (d : Document) → document_in s.documents doc ≡ Some d → IsHomeStill (documents_sent s job task) doc d
sent_homes s job (tasks.Populate nav of address initial) doc d found = (d, more_home s.documents (new_document s job nav of) d doc found, refl)
sent_homes s job tasks.Discard doc d found =
    changed_home s.documents job.doc doc (λ (x : Document). record x { is_discarded = true }) (λ x. refl) (λ x. refl) d found
sent_homes s job (tasks.Activate entry epoch long at memo address) doc d found =
    changed_home s.documents job.doc doc (addressed (tasks.Activate entry epoch long at memo address)) (λ x. refl) (λ x. refl) d found
sent_homes s job (tasks.Update long at) doc d found =
    changed_home s.documents job.doc doc (addressed (tasks.Update long at)) (λ x. refl) (λ x. refl) d found
sent_homes s job tasks.Freeze doc d found = changed_home s.documents job.doc doc (addressed tasks.Freeze) (λ x. refl) (λ x. refl) d found
sent_homes s job (tasks.Ask slot cause) doc d found =
    changed_home s.documents job.doc doc (addressed (tasks.Ask slot cause)) (λ x. refl) (λ x. refl) d found
sent_homes s job (tasks.DoFragment req mode address) doc d found =
    changed_home s.documents job.doc doc (addressed (tasks.DoFragment req mode address)) (λ x. refl) (λ x. refl) d found

-- ---- requests

served_many : (why : Why) (f : Asked → Asked) (asked : List Asked) → length (on_served why f asked) ≡ length asked
served_many (whys.Req req) f asked = as_many asked req f
served_many (whys.Death death) f asked = refl
served_many whys.Evict f asked = refl
served_many whys.Start f asked = refl

sent_many : (s : Seen) (job : Job) (task : Task) (asked : List Asked) → length (requests_sent s job task asked) ≡ length asked
sent_many s job (tasks.DoFragment req mode address) asked =
    as_many asked req (λ (q : Asked). record q { fragment = Some job.doc })
sent_many s job (tasks.Populate nav state address initial) asked = refl
sent_many s job (tasks.Update long at) asked = refl
sent_many s job (tasks.Activate entry epoch long at memo address) asked =
    served_many job.why (request_served s job (tasks.Activate entry epoch long at memo address)) asked
sent_many s job tasks.Freeze asked = served_many job.why (request_served s job tasks.Freeze) asked
sent_many s job tasks.Discard asked = served_many job.why (request_served s job tasks.Discard) asked
sent_many s job (tasks.Ask slot cause) asked = served_many job.why (request_served s job (tasks.Ask slot cause)) asked

-- ---- one row

-- it goes in the log without questions
pub order_or_drop_goes : (e : InEvent) (out : List RowKind) (row : RowKind) → IsOrderOrDrop row → GoesThere e out row
order_or_drop_goes e out (rows.Sent job) is = sent_goes e out job (not-true (is_question job.task) is)
order_or_drop_goes e out (rows.Dropped req cause) is = dropped_goes e out req cause
order_or_drop_goes e out row is = elim is [ ]

leaves_none : (s : Seen) → LeavesPut s s
leaves_none s = record { many = refl; wishes = λ r. refl; homes = λ doc d found. (d, found, refl) }

pub leaves_then : (s t u : Seen) → LeavesPut s t → LeavesPut t u → LeavesPut s u
leaves_then s t u first then_ =
    record {
      many = then_.many ∙ first.many;
      wishes = reads_then wish s.requests t.requests u.requests first.wishes then_.wishes;
      homes = λ doc d found. (let mid = first.homes doc d found in let last = then_.homes doc mid.0 mid.1 in (last.0, last.1, last.2 ∙ mid.2));
    }

row_leaves : (s : Seen) (event : ℕ) (actor : Actor) (row : RowKind) → IsOrderOrDrop row → LeavesPut s (next s event actor row)
row_leaves s event actor (rows.Sent job) is =
    record {
      many = sent_many s job job.task s.requests;
      wishes = sent_reads wish wish_blind s job job.task s.requests;
      homes = sent_homes s job job.task;
    }
row_leaves s event actor (rows.Dropped req cause) is =
    record {
      many = as_many s.requests req (λ (x : Asked). record x { ending = Some (endings.Dropped cause) });
      wishes = on_read wish s.requests req (λ (x : Asked). record x { ending = Some (endings.Dropped cause) }) (λ x. refl);
      homes = λ doc d found. (d, found, refl);
    }
row_leaves s event actor row is = elim is [ ]

-- ---- who doesn't stand

-- where not all stood at a step, not all do then
pub record KeepsOff (s t : Seen) : Type 0 where
  pub unsettled : (rows_ : List Row) (step : ℕ) → all_stand_in rows_ s.places step ≡ false → all_stand_in rows_ t.places step ≡ false

off_none : (s : Seen) → KeepsOff s s
off_none s = record { unsettled = λ rows_ step off. off }

off_then : (s t u : Seen) → KeepsOff s t → KeepsOff t u → KeepsOff s u
off_then s t u first then_ = record { unsettled = λ rows_ step off. then_.unsettled rows_ step (first.unsettled rows_ step off) }

row_off : (s : Seen) (event : ℕ) (actor : Actor) (row : RowKind) → IsOrderOrDrop row → KeepsOff s (next s event actor row)
row_off s event actor (rows.Sent job) is = record { unsettled = (sent_eased s job job.task).unsettled }
row_off s event actor (rows.Dropped req cause) is = record { unsettled = λ rows_ step off. off }
row_off s event actor row is = elim is [ ]

rows_off : (e : InEvent) (was more : List RowKind) → ((row : RowKind) → Has more row → IsOrderOrDrop row) → KeepsOff (now_of e was) (now_of e (was ++ more))
rows_off e was [] each =
    subst (λ (l : List RowKind). KeepsOff (now_of e was) (now_of e l)) (sym (append-nil was)) (off_none (now_of e was))
rows_off e was (row ∷ more) each =
    subst (λ (l : List RowKind). KeepsOff (now_of e was) (now_of e l)) (append_assoc was (row ∷ []) more)
    (off_then (now_of e was) (now_of e (was ++ row ∷ [])) (now_of e ((was ++ row ∷ []) ++ more)) (now_step (λ (s : Seen). KeepsOff (now_of e was) s) e was row (order_or_drop_goes e was row (each row (inl refl))) (λ same. row_off (now_of e was) e.event e.actor row (each row (inl refl))) (off_none (now_of e was)))
    (rows_off e (was ++ row ∷ []) more (λ x there. each x (inr there))))

pub only_off : (e : InEvent) (was out : List RowKind) → HasOnly IsOrderOrDrop was out → KeepsOff (now_of e was) (now_of e out)
only_off e was out only =
    subst (λ (l : List RowKind). KeepsOff (now_of e was) (now_of e l)) (sym only.is) (rows_off e was only.more only.each)

-- ---- many

rows_leave : (e : InEvent) (was more : List RowKind) → ((row : RowKind) → Has more row → IsOrderOrDrop row) → LeavesPut (now_of e was) (now_of e (was ++ more))
rows_leave e was [] each =
    subst (λ (l : List RowKind). LeavesPut (now_of e was) (now_of e l)) (sym (append-nil was)) (leaves_none (now_of e was))
rows_leave e was (row ∷ more) each =
    subst (λ (l : List RowKind). LeavesPut (now_of e was) (now_of e l)) (append_assoc was (row ∷ []) more)
    (leaves_then (now_of e was) (now_of e (was ++ row ∷ [])) (now_of e ((was ++ row ∷ []) ++ more)) (now_step (λ (s : Seen). LeavesPut (now_of e was) s) e was row (order_or_drop_goes e was row (each row (inl refl))) (λ same. row_leaves (now_of e was) e.event e.actor row (each row (inl refl))) (leaves_none (now_of e was)))
    (rows_leave e (was ++ row ∷ []) more (λ x there. each x (inr there))))

-- none of them applies a traversal
none_applied : (e : InEvent) (more : List RowKind) → ((row : RowKind) → Has more row → IsOrderOrDrop row) → list_any is_traverse (map (row_of e) more) ≡ false
none_applied e [] each = refl
none_applied e (row ∷ more) each = by_row row (each row (inl refl)) (none_applied e more (λ x there. each x (inr there)))
  where
    by_row : (x : RowKind) → IsOrderOrDrop x → list_any is_traverse (map (row_of e) more) ≡ false → (is_traverse (row_of e x) || list_any is_traverse (map (row_of e) more)) ≡ false
    by_row (rows.Sent job) is rest = rest
    by_row (rows.Dropped req cause) is rest = rest
    by_row x is rest = elim is [ ]

applied_none : (e : InEvent) (was more : List RowKind) → ((row : RowKind) → Has more row → IsOrderOrDrop row) → has_traversed e (was ++ more) ≡ has_traversed e was
applied_none e was more each =
    ap (λ (l : List LogRow). list_any is_traverse l) (later_more e was more)
    ∙ list_any-append is_traverse (later_of e was) (map (row_of e) more)
    ∙ or_false (list_any is_traverse (later_of e was)) (list_any is_traverse (map (row_of e) more)) (none_applied e more each)
  where
    or_false : (a b : Bool) → b ≡ false → (a || b) ≡ a
    or_false true b none = refl
    or_false false b none = none

-- ---- what a pass puts out

-- each of a kind, where drops are, orders that discard, those of the walk and those that tell length and index
pub put_each : (Is : RowKind → Type 0) (e : InEvent) (run : Option ReqId) (cause tells : Why) (was out : List RowKind) → ((d : Drop) → Is (row_of_drop d)) → ((job : Job) → job.task ≡ tasks.Discard → Is (rows.Sent job)) → ((row : RowKind) → IsServeFor run cause row → Is row) → ((row : RowKind) → IsUpdateFor tells row → Is row) → HasPutOut e run cause tells was out → HasOnly Is was out
put_each Is e run cause tells was out drops discards serves told put =
    only_then Is was put.given out (given run put.gives)
    (only_then Is put.given put.cleared out (only_then Is put.given put.clears.swept put.cleared swept (dropped _ put.clears.swept put.cleared put.clears.destroys))
    (only_then Is put.cleared put.served out (only_as (IsServeFor run cause) Is put.cleared put.served serves put.serves) (only_as (IsUpdateFor tells) Is put.served out told put.told)))
  where
    dropped : (Gone : Drop → Type 0) (first last : List RowKind) → HasOnlyDropped Gone first last → HasOnly Is first last
    dropped Gone first last only =
        record { more = map row_of_drop only.drops; is = only.is; each = λ row there. (let b = has_map row_of_drop only.drops row there in subst Is b.is (drops b.it)) }

    given : (by : Option ReqId) → HasGivenWay (now_of e was) by was put.given → HasOnly Is was put.given
    given None same = subst (λ (l : List RowKind). HasOnly Is was l) (sym same) (only_none Is was)
    given (Some by) only = dropped _ was put.given only

    swept : HasOnly Is put.given put.clears.swept
    swept =
        record { more = put.clears.sweeps.more; is = put.clears.sweeps.is; each = λ row there. (let it = put.clears.sweeps.each row there in subst Is (sym it.is) (discards it.job it.discards)) }

pub walk_asks_none : (task : Task) → IsOfWalk task → not (is_question task) ≡ true
walk_asks_none (tasks.Ask slot cause) never = absurd never
walk_asks_none (tasks.Activate entry epoch length index memo address) is = refl
walk_asks_none (tasks.Populate nav state address initial) is = refl
walk_asks_none tasks.Freeze is = refl
walk_asks_none tasks.Discard is = refl
walk_asks_none (tasks.Update long at) is = refl
walk_asks_none (tasks.DoFragment req mode address) is = refl

pub update_asks_none : (task : Task) → length_index task ≡ true → not (is_question task) ≡ true
update_asks_none (tasks.Ask slot cause) never = absurd cc
update_asks_none (tasks.Activate entry epoch length index memo address) is = refl
update_asks_none (tasks.Populate nav state address initial) is = refl
update_asks_none tasks.Freeze is = refl
update_asks_none tasks.Discard is = refl
update_asks_none (tasks.Update long at) is = refl
update_asks_none (tasks.DoFragment req mode address) is = refl

told_only : (why : Why) (row : RowKind) → IsUpdateFor why row → IsOrderOrDrop row
told_only why (rows.Sent job) is = update_asks_none job.task is.1
told_only why row is = elim is [ ]

-- a pass puts out orders and drops alone
pub put_only : (e : InEvent) (run : Option ReqId) (cause tells : Why) (was out : List RowKind) → HasPutOut e run cause tells was out → HasOnly IsOrderOrDrop was out
put_only e run cause tells was out =
    put_each IsOrderOrDrop e run cause tells was out (λ d. tt) (λ job is. ap (λ (k : Task). not (is_question k)) is) (λ row it. subst (λ (x : RowKind). IsOrderOrDrop x) (sym it.is) (walk_asks_none it.job.task it.serves)) (told_only tells)

-- and so it leaves these
pub only_leaves : (e : InEvent) (was out : List RowKind) → HasOnly IsOrderOrDrop was out → LeavesPut (now_of e was) (now_of e out)
only_leaves e was out only =
    subst (λ (l : List RowKind). LeavesPut (now_of e was) (now_of e l)) (sym only.is) (rows_leave e was only.more only.each)

pub only_applies_none : (e : InEvent) (was out : List RowKind) → HasOnly IsOrderOrDrop was out → has_traversed e out ≡ has_traversed e was
only_applies_none e was out only =
    ap (λ (l : List RowKind). has_traversed e l) only.is ∙ applied_none e was only.more only.each
