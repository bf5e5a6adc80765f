-- What was put out as a tab is brought to rest: rows of a coordinator, behind those that were there; and each order that makes a document is for what orders may be for.
use Rattle.tab_facts.proofs.Order.Rows.{coord_within, orders_on, orders_over}
use Rattle.seen_facts.specs.Asked.Asking.{ArePlain}
use Rattle.seen_facts.specs.Hang.Members.{Has}
use Rattle.log_model.specs.Equal.{holds, implies}
use Rattle.log_model.specs.Places.{has_passed}
use Rattle.log_model.specs.Checks.{is_checked}
use Rattle.log_model.specs.Seen.{Asked, Seen, request_of}
use Rattle.log_model.specs.declared.job.Job.{Job}
use Rattle.log_model.specs.declared.job.Task.{Task}
use Rattle.log_model.specs.declared.job.Why.{Why}
use Rattle.log_model.specs.declared.row_kind.RowKind.{RowKind}
use Rattle.tab_facts.proofs.FrameTab.Plainly.{applied_reads}
use Rattle.tab_facts.proofs.Order.Stills.{still_over}
use Rattle.seen_facts.proofs.Coord.Unread.{next}
use Rattle.seen_facts.proofs.Request.Readers.{on_read}
use Rattle.log_model.specs.AfterRequests.{entries_taken}
use Rattle.log_model.specs.declared.row_kind.Actor.{Actor}
use Rattle.log_model.specs.declared.outcome.Ending.TheVariants as endings
use Rattle.seen_laws.proofs.InEvents.{now_step, first_goes, rest_goes, since_goes}
use Rattle.tab_turns.proofs.Turned.{KeepBegun, begun_as_it_was, begun_with, course_of, kept_begun, sent_begun}
use Rattle.tab_facts.specs.Order.Orders.{IsOfCoord, AreOrders}
use Rattle.row_facts.specs.Owed.Owed.{IsStill}
use Rattle.seen_laws.specs.InEvent.{InEvent, now_of, EachGoes}
use Rattle.std.proofs.Common.{Bool, List, None, Option, Some, [], ap, append-nil, append_assoc, false, inl, inr, refl, subst, sym, true, ◌++◌, ◌∙◌, ◌∷◌, ◌≡◌, ◌⊎◌, ℕ}
use Rattle.tab_releases.specs.PassedOn.{HasGrown, IsOfTurn, MayServe, length_index, HasOnly, HasPutOut, IsServeFor, IsUpdateFor, show_why}
use Rattle.tab_ids.specs.declared.ReqId.{ReqId}
use Rattle.tab_releases.proofs.PassedOn.{show_causes}
use Rattle.tab_releases.specs.Releasing.{MayCause}
use Rattle.tab_settles.proofs.PutOuts.{put_each}
use Rattle.tab_settles.specs.Settling.{HasPut, IsMake, IsPlainTask, MakesServe}
use Rattle.log_model.specs.declared.job.Task.TheVariants as tasks
use Rattle.log_model.specs.declared.row_kind.RowKind.TheVariants as rows

-- ---- whoever has set out has so still, over rows of a coordinator

begun_after : (s : Seen) (event : ℕ) (actor : Actor) (kind : RowKind) → IsOfCoord kind → KeepBegun s.requests (next s event actor kind).requests
begun_after s event actor (rows.Sent job) fine = sent_begun s job job.task s.requests
begun_after s event actor (rows.Dropped r cause) fine =
    begun_as_it_was s.requests (next s event actor (rows.Dropped r cause)).requests (on_read course_of s.requests r (λ (q : Asked). record q { ending = Some (endings.Dropped cause) }) (λ q. refl))
begun_after s event actor (rows.Refused r reason) fine =
    begun_as_it_was s.requests (next s event actor (rows.Refused r reason)).requests (on_read course_of s.requests r (λ (q : Asked). record q { ending = Some (endings.Refused reason) }) (λ q. refl))
begun_after s event actor (rows.Applied r change) fine =
    begun_as_it_was s.requests (next s event actor (rows.Applied r change)).requests (applied_reads course_of s.requests r change (entries_taken s.history change) (λ q. refl) (λ q. refl) (λ q. refl))
begun_after s event actor (rows.Started r goal) fine = begun_with s r goal
begun_after s event actor _ fine = absurd fine

begun_over : (e : InEvent) (more was : List RowKind) → EachGoes e was more → ((kind : RowKind) → Has more kind → IsOfCoord kind) → KeepBegun (now_of e was).requests (now_of e (was ++ more)).requests
begun_over e [] was goes fine =
    subst (λ (l : List RowKind). KeepBegun (now_of e was).requests (now_of e l).requests) (sym (append-nil was)) (λ this each. each)
begun_over e (kind ∷ more) was goes fine =
    subst (λ (l : List RowKind). KeepBegun (now_of e was).requests (now_of e l).requests) (append_assoc was (kind ∷ []) more)
    (λ this each. begun_over e more (was ++ kind ∷ []) (rest_goes e was more kind goes) (λ k has. fine k (inr has)) this (one this each))
  where
    one : KeepBegun (now_of e was).requests (now_of e (was ++ kind ∷ [])).requests
    one =
        now_step (λ (x : Seen). KeepBegun (now_of e was).requests x.requests) e was kind (first_goes e was more kind goes) (λ was_ this each. begun_after (now_of e was) e.event e.actor kind (fine kind (inl refl)) this each) (λ this each. each)

-- ---- what orders may be for, over rows of a coordinator

module _ (e : InEvent) (run : Option ReqId) (was more : List RowKind) (goes : EachGoes e was more) (fine : (row : RowKind) → Has more row → IsOfCoord row) (plain : ArePlain run (now_of e (was ++ more))) where
  abbrev s : Seen
  s = now_of e was

  abbrev n : Seen
  n = now_of e (was ++ more)

  -- nobody is asked, so each request may go on
  serve_by : (req : ReqId) (q : Asked) → MayServe s req → request_of s req ≡ Some q → MayServe n req
  serve_by req q may at =
      record {
        goes = ap (λ (o : Option Asked). holds (λ (x : Asked). implies (is_checked x) (has_passed n x)) o) still.at ∙ implied (is_checked still.r) (has_passed n still.r) passes;
        begun = kept_begun s n req (begun_over e more was goes fine) may.begun;
      }
    where
      still : IsStill n req q
      still = still_over e more was goes fine req q at

      passes : has_passed n still.r ≡ true
      passes = plain.passed req still.r still.at

      implied : (a b : Bool) → b ≡ true → implies a b ≡ true
      implied true b is = is
      implied false b is = refl

  serve_more : (req : ReqId) → MayServe s req → MayServe n req
  serve_more req may = by_there (request_of s req) refl
    where
      by_there : (o : Option Asked) → request_of s req ≡ o → MayServe n req
      by_there (Some q) at = serve_by req q may at
      by_there None at =
          let never : false ≡ true = sym (ap (λ (o : Option Asked). holds (λ (x : Asked). implies (is_checked x) (has_passed s x)) o) at) ∙ may.goes in absurd cc

  pub cause_more : (why : Why) → MayCause s why → MayCause n why
  cause_more why may req is = serve_more req (may req is)

-- so over those that an event puts out
pub cause_put : (e : InEvent) (run : Option ReqId) (was out : List RowKind) → EachGoes e [] out → ArePlain run (now_of e out) → HasPut e was out → (why : Why) → MayCause (now_of e was) why → MayCause (now_of e out) why
cause_put e run was out goes plain put why may =
    subst (λ (l : List RowKind). MayCause (now_of e l) why) (sym put.is)
    (cause_more e run was put.more (since_goes e was put.more out put.is goes) put.each (subst (λ (l : List RowKind). ArePlain run (now_of e l)) put.is plain) why may)

-- orders that make documents are for what orders may be for still, with those that are put out
pub put_makes : (e : InEvent) (run : Option ReqId) (was out : List RowKind) → EachGoes e [] out → ArePlain run (now_of e out) → HasPut e was out → MakesServe (now_of e was) → MakesServe (now_of e out)
put_makes e run was out goes plain put makes =
    subst (λ (l : List RowKind). AreOrders serves (now_of e l)) (sym put.is)
    (orders_over serves e put.more was (since_goes e was put.more out put.is goes) (λ row has. coord_within row (put.each row has)) (λ job has. put.makes job has)
    (orders_on (λ (job : Job). IsMake job.task → MayCause (now_of e was) job.why) serves (now_of e was) (λ job its made. cause_put e run was out goes plain put job.why (its made)) makes))
  where
    serves : Job → Type 0
    serves job = IsMake job.task → MayCause (now_of e out) job.why

-- ---- one after the other

-- what is among two lists is among the first or the second
pub among : {A : Type 0} (xs ys : List A) (z : A) → Has (xs ++ ys) z → Has xs z ⊎ Has ys z
among [] ys z has = inr has
among (x ∷ xs) ys z (inl is) = inl (inl is)
among (x ∷ xs) ys z (inr has) = by_rest (among xs ys z has)
  where
    by_rest : Has xs z ⊎ Has ys z → Has (x ∷ xs) z ⊎ Has ys z
    by_rest (inl in_) = inl (inr in_)
    by_rest (inr in_) = inr in_

pub put_then : (e : InEvent) (run : Option ReqId) (a b c : List RowKind) → EachGoes e [] c → ArePlain run (now_of e c) → HasPut e a b → HasPut e b c → HasPut e a c
put_then e run a b c goes plain one two =
    record {
      more = one.more ++ two.more;
      is = two.is ∙ ap (λ (l : List RowKind). l ++ two.more) one.is ∙ append_assoc a one.more two.more;
      each = λ row has. by_each row (among one.more two.more row has);
      plain = λ job has. by_plain job (among one.more two.more (rows.Sent job) has);
      makes = λ job has makes. by_makes job makes (among one.more two.more (rows.Sent job) has);
    }
  where
    by_plain : (job : Job) → Has one.more (rows.Sent job) ⊎ Has two.more (rows.Sent job) → IsPlainTask job.task
    by_plain job (inl has) = one.plain job has
    by_plain job (inr has) = two.plain job has

    by_each : (row : RowKind) → Has one.more row ⊎ Has two.more row → IsOfCoord row
    by_each row (inl has) = one.each row has
    by_each row (inr has) = two.each row has

    later : (why : Why) → MayCause (now_of e b) why → MayCause (now_of e c) why
    later = cause_put e run b c goes plain two

    by_makes : (job : Job) → IsMake job.task → Has one.more (rows.Sent job) ⊎ Has two.more (rows.Sent job) → MayCause (now_of e c) job.why
    by_makes job makes (inl has) = later job.why (one.makes job has makes)
    by_makes job makes (inr has) = two.makes job has makes

-- ---- a turn

turn_coord : (row : RowKind) → IsOfTurn row → IsOfCoord row
turn_coord (rows.Started req goal) its = tt
turn_coord (rows.Applied req change) its = tt
turn_coord (rows.Refused req reason) its = tt
turn_coord (rows.Dropped req cause) its = tt
turn_coord _ its = absurd its

pub turn_put : (e : InEvent) (was out : List RowKind) → HasGrown was out → HasPut e was out
turn_put e was out grown =
    record {
      more = grown.more;
      is = grown.is;
      each = λ row has. turn_coord row (grown.each row has);
      plain = λ job has. absurd (grown.each (rows.Sent job) has);
      makes = λ job has makes. absurd (grown.each (rows.Sent job) has);
    }

-- ---- a pass

-- an order asks nobody and sends no document to a fragment, and one that makes a document is for the traversal that runs, or for the cause
abbrev MakesFor : Option ReqId → Why → RowKind → Type 0
MakesFor run cause (rows.Sent job) = IsPlainTask job.task × (IsMake job.task → (job.why ≡ show_why run cause) ⊎ (job.why ≡ cause))
MakesFor run cause (rows.Dropped req because) = Unit {0}
MakesFor run cause _ = ⊥

makes_for : (e : InEvent) (run : Option ReqId) (cause tells : Why) (was out : List RowKind) → HasPutOut e run cause tells was out → HasOnly (MakesFor run cause) was out
makes_for e run cause tells was out =
    put_each (MakesFor run cause) e run cause tells was out (λ d. tt) (λ job is. (plain job.task is, λ makes. absurd (discards job.task is makes))) served told
  where
    plain : (task : Task) → task ≡ tasks.Discard → IsPlainTask task
    plain task is = subst (λ (k : Task). IsPlainTask k) (sym is) tt

    discards : (task : Task) → task ≡ tasks.Discard → IsMake task → ⊥
    discards (tasks.Populate nav state address initial) is makes = cc
    discards _ is makes = absurd makes

    served : (row : RowKind) → IsServeFor run cause row → MakesFor run cause row
    served row it = subst (λ (x : RowKind). MakesFor run cause x) (sym it.is) (of_walk it.job.task refl, λ makes. it.why_is)
      where
        of_walk : (task : Task) → it.job.task ≡ task → IsPlainTask task
        of_walk (tasks.Ask slot asks) is = absurd (let walks = it.serves in rw is at walks)
        of_walk (tasks.DoFragment req mode address) is = absurd (let walks = it.serves in rw is at walks)
        of_walk _ is = tt

    lengths : (task : Task) → length_index task ≡ true → IsPlainTask task
    lengths (tasks.Ask slot asks) is = let no_ : false ≡ true = is in cc
    lengths (tasks.DoFragment req mode address) is = let no_ : false ≡ true = is in cc
    lengths _ is = tt

    never : (task : Task) → length_index task ≡ true → IsMake task → ⊥
    never (tasks.Populate nav state address initial) is makes = let no_ : false ≡ true = is in cc
    never _ is makes = absurd makes

    told : (row : RowKind) → IsUpdateFor tells row → MakesFor run cause row
    told (rows.Sent job) is = (lengths job.task is.1, λ makes. absurd (never job.task is.1 makes))
    told row is = elim is [ ]

for_coord : (run : Option ReqId) (cause : Why) (row : RowKind) → MakesFor run cause row → IsOfCoord row
for_coord run cause (rows.Sent job) its = tt
for_coord run cause (rows.Dropped req because) its = tt
for_coord run cause _ its = absurd its

pub pass_put : (e : InEvent) (run : Option ReqId) (cause tells : Why) (was out : List RowKind) → HasPutOut e run cause tells was out → ArePlain run (now_of e was) → MayCause (now_of e was) cause → ((why : Why) → MayCause (now_of e was) why → MayCause (now_of e out) why) → HasPut e was out
pass_put e run cause tells was out put plain may causes =
    record {
      more = only.more;
      is = only.is;
      each = λ row has. for_coord run cause row (only.each row has);
      plain = λ job has. (only.each (rows.Sent job) has).0;
      makes = λ job has makes. by_why job.why ((only.each (rows.Sent job) has).1 makes);
    }
  where
    only : HasOnly (MakesFor run cause) was out
    only = makes_for e run cause tells was out put

    by_why : (why : Why) → (why ≡ show_why run cause) ⊎ (why ≡ cause) → MayCause (now_of e out) why
    by_why why (inl is) = causes why (subst (MayCause (now_of e was)) (sym is) (show_causes (now_of e was) run plain cause may))
    by_why why (inr is) = causes why (subst (MayCause (now_of e was)) (sym is) may)
