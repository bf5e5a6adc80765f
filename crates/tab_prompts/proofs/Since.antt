-- A request in its check is read as it was where the event began or was cut: by rows of a coordinator it is asked nothing more, and isn't prompted; it may be dropped, so one that is under way was so then.
use Rattle.checking_facts.specs.Prompts.{EndsOff}
use Rattle.check_facts.proofs.Rows.{IsUnmoved, sent_same}
use Rattle.check_facts.specs.Rows.{IsNoQuestion}
use Rattle.log_model.specs.After.{after, ended}
use Rattle.log_model.specs.AfterRequests.{entries_taken, on_request, request_begun, request_served}
use Rattle.log_model.specs.Places.{is_under_way}
use Rattle.log_model.specs.Seen.{Asked, Asking, Document, Seen, document_of, request_in}
use Rattle.log_model.specs.declared.job.Job.{Job}
use Rattle.log_model.specs.declared.job.Task.TheVariants as tasks
use Rattle.log_model.specs.declared.job.Task.{Task}
use Rattle.log_model.specs.declared.outcome.Cause.{Cause}
use Rattle.log_model.specs.declared.outcome.Ending.TheVariants as endings
use Rattle.log_model.specs.declared.request.Request.{Request}
use Rattle.log_model.specs.declared.row_kind.RowKind.TheVariants as rows
use Rattle.log_model.specs.declared.row_kind.RowKind.{RowKind}
use Rattle.seen_facts.proofs.Each.Courses.{was_asked}
use Rattle.seen_facts.proofs.Each.Runs.{each_asked_on}
use Rattle.seen_facts.proofs.Request.Readers.{SameReads}
use Rattle.seen_facts.specs.Each.Runs.{EachAsked}
use Rattle.seen_facts.specs.Hang.Members.{Has}
use Rattle.seen_laws.proofs.InEvents.{first_goes, rest_goes}
use Rattle.seen_laws.specs.Blocks.{Here, on_row, on_rows}
use Rattle.seen_laws.specs.InEvent.{EachGoes, InEvent, first_of, is_seen, log_of, row_of}
use Rattle.seen_laws.specs.Unasked.{is_question}
use Rattle.std.proofs.Common.{Bool, List, None, Option, Some, [], ap, false, inl, inr, map, not, refl, sym, true, ◌&&◌, ◌++◌, ◌∙◌, ◌∷◌, ◌≡◌}
use Rattle.tab_ids.specs.declared.DocId.{DocId}
use Rattle.tab_ids.specs.declared.ReqId.{ReqId}

-- ---- what is read of a request

pub record Course : Type 0 where
  pub nr : ReqId
  pub what : Request
  pub asks : List Asking
  pub prompted : Option DocId
  pub answered : Option Bool

abbrev pub course_of : Asked → Course
course_of q = record { nr = q.nr; what = q.what; asks = q.asks; prompted = q.prompted; answered = q.answered }

-- and whether it is under way
record Way : Type 0 where
  course : Course
  runs : Bool

abbrev way_of : Asked → Way
way_of q = record { course = course_of q; runs = is_under_way q }

-- an order that is no question reads none of it
way_moves : (s : Seen) (job : Job) (task : Task) (q : Asked) → IsNoQuestion task → way_of (request_served s job task q) ≡ way_of q
way_moves s job (tasks.Activate entry epoch length index memo address) q none = by_document (document_of s job.doc) refl
  where
    by_document : (o : Option Document) → document_of s job.doc ≡ o → way_of (request_served s job (tasks.Activate entry epoch length index memo address) q) ≡ way_of q
    by_document None e = rw e refl
    by_document (Some d) e = rw e refl
way_moves s job tasks.Freeze q none = refl
way_moves s job tasks.Discard q none = refl
way_moves s job (tasks.Ask slot cause) q none = absurd none
way_moves s job (tasks.Populate nav state address initial) q none = refl
way_moves s job (tasks.Update length index) q none = refl
way_moves s job (tasks.DoFragment req mode address) q none = refl

unmoved : IsUnmoved way_of
unmoved = record { moves = way_moves; fragments = λ q doc. refl }

pub no_question : (task : Task) → not (is_question task) ≡ true → IsNoQuestion task
no_question (tasks.Ask slot cause) is = absurd cc
no_question (tasks.Populate nav state address initial) is = tt
no_question (tasks.Activate entry epoch length index memo address) is = tt
no_question (tasks.Update length index) is = tt
no_question tasks.Freeze is = tt
no_question tasks.Discard is = tt
no_question (tasks.DoFragment req mode address) is = tt

off_of : (b : Bool) → not b ≡ true → b ≡ false
off_of false is = refl
off_of true is = absurd cc

-- ---- one row

module _ (checking : ReqId → Bool) (old : List Asked) where
  -- a request in its check was one of these, and is read as it was; and if it is under way, it was so then
  abbrev pub WasSo : ReqId → Asked → Type 0
  WasSo req q =
      checking req ≡ true → (p : Asked) × (request_in old req ≡ Some p) × (course_of p ≡ course_of q) × (is_under_way q ≡ true → is_under_way p ≡ true)

  -- a change of which nothing is read
  so_read : (mid new : List Asked) → EachAsked WasSo mid → SameReads way_of mid new → EachAsked WasSo new
  so_read mid new each same r q at on =
      let m = was_asked way_of mid new same r q at in
      let p = each r m.0 m.1 on in
      (p.0, p.1, p.2 ∙ ap (λ (x : Way). x.course) m.2, λ runs. p.3 (ap (λ (x : Way). x.runs) m.2 ∙ runs))

  -- a change of one that isn't in its check
  so_off : (mid : List Asked) (req : ReqId) (f : Asked → Asked) → checking req ≡ false → EachAsked WasSo mid → EachAsked WasSo (on_request req f mid)
  so_off mid req f off =
      each_asked_on WasSo WasSo mid req f (λ r q apart was. was) (λ q at was on. (let never : true ≡ false = sym on ∙ off in absurd cc))

  -- one that is dropped isn't under way any more
  so_dropped : (mid : List Asked) (req : ReqId) (cause : Cause) → EachAsked WasSo mid → EachAsked WasSo (on_request req (λ q. record q { ending = Some (endings.Dropped cause) }) mid)
  so_dropped mid req cause =
      each_asked_on WasSo WasSo mid req (λ q. record q { ending = Some (endings.Dropped cause) }) (λ r q apart was. was) (λ q at was on. (let p = was on in (p.0, p.1, p.2, λ runs. stopped q.is_started runs)))
    where
      stopped : {A : Type 0} (b : Bool) → (b && false) ≡ true → A
      stopped true is = absurd cc
      stopped false is = absurd cc

  so_row : (e : InEvent) (s : Seen) (kind : RowKind) → is_seen checking kind ≡ true → EndsOff checking kind → EachAsked WasSo s.requests → EachAsked WasSo (after s (row_of e kind)).requests
  so_row e s (rows.Sent job) seen ends each =
      so_read s.requests (after s (row_of e (rows.Sent job))).requests each (sent_same way_of unmoved s job job.task s.requests (no_question job.task seen))
  so_row e s (rows.Started req goal) seen ends each =
      so_off (on_request req (λ q. record q { is_started = true; goal = goal }) s.requests) req (request_begun s) (off_of (checking req) seen) (so_off s.requests req (λ q. record q { is_started = true; goal = goal }) (off_of (checking req) seen) each)
  so_row e s (rows.Applied req change) seen ends each =
      so_off (on_request req (λ q. record q { change = Some change }) (ended s.requests req endings.Applied)) req (λ q. record q { took = entries_taken s.history change }) off (so_off (ended s.requests req endings.Applied) req (λ q. record q { change = Some change }) off (so_off s.requests req (λ q. record q { ending = Some endings.Applied }) off each))
    where
      off : checking req ≡ false
      off = off_of (checking req) seen
  so_row e s (rows.Refused req reason) seen ends each =
      so_off s.requests req (λ q. record q { ending = Some (endings.Refused reason) }) ends each
  so_row e s (rows.Dropped req cause) seen ends each = so_dropped s.requests req cause each
  so_row e s _ seen never each = absurd never

  -- ---- rows one after the other

  so_rows : (e : InEvent) (was more : List RowKind) (h : Here) → e.checking ≡ checking → EachGoes e was more → ((row : RowKind) → Has more row → EndsOff checking row) → EachAsked WasSo h.now.requests → EachAsked WasSo (on_rows h (map (row_of e) more)).now.requests
  so_rows e was [] h by goes ends each = each
  so_rows e was (kind ∷ more) h by goes ends each =
      so_rows e (was ++ kind ∷ []) more (on_row h (row_of e kind)) by (rest_goes e was more kind goes) (λ row there. ends row (inr there)) (so_row e h.now kind (sym (ap (λ (c : ReqId → Bool). is_seen c kind) by) ∙ (first_goes e was more kind goes).seen) (ends kind (inl refl)) each)

-- ---- in the event

pub so_since : (e : InEvent) (out : List RowKind) → EachGoes e [] out → ((row : RowKind) → Has out row → EndsOff e.checking row) → EachAsked (WasSo e.checking (log_of e []).requests) (log_of e out).requests
so_since e out goes ends =
    so_rows e.checking (log_of e []).requests e [] out (first_of e) refl goes ends (λ r q at on. (q, at, refl, λ runs. runs))

-- ---- what each row of a coordinator keeps stays

module _ (P : Seen → Type 0) (e : InEvent) (keeps : (s : Seen) (kind : RowKind) → is_seen e.checking kind ≡ true → EndsOff e.checking kind → P s → P (after s (row_of e kind))) where
  pub rows_keep : (was more : List RowKind) (h : Here) → EachGoes e was more → ((row : RowKind) → Has more row → EndsOff e.checking row) → P h.now → P (on_rows h (map (row_of e) more)).now
  rows_keep was [] h goes ends is = is
  rows_keep was (kind ∷ more) h goes ends is =
      rows_keep (was ++ kind ∷ []) more (on_row h (row_of e kind)) (rest_goes e was more kind goes) (λ row there. ends row (inr there)) (keeps h.now kind (first_goes e was more kind goes).seen (ends kind (inl refl)) is)

-- no order was just finished
finished_row : (e : InEvent) (s : Seen) (kind : RowKind) → EndsOff e.checking kind → (after s (row_of e kind)).just_finished ≡ None
finished_row e s (rows.Sent job) ends = refl
finished_row e s (rows.Started req goal) ends = refl
finished_row e s (rows.Applied req change) ends = refl
finished_row e s (rows.Refused req reason) ends = refl
finished_row e s (rows.Dropped req cause) ends = refl
finished_row e s _ never = absurd never

pub finished_since : (e : InEvent) (out : List RowKind) → EachGoes e [] out → ((row : RowKind) → Has out row → EndsOff e.checking row) → (log_of e []).just_finished ≡ None → (log_of e out).just_finished ≡ None
finished_since e out goes ends is =
    rows_keep (λ s. s.just_finished ≡ None) e (λ s kind seen off was. finished_row e s kind off) [] out (first_of e) goes ends is
