-- Rows that change one request, desk or document in the same way, whoever is asked.
use Rattle.std.proofs.Common.{◌≡◌, Bool, true, false, cond, not, ◌==◌, List, [], ◌∷◌, ◌++◌, map, Some, None, refl, sym, ap, ◌∙◌, append-nil}
use Rattle.std.specs.Prelude.{drop, filter, filter_map, slice_get}
use Rattle.std.proofs.lemmas.List.Elements.{filter-append, filter_map-append}
use Rattle.tab_ids.specs.declared.DocId.{DocId}
use Rattle.tab_ids.specs.declared.ReqId.{ReqId}
use Rattle.log_model.specs.declared.job.Job.{Job}
use Rattle.log_model.specs.declared.job.Why.{Why}
use Rattle.log_model.specs.declared.job.Why.TheVariants as whys
use Rattle.log_model.specs.declared.made.Report.{Report}
use Rattle.log_model.specs.Seen.{Asked, Document}
use Rattle.log_model.specs.AfterDocuments.{on_document}
use Rattle.log_model.specs.AfterRequests.{on_request, on_served}
use Rattle.seen_laws.specs.Unasked.{is_question, no_answer, unasked_request, unbegun, unhandled, without_asks}
use Rattle.unasked.proofs.Lists.{map_past, map_still, on_past, on_still}

-- ---- documents

-- a change of a document that doesn't read its handler
pub document_past : (doc : DocId) (f g : Document → Document) (documents : List Document) → ((d : Document) → unhandled (f d) ≡ g (unhandled d)) → map unhandled (on_document doc f documents) ≡ on_document doc g (map unhandled documents)
document_past doc f g documents same =
    map_past unhandled (λ d. cond (d.nr.0 == doc.0) (f d) d) (λ d. cond (d.nr.0 == doc.0) (g d) d) documents (λ d. elim (d.nr.0 == doc.0) as (λ b. unhandled (cond b (f d) d) ≡ cond b (g (unhandled d)) (unhandled d)) [ true ↦ same d | false ↦ refl ])

-- a change of a document that changes but its handler
pub document_still : (doc : DocId) (f : Document → Document) (documents : List Document) → ((d : Document) → unhandled (f d) ≡ unhandled d) → map unhandled (on_document doc f documents) ≡ map unhandled documents
document_still doc f documents same =
    map_still unhandled (λ d. cond (d.nr.0 == doc.0) (f d) d) documents (λ d. elim (d.nr.0 == doc.0) as (λ b. unhandled (cond b (f d) d) ≡ unhandled d) [ true ↦ same d | false ↦ refl ])

-- ---- requests

-- a change of a request, and the same of one that asks nobody and may not have begun
pub record IsAside (f g : Asked → Asked) : Type 0 where
  pub nr : (q : Asked) → (f q).nr ≡ q.nr
  pub off : (q : Asked) → without_asks (f q) ≡ g (without_asks q)
  pub on : (q : Asked) → unbegun (f q) ≡ g (unbegun q)

module _ (checking : ReqId → Bool) where
  -- it goes past
  pub aside : (f g : Asked → Asked) → IsAside f g → (q : Asked) → unasked_request checking (f q) ≡ g (unasked_request checking q)
  aside f g is q = by_check (checking q.nr) refl
    where
      by_check : (b : Bool) → checking q.nr ≡ b → unasked_request checking (f q) ≡ g (unasked_request checking q)
      by_check b e =
          ap (λ r. cond (checking r) (unbegun (f q)) (without_asks (f q))) (is.nr q)
          ∙ ap (λ c. cond c (unbegun (f q)) (without_asks (f q))) e
          ∙ both b
          ∙ ap (λ c. g (cond c (unbegun q) (without_asks q))) (sym e)
        where
          both : (c : Bool) → (let r : Asked = cond c (unbegun (f q)) (without_asks (f q)) in r) ≡ g (cond c (unbegun q) (without_asks q))
          both true = is.on q
          both false = is.off q

  -- of the request of a number
  pub request_past : (f g : Asked → Asked) (req : ReqId) (asked : List Asked) → IsAside f g → map (unasked_request checking) (on_request req f asked) ≡ on_request req g (map (unasked_request checking) asked)
  request_past f g req asked is =
      on_past (unasked_request checking) f g req asked (λ q found. aside f g is q)

  -- of the request of an order
  pub served_past : (why : Why) (f g : Asked → Asked) (asked : List Asked) → IsAside f g → map (unasked_request checking) (on_served why f asked) ≡ on_served why g (map (unasked_request checking) asked)
  served_past (whys.Req req) f g asked is = request_past f g req asked is
  served_past (whys.Death death) f g asked is = refl
  served_past whys.Evict f g asked is = refl
  served_past whys.Start f g asked is = refl

  -- one that isn't seen, of the request of a number
  pub request_still : (f : Asked → Asked) (req : ReqId) (asked : List Asked) → IsAside f (λ q. q) → map (unasked_request checking) (on_request req f asked) ≡ map (unasked_request checking) asked
  request_still f req asked is =
      on_still (unasked_request checking) f req asked (λ q found. aside f (λ r. r) is q)

  -- of the request of an order
  pub served_still : (why : Why) (f : Asked → Asked) (asked : List Asked) → IsAside f (λ q. q) → map (unasked_request checking) (on_served why f asked) ≡ map (unasked_request checking) asked
  served_still (whys.Req req) f asked is = request_still f req asked is
  served_still (whys.Death death) f asked is = refl
  served_still whys.Evict f asked is = refl
  served_still whys.Start f asked is = refl

-- ---- mail and reports

-- mail with an order that asks nobody behind it
pub mail_more : (mail : List Job) (job : Job) → is_question job.task ≡ false → filter (λ (j : Job). not (is_question j.task)) (mail ++ job ∷ []) ≡ filter (λ (j : Job). not (is_question j.task)) mail ++ job ∷ []
mail_more mail job none =
    filter-append (λ (j : Job). not (is_question j.task)) mail (job ∷ [])
    ∙ ap (λ b. filter (λ (j : Job). not (is_question j.task)) mail ++ cond (not b) (job ∷ []) []) none

-- mail with a question behind it
pub mail_same : (mail : List Job) (job : Job) → is_question job.task ≡ true → filter (λ (j : Job). not (is_question j.task)) (mail ++ job ∷ []) ≡ filter (λ (j : Job). not (is_question j.task)) mail
mail_same mail job asks =
    filter-append (λ (j : Job). not (is_question j.task)) mail (job ∷ [])
    ∙ ap (λ b. filter (λ (j : Job). not (is_question j.task)) mail ++ cond (not b) (job ∷ []) []) asks
    ∙ append-nil (filter (λ (j : Job). not (is_question j.task)) mail)

-- reports with one more behind them
pub reports_more : (waiting : List Report) (report told : Report) → no_answer report ≡ Some told → filter_map no_answer (waiting ++ report ∷ []) ≡ filter_map no_answer waiting ++ told ∷ []
reports_more waiting report told is =
    filter_map-append no_answer waiting (report ∷ [])
    ∙ ap (λ l. filter_map no_answer waiting ++ l) (let one : filter_map no_answer (report ∷ []) ≡ told ∷ [] = rw is refl in one)

-- reports with the answer to a question behind them
pub reports_same : (waiting : List Report) (report : Report) → no_answer report ≡ None → filter_map no_answer (waiting ++ report ∷ []) ≡ filter_map no_answer waiting
reports_same waiting report is =
    filter_map-append no_answer waiting (report ∷ [])
    ∙ ap (λ l. filter_map no_answer waiting ++ l) (let one : filter_map no_answer (report ∷ []) ≡ [] = rw is refl in one)
    ∙ append-nil (filter_map no_answer waiting)

-- mail whose first is a question
pub mail_behind : (mail : List Job) (first : Job) → slice_get mail 0 ≡ Some first → is_question first.task ≡ true → filter (λ (j : Job). not (is_question j.task)) (drop 1 mail) ≡ filter (λ (j : Job). not (is_question j.task)) mail
mail_behind [] first at asks = refl
mail_behind (job ∷ mail) first at asks =
    let it : job ≡ first = cc in
    let is : is_question job.task ≡ true = ap (λ (j : Job). is_question j.task) it ∙ asks in
    sym (ap (λ b. cond (not b) (job ∷ filter (λ (j : Job). not (is_question j.task)) mail) (filter (λ (j : Job). not (is_question j.task)) mail)) is)

-- reports whose first is the answer to a question
pub reports_behind : (waiting : List Report) (first : Report) → slice_get waiting 0 ≡ Some first → no_answer first ≡ None → filter_map no_answer (drop 1 waiting) ≡ filter_map no_answer waiting
reports_behind [] first at none = refl
reports_behind (report ∷ waiting) first at none =
    let it : report ≡ first = cc in
    let is : no_answer report ≡ None = ap no_answer it ∙ none in
    rw is refl

-- mail whose first asks nobody
pub mail_first : (mail : List Job) (first : Job) → slice_get mail 0 ≡ Some first → is_question first.task ≡ false → slice_get (filter (λ (j : Job). not (is_question j.task)) mail) 0 ≡ Some first
mail_first [] first at none = cc
mail_first (job ∷ mail) first at none =
    let it : job ≡ first = cc in
    let is : is_question job.task ≡ false = ap (λ (j : Job). is_question j.task) it ∙ none in
    ap (λ b. slice_get (cond (not b) (job ∷ filter (λ (j : Job). not (is_question j.task)) mail) (filter (λ (j : Job). not (is_question j.task)) mail)) 0) is
    ∙ at

-- which leaves the rest
pub mail_rest : (mail : List Job) (first : Job) → slice_get mail 0 ≡ Some first → is_question first.task ≡ false → filter (λ (j : Job). not (is_question j.task)) (drop 1 mail) ≡ drop 1 (filter (λ (j : Job). not (is_question j.task)) mail)
mail_rest [] first at none = refl
mail_rest (job ∷ mail) first at none =
    let it : job ≡ first = cc in
    let is : is_question job.task ≡ false = ap (λ (j : Job). is_question j.task) it ∙ none in
    sym (ap (λ b. drop 1 (cond (not b) (job ∷ filter (λ (j : Job). not (is_question j.task)) mail) (filter (λ (j : Job). not (is_question j.task)) mail))) is)

-- reports whose first is of no question
pub reports_first : (waiting : List Report) (first told : Report) → slice_get waiting 0 ≡ Some first → no_answer first ≡ Some told → slice_get (filter_map no_answer waiting) 0 ≡ Some told
reports_first [] first told at is = cc
reports_first (report ∷ waiting) first told at is =
    let it : report ≡ first = cc in
    let so : no_answer report ≡ Some told = ap no_answer it ∙ is in
    rw so refl

-- which leaves the rest
pub reports_rest : (waiting : List Report) (first told : Report) → slice_get waiting 0 ≡ Some first → no_answer first ≡ Some told → filter_map no_answer (drop 1 waiting) ≡ drop 1 (filter_map no_answer waiting)
reports_rest [] first told at is = refl
reports_rest (report ∷ waiting) first told at is =
    let it : report ≡ first = cc in
    let so : no_answer report ≡ Some told = ap no_answer it ∙ is in
    rw so refl
