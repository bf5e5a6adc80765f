-- A fragment order is finished, and where its document runs, what the document makes of it is told straight after.
use Rattle.row_facts.specs.LeaveRows.Fragments.{IsFragmentInHand, fragment_of}
use Rattle.log_model.proofs.Refl.{nat_eq_refl, same_what_refl}
use Rattle.log_model.specs.After.{after, follows_finished}
use Rattle.log_model.specs.AfterDocuments.{view_finished}
use Rattle.log_model.specs.AfterRequests.{is_running, on_request}
use Rattle.log_model.specs.Formed.{is_followed_by_made}
use Rattle.log_model.specs.Once.{is_made_duly, is_made_in, is_made_of_order}
use Rattle.log_model.specs.Seen.{Asked, Document, Seen, desk_of, document_of, request_in, request_of}
use Rattle.log_model.specs.Views.{View, made_for, made_of_task}
use Rattle.log_model.specs.declared.header.Header.{Header}
use Rattle.log_model.specs.declared.job.Job.{Job}
use Rattle.log_model.specs.declared.job.Order.{Order}
use Rattle.log_model.specs.declared.made.Made.{Made}
use Rattle.log_model.specs.declared.request.Mode.{Mode}
use Rattle.log_model.specs.declared.row_kind.LogRow.{LogRow}
use Rattle.seen_laws.proofs.Keyed.{find_on_same}
use Rattle.seen_laws.proofs.Sendings.{both}
use Rattle.seen_laws.specs.Blocks.{EachPass, Passes}
use Rattle.std.proofs.Common.{Bool, List, None, Option, Some, [], cond, false, not, refl, suc, true, zero, ℕ, ◌&&◌, ◌+◌, ◌-◌, ◌==◌, ◌∙◌, ◌∷◌, ◌≡◌}
use Rattle.std.specs.Option.{option_map_or}
use Rattle.std.specs.Prelude.{option_map, slice_get, slice_set}
use Rattle.tab_ids.specs.declared.ProcId.{ProcId}
use Rattle.tab_ids.specs.declared.ReqId.{ReqId}
use Rattle.log_model.specs.declared.job.Task.TheVariants as tasks
use Rattle.log_model.specs.declared.outcome.Outcome.TheVariants as outcomes
use Rattle.log_model.specs.declared.row_kind.Actor.TheVariants as actors
use Rattle.log_model.specs.declared.row_kind.RowKind.TheVariants as rows

-- ---- a request that is changed

set_there : {A : Type 0} (xs : List A) (n : ℕ) (x y : A) → slice_get xs n ≡ Some x → slice_get (slice_set xs n y) n ≡ Some y
set_there [] n x y at = cc
set_there (z ∷ xs) zero x y at = refl
set_there (z ∷ xs) (suc n) x y at = set_there xs n x y at

on_itself : (asked : List Asked) (req : ReqId) (f : Asked → Asked) → request_in (on_request req f asked) req ≡ option_map f (request_in asked req)
on_itself asked req f = by_number (req.0 == 0)
  where
    by_found : (o : Option Asked) → slice_get asked (req.0 - 1) ≡ o → slice_get (option_map_or (λ q. slice_set asked (req.0 - 1) (f q)) o asked) (req.0 - 1) ≡ option_map f o
    by_found None e = e
    by_found (Some q) e = set_there asked (req.0 - 1) q (f q) e

    by_number : (b : Bool) → (let o : Option Asked = cond b None (slice_get (option_map_or (λ q. slice_set asked (req.0 - 1) (f q)) (cond b None (slice_get asked (req.0 - 1))) asked) (req.0 - 1)) in o) ≡ option_map f (cond b None (slice_get asked (req.0 - 1)))
    by_number true = refl
    by_number false = by_found (slice_get asked (req.0 - 1)) refl

-- what was made of an order, as the row after its end
made_duly : (s : Seen) (row : LogRow) (proc : ProcId) (made : Made) (q : Asked) (job : Job) → request_of s made.req ≡ Some q → q.made ≡ None → follows_finished s row ≡ true → s.just_finished ≡ Some job → is_made_of_order s proc made job ≡ true → is_made_duly s row proc made ≡ true
made_duly s row proc made q job at unmade follows just of = rw at (rw unmade (rw follows (rw just of)))

-- ---- the order is finished

-- the row with which the process finishes it
abbrev pub fragmented_row : ℕ → ProcId → Order → LogRow
fragmented_row event proc order =
    record { event = event; actor = actors.Proc proc; row = rows.Finished proc order.job.nr outcomes.Fragmented }

-- the row that tells what was made
abbrev pub fragment_row : ℕ → ProcId → View → ReqId → Mode → List ℕ → LogRow
fragment_row event proc view req mode address =
    record { event = event; actor = actors.Proc proc; row = rows.Made proc (made_for view req (fragment_of view mode address)) }

-- that row alone follows
pub followed_by : (event : ℕ) (proc : ProcId) (view : View) (req : ReqId) (mode : Mode) (address : List ℕ) → is_followed_by_made (fragment_row event proc view req mode address ∷ []) req ≡ true
followed_by event proc view req mode address = nat_eq_refl req.0

-- where its document doesn't run, nothing follows
pub fragment_void_passes : (header : Header) (s : Seen) (event : ℕ) (proc : ProcId) (order : Order) (req : ReqId) (mode : Mode) (address : List ℕ) → (desk_of s proc).in_hand ≡ Some order → order.job.task ≡ tasks.DoFragment req mode address → is_running s order.job.doc ≡ false → Passes header (record { start = s; now = s; done = []; later = [] }) (fragmented_row event proc order)
fragment_void_passes header s event proc order req mode address hand task stopped =
    record {
      formed = rw (nat_eq_refl proc.0, hand) (rw (nat_eq_refl order.job.nr.0, task) (rw stopped refl));
      once = refl;
      caused = refl;
      queued = refl;
      ordered = refl;
      checked = refl;
      in_time = refl;
      suits = rw hand (rw task refl);
    }

module _ (header : Header) (s : Seen) (event : ℕ) (proc : ProcId) (order : Order) (req : ReqId) (mode : Mode) (address : List ℕ) (d : Document) (view : View) (does : IsFragmentInHand s proc order req mode address d view) where
  running : is_running s order.job.doc ≡ true
  running = rw does.found (rw does.has does.runs)

  -- where it does, what the document makes of it follows
  pub fragmented_passes : (later : List LogRow) → is_followed_by_made later req ≡ true → Passes header (record { start = s; now = s; done = []; later = later }) (fragmented_row event proc order)
  fragmented_passes later followed =
      record {
        formed = rw (nat_eq_refl proc.0, does.hand) (rw (nat_eq_refl order.job.nr.0, does.task) (rw running followed));
        once = refl;
        caused = refl;
        queued = refl;
        ordered = refl;
        checked = refl;
        in_time = refl;
        suits = rw does.hand (rw does.task refl);
      }

  -- ---- what was made of it

  abbrev finished : Seen
  finished = after s (fragmented_row event proc order)

  abbrev told : Made
  told = made_for view req (fragment_of view mode address)

  -- the order is the one just finished
  follows : follows_finished finished (fragment_row event proc view req mode address) ≡ true
  follows = rw (nat_eq_refl (event + 1)) (rw does.hand refl)

  just : finished.just_finished ≡ Some order.job
  just = rw does.hand refl

  -- the document's view is as it was
  document_then : document_of finished view.doc ≡ Some d
  document_then =
      rw does.of (rw does.hand (find_on_same (λ (x : Document). x.nr.0) (λ (x : Document). record x { view = view_finished x order.job.task }) order.job.doc.0 s.documents (λ x. refl) ∙ rw does.found (rw does.task refl)))

  -- and the request is the load that it was
  request_then : (q : Asked) → request_of s req ≡ Some q → request_of finished req ≡ Some (record q { is_not_found = not (is_running s order.job.doc) })
  request_then q at =
      rw does.hand (rw does.task (on_itself s.requests req (λ (x : Asked). record x { is_not_found = not (is_running s order.job.doc) }) ∙ rw at refl))

  made_in : is_made_in finished proc told (λ (v : View). made_of_task v (tasks.DoFragment req mode address)) ≡ true
  made_in =
      rw document_then (rw (does.home, does.has) (rw (nat_eq_refl proc.0, does.runs, nat_eq_refl view.epoch.0) (same_what_refl (fragment_of view mode address))))

  made_of : is_made_of_order finished proc told order.job ≡ true
  made_of =
      let one : (order.job.doc.0 == view.doc.0) ≡ true = rw does.of (nat_eq_refl order.job.doc.0) in
      let all : (order.job.doc.0 == view.doc.0 && req.0 == req.0 && is_made_in finished proc told (λ (v : View). made_of_task v (tasks.DoFragment req mode address))) ≡ true = both (both one (nat_eq_refl req.0)) made_in in
      rw does.task all

  pub fragment_made_passes : (q : Asked) → request_of s req ≡ Some q → q.made ≡ None → Passes header (record { start = s; now = after s (fragmented_row event proc order); done = fragmented_row event proc order ∷ []; later = [] }) (fragment_row event proc view req mode address)
  fragment_made_passes q at unmade =
      record {
        formed = refl;
        once = made_duly finished (fragment_row event proc view req mode address) proc told (record q { is_not_found = not (is_running s order.job.doc) }) order.job (request_then q at) unmade follows just made_of;
        caused = refl;
        queued = refl;
        ordered = refl;
        checked = refl;
        in_time = refl;
        suits = refl;
      }

  -- the two rows are the event
  pub fragment_event_passes : (q : Asked) → request_of s req ≡ Some q → q.made ≡ None → EachPass (record { header = header; start = s; now = s; done = [] }) (fragmented_row event proc order ∷ fragment_row event proc view req mode address ∷ []) []
  fragment_event_passes q at unmade =
      (fragmented_passes (fragment_row event proc view req mode address ∷ []) (followed_by event proc view req mode address), (fragment_made_passes q at unmade, tt))
