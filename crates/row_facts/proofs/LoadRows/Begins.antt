-- A load begins, wherever in its event it does.
use Rattle.row_facts.specs.LoadRows.Beginning.{BeginsAlone, IsLoadToBegin}
use Rattle.log_model.specs.After.{after}
use Rattle.log_model.specs.AfterRequests.{on_request, request_begun}
use Rattle.log_model.specs.Causes.{may_begin_here}
use Rattle.log_model.specs.Once.{has_no_earlier_load, load_begins, may_begin_request}
use Rattle.log_model.specs.Orders.{is_question, question_in}
use Rattle.log_model.specs.Seen.{Asked, Seen, request_in, request_of}
use Rattle.log_model.specs.declared.request.Mode.{Mode}
use Rattle.log_model.specs.declared.row_kind.Actor.{Actor}
use Rattle.log_model.specs.declared.row_kind.LogRow.{LogRow}
use Rattle.seen_laws.proofs.Sendings.{both, led_follows}
use Rattle.seen_laws.specs.Blocks.{Here, MayLog, Passes, point_at}
use Rattle.seen_laws.specs.Owing.{Pays, owes_row}
use Rattle.seen_laws.specs.Sending.{is_led}
use Rattle.std.proofs.Common.{Bool, List, None, Option, Some, [], ap, cond, drop, false, refl, sym, take, true, ℕ, zero, suc, ◌++◌, ◌-◌, ◌==◌, ◌∙◌, ◌∷◌, ◌≡◌}
use Rattle.std.proofs.lemmas.Bool.{and_parts}
use Rattle.std.proofs.lemmas.List.{take-append-drop}
use Rattle.std.proofs.lemmas.List.Elements.{filter_map-append}
use Rattle.std.specs.List.{prefix_len}
use Rattle.std.specs.Option.{option_map_or}
use Rattle.std.specs.Prelude.{filter_map, fold, option_map, slice_get, slice_set, take_while}
use Rattle.tab_ids.specs.declared.NavId.{NavId}
use Rattle.tab_ids.specs.declared.ReqId.{ReqId}
use Rattle.log_model.specs.declared.row_kind.RowKind.TheVariants as rows

-- ---- it begins

-- the row of a load that begins
abbrev pub begun_row : ℕ → Actor → ReqId → LogRow
begun_row event actor req = record { event = event; actor = actor; row = rows.Started req None }

left_empty : {A : Type 0} (xs ys : List A) → xs ++ ys ≡ [] → xs ≡ []
left_empty [] ys is = refl
left_empty (x ∷ xs) ys is = cc

-- where rows ask nothing, the first of them ask nothing
none_first : (req : ReqId) (later : List LogRow) → filter_map (question_in req) later ≡ [] → filter_map (question_in req) (take_while is_question later) ≡ []
none_first req later none =
    let n : ℕ = prefix_len is_question later in
    left_empty (filter_map (question_in req) (take n later)) (filter_map (question_in req) (drop n later))
    (sym (filter_map-append (question_in req) (take n later) (drop n later)) ∙ ap (λ (l : List LogRow). filter_map (question_in req) l) (take-append-drop n later) ∙ none)

pub begin_load_may : (h : Here) (event : ℕ) (actor : Actor) (req : ReqId) (nav : NavId) (mode : Mode) (address : List ℕ) (q : Asked) → is_led h.done ≡ true → IsLoadToBegin h req nav mode address q → MayLog h (begun_row event actor req ∷ []) (BeginsAlone h (begun_row event actor req) req nav)
begin_load_may h event actor req nav mode address q led is later rest = (passes, tt)
  where
    row : LogRow
    row = begun_row event actor req

    begins : load_begins (point_at h later) q nav address ≡ true
    begins = rw is.number (rw (is.accepted, is.placed) (rw is.there (rw is.anew refl)))

    alone : has_no_earlier_load (fold after (after h.now row) later) q.nr nav ≡ true
    alone = rw is.number rest.1

    starts : may_begin_request (point_at h later) row None q ≡ true
    starts = rw (is.unstarted, is.open_) (rw is.what (both begins alone))

    goes_on : may_begin_here h.now q ≡ true
    goes_on = rw is.what refl

    passes : Passes h.header (point_at h later) row
    passes =
        record {
          formed = both (led_follows h.done (point_at h later) row refl led refl) (rw is.at refl);
          once = rw is.at starts;
          caused = rw is.at goes_on;
          queued = rw is.at (rw is.what refl);
          ordered = rw is.at (rw is.what (rw (is.unasked, none_first req later rest.0, rest.0) refl));
          checked = refl;
          in_time = refl;
          suits = refl;
        }

-- it asks no document any more, and owes that no earlier load is ongoing as the event ends
pub begin_load_owing : (h : Here) (event : ℕ) (actor : Actor) (req : ReqId) (nav : NavId) (mode : Mode) (address : List ℕ) (q : Asked) → is_led h.done ≡ true → IsLoadToBegin h req nav mode address q → MayLog h (begun_row event actor req ∷ []) (λ later. (filter_map (question_in req) later ≡ []) × Pays h (begun_row event actor req ∷ []) later)
begin_load_owing h event actor req nav mode address q led is later both_ =
    begin_load_may h event actor req nav mode address q led is later (both_.0, alone)
  where
    end : Seen
    end = fold after (after h.now (begun_row event actor req)) later

    owed : owes_row h (begun_row event actor req) end ≡ true
    owed = (and_parts (owes_row h (begun_row event actor req) end) true both_.1).0

    its : owes_row h (begun_row event actor req) end ≡ has_no_earlier_load end req nav
    its = rw is.at (rw is.what (rw is.number refl))

    alone : has_no_earlier_load end req nav ≡ true
    alone = sym its ∙ owed

-- ---- after that row

-- an item that is set is there
set_there : {A : Type 0} (xs : List A) (n : ℕ) (x y : A) → slice_get xs n ≡ Some x → slice_get (slice_set xs n y) n ≡ Some y
set_there [] n x y at = cc
set_there (z ∷ xs) zero x y at = refl
set_there (z ∷ xs) (suc n) x y at = set_there xs n x y at

on_itself : (asked : List Asked) (req : ReqId) (f : Asked → Asked) → request_in (on_request req f asked) req ≡ option_map f (request_in asked req)
on_itself asked req f = by_number (req.0 == 0)
  where
    by_found : (o : Option Asked) → slice_get asked (req.0 - 1) ≡ o → slice_get (option_map_or (λ q. slice_set asked (req.0 - 1) (f q)) o asked) (req.0 - 1) ≡ option_map f o
    by_found None at = at
    by_found (Some q) at = set_there asked (req.0 - 1) q (f q) at

    by_number : (b : Bool) → (let o : Option Asked = cond b None (slice_get (option_map_or (λ q. slice_set asked (req.0 - 1) (f q)) (cond b None (slice_get asked (req.0 - 1))) asked) (req.0 - 1)) in o) ≡ option_map f (cond b None (slice_get asked (req.0 - 1)))
    by_number true = refl
    by_number false = by_found (slice_get asked (req.0 - 1)) refl

-- the load has begun, with a document state of its own
pub begun_there : (s : Seen) (event : ℕ) (actor : Actor) (req : ReqId) (q : Asked) → request_of s req ≡ Some q → request_of (after s (begun_row event actor req)) req ≡ Some (request_begun s (record q { is_started = true; goal = None }))
begun_there s event actor req q at =
    on_itself (on_request req begun s.requests) req (request_begun s)
    ∙ ap (λ (o : Option Asked). option_map (request_begun s) o) (on_itself s.requests req begun)
    ∙ ap (λ (o : Option Asked). option_map (request_begun s) (option_map begun o)) at
  where
    begun : Asked → Asked
    begun q = record q { is_started = true; goal = None }
