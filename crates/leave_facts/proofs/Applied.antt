-- What an applied change leaves of requests, documents and places, and of whom requests leave where no other traversal is under way.
use Rattle.std.proofs.Common.{◌≡◌, ◌⊎◌, inl, inr, ℕ, ◌+◌, Bool, true, false, not, ◌&&◌, ◌==◌, List, map, Option, Some, None, refl, sym, ap, ◌∙◌, arith}
use Rattle.std.specs.Prelude.{filter, nat_le, option_map}
use Rattle.std.proofs.lemmas.Bool.Decides.{nat_tests}
use Rattle.tab_ids.specs.declared.NavId.{NavId}
use Rattle.tab_ids.specs.declared.ReqId.{ReqId}
use Rattle.tab_ids.specs.declared.Step.{Step}
use Rattle.log_model.specs.declared.change.Change.{Change}
use Rattle.log_model.specs.declared.change.Change.TheVariants as changes
use Rattle.log_model.specs.declared.outcome.Ending.TheVariants as endings
use Rattle.log_model.specs.declared.request.Request.{Request}
use Rattle.log_model.specs.declared.row.Row.{Row}
use Rattle.log_model.specs.declared.row_kind.Actor.{Actor}
use Rattle.log_model.specs.declared.row_kind.RowKind.TheVariants as rows
use Rattle.log_model.specs.After.{after, ended}
use Rattle.log_model.specs.AfterRequests.{entries_taken, on_request}
use Rattle.log_model.specs.History.{applied, cleared, fits, has_row, is_of, owner_of, replaced_row}
use Rattle.log_model.specs.Places.{is_traversal, is_under_way}
use Rattle.log_model.specs.Seen.{Asked, Seen, request_of}
use Rattle.log_model.specs.Soundness.{IsSound}
use Rattle.seen_facts.proofs.Hang.Forms.{nav_is}
use Rattle.seen_facts.proofs.Hang.Frames.{IsNoFrame, applied_kept}
use Rattle.seen_facts.proofs.Hang.Members.{IsOf, Passing, any_has, has_any, has_filter, has_map, has_more, has_tidied}
use Rattle.seen_facts.proofs.Hang.Rows.{applied_hangs}
use Rattle.seen_facts.proofs.Request.LookUps.{on_itself}
use Rattle.seen_facts.specs.Each.Runs.{OnlyRuns, is_run}
use Rattle.seen_facts.specs.Hang.Changing.{BringsState}
use Rattle.seen_facts.specs.Hang.Hanging.{Hangs}
use Rattle.seen_facts.specs.Hang.Members.{Has}
use Rattle.tab_facts.proofs.FrameTab.Stating.{puts_nav}
use Rattle.leave_facts.specs.Leaving.{AreAsked, IsGoing, BelowAsked}
use Rattle.leave_facts.proofs.Below.{below_stays}
use Rattle.leave_facts.proofs.Documents.{documents_applied}
use Rattle.leave_facts.proofs.Requests.{as_read, requests_stay, there_applied, there_on, were_there}
use Rattle.leave_facts.proofs.Rows.{places_stay}
use Rattle.leave_facts.proofs.Stays.{DocumentsStay, IsNoneGoing, PlacesStay, RequestsStay, RowsStay, WasThere, asked_alone, has_started}

-- the navigables hang together, the change fits, its document state is as it should be, and it leaves a sound history
pub record FitsWell (s : Seen) (change : Change) : Type 0 where
  pub sound : IsSound s.history
  pub hangs : Hangs s
  pub fit : fits s.history change ≡ true
  pub brings : BringsState s.history change
  pub then_sound : IsSound (applied s.history change)

-- no other traversal is under way
pub record GoesAlone (s : Seen) (req : ReqId) : Type 0 where
  pub none : (r : ReqId) (q : Asked) (goal : Step) → IsGoing s r q goal → (r.0 == req.0) ≡ true

-- so where it alone runs
pub runs_alone : (s : Seen) (req : ReqId) → OnlyRuns (Some req) s → GoesAlone s req
runs_alone s req only = record { none = λ r q goal is. alone r q is.found (both is.going is.traverses) }
  where
    both : {a b : Bool} → a ≡ true → b ≡ true → (a && b) ≡ true
    both p q = rw (p, q) refl

    alone : (r : ReqId) (q : Asked) → request_of s r ≡ Some q → is_run q ≡ true → (r.0 == req.0) ≡ true
    alone r q found runs =
        let its : (req.0 == r.0) ≡ true = sym (only r q found) ∙ runs in
        grind (arith, nat_tests, its)

-- or where none does
pub none_runs : (s : Seen) (req : ReqId) → OnlyRuns None s → GoesAlone s req
none_runs s req only = record { none = λ r q goal is. alone r q is.found (both is.going is.traverses) }
  where
    both : {a b : Bool} → a ≡ true → b ≡ true → (a && b) ≡ true
    both p q = rw (p, q) refl

    alone : (r : ReqId) (q : Asked) → request_of s r ≡ Some q → is_run q ≡ true → (r.0 == req.0) ≡ true
    alone r q found runs = (let never : true ≡ false = sym runs ∙ only r q found in absurd cc)

-- ---- the rows of the history

-- who has an entry had one
pub rows_were : (s : Seen) (change : Change) → IsNoFrame change → fits s.history change ≡ true → (nav : NavId) → has_row nav (applied s.history change).rows ≡ true → has_row nav s.history.rows ≡ true
rows_were s (changes.Push at entry state address memo) no_frame fit nav has = by_row a.it (has_more (cleared s.history) new a.it a.there) a.passes
  where
    new : Row
    new =
        record {
          owner = owner_of at (cleared s.history);
          nav = at;
          entry = entry;
          step = record { 0 = s.history.current + 1 };
          state = state;
          address = address;
          memo = memo;
        }

    a : Passing (is_of nav) (applied s.history (changes.Push at entry state address memo)).rows
    a = any_has (is_of nav) (applied s.history (changes.Push at entry state address memo)).rows has

    old : (row : Row) → Has (cleared s.history) row → Has s.history.rows row
    old row there =
        (has_filter (λ (r : Row). nat_le r.step.0 s.history.current) s.history.rows row (has_tidied (filter (λ (r : Row). nat_le r.step.0 s.history.current) s.history.rows) row there).0).0

    by_row : (row : Row) → Has (cleared s.history) row ⊎ (new ≡ row) → is_of nav row ≡ true → has_row nav s.history.rows ≡ true
    by_row row (inl there) is = has_any (is_of nav) s.history.rows row (old row there) is
    by_row row (inr same) is =
        let b : Passing (is_of at) (cleared s.history) = any_has (is_of at) (cleared s.history) fit in
        let own : at ≡ nav = nav_is at nav (ap (λ (r : Row). is_of nav r) same ∙ is) in
        has_any (is_of nav) s.history.rows b.it (old b.it b.there) (ap (λ (n : NavId). is_of n b.it) (sym own) ∙ b.passes)
rows_were s (changes.Replace at over entry state address memo) no_frame fit nav has =
    has_any (is_of nav) s.history.rows x.it x.there (ap (λ (n : NavId). n.0 == nav.0) (sym (puts_nav over put x.it) ∙ ap (λ (r : Row). r.nav) x.is) ∙ a.passes)
  where
    put : Row
    put =
        record { owner = None; nav = at; entry = entry; step = record { 0 = 0 }; state = state; address = address; memo = memo }

    a : Passing (is_of nav) (applied s.history (changes.Replace at over entry state address memo)).rows
    a = any_has (is_of nav) (applied s.history (changes.Replace at over entry state address memo)).rows has

    x : IsOf (replaced_row over put) s.history.rows a.it
    x =
        has_map (replaced_row over put) s.history.rows a.it (has_tidied (map (replaced_row over put) s.history.rows) a.it a.there).0
rows_were s (changes.AddFrame owner at entry state) never fit nav has = absurd never
rows_were s (changes.RemoveFrame at) no_frame fit nav has =
    let a : Passing (is_of nav) (applied s.history (changes.RemoveFrame at)).rows = any_has (is_of nav) (applied s.history (changes.RemoveFrame at)).rows has in
    has_any (is_of nav) s.history.rows a.it (has_filter (λ (row : Row). not (is_of at row)) s.history.rows a.it (has_tidied (filter (λ (row : Row). not (is_of at row)) s.history.rows) a.it a.there).0).0 a.passes
rows_were s (changes.Traverse goal) no_frame fit nav has = has
rows_were s (changes.Reload at) no_frame fit nav has = has
rows_were s changes.Edit no_frame fit nav has = has

-- ---- the row

module _ (s : Seen) (event : ℕ) (actor : Actor) (req : ReqId) (change : Change) where
  -- what the log has come to then
  abbrev pub changed : Seen
  changed = after s (record { event = event; actor = actor; row = rows.Applied req change })

  -- the requests stay
  pub requests_then : RequestsStay s changed
  requests_then =
      requests_stay s changed (there_on s (on_request req (λ q. record q { change = Some change }) (ended s.requests req endings.Applied)) req _ (λ q. as_read q _ refl) (there_applied s s.requests req change (were_there s)))

  -- so do the documents
  pub documents_then : DocumentsStay s changed
  documents_then = record { each = documents_applied s change }

  -- and the places, where no frame is added
  pub places_then : IsNoFrame change → PlacesStay s changed
  places_then no_frame = places_stay s changed (applied_kept s req change no_frame)

  -- so whom loads and reloads leave was asked for them still
  pub below_then : IsNoFrame change → BelowAsked s → BelowAsked changed
  below_then no_frame asked = below_stays s changed requests_then documents_then (places_then no_frame) asked

  -- and who has entries
  pub rows_then : IsNoFrame change → fits s.history change ≡ true → RowsStay s changed
  rows_then no_frame fit = record { each = λ doc d for found has. rows_were s change no_frame fit d.nav has }

  -- the navigables hang together then
  pub hangs_then : FitsWell s change → Hangs changed
  hangs_then well = applied_hangs s event actor req well.sound well.hangs change well.fit well.brings

  -- the request has ended
  ended_then : (q : Asked) → request_of changed req ≡ Some q → is_under_way q ≡ true → ⊥
  ended_then q found going =
      by_found (request_of s req) (sym its ∙ found)
    where
      one : List Asked
      one = ended s.requests req endings.Applied

      two : List Asked
      two = on_request req (λ x. record x { change = Some change }) one

      f : Asked → Asked
      f x = record (record (record x { ending = Some endings.Applied }) { change = Some change }) { took = entries_taken s.history change }

      its : request_of changed req ≡ option_map f (request_of s req)
      its =
          on_itself two req (λ x. record x { took = entries_taken s.history change })
          ∙ ap (λ (o : Option Asked). option_map (λ (x : Asked). record x { took = entries_taken s.history change }) o) (on_itself one req (λ x. record x { change = Some change }))
          ∙ ap (λ (o : Option Asked). option_map (λ (x : Asked). record x { took = entries_taken s.history change }) (option_map (λ (x : Asked). record x { change = Some change }) o)) (on_itself s.requests req (λ x. record x { ending = Some endings.Applied }))
          ∙ both (request_of s req)
        where
          both : (o : Option Asked) → option_map (λ (x : Asked). record x { took = entries_taken s.history change }) (option_map (λ (x : Asked). record x { change = Some change }) (option_map (λ (x : Asked). record x { ending = Some endings.Applied }) o)) ≡ option_map f o
          both None = refl
          both (Some x) = refl

      by_start : (b : Bool) → (b && false) ≡ true → ⊥
      by_start true e = cc
      by_start false e = cc

      by_found : (o : Option Asked) → option_map f o ≡ Some q → ⊥
      by_found None e = cc
      by_found (Some x) e =
          let same : f x ≡ q = cc in
          by_start x.is_started (ap (λ (y : Asked). is_under_way y) same ∙ going)

  -- where no other traversal was under way, none is
  pub none_then : GoesAlone s req → IsNoneGoing changed
  none_then alone = record { none = never }
    where
      never : (r : ReqId) (q : Asked) (goal : Step) → IsGoing changed r q goal → ⊥
      never r q goal is = ended_then q (ap (λ (x : ReqId). request_of changed x) (sym its) ∙ is.found) is.going
        where
          was : WasThere s r q
          was = requests_then.each r q is.found (has_started q is.going)

          before : IsGoing s r was.old goal
          before =
              record { found = was.found; going = was.same.going is.going; traverses = ap (λ (w : Request). is_traversal w) was.same.what ∙ is.traverses; goal_is = was.same.goal ∙ is.goal_is }

          its : r ≡ req
          its =
              let number : r.0 ≡ req.0 = (let same : (r.0 == req.0) ≡ true = alone.none r was.old goal before in grind (arith, nat_tests, same)) in
              ap (λ (n : ℕ). let x : ReqId = record { 0 = n } in x) number

  -- where no other traversal is under way, a change that adds no frame leaves whom requests leave asked
  pub alone_asked : IsNoFrame change → fits s.history change ≡ true → GoesAlone s req → AreAsked s → AreAsked changed
  alone_asked no_frame fit alone asked =
      asked_alone s changed requests_then documents_then (places_then no_frame) (rows_then no_frame fit) (none_then alone) asked
