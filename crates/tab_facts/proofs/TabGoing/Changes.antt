-- All that goes on does so as a request begins, and as a change is applied, where what holds between two rows does, and what lasts.
use Rattle.seen_facts.proofs.Coord.Unread.{next}
use Rattle.tab_facts.specs.Last.Lasting.{AreLasting}
use Rattle.log_model.specs.AfterRequests.{on_request, request_begun}
use Rattle.log_model.specs.History.{has_state}
use Rattle.log_model.specs.Seen.{Asked, Seen, request_of}
use Rattle.log_model.specs.declared.change.Change.{Change}
use Rattle.log_model.specs.declared.made.Made.{Made}
use Rattle.log_model.specs.declared.row_kind.Actor.{Actor}
use Rattle.log_model.specs.declared.row_kind.RowKind.{RowKind}
use Rattle.std.proofs.Common.{List, None, Option, Some, [], arith, cond, false, length, refl, true, ℕ, ◌+◌, ◌<◌, ◌==◌, ◌∙◌, ◌≡◌, ◌≤◌}
use Rattle.tab_facts.proofs.TabGoing.Counts.{applied_long, applied_more, as_many, count_same}
use Rattle.tab_facts.proofs.TabGoing.Epochs.{IsNoReload, applied_up}
use Rattle.tab_facts.proofs.TabGoing.HeldUp.{applied_held, begun_held, none_held_up}
use Rattle.tab_facts.proofs.TabGoing.Steps.{added_steps, pushed_steps, removed_steps, replaced_steps, steps_still, traversed_steps}
use Rattle.tab_facts.specs.TabGoing.Going.{AreCounted, AreHeldUp, AreSteps, IsGoing, count_of, has_ended}
use Rattle.tab_ids.specs.declared.EntryId.{EntryId}
use Rattle.tab_ids.specs.declared.NavId.{NavId}
use Rattle.tab_ids.specs.declared.ReqId.{ReqId}
use Rattle.tab_ids.specs.declared.StateId.{StateId}
use Rattle.tab_ids.specs.declared.Step.{Step}
use Rattle.tab_facts.specs.TabWhole.Tab.{IsTab}
use Rattle.log_model.specs.declared.change.Change.TheVariants as changes
use Rattle.log_model.specs.declared.row_kind.RowKind.TheVariants as rows

module _ (run : Option ReqId) (loads : List ReqId) (hand : List Made) (s : Seen) (event : ℕ) (actor : Actor) (going : IsGoing run loads hand s) (req : ReqId) (q : Asked) (there : request_of s req ≡ Some q) where
  abbrev then_ : RowKind → Seen
  then_ kind = next s event actor kind

  -- ---- a request begins

  module _ (goal : Option Step) where
    abbrev begin : Asked → Asked
    begin x = record x { is_started = true; goal = goal }

    abbrev begun : List Asked
    begun = on_request req (request_begun s) (on_request req begin s.requests)

    begun_long : length begun ≡ length s.requests
    begun_long = as_many (on_request req begin s.requests) req (request_begun s) ∙ as_many s.requests req begin

    begun_ended : count_of has_ended begun ≡ count_of has_ended s.requests
    begun_ended =
        count_same has_ended (on_request req begin s.requests) req (request_begun s) (λ x at. refl) ∙ count_same has_ended s.requests req begin (λ x at. refl)

    begins_going : (run2 : Option ReqId) (now : List ReqId) (left : List Made) → AreHeldUp run2 (then_ (rows.Started req goal)) → IsTab run2 now left (then_ (rows.Started req goal)) → AreLasting (then_ (rows.Started req goal)) → IsGoing run2 now left (then_ (rows.Started req goal))
    begins_going run2 now left held tab lasting =
        let long : length begun ≡ length s.requests = begun_long in
        let same : count_of has_ended begun ≡ count_of has_ended s.requests = begun_ended in
        let fewer : s.entries ≤ 1 + count_of has_ended s.requests = going.counted.entries in
        let room : length s.requests + 2 < 4294967296 = going.room in
        record {
          tab = tab;
          lasting = lasting;
          counted = record { entries = omega (arith, fewer, same); epochs = going.counted.epochs };
          steps = steps_still s (then_ (rows.Started req goal)) going.steps refl (omega (arith, same));
          held = held;
          room = omega (arith, long, room);
        }

    -- a traversal, while nothing is held back
    pub begun_going : s.parked ≡ [] → (now : List ReqId) (left : List Made) → IsTab (Some req) now left (then_ (rows.Started req goal)) → AreLasting (then_ (rows.Started req goal)) → IsGoing (Some req) now left (then_ (rows.Started req goal))
    begun_going free now left tab lasting =
        begins_going (Some req) now left (none_held_up (Some req) (then_ (rows.Started req goal)) free) tab lasting

    -- a load
    pub load_begun_going : (now : List ReqId) (left : List Made) → IsTab run now left (then_ (rows.Started req goal)) → AreLasting (then_ (rows.Started req goal)) → IsGoing run now left (then_ (rows.Started req goal))
    load_begun_going now left tab lasting =
        begins_going run now left (begun_held run s event actor going.held req goal) tab lasting

  -- ---- a change is applied

  module _ (unended : q.ending ≡ None) where
    abbrev changed : Change → Seen
    changed change = then_ (rows.Applied req change)

    ended_more : (change : Change) → count_of has_ended (changed change).requests ≡ count_of has_ended s.requests + 1
    ended_more change = applied_more s event actor req change has_ended q (λ x. refl) (λ x. refl) there (rw unended refl) refl

    -- an entry more may be numbered
    counted : (change : Change) → IsNoReload change → (changed change).entries ≤ s.entries + 1 → AreCounted (changed change)
    counted change no_reload up =
        record {
          entries = (let low : s.entries ≤ 1 + count_of has_ended s.requests = going.counted.entries in let more : count_of has_ended (changed change).requests ≡ count_of has_ended s.requests + 1 = ended_more change in omega (arith, low, more, up));
          epochs = applied_up (s.jobs + 1) s req change no_reload going.counted.epochs;
        }

    applies_going : (change : Change) (run2 : Option ReqId) (now : List ReqId) (left : List Made) → IsNoReload change → (changed change).entries ≤ s.entries + 1 → AreSteps (changed change) → AreHeldUp run2 (changed change) → IsTab run2 now left (changed change) → AreLasting (changed change) → IsGoing run2 now left (changed change)
    applies_going change run2 now left no_reload up steps held tab lasting =
        record {
          tab = tab;
          lasting = lasting;
          counted = counted change no_reload up;
          steps = steps;
          held = held;
          room = (let long : length (changed change).requests ≡ length s.requests = applied_long s event actor req change in let room : length s.requests + 2 < 4294967296 = going.room in omega (arith, long, room));
        }

    by_maker : (maker : ℕ) → (let n : ℕ = cond (maker == 0) (s.entries + 1) s.entries in n) ≤ s.entries + 1
    by_maker maker = elim (maker == 0) as (λ b. (let n : ℕ = cond b (s.entries + 1) s.entries in n) ≤ s.entries + 1) [ true ↦ omega arith | false ↦ omega arith ]

    pub pushed_going : (nav : NavId) (entry : EntryId) (state : StateId) (address : List ℕ) (memo : Option (List ℕ)) (now : List ReqId) (left : List Made) → IsTab run now left (changed (changes.Push nav entry state address memo)) → AreLasting (changed (changes.Push nav entry state address memo)) → IsGoing run now left (changed (changes.Push nav entry state address memo))
    pushed_going nav entry state address memo now left =
        applies_going (changes.Push nav entry state address memo) run now left tt (by_maker entry.maker) (pushed_steps s event actor going.steps req q there unended nav entry state address memo) (applied_held run s event actor going.held req (changes.Push nav entry state address memo))

    pub replaced_going : (nav : NavId) (over entry : EntryId) (state : StateId) (address : List ℕ) (memo : Option (List ℕ)) (now : List ReqId) (left : List Made) → IsTab run now left (changed (changes.Replace nav over entry state address memo)) → AreLasting (changed (changes.Replace nav over entry state address memo)) → IsGoing run now left (changed (changes.Replace nav over entry state address memo))
    replaced_going nav over entry state address memo now left =
        applies_going (changes.Replace nav over entry state address memo) run now left tt (by_maker entry.maker) (replaced_steps s event actor going.steps req q there unended nav over entry state address memo) (applied_held run s event actor going.held req (changes.Replace nav over entry state address memo))

    pub added_going : (owner : StateId) (nav : NavId) (entry : EntryId) (state : StateId) → has_state owner s.history.rows ≡ true → (now : List ReqId) (left : List Made) → IsTab run now left (changed (changes.AddFrame owner nav entry state)) → AreLasting (changed (changes.AddFrame owner nav entry state)) → IsGoing run now left (changed (changes.AddFrame owner nav entry state))
    added_going owner nav entry state owns now left =
        applies_going (changes.AddFrame owner nav entry state) run now left tt (omega arith) (added_steps s event actor going.steps req q there unended owner nav entry state owns) (applied_held run s event actor going.held req (changes.AddFrame owner nav entry state))

    pub removed_going : (nav : NavId) (now : List ReqId) (left : List Made) → IsTab run now left (changed (changes.RemoveFrame nav)) → AreLasting (changed (changes.RemoveFrame nav)) → IsGoing run now left (changed (changes.RemoveFrame nav))
    removed_going nav now left =
        applies_going (changes.RemoveFrame nav) run now left tt (omega arith) (removed_steps s event actor going.steps req q there unended nav) (applied_held run s event actor going.held req (changes.RemoveFrame nav))

    -- the traversal that runs ends
    pub traversed_going : (goal : Step) (now : List ReqId) (left : List Made) → IsTab None now left (changed (changes.Traverse goal)) → AreLasting (changed (changes.Traverse goal)) → IsGoing None now left (changed (changes.Traverse goal))
    traversed_going goal now left =
        applies_going (changes.Traverse goal) None now left tt (omega arith) (traversed_steps s event actor going.steps req q there unended goal) tt
