-- What holds between two events holds after a document edits itself on the first poke of its process.
use Rattle.log_model.specs.AfterRequests.{entries_taken}
use Rattle.log_model.specs.Places.{is_load, is_ongoing_load, is_under_way}
use Rattle.log_model.specs.Seen.{Asked, Document, Seen, desk_of, request_in}
use Rattle.log_model.specs.Views.{View, made_for}
use Rattle.log_model.specs.declared.change.Change.TheVariants as changes
use Rattle.log_model.specs.declared.made.What.TheVariants as whats
use Rattle.log_model.specs.declared.outcome.Ending.TheVariants as endings
use Rattle.log_model.specs.declared.request.Poke.{Poke}
use Rattle.log_model.specs.declared.row_kind.Actor.TheVariants as actors
use Rattle.row_facts.proofs.RestRows.Rows.{applied_rests, made_rests}
use Rattle.row_facts.specs.RestRows.Moving.{AllRest}
use Rattle.seen_facts.proofs.Coord.Held.{on_else}
use Rattle.seen_facts.proofs.Request.LookUps.{on_itself}
use Rattle.seen_facts.specs.Request.Whereabouts.{is_of_load}
use Rattle.std.proofs.Common.{Bool, List, None, Option, Some, [], ap, false, refl, sym, true, ◌&&◌, ◌∙◌, ◌≡◌, ℕ}
use Rattle.std.specs.Prelude.{option_map, slice_get}
use Rattle.tab_facts.proofs.TabEvents.Left.{IsLeft, between_left, keeps_all, left_twice}
use Rattle.tab_facts.proofs.TabEvents.Requests.{AreLeft, others_left}
use Rattle.tab_facts.proofs.TabEvents.Rows.{made_left}
use Rattle.tab_facts.proofs.TabWhole.Acting.{IsActing, not_running}
use Rattle.tab_facts.proofs.TabWhole.Editing as editing
use Rattle.tab_facts.specs.TabEvents.Between.{IsBetweenChecks}
use Rattle.tab_ids.specs.declared.ProcId.{ProcId}
use Rattle.tab_ids.specs.declared.ReqId.{ReqId}

some_same : {A : Type 0} {a b : A} → (let o : Option A = Some a in o) ≡ Some b → a ≡ b
some_same e = cc

neither : (a b : Bool) → b ≡ false → (a && b) ≡ false
neither true b e = e
neither false b e = refl

module _ (keep : ℕ) (run : Option ReqId) {loads : List ReqId} {holds : Bool} (s : Seen) (proc : ProcId) (is : IsBetweenChecks keep run loads holds s) (poke : Poke) (first : slice_get (desk_of s proc).input 0 ≡ Some poke) (d : Document) (view : View) (acts : IsActing run s proc is.tab is.flows poke first d view whats.Edit) where
  abbrev edits : Seen
  edits = editing.edits run s proc is.tab is.flows poke first d view acts

  abbrev then : Seen
  then = editing.edited run s proc is.tab is.flows poke first d view acts

  -- its request is no load
  no_load : (q : Asked) → request_in edits.requests poke.req ≡ Some q → is_ongoing_load q ≡ false
  no_load q there =
      neither (is_under_way q) (is_load q.what) (sym (ap is_of_load there) ∙ editing.no_load_then run s proc is.tab is.flows poke first d view acts)

  -- and has ended then
  ended : (q : Asked) → request_in then.requests poke.req ≡ Some q → is_ongoing_load q ≡ false
  ended q there =
      by_found (request_in edits.requests poke.req) (sym (on_itself _ poke.req took ∙ ap (λ (o : Option Asked). option_map took o) (on_itself _ poke.req with_change ∙ ap (λ (o : Option Asked). option_map with_change o) (on_itself edits.requests poke.req apply))) ∙ there)
    where
      apply : Asked → Asked
      apply x = record x { ending = Some endings.Applied }

      with_change : Asked → Asked
      with_change x = record x { change = Some changes.Edit }

      took : Asked → Asked
      took x = record x { took = entries_taken edits.history changes.Edit }

      by_started : (a b : Bool) → ((a && false) && b) ≡ false
      by_started true b = refl
      by_started false b = refl

      by_found : (o : Option Asked) → option_map took (option_map with_change (option_map apply o)) ≡ Some q → is_ongoing_load q ≡ false
      by_found None never = absurd cc
      by_found (Some x) at = sym (ap is_ongoing_load (some_same at)) ∙ by_started x.is_started (is_load x.what)

  asked : AreLeft run edits.requests then.requests
  asked =
      others_left run edits.requests then.requests poke.req (not_running run s proc is.tab is.flows poke first)
      (λ r apart. on_else _ poke.req _ r apart ∙ (on_else _ poke.req _ r apart ∙ on_else edits.requests poke.req _ r apart))
      ended no_load

  applied : IsLeft run edits then
  applied =
      record {
        g = λ x. x;
        keeps = keeps_all;
        documents = refl;
        asked = asked;
        history = refl;
        places = editing.edited_places run s proc is.tab is.flows poke first d view acts;
        kept = refl;
        joined = editing.edited_joined run s proc is.tab is.flows poke first d view acts;
        parked = editing.edited_parked run s proc is.tab is.flows poke first d view acts;
        orders = λ go. go;
      }

  pub edited_left : IsLeft run s then
  edited_left =
      left_twice run s edits then (made_left run s s.events (actors.Proc proc) proc (made_for view poke.req whats.Edit)) applied

  rests : AllRest edits
  rests = made_rests s s.events (actors.Proc proc) [] is.rests proc (made_for view poke.req whats.Edit)

  pub edited_between : IsBetweenChecks keep run loads holds then
  edited_between =
      between_left keep run s then is (editing.edited_tab run s proc is.tab is.flows poke first d view acts) edited_left
      (editing.edited_flows run s proc is.tab is.flows poke first d view acts)
      (applied_rests edits s.events (actors.Proc proc) [] rests poke.req changes.Edit)
