-- What holds between two events holds after a document makes something of the first poke of its process, and after the process refuses that poke.
use Rattle.seen_facts.proofs.Coord.Held.{on_else, without_same}
use Rattle.log_model.specs.Places.{is_load, is_ongoing_load, is_under_way}
use Rattle.log_model.specs.Seen.{Asked, Desk, Document, Seen, desk_of, request_in}
use Rattle.log_model.specs.Views.{View, made_for}
use Rattle.log_model.specs.declared.made.What.{What}
use Rattle.log_model.specs.declared.outcome.Denial.{Denial}
use Rattle.log_model.specs.declared.request.Poke.{Poke}
use Rattle.seen_facts.proofs.Request.KnownMoved.{first_poke}
use Rattle.seen_facts.proofs.Request.LookUps.{on_itself}
use Rattle.seen_facts.specs.Request.Cores.{Core, core, core_of}
use Rattle.seen_facts.specs.Request.Knowns.{IsPoke}
use Rattle.row_facts.proofs.RestRows.Rows.{made_rests, refused_rests}
use Rattle.tab_facts.proofs.TabEvents.Ordered.{orders_on}
use Rattle.std.proofs.Common.{Bool, List, None, drop, Option, Some, [], ap, false, refl, sym, true, ℕ, ◌&&◌, ◌∙◌, ◌≡◌}
use Rattle.std.proofs.lemmas.List.{map-id}
use Rattle.std.specs.Prelude.{option_map, slice_get}
use Rattle.tab_facts.proofs.TabEvents.Left.{between_left, keeps_all}
use Rattle.tab_facts.proofs.TabEvents.Requests.{AreLeft, others_left}
use Rattle.tab_facts.proofs.TabEvents.Rows.{made_left}
use Rattle.seen_laws.specs.Acting.{IsNoEdit}
use Rattle.tab_facts.specs.TabEvents.Between.{IsBetweenChecks}
use Rattle.tab_facts.specs.TabWhole.Tab.{at_hand, open_among}
use Rattle.tab_ids.specs.declared.ProcId.{ProcId}
use Rattle.tab_ids.specs.declared.ReqId.{ReqId}
use Rattle.tab_facts.proofs.TabWhole.Acting.{IsActing, acted, acted_flows, acted_tab, not_running, unjoined, unmade_flows, unmade_tab, unparked, unpoked}
use Rattle.log_model.specs.declared.outcome.Ending.TheVariants as endings
use Rattle.log_model.specs.declared.row_kind.Actor.TheVariants as actors

some_same : {A : Type 0} {a b : A} → (let o : Option A = Some a in o) ≡ Some b → a ≡ b
some_same e = cc

neither : (a b : Bool) → b ≡ false → (a && b) ≡ false
neither true b e = e
neither false b e = refl

module _ (keep : ℕ) (run : Option ReqId) {loads : List ReqId} {holds : Bool} (s : Seen) (proc : ProcId) (is : IsBetweenChecks keep run loads holds s) (poke : Poke) (first : slice_get (desk_of s proc).input 0 ≡ Some poke) where
  -- ---- its document acts

  module _ (d : Document) (view : View) (what : What) (acts : IsActing run s proc is.tab is.flows poke first d view what) (no_edit : IsNoEdit what) where
    abbrev then : Seen
    then = acted run s proc is.tab is.flows poke first d view what acts

    pub acted_between : IsBetweenChecks keep run loads holds then
    acted_between =
        between_left keep run s then is (acted_tab run s proc is.tab is.flows poke first d view what acts no_edit)
        (made_left run s s.events (actors.Proc proc) proc (made_for view poke.req what))
        (acted_flows run s proc is.tab is.flows poke first d view what acts)
        (made_rests s s.events (actors.Proc proc) [] is.rests proc (made_for view poke.req what))

  -- ---- its process refuses it

  module _ (event : ℕ) (reason : Denial) where
    abbrev refused : Seen
    refused = unpoked run s proc is.tab is.flows poke first event reason

    -- its request is no load
    no_load : (q : Asked) → request_in s.requests poke.req ≡ Some q → is_ongoing_load q ≡ false
    no_load q there =
        let known : IsPoke (core_of (request_in s.requests poke.req)) poke = first_poke s (at_hand (open_among s.requests loads) []) proc poke first is.tab.once is.tab.known in
        let same : core q ≡ _ = some_same (sym (ap core_of there) ∙ known.is) in
        neither (is_under_way q) (is_load q.what) (ap (λ (c : Core). is_load c.what) same)

    abbrev refuse : Asked → Asked
    refuse q = record q { ending = Some (endings.Refused reason) }

    -- and it has ended then
    ended : (o : Option Asked) → (q : Asked) → option_map refuse o ≡ Some q → is_ongoing_load q ≡ false
    ended None q never = absurd cc
    ended (Some old) q at = sym (ap is_ongoing_load (some_same at)) ∙ by_started old.is_started (is_load old.what)
      where
        by_started : (a b : Bool) → ((a && false) && b) ≡ false
        by_started true b = refl
        by_started false b = refl

    asked : AreLeft run s.requests refused.requests
    asked =
        others_left run s.requests refused.requests poke.req (not_running run s proc is.tab is.flows poke first)
        (λ r apart. on_else s.requests poke.req refuse r apart)
        (λ q at. ended (request_in s.requests poke.req) q (sym (on_itself s.requests poke.req refuse) ∙ at))
        no_load

    pub refused_between : IsBetweenChecks keep run loads holds refused
    refused_between =
        between_left keep run s refused is (unmade_tab run s proc is.tab is.flows poke first event reason)
        (record { g = λ x. x; keeps = keeps_all; documents = sym (map-id s.documents); asked = asked; history = refl; places = refl; kept = refl; joined = without_same s.joined poke.req (unjoined run s proc is.tab is.flows poke first); parked = without_same s.parked poke.req (unparked run s proc is.tab is.flows poke first); orders = orders_on proc (λ (desk : Desk). record desk { input = drop 1 desk.input }) s.desks (λ desk has. has) })
        (unmade_flows run s proc is.tab is.flows poke first event reason)
        (refused_rests s event (actors.Proc proc) [] is.rests poke.req reason)
