-- What the call asks of its parts, and what it says, in the words of its contract.
use Rattle.tab_stands.specs.PassedOn.{IsReadyIn}
use Rattle.load_doors.specs.Logged.{IsLogged}
use Rattle.seen_facts.specs.Hang.Members.{Has}
use Rattle.seen_facts.proofs.Kept.States.{states_oldest}
use Rattle.seen_facts.specs.Kept.Keeping.{state_in}
use Rattle.log_model.specs.Equal.{has_doc}
use Rattle.log_model.specs.Seen.{Document, Seen}
use Rattle.log_model.specs.declared.row_kind.RowKind.{RowKind}
use Rattle.move_queue.specs.Queue.{Queue}
use Rattle.nav_tree.specs.Tree.{docs_of, document_of as document_at}
use Rattle.nav_tree.specs.declared.place.Place as live_place
use Rattle.page_cache.specs.Kept.{oldest_of}
use Rattle.row_facts.specs.Owed.Owed.{IsLoose}
use Rattle.seen_laws.specs.InEvent.{InEvent, log_of, now_of}
use Rattle.std.proofs.Common.{Bool, List, None, Option, Some, [], ap, false, refl, subst, sym, true, ◌++◌, ◌∙◌, ◌∷◌, ◌≡◌}
use Rattle.std.specs.List.Sorted.{IsPermutation}
use Rattle.std.specs.Option.{IsSome}
use Rattle.std.specs.Prelude.{is_some, option_and_then, option_map}
use Rattle.tab_doors.specs.Orders.{order_to}
use Rattle.tab_facts.specs.Calm.Calm.{IsCalmYet}
use Rattle.tab_doors.specs.declared.tables.Tables.{Tables}
use Rattle.tab_doors.specs.Working.{IsAtWorkIn, KeepsStore, MayDiscardIn}
use Rattle.tab_evicts.proofs.Nones.{none_there}
use Rattle.tab_evicts.proofs.Spans.{stays_then}
use Rattle.tab_evicts.specs.Evicting.{HasOnlyDiscarded, IsDiscardFor, IsLetting, NoMoreBelow, NoneOfBelow, StaysPlaced}
use Rattle.tab_ids.specs.declared.DocId.{DocId}
use Rattle.tab_ids.specs.declared.ReqId.{ReqId}
use Rattle.tab_ids.specs.declared.StateId.{StateId}
use Rattle.tab_passes.proofs.Onlies.{only_then}
use Rattle.tab_stands.specs.Standing.{HasRoomFor, InCheck, LastsInLog, StandsFor, seen_start}
use Rattle.user_evicts.proofs.Gones.{below_listed, first_fewer, first_letting, first_only, first_stays, first_unkept}
use Rattle.user_evicts.proofs.Kepts.{its_evicted, its_listed}
use Rattle.user_evicts.proofs.Lefts.{gone_over}
use Rattle.user_evicts.proofs.Owns.{due_own, due_start, tab_own, tied_own, were_own}
use Rattle.user_evicts.proofs.Readies.{calm_idle, evicted_loose, evicted_ready}
use Rattle.user_evicts.specs.Discarding.{IsEvicted}
use Rattle.user_evicts.specs.Evicting.{HasEvicted, IsEvictAsk}
use Rattle.log_model.specs.declared.job.Task.TheVariants as tasks
use Rattle.log_model.specs.declared.job.Why.TheVariants as whys
use Rattle.log_model.specs.declared.row_kind.RowKind.TheVariants as rows

module _ (e : InEvent) (state : StateId) (asks : IsEvictAsk e state) (t : Tables) (queue : Queue) (blame : List (StateId × ReqId)) {check : InCheck} (stands : StandsFor check (seen_start e) t queue blame) (logged : IsLogged e t.checks) (logs : LastsInLog e.checking t.asking (log_of e [])) (room : HasRoomFor (seen_start e)) (free : MayDiscardIn check.holds e) where
  abbrev n : Seen
  n = now_of e []

  -- the state that the cache has for the longest is the one that is evicted
  oldest_is : oldest_of t.kept.states ≡ Some state
  oldest_is =
      ap (λ (l : List StateId). oldest_of l) (stands.tied.kept)
      ∙ states_oldest (seen_start e).documents (seen_start e).kept there
      ∙ ap (λ (o : Option DocId). option_and_then (state_in (seen_start e).documents) o) (due_start e state asks t queue blame stands logged logs).last
      ∙ ap (λ (o : Option Document). option_map (λ (d : Document). d.state) o) (due_start e state asks t queue blame stands logged logs).found
      ∙ ap (λ (x : StateId). let o : Option StateId = Some x in o) (due_start e state asks t queue blame stands logged logs).state_is
    where
      there : (doc : DocId) → Has (seen_start e).kept doc → (x : StateId) × (state_in (seen_start e).documents doc ≡ Some x)
      there doc has =
          let its = stands.between.tab.kept.each doc has in
          (its.d.state, ap (λ (o : Option Document). option_map (λ (d : Document). d.state) o) its.found)

  pub longest_some : IsSome (oldest_of t.kept.states)
  longest_some = ap (λ (o : Option StateId). is_some o) oldest_is

  pub longest_is : (longest : StateId) → oldest_of t.kept.states ≡ Some longest → longest ≡ state
  longest_is longest at = let both : Some longest ≡ Some state = sym at ∙ oldest_is in cc

  listed : option_map (λ (q : live_place.Place). q.doc) (document_at state t.tree) ≡ Some asks.doc
  listed = its_listed e state asks t (tied_own e state asks t queue blame stands logged logs) (tab_own e state asks t queue blame stands logged logs) (were_own e state asks t queue blame stands logged logs) (due_own e state asks t queue blame stands logged logs)

  -- ---- under the names of the call: the state, and the document

  module _ (own : StateId) (at : oldest_of t.kept.states ≡ Some own) where
    pub doc_some : IsSome (document_at own t.tree)
    doc_some = subst (λ (x : StateId). IsSome (document_at x t.tree)) (sym (longest_is own at)) (by_place (document_at state t.tree) listed)
      where
        by_place : (o : Option live_place.Place) → option_map (λ (q : live_place.Place). q.doc) o ≡ Some asks.doc → IsSome o
        by_place None is = absurd cc
        by_place (Some q) is = refl

    module _ (doc : DocId) (there : option_map (λ (q : live_place.Place). q.doc) (document_at own t.tree) ≡ Some doc) where
      doc_is : asks.doc ≡ doc
      doc_is =
          let both : Some asks.doc ≡ Some doc = sym listed ∙ ap (λ (x : StateId). option_map (λ (q : live_place.Place). q.doc) (document_at x t.tree)) (sym (longest_is own at)) ∙ there in
          cc

      pub evicted_as : IsEvicted e t doc own
      evicted_as =
          subst (λ (x : StateId). IsEvicted e t doc x) (sym (longest_is own at))
          (subst (λ (d : DocId). IsEvicted e t d state) doc_is (its_evicted e state asks t (tied_own e state asks t queue blame stands logged logs) (tab_own e state asks t queue blame stands logged logs) (were_own e state asks t queue blame stands logged logs) (due_own e state asks t queue blame stands logged logs) logged logs.asking))

      -- ---- it was discarded

      module _ (first : List RowKind) (v : Tables) (put : first ≡ rows.Sent (order_to n doc whys.Evict tasks.Discard) ∷ []) (keeps : KeepsStore t v) (work : IsAtWorkIn check.holds None e first v) where
        is : first ≡ rows.Sent (order_to n asks.doc whys.Evict tasks.Discard) ∷ []
        is = put ∙ ap (λ (d : DocId). let l : List RowKind = rows.Sent (order_to n d whys.Evict tasks.Discard) ∷ [] in l) (sym doc_is)

        letting : IsLetting (record { pass = record { event = e; loads = check.loads; hand = [] }; moved = None; sweeps = check.holds }) state whys.Evict first v
        letting = first_letting e state asks t queue blame stands logged logs room free first v is keeps work

        pub letting_as : IsLetting (record { pass = record { event = e; loads = check.loads; hand = [] }; moved = None; sweeps = check.holds }) own whys.Evict first v
        letting_as =
            subst (λ (x : StateId). IsLetting (record { pass = record { event = e; loads = check.loads; hand = [] }; moved = None; sweeps = check.holds }) x whys.Evict first v) (sym (longest_is own at)) letting

        -- ---- and so were those below it

        module _ (out : List RowKind) (u : Tables) (more : HasOnlyDiscarded whys.Evict first out) (stays : StaysPlaced (now_of e first) (now_of e out)) (then_ : KeepsStore v u) where
          only : HasOnlyDiscarded whys.Evict [] out
          only = only_then (IsDiscardFor whys.Evict) [] first out (first_only e state asks t queue blame stands logged logs room free first v is) more

          pub kept_as : KeepsStore t u
          kept_as =
              record { store = then_.store ∙ keeps.store; running = then_.running ∙ keeps.running; goal = then_.goal ∙ keeps.goal; keep = then_.keep ∙ keeps.keep; checks = then_.checks ∙ keeps.checks }

          pub ready_as : t.kept.keep ≡ e.header.keep → IsLetting (record { pass = record { event = e; loads = check.loads; hand = [] }; moved = None; sweeps = check.holds }) own whys.Evict out u → IsReadyIn check.holds (record { event = e; loads = check.loads; hand = [] }) out u queue blame whys.Evict
          ready_as header so =
              evicted_ready e state asks t queue blame stands logged logs room free header out u kept_as (subst (λ (x : StateId). IsLetting (record { pass = record { event = e; loads = check.loads; hand = [] }; moved = None; sweeps = check.holds }) x whys.Evict out u) (longest_is own at) so) only (stays_then n (now_of e first) (now_of e out) (first_stays e state asks t queue blame stands logged logs room free first v is) stays)

          pub loose_as : t.kept.keep ≡ e.header.keep → IsLetting (record { pass = record { event = e; loads = check.loads; hand = [] }; moved = None; sweeps = check.holds }) own whys.Evict out u → IsLoose e out
          loose_as header so =
              evicted_loose e state asks t queue blame stands logged logs room free header out u kept_as (subst (λ (x : StateId). IsLetting (record { pass = record { event = e; loads = check.loads; hand = [] }; moved = None; sweeps = check.holds }) x whys.Evict out u) (longest_is own at) so) only (stays_then n (now_of e first) (now_of e out) (first_stays e state asks t queue blame stands logged logs room free first v is) stays)

          pub calm_as : t.kept.keep ≡ e.header.keep → IsLetting (record { pass = record { event = e; loads = check.loads; hand = [] }; moved = None; sweeps = check.holds }) own whys.Evict out u → t.running ≡ None → IsCalmYet (now_of e out)
          calm_as header so =
              calm_idle e state asks t queue blame stands logged logs room free header out u kept_as (subst (λ (x : StateId). IsLetting (record { pass = record { event = e; loads = check.loads; hand = [] }; moved = None; sweeps = check.holds }) x whys.Evict out u) (longest_is own at) so) only (stays_then n (now_of e first) (now_of e out) (first_stays e state asks t queue blame stands logged logs room free first v is) stays)

          unkept : has_doc (now_of e out).kept asks.doc ≡ false
          unkept = by_test (has_doc (now_of e out).kept asks.doc) refl
            where
              by_test : (b : Bool) → has_doc (now_of e out).kept asks.doc ≡ b → has_doc (now_of e out).kept asks.doc ≡ false
              by_test false none = none
              by_test true has =
                  let never : true ≡ false = sym ((gone_over e first out more).kept asks.doc has) ∙ first_unkept e state asks t queue blame stands logged logs room free first v is in
                  absurd cc

          pub came_as : (docs : List DocId) → IsPermutation (docs_of t.tree) docs → NoMoreBelow own (now_of e first) (now_of e out) → NoneOfBelow docs (now_of e out) own → HasEvicted e state out
          came_as docs order fewer none =
              record {
                doc = asks.doc;
                document = asks.document;
                due = asks.due;
                job = order_to n asks.doc whys.Evict tasks.Discard;
                rest = more.more;
                is = more.is ∙ ap (λ (l : List RowKind). l ++ more.more) is;
                doc_is = refl;
                task = refl;
                why = refl;
                only = only;
                none = none_there (record { pass = record { event = e; loads = check.loads; hand = [] }; moved = None; sweeps = check.holds }) state whys.Evict first v letting n (now_of e out) docs t.tree (below_listed e state asks t queue blame stands logged logs room free) order (first_fewer e state asks t queue blame stands logged logs room free first v is) (subst (λ (x : StateId). NoMoreBelow x (now_of e first) (now_of e out)) (longest_is own at) fewer) (subst (λ (x : StateId). NoneOfBelow docs (now_of e out) x) (longest_is own at) none);
                unkept = unkept;
              }
