-- All that holds of a tab between two events holds after a process finishes the fragment order of a load, whose document runs and makes a new entry of it in the same event.
use Rattle.seen_facts.specs.Doc.Docs.{AreDocs}
use Rattle.seen_facts.proofs.Coord.Held.{held_apart}
use Rattle.seen_facts.proofs.Fragment.Joined.{EndsUntold, told_joined}
use Rattle.tab_facts.specs.Past.Past.{ArePast}
use Rattle.tab_facts.proofs.Past.Rows.{acted_row_past, finished_past}
use Rattle.seen_facts.proofs.Asked.Rows.{finished_plain, made_plain}
use Rattle.seen_facts.proofs.Coord.Kept.{IsInHand}
use Rattle.seen_facts.proofs.Coord.Unread.{next}
use Rattle.seen_facts.specs.Coord.Flowing.{Flows}
use Rattle.seen_facts.proofs.Desk.Rows.{finished_desks, fragment_desks}
use Rattle.seen_facts.specs.Desk.Own as owning
use Rattle.seen_facts.proofs.Doc.Rows.{made_docs}
use Rattle.seen_facts.proofs.Doc.Works.{finished_docs}
use Rattle.seen_facts.proofs.Entry.Finishes.{finished_entries}
use Rattle.seen_facts.proofs.Entry.Grounds.{faced_by}
use Rattle.seen_facts.proofs.Entry.Makes.{EndsUnmade, IsMadeNew, IsToMake, fragment_entries}
use Rattle.seen_facts.proofs.Entry.Stays.{its_number}
use Rattle.seen_facts.proofs.Fragment.Knowns.{IsUnmadeLoad, unmade_unheld}
use Rattle.seen_facts.proofs.Fragment.Makes.{fragment_flows}
use Rattle.seen_facts.proofs.Fragment.Orders.{event_known, just_fragmented}
use Rattle.seen_facts.specs.Fragment.Fragments.{IsJustFragmented, fragment_of}
use Rattle.tab_facts.proofs.FragmentOrders.Works.{IsWaiting, finished_made_fragments, in_hand_waits, waiting_load}
use Rattle.tab_facts.proofs.FrameWhole.FlowsAlike.{flows_if}
use Rattle.tab_facts.proofs.FrameWhole.Queued.{queued_after}
use Rattle.seen_facts.proofs.Hang.Rows.{left_hangs}
use Rattle.seen_facts.proofs.Home.Rows as homing
use Rattle.seen_facts.proofs.Kept.Rows as keeping
use Rattle.seen_facts.proofs.Load.Rows.{finished_loading, look_blind, made_loading}
use Rattle.seen_facts.specs.Load.Loading.{is_ongoing, look}
use Rattle.seen_facts.proofs.LoadWhereabouts.Answered.{finished_fragment, made_fragment_once}
use Rattle.seen_facts.specs.LoadWhereabouts.Whereabouts.{waits_to_fragment}
use Rattle.log_model.specs.Equal.{has_req}
use Rattle.log_model.specs.Places.{is_load}
use Rattle.log_model.specs.Seen.{Asked, Document, Seen, desk_of, document_of, request_in, request_of}
use Rattle.log_model.specs.Views.{View, made_for, new_entry, is_fragment_replace}
use Rattle.log_model.specs.declared.job.Order.{Order}
use Rattle.log_model.specs.declared.job.Task.{Task}
use Rattle.log_model.specs.declared.made.Made.{Made}
use Rattle.log_model.specs.declared.request.Mode.{Mode}
use Rattle.log_model.specs.declared.request.Request.TheVariants as requests
use Rattle.log_model.specs.declared.request.Request.{Request}
use Rattle.seen_facts.proofs.Mover.Rows.{finished_movers, made_movers}
use Rattle.seen_facts.proofs.Place.Rows.{finished_standing, made_standing}
use Rattle.seen_facts.proofs.Request.Cores.{finished_cores}
use Rattle.seen_facts.proofs.Request.Onces.{finished_once, load_alike}
use Rattle.seen_facts.proofs.Request.Readers.{finished_reads}
use Rattle.seen_facts.specs.Request.Whereabouts.{is_of_load}
use Rattle.seen_facts.proofs.Rest.Kept.{left_kept}
use Rattle.tab_facts.proofs.Shown.Rows.{finished_shown, made_shown}
use Rattle.std.proofs.Common.{Bool, List, None, Option, Some, [], ap, false, refl, subst, sym, true, ℕ, ◌&&◌, ◌∙◌, ◌≡◌, ◌++◌}
use Rattle.std.specs.Prelude.{is_none, is_some, not, option_map}
use Rattle.tab_ids.specs.declared.DocId.{DocId}
use Rattle.tab_ids.specs.declared.NavId.{NavId}
use Rattle.tab_ids.specs.declared.ProcId.{ProcId}
use Rattle.tab_ids.specs.declared.ReqId.{ReqId}
use Rattle.tab_facts.proofs.TabWhole.Joining.{joined_ways}
use Rattle.tab_facts.proofs.TabWhole.Working.{finish_flows, in_hand_lives, unmade, held_by_cores}
use Rattle.tab_facts.proofs.TabWhole.OpenAmong.{SameEnds, ends_then, finished_ends, made_ends, once_on, trips_on}
use Rattle.tab_facts.specs.TabWhole.Tab.{IsTab, at_hand, open_among}
use Rattle.seen_facts.proofs.Transit.Rows.{finished_ways}
use Rattle.seen_facts.specs.Transit.Orders.{IsOutcomeOf}
use Rattle.log_model.specs.declared.job.Task.TheVariants as tasks
use Rattle.log_model.specs.declared.outcome.Outcome.TheVariants as outcomes
use Rattle.log_model.specs.declared.row_kind.Actor.TheVariants as actors
use Rattle.log_model.specs.declared.row_kind.RowKind.TheVariants as rows

some_same : {A : Type 0} {a b : A} → (let o : Option A = Some a in o) ≡ Some b → a ≡ b
some_same e = cc

-- the order in hand sends its document, which runs with this view, to a fragment for a request
pub record IsToFragment (s : Seen) (proc : ProcId) (order : Order) (req : ReqId) (mode : Mode) (address : List ℕ) (d : Document) (view : View) : Type 0 where
  pub in_hand : (desk_of s proc).in_hand ≡ Some order
  pub task : order.job.task ≡ tasks.DoFragment req mode address
  pub found : document_of s order.job.doc ≡ Some d
  pub has : d.view ≡ Some view
  pub runs : view.running ≡ true

-- a load that waits has no outcome, nothing was made of it, and a document was sent for it
record IsOpenSent (q : Asked) : Type 0 where
  unended : q.ending ≡ None
  unmade : q.made ≡ None
  sent : is_some q.fragment ≡ true

is_none_none : {A : Type 0} (o : Option A) → is_none o ≡ true → o ≡ None
is_none_none None e = refl
is_none_none (Some x) never = absurd cc

open_sent : (q : Asked) → waits_to_fragment q ≡ true → IsOpenSent q
open_sent q waits = by_tests (is_none q.ending) (is_none q.made) (is_some q.fragment) refl refl refl waits
  where
    by_tests : (a b c : Bool) → is_none q.ending ≡ a → is_none q.made ≡ b → is_some q.fragment ≡ c → ((a && b) && c) ≡ true → IsOpenSent q
    by_tests true true true e m f is =
        record { unended = is_none_none q.ending e; unmade = is_none_none q.made m; sent = f }
    by_tests true true false e m f never = absurd cc
    by_tests true false c e m f never = absurd cc
    by_tests false b c e m f never = absurd cc

-- what is made is new, and the document's
fragment_new : (view : View) (mode : Mode) (address : List ℕ) → IsMadeNew view (fragment_of view mode address)
fragment_new view mode address = by_push (not (is_fragment_replace view mode address))
  where
    by_push : (b : Bool) → IsMadeNew view (new_entry view b None address)
    by_push true = refl
    by_push false = (refl, refl)

fragment_own : (view : View) (mode : Mode) (address : List ℕ) → owning.IsItsOwn view.doc (fragment_of view mode address)
fragment_own view mode address = by_push (not (is_fragment_replace view mode address))
  where
    by_push : (b : Bool) → owning.IsItsOwn view.doc (new_entry view b None address)
    by_push true = refl
    by_push false = refl

module _ (run : Option ReqId) {loads : List ReqId} (s : Seen) (event : ℕ) (proc : ProcId) (tab : IsTab run loads [] s) (flows : Flows s) (order : Order) (req : ReqId) (mode : Mode) (address : List ℕ) (d : Document) (view : View) (is : IsToFragment s proc order req mode address d view) where
  its : IsOutcomeOf order.job.task outcomes.Fragmented
  its = subst (λ (t : Task). IsOutcomeOf t outcomes.Fragmented) (sym is.task) tt

  abbrev finished : Seen
  finished = next s event (actors.Proc proc) (rows.Finished proc order.job.nr outcomes.Fragmented)

  abbrev made : Made
  made = made_for view req (fragment_of view mode address)

  abbrev pub fragment_made : Seen
  fragment_made = next (next s event (actors.Proc proc) (rows.Finished proc order.job.nr outcomes.Fragmented)) event (actors.Proc proc) (rows.Made proc (made_for view req (fragment_of view mode address)))

  now_flows : Flows finished
  now_flows = finish_flows run s event proc tab flows order outcomes.Fragmented is.in_hand its tt

  in_ : IsInHand s proc order
  in_ = in_hand_lives run s event proc tab flows order outcomes.Fragmented is.in_hand its tt

  number : view.doc ≡ order.job.doc
  number =
      (tab.docs.each order.job.doc d is.found).live.viewed view is.has ∙ ap (λ (n : ℕ). let x : DocId = record { 0 = n } in x) (its_number s.documents order.job.doc d is.found)

  just : IsJustFragmented finished event proc order.job req mode address d view
  just = just_fragmented s event proc order req mode address is.task in_ d view is.found is.has number is.runs

  -- ---- the load

  -- it waits for the order
  waiting : IsWaiting s req
  waiting = in_hand_waits s tab.fragments.once proc order req mode address is.in_hand is.task

  what_load : is_load waiting.q.what ≡ true
  what_load = waiting_load s tab.fragments req waiting

  rests : IsOpenSent waiting.q
  rests = open_sent waiting.q waiting.waits

  record IsItsLoad : Type 0 where
    nav : NavId
    to : Mode
    at : List ℕ
    load : IsUnmadeLoad s req waiting.q nav to at

  its_load : IsItsLoad
  its_load = by_what waiting.q.what refl what_load
    where
      by_what : (what : Request) → waiting.q.what ≡ what → is_load what ≡ true → IsItsLoad
      by_what (requests.Load nav to at) e load =
          record {
            nav = nav;
            to = to;
            at = at;
            load = record { asked = waiting.found; what = e; unmade = rests.unmade; unended = rests.unended };
          }
      by_what (requests.Go delta) e never = absurd cc
      by_what (requests.Poke nav action) e never = absurd cc
      by_what (requests.Reload nav) e never = absurd cc

  unparked : has_req s.parked req ≡ false
  unparked =
      unmade_unheld s req waiting.q its_load.nav its_load.to its_load.at its_load.load tab.known

  load_then : is_of_load (request_in finished.requests req) ≡ true
  load_then =
      load_alike (request_in finished.requests req) (request_in s.requests req) (finished_cores s (desk_of s proc).in_hand outcomes.Fragmented s.requests req)
      ∙ ap is_of_load waiting.found ∙ what_load

  -- it hasn't begun
  idle : waiting.q.is_started ≡ false
  idle = by_started waiting.q.is_started refl
    where
      by_started : (b : Bool) → waiting.q.is_started ≡ b → waiting.q.is_started ≡ false
      by_started false e = e
      by_started true e =
          let none : is_some waiting.q.fragment ≡ false = ap (λ (o : Option DocId). is_some o) ((tab.asked.each req waiting.q waiting.found).begun e) in
          let never : true ≡ false = sym rests.sent ∙ none in absurd cc

  no_ongoing : (q : Asked) → request_of finished req ≡ Some q → is_ongoing (look q) ≡ false
  no_ongoing q there =
      let looks : option_map look (request_in finished.requests req) ≡ option_map look (request_in s.requests req) = finished_reads look look_blind s (desk_of s proc).in_hand outcomes.Fragmented s.requests req in
      let both : Some (look waiting.q) ≡ Some (look q) = ap (λ (o : Option Asked). option_map look o) (sym waiting.found) ∙ sym looks ∙ ap (λ (o : Option Asked). option_map look o) there in
      let one : look waiting.q ≡ look q = some_same both in
      ap is_ongoing (sym one) ∙ rw idle refl

  -- ---- what is made

  ready : d.is_ready ≡ true
  ready = by_ready d.is_ready refl
    where
      by_ready : (b : Bool) → d.is_ready ≡ b → d.is_ready ≡ true
      by_ready true e = e
      by_ready false e =
          let never : true ≡ false = sym is.runs ∙ (tab.docs.each order.job.doc d is.found).live.unmade view is.has e in absurd cc

  found : document_of finished view.doc ≡ Some d
  found = ap (λ (n : DocId). document_of finished n) number ∙ just.found

  make : IsToMake [] finished proc d view made
  make =
      record {
        there = found;
        home = just.home;
        ready = ready;
        has = is.has;
        own = refl;
        new = fragment_new view mode address;
        unparked = unparked;
        faced = faced_by finished d view made now_flows found is.has refl;
      }

  made_in : owning.IsMadeIn finished.documents proc made
  made_in =
      record {
        lives = record { d = d; found = found; home = ap (λ (p : ProcId). p.0) just.home };
        own = fragment_own view mode address;
      }

  ends : EndsUnmade (desk_of finished proc).reports
  ends = record { before = just.front; job = order.job; outcome = outcomes.Fragmented; is = just.last }

  pub fragment_made_flows : Flows fragment_made
  fragment_made_flows =
      fragment_flows finished event proc order.job req mode address d view just unparked now_flows

  finished_docs_ : AreDocs finished
  finished_docs_ = finished_docs s event (actors.Proc proc) tab.docs tab.desks proc order outcomes.Fragmented is.in_hand tt

  ends_untold : EndsUntold (desk_of finished proc).reports
  ends_untold = record { front = just.front; job = order.job; outcome = outcomes.Fragmented; last = just.last }

  finished_past_ : ArePast [] finished
  finished_past_ =
      finished_past s event proc tab.docs order outcomes.Fragmented in_ (ap (λ (l : List Made). l ++ []) (held_by_cores s.requests finished.requests s.parked (finished_cores s (desk_of s proc).in_hand outcomes.Fragmented s.requests))) tab.past

  -- no request ends
  its_ends : SameEnds s.requests fragment_made.requests
  its_ends =
      ends_then s.requests finished.requests fragment_made.requests (finished_ends s event (actors.Proc proc) proc order.job.nr outcomes.Fragmented) (made_ends finished event (actors.Proc proc) proc made)

  pub fragment_made_tab : IsTab run loads [] fragment_made
  fragment_made_tab =
      record {
        sound = tab.sound;
        hangs = left_hangs finished event (actors.Proc proc) (left_hangs s event (actors.Proc proc) tab.hangs (rows.Finished proc order.job.nr outcomes.Fragmented) tt) (rows.Made proc made) tt;
        docs = made_docs finished event (actors.Proc proc) (finished_docs s event (actors.Proc proc) tab.docs tab.desks proc order outcomes.Fragmented is.in_hand tt) proc made;
        whose = left_kept finished event (actors.Proc proc) (left_kept s event (actors.Proc proc) tab.whose (rows.Finished proc order.job.nr outcomes.Fragmented) tt) (rows.Made proc made) tt;
        shown = made_shown finished event (actors.Proc proc) (finished_shown s event (actors.Proc proc) tab.shown proc order outcomes.Fragmented in_) proc made;
        homes = homing.left_rows finished event (actors.Proc proc) (homing.left_rows s event (actors.Proc proc) tab.homes (rows.Finished proc order.job.nr outcomes.Fragmented) tt) (rows.Made proc made) tt;
        kept = keeping.left_rows finished event (actors.Proc proc) (keeping.left_rows s event (actors.Proc proc) tab.kept (rows.Finished proc order.job.nr outcomes.Fragmented) tt) (rows.Made proc made) tt;
        standing = made_standing finished event (actors.Proc proc) (finished_standing s event (actors.Proc proc) tab.standing proc order.job.nr outcomes.Fragmented) proc made;
        movers = made_movers finished event (actors.Proc proc) (finished_movers s event (actors.Proc proc) tab.movers proc order.job.nr outcomes.Fragmented) proc made;
        asked = made_plain run finished event (actors.Proc proc) (finished_plain run s event (actors.Proc proc) tab.asked proc order.job.nr outcomes.Fragmented) proc made;
        queued = queued_after run finished event (actors.Proc proc) (queued_after run s event (actors.Proc proc) tab.queued (rows.Finished proc order.job.nr outcomes.Fragmented) tt) (rows.Made proc made) tt;
        loading = made_loading finished event (actors.Proc proc) (finished_loading s event (actors.Proc proc) tab.loading proc order.job.nr outcomes.Fragmented) proc made no_ongoing;
        fragments = finished_made_fragments s event (actors.Proc proc) proc order.job.nr outcomes.Fragmented order req mode address is.in_hand is.task tab.fragments (actors.Proc proc) made refl;
        once = once_on s fragment_made loads [] its_ends (made_fragment_once finished (at_hand (open_among s.requests loads) []) event (actors.Proc proc) proc made just.front order.job outcomes.Fragmented just.last just.follows load_then (finished_once s (at_hand (open_among s.requests loads) []) event (actors.Proc proc) proc order.job.nr outcomes.Fragmented tab.once));
        trips = trips_on s fragment_made loads [] its_ends (finished_fragment s event (actors.Proc proc) proc order.job.nr outcomes.Fragmented order is.in_hand (at_hand (open_among s.requests loads) []) (actors.Proc proc) made waiting.q waiting.found what_load waiting.waits tab.trips);
        known = event_known s event proc order req mode address is.task in_ d view is.found is.has number is.runs waiting.q its_load.nav its_load.to its_load.at its_load.load tab.known;
        desks = fragment_desks finished event (actors.Proc proc) (finished_desks s event (actors.Proc proc) tab.desks proc order outcomes.Fragmented is.in_hand its) proc made order.job outcomes.Fragmented just.front made_in just.follows just.last (subst owning.IsFragmentTask (sym is.task) tt) (ap (λ (n : DocId). n.0) number);
        ways = joined_ways finished event (actors.Proc proc) proc made just.follows (finished_ways s event (actors.Proc proc) tab.ways proc order outcomes.Fragmented is.in_hand its);
        entries = fragment_entries [] finished event (actors.Proc proc) (finished_entries [] s event (actors.Proc proc) tab.entries proc order.job.nr outcomes.Fragmented (unmade run s event proc tab flows order outcomes.Fragmented is.in_hand its tt)) proc made d view make just.follows ends;
        flows = flows_if fragment_made fragment_made_flows;
        past = acted_row_past finished event proc finished_docs_ made d view found is.has just.home refl true just.follows (told_joined made (desk_of finished proc).reports ends_untold) (ap (λ (l : List Made). l ++ []) (held_apart finished.requests finished.parked req (λ x. record x { made = Some made }) unparked)) finished_past_;
      }
