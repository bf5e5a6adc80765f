-- What holds between two events holds after a process takes up an order, and after it finishes one; where it is a fragment order, with the row of what its document makes.
use Rattle.seen_facts.proofs.Coord.Kept.{IsInHand}
use Rattle.seen_facts.proofs.Coord.Unread.{next}
use Rattle.seen_facts.proofs.Doc.Works.{HasNoSlot}
use Rattle.seen_facts.specs.Fragment.Fragments.{fragment_of}
use Rattle.seen_facts.proofs.LoadWhereabouts.Trips.{IsNoFragment}
use Rattle.log_model.specs.Seen.{Document, Seen, desk_of}
use Rattle.log_model.specs.Views.{View, made_for}
use Rattle.log_model.specs.declared.job.Job.{Job}
use Rattle.log_model.specs.declared.job.Order.{Order}
use Rattle.log_model.specs.declared.job.Task.{Task}
use Rattle.log_model.specs.declared.made.Made.{Made}
use Rattle.log_model.specs.declared.outcome.Outcome.{Outcome}
use Rattle.log_model.specs.declared.request.Mode.{Mode}
use Rattle.row_facts.proofs.RestRows.Rows.{finished_rests, made_rests, taken_rests}
use Rattle.tab_facts.proofs.TabEvents.Ordered.{taken_orders}
use Rattle.std.proofs.Common.{[], Bool, List, None, Option, Some, refl, subst, sym, ℕ, ◌≡◌}
use Rattle.std.proofs.lemmas.List.{map-id}
use Rattle.std.specs.Prelude.{slice_get}
use Rattle.tab_facts.proofs.TabEvents.Left.{between_left, keeps_all, left_twice}
use Rattle.tab_facts.proofs.TabEvents.Requests.{same_left}
use Rattle.tab_facts.proofs.TabEvents.Rows.{finished_left, made_left}
use Rattle.tab_facts.specs.TabEvents.Between.{IsBetweenChecks}
use Rattle.tab_ids.specs.declared.ProcId.{ProcId}
use Rattle.tab_ids.specs.declared.ReqId.{ReqId}
use Rattle.tab_facts.proofs.TabWhole.Fragments.{IsToFragment, fragment_made, fragment_made_flows, fragment_made_tab}
use Rattle.tab_facts.proofs.TabWhole.Working.{finish_flows, finished, finished_tab, in_hand_lives, taken, taken_tab, took_flows}
use Rattle.seen_facts.specs.Transit.Orders.{IsOutcomeOf}
use Rattle.log_model.specs.declared.outcome.Outcome.TheVariants as outcomes
use Rattle.log_model.specs.declared.row_kind.Actor.TheVariants as actors
use Rattle.log_model.specs.declared.row_kind.RowKind.TheVariants as rows

module _ (keep : ℕ) (run : Option ReqId) {loads : List ReqId} {holds : Bool} (s : Seen) (event : ℕ) (proc : ProcId) (is : IsBetweenChecks keep run loads holds s) where
  -- an order is taken up
  module _ (job : Job) (dirty : Bool) (free : (desk_of s proc).in_hand ≡ None) (first : slice_get (desk_of s proc).mail 0 ≡ Some job) where
    abbrev took : Seen
    took = taken run s event proc is.tab is.flows job dirty free first

    pub taken_between : IsBetweenChecks keep run loads holds took
    taken_between =
        between_left keep run s took is (taken_tab run s event proc is.tab is.flows job dirty free first)
        (record { g = λ x. x; keeps = keeps_all; documents = sym (map-id s.documents); asked = same_left run s.requests took.requests (λ r. refl); history = refl; places = refl; kept = refl; joined = refl; parked = refl; orders = λ go. taken_orders proc dirty s.desks job first })
        (took_flows run s event proc is.tab is.flows job dirty free first)
        (taken_rests s event (actors.Proc proc) [] is.rests proc job dirty free first)

  -- one is finished that is no fragment order
  module _ (order : Order) (outcome : Outcome) (in_hand : (desk_of s proc).in_hand ≡ Some order) (its : IsOutcomeOf order.job.task outcome) (bare : HasNoSlot outcome) (other : IsNoFragment order.job.task) where
    abbrev did : Seen
    did = finished run s event proc is.tab is.flows order outcome in_hand its bare

    pub finished_between : IsBetweenChecks keep run loads holds did
    finished_between =
        between_left keep run s did is (finished_tab run s event proc is.tab is.flows order outcome in_hand its bare other)
        (finished_left run s event (actors.Proc proc) proc order outcome in_hand)
        (finish_flows run s event proc is.tab is.flows order outcome in_hand its bare)
        (finished_rests s event (actors.Proc proc) [] is.rests proc order outcome (in_hand_lives run s event proc is.tab is.flows order outcome in_hand its bare))

  -- a fragment order is finished, and its document makes an entry of it
  module _ (order : Order) (req : ReqId) (mode : Mode) (address : List ℕ) (d : Document) (view : View) (to : IsToFragment s proc order req mode address d view) where
    abbrev half : Seen
    half = next s event (actors.Proc proc) (rows.Finished proc order.job.nr outcomes.Fragmented)

    abbrev made : Made
    made = made_for view req (fragment_of view mode address)

    abbrev went : Seen
    went = fragment_made run s event proc is.tab is.flows order req mode address d view to

    its_end : IsOutcomeOf order.job.task outcomes.Fragmented
    its_end = subst (λ (t : Task). IsOutcomeOf t outcomes.Fragmented) (sym to.task) tt

    in_ : IsInHand s proc order
    in_ =
        in_hand_lives run s event proc is.tab is.flows order outcomes.Fragmented to.in_hand its_end tt

    pub fragment_made_between : IsBetweenChecks keep run loads holds went
    fragment_made_between =
        between_left keep run s went is (fragment_made_tab run s event proc is.tab is.flows order req mode address d view to)
        (left_twice run s half went (finished_left run s event (actors.Proc proc) proc order outcomes.Fragmented to.in_hand) (made_left run half event (actors.Proc proc) proc made))
        (fragment_made_flows run s event proc is.tab is.flows order req mode address d view to)
        (made_rests half event (actors.Proc proc) [] (finished_rests s event (actors.Proc proc) [] is.rests proc order outcomes.Fragmented in_) proc made)
