-- A request of the user is accepted, and refused in the same event: the coordinator stands for the log still.
use Rattle.tab_facts.specs.TabWhole.Tab.{open_among}
use Rattle.tab_doors.proofs.PassedOn.{refused_goes, refused_now}
use Rattle.seen_facts.specs.Asked.Asking.{ArePlain}
use Rattle.tab_settles.proofs.Puts.{put_makes}
use Rattle.tab_settles.proofs.Sounds.{put_sound}
use Rattle.tab_settles.specs.Settling.{OrdersAreSound}
use Rattle.seen_laws.specs.Sending.{leads}
use Rattle.tab_stands.proofs.Orders.{keeps_coming, makes_first, refusal_put, sound_first}
use Rattle.seen_facts.proofs.Coord.Flowings.{left_flows}
use Rattle.seen_facts.proofs.Coord.Held.{on_else, without_same}
use Rattle.seen_facts.proofs.Coord.Unread.{accepted_held, next, refused_held, refused_left}
use Rattle.seen_facts.specs.Coord.Flowing.{Flows}
use Rattle.seen_facts.specs.Each.Runs.{is_this}
use Rattle.tab_facts.proofs.Last.Rows.{refused_lasting}
use Rattle.row_facts.proofs.Left.Rows.{were_shown}
use Rattle.row_facts.specs.Left.Left.{WereShown}
use Rattle.load_doors.specs.Tied.{AreTied}
use Rattle.seen_facts.proofs.LoadTies.Ends.{other_ends, refused_ended}
use Rattle.log_model.specs.AfterRequests.{joined_accepted, without_req}
use Rattle.log_model.specs.ActsAtOnce.{is_ready_load}
use Rattle.log_model.specs.Equal.{has_req}
use Rattle.log_model.specs.Places.{all_stand, is_ongoing_load}
use Rattle.log_model.specs.Seen.{Asked, Seen, request_in}
use Rattle.log_model.specs.declared.outcome.Denial.{Denial}
use Rattle.log_model.specs.declared.request.Request.{Request}
use Rattle.log_model.specs.declared.row_kind.RowKind.{RowKind}
use Rattle.seen_facts.specs.Hang.Members.{Has}
use Rattle.move_queue.specs.Queue.{Queue}
use Rattle.move_queue.specs.declared.queue_step.QueueStep.{QueueStep}
use Rattle.move_queue.specs.declared.queue_step.QueueStep.TheVariants.{Ready}
use Rattle.seen_facts.proofs.Request.LookUps.{none_before, others_before}
use Rattle.seen_facts.proofs.Request.Readers.{on_read}
use Rattle.seen_facts.proofs.Request.Times.{times_none}
use Rattle.seen_facts.specs.Request.Whereabouts.{times_found}
use Rattle.row_facts.proofs.RestRows.Rows.{accepted_rests, refused_rests}
use Rattle.seen_laws.proofs.InEvents.{goes_more, none_goes}
use Rattle.seen_laws.specs.InEvent.{InEvent, now_of, EachGoes}
use Rattle.std.proofs.Common.{List, None, Option, Some, [], ap, arith, false, filter, inl, inr, length, refl, subst, sym, true, ℕ, ◌++◌, ◌+◌, ◌-◌, ◌==◌, ◌∙◌, ◌∷◌, ◌≡◌, ◌⊎◌}
use Rattle.std.proofs.lemmas.Bool.Decides.{nat_tests}
use Rattle.std.proofs.lemmas.List.{map-id}
use Rattle.std.specs.List.{list_any}
use Rattle.std.specs.Option.{option_map_or}
use Rattle.std.specs.Prelude.{slice_set}
use Rattle.tab_settles.specs.PassedOn.{AreLeftStrays, AreStepsOf, AwaitTurns, HasQueue, HaveJoined, IsGoing, IsTab, at_hand, is_traverse}
use Rattle.tab_doors.proofs.EndLaws.{left_holds}
use Rattle.tab_doors.proofs.Keeping.{unstarted_no_load}
use Rattle.tab_doors.proofs.Requests.{ended_moved, moved_same, runs_ended_apart}
use Rattle.tab_doors.proofs.Works.{goal_read, goal_same}
use Rattle.tab_doors.specs.Look.{look_of as sights_of, moved_by}
use Rattle.tab_doors.specs.declared.tables.Tables.{Tables}
use Rattle.tab_facts.proofs.TabEvents.Left.{between_left, keeps_all}
use Rattle.tab_facts.proofs.TabEvents.Ordered.{unrefused}
use Rattle.tab_facts.proofs.TabEvents.Requests.{AreLeft, others_left}
use Rattle.tab_facts.specs.TabEvents.Between.{IsBetweenChecks, has_order}
use Rattle.tab_settles.proofs.PassedOn.{first_refused_tab, refused_going}
use Rattle.tab_ids.specs.declared.ReqId.{ReqId}
use Rattle.tab_ids.specs.declared.StateId.{StateId}
use Rattle.tab_settles.specs.Settling.{HoldsParked, MakesServe}
use Rattle.tab_stands.proofs.Accepting.{goes_on, new, now, tied_now, went, comes_now}
use Rattle.tab_stands.proofs.Coming.{IsComing}
use Rattle.tab_settles.proofs.Lates.{unstood_by}
use Rattle.tab_stands.proofs.More.{coming_more, more, new_there, old_stays, one_of, strays_more}
use Rattle.tab_stands.proofs.Stays.{stands_still}
use Rattle.tab_stands.proofs.Waiting.{steps_stay}
use Rattle.tab_stands.specs.Offs.{AreShownOnce}
use Rattle.tab_stands.specs.Standing.{HasRoomFor, InCheck, IsOwnRead, StandsFor, seen_start}
use Rattle.log_model.specs.declared.outcome.Ending.TheVariants as endings
use Rattle.log_model.specs.declared.row_kind.Actor.{Actor}
use Rattle.log_model.specs.declared.row_kind.Actor.TheVariants as actors
use Rattle.log_model.specs.declared.row_kind.RowKind.TheVariants as rows

some_same : {A : Type 0} {a b : A} → (let o : Option A = Some a in o) ≡ Some b → a ≡ b
some_same e = cc

-- the last of a list is put in its place
set_last : {A : Type 0} (xs : List A) (x y : A) → slice_set (xs ++ x ∷ []) (length xs) y ≡ xs ++ y ∷ []
set_last [] x y = refl
set_last (z ∷ xs) x y = ap (λ l. z ∷ l) (set_last xs x y)

module _ (e : InEvent) (t : Tables) (queue : Queue) (blame : List (StateId × ReqId)) {check : InCheck} (stands : StandsFor check (seen_start e) t queue blame) (aside : IsOwnRead e) (room : HasRoomFor (seen_start e)) (req : ReqId) (what : Request) (by_user : e.actor ≡ actors.Ui) (own : e.own ≡ rows.Accepted req None what) (nr : req.0 ≡ length (seen_start e).requests + 1) (reason : Denial) (joins : joined_accepted (seen_start e).joined req what ≡ (seen_start e).joined) where
  abbrev s : Seen
  s = seen_start e

  abbrev run : Option ReqId
  run = t.running

  abbrev w : Seen
  w = went e req None what by_user own nr aside

  abbrev asked : Asked
  asked = new e req None what by_user own nr aside

  -- the request, refused
  abbrev refuse : Asked → Asked
  refuse q = record q { ending = Some (endings.Refused reason) }

  abbrev lost : Asked
  lost = refuse asked

  abbrev n : Seen
  n = next w e.event actors.Ui (rows.Refused req reason)

  abbrev out : List RowKind
  out = rows.Refused req reason ∷ []

  pub now_refused : now_of e out ≡ n
  now_refused =
      refused_now e [] req reason
      ∙ (ap (λ (a : Actor). next (now_of e []) e.event a (rows.Refused req reason)) by_user
      ∙ ap (λ (x : Seen). next x e.event actors.Ui (rows.Refused req reason)) (now e req None what by_user own nr aside))

  -- ---- the requests: one more, which is refused

  there : request_in w.requests req ≡ Some asked
  there = new_there s w asked req nr

  requests_are : n.requests ≡ s.requests ++ lost ∷ []
  requests_are =
      ap (λ (o : Option Asked). option_map_or (λ (q : Asked). slice_set w.requests (req.0 - 1) (refuse q)) o w.requests) there
      ∙ (ap (λ (i : ℕ). slice_set w.requests i lost) last ∙ set_last s.requests asked lost)
    where
      last : (req.0 - 1) ≡ length s.requests
      last = omega (arith, nr)

  abbrev m : Seen
  m = more s n lost req nr

  n_is : n ≡ m
  n_is = ap (λ (l : List Asked). record n { requests = l }) requests_are

  comes : IsComing blame s n
  comes =
      subst (λ (x : Seen). IsComing blame s x) (sym n_is) (coming_more s n lost req nr refl refl refl refl t queue blame stands (subst (λ (x : Seen). WereShown x) n_is were) refl unstood)
    where
      unstood : s.has_stood ≡ false → all_stand m m.history.current ≡ false → n.has_stood ≡ false
      unstood off away =
          unstood_by w (record { event = e.event; actor = actors.Ui; row = rows.Refused req reason }) refl away (unstood_by s (record { event = e.event; actor = actors.Ui; row = rows.Accepted req None what }) refl away off)

      were : WereShown n
      were =
          were_shown w e.event actors.Ui (were_shown s e.event actors.Ui stands.lasts.were (rows.Accepted req None what) tt) (rows.Refused req reason) tt

  -- ---- it was nowhere before

  none : request_in s.requests req ≡ None
  none = none_before s.requests asked req nr

  nowhere : times_found req s.desks s.joined s.parked (at_hand (open_among s.requests check.loads) []) ≡ 0
  nowhere = stands.between.tab.once req (rw none refl) ∙ rw none refl

  pub unparked : has_req s.parked req ≡ false
  unparked = times_none req s.parked (let zero_ = nowhere in omega (arith, zero_))

  unjoined : has_req s.joined req ≡ false
  unjoined = times_none req s.joined (let zero_ = nowhere in omega (arith, zero_))

  joined_same : n.joined ≡ s.joined
  joined_same = ap (λ (l : List ReqId). without_req req l) joins ∙ without_same s.joined req unjoined

  parked_same : n.parked ≡ s.parked
  parked_same = without_same s.parked req unparked

  -- ---- what holds between two events

  module _ (tab : IsTab run (req ∷ check.loads) [] w) (flows : Flows w) where
    other : is_this run req ≡ false
    other = sym (tab.asked.only req asked there)

    tab_then : IsTab run check.loads [] n
    tab_then = first_refused_tab run req check.loads [] w e.event tab other actors.Ui reason tt

    left : AreLeft run s.requests n.requests
    left =
        others_left run s.requests n.requests req other
        (λ r apart. on_else w.requests req refuse r apart ∙ others_before s.requests asked req nr r (let turned : (req.0 == r.0) ≡ false = grind (arith, nat_tests, apart) in turned))
        (λ q at. (let is : lost ≡ q = some_same (sym own_one ∙ at) in sym (ap is_ongoing_load is)))
        (λ q at. let never : None ≡ Some q = sym none ∙ at in absurd cc)
      where
        own_one : request_in n.requests req ≡ Some lost
        own_one = ap (λ (l : List Asked). request_in l req) requests_are ∙ new_there s n lost req nr

    between : IsBetweenChecks t.kept.keep run check.loads check.holds n
    between =
        between_left t.kept.keep run s n stands.between tab_then
        (record { g = λ x. x; keeps = keeps_all; documents = sym (map-id s.documents); asked = left; history = refl; places = refl; kept = refl; joined = joined_same; parked = parked_same; orders = λ go. ap (list_any has_order) (unrefused s.desks actors.Ui tt) ∙ go })
        (left_flows w n (refused_left w e.event actors.Ui req reason) refl refl refl (refused_held w e.event actors.Ui req reason unparked) flows)
        (refused_rests w e.event actors.Ui [] (accepted_rests s e.event actors.Ui [] stands.between.rests req None what) req reason)

    -- ---- what goes on

    going : IsGoing run check.loads [] n
    going =
        refused_going run (req ∷ check.loads) [] w e.event actors.Ui going_w req asked there refl reason check.loads [] tab_then (refused_lasting w e.event actors.Ui going_w.lasting req reason)
      where
        going_w : IsGoing run (req ∷ check.loads) [] w
        going_w =
            subst (λ (x : Seen). IsGoing run (req ∷ check.loads) [] x) (now e req None what by_user own nr aside) (goes_on e req None what by_user own nr aside t queue blame stands room (λ x never. absurd cc) (req ∷ check.loads) tab)

    -- ---- the tables

    tied : AreTied n t
    tied =
        record {
          holds = left_holds (sights_of w run) (sights_of n run) t refl refl refl moved refl refl refl tied_w.holds;
          runs = runs_ended_apart w.requests run req (endings.Refused reason) other tied_w.runs;
          goal = goal_same w.requests n.requests run t.goal (on_read goal_read w.requests req refuse (λ q. refl)) tied_w.goal;
          few = tied_w.few;
          initial = tied_w.initial;
          loads = other_ends w n req (refused_ended w e.event actors.Ui req reason) t.loads tied_w.loads (unstarted_no_load w req asked there refl);
          kept = tied_w.kept;
        }
      where
        tied_w : AreTied w t
        tied_w =
            subst (λ (x : Seen). AreTied x t) (now e req None what by_user own nr aside) (tied_now e req None what by_user own nr aside t queue blame stands (req ∷ check.loads) tab)

        moved : moved_by n.requests run ≡ moved_by w.requests run
        moved =
            moved_same w.requests n.requests run (ended_moved w e.event actors.Ui req (endings.Refused reason))

    -- ---- the queue

    queued : HasQueue n run queue.waiting
    queued =
        record { traversals = joined_still run (filter is_traverse queue.waiting) stands.queue.traversals; ready = await; steps = stands.queue.steps }
      where
        stay : (r : ReqId) (q : Asked) → request_in s.requests r ≡ Some q → request_in n.requests r ≡ Some q
        stay r q at = ap (λ (l : List Asked). request_in l r) requests_are ∙ old_stays s n lost req nr r q at

        joined_still : (o : Option ReqId) (steps : List QueueStep) → HaveJoined s o steps → HaveJoined n o steps
        joined_still None steps have =
            subst (λ (l : List ReqId). AreStepsOf n.requests l steps) (sym joined_same) (steps_stay s.requests n.requests stay s.joined steps have)
        joined_still (Some r) steps have =
            record { rest = have.rest; joined = joined_same ∙ have.joined; steps_ = steps_stay s.requests n.requests stay have.rest steps have.steps_ }

        await : AwaitTurns n queue.waiting
        await r q nav at ready its =
            by_old (one_of s n lost req nr r q (ap (λ (l : List Asked). request_in l r) (sym requests_are) ∙ at))
          where
            by_old : (request_in s.requests r ≡ Some q) ⊎ ((r ≡ req) × (q ≡ lost)) → Has queue.waiting (Ready r nav)
            by_old (inl old) = stands.queue.ready r q nav old ready its
            by_old (inr it) =
                let never : false ≡ true = ap (λ (x : Asked). is_ready_load n x) (sym it.1) ∙ ready in absurd cc

    held : HoldsParked n queue.parked
    held =
        stands.parked
        ∙ sym (refused_held w e.event actors.Ui req reason unparked ∙ accepted_held s e.event actors.Ui req None what)

    strays : AreLeftStrays n blame
    strays =
        subst (λ (x : Seen). AreLeftStrays x blame) (sym n_is) (strays_more s n lost req nr refl refl refl refl t queue blame stands)

    goes : EachGoes e [] out
    goes = goes_more e [] [] (rows.Refused req reason) (none_goes e []) (refused_goes e [] req reason)

    makes : MakesServe n
    makes =
        subst (λ (x : Seen). MakesServe x) now_refused
        (put_makes e run [] out goes (subst (λ (x : Seen). ArePlain run x) (sym now_refused) tab_then.asked) (refusal_put e req reason)
        (makes_first e aside (ap (λ (k : RowKind). leads k) own) (comes_now e req None what by_user own nr aside t queue blame stands).serves stands.lasts.makes))

    sound : OrdersAreSound n
    sound =
        subst (λ (x : Seen). OrdersAreSound x) now_refused
        (put_sound e [] out goes (refusal_put e req reason) (sound_first e aside (ap (λ (k : RowKind). leads k) own) (keeps_coming blame s (now_of e []) (comes_now e req None what by_user own nr aside t queue blame stands)) stands.lasts.sound))

    pub denied_stands : AreShownOnce (now_of e out).places → StandsFor check (now_of e out) t queue blame
    denied_stands shown =
        subst (λ (x : Seen). StandsFor check x t queue blame) (sym now_refused)
        (stands_still (seen_start e) t queue blame stands n comes between going tied makes sound (subst (λ (x : Seen). AreShownOnce x.places) now_refused shown) strays queued held)
