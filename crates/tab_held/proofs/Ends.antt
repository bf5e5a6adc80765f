-- The event in which a traversal in its check held the queue ends: the coordinator stands for what the log would have come to.
use Rattle.asking_facts.specs.Known.{AskingKnown}
use Rattle.asking_facts.specs.Noting.{IsAllTied}
use Rattle.log_model.specs.declared.job.Why.{Why}
use Rattle.log_model.specs.declared.row_kind.LogRow.{LogRow}
use Rattle.log_model.specs.declared.row_kind.RowKind.{RowKind}
use Rattle.move_queue.specs.Queue.{Queue}
use Rattle.tab_stands.proofs.Placing.{either_of}
use Rattle.seen_facts.specs.Hang.Members.{Has}
use Rattle.seen_laws.proofs.Cuts.{later_cut, log_cut, rows_cut}
use Rattle.seen_laws.proofs.InEvents.{later_more}
use Rattle.seen_laws.specs.Blocks.{EachPass, Here, Passes, on_row, point_at}
use Rattle.seen_laws.specs.InEvent.{EndAsWanted, InEvent, IsTakenIn, cut, later_of, log_of, now_of, row_of, rows_of, running, start_of, wanting}
use Rattle.std.proofs.Common.{Bool, List, [], ap, append_assoc, inl, inr, map, subst, sym, true, ◌++◌, ◌∙◌, ◌∷◌, ◌≡◌, ◌⊎◌}
use Rattle.tab_doors.specs.declared.tables.Tables.{Tables}
use Rattle.tab_facts.specs.Order.Orders.{IsOfCoord}
use Rattle.tab_held.specs.Holding.{HasRestedHeld, held_prompts}
use Rattle.tab_ids.specs.declared.ReqId.{ReqId}
use Rattle.tab_ids.specs.declared.StateId.{StateId}
use Rattle.tab_prompts.proofs.Works.{prompts_keep}
use Rattle.tab_prompts.specs.Asking.{ArePrompts}
use Rattle.tab_settles.proofs.Puts.{put_makes}
use Rattle.tab_settles.proofs.Sounds.{put_sound}
use Rattle.tab_settles.specs.PassedOn.{InPass}
use Rattle.tab_settles.specs.Settling.{MakesServe, OrdersAreSound}
use Rattle.tab_stands.proofs.Checked.{known_end}
use Rattle.tab_stands.proofs.Ended.{acted}
use Rattle.tab_stands.proofs.EpochRows.{event_under, prompted_under}
use Rattle.tab_stands.proofs.GoingOn.{acted_then, goes_is, with_checking}
use Rattle.tab_stands.specs.Checked.{told_all}
use Rattle.tab_stands.specs.GoingOn.{GoesOn}
use Rattle.tab_stands.specs.Offs.{AreShownUnder}
use Rattle.tab_stands.specs.Standing.{HasActed, InCheck, IsTakenUp}

-- the first rows pass where all do
pass_front : (h : Here) (rows_ more later : List LogRow) → EachPass h (rows_ ++ more) later → EachPass h rows_ (more ++ later)
pass_front h [] more later passes = tt
pass_front h (row ∷ rows_) more later passes = (
  subst (λ (l : List LogRow). Passes h.header (point_at h l) row) (append_assoc rows_ more later) passes.0,
  pass_front (on_row h row) rows_ more later passes.1,
)

-- ---- what is known of the log where the event goes on

module _ (e : InEvent) (mid prompts more : List RowKind) (are : ArePrompts prompts) where
  abbrev first : List RowKind
  first = mid ++ prompts

  -- the rows of the first part pass, where all of the event's do
  front : EachPass (start_of e) (rows_of e (first ++ more)) [] → EachPass (start_of e) (rows_of e mid) (map (row_of e) (prompts ++ more) ++ [])
  front passes =
      pass_front (start_of e) (rows_of e mid) (map (row_of e) (prompts ++ more)) []
      (subst (λ (l : List LogRow). EachPass (start_of e) (row_of e e.own ∷ l) []) (ap (λ (l : List RowKind). later_of e l) (append_assoc mid prompts more) ∙ later_more e mid (prompts ++ more)) passes)

  under : EachPass (start_of e) (rows_of e (first ++ more)) [] → ((row : RowKind) → Has mid row → IsOfCoord row) → AreShownUnder (log_of e []) → AreShownUnder (log_of e (mid ++ prompts))
  under passes of_coord shows =
      prompts_keep AreShownUnder e (λ s req doc is. prompted_under s e.event e.actor req doc is) prompts mid are (event_under e mid (map (row_of e) (prompts ++ more) ++ []) (front passes).1 of_coord shows)

  module _ (at : InEvent) (goes : GoesOn e (mid ++ prompts) at) where
    abbrev same : InEvent
    same = running (wanting (cut e (mid ++ prompts) at.checking at.due) at.wants) at.ran

    is : at ≡ same
    is = goes_is e (mid ++ prompts) at goes

    pub all_rows : EachPass (start_of at) (rows_of at more) [] → EachPass (start_of e) (rows_of e ((mid ++ prompts) ++ more)) []
    all_rows passes =
        subst (λ (l : List LogRow). EachPass (start_of e) l []) (rows_cut e (mid ++ prompts) at.checking at.due more)
        (subst (λ (x : InEvent). EachPass (start_of x) (rows_of x more) []) is passes)

    pub log_there : log_of at [] ≡ log_of e (mid ++ prompts)
    log_there = ap (λ (x : InEvent). log_of x []) is ∙ log_cut e (mid ++ prompts) at.checking at.due

    pub under_there : ((row : RowKind) → Has mid row → IsOfCoord row) → AreShownUnder (log_of e []) → EachPass (start_of at) (rows_of at more) [] → AreShownUnder (log_of at [])
    under_there of_coord shows passes =
        subst AreShownUnder (sym log_there) (under (all_rows passes) of_coord shows)

    -- what the event delivers is taken up, if that is so among the rows before
    pub taken_there : (was rest : List RowKind) → mid ≡ was ++ rest → IsTakenUp e was → IsTakenIn at (later_of at more)
    taken_there was rest split taken =
        subst (λ (x : InEvent). IsTakenIn x (later_of x more)) (sym is)
        (subst (λ (l : List LogRow). IsTakenIn e l) (sym (later_cut e (mid ++ prompts) at.checking at.due more ∙ ap (λ (l : List RowKind). later_of e l) (ap (λ (l : List RowKind). (l ++ prompts) ++ more) split ∙ ap (λ (l : List RowKind). l ++ more) (append_assoc was rest prompts) ∙ append_assoc was (rest ++ prompts) more) ∙ later_more e was ((rest ++ prompts) ++ more))) (taken (map (row_of e) ((rest ++ prompts) ++ more))))

-- ---- the event ends

module _ (p : InPass) (was out : List RowKind) (t u : Tables) (queue : Queue) (blame : List (StateId × ReqId)) (cause : Why) (req : ReqId) (rested : HasRestedHeld p was out t u queue blame cause req) (of_coord : (row : RowKind) → Has was row → IsOfCoord row) where
  abbrev e : InEvent
  e = p.event

  abbrev at : InEvent
  at = rested.at

  abbrev mid : List RowKind
  mid = rested.mid

  abbrev prompts : List RowKind
  prompts = held_prompts p.event t.checks rested.mid req

  mid_coord : (row : RowKind) → Has mid row → IsOfCoord row
  mid_coord row has =
      by_part (either_of was rested.cleared.more row (subst (λ (l : List RowKind). Has l row) rested.cleared.is has))
    where
      by_part : Has was row ⊎ Has rested.cleared.more row → IsOfCoord row
      by_part (inl there) = of_coord row there
      by_part (inr there) = rested.cleared.each row there

  more_coord : (row : RowKind) → Has rested.rested.more row → IsOfCoord row
  more_coord row has = rested.rested.put.each row (subst (λ (l : List RowKind). Has l row) rested.rested.put.is has)

  -- orders on their way are for what they may be, and sound
  makes_then : MakesServe (now_of p.event was) → MakesServe (now_of rested.at rested.rested.more)
  makes_then makes =
      put_makes at u.running [] rested.rested.more rested.rested.settled.passing.work.goes rested.rested.settled.passing.going.tab.asked rested.rested.put
      (subst MakesServe (sym rested.rested.seen) (put_makes e rested.before.running was mid rested.at_mid.ready.passing.work.goes rested.at_mid.ready.passing.going.tab.asked rested.cleared makes))

  sound_then : OrdersAreSound (now_of p.event was) → OrdersAreSound (now_of rested.at rested.rested.more)
  sound_then sound =
      put_sound at [] rested.rested.more rested.rested.settled.passing.work.goes rested.rested.put
      (subst OrdersAreSound (sym rested.rested.seen) (put_sound e was mid rested.at_mid.ready.passing.work.goes rested.cleared sound))

  known_then : AskingKnown (log_of p.event []) → EachPass (start_of rested.at) (rows_of rested.at rested.rested.more) [] → AskingKnown (log_of rested.at [])
  known_then known passes =
      rested.rested.known (known_end e mid (map (row_of e) (prompts ++ rested.rested.more) ++ []) rested.at_mid.ready.passing.work.goes mid_coord (front e mid prompts rested.rested.more rested.rested.are (all_rows e mid prompts rested.rested.more rested.rested.are at rested.rested.goes passes)) known)

  abbrev check : InCheck
  check = record { loads = p.loads; holds = true }

  abbrev v : Tables
  v = record u { checks = told_all rested.at.ran u.checks rested.rested.more }

  -- each check that is settled has its prompt up, and the rows are as they were wanted: the coordinator stands for what the log would have come to, with the traversal in its check still
  pub held_acts : MakesServe (now_of p.event was) → OrdersAreSound (now_of p.event was) → AreShownUnder (log_of p.event []) → AskingKnown (log_of p.event []) → IsTakenUp p.event was → IsAllTied (log_of rested.at rested.rested.more) (told_all rested.at.ran u.checks rested.rested.more) → EndAsWanted p.event out → HasActed (record { loads = p.loads; holds = true }) p.event out (record u { checks = told_all rested.at.ran u.checks rested.rested.more }) queue blame
  held_acts makes sound shows known taken settled wanted =
      subst (λ (l : List RowKind). HasActed check e l v queue blame) (sym rested.rested.is)
      (subst (λ (checking : ReqId → Bool). HasActed check (with_checking e checking) ((mid ++ prompts) ++ rested.rested.more) v queue blame) rested.rested.same
      (acted_then e (mid ++ prompts) at rested.rested.goes rested.rested.more v queue blame
      (acted (record p { event = at }) rested.rested.more u queue blame cause true (λ held. rested.rested.idle) rested.rested.settled (makes_then makes) (sound_then sound) more_coord (under_there e mid prompts rested.rested.more rested.rested.are at rested.rested.goes mid_coord shows) (known_then known) settled (rested.rested.wanted wanted) (λ never. absurd cc) (taken_there e mid prompts rested.rested.more rested.rested.are at rested.rested.goes was rested.cleared.more rested.cleared.is taken))))
