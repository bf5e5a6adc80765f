-- Where an event was cut behind the first part of a pass, or where the tab has come to rest, a load may pass its check.
use Rattle.load_midway.specs.Midway.{IsCutFor}
use Rattle.log_model.specs.declared.job.Why.{Why}
use Rattle.move_queue.specs.Queue.{Queue}
use Rattle.seen_laws.specs.InEvent.{now_of}
use Rattle.std.proofs.Common.{List, [], false}
use Rattle.tab_doors.specs.declared.tables.Tables.{Tables}
use Rattle.tab_ids.specs.declared.ReqId.{ReqId}
use Rattle.tab_ids.specs.declared.StateId.{StateId}
use Rattle.tab_prompts.specs.Asking.{BeginsAsked}
use Rattle.tab_settles.specs.Held.{HasCleared}
use Rattle.tab_settles.specs.PassedOn.{InPass}
use Rattle.tab_settles.specs.Settling.{HasSettled, MakesServe, OrdersAreSound}

module _ (p : InPass) (t : Tables) (queue : Queue) (blame : List (StateId × ReqId)) (cause : Why) (begins : BeginsAsked p.event t.checks) (makes : MakesServe (now_of p.event [])) (sound : OrdersAreSound (now_of p.event [])) where
  pub cut_cleared : HasCleared false p [] t queue blame cause → IsCutFor p t queue
  cut_cleared at =
      record {
        passing = at.ready.passing;
        empty = at.ready.empty;
        header = at.ready.header;
        queueing = at.ready.queueing;
        begins = begins;
        live = at.ready.live;
        theirs = at.ready.theirs;
        moved = at.ready.moved;
        late = at.ready.late;
        makes = makes;
        sound = sound;
      }

  pub cut_settled : HasSettled p [] t queue blame cause → IsCutFor p t queue
  cut_settled at =
      record {
        passing = at.passing;
        empty = at.empty;
        header = at.header;
        queueing = at.queueing;
        begins = begins;
        live = at.live;
        theirs = at.theirs;
        moved = at.moved;
        late = at.late;
        makes = makes;
        sound = sound;
      }
