-- Between the two parts of a pass the table is told and the user is asked about each request that waited, is under way and is settled now: nobody in its check has passed, and a pass may follow, which reads the aim.
use Rattle.log_model.specs.Seen.{Asked, request_of}
use Rattle.log_model.specs.Places.{is_traversal}
use Rattle.log_model.specs.declared.job.Why.{Why}
use Rattle.log_model.specs.declared.row_kind.RowKind.{RowKind}
use Rattle.move_queue.specs.Queue.{Queue}
use Rattle.seen_facts.specs.Hang.Members.{Has}
use Rattle.seen_laws.specs.InEvent.{log_of}
use Rattle.std.proofs.Common.{Bool, List, None, [], true, ◌≡◌, Some}
use Rattle.tab_doors.specs.declared.tables.Tables.{Tables}
use Rattle.tab_ids.specs.declared.ReqId.{ReqId}
use Rattle.tab_ids.specs.declared.StateId.{StateId}
use Rattle.tab_prompts.proofs.Ready.{pass_then, ready_prompted, tables_then}
use Rattle.tab_prompts.proofs.Settled.{IsNotedFor, cut_calm, cut_stands, left, prompts, spared, then_told}
use Rattle.tab_prompts.proofs.Since.{finished_since}
use Rattle.tab_prompts.proofs.Works.{prompts_are}
use Rattle.tab_prompts.specs.Asking.{AreAllWaiting, AreApart, AreUnderWay, BeginsAsked}
use Rattle.tab_prompts.specs.Prompts.{is_settled_in, is_waiting}
use Rattle.tab_prompts.specs.Sparing.{spares}
use Rattle.tab_ids.specs.declared.DocId.{DocId}
use Rattle.tab_settles.specs.PassedOn.{InPass}
use Rattle.tab_settles.specs.Settling.{IsReady, IsReadyIn}
use Rattle.unload_check.specs.Checks.{OpenCheck}

module _ {sweeps : Bool} (p : InPass) (out : List RowKind) (t : Tables) (queue : Queue) (blame : List (StateId × ReqId)) (cause : Why) (ready : IsReadyIn sweeps p out t queue blame cause) (begins : BeginsAsked p.event t.checks) (waited : List ReqId) (apart : AreApart waited) (waits : (req : ReqId) → Has waited req → is_waiting t.checks req ≡ true) (go : AreUnderWay (log_of p.event out) waited) where
  -- the table, and the rows
  abbrev pub its_table : List (ReqId × OpenCheck)
  its_table = then_told None p.event out t ready.passing.work begins

  abbrev pub its_prompts : List RowKind
  its_prompts = prompts None p.event out t ready.passing.work begins waited apart waits go

  pub its_finished : (log_of p.event out).just_finished ≡ None
  its_finished = finished_since p.event out ready.passing.work.goes ready.passing.work.off begins.finished

  -- what is wanted of what comes after
  abbrev pub its_spared : List DocId
  its_spared = spared None p.event out t ready.passing.work begins waited apart waits go

  abbrev pub its_pass : InPass
  its_pass =
      pass_then p out t queue ready.passing ready.queueing its_table its_prompts (prompts_are its_table waited) its_finished (spares its_spared) []

  abbrev pub its_tables : Tables
  its_tables =
      tables_then p out t queue ready.passing ready.queueing its_table its_prompts (prompts_are its_table waited) its_finished (spares its_spared) []

  -- where all traversals that waited and are under way are among these, and about each of them that is settled now the user was asked
  pub ready_again : AreAllWaiting (log_of its_pass.event []) t.checks waited → ((req : ReqId) (q : Asked) → request_of (log_of its_pass.event []) req ≡ Some q → is_traversal q.what ≡ true → Has waited req → is_settled_in its_table req ≡ true → IsNotedFor its_table req) → IsReady its_pass [] its_tables queue blame cause
  ready_again all noted =
      ready_prompted p out t queue blame cause ready its_table its_prompts (prompts_are its_table waited) its_finished (spares its_spared) [] (left None p.event out t ready.passing.work begins waited apart waits go) (cut_stands None p.event out t ready.passing.work begins waited apart waits go) (cut_calm None p.event out t ready.passing.work begins waited apart waits go all noted)

  -- where some of them go on a pass may follow that sweeps alone
  pub ready_to_sweep : IsReadyIn true its_pass [] its_tables queue blame cause
  ready_to_sweep =
      ready_prompted p out t queue blame cause ready its_table its_prompts (prompts_are its_table waited) its_finished (spares its_spared) [] (left None p.event out t ready.passing.work begins waited apart waits go) (cut_stands None p.event out t ready.passing.work begins waited apart waits go) tt
