use Rattle.std.proofs.Common.{◌∙◌, sym, arith}
use Rattle.history_log.proofs.StillLaws.{idle_more, still_found, busy_found}
use Rattle.history_log.proofs.log.Log.still.Goals as goal

pub returns-then-not-is_idle : goal.returns-then-not-is_idle
returns-then-not-is_idle c =
    sym (rw (← c.self.view_is, ← c.as_slice-rows.ensures.value) (busy_found c.as_slice-rows.result.now c.in-Some.proc (sym c.is_idle.ensures ∙ c.if-not-is_idle.true)))

pub processes-smaller : goal.processes-smaller
processes-smaller c =
    let more = idle_more c.as_slice-rows.result.now c.processes.from c.in-Some.proc (sym c.next_named.ensures ∙ c.in-Some.is) c.processes.invariant.idle (sym c.is_idle.ensures ∙ c.if-not-is_idle.false) in
    omega (arith, more.1, c.number_after-from.ensures.after, c.number_after-from.ensures.few)

pub processes-preserved : goal.processes-preserved
processes-preserved c =
    let more = idle_more c.as_slice-rows.result.now c.processes.from c.in-Some.proc (sym c.next_named.ensures ∙ c.in-Some.is) c.processes.invariant.idle (sym c.is_idle.ensures ∙ c.if-not-is_idle.false) in
    record { idle = rw c.number_after-from.ensures.after more.0; few = c.number_after-from.ensures.few }

pub returns : goal.returns
returns c =
    sym (rw (← c.self.view_is, ← c.as_slice-rows.ensures.value) (still_found c.as_slice-rows.result.now c.processes.from (sym c.next_named.ensures ∙ c.in_default.is) c.processes.invariant.idle))
