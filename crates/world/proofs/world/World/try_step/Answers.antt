use Rattle.std.proofs.Common.{◌≡◌, ◌∙◌, Bool, List, Option, ℕ, ◌<◌, true, false, length, take, Ok, Err, sym, ap, subst, arith}
use Rattle.log_model.specs.declared.handler.HandlerKind.{HandlerKind}
use Rattle.log_model.specs.Logs.{seen_of}
use Rattle.log_model.specs.Seen.{Desk, Seen}
use Rattle.proc_tables.specs.Desks.{desk_at}
use Rattle.tab_ids.specs.declared.ProcId.{ProcId}
use Rattle.world.specs.declared.event.Event.{Event}
use Rattle.world.specs.declared.event.Reply.{Reply}
use Rattle.world.specs.Open.{row_limit}
use Rattle.world.specs.declared.error.StepError.TheVariants as errors
use Rattle.world.specs.Kept.{IsKept, WorldState}
use Rattle.world.proofs.AnswerLaws.{answers_on}
use Rattle.world.proofs.Opens.{open_kept}
use Rattle.world.specs.Steps.{Steps, idle_at}
use Rattle.world.proofs.StepLaws.{idle_steps, full_steps, gone_steps, failed_steps, is_due}
use Rattle.world.proofs.world.World.try_step.Goals as goal

-- the kinds that were lent are the world's
idle_is_ : (desks : List (ProcId × Desk)) (s : Seen) (event : Event) {idle : Option Reply} {lent kinds : List HandlerKind} → idle ≡ idle_at lent (desk_at desks) s event → lent ≡ kinds → idle ≡ idle_at kinds (desk_at desks) s event
idle_is_ desks s event is same =
    is ∙ ap (λ (k : List HandlerKind). idle_at k (desk_at desks) s event) same

pub returns-in-Some-clause-steps : goal.returns-in-Some-clause-steps
returns-in-Some-clause-steps c =
    subst (λ (w : WorldState). w.closed ≡ false → Steps w c.args.event (Ok c.in-Some.reply) w) c.self.view_is (λ e. idle_steps _ _ (c.self.invariant.stands e) c.args.event c.in-Some.reply (sym (idle_is_ c.self.inside.state.desks (seen_of c.self.inside.log) c.args.event (c.idle.ensures _ (c.self.invariant.stands e).keeps.stands) c.as_slice.ensures.value) ∙ c.in-Some.is))

pub returns-then-before-ge-ROW_LIMIT-clause-steps : goal.returns-then-before-ge-ROW_LIMIT-clause-steps
returns-then-before-ge-ROW_LIMIT-clause-steps c =
    subst (λ (w : WorldState). w.closed ≡ false → Steps w c.args.event (Err errors.LogFull) w) c.self.view_is (λ e. full_steps _ _ (c.self.invariant.stands e) c.args.event (sym (idle_is_ c.self.inside.state.desks (seen_of c.self.inside.log) c.args.event (c.idle.ensures _ (c.self.invariant.stands e).keeps.stands) c.as_slice.ensures.value) ∙ c.in_default.is) (omega (arith, c.if-before-ge-ROW_LIMIT.true, c.len-before.ensures)))

pub go-requires-clause-due : goal.go-requires-clause-due
go-requires-clause-due c =
    (c.self.inside.kinds.items, is_due (record { header = c.self.inside.header; kinds = c.self.inside.kinds.items; log = c.self.inside.log; closed = false }) _ (c.self.invariant.stands c.if-self.false) c.args.event (sym (idle_is_ c.self.inside.state.desks (seen_of c.self.inside.log) c.args.event (c.idle.ensures _ (c.self.invariant.stands c.if-self.false).keeps.stands) c.as_slice.ensures.value) ∙ c.in_default.is))

pub returns-in-Ok-clause-steps : goal.returns-in-Ok-clause-steps
returns-in-Ok-clause-steps c =
    let room : length c.self.inside.log < row_limit = omega (arith, c.if-before-ge-ROW_LIMIT.false, c.len-before.ensures) in
    subst (λ (w : WorldState). w.closed ≡ false → Steps w c.args.event (Ok c.in-Ok.reply) (record { header = c.self.inside.header; kinds = c.self.inside.kinds.items; log = c.go.new.log; closed = c.self.inside.closed })) c.self.view_is (λ e. gone_steps _ _ (c.self.invariant.stands e) c.args.event (sym (idle_is_ c.self.inside.state.desks (seen_of c.self.inside.log) c.args.event (c.idle.ensures _ (c.self.invariant.stands e).keeps.stands) c.as_slice.ensures.value) ∙ c.in_default.is) c.in-Ok.reply _ _ room c.in-Ok.ensures.gone)

pub returns-in-Err-clause-steps : goal.returns-in-Err-clause-steps
returns-in-Err-clause-steps c =
    let room : length c.self.inside.log < row_limit = omega (arith, c.if-before-ge-ROW_LIMIT.false, c.len-before.ensures) in
    let cut : c.cut.new.self ≡ c.self.inside.log = c.cut.ensures ∙ (ap (λ (n : ℕ). take n c.go.new.log) c.len-before.ensures ∙ c.in-Err.ensures.front) in
    rw cut (subst (λ (w : WorldState). w.closed ≡ false → Steps w c.args.event (Err c.in-Err.error) (record { header = c.self.inside.header; kinds = c.self.inside.kinds.items; log = c.self.inside.log; closed = true })) c.self.view_is (λ e. failed_steps _ _ (c.self.invariant.stands e) c.args.event (sym (idle_is_ c.self.inside.state.desks (seen_of c.self.inside.log) c.args.event (c.idle.ensures _ (c.self.invariant.stands e).keeps.stands) c.as_slice.ensures.value) ∙ c.in_default.is) c.in-Err.error room c.in-Err.ensures.shuts))

pub invariant_of-self : goal.invariant_of-self
invariant_of-self c =
    let stands = c.self.invariant.stands c.if-self.false in
    let due = is_due (record { header = c.self.inside.header; kinds = c.self.inside.kinds.items; log = c.self.inside.log; closed = false }) c.self.inside.state stands c.args.event (sym (idle_is_ c.self.inside.state.desks (seen_of c.self.inside.log) c.args.event (c.idle.ensures _ stands.keeps.stands) c.as_slice.ensures.value) ∙ c.in_default.is) in
    let gone = c.in-Ok.ensures.gone in
    subst (λ (closed : Bool). IsKept c.self.inside.header c.self.inside.kinds.items c.go.new.log c.go.new.state closed) (sym c.if-self.false)
    (open_kept c.self.inside.header c.self.inside.kinds.items c.go.new.log c.go.new.state gone.stands
    (answers_on c.self.inside.kinds.items c.args.event c.in-Ok.reply c.self.inside.log c.go.new.log stands.keeps.some gone.stands.keeps.legal due gone.happened c.self.invariant.answers))
