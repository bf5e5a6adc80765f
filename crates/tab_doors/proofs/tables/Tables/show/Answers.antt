use Rattle.indexmap.specs.IndexMap.{insert_entry}
use Rattle.log_model.specs.declared.job.Job.{Job}
use Rattle.nav_tree.specs.Tree.{is_nav}
use Rattle.std.proofs.Common.{ap, refl, ℕ, ◌∙◌}
use Rattle.tab_ids.specs.declared.JobId.{JobId}
use Rattle.tab_doors.proofs.Nodes.{still_more}
use Rattle.tab_doors.proofs.Works.{order_there, has_proc, next_work}
use Rattle.tab_doors.proofs.ShowWorks.{show_work, show_known, show_known_more, show_fits}
use Rattle.tab_doors.proofs.tables.Tables.show.Goals as goal

pub give-requires-clause-known : goal.give-requires-clause-known
give-requires-clause-known g c = show_known _ _ _ _ _ _ _ _ _ c.requires.1.1.0

pub give-requires-clause-epoch : goal.give-requires-clause-epoch
give-requires-clause-epoch g c = show_fits _ _ _ _ _ _ _ _ _ c.requires.1.1.0 c.requires.1.1.1.1.0

pub set_told-requires : goal.set_told-requires
set_told-requires g c = show_known_more _ _ _ _ _ _ _ _ _ c.requires.1.1.0 _ _ c.give.ensures.tree

pub set_moved-requires : goal.set_moved-requires
set_moved-requires g c = still_more _ _ _ _ c.set_told.ensures (show_known_more _ _ _ _ _ _ _ _ _ c.requires.1.1.0 _ _ c.give.ensures.tree)

pub proc_there-proc-requires : goal.proc_there-proc-requires
proc_there-proc-requires g c = has_proc _ _ _ _ _ c.requires.0 c.requires.1.1.0.goes.found

pub returns-clause-work : goal.returns-clause-work
returns-clause-work g c =
    rw (c.set_moved.ensures, c.set_told.ensures, c.give.ensures.tree, c.is_some.ensures) (next_work _ _ _ _ (order_there _ _ _ _ _ c.requires.0 c.requires.1.1.0.goes.found _ _ _ _ _ c.proc_there-proc.ensures c.in_ok-push.ensures.ok c.in_ok-job.ensures.job) (show_work _ _ _ _ _ _ _ _ _ _ _ _ _ c.requires.0 c.requires.1.0 c.requires.1.1.0 c.requires.1.1.1.0 refl (record { making = refl; whose = refl; shown = c.in_ok-insert.ensures.entries ∙ ap (λ (n : JobId). insert_entry is_nav c.args.self.now.shown.entries c.args.nav n) (ap (λ (j : Job). j.nr) c.in_ok-job.ensures.job ∙ ap (λ (n : ℕ). let x : JobId = record { 0 = n } in x) c.requires.0.holds.sent); last = c.in_ok-insert-2.ensures.entries; history = refl; documents = refl; states = refl; entries = refl; sent = c.in_ok-job.ensures.sent; loads = refl; initial = refl; checks = refl; asking = refl }) refl refl _ c.requires.1.1.1.1.1.0 c.requires.1.1.1.1.1.1 c.take.ensures.rest))

pub returns-clause-out : goal.returns-clause-out
returns-clause-out g c = order_there _ _ _ _ _ c.requires.0 c.requires.1.1.0.goes.found _ _ _ _ _ c.proc_there-proc.ensures c.in_ok-push.ensures.ok c.in_ok-job.ensures.job
