use Rattle.std.proofs.Common.{ap, sym, ◌∙◌, List}
use Rattle.std.specs.Prelude.{slice_get}
use Rattle.std.proofs.lemmas.Bool.{eqb-true}
use Rattle.log_model.specs.declared.row.Row.{Row}
use Rattle.entry_store.proofs.AppendLaw.{list_begins}
use Rattle.entry_store.proofs.append.list_of.Goals as goal

pub returns-then-eq : goal.returns-then-eq
returns-then-eq c =
    list_begins c.args.nests.now c.args.nav c.loop-place.place c.index-nests-place.result c.in-Some.row.now c.loop-place-test.true c.index-nests-place.is
    (ap (λ (rows : List Row). slice_get rows 0) (sym c.deref.ensures.value) ∙ sym c.in-Some.ensures.value)
    (eqb-true c.in-Some.row.now.nav.0 c.args.nav.0 (sym c.if-eq.ensures))
