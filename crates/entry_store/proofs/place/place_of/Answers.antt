use Rattle.std.proofs.Common.{◌≡◌, ap, sym, ◌∙◌, ◌&&◌, find, Bool, Option, Some, None, List}
use Rattle.std.specs.Option.{option_map}
use Rattle.log_model.specs.declared.row.Row.{Row}
use Rattle.log_model.specs.History.{is_of}
use Rattle.entry_store.specs.Nested.{stays}
use Rattle.entry_store.proofs.Reading.{first_here, first_later}
use Rattle.entry_store.proofs.place.place_of.Goals as goal

pub returns-in-Some-clause-owner : goal.returns-in-Some-clause-owner
returns-in-Some-clause-owner c =
    let p : Row → Bool = λ row. is_of c.args.nav row && stays c.args.cut.now c.args.states.now.keys row in
    let here : Some c.in-Some.row.now ≡ find p c.deref.result.now = c.in-Some.ensures in
    ap (λ (row : Option Row). option_map (λ (r : Row). r.owner) row)
    (sym (first_here p c.args.nests.now c.loop-i.i c.index-nests-i.result c.loop-i-test.true c.index-nests-i.is c.in-Some.row.now (ap (λ (rows : List Row). find p rows) (sym c.deref.ensures.value) ∙ sym here) c.loop-i.invariant))

pub loop-i-preserved : goal.loop-i-preserved
loop-i-preserved c =
    let p : Row → Bool = λ row. is_of c.args.nav row && stays c.args.cut.now c.args.states.now.keys row in
    let none : None ≡ find p c.deref.result.now = c.in_default.ensures in
    first_later p c.args.nests.now c.loop-i.i c.index-nests-i.result c.loop-i-test.true c.index-nests-i.is (ap (λ (rows : List Row). find p rows) (sym c.deref.ensures.value) ∙ sym none) c.loop-i.invariant
