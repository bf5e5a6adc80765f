use Rattle.std.proofs.Common.{◌-◌, ◌<◌, ℕ, sym, ◌∙◌, ap, length, arith}
use Rattle.std.proofs.lemmas.Bool.{eqb-true, eq-eqb, false≢true}
use Rattle.step_index.specs.Tracks.{nav_of}
use Rattle.step_index.proofs.Searching.{item_at}
use Rattle.step_index.proofs.Tracking.{tracks_ascend, gap_behind, gap_first}
use Rattle.step_index.proofs.places.find_nav.Goals as goal
use Rattle.step_index.proofs.places.find_nav.Goals.{else-upto-gt0-via-then-upto-gt0+else-eq, else-upto-gt0-via-else-upto-gt0}

pub uncounted_upto-upto-requires : goal.uncounted_upto-upto-requires
uncounted_upto-upto-requires c = record { sorted = tracks_ascend c.args.tracks.now c.requires.tracks }

pub returns-then-eq-clause-here : goal.returns-then-eq-clause-here
returns-then-eq-clause-here c =
    let at : ℕ = c.uncounted_upto-upto.result - 1 in
    let within : at < length c.args.tracks.now = omega (arith, c.uncounted_upto-upto.ensures.within, c.if-upto-gt0.true) in
    record {
      it = c.index-tracks-upto.result;
      within = within;
      here = item_at c.args.tracks.now at c.index-tracks-upto.result within c.index-tracks-upto.is;
      is_navs = ap nav_of c.index-tracks-upto.is ∙ eqb-true _ _ (sym c.eq.ensures ∙ c.if-eq.true);
    }

pub returns-else-upto-gt0-clause-gap : goal.returns-else-upto-gt0-clause-gap
returns-else-upto-gt0-clause-gap c =
    let tracks = c.args.tracks.now in
    let upto = c.uncounted_upto-upto.result in
    let answer = c.uncounted_upto-upto.ensures in
    elim c.else-upto-gt0.branch [
      | else-upto-gt0-via-then-upto-gt0+else-eq w ↦
          let at : ℕ = upto - 1 in
          let within : at < length tracks = omega (arith, answer.within, w.if-upto-gt0.true) in
          gap_behind tracks c.args.nav upto w.index-tracks-upto.result c.requires.tracks answer.within w.if-upto-gt0.true
          (item_at tracks at w.index-tracks-upto.result within w.index-tracks-upto.is)
          (λ same. false≢true (sym w.if-eq.false ∙ w.eq.ensures ∙ eq-eqb _ _ (ap nav_of (sym w.index-tracks-upto.is) ∙ same)))
          answer.upto answer.past
      | else-upto-gt0-via-else-upto-gt0 w ↦ gap_first tracks c.args.nav upto (omega (arith, w.if-upto-gt0.false)) answer.past
    ]
