use Rattle.std.proofs.Common.{◌≡◌, refl, ◌∙◌, sym, ap, subst, ℕ, List, ◌++◌, ◌∷◌, [], None}
use Rattle.std.proofs.lemmas.List.{append-nil}
use Rattle.log_model.specs.declared.row.Row.{Row}
use Rattle.step_index.specs.declared.track.Track.{Track}
use Rattle.step_index.specs.Groups.{AreCounted}
use Rattle.step_index.specs.Starts.{AreStarted}
use Rattle.step_index.specs.Tracks.{rows_of}
use Rattle.step_index.proofs.Counting.{none_counted, more_counted}
use Rattle.step_index.proofs.First.{first_kept}
use Rattle.step_index.proofs.Starting.{one_started}
use Rattle.step_index.proofs.opening.fresh_parts.Goals as goal

pub returns-clause-kept : goal.returns-clause-kept
returns-clause-kept c =
    let row : Row = record { owner = None; nav = record { 0 = 0 }; entry = record { maker = 0; nr = 1 }; step = record { 0 = 0 }; state = record { 0 = 1 }; address = c.in_ok-address.address; memo = None } in
    let track : Track = record { nav = record { 0 = 0 }; rows = c.push.new.self } in
    let items : c.push.new.self.items ≡ row ∷ [] = c.in_ok-push.ensures.items ∙ ap (λ (rows : List Row). rows ++ row ∷ []) c.new-rows.ensures.items in
    let rows : rows_of c.push-2.new.self.items ≡ row ∷ [] =
    ap rows_of (c.in_ok-push-2.ensures.items ∙ ap (λ (tracks : List Track). tracks ++ track ∷ []) c.new-tracks.ensures.items)
    ∙ append-nil c.push.new.self.items ∙ items in
    first_kept row.entry row.state c.in_ok-address.address (rows_of c.push-2.new.self.items) c.new.result.keys c.push-3.new.self.items rows c.new.ensures.empty
    (c.in_ok-push-3.ensures.items ∙ ap (λ (steps : List ℕ). steps ++ 0 ∷ []) c.new-used.ensures.items)

pub returns-clause-started : goal.returns-clause-started
returns-clause-started c =
    let row : Row = record { owner = None; nav = record { 0 = 0 }; entry = record { maker = 0; nr = 1 }; step = record { 0 = 0 }; state = record { 0 = 1 }; address = c.in_ok-address.address; memo = None } in
    let track : Track = record { nav = record { 0 = 0 }; rows = c.push.new.self } in
    let items : c.push.new.self.items ≡ row ∷ [] = c.in_ok-push.ensures.items ∙ ap (λ (rows : List Row). rows ++ row ∷ []) c.new-rows.ensures.items in
    let rows : rows_of c.push-2.new.self.items ≡ row ∷ [] =
    ap rows_of (c.in_ok-push-2.ensures.items ∙ ap (λ (tracks : List Track). tracks ++ track ∷ []) c.new-tracks.ensures.items)
    ∙ append-nil c.push.new.self.items ∙ items in
    subst (λ (r : List Row). AreStarted c.in_ok-starts.starts.entries r) (sym rows) (one_started c.in_ok-starts.starts.entries row c.in_ok-starts.ensures)

pub returns-clause-counted : goal.returns-clause-counted
returns-clause-counted c =
    let row : Row = record { owner = None; nav = record { 0 = 0 }; entry = record { maker = 0; nr = 1 }; step = record { 0 = 0 }; state = record { 0 = 1 }; address = c.in_ok-address.address; memo = None } in
    let track : Track = record { nav = record { 0 = 0 }; rows = c.push.new.self } in
    let items : c.push.new.self.items ≡ row ∷ [] = c.in_ok-push.ensures.items ∙ ap (λ (rows : List Row). rows ++ row ∷ []) c.new-rows.ensures.items in
    let rows : rows_of c.push-2.new.self.items ≡ row ∷ [] =
    ap rows_of (c.in_ok-push-2.ensures.items ∙ ap (λ (tracks : List Track). tracks ++ track ∷ []) c.new-tracks.ensures.items)
    ∙ append-nil c.push.new.self.items ∙ items in
    subst (λ (r : List Row). AreCounted c.in_ok-counts.counts.entries r) (sym rows)
    (more_counted [] c.in_ok-counts.counts.entries [] (row ∷ []) row (record { front = []; back = []; was = refl; is = refl }) c.in_ok-counts.ensures none_counted)
