-- What a store keeps sorted is a fact that holds in one way.
use Rattle.std.specs.Prelude.{◌≡◌, ℕ, false, not, nat_le, List, [], ◌∷◌}
use Rattle.std.specs.List.{list_any}
use Rattle.std.specs.Coded.{×_prop, Unit-prop}
use Rattle.std.proofs.Math.Bool.{Bool-set}
use Rattle.tab_ids.specs.declared.NavId.{NavId}
use Rattle.log_model.specs.declared.row.Row.{Row}
use Rattle.log_model.specs.History.{is_of}
use Rattle.step_index.specs.declared.track.Track.{Track}
use Rattle.step_index.specs.Ascending.{IsAscending}
use Rattle.step_index.specs.Tracks.{IsTrack, AreTracks, nav_of, step_of}

IsAscending-prop : {A : Type 0} (number : A → ℕ) (items : List A) → IsProp (IsAscending number items)
IsAscending-prop number [] = Unit-prop
IsAscending-prop number (item ∷ items) = ×_prop (Bool-set _ _) (IsAscending-prop number items)

IsTrack-prop : (nav : NavId) (rows : List Row) → IsProp (IsTrack nav rows)
IsTrack-prop nav rows =
    let own : IsProp (list_any (λ (row : Row). not (is_of nav row)) rows ≡ false) = Bool-set _ _ in
    let ascend : IsProp (IsAscending step_of rows) = IsAscending-prop step_of rows in
    ×_prop own ascend

pub AreTracks-prop : (tracks : List Track) → IsProp (AreTracks tracks)
AreTracks-prop [] = Unit-prop
AreTracks-prop (track ∷ tracks) =
    let lower : IsProp (list_any (λ (other : Track). nat_le (nav_of other) (nav_of track)) tracks ≡ false) = Bool-set _ _ in
    let one : IsProp (IsTrack track.nav track.rows.items) = IsTrack-prop track.nav track.rows.items in
    let rest : IsProp (AreTracks tracks) = AreTracks-prop tracks in
    ×_prop lower (×_prop one rest)
