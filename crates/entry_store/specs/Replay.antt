-- Changes made one after the other.
-- This project's own.
use Rattle.std.specs.Prelude.{◌≡◌, ◌<◌, List, [], ◌∷◌, ◌++◌, fold}
use Rattle.log_model.specs.declared.change.Change.{Change}
use Rattle.log_model.specs.History.{History, Fits, applied}
use Rattle.log_model.specs.Order.{SameHistory}
use Rattle.entry_store.specs.declared.error.StoreError.{StoreError}
use Rattle.entry_store.specs.Store.{MayTake, IsRefused}

-- each change, up to and with the first that doesn't fit, may be made of the history that those before it leave
abbrev pub MayReplay : History → List Change → Type 0
MayReplay history [] = Unit {0}
MayReplay history (change ∷ changes) =
    MayTake history change × ((history.current < 4294967294) × (Fits history change → MayReplay (applied history change) changes))

-- the changes before one place of the list are made, and the one at this place is refused
pub record IsRefusedAt (history : History) (changes : List Change) (new : History) (error : StoreError) : Type 0 where
  pub done : List Change
  pub change : Change
  pub rest : List Change
  pub are : changes ≡ done ++ change ∷ rest
  pub same : SameHistory new (fold applied history done)
  pub refused : IsRefused (fold applied history done) change error
