-- How the navigables of a log hang together: each below those above it. No row changes that of a navigable that is there.
-- HTML Standard, "Navigables" and "Child navigables"; that a removed one keeps its place is this project's own.
use Rattle.std.specs.Prelude.{◌≡◌, ◌≢◌, ◌⊎◌, ◌==◌, true, List, [], ◌∷◌, map, find, Option, Some, None}
use Rattle.tab_ids.specs.declared.NavId.{NavId}
use Rattle.tab_ids.specs.declared.StateId.{StateId}
use Rattle.log_model.specs.History.{has_nav}
use Rattle.log_model.specs.Seen.{Place}

-- a navigable, those above it, its parent first, and the document states on which it and these hang, its own first
pub record Form : Type 0 where
  pub nav : NavId
  pub above : List NavId
  pub owners : List StateId

abbrev pub form_of : Place → Form
form_of place = record { nav = place.nav; above = place.above; owners = place.owners }

abbrev pub forms_of : List Place → List Form
forms_of places = map form_of places

-- the form of a navigable
abbrev pub form_in : List Form → NavId → Option Form
form_in forms nav = find (λ (form : Form). form.nav.0 == nav.0) forms

-- no two are of one navigable
abbrev pub AreApart : List Form → Type 0
AreApart [] = Unit {0}
AreApart (form ∷ forms) = (form_in forms form.nav ≡ None) × AreApart forms

-- a navigable's form, below these
pub record IsLinked (forms : List Form) (nav : NavId) (above : List NavId) : Type 0 where
  pub form : Form
  pub found : form_in forms nav ≡ Some form
  pub above_is : form.above ≡ above

-- each of these navigables has its form below those that follow
abbrev pub AreLinked : List Form → List NavId → Type 0
AreLinked forms [] = Unit {0}
AreLinked forms (nav ∷ above) = IsLinked forms nav above × AreLinked forms above

-- the top alone has none above it, and each other one was added
pub record IsOneOf (added : List NavId) (form : Form) : Type 0 where
  pub top : form.above ≡ [] → form.nav.0 ≡ 0
  pub child : (parent : NavId) (above : List NavId) → form.above ≡ parent ∷ above → form.nav.0 ≢ 0
  pub known : (form.nav.0 ≡ 0) ⊎ (has_nav added form.nav ≡ true)

-- the navigables are apart, and each is below others that are there
pub record AreWoven (added : List NavId) (forms : List Form) : Type 0 where
  pub apart : AreApart forms
  pub linked : (nav : NavId) (form : Form) → form_in forms nav ≡ Some form → AreLinked forms form.above
  pub each : (nav : NavId) (form : Form) → form_in forms nav ≡ Some form → IsOneOf added form
