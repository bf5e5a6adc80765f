-- In a calm tab each awake navigable is where it is to be, and so it is as a traversal begins.
use Rattle.tab_facts.proofs.Calm.Calms.{calm_rooted}
use Rattle.tab_facts.proofs.Calm.Sames.{calm_same, sights_same}
use Rattle.tab_facts.specs.Calm.Calm.{AreRooted, IsCalm, IsHere, UnmovedAreHere}
use Rattle.log_model.specs.Seen.{Place, Seen, awake, place_of}
use Rattle.std.proofs.Common.{Some, inl, inr, ◌≡◌, ◌⊎◌}
use Rattle.tab_ids.specs.declared.DocId.{DocId}
use Rattle.tab_ids.specs.declared.NavId.{NavId}

calm_here : (s : Seen) → IsCalm s → (nav : NavId) (place : Place) (doc : DocId) → place_of s nav ≡ Some place → place.status ≡ awake doc → IsHere s place
calm_here s calm nav place doc at wakes = by_case (calm.here nav place doc at wakes)
  where
    by_case : ⊥ ⊎ IsHere s place → IsHere s place
    by_case (inl never) = absurd never
    by_case (inr is) = is

pub calm_unmoved : (s : Seen) → IsCalm s → UnmovedAreHere s
calm_unmoved s calm nav place doc at wakes has unmoved = calm_here s calm nav place doc at wakes

-- a traversal that begins changes neither places nor history
pub calm_begun : (s n : Seen) → n.places ≡ s.places → n.history ≡ s.history → IsCalm s → UnmovedAreHere n × AreRooted n
calm_begun s n places history calm =
    let then_ : IsCalm n = calm_same s n history (sights_same s n places) (λ (nav : NavId). ⊥) calm in (calm_unmoved n then_, calm_rooted n then_)
