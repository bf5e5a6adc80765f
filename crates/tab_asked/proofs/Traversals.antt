-- A traversal is neither a load nor a reload.
use Rattle.log_model.specs.Places.{is_load, is_reload, is_traversal}
use Rattle.log_model.specs.declared.request.Request.TheVariants as requests
use Rattle.log_model.specs.declared.request.Request.{Request}
use Rattle.std.proofs.Common.{false, refl, true, ◌≡◌}

pub no_load : (what : Request) → is_traversal what ≡ true → is_load what ≡ false
no_load (requests.Go delta) goes = refl
no_load (requests.Poke nav action) goes = refl
no_load (requests.Load nav mode address) goes = absurd cc
no_load (requests.Reload nav) goes = refl

pub no_reload : (what : Request) → is_traversal what ≡ true → is_reload what ≡ false
no_reload (requests.Go delta) goes = refl
no_reload (requests.Poke nav action) goes = refl
no_reload (requests.Load nav mode address) goes = refl
no_reload (requests.Reload nav) goes = absurd cc
