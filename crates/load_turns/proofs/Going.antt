-- Whether the navigable's load that is in its check goes on, as the tables have it.
-- HTML Standard, "checking if unloading is canceled". The tables are this project's own.
use Rattle.load_checks.specs.Stages.{GoesAt}
use Rattle.load_table.specs.Loads.{ongoing_load}
use Rattle.load_table.specs.declared.load.Load.{Load}
use Rattle.load_turns.specs.Turns.{going_at, going_in, is_go}
use Rattle.std.proofs.Common.{None, Option, Some, ap, false, refl, sym, ◌∙◌, ◌≡◌}
use Rattle.std.specs.Option.{option_map_or}
use Rattle.std.specs.Prelude.{if◌then◌else◌, option_and_then}
use Rattle.tab_doors.specs.declared.tables.Tables.{Tables}
use Rattle.tab_ids.specs.declared.NavId.{NavId}
use Rattle.tab_ids.specs.declared.ReqId.{ReqId}
use Rattle.unload_check.specs.declared.check.Check.TheVariants as checks
use Rattle.unload_check.specs.declared.check.Check.{Check}

-- by what its check has come to
by_outcome : (r req : ReqId) (o : Option Check) → (if option_map_or is_go o false then Some r else None) ≡ Some req → (o ≡ Some checks.Go) × (r ≡ req)
by_outcome r req None is =
    let never : None ≡ Some req = is in
    absurd cc
by_outcome r req (Some checks.Waiting) is =
    let never : None ≡ Some req = is in
    absurd cc
by_outcome r req (Some (checks.Prompt doc)) is =
    let never : None ≡ Some req = is in
    absurd cc
by_outcome r req (Some checks.Stay) is =
    let never : None ≡ Some req = is in
    absurd cc
by_outcome r req (Some checks.Go) is =
    let both : Some r ≡ Some req = is in
    (refl, cc)

module _ (t : Tables) (nav : NavId) where
  abbrev going_of : Load → Option ReqId
  going_of load = going_in t.checks load.req

  -- it goes on, and this is its request
  pub going_some : (req : ReqId) → going_at t nav ≡ Some req → GoesAt t nav × ((load : Load) → ongoing_load nav t.asking ≡ Some load → load.req ≡ req)
  going_some req is = by_load (ongoing_load nav t.asking) refl is
    where
      by_load : (o : Option Load) → ongoing_load nav t.asking ≡ o → option_and_then going_of o ≡ Some req → GoesAt t nav × ((load : Load) → ongoing_load nav t.asking ≡ Some load → load.req ≡ req)
      by_load None found is2 =
          let never : None ≡ Some req = is2 in
          absurd cc
      by_load (Some load) found is2 =
          let both = by_outcome load.req req _ is2 in (
            record { load = load; its = found; goes = both.0 },
            λ other its. (let same : Some load ≡ Some other = sym found ∙ its in
                let one : load ≡ other = cc in
                ap (λ (l : Load). l.req) (sym one) ∙ both.1),
          )

  -- it doesn't, or none is in its check
  pub going_none : going_at t nav ≡ None → GoesAt t nav → ⊥
  going_none none goes =
      let is : going_at t nav ≡ Some goes.load.req =
      ap (λ (o : Option Load). option_and_then going_of o) goes.its ∙ ap (λ (o : Option Check). if option_map_or is_go o false then Some goes.load.req else None) goes.goes in
      let never : Some goes.load.req ≡ None = sym is ∙ none in
      cc
