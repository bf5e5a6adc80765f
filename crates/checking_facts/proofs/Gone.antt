-- A request passes its check while a run of discarded documents lasts of which the table wasn't told.
use Rattle.check_facts.proofs.Tables.{check_ended}
use Rattle.checking_facts.proofs.Grown.{req_same}
use Rattle.checking_facts.specs.Checks.{SameBut}
use Rattle.checking_facts.specs.Prompts.{AreAskedDuly, HasGoneOn, Told}
use Rattle.log_model.specs.Checks.{due_prompt}
use Rattle.log_model.specs.Places.{has_passed}
use Rattle.log_model.specs.Seen.{Asked, Seen, request_of}
use Rattle.std.proofs.Common.{Bool, None, Some, ap, false, inl, inr, refl, sym, true, ◌==◌, ◌∙◌, ◌≡◌, ◌⊎◌}
use Rattle.tab_ids.specs.declared.ReqId.{ReqId}
use Rattle.unload_check.proofs.Stays.{others_ended}
use Rattle.unload_check.specs.Checks.{check_of, ended}

-- the table has none of it any more: told of the run it has passed, and no prompt is due
pub gone_duly : (checking passed : ReqId → Bool) (start now : Seen) (told : Told) → AreAskedDuly checking start now told → (req : ReqId) → SameBut req checking passed → ((q : Asked) → request_of now req ≡ Some q → has_passed now q ≡ true) → ((q : Asked) → request_of now req ≡ Some q → due_prompt now q ≡ None) → AreAskedDuly passed start now (record told { checks = ended req told.checks })
gone_duly checking passed start now told asked req same has undue =
    record {
      within = within;
      stays = asked.stays;
      prompted = asked.prompted;
      run = record {
        was = asked.run.was;
        all = asked.run.all;
        same = still;
        held = asked.run.held;
        said = asked.run.said;
        numbered = asked.run.numbered;
        prompted = asked.run.prompted;
        checked = asked.run.checked;
        nothing = asked.run.nothing;
        asks = asked.run.asks;
        reads = asked.run.reads;
        drops = asked.run.drops;
        gone = asked.run.gone;
        goes = asked.run.goes;
      };
    }
  where
    within : (r : ReqId) → passed r ≡ false → check_of r (ended req told.checks) ≡ None
    within r out = by_number (r.0 == req.0) refl
      where
        by_number : (b : Bool) → (r.0 == req.0) ≡ b → check_of r (ended req told.checks) ≡ None
        by_number true is =
            ap (λ (x : ReqId). check_of x (ended req told.checks)) (req_same r req is) ∙ check_ended req told.checks
        by_number false apart =
            others_ended req told.checks r apart ∙ asked.within r (sym (same r apart) ∙ out)

    still : (r : ReqId) → (check_of r (ended req told.checks) ≡ check_of r asked.run.all) ⊎ HasGoneOn now (ended req told.checks) r
    still r = by_number (r.0 == req.0) refl
      where
        by_same : (r.0 == req.0) ≡ false → (check_of r told.checks ≡ check_of r asked.run.all) ⊎ HasGoneOn now told.checks r → (check_of r (ended req told.checks) ≡ check_of r asked.run.all) ⊎ HasGoneOn now (ended req told.checks) r
        by_same apart (inl its) = inl (others_ended req told.checks r apart ∙ its)
        by_same apart (inr gone) =
            inr (record { none = others_ended req told.checks r apart ∙ gone.none; passed = gone.passed; undue = gone.undue })

        by_number : (b : Bool) → (r.0 == req.0) ≡ b → (check_of r (ended req told.checks) ≡ check_of r asked.run.all) ⊎ HasGoneOn now (ended req told.checks) r
        by_number true is =
            let it : r ≡ req = req_same r req is in
            inr (record {
              none = ap (λ (x : ReqId). check_of x (ended req told.checks)) it ∙ check_ended req told.checks;
              passed = λ q found. has q (ap (λ (x : ReqId). request_of now x) (sym it) ∙ found);
              undue = λ q found. undue q (ap (λ (x : ReqId). request_of now x) (sym it) ∙ found);
            })
        by_number false apart = by_same apart (asked.run.same r)
