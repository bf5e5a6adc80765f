-- One load after the other: what is so as the first may pass, and once one more had its turn.
-- HTML Standard, "checking if unloading is canceled" and "navigate". Where an event is cut, and the table of checks, are this project's own.
use Rattle.check_facts.proofs.Tables.{check_ended}
use Rattle.checking_facts.proofs.Grown.{req_same}
use Rattle.load_checks.specs.Stages.{GoesAt, HasLetPass, InStage, IsCutAt, passed_cut, reqs_of, stage_on}
use Rattle.load_table.proofs.Others.{others_cancelled}
use Rattle.load_table.specs.Loads.{cancelled, is_nav, ongoing_load}
use Rattle.load_table.specs.declared.load.Load.{Load}
use Rattle.load_turns.specs.Turns.{Cutting, HasStayed, HasTurned, HaveTurned, InTurns, cutting_of, loads_then, rows_of, stage_then, then_all, then_passed}
use Rattle.load_turns.specs.declared.passed.Passed.{Passed}
use Rattle.log_model.proofs.Refl.{nat_eq_refl}
use Rattle.log_model.specs.declared.row_kind.RowKind.{RowKind}
use Rattle.row_facts.specs.Owed.Owed.{IsLoose}
use Rattle.seen_facts.proofs.LoadTies.Ends.{cancelled_none}
use Rattle.seen_facts.specs.Hang.Members.{Has}
use Rattle.seen_laws.specs.InEvent.{EndAsWanted, InEvent}
use Rattle.std.proofs.Common.{Bool, List, None, Option, Some, [], ap, append_assoc, append-nil, eqb-true, false, inl, inr, refl, subst, sym, true, ◌++◌, ◌==◌, ◌∙◌, ◌∷◌, ◌≡◌, ℕ}
use Rattle.std.proofs.lemmas.List.Sums.{fold-append}
use Rattle.std.specs.Prelude.{option_map, ◌⊎◌}
use Rattle.tab_doors.specs.declared.tables.Tables.{Tables}
use Rattle.tab_ids.specs.declared.NavId.{NavId}
use Rattle.tab_ids.specs.declared.ReqId.{ReqId}
use Rattle.tab_stands.specs.GoingOn.{GoesOn}
use Rattle.unload_check.proofs.Stays.{others_ended}
use Rattle.unload_check.specs.Checks.{OpenCheck, ended, outcome_at, outcome_of}
use Rattle.unload_check.specs.declared.check.Check.TheVariants as checks

-- ---- lists

has_last : (navs : List NavId) (nav n : NavId) → Has (navs ++ nav ∷ []) n → Has navs n ⊎ (nav ≡ n)
has_last [] nav n (inl is) = inr is
has_last [] nav n (inr has) = absurd has
has_last (first ∷ navs) nav n (inl is) = inl (inl is)
has_last (first ∷ navs) nav n (inr has) = by_rest (has_last navs nav n has)
  where
    by_rest : Has navs n ⊎ (nav ≡ n) → Has (first ∷ navs) n ⊎ (nav ≡ n)
    by_rest (inl at) = inl (inr at)
    by_rest (inr is) = inr is

loads_more : (first : List ReqId) (done : List Passed) (load : Passed) (asking : List Load) → loads_then first (done ++ load ∷ []) asking ≡ reqs_of asking
loads_more first [] load asking = refl
loads_more first (one ∷ done) load asking = refl

then_more : (c : Cutting) (done : List Passed) (load : Passed) → then_all c (done ++ load ∷ []) ≡ then_passed (then_all c done) load
then_more c done load = fold-append then_passed c done (load ∷ [])

rows_more : (done : List Passed) (load : Passed) → rows_of (done ++ load ∷ []) ≡ rows_of done ++ load.out
rows_more done load =
    fold-append (λ (rows : List RowKind) (one : Passed). rows ++ one.out) [] done (load ∷ [])

goes_then : (e at last : InEvent) (first more : List RowKind) → GoesOn e first at → GoesOn at more last → GoesOn e (first ++ more) last
goes_then e at last first more one two =
    record {
      header = two.header ∙ one.header;
      start = two.start ∙ one.start;
      event = two.event ∙ one.event;
      actor = two.actor ∙ one.actor;
      own = two.own ∙ one.own;
      before = two.before ∙ ap (λ (l : List RowKind). l ++ more) one.before ∙ append_assoc e.before first more;
    }

nav_same : (a b : NavId) → is_nav a b ≡ true → a ≡ b
nav_same a b is =
    let number : a.0 ≡ b.0 = eqb-true a.0 b.0 is in
    ap (λ (k : ℕ). let x : NavId = record { 0 = k } in x) number

-- ---- the first

pub turned_first : (w : InTurns) (t : Tables) (done : List Passed) → done ≡ [] → w.checks ≡ t.checks → IsCutAt w.stage t → HaveTurned w [] t t done
turned_first w t done none checks_is at = subst (λ (l : List Passed). HaveTurned w [] t t l) (sym none) begins
  where
    begins : HaveTurned w [] t t []
    begins =
        record {
          checks = sym checks_is;
          goes =
              record { header = refl; start = refl; event = refl; actor = refl; own = refl; before = sym (append-nil w.stage.event.before) };
          cut = at;
          fewer = λ nav load is. is;
          none = λ nav has. absurd has;
          loose = λ loose. loose;
          wanted = λ more ends. ends;
        }

-- ---- one more

module _ (w : InTurns) (navs : List NavId) (t u : Tables) (done : List Passed) (turned : HaveTurned w navs t u done) (nav : NavId) where
  -- it stays
  stayed_next : HasStayed nav u u done done → HaveTurned w (navs ++ nav ∷ []) t u done
  stayed_next stays =
      record {
        checks = turned.checks;
        goes = turned.goes;
        cut = turned.cut;
        fewer = turned.fewer;
        none = λ n has goes. by_last n goes (has_last navs nav n has);
        loose = turned.loose;
        wanted = turned.wanted;
      }
    where
      by_last : (n : NavId) → GoesAt u n → Has navs n ⊎ (nav ≡ n) → ⊥
      by_last n goes (inl has) = turned.none n has goes
      by_last n goes (inr is) = stays.none (subst (λ (x : NavId). GoesAt u x) (sym is) goes)

  module _ (v : Tables) (load : Passed) (passed : HasLetPass (stage_then w done u.asking) nav u v load.out) (its : passed.load.req ≡ load.req) where
    abbrev c : Cutting
    c = then_all (cutting_of w) done

    abbrev last : Cutting
    last = then_all (cutting_of w) (done ++ load ∷ [])

    event_more : passed.at ≡ last.event
    event_more =
        passed.is
        ∙ ap (λ (r : ReqId). passed_cut c.event r load.out u.checks) its
        ∙ ap (λ (l : List (ReqId × OpenCheck)). passed_cut c.event load.req load.out l) turned.checks
        ∙ ap (λ (x : Cutting). x.event) (sym (then_more (cutting_of w) done load))

    checks_more : v.checks ≡ last.checks
    checks_more =
        passed.checks
        ∙ ap (λ (r : ReqId). ended r u.checks) its
        ∙ ap (λ (l : List (ReqId × OpenCheck)). ended load.req l) turned.checks
        ∙ ap (λ (x : Cutting). x.checks) (sym (then_more (cutting_of w) done load))

    others_asking : (n : NavId) → is_nav n nav ≡ false → ongoing_load n v.asking ≡ ongoing_load n u.asking
    others_asking n other =
        ap (λ (l : List Load). ongoing_load n l) passed.asking ∙ others_cancelled nav u.asking n other

    none_there : (n : NavId) (one : Load) → is_nav n nav ≡ true → ongoing_load n v.asking ≡ Some one → ⊥
    none_there n one is there =
        let same : n ≡ nav = nav_same n nav is in
        let gone : ongoing_load n v.asking ≡ None = ap (λ (l : List Load). ongoing_load n l) passed.asking ∙ ap (λ (x : NavId). ongoing_load x (cancelled nav u.asking)) same ∙ cancelled_none nav u.asking in
        let never : None ≡ Some one = sym gone ∙ there in
        cc

    asking_before : (n : NavId) (one : Load) → ongoing_load n v.asking ≡ Some one → ongoing_load n u.asking ≡ Some one
    asking_before n one there = by_nav (is_nav n nav) refl
      where
        by_nav : (b : Bool) → is_nav n nav ≡ b → ongoing_load n u.asking ≡ Some one
        by_nav true is = absurd (none_there n one is there)
        by_nav false is = sym (others_asking n is) ∙ there

    goes_before : (n : NavId) → GoesAt v n → GoesAt u n
    goes_before n goes =
        record { load = goes.load; its = asking_before n goes.load goes.its; goes = by_req (goes.load.req.0 == passed.load.req.0) refl }
      where
        was_ended : outcome_at goes.load.req v.checks ≡ outcome_at goes.load.req (ended passed.load.req u.checks)
        was_ended = ap (λ (l : List (ReqId × OpenCheck)). outcome_at goes.load.req l) passed.checks

        by_req : (b : Bool) → (goes.load.req.0 == passed.load.req.0) ≡ b → outcome_at goes.load.req u.checks ≡ Some checks.Go
        by_req false is =
            ap (λ (o : Option OpenCheck). option_map outcome_of o) (sym (others_ended passed.load.req u.checks goes.load.req is)) ∙ sym was_ended ∙ goes.goes
        by_req true is =
            let one : goes.load.req ≡ passed.load.req = req_same goes.load.req passed.load.req is in
            let gone : outcome_at goes.load.req v.checks ≡ None = was_ended ∙ ap (λ (r : ReqId). outcome_at r (ended passed.load.req u.checks)) one ∙ ap (λ (o : Option OpenCheck). option_map outcome_of o) (check_ended passed.load.req u.checks) in
            let never : None ≡ Some checks.Go = sym gone ∙ goes.goes in
            absurd cc

    stage_more : stage_on (stage_then w done u.asking) passed.at (reqs_of v.asking) ≡ stage_then w (done ++ load ∷ []) v.asking
    stage_more =
        ap (λ (e : InEvent). stage_on w.stage e (reqs_of v.asking)) event_more
        ∙ ap (λ (l : List ReqId). stage_on w.stage last.event l) (sym (loads_more w.stage.loads done load v.asking))

    passed_next : HaveTurned w (navs ++ nav ∷ []) t v (done ++ load ∷ [])
    passed_next =
        record {
          checks = checks_more;
          goes =
              subst (λ (l : List RowKind). GoesOn w.stage.event l last.event) (sym (rows_more done load)) (goes_then w.stage.event c.event last.event (rows_of done) load.out turned.goes (subst (λ (e : InEvent). GoesOn c.event load.out e) event_more passed.goes));
          cut = subst (λ (s : InStage). IsCutAt s v) stage_more passed.cut;
          fewer = λ n one there. turned.fewer n one (asking_before n one there);
          none = λ n has goes. by_last n goes (has_last navs nav n has);
          loose = λ loose. subst (λ (e : InEvent). IsLoose e []) event_more (passed.loose (turned.loose loose));
          wanted = λ more ends. subst (λ (e : InEvent). EndAsWanted e more) event_more (passed.wanted more (turned.wanted (load.out ++ more)
              (subst (λ (l : List RowKind). EndAsWanted w.stage.event l) (ap (λ (l : List RowKind). l ++ more) (rows_more done load) ∙ append_assoc (rows_of done) load.out more) ends)));
        }
      where
        by_last : (n : NavId) → GoesAt v n → Has navs n ⊎ (nav ≡ n) → ⊥
        by_last n goes (inl has) = turned.none n has (goes_before n goes)
        by_last n goes (inr is) =
            none_there n goes.load (ap (λ (x : NavId). is_nav x nav) (sym is) ∙ nat_eq_refl nav.0) goes.its

  pub turned_next : (v : Tables) (after : List Passed) → HasTurned (stage_then w done u.asking) nav u v done after → HaveTurned w (navs ++ nav ∷ []) t v after
  turned_next v after (inl stays) =
      subst (λ (l : List Passed). HaveTurned w (navs ++ nav ∷ []) t v l) (sym stays.done)
      (subst (λ (x : Tables). HaveTurned w (navs ++ nav ∷ []) t x done) (sym stays.tables) (stayed_next (record { none = stays.none; tables = refl; done = refl })))
  turned_next v after (inr had) =
      subst (λ (l : List Passed). HaveTurned w (navs ++ nav ∷ []) t v l) (sym had.done) (passed_next v had.load had.passed had.its)
