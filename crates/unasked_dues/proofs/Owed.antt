-- Why a load is dropped by another request, read as the event ends off the log as it would be had nobody been asked.
use Rattle.std.proofs.Common.{◌≡◌, ℕ, Bool, true, false, cond, not, ◌&&◌, ◌||◌, ◌==◌, length, Option, Some, None, refl, sym, ap, ◌∙◌, subst}
use Rattle.std.specs.Prelude.{is_some, nat_lt, option_map}
use Rattle.std.proofs.lemmas.Bool.{and_parts}
use Rattle.std.proofs.lemmas.List.{length-map}
use Rattle.tab_ids.specs.declared.NavId.{NavId}
use Rattle.tab_ids.specs.declared.ReqId.{ReqId}
use Rattle.log_model.specs.Causes.{any_displaced, any_place, by_adder, by_event, by_last_step, by_later_load, by_traversal, way_of_request}
use Rattle.log_model.specs.Equal.{holds, same_option}
use Rattle.log_model.specs.Places.{aim_of, has_passed, is_load, is_traversal}
use Rattle.log_model.specs.Events.{Point}
use Rattle.log_model.specs.Points.{had_ended, had_started, is_accepted_here, nav_of_request}
use Rattle.log_model.specs.Seen.{Asked, Place, Seen, request_of}
use Rattle.seen_laws.specs.Unasked.{unasked, unasked_request, unbegun, without_asks}
use Rattle.unasked.proofs.Readings.{request_read}
use Rattle.unasked_dues.proofs.Base.{aim_same}
use Rattle.unasked_dues.specs.Checking.{AllOthersPass, AreNumbered, IsAimed}

-- one of two that lead to one of two others
either_on : (a b c d : Bool) → (a ≡ true → c ≡ true) → (b ≡ true → d ≡ true) → (a || b) ≡ true → (c || d) ≡ true
either_on true b true d one two is = refl
either_on true b false d one two is = absurd (let never : false ≡ true = one refl in cc)
either_on false b true d one two is = refl
either_on false b false d one two is = two is

-- each of two that lead to two others
both_on : (a b c d : Bool) → (a ≡ true → c ≡ true) → (b ≡ true → d ≡ true) → (a && b) ≡ true → (c && d) ≡ true
both_on a b c d one two is = let parts = and_parts a b is in rw (one parts.0) (two parts.1)

-- the request that is dropped as it would be, in its check or not
abbrev bare : Asked → Bool → Asked
bare q b = cond b (unbegun q) (without_asks q)

module _ (checking : ReqId → Bool) (end : Seen) (p u : Point) (start_is : u.start ≡ unasked checking p.start) (numbered : AreNumbered p.start) where
  -- ---- as the event began

  ended_same : (req : ReqId) → had_ended u req ≡ had_ended p req
  ended_same req =
      ap (λ (s : Seen). holds (λ (q : Asked). is_some q.ending) (request_of s req)) start_is
      ∙ ap (λ (o : Option Asked). holds (λ (q : Asked). is_some q.ending) o) (request_read checking p.start req)
      ∙ by_found (request_of p.start req)
    where
      by_check : (q : Asked) (b : Bool) → is_some (bare q b).ending ≡ is_some q.ending
      by_check q true = refl
      by_check q false = refl

      by_found : (o : Option Asked) → holds (λ (q : Asked). is_some q.ending) (option_map (unasked_request checking) o) ≡ holds (λ (q : Asked). is_some q.ending) o
      by_found None = refl
      by_found (Some q) = by_check q (checking q.nr)

  -- one that isn't in its check had begun in both, or in neither
  started_same : (req : ReqId) → checking req ≡ false → had_started u req ≡ had_started p req
  started_same req off =
      ap (λ (s : Seen). holds (λ (q : Asked). q.is_started) (request_of s req)) start_is
      ∙ ap (λ (o : Option Asked). holds (λ (q : Asked). q.is_started) o) (request_read checking p.start req)
      ∙ by_found (request_of p.start req) refl
    where
      by_found : (o : Option Asked) → request_of p.start req ≡ o → holds (λ (q : Asked). q.is_started) (option_map (unasked_request checking) o) ≡ holds (λ (q : Asked). q.is_started) o
      by_found None at = refl
      by_found (Some q) at = let off_ : checking q.nr ≡ false = ap checking (numbered req q at) ∙ off in rw off_ refl

  accepted_same : (req : ReqId) → is_accepted_here u req ≡ is_accepted_here p req
  accepted_same req =
      ap (λ (s : Seen). nat_lt (length s.requests) req.0) start_is
      ∙ ap (λ (n : ℕ). nat_lt n req.0) (length-map p.start.requests (unasked_request checking))

  -- ---- the causes

  -- by a later load, which isn't in its check
  later_in : (q r : Asked) (b : Bool) → checking r.nr ≡ false → by_later_load u (unasked checking end) (bare q b) (without_asks r) ≡ true → by_later_load p end q r ≡ true
  later_in q r true off is =
      subst (λ (x : Bool). (is_load q.what && is_load r.what && nat_lt q.nr.0 r.nr.0 && same_option (λ (a : NavId) (c : NavId). a.0 == c.0) (nav_of_request q.what) (nav_of_request r.what) && r.is_started && not x) ≡ true) (started_same r.nr off) is
  later_in q r false off is =
      subst (λ (x : Bool). (is_load q.what && is_load r.what && nat_lt q.nr.0 r.nr.0 && same_option (λ (a : NavId) (c : NavId). a.0 == c.0) (nav_of_request q.what) (nav_of_request r.what) && r.is_started && not x) ≡ true) (started_same r.nr off) is

  -- by a traversal that has passed
  traversal_in : IsAimed checking end → (q r : Asked) (b : Bool) → has_passed end r ≡ true → by_traversal u (unasked checking end) (bare q b) (without_asks r) ≡ true → by_traversal p end q r ≡ true
  traversal_in aimed q r b passes is = by_kind b is
    where
      displaced : Bool
      displaced = any_displaced end (aim_of end) (way_of_request end q)

      run_in : (way : Bool) → way ≡ displaced → (is_load q.what && (is_traversal r.what && r.is_started && has_passed (unasked checking end) (without_asks r)) && not (had_ended u r.nr) && way) ≡ true → (is_load q.what && (is_traversal r.what && r.is_started && has_passed end r) && not (had_ended p r.nr) && displaced) ≡ true
      run_in way same h =
          both_on (is_load q.what && (is_traversal r.what && r.is_started && has_passed (unasked checking end) (without_asks r)) && not (had_ended u r.nr)) way (is_load q.what && (is_traversal r.what && r.is_started && has_passed end r) && not (had_ended p r.nr)) displaced
          (both_on (is_load q.what && (is_traversal r.what && r.is_started && has_passed (unasked checking end) (without_asks r))) (not (had_ended u r.nr)) (is_load q.what && (is_traversal r.what && r.is_started && has_passed end r)) (not (had_ended p r.nr))
          (both_on (is_load q.what) (is_traversal r.what && r.is_started && has_passed (unasked checking end) (without_asks r)) (is_load q.what) (is_traversal r.what && r.is_started && has_passed end r) (λ i. i)
          (both_on (is_traversal r.what && r.is_started) (has_passed (unasked checking end) (without_asks r)) (is_traversal r.what && r.is_started) (has_passed end r) (λ i. i) (λ i. passes)))
          (λ i. ap not (sym (ended_same r.nr)) ∙ i))
          (λ i. sym same ∙ i)
          h

      by_kind : (c : Bool) → by_traversal u (unasked checking end) (bare q c) (without_asks r) ≡ true → by_traversal p end q r ≡ true
      by_kind true h =
          run_in (any_displaced (unasked checking end) (aim_of (unasked checking end)) (way_of_request (unasked checking end) (unbegun q))) (ap (λ (n : ℕ). any_displaced end n (way_of_request end q)) (aim_same checking end aimed)) h
      by_kind false h =
          run_in (any_displaced (unasked checking end) (aim_of (unasked checking end)) (way_of_request (unasked checking end) (without_asks q))) (ap (λ (n : ℕ). any_displaced end n (way_of_request end q)) (aim_same checking end aimed)) h

  -- by the request that was applied last, or that added a navigable
  last_in : (q r : Asked) (b c : Bool) → by_last_step (unasked checking end) (bare q b) (bare r c) ≡ true → by_last_step end q r ≡ true
  last_in q r true true is = is
  last_in q r true false is = is
  last_in q r false true is = is
  last_in q r false false is = is

  adder_in : (q r : Asked) (b c : Bool) → by_adder u (unasked checking end) (bare q b) (bare r c) ≡ true → by_adder p end q r ≡ true
  adder_in q r b c is = by_kinds b c is
    where
      added : Bool
      added = any_place end (way_of_request end q) (λ (place : Place). not place.was_activated && holds (λ (adder : ReqId). adder.0 == r.nr.0) place.added_by)

      accepted_in : (is_load q.what && is_accepted_here u q.nr && added) ≡ true → (is_load q.what && is_accepted_here p q.nr && added) ≡ true
      accepted_in h = subst (λ (x : Bool). (is_load q.what && x && added) ≡ true) (accepted_same q.nr) h

      by_kinds : (x y : Bool) → by_adder u (unasked checking end) (bare q x) (bare r y) ≡ true → by_adder p end q r ≡ true
      by_kinds true true h = accepted_in h
      by_kinds true false h = accepted_in h
      by_kinds false true h = accepted_in h
      by_kinds false false h = accepted_in h

  -- ---- all of them

  -- a load is dropped by another request
  pub by_event_in : IsAimed checking end → AllOthersPass checking end → (req : ReqId) (q : Asked) → by_event u (unasked checking end) (unasked_request checking q) req ≡ true → by_event p end q req ≡ true
  by_event_in aimed others req q is =
      by_found (request_of end req) refl (ap (λ (o : Option Asked). holds (λ (r : Asked). is_by_one (unasked_request checking q) r) o) (sym (request_read checking end req)) ∙ is)
    where
      is_by_one : Asked → Asked → Bool
      is_by_one x r =
          by_later_load u (unasked checking end) x r || by_traversal u (unasked checking end) x r || by_last_step (unasked checking end) x r || by_adder u (unasked checking end) x r

      -- the first two causes of four, and the others
      by_both : (r : Asked) (c : Bool) → ((by_later_load u (unasked checking end) (unasked_request checking q) (bare r c) || by_traversal u (unasked checking end) (unasked_request checking q) (bare r c)) ≡ true → (by_later_load p end q r || by_traversal p end q r) ≡ true) → is_by_one (unasked_request checking q) (bare r c) ≡ true → (by_later_load p end q r || by_traversal p end q r || by_last_step end q r || by_adder p end q r) ≡ true
      by_both r c two h =
          either_on (by_later_load u (unasked checking end) (unasked_request checking q) (bare r c) || by_traversal u (unasked checking end) (unasked_request checking q) (bare r c) || by_last_step (unasked checking end) (unasked_request checking q) (bare r c)) (by_adder u (unasked checking end) (unasked_request checking q) (bare r c)) (by_later_load p end q r || by_traversal p end q r || by_last_step end q r) (by_adder p end q r)
          (either_on (by_later_load u (unasked checking end) (unasked_request checking q) (bare r c) || by_traversal u (unasked checking end) (unasked_request checking q) (bare r c)) (by_last_step (unasked checking end) (unasked_request checking q) (bare r c)) (by_later_load p end q r || by_traversal p end q r) (by_last_step end q r) two (last_in q r (checking q.nr) c))
          (adder_in q r (checking q.nr) c)
          h

      -- one in its check took no load's place and went nowhere
      by_check : (r : Asked) → request_of end req ≡ Some r → (c : Bool) → checking r.nr ≡ c → is_by_one (unasked_request checking q) (bare r c) ≡ true → (by_later_load p end q r || by_traversal p end q r || by_last_step end q r || by_adder p end q r) ≡ true
      by_check r at false off h =
          let passes : has_passed end r ≡ true = others req r at (ap checking (sym (aimed.numbered req r at)) ∙ off) in
          by_both r false (either_on (by_later_load u (unasked checking end) (unasked_request checking q) (without_asks r)) (by_traversal u (unasked checking end) (unasked_request checking q) (without_asks r)) (by_later_load p end q r) (by_traversal p end q r) (later_in q r (checking q.nr) off) (traversal_in aimed q r (checking q.nr) passes)) h
      by_check r at true on h =
          by_both r true (either_on (by_later_load u (unasked checking end) (unasked_request checking q) (unbegun r)) (by_traversal u (unasked checking end) (unasked_request checking q) (unbegun r)) (by_later_load p end q r) (by_traversal p end q r) (λ i. absurd (no_later i)) (λ i. absurd (no_run i))) h
        where
          ends : (a x : Bool) → (a && false && x) ≡ false
          ends true x = refl
          ends false x = refl

          begins : (a b c d e : Bool) → (a && (b && false && c) && d && e) ≡ false
          begins true true c d e = refl
          begins true false c d e = refl
          begins false b c d e = refl

          no_later : by_later_load u (unasked checking end) (unasked_request checking q) (unbegun r) ≡ true → ⊥
          no_later i =
              let never : false ≡ true = sym (ends (is_load (unasked_request checking q).what && is_load r.what && nat_lt (unasked_request checking q).nr.0 r.nr.0 && same_option (λ (a : NavId) (c : NavId). a.0 == c.0) (nav_of_request (unasked_request checking q).what) (nav_of_request r.what)) (not (had_started u r.nr))) ∙ i in
              cc

          no_run : by_traversal u (unasked checking end) (unasked_request checking q) (unbegun r) ≡ true → ⊥
          no_run i =
              let never : false ≡ true = sym (begins (is_load (unasked_request checking q).what) (is_traversal r.what) (has_passed (unasked checking end) (unbegun r)) (not (had_ended u r.nr)) (any_displaced (unasked checking end) (aim_of (unasked checking end)) (way_of_request (unasked checking end) (unasked_request checking q)))) ∙ i in
              cc

      by_found : (o : Option Asked) → request_of end req ≡ o → holds (λ (r : Asked). is_by_one (unasked_request checking q) r) (option_map (unasked_request checking) o) ≡ true → by_event p end q req ≡ true
      by_found None at h = absurd cc
      by_found (Some r) at h =
          ap (λ (o : Option Asked). holds (λ (x : Asked). by_later_load p end q x || by_traversal p end q x || by_last_step end q x || by_adder p end q x) o) at
          ∙ by_check r at (checking r.nr) refl h
