-- What the rows of an event owe as a request enters its check by rows behind them: it is paid in the log if the log without questions pays it, by the checks that the event goes on with.
use Rattle.log_model.specs.Causes.{by_adder, by_event, by_last_step, by_later_load, by_mover, by_traversal, any_displaced, way_of_request}
use Rattle.log_model.specs.Equal.{holds}
use Rattle.log_model.specs.Events.{Point}
use Rattle.log_model.specs.Once.{has_no_earlier_load, loads}
use Rattle.log_model.specs.Places.{aim_of, has_passed, is_load, is_ongoing_load, is_traversal}
use Rattle.log_model.specs.Points.{had_ended}
use Rattle.log_model.specs.Seen.{Asked, Seen, request_of}
use Rattle.log_model.specs.declared.outcome.Cause.TheVariants as drops
use Rattle.log_model.specs.declared.request.Request.TheVariants as requests
use Rattle.log_model.specs.declared.request.Request.{Request}
use Rattle.log_model.specs.declared.row_kind.LogRow.{LogRow}
use Rattle.log_model.specs.declared.row_kind.RowKind.TheVariants as rows
use Rattle.log_model.specs.declared.row_kind.RowKind.{RowKind}
use Rattle.row_facts.specs.Owed.Owed.{owes_seen}
use Rattle.seen_laws.proofs.InEvents.{on_rows_append}
use Rattle.seen_laws.specs.Blocks.{Here, on_row, on_rows, point_at}
use Rattle.seen_laws.specs.InEvent.{InEvent, cut, first_of, later_of, own_of, row_of}
use Rattle.seen_laws.specs.Owing.{is_sole_load, owes, owes_row}
use Rattle.seen_laws.specs.Unasked.{unasked, unasked_request, unbegun, without_asks}
use Rattle.std.proofs.Common.{Bool, List, None, Option, Some, [], ap, append_assoc, cond, false, map, not, refl, subst, sym, true, ℕ, ◌&&◌, ◌++◌, ◌||◌, ◌∙◌, ◌∷◌, ◌≡◌}
use Rattle.std.proofs.lemmas.Bool.{and_parts}
use Rattle.std.proofs.lemmas.List.{map-append}
use Rattle.std.specs.List.{list_all}
use Rattle.std.specs.Prelude.{nat_lt, option_map}
use Rattle.tab_cuts.proofs.Twice.{AreAmong, unasked_twice}
use Rattle.tab_ids.specs.declared.NavId.{NavId}
use Rattle.tab_ids.specs.declared.ReqId.{ReqId}
use Rattle.tab_ids.specs.declared.Step.{Step}
use Rattle.unasked.proofs.Readings.{numbered_read, passed_read, request_read, under_way_read}
use Rattle.unasked_dues.proofs.Base.{aim_same}
use Rattle.unasked_dues.proofs.Cut.{both_sole, debts_cut}
use Rattle.unasked_dues.proofs.Paid.{paid_read}
use Rattle.unasked_dues.specs.Checking.{AllOthersPass, AreNumbered, IsAimed}
use Rattle.unasked_dues.specs.Reading.{AreDebts, AreSole, BeginSole, WereRead}

either_on : (a b c d : Bool) → (a ≡ true → c ≡ true) → (b ≡ true → d ≡ true) → (a || b) ≡ true → (c || d) ≡ true
either_on true b true d one two is = refl
either_on true b false d one two is = absurd (let never : false ≡ true = one refl in cc)
either_on false b true d one two is = refl
either_on false b false d one two is = two is

-- ---- a cause that is read at the end without questions

module _ (checking : ReqId → Bool) (end : Seen) (aimed : IsAimed checking end) (others : AllOthersPass checking end) (p : Point) (q : Asked) where
  abbrev bare : Asked → Bool → Asked
  bare r b = cond b (unbegun r) (without_asks r)

  abbrev is_by_one : Seen → Asked → Bool
  is_by_one s r = by_later_load p s q r || by_traversal p s q r || by_last_step s q r || by_adder p s q r

  later_in : (r : Asked) (b : Bool) → by_later_load p (unasked checking end) q (bare r b) ≡ true → by_later_load p end q r ≡ true
  later_in r false is = is
  later_in r true is = absurd (no_last _ _ is)
    where
      no_last : (a x : Bool) → (a && false && x) ≡ true → ⊥
      no_last true x i = cc
      no_last false x i = cc

  last_in : (r : Asked) (b : Bool) → by_last_step (unasked checking end) q (bare r b) ≡ true → by_last_step end q r ≡ true
  last_in r true is = is
  last_in r false is = is

  adder_in : (r : Asked) (b : Bool) → by_adder p (unasked checking end) q (bare r b) ≡ true → by_adder p end q r ≡ true
  adder_in r true is = is
  adder_in r false is = is

  traversal_in : (r : Asked) (b : Bool) → (b ≡ false → has_passed end r ≡ true) → by_traversal p (unasked checking end) q (bare r b) ≡ true → by_traversal p end q r ≡ true
  traversal_in r true passes is = absurd (no_start (is_load q.what) (is_traversal r.what) _ _ _ is)
    where
      no_start : (a b x y z : Bool) → (a && (b && false && x) && y && z) ≡ true → ⊥
      no_start true true x y z i = cc
      no_start true false x y z i = cc
      no_start false b x y z i = cc
  traversal_in r false passes is =
      swap (is_load q.what) (is_traversal r.what) r.is_started (has_passed (unasked checking end) (without_asks r)) (has_passed end r) (not (had_ended p r.nr)) (any_displaced (unasked checking end) (aim_of (unasked checking end)) (way_of_request (unasked checking end) q)) (any_displaced end (aim_of end) (way_of_request end q)) (passes refl) (ap (λ (n : ℕ). any_displaced end n (way_of_request end q)) (aim_same checking end aimed)) is
    where
      swap : (a b c x y n v w : Bool) → y ≡ true → v ≡ w → (a && (b && c && x) && n && v) ≡ true → (a && (b && c && y) && n && w) ≡ true
      swap true true true true y n v w passed same i =
          subst (λ (z : Bool). (z && n && w) ≡ true) (sym passed) (subst (λ (z : Bool). (n && z) ≡ true) same i)
      swap true true true false y n v w passed same i = absurd cc
      swap true true false x y n v w passed same i = absurd cc
      swap true false c x y n v w passed same i = absurd cc
      swap false b c x y n v w passed same i = absurd cc

  one_in : (r : Asked) (b : Bool) → (b ≡ false → has_passed end r ≡ true) → is_by_one (unasked checking end) (bare r b) ≡ true → is_by_one end r ≡ true
  one_in r b passes is =
      either_on (by_later_load p s q (bare r b) || by_traversal p s q (bare r b) || by_last_step s q (bare r b)) (by_adder p s q (bare r b)) (by_later_load p end q r || by_traversal p end q r || by_last_step end q r) (by_adder p end q r)
      (either_on (by_later_load p s q (bare r b) || by_traversal p s q (bare r b)) (by_last_step s q (bare r b)) (by_later_load p end q r || by_traversal p end q r) (by_last_step end q r)
      (either_on (by_later_load p s q (bare r b)) (by_traversal p s q (bare r b)) (by_later_load p end q r) (by_traversal p end q r) (later_in r b) (traversal_in r b passes))
      (last_in r b))
      (adder_in r b) is
    where
      s : Seen
      s = unasked checking end

  event_in : (req : ReqId) → by_event p (unasked checking end) q req ≡ true → by_event p end q req ≡ true
  event_in req is =
      by_found (request_of end req) refl (ap (λ (o : Option Asked). holds (λ (r : Asked). is_by_one (unasked checking end) r) o) (sym (request_read checking end req)) ∙ is)
    where
      by_found : (o : Option Asked) → request_of end req ≡ o → holds (λ (r : Asked). is_by_one (unasked checking end) r) (option_map (unasked_request checking) o) ≡ true → by_event p end q req ≡ true
      by_found None at never = absurd cc
      by_found (Some r) at caused =
          ap (λ (o : Option Asked). holds (λ (x : Asked). is_by_one end x) o) at
          ∙ one_in r (checking r.nr) (λ off. others req r at (ap checking (sym (aimed.numbered req r at)) ∙ off)) caused

-- ---- rows

-- the row owes no more than that a load which begins as it is the only one of its navigable
abbrev pub OwesSole : RowKind → Type 0
OwesSole (rows.Dropped req (drops.By r)) = ⊥
OwesSole _ = Unit {0}

-- so does each of these
abbrev pub EachOwesSole : List RowKind → Type 0
EachOwesSole [] = Unit {0}
EachOwesSole (kind ∷ kinds) = OwesSole kind × EachOwesSole kinds

-- such a row's due is paid where a load that begins is the only one
sole_paid : (e : InEvent) (h : Here) (end : Seen) (kind : RowKind) → OwesSole kind → ((req : ReqId) (goal : Option Step) → kind ≡ rows.Started req goal → owes_row h (row_of e (rows.Started req goal)) end ≡ true) → owes_row h (row_of e kind) end ≡ true
sole_paid e h end (rows.Dropped req (drops.By r)) owes_ begun = absurd owes_
sole_paid e h end (rows.Dropped req drops.Stay) owes_ begun = refl
sole_paid e h end (rows.Dropped req (drops.Destroyed r)) owes_ begun = refl
sole_paid e h end (rows.Dropped req (drops.Gone death)) owes_ begun = refl
sole_paid e h end (rows.Started req goal) owes_ begun = begun req goal refl
sole_paid e h end (rows.Opened entry state doc proc slot address) owes_ begun = refl
sole_paid e h end (rows.Accepted req doc what) owes_ begun = refl
sole_paid e h end (rows.Applied req change) owes_ begun = refl
sole_paid e h end (rows.Refused req reason) owes_ begun = refl
sole_paid e h end (rows.Prompted req doc) owes_ begun = refl
sole_paid e h end (rows.Answered req stay) owes_ begun = refl
sole_paid e h end (rows.Sent job) owes_ begun = refl
sole_paid e h end (rows.Taken proc job live dirty) owes_ begun = refl
sole_paid e h end (rows.Finished proc job outcome) owes_ begun = refl
sole_paid e h end (rows.Made proc made) owes_ begun = refl
sole_paid e h end (rows.Delivered proc) owes_ begun = refl
sole_paid e h end (rows.Killed proc death) owes_ begun = refl
sole_paid e h end (rows.Evicted state) owes_ begun = refl

-- behind the first of some rows
sole_rest : (e : InEvent) (h : Here) (kind : RowKind) (kinds : List RowKind) (end : Seen) → AreSole e h (kind ∷ kinds) end → AreSole e (on_row h (row_of e kind)) kinds end
sole_rest e h kind kinds end sole =
    record { each = λ before later req goal is. sole.each (kind ∷ before) later req goal (ap (λ (l : List RowKind). kind ∷ l) is) }

-- of the first
sole_first : (e : InEvent) (h : Here) (kind : RowKind) (kinds : List RowKind) (end : Seen) → AreSole e h (kind ∷ kinds) end → (req : ReqId) (goal : Option Step) → kind ≡ rows.Started req goal → owes_row h (row_of e (rows.Started req goal)) end ≡ true
sole_first e h kind kinds end sole req goal is =
    sole.each [] kinds req goal (ap (λ (k : RowKind). k ∷ kinds) (sym is))

-- what such rows owe is paid
pub sole_pays : (e : InEvent) (h : Here) (kinds : List RowKind) (end : Seen) → EachOwesSole kinds → AreSole e h kinds end → owes h (map (row_of e) kinds) end ≡ true
sole_pays e h [] end each sole = refl
sole_pays e h (kind ∷ kinds) end each sole =
    rw (sole_paid e h end kind each.0 (sole_first e h kind kinds end sole), sole_pays e (on_row h (row_of e kind)) kinds end each.1 (sole_rest e h kind kinds end sole)) refl

-- the rows of two stretches
owes_on : (h : Here) (rows_ more : List LogRow) (end : Seen) → owes h rows_ end ≡ true → owes (on_rows h rows_) more end ≡ true → owes h (rows_ ++ more) end ≡ true
owes_on h [] more end first second = second
owes_on h (row ∷ rows_) more end first second =
    let each = and_parts (owes_row h row end) (owes (on_row h row) rows_ end) first in
    rw (each.0, owes_on (on_row h row) rows_ more end each.1 second) refl

-- ---- read at the end without questions

module _ (checking : ReqId → Bool) (end : Seen) where
  -- a load that is the only one there is
  no_earlier_bare : (req : ReqId) (nav : NavId) → has_no_earlier_load end req nav ≡ true → has_no_earlier_load (unasked checking end) req nav ≡ true
  no_earlier_bare req nav is = all end.requests is
    where
      test : Asked → Bool
      test q = not (is_ongoing_load q && nat_lt q.nr.0 req.0 && loads nav q.what)

      one : (q : Asked) (b : Bool) → test q ≡ true → test (cond b (unbegun q) (without_asks q)) ≡ true
      one q true i = refl
      one q false i = i

      all : (asked : List Asked) → list_all test asked ≡ true → list_all test (map (unasked_request checking) asked) ≡ true
      all [] i = refl
      all (q ∷ asked) i =
          let parts = and_parts (test q) (list_all test asked) i in
          rw (one q (checking q.nr) parts.0) (all asked parts.1)

  sole_load_bare : (what : Request) (nr : ReqId) → is_sole_load what nr end ≡ true → is_sole_load what nr (unasked checking end) ≡ true
  sole_load_bare (requests.Load nav mode address) nr is = no_earlier_bare nr nav is
  sole_load_bare (requests.Go delta) nr is = refl
  sole_load_bare (requests.Reload nav) nr is = refl
  sole_load_bare (requests.Poke nav action) nr is = refl

  found_bare : (o : Option Asked) → holds (λ (q : Asked). is_sole_load q.what q.nr end) o ≡ true → holds (λ (q : Asked). is_sole_load q.what q.nr (unasked checking end)) o ≡ true
  found_bare None is = is
  found_bare (Some q) is = sole_load_bare q.what q.nr is

  sole_bare : (e : InEvent) (from : Here) (kinds : List RowKind) → AreSole e from kinds end → AreSole e from kinds (unasked checking end)
  sole_bare e from kinds sole =
      record { each = λ before later req goal is. found_bare (request_of (on_rows from (map (row_of e) before)).now req) (sole.each before later req goal is) }

  module _ (aimed : IsAimed checking end) (others : AllOthersPass checking end) where
    -- the row's due is paid in the log if it is by that end
    row_bare : (e : InEvent) (h : Here) (kind : RowKind) → ((req : ReqId) (goal : Option Step) → kind ≡ rows.Started req goal → owes_row h (row_of e (rows.Started req goal)) end ≡ true) → owes_row h (row_of e kind) (unasked checking end) ≡ true → owes_row h (row_of e kind) end ≡ true
    row_bare e h (rows.Dropped req (drops.By r)) begun is = by_found (request_of h.now req) is
      where
        by_found : (o : Option Asked) → holds (λ (q : Asked). by_event (point_at h []) (unasked checking end) q r || holds (by_mover h.now q) (request_of h.now r)) o ≡ true → holds (λ (q : Asked). by_event (point_at h []) end q r || holds (by_mover h.now q) (request_of h.now r)) o ≡ true
        by_found None i = i
        by_found (Some q) i =
            either_on (by_event (point_at h []) (unasked checking end) q r) (holds (by_mover h.now q) (request_of h.now r)) (by_event (point_at h []) end q r) (holds (by_mover h.now q) (request_of h.now r)) (event_in checking end aimed others (point_at h []) q r) (λ j. j) i
    row_bare e h (rows.Dropped req drops.Stay) begun is = refl
    row_bare e h (rows.Dropped req (drops.Destroyed r)) begun is = refl
    row_bare e h (rows.Dropped req (drops.Gone death)) begun is = refl
    row_bare e h (rows.Started req goal) begun is = begun req goal refl
    row_bare e h (rows.Opened entry state doc proc slot address) begun is = refl
    row_bare e h (rows.Accepted req doc what) begun is = refl
    row_bare e h (rows.Applied req change) begun is = refl
    row_bare e h (rows.Refused req reason) begun is = refl
    row_bare e h (rows.Prompted req doc) begun is = refl
    row_bare e h (rows.Answered req stay) begun is = refl
    row_bare e h (rows.Sent job) begun is = refl
    row_bare e h (rows.Taken proc job live dirty) begun is = refl
    row_bare e h (rows.Finished proc job outcome) begun is = refl
    row_bare e h (rows.Made proc made) begun is = refl
    row_bare e h (rows.Delivered proc) begun is = refl
    row_bare e h (rows.Killed proc death) begun is = refl
    row_bare e h (rows.Evicted state) begun is = refl

    rows_bare : (e : InEvent) (h : Here) (kinds : List RowKind) → AreSole e h kinds end → owes h (map (row_of e) kinds) (unasked checking end) ≡ true → owes h (map (row_of e) kinds) end ≡ true
    rows_bare e h [] sole is = refl
    rows_bare e h (kind ∷ kinds) sole is =
        let parts = and_parts (owes_row h (row_of e kind) (unasked checking end)) (owes (on_row h (row_of e kind)) (map (row_of e) kinds) (unasked checking end)) is in
        rw (row_bare e h kind (sole_first e h kind kinds end sole) parts.0, rows_bare e (on_row h (row_of e kind)) kinds (sole_rest e h kind kinds end sole) parts.1) refl

-- ---- the event is cut behind more rows, by checks that have all that were in theirs

module _ (e : InEvent) (out more : List RowKind) (entered : ReqId → Bool) (among : AreAmong e.checking entered) (numbered : AreNumbered e.start) (read : WereRead e out) (debts : AreDebts e) (each : EachOwesSole more) where
  pays : (end : Seen) → IsAimed entered end → AllOthersPass entered end → BeginSole e (out ++ more) end → owes_seen e out (unasked entered end) ≡ true → owes (own_of e) (later_of e (out ++ more)) end ≡ true
  pays end aimed others sole is =
      subst (λ (l : List LogRow). owes (own_of e) l end ≡ true) whole_rows (owes_on (own_of e) (map (row_of e) (e.before ++ out)) (map (row_of e) more) end first second)
    where
      bare_end : Seen
      bare_end = unasked entered end

      -- at that end nobody is under way who entered a check, and all others have passed
      bare_aimed : IsAimed e.checking bare_end
      bare_aimed =
          record {
            numbered = λ req. numbered_read entered end req (aimed.numbered req);
            others = λ req q at runs off. passed_read entered end req q at;
            none_passes = λ req q at runs goes on. absurd (let never : true ≡ false = sym (among req on) ∙ under_way_read entered end req q (aimed.numbered req) at runs in cc);
          }

      sole_old : AreSole e (own_of e) e.before end
      sole_old = sole.old

      sole_out : AreSole e (first_of e) out end
      sole_out =
          record { each = λ before later req goal i. sole.new.each before (later ++ more) req goal (sym (append_assoc before (rows.Started req goal ∷ later) more) ∙ ap (λ (l : List RowKind). l ++ more) i) }

      sole_so_far : AreSole e (own_of e) (e.before ++ out) end
      sole_so_far = both_sole e (own_of e) e.before out end sole_old sole_out

      sole_more : AreSole e (on_rows (first_of e) (map (row_of e) out)) more end
      sole_more =
          record {
            each = λ before later req goal i.
                subst (λ (h : Here). owes_row h (row_of e (rows.Started req goal)) end ≡ true)
                (ap (λ (l : List LogRow). on_rows (first_of e) l) (map-append (row_of e) out before) ∙ on_rows_append (first_of e) (map (row_of e) out) (map (row_of e) before))
                (sole.new.each (out ++ before) later req goal (append_assoc out before (rows.Started req goal ∷ later) ∙ ap (λ (l : List RowKind). out ++ l) i));
          }

      paid : owes (own_of e) (later_of e out) bare_end ≡ true
      paid =
          paid_read e out bare_end bare_aimed (λ req q at off. passed_read entered end req q at) numbered read (record { old = sole_bare entered end e (own_of e) e.before sole_old; new = sole_bare entered end e (first_of e) out sole_out }) debts
          (ap (λ (s : Seen). owes_seen e out s) (unasked_twice e.checking entered among end) ∙ is)

      first : owes (own_of e) (map (row_of e) (e.before ++ out)) end ≡ true
      first =
          rows_bare entered end aimed others e (own_of e) (e.before ++ out) sole_so_far (subst (λ (l : List LogRow). owes (own_of e) l bare_end ≡ true) (sym (map-append (row_of e) e.before out)) paid)

      behind : on_rows (own_of e) (map (row_of e) (e.before ++ out)) ≡ on_rows (first_of e) (map (row_of e) out)
      behind =
          ap (λ (l : List LogRow). on_rows (own_of e) l) (map-append (row_of e) e.before out)
          ∙ on_rows_append (own_of e) (map (row_of e) e.before) (map (row_of e) out)

      second : owes (on_rows (own_of e) (map (row_of e) (e.before ++ out))) (map (row_of e) more) end ≡ true
      second =
          subst (λ (h : Here). owes h (map (row_of e) more) end ≡ true) (sym behind) (sole_pays e (on_rows (first_of e) (map (row_of e) out)) more end each sole_more)

      whole_rows : map (row_of e) (e.before ++ out) ++ map (row_of e) more ≡ later_of e (out ++ more)
      whole_rows =
          sym (map-append (row_of e) (e.before ++ out) more)
          ∙ ap (λ (l : List RowKind). map (row_of e) l) (append_assoc e.before out more)
          ∙ map-append (row_of e) e.before (out ++ more)

  -- what is due is what the rows so far owed
  pub debts_entered : AreDebts (cut e (out ++ more) entered (owes_seen e out))
  debts_entered = debts_cut e (out ++ more) entered (owes_seen e out) pays
