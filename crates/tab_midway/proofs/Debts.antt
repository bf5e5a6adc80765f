-- What the rows of an event owe as a traversal passes its check in its midst: it is paid in the log, if that is paid which is due then; and what lasts pays it.
use Rattle.checking_facts.specs.Checks.{SameBut, just}
use Rattle.log_model.specs.Causes.{by_event, by_mover}
use Rattle.log_model.specs.Equal.{holds}
use Rattle.log_model.specs.Places.{aim_of}
use Rattle.log_model.specs.Seen.{Asked, Seen, request_of}
use Rattle.log_model.specs.declared.outcome.Cause.TheVariants as drops
use Rattle.log_model.specs.declared.row_kind.LogRow.{LogRow}
use Rattle.log_model.specs.declared.row_kind.RowKind.TheVariants as rows
use Rattle.log_model.specs.declared.row_kind.RowKind.{RowKind}
use Rattle.row_facts.specs.Owed.Owed.{IsLoose, IsStill, Lasts}
use Rattle.seen_laws.proofs.InEvents.{now_is}
use Rattle.seen_laws.specs.Blocks.{Here, on_row, on_rows, point_at}
use Rattle.seen_laws.specs.InEvent.{InEvent, cut, log_of, own_of, row_of}
use Rattle.seen_laws.specs.Owing.{owes, owes_row}
use Rattle.seen_laws.specs.Unasked.{unasked, unasked_request, unbegun, without_asks}
use Rattle.std.proofs.Common.{Bool, List, None, Option, Some, [], ap, append-nil, cond, false, map, refl, subst, sym, true, ℕ, ◌++◌, ◌==◌, ◌||◌, ◌∙◌, ◌∷◌, ◌≡◌}
use Rattle.std.proofs.lemmas.Bool.{and_parts}
use Rattle.std.specs.Prelude.{option_map}
use Rattle.tab_cuts.proofs.Owed.{loose_cut}
use Rattle.checking_facts.proofs.Grown.{req_same}
use Rattle.tab_ids.specs.declared.ReqId.{ReqId}
use Rattle.tab_ids.specs.declared.Step.{Step}
use Rattle.tab_midway.proofs.Bare.{due_is}
use Rattle.tab_midway.proofs.Causes.{aimed_there, all_pass, brought, event_in, no_earlier_there, sole_there, there}
use Rattle.tab_midway.specs.Owing.{brought_to, due_without, closed}
use Rattle.unasked.proofs.Readings.{request_read}
use Rattle.unasked_dues.proofs.Cut.{debts_cut}
use Rattle.unasked_dues.specs.Checking.{AllOthersPass, AreNumbered, IsAimed}
use Rattle.unasked_dues.specs.Reading.{AreDebts, AreSole, BeginSole}

-- ---- in the log, where it is paid without questions, brought to where the log is

module _ (checking passed : ReqId → Bool) (end : Seen) (numbered : AreNumbered end) (others : AllOthersPass passed end) (among : (req : ReqId) → passed req ≡ true → checking req ≡ true) where
  abbrev s : Seen
  s = brought checking (aim_of end) end

  either_on : (a b c : Bool) → (a ≡ true → b ≡ true) → (a || c) ≡ true → (b || c) ≡ true
  either_on true b c one is = let first : b ≡ true = one refl in rw first refl
  either_on false true c one is = refl
  either_on false false c one is = is

  -- the row's due, where a load that begins is the only one
  row_in : (e : InEvent) (h : Here) (kind : RowKind) → ((req : ReqId) (goal : Option Step) → kind ≡ rows.Started req goal → owes_row h (row_of e (rows.Started req goal)) end ≡ true) → owes_row h (row_of e kind) s ≡ true → owes_row h (row_of e kind) end ≡ true
  row_in e h (rows.Dropped req (drops.By r)) begun is = by_found (request_of h.now req) is
    where
      by_found : (o : Option Asked) → holds (λ (q : Asked). by_event (point_at h []) s q r || holds (by_mover h.now q) (request_of h.now r)) o ≡ true → holds (λ (q : Asked). by_event (point_at h []) end q r || holds (by_mover h.now q) (request_of h.now r)) o ≡ true
      by_found None i = i
      by_found (Some q) i =
          either_on (by_event (point_at h []) s q r) (by_event (point_at h []) end q r) (holds (by_mover h.now q) (request_of h.now r)) (event_in checking passed end numbered others among (point_at h []) q r) i
  row_in e h (rows.Dropped req drops.Stay) begun is = refl
  row_in e h (rows.Dropped req (drops.Destroyed r)) begun is = refl
  row_in e h (rows.Dropped req (drops.Gone death)) begun is = refl
  row_in e h (rows.Started req goal) begun is = begun req goal refl
  row_in e h (rows.Opened entry state doc proc slot address) begun is = refl
  row_in e h (rows.Accepted req doc what) begun is = refl
  row_in e h (rows.Applied req change) begun is = refl
  row_in e h (rows.Refused req reason) begun is = refl
  row_in e h (rows.Prompted req doc) begun is = refl
  row_in e h (rows.Answered req stay) begun is = refl
  row_in e h (rows.Sent job) begun is = refl
  row_in e h (rows.Taken proc job live dirty) begun is = refl
  row_in e h (rows.Finished proc job outcome) begun is = refl
  row_in e h (rows.Made proc made) begun is = refl
  row_in e h (rows.Delivered proc) begun is = refl
  row_in e h (rows.Killed proc death) begun is = refl
  row_in e h (rows.Evicted state) begun is = refl

  -- behind the first of some rows, and of the first
  sole_rest : (e : InEvent) (h : Here) (kind : RowKind) (kinds : List RowKind) → AreSole e h (kind ∷ kinds) end → AreSole e (on_row h (row_of e kind)) kinds end
  sole_rest e h kind kinds sole =
      record { each = λ before later req goal is. sole.each (kind ∷ before) later req goal (ap (λ (l : List RowKind). kind ∷ l) is) }

  sole_first : (e : InEvent) (h : Here) (kind : RowKind) (kinds : List RowKind) → AreSole e h (kind ∷ kinds) end → (req : ReqId) (goal : Option Step) → kind ≡ rows.Started req goal → owes_row h (row_of e (rows.Started req goal)) end ≡ true
  sole_first e h kind kinds sole req goal is =
      sole.each [] kinds req goal (ap (λ (k : RowKind). k ∷ kinds) (sym is))

  rows_in : (e : InEvent) (h : Here) (kinds : List RowKind) → AreSole e h kinds end → owes h (map (row_of e) kinds) s ≡ true → owes h (map (row_of e) kinds) end ≡ true
  rows_in e h [] sole is = refl
  rows_in e h (kind ∷ kinds) sole is =
      let parts = and_parts (owes_row h (row_of e kind) s) (owes (on_row h (row_of e kind)) (map (row_of e) kinds) s) is in
      rw (row_in e h kind (sole_first e h kind kinds sole) parts.0, rows_in e (on_row h (row_of e kind)) kinds (sole_rest e h kind kinds sole) parts.1) refl

  -- a load that is the only one is so there
  soles_there : (e : InEvent) (from : Here) (kinds : List RowKind) → AreSole e from kinds end → AreSole e from kinds s
  soles_there e from kinds sole =
      record { each = λ before later req goal is. sole_there checking (aim_of end) end (request_of (on_rows from (map (row_of e) before)).now req) (sole.each before later req goal is) }

-- ---- the event is cut where it passes

module _ (e : InEvent) (req : ReqId) (passed : ReqId → Bool) (same : SameBut req e.checking passed) (off : passed req ≡ false) (on : e.checking req ≡ true) where
  among : (r : ReqId) → passed r ≡ true → e.checking r ≡ true
  among r in_ = by_number (r.0 == req.0) refl
    where
      by_number : (b : Bool) → (r.0 == req.0) ≡ b → e.checking r ≡ true
      by_number false apart = sym (same r apart) ∙ in_
      by_number true is = ap e.checking (req_same r req is) ∙ on

  -- what is due is paid in the log
  pub debts_gone : AreDebts e → AreDebts (cut e [] passed (due_without e req))
  debts_gone debts = debts_cut e [] passed (due_without e req) pays
    where
      pays : (end : Seen) → IsAimed passed end → AllOthersPass passed end → BeginSole e [] end → due_without e req (unasked passed end) ≡ true → owes (own_of e) (map (row_of e) e.before ++ []) end ≡ true
      pays end aimed others sole is =
          subst (λ (l : List LogRow). owes (own_of e) l end ≡ true) (sym (append-nil (map (row_of e) e.before)))
          (rows_in e.checking passed end aimed.numbered others among e (own_of e) e.before sole.old
          (debts.paid (brought e.checking (aim_of end) end) (aimed_there e.checking (aim_of end) end aimed.numbered) (all_pass e.checking (aim_of end) end) (soles_there e.checking passed end aimed.numbered others among e (own_of e) e.before sole.old) (sym (due_is e req passed same on end aimed) ∙ is)))

  -- ---- and paid by what lasts

  abbrev log : Seen
  log = log_of e []

  -- what lasts of the log where it has passed lasts of the one where it hasn't, and without its beginning, wherever it is brought
  lasts_without : (step : ℕ) (end : Seen) → Lasts (unasked passed log) end → Lasts (unasked e.checking log) (brought_to step (unasked (just req) end))
  lasts_without step end lasts =
      record {
        asked = λ r q at. still r q at;
        places = λ nav place at. (let l = lasts.places nav place at in record { then_ = l.then_; at = l.at; nav_is = l.nav_is; above = l.above; added = l.added; shown = l.shown });
        sole = λ r nav is. no_earlier_there (just req) step end r nav;
      }
    where
      still : (r : ReqId) (q : Asked) → request_of (unasked e.checking log) r ≡ Some q → IsStill (brought_to step (unasked (just req) end)) r q
      still r q at = by_found (request_of log r) refl (sym (request_read e.checking log r) ∙ at)
        where
          by_check : (x : Asked) → request_of log r ≡ Some x → (b : Bool) → e.checking x.nr ≡ b → cond b (unbegun x) (without_asks x) ≡ q → IsStill (brought_to step (unasked (just req) end)) r q
          by_check x found b is its =
              record {
                r = closed (unasked_request (just req) last.r);
                at = there (just req) step end r ∙ ap (λ (o : Option Asked). option_map (λ (y : Asked). closed (unasked_request (just req) y)) o) last.at;
                what = what_end (just req last.r.nr) ∙ last.what ∙ what_there (passed x.nr) ∙ sym (what_there b) ∙ ap (λ (y : Asked). y.what) its;
                nr = nr_end (just req last.r.nr) ∙ last.nr ∙ nr_there (passed x.nr) ∙ sym (nr_there b) ∙ ap (λ (y : Asked). y.nr) its;
                began = λ began. began_end b is (ap (λ (y : Asked). y.is_started) its ∙ began);
              }
            where
              last : IsStill end r (unasked_request passed x)
              last = lasts.asked r (unasked_request passed x) (request_read passed log r ∙ ap (λ (o : Option Asked). option_map (unasked_request passed) o) found)

              what_end : (c : Bool) → (let y : Asked = closed (cond c (unbegun last.r) (without_asks last.r)) in y).what ≡ last.r.what
              what_end true = refl
              what_end false = refl

              what_there : (c : Bool) → (let y : Asked = cond c (unbegun x) (without_asks x) in y).what ≡ x.what
              what_there true = refl
              what_there false = refl

              nr_end : (c : Bool) → (let y : Asked = closed (cond c (unbegun last.r) (without_asks last.r)) in y).nr ≡ last.r.nr
              nr_end true = refl
              nr_end false = refl

              nr_there : (c : Bool) → (let y : Asked = cond c (unbegun x) (without_asks x) in y).nr ≡ x.nr
              nr_there true = refl
              nr_there false = refl

              -- one that isn't in its check began in both, and it isn't this one
              began_end : (c : Bool) → e.checking x.nr ≡ c → (let y : Asked = cond c (unbegun x) (without_asks x) in y).is_started ≡ true → (closed (unasked_request (just req) last.r)).is_started ≡ true
              began_end true on_ began = absurd cc
              began_end false off_ began =
                  subst (λ (c : Bool). (let y : Asked = closed (cond c (unbegun last.r) (without_asks last.r)) in y).is_started ≡ true) (sym apart) (last.began (subst (λ (c : Bool). (let y : Asked = cond c (unbegun x) (without_asks x) in y).is_started ≡ true) (sym out) began))
                where
                  apart_x : (x.nr.0 == req.0) ≡ false
                  apart_x = by_number (x.nr.0 == req.0) refl
                    where
                      by_number : (c : Bool) → (x.nr.0 == req.0) ≡ c → c ≡ false
                      by_number false is_ = refl
                      by_number true is_ =
                          let never : false ≡ true = sym off_ ∙ ap e.checking (req_same x.nr req is_) ∙ on in absurd cc

                  out : passed x.nr ≡ false
                  out = same x.nr apart_x ∙ off_

                  apart : just req last.r.nr ≡ false
                  apart = ap (λ (n : ReqId). n.0 == req.0) (last.nr ∙ nr_there (passed x.nr)) ∙ apart_x

          by_found : (o : Option Asked) → request_of log r ≡ o → option_map (unasked_request e.checking) o ≡ Some q → IsStill (brought_to step (unasked (just req) end)) r q
          by_found None found is = absurd cc
          by_found (Some x) found is = by_check x found (e.checking x.nr) refl cc

  -- so what lasts pays what is due, if it paid what the rows before owed
  pub loose_gone : IsLoose e [] → IsLoose (cut e [] passed (due_without e req)) []
  unfolding due_without
  loose_gone loose =
      loose_cut e [] passed (due_without e req) (λ end lasts. (and_parts (e.due (without end)) true (loose (without end) (subst (λ (x : Seen). Lasts x (without end)) (sym (now_is e [])) (lasts_without (aim_of end) end lasts)))).0)
    where
      without : Seen → Seen
      without end = brought_to (aim_of end) (unasked (just req) end)
