-- What the rows of an event owe as a load passes its check in its midst: it is paid in the log, if that is paid which is due then; and what rows leave that undo nothing pays it.
use Rattle.checking_facts.proofs.Grown.{req_same}
use Rattle.checking_facts.specs.Checks.{SameBut, just}
use Rattle.load_midway.proofs.Closed.{aimed_there, all_pass, closed_aim, event_in, no_load_there, shut_bare, sole_there, there_without, without_aim, without_shut}
use Rattle.load_midway.proofs.Closed as closed
use Rattle.load_midway.specs.Owing.{due_beside, is_load_in, load_closed, load_without, loads_closed, one_without}
use Rattle.log_model.specs.Causes.{by_event, by_mover}
use Rattle.log_model.specs.Equal.{holds}
use Rattle.log_model.specs.Places.{aim_of, has_passed, is_load, is_traversal, is_under_way}
use Rattle.log_model.specs.Seen.{Asked, Seen, request_of}
use Rattle.log_model.specs.declared.outcome.Cause.TheVariants as drops
use Rattle.log_model.specs.declared.row_kind.LogRow.{LogRow}
use Rattle.log_model.specs.declared.row_kind.RowKind.TheVariants as rows
use Rattle.log_model.specs.declared.row_kind.RowKind.{RowKind}
use Rattle.row_facts.specs.Owed.Owed.{IsLoose, IsOwed, IsStill, Lasts, Stays}
use Rattle.seen_laws.proofs.InEvents.{now_is}
use Rattle.seen_laws.specs.Blocks.{Here, on_row, on_rows, point_at}
use Rattle.seen_laws.specs.InEvent.{InEvent, cut, log_of, own_of, row_of}
use Rattle.seen_laws.specs.Owing.{owes, owes_row}
use Rattle.seen_laws.specs.Unasked.{unasked, unasked_request, unbegun, without_asks}
use Rattle.std.proofs.Common.{Bool, List, None, Option, Some, [], ap, append-nil, cond, false, map, refl, subst, sym, true, ◌&&◌, ◌++◌, ◌==◌, ◌||◌, ◌∙◌, ◌∷◌, ◌≡◌}
use Rattle.std.proofs.lemmas.Bool.{and_parts}
use Rattle.std.specs.Prelude.{if◌then◌else◌, option_map}
use Rattle.tab_cuts.proofs.Owed.{loose_cut, owed_cut}
use Rattle.tab_ids.specs.declared.ReqId.{ReqId}
use Rattle.tab_ids.specs.declared.Step.{Step}
use Rattle.unasked.proofs.Readings.{request_read}
use Rattle.unasked_dues.proofs.Base.{aim_same}
use Rattle.unasked_dues.proofs.Cut.{debts_cut}
use Rattle.unasked_dues.specs.Checking.{AllOthersPass, AreNumbered, IsAimed}
use Rattle.unasked_dues.specs.Reading.{AreDebts, AreSole, BeginSole}

-- ---- in the log, where it is paid without questions, with each load ended

module _ (checking passed : ReqId → Bool) (end : Seen) (numbered : AreNumbered end) (others : AllOthersPass passed end) (among : (req : ReqId) → passed req ≡ true → checking req ≡ true) (aim : aim_of (loads_closed (unasked checking end)) ≡ aim_of end) where
  abbrev s : Seen
  s = loads_closed (unasked checking end)

  either_on : (a b c : Bool) → (a ≡ true → b ≡ true) → (a || c) ≡ true → (b || c) ≡ true
  either_on true b c one is = let first : b ≡ true = one refl in rw first refl
  either_on false true c one is = refl
  either_on false false c one is = is

  -- the row's due, where a load that begins is the only one
  row_in : (e : InEvent) (h : Here) (kind : RowKind) → ((req : ReqId) (goal : Option Step) → kind ≡ rows.Started req goal → owes_row h (row_of e (rows.Started req goal)) end ≡ true) → owes_row h (row_of e kind) s ≡ true → owes_row h (row_of e kind) end ≡ true
  row_in e h (rows.Dropped req (drops.By r)) begun is = by_found (request_of h.now req) is
    where
      by_found : (o : Option Asked) → holds (λ (q : Asked). by_event (point_at h []) s q r || holds (by_mover h.now q) (request_of h.now r)) o ≡ true → holds (λ (q : Asked). by_event (point_at h []) end q r || holds (by_mover h.now q) (request_of h.now r)) o ≡ true
      by_found None i = i
      by_found (Some q) i =
          either_on (by_event (point_at h []) s q r) (by_event (point_at h []) end q r) (holds (by_mover h.now q) (request_of h.now r)) (event_in checking passed end numbered others among aim (point_at h []) q r) i
  row_in e h (rows.Dropped req drops.Stay) begun is = refl
  row_in e h (rows.Dropped req (drops.Destroyed r)) begun is = refl
  row_in e h (rows.Dropped req (drops.Gone death)) begun is = refl
  row_in e h (rows.Started req goal) begun is = begun req goal refl
  row_in e h (rows.Opened entry state doc proc slot address) begun is = refl
  row_in e h (rows.Accepted req doc what) begun is = refl
  row_in e h (rows.Applied req change) begun is = refl
  row_in e h (rows.Refused req reason) begun is = refl
  row_in e h (rows.Prompted req doc) begun is = refl
  row_in e h (rows.Answered req stay) begun is = refl
  row_in e h (rows.Sent job) begun is = refl
  row_in e h (rows.Taken proc job live dirty) begun is = refl
  row_in e h (rows.Finished proc job outcome) begun is = refl
  row_in e h (rows.Made proc made) begun is = refl
  row_in e h (rows.Delivered proc) begun is = refl
  row_in e h (rows.Killed proc death) begun is = refl
  row_in e h (rows.Evicted state) begun is = refl

  -- behind the first of some rows, and of the first
  sole_rest : (e : InEvent) (h : Here) (kind : RowKind) (kinds : List RowKind) → AreSole e h (kind ∷ kinds) end → AreSole e (on_row h (row_of e kind)) kinds end
  sole_rest e h kind kinds sole =
      record { each = λ before later req goal is. sole.each (kind ∷ before) later req goal (ap (λ (l : List RowKind). kind ∷ l) is) }

  sole_first : (e : InEvent) (h : Here) (kind : RowKind) (kinds : List RowKind) → AreSole e h (kind ∷ kinds) end → (req : ReqId) (goal : Option Step) → kind ≡ rows.Started req goal → owes_row h (row_of e (rows.Started req goal)) end ≡ true
  sole_first e h kind kinds sole req goal is =
      sole.each [] kinds req goal (ap (λ (k : RowKind). k ∷ kinds) (sym is))

  rows_in : (e : InEvent) (h : Here) (kinds : List RowKind) → AreSole e h kinds end → owes h (map (row_of e) kinds) s ≡ true → owes h (map (row_of e) kinds) end ≡ true
  rows_in e h [] sole is = refl
  rows_in e h (kind ∷ kinds) sole is =
      let parts = and_parts (owes_row h (row_of e kind) s) (owes (on_row h (row_of e kind)) (map (row_of e) kinds) s) is in
      rw (row_in e h kind (sole_first e h kind kinds sole) parts.0, rows_in e (on_row h (row_of e kind)) kinds (sole_rest e h kind kinds sole) parts.1) refl

  -- a load that is the only one is so there
  soles_there : (e : InEvent) (from : Here) (kinds : List RowKind) → AreSole e from kinds end → AreSole e from kinds s
  soles_there e from kinds sole =
      record { each = λ before later req goal is. sole_there checking end (request_of (on_rows from (map (row_of e) before)).now req) (sole.each before later req goal is) }

-- ---- the event is cut where it passes

module _ (e : InEvent) (req : ReqId) (passed : ReqId → Bool) (same : SameBut req e.checking passed) (off : passed req ≡ false) (on : e.checking req ≡ true) where
  among : (r : ReqId) → passed r ≡ true → e.checking r ≡ true
  among r in_ = by_number (r.0 == req.0) refl
    where
      by_number : (b : Bool) → (r.0 == req.0) ≡ b → e.checking r ≡ true
      by_number false apart = sym (same r apart) ∙ in_
      by_number true is = ap e.checking (req_same r req is) ∙ on

  -- where the request is a load, the aim is read off the log by the checks before, too
  aimed_before : (end : Seen) → IsAimed passed end → is_load_in end req ≡ true → IsAimed e.checking end
  aimed_before end aimed its =
      record {
        numbered = aimed.numbered;
        others = λ r q found runs out. aimed.others r q found runs (by_passed r out (passed r) refl);
        none_passes = λ r q found runs goes on_. by_in r q found runs goes on_ (passed r) refl;
      }
    where
      by_passed : (r : ReqId) → e.checking r ≡ false → (b : Bool) → passed r ≡ b → b ≡ false
      by_passed r out false is = refl
      by_passed r out true is = let never : false ≡ true = sym out ∙ among r is in absurd cc

      by_number : (r : ReqId) (q : Asked) → request_of end r ≡ Some q → is_traversal q.what ≡ true → e.checking r ≡ true → passed r ≡ false → (b : Bool) → (r.0 == req.0) ≡ b → has_passed end q ≡ false
      by_number r q found goes on_ is true one =
          let own : request_of end req ≡ Some q = ap (request_of end) (sym (req_same r req one)) ∙ found in
          let load : is_load q.what ≡ true = sym (ap (λ (o : Option Asked). holds (λ (x : Asked). is_load x.what) o) own) ∙ its in
          let never : true ≡ false = sym goes ∙ closed.load_no_step q.what load in
          absurd cc
      by_number r q found goes on_ is false apart =
          let never : true ≡ false = sym on_ ∙ sym (same r apart) ∙ is in
          absurd cc

      by_in : (r : ReqId) (q : Asked) → request_of end r ≡ Some q → is_under_way q ≡ true → is_traversal q.what ≡ true → e.checking r ≡ true → (b : Bool) → passed r ≡ b → has_passed end q ≡ false
      by_in r q found runs goes on_ true is = aimed.none_passes r q found runs goes is
      by_in r q found runs goes on_ false is = by_number r q found goes on_ is (r.0 == req.0) refl

  -- what is due is paid in the log
  pub debts_beside : AreDebts e → AreDebts (cut e [] passed (due_beside e req))
  unfolding due_beside
  debts_beside debts = debts_cut e [] passed (due_beside e req) pays
    where
      pays : (end : Seen) → IsAimed passed end → AllOthersPass passed end → BeginSole e [] end → due_beside e req (unasked passed end) ≡ true → owes (own_of e) (map (row_of e) e.before ++ []) end ≡ true
      pays end aimed others sole is =
          subst (λ (l : List LogRow). owes (own_of e) l end ≡ true) (sym (append-nil (map (row_of e) e.before)))
          (rows_in e.checking passed end aimed.numbered others among aim e (own_of e) e.before sole.old
          (debts.paid (loads_closed (unasked e.checking end)) (aimed_there e.checking end aimed.numbered) (all_pass e.checking end) (soles_there e.checking passed end aimed.numbered others among aim e (own_of e) e.before sole.old) due))
        where
          parts : (is_load_in (unasked passed end) req ≡ true) × (e.due (load_without req (unasked passed end)) ≡ true)
          parts = and_parts (is_load_in (unasked passed end) req) (e.due (load_without req (unasked passed end))) is

          its : is_load_in end req ≡ true
          its = by_found (request_of end req) refl
            where
              what_same : (x : Asked) (b : Bool) → is_load (let y : Asked = cond b (unbegun x) (without_asks x) in y).what ≡ is_load x.what
              what_same x true = refl
              what_same x false = refl

              there_ : is_load_in (unasked passed end) req ≡ holds (λ (q : Asked). is_load q.what) (option_map (unasked_request passed) (request_of end req))
              there_ = ap (λ (o : Option Asked). holds (λ (q : Asked). is_load q.what) o) (request_read passed end req)

              by_found : (o : Option Asked) → request_of end req ≡ o → holds (λ (q : Asked). is_load q.what) o ≡ true
              by_found None at =
                  let never : true ≡ false = sym parts.0 ∙ there_ ∙ ap (λ (o : Option Asked). holds (λ (q : Asked). is_load q.what) (option_map (unasked_request passed) o)) at in
                  absurd cc
              by_found (Some x) at =
                  sym (what_same x (passed x.nr))
                  ∙ sym (ap (λ (o : Option Asked). holds (λ (q : Asked). is_load q.what) (option_map (unasked_request passed) o)) at)
                  ∙ sym there_
                  ∙ parts.0

          aim : aim_of (loads_closed (unasked e.checking end)) ≡ aim_of end
          aim =
              closed_aim (unasked e.checking end) ∙ aim_same e.checking end (aimed_before end aimed its)

          due : e.due (unasked e.checking (loads_closed (unasked e.checking end))) ≡ true
          due =
              ap e.due (shut_bare e.checking end ∙ sym (without_shut e.checking passed req same off on end aimed.numbered its)) ∙ parts.1

  -- ---- and paid by what rows leave

  module _ (numbered : AreNumbered (log_of e [])) (q : Asked) (at : request_of (log_of e []) req ≡ Some q) (load : is_load q.what ≡ true) where
    abbrev log : Seen
    log = log_of e []

    -- the same of the log
    log_load : is_load_in log req ≡ true
    log_load = ap (λ (o : Option Asked). holds (λ (x : Asked). is_load x.what) o) at ∙ load

    still : (end : Seen) → Lasts (unasked passed log) end → (r : ReqId) (x : Asked) → request_of (unasked e.checking log) r ≡ Some x → IsStill (load_without req end) r x
    still end lasts r x at_ = by_found (request_of log r) refl (sym (request_read e.checking log r) ∙ at_)
      where
        by_check : (y : Asked) → request_of log r ≡ Some y → (b : Bool) → e.checking y.nr ≡ b → cond b (unbegun y) (without_asks y) ≡ x → IsStill (load_without req end) r x
        by_check y found b is its =
            record {
              r = one_without req last.r;
              at = there_without req end r ∙ ap (λ (o : Option Asked). option_map (one_without req) o) last.at;
              what = what_end (just req last.r.nr && is_load last.r.what) ∙ last.what ∙ what_there (passed y.nr) ∙ sym (what_there b) ∙ ap (λ (z : Asked). z.what) its;
              nr = nr_end (just req last.r.nr && is_load last.r.what) ∙ last.nr ∙ nr_there (passed y.nr) ∙ sym (nr_there b) ∙ ap (λ (z : Asked). z.nr) its;
              began = λ began. began_end b is (ap (λ (z : Asked). z.is_started) its ∙ began);
            }
          where
            last : IsStill end r (unasked_request passed y)
            last = lasts.asked r (unasked_request passed y) (request_read passed log r ∙ ap (λ (o : Option Asked). option_map (unasked_request passed) o) found)

            what_end : (c : Bool) → (let z : Asked = load_closed (if c then unbegun last.r else last.r) in z).what ≡ last.r.what
            what_end true = refl
            what_end false = refl

            what_there : (c : Bool) → (let z : Asked = cond c (unbegun y) (without_asks y) in z).what ≡ y.what
            what_there true = refl
            what_there false = refl

            nr_end : (c : Bool) → (let z : Asked = load_closed (if c then unbegun last.r else last.r) in z).nr ≡ last.r.nr
            nr_end true = refl
            nr_end false = refl

            nr_there : (c : Bool) → (let z : Asked = cond c (unbegun y) (without_asks y) in z).nr ≡ y.nr
            nr_there true = refl
            nr_there false = refl

            -- one that isn't in its check began in both, and it isn't this one
            began_end : (c : Bool) → e.checking y.nr ≡ c → (let z : Asked = cond c (unbegun y) (without_asks y) in z).is_started ≡ true → (one_without req last.r).is_started ≡ true
            began_end true on_ began = absurd cc
            began_end false off_ began =
                subst (λ (c : Bool). (let z : Asked = load_closed (if c && is_load last.r.what then unbegun last.r else last.r) in z).is_started ≡ true) (sym apart) (last.began (subst (λ (c : Bool). (let z : Asked = cond c (unbegun y) (without_asks y) in z).is_started ≡ true) (sym out) began))
              where
                apart_y : (y.nr.0 == req.0) ≡ false
                apart_y = by_number (y.nr.0 == req.0) refl
                  where
                    by_number : (c : Bool) → (y.nr.0 == req.0) ≡ c → c ≡ false
                    by_number false is_ = refl
                    by_number true is_ =
                        let never : false ≡ true = sym off_ ∙ ap e.checking (req_same y.nr req is_) ∙ on in absurd cc

                out : passed y.nr ≡ false
                out = same y.nr apart_y ∙ off_

                apart : just req last.r.nr ≡ false
                apart = ap (λ (n : ReqId). n.0 == req.0) (last.nr ∙ nr_there (passed y.nr)) ∙ apart_y

        by_found : (o : Option Asked) → request_of log r ≡ o → option_map (unasked_request e.checking) o ≡ Some x → IsStill (load_without req end) r x
        by_found None found is = absurd cc
        by_found (Some y) found is = by_check y found (e.checking y.nr) refl cc

    -- what lasts of the log where it has passed lasts of the one where it hasn't, without its beginning
    lasts_without : (end : Seen) → Lasts (unasked passed log) end → Lasts (unasked e.checking log) (load_without req end)
    lasts_without end lasts =
        record {
          asked = λ r x at_. still end lasts r x at_;
          places = λ nav place at_. (let l = lasts.places nav place at_ in record { then_ = l.then_; at = l.at; nav_is = l.nav_is; above = l.above; added = l.added; shown = l.shown });
          sole = λ r nav is. no_load_there req end r nav;
        }

    -- a request of the log in either form
    in_log : (r : ReqId) (x : Asked) → request_of (unasked e.checking log) r ≡ Some x → (y : Asked) × (request_of log r ≡ Some y) × (unasked_request e.checking y ≡ x)
    in_log r x at_ = by_found (request_of log r) refl (sym (request_read e.checking log r) ∙ at_)
      where
        by_found : (o : Option Asked) → request_of log r ≡ o → option_map (unasked_request e.checking) o ≡ Some x → (y : Asked) × (request_of log r ≡ Some y) × (unasked_request e.checking y ≡ x)
        by_found None found is = absurd cc
        by_found (Some y) found is = (y, found, cc)

    in_passed : (r : ReqId) (y : Asked) → request_of log r ≡ Some y → request_of (unasked passed log) r ≡ Some (unasked_request passed y)
    in_passed r y found =
        request_read passed log r ∙ ap (λ (o : Option Asked). option_map (unasked_request passed) o) found

    in_end : (end : Seen) (r : ReqId) (z : Asked) → request_of (load_without req end) r ≡ Some z → (w : Asked) × (request_of end r ≡ Some w) × (one_without req w ≡ z)
    in_end end r z at_ = by_found (request_of end r) refl (sym (there_without req end r) ∙ at_)
      where
        by_found : (o : Option Asked) → request_of end r ≡ o → option_map (one_without req) o ≡ Some z → (w : Asked) × (request_of end r ≡ Some w) × (one_without req w ≡ z)
        by_found None found is = absurd cc
        by_found (Some w) found is = (w, found, cc)

    bare_passed : (s : Seen) (y : Asked) (b : Bool) → has_passed s (cond b (unbegun y) (without_asks y)) ≡ true
    bare_passed s y true = refl
    bare_passed s y false = refl

    changes_bare : (y : Asked) (b : Bool) → (let z : Asked = cond b (unbegun y) (without_asks y) in z).change ≡ y.change
    changes_bare y true = refl
    changes_bare y false = refl

    -- and so does what no order undoes
    stays_without : (end : Seen) → Stays (unasked passed log) end → Stays (unasked e.checking log) (load_without req end)
    stays_without end stays =
        record {
          lasts = lasts_without end stays.lasts;
          history = stays.history;
          aim = without_aim req end
              ∙ stays.aim
              ∙ sym (without_aim req (unasked passed log))
              ∙ ap (λ (x : Seen). aim_of x) (without_shut e.checking passed req same off on log numbered log_load)
              ∙ closed_aim (unasked e.checking log);
          passed = λ r x z at_ end_at has. passes r x z at_ end_at;
          changes = λ r x z at_ end_at. changed r x z at_ end_at;
          last = stays.last;
          unsettled = stays.unsettled;
          off = stays.off;
        }
      where
        passes : (r : ReqId) (x z : Asked) → request_of (unasked e.checking log) r ≡ Some x → request_of (load_without req end) r ≡ Some z → has_passed (load_without req end) z ≡ true
        passes r x z at_ end_at =
            let y = in_log r x at_ in
            let w = in_end end r z end_at in
            subst (λ (k : Asked). has_passed (load_without req end) k ≡ true) w.2
            (by_one w.0 (just req w.0.nr && is_load w.0.what) (stays.passed r (unasked_request passed y.0) w.0 (in_passed r y.0 y.1) w.1 (bare_passed (unasked passed log) y.0 (passed y.0.nr))))
          where
            by_one : (w : Asked) (b : Bool) → has_passed end w ≡ true → has_passed (load_without req end) (load_closed (if b then unbegun w else w)) ≡ true
            by_one w true has = refl
            by_one w false has = has

        changed : (r : ReqId) (x z : Asked) → request_of (unasked e.checking log) r ≡ Some x → request_of (load_without req end) r ≡ Some z → z.change ≡ x.change
        changed r x z at_ end_at =
            let y = in_log r x at_ in
            let w = in_end end r z end_at in
            ap (λ (k : Asked). k.change) (sym w.2)
            ∙ by_one w.0 (just req w.0.nr && is_load w.0.what)
            ∙ stays.changes r (unasked_request passed y.0) w.0 (in_passed r y.0 y.1) w.1
            ∙ changes_bare y.0 (passed y.0.nr)
            ∙ sym (changes_bare y.0 (e.checking y.0.nr))
            ∙ ap (λ (k : Asked). k.change) y.2
          where
            by_one : (w : Asked) (b : Bool) → (let k : Asked = load_closed (if b then unbegun w else w) in k).change ≡ w.change
            by_one w true = refl
            by_one w false = refl

    -- the load is one at such an end
    end_load : (end : Seen) → Lasts (unasked passed log) end → is_load_in end req ≡ true
    end_load end lasts =
        let one = lasts.asked req (unasked_request passed q) (in_passed req q at) in
        ap (λ (o : Option Asked). holds (λ (x : Asked). is_load x.what) o) one.at ∙ ap is_load one.what ∙ what_there (passed q.nr) ∙ load
      where
        what_there : (c : Bool) → is_load (let z : Asked = cond c (unbegun q) (without_asks q) in z).what ≡ is_load q.what
        what_there true = refl
        what_there false = refl

    -- so it pays what is due, if it paid what the rows before owed
    pub owed_beside : IsOwed e [] → IsOwed (cut e [] passed (due_beside e req)) []
    unfolding due_beside
    owed_beside owed =
        owed_cut e [] passed (due_beside e req) (λ end stays. rw (end_load end stays.lasts) (and_parts (e.due (load_without req end)) true (owed (load_without req end) (subst (λ (x : Seen). Stays x (load_without req end)) (sym (now_is e [])) (stays_without end stays)))).0)

    pub loose_beside : IsLoose e [] → IsLoose (cut e [] passed (due_beside e req)) []
    unfolding due_beside
    loose_beside loose =
        loose_cut e [] passed (due_beside e req) (λ end lasts. rw (end_load end lasts) (and_parts (e.due (load_without req end)) true (loose (load_without req end) (subst (λ (x : Seen). Lasts x (load_without req end)) (sym (now_is e [])) (lasts_without end lasts)))).0)
