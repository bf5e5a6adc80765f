-- A stray document that a pass leaves has an order on its way: its load's navigable was awake on a stray document, which the sweep discarded.
use Rattle.tab_doors.proofs.PassedOn.{dropped_goes}
use Rattle.seen_facts.proofs.Hang.Members.{Passing, any_has, has_any, has_map}
use Rattle.seen_facts.proofs.Hang.Parts.{state_is}
use Rattle.seen_facts.specs.Hang.Members.{Has}
use Rattle.seen_facts.specs.Home.Homes.{IsAtHome}
use Rattle.seen_facts.specs.Load.Loading.{look}
use Rattle.log_model.proofs.Refl.{nat_eq_refl}
use Rattle.log_model.specs.After.{after}
use Rattle.log_model.specs.History.{History, has_row, has_state, is_of}
use Rattle.log_model.specs.Orders.{ongoing_load}
use Rattle.log_model.specs.Places.{is_load, is_ongoing_load, is_under_way}
use Rattle.log_model.specs.Seen.{Asked, Document, Place, Seen, document_of, place_in, request_in}
use Rattle.log_model.specs.declared.job.Why.{Why}
use Rattle.log_model.specs.declared.made.Made.{Made}
use Rattle.log_model.specs.declared.row.Row.{Row}
use Rattle.log_model.specs.declared.row_kind.RowKind.{RowKind}
use Rattle.seen_laws.specs.InEvent.{InEvent, now_of, row_of, GoesThere}
use Rattle.std.proofs.Common.{Bool, List, None, Option, Some, [], ap, append-nil, append_assoc, false, inl, map, refl, subst, sym, true, ◌++◌, ◌==◌, ◌∙◌, ◌∷◌, ◌≡◌}
use Rattle.std.proofs.lemmas.Bool.{and_parts}
use Rattle.std.specs.Prelude.{option_map}
use Rattle.tab_drops.specs.Dropping.{Drop, EndsLoads, HasOnlyDestroyed, IsBare, IsLoadOf, row_of_drop}
use Rattle.tab_serves.proofs.PassedOn.{nav_of_load, over_each}
use Rattle.tab_ids.specs.declared.DocId.{DocId}
use Rattle.tab_ids.specs.declared.NavId.{NavId}
use Rattle.tab_ids.specs.declared.ReqId.{ReqId}
use Rattle.tab_ids.specs.declared.StateId.{StateId}
use Rattle.tab_one_pass.specs.Passing.{BareAwake, HasGivenWay, HasSent, LeavesPass, SendsForStrays}
use Rattle.tab_serves.specs.PassedOn.{HasOnlyTold, IsTab}
use Rattle.tab_serves.specs.Serving.{HasOnlyServed}
use Rattle.tab_sweeps.proofs.Loads.{awake_unloaded, loaded_never, unloaded_by}
use Rattle.tab_sweeps.specs.Sweeping.{HasOnlySwept, IsStray, IsSweepOf, NoneStray}
use Rattle.seen_facts.proofs.Walk.Placed.{found_nav}
use Rattle.row_facts.specs.WalkRows.Since.{WasAwake}
use Rattle.log_model.specs.declared.row_kind.RowKind.TheVariants as rows

-- a request is dropped
record IsDrop (row : RowKind) : Type 0 where
  it : Drop
  is : row ≡ row_of_drop it

-- ---- who is awake without an entry is so on a stray document

module _ (run : Option ReqId) (ids : List ReqId) (hand : List Made) (s : Seen) (tab : IsTab run ids hand s) where
  bare_stray : (nav : NavId) → IsBare s nav → (doc : DocId) → WasAwake s nav doc → NoneStray s → ⊥
  bare_stray nav bare doc was none =
      none doc home.document.state (record { document = home.document; found = home.found; its_state = refl; ready = home.ready; undiscarded = home.undiscarded; bare = stateless; unloaded = unloaded })
    where
      home : IsAtHome s.documents was.place.nav doc
      home = (tab.homes.homed nav was.place doc was.placed was.wakes).home

      unloaded : ongoing_load s home.document.state ≡ None
      unloaded =
          awake_unloaded s tab.loading tab.shown.ever nav was.place doc home.document was.placed was.wakes home.found

      stateless : has_state home.document.state s.history.rows ≡ false
      stateless = by_test (has_state home.document.state s.history.rows) refl
        where
          by_test : (b : Bool) → has_state home.document.state s.history.rows ≡ b → has_state home.document.state s.history.rows ≡ false
          by_test false is = is
          by_test true is =
              let a : Passing (λ (row : Row). row.state.0 == home.document.state.0) s.history.rows = any_has (λ (row : Row). row.state.0 == home.document.state.0) s.history.rows is in
              let navs : a.it.nav ≡ nav = tab.whose.whose doc home.document a.it home.found a.there (state_is a.it.state home.document.state a.passes) ∙ home.nav_is ∙ found_nav s.places nav was.place was.placed in
              let has : has_row nav s.history.rows ≡ true = has_any (is_of nav) s.history.rows a.it a.there (ap (λ (n : NavId). n.0 == nav.0) navs ∙ nat_eq_refl nav.0) in
              let never : true ≡ false = sym has ∙ bare in
              absurd cc

-- ---- the sweep, and loads of those without an entry

-- a load of a navigable without an entry alone ended
ended_bare : (y x : Seen) → EndsLoads (IsBare y) y x → x.documents ≡ y.documents → x.history ≡ y.history → NoneStray y → ((req : ReqId) (nav : NavId) → IsLoadOf y req nav → IsBare y nav → ⊥) → NoneStray x
ended_bare y x ends documents history swept none doc state stray =
    swept doc state (record {
      document = stray.document;
      found = ap (λ (l : List Document). let s : Seen = record y { documents = l } in find_doc s) (sym documents) ∙ stray.found;
      its_state = stray.its_state;
      ready = stray.ready;
      undiscarded = stray.undiscarded;
      bare = ap (λ (h : History). has_state state h.rows) (sym history) ∙ stray.bare;
      unloaded = unloaded_by y state never;
    })
  where
    find_doc : Seen → Option Document
    find_doc s = document_of s doc

    by_bare : (req : ReqId) (q : Asked) (own : StateId) → request_in y.requests req ≡ Some q → is_ongoing_load q ≡ true → q.state ≡ Some own → own.0 ≡ state.0 → (nav : NavId) → IsLoadOf y req nav → (b : Bool) → has_row nav y.history.rows ≡ b → ⊥
    by_bare req q own at on is same nav load false bare = none req nav load bare
    by_bare req q own at on is same nav load true has =
        loaded_never x state stray.unloaded req q own (ends.others req nav load (λ bare. (let never : true ≡ false = sym has ∙ bare in cc)) ∙ at) on is same

    never : (req : ReqId) (q : Asked) (own : StateId) → request_in y.requests req ≡ Some q → is_ongoing_load q ≡ true → q.state ≡ Some own → own.0 ≡ state.0 → ⊥
    never req q own at on is same =
        let nav = nav_of_load q.what (and_parts (is_under_way q) (is_load q.what) on).1 in
        by_bare req q own at on is same nav.0 (record { look = look q; at = ap (option_map look) at; ongoing = on; loads_it = nav.1 }) (has_row nav.0 y.history.rows) refl

module _ (run : Option ReqId) (ids : List ReqId) (hand : List Made) (e : InEvent) (was : List RowKind) (tab : IsTab run ids hand (now_of e was)) (awake_ : BareAwake (now_of e was)) (blame : List (StateId × ReqId)) (mid out : List RowKind) (sweeps : HasOnlySwept (now_of e was) blame was mid) (swept : NoneStray (now_of e mid)) (destroys : HasOnlyDestroyed (now_of e mid) mid out) (ends : EndsLoads (IsBare (now_of e mid)) (now_of e mid) (now_of e out)) (documents : (now_of e out).documents ≡ (now_of e mid).documents) (history : (now_of e out).history ≡ (now_of e mid).history) where
  pub stray_sent : (doc : DocId) (state : StateId) → IsStray (now_of e out) doc state → HasSent was out
  stray_sent doc state stray = by_rows sweeps.more refl
    where
      -- nothing was swept
      idle : mid ≡ was → ⊥
      idle same =
          ended_bare (now_of e mid) (now_of e out) ends documents history swept (λ req nav load bare. none req nav (subst (λ (l : List RowKind). IsLoadOf (now_of e l) req nav) same load) (subst (λ (l : List RowKind). IsBare (now_of e l) nav) same bare)) doc state stray
        where
          none : (req : ReqId) (nav : NavId) → IsLoadOf (now_of e was) req nav → IsBare (now_of e was) nav → ⊥
          none req nav load bare =
              let up = awake_ req nav load bare in
              bare_stray run ids hand (now_of e was) tab nav bare up.0 up.1 (subst (λ (l : List RowKind). NoneStray (now_of e l)) same swept)

      by_rows : (more : List RowKind) → sweeps.more ≡ more → HasSent was out
      by_rows [] is =
          absurd (idle (sweeps.is ∙ ap (λ (l : List RowKind). was ++ l) is ∙ append-nil was))
      by_rows (row ∷ rest) is =
          let its : IsSweepOf (now_of e was) blame row = sweeps.each row (subst (λ (l : List RowKind). Has l row) (sym is) (inl refl)) in
          record {
            before = [];
            job = its.job;
            later = rest ++ map row_of_drop destroys.drops;
            is = destroys.is
                ∙ ap (λ (l : List RowKind). l ++ map row_of_drop destroys.drops) (sweeps.is ∙ ap (λ (l : List RowKind). was ++ l) (is ∙ ap (λ (k : RowKind). k ∷ rest) its.is))
                ∙ append_assoc was (rows.Sent its.job ∷ rest) (map row_of_drop destroys.drops);
          }

-- ---- the whole pass

-- where loads gave way, all places stay
pub given_places : (e : InEvent) (run : Option ReqId) (was given : List RowKind) → HasGivenWay (now_of e was) run was given → (now_of e given).places ≡ (now_of e was).places
given_places e None was given same = ap (λ (l : List RowKind). (now_of e l).places) same
given_places e (Some by) was given gives =
    over_each IsDrop (λ (x : Seen). x.places ≡ (now_of e was).places) e (λ mid row drop. subst (GoesThere e mid) (sym drop.is) (dropped_goes e mid drop.it.req drop.it.cause)) one was given (record { more = map row_of_drop gives.drops; is = gives.is; each = each }) refl
  where
    each : (row : RowKind) → Has (map row_of_drop gives.drops) row → IsDrop row
    each row has =
        let b = has_map row_of_drop gives.drops row has in record { it = b.it; is = sym b.is }

    one : (x : Seen) (row : RowKind) → IsDrop row → x.places ≡ (now_of e was).places → (after x (row_of e row)).places ≡ (now_of e was).places
    one x row drop same =
        ap (λ (k : RowKind). (after x (row_of e k)).places) drop.is ∙ same

given_more : (s : Seen) (run : Option ReqId) (was given : List RowKind) → HasGivenWay s run was given → (front : List RowKind) × (given ≡ was ++ front)
given_more s None was given same = ([], same ∙ sym (append-nil was))
given_more s (Some by) was given gives = (map row_of_drop gives.drops, gives.is)

-- what was put out before and after it stays around it
sent_around : (was given cleared out front back : List RowKind) → given ≡ was ++ front → out ≡ cleared ++ back → HasSent given cleared → HasSent was out
sent_around was given cleared out front back first last sent =
    record {
      before = front ++ sent.before;
      job = sent.job;
      later = sent.later ++ back;
      is = last
          ∙ ap (λ (l : List RowKind). l ++ back) (sent.is ∙ ap (λ (l : List RowKind). l ++ its) first)
          ∙ append_assoc (was ++ front) its back
          ∙ ap (λ (l : List RowKind). (was ++ front) ++ l) (append_assoc sent.before (rows.Sent sent.job ∷ sent.later) back)
          ∙ append_assoc was front (sent.before ++ rows.Sent sent.job ∷ (sent.later ++ back))
          ∙ ap (λ (l : List RowKind). was ++ l) (sym (append_assoc front sent.before (rows.Sent sent.job ∷ (sent.later ++ back))));
    }
  where
    its : List RowKind
    its = sent.before ++ rows.Sent sent.job ∷ sent.later

pub put_sent : (e : InEvent) (run : Option ReqId) (cause tells : Why) (was given cleared served out : List RowKind) → LeavesPass (now_of e was) (now_of e given) → HasGivenWay (now_of e was) run was given → SendsForStrays (now_of e given) (now_of e cleared) given cleared → (for_run : Option ReqId) → HasOnlyServed for_run cause cleared served → HasOnlyTold tells served out → BareAwake (now_of e was) → (doc : DocId) (state : StateId) → IsStray (now_of e cleared) doc state → HasSent was out
put_sent e run cause tells was given cleared served out left gives sends for_run serves told awake_ doc state stray =
    sent_around was given cleared out front.0 (serves.more ++ told.more) front.1
    (told.is ∙ ap (λ (l : List RowKind). l ++ told.more) serves.is ∙ append_assoc cleared serves.more told.more)
    (sends awake_given doc state stray)
  where
    front : (l : List RowKind) × (given ≡ was ++ l)
    front = given_more (now_of e was) run was given gives

    awake_given : BareAwake (now_of e given)
    awake_given req nav load bare =
        let up = awake_ req nav (record { look = load.look; at = left.loads req load.look load.at load.ongoing; ongoing = load.ongoing; loads_it = load.loads_it }) (ap (λ (h : History). has_row nav h.rows) (sym left.history) ∙ bare) in
        (up.0, record { place = up.1.place; placed = ap (λ (l : List Place). place_in l nav) (given_places e run was given gives) ∙ up.1.placed; wakes = up.1.wakes })
