-- The steps of the seats keep the rule: split, join, meet, and the table as it is made.
use Rattle.std.proofs.Common.{◌≡◌, ◌≢◌, ◌⊎◌, ℕ, zero, suc, ◌+◌, ◌<◌, List, [], ◌∷◌, ◌++◌, map, set, length, sym, refl, ap, ◌∙◌, subst, inl, inr, ⊎_elim, arith, Option, Some}
use mathlib.Core.Logic.{dite}
use mathlib.Core.List.{IsPrefix, map-append}
use mathlib.Core.Option.{some, none, some-injective, some-ne-none}
use mathlib.Core.Option as maybe
use native.Mathlib.Decide.{ℕ_discrete}
use lib.ListN.{get_elem?}
use lib.Seq.{map-set}
use Rattle.atomic_table.specs.Table.{State, Me, step, keeps, opening, Allows, Splits, Joins}
use Rattle.atomic_table.proofs.Lists.{set_else, set_again, at_longer, at_map}
use Rattle.turn_table.specs.declared.board.Held.{Held}
use Rattle.turn_table.specs.declared.view.Named.{Named}
use Rattle.turn_table.specs.declared.view.Row.{Row}
use Rattle.turn_table.specs.declared.view.View.{View}
use Rattle.turn_table.specs.History.{turns_of, longer}
use Rattle.turn_table.specs.Rule.{AreTickets, AreNames, IsView, IsHome, IsOut, IsKept, tag_of, pass_of, entries, reach, first_view}
use Rattle.turn_table.specs.Steps.{met, after_meeting, left, right, both, spent}
use Rattle.turn_table.proofs.Lists.{one, map_same, at_end, at_joined}
use Rattle.turn_table.proofs.Tickets as tickets
use Rattle.turn_table.proofs.Names as names
use Rattle.turn_table.proofs.Histories.{longer_nothing, longer_of, between, no_turns}
use Rattle.turn_table.proofs.Views.{same_word, entries_live, head, name_of, all_views, first_stays, slot_stays, moves, entry_name}

module _ {V E R : Type 0} (goes : V → E → R → V → Type 0) (for_first : E → Type 0) (first : V) where
  abbrev Ruled : State (Option (Held V E R)) (View V E R) → Type 0
  Ruled = IsKept goes for_first first

  pub meets : (slots id : ℕ) (me : Me (Option (Held V E R)) (View V E R)) → me.0.stage ≡ 1 → Allows Ruled slots id me 0 (λ n. n) (met for_first (step slots 0 0 0 maybe.none) me)
  meets slots id me free s r deep at small = let v : View V E R = me.0 in let w : View V E R = after_meeting me.0 in let k = r.views id me.0 at (let f = free in omega arith) in
      let l = longer_of me.0.seen me.0.met r.log k.seen k.met in (
        w,
        keeps,
        tt,
        subst (λ (ws : List ℕ). Ruled record { words = ws; homes = s.homes; views = set s.views id w }) (sym r.words ∙ sym (same_word s.words 0))
            (moves goes for_first first s r id me.0 w r.ticket s.homes at (let f = free in omega arith) refl refl r.bounded
            (subst (AreTickets r.serving r.ticket) (sym (set_again (map pass_of s.views) id (pass_of me.0) (at_map pass_of s.views id me.0 at))) r.tickets)
            record {
              opening = k.opening;
              seen = l.2;
              met = (r.log, refl);
              served = λ h. absurd (let f = free in omega arith);
              turns = λ p e g. ((k.turns p e g).0, ap (turns_of e.name) (longer_nothing (reach me.0)) ∙ (k.turns p e g).1);
            }
            (slot_stays goes for_first first r.log s.homes s.views id me.0 w at (let f = free in omega arith) (let f = free in omega arith) r.slot)),
        (
          refl,
          l.0,
          l.1,
          record {
            turns = λ p e g. (k.turns p e g).1;
            differ = λ p q a b ha hb e. (r.names.differ id id p q (tag_of me.0) (tag_of me.0) b.name (at_map tag_of s.views id me.0 at) (at_map tag_of s.views id me.0 at) (entry_name me.0 p a ha ∙ ap some e) (entry_name me.0 q b hb)).1;
            firsts = λ i row g. r.firsts i row (ap (λ x. get_elem? x i) (sym l.2.1) ∙ at_longer (reach me.0) l.2.0 i row g);
          },
        ),
      )

  pub starts : (held : Held V E R) → held.value ≡ first → Ruled (opening (0 ∷ 0 ∷ []) (Some held ∷ []) (first_view first))
  starts held is = record {
    log = [];
    serving = 0;
    ticket = 0;
    words = refl;
    bounded = omega arith;
    long = refl;
    tickets = tickets.opens;
    names = names.opens [] 0;
    views = λ j v h _. subst (IsView first []) (only j v h) record {
      opening = refl;
      seen = ([], refl);
      met = ([], refl);
      served = λ h. absurd (omega arith);
      turns = λ p e g. alone p e g;
    };
    first_seat = (first_view first, refl, omega arith, refl);
    firsts = λ i row h. absurd (some-ne-none row (sym h));
    slot = inl record { held = held; home = refl; stands = (first, refl, sym is); none_served = λ j v h. subst (λ (x : View V E R). x.stage < 3) (only j v h) (omega arith) };
  }
    where
      only : (j : ℕ) (v : View V E R) → get_elem? (first_view {V = V} {E = E} {R = R} first ∷ []) j ≡ some v → first_view first ≡ v
      only zero v h = some-injective _ v h
      only (suc j) v h = absurd (some-ne-none v (sym h))

      alone : (p : ℕ) (e : Named E R) → get_elem? (entries (first_view {V = V} {E = E} {R = R} first)) p ≡ some e → (turns_of e.name [] ≡ e.own) × (turns_of e.name (reach (first_view {V = V} {E = E} {R = R} first)) ≡ e.own)
      alone zero e h = let is : record { name = []; own = [] } ≡ e = some-injective _ e h in (ap (λ (x : Named E R). x.own) is, ap (λ (x : Named E R). x.own) is)
      alone (suc p) e h = absurd (some-ne-none e (sym h))

  module _ (id : ℕ) (v : View V E R) (free : v.stage ≡ 1) where
    pub splits : v.met ≡ [] → Splits Ruled id v (left v) (right v)
    splits unmet s r at = record {
      log = r.log;
      serving = r.serving;
      ticket = r.ticket;
      words = r.words;
      bounded = r.bounded;
      long = r.long;
      tickets = subst (AreTickets r.serving r.ticket) (sym passes) (tickets.splits r.serving r.ticket (map pass_of s.views) r.tickets);
      names = subst (AreNames r.log) (sym tags) (names.splits r.log (map tag_of s.views) r.names id (tag_of v) tag_at v.name own_head);
      views = λ j x h unspent. elim (at_end (set s.views id (left v)) (right v) x j h) [
        | inl e ↦ all_views goes for_first first (λ i y. 0 < y.stage → IsView first r.log y) s.views id (left v) (λ _. view_left) (λ i y n g. r.views i y g) j x e unspent
        | inr e ↦ subst (IsView first r.log) e.1 view_right
      ];
      first_seat = (let f = first_stays goes for_first first s.views id v (left v) at r.first_seat refl unspent in (f.0, at_longer _ _ 0 f.0 f.1, f.2, f.3));
      firsts = r.firsts;
      slot = slot_after (slot_stays goes for_first first r.log s.homes s.views id v (left v) at few few r.slot);
    }
      where
        unspent : 0 < v.stage
        unspent = let f = free in omega arith

        few : v.stage < 3
        few = let f = free in omega arith

        view : IsView first r.log v
        view = r.views id v at unspent

        tag_at : get_elem? (map tag_of s.views) id ≡ some (tag_of v)
        tag_at = at_map tag_of s.views id v at

        own_head : get_elem? (tag_of v).names 0 ≡ some v.name
        own_head = head v unspent

        passes : map pass_of (set s.views id (left v) ++ right v ∷ []) ≡ map pass_of s.views ++ (1, 0) ∷ []
        passes = map-append pass_of (set s.views id (left v)) (right v ∷ []) ∙ ap (λ l. l ++ (1, 0) ∷ []) (map_same pass_of s.views id v (left v) at refl)

        tags : map tag_of (set s.views id (left v) ++ right v ∷ []) ≡ set (map tag_of s.views) id (record { names = (tag_of v).names; splits = v.splits + 1 }) ++ record { names = (v.name ++ v.splits ∷ []) ∷ []; splits = 0 } ∷ []
        tags = map-append tag_of (set s.views id (left v)) (right v ∷ []) ∙ ap (λ l. l ++ tag_of (right v) ∷ []) (map-set tag_of s.views id (left v))

        view_left : IsView first r.log (left v)
        view_left = record { opening = view.opening; seen = view.seen; met = view.met; served = view.served; turns = view.turns }

        -- no turn has the new name
        fresh : (i : ℕ) (row : Row E R) → get_elem? r.log i ≡ some row → row.seat ≢ v.name ++ v.splits ∷ []
        fresh i row h e = let k = r.names.known i row h in r.names.unsplit id k.0 k.2 v.splits (tag_of v) k.1 v.name row.seat [] tag_at k.3 own_head (omega arith) k.4 e

        fresh_seen : (i : ℕ) (row : Row E R) → get_elem? v.seen i ≡ some row → row.seat ≢ v.name ++ v.splits ∷ []
        fresh_seen i row h = fresh i row (ap (λ l. get_elem? l i) (sym view.seen.1) ∙ at_longer v.seen view.seen.0 i row h)

        new_turns : (p : ℕ) (e : Named E R) → get_elem? (entries (right v)) p ≡ some e → (turns_of e.name r.log ≡ e.own) × (turns_of e.name (reach (right v)) ≡ e.own)
        new_turns zero e h = subst (λ (x : Named E R). (turns_of x.name r.log ≡ x.own) × (turns_of x.name (reach (right v)) ≡ x.own)) (some-injective _ e h)
            (no_turns (v.name ++ v.splits ∷ []) r.log fresh, ap (turns_of (v.name ++ v.splits ∷ [])) (longer_nothing v.seen) ∙ no_turns (v.name ++ v.splits ∷ []) v.seen fresh_seen)
        new_turns (suc p) e h = absurd (some-ne-none e (sym h))

        view_right : IsView first r.log (right v)
        view_right = record { opening = view.opening; seen = view.seen; met = (r.log, refl); served = λ h. absurd (omega arith); turns = new_turns }

        slot_after : IsHome goes first r.log s.homes (set s.views id (left v)) ⊎ IsOut s.homes (set s.views id (left v))
            → IsHome goes first r.log s.homes (set s.views id (left v) ++ right v ∷ []) ⊎ IsOut s.homes (set s.views id (left v) ++ right v ∷ [])
        slot_after (inl h) = inl record {
          held = h.held;
          home = h.home;
          stands = h.stands;
          none_served = λ j x g. ⊎_elim (λ e. h.none_served j x e) (λ (t : (j ≡ length (set s.views id (left v))) × (right v ≡ x)). subst (λ (y : View V E R). y.stage < 3) t.1 (omega arith)) (at_end (set s.views id (left v)) (right v) x j g);
        }
        slot_after (inr o) = inr record { out = o.out; by = o.by; view = o.view; stands = at_longer _ _ o.by o.view o.stands; served = o.served }

    module _ (unmet : v.met ≡ []) (other : ℕ) (w : View V E R) (free' : w.stage ≡ 1) (unmet' : w.met ≡ []) (not_first : w.name ≢ []) where
      abbrev taken_in : List (View V E R) → List (View V E R)
      taken_in vs = set (set vs id (both v w)) other spent

      pub joins : Joins Ruled id v other w (both v w) spent
      joins s r at apart there' = record {
        log = r.log;
        serving = r.serving;
        ticket = r.ticket;
        words = r.words;
        bounded = r.bounded;
        long = r.long;
        tickets = subst (AreTickets r.serving r.ticket) (sym passes) (tickets.joins r.serving r.ticket (map pass_of s.views) r.tickets other (pass_of w) (at_map pass_of s.views other w there) free');
        names = subst (AreNames r.log) (sym tags) (names.joins r.log (map tag_of s.views) r.names id (tag_of v) tag_at v.name own_head other (tag_of w) (at_map tag_of s.views other w there) apart);
        views = all_views goes for_first first (λ j x. 0 < x.stage → IsView first r.log x) (set s.views id (both v w)) other spent (λ h. absurd (omega arith))
            (λ j x n e. all_views goes for_first first (λ i y. 0 < y.stage → IsView first r.log y) s.views id (both v w) (λ _. view_both) (λ i y m g. r.views i y g) j x e);
        first_seat = dite (ℕ_discrete 0 other)
            (λ e. absurd (not_first (ap (λ (z : View V E R). z.name) (one s.views other w r.first_seat.0 there (ap (get_elem? s.views) (sym e) ∙ r.first_seat.1)) ∙ r.first_seat.3)))
            (λ n. let f = first_stays goes for_first first s.views id v (both v w) at r.first_seat refl unspent in (f.0, set_else _ other 0 spent n ∙ f.1, f.2, f.3));
        firsts = r.firsts;
        slot = slot_stays goes for_first first r.log s.homes (set s.views id (both v w)) other w spent there' few' (omega arith) (slot_stays goes for_first first r.log s.homes s.views id v (both v w) at few few r.slot);
      }
        where
          unspent : 0 < v.stage
          unspent = let f = free in omega arith

          unspent' : 0 < w.stage
          unspent' = let f = free' in omega arith

          few : v.stage < 3
          few = let f = free in omega arith

          few' : w.stage < 3
          few' = let f = free' in omega arith

          there : get_elem? s.views other ≡ some w
          there = sym (set_else s.views id other (both v w) apart) ∙ there'

          view : IsView first r.log v
          view = r.views id v at unspent

          view' : IsView first r.log w
          view' = r.views other w there unspent'

          tag_at : get_elem? (map tag_of s.views) id ≡ some (tag_of v)
          tag_at = at_map tag_of s.views id v at

          own_head : get_elem? (tag_of v).names 0 ≡ some v.name
          own_head = head v unspent

          passes : map pass_of (taken_in s.views) ≡ set (map pass_of s.views) other (0, 0)
          passes = map-set pass_of (set s.views id (both v w)) other spent ∙ ap (λ l. set l other (0, 0)) (map_same pass_of s.views id v (both v w) at refl)

          -- all that the one answers for, then all that the other does
          all_entries : entries (both v w) ≡ entries v ++ entries w
          all_entries = entries_live (both v w) unspent ∙ (λ i. sym (entries_live v unspent) i ++ sym (entries_live w unspent') i)

          tag_both : tag_of (both v w) ≡ record { names = (tag_of v).names ++ (tag_of w).names; splits = v.splits }
          tag_both = λ i. record { names = (ap (map name_of) all_entries ∙ map-append name_of (entries v) (entries w)) i; splits = v.splits }

          tags : map tag_of (taken_in s.views) ≡ set (set (map tag_of s.views) id (record { names = (tag_of v).names ++ (tag_of w).names; splits = v.splits })) other (record { names = []; splits = 0 })
          tags = map-set tag_of (set s.views id (both v w)) other spent ∙ ap (λ l. set l other (record { names = []; splits = 0 })) (map-set tag_of s.views id (both v w) ∙ ap (set (map tag_of s.views) id) tag_both)

          reach_of : (x : View V E R) → x.met ≡ [] → reach x ≡ x.seen
          reach_of x e = ap (longer x.seen) e ∙ longer_nothing x.seen

          l : IsPrefix v.seen (longer v.seen w.seen) × IsPrefix w.seen (longer v.seen w.seen) × IsPrefix (longer v.seen w.seen) r.log
          l = longer_of v.seen w.seen r.log view.seen view'.seen

          turns_both : (p : ℕ) (e : Named E R) → get_elem? (entries v ++ entries w) p ≡ some e → (turns_of e.name r.log ≡ e.own) × (turns_of e.name (longer v.seen w.seen) ≡ e.own)
          turns_both p e h = elim (at_joined (entries v) (entries w) p e h) [
            | inl g ↦ let t = view.turns p e g in (t.0, between e.name v.seen (longer v.seen w.seen) r.log e.own l.0 l.2 (ap (turns_of e.name) (sym (reach_of v unmet)) ∙ t.1) t.0)
            | inr g ↦ let t = view'.turns g.0 e g.2 in (t.0, between e.name w.seen (longer v.seen w.seen) r.log e.own l.1 l.2 (ap (turns_of e.name) (sym (reach_of w unmet')) ∙ t.1) t.0)
          ]

          view_both : IsView first r.log (both v w)
          view_both = record {
            opening = view.opening;
            seen = view.seen;
            met = view'.seen;
            served = λ h. absurd (let f = free in omega arith);
            turns = λ p e h. turns_both p e (ap (λ es. get_elem? es p) (sym all_entries) ∙ h);
          }
