-- The steps of one turn keep the rule: read the ticket, draw, wait, advance.
use Rattle.std.proofs.Common.{◌≡◌, ◌≢◌, ◌⊎◌, ℕ, zero, suc, ◌+◌, ◌%◌, ◌^◌, ◌<◌, ◌≤◌, List, [], ◌∷◌, ◌++◌, map, set, get_or, length, sym, refl, ap, ◌∙◌, subst, inl, inr, ⊎_elim, arith, Option, Some, None, length-append, mod-eq_of_lt, eqb}
use mathlib.Core.Logic.{dite}
use mathlib.Core.Option.{some, none, some-injective, some-ne-none}
use mathlib.Core.Option as maybe
use native.Mathlib.Decide.{ℕ_discrete}
use lib.ListN.{get_elem?}
use lib.Seq.{map-set}
use prog.Atomic.{either}
use Rattle.std.specs.declared.snapshot.Snapshot.{Snapshot}
use Rattle.atomic_table.specs.Table.{State, Me, step, keeps, takes, gives, stepped, rest, put_back, Allows}
use Rattle.atomic_table.proofs.Lists.{set_here, at_map, exchanged}
use Rattle.turn_table.specs.declared.board.Held.{Held}
use Rattle.turn_table.specs.declared.view.Named.{Named}
use Rattle.turn_table.specs.declared.view.Row.{Row}
use Rattle.turn_table.specs.declared.view.View.{View}
use Rattle.turn_table.specs.History.{turns_of, longer, StandsFor}
use Rattle.turn_table.specs.Rule.{AreTickets, AreNames, IsView, IsHome, IsOut, IsKept, tag_of, pass_of, entries, reach}
use Rattle.turn_table.specs.Steps.{stayed, drew, came, added, ended, IsSound}
use Rattle.turn_table.proofs.Lists.{in_range, one, map_same, at_end}
use Rattle.turn_table.proofs.Tickets as tickets
use Rattle.turn_table.proofs.Names as names
use Rattle.turn_table.proofs.Histories.{prefix_refl, prefix_snoc, longer_nothing, own_turn, other_turn, stands_on}
use Rattle.turn_table.proofs.Views.{live, entries_live, head, entry_name, name_of, St, Rule, serving_is, ticket_is, same, all_views, first_stays, slot_stays, moves}

abbrev pub or_else : {A : Type 0} → A → Option A → A
or_else a (Some x) = x
or_else a None = a

abbrev pub first_value : {H : Type 0} → H → List (ℕ × Option H) → H
first_value h [] = h
first_value h (x ∷ xs) = or_else h x.1

module _ {V E R : Type 0} (goes : V → E → R → V → Type 0) (for_first : E → Type 0) (first : V) (slots id : ℕ) (me : Me (Option (Held V E R)) (View V E R)) where
  abbrev Ruled : State (Option (Held V E R)) (View V E R) → Type 0
  Ruled = IsKept goes for_first first

  pub reads : Allows Ruled slots id me 1 (λ n. n) (stayed (step slots 1 0 0 maybe.none) me)
  reads s r deep at small = (me.0, keeps, tt, same goes for_first first s r 1 id me.0 at, refl)

  pub draws : (old : ℕ) → old + 1 < 18446744073709551616 → me.0.stage ≡ 1 → Allows Ruled slots id me 1 (λ n. either (eqb n old) (old + 1) n) (drew (step slots 1 old (old + 1) maybe.none) me)
  draws old small free s r deep at fits = let n : ℕ = get_or s.words 1 0 in
      exchanged n old (old + 1) (λ x. (w : View V E R) × (a : _) × Rattle.atomic_table.specs.Table.Valid s.homes me.1 a × Ruled (stepped s 1 x id me.1 w a)
      × drew (step slots 1 old (old + 1) maybe.none) me n (w, Rattle.atomic_table.specs.Table.carried_after me.1 a)) hit miss
    where
      n' : get_or s.words 1 0 ≡ r.ticket
      n' = ticket_is goes for_first first s r

      hit : get_or s.words 1 0 ≡ old → (w : View V E R) × (a : _) × Rattle.atomic_table.specs.Table.Valid s.homes me.1 a × Ruled (stepped s 1 (old + 1) id me.1 w a)
          × drew (step slots 1 old (old + 1) maybe.none) me (get_or s.words 1 0) (w, Rattle.atomic_table.specs.Table.carried_after me.1 a)
      hit e = let w : View V E R = record me.0 { stage = 2; ticket = get_or s.words 1 0 } in let is : old ≡ r.ticket = sym e ∙ n' in
          let tags : tag_of w ≡ tag_of me.0 = (λ i. record { names = map name_of (same_entries i); splits = me.0.splits }) in
          let v = r.views id me.0 at (let f = free in omega arith) in (
            w,
            keeps,
            tt,
            subst (λ (ws : List ℕ). Ruled record { words = ws; homes = s.homes; views = set s.views id w }) (words is)
                (moves goes for_first first s r id me.0 w (r.ticket + 1) s.homes at (omega arith) refl tags (omega arith)
                (subst (λ (k : ℕ). AreTickets r.serving (r.ticket + 1) (set (map pass_of s.views) id (2, k))) (sym n') (tickets.draws r.serving r.ticket (map pass_of s.views) r.tickets id (pass_of me.0) (at_map pass_of s.views id me.0 at) free))
                record {
                  opening = v.opening;
                  seen = v.seen;
                  met = v.met;
                  served = λ h. absurd (omega arith);
                  turns = λ p x h. v.turns p x (ap (λ l. get_elem? l p) (sym same_entries) ∙ h);
                }
                (slot_stays goes for_first first r.log s.homes s.views id me.0 w at (omega arith) (omega arith) r.slot)),
            ((λ _. refl), (λ ne. absurd (ne e))),
          )
        where
          same_entries : entries (record me.0 { stage = 2; ticket = get_or s.words 1 0 }) ≡ entries me.0
          same_entries = sym (entries_live me.0 (let f = free in omega arith))

          words : old ≡ r.ticket → r.serving ∷ (r.ticket + 1) ∷ [] ≡ set s.words 1 (old + 1)
          words is = (λ i. r.serving ∷ (sym is i + 1) ∷ []) ∙ ap (λ (ws : List ℕ). set ws 1 (old + 1)) (sym r.words)

      miss : get_or s.words 1 0 ≢ old → (w : View V E R) × (a : _) × Rattle.atomic_table.specs.Table.Valid s.homes me.1 a × Ruled (stepped s 1 (get_or s.words 1 0) id me.1 w a)
          × drew (step slots 1 old (old + 1) maybe.none) me (get_or s.words 1 0) (w, Rattle.atomic_table.specs.Table.carried_after me.1 a)
      miss ne = (me.0, keeps, tt, same goes for_first first s r 1 id me.0 at, ((λ e. absurd (ne e)), (λ _. refl)))

  pub comes : me.0.stage ≡ 2 → me.1 ≡ [] → me.0.met ≡ [] → Allows Ruled slots id me 0 (λ n. n) (came goes (step slots 0 0 0 maybe.none) me)
  comes waits empty unmet s r deep at small = dite (ℕ_discrete (get_or s.words 0 0) me.0.ticket) (λ e. ⊎_elim (λ h. served e h) (λ o. absurd (not_out e o)) r.slot)
      (λ ne. (me.0, keeps, tt, same goes for_first first s r 0 id me.0 at, ((λ e. absurd (ne e)), (λ _. refl))))
    where
      Answer : Type 0
      Answer = (w : View V E R) × (a : _) × Rattle.atomic_table.specs.Table.Valid s.homes me.1 a × Ruled (stepped s 0 (get_or s.words 0 0) id me.1 w a)
          × came goes (step slots 0 0 0 maybe.none) me (get_or s.words 0 0) (w, Rattle.atomic_table.specs.Table.carried_after me.1 a)

      pass_at : get_elem? (map pass_of s.views) id ≡ some (pass_of me.0)
      pass_at = at_map pass_of s.views id me.0 at

      mine : get_or s.words 0 0 ≡ me.0.ticket → me.0.ticket ≡ r.serving
      mine e = sym e ∙ serving_is goes for_first first s r

      alone : get_or s.words 0 0 ≡ me.0.ticket → (j : ℕ) (x : View V E R) → j ≢ id → get_elem? s.views j ≡ some x → x.stage < 3
      alone e j x n h = tickets.alone r.serving r.ticket (map pass_of s.views) r.tickets id (pass_of me.0) pass_at (let f = waits in omega arith) (mine e) j (pass_of x) n (at_map pass_of s.views j x h)

      not_out : get_or s.words 0 0 ≡ me.0.ticket → IsOut s.homes s.views → ⊥
      not_out e o = dite (ℕ_discrete o.by id)
          (λ i. let st : o.view.stage ≡ me.0.stage = ap (λ (z : View V E R). z.stage) (one s.views id o.view me.0 (ap (get_elem? s.views) (sym i) ∙ o.stands) at) in let three : 3 ≤ o.view.stage = o.served in let two : me.0.stage ≡ 2 = waits in omega arith)
          (λ n. let h : o.view.stage < 3 = alone e o.by o.view n o.stands in let three : 3 ≤ o.view.stage = o.served in omega arith)

      served : get_or s.words 0 0 ≡ me.0.ticket → IsHome goes first r.log s.homes s.views
          → (w : View V E R) × (a : _) × Rattle.atomic_table.specs.Table.Valid s.homes me.1 a × Ruled (stepped s 0 (get_or s.words 0 0) id me.1 w a)
          × came goes (step slots 0 0 0 maybe.none) me (get_or s.words 0 0) (w, Rattle.atomic_table.specs.Table.carried_after me.1 a)
      served e h = let w : View V E R = record me.0 { stage = 3; seen = r.log } in let v = r.views id me.0 at (let f = waits in omega arith) in
          let same_entries : entries w ≡ entries me.0 = sym (entries_live me.0 (let f = waits in omega arith)) in
          let all : reach w ≡ r.log = ap (longer r.log) unmet ∙ longer_nothing r.log in (
            w,
            takes 0 (Some h.held),
            ap (λ hs. get_elem? hs 0) h.home,
            subst (λ (x : List ℕ × List (maybe.Option (Option (Held V E R)))). Ruled record { words = x.0; homes = x.1; views = set s.views id w })
                (λ i. ((sym r.words ∙ sym (Rattle.turn_table.proofs.Views.same_word s.words 0)) i, ap (λ hs. set hs 0 maybe.none) (sym h.home) i))
                (moves goes for_first first s r id me.0 w r.ticket (maybe.none ∷ []) at (omega arith) refl (λ i. record { names = map name_of (same_entries i); splits = me.0.splits }) r.bounded
                (subst (λ (k : ℕ). AreTickets r.serving r.ticket (set (map pass_of s.views) id (3, k))) (sym (mine e)) (tickets.comes r.serving r.ticket (map pass_of s.views) r.tickets id (pass_of me.0) pass_at waits (mine e)))
                record {
                  opening = v.opening;
                  seen = prefix_refl r.log;
                  met = v.met;
                  served = λ _. refl;
                  turns = λ p x g. let t = v.turns p x (ap (λ l. get_elem? l p) (sym same_entries) ∙ g) in (t.0, ap (turns_of x.name) all ∙ t.0);
                }
                (inr record { out = refl; by = id; view = w; stands = set_here s.views id w (in_range s.views id me.0 at); served = omega arith })),
            (
              (λ _. (r.log, h.held, (λ i. (w, (0, Some h.held) ∷ empty i)), v.seen, r.long ∙ sym (serving_is goes for_first first s r), subst (λ (o : Option V). StandsFor goes o r.log h.held.value) (sym v.opening) h.stands)),
              (λ ne. absurd (ne e)),
            ),
          )

  module _ (held : Held V E R) (event : Snapshot E) (reply : Snapshot R) (old : V) (carried : me.1 ≡ (0, Some held) ∷ []) (took : held.event ≡ Some event) (gave : held.reply ≡ Some reply) (is_served : me.0.stage ≡ 3)
      (unmet : me.0.met ≡ []) (stands : StandsFor goes me.0.opening me.0.seen old) (goes_on : goes old event.value reply.value held.value) (if_first : for_first event.value → me.0.name ≡ []) where
    abbrev turn : Row E R
    turn = record { seat = me.0.name; event = event.value; reply = reply.value }

    abbrev after : View V E R
    after = added me.0 event.value reply.value

    -- the seat can have given back no other value
    told : (held' : Held V E R) (event' : Snapshot E) (reply' : Snapshot R) → me.1 ≡ (0, Some held') ∷ [] → held'.event ≡ Some event' → held'.reply ≡ Some reply' → after ≡ added me.0 event'.value reply'.value
    told held' event' reply' c t g = let is : held ≡ held' = ap (first_value held) (sym carried ∙ c) in
        let e : event ≡ event' = ap (or_else event) (sym took ∙ (ap (λ (h : Held V E R). h.event) is ∙ t)) in
        let a : reply ≡ reply' = ap (or_else reply) (sym gave ∙ (ap (λ (h : Held V E R). h.reply) is ∙ g)) in
        λ i. added me.0 (e i).value (a i).value

    module _ (s : State (Option (Held V E R)) (View V E R)) (r : Ruled s) (at : get_elem? s.views id ≡ some me.0) where
      abbrev longer_log : List (Row E R)
      longer_log = r.log ++ turn ∷ []

      view : IsView first r.log me.0
      view = r.views id me.0 at (let f = is_served in omega arith)

      all_seen : me.0.seen ≡ r.log
      all_seen = view.served (let f = is_served in omega arith)

      same_entries : entries me.0 ≡ record { name = me.0.name; own = me.0.own } ∷ me.0.kept
      same_entries = entries_live me.0 (let f = is_served in omega arith)

      own_head : get_elem? (tag_of me.0).names 0 ≡ some me.0.name
      own_head = head me.0 (let f = is_served in omega arith)

      pass_at : get_elem? (map pass_of s.views) id ≡ some (pass_of me.0)
      pass_at = at_map pass_of s.views id me.0 at

      mine : me.0.ticket ≡ r.serving
      mine = r.tickets.served id (pass_of me.0) pass_at (let f = is_served in omega arith)

      alone : (j : ℕ) (x : View V E R) → j ≢ id → get_elem? s.views j ≡ some x → x.stage < 3
      alone j x n h = tickets.alone r.serving r.ticket (map pass_of s.views) r.tickets id (pass_of me.0) pass_at (let f = is_served in omega arith) mine j (pass_of x) n (at_map pass_of s.views j x h)

      same_names : tag_of after ≡ tag_of me.0
      same_names = λ i. record { names = map name_of (sym same_entries i); splits = me.0.splits }

      reach_after : reach after ≡ longer_log
      reach_after = ap (longer (me.0.seen ++ turn ∷ [])) unmet ∙ (longer_nothing (me.0.seen ++ turn ∷ []) ∙ ap (λ l. l ++ turn ∷ []) all_seen)

      -- a name at another place is another name
      other_name : (j p : ℕ) (x : View V E R) (e : Named E R) → get_elem? s.views j ≡ some x → get_elem? (entries x) p ≡ some e → (j ≡ id → 0 < p) → turns_of e.name longer_log ≡ turns_of e.name r.log
      other_name j p x e h g apart = other_turn e.name r.log turn (λ n. let d = r.names.differ id j 0 p (tag_of me.0) (tag_of x) me.0.name (at_map tag_of s.views id me.0 at) (at_map tag_of s.views j x h) own_head (entry_name x p e g ∙ ap some (sym n)) in
          let far : 0 < p = apart (sym d.0) in let near : 0 ≡ p = d.1 in omega arith)

      turns_after : (p : ℕ) (e : Named E R) → get_elem? (record { name = me.0.name; own = me.0.own ++ turn ∷ [] } ∷ me.0.kept) p ≡ some e → turns_of e.name longer_log ≡ e.own
      turns_after zero e h = let is : record { name = me.0.name; own = me.0.own ++ turn ∷ [] } ≡ e = some-injective _ e h in
          subst (λ (x : Named E R). turns_of x.name longer_log ≡ x.own) is
          (own_turn me.0.name r.log turn refl ∙ ap (λ l. l ++ turn ∷ []) (view.turns 0 (record { name = me.0.name; own = me.0.own }) (ap (λ l. get_elem? l 0) same_entries)).0)
      turns_after (suc p) e h = let g : get_elem? (entries me.0) (suc p) ≡ some e = ap (λ l. get_elem? l (suc p)) same_entries ∙ h in other_name id (suc p) me.0 e at g (λ _. omega arith) ∙ (view.turns (suc p) e g).0

      view_after : IsView first longer_log after
      view_after = record {
        opening = view.opening;
        seen = ([], Rattle.std.proofs.Common.append-nil _ ∙ ap (λ l. l ++ turn ∷ []) all_seen);
        met = prefix_snoc me.0.met r.log turn view.met;
        served = λ h. absurd (omega arith);
        turns = λ p e h. (turns_after p e h, ap (turns_of e.name) reach_after ∙ turns_after p e h);
      }

      view_other : (j : ℕ) (x : View V E R) → j ≢ id → get_elem? s.views j ≡ some x → 0 < x.stage → IsView first longer_log x
      view_other j x n h unspent = let v = r.views j x h unspent in record {
        opening = v.opening;
        seen = prefix_snoc x.seen r.log turn v.seen;
        met = prefix_snoc x.met r.log turn v.met;
        served = λ three. let few : x.stage < 3 = alone j x n h in absurd (omega arith);
        turns = λ p e g. (other_name j p x e h g (λ i. absurd (n i)) ∙ (v.turns p e g).0, (v.turns p e g).1);
      }

      kept : Ruled record { words = (r.serving + 1) ∷ r.ticket ∷ []; homes = maybe.some (Some held) ∷ []; views = set s.views id after }
      kept = record {
        log = longer_log;
        serving = r.serving + 1;
        ticket = r.ticket;
        words = refl;
        bounded = r.bounded;
        long = length-append r.log (turn ∷ []) ∙ (let h = r.long in omega arith);
        tickets = subst (AreTickets (r.serving + 1) r.ticket) (sym (map-set pass_of s.views id after)) (tickets.ends r.serving r.ticket (map pass_of s.views) r.tickets id (pass_of me.0) pass_at (let f = is_served in omega arith));
        names = subst (AreNames longer_log) (sym (map_same tag_of s.views id me.0 after at same_names)) (names.adds r.log (map tag_of s.views) r.names id (tag_of me.0) (at_map tag_of s.views id me.0 at) turn 0 own_head);
        views = all_views goes for_first first (λ j x. 0 < x.stage → IsView first longer_log x) s.views id after (λ _. view_after) (λ j x n e. view_other j x n e);
        first_seat = first_stays goes for_first first s.views id me.0 after at r.first_seat refl (omega arith);
        firsts = λ i row h. elim (at_end r.log turn row i h) [
          | inl e ↦ r.firsts i row e
          | inr e ↦ subst (λ (x : Row E R). for_first x.event → x.seat ≡ []) e.1 if_first
        ];
        slot = inl record {
          held = held;
          home = refl;
          stands = subst (λ (x : Option V × List (Row E R)). StandsFor goes x.0 (x.1 ++ turn ∷ []) held.value) (λ i. (view.opening i, all_seen i)) (stands_on goes me.0.opening old held.value me.0.seen turn stands goes_on);
          none_served = all_views goes for_first first (λ j x. x.stage < 3) s.views id after (omega arith) (λ j x n e. alone j x n e);
        };
      }

      not_home : IsHome goes first r.log s.homes s.views → ⊥
      not_home h = let few : me.0.stage < 3 = h.none_served id me.0 at in let f = is_served in omega arith

      in_order : (p : ℕ) (e : Named E R) → get_elem? (entries after) p ≡ some e → turns_of e.name after.seen ≡ e.own
      in_order p e h = ap (turns_of e.name) (ap (λ l. l ++ turn ∷ []) all_seen) ∙ turns_after p e h

      sound : IsSound for_first after
      unfolding kept
      sound = record {
        turns = in_order;
        differ = λ p q a b ha hb e. (r.names.differ id id p q (tag_of me.0) (tag_of me.0) b.name (at_map tag_of s.views id me.0 at) (at_map tag_of s.views id me.0 at)
            (ap (λ t. get_elem? t.names p) (sym same_names) ∙ (entry_name after p a ha ∙ ap some e)) (ap (λ t. get_elem? t.names q) (sym same_names) ∙ entry_name after q b hb)).1;
        firsts = λ i row h. kept.firsts i row (ap (λ l. get_elem? (l ++ turn ∷ []) i) (sym all_seen) ∙ h);
      }

    pub ends : Allows Ruled slots id me 0 (λ n. (n + 1) % 2 ^ 64) (ended for_first (step slots 0 1 0 maybe.none) me)
    ends s r deep at small = ⊎_elim (λ h. absurd (not_home s r at h)) (λ o. answer o) r.slot
      where
        answer : IsOut s.homes s.views → (w : View V E R) × (a : _) × Rattle.atomic_table.specs.Table.Valid s.homes me.1 a × Ruled (stepped s 0 ((get_or s.words 0 0 + 1) % 2 ^ 64) id me.1 w a)
            × ended for_first (step slots 0 1 0 maybe.none) me (get_or s.words 0 0) (w, Rattle.atomic_table.specs.Table.carried_after me.1 a)
        answer o = let next : (get_or s.words 0 0 + 1) % 2 ^ 64 ≡ r.serving + 1 = ap (λ (k : ℕ). (k + 1) % 2 ^ 64) (serving_is goes for_first first s r)
            ∙ mod-eq_of_lt (let h : me.0.ticket < r.ticket = (r.tickets.between id (pass_of me.0) (pass_at s r at) (let f = is_served in omega arith)).1 in let g : me.0.ticket ≡ r.serving = mine s r at in let k = r.bounded in omega arith) in (
              after,
              gives,
              tt,
              subst (λ (x : List ℕ × List (maybe.Option (Option (Held V E R)))). Ruled record { words = x.0; homes = x.1; views = set s.views id after })
                  (λ i. (
                    (ap (λ (k : ℕ). k ∷ r.ticket ∷ []) (sym next) ∙ ap (λ ws. set ws 0 ((get_or s.words 0 0 + 1) % 2 ^ 64)) (sym r.words)) i,
                    (ap (λ c. put_back (maybe.none ∷ []) c) (sym carried) ∙ ap (λ hs. put_back hs me.1) (sym o.out)) i,
                  ))
                  (kept s r at),
              (λ held' event' reply' c t g. let is = told held' event' reply' c t g in
                  ((λ i. (is i, ap (λ l. rest l) carried i)), subst (IsSound for_first) is (sound s r at))),
            )

module _ {V E R : Type 0} (goes : V → E → R → V → Type 0) (for_first : E → Type 0) (first : V) where
  -- the same, for a seat that is known as a whole
  pub ends_at : (slots id : ℕ) (me : Me (Option (Held V E R)) (View V E R)) (v : View V E R) (held : Held V E R) (event : Snapshot E) (reply : Snapshot R) (old : V) → me ≡ (v, (0, Some held) ∷ []) → held.event ≡ Some event → held.reply ≡ Some reply
      → v.stage ≡ 3 → v.met ≡ [] → StandsFor goes v.opening v.seen old → goes old event.value reply.value held.value → (for_first event.value → v.name ≡ [])
      → Allows (IsKept goes for_first first) slots id me 0 (λ n. (n + 1) % 2 ^ 64) (ended for_first (step slots 0 1 0 maybe.none) me)
  ends_at slots id me v held event reply old is took gave three unmet stands goes_on if_first =
      subst (λ (m : Me (Option (Held V E R)) (View V E R)). Allows (IsKept goes for_first first) slots id m 0 (λ n. (n + 1) % 2 ^ 64) (ended for_first (step slots 0 1 0 maybe.none) m)) (sym is)
      (ends goes for_first first slots id (v, (0, Some held) ∷ []) held event reply old refl took gave three unmet stands goes_on if_first)

module _ {V E R : Type 0} where
  pub returned : (for_first : E → Type 0) (v m : View V E R) (event : E) (reply : R) (said : Snapshot E) (told : Snapshot R) (n : Me (Option (Held V E R)) (View V E R)) → m ≡ v → said.value ≡ event → told.value ≡ reply
      → (n ≡ (added m said.value told.value, [])) × IsSound for_first (added m said.value told.value) → (n ≡ (added v event reply, [])) × IsSound for_first (added v event reply)
  returned for_first v m event reply said told n is says tells x = let same : added m said.value told.value ≡ added v event reply = (λ i. added (is i) (says i) (tells i)) in (x.0 ∙ (λ i. (same i, [])), subst (IsSound for_first) same x.1)

  -- the value that was taken is the one that the seat held
  pub taken : (carried : List (ℕ × Option (Held V E R))) (held found : Held V E R) (result : Option (Held V E R)) → carried ≡ (0, Some held) ∷ [] → carried ≡ (0, result) ∷ rest carried → result ≡ Some found → held ≡ found
  taken carried held found result a b is = ap (first_value held) (sym a ∙ b) ∙ ap (or_else held) is
