-- The rows of a traversal that ends, and of what was held back for it, reload nothing and give no navigable a load's new document: what is held back is a poke's, or a load's that never begins.
use Rattle.seen_facts.specs.Hang.Members.{Has}
use Rattle.seen_facts.specs.Load.Loading.{IsLoading, is_ongoing, look}
use Rattle.log_model.specs.Equal.{holds}
use Rattle.log_model.specs.LoadsEndInTime.{is_begun_load}
use Rattle.log_model.specs.Places.{aim_of, all_stand, is_load}
use Rattle.log_model.specs.Points.{ends_in}
use Rattle.log_model.specs.Seen.{Asked, Seen, request_in}
use Rattle.log_model.specs.declared.change.Change.{Change}
use Rattle.log_model.specs.declared.made.Made.{Made}
use Rattle.log_model.specs.declared.row_kind.RowKind.{RowKind}
use Rattle.seen_facts.specs.Request.Cores.{Core, core_of}
use Rattle.seen_facts.specs.Request.Knowns.{AllOf, IsParked, req_itself}
use Rattle.seen_laws.specs.InEvent.{InEvent, now_of, row_of, EachGoes}
use Rattle.std.proofs.Common.{Bool, List, None, Option, Some, [], ap, append_assoc, false, inl, inr, length, map, refl, subst, sym, true, ◌&&◌, ◌++◌, ◌∙◌, ◌∷◌, ◌≡◌}
use Rattle.std.proofs.lemmas.Bool.{and_parts}
use Rattle.std.specs.List.{cons_option, filter_map}
use Rattle.std.specs.Prelude.{is_some, option_map, if◌then◌else◌}
use Rattle.tab_ids.specs.declared.NavId.{NavId}
use Rattle.tab_ids.specs.declared.ReqId.{ReqId}
use Rattle.tab_releases.proofs.Endings.{by_end}
use Rattle.tab_releases.proofs.Waits.{IsHeld, is_held}
use Rattle.tab_releases.specs.PassedOn.{HasEnded, IsTab, is_through, is_reloading}
use Rattle.tab_releases.specs.Releasing.{EndsEach, Tables}
use Rattle.tab_settles.proofs.Ended.{ends_some}
use Rattle.tab_settles.proofs.LoadsOff.{BeginsNoLoad, KeepsBegun, begun_then, rows_begun}
use Rattle.tab_settles.specs.Settling.{HasTurned, IsAway, moved_by}
use Rattle.log_model.specs.declared.change.Change.TheVariants as changes
use Rattle.log_model.specs.declared.row_kind.RowKind.TheVariants as rows

-- ---- what is held back

all_has : (F : Option Core → ReqId → Type 0) (asked : List Asked) (xs : List ReqId) (x : ReqId) → AllOf F req_itself asked xs → Has xs x → F (core_of (request_in asked x)) x
all_has F asked [] x all never = absurd never
all_has F asked (y ∷ xs) x all (inl same) = subst (λ (r : ReqId). F (core_of (request_in asked r)) r) same all.0
all_has F asked (y ∷ xs) x all (inr has) = all_has F asked xs x all.1 has

-- a request that is held back is no load that has begun
held_unbegun : (run : Option ReqId) (loads : List ReqId) (hand : List Made) (s : Seen) → IsTab run loads hand s → (req : ReqId) → Has s.parked req → is_begun_load s req ≡ false
held_unbegun run loads hand s tab req has =
    ap (λ (o : Option Asked). holds (λ (q : Asked). is_load q.what && q.is_started) o) held.there ∙ by_both (is_load held.q.what) held.q.is_started refl refl
  where
    held : IsHeld s.requests req
    held = is_held s.requests req (all_has IsParked s.requests s.parked req tab.known.parked has)

    by_both : (b c : Bool) → is_load held.q.what ≡ b → held.q.is_started ≡ c → (b && c) ≡ false
    by_both false c load began = refl
    by_both true false load began = refl
    by_both true true load began =
        let ongoing : is_ongoing (look held.q) ≡ true = rw began (rw held.open_ (rw load refl)) in
        let its : IsLoading s (look held.q) = tab.loading.each req (look held.q) (ap (λ (o : Option Asked). option_map look o) held.there) ongoing in
        absurd (let never : None ≡ Some held.made = sym its.unmade ∙ held.makes in cc)

-- ---- rows that end requests

more_has : (o : Option ReqId) (reqs : List ReqId) (req : ReqId) → Has reqs req → Has (cons_option o reqs) req
more_has None reqs req has = has
more_has (Some r) reqs req has = inr has

-- a request that they apply is among those that they end
applied_has : (e : InEvent) (more : List RowKind) (req : ReqId) (change : Change) → Has more (rows.Applied req change) → Has (filter_map ends_in (map (row_of e) more)) req
applied_has e [] req change never = absurd never
applied_has e (kind ∷ more) req change (inl is) =
    subst (λ (k : RowKind). Has (cons_option (ends_in (row_of e k)) (filter_map ends_in (map (row_of e) more))) req) (sym is) (inl refl)
applied_has e (kind ∷ more) req change (inr has) =
    more_has (ends_in (row_of e kind)) (filter_map ends_in (map (row_of e) more)) req (applied_has e more req change has)

pub ends_begin : (s : Seen) (e : InEvent) (kind : RowKind) (req : ReqId) → ends_in (row_of e kind) ≡ Some req → BeginsNoLoad s kind
ends_begin s e kind req is =
    by_end (λ (k : RowKind) (r : ReqId). BeginsNoLoad s k) (λ r change. tt) (λ r reason. tt) (λ r cause. tt) e kind req is

-- a change that is no reload, of a request that is no load with a new document, moves nobody
pub moved_none : (s : Seen) (req : ReqId) (change : Change) → is_begun_load s req ≡ false → is_reloading (rows.Applied req change) ≡ false → moved_by s req change ≡ None
moved_none s req (changes.Push nav entry state address memo) unbegun none =
    ap (λ (b : Bool). let o : Option NavId = if b then Some nav else None in o) unbegun
moved_none s req (changes.Replace nav over entry state address memo) unbegun none =
    ap (λ (b : Bool). let o : Option NavId = if b then Some nav else None in o) unbegun
moved_none s req (changes.Reload nav) unbegun never = absurd cc
moved_none s req (changes.AddFrame owner nav entry state) unbegun none = refl
moved_none s req (changes.RemoveFrame nav) unbegun none = refl
moved_none s req (changes.Traverse goal) unbegun none = refl
moved_none s req changes.Edit unbegun none = refl

-- ---- the turn

module _ (e : InEvent) (out mid new : List RowKind) (t m : Tables) (loads : List ReqId) (hand : List Made) (tab : IsTab m.running loads hand (now_of e mid)) (ended : HasEnded e out mid t m) (through : is_through (now_of e out) t.running ≡ true) (each : EndsEach e mid new (now_of e mid).parked) (goes : EachGoes e [] new) where
  abbrev s : Seen
  s = now_of e out

  abbrev y : Seen
  y = now_of e mid

  abbrev n : Seen
  n = now_of e new

  abbrev kind : RowKind
  kind = rows.Applied ended.req (changes.Traverse (record { 0 = aim_of s }))

  first : KeepsBegun s y
  first = rows_begun e out mid ended.goes (record { more = kind ∷ []; is = ended.out; each = one_row })
    where
      one_row : (row : RowKind) → Has (kind ∷ []) row → BeginsNoLoad s row
      one_row row (inl is) = subst (λ (k : RowKind). BeginsNoLoad s k) is tt
      one_row row (inr never) = absurd never

  later : KeepsBegun y n
  later =
      rows_begun e mid new goes (record { more = each.more; is = each.out; each = λ row has. (let it = ends_some e each.more (ap (λ (l : List ReqId). length l) each.ends ∙ sym each.long) row has in ends_begin y e row it.0 it.1) })

  off : (req : ReqId) (change : Change) (nav : NavId) → Has (kind ∷ each.more) (rows.Applied req change) → moved_by n req change ≡ Some nav → IsAway n nav
  off req change nav (inl is) its =
      let what : changes.Traverse (record { 0 = aim_of s }) ≡ change = cc in
      let never : None ≡ Some nav = ap (moved_by n req) what ∙ its in absurd cc
  off req change nav (inr has) its =
      let held : Has y.parked req = subst (λ (l : List ReqId). Has l req) each.ends (applied_has e each.more req change has) in
      let unbegun : is_begun_load n req ≡ false = later.begun req ∙ held_unbegun m.running loads hand y tab req held in
      let never : None ≡ Some nav = sym (moved_none n req change unbegun (each.no_reload (rows.Applied req change) has)) ∙ its in absurd cc

  pub ended_turned : HasTurned e out new
  ended_turned =
      record {
        moved = record {
          more = kind ∷ each.more;
          is = each.out ∙ ap (λ (l : List RowKind). l ++ each.more) ended.out ∙ append_assoc out (kind ∷ []) each.more;
          begins = (begun_then s y n first later).begun;
          off = off;
        };
        stood = (and_parts (is_some t.running) (all_stand s (aim_of s)) through).1;
      }
