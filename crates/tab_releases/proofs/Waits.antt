-- The report that is held back first, once the traversal has ended: it is to be taken up, refused or dropped, and doesn't wait for another traversal.
use Rattle.tab_facts.specs.TabWhole.Tab.{open_among}
use Rattle.seen_facts.proofs.Coord.Held.{made_of}
use Rattle.seen_facts.specs.Coord.Leading.{held_back}
use Rattle.tab_takes.proofs.PassedOn.{all_once, done_here, start_here}
use Rattle.tab_takes.proofs.Added.{IsTab, moved_by}
use Rattle.tab_takes.specs.Taking.{Ends, InPass, IsByItsOwn, IsForTaking, IsOfFragment, IsOfPoke, IsPassing, IsToTake, LoadsMadeOwn, Tables, judged_in}
use Rattle.row_facts.proofs.FrameRows.LawfulLaws.{ends_first}
use Rattle.row_facts.specs.FrameRows.Lawful.{KeepsHeld, has_traversed, held_at_first}
use Rattle.row_facts.specs.FrameRows.Taking.{IsTakenNow}
use Rattle.seen_facts.specs.Asked.Asking.{IsAskedPlainly, IsTabRequest}
use Rattle.seen_facts.specs.Load.Loading.{IsLoading, is_ongoing, look}
use Rattle.seen_facts.specs.LoadWhereabouts.Whereabouts.{times_on_way}
use Rattle.log_model.specs.declared.request.Mode.{Mode}
use Rattle.tab_ids.specs.declared.StateId.{StateId}
use Rattle.tab_takes.specs.PassedOn.{at_hand}
use Rattle.log_model.specs.AfterRequests.{changes_history}
use Rattle.log_model.specs.Equal.{has_req}
use Rattle.log_model.specs.History.{has_nav}
use Rattle.log_model.specs.Places.{goes, is_load, is_traversal}
use Rattle.log_model.specs.Queue.{is_traverse}
use Rattle.log_model.specs.Seen.{Asked, Seen, request_in, request_of}
use Rattle.log_model.specs.declared.action.Action.{Action}
use Rattle.log_model.specs.declared.change.Change.{Change}
use Rattle.log_model.specs.declared.made.Made.{Made}
use Rattle.log_model.specs.declared.request.Request.{Request}
use Rattle.log_model.specs.declared.row_kind.LogRow.{LogRow}
use Rattle.log_model.specs.declared.row_kind.RowKind.{RowKind}
use Rattle.tab_releases.proofs.Endings.{ends_parked}
use Rattle.tab_releases.specs.Releasing.{IsReleasing}
use Rattle.seen_facts.proofs.Request.Endings.{due_small}
use Rattle.seen_facts.proofs.Request.Times.{itself, times_none}
use Rattle.seen_facts.specs.Request.Cores.{Core, core, core_of}
use Rattle.seen_facts.specs.Request.Knowns.{AllOf, IsMadeOf, IsParked, req_itself}
use Rattle.seen_facts.specs.Request.Whereabouts.{times, times_at, times_due, times_found}
use Rattle.seen_laws.proofs.InEvents.{later_more}
use Rattle.seen_laws.proofs.Sendings.{both}
use Rattle.seen_laws.proofs.Startings.{implied}
use Rattle.seen_laws.proofs.Sums.{over}
use Rattle.seen_laws.specs.InEvent.{InEvent, here_of, later_of, now_of, row_of}
use Rattle.std.proofs.Common.{Bool, List, None, Option, Some, [], ap, arith, cond, false, inl, inr, length, refl, subst, sym, true, ℕ, ◌++◌, ◌+◌, ◌-◌, ◌<◌, ◌==◌, ◌||◌, ◌∙◌, ◌∷◌, ◌≡◌, ◌≤◌, ◌⊎◌}
use Rattle.std.proofs.lemmas.Bool.Decides.{nat_tests}
use Rattle.std.proofs.lemmas.Bool.{or_left, or_right}
use Rattle.std.proofs.lemmas.List.Folds.{list_any-append}
use Rattle.std.proofs.lemmas.Option.{slice_get_within}
use Rattle.std.specs.List.{list_any}
use Rattle.std.specs.Prelude.{nat_lt, option_map, slice_get}
use Rattle.sync_core.specs.declared.judging.Judged.{Judged}
use Rattle.sync_core.specs.declared.judging.Judged.TheVariants as verdicts
use Rattle.tab_ids.specs.declared.NavId.{NavId}
use Rattle.tab_ids.specs.declared.ReqId.{ReqId}
use Rattle.tab_takes.proofs.Verdicts.{its, tells}
use Rattle.log_model.specs.declared.request.Request.TheVariants as requests
use Rattle.log_model.specs.declared.row_kind.RowKind.TheVariants as rows

-- ---- the first that is held back

pub record IsHeldFirst (s : Seen) (made : Made) (rest : List Made) : Type 0 where
  pub others : List ReqId
  pub parked : s.parked ≡ made.req ∷ others
  pub left : rest ≡ held_back s.requests others
  pub q : Asked
  pub there : request_of s made.req ≡ Some q
  pub is : IsMadeOf (Some (core q)) made
  pub makes : q.made ≡ Some made
  pub open_ : q.ending ≡ None
  pub changes : changes_history made.what ≡ true

front_by : (asked : List Asked) (req : ReqId) (others : List ReqId) (made : Made) → made_of (request_in asked req) ≡ Some made → held_back asked (req ∷ others) ≡ made ∷ held_back asked others
front_by asked req others made is = rw is refl

front_is : (asked : List Asked) (req : ReqId) (others : List ReqId) (q : Asked) (made : Made) → request_in asked req ≡ Some q → q.made ≡ Some made → held_back asked (req ∷ others) ≡ made ∷ held_back asked others
front_is asked req others q made at makes =
    front_by asked req others made (ap (λ (o : Option Asked). made_of o) at ∙ makes)

-- what is known of a request that is held back
pub record IsHeld (asked : List Asked) (req : ReqId) : Type 0 where
  pub made : Made
  pub number : made.req ≡ req
  pub q : Asked
  pub there : request_in asked req ≡ Some q
  pub is : IsMadeOf (Some (core q)) made
  pub makes : q.made ≡ Some made
  pub open_ : q.ending ≡ None
  pub changes : changes_history made.what ≡ true

pub is_held : (asked : List Asked) (req : ReqId) → IsParked (core_of (request_in asked req)) req → IsHeld asked req
is_held asked req known = by_found (request_in asked req) refl known
  where
    by_found : (o : Option Asked) → request_in asked req ≡ o → IsParked (core_of o) req → IsHeld asked req
    by_found None at p = absurd (let never : (let o : Option Core = None in o) ≡ Some (record { what = p.is.what; doc = p.is.doc; made = Some p.made; ending = None }) = p.is.is in cc)
    by_found (Some q) at p =
        let is_ : (let o : Option Core = Some (core q) in o) ≡ Some (record { what = p.is.what; doc = p.is.doc; made = Some p.made; ending = None }) = p.is.is in
        let same : core q ≡ record { what = p.is.what; doc = p.is.doc; made = Some p.made; ending = None } = cc in
        record {
          made = p.made;
          number = p.of_req;
          q = q;
          there = at;
          is = p.is;
          makes = ap (λ (c : Core). c.made) same;
          open_ = ap (λ (c : Core). c.ending) same;
          changes = p.changes;
        }

pub held_first : (s : Seen) (made : Made) (rest : List Made) → AllOf IsParked req_itself s.requests s.parked → made ∷ rest ≡ held_back s.requests s.parked → IsHeldFirst s made rest
held_first s made rest known held = by_parked s.parked refl known held
  where
    by_parked : (l : List ReqId) → s.parked ≡ l → AllOf IsParked req_itself s.requests l → made ∷ rest ≡ held_back s.requests l → IsHeldFirst s made rest
    by_parked [] e all eq = absurd cc
    by_parked (req ∷ others) e all eq =
        let it : IsHeld s.requests req = is_held s.requests req all.0 in
        let fronts : made ∷ rest ≡ it.made ∷ held_back s.requests others = eq ∙ front_is s.requests req others it.q it.made it.there it.makes in
        let same : made ≡ it.made = cc in
        let left : rest ≡ held_back s.requests others = cc in
        let number : made.req ≡ req = ap (λ (m : Made). m.req) same ∙ it.number in
        record {
          others = others;
          parked = e ∙ ap (λ (r : ReqId). r ∷ others) (sym number);
          left = left;
          q = it.q;
          there = ap (λ (r : ReqId). request_in s.requests r) number ∙ it.there;
          is = subst (λ (m : Made). IsMadeOf (Some (core it.q)) m) (sym same) it.is;
          makes = it.makes ∙ ap (λ (m : Made). let o : Option Made = Some m in o) (sym same);
          open_ = it.open_;
          changes = ap (λ (m : Made). changes_history m.what) same ∙ it.changes;
        }

-- where the queue has none, none is held back
pub none_held : (s : Seen) → AllOf IsParked req_itself s.requests s.parked → held_back s.requests s.parked ≡ [] → s.parked ≡ []
none_held s known none = by_parked s.parked refl known none
  where
    by_parked : (l : List ReqId) → s.parked ≡ l → AllOf IsParked req_itself s.requests l → held_back s.requests l ≡ [] → s.parked ≡ []
    by_parked [] e all none_ = e
    by_parked (req ∷ others) e all none_ =
        let it : IsHeld s.requests req = is_held s.requests req all.0 in
        let fronts : it.made ∷ held_back s.requests others ≡ [] = sym (front_is s.requests req others it.q it.made it.there it.makes) ∙ none_ in
        absurd cc

-- ---- where the event stands

-- once its rows have applied a traversal they have, whatever comes later
pub traversed_on : (e : InEvent) (out : List RowKind) (kind : RowKind) → has_traversed e out ≡ true → has_traversed e (out ++ kind ∷ []) ≡ true
traversed_on e out kind is =
    ap (λ (l : List LogRow). list_any is_traverse l) (later_more e out (kind ∷ []))
    ∙ list_any-append is_traverse (later_of e out) (row_of e kind ∷ [])
    ∙ or_left (has_traversed e out) (list_any is_traverse (row_of e kind ∷ [])) is

traversed_here : (e : InEvent) (out : List RowKind) → has_traversed e out ≡ true → list_any is_traverse (here_of e out).done ≡ true
traversed_here e out is =
    ap (λ (l : List LogRow). list_any is_traverse l) (done_here e out) ∙ or_right (is_traverse (row_of e e.own)) (has_traversed e out) is

-- a request that is there has a number up to how many there are
number_low : (asked : List Asked) (req : ReqId) (q : Asked) → request_in asked req ≡ Some q → req.0 ≤ length asked
number_low asked req q at = by_number (req.0 == 0) at
  where
    by_number : (b : Bool) → cond b None (slice_get asked (req.0 - 1)) ≡ Some q → req.0 ≤ length asked
    by_number true never = absurd cc
    by_number false there = (let low : req.0 - 1 < length asked = slice_get_within asked (req.0 - 1) q there in omega (arith, low))

-- ---- it is for taking

module _ (p : InPass) (out : List RowKind) (t : Tables) (passing : IsPassing p out t) (apart : (req : ReqId) (q : Asked) → has_req (held_at_first p.event) req ≡ true → request_of (now_of p.event out) req ≡ Some q → is_traversal q.what ≡ false) (made : Made) (rest : List Made) (first : IsHeldFirst (now_of p.event out) made rest) (may : IsReleasing p.event out) where
  abbrev e : InEvent
  e = p.event

  abbrev s : Seen
  s = now_of e out

  abbrev tab : IsTab t.running p.loads p.hand s
  tab = passing.going.tab

  has : has_req s.parked made.req ≡ true
  has = ap (λ (l : List ReqId). has_req l made.req) first.parked ∙ ap (λ (b : Bool). b || has_req first.others made.req) (itself made.req)

  asked : IsAskedPlainly made.req first.q
  asked = tab.asked.each made.req first.q first.there

  rests : is_traversal first.q.what ≡ false
  rests = apart made.req first.q (may.old made.req has).0 first.there

  -- it is there once
  once : over (times_at made.req) s.desks + (times made.req s.joined + (times made.req s.parked + times made.req (at_hand (open_among s.requests p.loads) p.hand))) < 2
  once =
      let all : times_found made.req s.desks s.joined s.parked (at_hand (open_among s.requests p.loads) p.hand) + times_on_way (request_in s.requests made.req) ≡ times_due (request_in s.requests made.req) = all_once t.running p.loads p.hand s tab made.req in
      let few : times_due (request_in s.requests made.req) < 2 = due_small (request_in s.requests made.req) in
      omega (arith, all, few)

  here : times made.req s.parked ≡ 1 + times made.req first.others
  here = ap (λ (l : List ReqId). times made.req l) first.parked ∙ (rw (itself made.req) refl)

  pub others_apart : has_req first.others made.req ≡ false
  others_apart = times_none made.req first.others (omega (arith, once, here))

  pub unjoined : has_req s.joined made.req ≡ false
  unjoined = times_none made.req s.joined (omega (arith, once, here))

  -- a poke of its document, or a load that was sent to a fragment
  pub record IsPokeOfIt : Type 0 where
    pub nav : NavId
    pub action : Action
    pub what : first.q.what ≡ requests.Poke nav action
    pub no_step : goes action ≡ false

  pub record IsLoadOfIt : Type 0 where
    pub nav : NavId
    pub mode : Mode
    pub address : List ℕ
    pub what : first.q.what ≡ requests.Load nav mode address

  pub its_what : IsPokeOfIt ⊎ IsLoadOfIt
  its_what = by_what first.q.what refl asked.what rests
    where
      by_what : (what : Request) → first.q.what ≡ what → IsTabRequest what → is_traversal what ≡ false → IsPokeOfIt ⊎ IsLoadOfIt
      by_what (requests.Go delta) is plain never = absurd cc
      by_what (requests.Poke nav action) is plain none = inl (record { nav = nav; action = action; what = is; no_step = none })
      by_what (requests.Reload nav) is never none = absurd never
      by_what (requests.Load nav mode address) is plain none = inr (record { nav = nav; mode = mode; address = address; what = is })

  -- of a poke its document made it
  pub its_doc : (nav : NavId) (action : Action) → first.q.what ≡ requests.Poke nav action → first.q.doc ≡ Some made.doc
  its_doc nav action what =
      let is_ : (let o : Option Core = Some (core first.q) in o) ≡ Some (record { what = first.is.what; doc = first.is.doc; made = Some made; ending = None }) = first.is.is in
      let same : core first.q ≡ record { what = first.is.what; doc = first.is.doc; made = Some made; ending = None } = cc in
      ap (λ (c : Core). c.doc) same ∙ first.is.poked nav action (sym (ap (λ (c : Core). c.what) same) ∙ what)

  traversed : list_any is_traverse (here_of e out).done ≡ true
  traversed = traversed_here e out may.ended

  before : nat_lt (length e.start.requests) first.q.nr.0 ≡ false
  before =
      let low : made.req.0 ≤ length s.requests = number_low s.requests made.req first.q first.there in
      let many : length s.requests ≡ length e.start.requests = may.many in
      let nr : first.q.nr.0 ≡ made.req.0 = ap (λ (r : ReqId). r.0) asked.nr in
      let within : first.q.nr.0 ≤ length e.start.requests = omega (arith, low, many, nr) in grind (arith, nat_tests, within)

  began_held : has_req (here_of e out).start.parked made.req ≡ true
  began_held = ap (λ (x : Seen). has_req x.parked made.req) (start_here e out) ∙ (may.old made.req has).1

  taken : (change : Change) → IsTakenNow (here_of e out) (row_of e (rows.Applied made.req change)) made
  taken change later =
      or_right _ _ (both began_held traversed)

  keeps : (kind : RowKind) → Ends e kind made.req → KeepsHeld e out kind
  keeps kind ends =
      ends_first e out kind made.req first.others (ends, ends_parked e kind made.req ends) (may.old made.req has).0 first.parked others_apart

  pub for_taking : (own : IsByItsOwn s first.q made) → LoadsMadeOwn s → p.hand ≡ [] → IsForTaking e out p.hand made
  for_taking own theirs empty =
      record {
        q = first.q;
        there = first.there;
        makes = first.makes;
        open_ = first.open_;
        rests = rests;
        unstarted = unstarted;
        kind = kind;
        own = own;
        changes = first.changes;
        here = inr (first.others, first.parked);
        still = λ at. absurd (let never : made ∷ [] ≡ [] = sym at ∙ empty in cc);
        theirs = theirs;
        by_coord = may.by_coord;
        takes = may.takes;
        before = before;
        free = implied (has_req (here_of e out).now.parked made.req) traversed;
        taken = taken;
        held = keeps;
      }
    where
      kind : IsOfPoke first.q ⊎ IsOfFragment s first.q
      kind = by_what its_what
        where
          by_what : IsPokeOfIt ⊎ IsLoadOfIt → IsOfPoke first.q ⊎ IsOfFragment s first.q
          by_what (inl it) = inl (record { nav = it.nav; action = it.action; what = it.what; no_step = it.no_step })
          by_what (inr it) =
              inr (record { nav = it.nav; mode = it.mode; address = it.address; what = it.what; passed = tab.asked.passed made.req first.q first.there })

      -- a load of which something was made hasn't begun
      unstarted : first.q.is_started ≡ false
      unstarted = by_load (is_load first.q.what) refl
        where
          by_started : is_load first.q.what ≡ true → (b : Bool) → first.q.is_started ≡ b → b ≡ false
          by_started load false is = refl
          by_started load true is =
              let ongoing : is_ongoing (look first.q) ≡ true = rw is (rw first.open_ (rw load refl)) in
              let its : IsLoading s (look first.q) = tab.loading.each made.req (look first.q) (ap (λ (o : Option Asked). option_map look o) first.there) ongoing in
              absurd (let never : None ≡ Some made = sym its.unmade ∙ first.makes in cc)

          by_load : (b : Bool) → is_load first.q.what ≡ b → first.q.is_started ≡ false
          by_load true load = by_started load first.q.is_started refl
          by_load false none = asked.unstarted rests none

-- ---- no traversal has moved its navigable

pub never_parks : (p : InPass) (out : List RowKind) (t : Tables) (blame : List (StateId × ReqId)) (made : Made) (at : IsToTake p out t blame made) → t.running ≡ None → (verdict : Judged) → judged_in t made ≡ Some verdict → verdict ≡ verdicts.Park → ⊥
never_parks p out t blame made at idle verdict judged is =
    let told = tells p out t blame made at verdicts.Park (judged ∙ ap (λ (v : Judged). let o : Option Judged = Some v in o) is) in
    let own = its p out t blame made at in
    let none : moved_by (now_of p.event out).requests t.running ≡ [] = ap (λ (run : Option ReqId). moved_by (now_of p.event out).requests run) idle in
    let still : own.node.nav.moved ≡ false = own.tied.moved_is ∙ ap (λ (l : List NavId). has_nav l own.place.nav) none in
    let never : true ≡ false = sym told.1.1 ∙ still in cc
