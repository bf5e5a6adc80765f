-- What is known of each request by where it is, as a document makes something of the fragment order of a load, and as the report of that is delivered.
use Rattle.std.proofs.Common.{◌≡◌, ℕ, Bool, true, false, ◌||◌, ◌==◌, List, [], ◌∷◌, Option, Some, None, refl, sym, ap, ◌∙◌, subst, arith}
use Rattle.std.specs.Prelude.{filter_map, not, option_map}
use Rattle.std.proofs.lemmas.Bool.Decides.{nat_tests}
use Rattle.tab_ids.specs.declared.NavId.{NavId}
use Rattle.tab_ids.specs.declared.ProcId.{ProcId}
use Rattle.tab_ids.specs.declared.ReqId.{ReqId}
use Rattle.log_model.specs.declared.job.Job.{Job}
use Rattle.log_model.specs.declared.made.Made.{Made}
use Rattle.log_model.specs.declared.request.Mode.{Mode}
use Rattle.log_model.specs.declared.request.Poke.{Poke}
use Rattle.log_model.specs.declared.request.Request.TheVariants as requests
use Rattle.log_model.specs.declared.row_kind.Actor.TheVariants as actors
use Rattle.log_model.specs.Equal.{has_req}
use Rattle.log_model.specs.Once.{has_to_begin}
use Rattle.log_model.specs.AfterRequests.{on_request, made_of_report, is_held_back}
use Rattle.log_model.specs.Seen.{Seen, Document, Desk, Asked, desk_of, desk_in, request_in, request_of}
use Rattle.log_model.specs.Views.{View, made_for, new_entry, is_fragment_replace}
use Rattle.seen_facts.proofs.Coord.Held.{on_else}
use Rattle.seen_facts.specs.Request.Cores.{Core, core_of}
use Rattle.seen_facts.specs.Request.Knowns.{IsPoke, IsMadeOf, IsJoined, IsParked, AllOf, req_of_poke, req_of_made, req_itself, AreKnownAt, AreKnown, is_go}
use Rattle.seen_facts.proofs.Request.Alls.{all_more, each_desk}
use Rattle.seen_facts.proofs.Request.KnownMoved.{at_hand_known, held_known}
use Rattle.seen_facts.proofs.Request.LookUps.{on_itself}
use Rattle.seen_facts.proofs.Request.Placings.{IsNoGo}
use Rattle.seen_facts.specs.Fragment.Fragments.{fragment_of, IsJustFragmented, IsFirstMadeOf}
use Rattle.seen_facts.proofs.Fragment.Delivered.{after_delivery}
use Rattle.seen_facts.proofs.Fragment.Joined.{desk_joined, told_joined}
use Rattle.seen_facts.proofs.Fragment.Makes.{after_fragment, desks_are, ends}

some_same : {A : Type 0} {a b : A} → (let o : Option A = Some a in o) ≡ Some b → a ≡ b
some_same e = cc

-- a new entry is no traversal
pub no_go : (view : View) (mode : Mode) (address : List ℕ) → is_go (fragment_of view mode address) ≡ false
no_go view mode address = by_test (not (is_fragment_replace view mode address))
  where
    by_test : (b : Bool) → is_go (new_entry view b None address) ≡ false
    by_test true = refl
    by_test false = refl

pub is_no_go : (view : View) (mode : Mode) (address : List ℕ) → IsNoGo (fragment_of view mode address)
is_no_go view mode address = by_test (not (is_fragment_replace view mode address))
  where
    by_test : (b : Bool) → IsNoGo (new_entry view b None address)
    by_test true = tt
    by_test false = tt

-- one request changes, of which the fact can't be: it is none of these
all_unlike : {A : Type 0} (F : Option Core → A → Type 0) (req : A → ReqId) (asked next : List Asked) (r : ReqId) (c : Core) (xs : List A) → ((other : ReqId) → (other.0 == r.0) ≡ false → core_of (request_in next other) ≡ core_of (request_in asked other)) → core_of (request_in asked r) ≡ Some c → ((x : A) → F (Some c) x → ⊥) → AllOf F req asked xs → AllOf F req next xs
all_unlike F req asked next r c [] others is never all = all
all_unlike F req asked next r c (x ∷ xs) others is never (one, all) =
    (by_number ((req x).0 == r.0) refl, all_unlike F req asked next r c xs others is never all)
  where
    by_number : (b : Bool) → ((req x).0 == r.0) ≡ b → F (core_of (request_in next (req x))) x
    by_number true e =
        let same : req x ≡ r = (let n : (req x).0 ≡ r.0 = grind (arith, nat_tests, e) in ap (λ (i : ℕ). let y : ReqId = record { 0 = i } in y) n) in
        absurd (never x (subst (λ (o : Option Core). F o x) (ap (λ (y : ReqId). core_of (request_in asked y)) same ∙ is) one))
    by_number false e = subst (λ (o : Option Core). F o x) (sym (others (req x) e)) one

-- ---- it is made

-- the request is an open load, of which nothing was made
pub record IsUnmadeLoad (s : Seen) (req : ReqId) (q : Asked) (nav : NavId) (mode : Mode) (address : List ℕ) : Type 0 where
  pub asked : request_of s req ≡ Some q
  pub what : q.what ≡ requests.Load nav mode address
  pub unmade : q.made ≡ None
  pub unended : q.ending ≡ None

-- so it is no poke, told of by no report, not in the queue and not held back
module _ (s : Seen) (req : ReqId) (q : Asked) (nav : NavId) (to : Mode) (at : List ℕ) (load : IsUnmadeLoad s req q nav to at) where
  abbrev unmade_core : Core
  unmade_core = record { what = requests.Load nav to at; doc = q.doc; made = None; ending = None }

  was : core_of (request_in s.requests req) ≡ Some unmade_core
  was = ap core_of load.asked ∙ rw (load.what, load.unmade, load.unended) refl

  no_poke : (poke : Poke) → IsPoke (Some unmade_core) poke → ⊥
  no_poke poke p =
      let never : requests.Load nav to at ≡ requests.Poke p.nav poke.action = ap (λ (c : Core). c.what) (some_same p.is) in absurd cc

  not_made : (other : Made) → IsMadeOf (Some unmade_core) other → ⊥
  not_made other m =
      let never : None ≡ Some other = ap (λ (c : Core). c.made) (some_same m.is) in absurd cc

  not_joined : (r : ReqId) → IsJoined (Some unmade_core) r → ⊥
  not_joined r j =
      let never : false ≡ true = ap (λ (c : Core). has_to_begin c.what) (some_same j.is) ∙ j.begins in absurd cc

  not_parked : (r : ReqId) → IsParked (Some unmade_core) r → ⊥
  not_parked r p = not_made p.made p.is

  pub unmade_unheld : AreKnown s → has_req s.parked req ≡ false
  unmade_unheld known = by_list s.parked known.parked
    where
      by_list : (parked : List ReqId) → AllOf IsParked req_itself s.requests parked → has_req parked req ≡ false
      by_list [] all = refl
      by_list (r ∷ parked) (one, all) = by_number (r.0 == req.0) refl (by_list parked all)
        where
          by_number : (b : Bool) → (r.0 == req.0) ≡ b → has_req parked req ≡ false → (b || has_req parked req) ≡ false
          by_number true e rest =
              let same : r ≡ req = (let n : r.0 ≡ req.0 = grind (arith, nat_tests, e) in ap (λ (i : ℕ). let y : ReqId = record { 0 = i } in y) n) in
              absurd (not_parked r (subst (λ (o : Option Core). IsParked o r) (ap (λ (y : ReqId). core_of (request_in s.requests y)) same ∙ was) one))
          by_number false e rest = rest

module _ (s : Seen) (event : ℕ) (proc : ProcId) (job : Job) (req : ReqId) (mode : Mode) (address : List ℕ) (d : Document) (view : View) (is : IsJustFragmented s event proc job req mode address d view) (q : Asked) (nav : NavId) (to : Mode) (at : List ℕ) (load : IsUnmadeLoad s req q nav to at) (known : AreKnown s) where
  abbrev made : Made
  made = made_for view req (fragment_of view mode address)

  abbrev with_made : Asked → Asked
  with_made x = record x { made = Some made }

  abbrev then_asked : List Asked
  then_asked = on_request req with_made s.requests

  others : (r : ReqId) → (r.0 == req.0) ≡ false → core_of (request_in then_asked r) ≡ core_of (request_in s.requests r)
  others r apart = ap core_of (on_else s.requests req with_made r apart)

  -- what is known of it then
  its : IsMadeOf (core_of (request_in then_asked req)) made
  its =
      record {
        what = requests.Load nav to at;
        doc = q.doc;
        is = ap core_of (on_itself s.requests req with_made ∙ ap (λ (o : Option Asked). option_map with_made o) load.asked) ∙ rw (load.what, load.unended) refl;
        begins = sym (no_go view mode address);
        no_user = λ delta is_go_. (let never : requests.Load nav to at ≡ requests.Go delta = is_go_ in absurd cc);
        poked = λ other action is_poke. (let never : requests.Load nav to at ≡ requests.Poke other action = is_poke in absurd cc);
      }

  -- the others are known as before
  rest : {A : Type 0} (F : Option Core → A → Type 0) (of : A → ReqId) (xs : List A) → ((x : A) → F (Some (unmade_core s req q nav to at load)) x → ⊥) → AllOf F of s.requests xs → AllOf F of then_asked xs
  rest F of xs never all =
      all_unlike F of s.requests then_asked req (unmade_core s req q nav to at load) xs others (was s req q nav to at load) never all

  at_desk : (p : ProcId) → AreKnownAt then_asked (desk_of s p)
  at_desk p =
      record {
        pokes = rest IsPoke req_of_poke (desk_of s p).input (no_poke s req q nav to at load) (known.desks p).pokes;
        mades = rest IsMadeOf req_of_made (filter_map made_of_report (desk_of s p).reports) (not_made s req q nav to at load) (known.desks p).mades;
      }

  own : AreKnownAt then_asked (desk_joined made (desk_of s proc))
  own =
      record {
        pokes = (at_desk proc).pokes;
        mades = subst (λ (l : List Made). AllOf IsMadeOf req_of_made then_asked l) (sym (told_joined made (desk_of s proc).reports (ends s event proc job req mode address d view is))) (all_more IsMadeOf req_of_made then_asked (filter_map made_of_report (desk_of s proc).reports) made (at_desk proc).mades its);
      }

  pub fragment_known : AreKnown (after_fragment s event proc job req mode address d view is)
  fragment_known =
      record {
        desks = subst (λ (l : List Desk). (p : ProcId) → AreKnownAt then_asked (desk_in l p)) (sym (desks_are s event proc job req mode address d view is)) (each_desk (AreKnownAt then_asked) (desk_joined made) s.desks proc (λ desk. refl) own (λ p apart. at_desk p));
        joined = rest IsJoined req_itself s.joined (not_joined s req q nav to at load) known.joined;
        parked = rest IsParked req_itself s.parked (not_parked s req q nav to at load) known.parked;
      }

-- ---- its report is delivered

module _ (s : Seen) (event : ℕ) (proc : ProcId) (made : Made) (is : IsFirstMadeOf (desk_of s proc) made) (known : AreKnown s) where
  -- to hand, or to what is held back: request_facts has both, whatever the report
  pub at_hand_then : IsNoGo made.what → is_held_back s made ≡ false → AreKnown (after_delivery s event proc made is)
  at_hand_then no_go_ not_held = at_hand_known s event actors.Coord proc is.report made is.first is.tells known no_go_ not_held

  pub parked_then : IsNoGo made.what → is_held_back s made ≡ true → AreKnown (after_delivery s event proc made is)
  parked_then no_go_ held = held_known s event actors.Coord proc is.report made is.first is.tells known no_go_ held
