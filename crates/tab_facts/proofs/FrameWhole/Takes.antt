-- What a document made is taken up: at hand in the event, or the first that is held back.
pub use Rattle.tab_facts.specs.FrameWhole.FirstWaiting.{IsFirstWaiting}
use Rattle.seen_facts.proofs.Coord.Held.{held_alike, made_of, without_same}
use Rattle.seen_facts.proofs.Coord.Unread.{next}
use Rattle.seen_facts.specs.Coord.Leading.{held_back}
use Rattle.tab_facts.proofs.FrameTab.Leaving.{untold}
use Rattle.tab_facts.proofs.FrameTab.Skips.{without_made}
use Rattle.tab_facts.proofs.FrameTab.Takings.{IsFirstOf}
use Rattle.tab_facts.proofs.FrameTab.Traversing.{applied_made}
use Rattle.tab_facts.specs.FrameTab.Desks.{IsMadeThere, waiting}
use Rattle.tab_facts.proofs.FrameWhole.Ending.{IsCarried, carried_off, no_load, reqs_of, reqs_without}
use Rattle.tab_facts.proofs.FrameWhole.Refusing.{none_without}
use Rattle.tab_facts.specs.FrameWhole.Tab.{IsTab}
use Rattle.log_model.proofs.Refl.{nat_eq_refl}
use Rattle.log_model.specs.AfterRequests.{made_of_report, without_req}
use Rattle.log_model.specs.Equal.{has_req}
use Rattle.log_model.specs.Seen.{Asked, Seen, desk_of, request_in, request_of}
use Rattle.log_model.specs.declared.change.Change.{Change}
use Rattle.log_model.specs.declared.made.Made.{Made}
use Rattle.log_model.specs.declared.row_kind.Actor.{Actor}
use Rattle.seen_facts.specs.Each.Items.{Each}
use Rattle.seen_facts.proofs.Request.Endings.{applied_once, due_small}
use Rattle.seen_facts.proofs.Request.KnownEnded.{applied_known}
use Rattle.seen_facts.proofs.Request.Times.{times_none}
use Rattle.seen_facts.specs.Request.Knowns.{AreKnown}
use Rattle.seen_facts.specs.Request.Whereabouts.{AreOnce, times, times_at}
use Rattle.seen_laws.proofs.Sums.{over}
use Rattle.std.proofs.Common.{Bool, List, Option, Some, [], ap, append-nil, append_assoc, arith, cond, false, inl, inr, not, refl, subst, sym, ℕ, ◌++◌, ◌+◌, ◌<◌, ◌==◌, ◌||◌, ◌∙◌, ◌∷◌, ◌≡◌}
use Rattle.std.specs.Prelude.{filter, filter_map, option_and_then}
use Rattle.tab_ids.specs.declared.ProcId.{ProcId}
use Rattle.tab_ids.specs.declared.ReqId.{ReqId}
use Rattle.log_model.specs.declared.row_kind.RowKind.TheVariants as rows
use Rattle.log_model.specs.Once.{change_of_made, change_of_report, due_change, has_to_begin}
use Rattle.log_model.specs.Seen.{Document, document_of}
use Rattle.tab_facts.proofs.FrameTab.Changing.{IsMadeHere}
use Rattle.log_model.specs.AfterRequests.{changes_history, is_held_up}
use Rattle.log_model.specs.Equal.{holds}
use Rattle.log_model.specs.History.{has_row}
use Rattle.log_model.specs.Places.{is_awake, is_present}
use Rattle.log_model.specs.Queue.{is_taken_up_at_once}
use Rattle.log_model.specs.Seen.{Place, awake, place_of}
use Rattle.std.proofs.Common.{true, ◌&&◌}
use Rattle.std.proofs.lemmas.Bool.{eqb-true}

-- ---- lists

pub each_part : {A : Type 0} (F : A → Type 0) (xs ys : List A) → Each F (xs ++ ys) → Each F xs × Each F ys
each_part F [] ys all = (tt, all)
each_part F (x ∷ xs) ys all =
    (let rest = each_part F xs ys all.1 in let front : Each F (x ∷ xs) = (all.0, rest.0) in (front, rest.1))

pub each_both : {A : Type 0} (F : A → Type 0) (xs ys : List A) → Each F xs → Each F ys → Each F (xs ++ ys)
each_both F [] ys one two = two
each_both F (x ∷ xs) ys one two = (one.0, each_both F xs ys one.1 two)

times_whole : (req : ReqId) (reqs : List ReqId) → times req (req ∷ reqs) ≡ 1 + times req reqs
times_whole req reqs = rw (nat_eq_refl req.0) refl

-- ---- where what was made waits

module _ (home : ProcId) (run : Option ReqId) (hand : List Made) (s : Seen) (event : ℕ) (actor : Actor) (tab : IsTab home run hand s) (req : ReqId) (q : Asked) (made : Made) (change : Change) (there : request_of s req ≡ Some q) (makes : q.made ≡ Some made) (first : IsFirstWaiting hand s req made) where
  abbrev pub taken : Seen
  taken = next s event actor (rows.Applied req change)

  abbrev rest_hand : List Made
  rest_hand = without_made req hand

  made_is : made_of (request_in s.requests req) ≡ Some made
  made_is = ap (λ (o : Option Asked). option_and_then (λ (x : Asked). x.made) o) there ∙ makes

  held_alike_ : (l : List ReqId) → held_back taken.requests l ≡ held_back s.requests l
  held_alike_ l = held_alike s.requests taken.requests l (applied_made s event actor req change)

  low : over (times_at req) s.desks + (times req s.joined + (times req s.parked + times req (reqs_of hand))) < 2
  low = subst (λ (n : ℕ). n < 2) (sym (tab.once req (no_load home run hand s req tab.framed))) (due_small (request_in s.requests req))

  pub carried : IsCarried hand s req
  carried = by_case first
    where
      by_case : IsFirstWaiting hand s req made → IsCarried hand s req
      by_case (inl at) =
          inr (inr (ap (λ (l : List Made). has_req (reqs_of l) req) at.0 ∙ ap (λ (r : ReqId). r.0 == req.0 || false) at.1 ∙ ap (λ (b : Bool). b || false) (nat_eq_refl req.0)))
      by_case (inr at) = inr (inl (ap (λ (l : List ReqId). has_req l req) at.1 ∙ ap (λ (b : Bool). b || has_req at.0 req) (nat_eq_refl req.0)))

  -- ---- at hand

  module _ (its : hand ≡ made ∷ []) (number : made.req ≡ req) (apart : filter (λ (m : Made). m.doc.0 == made.doc.0) (held_back s.requests s.parked) ≡ []) where
    hand_times : times req (reqs_of hand) ≡ 1
    hand_times =
        ap (λ (l : List Made). times req (reqs_of l)) its ∙ ap (λ (r : ReqId). times req (r ∷ [])) number ∙ times_whole req []

    unparked : has_req s.parked req ≡ false
    unparked = times_none req s.parked (omega (arith, low, hand_times))

    none_left : rest_hand ≡ []
    none_left =
        ap (λ (l : List Made). without_made req l) its
        ∙ ap (λ (r : ReqId). let l : List Made = cond (not (r.0 == req.0)) (made ∷ []) [] in l) number
        ∙ ap (λ (b : Bool). let l : List Made = cond (not b) (made ∷ []) [] in l) (nat_eq_refl req.0)

    waits_then : waiting taken rest_hand ≡ held_back s.requests s.parked
    waits_then =
        ap (λ (l : List Made). held_back taken.requests (without_req req s.parked) ++ l) none_left
        ∙ append-nil (held_back taken.requests (without_req req s.parked))
        ∙ ap (λ (l : List ReqId). held_back taken.requests l) (without_same s.parked req unparked)
        ∙ held_alike_ s.parked

    waits_now : waiting s hand ≡ held_back s.requests s.parked ++ made ∷ []
    waits_now = ap (λ (l : List Made). held_back s.requests s.parked ++ l) its

    hand_list : IsFirstOf (untold (waiting s hand) (desk_of s home)) made (untold (waiting taken rest_hand) (desk_of s home))
    hand_list =
        record {
          before = held_back s.requests s.parked;
          later = filter_map made_of_report (desk_of s home).reports;
          whole =
              ap (λ (l : List Made). untold l (desk_of s home)) waits_now
              ∙ append_assoc (held_back s.requests s.parked) (made ∷ []) (filter_map made_of_report (desk_of s home).reports);
          left = ap (λ (l : List Made). untold l (desk_of s home)) waits_then;
          none = apart;
        }

    hand_waits : Each (IsMadeThere s.documents) (waiting s hand) → Each (IsMadeThere s.documents) (waiting taken rest_hand)
    hand_waits all =
        subst (λ (l : List Made). Each (IsMadeThere s.documents) l) (sym waits_then)
        (each_part (IsMadeThere s.documents) (held_back s.requests s.parked) (made ∷ []) (subst (λ (l : List Made). Each (IsMadeThere s.documents) l) waits_now all)).0

    hand_made : Each (IsMadeThere s.documents) (waiting s hand) → IsMadeThere s.documents made
    hand_made all =
        (each_part (IsMadeThere s.documents) (held_back s.requests s.parked) (made ∷ []) (subst (λ (l : List Made). Each (IsMadeThere s.documents) l) waits_now all)).1.0

  -- ---- held back

  module _ (rest : List ReqId) (its : s.parked ≡ req ∷ rest) where
    parked_times : times req s.parked ≡ 1 + times req rest
    parked_times = ap (λ (l : List ReqId). times req l) its ∙ times_whole req rest

    none_rest : has_req rest req ≡ false
    none_rest = times_none req rest (omega (arith, low, parked_times))

    none_hand : has_req (reqs_of hand) req ≡ false
    none_hand = times_none req (reqs_of hand) (omega (arith, low, parked_times))

    parked_then : without_req req s.parked ≡ rest
    parked_then =
        ap (λ (l : List ReqId). without_req req l) its
        ∙ ap (λ (b : Bool). let l : List ReqId = cond (not b) (req ∷ without_req req rest) (without_req req rest) in l) (nat_eq_refl req.0)
        ∙ without_same rest req none_rest

    front_is : held_back s.requests (req ∷ rest) ≡ made ∷ held_back s.requests rest
    front_is = by_made made_is
      where
        by_made : made_of (request_in s.requests req) ≡ Some made → held_back s.requests (req ∷ rest) ≡ made ∷ held_back s.requests rest
        by_made e = rw e refl

    waits_after : waiting taken rest_hand ≡ held_back s.requests rest ++ hand
    waits_after =
        ap (λ (l : List Made). held_back taken.requests (without_req req s.parked) ++ l) (none_without req hand none_hand)
        ∙ ap (λ (l : List ReqId). held_back taken.requests l ++ hand) parked_then
        ∙ ap (λ (l : List Made). l ++ hand) (held_alike_ rest)

    waits_before : waiting s hand ≡ made ∷ (held_back s.requests rest ++ hand)
    waits_before = ap (λ (l : List ReqId). held_back s.requests l ++ hand) its ∙ ap (λ (l : List Made). l ++ hand) front_is

    parked_list : IsFirstOf (untold (waiting s hand) (desk_of s home)) made (untold (waiting taken rest_hand) (desk_of s home))
    parked_list =
        record {
          before = [];
          later = untold (held_back s.requests rest ++ hand) (desk_of s home);
          whole = ap (λ (l : List Made). untold l (desk_of s home)) waits_before;
          left = ap (λ (l : List Made). untold l (desk_of s home)) waits_after;
          none = refl;
        }

    parked_waits : Each (IsMadeThere s.documents) (waiting s hand) → Each (IsMadeThere s.documents) (waiting taken rest_hand)
    parked_waits all =
        subst (λ (l : List Made). Each (IsMadeThere s.documents) l) (sym waits_after) (subst (λ (l : List Made). Each (IsMadeThere s.documents) l) waits_before all).1

    parked_made : Each (IsMadeThere s.documents) (waiting s hand) → IsMadeThere s.documents made
    parked_made all = (subst (λ (l : List Made). Each (IsMadeThere s.documents) l) waits_before all).0

  -- ---- either way

  pub take_list : IsFirstOf (untold (waiting s hand) (desk_of s home)) made (untold (waiting taken rest_hand) (desk_of s home))
  take_list = by_case first
    where
      by_case : IsFirstWaiting hand s req made → IsFirstOf (untold (waiting s hand) (desk_of s home)) made (untold (waiting taken rest_hand) (desk_of s home))
      by_case (inl at) = hand_list at.0 at.1 at.2
      by_case (inr at) = parked_list at.0 at.1

  pub take_waits : Each (IsMadeThere s.documents) (waiting taken rest_hand)
  take_waits = by_case first
    where
      by_case : IsFirstWaiting hand s req made → Each (IsMadeThere s.documents) (waiting taken rest_hand)
      by_case (inl at) = hand_waits at.0 at.1 at.2 tab.framed.waits
      by_case (inr at) = parked_waits at.0 at.1 tab.framed.waits

  pub take_made : IsMadeThere s.documents made
  take_made = by_case first
    where
      by_case : IsFirstWaiting hand s req made → IsMadeThere s.documents made
      by_case (inl at) = hand_made at.0 at.1 at.2 tab.framed.waits
      by_case (inr at) = parked_made at.0 at.1 tab.framed.waits

  pub take_once : AreOnce taken (reqs_of rest_hand)
  take_once =
      subst (λ (l : List ReqId). AreOnce taken l) (sym (reqs_without req hand))
      (applied_once s (reqs_of hand) event req actor change (λ loads. carried_off home run hand s req tab carried) tab.once)

  pub take_known : AreKnown taken
  take_known = applied_known s event req (carried_off home run hand s req tab carried) tab.known actor change

-- ---- what is due

-- where no report is held back, what is at hand alone waits first
pub alone_first : (hand : List Made) (s : Seen) (req : ReqId) (made : Made) → hand ≡ made ∷ [] → made.req ≡ req → s.parked ≡ [] → IsFirstWaiting hand s req made
alone_first hand s req made its number none =
    inl (its, number, ap (λ (l : List ReqId). filter (λ (m : Made). m.doc.0 == made.doc.0) (held_back s.requests l)) none)

-- the change that a request asks for of which something was made, and which hasn't to begin
pub due_is : (s : Seen) (q : Asked) (made : Made) (d : Document) → q.is_started ≡ false → has_to_begin q.what ≡ false → q.made ≡ Some made → document_of s made.doc ≡ Some d → due_change s q ≡ change_of_made s d made.what
due_is s q made d unstarted rests makes found =
    by_tests
    ∙ ap (λ (o : Option Made). option_and_then (λ (m : Made). option_and_then (λ (x : Document). change_of_made s x m.what) (document_of s m.doc)) o) makes
    ∙ ap (λ (o : Option Document). option_and_then (λ (x : Document). change_of_made s x made.what) o) found
  where
    by_tests : due_change s q ≡ change_of_report s q
    by_tests = rw unstarted (rw rests refl)

-- what is to be taken up at once is present
pub at_once_present : (s : Seen) (made : Made) → is_taken_up_at_once s made ≡ true → is_present s made ≡ true
at_once_present s made at_once =
    by_parts (changes_history made.what) (is_present s made) (holds (λ (d : Document). has_row d.nav s.history.rows) (document_of s made.doc)) (not (is_held_up s made)) at_once
  where
    by_parts : (a b c e : Bool) → (a && (b && c) && e) ≡ true → b ≡ true
    by_parts true true c e h = refl
    by_parts true false c e h = absurd cc
    by_parts false b c e h = absurd cc

-- and was made where it is, if its document's navigable is awake on that one
pub made_here : (s : Seen) (made : Made) (d : Document) (place : Place) → is_present s made ≡ true → document_of s made.doc ≡ Some d → place_of s d.nav ≡ Some place → place.status ≡ awake made.doc → IsMadeHere s made d
made_here s made d place present found placed wakes =
    record { found = found; place = place; placed = placed; wakes = wakes; under = under }
  where
    both : (is_awake place && place.epoch.0 == made.epoch.0) ≡ true
    both =
        sym (ap (λ (o : Option Place). holds (λ (p : Place). is_awake p && p.epoch.0 == made.epoch.0) o) placed)
        ∙ sym (ap (λ (o : Option Document). holds (λ (x : Document). holds (λ (p : Place). is_awake p && p.epoch.0 == made.epoch.0) (place_of s x.nav)) o) found)
        ∙ present

    second : (a b : Bool) → (a && b) ≡ true → b ≡ true
    second true b e = e
    second false b e = absurd cc

    under : (made.epoch.0 == place.epoch.0) ≡ true
    under = (let same : place.epoch.0 ≡ made.epoch.0 = eqb-true place.epoch.0 made.epoch.0 (second (is_awake place) (place.epoch.0 == made.epoch.0) both) in ap (λ (n : ℕ). made.epoch.0 == n) same ∙ nat_eq_refl made.epoch.0)
