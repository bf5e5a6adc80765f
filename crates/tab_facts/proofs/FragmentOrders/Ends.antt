-- A request that waits for no fragment order ends, and all that is true of the fragment orders stays.
use Rattle.std.proofs.Common.{◌≡◌, Bool, true, false, ◌&&◌, List, Option, Some, None, refl, sym, ap, ◌∙◌}
use Rattle.std.specs.Prelude.{is_none, is_some, option_map}
use Rattle.tab_ids.specs.declared.DocId.{DocId}
use Rattle.tab_ids.specs.declared.ReqId.{ReqId}
use Rattle.log_model.specs.declared.made.Made.{Made}
use Rattle.log_model.specs.declared.outcome.Ending.{Ending}
use Rattle.log_model.specs.Equal.{holds}
use Rattle.log_model.specs.Places.{is_load}
use Rattle.log_model.specs.Seen.{Seen, Asked, request_in}
use Rattle.log_model.specs.After.{ended}
use Rattle.seen_laws.proofs.Sums.{over}
use Rattle.seen_facts.proofs.Coord.Held.{on_else}
use Rattle.seen_facts.proofs.Request.LookUps.{on_itself}
use Rattle.seen_facts.proofs.Request.Readers.{SameReads}
use Rattle.seen_facts.specs.LoadWhereabouts.Whereabouts.{waits_to_fragment}
use Rattle.seen_facts.proofs.LoadWhereabouts.Counts.{count}
use Rattle.tab_facts.specs.FragmentOrders.Waiting.{fragments_at, AreFragments}
use Rattle.tab_facts.proofs.FragmentOrders.Counts.{SameOrders}
use Rattle.tab_facts.proofs.FragmentOrders.Fates.{fate, fate_in, made_rests, IsRight, right_so, right_none, but_one}

-- ---- requests that don't wait

-- it doesn't wait, or isn't there
abbrev pub WaitsNot : List Asked → ReqId → Type 0
WaitsNot asked req = holds waits_to_fragment (request_in asked req) ≡ false

pub found_waits_not : (asked : List Asked) (req : ReqId) (q : Asked) → request_in asked req ≡ Some q → waits_to_fragment q ≡ false → WaitsNot asked req
found_waits_not asked req q found not_ = ap (holds waits_to_fragment) found ∙ not_

-- one of which something was made
pub made_waits_not : (asked : List Asked) (req : ReqId) (q : Asked) (made : Made) → request_in asked req ≡ Some q → q.made ≡ Some made → WaitsNot asked req
made_waits_not asked req q made found is =
    found_waits_not asked req q found (ap (λ (o : Option Made). (is_none q.ending && is_none o) && is_some q.fragment) is ∙ made_rests (is_none q.ending) (is_some q.fragment))

-- one for which no document was sent
pub unsent_waits_not : (asked : List Asked) (req : ReqId) (q : Asked) → request_in asked req ≡ Some q → q.fragment ≡ None → WaitsNot asked req
unsent_waits_not asked req q found none =
    found_waits_not asked req q found (ap (λ (o : Option DocId). (is_none q.ending && is_none q.made) && is_some o) none ∙ not_then (is_none q.ending && is_none q.made))
  where
    not_then : (b : Bool) → (b && false) ≡ false
    not_then true = refl
    not_then false = refl

-- no load
pub other_waits_not : (s : Seen) → AreFragments s → (req : ReqId) → holds (λ (q : Asked). is_load q.what) (request_in s.requests req) ≡ false → WaitsNot s.requests req
other_waits_not s are req other = by_found (request_in s.requests req) refl
  where
    by_waits : (q : Asked) (b : Bool) → request_in s.requests req ≡ Some q → waits_to_fragment q ≡ b → b ≡ false
    by_waits q false e waits = refl
    by_waits q true e waits =
        let never : false ≡ true = sym other ∙ ap (holds (λ (x : Asked). is_load x.what)) e ∙ are.loads req q e waits in absurd cc

    by_found : (o : Option Asked) → request_in s.requests req ≡ o → WaitsNot s.requests req
    by_found None e = ap (holds waits_to_fragment) e
    by_found (Some q) e = ap (holds waits_to_fragment) e ∙ by_waits q (waits_to_fragment q) e refl

-- ---- one of them ends

module _ (s t : Seen) (req : ReqId) (ending : Ending) (waits_not : WaitsNot s.requests req) (reads : SameReads fate (ended s.requests req ending) t.requests) (orders : SameOrders s t) (are : AreFragments s) where
  abbrev end_it : Asked → Asked
  end_it q = record q { ending = Some ending }

  read_then : fate_in t.requests req ≡ option_map fate (option_map end_it (request_in s.requests req))
  read_then = reads req ∙ ap (λ (o : Option Asked). option_map fate o) (on_itself s.requests req end_it)

  none_left : over (fragments_at req) t.desks ≡ 0
  none_left = orders req ∙ are.once req ∙ ap count waits_not

  right_then : IsRight t req
  right_then = by_found (request_in s.requests req) refl
    where
      by_found : (o : Option Asked) → request_in s.requests req ≡ o → IsRight t req
      by_found None e =
          right_none t req (read_then ∙ ap (λ (o : Option Asked). option_map fate (option_map end_it o)) e) none_left
      by_found (Some q) e =
          right_so t req (fate (end_it q)) (record {
            read = read_then ∙ ap (λ (o : Option Asked). option_map fate (option_map end_it o)) e;
            once = none_left;
            unsent = are.unsent req q e;
            loads = λ never. absurd cc;
          })

  pub ended_fragments : AreFragments t
  ended_fragments =
      but_one s t req (record {
        others = λ r apart. reads r ∙ ap (λ (o : Option Asked). option_map fate o) (on_else s.requests req end_it r apart);
        elsewhere = λ r apart. orders r;
        one = right_then;
      }) are
