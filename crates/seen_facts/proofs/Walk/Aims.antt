-- The aim reads which documents are gone, the requests but for what their orders moved and what they took, and the history.
use Rattle.std.proofs.Common.{◌≡◌, ℕ, zero, suc, ◌-◌, Bool, true, false, cond, ◌&&◌, ◌||◌, ◌==◌, List, [], ◌∷◌, ◌++◌, map, Option, Some, None, refl, sym, ap, ◌∙◌}
use Rattle.std.specs.Prelude.{find, option_map, slice_get}
use Rattle.std.specs.List.{slice_set}
use Rattle.std.specs.Option.{option_map_or}
use Rattle.tab_ids.specs.declared.DocId.{DocId}
use Rattle.tab_ids.specs.declared.ReqId.{ReqId}
use Rattle.tab_ids.specs.declared.Step.{Step}
use Rattle.log_model.specs.declared.job.Why.{Why}
use Rattle.log_model.specs.declared.job.Why.TheVariants as whys
use Rattle.log_model.specs.AfterDocuments.{on_document}
use Rattle.log_model.specs.AfterRequests.{on_request, on_served}
use Rattle.log_model.specs.Equal.{holds}
use Rattle.log_model.specs.History.{History, used_step_at}
use Rattle.log_model.specs.Places.{is_gone, is_under_way, is_traversal, has_passed_with, aim_with, aim_of}
use Rattle.log_model.specs.Seen.{Seen, Document, Asked, document_of, request_in}
use Rattle.seen_facts.proofs.Coord.Held.{fun_ext}
use Rattle.seen_laws.proofs.Keyed.{find_map}

-- a request without what its orders moved and what its change took
abbrev pub blur : Asked → Asked
blur q = record q { activated = []; moved = []; took = []; change = None }

find_blur : (test : Asked → Bool) → ((q : Asked) → test (blur q) ≡ test q) → (asked : List Asked) → find test (map blur asked) ≡ option_map blur (find test asked)
find_blur test same [] = refl
find_blur test same (q ∷ asked) = rw (same q) (by_test (test q) (find_blur test same asked))
  where
    by_test : (b : Bool) → find test (map blur asked) ≡ option_map blur (find test asked) → cond b (Some (blur q)) (find test (map blur asked)) ≡ option_map blur (cond b (Some q) (find test asked))
    by_test true more = refl
    by_test false more = more

map_or_blur : (g : Asked → ℕ) (n : ℕ) (o : Option Asked) → ((q : Asked) → g (blur q) ≡ g q) → option_map_or g (option_map blur o) n ≡ option_map_or g o n
map_or_blur g n None same = refl
map_or_blur g n (Some q) same = same q

aim_blur : (gone : DocId → Bool) (asked : List Asked) (h : History) → aim_with gone (map blur asked) h ≡ aim_with gone asked h
aim_blur gone asked h =
    let test : Asked → Bool = λ q. is_under_way q && is_traversal q.what && has_passed_with gone q in
    let goal : Asked → ℕ = λ q. option_map_or (λ (g : Step). used_step_at h.rows g.0) q.goal h.current in
    ap (λ (o : Option Asked). option_map_or goal o h.current) (find_blur test (λ q. refl) asked)
    ∙ map_or_blur goal h.current (find test asked) (λ q. refl)

pub aim_again : (s t : Seen) → ((doc : DocId) → is_gone t doc ≡ is_gone s doc) → map blur t.requests ≡ map blur s.requests → t.history ≡ s.history → aim_of t ≡ aim_of s
aim_again s t gone requests history =
    ap (λ (g : DocId → Bool). aim_with g t.requests t.history) (fun_ext gone)
    ∙ sym (aim_blur (is_gone s) t.requests t.history)
    ∙ ap (λ (asked : List Asked). aim_with (is_gone s) asked t.history) requests
    ∙ ap (λ (h : History). aim_with (is_gone s) (map blur s.requests) h) history
    ∙ aim_blur (is_gone s) s.requests s.history

-- ---- a request changed where the aim doesn't look

set_blur : (asked : List Asked) (n : ℕ) (q new : Asked) → slice_get asked n ≡ Some q → blur new ≡ blur q → map blur (slice_set asked n new) ≡ map blur asked
set_blur [] n q new e same = refl
set_blur (x ∷ asked) zero q new e same = let is : x ≡ q = cc in ap (λ (y : Asked). y ∷ map blur asked) (same ∙ ap blur (sym is))
set_blur (x ∷ asked) (suc n) q new e same = ap (λ (l : List Asked). blur x ∷ l) (set_blur asked n q new e same)

pub on_request_blur : (req : ReqId) (f : Asked → Asked) (asked : List Asked) → ((q : Asked) → blur (f q) ≡ blur q) → map blur (on_request req f asked) ≡ map blur asked
on_request_blur req f asked same = by_found (request_in asked req) refl
  where
    number : (b : Bool) (n : ℕ) (q : Asked) → cond b None (slice_get asked n) ≡ Some q → slice_get asked n ≡ Some q
    number true n q e = cc
    number false n q e = e

    by_found : (found : Option Asked) → request_in asked req ≡ found → map blur (option_map_or (λ q. slice_set asked (req.0 - 1) (f q)) found asked) ≡ map blur asked
    by_found None e = refl
    by_found (Some q) e = set_blur asked (req.0 - 1) q (f q) (number (req.0 == 0) (req.0 - 1) q e) (same q)

pub on_served_blur : (why : Why) (f : Asked → Asked) (asked : List Asked) → ((q : Asked) → blur (f q) ≡ blur q) → map blur (on_served why f asked) ≡ map blur asked
on_served_blur (whys.Req req) f asked same = on_request_blur req f asked same
on_served_blur (whys.Death death) f asked same = refl
on_served_blur whys.Evict f asked same = refl
on_served_blur whys.Start f asked same = refl

-- ---- which documents are gone

abbrev pub is_away : Document → Bool
is_away d = d.is_discarded || d.is_known_dead

pub gone_on : (s t : Seen) (doc : DocId) (f : Document → Document) → t.documents ≡ on_document doc f s.documents → ((d : Document) → (f d).nr.0 ≡ d.nr.0) → ((d : Document) → is_away (f d) ≡ is_away d) → (other : DocId) → is_gone t other ≡ is_gone s other
gone_on s t doc f documents number away other =
    ap (λ (l : List Document). holds is_away (find (λ (d : Document). d.nr.0 == other.0) l)) documents
    ∙ ap (λ (o : Option Document). holds is_away o) (find_map (λ (d : Document). d.nr.0) (λ (d : Document). cond (d.nr.0 == doc.0) (f d) d) other.0 s.documents keeps)
    ∙ by_found (document_of s other)
  where
    keeps : (d : Document) → (cond (d.nr.0 == doc.0) (f d) d).nr.0 ≡ d.nr.0
    keeps d = by_test (d.nr.0 == doc.0)
      where
        by_test : (b : Bool) → (let x : Document = cond b (f d) d in x).nr.0 ≡ d.nr.0
        by_test true = number d
        by_test false = refl

    by_found : (o : Option Document) → holds is_away (option_map (λ (d : Document). cond (d.nr.0 == doc.0) (f d) d) o) ≡ holds is_away o
    by_found None = refl
    by_found (Some d) = by_test (d.nr.0 == doc.0)
      where
        by_test : (b : Bool) → is_away (cond b (f d) d) ≡ is_away d
        by_test true = away d
        by_test false = refl

pub gone_more : (documents : List Document) (new : Document) (doc : DocId) → is_away new ≡ false → holds is_away (find (λ (d : Document). d.nr.0 == doc.0) (documents ++ new ∷ [])) ≡ holds is_away (find (λ (d : Document). d.nr.0 == doc.0) documents)
gone_more [] new doc e = by_test (new.nr.0 == doc.0)
  where
    by_test : (b : Bool) → holds is_away (cond b (Some new) None) ≡ false
    by_test true = e
    by_test false = refl
gone_more (d ∷ documents) new doc e = by_test (d.nr.0 == doc.0) (gone_more documents new doc e)
  where
    by_test : (b : Bool) → holds is_away (find (λ (d : Document). d.nr.0 == doc.0) (documents ++ new ∷ [])) ≡ holds is_away (find (λ (d : Document). d.nr.0 == doc.0) documents) → holds is_away (cond b (Some d) (find (λ (d : Document). d.nr.0 == doc.0) (documents ++ new ∷ []))) ≡ holds is_away (cond b (Some d) (find (λ (d : Document). d.nr.0 == doc.0) documents))
    by_test true more = refl
    by_test false more = more
