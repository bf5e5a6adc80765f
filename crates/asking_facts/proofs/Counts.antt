-- Each order that isn't finished stays in one place, over what a row does to the desks.
use Rattle.std.proofs.Common.{◌≡◌, ℕ, ◌+◌, ◌≤◌, ◌<◌, Bool, true, false, cond, ◌==◌, List, [], ◌∷◌, ◌++◌, map, Option, Some, None, refl, ap, ◌∙◌, subst, arith}
use Rattle.std.specs.Prelude.{if◌then◌else◌, drop, option_map, slice_get}
use Rattle.std.proofs.lemmas.Bool.Decides.{nat_tests}
use Rattle.tab_ids.specs.declared.ProcId.{ProcId}
use Rattle.log_model.specs.declared.job.Job.{Job}
use Rattle.log_model.specs.declared.job.Order.{Order}
use Rattle.log_model.specs.Seen.{Desk, Seen, desk_in, desk_of, empty_desk}
use Rattle.log_model.specs.After.{desk_taken, on_desk}
use Rattle.seen_laws.proofs.Sums.{over, over_on}
use Rattle.seen_facts.specs.Each.Items.{Each}
use Rattle.asking_facts.specs.Waiting.{AreApart, times_at, times_in, times_in_hand}

-- ---- one desk changes

pub on_fewer : (n : ℕ) (g : Desk → Desk) (desks : List Desk) (proc : ProcId) → times_at n (g (desk_in desks proc)) ≤ times_at n (desk_in desks proc) → over (times_at n) (on_desk proc g desks) ≤ over (times_at n) desks
on_fewer n g desks proc fewer =
    let none : times_at n (empty_desk proc) ≡ 0 = omega arith in
    let sum : over (times_at n) (on_desk proc g desks) + times_at n (desk_in desks proc) ≡ over (times_at n) desks + times_at n (g (desk_in desks proc)) = over_on (times_at n) g desks proc none in
    omega (arith, sum, fewer)

pub map_same : (n : ℕ) (g : Desk → Desk) (desks : List Desk) → ((d : Desk) → times_at n (g d) ≡ times_at n d) → over (times_at n) (map g desks) ≡ over (times_at n) desks
map_same n g [] same = refl
map_same n g (desk ∷ desks) same =
    ap (λ (k : ℕ). k + over (times_at n) (map g desks)) (same desk)
    ∙ ap (λ (k : ℕ). times_at n desk + k) (map_same n g desks same)

-- so where no number is anywhere more often
pub fewer_apart : (s t : Seen) → s.jobs ≤ t.jobs → ((n : ℕ) → over (times_at n) t.desks ≤ over (times_at n) s.desks) → AreApart s → AreApart t
fewer_apart s t jobs fewer apart =
    record {
      once = λ n. (let a : over (times_at n) t.desks ≤ over (times_at n) s.desks = fewer n in let b : over (times_at n) s.desks ≤ 1 = apart.once n in omega (arith, a, b));
      numbered = λ n past. (let a : over (times_at n) t.desks ≤ over (times_at n) s.desks = fewer n in let small : s.jobs < n = omega (arith, jobs, past) in let b : over (times_at n) s.desks ≡ 0 = apart.numbered n small in omega (arith, a, b));
    }

-- ---- an order is sent, and taken

times_last : (n : ℕ) (mail : List Job) (job : Job) → times_in n (mail ++ job ∷ []) ≡ times_in n mail + (if job.nr.0 == n then 1 else 0)
times_last n [] job = omega arith
times_last n (first ∷ mail) job =
    let rest : times_in n (mail ++ job ∷ []) ≡ times_in n mail + (if job.nr.0 == n then 1 else 0) = times_last n mail job in
    omega (arith, rest)

abbrev pub posted : Job → Desk → Desk
posted job desk = record desk { mail = desk.mail ++ job ∷ [] }

-- with the next number
pub sent_apart : (s t : Seen) (job : Job) → t.desks ≡ on_desk job.proc (posted job) s.desks → t.jobs ≡ s.jobs + 1 → job.nr.0 ≡ s.jobs + 1 → AreApart s → AreApart t
sent_apart s t job desks jobs nr apart = record { once = once; numbered = numbered }
  where
    sum : (n : ℕ) → over (times_at n) t.desks ≡ over (times_at n) s.desks + (if job.nr.0 == n then 1 else 0)
    sum n =
        let none : times_at n (empty_desk job.proc) ≡ 0 = omega arith in
        let all : over (times_at n) (on_desk job.proc (posted job) s.desks) + times_at n (desk_in s.desks job.proc) ≡ over (times_at n) s.desks + times_at n (posted job (desk_in s.desks job.proc)) = over_on (times_at n) (posted job) s.desks job.proc none in
        let last : times_in n ((desk_in s.desks job.proc).mail ++ job ∷ []) ≡ times_in n (desk_in s.desks job.proc).mail + (if job.nr.0 == n then 1 else 0) = times_last n (desk_in s.desks job.proc).mail job in
        let are : over (times_at n) t.desks ≡ over (times_at n) (on_desk job.proc (posted job) s.desks) = ap (over (times_at n)) desks in
        omega (arith, all, last, are)

    once : (n : ℕ) → over (times_at n) t.desks ≤ 1
    once n = by_test (job.nr.0 == n) refl (sum n)
      where
        by_test : (b : Bool) → (job.nr.0 == n) ≡ b → over (times_at n) t.desks ≡ over (times_at n) s.desks + (if b then 1 else 0) → over (times_at n) t.desks ≤ 1
        by_test true is all =
            let past : s.jobs < n = grind (arith, nat_tests, is, nr) in
            let zero : over (times_at n) s.desks ≡ 0 = apart.numbered n past in
            omega (arith, all, zero)
        by_test false is all =
            let was : over (times_at n) s.desks ≤ 1 = apart.once n in
            omega (arith, all, was)

    numbered : (n : ℕ) → t.jobs < n → over (times_at n) t.desks ≡ 0
    numbered n past =
        let off : (job.nr.0 == n) ≡ false = grind (arith, nat_tests, past, jobs, nr) in
        let small : s.jobs < n = omega (arith, past, jobs) in
        let zero : over (times_at n) s.desks ≡ 0 = apart.numbered n small in
        let all : over (times_at n) t.desks ≡ over (times_at n) s.desks + (if false then 1 else 0) = subst (λ (b : Bool). over (times_at n) t.desks ≡ over (times_at n) s.desks + (if b then 1 else 0)) off (sum n) in
        omega (arith, all, zero)

pub taken_fewer : (n : ℕ) (live dirty : Bool) (desk : Desk) → times_at n (desk_taken live dirty desk) ≤ times_at n desk
taken_fewer n live dirty desk = by_mail desk.mail desk.in_hand live
  where
    by_mail : (mail : List Job) (hand : Option Order) (live : Bool) → times_in_hand n (if live then option_map (λ (job : Job). let o : Order = record { job = job; dirty = dirty } in o) (slice_get mail 0) else None) + times_in n (drop 1 mail) ≤ times_in_hand n hand + times_in n mail
    by_mail [] hand true = omega arith
    by_mail [] hand false = omega arith
    by_mail (job ∷ mail) hand true = omega arith
    by_mail (job ∷ mail) hand false = omega arith

-- ---- an order in hand is nowhere else

-- where a sum is nothing, so is each of its parts
pub over_none : (n : ℕ) (desks : List Desk) → over (times_at n) desks ≡ 0 → (proc : ProcId) → times_at n (desk_in desks proc) ≡ 0
over_none n [] none proc = omega arith
over_none n (desk ∷ desks) none proc = by_test (desk.proc.0 == proc.0) (over_none n desks rest proc)
  where
    rest : over (times_at n) desks ≡ 0
    rest = omega (arith, none)

    first : times_at n desk ≡ 0
    first = omega (arith, none)

    by_test : (b : Bool) → times_at n (desk_in desks proc) ≡ 0 → times_at n (cond b desk (desk_in desks proc)) ≡ 0
    by_test true more = first
    by_test false more = more

abbrev pub emptied : Desk → Desk
emptied desk = record desk { in_hand = None }

pub alone_in_hand : (s : Seen) (proc : ProcId) (order : Order) → AreApart s → (desk_of s proc).in_hand ≡ Some order → over (times_at order.job.nr.0) (on_desk proc emptied s.desks) ≡ 0
alone_in_hand s proc order apart hand =
    let n : ℕ = order.job.nr.0 in
    let none : times_at order.job.nr.0 (empty_desk proc) ≡ 0 = omega arith in
    let all : over (times_at order.job.nr.0) (on_desk proc emptied s.desks) + times_at order.job.nr.0 (desk_of s proc) ≡ over (times_at order.job.nr.0) s.desks + times_at order.job.nr.0 (emptied (desk_of s proc)) = over_on (times_at order.job.nr.0) emptied s.desks proc none in
    let itself : (order.job.nr.0 == order.job.nr.0) ≡ true = grind (arith, nat_tests) in
    let its : times_in_hand order.job.nr.0 (desk_of s proc).in_hand ≡ 1 = rw hand (rw itself refl) in
    let was : over (times_at order.job.nr.0) s.desks ≤ 1 = apart.once order.job.nr.0 in
    omega (arith, all, its, was)

-- an order that isn't among these has another number
pub times_none : (n : ℕ) (mail : List Job) → times_in n mail ≡ 0 → Each (λ (job : Job). (job.nr.0 == n) ≡ false) mail
times_none n [] none = tt
times_none n (job ∷ mail) none = by_test (job.nr.0 == n) refl none (times_none n mail)
  where
    by_test : (b : Bool) → (job.nr.0 == n) ≡ b → (if b then 1 else 0) + times_in n mail ≡ 0 → (times_in n mail ≡ 0 → Each (λ (x : Job). (x.nr.0 == n) ≡ false) mail) → Each (λ (x : Job). (x.nr.0 == n) ≡ false) (job ∷ mail)
    by_test true is all rest = let never : 1 ≤ 0 = omega (arith, all) in absurd (omega (arith, never))
    by_test false is all rest = (is, rest (omega (arith, all)))
