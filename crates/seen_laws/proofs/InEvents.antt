-- One row more in an event.
use Rattle.std.proofs.Common.{◌≡◌, Bool, true, false, cond, ◌||◌, Option, None, List, [], ◌∷◌, ◌++◌, map, fold, refl, sym, ap, ◌∙◌, subst, append_assoc, append-nil}
use Rattle.std.proofs.lemmas.List.{map-append}
use Rattle.seen_laws.specs.Unasked.{unasked}
use Rattle.log_model.specs.declared.row_kind.LogRow.{LogRow}
use Rattle.log_model.specs.declared.row_kind.RowKind.{RowKind}
use Rattle.log_model.specs.Seen.{Seen}
use Rattle.log_model.specs.After.{after}
use Rattle.seen_laws.specs.Blocks.{Here, on_row, on_rows, EachPass, MayLog}
use Rattle.seen_laws.specs.Sending.{leads, is_led}
use Rattle.std.specs.List.{list_any, filter_map}
use Rattle.tab_ids.specs.declared.ReqId.{ReqId}
use Rattle.log_model.specs.declared.job.Job.{Job}
use Rattle.log_model.specs.declared.job.Task.{Task}
use Rattle.log_model.specs.declared.job.Task.TheVariants as tasks
use Rattle.log_model.specs.declared.row_kind.RowKind.TheVariants as rows
use Rattle.log_model.specs.Orders.{Question, is_for, question_in}
use Rattle.seen_laws.specs.Sending.{IsToldTask}
use Rattle.seen_laws.specs.InEvent.{InEvent, row_of, start_of, own_of, first_of, here_of, later_of, rows_of, EachGoes, GoesThere, IsReadOff, log_of, now_of, begins, IsTakenIn, IsRest, IsPaid, IsClear, Anything, AreLegal}
use Rattle.seen_laws.specs.Owing.{owes, Pays, MayLogOwing}
use Rattle.seen_laws.proofs.BlockLaws.{each_pass_append}
use Rattle.seen_laws.proofs.Owings.{pays_append}

pub on_rows_append : (h : Here) (rows more : List LogRow) → on_rows h (rows ++ more) ≡ on_rows (on_rows h rows) more
on_rows_append h [] more = refl
on_rows_append h (row ∷ rows) more = on_rows_append (on_row h row) rows more

pub here_more : (e : InEvent) (out : List RowKind) (kind : RowKind) → here_of e (out ++ kind ∷ []) ≡ on_row (here_of e out) (row_of e kind)
here_more e out kind = ap (λ (rows : List LogRow). on_rows (first_of e) rows) (map-append (row_of e) out (kind ∷ [])) ∙ on_rows_append (first_of e) (map (row_of e) out) (row_of e kind ∷ [])

pub log_more : (e : InEvent) (out : List RowKind) (kind : RowKind) → log_of e (out ++ kind ∷ []) ≡ after (log_of e out) (row_of e kind)
log_more e out kind = ap (λ (h : Here). h.now) (here_more e out kind)

-- ---- in the log as it would be had nobody been asked

-- what the log without questions is
pub now_is : (e : InEvent) (out : List RowKind) → now_of e out ≡ unasked e.checking (log_of e out)
unfolding now_of
now_is e out = refl

-- after one more, where that is read off
pub now_more : (e : InEvent) (out : List RowKind) (kind : RowKind) → IsReadOff e out kind → now_of e (out ++ kind ∷ []) ≡ after (now_of e out) (row_of e kind)
unfolding now_of
now_more e out kind read = ap (unasked e.checking) (log_more e out kind) ∙ read

-- what the row keeps holds after it
pub now_step : (P : Seen → Type 0) (e : InEvent) (out : List RowKind) (kind : RowKind) → GoesThere e out kind → (P (now_of e out) → P (after (now_of e out) (row_of e kind))) → P (now_of e out) → P (now_of e (out ++ kind ∷ []))
now_step P e out kind goes keeps holds_ = subst P (sym (now_more e out kind goes.read)) (keeps holds_)

-- ---- rows that go there, one behind the other

-- a row of a list with one more is the last, or one of those before
data Standing (more before : List RowKind) (kind k : RowKind) : Type 0 where
  last : before ≡ more → k ≡ kind → Standing more before kind k
  within : (later : List RowKind) → before ++ k ∷ later ≡ more → Standing more before kind k

stands_behind : (m b : RowKind) (more before : List RowKind) (kind k : RowKind) → b ≡ m → Standing more before kind k → Standing (m ∷ more) (b ∷ before) kind k
stands_behind m b more before kind k first (last is same) =
    last (ap (λ (x : RowKind). x ∷ before) first ∙ ap (λ (l : List RowKind). m ∷ l) is) same
stands_behind m b more before kind k first (within later is) =
    within later (ap (λ (x : RowKind). x ∷ before ++ k ∷ later) first ∙ ap (λ (l : List RowKind). m ∷ l) is)

standing : (more before later : List RowKind) (kind k : RowKind) → before ++ k ∷ later ≡ more ++ kind ∷ [] → Standing more before kind k
standing [] [] [] kind k is = last refl cc
standing [] [] (r ∷ later) kind k is = absurd cc
standing [] (b ∷ []) later kind k is = absurd cc
standing [] (b ∷ c ∷ before) later kind k is = absurd cc
standing (m ∷ more) [] later kind k is =
    let same : k ≡ m = cc in
    within more (ap (λ (x : RowKind). x ∷ more) same)
standing (m ∷ more) (b ∷ before) later kind k is =
    let first : b ≡ m = cc in
    let rest : before ++ k ∷ later ≡ more ++ kind ∷ [] = cc in
    stands_behind m b more before kind k first (standing more before later kind k rest)

pub none_goes : (e : InEvent) (was : List RowKind) → EachGoes e was []
none_goes e was = record { each = never }
  where
    never : (before later : List RowKind) (kind : RowKind) → before ++ kind ∷ later ≡ [] → GoesThere e (was ++ before) kind
    never [] later kind is = absurd cc
    never (k ∷ before) later kind is = absurd cc

-- the first of them
pub first_goes : (e : InEvent) (was more : List RowKind) (kind : RowKind) → EachGoes e was (kind ∷ more) → GoesThere e was kind
first_goes e was more kind goes = subst (λ (l : List RowKind). GoesThere e l kind) (append-nil was) (goes.each [] more kind refl)

-- and the others
pub rest_goes : (e : InEvent) (was more : List RowKind) (kind : RowKind) → EachGoes e was (kind ∷ more) → EachGoes e (was ++ kind ∷ []) more
rest_goes e was more kind goes =
    record {
      each = λ before later k is. subst (λ (l : List RowKind). GoesThere e l k) (sym (append_assoc was (kind ∷ []) before)) (goes.each (kind ∷ before) later k (ap (λ (l : List RowKind). kind ∷ l) is));
    }

-- those behind some of them
pub behind_goes : (e : InEvent) (was more then_ : List RowKind) → EachGoes e was (more ++ then_) → EachGoes e (was ++ more) then_
behind_goes e was more then_ goes =
    record {
      each = λ before later k is. subst (λ (l : List RowKind). GoesThere e l k) (sym (append_assoc was more before)) (goes.each (more ++ before) later k (append_assoc more before (k ∷ later) ∙ ap (λ (l : List RowKind). more ++ l) is));
    }

-- those of an event that came behind these
pub since_goes : (e : InEvent) (was more out : List RowKind) → out ≡ was ++ more → EachGoes e [] out → EachGoes e was more
since_goes e was more out is goes = behind_goes e [] was more (subst (λ (l : List RowKind). EachGoes e [] l) is goes)

-- the last of them
pub last_goes : (e : InEvent) (was : List RowKind) (kind : RowKind) (out : List RowKind) → out ≡ was ++ kind ∷ [] → EachGoes e [] out → GoesThere e was kind
last_goes e was kind out is goes = first_goes e was [] kind (since_goes e was (kind ∷ []) out is goes)

-- so what the log without questions has come to behind it
pub now_at : (e : InEvent) (was : List RowKind) (kind : RowKind) (out : List RowKind) → out ≡ was ++ kind ∷ [] → EachGoes e [] out → now_of e out ≡ after (now_of e was) (row_of e kind)
now_at e was kind out is goes =
    ap (λ (l : List RowKind). now_of e l) is ∙ now_more e was kind (last_goes e was kind out is goes).read

-- and one more
pub goes_more : (e : InEvent) (was more : List RowKind) (kind : RowKind) → EachGoes e was more → GoesThere e (was ++ more) kind → EachGoes e was (more ++ kind ∷ [])
goes_more e was more kind goes it =
    record { each = λ before later k is. by_part before k (standing more before later kind k is) }
  where
    by_part : (before : List RowKind) (k : RowKind) → Standing more before kind k → GoesThere e (was ++ before) k
    by_part before k (last is same) =
        subst (λ (x : RowKind). GoesThere e (was ++ before) x) (sym same) (subst (λ (l : List RowKind). GoesThere e (was ++ l) kind) (sym is) it)
    by_part before k (within later is) = goes.each before later k is

-- all rows of the event
fold_rows : (h : Here) (rows : List LogRow) → (on_rows h rows).now ≡ fold after h.now rows
fold_rows h [] = refl
fold_rows h (row ∷ rows) = fold_rows (on_row h row) rows

-- the event stands where they lead
pub here_rows : (e : InEvent) (out : List RowKind) → here_of e out ≡ on_rows (start_of e) (rows_of e out)
here_rows e out = sym (on_rows_append (own_of e) (map (row_of e) e.before) (map (row_of e) out))

pub log_fold : (e : InEvent) (out : List RowKind) → log_of e out ≡ fold after e.start (rows_of e out)
log_fold e out = ap (λ (h : Here). h.now) (here_rows e out) ∙ fold_rows (start_of e) (rows_of e out)

-- where nothing was put out before a cut, they are the own row and these, and the first of these comes where the own one leads
pub uncut_rows : (e : InEvent) (out : List RowKind) → e.before ≡ [] → rows_of e out ≡ row_of e e.own ∷ map (row_of e) out
uncut_rows e out uncut = ap (λ (l : List RowKind). row_of e e.own ∷ (map (row_of e) l ++ map (row_of e) out)) uncut

pub uncut_first : (e : InEvent) → e.before ≡ [] → first_of e ≡ own_of e
uncut_first e uncut = ap (λ (l : List RowKind). on_rows (own_of e) (map (row_of e) l)) uncut

pub uncut_log : (e : InEvent) → e.before ≡ [] → log_of e [] ≡ after e.start (row_of e e.own)
uncut_log e uncut = ap (λ (h : Here). h.now) (uncut_first e uncut)

-- one more of them, or some
pub later_more : (e : InEvent) (out more : List RowKind) → later_of e (out ++ more) ≡ later_of e out ++ map (row_of e) more
later_more e out more =
    ap (λ (rows : List LogRow). map (row_of e) e.before ++ rows) (map-append (row_of e) out more)
    ∙ sym (append_assoc (map (row_of e) e.before) (map (row_of e) out) (map (row_of e) more))

pub rows_more : (e : InEvent) (out more : List RowKind) → rows_of e (out ++ more) ≡ rows_of e out ++ map (row_of e) more
rows_more e out more = ap (λ (rows : List LogRow). row_of e e.own ∷ rows) (later_more e out more)

-- a row that asks no document
abbrev pub IsQuiet : InEvent → RowKind → Type 0
IsQuiet e kind = (req : ReqId) → question_in req (row_of e kind) ≡ None

or_left : (a b : Bool) → a ≡ true → (a || b) ≡ true
or_left true b e = refl
or_left false b e = cc

any_more : (test : RowKind → Bool) (out : List RowKind) (kind : RowKind) → list_any test out ≡ true → list_any test (out ++ kind ∷ []) ≡ true
any_more test [] kind e = cc
any_more test (k ∷ out) kind e = by_test (test k) (any_more test out kind) e
  where
    by_test : (b : Bool) → (list_any test out ≡ true → list_any test (out ++ kind ∷ []) ≡ true) → (b || list_any test out) ≡ true → (b || list_any test (out ++ kind ∷ [])) ≡ true
    by_test true more f = refl
    by_test false more f = more f

-- a row more, or one row before those that come later
pub one_later : (e : InEvent) (out : List RowKind) (kind : RowKind) (later : List LogRow) → (later_of e (out ++ kind ∷ []) ++ later) ≡ (later_of e out ++ row_of e kind ∷ later)
one_later e out kind later =
    ap (λ (rows : List LogRow). rows ++ later) (later_more e out (kind ∷ []))
    ∙ append_assoc (later_of e out) (row_of e kind ∷ []) later

-- a request that began among the rows so far did with one more
pub begun_more : (e : InEvent) (out : List RowKind) (kind : RowKind) (req : ReqId) → list_any (begins req) (e.before ++ out) ≡ true → list_any (begins req) (e.before ++ (out ++ kind ∷ [])) ≡ true
begun_more e out kind req began =
    subst (λ (l : List RowKind). list_any (begins req) l ≡ true) (append_assoc e.before out (kind ∷ [])) (any_more (begins req) (e.before ++ out) kind began)

-- what all of them owe is what those before one owe, and that one
pub pays_more : (e : InEvent) (out more : List RowKind) (later : List LogRow) → Pays (start_of e) (rows_of e (out ++ more)) later → Pays (start_of e) (rows_of e out) (map (row_of e) more ++ later) × Pays (here_of e out) (map (row_of e) more) later
pays_more e out more later pays =
    let parts = pays_append (start_of e) (rows_of e out) (map (row_of e) more) later (subst (λ (rows : List LogRow). Pays (start_of e) rows later) (rows_more e out more) pays) in
    (parts.0, subst (λ (h : Here). Pays h (map (row_of e) more) later) (sym (here_rows e out)) parts.1)

-- and they pass where those before pass, and it does
pub pass_more : (e : InEvent) (out more : List RowKind) (later : List LogRow) → EachPass (start_of e) (rows_of e out) (map (row_of e) more ++ later) → EachPass (here_of e out) (map (row_of e) more) later → EachPass (start_of e) (rows_of e (out ++ more)) later
pass_more e out more later first second =
    subst (λ (rows : List LogRow). EachPass (start_of e) rows later) (sym (rows_more e out more))
    (each_pass_append (start_of e) (rows_of e out) (map (row_of e) more) later first (subst (λ (h : Here). EachPass h (map (row_of e) more) later) (here_rows e out) second))

-- at the event's end nothing comes later
pub pays_end : (e : InEvent) (out : List RowKind) → IsPaid e out → Pays (start_of e) (rows_of e out) []
pays_end e out paid = subst (λ (h : Here). owes (start_of e) (rows_of e out) h.now ≡ true) (here_rows e out) paid

pub taken_end : (e : InEvent) (out : List RowKind) → IsTakenIn e (later_of e out) → IsTakenIn e (later_of e out ++ [])
taken_end e out taken = subst (λ (rows : List LogRow). IsTakenIn e rows) (sym (append-nil (later_of e out))) taken

-- it keeps what the rows before it ask of what comes later
rest_more : (e : InEvent) (out : List RowKind) (kind : RowKind) → IsQuiet e kind → (later : List LogRow) → IsRest e (out ++ kind ∷ []) later → IsRest e out (row_of e kind ∷ later) × Pays (here_of e out) (row_of e kind ∷ []) later
rest_more e out kind quiet later rest =
    let parts = pays_more e out (kind ∷ []) later rest.owed in (
      record {
        asks = λ req began. rw (quiet req) (rest.asks req (begun_more e out kind req began));
        taken = subst (λ (rows : List LogRow). IsTakenIn e rows) (one_later e out kind later) rest.taken;
        owed = parts.0;
      },
      parts.1,
    )

-- a row that may be logged, if the event's end pays what it owes
pub legal_more_owing : (e : InEvent) (out : List RowKind) (kind : RowKind) → IsQuiet e kind → AreLegal e out → MayLogOwing (here_of e out) (row_of e kind ∷ []) → AreLegal e (out ++ kind ∷ [])
unfolding AreLegal
legal_more_owing e out kind quiet legal may later rest =
    let parts = rest_more e out kind quiet later rest in
    pass_more e out (kind ∷ []) later (legal (row_of e kind ∷ later) parts.0) (may later parts.1)

-- one that owes nothing
pub legal_more : (e : InEvent) (out : List RowKind) (kind : RowKind) → IsQuiet e kind → AreLegal e out → MayLog (here_of e out) (row_of e kind ∷ []) Anything → AreLegal e (out ++ kind ∷ [])
legal_more e out kind quiet legal may = legal_more_owing e out kind quiet legal (λ later pays. may later tt)

-- what the row itself asks of what comes later: a request that it begins asks no document any more
abbrev pub AsksNoMore : RowKind → List LogRow → Type 0
AsksNoMore kind later = (req : ReqId) → begins req kind ≡ true → filter_map (question_in req) later ≡ []

pub legal_end : (e : InEvent) (out : List RowKind) → AreLegal e out → IsPaid e out → IsTakenIn e (later_of e out) → EachPass (start_of e) (rows_of e out) []
unfolding AreLegal
legal_end e out legal paid taken =
    legal [] (record {
      asks = λ req began. refl;
      taken = taken_end e out taken;
      owed = pays_end e out paid;
    })

both_none : (b : Bool) → (let o : Option Question = cond b None None in o) ≡ None
both_none true = refl
both_none false = refl

-- an order that is no question
pub order_quiet : (e : InEvent) (job : Job) (task : Task) → job.task ≡ task → IsToldTask task → IsQuiet e (rows.Sent job)
order_quiet e job (tasks.Activate entry epoch long at memo address) is plain req = rw is (both_none (is_for req job))
order_quiet e job (tasks.Update long at) is plain req = rw is (both_none (is_for req job))
order_quiet e job _ is plain req = elim plain [ ]

-- the event stays one that the coordinator works in
done_led : (h : Here) (rows : List LogRow) → is_led h.done ≡ true → is_led (on_rows h rows).done ≡ true
done_led h [] led = led
done_led h (row ∷ rows) led = done_led (on_row h row) rows (more h.done row led)
  where
    more : (done : List LogRow) (row : LogRow) → is_led done ≡ true → is_led (done ++ row ∷ []) ≡ true
    more [] row led = cc
    more (own ∷ done) row led = led

pub led_here : (e : InEvent) (out : List RowKind) → leads e.own ≡ true → is_led (here_of e out).done ≡ true
led_here e out own = done_led (first_of e) (map (row_of e) out) (done_led (own_of e) (map (row_of e) e.before) own)

-- ---- where nothing is owed

-- all is paid
pub clear_paid : (e : InEvent) (out : List RowKind) → IsClear e out → IsPaid e out
clear_paid e out clear = clear (here_of e out).now
