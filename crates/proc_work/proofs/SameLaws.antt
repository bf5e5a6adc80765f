-- Orders that are the same, field for field, are equal, and each is the same as itself.
use Rattle.std.proofs.Common.{◌≡◌, ℕ, Bool, true, false, ◌&&◌, ◌==◌, List, Option, Some, None, refl, ap, ◌∙◌, arith}
use Rattle.std.specs.Prelude.{bytes_eq, slice_get}
use Rattle.std.proofs.lemmas.Bool.Decides.{nat_tests}
use Rattle.std.proofs.lemmas.Slice.Eq.{bytes_eq-Decides}
use Rattle.tab_ids.specs.declared.Death.{Death}
use Rattle.tab_ids.specs.declared.DocId.{DocId}
use Rattle.tab_ids.specs.declared.EntryId.{EntryId}
use Rattle.tab_ids.specs.declared.Epoch.{Epoch}
use Rattle.tab_ids.specs.declared.JobId.{JobId}
use Rattle.tab_ids.specs.declared.NavId.{NavId}
use Rattle.tab_ids.specs.declared.ProcId.{ProcId}
use Rattle.tab_ids.specs.declared.ReqId.{ReqId}
use Rattle.tab_ids.specs.declared.StateId.{StateId}
use Rattle.log_model.specs.declared.handler.HandlerKind.{HandlerKind}
use Rattle.log_model.specs.declared.handler.HandlerKind.TheVariants as kinds
use Rattle.log_model.specs.declared.handler.LeaveCause.{LeaveCause}
use Rattle.log_model.specs.declared.handler.LeaveCause.TheVariants as causes
use Rattle.log_model.specs.declared.job.Job.{Job}
use Rattle.log_model.specs.declared.job.Order.{Order}
use Rattle.log_model.specs.declared.job.Task.{Task}
use Rattle.log_model.specs.declared.job.Task.TheVariants as tasks
use Rattle.log_model.specs.declared.job.Why.{Why}
use Rattle.log_model.specs.declared.job.Why.TheVariants as whys
use Rattle.log_model.specs.declared.request.Mode.{Mode}
use Rattle.log_model.specs.declared.request.Mode.TheVariants as modes
use Rattle.log_model.specs.Equal.{same_bool, same_leaving, same_memo, same_mode, same_option, same_why}
use Rattle.log_model.specs.History.{same_entry}
use Rattle.log_model.proofs.Refl.{bytes_eq_refl, nat_eq_refl, same_bool_refl, same_entry_refl, same_leaving_refl, same_memo_refl, same_mode_refl, same_why_refl}
use Rattle.proc_work.specs.Answers.{has_kind_of, same_kind}
use Rattle.proc_work.specs.Work.{kind_asked}
use Rattle.proc_work.specs.Same.{same_job, same_order, same_task}

and_parts : (a b : Bool) → (a && b) ≡ true → (a ≡ true) × (b ≡ true)
and_parts true b e = (refl, e)
and_parts false b e = cc

both : {a b : Bool} → a ≡ true → b ≡ true → (a && b) ≡ true
both p q = rw (p, q) refl

-- ---- fields

number_is : (m n : ℕ) → (m == n) ≡ true → m ≡ n
number_is m n e = grind (arith, nat_tests, e)

text_is : (a b : List ℕ) → bytes_eq a b ≡ true → a ≡ b
text_is a b e = (bytes_eq-Decides a b).0 e

bool_is : (a b : Bool) → same_bool a b ≡ true → a ≡ b
bool_is true true e = refl
bool_is false false e = refl
bool_is true false e = cc
bool_is false true e = cc

memo_is : (a b : Option (List ℕ)) → same_memo a b ≡ true → a ≡ b
memo_is None None e = refl
memo_is (Some a) (Some b) e = ap (λ (l : List ℕ). Some l) (text_is a b e)
memo_is None (Some b) e = cc
memo_is (Some a) None e = cc

entry_is : (a b : EntryId) → same_entry a b ≡ true → a ≡ b
entry_is a b e =
    let parts = and_parts _ _ e in
    ap (λ (m : ℕ). let x : EntryId = record a { maker = m } in x) (number_is a.maker b.maker parts.0)
    ∙ ap (λ (n : ℕ). let x : EntryId = record b { nr = n } in x) (number_is a.nr b.nr parts.1)

cause_is : (a b : LeaveCause) → same_leaving a b ≡ true → a ≡ b
cause_is causes.Load causes.Load e = refl
cause_is causes.Traverse causes.Traverse e = refl
cause_is causes.Reload causes.Reload e = refl
cause_is causes.Load causes.Traverse e = cc
cause_is causes.Load causes.Reload e = cc
cause_is causes.Traverse causes.Load e = cc
cause_is causes.Traverse causes.Reload e = cc
cause_is causes.Reload causes.Load e = cc
cause_is causes.Reload causes.Traverse e = cc

mode_is : (a b : Mode) → same_mode a b ≡ true → a ≡ b
mode_is modes.Auto modes.Auto e = refl
mode_is modes.Push modes.Push e = refl
mode_is modes.Replace modes.Replace e = refl
mode_is modes.Auto modes.Push e = cc
mode_is modes.Auto modes.Replace e = cc
mode_is modes.Push modes.Auto e = cc
mode_is modes.Push modes.Replace e = cc
mode_is modes.Replace modes.Auto e = cc
mode_is modes.Replace modes.Push e = cc

why_is : (a b : Why) → same_why a b ≡ true → a ≡ b
why_is (whys.Req a) (whys.Req b) e =
    ap (λ (n : ℕ). whys.Req (record { 0 = n })) (number_is a.0 b.0 e)
why_is (whys.Death a) (whys.Death b) e =
    ap (λ (n : ℕ). whys.Death (record { 0 = n })) (number_is a.0 b.0 e)
why_is whys.Evict whys.Evict e = refl
why_is whys.Start whys.Start e = refl
why_is _ _ e = cc

-- ---- the order

task_is : (a b : Task) → same_task a b ≡ true → a ≡ b
task_is (tasks.Populate nav state address initial) (tasks.Populate nav' state' address' initial') e =
    let three = and_parts _ (same_bool initial initial') e in
    let two = and_parts _ (bytes_eq address address') three.0 in
    let one = and_parts (nav.0 == nav'.0) (state.0 == state'.0) two.0 in
    ap (λ (n : ℕ). tasks.Populate (record { 0 = n }) state address initial) (number_is nav.0 nav'.0 one.0)
    ∙ ap (λ (n : ℕ). tasks.Populate nav' (record { 0 = n }) address initial) (number_is state.0 state'.0 one.1)
    ∙ ap (λ (l : List ℕ). tasks.Populate nav' state' l initial) (text_is address address' two.1)
    ∙ ap (λ (b : Bool). tasks.Populate nav' state' address' b) (bool_is initial initial' three.1)
task_is (tasks.Activate entry epoch length index memo address) (tasks.Activate entry' epoch' length' index' memo' address') e =
    let five = and_parts _ (bytes_eq address address') e in
    let four = and_parts _ (same_memo memo memo') five.0 in
    let three = and_parts _ (index == index') four.0 in
    let two = and_parts _ (length == length') three.0 in
    let one = and_parts (same_entry entry entry') (epoch.0 == epoch'.0) two.0 in
    ap (λ (x : EntryId). tasks.Activate x epoch length index memo address) (entry_is entry entry' one.0)
    ∙ ap (λ (n : ℕ). tasks.Activate entry' (record { 0 = n }) length index memo address) (number_is epoch.0 epoch'.0 one.1)
    ∙ ap (λ (n : ℕ). tasks.Activate entry' epoch' n index memo address) (number_is length length' two.1)
    ∙ ap (λ (n : ℕ). tasks.Activate entry' epoch' length' n memo address) (number_is index index' three.1)
    ∙ ap (λ (o : Option (List ℕ)). tasks.Activate entry' epoch' length' index' o address) (memo_is memo memo' four.1)
    ∙ ap (λ (l : List ℕ). tasks.Activate entry' epoch' length' index' memo' l) (text_is address address' five.1)
task_is (tasks.Update length index) (tasks.Update length' index') e =
    let parts = and_parts (length == length') (index == index') e in
    ap (λ (n : ℕ). tasks.Update n index) (number_is length length' parts.0)
    ∙ ap (λ (n : ℕ). tasks.Update length' n) (number_is index index' parts.1)
task_is tasks.Freeze tasks.Freeze e = refl
task_is tasks.Discard tasks.Discard e = refl
task_is (tasks.Ask slot cause) (tasks.Ask slot' cause') e =
    let parts = and_parts (slot == slot') (same_leaving cause cause') e in
    ap (λ (n : ℕ). tasks.Ask n cause) (number_is slot slot' parts.0)
    ∙ ap (λ (c : LeaveCause). tasks.Ask slot' c) (cause_is cause cause' parts.1)
task_is (tasks.DoFragment req mode address) (tasks.DoFragment req' mode' address') e =
    let two = and_parts _ (bytes_eq address address') e in
    let one = and_parts (req.0 == req'.0) (same_mode mode mode') two.0 in
    ap (λ (n : ℕ). tasks.DoFragment (record { 0 = n }) mode address) (number_is req.0 req'.0 one.0)
    ∙ ap (λ (m : Mode). tasks.DoFragment req' m address) (mode_is mode mode' one.1)
    ∙ ap (λ (l : List ℕ). tasks.DoFragment req' mode' l) (text_is address address' two.1)
task_is _ _ e = cc

job_is : (a b : Job) → same_job a b ≡ true → a ≡ b
job_is a b e =
    let five = and_parts _ (same_task a.task b.task) e in
    let four = and_parts _ (same_why a.why b.why) five.0 in
    let three = and_parts _ (a.doc.0 == b.doc.0) four.0 in
    let two = and_parts _ (a.incarnation == b.incarnation) three.0 in
    let one = and_parts (a.nr.0 == b.nr.0) (a.proc.0 == b.proc.0) two.0 in
    ap (λ (n : ℕ). let x : Job = record a { nr = record { 0 = n } } in x) (number_is a.nr.0 b.nr.0 one.0)
    ∙ ap (λ (n : ℕ). let x : Job = record a { nr = b.nr; proc = record { 0 = n } } in x) (number_is a.proc.0 b.proc.0 one.1)
    ∙ ap (λ (n : ℕ). let x : Job = record a { nr = b.nr; proc = b.proc; incarnation = n } in x) (number_is a.incarnation b.incarnation two.1)
    ∙ ap (λ (n : ℕ). let x : Job = record b { doc = record { 0 = n }; why = a.why; task = a.task } in x) (number_is a.doc.0 b.doc.0 three.1)
    ∙ ap (λ (w : Why). let x : Job = record b { why = w; task = a.task } in x) (why_is a.why b.why four.1)
    ∙ ap (λ (t : Task). let x : Job = record b { task = t } in x) (task_is a.task b.task five.1)

pub order_is : (a b : Order) → same_order a b ≡ true → a ≡ b
order_is a b e =
    let parts = and_parts _ _ e in
    ap (λ (j : Job). let x : Order = record a { job = j } in x) (job_is a.job b.job parts.0)
    ∙ ap (λ (d : Bool). let x : Order = record b { dirty = d } in x) (bool_is a.dirty b.dirty parts.1)

-- ---- and the other way

task_itself : (task : Task) → same_task task task ≡ true
task_itself (tasks.Populate nav state address initial) =
    both (both (both (nat_eq_refl nav.0) (nat_eq_refl state.0)) (bytes_eq_refl address)) (same_bool_refl initial)
task_itself (tasks.Activate entry epoch length index memo address) =
    both (both (both (both (both (same_entry_refl entry) (nat_eq_refl epoch.0)) (nat_eq_refl length)) (nat_eq_refl index)) (same_memo_refl memo)) (bytes_eq_refl address)
task_itself (tasks.Update length index) = both (nat_eq_refl length) (nat_eq_refl index)
task_itself tasks.Freeze = refl
task_itself tasks.Discard = refl
task_itself (tasks.Ask slot cause) = both (nat_eq_refl slot) (same_leaving_refl cause)
task_itself (tasks.DoFragment req mode address) =
    both (both (nat_eq_refl req.0) (same_mode_refl mode)) (bytes_eq_refl address)

pub order_itself : (order : Order) → same_order order order ≡ true
order_itself order =
    let job = order.job in
    both (both (both (both (both (both (nat_eq_refl job.nr.0) (nat_eq_refl job.proc.0)) (nat_eq_refl job.incarnation)) (nat_eq_refl job.doc.0)) (same_why_refl job.why)) (task_itself job.task)) (same_bool_refl order.dirty)

-- ---- the kind of a slot

kind_itself : (kind : HandlerKind) → same_kind kind kind ≡ true
kind_itself kinds.Dirty = refl
kind_itself kinds.Draft = refl
kind_itself kinds.Always = refl

some_kind_itself : (kind : Option HandlerKind) → same_option same_kind kind kind ≡ true
some_kind_itself None = refl
some_kind_itself (Some kind) = kind_itself kind

-- the kind that a table gives is that of its slot
pub asked_itself : (slots : List HandlerKind) (task : Task) → has_kind_of slots task (kind_asked slots task) ≡ true
asked_itself slots (tasks.Ask slot cause) = some_kind_itself (slice_get slots slot)
asked_itself slots (tasks.Populate nav state address initial) = refl
asked_itself slots (tasks.Activate entry epoch length index memo address) = refl
asked_itself slots (tasks.Update length index) = refl
asked_itself slots tasks.Freeze = refl
asked_itself slots tasks.Discard = refl
asked_itself slots (tasks.DoFragment req mode address) = refl
