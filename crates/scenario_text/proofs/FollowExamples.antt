-- Logs that follow their scenarios, and logs that don't, by computing.
use Rattle.std.proofs.Common.{◌≡◌, ℕ, ◌+◌, true, false, List, [], ◌∷◌, ◌++◌, Some, None, codes, refl}
use Rattle.log_model.specs.declared.action.Action.TheVariants as actions
use Rattle.log_model.specs.declared.change.Change.TheVariants as changes
use Rattle.log_model.specs.declared.job.Task.TheVariants as tasks
use Rattle.log_model.specs.declared.job.Why.TheVariants as whys
use Rattle.log_model.specs.declared.made.What.TheVariants as whats
use Rattle.log_model.specs.declared.outcome.Outcome.TheVariants as outcomes
use Rattle.log_model.specs.declared.request.Request.{Request}
use Rattle.log_model.specs.declared.request.Request.TheVariants as requests
use Rattle.log_model.specs.declared.row_kind.Actor.{Actor}
use Rattle.log_model.specs.declared.row_kind.Actor.TheVariants as actors
use Rattle.log_model.specs.declared.row_kind.LogRow.{LogRow}
use Rattle.log_model.specs.declared.row_kind.RowKind.{RowKind}
use Rattle.log_model.specs.declared.row_kind.RowKind.TheVariants as rows
use Rattle.log_model.specs.Logs.{seen_of}
use Rattle.log_model.specs.Events.{events_of}
use Rattle.scenario_text.specs.declared.line.ScenarioLine.{ScenarioLine}
use Rattle.scenario_text.specs.declared.line.ScenarioLine.TheVariants as lines
use Rattle.scenario_text.specs.Follows.{goes, stops, strays, does, does_all, rounds, plays, course_of}

-- ---- the rows of pushes in one document

abbrev at : ℕ → Actor → RowKind → LogRow
at event actor kind = record { event = event; actor = actor; row = kind }

abbrev p1 : Actor
p1 = actors.Proc (record { 0 = 1 })

abbrev push : ℕ → Request
push nr = requests.Poke (record { 0 = 0 }) (actions.Push (Some (codes "s")) (Some (codes "/" ++ (48 + nr) ∷ [])))

abbrev opened : LogRow
opened =
    at 0 actors.Start (rows.Opened (record { maker = 0; nr = 1 }) (record { 0 = 1 }) (record { 0 = 1 }) (record { 0 = 1 }) None (codes "http://a.test/"))

abbrev accepted : ℕ → ℕ → LogRow
accepted event nr = at event actors.Ui (rows.Accepted (record { 0 = nr }) (Some (record { 0 = 1 })) (push nr))

abbrev address : ℕ → List ℕ
address nr = codes "http://a.test/" ++ (48 + nr) ∷ []

abbrev made : ℕ → ℕ → LogRow
made event nr =
    at event p1 (rows.Made (record { 0 = 1 }) (record { req = record { 0 = nr }; doc = record { 0 = 1 }; epoch = record { 0 = 1 }; what = whats.Push (record { maker = 1; nr = nr }) (Some (codes "s")) (address nr) }))

abbrev delivered : ℕ → LogRow
delivered event = at event actors.Coord (rows.Delivered (record { 0 = 1 }))

-- the coordinator takes a report of a push, applies it, and sends an update
abbrev pushed : ℕ → ℕ → List LogRow
pushed event nr =
    delivered event
    ∷ at event actors.Coord (rows.Applied (record { 0 = nr }) (changes.Push (record { 0 = 0 }) (record { maker = 1; nr = nr }) (record { 0 = 1 }) (address nr) (Some (codes "s"))))
    ∷ at event actors.Coord (rows.Sent (record { nr = record { 0 = nr }; proc = record { 0 = 1 }; incarnation = 0; doc = record { 0 = 1 }; why = whys.Req (record { 0 = nr }); task = tasks.Update (nr + 1) nr }))
    ∷ []

abbrev taken : ℕ → ℕ → LogRow
taken event nr = at event p1 (rows.Taken (record { 0 = 1 }) (record { 0 = nr }) true false)

abbrev finished : ℕ → ℕ → LogRow
finished event nr = at event p1 (rows.Finished (record { 0 = 1 }) (record { 0 = nr }) outcomes.Updated)

-- ---- one push, which settles

abbrev one_push : List ScenarioLine
one_push = lines.Ask (push 1) ∷ lines.Settle ∷ []

abbrev one_pushed : List LogRow
one_pushed =
    opened ∷ accepted 1 1 ∷ made 2 1 ∷ pushed 3 1 ++ taken 4 1 ∷ finished 5 1 ∷ delivered 6 ∷ []

one_push_follows : course_of one_push (events_of one_pushed) ≡ goes (seen_of one_pushed) []
unfolding course_of plays rounds does_all does events_of seen_of
one_push_follows = refl

-- the same by lines for each step
abbrev step_lines : List ScenarioLine
step_lines =
    lines.Ask (push 1)
    ∷ lines.Begin (record { 0 = 1 })
    ∷ lines.Act (record { 0 = 1 })
    ∷ lines.Deliver (record { 0 = 1 })
    ∷ lines.Deliver (record { 0 = 1 })
    ∷ lines.Begin (record { 0 = 1 })
    ∷ lines.Begin (record { 0 = 1 })
    ∷ lines.Finish (record { 0 = 1 })
    ∷ lines.Deliver (record { 0 = 1 })
    ∷ lines.Finish (record { 0 = 1 })
    ∷ []

steps_follow : course_of step_lines (events_of one_pushed) ≡ goes (seen_of one_pushed) []
unfolding course_of plays rounds does_all does events_of seen_of
steps_follow = refl

-- the last delivery is missing: it is due where the log ends
last_is_missing : course_of one_push (events_of (opened ∷ accepted 1 1 ∷ made 2 1 ∷ pushed 3 1 ++ taken 4 1 ∷ finished 5 1 ∷ [])) ≡ stops
unfolding course_of plays rounds does_all does events_of seen_of
last_is_missing = refl

-- the document's act is missing: the next event isn't the one that is due
act_is_missing : course_of one_push (events_of (opened ∷ accepted 1 1 ∷ pushed 2 1 ++ taken 3 1 ∷ finished 4 1 ∷ delivered 5 ∷ [])) ≡ strays
unfolding course_of plays rounds does_all does events_of seen_of
act_is_missing = refl

-- another push was accepted
another_push : course_of one_push (events_of (opened ∷ accepted 1 2 ∷ [])) ≡ strays
unfolding course_of plays rounds does_all does events_of seen_of
another_push = refl

-- an event too many, at the end and before it
one_too_many : course_of one_push (events_of (one_pushed ++ delivered 7 ∷ [])) ≡ goes (seen_of one_pushed) ((delivered 7 ∷ []) ∷ [])
unfolding course_of plays rounds does_all does events_of seen_of
one_too_many = refl

accepted_twice : course_of one_push (events_of (opened ∷ accepted 1 1 ∷ accepted 2 2 ∷ made 3 1 ∷ [])) ≡ strays
unfolding course_of plays rounds does_all does events_of seen_of
accepted_twice = refl

-- ---- a push that stays in the input

waiting : course_of (lines.Ask (push 1) ∷ []) (events_of (opened ∷ accepted 1 1 ∷ [])) ≡ goes (seen_of (opened ∷ accepted 1 1 ∷ [])) []
unfolding course_of plays rounds does_all does events_of seen_of
waiting = refl

-- ---- three pushes, which settle in six rounds

abbrev three_pushes : List ScenarioLine
three_pushes = lines.Ask (push 1) ∷ lines.Ask (push 2) ∷ lines.Ask (push 3) ∷ lines.Settle ∷ []

abbrev three_pushed : List LogRow
three_pushed =
    opened ∷ accepted 1 1 ∷ accepted 2 2 ∷ accepted 3 3
    ∷ made 4 1 ∷ pushed 5 1
    ++ made 6 2 ∷ taken 7 1 ∷ finished 8 1 ∷ pushed 9 2
    ++ made 10 3 ∷ taken 11 2 ∷ finished 12 2 ∷ delivered 13
    ∷ pushed 14 3
    ++ taken 15 3 ∷ finished 16 3 ∷ delivered 17
    ∷ delivered 18 ∷ []

three_pushes_follow : course_of three_pushes (events_of three_pushed) ≡ goes (seen_of three_pushed) []
unfolding course_of plays rounds does_all does events_of seen_of
three_pushes_follow = refl

-- a settle that ended a round early
settled_early : course_of (three_pushes ++ lines.Ask (push 4) ∷ []) (events_of (opened ∷ accepted 1 1 ∷ accepted 2 2 ∷ accepted 3 3 ∷ made 4 1 ∷ pushed 5 1 ++ accepted 6 4 ∷ [])) ≡ strays
unfolding course_of plays rounds does_all does events_of seen_of
settled_early = refl
