use Rattle.std.proofs.Common.{◌≡◌, ◌++◌, length, take}
use Rattle.asking_facts.specs.Asking.{questions_sent}
use Rattle.tab_asks.specs.Asks.{HasCounted, question_orders}
use Rattle.tab_asks.proofs.asking.ask_all.Given as goal

-- the orders of the questions so far were put out and counted
abbrev pub invariant-loop-question : goal.invariant-loop-question
invariant-loop-question l =
    record {
      rows : l.out ≡ l.fn.out ++ questions_sent (question_orders l.fn.tables.whose.entries l.req (length l.fn.tables.sent.items) (take l.question-index l.questions));
      counted : HasCounted l.question-index l.fn.tables l.tables;
    }
