use Rattle.std.proofs.Common.{◌≡◌, subst}
use Rattle.scenario_text.specs.Words.{shown, split_words, words_of}
use Rattle.scenario_text.specs.declared.fields.Fields.{Fields}
use Rattle.scenario_text.proofs.StandingLaws.{last_of_two, last_of_three, memo_of_three}
use Rattle.scenario_text.proofs.requests.entry_fields.Goals as goal

pub memo_of-requires-clause-word : goal.memo_of-requires-clause-word
memo_of-requires-clause-word c =
    last_of_two c.args.line.bytes.now c.in-Two.nav.now c.in-Two.memo.now (subst (λ (fields : Fields). shown fields ≡ (split_words (words_of c.args.line.bytes.now)).1) c.in-Two.is c.requires.fields)

pub memo_of-requires-in-Three-clause-word : goal.memo_of-requires-in-Three-clause-word
memo_of-requires-in-Three-clause-word c =
    memo_of_three c.args.line.bytes.now c.in-Three.nav.now c.in-Three.memo.now c.in-Three.reference.now (subst (λ (fields : Fields). shown fields ≡ (split_words (words_of c.args.line.bytes.now)).1) c.in-Three.is c.requires.fields)

pub text_of-requires-clause-word : goal.text_of-requires-clause-word
text_of-requires-clause-word c =
    last_of_three c.args.line.bytes.now c.in-Three.nav.now c.in-Three.memo.now c.in-Three.reference.now (subst (λ (fields : Fields). shown fields ≡ (split_words (words_of c.args.line.bytes.now)).1) c.in-Three.is c.requires.fields)
