use Rattle.std.proofs.Common.{◌≡◌, subst}
use Rattle.scenario_text.specs.Words.{shown, split_words, words_of}
use Rattle.scenario_text.specs.declared.fields.Fields.{Fields}
use Rattle.scenario_text.proofs.StandingLaws.{last_of_two}
use Rattle.scenario_text.proofs.requests.fragment_line.Goals as goal

pub text_of-requires-clause-word : goal.text_of-requires-clause-word
text_of-requires-clause-word c =
    last_of_two c.args.line.bytes.now c.in-Two.nav.now c.in-Two.text.now (subst (λ (fields : Fields). shown fields ≡ (split_words (words_of c.args.line.bytes.now)).1) c.in-Two.is c.requires.fields)
