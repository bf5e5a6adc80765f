use Rattle.coord.proofs.Prompts.{not_prompted}
use Rattle.coord.proofs.coordinator.Coordinator.is_prompt_up.Goals as goal

pub returns : goal.returns
returns c s stands = not_prompted s c.args.self.now stands c.args._req
