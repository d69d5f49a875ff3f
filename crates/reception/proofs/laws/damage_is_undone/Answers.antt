use Rattle.reception.proofs.Restored.{restores}
use Rattle.reception.proofs.laws.damage_is_undone.Goals as goal

pub returns : goal.returns
returns c = restores
