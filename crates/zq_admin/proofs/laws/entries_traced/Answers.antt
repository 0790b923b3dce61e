use Rattle.zq_admin.proofs.Traced.{all_traced}
use Rattle.zq_admin.proofs.laws.entries_traced.Goals as goal

pub returns : goal.returns
returns c = all_traced
