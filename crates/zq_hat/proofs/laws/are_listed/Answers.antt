use Rattle.zq_hat.proofs.Listing.{are_listed}
use Rattle.zq_hat.proofs.laws.are_listed.Goals as goal

pub returns : goal.returns
returns c = are_listed
