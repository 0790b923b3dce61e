use Rattle.zq_hold.proofs.Follows.{step_stands, cut_stands, join_stands}
use Rattle.zq_hold.proofs.laws.stands_on.Goals as goal

pub returns-clause-step : goal.returns-clause-step
returns-clause-step c = λ n s s' i k v w t. step_stands n s s' i v w t k

pub returns-clause-cut : goal.returns-clause-cut
returns-clause-cut c = λ n s s' i k v left right t. cut_stands n s s' i v left right t k

pub returns-clause-join : goal.returns-clause-join
returns-clause-join c = λ n s s' i j k v w both spent t. join_stands n s s' i j v w both spent t k
