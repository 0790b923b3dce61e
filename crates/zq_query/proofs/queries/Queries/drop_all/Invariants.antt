use Rattle.std.proofs.Common.{◌≡◌, take}
use Rattle.zq_query.specs.Records.{letting_go_all}
use Rattle.zq_query.proofs.queries.Queries.drop_all.Given as goal

abbrev pub invariant-loop-place : goal.invariant-loop-place
invariant-loop-place l = l.self ≡ record l.fn.self { records = letting_go_all l.fn.self.records (take l.place-index l.places) }
