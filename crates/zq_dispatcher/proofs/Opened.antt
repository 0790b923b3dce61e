-- A face that is opened and closed again leaves what stands for keys as it was.
use Rattle.std.proofs.Common.{◌≡◌, ap, ℕ, List, None}
use Rattle.std.proofs.lemmas.Cmp.{nat_cmp_total}
use Rattle.std.proofs.lemmas.Map.Lookups.{exact_unsigned}
use Rattle.zq_query.proofs.Owing.{undone}
use Rattle.zq_tables.specs.Naming.{FaceKeys, NamingState, closed_naming, naming_at, no_keys, opened_naming}

pub closed_again : (face : ℕ) (s : NamingState) → naming_at face s ≡ None → closed_naming face (opened_naming face s) ≡ s
closed_again face s absent = ap (λ (faces : List (ℕ × FaceKeys)). record s { faces = faces }) (undone nat_cmp_total exact_unsigned s.faces face no_keys absent)
